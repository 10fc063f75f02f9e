-- An audit that is one entry longer still replays.
use Rattle.std.proofs.Common.{◌≡◌, List, [], ◌∷◌, ◌++◌, length, map, reverse, sym, ◌∙◌, ap, subst}
use Rattle.std.proofs.lemmas.List.{map-append, reverse-append}
use Rattle.rq_model.specs.declared.record.Record.{Record}
use Rattle.rq_model.specs.Legal.{Legal}
use Rattle.rq_model.specs.Replay.{Replays}
use Rattle.rq_store.specs.State.{State, ledger_of, size_of}
use Rattle.rq_sound.specs.ModelSteps.{IsModelStep}
use Rattle.rq_engine.specs.declared.event.Event.{Event}
use Rattle.rq_engine.specs.declared.event.Reply.{Reply}
use Rattle.rq_disk.specs.declared.device.LogDevice as log_device
use Rattle.rq_disk.specs.declared.device.PageDevice as page_device
use Rattle.rq_engine.specs.Applied.{Applied}
use Rattle.rq_engine.specs.Earlier.{IsEarlier, on, unknown}
use Rattle.rq_engine.specs.Opened.{OpenStore}
use Rattle.rq_engine.specs.Says.{call_of, gave}
use Rattle.rq_shared.specs.declared.kept.AuditEntry.{AuditEntry}
use Rattle.rq_shared.specs.Entries.{Noted, Follows, LeadsOver, answers, answer_of, entries, entry_of}

answers_more : (audit : List Noted) (n : Noted) → answers (audit ++ n ∷ []) ≡ answer_of n ∷ answers audit
answers_more audit n = ap reverse (map-append answer_of audit (n ∷ [])) ∙ reverse-append (map answer_of audit) (answer_of n ∷ [])

module _ {P L : Type 0} (p : page_device.Ghosts P) (l : log_device.Ghosts L) where
  -- of both stores as many records are unknown
  pub earlier_there : (base s : OpenStore P L) (audit : List Noted) (e : List Record) → Follows p l base audit s → IsEarlier e base.state → IsEarlier e s.state
  earlier_there base s audit e f at = at ∙ ap (λ (x : List Record). length x) (sym f.unknown)

  -- one more call was answered
  goes_on : (base s t : OpenStore P L) (audit : List Noted) (n : Noted) (event : Event) (reply : Reply) → call_of event ≡ n.call → gave reply ≡ n.gave → Follows p l base audit s → Applied p l s event reply t → Follows p l base (audit ++ n ∷ []) t
  goes_on base s t audit n event reply asked given f a = record {
    sizes = a.sizes ∙ f.sizes;
    unknown = a.unknown ∙ f.unknown;
    replays = λ h e at sound.
        let r = f.replays (a.honest h) e at sound in
        let said = a.steps h e (earlier_there base s audit e f at) r.0 in
        let taken = subst (λ c. IsModelStep (on e s.state) c n.gave (on e t.state)) asked (subst (λ g. IsModelStep (on e s.state) (call_of event) g (on e t.state)) given said) in (
          taken.sound,
          subst (λ c. Replays (size_of base.state.sizes) (ledger_of (on e base.state)) c (ledger_of (on e t.state))) (sym (answers_more audit n))
              (ledger_of (on e s.state), taken.entry, r.1, taken.says, subst (λ z. Legal (size_of z) (ledger_of (on e s.state)) taken.entry) f.sizes taken.legal, taken.after),
        );
  }

  -- the device of the log was read
  pub only_read : (base s t : OpenStore P L) (audit : List Noted) → Follows p l base audit s → t ≡ record s { log = t.log } → (l.honest t.log → l.honest s.log) → Follows p l base audit t
  only_read base s t audit f same falls =
      let state = ap (λ (x : OpenStore P L). x.state) same in
      let pages = ap (λ (x : OpenStore P L). x.pages) same in
      record {
        sizes = ap (λ (z : State). z.sizes) state ∙ f.sizes;
        unknown = ap (λ (z : State). unknown z.records) state ∙ f.unknown;
        replays = λ h e at sound. subst (LeadsOver e base.state audit) (sym state) (f.replays (subst p.honest pages h.0, falls h.1) e at sound);
      }

  pub one_noted : (base s t : OpenStore P L) (old new : List AuditEntry) (e : AuditEntry) (event : Event) (reply : Reply) → new ≡ old ++ e ∷ [] → call_of e.event ≡ call_of event → gave e.reply ≡ gave reply → Follows p l base (entries old) s → Applied p l s event reply t → Follows p l base (entries new) t
  one_noted base s t old new e event reply more asked given f a =
      subst (λ x. Follows p l base x t) (sym (ap entries more ∙ map-append entry_of old (e ∷ [])))
      (goes_on base s t (entries old) (entry_of e) event reply (sym asked) (sym given) f a)
