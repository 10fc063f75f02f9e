-- How a sharing's calls lead on from what it began with.
use Rattle.std.proofs.Common.{◌≡◌, ◌+◌, List, [], ◌∷◌, ◌++◌, length, map, refl, reverse, sym, ◌∙◌, ap, subst}
use Rattle.std.proofs.lemmas.List.{length-append, map-append, reverse-append}
use Rattle.rq_model.specs.declared.record.Record.{Record}
use Rattle.rq_model.specs.History.{Call}
use Rattle.rq_model.specs.Ledger.{Ledger}
use Rattle.rq_model.specs.Replay.{Reply as Gave, Replays}
use Rattle.rq_model.specs.Tests.{Size}
use Rattle.rq_store.specs.State.{State, ledger_of, size_of}
use Rattle.rq_disk.specs.declared.device.LogDevice as log_device
use Rattle.rq_disk.specs.declared.device.PageDevice as page_device
use Rattle.rq_engine.specs.Earlier.{IsSoundOver, on}
use Rattle.rq_engine.specs.Opened.{OpenStore, AreHonest}
use Rattle.rq_shared.specs.Begun.{BeginsFrom, IsLedFrom}
use Rattle.rq_shared.specs.Entries.{Audited, Follows, Noted, WasSound, answer_of, answers}

joined : (z : Size) (a b c : Ledger) (newer older : List (Call × Gave)) → Replays z a older b → Replays z b newer c
    → Replays z a (newer ++ older) c
joined z a b c [] older r s = subst (Replays z a older) (sym s) r
joined z a b c (x ∷ newer) older r s = (s.0, s.1, joined z a b s.0 newer older r s.2, s.3, s.4, s.5)

answers_of_both : (xs ys : List Noted) → answers (xs ++ ys) ≡ answers ys ++ answers xs
answers_of_both xs ys = ap reverse (map-append answer_of xs ys) ∙ reverse-append (map answer_of xs) (map answer_of ys)

module _ {P L : Type 0} (p : page_device.Ghosts P) (l : log_device.Ghosts L) (premise : Type 0) (first : State) where
  -- no entry was taken yet
  pub begins_now : (k : Audited P L) → WasSound p l premise k.engine → k.engine.state ≡ first → k.base ≡ k.engine → k.taken ≡ 0 → BeginsFrom p l premise first k
  begins_now k sound is base none = λ honest.
      let same : k.base.state ≡ first = ap (λ (s : OpenStore P L). s.state) base ∙ is in (
        subst (IsLedFrom first k.taken) (sym same) (record {
          before = [];
          count = sym none;
          sizes = refl;
          unknown = refl;
          leads = λ e at k. (k, refl);
        }),
        λ holds. subst IsSoundOver is (sound holds honest),
      )

  -- the audit is taken
  pub begins_anew : (k new : Audited P L) → BeginsFrom p l premise first k
      → Follows p l k.base k.audit k.engine → new.engine ≡ k.engine → new.base ≡ k.engine
      → new.taken ≡ k.taken + length k.audit → BeginsFrom p l premise first new
  begins_anew k new was follows engine base taken = λ honest.
      let was_honest = subst (AreHonest p l) engine honest in
      let led = (was was_honest).0 in (
        subst (λ (s : OpenStore P L). IsLedFrom first new.taken s.state) (sym base) (record {
          before = led.before ++ k.audit;
          count = length-append led.before k.audit ∙ (ap (λ n. n + length k.audit) led.count ∙ sym taken);
          sizes = follows.sizes ∙ led.sizes;
          unknown = follows.unknown ∙ led.unknown;
          leads = λ e at sound.
              let there = led.leads e at sound in
              let on_from = follows.replays was_honest e (at ∙ ap (λ (x : List Record). length x) (sym led.unknown)) there.0 in (
                on_from.0,
                subst (λ c. Replays (size_of first.sizes) (ledger_of (on e first)) c (ledger_of (on e k.engine.state)))
                    (sym (answers_of_both led.before k.audit))
                    (joined (size_of first.sizes) (ledger_of (on e first)) (ledger_of (on e k.base.state)) (ledger_of (on e k.engine.state))
                    (answers k.audit) (answers led.before) there.1
                    (subst (λ z. Replays (size_of z) (ledger_of (on e k.base.state)) (answers k.audit) (ledger_of (on e k.engine.state))) led.sizes on_from.1)),
              );
        }),
        (was was_honest).1,
      )
