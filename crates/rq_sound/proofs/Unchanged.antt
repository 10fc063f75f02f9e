-- The calls that change no list are steps.
use Rattle.std.proofs.Common.{◌≡◌, ℕ, length, map, refl, sym, ◌∙◌, ap, Bool, true, false, not, arith}
use Rattle.std.proofs.lemmas.Bool.{lt-ltb}
use Rattle.std.proofs.lemmas.List.{length-map}
use Rattle.rq_model.specs.declared.message.Message.{Message}
use Rattle.rq_model.specs.declared.txn.Txn.{Txn}
use Rattle.rq_model.specs.Commits.{committed_of}
use Rattle.rq_model.specs.History.{Entry, Call}
use Rattle.rq_model.specs.Ledger.{after, marks_in, runs, sent_in, tag_of}
use Rattle.rq_model.specs.Legal.{Legal}
use Rattle.rq_model.specs.Replay.{Reply, Says, receipt}
use Rattle.rq_model.specs.Vocabulary.{client_group, last_or}
use Rattle.rq_page.specs.Sizes.{client_count, sender_count}
use Rattle.rq_views.proofs.ClientMarks.{committed_below, last_of_tags, marks_are_sent}
use Rattle.rq_store.specs.State.{phase_of, size_of, State, ledger_of}
use Rattle.rq_store.proofs.Opens.{busy_is}
use Rattle.rq_sound.specs.Sound.{IsSound}
use Rattle.rq_sound.specs.ModelSteps.{IsModelStep}
use Rattle.rq_sound.specs.Unchanged.{UnchangedAreSteps}

-- a call whose entry leaves the ledger
stays : (s : State) (c : Call) (gave : Reply) (e : Entry) → IsSound s → Says c gave e → Legal (size_of s.sizes) (ledger_of s) e → ledger_of s ≡ after e (ledger_of s) → IsModelStep s c gave s
stays s c gave e k says legal same = record { entry = e; says = says; legal = legal; after = same; sound = k; goes_on = (0, refl); stays_forced = omega arith }

runs_now : (s : State) → s.failed ≡ false → not (runs (phase_of s.failed)) ≡ false
runs_now s running = ap (λ b. not (runs (phase_of b))) running

receipt_says : (t : Txn) (lsn : ℕ) (b : Bool) → Says (Call.Acknowledge t lsn) (Reply.Gave_receipt (receipt b t lsn)) (Entry.Acknowledged t lsn b)
receipt_says t lsn false = refl
receipt_says t lsn true = (refl, refl)

-- what was sent for a client's group is what the client was marked with
module _ (s : State) (k : IsSound s) (c : ℕ) where
  marks : map (λ (m : Message). m.tag) (sent_in (committed_of s.records) (client_group c)) ≡ marks_in (committed_of s.records) c
  marks =
      let few = k.range.directory_high in
      marks_are_sent (sender_count s.sizes) c (committed_of s.records) (omega (arith, few)) (committed_below s.sizes s.records k.log.reads k.log.in_store)

  marks_count : length (sent_in (committed_of s.records) (client_group c)) ≡ length (marks_in (committed_of s.records) c)
  marks_count = sym (length-map (sent_in (committed_of s.records) (client_group c)) (λ (m : Message). m.tag)) ∙ ap length marks

  marks_last : tag_of (sent_in (committed_of s.records) (client_group c)) ≡ last_or 0 (marks_in (committed_of s.records) c)
  marks_last = last_of_tags (sent_in (committed_of s.records) (client_group c)) ∙ ap (last_or 0) marks

pub unchanged : UnchangedAreSteps
unchanged = record {
  hands_over = λ s k running. stays s Call.Hand_over Reply.Gave_handed_over Entry.Handed_over k refl (runs_now s running, tt) refl;
  writes = λ s page done k running. stays s (Call.Write_page page) (Reply.Gave_written done) (Entry.Wrote page done) k refl (runs_now s running, tt) refl;
  acknowledges = λ s t lsn given k running e. stays s (Call.Acknowledge t lsn) (Reply.Gave_receipt (receipt given t lsn)) (Entry.Acknowledged t lsn given) k (receipt_says t lsn given) ((runs_now s running, tt), e) refl;
  tells = λ s g k running below.
      stays s (Call.Last_tag g) (Reply.Gave_tag _ _) (Entry.Told g (length (sent_in (committed_of s.records) g)) (tag_of (sent_in (committed_of s.records) g))) k refl
      ((runs_now s running, (ap not (lt-ltb g (sender_count s.sizes) below), tt)), refl, refl) refl;
  tells_client = λ s c k running below.
      let group = client_group c in
      stays s (Call.Client_tag c) (Reply.Gave_client_tag _ _) (Entry.Told_client c (length (sent_in (committed_of s.records) group)) (tag_of (sent_in (committed_of s.records) group))) k refl
      ((runs_now s running, (ap not (lt-ltb c (client_count s.sizes) below), tt)), marks_count s k c, marks_last s k c) refl;
  shows = λ s groups k running idle e.
      stays s Call.Show (Reply.Gave_content groups) (Entry.Shown groups) k refl ((runs_now s running, (busy_is s.ends s.rows ∙ idle, tt)), e) refl;
}
