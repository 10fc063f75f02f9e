-- What a call leaves in an audit.
use Rattle.std.proofs.Common.{◌≡◌, ◌≢◌, ◌∙◌, ◌++◌, ◌∷◌, [], List, Bool, true, false, refl, sym, ap, append_assoc}
use Rattle.std.specs.Prelude.{if◌then◌else◌}
use Rattle.std.proofs.lemmas.Bool.{true≢false}
use Rattle.rq_engine.specs.Says.{gave}
use Rattle.rq_engine.specs.declared.event.Reply.{Reply}
use Rattle.rq_engine.specs.declared.event.Reply.TheVariants.{Refused, Stepped, Finished}
use Rattle.rq_engine.specs.declared.event.Progress.TheVariants.{Done, Ready}
use Rattle.rq_level.specs.declared.writes.Outcome.TheVariants.{Sent, Message, Closed, Undone}
use Rattle.rq_model.specs.declared.refusal.Refusal.TheVariants.{NoMemory}
use Rattle.rq_shared.specs.Entries.{Noted, OneMore}
use Rattle.rq_shared.specs.Tied.{stamp_of, lacked_memory}
use Rattle.rq_shared.specs.declared.kept.Stamped.{Stamped}
use Rattle.rq_workers.specs.Keeping.{entries_left}

lacking : (r : Reply) → lacked_memory (gave r) ≡ true → r ≡ Refused NoMemory
lacking (Refused NoMemory) h = refl
lacking (Refused r) h = absurd (true≢false (sym h))
lacking (Stepped (Done lsn)) h = absurd (true≢false (sym h))
lacking (Stepped Ready) h = absurd (true≢false (sym h))
lacking (Finished Sent) h = absurd (true≢false (sym h))
lacking (Finished (Message m)) h = absurd (true≢false (sym h))
lacking (Finished Closed) h = absurd (true≢false (sym h))
lacking (Finished Undone) h = absurd (true≢false (sym h))
lacking r h = absurd (true≢false (sym h))

not_lacking : (r : Reply) → lacked_memory (gave r) ≡ false → r ≢ Refused NoMemory
not_lacking r h e = true≢false (sym (ap (λ x. lacked_memory (gave x)) e) ∙ h)

more : (b : Bool) (x : Noted) (left old new base : List Noted) → (b ≡ false → new ≡ old ++ x ∷ []) → (b ≡ true → new ≡ old) → old ≡ base ++ left → new ≡ base ++ (if b then left else left ++ x ∷ [])
more true x left old new base one none h = none refl ∙ h
more false x left old new base one none h = one refl ∙ ap (λ z. z ++ x ∷ []) h ∙ append_assoc base left (x ∷ [])

-- a call leaves its entry behind those of earlier ones, and none where memory was wanting
pub leaves : (s : Stamped) (made : List Stamped) (old new base : List Noted) → (s.reply ≢ Refused NoMemory → OneMore old new (stamp_of s)) → (s.reply ≡ Refused NoMemory → new ≡ old) → old ≡ base ++ entries_left made → new ≡ base ++ entries_left (s ∷ made)
leaves s made old new base one none h =
    more (lacked_memory (gave s.reply)) (stamp_of s) (entries_left made) old new base (λ e. one (not_lacking s.reply e)) (λ e. none (lacking s.reply e)) h
