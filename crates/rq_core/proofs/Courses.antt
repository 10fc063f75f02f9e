-- Courses, happening by happening.
use Rattle.std.proofs.Common.{◌≡◌, ℕ, suc, ◌<◌, List, [], ◌∷◌, ◌++◌, length, take, map, refl, sym, ◌∙◌, ap, arith, append_assoc, get_or, ◌≤◌, Some, option_map}
use Rattle.std.proofs.lemmas.List.{append-nil, length-take-le, length-map, reverse-append}
use Rattle.std.proofs.lemmas.Option.{slice_get-map, slice_get-get_or}
use Rattle.rq_model.specs.History.{Call}
use Rattle.rq_model.specs.History.Call.{Acknowledge}
use Rattle.rq_engine.specs.declared.event.CommitNo.{CommitNo}
use Rattle.rq_level.specs.declared.writes.Outcome.TheVariants as outcome
use Rattle.rq_engine.specs.declared.event.Progress.TheVariants as progress
use Rattle.rq_engine.specs.declared.event.Reply.{Reply}
use Rattle.rq_engine.specs.declared.event.Reply.TheVariants as reply
use Rattle.rq_engine.specs.Says.{gave}
use Rattle.rq_core.specs.declared.happening.Entry.{Entry}
use Rattle.rq_core.specs.declared.happening.Happening.{Happening as Happens}
use Rattle.rq_core.specs.declared.happening.Entry.TheVariants as entry
use Rattle.rq_core.specs.Happenings.Answer.{Answered}
use Rattle.rq_core.specs.Views.{answer_in, commit_in, commit_told, course, happens}
use Rattle.rq_core.specs.Happenings.{Happening, Answer, Course, acknowledging, answers_of, course_of, nth, paired}

paired_answers : (course : Course) (xs : List Happening) (bs : List Answer) → length xs ≡ length bs → answers_of (paired course xs bs) ≡ answers_of course ++ bs
paired_answers course [] [] e = sym (append-nil (answers_of course))
paired_answers course (x ∷ xs) (b ∷ bs) e =
    paired_answers ((x, b) ∷ course) xs bs (omega (arith, e))
    ∙ ap (λ l. l ++ bs) (reverse-append (b ∷ []) (map (λ (a : Happening × Answer). a.1) course)) ∙ append_assoc (answers_of course) (b ∷ []) bs
paired_answers course [] (b ∷ bs) e = absurd (omega (arith, e))
paired_answers course (x ∷ xs) [] e = absurd (omega (arith, e))

-- the answers of a course are those that it was made of
pub answers_are : (xs : List Happening) (bs : List Answer) → length xs ≡ length bs → answers_of (course_of xs bs) ≡ bs
answers_are xs bs e = paired_answers [] xs bs e

abbrev ack : CommitNo → Call
ack number = Acknowledge number.txn number.lsn

in_reply : (r : Reply) → acknowledging (Some (Answered (gave r))) ≡ option_map ack (commit_in r)
in_reply (reply.Stepped progress.Ready) = refl
in_reply (reply.Stepped (progress.Done lsn)) = refl
in_reply (reply.Finished outcome.Sent) = refl
in_reply (reply.Finished (outcome.Message m)) = refl
in_reply (reply.Finished outcome.Closed) = refl
in_reply (reply.Finished outcome.Undone) = refl
in_reply _ = refl

in_entry : (e : Entry) → acknowledging (Some (answer_in e)) ≡ option_map ack (commit_told e)
in_entry (entry.Answered r) = in_reply r
in_entry _ = refl

-- the commit that the nth entry tells
pub nth_told : (es : List Entry) (n i : ℕ) (d : Entry) → n ≡ suc i → i < length es → acknowledging (nth n (map answer_in es)) ≡ option_map ack (commit_told (get_or es i d))
nth_told es n i d is within =
    ap (λ k. acknowledging (nth k (map answer_in es))) is ∙ ap acknowledging (slice_get-map answer_in es i ∙ ap (option_map answer_in) (slice_get-get_or es i d within)) ∙ in_entry (get_or es i d)

pub told_so_far : (xs : List Happens) (es : List Entry) (i : ℕ) → i ≤ length xs → length es ≡ i → answers_of (course (take i xs) es) ≡ map answer_in es
told_so_far xs es i within count =
    answers_are (map happens (take i xs)) (map answer_in es) (length-map (take i xs) happens ∙ length-take-le i xs within ∙ sym count ∙ sym (length-map es answer_in))
