-- What an operation wants to see next is what its span tells.
use Rattle.std.proofs.Common.{◌≡◌, ℕ, cond, Bool, true, false, List, [], ◌∷◌, Option, None, Some, refl}
use Rattle.rq_model.specs.declared.record.Deed.{Deed}
use Rattle.rq_model.specs.declared.record.Deed.TheVariants as deeds
use Rattle.rq_model.specs.Deeds.{deed_by}
use Rattle.rq_page.specs.Sizes.{directory_at}
use Rattle.rq_level.specs.ChainPlans.{along_from, asking, job_wanted, to_head, to_next, to_prev, to_tail, undo_wanted, unless_given, wanted}
use Rattle.rq_level.specs.declared.slots.Given.{Given}
use Rattle.rq_level.specs.Given.{given_at}
use Rattle.rq_level.specs.Ops.{Doing, Job, doing_by}
use Rattle.rq_level.specs.Ops.Doing.{Send, Receive, Close}
use Rattle.rq_chain.specs.declared.spans.Reach.TheVariants.{Nothing, Tail, TailAndPrevious, Head, HeadAndNext}
use Rattle.rq_chain.specs.declared.spans.Span.{Span}
use Rattle.rq_chain.specs.Spans.{slots_wanted, span_of_deed, span_of_doing, span_of_job, span_wanted}

-- whether the directory slot was given, or not
by_slot : (span : Span) (given : List Given) (wants : Option (List ℕ) → Option ℕ) → slots_wanted span None given ≡ wants None
    → ((bytes : List ℕ) → slots_wanted span (Some bytes) given ≡ wants (Some bytes)) → (o : Option (List ℕ)) → slots_wanted span o given ≡ wants o
by_slot span given wants none some None = none
by_slot span given wants none some (Some bytes) = some bytes

by_doing : (d : Option Doing) (given : List Given) → span_wanted (span_of_doing d) given ≡ wanted d given
by_doing None given = refl
by_doing (Some (Send s tag body)) given = by_slot (record { sender = s; reach = Tail }) given (λ o. asking (directory_at s) (λ bytes. along_from [] (to_tail bytes)) o given) refl (λ _. refl) (given_at (directory_at s) given)
by_doing (Some (Receive s)) given = by_slot (record { sender = s; reach = HeadAndNext }) given (λ o. asking (directory_at s) (λ bytes. along_from (to_next ∷ []) (to_head bytes)) o given) refl (λ _. refl) (given_at (directory_at s) given)
by_doing (Some (Close s)) given = by_slot (record { sender = s; reach = Nothing }) given (λ o. unless_given (directory_at s) o) refl (λ _. refl) (given_at (directory_at s) given)

by_deed : (d : Option Deed) (given : List Given) → span_wanted (span_of_deed d) given ≡ undo_wanted d given
by_deed None given = refl
by_deed (Some (deeds.Append s n tag previous body)) given = by_slot (record { sender = s; reach = TailAndPrevious }) given (λ o. asking (directory_at s) (λ bytes. along_from (to_prev ∷ []) (to_tail bytes)) o given) refl (λ _. refl) (given_at (directory_at s) given)
by_deed (Some (deeds.UnlinkHead s n tag body)) given = by_slot (record { sender = s; reach = Head }) given (λ o. asking (directory_at s) (λ bytes. along_from [] (to_head bytes)) o given) refl (λ _. refl) (given_at (directory_at s) given)
by_deed (Some (deeds.Close s)) given = by_slot (record { sender = s; reach = Nothing }) given (λ o. unless_given (directory_at s) o) refl (λ _. refl) (given_at (directory_at s) given)
by_deed (Some (deeds.Mark c tag previous)) given = refl

either : (undo : Bool) (e : Option Deed) (d : Option Doing) (given : List Given)
    → span_wanted (cond undo (span_of_deed e) (span_of_doing d)) given ≡ cond undo (undo_wanted e given) (wanted d given)
either true e d given = by_deed e given
either false e d given = by_doing d given

pub span_tells : (job : Job) (given : List Given) → span_wanted (span_of_job job) given ≡ job_wanted job given
span_tells job given = either job.undo (deed_by job.level job.bytes) (doing_by job.level job.bytes) given
