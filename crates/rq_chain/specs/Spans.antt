-- Which slots of a chain an operation asks for: a sender's directory slot, and cells at an end of its chain.
use Rattle.std.specs.Prelude.{ℕ, cond, List, [], ◌∷◌, Option, None, Some}
use Rattle.rq_model.specs.declared.record.Deed.{Deed}
use Rattle.rq_model.specs.declared.record.Deed.TheVariants as deeds
use Rattle.rq_model.specs.Deeds.{deed_by}
use Rattle.rq_page.specs.declared.directory.Directory.{Directory}
use Rattle.rq_page.specs.Directories.{directory_in}
use Rattle.rq_page.specs.Sizes.{directory_at}
use Rattle.rq_level.specs.ChainPlans.{along_from, to_next, to_prev}
use Rattle.rq_level.specs.declared.slots.Given.{Given}
use Rattle.rq_level.specs.Given.{given_at}
use Rattle.rq_level.specs.Ops.{Doing, Job, doing_by}
use Rattle.rq_level.specs.Ops.Doing.{Send, Receive, Close}
use Rattle.rq_chain.specs.declared.spans.Reach.{Reach}
use Rattle.rq_chain.specs.declared.spans.Reach.TheVariants.{Nothing, Tail, TailAndPrevious, Head, HeadAndNext}
use Rattle.rq_chain.specs.declared.spans.Span.{Span}

abbrev pub span_of_doing : Option Doing → Option Span
span_of_doing None = None
span_of_doing (Some (Send s tag body)) = Some (record { sender = s; reach = Tail })
span_of_doing (Some (Receive s)) = Some (record { sender = s; reach = HeadAndNext })
span_of_doing (Some (Close s)) = Some (record { sender = s; reach = Nothing })

-- that of what takes back a deed
abbrev pub span_of_deed : Option Deed → Option Span
span_of_deed None = None
span_of_deed (Some (deeds.Append s n tag previous body)) = Some (record { sender = s; reach = TailAndPrevious })
span_of_deed (Some (deeds.UnlinkHead s n tag body)) = Some (record { sender = s; reach = Head })
span_of_deed (Some (deeds.Close s)) = Some (record { sender = s; reach = Nothing })
span_of_deed (Some (deeds.Mark c tag previous)) = None

abbrev pub span_of_job : Job → Option Span
span_of_job job = cond job.undo (span_of_deed (deed_by job.level job.bytes)) (span_of_doing (doing_by job.level job.bytes))

-- the next of the cells that was not given
abbrev pub cells_wanted : Reach → Directory → List Given → Option ℕ
cells_wanted Nothing d given = None
cells_wanted Tail d given = along_from [] d.tail given
cells_wanted TailAndPrevious d given = along_from (to_prev ∷ []) d.tail given
cells_wanted Head d given = along_from [] d.head given
cells_wanted HeadAndNext d given = along_from (to_next ∷ []) d.head given

-- the directory slot, and then the cells
abbrev pub slots_wanted : Span → Option (List ℕ) → List Given → Option ℕ
slots_wanted span None given = Some (directory_at span.sender)
slots_wanted span (Some bytes) given = cells_wanted span.reach (directory_in bytes).directory given

abbrev pub span_wanted : Option Span → List Given → Option ℕ
span_wanted None given = None
span_wanted (Some span) given = slots_wanted span (given_at (directory_at span.sender) given) given
