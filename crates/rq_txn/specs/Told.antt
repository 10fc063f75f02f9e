-- Bytes that tell a deed, and what it sent, took and marked.
use Rattle.std.specs.Prelude.{◌≡◌, ℕ, ◌+◌, List, Option, None, Some}
use Rattle.rq_model.specs.declared.record.Deed.{Deed}
use Rattle.rq_model.specs.declared.record.Deed.TheVariants.{Append, UnlinkHead, Mark}
use Rattle.rq_model.specs.Deeds.{deed_by, spelled_deed}
use Rattle.rq_level.specs.declared.writes.Gist.{Gist}
use Rattle.rq_level.specs.Gists.{gist_of}
use Rattle.rq_views.specs.Items.{told_deed}

-- these bytes are the spelling of the deed that this level tells by them
pub record IsTold (level : ℕ) (bytes : List ℕ) : Type 0 where
  pub reads : deed_by level bytes ≡ Some (told_deed (deed_by level bytes))
  pub spelled : spelled_deed (told_deed (deed_by level bytes)) ≡ bytes

-- they tell a deed, and this is counted of it
pub record TellsGist (level : ℕ) (bytes : List ℕ) (gist : Gist) : Type 0 where
  pub told : IsTold level bytes
  pub counted : gist ≡ gist_of (told_deed (deed_by level bytes))

-- whose message it sent
abbrev pub sent_by : Deed → Option ℕ
sent_by (Append s n tag previous body) = Some s
sent_by _ = None

-- whose message it took
abbrev pub taken_from : Deed → Option ℕ
taken_from (UnlinkHead s n tag body) = Some s
taken_from _ = None

-- the tag that it sent or marked, behind whose it is: its sender's, or its client's behind n senders
abbrev pub tagged : ℕ → Deed → Option (ℕ × ℕ)
tagged n (Append s k tag previous body) = Some (s, tag)
tagged n (Mark c tag previous) = Some (n + c, tag)
tagged n _ = None
