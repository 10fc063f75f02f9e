-- What an operation needs to start beside others: a send, a receive, a close, a mark, or an inverse.
use Rattle.std.specs.Prelude.{◌≡◌, ℕ, ◌+◌, ◌≤◌, true, false, List, [], ◌∷◌, ◌++◌, reverse, Some, None}
use Rattle.rq_model.specs.declared.txn.Txn.{Txn}
use Rattle.rq_model.specs.declared.record.Deed.{Deed}
use Rattle.rq_model.specs.declared.record.Deed.TheVariants.{Append, UnlinkHead, Close, Mark}
use Rattle.rq_model.specs.Vocabulary.{client_group}
use Rattle.rq_model.specs.Deeds.{TellsItself}
use Rattle.rq_page.specs.Sizes.{cell_count}
use Rattle.rq_views.specs.Claims.{appends_of}
use Rattle.rq_views.specs.Groups.{on_sending_end}
use Rattle.rq_views.specs.InStore.{IsDeedOf}
use Rattle.rq_views.specs.Log.{HasBefores}
use Rattle.rq_views.specs.Items.{items, layout_of}
use Rattle.rq_views.specs.Legal.{view}
use Rattle.rq_views.specs.Plans.{Turn, IsPlan, deed_sender}
use Rattle.rq_views.specs.Plans.Turn.{Did, Undid}
use Rattle.rq_level.specs.Writes.{writes_of}
use Rattle.rq_txn.specs.declared.Finished.{Finished}
use Rattle.rq_groups.specs.Ends.{HeldEnds, is_free_for, with_held}
use Rattle.rq_store.specs.Fitting.{left_by}
use Rattle.rq_store.specs.Rows.{HasWaiting}
use Rattle.rq_txn.specs.Rows.{Under, Row, found_row, latched_by, latched_in}
use Rattle.rq_store.specs.State.{State}
use Rattle.rq_txn.specs.declared.Aim.TheVariants as aims

-- the ends once t holds the one that a deed needs
abbrev pub with_end : Txn → Deed → HeldEnds → HeldEnds
with_end t (Append sender sequence tag previous body) ends = record ends { sending = with_held t sender ends.sending }
with_end t (UnlinkHead sender sequence tag body) ends = record ends { receiving = with_held t sender ends.receiving }
with_end t (Close sender) ends = record ends { sending = with_held t sender ends.sending }
with_end t (Mark client tag previous) ends = record ends { sending = with_held t (client_group client) ends.sending }

-- no other holds it
abbrev pub IsEndFree : Txn → Deed → HeldEnds → Type 0
IsEndFree t (Append sender sequence tag previous body) ends = is_free_for t sender ends.sending ≡ true
IsEndFree t (UnlinkHead sender sequence tag body) ends = is_free_for t sender ends.receiving ≡ true
IsEndFree t (Close sender) ends = is_free_for t sender ends.sending ≡ true
IsEndFree t (Mark client tag previous) ends = is_free_for t (client_group client) ends.sending ≡ true

-- The operation is planned over the slots as they are, by a transaction with nothing under way, and nothing of it is
-- made. Nobody has latched a page of it.
pub record IsPlanned (s : State) (r : Row) (u : Under) (turn : Turn) : Type 0 where
  pub at_row : found_row r.txn s.rows ≡ Some r
  pub idle : r.under ≡ None
  pub number : u.number ≡ r.number + 1
  pub made : u.made ≡ 0
  pub free : (p : ℕ) → latched_by u p ≡ true → latched_in s.rows p ≡ false
  pub plan : IsPlan (layout_of s.sizes) turn (reverse (writes_of s.sizes u.writes))
  pub fits : HasBefores (reverse (writes_of s.sizes u.writes)) (left_by s.sizes s.records).slots

-- A deed may be done: its end is free, its group is open where it sends, closes or marks, a message waits where it takes
-- one, and there is a cell for what it sends.
pub record MayDo (s : State) (r : Row) (u : Under) (d : Deed) : Type 0 where
  pub planned : IsPlanned s r u (Did d)
  pub aim : u.aim ≡ aims.Doing d
  pub forward : r.aborting ≡ false
  pub of_store : IsDeedOf s.sizes d
  pub reads : TellsItself d
  pub end : IsEndFree r.txn d s.ends
  pub not_closed : on_sending_end (deed_sender d) d ≡ true
      → (view (items s.sizes s.records) (deed_sender d)).closed ≡ false
  pub waits : HasWaiting s.waiting d
  pub room : s.cells_in_use + appends_of d ≤ cell_count s.sizes

-- the newest deed of a transaction that aborts may be undone
pub record MayUndo (s : State) (r : Row) (u : Under) (rest : List Finished) (f : Finished) : Type 0 where
  pub planned : IsPlanned s r u (Undid f.deed)
  pub aim : u.aim ≡ aims.Undoing f.lsn f.deed
  pub aborting : r.aborting ≡ true
  pub newest : r.finished ≡ rest ++ f ∷ []
