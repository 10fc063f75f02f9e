-- A worked log in bytes: an abort that a crash stops within an inverse, and the restart after it; and pages that
-- were just formatted.
use Rattle.std.specs.Prelude.{◌≡◌, ◌+◌, ◌/◌, ◌%◌, ◌<◌, ◌≤◌, ℕ, List, [], ◌∷◌, length, map, false}
use Rattle.rq_model.specs.declared.record.Record.{Record}
use Rattle.rq_model.specs.declared.record.Record.TheVariants as records
use Rattle.rq_model.specs.Content.{content, no_group}
use Rattle.rq_model.specs.Unended.{unfinished, lost}
use Rattle.rq_model.specs.Deeds.{deed_level, spelled_deed}
use Rattle.rq_model.specs.History.{Group}
use Rattle.rq_page.specs.Slots.{slot_bytes}
use Rattle.rq_views.specs.Log.{Item}
use Rattle.rq_views.specs.Log.Item.{PageOp, PageUndo, OpEnd, OpVoid, CompEnd, Commit, AbortEnd, Restart}
use Rattle.rq_views.specs.WorkedItems.{sizes, t2, stopped, restarted}
use Rattle.rq_page.specs.Formatted.{IsFormatted}
use Rattle.rq_page.specs.Pages.{lsn_of}
use Rattle.rq_page.specs.Sizes.{Sizes, IsInRange, page_count}
use Rattle.rq_store.specs.Fitting.{AllHoldBase, FitsLog, HoldsPage, image_in}
use Rattle.rq_store.specs.Whole.{IsWhole}

-- the record with the bytes of these slots and deeds
abbrev pub record_of : Item → Record
record_of (PageOp o w) = records.PageOp o.txn o.number (w.at / 16) (w.at % 16) (slot_bytes w.before) (slot_bytes w.after)
record_of (PageUndo o u at after) = records.PageUndo o.txn o.number u (at / 16) (at % 16) (slot_bytes after)
record_of (OpEnd o d) = records.OpEnd o.txn o.number (deed_level d) (spelled_deed d)
record_of (OpVoid o) = records.OpVoid o.txn o.number
record_of (CompEnd o u) = records.CompEnd o.txn o.number u
record_of (Commit t) = records.Commit t
record_of (AbortEnd t) = records.AbortEnd t
record_of (Restart i) = records.Restart i

abbrev pub spelled_log : List Item → List Record
spelled_log log = map record_of log

-- the message of sender 0 waits, and that of sender 15 is gone
abbrev pub one_message : Group
one_message = record {
  sent = 1;
  last_tag = 7;
  received = 0;
  closed = false;
  rest = record { sender = 0; tag = 7; body = 104 ∷ [] } ∷ [];
}

pub record WorkedStore : Type 0 where
  pub stopped_whole : IsWhole sizes (spelled_log stopped)
  pub stopped_unfinished : unfinished (spelled_log stopped) ≡ (t2, 4) ∷ []
  pub stopped_lost : lost (spelled_log stopped) ≡ t2 ∷ []
  pub restarted_whole : IsWhole sizes (spelled_log restarted)
  pub restarted_unfinished : unfinished (spelled_log restarted) ≡ []
  pub restarted_lost : lost (spelled_log restarted) ≡ []
  pub stopped_content : content (spelled_log stopped) 0 ≡ one_message
  pub restarted_content : content (spelled_log restarted) 0 ≡ one_message
  pub restarted_other : content (spelled_log restarted) 15 ≡ no_group

-- the pages of a store that was just formatted
abbrev pub AreFormatted : Sizes → List (List ℕ) → Type 0
AreFormatted z images = (p : ℕ) → p < page_count z → IsFormatted z p (image_in images p)

-- Pages that were formatted fit the empty log; `Layout::format` makes such pages. And what doesn't fit. Where a Base is
-- the newest record, a page that is no newer holds all that stood before it.
pub record FormattedFit : Type 0 where
  pub formatted_fits : (z : Sizes) (images : List (List ℕ)) → IsInRange z → AreFormatted z images
      → FitsLog z (image_in images) []
  -- a page with an LSN beyond the log, or with that of a record that wrote none of its slots
  pub beyond : (z : Sizes) (image : ℕ → List ℕ) (log : List Record) (p : ℕ) → 1 ≤ p → p < page_count z
      → length log < lsn_of (image p) → FitsLog z image log → ⊥
  pub not_stamped : (z : Sizes) (image : ℕ → List ℕ) (i p : ℕ) → 1 ≤ p → p < page_count z → lsn_of (image p) ≡ 1
      → FitsLog z image (records.Restart i ∷ []) → ⊥
  pub formatted_base : (z : Sizes) (images : List (List ℕ)) → IsInRange z → AreFormatted z images
      → AllHoldBase z (image_in images) []
  pub holds_base : (z : Sizes) (image : ℕ → List ℕ) (log : List Record) (many i p : ℕ) → 1 ≤ p → p < page_count z
      → AllHoldBase z image (records.Base many i ∷ log) → lsn_of (image p) ≤ length log + 1
      → HoldsPage z p (image p) log
