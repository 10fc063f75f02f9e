-- Each call keeps a store sound.
use Rattle.std.proofs.Common.{◌≡◌, ◌≢◌, ℕ, ◌+◌, ◌-◌, ◌/◌, ◌%◌, ◌<◌, ◌≤◌, List, [], ◌∷◌, length, refl, sym, ◌∙◌, ap, false, Some, None, arith}
use Rattle.std.specs.List.{slice_get}
use Rattle.rq_model.specs.declared.record.Deed.{Deed}
use Rattle.rq_model.specs.declared.record.Record.{Record}
use Rattle.rq_model.specs.declared.record.Record.TheVariants.{Commit, AbortEnd}
use Rattle.rq_page.specs.Sizes.{Sizes, page_count, sender_count}
use Rattle.rq_page.specs.Slots.{IsSlotOf, held_in}
use Rattle.rq_page.specs.Pages.{IsWritten}
use Rattle.rq_page.specs.Formatted.{IsFormatted, IsHeaderOf}
use Rattle.rq_views.specs.Log.{put}
use Rattle.rq_views.specs.Stored.{slots_in}
use Rattle.rq_level.specs.declared.writes.SlotWrite.{SlotWrite}
use Rattle.rq_views.proofs.Overlay.{put_agree}
use Rattle.rq_txn.specs.declared.Finished.{Finished}
use Rattle.rq_groups.specs.Ends.{HeldEnds}
use Rattle.rq_groups.specs.Waiting.{waits}
use Rattle.rq_groups.specs.Sent.{SentBy, sent_count, sent_tag}
use Rattle.rq_model.specs.Content.{tag_after}
use Rattle.rq_sound.specs.Calls.{sends_for}
use Rattle.rq_views.specs.Claims.{appends_of}
use Rattle.rq_store.specs.Fitting.{left_by, image_in}
use Rattle.rq_store.specs.Steps.{page_op, op_end, took}
use Rattle.rq_txn.specs.Rows.{Under, Row, deed_of, found_row, change_row, without_row, fresh_row, row_started, row_stepped, row_finished, row_undone, row_aborting}
use Rattle.rq_store.specs.Sends.{group_of, place_count}
use Rattle.rq_store.specs.State.{State}
use Rattle.rq_txn.specs.declared.Aim.TheVariants.{Doing, Undoing}
use Rattle.rq_sound.specs.Rows.{comp_end}
use Rattle.rq_sound.specs.Sound.{IsSound}
use Rattle.rq_sound.specs.Counted.{appends_aim, takes_all, sends_in}
use Rattle.rq_store.proofs.Based.{all_base_more, all_base_written}
use Rattle.rq_store.proofs.Begun.{begun_more}
use Rattle.rq_store.proofs.Fitting.{fits_more, fits_written}
use Rattle.rq_store.proofs.Owing.{address_is}
use Rattle.rq_store.proofs.Ends.{without_ends}
use Rattle.rq_sound.proofs.Begins.{stands_begin, counts_begin}
use Rattle.rq_sound.proofs.Starts.{MayStart, HasEnds, stands_start, counts_start}
use Rattle.rq_sound.proofs.Writing.{whole_step, stands_step, counts_step}
use Rattle.rq_sound.proofs.Ending.{whole_finish, stands_finish, counts_finish}
use Rattle.rq_sound.proofs.Undoing.{aborts, whole_undo, stands_undo, counts_undo}
use Rattle.rq_sound.proofs.Commits.{whole_commit, stands_commit, counts_commit, sends_commit}
use Rattle.rq_sound.proofs.Aborting.{stands_aborting, counts_aborting, whole_abort, stands_abort, counts_abort}

module _ (s : State) (k : IsSound s) where
  abbrev z : Sizes
  z = s.sizes

  abbrev log : List Record
  log = s.records

  -- a transaction begins
  pub begin_sound : IsSound (record s { rows = fresh_row (record { incarnation = s.incarnation; count = s.begins + 1 }) ∷ s.rows; begins = s.begins + 1 })
  begin_sound = record {
    range = k.range;
    log = k.log;
    incarnation = k.incarnation;
    begun = k.begun;
    some = k.some;
    pages = k.pages;
    fits = k.fits;
    based = k.based;
    standing = stands_begin z log s.ends s.rows s.incarnation s.begins s.cells_in_use s.waiting k.log k.standing k.counted;
    counted = counts_begin z log s.ends s.rows s.incarnation s.begins s.cells_in_use s.waiting k.log k.standing k.counted;
    sent = k.sent;
    forced = k.forced;
  }

  -- an operation starts: a send, a receive, a close, a mark, or an inverse
  pub start_sound : (r : Row) (u : Under) (after : HeldEnds) → MayStart z log s.rows s.waiting s.cells_in_use r u → HasEnds s.ends after s.rows r.txn (deed_of u.aim)
      → IsSound (record s { rows = change_row r.txn (row_started u) s.rows; ends = after; cells_in_use = s.cells_in_use + appends_aim u.aim })
  start_sound r u after m h = record {
    range = k.range;
    log = k.log;
    incarnation = k.incarnation;
    begun = k.begun;
    some = k.some;
    pages = k.pages;
    fits = k.fits;
    based = k.based;
    standing = stands_start z log s.ends after s.rows s.incarnation s.begins s.cells_in_use s.waiting k.log k.standing k.counted k.incarnation k.some r u m h;
    counted = counts_start z log s.ends after s.rows s.incarnation s.begins s.cells_in_use s.waiting k.log k.standing k.counted k.incarnation k.some r u m h;
    sent = k.sent;
    forced = k.forced;
  }

  -- it makes its next write, in the pages too
  module _ (r : Row) (u : Under) (w : SlotWrite) (images : List (List ℕ)) (at_row : found_row r.txn s.rows ≡ Some r) (under : r.under ≡ Some u) (next : slice_get u.writes u.made ≡ Some w) (more : u.made < length u.writes)
      (old_slot : IsSlotOf s.sizes (w.at / 16) (w.at % 16) w.before) (slot : IsSlotOf s.sizes (w.at / 16) (w.at % 16) w.after)
      (image : (a : ℕ) → slots_in s.sizes images a ≡ put (slots_in s.sizes s.images) w.at (held_in s.sizes (w.at / 16) w.after) a)
      (written : IsWritten (image_in s.images (w.at / 16)) (image_in images (w.at / 16)) (w.at % 16) w.after (length s.records + 1)) (others : (p : ℕ) → p ≢ w.at / 16 → image_in images p ≡ image_in s.images p)
      (superblock : IsFormatted s.sizes 0 (image_in images 0)) (headers : (p : ℕ) → 1 ≤ p → p < page_count s.sizes → IsHeaderOf s.sizes p (image_in images p)) where
    abbrev x : Record
    x = page_op r.txn u.number w

    slots_now : (a : ℕ) → slots_in z images a ≡ (left_by z (x ∷ log)).slots a
    slots_now a = image a ∙ put_agree (slots_in z s.images) (left_by z log).slots w.at (held_in z (w.at / 16) w.after) a (k.pages a) ∙ ap (λ b. put (left_by z log).slots b (held_in z (w.at / 16) w.after) a) (sym (address_is w.at))

    pub step_sound : IsSound (record s { rows = change_row r.txn row_stepped s.rows; images = images; records = x ∷ log })
    step_sound = record {
      range = k.range;
      log = whole_step z log s.ends s.rows s.incarnation s.begins s.cells_in_use s.waiting k.log k.standing k.counted k.incarnation k.some r u w at_row under next more old_slot slot;
      incarnation = k.incarnation;
      begun = begun_more s.forced s.incarnation _ log k.forced k.begun;
      some = k.some;
      pages = slots_now;
      fits = fits_written z log x (record { page = w.at / 16; slot = w.at % 16; after = w.after }) refl s.images images k.fits slot written others superblock headers slots_now;
      based = all_base_written z x log (image_in s.images) (image_in images) (w.at / 16) refl written.lsn others k.based;
      standing = stands_step z log s.ends s.rows s.incarnation s.begins s.cells_in_use s.waiting k.log k.standing k.counted k.incarnation k.some r u w at_row under next more old_slot slot;
      counted = counts_step z log s.ends s.rows s.incarnation s.begins s.cells_in_use s.waiting k.log k.standing k.counted k.incarnation k.some r u w at_row under next more old_slot slot;
      sent = record { counts = k.sent.counts; tags = k.sent.tags };
      forced = (let f = k.forced in omega (arith, f));
    }

  -- it ends, all its writes made
  pub finish_sound : (r : Row) (u : Under) (d : Deed) (ws : List ℕ) → found_row r.txn s.rows ≡ Some r → r.under ≡ Some u → u.aim ≡ Doing d → u.made ≡ length u.writes → ((g : ℕ) → waits ws g ≡ waits s.waiting g - took g d)
      → IsSound (record s { rows = change_row r.txn (row_finished (record { lsn = length log + 1; number = u.number; deed = d })) s.rows; records = op_end r.txn u.number d ∷ log; waiting = ws })
  finish_sound r u d ws at_row under aim made fewer = record {
    range = k.range;
    log = whole_finish z log s.ends s.rows s.incarnation s.begins s.cells_in_use s.waiting ws k.log k.standing k.counted k.incarnation k.some r u d at_row under aim made fewer;
    incarnation = k.incarnation;
    begun = begun_more s.forced s.incarnation _ log k.forced k.begun;
    some = k.some;
    pages = k.pages;
    fits = fits_more z (op_end r.txn u.number d) log (image_in s.images) k.fits;
    based = all_base_more z (op_end r.txn u.number d) log (image_in s.images) refl k.based;
    standing = stands_finish z log s.ends s.rows s.incarnation s.begins s.cells_in_use s.waiting ws k.log k.standing k.counted k.incarnation k.some r u d at_row under aim made fewer;
    counted = counts_finish z log s.ends s.rows s.incarnation s.begins s.cells_in_use s.waiting ws k.log k.standing k.counted k.incarnation k.some r u d at_row under aim made fewer;
    sent = record { counts = k.sent.counts; tags = k.sent.tags };
    forced = (let f = k.forced in omega (arith, f));
  }

  -- a compensation ends, all its writes made
  module _ (r : Row) (u : Under) (lsn : ℕ) (d : Deed) (ws : List ℕ) (at_row : found_row r.txn s.rows ≡ Some r) (under : r.under ≡ Some u) (aim : u.aim ≡ Undoing lsn d) (made : u.made ≡ length u.writes)
      (more : (g : ℕ) → waits ws g ≡ waits s.waiting g + took g d) where
    -- what is left of what it did
    abbrev pub left : List Finished
    left = (aborts z log s.ends s.rows s.incarnation s.begins s.cells_in_use s.waiting ws k.log k.standing k.counted k.incarnation k.some r u lsn d at_row under aim made more).1.0

    pub undo_sound : IsSound (record s { rows = change_row r.txn (row_undone left) s.rows; records = comp_end r.txn u.number lsn ∷ log; cells_in_use = s.cells_in_use - appends_of d; waiting = ws })
    undo_sound = record {
      range = k.range;
      log = whole_undo z log s.ends s.rows s.incarnation s.begins s.cells_in_use s.waiting ws k.log k.standing k.counted k.incarnation k.some r u lsn d at_row under aim made more;
      incarnation = k.incarnation;
      begun = begun_more s.forced s.incarnation _ log k.forced k.begun;
      some = k.some;
      pages = k.pages;
      fits = fits_more z (comp_end r.txn u.number lsn) log (image_in s.images) k.fits;
      based = all_base_more z (comp_end r.txn u.number lsn) log (image_in s.images) refl k.based;
      standing = stands_undo z log s.ends s.rows s.incarnation s.begins s.cells_in_use s.waiting ws k.log k.standing k.counted k.incarnation k.some r u lsn d at_row under aim made more;
      counted = counts_undo z log s.ends s.rows s.incarnation s.begins s.cells_in_use s.waiting ws k.log k.standing k.counted k.incarnation k.some r u lsn d at_row under aim made more;
      sent = record { counts = k.sent.counts; tags = k.sent.tags };
      forced = (let f = k.forced in omega (arith, f));
    }

  -- a transaction commits
  pub commit_sound : (r : Row) (now : ℕ) (ws : List ℕ) (ss : SentBy) → found_row r.txn s.rows ≡ Some r → r.under ≡ None → r.aborting ≡ false → now + takes_all r ≡ s.cells_in_use
      → ((g : ℕ) → g < sender_count s.sizes → waits ws g ≡ waits s.waiting g + sends_in g r)
      → ((i : ℕ) → i < place_count s.sizes → sent_count ss i ≡ sent_count s.sent i + sends_in (group_of s.sizes i) r)
      → ((i : ℕ) → i < place_count s.sizes → sent_tag ss i ≡ tag_after (sent_tag s.sent i) (sends_for (group_of s.sizes i) r))
      → IsSound (record s { rows = without_row r.txn s.rows; ends = without_ends r.txn s.ends; records = Commit r.txn ∷ log; cells_in_use = now; waiting = ws; sent = ss })
  commit_sound r now ws ss at_row idle open_one freed waited counts tags = record {
    range = k.range;
    log = whole_commit z log s.ends s.rows s.incarnation s.begins s.cells_in_use now s.waiting ws k.log k.standing k.counted k.incarnation k.some r at_row idle open_one freed waited;
    incarnation = k.incarnation;
    begun = begun_more s.forced s.incarnation _ log k.forced k.begun;
    some = k.some;
    pages = k.pages;
    fits = fits_more z (Commit r.txn) log (image_in s.images) k.fits;
    based = all_base_more z (Commit r.txn) log (image_in s.images) refl k.based;
    standing = stands_commit z log s.ends s.rows s.incarnation s.begins s.cells_in_use now s.waiting ws k.log k.standing k.counted k.incarnation k.some r at_row idle open_one freed waited;
    counted = counts_commit z log s.ends s.rows s.incarnation s.begins s.cells_in_use now s.waiting ws k.log k.standing k.counted k.incarnation k.some r at_row idle open_one freed waited;
    sent = sends_commit z log s.ends s.rows s.incarnation s.begins s.cells_in_use now s.waiting ws k.log k.standing k.counted k.incarnation k.some r at_row idle open_one freed waited s.sent ss k.sent counts tags;
    forced = (let f = k.forced in omega (arith, f));
  }

  -- it starts to abort
  pub start_abort_sound : (r : Row) → found_row r.txn s.rows ≡ Some r → r.under ≡ None → IsSound (record s { rows = change_row r.txn row_aborting s.rows })
  start_abort_sound r at_row idle = record {
    range = k.range;
    log = k.log;
    incarnation = k.incarnation;
    begun = k.begun;
    some = k.some;
    pages = k.pages;
    fits = k.fits;
    based = k.based;
    standing = stands_aborting z log s.ends s.rows s.incarnation s.begins s.cells_in_use s.waiting k.log k.standing k.counted k.incarnation k.some r at_row idle;
    counted = counts_aborting z log s.ends s.rows s.incarnation s.begins s.cells_in_use s.waiting k.log k.standing k.counted k.incarnation k.some r at_row idle;
    sent = k.sent;
    forced = k.forced;
  }

  -- it ends, all undone
  pub end_abort_sound : (r : Row) → found_row r.txn s.rows ≡ Some r → r.under ≡ None → r.finished ≡ []
      → IsSound (record s { rows = without_row r.txn s.rows; ends = without_ends r.txn s.ends; records = AbortEnd r.txn ∷ log })
  end_abort_sound r at_row idle empty = record {
    range = k.range;
    log = whole_abort z log s.ends s.rows s.incarnation s.begins s.cells_in_use s.waiting k.log k.standing k.counted k.incarnation k.some r at_row idle empty;
    incarnation = k.incarnation;
    begun = begun_more s.forced s.incarnation _ log k.forced k.begun;
    some = k.some;
    pages = k.pages;
    fits = fits_more z (AbortEnd r.txn) log (image_in s.images) k.fits;
    based = all_base_more z (AbortEnd r.txn) log (image_in s.images) refl k.based;
    standing = stands_abort z log s.ends s.rows s.incarnation s.begins s.cells_in_use s.waiting k.log k.standing k.counted k.incarnation k.some r at_row idle empty;
    counted = counts_abort z log s.ends s.rows s.incarnation s.begins s.cells_in_use s.waiting k.log k.standing k.counted k.incarnation k.some r at_row idle empty;
    sent = record { counts = k.sent.counts; tags = k.sent.tags };
    forced = (let f = k.forced in omega (arith, f));
  }
