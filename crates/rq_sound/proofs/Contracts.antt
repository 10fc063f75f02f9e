-- The theorems, from what the other files show.
use Rattle.std.proofs.Common.{◌≡◌, ℕ, ◌+◌, ◌-◌, ◌/◌, ◌<◌, ◌≤◌, ◌++◌, List, [], ◌∷◌, reverse, refl, sym, ◌∙◌, ap, subst, true, false, Option, Some, arith}
use Rattle.std.proofs.lemmas.Option.{slice_get_within}
use Rattle.rq_model.specs.declared.record.Deed.{Deed}
use Rattle.rq_model.specs.declared.record.Deed.TheVariants.{Append, UnlinkHead, Close, Mark}
use Rattle.rq_model.specs.Ledger.{after}
use Rattle.rq_model.specs.History.{Entry, Job}
use Rattle.rq_model.specs.Vocabulary.{In, client_group, front, is_some}
use Rattle.rq_page.specs.Sizes.{IsCellAddress, cell_count, directory_at, sender_count}
use Rattle.rq_page.specs.Slots.Slot.{Free}
use Rattle.rq_views.specs.Claims.{takes_of, appends_of}
use Rattle.rq_views.specs.InStore.{IsDeedOf}
use Rattle.rq_views.specs.Items.{items, layout_of}
use Rattle.rq_views.specs.Legal.{view}
use Rattle.rq_views.specs.Log.{HasBefores, Write}
use Rattle.rq_views.specs.Plans.{ShowsAt, IsPlan, deed_sender}
use Rattle.rq_views.specs.Plans.Turn.{Did, Undid}
use Rattle.rq_views.proofs.Stands.{slots_stand}
use Rattle.rq_level.specs.Writes.{writes_of}
use Rattle.rq_txn.specs.declared.Finished.{Finished}
use Rattle.rq_groups.specs.Waiting.{waits}
use Rattle.rq_store.specs.Steps.{took}
use Rattle.rq_store.specs.Fitting.{left_by}
use Rattle.rq_store.specs.Rows.{placed}
use Rattle.rq_store.proofs.Begun.{begun_all}
use Rattle.rq_store.proofs.Grouping.{groups_of}
use Rattle.rq_store.proofs.Ends.{held_now}
use Rattle.rq_txn.specs.Rows.{Under, Row, deed_of, found_row, change_row, row_undone, latched_in}
use Rattle.rq_store.specs.State.{State, ledger_of}
use Rattle.rq_store.proofs.RowLists.{found_in}
use Rattle.rq_txn.specs.declared.Aim.TheVariants as aims
use Rattle.rq_txn.proofs.Standing.{front_push}
use Rattle.rq_sound.specs.Rows.{turn_of, comp_end, own_slot}
use Rattle.rq_sound.specs.Standing.{IsAimOf, IsAsPlanned, TellsFor, ReadsFor}
use Rattle.rq_sound.specs.Counted.{CoversAim, appends_aim}
use Rattle.rq_sound.specs.Sound.{IsSound}
use Rattle.rq_sound.specs.Starts.{MayDo, MayUndo, IsEndFree, with_end}
use Rattle.rq_sound.specs.Calls.{IsReady, IsIdle, undone, started, forced}
use Rattle.rq_sound.specs.Theorems.{CallsKeepSoundness, InversesCanBePlanned, TestsAreAnswered, OpenedIsSound}
use Rattle.rq_sound.proofs.Starts.{MayStart, HasEnds, told_by_plan, takes_send, takes_receive, may_undo}
use Rattle.rq_sound.proofs.EachCall.{begin_sound, start_sound, step_sound, finish_sound, undo_sound, commit_sound, start_abort_sound, end_abort_sound}
use Rattle.rq_sound.proofs.Own.{ShowsOwn, latches_own}
use Rattle.rq_sound.proofs.Undoing.{aborts}
use Rattle.rq_sound.proofs.FreeCells.{stored, shown_here, shown_own, room_to_send, undo_planned, put_back_finds, open_is}
use Rattle.rq_sound.proofs.UndoPlans.{NeedsCell, closed_before}
use Rattle.rq_sound.proofs.UsedCells.{some_free}
use Rattle.rq_sound.proofs.Ledgers.{undid_after}
use Rattle.rq_sound.proofs.UndoStarts.{chain_is, undo_started_after}
use Rattle.rq_sound.proofs.Asked.{closed_is, holds_is, cells_are}
use Rattle.rq_sound.proofs.FreeEnds.{free_is, free_to_take}
use Rattle.rq_sound.proofs.Lost.{lost_finds_cell}
use Rattle.rq_sound.proofs.Opened.{opened_sound}

module _ (s : State) (k : IsSound s) where
  here : (r : Row) → found_row r.txn s.rows ≡ Some r → is_some (found_row r.txn s.rows) ≡ true
  here r e = ap (λ (o : Option Row). is_some o) e

  -- an end that is free is taken
  has_ends : (r : Row) (d : Deed) → found_row r.txn s.rows ≡ Some r → IsEndFree r.txn d s.ends → HasEnds s.ends (with_end r.txn d s.ends) s.rows r.txn d
  has_ends r (Append g n tag previous body) e free = takes_send s.ends s.rows r.txn g k.standing.sending k.standing.receiving (here r e) free (Append g n tag previous body) (held_now r.txn g s.ends.sending)
  has_ends r (UnlinkHead g n tag body) e free = takes_receive s.ends s.rows r.txn g k.standing.sending k.standing.receiving (here r e) free (UnlinkHead g n tag body) (held_now r.txn g s.ends.receiving)
  has_ends r (Close g) e free = takes_send s.ends s.rows r.txn g k.standing.sending k.standing.receiving (here r e) free (Close g) (held_now r.txn g s.ends.sending)
  has_ends r (Mark c tag previous) e free = takes_send s.ends s.rows r.txn (client_group c) k.standing.sending k.standing.receiving (here r e) free (Mark c tag previous) (held_now r.txn (client_group c) s.ends.sending)

  -- where nobody has latched the page of a sender's directory slot, the slots show its chain
  pub shows : (g : ℕ) → g < sender_count s.sizes → latched_in s.rows (directory_at g / 16) ≡ false → ShowsAt (layout_of s.sizes) (left_by s.sizes s.records).slots g (view (items s.sizes s.records) g)
  shows = shown_here s.sizes s.records s.ends s.rows s.incarnation s.begins s.cells_in_use s.waiting k.standing k.counted k.log

  -- and, where nobody has latched the page of a deed's own slot, its group
  pub shows_own : (d : Deed) → IsDeedOf s.sizes d → latched_in s.rows (own_slot s.sizes d / 16) ≡ false → ShowsOwn (layout_of s.sizes) (left_by s.sizes s.records).slots d (view (items s.sizes s.records) (deed_sender d))
  shows_own = shown_own s.sizes s.records s.ends s.rows s.incarnation s.begins s.cells_in_use s.waiting k.standing k.counted k.range k.log

  may_start : (r : Row) (u : Under) (d : Deed) → MayDo s r u d → MayStart s.sizes s.records s.rows s.waiting s.cells_in_use r u
  may_start r u d m =
      let p = m.planned in
      let off = p.free (own_slot s.sizes d / 16) (latches_own s.sizes (Did d) u.writes p.plan) in
      let told = told_by_plan (layout_of s.sizes) (left_by s.sizes s.records).slots d (reverse (writes_of s.sizes u.writes)) (view (items s.sizes s.records) (deed_sender d)) p.plan p.fits (shows_own d m.of_store off) m.not_closed in
      record {
        at_row = p.at_row;
        idle = p.idle;
        number = p.number;
        made = p.made;
        aims = subst (IsAimOf r) (sym m.aim) m.forward;
        free = p.free;
        plan = subst (λ a. IsPlan (layout_of s.sizes) (turn_of a) (reverse (writes_of s.sizes u.writes))) (sym m.aim) p.plan;
        fits = p.fits;
        told = subst (λ a. TellsFor a (view (items s.sizes s.records) (deed_sender (deed_of a)))) (sym m.aim) told;
        of_store = subst (λ a. IsDeedOf s.sizes (deed_of a)) (sym m.aim) m.of_store;
        reads = subst ReadsFor (sym m.aim) m.reads;
        covers = subst (CoversAim s.waiting) (sym m.aim) m.waits;
        room = subst (λ a. s.cells_in_use + appends_aim a ≤ cell_count s.sizes) (sym m.aim) m.room;
      }

  start_deed : (r : Row) (u : Under) (d : Deed) → MayDo s r u d → IsSound (started s r u (with_end r.txn d s.ends))
  start_deed r u d m = start_sound s k r u (with_end r.txn d s.ends) (may_start r u d m) (subst (λ a. HasEnds s.ends (with_end r.txn d s.ends) s.rows r.txn (deed_of a)) (sym m.aim) (has_ends r d m.planned.at_row m.end))

  start_inverse : (r : Row) (u : Under) (fs : List Finished) (f : Finished) → MayUndo s r u fs f → IsSound (started s r u s.ends)
  start_inverse r u fs f m =
      let p = m.planned in
      let may = may_undo s.sizes s.records s.ends s.rows s.incarnation s.begins s.cells_in_use s.waiting k.log k.standing k.counted r u fs f p.at_row p.idle m.aborting m.newest m.aim p.number p.made p.free p.plan p.fits in
      start_sound s k r u s.ends may.0 may.1

  force_sound : IsSound (forced s)
  force_sound = record {
    range = k.range;
    log = k.log;
    incarnation = k.incarnation;
    begun = begun_all s.incarnation s.records k.incarnation;
    some = k.some;
    pages = k.pages;
    fits = k.fits;
    based = k.based;
    standing = k.standing;
    counted = k.counted;
    sent = k.sent;
    forced = omega arith;
  }

  fail_sound : IsSound (record s { failed = true })
  fail_sound = record {
    range = k.range;
    log = k.log;
    incarnation = k.incarnation;
    begun = k.begun;
    some = k.some;
    pages = k.pages;
    fits = k.fits;
    based = k.based;
    standing = k.standing;
    counted = k.counted;
    sent = k.sent;
    forced = k.forced;
  }

  -- what an inverse that is ready undoes is what its transaction did last
  newest : (r : Row) (u : Under) (lsn : ℕ) (d : Deed) → IsReady s r u (aims.Undoing lsn d) → (fs : List Finished) × (n : ℕ) × (r.finished ≡ fs ++ record { lsn = lsn; number = n; deed = d } ∷ [])
  newest r u lsn d m = (subst (IsAimOf r) m.aim_is (subst (IsAsPlanned s.sizes s.records s.ends r) m.under (k.standing.each r (found_in r.txn s.rows r m.at_row).0).going).2).1

  rest_is : (r : Row) (fs : List Finished) (f : Finished) → r.finished ≡ fs ++ f ∷ [] → fs ≡ front r.finished
  rest_is r fs f e = sym (ap front e ∙ front_push fs f)

  undo : (r : Row) (u : Under) (lsn : ℕ) (d : Deed) (ws : List ℕ) → IsReady s r u (aims.Undoing lsn d) → ((g : ℕ) → waits ws g ≡ waits s.waiting g + took g d) → IsSound (undone s r u lsn d ws)
  undo r u lsn d ws m more =
      let left = (aborts s.sizes s.records s.ends s.rows s.incarnation s.begins s.cells_in_use s.waiting ws k.log k.standing k.counted k.incarnation k.some r u lsn d m.at_row m.under m.aim_is m.made more).1 in
      subst (λ (fs : List Finished). IsSound (record s { rows = change_row r.txn (row_undone fs) s.rows; records = comp_end r.txn u.number lsn ∷ s.records; cells_in_use = s.cells_in_use - appends_of d; waiting = ws })) (rest_is r left.0 (record { lsn = lsn; number = left.1; deed = d }) left.2)
      (undo_sound s k r u lsn d ws m.at_row m.under m.aim_is m.made more)

  pub undo_entry : (r : Row) (u : Under) (lsn : ℕ) (d : Deed) (ws : List ℕ) → IsReady s r u (aims.Undoing lsn d) → ledger_of (undone s r u lsn d ws) ≡ after (Entry.Undid r.txn u.number) (ledger_of s)
  undo_entry r u lsn d ws m =
      let n = newest r u lsn d m in
      let f : Finished = record { lsn = lsn; number = n.1; deed = d } in
      subst (λ (fs : List Finished). ledger_of (record s { rows = change_row r.txn (row_undone fs) s.rows; records = comp_end r.txn u.number lsn ∷ s.records; cells_in_use = s.cells_in_use - appends_of d; waiting = ws }) ≡ after (Entry.Undid r.txn u.number) (ledger_of s)) (rest_is r n.0 f n.2)
      (undid_after s r u lsn (s.cells_in_use - appends_of d) ws n.0 f k.standing.distinct m.at_row m.under m.made n.2)

  -- a transaction with nothing under way undoes its newest deed
  module _ (r : Row) (fs : List Finished) (f : Finished) (m : IsIdle s r) (last : r.finished ≡ fs ++ f ∷ []) where
    at : In r s.rows
    at = (found_in r.txn s.rows r m.at_row).0

    finds : takes_of f.deed ≡ 1 → (a : ℕ) × IsCellAddress s.sizes a × ((left_by s.sizes s.records).slots a ≡ Free)
    finds takes = put_back_finds s.sizes s.records s.ends s.rows s.incarnation s.begins s.cells_in_use s.waiting k.standing k.counted k.log r at m.idle fs f last takes

    abbrev Planned : Type 0
    Planned = (ws : List Write) × IsPlan (layout_of s.sizes) (Undid f.deed) ws × HasBefores ws (left_by s.sizes s.records).slots

    with_cell : (new : ℕ) → NeedsCell f.deed (left_by s.sizes s.records).slots new → latched_in s.rows (own_slot s.sizes f.deed / 16) ≡ false → Planned
    with_cell = undo_planned s.sizes s.records s.ends s.rows s.incarnation s.begins s.cells_in_use s.waiting k.standing k.counted k.log r at m.idle fs f last k.range

    above : (a : ℕ) → IsCellAddress s.sizes a → 0 < a
    above a c = let h = c.above in omega (arith, h)

    -- with a cell where it needs one
    plans : (d : Deed) → f.deed ≡ d → latched_in s.rows (own_slot s.sizes f.deed / 16) ≡ false → Planned
    plans (Append g n tag previous body) e off = with_cell 0 (subst (λ d. NeedsCell d (left_by s.sizes s.records).slots 0) (sym e) tt) off
    plans (UnlinkHead g n tag body) e off =
        let c = finds (ap takes_of e) in
        with_cell c.0 (subst (λ d. NeedsCell d (left_by s.sizes s.records).slots c.0) (sym e) (above c.0 c.1, c.2)) off
    plans (Close g) e off = with_cell 0 (subst (λ d. NeedsCell d (left_by s.sizes s.records).slots 0) (sym e) tt) off
    plans (Mark c tag previous) e off = with_cell 0 (subst (λ d. NeedsCell d (left_by s.sizes s.records).slots 0) (sym e) tt) off

    closed : (g : ℕ) → f.deed ≡ Close g → (view (items s.sizes s.records) g).closed ≡ true
    closed g e =
        let is = open_is s.sizes s.records s.ends s.rows s.incarnation s.begins s.cells_in_use s.waiting k.standing k.counted k.log r at m.idle fs f last in
        closed_before (items s.sizes s.records) r.txn f.lsn g (placed fs) (groups_of s.sizes s.records k.log) (is ∙ ap (λ (d : Deed). record { lsn = f.lsn; deed = d } ∷ placed fs) e)

  -- the ledger after an inverse starts
  pub undo_start_entry : (r : Row) (u : Under) (fs : List Finished) (f : Finished) → MayUndo s r u fs f → ledger_of (started s r u s.ends) ≡ after (Entry.Started r.txn (r.number + 1) Job.Undoing) (ledger_of s)
  undo_start_entry r u fs f m =
      let p = m.planned in
      let at = (found_in r.txn s.rows r p.at_row).0 in
      let store = stored s.sizes s.records s.ends s.rows s.incarnation s.begins s.cells_in_use s.waiting k.standing k.counted k.log r at p.idle fs f m.newest in
      let off = p.free (own_slot s.sizes f.deed / 16) (latches_own s.sizes (Undid f.deed) u.writes p.plan) in
      undo_started_after s k r u fs f p.at_row m.newest m.aim p.number p.made p.plan p.fits (shows_own f.deed store off)

-- each call
pub calls_keep : CallsKeepSoundness
calls_keep = record {
  begins = begin_sound;
  starts = λ s r u d k m. start_deed s k r u d m;
  starts_inverse = λ s r u fs f k m. start_inverse s k r u fs f m;
  steps = λ s r u w images k m. step_sound s k r u w images m.at_row m.under m.next (slice_get_within u.writes u.made w m.next) m.before m.after m.made.image m.made.page m.made.others m.made.superblock m.made.headers;
  finishes = λ s r u d ws k m fewer. finish_sound s k r u d ws m.at_row m.under m.aim_is m.made fewer;
  undoes = λ s r u lsn d ws k m more. undo s k r u lsn d ws m more;
  commits = λ s r cells ws ss k m. commit_sound s k r cells ws ss m.idle.at_row m.idle.idle m.forward m.freed m.waits m.counts m.tags;
  starts_abort = λ s r k m. start_abort_sound s k r m.at_row m.idle;
  ends_abort = λ s r k m empty. end_abort_sound s k r m.at_row m.idle empty;
  forces = force_sound;
  fails = fail_sound;
}

pub planned : InversesCanBePlanned
planned = record {
  planned = λ s r fs f k m e off. plans s k r fs f m e f.deed refl off;
  put_back_finds = λ s r fs f k m e takes. finds s k r fs f m e takes;
  reopen_finds = λ s r fs f g k m e is. closed s k r fs f m e g is;
  send_finds = λ s k less. some_free s.sizes (left_by s.sizes s.records).slots (slots_stand s.sizes s.records k.log.in_store) (room_to_send s.sizes s.records s.ends s.rows s.incarnation s.begins s.cells_in_use s.waiting k.standing k.counted less);
  lost_finds = lost_finds_cell;
}

pub answered : TestsAreAnswered
answered = record {
  free_to_send = λ s t g k. free_is s k t g;
  free_to_receive = λ s t g k. free_to_take s k t g;
  cells = cells_are;
  closed = λ s g r k i free. closed_is s.sizes s.records s.ends s.rows s.incarnation s.begins k.log k.standing g r i free;
  waiting = λ s g r k below i free. holds_is s.sizes s.records s.ends s.rows s.incarnation s.begins k.log k.standing s.cells_in_use s.waiting k.counted g r below i free;
  chain = λ s g k. chain_is s k g;
}

pub opened_is : OpenedIsSound
opened_is z images log range whole none_unfinished none_lost pages fits based = opened_sound z images log range whole none_unfinished none_lost pages fits based
