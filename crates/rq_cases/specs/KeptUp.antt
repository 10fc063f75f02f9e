-- Starts, and calls that leave no entry, over pages that may be read and written out: what none may begin, answer or leave.
use Rattle.std.specs.Prelude.{◌≡◌, ◌≢◌, ℕ, ◌<◌, ◌≤◌, false, true}
use Rattle.rq_model.specs.declared.refusal.Refusal.TheVariants as why
use Rattle.rq_model.specs.declared.txn.Sub.{Sub}
use Rattle.rq_model.specs.declared.txn.Txn.{Txn}
use Rattle.rq_model.specs.History.Call.{Show, Step}
use Rattle.rq_model.specs.Ledger.{found}
use Rattle.rq_model.specs.Tests.{is_aborting, log_full}
use Rattle.rq_disk.specs.declared.mem_log.MemLog.{MemLog}
use Rattle.rq_disk.specs.declared.mem_pages.MemPages.{MemPages}
use Rattle.rq_groups.specs.declared.End.TheVariants.{Sending, Receiving, Marking}
use Rattle.rq_groups.specs.Sides.{with_end}
use Rattle.rq_page.specs.Pages.{lsn_of}
use Rattle.rq_page.specs.Sizes.{cell_count, client_count}
use Rattle.rq_pool.specs.Pooled.{image_at, is_changed}
use Rattle.rq_store.specs.State.{ledger_of}
use Rattle.rq_engine.specs.KeptUp.{KeepsUp}
use Rattle.rq_engine.specs.Opened.{OpenStore}
use Rattle.rq_engine.specs.Tested.{group_closed}
use Rattle.rq_engine.specs.declared.event.Event.TheVariants as event
use Rattle.rq_engine.specs.declared.event.Reply.{Reply}
use Rattle.rq_engine.specs.declared.event.Reply.TheVariants as reply
use Rattle.rq_core.specs.Devices.{mem_pages}
use Rattle.rq_cases.specs.Applied.{Makes}

-- whatever store, transaction and operation
pub record StartsAreTested (old new : OpenStore MemPages MemLog) (t : Txn) (sub : Sub) : Type 0 where
  -- what begins where a test holds
  pub send_beyond_the_cells : (g tag : ℕ) (body : _) → cell_count old.state.sizes ≤ old.state.cells_in_use
      → Makes old (event.StartSend t g tag body) (reply.Started sub) new → ⊥
  pub send_to_a_closed_group : (g tag : ℕ) (body : _) → group_closed old.state g ≡ true
      → Makes old (event.StartSend t g tag body) (reply.Started sub) new → ⊥
  pub receive_over_a_full_log : log_full (ledger_of old.state) 4 ≡ true
      → Makes old (event.StartReceive t) (reply.Started sub) new → ⊥
  pub receive_from_over_a_full_log : (g : ℕ) → log_full (ledger_of old.state) 4 ≡ true
      → Makes old (event.StartReceiveFrom t g) (reply.Started sub) new → ⊥
  pub close_again : (g : ℕ) → group_closed old.state g ≡ true → Makes old (event.StartClose t g) (reply.Started sub) new → ⊥
  pub mark_beyond_the_clients : (c tag : ℕ) → client_count old.state.sizes ≤ c
      → Makes old (event.StartMark t c tag) (reply.Started sub) new → ⊥
  pub inverse_without_an_abort : is_aborting (found t (ledger_of old.state).open_ones) ≡ false
      → Makes old (event.UndoNext t) (reply.Started sub) new → ⊥
  -- what begins with other ends than its own
  pub another_end_of_a_send : (g tag : ℕ) (body : _) → new.state.ends ≢ with_end t (Sending g) old.state.ends
      → Makes old (event.StartSend t g tag body) (reply.Started sub) new → ⊥
  pub another_end_of_a_receive : (g : ℕ) → new.state.ends ≢ with_end t (Receiving g) old.state.ends
      → Makes old (event.StartReceiveFrom t g) (reply.Started sub) new → ⊥
  pub another_end_of_a_close : (g : ℕ) → new.state.ends ≢ with_end t (Sending g) old.state.ends
      → Makes old (event.StartClose t g) (reply.Started sub) new → ⊥
  pub another_end_of_a_mark : (c tag : ℕ) → new.state.ends ≢ with_end t (Marking c) old.state.ends
      → Makes old (event.StartMark t c tag) (reply.Started sub) new → ⊥
  pub end_of_an_inverse : new.state.ends ≢ old.state.ends
      → Makes old (event.UndoNext t) (reply.Started sub) new → ⊥
  -- what is refused by a test that doesn't hold, or behind one that does
  pub full_for_nothing : (g tag : ℕ) (body : _) → old.state.cells_in_use < cell_count old.state.sizes
      → Makes old (event.StartSend t g tag body) (reply.Refused why.Full) new → ⊥
  pub refused_by_the_test_of_another : Makes old (event.StartReceive t) (reply.Refused why.Full) new → ⊥
  pub latched_behind_a_test : (g tag : ℕ) (body : _) → group_closed old.state g ≡ true
      → Makes old (event.StartSend t g tag body) (reply.Refused why.Latched) new → ⊥

pub record PagesAreKeptUp (old new : OpenStore MemPages MemLog) (t : Txn) : Type 0 where
  -- a page that didn't count as changed reads otherwise, or one that no longer does reads not as its image
  pub clean_page_lost : (r : Reply) (page : ℕ) → is_changed old.changed page ≡ false
      → mem_pages.seen new.pages page ≢ mem_pages.seen old.pages page → Makes old (event.StartReceive t) r new → ⊥
  pub page_not_written : (r : Reply) (page : ℕ) → is_changed old.changed page ≡ true → is_changed new.changed page ≡ false
      → mem_pages.seen new.pages page ≢ image_at old.state.images page → Makes old (event.StartReceive t) r new → ⊥
  -- a page could not be written out, and none was to be
  pub nothing_to_write_out : ((page : ℕ) → is_changed new.changed page ≡ false)
      → Makes old (event.StartReceive t) (reply.Refused why.DiskWrite) new → ⊥
  pub none_to_write_out : ((page : ℕ) → is_changed new.changed page ≡ true
      → old.state.forced < lsn_of (image_at new.state.images page))
      → Makes old (event.StartReceive t) (reply.Refused why.DiskWrite) new → ⊥
  -- a content that writes, or takes a page for written; a step that reads
  pub content_written : mem_pages.seen new.pages ≢ mem_pages.seen old.pages → KeepsUp mem_pages Show old new → ⊥
  pub content_unmarked : new.changed ≢ old.changed → KeepsUp mem_pages Show old new → ⊥
  pub step_left_changed : (n : ℕ) → new ≢ old → KeepsUp mem_pages (Step t n) old new → ⊥

pub record StartsAreJudged : Type 0 where
  pub tested : (old new : OpenStore MemPages MemLog) (t : Txn) (sub : Sub) → StartsAreTested old new t sub
  pub kept_up : (old new : OpenStore MemPages MemLog) (t : Txn) → PagesAreKeptUp old new t
