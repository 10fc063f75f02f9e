-- Each state of the worked run is sound: each call makes the next of the one before.
use Rattle.std.proofs.Common.{◌≡◌, ℕ, ◌+◌, ◌-◌, ◌<◌, List, [], ◌∷◌, map, None, false, refl, sym, ap, ◌∙◌, subst, arith, zero, suc, nat_eq}
use Rattle.std.proofs.lemmas.Bool.Decides.{nat_tests}
use Rattle.rq_groups.specs.Waiting.{waits}
use Rattle.rq_store.specs.Steps.{took, IsPutIn}
use Rattle.rq_model.specs.Content.{tag_after}
use Rattle.rq_model.specs.Tests.{below}
use Rattle.rq_model.specs.History.Call.{Begin, Start_send, Start_receive, Step, Finish, Commit, Force}
use Rattle.rq_model.specs.Replay.Reply.{Gave_txn, Gave_sub, Gave_lsn, Gave_sent, Gave_message, Gave_commit, Gave_forced}
use Rattle.rq_page.specs.Directories.{new_directory}
use Rattle.rq_page.specs.Sizes.{directory_at}
use Rattle.rq_views.specs.Items.{formatted_at}
use Rattle.rq_views.specs.Log.{Slots}
use Rattle.rq_views.specs.WorkedItems.{cell, sends, t1, t2, takes}
use Rattle.rq_views.specs.Stored.{slots_in, count_used}
use Rattle.rq_txn.specs.Rows.{fresh_row}
use Rattle.rq_store.specs.Opening.{messages_told, opened, sent_told as count_told, tag_told}
use Rattle.rq_groups.specs.Sent.{SentBy, sent_count, sent_tag}
use Rattle.rq_store.specs.Sends.{group_of, place_count}
use Rattle.rq_store.specs.Plans.{IsSendPlan, IsTakePlan}
use Rattle.rq_store.specs.State.{State}
use Rattle.rq_sound.specs.Calls.{sends_for}
use Rattle.rq_sound.specs.Counted.{sends_in}
use Rattle.rq_sound.specs.Sound.{IsSound}
use Rattle.rq_sound.specs.ModelSteps.{IsModelStep}
use Rattle.rq_groups.proofs.Clients.{at_sender}
use Rattle.rq_sound.proofs.AbortSteps.{abort_steps}
use Rattle.rq_sound.proofs.Opened.{formatted_sound}
use Rattle.rq_engine.proofs.Standing.{commit_steps, finish_steps, start_steps, step_steps, take_steps}
use Rattle.rq_cases.specs.Store.{sizes, one_sent, groups_0, groups_1, groups_2, cells_0, cells_1, cells_2, fill_cell, count_sent, free_cell, count_taken, formatted_pages, filled_pages, sent_pages, freed_pages, taken_pages}
use Rattle.rq_cases.specs.Run.{send_under, take_under, busy_row, done_row, did_send, did_take, waits_of_0, fresh, begun, send_started, cell_filled, group_counted, sent, committed, forced, begun_again, take_started, cell_freed, take_counted, taken, all_committed}
use Rattle.rq_cases.proofs.Pages.{range, are_formatted, groups_0_long, groups_1_long, groups_2_long, cells_1_long, cells_2_long, free_told, cell_told, new_told, sent_told, taken_told, slots_put, headers_with, superblock_with, others_of_1, others_of_2, fill_written, sent_written, free_written, taken_written}

-- what the formatted pages hold, and what is counted of it
abbrev first_state : State
first_state = opened sizes formatted_pages []

pub first_sound : IsSound first_state
first_sound = formatted_sound sizes formatted_pages range are_formatted

first_slots : slots_in sizes formatted_pages ≡ formatted_at sizes
first_slots = λ i. λ a. first_sound.pages a i

pub first_cells : count_used sizes (slots_in sizes formatted_pages) ≡ 0
first_cells = ap (count_used sizes) first_slots

abbrev waiting_of : Slots → List ℕ
waiting_of q = map (λ s. messages_told (q (directory_at s))) (below 15)

first_waiting : waiting_of (slots_in sizes formatted_pages) ≡ waits_of_0 0
first_waiting = ap waiting_of first_slots

abbrev sent_of : Slots → SentBy
sent_of q = record {
  counts = map (λ s. count_told (q (directory_at s))) (below 15);
  tags = map (λ s. tag_told (q (directory_at s))) (below 15);
}

first_sent : sent_of (slots_in sizes formatted_pages) ≡ fresh.sent
first_sent = ap sent_of first_slots

first_is : first_state ≡ fresh
first_is =
    ap (λ (n : ℕ). record first_state { cells_in_use = n }) first_cells
    ∙ ap (λ (ws : List ℕ). record first_state { cells_in_use = 0; waiting = ws }) first_waiting
    ∙ ap (λ (sent : SentBy). record first_state { cells_in_use = 0; waiting = waits_of_0 0; sent = sent }) first_sent

pub fresh_sound : IsSound fresh
fresh_sound = subst IsSound first_is first_sound

-- 1.1 sends
pub begin : IsModelStep fresh Begin (Gave_txn t1) begun
begin = abort_steps.begins fresh fresh_sound refl refl

pub send_plan : IsSendPlan sizes (slots_in sizes formatted_pages) (send_under 0) 0 7 (104 ∷ [])
send_plan = record {
  directory = new_directory;
  new = 33;
  old = None;
  made = refl;
  below = omega arith;
  directory_is = begin.sound.pages 17;
  cell = record { above = omega arith; below = omega arith; slot = omega arith };
  free = begin.sound.pages 33;
  beside = refl;
  aim = refl;
  writes = λ i. record { at = 17; before = new_told.0 i; after = sent_told.0 i }
      ∷ record { at = 33; before = free_told.0 i; after = cell_told.0 i } ∷ [];
  reads = refl;
}

pub start_send : IsModelStep begun (Start_send t1 (record { sender = 0; tag = 7; body = 104 ∷ [] })) (Gave_sub t1 1) send_started
start_send =
    start_steps begun begin.sound t1 (fresh_row t1) (send_under 0) 0 7 (104 ∷ []) refl refl (λ page of. refl) refl
    send_plan
    (refl, (refl, (refl, (refl, (refl, (refl, (refl, (refl, (refl, (refl, tt))))))))))

pub fill_put : IsPutIn send_started fill_cell filled_pages
fill_put = record {
  page = fill_written;
  others = others_of_2 0 0 2 groups_0 cells_0 cells_1;
  superblock = superblock_with 0 2 groups_0 cells_1;
  headers = headers_with 0 2 groups_0 cells_1 (omega arith) (omega arith) groups_0_long cells_1_long;
}

pub step_cell : IsModelStep send_started (Step t1 1) (Gave_lsn 2) cell_filled
step_cell =
    step_steps send_started start_send.sound t1 (busy_row t1 (send_under 0)) (send_under 0) fill_cell filled_pages refl
    refl refl
    (slots_put sizes formatted_pages filled_pages 33 fill_cell.after 2 (omega arith) fill_written fill_put.others)
    fill_put free_told.1 cell_told.1 refl

pub sent_put : IsPutIn cell_filled count_sent sent_pages
sent_put = record {
  page = sent_written;
  others = others_of_1 0 3 2 groups_0 groups_1 cells_1;
  superblock = superblock_with 3 2 groups_1 cells_1;
  headers = headers_with 3 2 groups_1 cells_1 (omega arith) (omega arith) groups_1_long cells_1_long;
}

pub step_group : IsModelStep cell_filled (Step t1 1) (Gave_lsn 3) group_counted
step_group =
    step_steps cell_filled step_cell.sound t1 (busy_row t1 (send_under 1)) (send_under 1) count_sent sent_pages refl refl
    refl
    (slots_put sizes filled_pages sent_pages 17 count_sent.after 3 (omega arith) sent_written sent_put.others)
    sent_put new_told.1 sent_told.1 refl

pub finish_send : IsModelStep group_counted (Finish t1 1) Gave_sent sent
finish_send =
    finish_steps group_counted step_group.sound t1 (busy_row t1 (send_under 2)) (send_under 2) (sends 0) (waits_of_0 0)
    refl refl refl refl (λ g. omega arith) refl

-- the message of sender 0 waits once it is committed, and no other does
sent_waits : (g : ℕ) → g < 15 → waits (waits_of_0 1) g ≡ waits (waits_of_0 0) g + sends_in g (done_row t1 did_send)
sent_waits zero low = refl
sent_waits (suc g) low = (let e : nat_eq 0 (suc g) ≡ false = grind (arith, nat_tests) in rw e (omega arith))

-- it is counted then, with its tag
sent_counted : (g : ℕ) → g < 15 → sent_count committed.sent g ≡ sent_count sent.sent g + sends_in g (done_row t1 did_send)
sent_counted zero low = refl
sent_counted (suc g) low = (let e : nat_eq 0 (suc g) ≡ false = grind (arith, nat_tests) in rw e (omega arith))

sent_tagged : (g : ℕ) → g < 15
    → sent_tag committed.sent g ≡ tag_after (sent_tag sent.sent g) (sends_for g (done_row t1 did_send))
sent_tagged zero low = refl
sent_tagged (suc g) low = (let e : nat_eq 0 (suc g) ≡ false = grind (arith, nat_tests) in rw e refl)

-- and so at each place: the store has senders alone
placed_counted : (i : ℕ) → i < place_count sizes
    → sent_count committed.sent i ≡ sent_count sent.sent i + sends_in (group_of sizes i) (done_row t1 did_send)
placed_counted i low =
    subst (λ g. sent_count committed.sent i ≡ sent_count sent.sent i + sends_in g (done_row t1 did_send))
    (sym (at_sender 15 i low)) (sent_counted i low)

placed_tagged : (i : ℕ) → i < place_count sizes
    → sent_tag committed.sent i ≡ tag_after (sent_tag sent.sent i) (sends_for (group_of sizes i) (done_row t1 did_send))
placed_tagged i low =
    subst (λ g. sent_tag committed.sent i ≡ tag_after (sent_tag sent.sent i) (sends_for g (done_row t1 did_send)))
    (sym (at_sender 15 i low)) (sent_tagged i low)

pub commit_send : IsModelStep sent (Commit t1) (Gave_commit (record { txn = t1; lsn = 5 })) committed
commit_send =
    commit_steps sent finish_send.sound t1 (done_row t1 did_send) 1 (waits_of_0 1) committed.sent refl refl refl refl
    sent_waits placed_counted placed_tagged refl refl

pub force : IsModelStep committed Force (Gave_forced 5) forced
force = abort_steps.forces committed commit_send.sound refl

-- 1.2 takes
pub begin_again : IsModelStep forced Begin (Gave_txn t2) begun_again
begin_again = abort_steps.begins forced force.sound refl refl

pub take_plan : IsTakePlan sizes (slots_in sizes sent_pages) (take_under 0) 0
take_plan = record {
  directory = one_sent;
  cell = cell 0;
  next = None;
  made = refl;
  below = omega arith;
  directory_is = begin_again.sound.pages 17 ∙ sent_told.0;
  head = record { above = omega arith; below = omega arith; slot = omega arith };
  head_is = begin_again.sound.pages 33 ∙ cell_told.0;
  beside = refl;
  aim = refl;
  writes = λ i. record { at = 17; before = sent_told.0 i; after = taken_told.0 i }
      ∷ record { at = 33; before = cell_told.0 i; after = free_told.0 i } ∷ [];
  reads = refl;
}

pub start_take : IsModelStep begun_again (Start_receive t2) (Gave_sub t2 1) take_started
start_take =
    take_steps begun_again begin_again.sound t2 (fresh_row t2) (take_under 0) 0 refl refl (λ page of. refl) refl
    take_plan (omega arith)
    (refl, (refl, (refl, (refl, (refl, (refl, (refl, tt)))))))

pub free_put : IsPutIn take_started free_cell freed_pages
free_put = record {
  page = free_written;
  others = others_of_2 3 2 6 groups_1 cells_1 cells_2;
  superblock = superblock_with 3 6 groups_1 cells_2;
  headers = headers_with 3 6 groups_1 cells_2 (omega arith) (omega arith) groups_1_long cells_2_long;
}

pub step_free : IsModelStep take_started (Step t2 1) (Gave_lsn 6) cell_freed
step_free =
    step_steps take_started start_take.sound t2 (busy_row t2 (take_under 0)) (take_under 0) free_cell freed_pages refl
    refl refl
    (slots_put sizes sent_pages freed_pages 33 free_cell.after 6 (omega arith) free_written free_put.others)
    free_put cell_told.1 free_told.1 refl

pub taken_put : IsPutIn cell_freed count_taken taken_pages
taken_put = record {
  page = taken_written;
  others = others_of_1 3 7 6 groups_1 groups_2 cells_2;
  superblock = superblock_with 7 6 groups_2 cells_2;
  headers = headers_with 7 6 groups_2 cells_2 (omega arith) (omega arith) groups_2_long cells_2_long;
}

pub step_taken : IsModelStep cell_freed (Step t2 1) (Gave_lsn 7) take_counted
step_taken =
    step_steps cell_freed step_free.sound t2 (busy_row t2 (take_under 1)) (take_under 1) count_taken taken_pages refl
    refl refl
    (slots_put sizes freed_pages taken_pages 17 count_taken.after 7 (omega arith) taken_written taken_put.others)
    taken_put sent_told.1 taken_told.1 refl

-- it waits no more
taken_waits : (g : ℕ) → waits (waits_of_0 0) g ≡ waits (waits_of_0 1) g - took g (takes 0)
taken_waits zero = refl
taken_waits (suc g) = (let e : nat_eq 0 (suc g) ≡ false = grind (arith, nat_tests) in rw e (omega arith))

pub finish_take : IsModelStep take_counted (Finish t2 1) (Gave_message (record { sender = 0; tag = 7; body = 104 ∷ [] })) taken
finish_take =
    finish_steps take_counted step_taken.sound t2 (busy_row t2 (take_under 2)) (take_under 2) (takes 0) (waits_of_0 0)
    refl refl refl refl taken_waits refl

took_none : (g : ℕ) → g < 15 → waits (waits_of_0 0) g ≡ waits (waits_of_0 0) g + sends_in g (done_row t2 did_take)
took_none g low = omega arith

pub commit_take : IsModelStep taken (Commit t2) (Gave_commit (record { txn = t2; lsn = 9 })) all_committed
commit_take =
    commit_steps taken finish_take.sound t2 (done_row t2 did_take) 0 (waits_of_0 0) taken.sent refl refl refl refl
    took_none (λ g low. omega arith) (λ g low. refl) refl refl
