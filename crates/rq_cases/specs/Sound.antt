-- The worked run: each of its states is sound, each call a step of the model; and what is not so of its transactions.
use Rattle.std.specs.Prelude.{◌≡◌, ℕ, ◌<◌, List, length}
use Rattle.rq_bytes.specs.Number.{AreBytes}
use Rattle.rq_model.specs.History.Call.{Begin, Commit, Finish, Force, Start_receive, Start_send, Step}
use Rattle.rq_model.specs.Replay.Reply.{Gave_commit, Gave_forced, Gave_lsn, Gave_message, Gave_sent, Gave_sub, Gave_txn}
use Rattle.rq_views.specs.Stored.{slots_in}
use Rattle.rq_views.specs.WorkedItems.{t1, t2}
use Rattle.rq_store.specs.Fitting.{image_in}
use Rattle.rq_sound.specs.Sound.{IsSound}
use Rattle.rq_sound.specs.ModelSteps.{IsModelStep}
use Rattle.rq_chain_check.specs.Links.{AreLinked}
use Rattle.rq_store.specs.Worked.{AreFormatted}
use Rattle.rq_core.specs.Worked.{hello}
use Rattle.rq_cases.specs.Store.{sizes, formatted_pages}
use Rattle.rq_cases.specs.Run as run

-- 4,096 bytes
abbrev pub IsImageOfPage : List ℕ → Type 0
IsImageOfPage image = (length image ≡ 4096) × AreBytes image

pub record RunIsSound : Type 0 where
  pub images : (p : ℕ) → p < 3 → IsImageOfPage (image_in formatted_pages p)
  pub formatted : AreFormatted sizes formatted_pages
  pub fresh : IsSound run.fresh
  pub begun : IsModelStep run.fresh Begin (Gave_txn t1) run.begun
  pub started : IsModelStep run.begun (Start_send t1 hello) (Gave_sub t1 1) run.send_started
  pub cell_filled : IsModelStep run.send_started (Step t1 1) (Gave_lsn 2) run.cell_filled
  pub group_counted : IsModelStep run.cell_filled (Step t1 1) (Gave_lsn 3) run.group_counted
  pub sent : IsModelStep run.group_counted (Finish t1 1) Gave_sent run.sent
  pub committed : IsModelStep run.sent (Commit t1) (Gave_commit (record { txn = t1; lsn = 5 })) run.committed
  pub forced : IsModelStep run.committed Force (Gave_forced 5) run.forced
  pub begun_again : IsModelStep run.forced Begin (Gave_txn t2) run.begun_again
  pub take_started : IsModelStep run.begun_again (Start_receive t2) (Gave_sub t2 1) run.take_started
  pub cell_freed : IsModelStep run.take_started (Step t2 1) (Gave_lsn 6) run.cell_freed
  pub take_counted : IsModelStep run.cell_freed (Step t2 1) (Gave_lsn 7) run.take_counted
  pub taken : IsModelStep run.take_counted (Finish t2 1) (Gave_message hello) run.taken
  pub all_committed : IsModelStep run.taken (Commit t2) (Gave_commit (record { txn = t2; lsn = 9 })) run.all_committed
  -- chains are whole between operations, and not half way through one
  pub linked : AreLinked sizes (slots_in sizes run.sent.images)
  pub half_way : AreLinked sizes (slots_in sizes run.cell_filled.images) → ⊥
