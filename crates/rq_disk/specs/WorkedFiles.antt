-- Worked calls of files: those of an honest one, and those of none; what a crash may leave, and what it may not.
use Rattle.std.specs.Prelude.{◌≡◌, ℕ, List, [], ◌∷◌, length, true, false}
use Rattle.rq_disk.specs.Device.{Images, LogAsk as Logs, PageAsk as Pages}
use Rattle.rq_disk.specs.FileCalls.{has_failed}
use Rattle.rq_disk.specs.FileCalls.FileCall.{Gave, Denied, Took, Tried, Cut, Uncut, Replaced, Unreplaced, Synced, Missed}
use Rattle.rq_disk.specs.LogFile.{LogAgrees, LogErred, log_may_leave}
use Rattle.rq_disk.specs.PageFile.{are_whole, PageErred, PagesAgree, page_may_be}

-- images of a byte
abbrev pub blank : Images
blank page = 0 ∷ []

abbrev pub seven : List ℕ
seven = 7 ∷ []

-- a record without a byte
abbrev pub empty : List ℕ
empty = 0 ∷ 0 ∷ 0 ∷ 0 ∷ []

pub record FilesAreJudged : Type 0 where
  -- page 1 is read as it was written, and page 2 as it was
  pub pages_read : PagesAgree blank (Gave 8192 (0 ∷ []) ∷ Gave 4096 seven ∷ Synced ∷ Took 4096 seven ∷ [])
  -- a write is forgotten, or one that failed is shown
  pub page_forgotten : PagesAgree blank (Gave 4096 (0 ∷ []) ∷ Took 4096 seven ∷ []) → ⊥
  pub page_of_none : PagesAgree blank (Gave 4096 seven ∷ Tried 4096 seven ∷ []) → ⊥
  -- no page begins there
  pub page_astray : PagesAgree blank (Gave 4096 seven ∷ Took 4097 seven ∷ []) → ⊥
  -- a write that failed may be left, and may not
  pub page_tried : page_may_be blank (Tried 4096 seven ∷ []) 1 seven
  pub page_stayed : page_may_be blank (Tried 4096 seven ∷ []) 1 (0 ∷ [])
  -- what was synced is left
  pub page_synced : page_may_be blank (Synced ∷ Took 4096 seven ∷ []) 1 (0 ∷ []) → ⊥
  pub page_missed : page_may_be blank (Missed ∷ Took 4096 seven ∷ []) 1 (0 ∷ [])
  -- a sync that failed, tried again with success, has kept nothing for sure
  pub page_missed_synced : page_may_be blank (Synced ∷ Missed ∷ Took 4096 seven ∷ []) 1 (0 ∷ [])
  pub page_missed_whole : page_may_be blank (Synced ∷ Missed ∷ Took 4096 seven ∷ []) 1 seven
  pub page_of_nobody : page_may_be blank (Synced ∷ Missed ∷ Took 4096 seven ∷ []) 1 (8 ∷ []) → ⊥
  -- whole pages, where pages begin
  pub whole : (bytes : List ℕ) → length bytes ≡ 4096
      → are_whole (Gave 8192 bytes ∷ Synced ∷ Took 0 bytes ∷ Missed ∷ Tried 4096 bytes ∷ []) ≡ true
  -- two reads that no file gives, so that nothing would be claimed behind them
  pub in_part : are_whole (Gave 4096 (0 ∷ 0 ∷ []) ∷ Gave 4096 (0 ∷ []) ∷ []) ≡ false
  pub no_file : (held : Images) → PagesAgree held (Gave 4096 (0 ∷ 0 ∷ []) ∷ Gave 4096 (0 ∷ []) ∷ []) → ⊥
  pub astray : (bytes : List ℕ) → are_whole (Took 4097 bytes ∷ []) ≡ false
  -- a byte that was there and the first of those that were appended
  pub log_read : LogAgrees (9 ∷ []) 1 (Gave 0 (9 ∷ 0 ∷ 0 ∷ []) ∷ Took 1 empty ∷ [])
  pub log_otherwise : LogAgrees (9 ∷ []) 1 (Gave 1 (5 ∷ []) ∷ Took 1 empty ∷ []) → ⊥
  -- it was longer than was told
  pub log_longer : LogAgrees (9 ∷ 9 ∷ []) 1 [] → ⊥
  pub log_stayed : log_may_leave (9 ∷ []) (Tried 1 empty ∷ []) (9 ∷ [])
  pub log_torn : log_may_leave (9 ∷ []) (Tried 1 empty ∷ []) (9 ∷ 0 ∷ 0 ∷ [])
  pub log_whole : log_may_leave (9 ∷ []) (Tried 1 empty ∷ []) (9 ∷ empty)
  pub log_forced : log_may_leave (9 ∷ []) (Synced ∷ Took 1 empty ∷ []) (9 ∷ []) → ⊥
  pub log_missed_forced : log_may_leave (9 ∷ []) (Synced ∷ Missed ∷ Took 1 empty ∷ []) (9 ∷ [])
  pub log_missed_whole : log_may_leave (9 ∷ []) (Synced ∷ Missed ∷ Took 1 empty ∷ []) (9 ∷ empty)
  pub log_of_nobody : log_may_leave (9 ∷ []) (Synced ∷ Missed ∷ Took 1 empty ∷ []) [] → ⊥
  -- a cut takes what is behind; once it is synced nothing else is left, before that more of it may be, and never less
  pub log_cut : LogAgrees (9 ∷ []) 1 (Gave 0 (9 ∷ 0 ∷ []) ∷ Synced ∷ Cut 2 ∷ Took 1 empty ∷ [])
  pub log_cut_stays : log_may_leave (9 ∷ []) (Synced ∷ Cut 2 ∷ Took 1 empty ∷ []) (9 ∷ empty) → ⊥
  pub log_cut_part : log_may_leave (9 ∷ []) (Uncut 2 ∷ Synced ∷ Took 1 empty ∷ []) (9 ∷ 0 ∷ 0 ∷ [])
  pub log_cut_less : log_may_leave (9 ∷ []) (Cut 2 ∷ Synced ∷ Took 1 empty ∷ []) (9 ∷ []) → ⊥
  -- what takes its place is left alone, with nothing else, and later writes go behind it; where that failed, the old or the new
  pub log_replaced : LogAgrees (9 ∷ []) 1 (Gave 0 (0 ∷ 0 ∷ 0 ∷ 0 ∷ 7 ∷ []) ∷ Took 4 seven ∷ Replaced empty ∷ Took 1 seven ∷ [])
  pub log_replaced_stays : log_may_leave (9 ∷ []) (Replaced empty ∷ Took 1 seven ∷ []) (9 ∷ []) → ⊥
  pub log_unreplaced_old : log_may_leave (9 ∷ []) (Unreplaced empty ∷ Took 1 seven ∷ []) (9 ∷ seven)
  pub log_unreplaced_new : log_may_leave (9 ∷ []) (Unreplaced empty ∷ Took 1 seven ∷ []) empty
  pub log_unreplaced_part : log_may_leave (9 ∷ []) (Unreplaced empty ∷ Took 1 seven ∷ []) (0 ∷ 0 ∷ []) → ⊥
  -- which calls end a device
  pub ends : has_failed (Gave 0 seven ∷ Missed ∷ Took 0 seven ∷ []) ≡ true
  pub goes_on : has_failed (Synced ∷ Gave 0 seven ∷ Denied 0 ∷ Took 0 seven ∷ []) ≡ false
  -- A call errs behind a write or a sync that failed, or in its own call of the file. It errs neither for an earlier one nor
  -- for one of another kind.
  pub erred_behind : PageErred 9 (Pages.Reads 1) (Missed ∷ []) (Missed ∷ [])
  pub erred_in_it : PageErred 9 (Pages.Reads 1) (Took 0 seven ∷ []) (Denied 4096 ∷ Took 0 seven ∷ [])
  pub erred_outside : PageErred 1 (Pages.Writes 1 seven) [] []
  pub erred_for_nothing : PageErred 9 (Pages.Reads 1) (Took 0 seven ∷ []) (Took 0 seven ∷ []) → ⊥
  pub erred_for_an_earlier_one : PageErred 9 (Pages.Reads 1) (Denied 4096 ∷ []) (Denied 4096 ∷ []) → ⊥
  pub synced_for_a_read : PageErred 9 Pages.Syncs [] (Denied 0 ∷ []) → ⊥
  pub forced_for_a_read : LogErred 9 Logs.Forces [] (Denied 0 ∷ []) → ⊥
  pub read_for_a_sync : LogErred 9 (Logs.Reads 0) [] (Missed ∷ []) → ⊥
