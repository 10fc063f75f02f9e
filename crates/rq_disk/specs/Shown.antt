-- What the devices in memory show to contracts.
use Rattle.std.specs.Prelude.{length, ℕ, Bool}
use Rattle.rq_disk.specs.declared.mem_log.MemLog.{MemLog}
use Rattle.rq_disk.specs.declared.mem_pages.MemPages.{MemPages}
use Rattle.rq_disk.specs.declared.switch.Switch.{Switch}
use Rattle.rq_disk.specs.Memory.{LogState, log_after, PageState, pages_after}

-- the forced bytes of a log, and the records handed over since
abbrev pub log_of : MemLog → LogState
log_of m = log_after m.start.value.items m.calls.items

-- how many calls changed it since it was made, or since its last crash
abbrev pub log_moment : MemLog → ℕ
log_moment m = length m.calls.items

-- how often a call has failed
abbrev pub log_faults : MemLog → ℕ
log_faults m = m.failures

-- whether it has stopped
abbrev pub log_stopped : MemLog → Bool
log_stopped m = m.stopped

-- what makes its calls fail
abbrev pub log_switch : MemLog → Switch
log_switch m = m.switch

-- the images of pages at the last sync, and those written since
abbrev pub pages_of : MemPages → PageState
pages_of m = pages_after m.first.items m.calls.items

-- how many pages there are
abbrev pub page_count : MemPages → ℕ
page_count m = length m.first.items

-- how many calls changed them since they were made, or since their last crash
abbrev pub pages_moment : MemPages → ℕ
pages_moment m = length m.calls.items

-- how often a call has failed
abbrev pub pages_faults : MemPages → ℕ
pages_faults m = m.failures

-- whether they have stopped
abbrev pub pages_stopped : MemPages → Bool
pages_stopped m = m.stopped

-- what makes their calls fail
abbrev pub pages_switch : MemPages → Switch
pages_switch m = m.switch
