-- What is so of the devices of a world.
use Rattle.std.proofs.Common.{◌≡◌, ℕ, ◌≤◌, List, [], sym, ◌∙◌, ap, subst}
use Rattle.std.proofs.lemmas.List.{append-nil}
use Rattle.rq_disk.specs.Device.{Images, Leaves, Only}
use Rattle.rq_disk.specs.Memory.{LogState, MayBe, MayLeave, fresh_log, log_count, log_reads, log_seen, pages_count, pages_seen, reads}
use Rattle.rq_disk.specs.Shown.{log_of, pages_of}
use Rattle.rq_disk.specs.declared.device.LogDevice as log_device
use Rattle.rq_disk.specs.declared.device.PageDevice as page_device
use Rattle.rq_disk.specs.declared.mem_log.MemLog.{MemLog}
use Rattle.rq_disk.specs.declared.mem_pages.MemPages.{MemPages}
use Rattle.rq_disk.proofs.KeptLog.{fresh_only}
use Rattle.rq_log.proofs.Runs.{ends_all}
use Rattle.rq_log.specs.Counted.{LastLsn}
use Rattle.rq_engine.specs.Devices.{EachPair, Path}
use Rattle.rq_engine.specs.Devices.Path.{Log, Pages, Start}
use Rattle.rq_page.specs.Sizes.{Sizes, IsInRange}
use Rattle.rq_store.specs.Fitting.{AllFit}
use Rattle.rq_store.proofs.WorkedFits.{whole_empty}
use Rattle.rq_core.specs.Devices.{mem_pages, mem_log}
use Rattle.rq_core.specs.Runs.{IsFresh}
use Rattle.rq_core.specs.Happened.{IsCrashed}

-- what has Q at each moment of a run of calls has it behind the last
module _ {P L : Type 0} (p : page_device.Ghosts P) (l : log_device.Ghosts L) (now_p : (d : P) (t : ℕ) (c : Images) → t ≤ p.moment d → Leaves (p.may_be d) c → p.left_since d t c)
    (now_l : (d : L) (t : ℕ) (c : List ℕ) → t ≤ l.moment d → l.may_leave d c → l.left_since d t c) where
  pub path_end : {Q : Images → List ℕ → Type 0} {pages now : P} {log new : L} → Path p l Q pages log now new → EachPair p l now new Q
  path_end (Start each) = each
  path_end (Pages path run) = λ images bytes a b. run.each images (now_p _ _ images run.later a) bytes b
  path_end (Log path run) = λ images bytes a b. run.each bytes (now_l _ _ bytes run.later b) images a

pub page_now : (d : MemPages) (t : ℕ) (c : Images) → t ≤ mem_pages.moment d → Leaves (mem_pages.may_be d) c → mem_pages.left_since d t c
page_now d t c since may = pages_count d.first.items d.calls.items t c since may

pub log_now : (d : MemLog) (t : ℕ) (c : List ℕ) → t ≤ mem_log.moment d → mem_log.may_leave d c → mem_log.left_since d t c
log_now d t c since may = log_count d.start.value.items d.calls.items t c since may

pub some_page : (d : MemPages) (page : ℕ) → MayBe (pages_of d) page (reads (pages_of d) page)
some_page d page = pages_seen (pages_of d) page

pub some_log : (d : MemLog) → MayLeave (log_of d) (log_reads (log_of d))
some_log d = log_seen (log_of d)

-- of a log that is all forced a crash leaves all
all_left : (s : LogState) (bytes c : List ℕ) → s ≡ fresh_log bytes → MayLeave s c → c ≡ bytes
all_left s bytes c is may = fresh_only bytes c (subst (λ t. MayLeave t c) is may)

fresh_reads : (s : LogState) (bytes : List ℕ) → s ≡ fresh_log bytes → log_reads s ≡ bytes
fresh_reads s bytes is = ap log_reads is ∙ append-nil bytes

-- a crash of both
pub crashes : (pages new_pages : MemPages) (log new_log : MemLog) (bytes : List ℕ) (n : ℕ) → Leaves (MayBe (pages_of pages)) (reads (pages_of new_pages)) → ((q : ℕ) → Only (reads (pages_of new_pages) q) (MayBe (pages_of new_pages) q))
    → log_of new_log ≡ fresh_log bytes → MayLeave (log_of log) (log_reads (log_of new_log)) → LastLsn (log_reads (log_of new_log)) n → IsCrashed mem_pages mem_log pages new_pages log new_log n
crashes pages new_pages log new_log bytes n may only is left holds =
    let all : (c : List ℕ) → MayLeave (log_of new_log) c → c ≡ log_reads (log_of new_log) = λ c b. all_left (log_of new_log) bytes c is b ∙ sym (fresh_reads (log_of new_log) bytes is) in
    record {
      pages_left = λ images a q. subst (MayBe (pages_of pages) q) (sym (only q (images q) (a q))) (may q);
      pages_only = only;
      log_left = λ c b. subst (MayLeave (log_of log)) (sym (all c b)) left;
      log_only = all;
      holds = holds;
    }

-- a store that was formatted
pub formatted : (z : Sizes) (pages : MemPages) (log : MemLog) (bytes : List ℕ) → IsInRange z → AllFit (MayBe (pages_of pages)) z [] → log_of log ≡ fresh_log bytes → bytes ≡ [] → IsFresh z pages log
formatted z pages log bytes range fit is none = record {
  range = range;
  left = λ images c a b. record {
    range = range;
    are_spelled = tt;
    is = ends_all [] c (all_left (log_of log) bytes c is b ∙ none);
    left = record {
      whole = whole_empty z;
      fits = record {
        superblock = fit.superblock (images 0) (a 0);
        headers = λ p low high. fit.headers p (images p) low high (a p);
        pages = λ p low high. fit.pages p (images p) low high (a p);
      };
      based = λ p low high. fit.based p (images p) low high (a p);
    };
  };
}
