-- What devices in memory hold and may leave, as the worked run finds them.
use Rattle.std.proofs.Common.{◌≡◌, ℕ, zero, suc, ◌+◌, ◌-◌, ◌≤◌, List, [], ◌∷◌, ◌++◌, length, take, drop, sym, ap, ◌∙◌, subst, inl, inr, arith}
use Rattle.std.proofs.lemmas.List.{append-nil, nil_from_length}
use Rattle.std.specs.Prelude.{Vec}
use Rattle.std.specs.declared.alloc.Global.{Global}
use Rattle.rq_model.specs.declared.record.Record.{Record}
use Rattle.rq_disk.specs.Device.{Images, Leaves, Only}
use Rattle.rq_disk.specs.Memory.{LogState, LogSince, MayBe, MayLeave, PageState, fresh_pages, log_after, log_only, log_reads, pages_after, pages_only}
use Rattle.rq_disk.specs.Shown.{log_of, pages_of}
use Rattle.rq_disk.specs.declared.mem_log.LogCall.{LogCall}
use Rattle.rq_disk.specs.declared.mem_log.LogCall.TheVariants.{Append, Force}
use Rattle.rq_disk.specs.declared.mem_log.MemLog.{MemLog}
use Rattle.rq_disk.specs.declared.mem_pages.MemPages.{MemPages}
use Rattle.rq_disk.specs.declared.mem_pages.PageCall.TheVariants.{Write}
use Rattle.rq_disk.proofs.KeptLog.{fresh_only}
use Rattle.rq_log.specs.Crash.{LeavesOnly}
use Rattle.rq_model.specs.Bases.{HasNoBase, gone}
use Rattle.rq_model.proofs.Bases.{all_stand, no_base, none_gone, plain_drop}
use Rattle.rq_log.specs.Spelled.{AreFirst, AreSpelled, spelled, spelled_all, IsBeginning}
use Rattle.rq_log.proofs.Parsing.{told_all}
use Rattle.rq_log.proofs.Moments.{started}
use Rattle.rq_log.proofs.Runs.{all_of, ends_all, go_on_all, go_on_newer, some_newer, spelled_whole}
use Rattle.rq_store.specs.Fitting.{AllFit, image_in}
use Rattle.rq_store.specs.Steps.{Continues}
use Rattle.rq_store.proofs.Based.{unbased}
use Rattle.rq_store.proofs.Cutting.{all_fit_longer, only_fit}
use Rattle.rq_store.proofs.Formatting.{formatted_fits}
use Rattle.rq_core.specs.Devices.{mem_log, mem_pages}
use Rattle.rq_cases.specs.Opened.{AreNewPages, IsForcedSince, IsNewLog, IsWrittenSince}
use Rattle.rq_cases.specs.Store.{formatted_pages, sizes}
use Rattle.rq_cases.proofs.Pages.{are_formatted, range}

-- laws of both devices
pub pages_now : (d : MemPages) (c : Images) → mem_pages.left_since d (mem_pages.moment d) c → Leaves (mem_pages.may_be d) c
pages_now d c left = pages_only d.first.items d.calls.items c left

pub log_now : (d : MemLog) (c : List ℕ) → mem_log.left_since d (mem_log.moment d) c → mem_log.may_leave d c
log_now d c left = log_only d.start.value.items d.calls.items c left

-- a beginning of a log without a Base
first_is : (all : List Record) (kept : ℕ) (c : List ℕ) → HasNoBase all → AreFirst all kept c → IsBeginning all kept c
first_is all kept c plain first =
    let e : kept ≡ kept - gone all = (let none = none_gone all plain in omega (arith, none)) in
    subst (λ (l : List Record). AreFirst l (kept - gone all) c) (sym (all_stand all plain)) (subst (λ (n : ℕ). AreFirst all n c) e first)

-- pages with these images, with no call since
pub only_images : (images : List (List ℕ)) (d : MemPages) → AreNewPages d images → (p : ℕ) (c : List ℕ) → mem_pages.may_be d p c → c ≡ image_in images p
only_images images d n p c may = at (subst (λ (s : PageState). MayBe s p c) n.pages may) where
  at : MayBe (fresh_pages images) p c → c ≡ image_in images p
  at (inl e) = e
  at (inr none) = absurd none

-- pages that are formatted
module _ (d : MemPages) (n : AreNewPages d formatted_pages) where
  pub only_formatted : (p : ℕ) (c : List ℕ) → mem_pages.may_be d p c → c ≡ image_in formatted_pages p
  only_formatted = only_images formatted_pages d n

  pub pages_fit : (log : List Record) → Continues [] log → HasNoBase log → AllFit (mem_pages.may_be d) sizes log
  pages_fit log c plain =
      let fit = formatted_fits sizes (image_in formatted_pages) range are_formatted in
      all_fit_longer (mem_pages.may_be d) sizes [] log c (no_base log plain)
      (only_fit (image_in formatted_pages) (mem_pages.may_be d) sizes [] only_formatted fit (unbased sizes [] (image_in formatted_pages) tt fit))

-- a log of these records, with no call since
module _ (d : MemLog) (records : List Record) (n : IsNewLog d records) where
  -- what it was at first, and that no call was made since
  pub new_calls : d.calls.items ≡ []
  new_calls = nil_from_length d.calls.items n.moment

  pub new_bytes : d.start.value.items ≡ spelled records
  new_bytes = ap (λ (s : LogState). s.forced) (sym (ap (log_after d.start.value.items) new_calls) ∙ n.log)

  pub log_left : mem_log.may_leave d (spelled records)
  log_left = subst (λ (s : LogState). MayLeave s (spelled records)) (sym n.log) (0, sym (append-nil (spelled records)))

  pub log_seen : mem_log.seen d ≡ spelled records
  log_seen = ap log_reads n.log ∙ append-nil (spelled records)

  pub only_records : (c : List ℕ) → mem_log.may_leave d c → c ≡ spelled records
  only_records c may = fresh_only (spelled records) c (subst (λ (s : LogState). MayLeave s c) n.log may)

  -- of a longer log it leaves a beginning, now and at each moment since
  module _ (all : List Record) (plain : HasNoBase all) (kept lost : ℕ) (some : lost + kept ≤ length all) (drops : drop lost all ≡ records) where
    pub leaves_beginning : (c : List ℕ) → mem_log.may_leave d c → IsBeginning all kept c
    leaves_beginning c may =
        let is = only_records c may ∙ ap spelled (sym drops) ∙ ap spelled_all (all_stand (drop lost all) (plain_drop lost all plain)) in
        first_is all kept c plain (lost, some, ends_all (drop lost all) c is, λ forced. go_on_newer lost all c (go_on_all (drop lost all) c is))

    pub same_beginning : LeavesOnly mem_log d d (IsBeginning all kept)
    same_beginning = started mem_log d (IsBeginning all kept) (λ c left. leaves_beginning c (log_now d c left))

-- a log behind whose older records the newest are appended and forced
abbrev forced_after : Vec ℕ Global → List LogCall
forced_after run = Append run ∷ Force ∷ []

module _ (all : List Record) (plain : HasNoBase all) (kept count : ℕ) (told : AreSpelled all) (le : count + kept ≤ length all) where
  abbrev older : List Record
  older = drop count all

  abbrev log_then : Vec ℕ Global → LogState
  log_then run = log_after (spelled_all older) (forced_after run)

  module _ (run : Vec ℕ Global) (items : run.items ≡ spelled_all (take count all)) where
    all_bytes : spelled_all older ++ run.items ≡ spelled_all all
    all_bytes = ap (λ l. spelled_all older ++ l) items ∙ spelled_whole count all

    -- after each of both calls
    after_some : (k : ℕ) → k ≤ 2 → (c : List ℕ) → MayLeave (log_after (spelled_all older) (take k (forced_after run))) c
        → IsBeginning all kept c
    after_some zero low c may =
        let is = fresh_only (spelled_all older) c may in
        first_is all kept c plain (count, le, ends_all older c is, λ forced. go_on_newer count all c (go_on_all older c is))
    after_some (suc zero) low c may =
        subst (IsBeginning all kept) (sym (may.1 ∙ ap (λ l. spelled_all older ++ take may.0 l) items))
        (first_is all kept (spelled_all older ++ take may.0 (spelled_all (take count all))) plain (some_newer all kept count may.0 (told_all all plain told) le))
    after_some (suc (suc zero)) low c may =
        first_is all kept c plain (all_of all kept c (omega (arith, le)) (fresh_only (spelled_all older ++ run.items) c may ∙ all_bytes))
    after_some (suc (suc (suc k))) low c may = absurd (omega (arith, low))

    since_some : (t : ℕ) (c : List ℕ) → LogSince (spelled_all older) (forced_after run) t c → IsBeginning all kept c
    since_some t c since = after_some since.0 since.2 c since.3

    was_before : (t : ℕ) (c : List ℕ) → LogSince (spelled_all older) [] t c
        → LogSince (spelled_all older) (forced_after run) t c
    was_before t c since = at since.0 since.1 since.2 since.3 where
      at : (k : ℕ) → t ≤ k → k ≤ 0 → MayLeave (log_after (spelled_all older) (take k [])) c
          → LogSince (spelled_all older) (forced_after run) t c
      at zero up low may = (0, up, omega arith, may)
      at (suc k) up low may = absurd (omega (arith, low))

    reads_all : log_reads (log_then run) ≡ spelled_all all
    reads_all = append-nil (spelled_all older ++ run.items) ∙ all_bytes

    only_all : (c : List ℕ) → MayLeave (log_then run) c → c ≡ spelled_all all
    only_all c may = fresh_only (spelled_all older ++ run.items) c may ∙ all_bytes

  module _ (old new : MemLog) (n : IsNewLog old older) (f : IsForcedSince old new (spelled_all (take count all))) where
    abbrev calls_are : List LogCall
    calls_are = forced_after f.run

    old_bytes : old.start.value.items ≡ spelled_all older
    old_bytes = new_bytes old older n ∙ ap spelled_all (all_stand older (plain_drop count all plain))

    bytes_are : new.start.value.items ≡ spelled_all older
    bytes_are = f.first ∙ old_bytes

    log_forced : log_of new ≡ log_then f.run
    log_forced = λ i. log_after (bytes_are i) (f.calls i)

    since_new : (t : ℕ) → (λ c. mem_log.left_since new t c) ≡ LogSince (spelled_all older) calls_are t
    since_new t = λ i. LogSince (bytes_are i) (f.calls i) t

    since_old : (t : ℕ) → (λ c. mem_log.left_since old t c) ≡ LogSince (spelled_all older) [] t
    since_old t = λ i. LogSince (old_bytes i) (new_calls old older n i) t

    each_beginning : (t : ℕ) (c : List ℕ) → mem_log.left_since new t c → IsBeginning all kept c
    each_beginning t c left = since_some f.run f.items t c (subst (λ (Q : List ℕ → Type 0). Q c) (since_new t) left)

    pub runs_through : LeavesOnly mem_log old new (IsBeginning all kept)
    runs_through = record {
      later = (let a = n.moment in let b = ap length f.calls in omega (arith, a, b));
      each = λ c left. each_beginning (mem_log.moment old) c left;
      before = λ t c low left. inr (each_beginning t c left);
      keeps = λ t c low left. subst (λ (Q : List ℕ → Type 0). Q c) (sym (since_new t))
          (was_before f.run f.items t c (subst (λ (Q : List ℕ → Type 0). Q c) (since_old t) left));
    }

    pub forced_reads : mem_log.seen new ≡ spelled all
    forced_reads = ap log_reads log_forced ∙ reads_all f.run f.items ∙ ap spelled_all (sym (all_stand all plain))

    pub forced_only : Only (spelled all) (mem_log.may_leave new)
    forced_only c may = only_all f.run f.items c (subst (λ (s : LogState). MayLeave s c) log_forced may) ∙ ap spelled_all (sym (all_stand all plain))

-- pages of which one was written, with no call before
module _ (images : List (List ℕ)) (old new : MemPages) (page : ℕ) (image : List ℕ) (n : AreNewPages old images) (w : IsWrittenSince old new page image) where
  none_before : old.calls.items ≡ []
  none_before = nil_from_length old.calls.items n.moment

  was_fresh : fresh_pages old.first.items ≡ fresh_pages images
  was_fresh = ap (pages_after old.first.items) (sym none_before) ∙ n.pages

  one_call : new.calls.items ≡ Write page w.kept ∷ []
  one_call = w.calls ∙ ap (λ cs. cs ++ Write page w.kept ∷ []) none_before

  pub pages_written : pages_of new ≡ record (fresh_pages images) { since = (page, image) ∷ [] }
  pages_written =
      (λ i. pages_after (w.first i) (one_call i))
      ∙ ap (λ (s : PageState). record s { since = (page, w.kept.value) ∷ [] }) was_fresh
      ∙ ap (λ (y : List ℕ). record (fresh_pages images) { since = (page, y) ∷ [] }) w.value
