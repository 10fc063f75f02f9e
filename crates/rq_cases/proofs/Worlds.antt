-- Stores between two happenings, and headlines, over the worked run.
use Rattle.std.proofs.Common.{rules, ◌≡◌, ℕ, ◌+◌, ◌-◌, ◌≤◌, ◌<◌, false, List, [], ◌∷◌, ◌++◌, length, take, drop, refl, sym, ap, ◌∙◌, subst, inl, ⊎_elim, arith, append_assoc, length-append, None, Some, Option}
use Rattle.std.proofs.lemmas.List.{length-drop, length-take-le, take-append-drop}
use Rattle.std.proofs.Math.Seq.{drop-append_seam}
use Rattle.byteorder.specs.Endian.{big_number}
use Rattle.rq_model.proofs.Bases.{marked_is, marked_stands, one_marked, plain_drop}
use Rattle.rq_model.specs.declared.record.Record.{Record}
use Rattle.rq_model.specs.declared.record.Record.TheVariants.{Commit}
use Rattle.rq_model.specs.History.{Entry}
use Rattle.rq_model.specs.History.Entry.{Acknowledged, Begun, Committed, Did, Forced, Grew, Started, Stepped}
use Rattle.rq_model.specs.History.Job.{Sending}
use Rattle.rq_model.specs.Ledger.{Ledger, ledger, group_in}
use Rattle.rq_model.specs.Growth.{Growth, growth}
use Rattle.rq_model.specs.Legal.{IsLegal, MayFollow}
use Rattle.rq_model.specs.Promises.{AcknowledgedStay, CheckpointCrashGoesOn, CrashGoesOn, FifoThroughout, GrowthGoesOn, ShutCrashGoesOn, crash_with}
use Rattle.rq_model.proofs.Follows.{legal_there}
use Rattle.rq_model.specs.Vocabulary.Op.{Send}
use Rattle.rq_model.proofs.Told.{content_is}
use Rattle.rq_model.specs.History.Call.{Force}
use Rattle.rq_model.specs.Replay.Reply.{Gave_forced}
use Rattle.rq_model.specs.Worked.{txn}
use Rattle.rq_core.specs.Happenings.Answer.{Answered}
use Rattle.rq_core.specs.Happenings.Happening.{Asks}
use Rattle.rq_disk.specs.Device.{Images, Leaves}
use Rattle.rq_disk.specs.Memory.{MayBe, PageState, pages_seen}
use Rattle.rq_disk.specs.Shown.{pages_of}
use Rattle.rq_disk.specs.declared.mem_log.MemLog.{MemLog}
use Rattle.rq_disk.specs.declared.mem_pages.MemPages.{MemPages}
use Rattle.rq_record.specs.Spelling.{IsRecord, spelling}
use Rattle.rq_record.proofs.Sizes.{each_length}
use Rattle.rq_record.proofs.Whole.{framed, framed_whole, long_spelling}
use Rattle.rq_views.specs.WorkedItems.{t1}
use Rattle.rq_log.specs.Spelled.{AreSpelled, EndsWith, GoOnTo, spelled}
use Rattle.rq_page.specs.Pages.{lsn_of}
use Rattle.rq_store.specs.Fitting.{FitsLog, FitsPage, image_in}
use Rattle.rq_store.specs.State.{State}
use Rattle.rq_store.specs.Steps.{Continues, page_op}
use Rattle.rq_store.proofs.Based.{hold_base, unbased}
use Rattle.rq_store.proofs.Cutting.{fits_log, fits_log_longer, whole_dropped}
use Rattle.rq_store.proofs.Formatting.{formatted_fits}
use Rattle.rq_store.proofs.WorkedFits.{whole_empty}
use Rattle.rq_engine.specs.Crash.{IsCut, LeavesCut}
use Rattle.rq_engine.specs.Devices.{EachPair}
use Rattle.rq_engine.proofs.Crashing.{commits_of_cut, leaves_cut}
use Rattle.rq_restart.specs.Underway.{IsStore}
use Rattle.rq_log.proofs.Runs.{ends_all, go_on_all, go_on_newer, spelled_whole}
use Rattle.rq_core.specs.Devices.{mem_log, mem_pages}
use Rattle.rq_core.specs.Happenings.{Course, Tells}
use Rattle.rq_core.specs.Headline.{EndsHistory, LeavesStores}
use Rattle.rq_core.specs.Runs.{IsHeadline, Ran}
use Rattle.rq_core.specs.Worked.{first_entries, hello}
use Rattle.rq_core.specs.World.World.{Is_open, Is_shut}
use Rattle.rq_core.proofs.Arms.{open_ends, shut_ends}
use Rattle.rq_cases.specs.Opened.{AreNewPages, IsNewLog, over}
use Rattle.rq_cases.specs.Run.{log_1, log_2, log_5, no_record, committed, forced}
use Rattle.rq_cases.specs.Store.{fill_cell, formatted_pages, groups_1, page_image, sent_pages, sizes, small}
use Rattle.rq_cases.specs.Worlds.{CutsAreJudged, HeadlinesAreJudged, Hold, Opens, Shuts, WorldsAreJudged, course_to, crashed, crashed_course}
use Rattle.rq_cases.proofs.Bytes.{fill_is, first_spelled, records_spelled, short_log, the_log}
use Rattle.rq_cases.proofs.Held.{leaves_beginning, log_left, only_records, pages_fit, pages_now}
use Rattle.rq_cases.proofs.Pages.{are_formatted, range}
use Rattle.rq_cases.proofs.Running as running
use Rattle.rq_cases.proofs.Bytes.{first_plain}
use Rattle.rq_cases.proofs.Bytes.{records_plain}
use Rattle.rq_log.proofs.Parsing.{one_based, one_log}
use Rattle.rq_analysis.proofs.Marked.{marked_length}
use Rattle.rq_model.specs.Bases.{HasNoBase, marked, standing}
use Rattle.rq_cases.proofs.Restarting.{group_lsn, whole_5}

-- the worked courses tell their histories
told_7 : Tells (course_to 7) (first_entries 7)
told_7 = (first_entries 6, (first_entries 5, (first_entries 4, (first_entries 3, (first_entries 2, (first_entries 1, (first_entries 0, refl, (refl, refl)), (Begun (txn 1 1), refl, tt, refl)), (Started (txn 1 1) 1 (Sending hello), (refl, refl), tt, refl)), (Stepped (txn 1 1) 1 2, refl, tt, refl)), (Stepped (txn 1 1) 1 3, refl, tt, refl)), (Did (txn 1 1) 1 (Send hello), (hello, refl), tt, refl)), (Committed (txn 1 1) 5, (refl, refl), tt, refl))

pub told_9 : Tells (course_to 9) (first_entries 9)
told_9 = (first_entries 8, (first_entries 7, told_7, (Acknowledged (txn 1 1) 5 false, refl, tt, refl)), (Forced 5, refl, tt, refl))

pub told_crash : Tells crashed_course crashed
told_crash = (first_entries 9, told_9, (tt, None, tt, refl))

pub legal_7 : IsLegal small (first_entries 7)
legal_7 = search rules

pub legal_crash : IsLegal small crashed
legal_crash = search rules

-- a page may be left as it was at first
pub page_left : (d : MemPages) (images : List (List ℕ)) → AreNewPages d images → (p : ℕ) → mem_pages.may_be d p (image_in images p)
page_left d images n p =
    subst (λ (s : PageState). MayBe s p (image_in images p)) (sym n.pages) (inl refl)

pub some_pages : (d : MemPages) → Leaves (mem_pages.may_be d) (mem_pages.seen d)
some_pages d p = pages_seen (pages_of d) p

module _ (pages : MemPages) (log : MemLog) where
  opens : Hold pages formatted_pages log log_1 → Opens sizes (first_entries 7) (over committed pages log)
  opens h = record { sizes = refl; past = []; long = refl; ledger = refl; sound = running.commit_send.sound; devices = inl (record { untried = refl; stays = refl; fit = pages_fit pages h.0 log_1 (1, refl) first_plain }) }

  opens_forced : Hold pages formatted_pages log log_5 → Opens sizes (first_entries 9) (over forced pages log)
  opens_forced h = record { sizes = refl; past = []; long = refl; ledger = refl; sound = running.force.sound; devices = inl (record { untried = refl; stays = refl; fit = pages_fit pages h.0 log_5 (5, refl) records_plain }) }

  a_page_ahead : AreNewPages pages sent_pages → Opens sizes (first_entries 7) (over committed pages log) → ⊥
  a_page_ahead n o = ⊎_elim
      (λ d.
      let f : FitsPage sizes log_1 1 (page_image 3 1 1 groups_1) = d.fit.pages 1 (page_image 3 1 1 groups_1) (omega arith) (omega arith) (page_left pages sent_pages n 1) in
      let w : lsn_of (page_image 3 1 1 groups_1) ≤ 1 = f.within in
      let e = group_lsn in
      omega (arith, e, w))
      (λ half. (let e = half.failed in cc e))
      o.devices

  -- whatever a crash leaves of both is the store
  pub leaves_store : Hold pages formatted_pages log log_5 → (images : Images) (bytes : List ℕ) → Leaves (mem_pages.may_be pages) images → mem_log.may_leave log bytes → IsStore sizes log_5 images bytes
  leaves_store h images bytes a b = record {
    range = range;
    are_spelled = records_spelled;
    is = ends_all log_5 bytes (only_records log log_5 h.1 bytes b);
    left = record {
      whole = running.commit_send.sound.log;
      fits = fits_log (mem_pages.may_be pages) sizes log_5 images (pages_fit pages h.0 log_5 (5, refl) records_plain) a;
      based = hold_base (mem_pages.may_be pages) sizes log_5 images (pages_fit pages h.0 log_5 (5, refl) records_plain) a;
    };
  }

  pub shuts : Hold pages formatted_pages log log_5 → Shuts crashed pages log
  shuts h = record {
    range = range;
    phase = refl;
    older = log_5;
    ties = record { committed = refl; records = refl; incarnation = omega arith };
    left = λ images bytes a b. (log_5, ([], refl, tt), leaves_store h images bytes a b);
  }

  pub shuts_with_less : IsNewLog log log_1 → Shuts crashed pages log → ⊥
  shuts_with_less n s =
      let x = s.left (mem_pages.seen pages) (spelled log_1) (some_pages pages) (log_left log log_1 n) in
      let store : IsStore sizes x.0 (mem_pages.seen pages) (spelled log_1) = x.2 in
      let same : x.0 ≡ log_1 = sym (the_log log_1 first_plain x.0 (spelled log_1) first_spelled store.are_spelled refl store.is) in
      let count : length x.0 ≡ 1 = ap (λ (l : List Record). length l) same in
      let more : length (x.1.0 ++ s.older) ≡ length x.0 = ap (λ (l : List Record). length l) x.1.1 in
      let joined = length-append x.1.0 s.older in
      let five : 5 ≡ length s.older = s.ties.records in
      omega (arith, count, more, joined, five)

  fresh_with_one : IsNewLog log log_1 → EachPair mem_pages mem_log pages log (IsStore sizes []) → ⊥
  fresh_with_one n s =
      let store = s (mem_pages.seen pages) (spelled log_1) (some_pages pages) (log_left log log_1 n) in
      let same : log_1 ≡ [] = the_log log_1 first_plain [] (spelled log_1) first_spelled tt refl store.is in
      let count : 1 ≡ 0 = ap (λ (l : List Record). length l) same in
      omega (arith, count)

pub worlds : WorldsAreJudged
worlds = record {
  told = told_9;
  told_with_the_crash = told_crash;
  open_at_its_end = opens;
  open_once_forced = opens_forced;
  open_before_the_commit = λ pages log o. (let f : 5 ≡ 4 = ap (λ (l : Ledger). l.records) o.ledger in omega (arith, f));
  open_and_forced_too_early = λ pages log o. (let f : 5 ≡ 1 = ap (λ (l : Ledger). l.forced) o.ledger in omega (arith, f));
  open_after_a_crash = λ pages log o. (let f = ap (λ (l : Ledger). l.phase) o.ledger in cc f);
  open_of_another_size = λ z h e other o. other o.sizes;
  open_with_a_page_ahead = a_page_ahead;
  shut = shuts;
  shut_while_open = λ pages log s. (let f = s.phase in cc f);
  shut_with_less = shuts_with_less;
  fresh = λ pages log h. record {
    range = range;
    left = λ images bytes a b. record {
      range = range;
      are_spelled = tt;
      is = ends_all [] bytes (only_records log [] h.1 bytes b);
      left = record {
        whole = whole_empty sizes;
        fits = fits_log (mem_pages.may_be pages) sizes [] images (pages_fit pages h.0 [] (0, refl) tt) a;
        based = hold_base (mem_pages.may_be pages) sizes [] images (pages_fit pages h.0 [] (0, refl) tt) a;
      };
    };
  };
  fresh_with_a_record = λ pages log n s. fresh_with_one pages log n s.left;
}

-- what a crash leaves of the store before its force
pub leaves : (pages : MemPages) (log : MemLog) → Hold pages formatted_pages log log_1 → LeavesCut mem_pages mem_log (over committed pages log)
leaves pages log h =
    leaves_cut mem_pages mem_log pages_now (over committed pages log)
    (λ honest c may. leaves_beginning log log_1 h.1 log_5 records_plain 1 4 (omega arith) refl c may)
    (records_spelled, λ some. some) tt running.commit_send.sound (pages_fit pages h.0 log_1 (1, refl) first_plain)

-- the formatted pages with the first records, all or only the first
pub formatted_fit : (log : List Record) → Continues [] log → FitsLog sizes (image_in formatted_pages) log
formatted_fit log c =
    fits_log_longer sizes (image_in formatted_pages) [] log c
    (formatted_fits sizes (image_in formatted_pages) range are_formatted)

abbrev first_op : Record
first_op = page_op t1 1 fill_cell

-- the first record alone is left, and behind it no byte, or a torn end
cut_behind_first : (bytes : List ℕ) → EndsWith log_1 bytes → GoOnTo bytes (spelled log_2) → IsCut committed (image_in formatted_pages) bytes
cut_behind_first bytes ends on = record {
  lost = 4;
  forced = omega arith;
  incarnation = omega arith;
  told = first_spelled;
  spells = ends;
  begins = go_on_newer 3 log_5 bytes on;
  store = record { whole = whole_dropped sizes 4 log_5 whole_5; fits = formatted_fit log_1 (1, refl); based = unbased sizes log_1 (image_in formatted_pages) first_plain (formatted_fit log_1 (1, refl)) };
  durable = omega arith;
  content = λ g. content_is g log_1 (whole_dropped sizes 4 log_5 whole_5).rules ∙ ap (λ c. group_in c g) (sym (commits_of_cut 4 log_5));
}

cut_first : IsCut committed (image_in formatted_pages) (spelled log_1)
cut_first = cut_behind_first (spelled log_1) (ends_all log_1 (spelled log_1) refl) (spelling first_op, refl)

-- seven bytes of a record behind it
torn_first : (r : Record) → IsRecord r → EndsWith log_1 (spelled log_1 ++ take 7 (spelling r))
torn_first r is =
    let long = long_spelling r is in
    let left = length-drop 7 (spelling r) in
    (take 7 (spelling r), (r, drop 7 (spelling r), is, omega (arith, long, left), sym (take-append-drop 7 (spelling r))), refl)

cut_torn : IsCut committed (image_in formatted_pages) (spelled log_1 ++ take 7 (spelling first_op))
cut_torn =
    cut_behind_first (spelled log_1 ++ take 7 (spelling first_op)) (torn_first first_op fill_is)
    (drop 7 (spelling first_op), ap (λ (l : List ℕ). spelled log_1 ++ l) (sym (take-append-drop 7 (spelling first_op))) ∙ sym (append_assoc (spelled log_1) (take 7 (spelling first_op)) (drop 7 (spelling first_op))))

-- a number in the first four of some bytes, whatever is behind them
same_number : (bytes a b : List ℕ) → 4 ≤ length bytes → big_number 4 (bytes ++ a) ≡ big_number 4 (bytes ++ b)
same_number [] a b le = absurd (omega (arith, le))
same_number (p ∷ []) a b le = absurd (omega (arith, le))
same_number (p ∷ q ∷ []) a b le = absurd (omega (arith, le))
same_number (p ∷ q ∷ r ∷ []) a b le = absurd (omega (arith, le))
same_number (p ∷ q ∷ r ∷ s ∷ bytes) a b le = refl

-- what stands behind the first record tells the length of the next one
no_torn_commit : (images : Images) → IsCut committed images (spelled log_1 ++ take 7 (spelling (Commit t1))) → ⊥
no_torn_commit images c =
    let end = take 7 (spelling (Commit t1)) in
    let fits = records_spelled.0 in
    let long = long_spelling (Commit t1) fits in
    let four : 4 ≤ length end = (let n = length-take-le 7 (spelling (Commit t1)) (omega (arith, long)) in omega (arith, n)) in
    let later = spelled (take 3 log_5) in
    let all_5 : spelled log_5 ≡ spelled log_1 ++ (spelling first_op ++ later) = sym (spelled_whole 3 log_5) ∙ append_assoc (spelled log_1) (spelling first_op) later in
    let behind : drop (length (spelled log_1)) (spelled log_5) ≡ spelling first_op ++ later = ap (drop (length (spelled log_1))) all_5 ∙ drop-append_seam (spelled log_1) (spelling first_op ++ later) in
    let torn : drop (length (spelled log_1)) (spelled log_5) ≡ end ++ c.begins.0 = ap (drop (length (spelled log_1))) (c.begins.1 ∙ append_assoc (spelled log_1) end c.begins.0) ∙ drop-append_seam (spelled log_1) (end ++ c.begins.0) in
    let same : big_number 4 (spelling first_op ++ later) ≡ big_number 4 (end ++ c.begins.0) = ap (big_number 4) (sym behind ∙ torn) in
    let one = same_number end c.begins.0 (drop 7 (spelling (Commit t1))) four ∙ ap (big_number 4) (take-append-drop 7 (spelling (Commit t1))) in
    let a = framed first_op later fill_is in
    let b = framed_whole (Commit t1) fits in
    let m : length (spelling first_op) ≡ 546 = each_length first_op fill_is.1 in
    let n : length (spelling (Commit t1)) ≡ 21 = each_length (Commit t1) fits.1 in
    omega (arith, same, one, a, b, m, n)

cut_all : IsCut committed (image_in formatted_pages) (spelled log_5)
cut_all = record {
  lost = 0;
  forced = omega arith;
  incarnation = omega arith;
  told = records_spelled;
  spells = ends_all log_5 (spelled log_5) refl;
  begins = go_on_all log_5 (spelled log_5) refl;
  store = record { whole = whole_5; fits = formatted_fit log_5 (5, refl); based = unbased sizes log_5 (image_in formatted_pages) records_plain (formatted_fit log_5 (5, refl)) };
  durable = omega arith;
  content = λ g. content_is g log_5 whole_5.rules ∙ ap (λ c. group_in c g) (sym (commits_of_cut 0 log_5));
}

-- how many records are left where these bytes are
kept_count : (s : State) (images : Images) (records : List Record) → HasNoBase s.records → AreSpelled records → (c : IsCut s images (spelled records)) → length s.records - c.lost ≡ length records
kept_count s images records plain told c =
    sym (length-drop c.lost s.records) ∙ ap (λ (l : List Record). length l) (sym (one_based records (drop c.lost s.records) (spelled records) (plain_drop c.lost s.records plain) told c.told (ends_all (standing records) (spelled records) refl) c.spells))

pub cuts : CutsAreJudged
cuts = record {
  leaves_cut = leaves;
  cut = cut_first;
  nothing_lost = cut_all;
  forced_lost = λ images c.
      (let n : 5 - c.lost ≡ 1 = kept_count forced images log_1 records_plain first_spelled c in
      let f : c.lost + 5 ≤ 5 = c.forced in
      omega (arith, n, f));
  torn = cut_torn;
  torn_commit = no_torn_commit;
  begins_no_record = λ images c. short_log (drop c.lost log_5) c.told c.spells;
  page_ahead = λ c.
      (let n : 5 - c.lost ≡ 1 = kept_count committed (image_in sent_pages) log_1 records_plain first_spelled c in
      let w : lsn_of (page_image 3 1 1 groups_1) ≤ length (drop c.lost log_5) = (c.store.fits.pages 1 (omega arith) (omega arith)).within in
      let m = length-drop c.lost log_5 in
      let e = group_lsn in
      omega (arith, n, w, m, e));
}

-- the world that the crashed course leads to
abbrev pub ran_crashed : (pages : MemPages) (log : MemLog) → Hold pages formatted_pages log log_5 → Ran sizes crashed_course (Is_shut pages log)
ran_crashed pages log h = record {
  history = crashed;
  tells = told_crash;
  legal = legal_crash;
  stands = shuts pages log h;
  counted = λ images bytes a b. (log_5, leaves_store pages log h images bytes a b, refl);
}

-- a crash leaves what was forced
forced_left : (tags : Option ℕ) (h : List Entry) (m : ℕ) → (ledger h).forced ≡ (ledger h).records → MayFollow small h (crash_with tags m h) → (ledger h).forced ≤ m
forced_left None h m all a = a.0.forced
forced_left (Some n) h m all a = let more = (legal_there small h (Grew n m) a).1 in omega (arith, all, more)

-- what was forced is left
pub forced_is_left : (course : Course) (h : List Entry) (pages : MemPages) (log : MemLog) (records : List Record) (n : ℕ) (g : Growth) → Tells ((Asks Force, Answered (Gave_forced n)) ∷ course) h → IsLegal small h
    → LeavesStores mem_pages mem_log sizes g h pages log → AreSpelled records → length (marked records) < n → mem_log.may_leave log (spelled records) → ⊥
forced_is_left course h pages log records n g tells legal leaves told few may =
    let x : EndsHistory mem_pages mem_log sizes g h (mem_pages.seen pages) (spelled records) = leaves (mem_pages.seen pages) (spelled records) (some_pages pages) may in
    let stands : standing x.now ≡ standing records = one_log (standing x.now) (standing records) (spelled records) x.store.are_spelled told x.store.is (ends_all (standing records) (spelled records) refl) in
    let same : marked x.now ≡ marked records = one_marked (marked x.now) (marked records) (marked_is x.now) (marked_is records) (marked_stands x.now ∙ stands ∙ sym (marked_stands records)) in
    let count : length x.now ≡ length (marked records) = sym (marked_length x.now x.store.left.whole.based) ∙ ap (λ (l : List Record). length l) same in
    let older : List Entry = tells.0 in
    let is : h ≡ Forced n ∷ older = tells.2.3 ∙ ap (λ (e : Entry). e ∷ older) tells.2.1 in
    let all : n ≡ (ledger older).records = (subst (IsLegal small) is legal).0.1 in
    let forced_is : (ledger h).forced ≡ (ledger older).records = ap (λ (k : List Entry). (ledger k).forced) is in
    let kept : (ledger h).forced ≤ length x.now = forced_left x.tags h (length x.now) (subst (λ (k : List Entry). (ledger k).forced ≡ (ledger k).records) (sym is) refl) x.ends.legal.0 in
    omega (arith, few, count, all, forced_is, kept)

-- headlines
module _ (fifo : (h : List Entry) → IsLegal small h → FifoThroughout h) (stay : AcknowledgedStay small) (goes : CrashGoesOn small) (half : CheckpointCrashGoesOn small) (grows : GrowthGoesOn small) (shut_goes : ShutCrashGoesOn small) where
  before_the_force : (pages : MemPages) (log : MemLog) → Hold pages formatted_pages log log_1 → IsHeadline sizes (course_to 7) pages log
  before_the_force pages log h =
      let ran : Ran sizes (course_to 7) (Is_open (over committed pages log)) = record { history = first_entries 7; tells = told_7; legal = legal_7; stands = opens pages log h; counted = tt } in
      open_ends sizes (course_to 7) (over committed pages log) pages log fifo stay goes half grows ran (λ untried honest e long k fit. leaves pages log h) refl refl

  after_the_crash : (pages : MemPages) (log : MemLog) → Hold pages formatted_pages log log_5 → IsHeadline sizes crashed_course pages log
  after_the_crash pages log h =
      shut_ends sizes crashed_course pages log fifo stay shut_goes (ran_crashed pages log h)

  pub headlines : HeadlinesAreJudged
  headlines = record {
    before_the_force = before_the_force;
    after_the_crash = after_the_crash;
    tells_nothing = λ pages log k. k.tells.2.0;
    loses_what_was_forced = λ course pages log records n told few may k.
        forced_is_left course k.history pages log records n (growth k.history) k.tells k.legal (λ images bytes a b. (k.leaves images bytes a b).0) told few may;
    leaves_what_begins_no_record = λ course pages log may k.
        (let x = (k.leaves (mem_pages.seen pages) no_record (some_pages pages) may).0 in short_log x.now x.store.are_spelled x.store.is);
    left = λ pages log h images bytes a b. (log_5, leaves_store pages log h images bytes a b, refl);
    leaves_another_count = λ h x course pages log n other l left.
        (let y = left (mem_pages.seen pages) (spelled log_5) (some_pages pages) (log_left log log_5 l) in
        let same : y.0 ≡ log_5 = sym (the_log log_5 records_plain y.0 (spelled log_5) records_spelled y.1.are_spelled refl y.1.is) in
        other (sym y.2 ∙ ap (λ (l : List Record). length l) same));
  }
