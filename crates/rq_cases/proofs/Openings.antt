-- What a restart has checked, what it leaves of a log, and why it was refused.
use Rattle.std.proofs.Common.{◌≡◌, ◌⊎◌, ⊎_elim, ℕ, ◌+◌, ◌%◌, ◌^◌, Bool, false, true, List, [], ◌∷◌, ◌++◌, length, take, drop, refl, sym, ap, ◌∙◌, ◌<◌, ◌≤◌, subst, inl, inr, arith, append_assoc, length-append}
use Rattle.std.proofs.Math.Seq.{drop-append_seam}
use Rattle.std.proofs.lemmas.List.{append-nil, length-drop, length-take-le, take-append-drop}
use Rattle.rq_restart.specs.Once.{OneLogEach}
use Rattle.rq_bytes.specs.Number.{number}
use Rattle.rq_bytes.proofs.Strings.{length-number}
use Rattle.rq_model.specs.declared.record.Record.{Record}
use Rattle.rq_model.specs.Bases.{HasNoBase, standing}
use Rattle.rq_model.specs.declared.record.Record.TheVariants.{OpEnd, Commit, Restart}
use Rattle.rq_record.specs.Spelling.{fields, kind_number, spelling}
use Rattle.rq_record.proofs.Whole.{long_spelling}
use Rattle.rq_model.specs.declared.refusal.Refusal.TheVariants as why
use Rattle.rq_model.specs.Incarnations.{ArePlain, incarnation_of, is_plain}
use Rattle.rq_model.specs.Legal.{Legal}
use Rattle.rq_disk.specs.Device.{Images}
use Rattle.rq_disk.specs.declared.mem_log.MemLog.{MemLog}
use Rattle.rq_disk.specs.declared.mem_pages.MemPages.{MemPages}
use Rattle.rq_log.specs.Reading.{IsRead}
use Rattle.rq_log.specs.Spelled.{AreAllSpelled, AreSpelled, EndsWithAll, spelled}
use Rattle.rq_log.proofs.Moments.{started}
use Rattle.rq_log.proofs.Runs.{ends_all, spelled-append}
use Rattle.rq_page.specs.Formatted.{IsHeaderOf}
use Rattle.rq_page.specs.Pages.{lsn_of}
use Rattle.rq_page.specs.Sizes.{Sizes, IsInRange, page_count}
use Rattle.rq_pool.specs.Reading.{ArePages, IsSoundPage, IsSuperblock}
use Rattle.rq_views.specs.WorkedItems.{t1}
use Rattle.rq_store.specs.Fitting.{image_in}
use Rattle.rq_store.specs.Opening.{IsCounted, next_restart}
use Rattle.rq_store.specs.Steps.{page_op}
use Rattle.rq_analysis.specs.Rules.{FollowsRules}
use Rattle.rq_store.specs.State.{ledger_of, size_of}
use Rattle.rq_restart.proofs.Begun.{rolled_back_extends}
use Rattle.rq_restart.specs.Repeating.{ArePagesCounted, Repeats}
use Rattle.rq_restart.specs.Leaving.{IsRepeatedTo}
use Rattle.rq_restart.specs.Restarting.{IsBegunOn, LeavesPages, StopsOver}
use Rattle.rq_restart.proofs.Repeated.{repeated_counted}
use Rattle.rq_log.proofs.Parsing.{one_log}
use Rattle.rq_restart.specs.Telling.{TellsBehind}
use Rattle.rq_restart.specs.Underway.{IsGoneOnWith, OfStores}
use Rattle.rq_core.specs.Devices.{mem_log, mem_pages}
use Rattle.rq_core.proofs.Arms.{refused_stays}
use Rattle.rq_core.proofs.Judged.{refused_over}
use Rattle.rq_cases.specs.Opened.{AreNewPages, IsNewLog}
use Rattle.rq_cases.specs.Openings.{BeginningsAreJudged, Checked, ChecksAreJudged, FewFramesAreJudged, RefusalsAreJudged, log_next, most_frames}
use Rattle.rq_cases.specs.Reading.{no_cells}
use Rattle.rq_cases.specs.Restarting.{read_pages}
use Rattle.rq_cases.specs.Run.{forced, log_1, log_2, log_4, log_5}
use Rattle.rq_cases.specs.Store.{cells_0, cells_1, cells_2, fill_cell, filled_pages, formatted_pages, freed_pages, groups_0, groups_2, sizes, taken_pages}
use Rattle.rq_cases.specs.Worlds.{Hold, crashed}
use Rattle.rq_cases.proofs.Bytes.{first_spelled, records_spelled, spells_one, the_log}
use Rattle.rq_cases.proofs.Held.{log_now, log_seen, only_images, only_records}
use Rattle.rq_cases.proofs.Images.{lsn_is, slot_is}
use Rattle.rq_cases.proofs.Pages.{cell_told, cells_0_long, cells_1_long, cells_2_long, fill_written, groups_0_long, groups_2_long, headers_with, others_of_2}
use Rattle.rq_cases.proofs.Reading.{first_block, no_header}
use Rattle.rq_restart.proofs.Paths.{kept, kept_extends, kept_stand}
use Rattle.rq_model.specs.Commits.{committed_of}
use Rattle.rq_model.specs.Ledger.{Done}
use Rattle.rq_model.proofs.Cuts.{extends_commits}
use Rattle.rq_cases.proofs.Restarting.{begun_commit, counted_read, formatted_fit, is_restart, made_there, no_cell_lsn, no_group_lsn, open_4, pages_seen_are, same_log, rest_of}
use Rattle.rq_cases.proofs.Running as running
use Rattle.rq_cases.proofs.Bytes.{first_plain}
use Rattle.rq_cases.proofs.Bytes.{records_plain}
use Rattle.rq_model.proofs.Bases.{added_stand}
use Rattle.rq_log.specs.Spelled.{spelled_all}
use Rattle.rq_cases.proofs.Worlds.{leaves_store, shuts, shuts_with_less}

abbrev begins : List Record → ℕ
begins (Restart i ∷ log) = i
begins _ = 0

-- the formatted pages are pages of a store, and are what is seen
pub formatted_are : ArePages sizes formatted_pages
formatted_are = record {
  superblock = first_block;
  count = refl;
  sound = λ p low high. record {
    header = formatted_fit.headers p low high;
    slots = (formatted_fit.pages p low high).slots;
  };
}

-- no cell page is seen
none_seen : (pages : MemPages) → AreNewPages pages no_cells → mem_pages.seen pages 2 ≡ []
none_seen pages n = ap (λ (seen : Images). seen 2) (pages_seen_are pages no_cells n)

-- the log that was read
module _ (pages : MemPages) (log new : MemLog) (last : Images) (records : List Record) (k : Checked pages log new last records) where
  read_is : (r : Record) (older : List Record) → records ≡ r ∷ older → older ≡ k.rolled_back
  read_is r older e = ap rest_of (sym e ∙ k.begun)

  none_missing : AreNewPages pages no_cells → ⊥
  none_missing n =
      let s : IsSoundPage sizes 2 _ = k.sound.sound 2 (omega arith) (omega arith) in
      no_header _ 2 2 (subst (IsHeaderOf sizes 2) (k.seen tt 2 (omega arith) ∙ none_seen pages n) s.header)

-- it was not gone through on pages that stayed
stayed : (pages : MemPages) (log new : MemLog) → AreNewPages pages formatted_pages → Checked pages log new read_pages log_next → ⊥
stayed pages log new n k =
    let same : log_5 ≡ k.rolled_back = read_is pages log new read_pages log_next k (Restart 2) log_5 refl in
    let seen = k.seen tt 2 (omega arith) ∙ ap (λ (seen : Images). seen 2) (pages_seen_are pages formatted_pages n) in
    made_there (image_in k.images) read_pages (ap lsn_of seen ∙ no_cell_lsn) no_cell_lsn
    (subst (λ (l : List Record). Repeats sizes l (image_in k.images) read_pages) (sym same) k.rolled_back_on.repeated)

pub checks : ChecksAreJudged
checks = record {
  not_repeated = λ pages log new l n k. stayed pages log new n k;
  no_record = λ pages log new last k. (let f : 0 ≡ 1 = ap is_restart k.begun in omega (arith, f));
  another_incarnation = λ pages log new last k.
      (let same : log_5 ≡ k.rolled_back = read_is pages log new last (Restart 3 ∷ log_5) k (Restart 3) log_5 refl in
      let one : 1 ≡ incarnation_of k.rolled_back = ap incarnation_of same in
      let f : 3 ≡ incarnation_of k.rolled_back + 1 = ap begins k.begun in
      omega (arith, one, f));
  one_open = λ pages log new last k.
      open_4 (same_log k.rolled_back log_4 k.rolled_back_on.rolls_back.ended (sym (read_is pages log new last (Restart 2 ∷ log_4) k (Restart 2) log_4 refl)));
  another_log = λ pages log new last n k.
      (let same : log_5 ≡ k.rolled_back = read_is pages log new last log_next k (Restart 2) log_5 refl in
      let older : log_1 ≡ k.older = the_log log_1 first_plain k.older (mem_log.seen log) first_spelled k.are_spelled (log_seen log log_1 n) (k.reads tt) in
      let c : committed_of log_5 ≡ committed_of log_1 = ap committed_of same ∙ extends_commits k.older k.rolled_back (rolled_back_extends k.older k.rolled_back k.rolled_back_on.rolls_back) ∙ ap committed_of (sym older) in
      let f : 1 ≡ 0 = ap (λ (l : List Done). length l) c in
      omega (arith, f));
  page_of_none = λ pages log new last records n k. none_missing pages log new last records k n;
  no_room = λ pages log new last r records long k.
      (let e : length (r ∷ records) ≡ length (next_restart k.rolled_back ∷ k.rolled_back) = ap (λ (l : List Record). length l) k.begun in
      let room = k.room in
      omega (arith, e, room, long));
}

-- a log that was only read
pub only_read : (d : MemLog) → IsRead mem_log d d
only_read d = record { same = refl; honest = λ h. h; leaves = λ c may. may; moments = started mem_log d (mem_log.may_leave d) (λ c left. log_now d c left) }

-- no log is refused so for these
never_stops : (z : Sizes) (first : Images) (old new : MemLog) → StopsOver mem_log z first why.Full old new → ⊥
never_stops z first old new (inl l) = ⊎_elim (λ s. s) (⊎_elim (λ w. (let e = w.0 in cc e)) (⊎_elim (λ b. (let e = b.told in cc e)) (⊎_elim (λ p. ⊎_elim (λ e. cc e) (λ e. cc e) p.is) (λ f. (let e = f.is in cc e))))) l.why
never_stops z first old new (inr r) = r.3

-- nor as unfinished
never_unfinished : (z : Sizes) (first : Images) (old new : MemLog) → StopsOver mem_log z first why.Unfinished old new → ⊥
never_unfinished z first old new (inl l) = ⊎_elim (λ s. s) (⊎_elim (λ w. (let e = w.0 in cc e)) (⊎_elim (λ b. (let e = b.told in cc e)) (⊎_elim (λ p. ⊎_elim (λ e. cc e) (λ e. cc e) p.is) (λ f. (let e = f.is in cc e))))) l.why
never_unfinished z first old new (inr r) = r.3

-- a count of failures is never its own next
never_next : (n : ℕ) → n ≡ (n + 1) % 2 ^ 64 → ⊥
never_next n e = omega (arith, e)

pub refusals : RefusalsAreJudged
refusals = record {
  unfinished = λ pages new_pages log new_log count s. ⊎_elim (λ n. n.stops) (λ r. never_unfinished r.sizes _ log new_log (r.over (inr tt, tt))) s;
  otherwise = λ pages new_pages log new_log count s. ⊎_elim (λ n. n.stops) (λ r. never_stops r.sizes _ log new_log (r.over (inr tt, tt))) s;
  one_open = λ old new s. never_unfinished sizes read_pages old new s;
  memory_with_a_failure = λ pages new_pages log new_log count failed s. ⊎_elim
      (λ n. never_next (mem_log.faults log) (sym (ap mem_log.faults n.same) ∙ failed))
      (λ r. never_next (mem_log.faults log) (sym r.fails.1 ∙ failed)) s;
  write_without_failure = λ pages new_pages log new_log count same kept s. ⊎_elim
      (λ n. n.stops)
      (λ r. ⊎_elim (λ f. never_next (mem_pages.faults pages) (sym same ∙ f.2.once)) (λ f. never_next (mem_log.faults log) (sym kept ∙ f.1)) r.fails) s;
  both_failed = λ pages new_pages log new_log count first second s. ⊎_elim
      (λ n. n.stops)
      (λ r. ⊎_elim (λ f. never_next (mem_log.faults log) (sym f.3 ∙ second)) (λ f. never_next (mem_pages.faults pages) (sym f.0 ∙ first)) r.fails) s;
  commit_lacks_a_page = λ page w. w.is;
  send_may_lack_its_page = record { low = omega arith; high = omega arith; is = refl };
  page_lacks_for_memory = λ front old new p. ⊎_elim (λ e. cc e) (λ e. cc e) p.is;
  not_forced_behind_a_record = λ r old new f. (let e = f.none in cc e);
  not_forced_without_failure = λ r old new same f. never_next (mem_log.faults old) (sym same ∙ f.failed);
  begins_not_of_five = λ s. ⊎_elim (λ e. omega (arith, e)) (λ e. omega (arith, e)) s.0;
  may_not_be_shut = λ s. s;
  damaged_though_left = λ d s. s tt;
}

-- the greatest store has no more pages
within_most : (z : Sizes) → IsInRange z → page_count z ≤ most_frames + 1
within_most z r = (let d = r.directory_high in let c = r.cells_high in let t = r.tags_high in omega (arith, d, c, t))

-- what is seen of the superblock tells the sizes
told_sizes : (pages : MemPages) → AreNewPages pages formatted_pages → IsSuperblock sizes (mem_pages.seen pages 0)
told_sizes pages n = subst (λ (seen : Images). IsSuperblock sizes (seen 0)) (sym (pages_seen_are pages formatted_pages n)) first_block

-- the send's first write is made of the cell page
fill_follows : FollowsRules log_1 (page_op t1 1 fill_cell)
fill_follows = record { running = refl; going = refl; begun = tt; numbered = λ none. refl; undoes = tt; takes_back = tt; reads = tt; begins = tt }

repeated_1 : Repeats sizes log_1 read_pages read_pages
repeated_1 = (
  read_pages,
  refl,
  record {
    belongs = record {
      next = refl;
      follows = record { running = tt; going = tt; begun = tt; numbered = tt; undoes = tt; takes_back = tt; reads = tt; begins = tt };
      may = record { write = tt; before = tt };
    };
    redone = λ p. refl;
  },
)

abbrev filled : Images
filled = image_in filled_pages

repeated_2 : Repeats sizes log_2 read_pages filled
repeated_2 = (
  read_pages,
  repeated_1,
  record {
    belongs = record {
      next = (omega arith, refl);
      follows = fill_follows;
      may = record {
        write = record { slot = cell_told.1; count = omega arith };
        before = λ older. slot_is 0 2 2 cells_0 cells_0_long 1 (omega arith) (omega arith);
      };
    };
    redone = record {
      made = λ older. fill_written;
      kept = λ newer. absurd (let e = no_cell_lsn in omega (arith, e, newer));
      others = others_of_2 0 0 2 groups_0 cells_0 cells_1;
    };
  },
)

-- what is as repeated records leave it is ahead of none of them
none_ahead : (records : List Record) (first : Images) (page : ℕ) (c : List ℕ) → ArePagesCounted sizes (length records) first → 1 ≤ page → page < 3 → IsRepeatedTo sizes first records page c → lsn_of c ≤ length records
none_ahead records first page c counted low high r =
    let all = repeated_counted sizes (length records) (drop r.lacks records) first r.last r.repeated (let less = length-drop r.lacks records in omega (arith, less)) counted in
    subst (λ (i : List ℕ). lsn_of i ≤ length records) (sym r.is) (all page low (omega (arith, high))).lsn

freed_lsn : lsn_of (image_in freed_pages 2) ≡ 6
freed_lsn = lsn_is 6 2 2 cells_2 cells_2_long (omega arith)

taken_lsn : lsn_of (image_in taken_pages 1) ≡ 7
taken_lsn = lsn_is 7 1 1 groups_2 groups_2_long (omega arith)

-- nothing behind the log makes the image that the receive leaves
left_by_none : (pages : MemPages) (log : MemLog) (new_pages : MemPages) (records : List Record) → AreNewPages pages formatted_pages → length records ≤ 6 → mem_pages.may_be new_pages 1 (image_in taken_pages 1)
    → LeavesPages mem_pages mem_log pages log new_pages sizes records → ⊥
left_by_none pages log new_pages records n short may l = ⊎_elim
    (λ was. (let e = taken_lsn in let none = no_group_lsn in let same = ap lsn_of (only_images formatted_pages pages n 1 (image_in taken_pages 1) was) in omega (arith, e, none, same)))
    (λ r. (let e = taken_lsn in let low = none_ahead records (image_in l.images) 1 (image_in taken_pages 1) counted (omega arith) (omega arith) r in omega (arith, e, low, short))) (l.now 1 (image_in taken_pages 1) may) where
      counted : ArePagesCounted sizes (length records) (image_in l.images)
      counted p low high =
          subst (IsCounted sizes (length records) p) (sym (l.were.seen tt p high ∙ ap (λ (seen : Images). seen p) (pages_seen_are pages formatted_pages n))) (counted_read (length records) p low high)

-- an empty log tells none of five records
five_seen : (log : MemLog) → IsNewLog log log_5 → EndsWithAll (standing log_5) (mem_log.seen log)
five_seen log n = ends_all (standing log_5) (mem_log.seen log) (log_seen log log_5 n)

nothing_stands : [] ≡ spelled log_5 → ⊥
nothing_stands e = (let same : [] ≡ log_5 = the_log [] tt log_5 [] tt records_spelled refl (ends_all (standing log_5) [] e) in let n : 0 ≡ 5 = ap (λ (l : List Record). length l) same in omega (arith, n))

nothing_told : (seen : List ℕ) → TellsBehind log_5 seen [] → ⊥
nothing_told seen t =
    let none : [] ≡ t.now = the_log [] tt t.now [] tt t.told refl t.is in
    let e = ap (λ (l : List Record). length l) (ap standing none ∙ t.more.1) in
    let sum = length-append t.more.0 (standing log_5) in
    omega (arith, e, sum)

pub few_frames : FewFramesAreJudged
few_frames = record {
  other_count = λ pages log count s report other o. other o.frames;
  log_emptied = λ pages new_pages log new_log n left k. ⊎_elim
      (λ may. nothing_stands (only_records log log_5 n [] may))
      (nothing_told (mem_log.seen log)) ((k.kept tt log_5 records_spelled (five_seen log n)).each [] left);
  log_left_empty = λ pages new_pages log new_log count n none s. ⊎_elim
      (λ l. l.stops)
      (λ o. nothing_told (mem_log.seen log) (subst (TellsBehind log_5 (mem_log.seen log)) none (o.told (λ e. cc e) tt log_5 records_spelled (five_seen log n)))) s;
  written_where_enough = λ pages new_pages n other r. other (r tt sizes (told_sizes pages n) (omega arith)).same;
  opened_and_written = λ pages log s report are other o. other (o.read (subst (λ (z : Sizes). page_count z ≤ 2 + 1) (sym are) (omega arith))).0.same;
  refused_and_written = λ pages new_pages log new_log r other s. ⊎_elim (λ n. other n.read.same) (λ o. other (o.read (within_most o.sizes o.were.sound.superblock.range)).0.same) s;
  log_touched = λ pages new_pages log new_log other s. ⊎_elim (λ n. n.stops) (λ o. other ((o.read (within_most o.sizes o.were.sound.superblock.range)).1 (λ e. cc e)).same) s;
  changed_for_nothing = λ pages log count s report page within changed same o. (let newer = o.marked tt page within changed in omega (arith, newer, same));
  left_as_repeated = record { lacks = 3; last = filled; repeated = repeated_2; is = refl; header = λ low high. headers_with 0 2 groups_0 cells_1 (omega arith) (omega arith) groups_0_long cells_1_long 2 low high };
  left_by_a_later_record = λ r. (let e = freed_lsn in let low = none_ahead log_5 read_pages 2 (image_in freed_pages 2) (counted_read 5) (omega arith) (omega arith) r in omega (arith, e, low));
  left_without_a_header = λ records r. no_header _ 2 2 (r.header (omega arith) (omega arith));
  left_by_no_record = λ pages log count s report n are short may o.
      left_by_none pages log s.pages s.state.records n short may (subst (λ (z : Sizes). LeavesPages mem_pages mem_log pages log s.pages z s.state.records) are (o.pages_left (tt, tt)));
}

next_spelled : AreSpelled log_next
next_spelled = ((omega arith, omega arith), records_spelled)

commit_spelled : AreSpelled (Commit t1 ∷ log_1)
commit_spelled = (records_spelled.0, first_spelled)

same_length : (a : List Record) → HasNoBase a → (b : List Record) → AreSpelled a → AreSpelled b → spelled a ≡ spelled b → length a ≡ length b
same_length a plain b h k e = ap (λ (l : List Record). length l) (spells_one a plain b h k e)

-- what is left then is no log with less than was read
begun_with_less : (read : List ℕ) → read ≡ spelled log_5 → IsBegunOn sizes (image_in formatted_pages) read (spelled log_4) → ⊥
begun_with_less read is b =
    let bytes = spelled log_4 in
    let images : Images = image_in formatted_pages in
    let older : log_5 ≡ b.older = the_log log_5 records_plain b.older read records_spelled b.begun.told is b.reads in
    let stands = kept_stand sizes images log_5 b.older read bytes records_spelled (sym older) b.begun in
    let left : List Record = kept sizes images log_5 b.older read bytes records_spelled (sym older) b.begun in
    let now : log_4 ≡ left = the_log log_4 records_plain.1 left bytes records_spelled.1 (subst AreAllSpelled (sym stands) b.begun.left_told) refl (subst (λ (l : List Record). EndsWithAll l bytes) (sym stands) b.begun.is) in
    let more = kept_extends sizes images log_5 b.older read bytes records_spelled (sym older) b.begun in
    let a = length-append more.0 log_5 in
    let c : length (more.0 ++ log_5) ≡ 4 = ap (λ (l : List Record). length l) (more.1 ∙ sym now) in
    omega (arith, a, c)

-- plain records behind
abbrev newest_is_plain : List Record → Bool
newest_is_plain [] = true
newest_is_plain (r ∷ log) = is_plain r

no_commit_behind : (more now : List Record) → ArePlain more → more ++ log_1 ≡ now → now ≡ Commit t1 ∷ log_1 → ⊥
no_commit_behind [] now plain e f = (let n : 1 ≡ 2 = ap (λ (l : List Record). length l) (e ∙ f) in omega (arith, n))
no_commit_behind (r ∷ more) now plain e f =
    let b : is_plain r ≡ false = ap newest_is_plain (e ∙ f) in
    let same = sym plain.0 ∙ b in
    cc same

commit_behind : (log : MemLog) → IsNewLog log log_1 → (now : List Record) → now ≡ Commit t1 ∷ log_1
    → mem_log.may_leave log (spelled (Commit t1 ∷ log_1)) ⊎ IsGoneOnWith log_1 (mem_log.seen log) now (spelled (Commit t1 ∷ log_1)) → ⊥
commit_behind log n now is (inl may) =
    (let e : 2 ≡ 1 = same_length (Commit t1 ∷ log_1) (refl, first_plain) log_1 commit_spelled first_spelled (only_records log log_1 n (spelled (Commit t1 ∷ log_1)) may) in omega (arith, e))
commit_behind log n now is (inr on) = no_commit_behind on.more.0 now on.more.2 on.more.1 is

-- a record's fifth byte is its kind
abbrev fifth : List ℕ → ℕ
fifth (p ∷ q ∷ r ∷ s ∷ kind ∷ bytes) = kind
fifth _ = 0

fifth_behind : (p bytes : List ℕ) → length p ≡ 4 → (kind : ℕ) → fifth (p ++ (kind ∷ bytes)) ≡ kind
fifth_behind (p ∷ q ∷ r ∷ s ∷ []) bytes e kind = refl
fifth_behind [] bytes e kind = absurd (omega (arith, e))
fifth_behind (p ∷ []) bytes e kind = absurd (omega (arith, e))
fifth_behind (p ∷ q ∷ []) bytes e kind = absurd (omega (arith, e))
fifth_behind (p ∷ q ∷ r ∷ []) bytes e kind = absurd (omega (arith, e))
fifth_behind (p ∷ q ∷ r ∷ s ∷ t ∷ more) bytes e kind = absurd (omega (arith, e))

fifth_kind : (r : Record) (rest : List ℕ) → fifth (spelling r ++ rest) ≡ kind_number r
unfolding spelling
fifth_kind r rest =
    let n = 1 + length (fields r) in
    ap fifth (append_assoc (number 4 n) (kind_number r ∷ fields r) rest) ∙ fifth_behind (number 4 n) (fields r ++ rest) (length-number 4 n) (kind_number r)

same_fifth : (bytes a b : List ℕ) → 5 ≤ length bytes → fifth (bytes ++ a) ≡ fifth (bytes ++ b)
same_fifth [] a b le = absurd (omega (arith, le))
same_fifth (p ∷ []) a b le = absurd (omega (arith, le))
same_fifth (p ∷ q ∷ []) a b le = absurd (omega (arith, le))
same_fifth (p ∷ q ∷ r ∷ []) a b le = absurd (omega (arith, le))
same_fifth (p ∷ q ∷ r ∷ s ∷ []) a b le = absurd (omega (arith, le))
same_fifth (p ∷ q ∷ r ∷ s ∷ t ∷ bytes) a b le = refl

abbrev torn_end : List ℕ
torn_end = take 7 (spelling (Commit t1))

torn_long : 5 ≤ length torn_end
torn_long = (let long = long_spelling (Commit t1) commit_spelled.0 in let n = length-take-le 7 (spelling (Commit t1)) (omega (arith, long)) in omega (arith, n))

torn_kind : (rest : List ℕ) → fifth (torn_end ++ rest) ≡ 6
torn_kind rest =
    same_fifth torn_end rest (drop 7 (spelling (Commit t1))) torn_long
    ∙ ap fifth (take-append-drop 7 (spelling (Commit t1)) ∙ sym (append-nil (spelling (Commit t1)))) ∙ fifth_kind (Commit t1) []

not_plain : (r : Record) → is_plain r ≡ true → kind_number r ≡ 6 → ⊥
not_plain (OpEnd t n level deed) plain e = cc plain
not_plain (Commit t) plain e = cc plain
not_plain _ plain e = omega (arith, e)

-- the oldest of plain records is no commit
none_commits : (r : Record) (more : List Record) (behind : List ℕ) → ArePlain (r ∷ more) → fifth (spelled_all (r ∷ more) ++ behind) ≡ 6 → ⊥
none_commits r [] behind plain e = not_plain r plain.0 (sym (fifth_kind r behind) ∙ e)
none_commits r (s ∷ more) behind plain e = none_commits s more (spelling r ++ behind) plain.1 (ap fifth (sym (append_assoc (spelled_all (s ∷ more)) (spelling r) behind)) ∙ e)

torn_behind : (more : List Record) (rest : List ℕ) → ArePlain more → spelled_all more ≡ torn_end ++ rest → ⊥
torn_behind [] rest plain e = (let n = ap length e in let m = length-append torn_end rest in let long = torn_long in omega (arith, n, m, long))
torn_behind (r ∷ more) rest plain e = none_commits r more [] plain (ap fifth (append-nil (spelled_all (r ∷ more)) ∙ e) ∙ torn_kind rest)

abbrev torn_commit : List ℕ
torn_commit = spelled log_1 ++ torn_end

torn_commit_behind : (log : MemLog) → IsNewLog log log_1 → (now : List Record) → mem_log.may_leave log torn_commit ⊎ IsGoneOnWith log_1 (mem_log.seen log) now torn_commit → ⊥
torn_commit_behind log n now (inl may) =
    let e = ap (λ (l : List ℕ). length l) (only_records log log_1 n torn_commit may) in
    let sum = length-append (spelled log_1) torn_end in
    let long = torn_long in
    omega (arith, e, sum, long)
torn_commit_behind log n now (inr on) = elim on.first [
  | inl first ↦
      let e = ap (λ (l : List ℕ). length l) (sym (log_seen log log_1 n) ∙ first.1) in
      let sum = length-append (spelled log_1) torn_end in
      let all = length-append torn_commit first.0 in
      let long = torn_long in
      omega (arith, e, sum, all, long)
  | inr whole ↦
      let more = whole.2 in
      let rest = whole.3.0 in
      let front = spelled log_1 in
      torn_behind more.0 rest more.2 (
      sym (drop-append_seam front (spelled_all more.0))
      ∙ ap (drop (length front)) (sym (spelled-append more.0 log_1) ∙ ap spelled_all (sym (added_stand more.0 log_1 more.2)) ∙ ap spelled more.1 ∙ whole.3.1 ∙ append_assoc front torn_end rest)
      ∙ drop-append_seam front (torn_end ++ rest)
      )
]

-- bytes tell one log
one_each : OneLogEach
one_each a b bytes = one_log (standing a) (standing b) bytes

pub beginnings : BeginningsAreJudged
beginnings = record {
  begun_without_a_record = λ d b. (let f : 0 ≡ 1 = ap is_restart b.records in omega (arith, f));
  begun_the_same = λ d b.
      (let same : log_5 ≡ b.rolled_back = ap rest_of b.records in
      let one : 1 ≡ incarnation_of b.rolled_back = ap incarnation_of same in
      let f : 1 ≡ incarnation_of b.rolled_back + 1 = ap begins b.records in
      omega (arith, one, f));
  begun_and_not_forced = λ d b. (let f : 5 ≡ 6 = b.forced in omega (arith, f));
  begun_and_failed = λ d b. (let f = b.running in cc f);
  ready_for_none = λ log r. (let f = r.begun in omega (arith, f));
  ready_and_failed = λ i log fails r. (let f = sym fails ∙ r.running in cc f);
  ready_and_too_long = λ i log long r. (let f = r.count in omega (arith, f, long));
  ready_behind_its_device = λ d n r.
      (let f : 5 ≡ 6 = same_length log_5 records_plain log_next records_spelled next_spelled (sym (log_seen d log_5 n) ∙ r.reads tt) in omega (arith, f));
  ready_and_not_forced = λ d may r.
      (let f : 5 ≡ 6 = same_length log_5 records_plain log_next records_spelled next_spelled (r.durable tt (spelled log_5) may) in omega (arith, f));
  record_lost = λ old new n left b.
      ⊎_elim
      (λ may. (let f : 4 ≡ 5 = same_length log_4 records_plain.1 log_5 records_spelled.1 records_spelled (only_records old log_5 n (spelled log_4) may) in omega (arith, f)))
      (begun_with_less (mem_log.seen old) (log_seen old log_5 n)) ((b tt).each (spelled log_4) left);
  commit_added = λ old new n left b.
      ⊎_elim
      (λ may. (let f : 2 ≡ 1 = same_length (Commit t1 ∷ log_1) (refl, first_plain) log_1 commit_spelled first_spelled (only_records old log_1 n (spelled (Commit t1 ∷ log_1)) may) in omega (arith, f)))
      (λ k. begun_commit (subst (λ read. IsBegunOn sizes (image_in formatted_pages) read (spelled (Commit t1 ∷ log_1))) (log_seen old log_1 n) k))
      ((b tt).each (spelled (Commit t1 ∷ log_1)) left);
  of_stores = λ pages log new h seen honest z read told is each.
      sym (the_log log_5 records_plain read (mem_log.seen log) records_spelled told (log_seen log log_5 h.1) is);
  of_other_stores = λ pages log new h q.
      (let e : 5 ≡ 4 = ap (λ (l : List Record). length l) (told_of (λ z read. read ≡ log_4) pages log new h q) in omega (arith, e));
  of_no_store = λ pages log new h q. told_of (λ z read. ⊥) pages log new h q;
  goes_on_with_a_commit = λ log images n k.
      commit_behind log n k.0 (sym (the_log (Commit t1 ∷ log_1) (refl, first_plain) k.0 (spelled (Commit t1 ∷ log_1)) commit_spelled k.1.are_spelled refl k.1.is)) k.3;
  goes_on_with_a_torn_commit = λ log images n k. torn_commit_behind log n k.0 k.3;
  shut_for_damage = λ pages new_pages log new_log d h s.
      (refused_over sizes crashed pages new_pages log new_log (why.Damaged d) (shuts pages log h) s).cause tt;
  shut_with_less = λ pages new_pages log new_log r h n s.
      shuts_with_less new_pages new_log n (refused_stays one_each sizes crashed pages log r new_pages new_log s (shuts pages log h));
  refuses_without_reason = λ r.
      (let s = (r running.force.sound).0 in
      let e = subst (Legal (size_of sizes) (ledger_of forced)) s.says s.legal in
      cc e);
  refuses_without_cause = λ r. (let e = (r running.force.sound).1 in cc e);
} where
  told_of : (Q : Sizes → List Record → Type 0) (pages : MemPages) (log new : MemLog) → Hold pages formatted_pages log log_5 → OfStores mem_pages mem_log pages log pages new Q → Q sizes log_5
  told_of Q pages log new h q =
      q tt tt sizes log_5 records_spelled (ends_all log_5 (mem_log.seen log) (log_seen log log_5 h.1))
      (λ images bytes a b. (log_5, leaves_store pages log h images bytes a b, refl))
