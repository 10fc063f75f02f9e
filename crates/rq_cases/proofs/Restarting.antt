-- What a restart finds, makes and refuses.
use Rattle.std.proofs.Common.{◌≡◌, ℕ, zero, suc, ◌≤◌, ◌<◌, List, [], ◌∷◌, ◌++◌, length, take, drop, refl, sym, ap, ◌∙◌, subst, arith}
use Rattle.rq_disk.specs.Device.{Images}
use Rattle.rq_restart.proofs.Pasts.{left_there, mended_alone}
use Rattle.rq_restart.specs.RolledBack.{IsRolledBack}
use Rattle.rq_analysis.specs.Recovered.{IsRecovered}
use Rattle.rq_engine.specs.Earlier.{rebased}
use Rattle.rq_model.specs.Bases.{earlier}
use Rattle.rq_model.specs.declared.record.Record.{Record}
use Rattle.rq_model.specs.declared.record.Record.TheVariants.{Commit, Restart}
use Rattle.rq_disk.specs.Memory.{fresh_pages, reads}
use Rattle.rq_disk.specs.declared.mem_pages.MemPages.{MemPages}
use Rattle.rq_log.specs.Spelled.{AreAllSpelled, EndsWithAll, spelled}
use Rattle.std.proofs.lemmas.List.{take-append-drop}
use Rattle.rq_bytes.specs.Number.{number_at}
use Rattle.rq_page.specs.declared.directory.DirectorySlot.{DirectorySlot}
use Rattle.rq_page.specs.Directories.{IsDirectorySlot, directory_bytes, directory_in, new_directory}
use Rattle.rq_page.proofs.DirectoryBytes.{directory_in-directory_bytes}
use Rattle.rq_page.specs.Pages.{lsn_of}
use Rattle.rq_page.specs.Sizes.{sender_at}
use Rattle.rq_views.specs.WorkedItems.{t1}
use Rattle.rq_store.specs.Fitting.{FitsLog, image_in}
use Rattle.rq_store.specs.Opening.{IsLeft, next_restart}
use Rattle.rq_store.specs.Whole.{IsWhole}
use Rattle.rq_store.proofs.Based.{unbased}
use Rattle.rq_store.proofs.Cutting.{whole_dropped, fits_log_longer}
use Rattle.rq_store.proofs.Formatting.{formatted_fits}
use Rattle.rq_restart.specs.Repeating.{ArePagesCounted, Repeats}
use Rattle.rq_restart.specs.Restarting.{IsBegunOn, IsLeftOn}
use Rattle.rq_restart.proofs.Begun.{rolled_back_incarnation}
use Rattle.rq_analysis.proofs.Recovering.{recovered_from}
use Rattle.rq_restart.proofs.Paths.{kept, kept_extends, kept_stand}
use Rattle.rq_model.specs.Commits.{committed_of}
use Rattle.rq_model.specs.Incarnations.{InOrder, incarnation_of}
use Rattle.rq_model.specs.declared.refusal.Refusal.TheVariants as why
use Rattle.rq_model.proofs.Cuts.{extends_commits, incarnation_grows}
use Rattle.rq_analysis.proofs.Undos.{nothing_undone}
use Rattle.rq_restart.specs.Checked.{IsEnded}
use Rattle.rq_core.specs.Devices.{mem_log, mem_pages}
use Rattle.rq_cases.specs.Opened.{AreNewPages}
use Rattle.rq_cases.specs.Restarting.{RestartsAreJudged, Shuts, read_pages}
use Rattle.rq_cases.specs.Run.{log_1, log_4, log_5}
use Rattle.rq_cases.specs.Store.{cells_0, formatted_pages, groups_0, groups_1, page_image, sent_pages, sizes}
use Rattle.rq_cases.proofs.Bytes.{first_spelled, records_spelled, the_log}
use Rattle.rq_cases.proofs.Held.{log_seen}
use Rattle.rq_cases.proofs.Images.{lsn_is, slot_is}
use Rattle.rq_cases.proofs.Pages.{are_formatted, cells_0_long, groups_0_long, groups_1_long, range}
use Rattle.rq_cases.proofs.Bytes.{first_plain}
use Rattle.rq_cases.proofs.Bytes.{records_plain}
use Rattle.rq_cases.proofs.Running as running

-- what the devices read
pub pages_seen_are : (d : MemPages) (images : List (List ℕ)) → AreNewPages d images → mem_pages.seen d ≡ reads (fresh_pages images)
pages_seen_are d images n = ap reads n.pages

pub formatted_fit : FitsLog sizes (image_in formatted_pages) log_5
formatted_fit = fits_log_longer sizes (image_in formatted_pages) [] log_5 (5, refl) (formatted_fits sizes (image_in formatted_pages) range are_formatted)

pub group_lsn : lsn_of (page_image 3 1 1 groups_1) ≡ 3
group_lsn = lsn_is 3 1 1 groups_1 groups_1_long (omega arith)

pub no_group_lsn : lsn_of (page_image 0 1 1 groups_0) ≡ 0
no_group_lsn = lsn_is 0 1 1 groups_0 groups_0_long (omega arith)

pub no_cell_lsn : lsn_of (page_image 0 2 2 cells_0) ≡ 0
no_cell_lsn = lsn_is 0 2 2 cells_0 cells_0_long (omega arith)

not_left : (d new : MemPages) → AreNewPages d sent_pages → IsLeftOn mem_pages sizes d new log_1 → ⊥
not_left d new n l =
    let k : IsLeft sizes (reads (fresh_pages sent_pages)) log_1 = subst (λ (seen : ℕ → List ℕ). IsLeft sizes seen log_1) (pages_seen_are d sent_pages n) l.left in
    let w : lsn_of (page_image 3 1 1 groups_1) ≤ 1 = (k.fits.pages 1 (omega arith) (omega arith)).within in
    let e = group_lsn in
    omega (arith, e, w)

-- two logs of one spelling
pub same_log : (a b : List Record) → IsEnded a → a ≡ b → IsEnded b
same_log a b h e = subst IsEnded e h

abbrev pub rest_of : List Record → List Record
rest_of [] = []
rest_of (r ∷ rs) = rs

abbrev pub is_restart : List Record → ℕ
is_restart (Restart i ∷ log) = 1
is_restart _ = 0

-- what a directory slot counts
sent_number : (x : DirectorySlot) → IsDirectorySlot x → number_at 8 8 (directory_bytes x) ≡ x.directory.sent
unfolding directory_in
sent_number x is = ap (λ (y : DirectorySlot). y.directory.sent) (directory_in-directory_bytes x is)

new_in_range : (s : ℕ) → s < 15 → IsDirectorySlot (record { sender = s; directory = new_directory })
new_in_range s low = record {
  sender = omega (arith, low);
  sent = omega arith;
  received = omega arith;
  last_tag = omega arith;
  head = omega arith;
  tail = omega arith;
}

new_count : (n : ℕ) → 1 ≤ n → n ≤ 15 → number_at 8 8 (groups_0 n) ≡ 0
new_count n low high = sent_number (record { sender = sender_at 1 n; directory = new_directory }) (new_in_range (sender_at 1 n) (omega (arith, low, high)))

-- no number is beyond a log of three records
module _ (count : ℕ) where
  pub counted_read : ArePagesCounted sizes count read_pages
  counted_read zero low high = absurd (omega (arith, low))
  counted_read (suc zero) low high = record {
    lsn = (let e = no_group_lsn in omega (arith, e));
    slots = λ n from to. (let e = ap (number_at 8 8) (slot_is 0 1 1 groups_0 groups_0_long n from to) ∙ new_count n from to in omega (arith, e));
  }
  counted_read (suc (suc zero)) low high = record { lsn = (let e = no_cell_lsn in omega (arith, e)); slots = λ n from to. omega arith }
  counted_read (suc (suc (suc p))) low high = absurd (omega (arith, high))

pub whole_5 : IsWhole sizes log_5
whole_5 = running.commit_send.sound.log

-- the write of the cell was made, whatever the pages were between
pub made_there : (first last : Images) → lsn_of (first 2) ≡ 0 → lsn_of (last 2) ≡ 0 → Repeats sizes log_5 first last → ⊥
made_there first last none still five =
    let four = five.1 in
    let three = four.1 in
    let two = three.1 in
    let one = two.1 in
    let was : lsn_of (two.0 2) ≡ 0 = ap lsn_of (one.2.redone 2) ∙ ap (λ (m : Images). lsn_of (m 2)) one.1 ∙ none in
    let made : lsn_of (three.0 2) ≡ 2 = (two.2.redone.made (omega (arith, was))).lsn in
    let then : lsn_of (four.0 2) ≡ lsn_of (three.0 2) = ap lsn_of (three.2.redone.others 2 (λ e. omega (arith, e))) in
    let end : lsn_of (five.0 2) ≡ lsn_of (four.0 2) = ap lsn_of (four.2.redone 2) in
    let now : lsn_of (last 2) ≡ lsn_of (five.0 2) = ap lsn_of (five.2.redone 2) in
    omega (arith, made, then, end, now, still)

pub open_4 : IsEnded log_4 → ⊥
open_4 e = cc e

none_full : Shuts log_5 why.LogFull → ⊥
none_full s =
    let b = s.0 in
    let e : length b.now ≡ 5 = ap length (b.none_lost refl ∙ nothing_undone log_5 b.undone refl refl b.undoing) in
    let full = b.full in
    omega (arith, e, full)

formatted_fit_4 : FitsLog sizes (image_in formatted_pages) log_4
formatted_fit_4 = fits_log_longer sizes (image_in formatted_pages) [] log_4 (4, refl) (formatted_fits sizes (image_in formatted_pages) range are_formatted)

pub whole_4 : IsWhole sizes log_4
whole_4 = whole_dropped sizes 1 log_5 whole_5

pub left_4 : IsLeft sizes (image_in formatted_pages) log_4
left_4 = record { whole = whole_4; fits = formatted_fit_4; based = unbased sizes log_4 (image_in formatted_pages) records_plain.1 formatted_fit_4 }

begun_open : IsBegunOn sizes (image_in formatted_pages) (spelled log_4) (spelled (Restart 2 ∷ log_4)) → ⊥
begun_open b =
    let bytes = spelled (Restart 2 ∷ log_4) in
    let images : Images = image_in formatted_pages in
    let older : log_4 ≡ b.older = the_log log_4 records_plain.1 b.older (spelled log_4) records_spelled.1 b.begun.told refl b.reads in
    let mends : IsRolledBack log_4 b.begun.rolled_back = subst (λ (l : List Record). IsRolledBack l b.begun.rolled_back) (sym older) b.begun.rolls_back in
    let alone = mended_alone log_4 records_plain.1 records_spelled.1 b.begun.rolled_back mends in
    let now : Restart 2 ∷ log_4 ≡ drop b.begun.lacks (next_restart b.begun.rolled_back ∷ b.begun.rolled_back) =
    the_log (Restart 2 ∷ log_4) (refl, records_plain.1) (drop b.begun.lacks (next_restart b.begun.rolled_back ∷ b.begun.rolled_back)) bytes ((omega arith, omega arith), records_spelled.1) b.begun.left_told refl b.begun.is in
    let recovered = left_there b.older log_4 (sym older) records_spelled.1 b.begun.recovered left_4 in
    let from = recovered_from sizes log_4 b.begun.rolled_back whole_4 (subst (λ (l : List Record). IsRecovered sizes log_4 l) alone (subst (λ (l : List Record). IsRecovered sizes (rebased (earlier log_4) l) (rebased (earlier log_4) b.begun.rolled_back)) (sym older) recovered)) in
    let one : incarnation_of b.begun.rolled_back ≡ 1 = rolled_back_incarnation b.older b.begun.rolled_back b.begun.rolls_back ∙ ap incarnation_of (sym older) in
    at b.begun.rolled_back b.begun.lacks now b.begun.rolls_back.ended one from.whole.order where
      at : (rolled_back : List Record) (n : ℕ) → Restart 2 ∷ log_4 ≡ drop n (next_restart rolled_back ∷ rolled_back) → IsEnded rolled_back → incarnation_of rolled_back ≡ 1 → InOrder rolled_back → ⊥
      at rolled_back zero e ended one order = open_4 (same_log rolled_back log_4 ended (sym (ap rest_of e)))
      at rolled_back (suc n) e ended one order =
          let whole : take n rolled_back ++ drop n rolled_back ≡ rolled_back = take-append-drop n rolled_back in
          let grows = incarnation_grows (take n rolled_back) (drop n rolled_back) (subst InOrder (sym whole) order) in
          let two : 2 ≡ incarnation_of (drop n rolled_back) = ap incarnation_of e in
          let all : incarnation_of (take n rolled_back ++ drop n rolled_back) ≡ incarnation_of rolled_back = ap incarnation_of whole in
          omega (arith, grows, two, all, one)

pub begun_commit : IsBegunOn sizes (image_in formatted_pages) (spelled log_1) (spelled (Commit t1 ∷ log_1)) → ⊥
begun_commit b =
    let bytes = spelled (Commit t1 ∷ log_1) in
    let images : Images = image_in formatted_pages in
    let older : log_1 ≡ b.older = the_log log_1 first_plain b.older (spelled log_1) first_spelled b.begun.told refl b.reads in
    let stands = kept_stand sizes images log_1 b.older (spelled log_1) bytes first_spelled (sym older) b.begun in
    let left : List Record = kept sizes images log_1 b.older (spelled log_1) bytes first_spelled (sym older) b.begun in
    let now : Commit t1 ∷ log_1 ≡ left = the_log (Commit t1 ∷ log_1) (refl, first_plain) left bytes (records_spelled.0, first_spelled) (subst AreAllSpelled (sym stands) b.begun.left_told) refl (subst (λ (l : List Record). EndsWithAll l bytes) (sym stands) b.begun.is) in
    let same : committed_of (Commit t1 ∷ log_1) ≡ committed_of log_1 = ap committed_of now ∙ extends_commits log_1 left (kept_extends sizes images log_1 b.older (spelled log_1) bytes first_spelled (sym older) b.begun) in
    let count : 1 ≡ 0 = ap length same in
    omega (arith, count)

left_5 : IsLeft sizes (image_in formatted_pages) log_5
left_5 = record { whole = whole_5; fits = formatted_fit; based = unbased sizes log_5 (image_in formatted_pages) records_plain formatted_fit }

pub restarts : RestartsAreJudged
restarts = record {
  reports_the_same_incarnation = λ n undone gone r. (let e : 1 ≡ 2 = r.incarnation_is in omega (arith, e));
  reports_no_record = λ i undone gone r. (let e : 5 ≡ 6 = r.records_are in omega (arith, e));
  reports_one_lost = λ i n undone r. (let e : 1 ≡ 0 = r.lost_are whole_5 in omega (arith, e));
  one_lost = λ records. record { incarnation_is = refl; records_are = refl; unfinished_read = refl; lost_read = refl; unfinished_are = λ w. refl; lost_are = λ w. refl };
  none_lost = λ records i n undone r. (let e : 0 ≡ 1 = r.lost_are whole_4 in omega (arith, e));
  read_as_less = λ d new n r.
      (let e : 5 ≡ 4 = ap (λ (l : List Record). length l) (the_log log_5 records_plain log_4 (mem_log.seen d) records_spelled r.are_spelled (log_seen d log_5 n) r.reads) in omega (arith, e));
  left_ahead = not_left;
  transaction_open = open_4;
  begun_where_one_is_open = begun_open;
  begun_by_a_commit = begun_commit;
  not_repeated = λ g. made_there read_pages read_pages no_cell_lsn no_cell_lsn g.repeated;
  unfinished = λ s. s;
  log_full_of_five = none_full;
  disk_over_a_lone_commit = λ s. (let n = s.1.repeated.2.belongs.next.1 in omega (arith, n));
  chains_are_whole = λ page u. u.none [] refl left_5;
  stops_unfinished = λ s. s;
  stops_for_damage = λ d s. s left_4;
  stops_for_another = λ s. s;
}
