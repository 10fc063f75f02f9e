-- What the moves of aborts come to: what a crash leaves of them, and the store that opens behind them.
use Rattle.std.proofs.Common.{◌≡◌, ℕ, zero, suc, ◌+◌, ◌≤◌, true, false, not, List, [], ◌∷◌, ◌++◌, length, drop, refl, sym, ◌∙◌, ap, subst, arith}
use Rattle.std.proofs.lemmas.Bool.{true≢false, or_parts, not-true}
use Rattle.std.proofs.lemmas.List.{drop-append-le, length-append}
use Rattle.rq_model.specs.declared.txn.Txn.{Txn}
use Rattle.rq_model.specs.declared.record.Record.{Record}
use Rattle.rq_model.specs.declared.record.Record.TheVariants as records
use Rattle.rq_model.specs.Vocabulary.{In}
use Rattle.rq_model.specs.Content.{content, ending, ends_txn, has_end}
use Rattle.rq_model.specs.Incarnations.{incarnation_of, ArePlain, Extends, is_plain}
use Rattle.rq_model.specs.Ledger.{Done, group_in}
use Rattle.rq_model.specs.Unended.{add_txn, lost, workers}
use Rattle.rq_model.proofs.Cuts.{extends_commits, extends_incarnation, extends_join}
use Rattle.rq_model.proofs.Lists.{In-filter}
use Rattle.rq_model.proofs.Told.{content_is}
use Rattle.rq_page.specs.Sizes.{Sizes, IsInRange}
use Rattle.rq_views.specs.Stored.{slots_in}
use Rattle.rq_views.proofs.AllOpen.{filter_in}
use Rattle.rq_store.specs.Fitting.{AllHoldBase, FitsLog, image_in, left_by, oldest}
use Rattle.rq_store.specs.State.{State}
use Rattle.rq_store.specs.Whole.{IsWhole}
use Rattle.rq_store.proofs.Cutting.{whole_dropped}
use Rattle.rq_sound.specs.Sound.{IsSound}
use Rattle.rq_sound.proofs.Contracts.{opened_is}
use Rattle.rq_analysis.specs.Pages.{IsUndone}
use Rattle.rq_analysis.proofs.Undos.{undone_from}
use Rattle.rq_analysis.specs.Moves.{AreAborted, IsAbortMove, MovesBehind, newest_store}
use Rattle.rq_analysis.specs.Moves.IsAbortMove.{Starts, Writes, Undoes, Ends}
use Rattle.rq_analysis.specs.Lost.{IsRepeated, lost_store}
use Rattle.rq_analysis.specs.AbortTheorems.{IsRestored, IsStopped}
use Rattle.rq_analysis.proofs.Moving.{aborted_sound, move_extends, moves_sound}
use Rattle.rq_analysis.proofs.Settled.{none_lost, none_unfinished}
use Rattle.rq_analysis.proofs.Store.{lost_sound}

move_sizes : (s now : State) → IsAbortMove s now → now.sizes ≡ s.sizes
move_sizes s now (Starts r u rest f may lowest e) = ap (λ (x : State). x.sizes) e
move_sizes s now (Writes r u w images lsn d aim next e) = ap (λ (x : State). x.sizes) e
move_sizes s now (Undoes r u lsn d waiting ready more e) = ap (λ (x : State). x.sizes) e
move_sizes s now (Ends r idle aborting none e) = ap (λ (x : State). x.sizes) e

pub moves_sizes : (s : State) (ns : List State) → MovesBehind s ns → (newest_store s ns).sizes ≡ s.sizes
moves_sizes s [] h = refl
moves_sizes s (n ∷ ns) h = move_sizes (newest_store s ns) n h.0 ∙ moves_sizes s ns h.1

pub moves_extend : (s : State) (ns : List State) → MovesBehind s ns → Extends s.records (newest_store s ns).records
moves_extend s [] h = ([], refl, tt)
moves_extend s (n ∷ ns) h = extends_join s.records (newest_store s ns).records n.records (moves_extend s ns h.1) (move_extends (newest_store s ns) n h.0)

-- plain records leave the content as it was
plain_content : (z : Sizes) (log now : List Record) (g : ℕ) → IsWhole z log → IsWhole z now → Extends log now → content now g ≡ content log g
plain_content z log now g w v x =
    content_is g now v.rules
    ∙ ap (λ (c : List Done). group_in c g) (extends_commits log now x)
    ∙ sym (content_is g log w.rules)

-- nobody is lost behind them who was not
plain_ending : (r : Record) (ts : List Txn) → is_plain r ≡ true → add_txn (ending r) ts ≡ ts
plain_ending (records.OpEnd t n level deed) ts e = absurd (true≢false (sym e))
plain_ending (records.Commit t) ts e = absurd (true≢false (sym e))
plain_ending _ ts e = refl

same_workers : (more log : List Record) → ArePlain more → workers (more ++ log) ≡ workers log
same_workers [] log p = refl
same_workers (r ∷ more) log p = plain_ending r (workers (more ++ log)) p.0 ∙ same_workers more log p.1

ended_before : (more log : List Record) (t : Txn) → has_end (more ++ log) t ≡ false → has_end log t ≡ false
ended_before [] log t e = e
ended_before (r ∷ more) log t e = ended_before more log t (or_parts (ends_txn t r) (has_end (more ++ log) t) e).1

none_new : (log now : List Record) → Extends log now → (t : Txn) → In t (lost now) → In t (lost log)
none_new log now x t i = at (subst (λ l. In t (lost l)) (sym x.1) i) where
  at : In t (lost (x.0 ++ log)) → In t (lost log)
  at j =
      let g = In-filter (λ u. not (has_end (x.0 ++ log) u)) (workers (x.0 ++ log)) t j in
      filter_in (λ u. not (has_end log u)) (workers log) t (subst (In t) (same_workers x.0 log x.2) g.0) (ap not (ended_before x.0 log t (not-true (has_end (x.0 ++ log) t) g.1)))

pub plain_drop : (n : ℕ) (xs : List Record) → ArePlain xs → ArePlain (drop n xs)
plain_drop zero xs h = h
plain_drop (suc n) [] h = h
plain_drop (suc n) (x ∷ xs) h = plain_drop n xs h.1

pub cut_extends : (n : ℕ) (log now : List Record) → Extends log now → n + length log ≤ length now → Extends log (drop n now)
cut_extends n log now x within =
    let a : length (x.0 ++ log) ≡ length now = ap length x.1 in
    let b = length-append x.0 log in
    (drop n x.0, sym (drop-append-le n x.0 log (omega (arith, a, b, within))) ∙ ap (drop n) x.1, plain_drop n x.0 x.2)

pub stopped_at : (z : Sizes) (log cut : List Record) → IsWhole z log → IsWhole z cut → Extends log cut → IsStopped z log cut
stopped_at z log cut w v x = record {
  whole = v;
  extends = x;
  committed = extends_commits log cut x;
  content = λ g. plain_content z log cut g w v x;
  none_new = none_new log cut x;
  again = λ last h. undone_from z cut last v h;
}

pub may_stop : (s : State) (ns : List State) (n : ℕ) → IsSound s → MovesBehind s ns → n + length s.records ≤ length (newest_store s ns).records → IsStopped s.sizes s.records (drop n (newest_store s ns).records)
may_stop s ns n k h within =
    let whole : IsWhole s.sizes (newest_store s ns).records = subst (λ z. IsWhole z (newest_store s ns).records) (moves_sizes s ns h) (moves_sound s ns k h).log in
    stopped_at s.sizes s.records (drop n (newest_store s ns).records) k.log
    (whole_dropped s.sizes n (newest_store s ns).records whole)
    (cut_extends n s.records (newest_store s ns).records (moves_extend s ns h) within)

aborted_extends : (s now : State) → AreAborted s now → Extends s.records now.records
aborted_extends s now a = subst (λ (n : State). Extends s.records n.records) a.last (moves_extend s a.stores a.moves)

pub restored : (s now : State) → IsSound s → AreAborted s now → IsRestored s.sizes s.records now
restored s now k a =
    let sound = aborted_sound s now k a in
    let sizes : now.sizes ≡ s.sizes = sym (ap (λ (n : State). n.sizes) a.last) ∙ moves_sizes s a.stores a.moves in
    let x = aborted_extends s now a in
    let ended = none_unfinished now sound a.none in
    let alone = none_lost now sound a.none in
    record {
      sizes = sizes;
      whole = subst (λ z. IsWhole z now.records) sizes sound.log;
      extends = x;
      committed = extends_commits s.records now.records x;
      content = λ g. plain_content s.sizes s.records now.records g k.log (subst (λ z. IsWhole z now.records) sizes sound.log) x;
      unfinished = ended;
      lost = alone;
      opens = opened_is now.sizes now.images now.records sound.range sound.log ended alone sound.pages sound.fits sound.based;
      shows = extends_commits s.records now.records x;
    }

pub lost_restored : (z : Sizes) (images : List (List ℕ)) (log : List Record) (forced : ℕ) (now : State) → IsRepeated z images log forced → AreAborted (lost_store z images log forced) now → IsRestored z log now
lost_restored z images log forced now h a = restored (lost_store z images log forced) now (lost_sound z images log forced h) a

-- a restart goes on from there
pub stop_repeated : (z : Sizes) (images : List (List ℕ)) (log cut last : List Record) (forced : ℕ) → IsInRange z → 1 ≤ incarnation_of log → IsStopped z log cut → IsUndone cut last
    → incarnation_of (oldest forced last) ≡ incarnation_of last → forced ≤ length last → ((a : ℕ) → slots_in z images a ≡ (left_by z last).slots a) → FitsLog z (image_in images) last → AllHoldBase z (image_in images) last → IsRepeated z images last forced
stop_repeated z images log cut last forced range some h u begun within pages fits based =
    let done = h.again last u in
    let a = extends_incarnation log cut h.extends h.whole.order in
    let b = extends_incarnation cut last done.extends done.whole.order in
    record {
      range = range;
      whole = done.whole;
      none_unfinished = done.none_unfinished;
      some = omega (arith, some, a, b);
      begun = begun;
      within = within;
      pages = pages;
      fits = fits;
      based = based;
    }
