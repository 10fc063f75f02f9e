-- What undoes what has no end in a log.
use Rattle.std.proofs.Common.{◌≡◌, ℕ, ◌+◌, ◌<◌, ◌≤◌, Bool, true, false, List, [], ◌∷◌, length, take, refl, sym, ◌∙◌, ap, subst, arith}
use Rattle.std.proofs.lemmas.Bool.{false≢true}
use Rattle.rq_disk.specs.Device.{Images}
use Rattle.rq_model.specs.declared.record.Record.{Record}
use Rattle.rq_model.specs.declared.record.Record.TheVariants as records
use Rattle.rq_model.specs.declared.record.Record.TheVariants.{AbortEnd, Commit, CompEnd}
use Rattle.rq_model.specs.declared.txn.Txn.{Txn}
use Rattle.rq_level.specs.declared.writes.SlotWrite.{SlotWrite}
use Rattle.rq_views.specs.WorkedItems as items
use Rattle.rq_views.specs.WorkedItems.{t1, t2}
use Rattle.rq_store.specs.Fitting.{image_in}
use Rattle.rq_store.specs.Opening.{IsLeft}
use Rattle.rq_store.specs.Steps.{page_op}
use Rattle.rq_store.proofs.Based.{unbased}
use Rattle.rq_store.proofs.Cutting.{fits_log_longer, whole_dropped}
use Rattle.rq_store.proofs.Formatting.{formatted_fits}
use Rattle.rq_analysis.specs.Pages.{IsUndone}
use Rattle.rq_analysis.proofs.Undos.{nothing_undone, undoing_none}
use Rattle.rq_analysis.specs.Worked.{log_two, sent_due, took_due}
use Rattle.rq_analysis.specs.WorkedMoves.{Pages, cell_is_back, ended, group_is_back, put_back, unlink}
use Rattle.rq_restart.specs.Aborting.{AbortsBehind, AreRounds, IsAborting, IsTakenNext, RepeatedFrom, Round, after_round, after_rounds, with_writes}
use Rattle.rq_restart.specs.Aborting.IsAborting.{Between, Within}
use Rattle.rq_restart.specs.Aborting.Round.{Ends, TakesBack}
use Rattle.rq_restart.specs.RolledBack.{IsRolledBack}
use Rattle.rq_restart.proofs.Aborts.{aborts_none}
use Rattle.rq_restart.proofs.Begun as begun
use Rattle.rq_cases.specs.RollingBack.{MendsAreJudged}
use Rattle.rq_cases.specs.Restarting.{read_pages}
use Rattle.rq_cases.specs.Run.{log_2, log_5}
use Rattle.rq_cases.specs.Store.{formatted_pages, sizes}
use Rattle.rq_cases.proofs.Pages.{are_formatted, range}
use Rattle.rq_cases.proofs.Restarting.{left_4, whole_5}

-- ---- the lost transaction

none_unfinished : IsUndone log_two log_two
none_unfinished = record { undoing = undoing_none log_two; none = refl }

took_next : IsTakenNext log_two took_due 3
took_next = record { older = sent_due ∷ []; first = refl; nobody = refl; number = refl }

back_twice : (v : Pages) → AbortsBehind log_two (ended v).records
back_twice v = record {
  rounds = Ends t2 ∷ TakesBack sent_due 4 unlink.writes ∷ TakesBack took_due 3 put_back.writes ∷ [];
  turns = (refl, (record { older = []; first = refl; nobody = refl; number = refl }, (took_next, tt)));
  are = refl;
}

rolled_back : (v : Pages) → IsRolledBack log_two (ended v).records
rolled_back v = record { undone = log_two; undoes = none_unfinished; aborting = back_twice v; ended = refl; none_lost = λ e. absurd (cc e) }

-- writes make a log no shorter, and rounds make it longer
writes_longer : (t : Txn) (n : ℕ) (ws : List SlotWrite) (log : List Record) → length log ≤ length (with_writes t n ws log)
writes_longer t n [] log = omega arith
writes_longer t n (w ∷ ws) log = (let a = writes_longer t n ws (page_op t n w ∷ log) in omega (arith, a))

round_longer : (r : Round) (log : List Record) → length log < length (after_round r log)
round_longer (Ends t) log = omega arith
round_longer (TakesBack d n ws) log = (let a = writes_longer d.txn n ws log in omega (arith, a))

rounds_longer : (rs : List Round) (log : List Record) → length log ≤ length (after_rounds rs log)
rounds_longer [] log = omega arith
rounds_longer (r ∷ rs) log = (let a = round_longer r (after_rounds rs log) in let b = rounds_longer rs log in omega (arith, a, b))

-- nobody ends behind the log, before what it did is taken back
none_ends : (t : Txn) → AbortsBehind log_two (AbortEnd t ∷ log_two) → ⊥
none_ends t a = by a.rounds a.turns a.are where
  older : (s : Txn) (rs : List Round) → after_rounds rs log_two ≡ log_two → AreRounds log_two (Ends s ∷ rs) → ⊥
  older s [] e h = cc h.0
  older s (r ∷ rs) e h =
      let a = round_longer r (after_rounds rs log_two) in
      let b = rounds_longer rs log_two in
      let c : length (after_rounds (r ∷ rs) log_two) ≡ length log_two = ap length e in
      omega (arith, a, b, c)

  rest_of : List Record → List Record
  rest_of [] = []
  rest_of (r ∷ rs) = rs

  by : (rs : List Round) → AreRounds log_two rs → after_rounds rs log_two ≡ AbortEnd t ∷ log_two → ⊥
  by [] h e = (let n : length log_two ≡ length (AbortEnd t ∷ log_two) = ap length e in omega (arith, n))
  by (Ends s ∷ rs) h e = older s rs (ap rest_of e) h
  by (TakesBack d n ws ∷ rs) h e = cc e

-- the newest record of a round
abbrev is_end : List Record → Bool
is_end [] = false
is_end (AbortEnd t ∷ log) = true
is_end (CompEnd t n undone ∷ log) = true
is_end _ = false

newest_ends : (now : List Record) → AbortsBehind log_two now → is_end now ≡ false → now ≡ log_two
newest_ends now a off = by a.rounds a.are where
  by : (rs : List Round) → after_rounds rs log_two ≡ now → now ≡ log_two
  by [] e = sym e
  by (Ends t ∷ rs) e = absurd (false≢true (sym off ∙ ap is_end (sym e)))
  by (TakesBack d n ws ∷ rs) e = absurd (false≢true (sym off ∙ ap is_end (sym e)))

-- the newest record of writes
abbrev is_write : List Record → Bool
is_write (records.PageOp t n page slot before after ∷ log) = true
is_write _ = false

newest_write : (t : Txn) (n : ℕ) (w : SlotWrite) (ws : List SlotWrite) (log : List Record) → is_write (with_writes t n (w ∷ ws) log) ≡ true
newest_write t n w [] log = refl
newest_write t n w (x ∷ ws) log = newest_write t n x ws (page_op t n w ∷ log)

-- what is no record of an abort is none behind the log
not_aborting : (on : List Record → Images → Type 0) (r : Record) → is_write (r ∷ log_two) ≡ false → (AbortsBehind log_two (r ∷ log_two) → ⊥) → IsAborting items.sizes on log_two (r ∷ log_two) → ⊥
not_aborting on r off none (Between a) = none a.behind
not_aborting on r off none (Within older d n ws made a next plan are) = by (take made ws) are where
  by : (us : List SlotWrite) → with_writes d.txn n us older ≡ r ∷ log_two → ⊥
  by [] e = none (subst (AbortsBehind log_two) e a.behind)
  by (w ∷ us) e = false≢true (sym off ∙ ap is_write (sym e) ∙ newest_write d.txn n w us older)

not_planned : (v : Pages) → IsAborting items.sizes (λ l pages. ⊥) log_two (cell_is_back v).records → ⊥
not_planned v (Between a) =
    let e : (cell_is_back v).records ≡ log_two = newest_ends (cell_is_back v).records a.behind refl in
    let n : length (cell_is_back v).records ≡ length log_two = ap length e in
    let m : length (cell_is_back v).records ≡ length log_two + 1 = refl in
    omega (arith, n, m)
not_planned v (Within older d n ws made a next plan are) = absurd plan.on_pages

no_commit : AbortsBehind log_two (Commit t2 ∷ log_two) → ⊥
no_commit a =
    let e : Commit t2 ∷ log_two ≡ log_two = newest_ends (Commit t2 ∷ log_two) a refl in
    let n : length (Commit t2 ∷ log_two) ≡ length log_two = ap length e in
    omega (arith, n)

half_back : (v : Pages) → AbortsBehind log_two (group_is_back v).records → ⊥
half_back v a =
    let e : (group_is_back v).records ≡ log_two = newest_ends (group_is_back v).records a refl in
    let n : length (group_is_back v).records ≡ length log_two = ap length e in
    let m : length (group_is_back v).records ≡ length log_two + 2 = refl in
    omega (arith, n, m)

-- ---- what cannot be taken back

-- ---- operations

left_2 : IsLeft sizes (image_in formatted_pages) log_2
left_2 =
    let fit = fits_log_longer sizes (image_in formatted_pages) [] log_2 (2, refl) (formatted_fits sizes (image_in formatted_pages) range are_formatted) in
    record { whole = whole_dropped sizes 3 log_5 whole_5; fits = fit; based = unbased sizes log_2 (image_in formatted_pages) (refl, (refl, tt)) fit }

pub rolls_back : MendsAreJudged
rolls_back = record {
  taken_back = rolled_back;
  opened_over = λ v. (rolled_back v, refl);
  one_taken_back = half_back;
  half_taken_back = λ v first plan. Within log_two took_due 3 put_back.writes 1 (aborts_none items.sizes (RepeatedFrom items.sizes first) log_two) took_next plan refl;
  not_planned = not_planned;
  nothing_taken_back = λ m. (let e = m.ended in cc e);
  not_ended = λ v m. (let e = m.ended in cc e);
  ends_early = none_ends t2;
  another_ends = λ first. not_aborting (RepeatedFrom items.sizes first) (AbortEnd t1) refl (none_ends t1);
  commits = λ first. not_aborting (RepeatedFrom items.sizes first) (Commit t2) refl no_commit;
  no_bad_rollback = λ lsn b. b.none [] refl left_4;
  no_bad_undo = λ lsn b. begun.no_bad_undo sizes log_2 read_pages lsn b [] refl left_2;
  not_full = λ b.
      (let e : length b.undone ≡ 5 = ap length (nothing_undone log_5 b.undone refl refl b.undoing) in
      let full = b.full in
      omega (arith, e, full));
  not_begun = λ old new h. (let e = h.begun in cc e);
}
