-- Refusals are steps, and what tests read of the rows.
use Rattle.std.proofs.Common.{◌≡◌, ℕ, suc, ◌||◌, List, [], ◌∷◌, length, refl, sym, ◌∙◌, ap, ◌&&◌, nat_eq, Option, Some, None, arith, ◌<◌, map, true}
use Rattle.std.specs.Option.{option_map}
use Rattle.rq_model.specs.declared.txn.Txn.{Txn}
use Rattle.rq_model.specs.declared.refusal.Refusal.TheVariants.{DiskWrite}
use Rattle.rq_model.specs.History.{Entry}
use Rattle.rq_model.specs.Ledger.{Open, ended_in, found, runs}
use Rattle.rq_model.specs.Commits.{committed_of}
use Rattle.rq_model.specs.Tests.{has_closed, has_done, has_under, is_busy, newest}
use Rattle.rq_model.specs.Vocabulary.{first, is_some, last, last_or}
use Rattle.rq_page.specs.declared.directory.Directory.{Directory}
use Rattle.rq_page.specs.Sizes.{directory_at, sender_count}
use Rattle.rq_page.specs.Slots.Slot.{Sender}
use Rattle.rq_groups.specs.Ends.{HeldEnds, is_free_for}
use Rattle.rq_store.specs.State.{op_done, phase_of, State, ledger_of, open_of, open_ones_of, job_under}
use Rattle.rq_txn.specs.Rows.{Under, Row, found_row}
use Rattle.rq_store.specs.Rows.{is_under}
use Rattle.rq_store.proofs.RowLists.{found_in}
use Rattle.rq_sound.specs.Standing.{IsAsPlanned}
use Rattle.rq_sound.specs.Sound.{IsSound}
use Rattle.rq_sound.specs.Refusals.{RefusalsAreSteps, TestsReadRows}
use Rattle.rq_store.proofs.Opens.{open_found, found_open, busy_is, owed_is, busy_under}
use Rattle.rq_sound.specs.Calls.{IsIdle}
use Rattle.rq_sound.specs.Groups.{slots_now}
use Rattle.rq_sound.proofs.Contracts.{answered, calls_keep}
use Rattle.rq_sound.proofs.Flags.{flag_is}

pub refusal_steps : RefusalsAreSteps
refusal_steps = record {
  refused = λ s c r k legal same. record {
    entry = Entry.Refused c r;
    says = refl;
    legal = legal;
    after = sym same;
    sound = k;
    goes_on = (0, refl);
    stays_forced = omega arith;
  };
  fails = λ s c k running. record {
    entry = Entry.Refused c DiskWrite;
    says = refl;
    legal = ap (λ b. runs (phase_of b)) running;
    after = refl;
    sound = calls_keep.fails s k;
    goes_on = (0, refl);
    stays_forced = omega arith;
  };
}

pub count_is : (ends : HeldEnds) (rows : List Row) → length (open_ones_of ends rows) ≡ length rows
count_is ends [] = refl
count_is ends (r ∷ rows) = ap suc (count_is ends rows)

-- the row that is found, as the ledger has it
pub found_is : (s : State) (t : Txn) → found t (ledger_of s).open_ones ≡ option_map (open_of s.ends) (found_row t s.rows)
found_is s t = found_open s.ends t s.rows ∙ as_option (found_row t s.rows) where
  as_option : (o : Option Row) → open_found s.ends o ≡ option_map (open_of s.ends) o
  as_option None = refl
  as_option (Some r) = refl

under_is : (s : State) (r : Row) (n : ℕ) → IsSound s → found_row r.txn s.rows ≡ Some r → has_under n (found r.txn (ledger_of s).open_ones) ≡ is_under n r.under
under_is s r n k e = ap (has_under n) (found_open s.ends r.txn s.rows ∙ ap (open_found s.ends) e) ∙ here r.under (k.standing.each r (found_in r.txn s.rows r e).0).going where
  here : (o : Option Under) → IsAsPlanned s.sizes s.records s.ends r o → (is_some (job_under o) && nat_eq r.number n) ≡ is_under n o
  here None h = refl
  here (Some u) h = ap (λ m. nat_eq m n) h.1

-- of what is finished the last, and the first
last_or_map : {X Y : Type 0} (f : X → Y) (x : X) (xs : List X) → last_or (f x) (map f xs) ≡ f (last_or x xs)
last_or_map f x [] = refl
last_or_map f x (y ∷ ys) = last_or_map f y ys

last_map : {X Y : Type 0} (f : X → Y) (xs : List X) → last (map f xs) ≡ option_map f (last xs)
last_map f [] = refl
last_map f (x ∷ xs) = ap (λ y. Some y) (last_or_map f x xs)

first_map : {X Y : Type 0} (f : X → Y) (xs : List X) → is_some (first (map f xs)) ≡ is_some (first xs)
first_map f [] = refl
first_map f (x ∷ xs) = refl

open_is : (s : State) (r : Row) → found_row r.txn s.rows ≡ Some r → found r.txn (ledger_of s).open_ones ≡ Some (open_of s.ends r)
open_is s r e = found_open s.ends r.txn s.rows ∙ ap (open_found s.ends) e

closed_here : (s : State) (r : Row) (g : ℕ) (d : Directory) → IsSound s → IsIdle s r → g < sender_count s.sizes → is_free_for r.txn g s.ends.sending ≡ true → slots_now s (directory_at g) ≡ Sender g d
    → (ended_in (committed_of s.records) g || has_closed g (found r.txn (ledger_of s).open_ones)) ≡ d.closed
closed_here s r g d k m below free at =
    ap (λ (o : Option Open). ended_in (committed_of s.records) g || has_closed g o) (open_is s r m.at_row)
    ∙ sym (answered.closed s g r k (found_in r.txn s.rows r m.at_row).0 free) ∙ flag_is s k r m g free d below at

pub tests_read : TestsReadRows
tests_read = record {
  found_is = found_is;
  count_is = λ s. count_is s.ends s.rows;
  busy_is = λ s. busy_is s.ends s.rows;
  owed_is = λ s. owed_is s.ends s.rows;
  under_is = under_is;
  one_busy_is = λ s r e. ap is_busy (open_is s r e) ∙ busy_under r.under;
  newest_is = λ s r e. ap newest (open_is s r e) ∙ last_map op_done r.finished;
  done_is = λ s r e. ap has_done (open_is s r e) ∙ first_map op_done r.finished;
  closed_is = closed_here;
}
