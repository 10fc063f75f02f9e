-- What a record of one transaction leaves of what the log says of another.
use Rattle.std.proofs.Common.{◌≡◌, ℕ, ◌+◌, ◌≤◌, ◌&&◌, ◌||◌, List, ◌∷◌, refl, sym, ◌∙◌, ap, subst, true, false, not, Option, arith}
use Rattle.std.proofs.lemmas.Bool.{cond-false}
use Rattle.rq_model.specs.declared.txn.Txn.{Txn}
use Rattle.rq_model.specs.declared.record.Deed.{Deed}
use Rattle.rq_model.specs.declared.record.Record.{Record}
use Rattle.rq_model.specs.declared.record.Record.TheVariants.{Commit, AbortEnd}
use Rattle.rq_model.specs.Vocabulary.{same_txn}
use Rattle.rq_model.specs.Deeds.{TellsItself}
use Rattle.rq_model.specs.Content.{has_end, deeds, kept, ending_by}
use Rattle.rq_model.specs.Rules.{any_use, uses_send, uses_receive}
use Rattle.rq_page.specs.Sizes.{Sizes}
use Rattle.rq_views.specs.Items.{items, operation, has_undone}
use Rattle.rq_views.specs.Legal.{open_deeds, began, over, under_way}
use Rattle.rq_level.specs.declared.writes.SlotWrite.{SlotWrite}
use Rattle.rq_groups.specs.Ends.{HeldEnds}
use Rattle.rq_store.specs.Settled.{IsSettled}
use Rattle.rq_store.specs.Steps.{page_op, op_end}
use Rattle.rq_views.specs.InStore.{IsStranger}
use Rattle.rq_views.specs.Numbers.{greatest}
use Rattle.rq_model.specs.Bases.{earlier}
use Rattle.rq_txn.specs.Rows.{Row}
use Rattle.rq_store.specs.Rows.{unmade}
use Rattle.rq_sound.specs.Rows.{comp_end}
use Rattle.rq_sound.specs.Standing.{IsRow, IsAsPlanned, HoldsAll}
use Rattle.rq_store.proofs.Others.{other_op, other_greatest}

-- the longer log says the same of t
pub record SaysSame (z : Sizes) (log new : List Record) (t : Txn) : Type 0 where
  pub running : has_end new t ≡ has_end log t
  pub earlier_is : earlier new ≡ earlier log
  pub undone : has_undone new t ≡ has_undone log t
  pub done : open_deeds t (items z new) ≡ open_deeds t (items z log)
  pub told : deeds (λ u. same_txn u t) new ≡ deeds (λ u. same_txn u t) log
  pub greatest_is : greatest t (items z new) ≡ greatest t (items z log)
  pub under_way_is : (n : ℕ) → under_way (operation t n) (items z new) ≡ under_way (operation t n) (items z log)

pub says_page : (z : Sizes) (log : List Record) (t q : Txn) (n : ℕ) (w : SlotWrite) → same_txn t q ≡ false → SaysSame z log (page_op t n w ∷ log) q
says_page z log t q n w e = record {
  running = refl;
  earlier_is = refl;
  undone = refl;
  done = refl;
  told = refl;
  greatest_is = other_greatest t q n (greatest q (items z log)) e;
  under_way_is = λ m. ap (λ b. (b || began (operation q m) (items z log)) && not (over (operation q m) (items z log))) (other_op t q n m e);
}

pub says_end : (z : Sizes) (log : List Record) (t q : Txn) (n : ℕ) (d : Deed) → TellsItself d → same_txn t q ≡ false → SaysSame z log (op_end t n d ∷ log) q
says_end z log t q n d reads e = record {
  running = refl;
  earlier_is = refl;
  undone = refl;
  done = cond-false (same_txn t q) _ _ e;
  told = ap (λ (y : Option Deed). kept (λ v. same_txn v q) (ending_by t y) (deeds (λ v. same_txn v q) log)) reads ∙ cond-false (same_txn t q) _ _ e;
  greatest_is = other_greatest t q n (greatest q (items z log)) e;
  under_way_is = λ m. ap (λ b. (b || began (operation q m) (items z log)) && not (b || over (operation q m) (items z log))) (other_op t q n m e);
}

pub says_comp : (z : Sizes) (log : List Record) (t q : Txn) (n lsn : ℕ) → same_txn t q ≡ false → SaysSame z log (comp_end t n lsn ∷ log) q
says_comp z log t q n lsn e = record {
  running = refl;
  earlier_is = refl;
  undone = cond-false (same_txn t q) _ _ e;
  done = cond-false (same_txn t q) _ _ e;
  told = refl;
  greatest_is = other_greatest t q n (greatest q (items z log)) e;
  under_way_is = λ m. ap (λ b. (b || began (operation q m) (items z log)) && not (b || over (operation q m) (items z log))) (other_op t q n m e);
}

pub says_commit : (z : Sizes) (log : List Record) (t q : Txn) → same_txn t q ≡ false → SaysSame z log (Commit t ∷ log) q
says_commit z log t q e = record { running = rw e refl; earlier_is = refl; undone = refl; done = cond-false (same_txn t q) _ _ e; told = refl; greatest_is = omega arith; under_way_is = λ m. refl }

pub says_abort : (z : Sizes) (log : List Record) (t q : Txn) → same_txn t q ≡ false → SaysSame z log (AbortEnd t ∷ log) q
says_abort z log t q e = record { running = rw e refl; earlier_is = refl; undone = refl; done = refl; told = refl; greatest_is = omega arith; under_way_is = λ m. refl }

-- so a row is as it was
pub row_beside : (z : Sizes) (log new : List Record) (ends after : HeldEnds) (i b c : ℕ) (q : Row) → b ≤ c → SaysSame z log new q.txn → (HoldsAll ends q.txn log → HoldsAll after q.txn log) → IsAsPlanned z new after q q.under → IsRow z log ends i b q → IsRow z new after i c q
row_beside z log new ends after i b c q le s k g h = record {
  of_incarnation = h.of_incarnation;
  counted = omega (arith, le, h.counted);
  running = s.running ∙ h.running;
  behind = subst (IsStranger q.txn) (sym s.earlier_is) h.behind;
  forward = λ f. s.undone ∙ h.forward f;
  done = s.done ∙ h.done;
  held = record {
    sends = λ g y. (k h.held).sends g (subst (λ ds. any_use (uses_send g) ds ≡ true) s.told y);
    takes = λ g y. (k h.held).takes g (subst (λ ds. any_use (uses_receive g) ds ≡ true) s.told y);
  };
  numbered = ap (λ n. n + unmade q.under) s.greatest_is ∙ h.numbered;
  idle = λ n m. s.under_way_is n ∙ h.idle n m;
  going = g;
}

-- and whoever has ended
pub settled_beside : (z : Sizes) (log new : List Record) (q : Txn) → SaysSame z log new q → IsSettled z log q → IsSettled z new q
settled_beside z log new q s h = record {
  settled = s.done ∙ h.settled;
  unused = λ live. s.told ∙ h.unused (sym s.running ∙ live);
  idle = λ n. s.under_way_is n ∙ h.idle n;
}
