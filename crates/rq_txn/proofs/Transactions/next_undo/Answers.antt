use Rattle.std.proofs.Common.{Option, Some, None, List, sym, ap, ◌≡◌, ◌∙◌}
use Rattle.std.specs.Option.{MatchOption, option_map}
use Rattle.rq_model.specs.Vocabulary.{last}
use Rattle.rq_txn.specs.declared.Finished.{Finished}
use Rattle.rq_txn.proofs.Standing.{last_get}
use Rattle.rq_txn.proofs.Transactions.next_undo.Goals as goal

shown : {B : Type 0} (f : B → Finished) (o : Option B) (left : Option Finished) → option_map f o ≡ left → MatchOption o (left ≡ None) (λ b. left ≡ Some (f b))
shown f None left e = sym e
shown f (Some b) left e = sym e

pub returns : goal.returns
returns c = shown (λ b. b.now) c.last.result _ (c.last.ensures.value ∙ sym (last_get c.finished.result.now) ∙ ap last c.finished.ensures)
