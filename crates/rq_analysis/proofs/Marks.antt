-- Of what stood before a Base nothing is known: marks, which are of no transaction and no operation.
use Rattle.std.proofs.Common.{◌≡◌, ℕ, zero, suc, false, [], refl, arith}
use Rattle.rq_model.specs.declared.txn.Sub.{Sub}
use Rattle.rq_model.specs.declared.txn.Txn.{Txn}
use Rattle.rq_model.specs.Bases.{marks}
use Rattle.rq_model.specs.Content.{has_end}
use Rattle.rq_model.specs.Incarnations.{incarnation_of}
use Rattle.rq_analysis.specs.Rules.{ends_of, greatest_number, has_op, has_op_end, writes_of}

pub none_begun : (o : Sub) (n : ℕ) → has_op o (marks n) ≡ false
none_begun o zero = refl
none_begun o (suc n) = none_begun o n

pub none_over : (o : Sub) (n : ℕ) → has_op_end o (marks n) ≡ false
none_over o zero = refl
none_over o (suc n) = none_over o n

pub none_ended : (t : Txn) (n : ℕ) → has_end (marks n) t ≡ false
none_ended t zero = refl
none_ended t (suc n) = none_ended t n

pub none_numbered : (t : Txn) (n : ℕ) → greatest_number t (marks n) ≡ 0
none_numbered t zero = refl
none_numbered t (suc n) = let none = none_numbered t n in omega (arith, none)

pub none_written : (o : Sub) (n : ℕ) → writes_of o (marks n) ≡ []
none_written o zero = refl
none_written o (suc n) = none_written o n

pub none_finished : (t : Txn) (n : ℕ) → ends_of t (marks n) ≡ []
none_finished t zero = refl
none_finished t (suc n) = none_finished t n

-- nor of an incarnation
pub unknown : (n : ℕ) → incarnation_of (marks n) ≡ 0
unknown zero = refl
unknown (suc n) = refl
