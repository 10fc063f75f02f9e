-- Senders of which a message waits, and whose receiving end nobody holds.
use Rattle.std.specs.Bool.{⊤}
use Rattle.std.proofs.Common.{◌≡◌, ◌≤◌, ◌<◌, ℕ, true, false, List, length, Option, Some, None, inl, inr, refl, arith}
use Rattle.std.specs.Option.{IfSome, IfNone}
use Rattle.std.proofs.lemmas.Bool.{cases_Bool}
use Rattle.rq_model.specs.declared.txn.Txn.{Txn}
use Rattle.rq_groups.specs.declared.Held.{Held}
use Rattle.rq_groups.specs.Ends.{has_held, is_free_for, is_held}
use Rattle.rq_groups.specs.Waiting.{waits}
use Rattle.rq_groups.proofs.Chained.{free_is_own, free_none}
use Rattle.rq_store.specs.State.{State}
use Rattle.rq_engine.specs.Plans.{AreHeldUp}

-- the least such sender from this one on
abbrev pub IsFree : List ℕ → List Held → ℕ → ℕ → Type 0
IsFree ws hs from s = (from ≤ s) × (s < length ws) × (1 ≤ waits ws s) × (is_held s hs ≡ false) × ((t : ℕ) → from ≤ t → t < s → is_held t hs ≡ false → waits ws t ≡ 0)

pub free_waits : (n : ℕ) (ws : List ℕ) (hs : List Held) (from : ℕ) (o : Option ℕ) → length ws ≡ n → IfSome o (IsFree ws hs from) → IfSome o (λ s. (t : Txn) → (s < n) × (is_free_for t s hs ≡ true) × (1 ≤ waits ws s))
free_waits n ws hs from None e f = f
free_waits n ws hs from (Some s) e f = λ t. (let below = f.1 in omega (arith, below, e), free_none t s hs f.3, f.2)

pub free_first : (ws : List ℕ) (hs : List Held) (from : ℕ) (o : Option ℕ) → IfSome o (IsFree ws hs from) → IfSome o (λ s. (from ≤ s) × ((t : ℕ) → from ≤ t → t < s → is_held t hs ≡ false → waits ws t ≡ 0))
free_first ws hs from None f = f
free_first ws hs from (Some s) f = (f.0, f.4)

-- one of which a message waits that is free for a transaction
pub some_waits : (n : ℕ) (ws : List ℕ) (hs : List Held) (t : Txn) (o : Option ℕ) → length ws ≡ n → IfSome o (λ s. (s < length ws) × (1 ≤ waits ws s) × (is_free_for t s hs ≡ true)) → IfSome o (λ s. (s < n) × (is_free_for t s hs ≡ true) × (1 ≤ waits ws s))
some_waits n ws hs t None e f = f
some_waits n ws hs t (Some s) e f = (let below = f.0 in omega (arith, below, e), f.2, f.1)

-- where none of which a message waits is free for a transaction, none is in the store
pub none_waits : (n : ℕ) (ws : List ℕ) (hs : List Held) (t : Txn) (o : Option ℕ) → length ws ≡ n → IfNone o ((s : ℕ) → s < length ws → is_free_for t s hs ≡ true → waits ws s ≡ 0) → IfNone o ((s : ℕ) → s < n → is_free_for t s hs ≡ true → waits ws s ≡ 0)
none_waits n ws hs t None e f = λ s low free. f s (omega (arith, low, e)) free
none_waits n ws hs t (Some s) e f = f

-- where neither a group that nobody holds nor one that the transaction holds goes without a latch, none does
pub all_latched : (s : State) (t : Txn) → AreHeldUp s t (λ g. is_held g s.ends.receiving ≡ false) → AreHeldUp s t (λ g. has_held t g s.ends.receiving ≡ true) → AreHeldUp s t (λ _. ⊤)
all_latched s t free own g all w = elim (cases_Bool (is_held g s.ends.receiving)) [
  | inl held ↦ own g (free_is_own t g s.ends.receiving held w.1) w
  | inr vacant ↦ free g vacant w
]

-- what is nothing that it could be is none
pub left_none : {X : Type 0} (P : Type 0) (o : Option X) → ((x : X) → o ≡ Some x → ⊥) → IfNone o P → P
left_none P None n p = p
left_none P (Some x) n p = absurd (n x refl)
