-- How many messages wait after some more, or one less.
use Rattle.std.proofs.Common.{◌≡◌, ◌≢◌, ℕ, ◌+◌, ◌-◌, ◌<◌, ◌≤◌, List, length, arith, inl, inr, true, Option, Some, None}
use Rattle.std.proofs.lemmas.List.{length-set, get_or-set_same, get_or-set_other, get_or_past}
use Rattle.std.proofs.lemmas.Bool.{cases_lt}
use Rattle.std.specs.Option.{IfSome, IfNone}
use Rattle.rq_model.specs.declared.txn.Txn.{Txn}
use Rattle.rq_groups.specs.declared.Held.{Held}
use Rattle.rq_groups.specs.Ends.{has_held, is_free_for}
use Rattle.rq_groups.specs.Waiting.{waits, more_waiting, fewer_waiting}

pub length-more_waiting : (s n : ℕ) (ws : List ℕ) → length (more_waiting s n ws) ≡ length ws
length-more_waiting s n ws = length-set ws s (waits ws s + n)

pub waits-more_waiting_same : (s n : ℕ) (ws : List ℕ) → s < length ws → waits (more_waiting s n ws) s ≡ waits ws s + n
waits-more_waiting_same s n ws below = get_or-set_same ws s (waits ws s + n) 0 below

pub waits-more_waiting_other : (s n : ℕ) (ws : List ℕ) (t : ℕ) → t ≢ s → waits (more_waiting s n ws) t ≡ waits ws t
waits-more_waiting_other s n ws t other = get_or-set_other ws s t (waits ws s + n) 0 other

pub length-fewer_waiting : (s : ℕ) (ws : List ℕ) → length (fewer_waiting s ws) ≡ length ws
length-fewer_waiting s ws = length-set ws s (waits ws s - 1)

pub waits-fewer_waiting_same : (s : ℕ) (ws : List ℕ) → s < length ws → waits (fewer_waiting s ws) s ≡ waits ws s - 1
waits-fewer_waiting_same s ws below = get_or-set_same ws s (waits ws s - 1) 0 below

pub waits-fewer_waiting_other : (s : ℕ) (ws : List ℕ) (t : ℕ) → t ≢ s → waits (fewer_waiting s ws) t ≡ waits ws t
waits-fewer_waiting_other s ws t other = get_or-set_other ws s t (waits ws s - 1) 0 other

-- who has a message waiting is a sender
pub waits_within : (ws : List ℕ) (s : ℕ) → 1 ≤ waits ws s → s < length ws
waits_within ws s some =
    elim (cases_lt s (length ws)) [
      | inl below ↦ below
      | inr past ↦ let none = get_or_past ws s 0 past in absurd (omega arith)
    ]

-- one that the transaction holds the end of is free for it
pub own_found : (t : Txn) (ws : List ℕ) (held : List Held) → ((s : ℕ) → has_held t s held ≡ true → is_free_for t s held ≡ true) → (o : Option ℕ) → IfSome o (λ s. (s < length ws) × (1 ≤ waits ws s) × (has_held t s held ≡ true)) → IfSome o (λ s. (s < length ws) × (1 ≤ waits ws s) × (is_free_for t s held ≡ true))
own_found t ws held own None f = f
own_found t ws held own (Some s) f = (f.0, f.1, own s f.2)

pub none_found : {P Q : Type 0} (o : Option ℕ) → IfNone o P → (P → Q) → IfNone o Q
none_found None p f = f p
none_found (Some s) p f = p
