-- Faults are told exactly, and more bytes are waited for where there is none and no request.
use Rattle.std.proofs.Common.{◌≡◌, ◌≢◌, ◌⊎◌, ℕ, ◌+◌, ◌-◌, ◌<◌, ◌≤◌, Bool, true, false, List, length, take, drop, refl, sym, ap, ◌∙◌, arith, inl, inr, ⊎_elim}
use Rattle.std.specs.Prelude.{nat_lt, slice_index, Option, Some, None}
use Rattle.std.proofs.lemmas.Bool.Decides.{nat_tests}
use Rattle.std.proofs.lemmas.Bool.{ltb-false, le-ltb}
use Rattle.rq_bytes.specs.Number.{AreBytes}
use Rattle.rq_wire.specs.declared.request.Request.{Request}
use Rattle.rq_wire.specs.declared.look.Prefix.{Prefix}
use Rattle.rq_wire.specs.declared.look.Prefix.TheVariants.{Frame, Fault, More}
use Rattle.rq_wire.specs.Looks.{pick, is_size, is_kind, whole_frame, request_in, looks}
use Rattle.rq_wire.specs.Spelling.{spelled}
use Rattle.rq_wire.specs.Faults.{HasBadLength, HasBadKind, HasBadFields, IsNoRequest, IsFault, FaultsAreTold, MoreIsAwaited}
use Rattle.rq_wire.proofs.Fronts.{size, behind}
use Rattle.rq_wire.proofs.Spells.{spelled_is_read, read_is_spelled}

abbrev Causes : (s v b k c : Bool) → Type 0
Causes s v b k c = ((s ≡ false) × (v ≡ false)) ⊎ (((b ≡ false) × (k ≡ false)) ⊎ ((s ≡ false) × (c ≡ false)))

causes : (s v b k c : Bool) (f : Prefix) → pick s v b k c f ≡ Fault → Causes s v b k c
causes true v b k c f e = cc e
causes false false b k c f e = inl (refl, refl)
causes false true true k c f e = cc e
causes false true false false c f e = inr (inl (refl, refl))
causes false true false true true f e = cc e
causes false true false true false f e = inr (inr (refl, refl))

by_length : (s v b k c : Bool) (f : Prefix) → s ≡ false → v ≡ false → pick s v b k c f ≡ Fault
by_length s v b k c f es ev = rw (es, ev) refl

by_kind : (s v b k c : Bool) (f : Prefix) → s ≡ false → b ≡ false → k ≡ false → pick s v b k c f ≡ Fault
by_kind s true b k c f es eb ek = rw (es, eb, ek) refl
by_kind s false b k c f es eb ek = rw es refl

no_more : (s v b k c : Bool) (f : Prefix) → s ≡ false → (v ≡ true → b ≡ false) → c ≡ false → f ≢ More
    → pick s v b k c f ≢ More
no_more true v b k c f es eb ec ef e = absurd (cc)
no_more false false b k c f es eb ec ef e = absurd (cc)
no_more false true true k c f es eb ec ef e = let q = eb refl in absurd (cc)
no_more false true false false c f es eb ec ef e = absurd (cc)
no_more false true false true true f es eb ec ef e = absurd (cc)
no_more false true false true false f es eb ec ef e = ef e

whole_is_no_more : (o : Option Request) (n : ℕ) → whole_frame o n ≢ More
whole_is_no_more None n e = absurd (cc)
whole_is_no_more (Some r) n e = absurd (cc)

no_size : (n : ℕ) → is_size n ≡ false → (n ≡ 0) ⊎ (512 < n)
no_size n e = grind (arith, nat_tests)

is_no_size : (n : ℕ) → (n ≡ 0) ⊎ (512 < n) → is_size n ≡ false
is_no_size n h = grind (arith, nat_tests)

a_size : (n : ℕ) → is_size n ≡ true → 0 < n
a_size n e = grind (arith, nat_tests)

no_kind : (k : ℕ) → is_kind k ≡ false → (k ≡ 0) ⊎ (10 < k)
no_kind k e = grind (arith, nat_tests)

is_no_kind : (k : ℕ) → (k ≡ 0) ⊎ (10 < k) → is_kind k ≡ false
is_no_kind k h = grind (arith, nat_tests)

module _ (bytes : List ℕ) where
  abbrev short : Bool
  short = nat_lt (length bytes) 2

  abbrev sized : Bool
  sized = is_size (size bytes)

  abbrev bare : Bool
  bare = nat_lt (length bytes) 3

  abbrev known : Bool
  known = is_kind (slice_index bytes 2)

  abbrev cut : Bool
  cut = nat_lt (length bytes) (2 + size bytes)

  -- where something else is told no request stands there
  none_there : (f : Prefix) → looks bytes ≡ f → ((r : Request) (n : ℕ) → f ≢ Frame r n) → IsNoRequest bytes
  none_there f e other r rest i same =
      other r (length (spelled r)) (sym e ∙ ap looks same ∙ spelled_is_read r rest i)

  told : looks bytes ≡ Fault → IsFault bytes
  told e = ⊎_elim
      (λ (h : (short ≡ false) × (sized ≡ false)). inl (ltb-false (length bytes) 2 h.0, no_size (size bytes) h.1))
      (λ (h : ((bare ≡ false) × (known ≡ false)) ⊎ ((short ≡ false) × (cut ≡ false))).
      ⊎_elim
      (λ (i : (bare ≡ false) × (known ≡ false)). inr (inl (ltb-false (length bytes) 3 i.0, no_kind (slice_index bytes 2) i.1)))
      (λ (i : (short ≡ false) × (cut ≡ false)).
      inr (inr (ltb-false (length bytes) (2 + size bytes) i.1, none_there Fault e (λ r n q. absurd (cc)))))
      h)
      (causes short sized bare known cut (behind bytes) e)

  -- where all is there that the length counts, more is not waited for
  not_more : 2 + size bytes ≤ length bytes → looks bytes ≢ More
  not_more all =
      no_more short sized bare known cut (behind bytes)
      (le-ltb (length bytes) 2 (omega (arith, all)))
      (λ v. let some = a_size (size bytes) v in le-ltb (length bytes) 3 (omega (arith, all, some)))
      (le-ltb (length bytes) (2 + size bytes) all)
      (whole_is_no_more (request_in (slice_index bytes 2) (take (size bytes - 1) (drop 3 bytes))) (2 + size bytes))

  module _ (are : AreBytes bytes) where
    neither : (f : Prefix) → looks bytes ≡ f → f ≢ More → IsNoRequest bytes → looks bytes ≡ Fault
    neither (Frame r n) e other none =
        let q = read_is_spelled bytes r n are e in absurd (none r (drop n bytes) q.0 q.1)
    neither Fault e other none = e
    neither More e other none = absurd (other refl)

    faulty : IsFault bytes → looks bytes ≡ Fault
    faulty h = ⊎_elim
        (λ (i : HasBadLength bytes).
        by_length short sized bare known cut (behind bytes) (le-ltb (length bytes) 2 i.0) (is_no_size (size bytes) i.1))
        (λ (i : HasBadKind bytes ⊎ HasBadFields bytes).
        ⊎_elim
        (λ (j : HasBadKind bytes).
        by_kind short sized bare known cut (behind bytes) (let l = j.0 in le-ltb (length bytes) 2 (omega (arith, l)))
        (le-ltb (length bytes) 3 j.0) (is_no_kind (slice_index bytes 2) j.1))
        (λ (j : HasBadFields bytes). neither (looks bytes) refl (not_more j.0) j.1)
        i)
        h

    waits : looks bytes ≡ More → (IsFault bytes → ⊥) × IsNoRequest bytes
    waits e = ((λ h. let q = sym e ∙ faulty h in absurd (cc)), none_there More e (λ r n q. absurd (cc)))

    awaited : (f : Prefix) → looks bytes ≡ f → (IsFault bytes → ⊥) → IsNoRequest bytes → looks bytes ≡ More
    awaited (Frame r n) e whole none =
        let q = read_is_spelled bytes r n are e in absurd (none r (drop n bytes) q.0 q.1)
    awaited Fault e whole none = absurd (whole (told e))
    awaited More e whole none = e

pub faults_are_told : FaultsAreTold
faults_are_told bytes are = (told bytes, faulty bytes are)

pub more_is_awaited : MoreIsAwaited
more_is_awaited bytes are = (waits bytes are, λ h. awaited bytes are (looks bytes) refl h.0 h.1)
