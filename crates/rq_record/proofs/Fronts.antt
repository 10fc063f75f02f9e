-- What decoding answers is what stands at the front.
use Rattle.std.proofs.Common.{◌≡◌, ℕ, ◌+◌, ◌-◌, ◌≤◌, List, ◌++◌, length, take, Result, Ok, Err, refl, sym, ap, subst, ◌∙◌, arith}
use Rattle.std.proofs.lemmas.List.{length-append, take_at}
use Rattle.rq_model.specs.declared.record.Record.{Record}
use Rattle.rq_record.specs.declared.reading.Stop.{Stop}
use Rattle.rq_record.specs.declared.reading.Stop.TheVariants.{Short, Bad}
use Rattle.rq_record.specs.declared.step.Step.{Step}
use Rattle.rq_record.specs.declared.step.Step.TheVariants as steps
use Rattle.rq_record.specs.Spelling.{spelling, IsRecord, HoldsRecord, BeginsRecord}
use Rattle.rq_bytes.specs.Number.{AreBytes}
use Rattle.rq_record.specs.Reading.{record_at}
use Rattle.rq_record.specs.Decoding.{IfRecord, IsFront, step_of}
use Rattle.rq_record.proofs.Whole.{Field-record}

abbrev Reading : Type 0
Reading = Result (Record × List ℕ) Stop

not_read : (x : Reading) (r : Record) (rest : List ℕ) → x ≡ Err Bad → x ≡ Ok (r, rest) → ⊥
not_read x r rest e f = cc

not_short : (x : Reading) → x ≡ Err Bad → x ≡ Err Short → ⊥
not_short x e f = cc

front_of : (bytes : List ℕ) (x : Reading) → AreBytes bytes → record_at bytes ≡ x → IfRecord (step_of bytes x) (λ r used. IsFront r used bytes)
front_of bytes (Ok x) fits e =
    let f = Field-record.found bytes x.0 x.1 fits e in
    let l : length bytes ≡ length (spelling x.0) + length x.1 = ap length f.1 ∙ length-append (spelling x.0) x.1 in
    let size : length (spelling x.0) ≡ length bytes - length x.1 = omega arith in
    (f.0, omega arith, ap (take (length bytes - length x.1)) f.1 ∙ take_at (spelling x.0) x.1 (length bytes - length x.1) size)
front_of bytes (Err Short) fits e = tt
front_of bytes (Err Bad) fits e = tt

pub decoded_front : (bytes : List ℕ) (s : Step) → AreBytes bytes → s ≡ step_of bytes (record_at bytes) → IfRecord s (λ r used. IsFront r used bytes)
decoded_front bytes s fits e =
    let P : Step → Type 0 = λ s. IfRecord s (λ r used. IsFront r used bytes) in
    subst P (sym e) (front_of bytes (record_at bytes) fits refl)

pub decoded_found : (bytes : List ℕ) (s : Step) → s ≡ step_of bytes (record_at bytes) → (r : Record) (rest : List ℕ) → IsRecord r → bytes ≡ spelling r ++ rest → s ≡ steps.Record r (length (spelling r))
decoded_found bytes s e r rest is h =
    let one : record_at bytes ≡ Ok (r, rest) = ap record_at h ∙ Field-record.again r rest is in
    let l : length bytes ≡ length (spelling r) + length rest = ap length h ∙ length-append (spelling r) rest in
    e ∙ ap (step_of bytes) one ∙ ap (λ (n : ℕ). steps.Record r n) (let k : length bytes - length rest ≡ length (spelling r) = omega arith in k)

is_short : (bytes : List ℕ) (x : Reading) → step_of bytes x ≡ steps.Short → x ≡ Err Short
is_short bytes (Ok x) e = absurd cc
is_short bytes (Err Short) e = refl
is_short bytes (Err Bad) e = absurd cc

is_bad : (bytes : List ℕ) (x : Reading) → step_of bytes x ≡ steps.Bad → x ≡ Err Bad
is_bad bytes (Ok x) e = absurd cc
is_bad bytes (Err Short) e = absurd cc
is_bad bytes (Err Bad) e = refl

-- the bytes begin a record
begins : (bytes : List ℕ) → BeginsRecord bytes → record_at bytes ≡ Err Short
begins bytes h = Field-record.begins h.0 bytes h.1 h.2 h.3 h.4

pub decoded_short : (bytes : List ℕ) (s : Step) → AreBytes bytes → s ≡ step_of bytes (record_at bytes) → (s ≡ steps.Short → BeginsRecord bytes) × (BeginsRecord bytes → s ≡ steps.Short)
decoded_short bytes s fits e =
    (λ h. Field-record.short bytes fits (is_short bytes (record_at bytes) (sym e ∙ h)), λ h. e ∙ ap (step_of bytes) (begins bytes h))

no_more : (bytes : List ℕ) (x : Reading) → AreBytes bytes → record_at bytes ≡ x → (HoldsRecord bytes → ⊥) → (BeginsRecord bytes → ⊥) → x ≡ Err Bad
no_more bytes (Ok x) fits e n m =
    let f = Field-record.found bytes x.0 x.1 fits e in
    absurd (n (x.0, x.1, f.0, f.1))
no_more bytes (Err Short) fits e n m = absurd (m (Field-record.short bytes fits e))
no_more bytes (Err Bad) fits e n m = refl

pub decoded_bad : (bytes : List ℕ) (s : Step) → AreBytes bytes → s ≡ step_of bytes (record_at bytes) → (s ≡ steps.Bad → (HoldsRecord bytes → ⊥) × (BeginsRecord bytes → ⊥)) × ((HoldsRecord bytes → ⊥) × (BeginsRecord bytes → ⊥) → s ≡ steps.Bad)
decoded_bad bytes s fits e = (
  λ h.
      let b : record_at bytes ≡ Err Bad = is_bad bytes (record_at bytes) (sym e ∙ h) in
      (λ k. not_read (record_at bytes) k.0 k.1 b (ap record_at k.3 ∙ Field-record.again k.0 k.1 k.2), λ k. not_short (record_at bytes) b (begins bytes k)),
  λ h. e ∙ ap (step_of bytes) (no_more bytes (record_at bytes) fits refl h.0 h.1),
)

-- the bytes after a record are some of all
pub rest_within : (bytes : List ℕ) (r : Record) (rest : List ℕ) → AreBytes bytes → record_at bytes ≡ Ok (r, rest) → length rest ≤ length bytes
rest_within bytes r rest fits e =
    let f = Field-record.found bytes r rest fits e in
    omega (arith, ap length f.1, length-append (spelling r) rest)
