-- Numbers that were written among other bytes.
use Rattle.std.proofs.Common.{◌≡◌, ℕ, ◌+◌, ◌-◌, ◌≤◌, inl, inr, List, [], ◌++◌, length, take, drop, sym, ap, ◌∙◌, arith, length-append, length-drop, append_assoc}
use Rattle.std.proofs.lemmas.List.{drop-append-le, drop-take, drop-drop, length-take, append-nil, take_rest}
use Rattle.std.proofs.Math.Seq.{drop-append_seam, drop-append-add, drop-length}
use Rattle.byteorder.specs.Endian.{big_bytes, big_number}
use Rattle.byteorder.specs.Numbers.{big_number-reads_back, big_from-append, big_from-take, length-bytes_high_first}
use Rattle.rq_bytes.specs.Number.{number_at, with_number, WrittenIsRead, OthersReadAsBefore, LengthStays}

-- the length of the bytes before a place
pub length-front : (at : ℕ) (bytes : List ℕ) → at ≤ length bytes → length (take at bytes) ≡ at
length-front at bytes le = omega (arith, length-take at bytes)

-- what stands from a place on, behind as many bytes
pub drop-front : (at : ℕ) (bytes rest : List ℕ) → at ≤ length bytes → drop at (take at bytes ++ rest) ≡ rest
drop-front at bytes rest le =
    ap (λ k. drop k (take at bytes ++ rest)) (sym (length-front at bytes le)) ∙ drop-append_seam (take at bytes) rest

pub written_is_read : WrittenIsRead
written_is_read width at n bytes lt le =
    ap (big_number width) (drop-front at bytes (big_bytes width n ++ drop (at + width) bytes) (omega arith))
    ∙ big_number-reads_back width n (drop (at + width) bytes) lt

pub length_stays : LengthStays
length_stays width at n bytes le =
    omega (arith, length-append (take at bytes) (big_bytes width n ++ drop (at + width) bytes), length-append (big_bytes width n) (drop (at + width) bytes), length-bytes_high_first width n, length-drop (at + width) bytes, length-take at bytes)

-- a number before the bytes that are written
reads_before : (width at n : ℕ) (bytes : List ℕ) (other place : ℕ) → at + width ≤ length bytes → place + other ≤ at
    → number_at other place (with_number width at n bytes) ≡ number_at other place bytes
reads_before width at n bytes other place le before =
    let rest : List ℕ = big_bytes width n ++ drop (at + width) bytes in
    let room : at ≡ place + (at - place) = omega arith in
    let front : drop place (take at bytes) ≡ take (at - place) (drop place bytes) =
    ap (λ k. drop place (take k bytes)) room ∙ drop-take place (at - place) bytes in
    let enough : other ≤ length (drop place (take at bytes)) = omega (arith, length-drop place (take at bytes), length-take at bytes) in
    ap (big_number other) (drop-append-le place (take at bytes) rest (omega (arith, length-take at bytes)))
    ∙ big_from-append other (drop place (take at bytes)) rest enough
    ∙ ap (big_number other) front
    ∙ big_from-take 0 other (at - place) (drop place bytes) (omega arith)

-- the bytes behind those that are written
pub drop-behind : (width at n : ℕ) (bytes : List ℕ) (place : ℕ) → at + width ≤ length bytes → at + width ≤ place
    → drop place (with_number width at n bytes) ≡ drop place bytes
drop-behind width at n bytes place le behind =
    let front : List ℕ = take at bytes ++ big_bytes width n in
    let more : ℕ = place - (at + width) in
    let long : length front ≡ at + width =
    omega (arith, length-append (take at bytes) (big_bytes width n), length-bytes_high_first width n, length-take at bytes) in
    let there : place ≡ length front + more = omega arith in
    let back : (at + width) + more ≡ place = omega arith in
    ap (λ k. drop k (take at bytes ++ (big_bytes width n ++ drop (at + width) bytes))) there
    ∙ ap (drop (length front + more)) (sym (append_assoc (take at bytes) (big_bytes width n) (drop (at + width) bytes)))
    ∙ drop-append-add front (drop (at + width) bytes) more
    ∙ drop-drop more (at + width) bytes
    ∙ ap (λ k. drop k bytes) back

-- what a write to the rest of a string from a place on leaves
pub put_number : (width at n : ℕ) (bytes part : List ℕ) → part ≡ big_bytes width n ++ drop width (take (length bytes - at) (drop at bytes))
    → take at bytes ++ (part ++ drop (length bytes - at) (drop at bytes)) ≡ with_number width at n bytes
put_number width at n bytes part is =
    let nothing : drop (length bytes - at) (drop at bytes) ≡ [] =
    ap (λ k. drop k (drop at bytes)) (sym (length-drop at bytes)) ∙ drop-length (drop at bytes) in
    ap (λ (r : List ℕ). take at bytes ++ (part ++ r)) nothing
    ∙ ap (λ (r : List ℕ). take at bytes ++ r) (append-nil part ∙ is ∙ ap (λ (r : List ℕ). big_bytes width n ++ drop width r) (take_rest bytes at) ∙ ap (λ (r : List ℕ). big_bytes width n ++ r) (drop-drop width at bytes))

pub others_read_as_before : OthersReadAsBefore
others_read_as_before width at n bytes other place le (inl before) = reads_before width at n bytes other place le before
others_read_as_before width at n bytes other place le (inr behind) = ap (big_number other) (drop-behind width at n bytes place le behind)
