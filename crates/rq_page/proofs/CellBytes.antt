-- The slot of a cell: how it is put together, and how its fields are read back.
use Rattle.std.proofs.Common.{◌≡◌, ℕ, ◌+◌, ◌-◌, ◌^◌, ◌<◌, ◌≤◌, List, ◌++◌, length, take, drop, replicate, slice_index, refl, sym, ap, ◌∙◌, arith, length-append}
use Rattle.std.proofs.lemmas.List.{drop-replicate, length-replicate}
use Rattle.std.proofs.Math.Seq.{drop-append-add, take-append_seam}
use Rattle.byteorder.specs.Endian.{big_bytes, big_number}
use Rattle.byteorder.specs.Numbers.{big_number-reads_back}
use Rattle.rq_bytes.specs.Number.{number_at, bytes_at, overlaid}
use Rattle.rq_page.specs.declared.cell.Cell.{Cell}
use Rattle.rq_page.specs.declared.cell.CellSlot.{CellSlot}
use Rattle.rq_page.specs.declared.cell.CellSlot.TheVariants.{Free, Used}
use Rattle.rq_page.specs.Cells.{cell_front, cell_bytes, cell_in, free_bytes, cell_slot_bytes, cell_slot_in, IsCell, IsCellSlot}

-- the front and the body, each laid over zeros, are followed by zeros
pub overlaid_twice : (front body : List ℕ) → length front ≡ 40
    → overlaid 40 body (overlaid 0 front (replicate 256 0)) ≡ front ++ (body ++ replicate (216 - length body) 0)
overlaid_twice front body f =
    let once : List ℕ = overlaid 0 front (replicate 256 0) in
    let whole : once ≡ front ++ replicate 216 0 = ap (λ k. front ++ drop (0 + k) (replicate 256 0)) f in
    let before : take 40 once ≡ front = ap (take 40) whole ∙ ap (λ k. take k (front ++ replicate 216 0)) (sym f) ∙ take-append_seam front (replicate 216 0) in
    let behind : drop (40 + length body) once ≡ replicate (216 - length body) 0 =
    ap (drop (40 + length body)) whole
    ∙ ap (λ k. drop (k + length body) (front ++ replicate 216 0)) (sym f)
    ∙ drop-append-add front (replicate 216 0) (length body)
    ∙ drop-replicate (length body) 216 0 in
    ap (λ r. r ++ (body ++ drop (40 + length body) once)) before ∙ ap (λ r. front ++ (body ++ r)) behind

pub length-cell_front : (c : Cell) → length (cell_front c) ≡ 40
unfolding cell_front
length-cell_front c = refl

pub length-cell_bytes : (c : Cell) → length c.body ≤ 216 → length (cell_bytes c) ≡ 256
unfolding cell_bytes
length-cell_bytes c le =
    omega (arith, length-append (cell_front c) (c.body ++ replicate (216 - length c.body) 0), length-cell_front c, length-append c.body (replicate (216 - length c.body) 0), length-replicate {A = ℕ} (216 - length c.body) 0)

-- a number that fits its bytes is read back from them
pub reads : (width n : ℕ) (rest : List ℕ) → n < 256 ^ width → big_number width (big_bytes width n ++ rest) ≡ n
reads width n rest lt = big_number-reads_back width n rest lt

-- how long the body is
pub number_at-length : (c : Cell) → length c.body ≤ 216 → number_at 2 2 (cell_bytes c) ≡ length c.body
unfolding cell_bytes cell_front
number_at-length c le = reads 2 (length c.body) (drop 4 (cell_bytes c)) (omega arith)

-- a used cell is read back
pub cell_in-cell_bytes : (c : Cell) → IsCell c → cell_in (cell_bytes c) ≡ c
unfolding cell_in cell_bytes cell_front
cell_in-cell_bytes c is =
    let bytes : List ℕ = cell_bytes c in
    let sender : number_at 4 4 bytes ≡ c.sender = reads 4 c.sender (drop 8 bytes) is.sender in
    let sequence : number_at 8 8 bytes ≡ c.sequence = reads 8 c.sequence (drop 16 bytes) is.sequence in
    let tag : number_at 8 16 bytes ≡ c.tag = reads 8 c.tag (drop 24 bytes) is.tag in
    let next : number_at 8 24 bytes ≡ c.next = reads 8 c.next (drop 32 bytes) is.next in
    let prev : number_at 8 32 bytes ≡ c.prev = reads 8 c.prev (drop 40 bytes) is.prev in
    let body : bytes_at (number_at 2 2 bytes) 40 bytes ≡ c.body =
    ap (λ k. take k (drop 40 bytes)) (number_at-length c is.body) ∙ take-append_seam c.body (replicate (216 - length c.body) 0) in
    ap (λ (k : ℕ × ℕ × ℕ × ℕ × ℕ × List ℕ). let made : Cell = record { sender = k.0; sequence = k.1; tag = k.2; next = k.3; prev = k.4; body = k.5 } in made)
    (let same : (number_at 4 4 bytes, number_at 8 8 bytes, number_at 8 16 bytes, number_at 8 24 bytes, number_at 8 32 bytes, bytes_at (number_at 2 2 bytes) 40 bytes) ≡ (c.sender, c.sequence, c.tag, c.next, c.prev, c.body) = cc in same)

-- what a cell's slot holds is read back
pub cell_slot_in-cell_slot_bytes : (x : CellSlot) → IsCellSlot x → cell_slot_in (cell_slot_bytes x) ≡ x
unfolding free_bytes cell_bytes cell_front
cell_slot_in-cell_slot_bytes Free is = refl
cell_slot_in-cell_slot_bytes (Used c) is = ap Used (cell_in-cell_bytes c is)

-- where a used cell is spelled, its length and its sequence are in range
pub used_in_range : (x : CellSlot) (bytes : List ℕ) → IsCellSlot x → cell_slot_bytes x ≡ bytes → (slice_index bytes 0 ≡ 0 → ⊥)
    → (number_at 2 2 bytes ≤ 216) × (1 ≤ number_at 8 8 bytes)
unfolding free_bytes cell_bytes cell_front
used_in_range Free bytes is e used = absurd (used (ap (λ b. slice_index b 0) (sym e)))
used_in_range (Used c) bytes is e used =
    let long : number_at 2 2 bytes ≡ length c.body = ap (number_at 2 2) (sym e) ∙ number_at-length c is.body in
    let numbered : number_at 8 8 bytes ≡ c.sequence = ap (number_at 8 8) (sym e) ∙ reads 8 c.sequence (drop 16 (cell_bytes c)) is.sequence in
    (omega (arith, long, is.body), omega (arith, numbered, is.numbered))
