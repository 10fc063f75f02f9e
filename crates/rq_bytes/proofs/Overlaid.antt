-- Bytes that were written over others.
use Rattle.std.proofs.Common.{◌≡◌, ℕ, ◌+◌, ◌-◌, ◌≤◌, List, ◌++◌, length, take, drop, sym, ap, ◌∙◌, arith, length-drop}
use Rattle.std.proofs.lemmas.List.{drop-append-le, drop-take, drop-drop, length-take, take-append-le, take-take, drop_all}
use Rattle.std.proofs.Math.Seq.{take-append_seam}
use Rattle.rq_bytes.specs.Number.{overlaid, bytes_at}
use Rattle.rq_bytes.proofs.Placed.{drop-front}

-- what was written stands there
pub bytes_at-overlaid : (at : ℕ) (written bytes : List ℕ) → at + length written ≤ length bytes
    → bytes_at (length written) at (overlaid at written bytes) ≡ written
bytes_at-overlaid at written bytes le =
    ap (take (length written)) (drop-front at bytes (written ++ drop (at + length written) bytes) (omega arith))
    ∙ take-append_seam written (drop (at + length written) bytes)

-- what stands behind what was written
pub drop-overlaid_behind : (at : ℕ) (written bytes : List ℕ) (place : ℕ) → at + length written ≤ length bytes → at + length written ≤ place
    → drop place (overlaid at written bytes) ≡ drop place bytes
drop-overlaid_behind at written bytes place le behind =
    let end : ℕ = at + length written in
    let more : ℕ = place - end in
    let whole : drop end (overlaid at written bytes) ≡ drop end bytes =
    sym (drop-drop (length written) at (overlaid at written bytes))
    ∙ ap (drop (length written)) (drop-front at bytes (written ++ drop end bytes) (omega arith))
    ∙ drop-append-le (length written) written (drop end bytes) (omega arith)
    ∙ ap (λ (r : List ℕ). r ++ drop end bytes) (drop_all (length written) written (omega arith)) in
    let there : end + more ≡ place = omega arith in
    ap (λ k. drop k (overlaid at written bytes)) (sym there)
    ∙ sym (drop-drop more end (overlaid at written bytes))
    ∙ ap (drop more) whole
    ∙ drop-drop more end bytes
    ∙ ap (λ k. drop k bytes) there

pub bytes_at-overlaid_behind : (at : ℕ) (written bytes : List ℕ) (place width : ℕ) → at + length written ≤ length bytes → at + length written ≤ place
    → bytes_at width place (overlaid at written bytes) ≡ bytes_at width place bytes
bytes_at-overlaid_behind at written bytes place width le behind = ap (take width) (drop-overlaid_behind at written bytes place le behind)

-- what stands before what was written
pub bytes_at-overlaid_before : (at : ℕ) (written bytes : List ℕ) (place width : ℕ) → at + length written ≤ length bytes → place + width ≤ at
    → bytes_at width place (overlaid at written bytes) ≡ bytes_at width place bytes
bytes_at-overlaid_before at written bytes place width le before =
    let rest : List ℕ = written ++ drop (at + length written) bytes in
    let room : at ≡ place + (at - place) = omega arith in
    let front : drop place (take at bytes) ≡ take (at - place) (drop place bytes) =
    ap (λ k. drop place (take k bytes)) room ∙ drop-take place (at - place) bytes in
    let enough : width ≤ length (drop place (take at bytes)) = omega (arith, length-drop place (take at bytes), length-take at bytes) in
    ap (take width) (drop-append-le place (take at bytes) rest (omega (arith, length-take at bytes)))
    ∙ take-append-le width (drop place (take at bytes)) rest enough
    ∙ ap (take width) front
    ∙ take-take width (at - place) (drop place bytes) (omega arith)
