-- The requests of a stream are those whose frames stand at its front, and there is one list of them.
use Rattle.std.proofs.Common.{◌≡◌, ℕ, Bool, true, false, List, [], ◌∷◌, ◌++◌, length, drop, refl, sym, ap, ◌∙◌, subst, append_assoc}
use Rattle.std.proofs.Math.Seq.{drop-append_seam}
use Rattle.rq_wire.specs.declared.request.Request.{Request}
use Rattle.rq_wire.specs.declared.look.Prefix.TheVariants.{Frame}
use Rattle.rq_wire.specs.Looks.{looks}
use Rattle.rq_wire.specs.Spelling.{AreRequested, spelled, spelled_all}
use Rattle.rq_bytes.specs.Number.{AreBytes}
use Rattle.rq_wire.specs.Stream.{Begins, AreRequests, stop}
use Rattle.rq_bytes.proofs.Strings.{AreBytes-drop}
use Rattle.rq_wire.proofs.Spells.{spelled_is_read, read_is_spelled}

pub to_frames : (rs : List Request) (bytes rest : List ℕ) → AreBytes bytes → Begins rs bytes rest
    → AreRequested rs × (bytes ≡ spelled_all rs ++ rest)
to_frames [] bytes rest are e = (tt, e)
to_frames (r ∷ rs) bytes rest are h =
    let one = read_is_spelled bytes r h.0 are h.1 in
    let more = to_frames rs (drop h.0 bytes) rest (AreBytes-drop h.0 bytes are) h.2 in (
      (one.0, more.0),
      one.1 ∙ ap (λ (l : List ℕ). spelled r ++ l) more.1
          ∙ sym (append_assoc (spelled r) (spelled_all rs) rest),
    )

pub from_frames : (rs : List Request) (bytes rest : List ℕ) → AreRequested rs → bytes ≡ spelled_all rs ++ rest
    → Begins rs bytes rest
from_frames [] bytes rest are e = e
from_frames (r ∷ rs) bytes rest are e =
    let regrouped : bytes ≡ spelled r ++ (spelled_all rs ++ rest) = e
    ∙ append_assoc (spelled r) (spelled_all rs) rest in (
      length (spelled r),
      ap looks regrouped ∙ spelled_is_read r (spelled_all rs ++ rest) are.0,
      from_frames rs (drop (length (spelled r)) bytes) rest are.1 (ap (drop (length (spelled r))) regrouped
          ∙ drop-append_seam (spelled r) (spelled_all rs ++ rest)),
    )

same_stop : (fault other : Bool) → stop fault ≡ stop other → fault ≡ other
same_stop true true e = refl
same_stop true false e = absurd cc
same_stop false true e = absurd cc
same_stop false false e = refl

no_frame : (fault : Bool) (r : Request) (n : ℕ) → stop fault ≡ Frame r n → ⊥
no_frame true r n e = cc
no_frame false r n e = cc

same_request : (r q : Request) (n m : ℕ) → Frame r n ≡ Frame q m → (r ≡ q) × (n ≡ m)
same_request r q n m e = (cc, cc)

pub one_answer : (bytes : List ℕ) (rs qs : List Request) (fault other : Bool) → AreRequests bytes rs fault
    → AreRequests bytes qs other → (rs ≡ qs) × (fault ≡ other)
one_answer bytes [] [] fault other a b = (refl, same_stop fault other (sym a.2 ∙ ap looks (sym a.1 ∙ b.1) ∙ b.2))
one_answer bytes [] (q ∷ qs) fault other a b = absurd (no_frame fault q b.1.0 (sym a.2 ∙ ap looks (sym a.1) ∙ b.1.1))
one_answer bytes (r ∷ rs) [] fault other a b = absurd (no_frame other r a.1.0 (sym b.2 ∙ ap looks (sym b.1) ∙ a.1.1))
one_answer bytes (r ∷ rs) (q ∷ qs) fault other a b =
    let same = same_request r q a.1.0 b.1.0 (sym a.1.1 ∙ b.1.1) in
    let there : Begins qs (drop a.1.0 bytes) b.0 = subst (λ (n : ℕ). Begins qs (drop n bytes) b.0) (sym same.1) b.1.2 in
    let more = one_answer (drop a.1.0 bytes) rs qs fault other (a.0, a.1.2, a.2) (b.0, there, b.2) in
    (ap (λ (x : Request). x ∷ rs) same.0 ∙ ap (λ (l : List Request). q ∷ l) more.0, more.1)
