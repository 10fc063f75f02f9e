-- A page of a formatted store was written.
use Rattle.std.proofs.Common.{◌≡◌, ◌≢◌, ℕ, ◌+◌, ◌%◌, ◌^◌, List, Result, Ok, Err, OnOk, IfErr, sym, subst}
use Rattle.rq_model.specs.declared.refusal.Refusal.{Refusal}
use Rattle.rq_model.specs.declared.refusal.Refusal.TheVariants as why
use Rattle.rq_disk.specs.Device.{Holds, Leaves, Elapses, Written as OrWritten}
use Rattle.rq_disk.specs.declared.device.PageDevice.{Ghosts}
use Rattle.rq_page.specs.Sizes.{Sizes}
use Rattle.rq_page.specs.Formatted.{IsFormatted}
use Rattle.rq_pool.specs.Writing.{IsFormattedAfter}

pub formatted_after : {P : Type 0} (g : Ghosts P) (z : Sizes) (page : ℕ) (image : List ℕ) (old new : P) (result : Result Unit Refusal)
    → IsFormatted z page image → (g.honest new → g.honest old) → ((p : ℕ) → p ≢ page → g.seen new p ≡ g.seen old p)
    → OrWritten page image (g.may_be old) (g.may_be new)
    → Elapses (g.moment old) (g.moment new) (g.left_since old) (g.left_since new) (Leaves (g.may_be new))
    → OnOk result (Holds (g.seen old) page image (g.seen new)) → OnOk result (g.faults new ≡ g.faults old)
    → IfErr result (λ e. (e ≡ why.DiskWrite) × (g.faults new ≡ (g.faults old + 1) % 2 ^ 64))
    → IsFormattedAfter g z page old new result
formatted_after g z page image old new (Ok _) is honest others crash time holds cause err =
    (image, is, holds, record { honest = honest; others = others; crash = crash; time = time }, cause)
formatted_after g z page image old new (Err e) is honest others crash time holds cause err =
    subst (λ r. IsFormattedAfter g z page old new (Err r)) (sym err.0)
    (image, is, record { honest = honest; others = others; crash = crash; time = time }, err.1)
