-- What is left where a refusal is handed on.
use Rattle.std.proofs.Common.{◌≡◌, Result, Err, sym, subst}
use Rattle.std.specs.Prelude.{IfErr, OnErr, OnOk}
use Rattle.rq_model.specs.declared.refusal.Refusal.{Refusal}
use Rattle.rq_disk.specs.declared.device.LogDevice as log_device
use Rattle.rq_disk.specs.declared.device.PageDevice as page_device
use Rattle.rq_restart.specs.Standing.{Found, KeepsStore}

-- what is said of the refusal
pub handed_stops : {X : Type 0} (A : Refusal → Type 0) (r : Result X Refusal) (e : Refusal) → r ≡ Err e → A e → IfErr r A
handed_stops A r e is h = subst (λ s. IfErr s A) (sym is) h

-- what is left of a store
pub handed_way : {X : Type 0} (A B : Type 0) (r : Result X Refusal) (e : Refusal) → r ≡ Err e → B → OnOk r A × OnErr r B
handed_way A B r e is h = subst (λ s. OnOk s A × OnErr s B) (sym is) (tt, h)

-- no device was called
pub kept_alike : {P L : Type 0} (p : page_device.Ghosts P) (l : log_device.Ghosts L) (f : Found P L) (old new : P) (log now : L) → new ≡ old → now ≡ log → KeepsStore p l f old log → KeepsStore p l f new now
kept_alike p l f old new log now pages same path = subst (λ x. KeepsStore p l f x now) (sym pages) (subst (λ x. KeepsStore p l f old x) (sym same) path)
