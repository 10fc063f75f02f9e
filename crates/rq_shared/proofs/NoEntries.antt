-- Kept engines whose pages were read, with no entry of it.
use Rattle.std.proofs.Common.{List, ◌∙◌, ap, subst, sym}
use Rattle.rq_disk.specs.declared.device.LogDevice as log_device
use Rattle.rq_disk.specs.declared.device.PageDevice as page_device
use Rattle.rq_model.specs.History.{Call}
use Rattle.rq_engine.proofs.KeptUp.{up_honest, up_state}
use Rattle.rq_engine.specs.Earlier.{unknown}
use Rattle.rq_engine.specs.KeptUp.{KeepsUp}
use Rattle.rq_engine.specs.Opened.{OpenStore}
use Rattle.rq_store.specs.State.{State}
use Rattle.rq_shared.specs.Entries.{Follows, LeadsOver, Noted}

-- the audit still replays to the engine
pub follows_kept : {P L : Type 0} (p : page_device.Ghosts P) (l : log_device.Ghosts L) {c : Call} (base s t : OpenStore P L) (audit : List Noted) → Follows p l base audit s → KeepsUp p c s t → Follows p l base audit t
follows_kept p l base s t audit f k = record {
  sizes = ap (λ (x : State). x.sizes) k.lists ∙ f.sizes;
  unknown = ap (λ (x : State). unknown x.records) k.lists ∙ f.unknown;
  replays = λ h e at sound. subst (LeadsOver e base.state audit) (sym (up_state p s t k h.0)) (f.replays (up_honest p l s t k.devices h) e at sound);
}
