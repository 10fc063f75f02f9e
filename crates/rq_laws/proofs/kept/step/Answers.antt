use Rattle.std.proofs.Common.{◌∙◌, ap, sym}
use Rattle.rq_engine.proofs.KeptUp.{up_state}
use Rattle.rq_model.specs.Causes.{reads_pages}
use Rattle.rq_engine.specs.Says.{call_of}
use Rattle.rq_engine.specs.declared.event.Event.{Event}
use Rattle.rq_shared.specs.Entries.{Audited}
use Rattle.rq_laws.proofs.Audits.{audit_alike, kept_alike}
use Rattle.rq_laws.proofs.Writing.{left_alike}
use Rattle.rq_laws.proofs.kept.step.Goals as goal

pub returns-clause-audit : goal.returns-clause-audit
returns-clause-audit g c = audit_alike _ _ _ _ _ _ _ _ _ (ap (λ (k : Audited _ _). k.audit) c.requires.same) c.requires.event c.step.ensures.entry c.step-2.ensures.entry

pub returns-clause-refused : goal.returns-clause-refused
returns-clause-refused g c a b = (c.step.ensures.no_entry a).audit ∙ ap (λ (k : Audited _ _). k.audit) c.requires.same ∙ sym (c.step-2.ensures.no_entry b).audit

pub returns-clause-same : goal.returns-clause-same
returns-clause-same g c a b x y =
    up_state g.P.PageDevice _ _ (c.step.ensures.no_entry a).engine x ∙ ap (λ (k : Audited _ _). k.engine.state) c.requires.same ∙ sym (up_state g.P.PageDevice _ _ (c.step-2.ensures.no_entry b).engine y)

pub returns-clause-left : goal.returns-clause-left
returns-clause-left g c a b =
    let k = (c.step.ensures.no_entry a).engine in
    let m = (c.step-2.ensures.no_entry b).engine in
    let same = ap (λ (k : Audited _ _). k.engine) c.requires.same in
    (left_alike _ _ _ _ same k.lists k.devices.1 k.devices.2 m.lists m.devices.1 m.devices.2, k.faults ∙ ap (λ (k : Audited _ _). g.P.PageDevice.faults k.engine.pages) c.requires.same ∙ sym m.faults)

pub returns-clause-still : goal.returns-clause-still
returns-clause-still g c a b none =
    let k = c.step.ensures.no_entry a in
    let m = c.step-2.ensures.no_entry b in
    kept_alike _ _ _ _ c.requires.same (k.engine.still none) k.audit k.base k.taken (m.engine.still (ap (λ (e : Event). reads_pages (call_of e)) (sym c.requires.event) ∙ none)) m.audit m.base m.taken
