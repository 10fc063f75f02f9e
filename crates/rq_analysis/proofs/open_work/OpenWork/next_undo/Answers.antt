use Rattle.std.proofs.Common.{◌≡◌, ap, sym, ◌∙◌, Some, None, length, ◌-◌}
use Rattle.std.specs.List.{slice_get}
use Rattle.std.specs.Option.{option_copied}
use Rattle.rq_analysis.specs.OpenWorkView.{OpenWorkView}
use Rattle.rq_analysis.specs.Least.{least_in}
use Rattle.rq_analysis.proofs.Next.{voids_next, newest_next, nothing_next}
use Rattle.rq_analysis.proofs.open_work.OpenWork.next_undo.Goals as goal

pub returns-in-Some-clause-some : goal.returns-in-Some-clause-some
returns-in-Some-clause-some c =
    let inside = c.self.inside in
    let found : least_in inside.undoable.items inside.unfinished.items ≡ Some c.in-Some.least =
    ap (λ ps. least_in ps inside.unfinished.items) (sym c.deref-2.ensures.value) ∙ ap (least_in c.deref-2.result.now) (sym c.deref.ensures.value) ∙ sym c.least_without_writes.ensures ∙ c.in-Some.is in
    voids_next c.args.self.now inside.undoable.items inside.unfinished.items (ap (λ (h : OpenWorkView). h.undoable) (sym c.self.view_is)) (ap (λ (h : OpenWorkView). h.unfinished) (sym c.self.view_is)) c.in-Some.least found

pub returns-in-Some-last-clause-some : goal.returns-in-Some-last-clause-some
returns-in-Some-last-clause-some c =
    let inside = c.self.inside in
    let none : least_in inside.undoable.items inside.unfinished.items ≡ None =
    ap (λ ps. least_in ps inside.unfinished.items) (sym c.deref-2.ensures.value) ∙ ap (least_in c.deref-2.result.now) (sym c.deref.ensures.value) ∙ sym c.least_without_writes.ensures ∙ c.in-None.is in
    let last : slice_get inside.undoable.items (length inside.undoable.items - 1) ≡ Some c.in-Some-last.newest.now =
    ap (λ ps. slice_get ps (length ps - 1)) (sym c.deref-in-None.ensures.value) ∙ sym c.last.ensures.value ∙ ap option_copied c.in-Some-last.is in
    (c.in-Some-last.newest.now, sym c.lsn.ensures, newest_next c.args.self.now inside.undoable.items inside.unfinished.items (ap (λ (h : OpenWorkView). h.undoable) (sym c.self.view_is)) (ap (λ (h : OpenWorkView). h.unfinished) (sym c.self.view_is)) c.in-Some-last.newest.now none last)

pub returns-in-None-last-clause-none : goal.returns-in-None-last-clause-none
returns-in-None-last-clause-none c =
    let inside = c.self.inside in
    let none : least_in inside.undoable.items inside.unfinished.items ≡ None =
    ap (λ ps. least_in ps inside.unfinished.items) (sym c.deref-2.ensures.value) ∙ ap (least_in c.deref-2.result.now) (sym c.deref.ensures.value) ∙ sym c.least_without_writes.ensures ∙ c.in-None.is in
    let last : slice_get inside.undoable.items (length inside.undoable.items - 1) ≡ None =
    ap (λ ps. slice_get ps (length ps - 1)) (sym c.deref-in-None.ensures.value) ∙ sym c.last.ensures.value ∙ ap option_copied c.in-None-last.is in
    nothing_next c.args.self.now inside.undoable.items inside.unfinished.items (ap (λ (h : OpenWorkView). h.undoable) (sym c.self.view_is)) (ap (λ (h : OpenWorkView). h.unfinished) (sym c.self.view_is)) none last
