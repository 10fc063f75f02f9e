use Rattle.std.proofs.Common.{◌≡◌, Some, ap, inl, inr, refl, subst, sym}
use Rattle.std.specs.List.{filter}
use Rattle.rq_model.specs.declared.record.Record.{Record}
use Rattle.rq_model.specs.declared.txn.Sub.{Sub}
use Rattle.rq_model.specs.Vocabulary.{first}
use Rattle.rq_log.specs.Places.{IsAt}
use Rattle.rq_views.specs.Items.{operation}
use Rattle.rq_analysis.specs.OpenWorkView.{lsn_undoable, undoable_by}
use Rattle.rq_restart.specs.Again.{WroteOver}
use Rattle.rq_restart.proofs.ReadAgain.{newest_at, newest_stands, newest_told, put_back}
use Rattle.rq_restart.proofs.again.puts_back.Goals as goal

pub returns-in-Ok-clause-told : goal.returns-in-Ok-clause-told
returns-in-Ok-clause-told g c = λ h.
    let r = c.in-PageUndo in
    let f = c.args.analysis.now in
    let found = c.requires.found in
    let o : Sub = operation r.txn r.operation in
    let kept = c.in-Some.kept in
    let some = c.in-Some.ensures.some in
    let e : lsn_undoable (first (filter (undoable_by o) f.open_work.undoable)) ≡ Some r.undone = subst (λ (x : Sub). lsn_undoable (first (filter (undoable_by x) f.open_work.undoable)) ≡ Some r.undone) c.sub.ensures some.2 in
    let told : Record = newest_told f found.0 found.1 o r.undone e kept some.0 some.1 in
    let at : IsAt c.args.reader.now.records kept.place told = subst (λ l. IsAt l kept.place told) (sym found.2) (newest_at f found.0 found.1 o r.undone e kept some.0 some.1 c.args.next.now c.requires.plain) in
    let is : c.in-Ok.told ≡ told = c.in-Ok.ensures.is h told at in
    let k = put_back f found.0 found.1 o r.undone e kept some.0 some.1 r.page r.slot r.after in
    rw r.is (λ y. k.0 (subst (λ x. WroteOver x r.page r.slot r.after) is (c.wrote_over.ensures.0 y)), λ q. c.wrote_over.ensures.1 (subst (λ x. WroteOver x r.page r.slot r.after) (sym is) (k.1 q)))

pub own_record-requires : goal.own_record-requires
own_record-requires g c =
    let r = c.in-PageUndo in
    let f = c.args.analysis.now in
    let found = c.requires.found in
    let o : Sub = operation r.txn r.operation in
    let kept = c.in-Some.kept in
    let some = c.in-Some.ensures.some in
    let e : lsn_undoable (first (filter (undoable_by o) f.open_work.undoable)) ≡ Some r.undone = subst (λ (x : Sub). lsn_undoable (first (filter (undoable_by x) f.open_work.undoable)) ≡ Some r.undone) c.sub.ensures some.2 in
    let told : Record = newest_told f found.0 found.1 o r.undone e kept some.0 some.1 in
    let at : IsAt c.args.reader.now.records kept.place told = subst (λ l. IsAt l kept.place told) (sym found.2) (newest_at f found.0 found.1 o r.undone e kept some.0 some.1 c.args.next.now c.requires.plain) in
    record { stands = (told, at, ap Some (sym (newest_stands f found.0 found.1 o r.undone e kept some.0 some.1).0)) }

pub returns-in-Ok-clause-own : goal.returns-in-Ok-clause-own
returns-in-Ok-clause-own g c =
    let r = c.in-PageUndo in
    let some = c.in-Some.ensures.some in
    rw r.is (inr (record {
      read = c.in-Ok.told;
      is_own = record { place = c.in-Some.kept; among = some.0; at = some.1; own = c.in-Ok.ensures.own };
      answer = c.wrote_over.ensures;
    }))

pub returns-in-None-clause-own : goal.returns-in-None-clause-own
returns-in-None-clause-own g c =
    let r = c.in-PageUndo in
    let found = c.requires.found in
    rw r.is (inl (refl, λ e. c.in-None.ensures.none found.0 found.1 (subst (λ (x : Sub). lsn_undoable (first (filter (undoable_by x) c.args.analysis.now.open_work.undoable)) ≡ Some r.undone) (sym c.sub.ensures) e)))
