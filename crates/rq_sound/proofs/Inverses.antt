-- The newest deed of a transaction with nothing under way, and what its inverse needs.
use Rattle.std.proofs.Common.{◌≡◌, ℕ, ◌+◌, ◌<◌, ◌++◌, true, List, [], ◌∷◌, length, refl, sym, ◌∙◌, ap, subst, arith}
use Rattle.std.specs.List.{sum_by}
use Rattle.std.proofs.lemmas.Bool.{eq-eqb}
use Rattle.std.proofs.lemmas.List.{length-append}
use Rattle.std.proofs.lemmas.List.Sums.{sum_by_push}
use Rattle.rq_model.specs.declared.record.Deed.{Deed}
use Rattle.rq_model.specs.declared.record.Deed.TheVariants.{Append, UnlinkHead, Close, Mark}
use Rattle.rq_model.specs.Vocabulary.{In, client_group}
use Rattle.rq_page.specs.Sizes.{cell_count}
use Rattle.rq_views.specs.Chain.{View, view_appended}
use Rattle.rq_views.specs.Claims.{takes_of}
use Rattle.rq_views.specs.Groups.{on_sending_end}
use Rattle.rq_views.specs.InStore.{IsDeedOf}
use Rattle.rq_views.specs.Items.{items}
use Rattle.rq_views.specs.Legal.{open_deeds, view}
use Rattle.rq_views.specs.Log.{Slots}
use Rattle.rq_views.specs.Stored.{count_used}
use Rattle.rq_views.specs.Plans.{deed_sender, with_turn}
use Rattle.rq_views.specs.Plans.Turn.{Did}
use Rattle.rq_views.proofs.CanUndo.{can_undo_sent, can_undo_taken}
use Rattle.rq_txn.specs.declared.Finished.{Finished}
use Rattle.rq_txn.specs.Rows.{Row}
use Rattle.rq_store.specs.State.{State}
use Rattle.rq_store.specs.Rows.{placed}
use Rattle.rq_store.specs.Settled.{takes_one}
use Rattle.rq_store.proofs.Grouping.{groups_of}
use Rattle.rq_store.proofs.RowLists.{found_in}
use Rattle.rq_sound.specs.Calls.{IsIdle}
use Rattle.rq_sound.specs.Counted.{takes_all}
use Rattle.rq_sound.specs.Sound.{IsSound}
use Rattle.rq_sound.proofs.FreeCells.{open_is, room_to_put_back, stored}
use Rattle.rq_sound.proofs.Groups.{slots_are}
use Rattle.rq_sound.specs.Inverses.{HasFree, MayBeUndone}

module _ (s : State) (r : Row) (rest : List Finished) (f : Finished) (k : IsSound s) (idle : IsIdle s r) (newest : r.finished ≡ rest ++ f ∷ []) where
  here : In r s.rows
  here = (found_in r.txn s.rows r idle.at_row).0

  pub open_deed : (d : Deed) → f.deed ≡ d → open_deeds r.txn (items s.sizes s.records) ≡ record { lsn = f.lsn; deed = d } ∷ placed rest
  open_deed d e = open_is s.sizes s.records s.ends s.rows s.incarnation s.begins s.cells_in_use s.waiting k.standing k.counted k.log r here idle.idle rest f newest
      ∙ ap (λ (x : Deed). record { lsn = f.lsn; deed = x } ∷ placed rest) e

  pub deed_stored : (d : Deed) → f.deed ≡ d → IsDeedOf s.sizes d
  deed_stored d e = subst (IsDeedOf s.sizes) e (stored s.sizes s.records s.ends s.rows s.incarnation s.begins s.cells_in_use s.waiting k.standing k.counted k.log r here idle.idle rest f newest)

  -- a message that was taken has its cell
  free : 0 < takes_of f.deed → HasFree s
  free takes =
      let a : takes_all r ≡ sum_by takes_one rest + takes_of f.deed = ap (sum_by takes_one) newest ∙ sum_by_push takes_one rest f in
      subst (λ (q : Slots). count_used s.sizes q < cell_count s.sizes) (sym (slots_are s k))
      (room_to_put_back s.sizes s.records s.ends s.rows s.incarnation s.begins s.cells_in_use s.waiting k.standing k.counted r here idle.idle (omega (arith, a, takes)))

  -- a message that was sent stands in its chain
  stands : (d : Deed) (tag : ℕ) (body : List ℕ) → f.deed ≡ d → on_sending_end (deed_sender d) d ≡ true → ((v : View) → with_turn (Did d) v ≡ view_appended v tag body) → 0 < length (view (items s.sizes s.records) (deed_sender d)).messages
  stands d tag body e own adds =
      let x = can_undo_sent (deed_sender d) (items s.sizes s.records) r.txn (record { lsn = f.lsn; deed = d }) (placed rest) (groups_of s.sizes s.records k.log) (open_deed d e) own in
      let more : length (view (items s.sizes s.records) (deed_sender d)).messages ≡ length (x.0.messages ++ (tag, body) ∷ []) = ap (λ (v : View). length v.messages) (x.1 ∙ adds x.0) in
      let j = length-append x.0.messages ((tag, body) ∷ []) in
      omega (arith, more, j)

  at : (d : Deed) → f.deed ≡ d → MayBeUndone s d
  at (Append g m tag previous body) e = stands (Append g m tag previous body) tag body e (eq-eqb g g refl) (λ v. refl)
  at (UnlinkHead g m tag body) e =
      let x = can_undo_taken g (items s.sizes s.records) r.txn f.lsn g m tag body (placed rest) (groups_of s.sizes s.records k.log) (open_deed (UnlinkHead g m tag body) e) (eq-eqb g g refl) in
      (x.1, free (let one : takes_of f.deed ≡ 1 = ap takes_of e in omega (arith, one)))
  at (Close g) e = tt
  at (Mark c tag previous) e = stands (Mark c tag previous) tag [] e (eq-eqb (client_group c) (client_group c) refl) (λ v. refl)

  pub may_be_undone : MayBeUndone s f.deed
  may_be_undone = at f.deed refl
