-- Each record that a program adds on its way keeps the log whole.
use Rattle.std.proofs.Common.{◌≡◌, ℕ, ◌/◌, ◌%◌, List, ◌∷◌, length, Some, subst, sym}
use Rattle.std.specs.List.{slice_get}
use Rattle.std.proofs.lemmas.Option.{slice_get_within}
use Rattle.rq_model.specs.declared.record.Deed.{Deed}
use Rattle.rq_model.specs.declared.record.Record.{Record}
use Rattle.rq_model.specs.declared.record.Record.TheVariants.{AbortEnd}
use Rattle.rq_model.specs.declared.txn.Txn.{Txn}
use Rattle.rq_model.specs.Unended.{lost}
use Rattle.rq_page.specs.Slots.{IsSlotOf}
use Rattle.rq_level.specs.declared.writes.SlotWrite.{SlotWrite}
use Rattle.rq_txn.specs.declared.Aim.TheVariants as aims
use Rattle.rq_txn.specs.Rows.{Under}
use Rattle.rq_store.specs.State.{State}
use Rattle.rq_store.specs.Steps.{page_op}
use Rattle.rq_store.specs.Whole.{IsWhole}
use Rattle.rq_sound.specs.Rows.{comp_end}
use Rattle.rq_sound.specs.Sound.{IsSound}
use Rattle.rq_sound.proofs.Writing.{whole_step}
use Rattle.rq_analysis.specs.Choices.{least_free}
use Rattle.rq_analysis.specs.Dues.{dues}
use Rattle.rq_analysis.specs.Moves.{newest_store}
use Rattle.rq_analysis.specs.Walk.{IsBetween, IsCome, IsWithin, LogsOnTheWayAreWhole}
use Rattle.rq_analysis.proofs.Moving.{moves_sound}
use Rattle.rq_analysis.proofs.Recovering.{behind}
use Rattle.rq_analysis.proofs.Stopping.{moves_sizes}
use Rattle.rq_analysis.proofs.Walking.{aborts_go_on}

module _ (base : State) (stores : List State) (images : List (List ℕ)) (log : List Record) (k : IsSound base) (c : IsCome base stores images log) where
  pub come_sound : IsSound (newest_store base stores)
  come_sound = moves_sound base stores k (behind base stores c.turns)

  pub come_sizes : (newest_store base stores).sizes ≡ base.sizes
  come_sizes = moves_sizes base stores (behind base stores c.turns)

  pub come_whole : IsWhole base.sizes log
  come_whole = subst (λ z. IsWhole z log) come_sizes (subst (IsWhole (newest_store base stores).sizes) c.records_are come_sound.log)

-- also with the record of the write that is next, before it is in the pages
pub write_whole : (base : State) (images : List (List ℕ)) (log : List Record) (t : Txn) (n lsn : ℕ) (deed : Deed) (ws : List SlotWrite) (made : ℕ) (w : SlotWrite) → IsSound base
    → IsWithin base images log t n lsn deed ws made → slice_get ws made ≡ Some w → IsSlotOf base.sizes (w.at / 16) (w.at % 16) w.before → IsSlotOf base.sizes (w.at / 16) (w.at % 16) w.after
    → IsWhole base.sizes (page_op t n w ∷ log)
write_whole base images log t n lsn deed ws made w k h next before after =
    let s = newest_store base h.stores in
    let sound = come_sound base h.stores images log k h.come in
    let sizes = come_sizes base h.stores images log k h.come in
    let u : Under = record { number = n; writes = ws; made = made; aim = aims.Undoing lsn deed } in
    let whole : IsWhole s.sizes (page_op h.row.txn n w ∷ s.records) =
    whole_step s.sizes s.records s.ends s.rows s.incarnation s.begins s.cells_in_use s.waiting sound.log sound.standing sound.counted sound.incarnation sound.some h.row u w h.at_row h.under next (slice_get_within ws made w next)
    (subst (λ z. IsSlotOf z (w.at / 16) (w.at % 16) w.before) (sym sizes) before) (subst (λ z. IsSlotOf z (w.at / 16) (w.at % 16) w.after) (sym sizes) after) in
    subst (λ z. IsWhole z (page_op t n w ∷ log)) sizes
    (subst (λ (l : List Record). IsWhole s.sizes (page_op t n w ∷ l)) h.come.records_are
    (subst (λ (x : Txn). IsWhole s.sizes (page_op x n w ∷ s.records)) h.of whole))

-- and with that of the inverse's end, or of the transaction's
pub close_whole : (base : State) (images : List (List ℕ)) (log : List Record) (t : Txn) (n lsn : ℕ) (deed : Deed) (ws : List SlotWrite) → IsSound base → IsWithin base images log t n lsn deed ws (length ws)
    → IsWhole base.sizes (comp_end t n lsn ∷ log)
close_whole base images log t n lsn deed ws k h =
    let b = aborts_go_on.closes base images log t n lsn deed ws k h in
    come_whole base b.stores images (comp_end t n lsn ∷ log) k b.come

pub end_whole : (base : State) (images : List (List ℕ)) (log : List Record) (t : Txn) → IsSound base → IsBetween base images log → least_free (dues log) (lost log) ≡ Some t → IsWhole base.sizes (AbortEnd t ∷ log)
end_whole base images log t k h e =
    let b = aborts_go_on.ends base images log t k h e in
    come_whole base b.stores images (AbortEnd t ∷ log) k b.come

pub logs_whole : LogsOnTheWayAreWhole
logs_whole = record {
  between = λ base images log k h. come_whole base h.stores images log k h.come;
  within = λ base images log t n lsn deed ws made k h. come_whole base h.stores images log k h.come;
  writes = write_whole;
  closes = close_whole;
  ends = end_whole;
}
