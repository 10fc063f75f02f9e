use Rattle.std.proofs.Common.{inl, inr, ⊎_elim, ◌≡◌, ◌≢◌, ◌+◌, List, ℕ, [], true, false, length, ap, refl, sym, subst, ◌∙◌, arith}
use Rattle.rq_record.specs.Spelling.{HoldsRecord, BeginsRecord}
use Rattle.rq_record.specs.Decoding.{IsFront}
use Rattle.rq_log.specs.Reading.{HasMoreBehind, IsDamagedBehind, KeepsRead}
use Rattle.rq_log.proofs.Keeping.{all_read, damaged, filled, misplaced, more, room_to_read, taken}
use Rattle.rq_log.proofs.Runs.{is_some, is_none, nothing_short}
use Rattle.std.proofs.lemmas.List.{nil_from_length}
use Rattle.rq_log.proofs.reading.LogReader.read_next.Goals as goal

pub fill-requires : goal.fill-requires
fill-requires g c =
    let was = c.self.inside in
    room_to_read g.L.LogDevice was.past was.first.value was.last was.stream c.self.invariant

pub returns-then-self-ge-LOG_LIMIT-clause-err : goal.returns-then-self-ge-LOG_LIMIT-clause-err
returns-then-self-ge-LOG_LIMIT-clause-err g c =
    let s = c.fill.new.self in
    let f = c.in_ok-fill.ensures in
    let was = c.self.inside in
    let k : KeepsRead g.L.LogDevice was.past s was.first.value was.last = filled g.L.LogDevice was.past was.first.value was.last was.stream s c.self.invariant f.left f.place f.read in
    let some : s.unread ≢ [] = λ e. is_some (length c.unread.result.now) false c.if-is_empty.ensures refl (ap length (c.unread.ensures ∙ e)) in
    let count = k.count in
    rw (sym c.self.view_is) (
      (let high = c.if-self-ge-LOG_LIMIT.true in omega (arith, count, high)),
      (λ h. subst (HasMoreBehind was.past) (sym c.self.invariant.read.same) (more g.L.LogDevice was.past was.first.value was.last s k some h)),
      f.cause.ok,
    )

pub returns-then-is_empty-clause-none : goal.returns-then-is_empty-clause-none
returns-then-is_empty-clause-none g c =
    let s = c.fill.new.self in
    let f = c.in_ok-fill.ensures in
    let was = c.self.inside in
    let k : KeepsRead g.L.LogDevice was.past s was.first.value was.last = filled g.L.LogDevice was.past was.first.value was.last was.stream s c.self.invariant f.left f.place f.read in
    let none : s.unread ≡ [] = nil_from_length s.unread (ap length (sym c.unread.ensures) ∙ is_none (length c.unread.result.now) true c.if-is_empty.ensures refl) in
    rw (sym c.self.view_is) (refl, λ h. all_read g.L.LogDevice was.past was.first.value was.last s k f.most (subst BeginsRecord (sym none) nothing_short) h)

pub returns-in-Short-clause-none : goal.returns-in-Short-clause-none
returns-in-Short-clause-none g c =
    let s = c.fill.new.self in
    let f = c.in_ok-fill.ensures in
    let was = c.self.inside in
    let k : KeepsRead g.L.LogDevice was.past s was.first.value was.last = filled g.L.LogDevice was.past was.first.value was.last was.stream s c.self.invariant f.left f.place f.read in
    let short : BeginsRecord s.unread = subst BeginsRecord c.unread-2.ensures (c.in-Short.ensures.short.0 refl) in
    rw (sym c.self.view_is) (refl, λ h. all_read g.L.LogDevice was.past was.first.value was.last s k f.most short h)

pub returns-in-Bad-clause-err : goal.returns-in-Bad-clause-err
returns-in-Bad-clause-err g c =
    let s = c.fill.new.self in
    let f = c.in_ok-fill.ensures in
    let was = c.self.inside in
    let k : KeepsRead g.L.LogDevice was.past s was.first.value was.last = filled g.L.LogDevice was.past was.first.value was.last was.stream s c.self.invariant f.left f.place f.read in
    let bad = c.in-Bad.ensures.bad.0 refl in
    let none : HoldsRecord s.unread → ⊥ = λ h. bad.0 (subst HoldsRecord (sym c.unread-2.ensures) h) in
    let some : BeginsRecord s.unread → ⊥ = λ b. bad.1 (subst BeginsRecord (sym c.unread-2.ensures) b) in
    let count = k.count in
    rw (sym c.self.view_is) (
      (let e : was.last + 1 ≡ length was.past + 1 = omega (arith, count) in e),
      (λ h. subst (IsDamagedBehind was.past) (sym c.self.invariant.read.same) (damaged g.L.LogDevice was.past was.first.value was.last s k f.most none some h)),
      f.cause.ok,
    )

pub returns-in-Bad-clause-none : goal.returns-in-Bad-clause-none
returns-in-Bad-clause-none g c = tt

pub returns-in-Bad-clause-bound : goal.returns-in-Bad-clause-bound
returns-in-Bad-clause-bound g c = tt

pub returns-in_default-clause-err : goal.returns-in_default-clause-err
returns-in_default-clause-err g c =
    let s = c.fill.new.self in
    let f = c.in_ok-fill.ensures in
    let was = c.self.inside in
    let k : KeepsRead g.L.LogDevice was.past s was.first.value was.last = filled g.L.LogDevice was.past was.first.value was.last was.stream s c.self.invariant f.left f.place f.read in
    let front : IsFront c.decode_into.new.into c.in-Record.used s.unread = subst (λ (b : List ℕ). IsFront c.decode_into.new.into c.in-Record.used b) c.unread-2.ensures c.in-Record.ensures.front in
    let none = c.in_default.ensures.none in
    let count = k.count in
    rw (sym c.self.view_is) (
      (let e : was.last + 1 ≡ length was.past + 1 = omega (arith, count) in e),
      (λ h. subst (IsDamagedBehind was.past) (sym c.self.invariant.read.same) (misplaced g.L.LogDevice was.past was.first.value was.last s c.decode_into.new.into c.in-Record.used k front none.0 none.1 h)),
      f.cause.ok,
    )

pub invariant_of-self-in-Record : goal.invariant_of-self-in-Record
invariant_of-self-in-Record g c =
    let s = c.fill.new.self in
    let f = c.in_ok-fill.ensures in
    let was = c.self.inside in
    let k : KeepsRead g.L.LogDevice was.past s was.first.value was.last = filled g.L.LogDevice was.past was.first.value was.last was.stream s c.self.invariant f.left f.place f.read in
    let front : IsFront c.decode_into.new.into c.in-Record.used s.unread = subst (λ (b : List ℕ). IsFront c.decode_into.new.into c.in-Record.used b) c.unread-2.ensures c.in-Record.ensures.front in
    taken g.L.LogDevice was.past was.first.value was.last s c.skip.new.self c.decode_into.new.into c.in-Record.used c.in-Some.lsn c.add.new.self k c.in-Some.ensures.some c.add.ensures front c.skip.ensures

pub returns-then-is_empty-clause-bound : goal.returns-then-is_empty-clause-bound
returns-then-is_empty-clause-bound g c =
    let s = c.fill.new.self in
    let none : s.unread ≡ [] = nil_from_length s.unread (ap length (sym c.unread.ensures) ∙ is_none (length c.unread.result.now) true c.if-is_empty.ensures refl) in
    λ full. ap length none

pub returns-in-Short-clause-bound : goal.returns-in-Short-clause-bound
returns-in-Short-clause-bound g c =
    let was = c.self.inside in
    let count = c.self.invariant.count in
    let low = c.if-self-ge-LOG_LIMIT.false in
    rw (sym c.self.view_is) (λ full. absurd (omega (arith, full, count, low)))

pub returns-in-Some-clause-oldest : goal.returns-in-Some-clause-oldest
returns-in-Some-clause-oldest g c =
    let count = c.self.invariant.count in
    rw (sym c.self.view_is) (⊎_elim (λ plain. inl plain) (λ none. inr (nil_from_length c.self.inside.past (sym count ∙ none))) c.in-Some.ensures.some.first)
