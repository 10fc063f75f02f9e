-- What was read of a device that spells a log is the log's.
use Rattle.std.proofs.Common.{◌≡◌, ⊎_elim, ◌+◌, ◌-◌, ◌<◌, ◌≤◌, ℕ, zero, suc, false, drop, List, [], ◌∷◌, ◌++◌, length, reverse, refl, sym, ◌∙◌, ap, subst, inl, inr, arith, length-append}
use Rattle.std.proofs.lemmas.Bool.{true≢false}
use Rattle.std.proofs.lemmas.List.{drop_at, length-drop, reverse-append, reverse-reverse}
use Rattle.rq_disk.specs.Device.{Images}
use Rattle.rq_model.specs.declared.record.Record.{Record}
use Rattle.rq_model.specs.declared.record.Record.TheVariants.{Base}
use Rattle.rq_model.specs.Bases.{IsMarked, base_lsn, gone, is_base, marked, standing}
use Rattle.rq_model.proofs.Bases.{base_behind, base_plain, drop_base, drop_standing, gone_less, length_standing, read_marked, standing_plain}
use Rattle.rq_disk.specs.declared.device.LogDevice.{Ghosts}
use Rattle.rq_log.specs.Spelled.{spelled, spelled_all, AreAllSpelled, AreSpelled, EndsWith, EndsWithAll}
use Rattle.rq_log.specs.Reading.{StopsFor}
use Rattle.rq_log.proofs.Parsing.{no_damage, rest_of}
use Rattle.rq_restart.proofs.Repeated.{follow_marked, repeated_read}
use Rattle.rq_model.specs.declared.refusal.Refusal.{Refusal}
use Rattle.rq_model.specs.declared.refusal.Refusal.TheVariants as why
use Rattle.rq_model.specs.declared.refusal.Damage.TheVariants as damage
use Rattle.rq_page.specs.Sizes.{Sizes}
use Rattle.rq_restart.specs.Repeating.{Belongs, Repeats}
use Rattle.rq_restart.specs.Restarting.{IsReadAs}
use Rattle.rq_analysis.specs.Recovered.IsRecovering.{Undoing}
use Rattle.rq_analysis.proofs.Marked.{marked_length}
use Rattle.rq_analysis.proofs.Undos.{undoing_none}
use Rattle.rq_restart.specs.Refused.{IsBadNext, IsStoppedBehind, MayBeShut}
use Rattle.rq_store.specs.Opening.{IsLeft}
use Rattle.rq_store.specs.Fitting.{oldest}
use Rattle.rq_store.specs.Whole.{AreBased}
use Rattle.rq_restart.proofs.Going.{left_belongs}

-- records that stand in front of what spells a log are its first
are_first : (log front : List Record) (bytes rest : List ℕ) → AreAllSpelled log → AreAllSpelled front → EndsWithAll log bytes → bytes ≡ spelled_all front ++ rest → (oldest (length front) log ≡ front) × (length front ≤ length log)
are_first log front bytes rest h k ends e =
    let r = rest_of log front bytes rest h k ends e in
    let whole : log ≡ reverse r.others ++ front = sym (reverse-reverse log) ∙ ap reverse r.whole ∙ reverse-append (reverse front) r.others ∙ ap (λ l. reverse r.others ++ l) (reverse-reverse front) in
    let a = length-append (reverse r.others) front in
    let b : length log ≡ length (reverse r.others ++ front) = ap length whole in
    let gone : length (reverse r.others) ≡ length log - length front = omega (arith, a, b) in
    (ap (drop (length log - length front)) whole ∙ drop_at (reverse r.others) front (length log - length front) gone, omega (arith, a, b))

-- what was read of the front of a log is what is read of some of its first records
pub record IsFrontOf (log front : List Record) : Type 0 where
  pub records : List Record
  pub first : oldest (length records) log ≡ records
  pub within : length records ≤ length log
  pub same : standing records ≡ standing front
  pub base : base_lsn records ≡ base_lsn log

pub front_of : (log front : List Record) (bytes rest : List ℕ) → AreSpelled log → AreSpelled front → EndsWith log bytes → bytes ≡ spelled front ++ rest → 0 < length (standing front) → IsFrontOf log front
front_of log front bytes rest told are ends is some =
    let f = are_first (standing log) (standing front) bytes rest told are ends is in
    let k : ℕ = length (standing log) - length (standing front) in
    let sum = length_standing log in
    let few = f.1 in
    let low : k + gone log < length log = omega (arith, sum, few, some) in
    let long = length-drop k log in
    let size : length (drop k log) ≡ length log - k = long in
    let behind = base_behind log in
    let most : base_lsn log ≤ gone log + 1 = ⊎_elim (λ none. omega (arith, none)) (λ one. omega (arith, one)) behind in
    record {
      records = drop k log;
      first = ap (λ (n : ℕ). drop n log) (let e : length log - length (drop k log) ≡ k = omega (arith, size, low) in e);
      within = omega (arith, size);
      same = drop_standing k log low ∙ f.0;
      base = drop_base k log (omega (arith, most, low));
    }

based_drop : (k : ℕ) (log : List Record) → AreBased log → AreBased (drop k log)
based_drop zero log based = based
based_drop (suc k) [] based = tt
based_drop (suc k) (r ∷ log) based = based_drop k log based.1

-- so it has no more records
pub front_within : (log front : List Record) (bytes rest : List ℕ) → AreSpelled log → AreSpelled front → EndsWith log bytes → bytes ≡ spelled front ++ rest → IsMarked front → AreBased log → length front ≤ length log
front_within log [] bytes rest told are ends is marks based = omega arith
front_within log (x ∷ front) bytes rest told are ends is marks based =
    let less = gone_less (x ∷ front) (omega arith) in
    let sum = length_standing (x ∷ front) in
    let f = front_of log (x ∷ front) bytes rest told are ends is (omega (arith, less, sum)) in
    let same : x ∷ front ≡ marked f.records = read_marked (x ∷ front) f.records marks (sym f.same) in
    let first : AreBased f.records = subst AreBased f.first (based_drop (length log - length f.records) log based) in
    let count : length (x ∷ front) ≡ length f.records = ap (λ (l : List Record). length l) same ∙ marked_length f.records first in
    let within = f.within in
    omega (arith, count, within)

same_head : (x r : Record) (front rest : List Record) → is_base r ≡ false → standing (x ∷ front) ≡ r ∷ rest → (x ≡ r) × (standing front ≡ rest)
same_head (Base many i) r front rest plain e = absurd (let is : Base many i ≡ r = cc in true≢false (ap is_base is ∙ plain))
same_head x r front rest plain e = (let is : x ≡ r = cc in is, let is : standing front ≡ rest = cc in is)

-- why going through the log stopped is why the store stays shut
pub stopped_shut : {L : Type 0} (g : Ghosts L) (z : Sizes) (older : List Record) (first : Images) (old new : L) (e : Refusal) → IsReadAs g old new older → IsStoppedBehind g z first e old new → MayBeShut (IsLeft z first older) z older e
stopped_shut g z older first old new e r s = elim s.why [
  | inl stops ↦ by e stops
  | inr (inl wanting) ↦ shut why.NoMemory wanting.0 tt
  | inr (inr (inl bad)) ↦ shut (why.Damaged (damage.Record (length s.front + 1))) bad.told (none_bad bad)
  | inr (inr (inr (inl lacks))) ↦ ⊎_elim (λ is. shut why.DiskRead is tt) (λ is. shut why.DiskWrite is tt) lacks.is
  | inr (inr (inr (inr none))) ↦ shut why.DiskWrite none.is tt
] where
  shut : (x : Refusal) → e ≡ x → MayBeShut (IsLeft z first older) z older x → MayBeShut (IsLeft z first older) z older e
  shut x is = subst (MayBeShut (IsLeft z first older) z older) (sym is)

  marks : IsMarked s.front
  marks = follow_marked s.front (repeated_read z s.front first s.mid s.repeated).1

  -- the next record belongs there
  none_bad : IsBadNext g z s.front s.mid e old new → IsLeft z first older → ⊥
  none_bad bad left =
      let q = bad.newest in
      let begins = bad.begins r.honest in
      let told : AreSpelled (q ∷ s.front) = subst AreAllSpelled (sym (standing_plain q s.front bad.plain)) (bad.is_record, s.are_spelled) in
      let some : 0 < length (standing (q ∷ s.front)) = (let e = ap (λ (l : List Record). length l) (standing_plain q s.front bad.plain) in omega (arith, e)) in
      next_bad (front_of older (q ∷ s.front) (g.seen old) begins.0 r.are_spelled told r.reads begins.1 some)
    where
      next_bad : IsFrontOf older (bad.newest ∷ s.front) → ⊥
      next_bad f = by f.records refl where
        by : (records : List Record) → f.records ≡ records → ⊥
        by [] none = (let e = ap (λ (l : List Record). length l) (ap standing (sym none) ∙ f.same ∙ standing_plain bad.newest s.front bad.plain) in omega (arith, e))
        by (x ∷ front) is =
            let stands : standing (x ∷ front) ≡ bad.newest ∷ standing s.front = ap standing (sym is) ∙ f.same ∙ standing_plain bad.newest s.front bad.plain in
            let head = same_head x bad.newest front (standing s.front) bad.plain stands in
            let rest : s.front ≡ marked front = read_marked s.front front marks (sym head.1) in
            let grows : oldest (length (bad.newest ∷ front)) older ≡ bad.newest ∷ front = subst (λ (l : List Record). oldest (length l) older ≡ l) (is ∙ ap (λ (y : Record). y ∷ front) head.0) f.first in
            let within : length (bad.newest ∷ front) ≤ length older = subst (λ (l : List Record). length l ≤ length older) (is ∙ ap (λ (y : Record). y ∷ front) head.0) f.within in
            let base : base_lsn front ≡ base_lsn older = sym (base_plain bad.newest front bad.plain) ∙ ap base_lsn (sym (is ∙ ap (λ (y : Record). y ∷ front) head.0)) ∙ f.base in
            let belongs = left_belongs z older front bad.newest first s.mid bad.plain grows within base left (subst (λ (l : List Record). Repeats z l first s.mid) rest s.repeated) in
            bad.bad (subst (λ (l : List Record). Belongs z l bad.newest s.mid) (sym rest) belongs)

  by : (x : Refusal) → StopsFor g x s.front old new → MayBeShut (IsLeft z first older) z older x
  by why.LogFull h = λ left.
      let more = h.1 r.honest in
      let most = front_within older s.front (g.seen old) more.0 r.are_spelled s.are_spelled r.reads more.2 marks left.whole.based in
      record { now = older; recovering = Undoing (undoing_none older); full = (let few = h.0 in omega (arith, most, few)) }
  by why.DiskRead h = tt
  by (why.Damaged (damage.Record lsn)) h = λ left. no_damage older s.front (g.seen old) r.are_spelled s.are_spelled r.reads (h.1 r.honest)
  by _ h = absurd h
