-- Why an inspection stopped.
use Rattle.std.proofs.Common.{◌≡◌, ⊎_elim, inl, inr, refl, [], List, ℕ, ◌+◌, ◌%◌, ◌^◌, sym, ◌∙◌, ap, subst, Option}
use Rattle.std.specs.Io.KnownBytes.{Appends}
use Rattle.rq_model.specs.declared.record.Record.{Record}
use Rattle.rq_model.specs.declared.refusal.Refusal.{Refusal}
use Rattle.rq_model.specs.declared.refusal.Refusal.TheVariants as why
use Rattle.rq_model.specs.declared.refusal.Damage.TheVariants as damage
use Rattle.rq_disk.specs.declared.device.LogDevice.{Ghosts}
use Rattle.rq_log.specs.Reading.{BeginsWith, HasMoreBehind, IsDamagedBehind, StopsFor}
use Rattle.rq_model.specs.Bases.{IsMarked}
use Rattle.rq_log.specs.Spelled.{AreSpelled, EndsWith}
use Rattle.rq_log.proofs.Parsing.{no_damage}
use Rattle.rq_inspect.specs.declared.inspecting.Stop.{Stop}
use Rattle.rq_inspect.specs.declared.inspecting.Stop.TheVariants as stops
use Rattle.rq_inspect.specs.Inspections.{IsBegun, IsCutShort, IsListed, IsOverfull, IsStopped, IsUnprinted, IsUnread, IsUnreported, lines, listed_text}
use Rattle.rq_inspect.specs.Reports.{Reported}
use Rattle.rq_inspect.proofs.Written.{appends_nothing}

begun_weaker : (bytes : List ℕ) (W V : List ℕ → Type 0) → ((text : List ℕ) → W text → V text) → IsBegun bytes W → IsBegun bytes V
begun_weaker bytes W V f b = record {
  log = b.log;
  are_spelled = b.are_spelled;
  marked = b.marked;
  begins = b.begins;
  written = ⊎_elim (λ w. inl (f (lines b.log) w)) (λ w. inr (w.0, w.1, f (listed_text b.log w.0) w.2)) b.written;
}

-- nothing was read, and nothing written
pub nothing_begun : (bytes : List ℕ) (w : Option (List ℕ)) → IsBegun bytes (Appends w w)
nothing_begun bytes w = record { log = []; are_spelled = tt; marked = tt; begins = (bytes, refl); written = inl (appends_nothing w) }

-- all of a log was listed
listed_begun : (bytes : List ℕ) (old listed new : Option (List ℕ)) (report : Reported) → IsListed bytes old listed report → new ≡ listed → IsBegun bytes (Appends old new)
listed_begun bytes old listed new report l same = record {
  log = l.log;
  are_spelled = l.are_spelled;
  marked = l.marked;
  begins = (l.is.end, l.is.is);
  written = inr (l.left, l.is, subst (λ w. Appends old w (listed_text l.log l.left)) (sym same) l.written);
}

cut_weaker : (bytes : List ℕ) (W V : List ℕ → Type 0) (lsn : ℕ) → ((text : List ℕ) → W text → V text) → IsCutShort bytes W lsn → IsCutShort bytes V lsn
cut_weaker bytes W V lsn f b = record { log = b.log; are_spelled = b.are_spelled; marked = b.marked; next = b.next; damaged = b.damaged; written = f (lines b.log) b.written }

module _ {L : Type 0} (g : Ghosts L) where
  -- what was written is written otherwise
  pub stopped_weaker : (stop : Stop) (log back : L) (W V : List ℕ → Type 0) → ((text : List ℕ) → W text → V text) → IsStopped g stop log back W → IsStopped g stop log back V
  stopped_weaker (stops.Refused why.NoMemory) log back W V f s = (s.0, λ h. begun_weaker (g.seen log) W V f (s.1 h))
  stopped_weaker (stops.Refused why.DiskRead) log back W V f s = (s.0, λ h. begun_weaker (g.seen log) W V f (s.1 h))
  stopped_weaker (stops.Refused why.LogFull) log back W V f s = (s.0, λ h. (begun_weaker (g.seen log) W V f (s.1 h).0, (s.1 h).1))
  stopped_weaker (stops.Refused (why.Damaged (damage.Record lsn))) log back W V f s = (s.0, λ h. cut_weaker (g.seen log) W V lsn f (s.1 h))
  stopped_weaker (stops.Refused _) log back W V f s = absurd s
  stopped_weaker (stops.Output e) log back W V f s = tt

  -- it could not be read on behind these records
  pub stopped_reading : (e : Refusal) (records : List Record) (first old new : L) (W : List ℕ → Type 0) → AreSpelled records → IsMarked records → g.faults old ≡ g.faults first → g.seen old ≡ g.seen first
      → (g.honest new → BeginsWith records (g.seen first)) → W (lines records) → StopsFor g e records old new → IsStopped g (stops.Refused e) first new W
  stopped_reading why.LogFull records first old new W are marked count same begins written s = (
    s.2 ∙ count,
    λ h. (
      record { log = records; are_spelled = are; marked = marked; begins = begins h; written = inl written },
      record { log = records; are_spelled = are; marked = marked; full = s.0; more = subst (HasMoreBehind records) same (s.1 h) },
    ),
  )
  stopped_reading why.DiskRead records first old new W are marked count same begins written s =
      (s ∙ ap (λ n. (n + 1) % 2 ^ 64) count, λ h. record { log = records; are_spelled = are; marked = marked; begins = begins h; written = inl written })
  stopped_reading (why.Damaged (damage.Record lsn)) records first old new W are marked count same begins written s =
      (s.2 ∙ count, λ h. record { log = records; are_spelled = are; marked = marked; next = s.0; damaged = subst (IsDamagedBehind records) same (s.1 h); written = written })
  stopped_reading _ records first old new W are marked count same begins written s = absurd s

  -- a log that was read whole is not damaged when it is read again
  pub unread : (e : Refusal) (records : List Record) (first old new : L) → AreSpelled records → IsMarked records → g.faults old ≡ g.faults first → g.seen old ≡ g.seen first → StopsFor g e records old new → IsUnread g e first new
  unread why.LogFull records first old new are marked count same s =
      (s.2 ∙ count, λ h. record { log = records; are_spelled = are; marked = marked; full = s.0; more = subst (HasMoreBehind records) same (s.1 h) })
  unread why.DiskRead records first old new are marked count same s = s ∙ ap (λ n. (n + 1) % 2 ^ 64) count
  unread (why.Damaged (damage.Record lsn)) records first old new are marked count same s =
      (s.2 ∙ count, λ h older are_older is. no_damage older records (g.seen first) are_older are is (subst (IsDamagedBehind records) same (s.1 h)))
  unread _ records first old new are marked count same s = absurd s

  pub unprinted : (stop : Stop) (log back : L) (old new : Option (List ℕ)) → g.faults back ≡ g.faults log → IsUnprinted stop old new → IsUnreported g stop log back old new
  unprinted (stops.Refused e) log back old new count s = (subst (λ r. IsUnread g r log back) (sym s.0) count, s.1)
  unprinted (stops.Output e) log back old new count s = tt

  -- a log that was listed was not reported
  pub listed_stopped : (stop : Stop) (log mid back : L) (old listed new : Option (List ℕ)) (report : Reported) → g.faults mid ≡ g.faults log → g.seen mid ≡ g.seen log
      → (g.honest back → IsListed (g.seen log) old listed report) → IsUnreported g stop mid back listed new → IsStopped g stop log back (Appends old new)
  listed_stopped (stops.Refused why.NoMemory) log mid back old listed new report count same list s =
      (s.0 ∙ count, λ h. let l = list h in listed_begun (g.seen log) old listed new report l s.1)
  listed_stopped (stops.Refused why.DiskRead) log mid back old listed new report count same list s =
      (s.0 ∙ ap (λ n. (n + 1) % 2 ^ 64) count, λ h. let l = list h in listed_begun (g.seen log) old listed new report l s.1)
  listed_stopped (stops.Refused why.LogFull) log mid back old listed new report count same list s =
      (s.0.0 ∙ count, λ h. (let l = list h in listed_begun (g.seen log) old listed new report l s.1, subst IsOverfull same (s.0.1 h)))
  listed_stopped (stops.Refused (why.Damaged (damage.Record lsn))) log mid back old listed new report count same list s =
      (s.0.0 ∙ count, λ h. let l = list h in absurd (s.0.1 h l.log l.are_spelled (subst (EndsWith l.log) (sym same) (l.is.end, l.is.short, l.is.is))))
  listed_stopped (stops.Refused _) log mid back old listed new report count same list s = absurd s.0
  listed_stopped (stops.Output e) log mid back old listed new report count same list s = tt
