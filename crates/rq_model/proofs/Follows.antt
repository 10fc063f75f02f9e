-- What a legal entry of a history is by the ledger alone, and when a migration is yet to be told.
use Rattle.std.proofs.Common.{◌≡◌, ℕ, ◌≤◌, Bool, true, false, List, [], ◌∷◌, None, refl, sym, subst, arith}
use Rattle.std.proofs.lemmas.Bool.{true≢false}
use Rattle.rq_model.specs.declared.refusal.Refusal.TheVariants.{DiskWrite}
use Rattle.rq_model.specs.History.{Entry}
use Rattle.rq_model.specs.History.Entry.{Crash, Grew, Migrated, Refused, Restarted}
use Rattle.rq_model.specs.Growth.{Growth, IsGrownBy, growth, growth_by, records_grown}
use Rattle.rq_model.specs.Growth.Growth.{Grows, Stays}
use Rattle.rq_model.specs.Ledger.{Ledger, Phase, after, ledger}
use Rattle.rq_model.specs.Ledger.Phase.{Stopped, Shut}
use Rattle.rq_model.specs.Legal.{IsLegal, Legal, MayFollow}
use Rattle.rq_model.specs.Tests.{Size, size_at}

-- a migration that came through loses no record
pub none_lost : (g : Growth) (l : Ledger) → l.records ≤ records_grown g l
none_lost (Grows pages) l = omega arith
none_lost _ l = omega arith

pub legal_there : (z : Size) (h : List Entry) (e : Entry) → MayFollow z h e → Legal (size_at z h) (ledger h) e
legal_there z h (Grew pages records) a = (a.0, subst (λ (n : ℕ). (ledger h).records ≤ n) (sym a.2) (none_lost (growth h) (ledger h)))
legal_there z h (Crash kept records) a = a.0
legal_there z h _ a = a

-- no call stands for a crash or a restart
abbrev pub is_break : Entry → Bool
is_break (Grew pages records) = true
is_break (Crash kept records) = true
is_break (Restarted i records) = true
is_break e = false

-- what a call answered asks no more
pub follows : (z : Size) (h : List Entry) (e : Entry) → is_break e ≡ false → Legal (size_at z h) (ledger h) e → MayFollow z h e
follows z h (Grew pages records) b a = absurd (true≢false b)
follows z h (Crash kept records) b a = absurd (true≢false b)
follows z h _ b a = a

-- only a store that has stopped has a migration that is not told
abbrev pub IsToldIn : Phase → Growth → Type 0
IsToldIn Stopped g = Unit {0}
IsToldIn _ g = g ≡ Stays

told_after : (z : Size) (l : Ledger) (e : Entry) (g : Growth) → Legal z l e → IsToldIn l.phase g → IsToldIn (after e l).phase (growth_by e g)
told_after z l (Migrated pages lsn) g a t = tt
told_after z l (Grew pages records) g a t = refl
told_after z l (Crash kept records) g a t = refl
told_after z l (Restarted i records) g a t = subst (λ p. IsToldIn p g) a.shut t
told_after z l (Refused c DiskWrite) g a t = tt
told_after z l (Refused c r) g a t = t
told_after z l _ g a t = t

pub told : (z : Size) (h : List Entry) → IsLegal z h → IsToldIn (ledger h).phase (growth h)
told z [] a = refl
told z (e ∷ h) a = told_after (size_at z h) (ledger h) e (growth h) (legal_there z h e a.0) (told z h a.1)

pub shut_told : (z : Size) (h : List Entry) → IsLegal z h → (ledger h).phase ≡ Shut → growth h ≡ Stays
shut_told z h a is = subst (λ p. IsToldIn p (growth h)) is (told z h a)

pub none_told : (g : Growth) → g ≡ Stays → IsGrownBy g None
none_told g is = subst (λ (x : Growth). IsGrownBy x None) (sym is) tt
