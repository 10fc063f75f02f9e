-- The pages of a store that was left as a crash may leave one are read, unless the device fails or memory is wanting.
use Rattle.std.proofs.Common.{◌≡◌, ℕ, List, sym, ◌∙◌, ap, subst, inl, inr, ⊎_elim}
use Rattle.rq_model.specs.declared.record.Record.{Record}
use Rattle.rq_model.specs.declared.refusal.Refusal.{Refusal}
use Rattle.rq_model.specs.declared.refusal.Refusal.TheVariants as why
use Rattle.rq_model.specs.declared.refusal.Damage.TheVariants as damage
use Rattle.rq_page.specs.Sizes.{Sizes}
use Rattle.rq_page.proofs.Formats.{told_sizes}
use Rattle.rq_disk.specs.declared.device.PageDevice.{Ghosts}
use Rattle.rq_pool.specs.Reading.{IsSuperblock, IsDamaged, StopsFor}
use Rattle.rq_store.specs.Opening.{IsLeft}
use Rattle.rq_restart.specs.Restarting.{IsLeftOn, Stops}
use Rattle.rq_restart.specs.RolledBack.{IsAtBound}
use Rattle.rq_restart.specs.Refused.{MayBeShut}
use Rattle.rq_restart.specs.Undoing.{FailsWith, Failures}

-- a superblock tells one size
pub one_size : (y z : Sizes) (image : List ℕ) → IsSuperblock y image → IsSuperblock z image → y ≡ z
one_size y z image h k =
    let a = told_sizes y image h.range h.formatted in
    let b = told_sizes z image k.range k.formatted in
    let d : y.directory ≡ z.directory = sym a.0 ∙ b.0 in
    let c : y.cells ≡ z.cells = sym a.1 ∙ b.1 in
    let t : y.tags ≡ z.tags = sym a.2 ∙ b.2 in
    ap (λ n. record { directory = n; cells = y.cells; tags = y.tags }) d ∙ ap (λ n. record { directory = z.directory; cells = n; tags = y.tags }) c
    ∙ ap (λ n. record { directory = z.directory; cells = z.cells; tags = n }) t

sound : (z : Sizes) (seen : ℕ → List ℕ) (older : List Record) (page : ℕ) → IsSuperblock z (seen 0) → IsLeft z seen older → IsDamaged seen page → ⊥
sound z seen older page block left (inl first) = first.1 z block
sound z seen older page block left (inr (y, bad)) =
    let e : z ≡ y = one_size z y (seen 0) block bad.superblock in
    let there : IsLeft y seen older = subst (λ x. IsLeft x seen older) e left in
    bad.bad (record { header = there.fits.headers page bad.low bad.high; slots = (there.fits.pages page bad.low bad.high).slots })

-- why the pages were not read is why the store stays shut
pub load_shut : {P : Type 0} (g : Ghosts P) (z : Sizes) (old new : P) (older : List Record) (e : Refusal) (log : ℕ) → IsSuperblock z (g.seen old 0) → StopsFor g e old new → Stops (IsLeftOn g z old new older) z older e (g.faults old) (g.faults new) log log
load_shut g z old new older why.NoMemory log block h = tt
load_shut g z old new older why.DiskRead log block h = inl h
load_shut g z old new older (why.Damaged (damage.Page page)) log block h = λ on. sound z (g.seen old) older page block on.left (h.0 on.honest)
load_shut g z old new older _ log block h = absurd h

pub shut_log : (left there : Type 0) (z y : Sizes) (older : List Record) → (left → there × (y ≡ z)) → (e : Refusal) {P : Type 0} (p : Ghosts P) (old new : P) (log : Failures) → FailsWith p old new e log → MayBeShut there y older e → Stops left z older e (p.faults old) (p.faults new) log.before log.now
shut_log left there z y older f why.NoMemory p old new log fails h = tt
shut_log left there z y older f why.DiskRead p old new log fails h = ⊎_elim (λ one. inl one.1.once) (λ one. inr one.1) fails
shut_log left there z y older f why.DiskWrite p old new log fails h = ⊎_elim (λ one. inl one.2.once) (λ one. inr one.1) fails
shut_log left there z y older f why.LogFull p old new log fails h = λ l. let k = f l in subst (λ x. IsAtBound x older) k.1 (h k.0)
shut_log left there z y older f (why.Damaged d) p old new log fails h = λ l. h (f l).0
shut_log left there z y older f _ p old new log fails h = absurd h
