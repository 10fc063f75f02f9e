-- What a crash at any moment of a restart leaves of the log.
use Rattle.std.proofs.Common.{inl, inr, ◌⊎◌, ⊎_elim, ◌≡◌, ℕ, ◌+◌, ◌-◌, List, ◌∷◌, refl, subst, [], ap, sym}
use Rattle.rq_model.specs.declared.record.Record.{Record}
use Rattle.rq_model.specs.declared.record.Record.TheVariants as records
use Rattle.rq_analysis.specs.OpenWorkView.{OpenWorkView, open_work_of}
use Rattle.rq_disk.specs.declared.device.LogDevice.{Ghosts}
use Rattle.rq_log.specs.Crash.{LeavesOnly}
use Rattle.rq_log.specs.Logged.{Logged, WasLeftOrGoesOn}
use Rattle.rq_log.specs.Spelled.{AreSpelled, EndsWith, GoesOn}
use Rattle.rq_log.proofs.Moments.{weaker, joined}
use Rattle.rq_store.specs.Opening.{next_restart}
use Rattle.rq_log.specs.Reading.{IsRead}
use Rattle.rq_model.specs.declared.refusal.Refusal.{Refusal}
use Rattle.rq_model.specs.declared.refusal.Refusal.TheVariants as why
use Rattle.rq_restart.specs.Refused.{IsStoppedBehind}
use Rattle.rq_restart.specs.Repeating.{Repeats}
use Rattle.rq_restart.specs.Restarting.{IsBegunBehind, IsBegunOn, IsLogRead, LeavesLog, WasLeftOrBegun, WasLeftOrForced, BeginsAtMost}
use Rattle.rq_disk.specs.Device.{Images}
use Rattle.rq_page.specs.Sizes.{Sizes}
use Rattle.rq_analysis.specs.Recovered.{IsRecovered}
use Rattle.rq_restart.specs.RolledBack.{IsRolledBack, IsRolledBackSince}
use Rattle.rq_model.specs.Bases.{IsMarked, gone, standing}
use Rattle.rq_engine.specs.Earlier.{rebased}
use Rattle.rq_restart.specs.Past.{WhereLeft}
use Rattle.rq_restart.proofs.Begun.{begun_behind, last_is}
use Rattle.rq_restart.proofs.Undos.{still}

-- memory was wanting before anything was read
pub stopped_at_once : {L : Type 0} (g : Ghosts L) (only_now : (d : L) (c : List ℕ) → g.left_since d (g.moment d) c → g.may_leave d c) (z : Sizes) (first : Images) (e : Refusal) (old new : L) → e ≡ why.NoMemory → new ≡ old → IsStoppedBehind g z first e old new
stopped_at_once g only_now z first e old new is same = record {
  front = [];
  are_spelled = tt;
  begins = λ h. (g.seen old, refl);
  mid = first;
  repeated = refl;
  why = inr (inl (is, ap g.faults same, inl (refl, same)));
  read = subst (λ d. IsRead g old d) (sym same) (still g only_now old);
}

-- the device of the log was only read
pub left_alone : {L : Type 0} (g : Ghosts L) (z : Sizes) (pages : Images) (old new : Logged L) → IsRead g old.device new.device → LeavesLog g z pages old new
left_alone g z pages old new read = record {
  honest = read.honest;
  any_moment = λ first before h are reads. weaker g old.device new.device (g.may_leave old.device) (WasLeftOrBegun g z first old.device old.records) read.moments (λ c left. inl left);
}

-- records are forced behind what was read
pub forced_behind : {L : Type 0} (g : Ghosts L) (old new : L) (log : Logged L) (kept : ℕ) (records : List Record) → log.device ≡ old → log.records ≡ records → log.forced ≡ kept → AreSpelled records → LeavesOnly g log.device new (WasLeftOrGoesOn g log) → LeavesOnly g old new (WasLeftOrForced g old records kept)
forced_behind g old new log kept records same grown forced are run =
    weaker g old new (λ c. g.may_leave old c ⊎ GoesOn (standing records) (kept - gone records) (g.seen old) c) (WasLeftOrForced g old records kept) there
    (λ c. ⊎_elim (λ was. inl was) (λ on. inr (are, on))) where
      there : LeavesOnly g old new (λ c. g.may_leave old c ⊎ GoesOn (standing records) (kept - gone records) (g.seen old) c)
      there = subst (λ n. LeavesOnly g old new (λ c. g.may_leave old c ⊎ GoesOn (standing records) (n - gone records) (g.seen old) c)) forced
          (subst (λ rs. LeavesOnly g old new (λ c. g.may_leave old c ⊎ GoesOn (standing rs) (log.forced - gone rs) (g.seen old) c)) grown (subst (λ d. LeavesOnly g d new (λ c. g.may_leave d c ⊎ GoesOn (standing log.records) (log.forced - gone log.records) (g.seen d) c)) same run))

-- they undo what has no end, and begin the next incarnation
pub begun_moment : {L : Type 0} (g : Ghosts L) (z : Sizes) (images : Images) (older rolled_back : List Record) (r : Record) (kept : ℕ) (old mid new : L) → IsRead g old mid → IsRolledBack older rolled_back → WhereLeft z images older (λ e. IsRecovered z (rebased e older) (rebased e rolled_back)) → r ≡ next_restart rolled_back
    → AreSpelled older → EndsWith older (g.seen old) → LeavesOnly g mid new (WasLeftOrForced g mid (r ∷ rolled_back) kept) → LeavesOnly g old new (WasLeftOrBegun g z images old older)
begun_moment g z images older rolled_back r kept old mid new only m recovered is are read run =
    joined g old mid new (WasLeftOrBegun g z images old older) (weaker g old mid (g.may_leave old) (WasLeftOrBegun g z images old older) only.moments (λ c was. inl was))
    (weaker g mid new (WasLeftOrForced g mid (r ∷ rolled_back) kept) (WasLeftOrBegun g z images old older) run
    (λ c. ⊎_elim (λ was. inl (only.leaves c was)) (λ on. inr (begun_behind z images older rolled_back r kept (g.seen old) c m recovered is are read on.0 (subst (λ seen. GoesOn (standing (r ∷ rolled_back)) (kept - gone (r ∷ rolled_back)) seen c) only.same on.1)))))

-- so it is of the log that was gone through, whether it was begun or not
pub begun_left : {L : Type 0} (g : Ghosts L) (z : Sizes) (pages last : Images) (old mid new : Logged L) → IsRead g old.device mid.device → (g.honest mid.device → IsRolledBackSince z old.records mid.records pages last) → (h : OpenWorkView) (count : ℕ) → h ≡ open_work_of mid.records → count ≡ h.incarnation
    → (g.honest new.device → g.honest mid.device) → (g.honest new.device → LeavesOnly g mid.device new.device (WasLeftOrForced g mid.device (records.Restart (count + 1) ∷ mid.records) mid.forced)) → LeavesLog g z pages old new
begun_left g z pages last old mid new only since h count noted is honest run = record {
  honest = λ h. only.honest (honest h);
  any_moment = λ first before k are read.
      let m = since (honest k) in
      begun_moment g z first old.records mid.records (records.Restart (count + 1)) mid.forced old.device mid.device new.device only m.is (m.recovered first before) (ap (λ n. records.Restart (n + 1)) (last_is mid.records h noted count is)) are read (run k);
}

-- beside these pages
module _ {L : Type 0} (g : Ghosts L) (z : Sizes) (images : Images) where
  -- the log was only read
  pub only_read : (old new : L) → LeavesOnly g old new (g.may_leave old) → BeginsAtMost g z images old new
  only_read old new run h = weaker g old new (g.may_leave old) (λ c. g.may_leave old c ⊎ IsBegunOn z images (g.seen old) c) run (λ c was. inl was)

  -- it was read whole, and then gone on with
  pub read_first : (old mid new : L) (older : List Record) → IsMarked older → (g.honest new → g.honest mid) → (g.honest mid → EndsWith older (g.seen old)) → AreSpelled older → g.seen mid ≡ g.seen old
      → ((c : List ℕ) → g.may_leave mid c → g.may_leave old c) → LeavesOnly g old mid (g.may_leave old)
      → (g.honest new → AreSpelled older → EndsWith older (g.seen mid) → LeavesOnly g mid new (WasLeftOrBegun g z images mid older)) → BeginsAtMost g z images old new
  read_first old mid new older marks falls reads are same crash run rest h =
      let read = reads (falls h) in
      joined g old mid new (λ c. g.may_leave old c ⊎ IsBegunOn z images (g.seen old) c)
      (weaker g old mid (g.may_leave old) (λ c. g.may_leave old c ⊎ IsBegunOn z images (g.seen old) c) run (λ c was. inl was))
      (weaker g mid new (WasLeftOrBegun g z images mid older) (λ c. g.may_leave old c ⊎ IsBegunOn z images (g.seen old) c) (rest h are (subst (EndsWith older) (sym same) read))
      (λ c. ⊎_elim (λ was. inl (crash c was)) (λ is. inr (record { older = older; reads = read; marks = marks; begun = subst (λ seen. IsBegunBehind z images older seen c) same is }))))

-- the log was read whole beside pages that were first so, and then gone on with
pub begins_at_most : {L : Type 0} (g : Ghosts L) (z y : Sizes) (first mid : Images) (old : L) (read new : Logged L) → y ≡ z → IsLogRead g old read → (g.honest read.device → Repeats y read.records first mid) → LeavesLog g y mid read new → BeginsAtMost g z first old new.device
begins_at_most g z y first mid old read new same was repeated left =
    let there : LeavesLog g z mid read new = subst (λ x. LeavesLog g x mid read new) same left in
    read_first g z first old read.device new.device read.records was.marks there.honest was.reads was.are_spelled was.only.same was.only.leaves was.only.moments (λ h are reads. there.any_moment first (subst (λ x. Repeats x read.records first mid) same (repeated (there.honest h))) h are reads)
