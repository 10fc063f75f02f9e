-- What a restart makes of a store that was left as a crash may leave one.
use Rattle.std.proofs.Common.{◌≡◌, ◌≢◌, refl, ℕ, ◌<◌, ◌≤◌, List, length, sym, ◌∙◌, ap, subst, inl, inr, ◌⊎◌, ⊎_elim, arith}
use Rattle.rq_disk.specs.Device.{Images}
use Rattle.rq_model.specs.declared.record.Record.{Record}
use Rattle.rq_model.specs.declared.refusal.Refusal.{Refusal}
use Rattle.rq_model.specs.declared.refusal.Refusal.TheVariants as why
use Rattle.rq_model.specs.declared.refusal.Damage.TheVariants as damage
use Rattle.rq_page.specs.Sizes.{Sizes, page_count}
use Rattle.rq_page.specs.Formatted.{IsFormatted, IsHeaderOf}
use Rattle.rq_disk.specs.declared.device.PageDevice.{Ghosts}
use Rattle.rq_disk.specs.declared.device.LogDevice as log_device
use Rattle.rq_log.specs.Spelled.{AreSpelled}
use Rattle.rq_pool.specs.Pooled.{Pooled}
use Rattle.rq_pool.specs.Reading.{IsSuperblock, ArePages, AreSeen}
use Rattle.rq_log.specs.Logged.{Logged}
use Rattle.rq_groups.specs.Sent.{SentBy}
use Rattle.rq_level.specs.LevelState.{LevelState}
use Rattle.rq_restart.specs.declared.restart.Report.{Report}
use Rattle.rq_store.specs.Opening.{IsCounted, IsLeft}
use Rattle.rq_store.specs.Fitting.{FitsPage, HoldsBase, image_in}
use Rattle.rq_store.proofs.Bounds.{fits_counted}
use Rattle.rq_log.proofs.Moments.{weaker}
use Rattle.rq_restart.specs.Restarting.{AreTold, BeginsAtMost, BeginsFrom, IsBegunFrom, IsBegunOn, OpensLog, WasChecked, WereRead}
use Rattle.rq_restart.specs.Refused.{BeginsNot, MayBeShut, WhyShut}
use Rattle.rq_pool.specs.declared.ahead.Ahead.{Ahead}
use Rattle.rq_restart.specs.Numbers.{AreNumbersOf, NamesFirst}
use Rattle.rq_restart.specs.Checked.{IsReadAndRedone, WasReadAndRedone}
use Rattle.rq_restart.specs.RolledBack.{RollbackStops}
use Rattle.rq_restart.specs.Undoing.{FailsWith, Failures, HaveToldTruly, SameFailures, failures}
use Rattle.rq_restart.specs.Repeating.{ArePagesCounted, paged, Repeats}
use Rattle.rq_engine.specs.Earlier.{rebased}
use Rattle.rq_model.specs.Bases.{IsMarked, earlier, marked}
use Rattle.rq_restart.specs.Aborting.{RepeatedFrom}
use Rattle.rq_restart.specs.Past.{IsPast}
use Rattle.rq_restart.proofs.Begun.{no_bad_undo}
use Rattle.rq_restart.proofs.Repeated.{follow_marked, repeated_counted, repeated_read}
use Rattle.rq_restart.proofs.Pasts.{aborting_added, added_join, earlier_back, length_on, past_of, undoing_added}

-- a refusal that begins no incarnation, or names a page, tells whether a device failed
pub begins_fails : {P : Type 0} (p : Ghosts P) (a b : P) (e : Refusal) (records last before now : ℕ) (untouched : Type 0) → (untouched → now ≡ before) → SameFailures (failures p.faults a b) → BeginsNot e records last before now untouched → FailsWith p a b e (record { before = before; now = now })
begins_fails p x y why.NoMemory records last before now untouched f same b = (same, b.0)
begins_fails p x y why.LogFull records last before now untouched f same b = (same, f b.1)
begins_fails p x y why.DiskWrite records last before now untouched f same b = inr (same, b)
begins_fails p x y _ records last before now untouched f same b = absurd b

pub begins_untouched : (e : Refusal) (records last before now : ℕ) (untouched : Type 0) → e ≢ why.DiskWrite → BeginsNot e records last before now untouched → untouched
begins_untouched why.NoMemory records last before now untouched other b = b.1
begins_untouched why.LogFull records last before now untouched other b = b.1
begins_untouched why.DiskWrite records last before now untouched other b = absurd (other refl)
begins_untouched _ records last before now untouched other b = absurd b

pub damage_fails : {P : Type 0} (p : Ghosts P) (old new : P) (page : ℕ) (e : Refusal) (log : Failures) → e ≡ why.Damaged (damage.Page page) → SameFailures (failures p.faults old new) → SameFailures log → FailsWith p old new e log
damage_fails p old new page e log is a b = subst (λ r. FailsWith p old new r log) (sym is) (a, b)

-- the tables are those over more records, too
pub told_longer : (z : Sizes) (images : List (List ℕ)) (count more : ℕ) (waiting : List ℕ) (sent : SentBy) → count ≤ more → AreTold z images count waiting sent → AreTold z images more waiting sent
told_longer z images count more waiting sent le t = record {
  told = t.told;
  senders = t.senders;
  few = λ g. (let few = t.few g in omega (arith, few, le));
  told_sent = t.told_sent;
  counts = t.counts;
  tags = t.tags;
  few_sent = λ g. (let few = t.few_sent g in omega (arith, few, le));
}

-- what was checked, of a store that was read
module _ {P L : Type 0} (p : Ghosts P) (l : log_device.Ghosts L) (pages : P) (log : L) (loaded : Pooled P) (sound : ArePages loaded.sizes loaded.images) (seen : p.honest loaded.device → AreSeen (p.seen pages) loaded.images (page_count loaded.sizes)) where
  pub were_read : (new_pages : P) → (p.honest new_pages → p.honest loaded.device) → WereRead p l pages log new_pages loaded.sizes loaded.images
  were_read new_pages honest = record { sound = sound; seen = λ h. seen (honest h) }

  pub was_checked : (now : Pooled P) (new : Logged L) (cells : ℕ) (waiting : List ℕ) (sent : SentBy) (planner : List LevelState) (report : Report) → OpensLog p l loaded now log new cells waiting sent planner report → HaveToldTruly p l loaded now new.device → WasChecked p l pages log now.sizes (paged now) new.records now.device new.device
  was_checked now new cells waiting sent planner report o told =
      let repeated = o.repeated told in
      let n = o.restarted.ready.count in
      let e = ap length repeated.begun in
      subst (λ z. WasChecked p l pages log z (paged now) new.records now.device new.device) (sym o.continues.sizes) (record {
        images = loaded.images;
        sound = sound;
        seen = λ h. seen (o.continues.pages_honest h);
        older = o.read.records;
        marks = o.was_read.marks;
        are_spelled = o.was_read.are_spelled;
        reads = λ h. o.was_read.reads (o.honest h);
        rolled_back = repeated.rolled_back;
        rolled_back_on = repeated.rolled_back_on;
        begun = repeated.begun;
        room = omega (arith, n, e);
      })

  -- what a crash leaves of the log, beside the pages that were read
  pub begins_from : (new_pages : P) (new_log : L) → (p.honest new_pages → p.honest loaded.device) → BeginsAtMost l loaded.sizes (image_in loaded.images) log new_log → BeginsFrom p l pages log new_pages new_log
  begins_from new_pages new_log honest begins h =
      weaker l log new_log (λ c. l.may_leave log c ⊎ IsBegunOn loaded.sizes (image_in loaded.images) (l.seen log) c) (λ c. l.may_leave log c ⊎ IsBegunFrom p l pages log new_pages c) (begins h)
      (λ c. ⊎_elim (λ was. inl was) (λ on. inr (record {
        sizes = loaded.sizes;
        images = loaded.images;
        were = were_read new_pages honest;
        begun = on;
      })))

-- the numbers of pages that were left so are within the log
counted_left : (z : Sizes) (image : ℕ → List ℕ) (older : List Record) (p : ℕ) → IsLeft z image older → 1 ≤ p → p < page_count z → IsCounted z (length older) p (image p)
counted_left z image older p left low high = fits_counted z older p (image p) left.whole.legal (left.fits.pages p low high)

-- the first page with a number beyond the log, once history is repeated
pub beyond_shut : (z : Sizes) (older : List Record) (first last : Images) (e : Refusal) → Repeats z older first last → NamesFirst z (length older) first e → WhyShut z older first e
beyond_shut z older first last (why.Damaged (damage.Page page)) repeated h = inl (record { last = last; repeated = repeated; beyond = h })
beyond_shut z older first last _ repeated h = absurd h

-- why a store stays shut tells why it may
pub shut_left : (z : Sizes) (log : List Record) (first : Images) (why : Refusal) (e : List Record) → IsPast e log → WhyShut z log first why → MayBeShut (IsLeft z first (rebased e log)) z (rebased e log) why
shut_left z log first why.NoMemory e past h = tt
shut_left z log first why.LogFull e past h = λ left.
    let room = h.0 in
    let undone = undoing_added e log room.undone room.undoing in
    let added = added_join e log room.undone room.now undone (aborting_added e z (RepeatedFrom z first) room.undone room.now room.aborting) in
    let long = length_on e room.now (added.past past) (added.based left.whole.based) in
    let full = room.full in
    record { now = rebased e room.now; recovering = room.recovering e past left; full = omega (arith, long, full) }
shut_left z log first why.DiskRead e past h = tt
shut_left z log first why.DiskWrite e past h = tt
shut_left z log first (why.Damaged (damage.Record lsn)) e past h = λ left. elim h.0 [
  | inl undo ↦ no_bad_undo z log first lsn undo e past left
  | inr rollback ↦ rollback.none e past left
]
shut_left z log first (why.Damaged (damage.Page page)) e past h = λ left. elim h [
  | inl beyond ↦ beyond.beyond.bad (subst (λ (n : ℕ). IsCounted z n page (first page)) (length_on e log past left.whole.based) (counted_left z first (rebased e log) page left beyond.beyond.low beyond.beyond.high))
  | inr unlinked ↦ unlinked.0.none e past left
]
shut_left z log first _ e past h = absurd h

-- it was gone through, and no number of the pages is beyond it
pub gone_through : (z : Sizes) (log : List Record) (first last : Images) (n : ℕ) (ahead : List Ahead) → n ≡ length log
    → ((older : List Record) (images : Images) → n ≡ length older → Repeats z older images last → AreNumbersOf z images ahead → ArePagesCounted z (length older) images)
    → Repeats z log first last → AreNumbersOf z first ahead → IsReadAndRedone z log first last
gone_through z log first last n ahead e counted before k =
    let read : ArePagesCounted z (length log) first = counted log first e before k in
    record { repeated = before; counted_read = read; counted = repeated_counted z (length log) log first last before (omega arith) read }

-- why what had no end was not undone, or was and left chains that are not whole
pub rollback_shut : (z : Sizes) (log : List Record) (first : Images) (e : Refusal) → WasReadAndRedone z log first → RollbackStops z log first e → WhyShut z log first e
rollback_shut z log first why.NoMemory was s = tt
rollback_shut z log first why.DiskRead was s = was
rollback_shut z log first why.DiskWrite was s = was
rollback_shut z log first why.LogFull was s = (s, was)
rollback_shut z log first (why.Damaged (damage.Record lsn)) was s = (s, was)
rollback_shut z log first (why.Damaged (damage.Page page)) was s = inr (s, was)
rollback_shut z log first _ was s = absurd s

-- memory was wanting, or a page was not read
pub slots_shut : (z : Sizes) (log : List Record) (first : Images) (e : Refusal) → WasReadAndRedone z log first → (e ≡ why.NoMemory) ⊎ (e ≡ why.DiskRead) → WhyShut z log first e
slots_shut z log first e was = ⊎_elim (λ is. subst (WhyShut z log first) (sym is) tt) (λ is. subst (WhyShut z log first) (sym is) was)

-- so it is of any log that reads so
pub shut_over : (z : Sizes) (log older : List Record) (first : Images) (e : Refusal) → (IsMarked log → log ≡ marked older) → AreSpelled older → WhyShut z log first e → MayBeShut (IsLeft z first older) z older e
shut_over z log older first e is told h = each e h where
  marks : (last : Images) → Repeats z log first last → log ≡ marked older
  marks last repeated = is (follow_marked log (repeated_read z log first last repeated).1)

  over : (e : Refusal) → log ≡ marked older → WhyShut z log first e → MayBeShut (IsLeft z first older) z older e
  over e same h =
      let x : List Record = earlier older in
      subst (λ (l : List Record). MayBeShut (IsLeft z first l) z l e) (ap (rebased x) same ∙ earlier_back older told)
      (shut_left z log first e x (subst (IsPast x) (sym same) (past_of older told)) h)

  each : (e : Refusal) → WhyShut z log first e → MayBeShut (IsLeft z first older) z older e
  each why.NoMemory h = tt
  each why.DiskRead h = tt
  each why.DiskWrite h = tt
  each why.LogFull h = over why.LogFull (marks h.1.0 h.1.1.repeated) h
  each (why.Damaged (damage.Record lsn)) h = over (why.Damaged (damage.Record lsn)) (marks h.1.0 h.1.1.repeated) h
  each (why.Damaged (damage.Page page)) h = over (why.Damaged (damage.Page page)) (elim h [ inl beyond ↦ marks beyond.last beyond.repeated | inr unlinked ↦ marks unlinked.1.0 unlinked.1.1.repeated ]) h
  each _ h = absurd h

-- what was left on a device was left in the pages that are read of it
pub left_read : (z : Sizes) (seen : ℕ → List ℕ) (images : List (List ℕ)) (older : List Record) → AreSeen seen images (page_count z) → IsLeft z seen older → IsLeft z (image_in images) older
left_read z seen images older read left = record {
  whole = left.whole;
  fits = record {
    superblock = subst (λ b. IsFormatted z 0 b) (sym (read 0 (omega arith))) left.fits.superblock;
    headers = λ p low high. subst (λ b. IsHeaderOf z p b) (sym (read p high)) (left.fits.headers p low high);
    pages = λ p low high. subst (λ b. FitsPage z older p b) (sym (read p high)) (left.fits.pages p low high);
  };
  based = λ p low high. subst (λ b. HoldsBase z older p b) (sym (read p high)) (left.based p low high);
}

-- the sizes are those that the superblock told
pub told_on : (z : Sizes) (seen : ℕ → List ℕ) (images : List (List ℕ)) → ArePages z images → AreSeen seen images (page_count z) → IsSuperblock z (seen 0)
told_on z seen images are read = subst (λ b. IsSuperblock z b) (read 0 (omega arith)) are.superblock
