-- What a restart leaves that goes on behind calls that read a log and repeat it.
use Rattle.std.proofs.Common.{◌≡◌, ◌≢◌, ⊎_elim, ℕ, ◌+◌, ◌++◌, List, [], drop, length, Err, inl, inr, refl, sym, ◌∙◌, ap, subst, arith}
use Rattle.std.specs.Prelude.{Result}
use Rattle.std.proofs.lemmas.List.{append_assoc}
use Rattle.std.proofs.Math.Seq.{drop-append-add}
use Rattle.rq_model.specs.declared.record.Record.{Record}
use Rattle.rq_model.specs.declared.refusal.Refusal.{Refusal}
use Rattle.rq_model.specs.declared.refusal.Refusal.TheVariants as why
use Rattle.rq_disk.specs.Device.{Images}
use Rattle.rq_disk.specs.declared.device.LogDevice as log_device
use Rattle.rq_disk.specs.declared.device.PageDevice as page_device
use Rattle.rq_log.specs.Logged.{Logged}
use Rattle.rq_log.specs.Reading.{BeginsWith, IsRead}
use Rattle.rq_log.proofs.Keeping.{read_twice}
use Rattle.rq_page.specs.Sizes.{Sizes}
use Rattle.rq_pool.specs.Fetching.{AreAllFramed}
use Rattle.rq_pool.specs.Pooled.{Pooled}
use Rattle.rq_restart.specs.Leaving.{LeavesRepeated, LeavesSound, WasLeftOrRepeated}
use Rattle.rq_restart.specs.Repeating.{Repeats, paged}
use Rattle.rq_pool.specs.declared.ahead.Ahead.{Ahead}
use Rattle.rq_restart.specs.Numbers.{AreNumbersOf}
use Rattle.rq_restart.specs.Refused.{IsStoppedBehind, WhyShut}
use Rattle.rq_restart.specs.Restarting.{BeginsAtMost, Continues, IsLogRead, LeavesLog, RefusesLog}
use Rattle.rq_restart.specs.RolledBack.{HasRepeated}
use Rattle.rq_restart.specs.Undoing.{FailsWith, GoesOn, HaveBeenHonest, HaveToldTruly, IsRepeatedOn, NoneFailed, failures}
use Rattle.rq_restart.proofs.GoingOn.{no_shorter, pages_since}
use Rattle.rq_restart.proofs.Marking.{marked_longer, marked_twice}
use Rattle.rq_restart.specs.Telling.{GoesOnTelling}
use Rattle.rq_restart.proofs.Moments.{begins_at_most, only_read}
use Rattle.rq_restart.proofs.Sounding.{sound_then}
use Rattle.rq_restart.proofs.Telling.{tells_read, tells_then}

-- some records more are behind
module _ {P : Type 0} (p : page_device.Ghosts P) (z : Sizes) (first : Images) (records now behind : List Record) (more : now ≡ behind ++ records) where
  longer : (a : P) (page : ℕ) (bytes : List ℕ) → WasLeftOrRepeated p z first records a page bytes → WasLeftOrRepeated p z first now a page bytes
  longer a page bytes = ⊎_elim (λ was. inl was) (λ r. inr (record {
    lacks = length behind + r.lacks;
    last = r.last;
    repeated = subst (λ (rs : List Record). Repeats z rs first r.last) (sym (ap (drop (length behind + r.lacks)) more ∙ drop-append-add behind records r.lacks)) r.repeated;
    is = r.is;
    header = r.header;
  }))

  pub leaves_longer : (a b : P) → LeavesRepeated p z first records a b → LeavesRepeated p z first now a b
  leaves_longer a b one = record {
    now = λ page bytes may. longer a page bytes (one.now page bytes may);
    time = record {
      later = one.time.later;
      nothing_else = λ t images le since. ⊎_elim (λ past. inl past) (λ may. inr (λ page. longer a page (images page) (may page))) (one.time.nothing_else t images le since);
      keeps = one.time.keeps;
    };
  }

  -- two runs of calls, one after the other
  pub leaves_both : (a b c : P) → LeavesRepeated p z first records a b → LeavesRepeated p z first now b c → LeavesRepeated p z first now a c
  leaves_both a b c one two = record {
    now = λ page bytes may. from page bytes (two.now page bytes may);
    time = record {
      later = omega (arith, one.time.later, two.time.later);
      nothing_else = λ t images le since. ⊎_elim
          (λ past. ⊎_elim (λ past. inl past) (λ may. inr (λ page. longer a page (images page) (may page))) (one.time.nothing_else t images le past))
          (λ may. inr (λ page. from page (images page) (may page)))
          (two.time.nothing_else t images (omega (arith, le, one.time.later)) since);
      keeps = λ t images le was. two.time.keeps t images (omega (arith, le, one.time.later)) (one.time.keeps t images le was);
    };
  } where
    from : (page : ℕ) (bytes : List ℕ) → WasLeftOrRepeated p z first now b page bytes → WasLeftOrRepeated p z first now a page bytes
    from page bytes = ⊎_elim (λ was. longer a page bytes (one.now page bytes was)) (λ r. inr r)

module _ {P L X : Type 0} (p : page_device.Ghosts P) (l : log_device.Ghosts L) (a b : Pooled P) (x y : L) (first_records records : List Record) (r : Result X Refusal) (one : GoesOn p l a x first_records r b y records) where
  -- the pages stay, whatever is done of the log
  pub continues_on : (z : L) → (l.honest z → l.honest y) → (now behind : List Record) → now ≡ behind ++ records → Continues p l a x first_records b z now
  continues_on z honest now behind more = record {
    sizes = one.sizes;
    count = one.count;
    held = one.held;
    marked = marked_longer (length records) (length now) a b (no_shorter behind records now more) one.marked;
    pages_honest = one.pages_honest;
    log_honest = λ h. one.log_honest (honest h);
    stood = λ all. (one.stood all).device;
    behind = (behind ++ one.behind.0, more ∙ ap (λ (rs : List Record). behind ++ rs) one.behind.1 ∙ sym (append_assoc behind one.behind.0 first_records));
    written = one.written;
    leaves = λ h first start. leaves_longer p a.sizes first records now behind more a.device b.device (one.leaves (h.0, honest h.1) first start);
  }

  -- a restart goes on behind
  module _ (c : Pooled P) (z : L) (now_records : List Record) (repeated : HaveToldTruly p l a b y → (first : Images) → Repeats a.sizes first_records first (paged a) → Repeats a.sizes records first (paged b)) (two : Continues p l b y records c z now_records) where
    pub continues_then : Continues p l a x first_records c z now_records
    continues_then = record {
      sizes = two.sizes ∙ one.sizes;
      count = two.count ∙ one.count;
      held = λ free. two.held (one.held free);
      marked = marked_twice (length records) (length now_records) a b c (no_shorter two.behind.0 records now_records two.behind.1) one.marked two.marked;
      pages_honest = λ h. one.pages_honest (two.pages_honest h);
      log_honest = λ h. one.log_honest (two.log_honest h);
      stood = λ all. (let then = one.stood all in two.stood then.framed ∙ then.device);
      behind = (two.behind.0 ++ one.behind.0, two.behind.1 ∙ ap (λ (rs : List Record). two.behind.0 ++ rs) one.behind.1 ∙ sym (append_assoc two.behind.0 one.behind.0 first_records));
      written = sound_then p a.sizes a.device b.device c.device one.written (subst (λ (k : Sizes). LeavesSound p k b.device c.device) one.sizes two.written);
      leaves = λ h first start.
          let then : HaveBeenHonest p l b.device y = (two.pages_honest h.0, two.log_honest h.1) in
          let there : Repeats b.sizes records first (paged b) = subst (λ (k : Sizes). Repeats k records first (paged b)) (sym one.sizes) (repeated (inr then.0, then.1) first start) in
          leaves_both p a.sizes first records now_records two.behind.0 two.behind.1 a.device b.device c.device (one.leaves then first start) (subst (λ (k : Sizes). LeavesRepeated p k first now_records b.device c.device) one.sizes (two.leaves h first there));
    }

-- nothing failed before
pub fails_behind : {P L : Type 0} (p : page_device.Ghosts P) (l : log_device.Ghosts L) (a b c : P) (x y z : L) → NoneFailed p l a x b y → (e : Refusal) → FailsWith p b c e (failures l.faults y z) → FailsWith p a c e (failures l.faults x z)
fails_behind p l a b c x y z none e f =
    pages_since p a b c none.0 e (failures l.faults x z) (subst (λ (n : ℕ). FailsWith p b c e (record { before = n; now = l.faults z })) none.1 f)

pub none_fail_behind : {P L : Type 0} (p : page_device.Ghosts P) (l : log_device.Ghosts L) (a b c : P) (x y z : L) → NoneFailed p l a x b y → NoneFailed p l b y c z → NoneFailed p l a x c z
none_fail_behind p l a b c x y z one two = (two.0 ∙ one.0, two.1 ∙ one.1)

-- a restart that was refused once the log was read and gone through
module _ {P L X : Type 0} (p : page_device.Ghosts P) (l : log_device.Ghosts L) (first mid last : Pooled P) (was : L) (log new : Logged L) (r : Result X Refusal) (went : GoesOn p l first was [] r mid log.device log.records) (counted : NoneFailed p l first.device was mid.device log.device) (repeated : HaveToldTruly p l first mid log.device → IsRepeatedOn first.sizes [] (paged first) log.records (paged mid)) (read : IsLogRead l was log)
    (since : Continues p l mid log.device log.records last new.device new.records) where
  -- what was told of all calls truly was so of each
  told_read : HaveToldTruly p l first last new.device → HaveToldTruly p l first mid log.device
  told_read told = (⊎_elim (λ all. inl all) (λ h. inr (since.pages_honest h)) told.0, since.log_honest told.1)

  told_since : HaveToldTruly p l first last new.device → HaveToldTruly p l mid last new.device
  told_since told = (⊎_elim (λ all. inl (went.stood all).framed) (λ h. inr h) told.0, told.1)

  repeated_there : HaveToldTruly p l first mid log.device → Repeats mid.sizes log.records (paged first) (paged mid)
  repeated_there told = subst (λ (y : Sizes). Repeats y log.records (paged first) (paged mid)) (sym went.sizes) ((repeated told).repeated (paged first) refl)

  numbers_there : (ahead : List Ahead) → AreNumbersOf first.sizes (paged first) ahead → AreNumbersOf mid.sizes (paged first) ahead
  numbers_there ahead = subst (λ (y : Sizes). AreNumbersOf y (paged first) ahead) (sym went.sizes)

  pub all_continues : Continues p l first was [] last new.device new.records
  all_continues = continues_then p l first mid was log.device [] log.records r went last new.device new.records (λ told. (repeated told).repeated) since

  pub begins_so : (AreAllFramed mid → LeavesLog l mid.sizes (paged mid) log new) → AreAllFramed first → BeginsAtMost l first.sizes (paged first) was new.device
  begins_so left framed = begins_at_most l first.sizes mid.sizes (paged first) (paged mid) was log new went.sizes read (λ h. repeated_there (inl framed, h)) (left (went.stood framed).framed)

  -- what the log told before it was read it tells
  pub tells_behind : (ended : Type 0) → GoesOnTelling l log.device new.device ended → GoesOnTelling l was new.device ended
  tells_behind ended telling = tells_then l was log.device new.device (Unit {0}) ended tt since.log_honest (tells_read l was log.device (Unit {0}) read.only) telling

  pub repeats_so : (ahead : List Ahead) → AreNumbersOf first.sizes (paged first) ahead
      → (HaveToldTruly p l mid last new.device → (images : Images) → Repeats mid.sizes log.records images (paged mid) → AreNumbersOf mid.sizes images ahead → HasRepeated mid.sizes log.records new.records images (paged last))
      → HaveToldTruly p l first last new.device → HasRepeated first.sizes log.records new.records (paged first) (paged last)
  repeats_so ahead k checked told = subst (λ (y : Sizes). HasRepeated y log.records new.records (paged first) (paged last)) went.sizes (checked (told_since told) (paged first) (repeated_there (told_read told)) (numbers_there ahead k))

  pub refuses_so : (e : Refusal) (ahead : List Ahead) → AreNumbersOf first.sizes (paged first) ahead → (AreAllFramed mid → LeavesLog l mid.sizes (paged mid) log new) → FailsWith p mid.device last.device e (failures l.faults log.device new.device)
      → (AreAllFramed mid → (e ≢ why.DiskWrite) → IsRead l log.device new.device)
      → GoesOnTelling l log.device new.device (e ≢ why.DiskWrite)
      → (HaveToldTruly p l mid last new.device → (images : Images) → Repeats mid.sizes log.records images (paged mid) → AreNumbersOf mid.sizes images ahead → WhyShut mid.sizes log.records images e)
      → RefusesLog p l first last.device was new.device e
  refuses_so e ahead k left fails only telling shut = record {
    honest = λ h. went.pages_honest (since.pages_honest h);
    fails = fails_behind p l first.device mid.device last.device was log.device new.device counted e fails;
    stood = λ framed. (let there = went.stood framed in (
      since.stood there.framed ∙ there.device,
      (λ other. read_twice l was log.device new.device read.only (only there.framed other)),
      begins_so left framed,
    ));
    over = λ told. inr (
      log.records,
      read.are_spelled,
      (λ h. read.reads (since.log_honest h)),
      subst (λ (y : Sizes). WhyShut y log.records (paged first) e) went.sizes (shut (told_since told) (paged first) (repeated_there (told_read told)) (numbers_there ahead k)),
    );
    leaves = λ h. record {
      front = log.records;
      begins = (let ends = read.reads (since.log_honest h.1) in (ends.0, ends.2));
      made = since.behind.0;
      left = subst (λ (rs : List Record). LeavesRepeated p first.sizes (paged first) rs first.device last.device) since.behind.1 (all_continues.leaves h (paged first) refl);
    };
    written = all_continues.written;
    telling = tells_behind _ telling;
    unread = λ h none. absurd (none log.records read.are_spelled (read.reads (since.log_honest h)));
  }

-- or while it was
pub refuses_reading : {P L X : Type 0} (p : page_device.Ghosts P) (l : log_device.Ghosts L) (first mid : Pooled P) (was now : L) (e : Refusal) (front : List Record) → (l.honest now → BeginsWith front (l.seen was)) → GoesOn {X = X} p l first was [] (Err e) mid now front → IsRead l was now → (HaveToldTruly p l first mid now → IsStoppedBehind l first.sizes (paged first) e was now) → RefusesLog p l first mid.device was now e
refuses_reading p l first mid was now e front begins went read stopped = record {
  honest = went.pages_honest;
  fails = went.fails;
  stood = λ framed. (let there = went.stood framed in (there.device, (λ other. there.read), only_read l first.sizes (paged first) was now there.read.moments));
  over = λ told. inl (stopped told);
  leaves = λ h. record { front = front; begins = begins h.1; made = []; left = went.leaves h (paged first) refl };
  written = went.written;
  telling = went.telling;
  unread = λ h none. read;
}
