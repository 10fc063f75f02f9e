-- What calls leave that read a log and repeat it, from call to call.
use Rattle.std.proofs.Common.{◌≡◌, ◌⊎◌, ⊎_elim, ℕ, ◌+◌, ◌-◌, ◌%◌, ◌^◌, ◌<◌, ◌≤◌, ◌++◌, ◌∷◌, false, List, [], drop, length, Result, Ok, Err, inl, inr, refl, sym, ◌∙◌, ap, subst, arith}
use Rattle.std.specs.Prelude.{◌≢◌, IfErr, OnErr, OnOk}
use Rattle.std.proofs.Math.Seq.{drop-append-add}
use Rattle.std.proofs.lemmas.List.{append_assoc, length-append}
use Rattle.std.proofs.lemmas.Result.{IfErr-weaker, on_ok_weaker}
use Rattle.rq_model.specs.declared.record.Record.{Record}
use Rattle.rq_model.specs.declared.refusal.Refusal.{Refusal}
use Rattle.rq_model.specs.declared.refusal.Refusal.TheVariants as why
use Rattle.rq_model.specs.declared.refusal.Damage.TheVariants as damage
use Rattle.rq_model.specs.Bases.{is_base}
use Rattle.rq_disk.specs.Device.{Images, PageAsk}
use Rattle.rq_disk.specs.Device.PageAsk.{Reads, Writes}
use Rattle.rq_disk.specs.declared.device.LogDevice as log_device
use Rattle.rq_disk.specs.declared.device.PageDevice as page_device
use Rattle.rq_log.specs.Logged.{Logged}
use Rattle.rq_log.specs.Reading.{IsRead, StopsFor}
use Rattle.rq_restart.specs.Again.{NextNotUndoneFor, NotReadFor}
use Rattle.rq_analysis.specs.declared.open_work.NextUndo.{NextUndo}
use Rattle.rq_analysis.specs.declared.open_work.NextUndo.TheVariants.{Void, Write}
use Rattle.rq_log.proofs.Keeping.{read_twice}
use Rattle.rq_page.specs.Sizes.{Sizes, page_count}
use Rattle.rq_pool.specs.Fetching.{AreAllFramed, HasFailed, HasReadFor, IsReadAsStored, ReadFails}
use Rattle.rq_pool.specs.Fixing.{NotBroughtIn}
use Rattle.rq_pool.specs.Held.{Held, IsFramed}
use Rattle.rq_pool.specs.KeptUp.{IsKeptUp, MayBeKept}
use Rattle.rq_page.specs.Formatted.{IsHeaderOf}
use Rattle.rq_pool.specs.Pooled.{IsPool, Pooled}
use Rattle.rq_pool.specs.Reading.{OnlyRead}
use Rattle.rq_store.specs.Fitting.{image_in}
use Rattle.rq_restart.specs.Leaving.{LeavesRepeated, LeavesSound, WasLeftOrRepeated}
use Rattle.rq_restart.specs.Repeating.{AreMarked, IsRecordRedone, Repeats, paged}
use Rattle.rq_restart.specs.Standing.{NoneHeld}
use Rattle.rq_restart.specs.Undoing.{FailsWith, Failures, GoesOn, HaveBeenHonest, HaveToldTruly, IsOfReads, IsRepeatedOn, MakesWay, NamesDevice, NamesNoDevice, NoneFailed, SameFailures, failures}
use Rattle.rq_restart.proofs.Marking.{kept_marked, marked_longer, marked_twice, same_marked}
use Rattle.rq_restart.proofs.Sounding.{sound_kept, sound_read, sound_same, sound_then}
use Rattle.rq_restart.proofs.Telling.{tells_ended, tells_read, tells_then}
use Rattle.rq_restart.proofs.Undos.{going_more, still}

-- ---- what a crash leaves of the pages

module _ {P : Type 0} (p : page_device.Ghosts P) (z : Sizes) (first : Images) where
  leaves_same : (records : List Record) (old new : P) → new ≡ old → LeavesRepeated p z first records old new
  leaves_same records old new same = subst (λ (d : P). LeavesRepeated p z first records old d) (sym same) (record {
    now = λ page c may. inl may;
    time = record { later = omega arith; nothing_else = λ t c le since. inl since; keeps = λ t c le was. was };
  })

  leaves_read : (records : List Record) (old new : P) → OnlyRead p old new → LeavesRepeated p z first records old new
  leaves_read records old new only = record {
    now = λ page c may. inl (only.crash page c may);
    time = record {
      later = only.time.later;
      nothing_else = λ t c le since. ⊎_elim (λ past. inl past) (λ may. inr (λ page. inl (may page))) (only.time.nothing_else t c le since);
      keeps = only.time.keeps;
    };
  }

  -- pages that the records were repeated on are kept up, and some written out
  leaves_kept : (records : List Record) (forced : ℕ) (old new : Pooled P) → IsPool z old.images → Repeats z records first (paged old) → IsKeptUp p forced old new → LeavesRepeated p z first records old.device new.device
  leaves_kept records forced old new pool repeated up = record {
    now = λ page c may. there page c (up.crash page c may);
    time = record {
      later = up.time.later;
      nothing_else = λ t c le since. ⊎_elim (λ past. inl past) (λ may. inr (λ page. there page (c page) (may page))) (up.time.nothing_else t c le since);
      keeps = up.time.keeps;
    };
  } where
    there : (page : ℕ) (c : List ℕ) → MayBeKept p forced old page c → WasLeftOrRepeated p z first records old.device page c
    there page c = ⊎_elim (λ was. inl was) (λ f. inr (record { lacks = 0; last = paged old; repeated = repeated; is = f.is; header = λ low high. subst (IsHeaderOf z page) (sym f.is) (pool.headers page low high) }))

  -- so do two runs of calls, one after the other
  leaves_then : (records now behind : List Record) (a b c : P) → now ≡ behind ++ records → LeavesRepeated p z first records a b → LeavesRepeated p z first now b c → LeavesRepeated p z first now a c
  leaves_then records now behind a b c more one two = record {
    now = λ page bytes may. from page bytes (two.now page bytes may);
    time = record {
      later = omega (arith, one.time.later, two.time.later);
      nothing_else = λ t images le since. ⊎_elim
          (λ past. ⊎_elim (λ past. inl past) (λ may. inr (λ page. longer page (images page) (may page))) (one.time.nothing_else t images le past))
          (λ may. inr (λ page. from page (images page) (may page)))
          (two.time.nothing_else t images (omega (arith, le, one.time.later)) since);
      keeps = λ t images le was. two.time.keeps t images (omega (arith, le, one.time.later)) (one.time.keeps t images le was);
    };
  } where
    longer : (page : ℕ) (bytes : List ℕ) → WasLeftOrRepeated p z first records a page bytes → WasLeftOrRepeated p z first now a page bytes
    longer page bytes = ⊎_elim (λ was. inl was) (λ r. inr (record {
      lacks = length behind + r.lacks;
      last = r.last;
      repeated = subst (λ (rs : List Record). Repeats z rs first r.last) (sym (ap (drop (length behind + r.lacks)) more ∙ drop-append-add behind records r.lacks)) r.repeated;
      is = r.is;
      header = r.header;
    }))

    from : (page : ℕ) (bytes : List ℕ) → WasLeftOrRepeated p z first now b page bytes → WasLeftOrRepeated p z first now a page bytes
    from page bytes = ⊎_elim (λ was. longer page bytes (one.now page bytes was)) (λ r. inr r)

-- ---- which device failed

pub on_ok : {X E A : Type 0} (r : Result X E) → A → OnOk r A
on_ok (Ok x) a = a
on_ok (Err e) a = tt

pub on_err : {X E A : Type 0} (r : Result X E) → A → OnErr r A
on_err (Ok x) a = tt
on_err (Err e) a = a

none_fail : {P : Type 0} (p : page_device.Ghosts P) (old new : P) (e : Refusal) (log : Failures) → NamesNoDevice e → SameFailures (failures p.faults old new) → SameFailures log → FailsWith p old new e log
none_fail p old new why.NoMemory log none a b = (a, b)
none_fail p old new why.LogFull log none a b = (a, b)
none_fail p old new (why.Damaged d) log none a b = (a, b)
none_fail p old new _ log none a b = absurd none

-- nothing failed before
failed_since : {P : Type 0} (p : page_device.Ghosts P) (ask : PageAsk) (a b c : P) → p.faults b ≡ p.faults a → HasFailed p ask b c → HasFailed p ask a c
failed_since p ask a b c same f = record { once = f.once ∙ ap (λ (n : ℕ). (n + 1) % 2 ^ 64) same; before = f.before; none = f.none ∙ same; excused = f.excused }

pub pages_since : {P : Type 0} (p : page_device.Ghosts P) (a b c : P) → p.faults b ≡ p.faults a → (e : Refusal) (log : Failures) → FailsWith p b c e log → FailsWith p a c e log
pages_since p a b c same why.DiskRead log f = ⊎_elim (λ one. inl (one.0, failed_since p (Reads one.0) a b c same one.1, one.2)) (λ two. inr (two.0 ∙ same, two.1)) f
pages_since p a b c same why.DiskWrite log f = ⊎_elim (λ one. inl (one.0, one.1, failed_since p (Writes one.0 one.1) a b c same one.2, one.3)) (λ two. inr (two.0 ∙ same, two.1)) f
pages_since p a b c same why.NoMemory log f = (f.0 ∙ same, f.1)
pages_since p a b c same why.LogFull log f = (f.0 ∙ same, f.1)
pages_since p a b c same (why.Damaged d) log f = (f.0 ∙ same, f.1)
pages_since p a b c same _ log f = absurd f

-- where neither failed, no write was refused
pub none_wrote : {P X : Type 0} (p : page_device.Ghosts P) (old new : P) (r : Result X Refusal) (log : Failures) → SameFailures (failures p.faults old new) → SameFailures log → IfErr r (λ e. FailsWith p old new e log) → IfErr r (λ e. e ≢ why.DiskWrite)
none_wrote p old new r log same there = IfErr-weaker r (λ e. FailsWith p old new e log) (λ e. e ≢ why.DiskWrite)
    (λ e f is. ⊎_elim (λ one. (let once = one.2.once in omega (arith, once, same))) (λ two. omega (arith, two.1, there)) (subst (λ (x : Refusal). FailsWith p old new x log) is f))

-- a page was not brought into a frame, behind a log that did not fail
module _ {P : Type 0} (p : page_device.Ghosts P) (page : ℕ) (old new : Pooled P) where
  pub not_brought_fails : (log : Failures) (e : Refusal) → SameFailures log → NotBroughtIn p page e old new → FailsWith p old.device new.device e log
  not_brought_fails log why.DiskRead same f = inl (page, f.1, same)
  not_brought_fails log why.DiskWrite same f = inl (f.1, f.2, f.4, same)
  not_brought_fails log (why.Damaged (damage.Page n)) same f = (f.3, same)
  not_brought_fails log _ same f = absurd f

  pub not_brought_names : (e : Refusal) → 1 ≤ page → page < page_count old.sizes → IsReadAsStored p old new → NotBroughtIn p page e old new → NamesDevice e
  not_brought_names why.DiskRead low high told f = tt
  not_brought_names why.DiskWrite low high told f = tt
  not_brought_names (why.Damaged (damage.Page n)) low high told f = ⊎_elim (λ all. absurd (f.0 (all page low high))) (λ h. absurd (f.2 h)) told
  not_brought_names _ low high told f = absurd f

pub named_device : (e : Refusal) → NamesDevice e → (e ≡ why.DiskRead) ⊎ (e ≡ why.DiskWrite)
named_device why.DiskRead h = inl refl
named_device why.DiskWrite h = inr refl
named_device _ h = absurd h

-- nor was the log read on
module _ {L : Type 0} (l : log_device.Ghosts L) where
  pub stops_fails : {P : Type 0} (p : page_device.Ghosts P) (a b : P) (records : List Record) (old new : L) (e : Refusal) → SameFailures (failures p.faults a b) → StopsFor l e records old new → FailsWith p a b e (failures l.faults old new)
  stops_fails p a b records old new why.LogFull same f = (same, f.2)
  stops_fails p a b records old new why.DiskRead same f = inr (same, f)
  stops_fails p a b records old new (why.Damaged (damage.Record lsn)) same f = (same, f.2)
  stops_fails p a b records old new _ same f = absurd f

  pub not_read_fails : {P : Type 0} (p : page_device.Ghosts P) (a b : P) (lsn : ℕ) (old mid new : L) (e : Refusal) → SameFailures (failures p.faults a b) → l.faults mid ≡ l.faults old → NotReadFor l e lsn mid new → FailsWith p a b e (failures l.faults old new)
  not_read_fails p a b lsn old mid new why.DiskRead same counted f = inr (same, f ∙ ap (λ n. (n + 1) % 2 ^ 64) counted)
  not_read_fails p a b lsn old mid new (why.Damaged (damage.Record n)) same counted f = (same, f.1 ∙ counted)
  not_read_fails p a b lsn old mid new _ same counted f = absurd f

  pub not_undone_fails : {P : Type 0} (p : page_device.Ghosts P) (a b : P) (next : NextUndo) (count : ℕ) (old new : L) (e : Refusal) → SameFailures (failures p.faults a b) → NextNotUndoneFor l e next count old new → FailsWith p a b e (failures l.faults old new)
  not_undone_fails p a b (Void sub) count old new e same f = absurd f
  not_undone_fails p a b (Write lsn) count old new why.NoMemory same f = (same, f.1)
  not_undone_fails p a b (Write lsn) count old new why.LogFull same f = (same, f.1)
  not_undone_fails p a b (Write lsn) count old new why.DiskRead same f = inr (same, f)
  not_undone_fails p a b (Write lsn) count old new (why.Damaged (damage.Record n)) same f = (same, f.1)
  not_undone_fails p a b (Write lsn) count old new _ same f = absurd f

-- ---- pages that stand in frames

framed_alike : {P : Type 0} (old new : Pooled P) → new.sizes ≡ old.sizes → new.frames ≡ old.frames → AreAllFramed old → AreAllFramed new
framed_alike old new sizes frames all q low high =
    subst (λ (f : List Held). IsFramed f q) (sym frames) (all q low (subst (λ (z : Sizes). q < page_count z) sizes high))

held_alike : {P : Type 0} (old new : Pooled P) → new.frames ≡ old.frames → NoneHeld old.frames → NoneHeld new.frames
held_alike old new frames = subst NoneHeld (sym frames)

-- no log with records behind is shorter
pub no_shorter : (made records now : List Record) → now ≡ made ++ records → length records ≤ length now
no_shorter made records now is = (let e = ap length is ∙ length-append made records in omega (arith, e))

module _ {P L : Type 0} (p : page_device.Ghosts P) (l : log_device.Ghosts L) where
  -- what was told of all calls truly was so of the first
  pub told_first : (old mid new : Pooled P) (then now : L) → (p.honest new.device → p.honest mid.device) → (l.honest now → l.honest then) → HaveToldTruly p l old new now → HaveToldTruly p l old mid then
  told_first old mid new then now pages log told = (⊎_elim (λ all. inl all) (λ h. inr (pages h)) told.0, log told.1)

  -- and of those behind it
  pub told_behind : {X : Type 0} (old mid new : Pooled P) (log then now : L) (records then_records : List Record) (r : Result X Refusal) → GoesOn p l old log records r mid then then_records → HaveToldTruly p l old new now → HaveToldTruly p l mid new now
  told_behind old mid new log then now records then_records r one told = (⊎_elim (λ all. inl (one.stood all).framed) (λ h. inr h) told.0, told.1)

module _ {P L : Type 0} (p : page_device.Ghosts P) (l : log_device.Ghosts L)
    (only_now : (d : L) (c : List ℕ) → l.left_since d (l.moment d) c → l.may_leave d c) where
  -- records came behind the log and were repeated on the pages, or were not, and no device was called
  pub goes_in_memory : {X : Type 0} (old new : Pooled P) (log now : L) (records behind now_records : List Record) (r : Result X Refusal) → IfErr r NamesNoDevice → new.sizes ≡ old.sizes → new.device ≡ old.device → new.frames ≡ old.frames → now ≡ log → AreMarked (length now_records) old new → now_records ≡ behind ++ records → GoesOn p l old log records r new now now_records
  goes_in_memory old new log now records behind now_records r none sizes device frames same marked more = record {
    sizes = sizes;
    count = ap length frames;
    held = held_alike old new frames;
    marked = marked;
    pages_honest = subst p.honest device;
    log_honest = subst l.honest same;
    counted = on_ok r (ap p.faults device, ap l.faults same);
    fails = IfErr-weaker r NamesNoDevice _ (λ e n. none_fail p old.device new.device e (failures l.faults log now) n (ap p.faults device) (ap l.faults same)) none;
    stood = λ all. record {
      device = device;
      framed = framed_alike old new sizes frames all;
      read = subst (λ (d : L). IsRead l log d) (sym same) (still l only_now log);
    };
    telling = tells_read l log now _ (subst (λ (d : L). IsRead l log d) (sym same) (still l only_now log));
    behind = (behind, more);
    written = sound_same p old.sizes old.device new.device device;
    leaves = λ h first repeated. leaves_same p old.sizes first now_records old.device new.device device;
  }

  -- nothing happened
  pub goes_nowhere : {X : Type 0} (pages : Pooled P) (log : L) (records : List Record) (r : Result X Refusal) → IfErr r NamesNoDevice → GoesOn p l pages log records r pages log records
  goes_nowhere pages log records r none = goes_in_memory pages pages log log records [] records r none refl refl refl refl (same_marked (length records) pages pages refl) refl

  -- pages were read
  pub goes_reading : {X : Type 0} (old new : Pooled P) (log : L) (records : List Record) (r : Result X Refusal) → HasReadFor p old r new → IfErr r IsOfReads → GoesOn p l old log records r new log records
  goes_reading {X} old new log records r only names = record {
    sizes = (only.read.kept 0).sizes;
    count = ap length only.read.frames;
    held = held_alike old new only.read.frames;
    marked = kept_marked p 0 (length records) old new (only.read.kept 0);
    pages_honest = only.read.device.honest;
    log_honest = λ h. h;
    counted = on_ok_weaker r (λ same. (same, refl)) only.counted;
    fails = fail r only.refused names;
    stood = λ all. record {
      device = ap (λ (x : Pooled P). x.device) (only.read.stood all);
      framed = framed_alike old new (only.read.kept 0).sizes only.read.frames all;
      read = still l only_now log;
    };
    telling = tells_read l log log _ (still l only_now log);
    behind = ([], refl);
    written = sound_read p old.sizes old.device new.device only.read.device;
    leaves = λ h first repeated. leaves_read p old.sizes first records old.device new.device only.read.device;
  } where
    fails_so : (e : Refusal) → IsOfReads e → ReadFails p e old new → FailsWith p old.device new.device e (failures l.faults log log)
    fails_so why.NoMemory names f = (f, refl)
    fails_so why.DiskRead names f = inl (f.0.page, f.1, refl)
    fails_so (why.Damaged d) names f = (f, refl)
    fails_so _ names f = absurd names

    fail : (s : Result X Refusal) → IfErr s (λ e. ReadFails p e old new) → IfErr s IsOfReads → IfErr s (λ e. FailsWith p old.device new.device e (failures l.faults log log))
    fail (Ok x) f none = tt
    fail (Err e) f none = fails_so e none f

  -- the log was read
  pub goes_through_log : {X : Type 0} (pages : Pooled P) (log now : L) (records behind now_records : List Record) (r : Result X Refusal) → IsRead l log now → OnOk r (l.faults now ≡ l.faults log) → IfErr r (λ e. FailsWith p pages.device pages.device e (failures l.faults log now)) → now_records ≡ behind ++ records → GoesOn p l pages log records r pages now now_records
  goes_through_log pages log now records behind now_records r read counted fails more = record {
    sizes = refl;
    count = refl;
    held = λ none. none;
    marked = same_marked (length now_records) pages pages refl;
    pages_honest = λ h. h;
    log_honest = read.honest;
    counted = on_ok_weaker r (λ same. (refl, same)) counted;
    fails = fails;
    stood = λ all. record { device = refl; framed = all; read = read };
    telling = tells_read l log now _ read;
    behind = (behind, more);
    written = sound_same p pages.sizes pages.device pages.device refl;
    leaves = λ h first repeated. leaves_same p pages.sizes first now_records pages.device pages.device refl;
  }

  -- pages are kept up, and no log was called
  module _ {X : Type 0} (old new : Pooled P) (log : L) (records : List Record) (r : Result X Refusal) (pool : IsPool old.sizes old.images) (marks : length old.changed ≡ page_count old.sizes) (up : IsKeptUp p (2 ^ 64 - 1) old new) (stood : AreAllFramed old → new ≡ old) where
    pub goes_kept : length new.frames ≡ length old.frames → NoneHeld new.frames → OnOk r (p.faults new.device ≡ p.faults old.device) → IfErr r (λ e. FailsWith p old.device new.device e (failures l.faults log log)) → GoesOn p l old log records r new log records
    goes_kept count held counted fails = record {
      sizes = up.sizes;
      count = count;
      held = λ none. held;
      marked = kept_marked p (2 ^ 64 - 1) (length records) old new up;
      pages_honest = up.honest;
      log_honest = λ h. h;
      counted = on_ok_weaker r (λ same. (same, refl)) counted;
      fails = fails;
      stood = λ all. record {
        device = ap (λ (x : Pooled P). x.device) (stood all);
        framed = subst (λ (x : Pooled P). AreAllFramed x) (sym (stood all)) all;
        read = still l only_now log;
      };
      telling = tells_read l log log _ (still l only_now log);
      behind = ([], refl);
      written = sound_kept p old.sizes (2 ^ 64 - 1) old new pool marks up;
      leaves = λ h first repeated. leaves_kept p old.sizes first records (2 ^ 64 - 1) old new pool repeated up;
    }

  -- the images are as they were where what was read is the store's
  pub way_images : (old new : Pooled P) (log now : Logged L) (r : Result Unit Refusal) → MakesWay p l old log r new now → IsReadAsStored p old new → new.images ≡ old.images
  way_images old new log now r way = ⊎_elim (λ all. ap (λ (x : Pooled P). x.images) (way.stood all).0) (λ h. way.kept.images h)

  -- a page was brought into a frame
  pub goes_making_way : (old new : Pooled P) (log now : Logged L) (r : Result Unit Refusal) → MakesWay p l old log r new now → GoesOn p l old log.device log.records r new now.device now.records
  goes_making_way old new log now r way = record {
    sizes = way.kept.sizes;
    count = way.count;
    held = λ none. way.held;
    marked = kept_marked p (2 ^ 64 - 1) (length now.records) old new way.kept;
    pages_honest = way.kept.honest;
    log_honest = way.honest;
    counted = way.counted;
    fails = way.fails;
    stood = λ all. (let there = way.stood all in record {
      device = ap (λ (x : Pooled P). x.device) there.0;
      framed = subst (λ (x : Pooled P). AreAllFramed x) (sym there.0) all;
      read = subst (λ (x : Logged L). IsRead l log.device x.device) (sym there.1) (still l only_now log.device);
    });
    telling = way.telling;
    behind = ([], way.records);
    written = sound_kept p old.sizes (2 ^ 64 - 1) old new way.pool way.marks way.kept;
    leaves = λ h first repeated. subst (λ (rs : List Record). LeavesRepeated p old.sizes first rs old.device new.device) (sym way.records) (leaves_kept p old.sizes first log.records (2 ^ 64 - 1) old new way.pool repeated way.kept);
  }

-- a refusal is handed on
pub goes_refused : {P L X Y : Type 0} {p : page_device.Ghosts P} {l : log_device.Ghosts L} {old new : Pooled P} {log now : L} {records now_records : List Record} (r : Result X Refusal) (s : Result Y Refusal) (e : Refusal) → r ≡ Err e → s ≡ Err e → GoesOn p l old log records r new now now_records → GoesOn p l old log records s new now now_records
goes_refused {p = p} {l = l} {old = old} {new = new} {log = log} {now = now} {records = records} {now_records = now_records} r s e one two goes =
    subst (λ (x : Result _ Refusal). GoesOn p l old log records x new now now_records) (sym two) (record {
      sizes = goes.sizes;
      count = goes.count;
      held = goes.held;
      marked = goes.marked;
      pages_honest = goes.pages_honest;
      log_honest = goes.log_honest;
      counted = tt;
      fails = subst (λ (x : Result _ Refusal). IfErr x (λ e. FailsWith p old.device new.device e (failures l.faults log now))) one goes.fails;
      stood = goes.stood;
      telling = tells_ended l log now _ _ (λ other. subst (λ (x : Result _ Refusal). IfErr x (λ k. k ≢ why.DiskWrite)) (sym one) other) goes.telling;
      behind = goes.behind;
      written = goes.written;
      leaves = goes.leaves;
    })

-- records more were read
goes_longer : {P L X : Type 0} (p : page_device.Ghosts P) (l : log_device.Ghosts L) (old new : Pooled P) (log now : L) (records now_records more all : List Record) (r : Result X Refusal) → all ≡ more ++ now_records → GoesOn p l old log records r new now now_records → GoesOn p l old log records r new now all
goes_longer p l old new log now records now_records more all r longer goes = record {
  sizes = goes.sizes;
  count = goes.count;
  held = goes.held;
  marked = marked_longer (length now_records) (length all) old new (no_shorter more now_records all longer) goes.marked;
  pages_honest = goes.pages_honest;
  log_honest = goes.log_honest;
  counted = goes.counted;
  fails = goes.fails;
  stood = goes.stood;
  telling = goes.telling;
  behind = (more ++ goes.behind.0, longer ∙ ap (λ (rs : List Record). more ++ rs) goes.behind.1 ∙ sym (append_assoc more goes.behind.0 records));
  written = goes.written;
  leaves = λ h first repeated. leaves_then p old.sizes first now_records all more old.device new.device new.device longer (goes.leaves h first repeated) (leaves_same p old.sizes first all new.device new.device refl);
}

-- a call did what was asked
goes_done : {P L X : Type 0} (p : page_device.Ghosts P) (l : log_device.Ghosts L) (old new : Pooled P) (log now : L) (records now_records : List Record) (r : Result X Refusal) → GoesOn p l old log records r new now now_records → NoneFailed p l old.device log new.device now → GoesOn {P = P} {L = L} {X = Unit {0}} p l old log records (Ok tt) new now now_records
goes_done p l old new log now records now_records r goes none = record {
  sizes = goes.sizes;
  count = goes.count;
  held = goes.held;
  marked = goes.marked;
  pages_honest = goes.pages_honest;
  log_honest = goes.log_honest;
  counted = none;
  fails = tt;
  stood = goes.stood;
  telling = tells_ended l log now _ _ (λ done. none_wrote p old.device new.device r _ none.0 none.1 goes.fails) goes.telling;
  behind = goes.behind;
  written = goes.written;
  leaves = goes.leaves;
}

-- one call after the other, of which the first did what was asked
module _ {P L X Y : Type 0} (p : page_device.Ghosts P) (l : log_device.Ghosts L)
    (a b c : Pooled P) (x y z : L) (first_records records now_records : List Record) (r : Result X Refusal) (s : Result Y Refusal) where
  fails_since : NoneFailed p l a.device x b.device y → (e : Refusal) → FailsWith p b.device c.device e (failures l.faults y z) → FailsWith p a.device c.device e (failures l.faults x z)
  fails_since none e = λ f.
      pages_since p a.device b.device c.device none.0 e (failures l.faults x z) (subst (λ (n : ℕ). FailsWith p b.device c.device e (record { before = n; now = l.faults z })) none.1 f)

  pub goes_then : GoesOn p l a x first_records r b y records → NoneFailed p l a.device x b.device y → (HaveToldTruly p l a b y → (first : Images) → Repeats a.sizes first_records first (paged a) → Repeats a.sizes records first (paged b)) → GoesOn p l b y records s c z now_records → GoesOn p l a x first_records s c z now_records
  goes_then one none repeated two = record {
    sizes = two.sizes ∙ one.sizes;
    count = two.count ∙ one.count;
    held = λ free. two.held (one.held free);
    marked = marked_twice (length records) (length now_records) a b c (no_shorter two.behind.0 records now_records two.behind.1) one.marked two.marked;
    pages_honest = λ h. one.pages_honest (two.pages_honest h);
    log_honest = λ h. one.log_honest (two.log_honest h);
    counted = on_ok_weaker s (λ same. (same.0 ∙ none.0, same.1 ∙ none.1)) two.counted;
    fails = IfErr-weaker s _ _ (fails_since none) two.fails;
    stood = λ all. (let first = one.stood all in let then = two.stood first.framed in record {
      device = then.device ∙ first.device;
      framed = then.framed;
      read = read_twice l x y z first.read then.read;
    });
    telling = tells_then l x y z _ _ (none_wrote p a.device b.device r _ none.0 none.1 one.fails) two.log_honest one.telling two.telling;
    behind = (two.behind.0 ++ one.behind.0, two.behind.1 ∙ ap (λ (rs : List Record). two.behind.0 ++ rs) one.behind.1 ∙ sym (append_assoc two.behind.0 one.behind.0 first_records));
    written = sound_then p a.sizes a.device b.device c.device one.written (subst (λ (k : Sizes). LeavesSound p k b.device c.device) one.sizes two.written);
    leaves = λ h first start.
        let then : HaveBeenHonest p l b.device y = (two.pages_honest h.0, two.log_honest h.1) in
        let there : Repeats b.sizes records first (paged b) = subst (λ (k : Sizes). Repeats k records first (paged b)) (sym one.sizes) (repeated (inr then.0, then.1) first start) in
        leaves_then p a.sizes first records now_records two.behind.0 a.device b.device c.device two.behind.1 (one.leaves then first start) (subst (λ (k : Sizes). LeavesRepeated p k first now_records b.device c.device) one.sizes (two.leaves h first there));
  }

-- a log is gone on with, and its pages
module _ {P L : Type 0} (p : page_device.Ghosts P) (l : log_device.Ghosts L) where
  pub record IsGoingOn (old : Pooled P) (log : L) (first : List Record) (new : Pooled P) (now : L) (records : List Record) : Type 0 where
    pub goes : GoesOn {P = P} {L = L} {X = Unit {0}} p l old log first (Ok tt) new now records
    pub repeated : HaveToldTruly p l old new now → IsRepeatedOn old.sizes first (paged old) records (paged new)

  pub going_from : ((d : L) (c : List ℕ) → l.left_since d (l.moment d) c → l.may_leave d c) → (pages : Pooled P) (log : L) (records : List Record) → IsGoingOn pages log records pages log records
  going_from only_now pages log records = record {
    goes = goes_nowhere p l only_now pages log records (Ok tt) tt;
    repeated = λ told. record { repeated = λ first h. h; counted = λ c. c };
  }

  module _ {X : Type 0} (a b c : Pooled P) (x y z : L) (first_records records now_records : List Record) (r : Result X Refusal) (so_far : IsGoingOn a x first_records b y records) (step : GoesOn p l b y records r c z now_records) where
    -- by a call
    pub going_then : GoesOn p l a x first_records r c z now_records
    going_then = goes_then p l a b c x y z first_records records now_records (Ok tt) r so_far.goes so_far.goes.counted (λ told. (so_far.repeated told).repeated) step

    -- that is refused, behind a record that is not repeated perhaps
    pub going_refused : {Y : Type 0} (s : Result Y Refusal) (e : Refusal) (more all : List Record) → r ≡ Err e → s ≡ Err e → all ≡ more ++ now_records → GoesOn p l a x first_records s c z all
    going_refused s e more all one two longer = goes_refused r s e one two (goes_longer p l a c x z first_records now_records more all r longer going_then)

    module _ (none : NoneFailed p l b.device y c.device z) where
      one_more : GoesOn {P = P} {L = L} {X = Unit {0}} p l a x first_records (Ok tt) c z now_records
      one_more = goes_done p l a c x z first_records now_records r going_then (let first = so_far.goes.counted in (none.0 ∙ first.0, none.1 ∙ first.1))

      before : HaveToldTruly p l a c z → IsRepeatedOn a.sizes first_records (paged a) records (paged b)
      before told = so_far.repeated (told_first p l a b c y z step.pages_honest step.log_honest told)

      -- that makes nothing of the pages
      pub going_kept : (IsReadAsStored p b c → c.images ≡ b.images) → now_records ≡ records → IsGoingOn a x first_records c z now_records
      going_kept images same = record {
        goes = one_more;
        repeated = λ told. subst (λ (rs : List Record). IsRepeatedOn a.sizes first_records (paged a) rs (paged c)) (sym same)
            (subst (λ (i : List (List ℕ)). IsRepeatedOn a.sizes first_records (paged a) records (image_in i)) (sym (images (told_behind p l a b c x y z first_records records (Ok tt) so_far.goes told).0)) (before told));
      }

      -- or repeats a record more
      pub going_made : (q : Record) → is_base q ≡ false → now_records ≡ q ∷ records → (HaveToldTruly p l b c z → IsRecordRedone b.sizes records q (paged b) (paged c)) → IsGoingOn a x first_records c z now_records
      going_made q plain grown redone = record {
        goes = one_more;
        repeated = λ told. going_more a.sizes b.sizes first_records records (paged a) (paged b) so_far.goes.sizes (before told) q now_records (paged c) plain grown (redone (told_behind p l a b c x y z first_records records (Ok tt) so_far.goes told));
      }

  module _ (only_now : (d : L) (c : List ℕ) → l.left_since d (l.moment d) c → l.may_leave d c) where
    -- the log is read
    pub going_read : (a b : Pooled P) (x y z : L) (first_records records now_records : List Record) → IsGoingOn a x first_records b y records → IsRead l y z → l.faults z ≡ l.faults y → now_records ≡ records → IsGoingOn a x first_records b z now_records
    going_read a b x y z first_records records now_records so_far read counted same =
        going_kept a b b x y z first_records records now_records (Ok tt) so_far (goes_through_log p l only_now {X = Unit {0}} b y z records [] now_records (Ok tt) read counted tt same) (refl, counted) (λ told. refl) same

    -- a page was brought into a frame
    pub going_way : (a b c : Pooled P) (x : L) (log now : Logged L) (first_records : List Record) (r : Result Unit Refusal) → IsGoingOn a x first_records b log.device log.records → MakesWay p l b log r c now → NoneFailed p l b.device log.device c.device now.device → IsGoingOn a x first_records c now.device now.records
    going_way a b c x log now first_records r so_far way none =
        going_kept a b c x log.device now.device first_records log.records now.records r so_far (goes_making_way p l only_now b c log now r way) none (way_images p l only_now b c log now r way) way.records
