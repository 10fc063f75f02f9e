-- What is so of a log stays so.
use Rattle.std.proofs.Common.{◌≡◌, ℕ, suc, ◌+◌, ◌-◌, ◌^◌, ◌<◌, ◌≤◌, min, true, false, List, [], ◌∷◌, ◌++◌, length, take, drop, refl, sym, ◌∙◌, ap, subst, ◌⊎◌, inl, inr, ⊎_elim, arith, append_assoc, length-append}
use Rattle.std.proofs.lemmas.List.{append-nil, nil_from_length, take-append-drop}
use Rattle.std.proofs.Math.Seq.{take-append-add, take-append_seam}
use Rattle.std.specs.Prelude.{Option, Some, None}
use Rattle.rq_model.specs.declared.record.Record.{Record}
use Rattle.rq_model.specs.declared.record.Record.TheVariants.{Base}
use Rattle.rq_disk.specs.Device.{Appended, CutOff, Elapses, ElapsesThrough, IsCutBetween, Only, Replaced}
use Rattle.rq_disk.specs.declared.device.LogDevice.{Ghosts}
use Rattle.rq_disk.specs.Records.{AreRecords}
use Rattle.rq_record.specs.Spelling.{IsInRange, IsRecord, spelling}
use Rattle.rq_record.proofs.Spelled.{length-spelling_base}
use Rattle.rq_log.specs.Spelled.{spelled, spelled_all, AreSpelled, EndsWith, AreFirst, AreAllSpelled, EndsWithAll, GoOnTo, HoldsTo, IsBeginning}
use Rattle.rq_log.specs.Crash.{LeavesOnly}
use Rattle.rq_log.specs.Reading.{IsRead}
use Rattle.rq_model.specs.Bases.{based, gone, is_base, standing}
use Rattle.rq_model.proofs.Bases.{gone_less, gone_plain, length_standing, standing_plain}
use Rattle.rq_log.specs.Logged.{Logged, held, kept, IsBuffered, WasCut, WasDurable, WasLeftOrGoesOn, Keeps}
use Rattle.rq_log.proofs.Moments.{one_call}
use Rattle.rq_log.proofs.Runs.{one_record, spelled_records, AreAllSpelled-take, appended, one_newer, all_of, nothing_newer, spelled_whole, goes_on, go_on_all, go_on_newer, ends_all, holds_ends, holds_whole}

-- of those that stand so many are forced at most
within : (n : ℕ) (records : List Record) → n ≤ length records → n - gone records ≤ length (standing records)
within n records le = let whole = length_standing records in omega (arith, le, whole)

all_held : (n : ℕ) (records : List Record) → n ≤ length records → 0 + (n - gone records) ≤ length (standing records)
all_held n records le = let e = within n records le in omega (arith, e)

pub fits_base : (n i : ℕ) → IsInRange (Base n i) → IsRecord (Base n i)
fits_base n i is = let few = is.1 in let low = is.3 in (is, (omega (arith, few), omega (arith, few, low)))

pub one_base : (n i : ℕ) → IsInRange (Base n i) → AreRecords 1 (spelling (Base n i))
one_base n i is = one_record (Base n i) (fits_base n i is)

-- all of some records, with an end, which begin with what all spell, are all that is there
whole_is : (rs : List Record) (c : List ℕ) (lost : ℕ) → lost ≡ 0 → EndsWithAll (drop lost rs) c → GoOnTo c (spelled_all rs) → c ≡ spelled_all rs
whole_is rs c lost none ends on =
    let is : c ≡ spelled_all rs ++ ends.0 = ends.2 ∙ ap (λ (n : ℕ). spelled_all (drop n rs) ++ ends.0) none in
    let long = ap length is ∙ length-append (spelled_all rs) ends.0 in
    let all = ap length on.1 ∙ length-append c on.0 in
    sym (on.1 ∙ ap (λ (l : List ℕ). c ++ l) (nil_from_length on.0 (omega (arith, long, all))) ∙ append-nil c)

none_torn : (end : ℕ) → None ≡ Some end → ⊥
none_torn end e = cc

module _ {L : Type 0} (g : Ghosts L) where
  -- what is buffered is whole records
  pub whole : {total : ℕ} (log : Logged L) (last : ℕ) (buffer : List ℕ) (capacity : ℕ) → Keeps g log last total buffer capacity → log.failed ≡ false → (n : ℕ) × AreRecords n buffer
  whole log last buffer capacity k running =
      let b = k.buffered running in
      let newer = take b.0 (held log) in
      (length newer, subst (AreRecords (length newer)) (sym b.3) (spelled_records newer (AreAllSpelled-take b.0 (held log) k.is_log.spelled)))

  -- one record more
  pub with_record : {total : ℕ} (log : Logged L) (last : ℕ) (buffer : List ℕ) (capacity : ℕ) → Keeps g log last total buffer capacity → log.failed ≡ false
      → (r : Record) → IsRecord r → (size : ℕ) → size ≡ length (spelling r) → size ≤ log.reserved
      → is_base r ≡ false → (records : List Record) → records ≡ r ∷ log.records → (bytes : List ℕ) → bytes ≡ buffer ++ spelling r → (room : ℕ) → capacity ≤ room → (sum : ℕ) → sum ≡ min (total + size) (2 ^ 64 - 1)
      → Keeps g (record { records = records; forced = log.forced; pending = length bytes; reserved = log.reserved - size; torn_at = log.torn_at; failed = log.failed; replacing = log.replacing; device = log.device; settled = log.settled }) (last + 1) sum bytes room
  with_record log last buffer capacity k running r is size measured fits plain records grown bytes longer room le sum added =
      let b = k.buffered running in
      let stands = standing_plain r log.records plain in
      let away = gone_plain r log.records plain in
      let total : length bytes ≡ length buffer + size = ap length longer ∙ length-append buffer (spelling r) ∙ ap (λ (n : ℕ). length buffer + n) (sym measured) in
      subst (λ (rs : List Record). Keeps g (record { records = rs; forced = log.forced; pending = length bytes; reserved = log.reserved - size; torn_at = log.torn_at; failed = log.failed; replacing = log.replacing; device = log.device; settled = log.settled }) (last + 1) sum bytes room) (sym grown)
      (record {
        is_log = record {
          spelled = subst AreAllSpelled (sym stands) (is, k.is_log.spelled);
          order = (let o = k.is_log.order in omega arith);
          based = λ some. subst (λ (n : ℕ). n < log.forced) (sym away) (k.is_log.based some);
          leaves = λ h was c left. subst (λ (rs : List Record). AreFirst rs (log.forced - gone (r ∷ log.records)) c) (sym stands) (subst (λ (n : ℕ). AreFirst (r ∷ held log) (log.forced - n) c) (sym away) (one_newer r (held log) (kept log) c (k.is_log.leaves h was c left)));
          running = k.is_log.running;
          replaced = λ h was i tried. absurd (none_torn i (sym (k.is_log.running running) ∙ tried));
        };
        count = (let n = k.count in omega arith);
        total = (λ few. let more = ap (λ rs. length (spelled_all rs)) stands ∙ length-append (spelled log.records) (spelling r) in let n = k.total (omega (arith, few, more)) in omega (arith, n, added, more, measured, few));
        room = (let n = k.room in omega arith);
        whole = λ some. k.whole (subst (λ (n : ℕ). 0 < log.forced - n) away some);
        buffered = λ _. (
          suc b.0,
          (let long = ap length stands in omega (arith, b.1, long, away)),
          (λ h. subst (λ (rs : List Record). HoldsTo log.torn_at (drop (suc b.0) rs) (g.seen log.device)) (sym stands) (b.2 h)),
          longer ∙ ap (λ (l : List ℕ). l ++ spelling r) b.3 ∙ ap (λ (rs : List Record). spelled_all (take (suc b.0) rs)) (sym stands),
        );
      })

  -- what an append of the buffer leaves
  pub append_leaves : {total : ℕ} (log : Logged L) (last : ℕ) (buffer : List ℕ) (capacity : ℕ) → Keeps g log last total buffer capacity → log.failed ≡ false → log.torn_at ≡ None
      → (device : L) → Appended (g.seen log.device) buffer (g.may_leave log.device) (g.may_leave device) → g.honest log.device → WasDurable g log → (c : List ℕ) → g.may_leave device c → IsBeginning log.records log.forced c
  append_leaves log last buffer capacity k running untorn device crash h was =
      let b = k.buffered running in
      appended (held log) (kept log) b.0 (g.seen log.device) buffer (g.may_leave log.device) (g.may_leave device) k.is_log.spelled b.1 (holds_whole log.torn_at (drop b.0 (held log)) (g.seen log.device) untorn (b.2 h)) b.3 (k.is_log.leaves h was) crash

  -- the same, whatever a crash might have left before
  pub append_adds : {total : ℕ} (log : Logged L) (last : ℕ) (buffer : List ℕ) (capacity : ℕ) → Keeps g log last total buffer capacity → log.failed ≡ false → log.torn_at ≡ None
      → (device : L) → Appended (g.seen log.device) buffer (g.may_leave log.device) (g.may_leave device) → g.honest log.device → (c : List ℕ) → g.may_leave device c → WasLeftOrGoesOn g log c
  append_adds log last buffer capacity k running untorn device crash h c left =
      let b = k.buffered running in
      ⊎_elim (λ was. inl was) (λ added. inr (goes_on (held log) (kept log) b.0 added.0 (g.seen log.device) buffer c k.is_log.spelled b.1 (holds_whole log.torn_at (drop b.0 (held log)) (g.seen log.device) untorn (b.2 h)) b.3 added.1)) (crash c left)

  pub reads_all : {total : ℕ} (log : Logged L) (last : ℕ) (buffer : List ℕ) (capacity : ℕ) → Keeps g log last total buffer capacity → log.failed ≡ false → log.torn_at ≡ None → g.honest log.device → g.seen log.device ++ buffer ≡ spelled log.records
  reads_all log last buffer capacity k running untorn h =
      let b = k.buffered running in
      ap (λ (l : List ℕ). l ++ buffer) (holds_whole log.torn_at (drop b.0 (held log)) (g.seen log.device) untorn (b.2 h)) ∙ ap (λ (l : List ℕ). spelled_all (drop b.0 (held log)) ++ l) b.3 ∙ spelled_whole b.0 (held log)

  pub nothing_buffered : {total : ℕ} (log : Logged L) (last : ℕ) (buffer : List ℕ) (capacity : ℕ) → Keeps g log last total buffer capacity → log.failed ≡ false → log.torn_at ≡ None → length buffer ≡ 0 → g.honest log.device → g.seen log.device ≡ spelled log.records
  nothing_buffered log last buffer capacity k running untorn none h =
      let b = k.buffered running in
      nothing_newer b.0 (held log) (g.seen log.device) buffer (holds_whole log.torn_at (drop b.0 (held log)) (g.seen log.device) untorn (b.2 h)) b.3 none

  -- the buffer is handed over
  pub handed : {total : ℕ} (log : Logged L) (last : ℕ) (buffer : List ℕ) (capacity : ℕ) → Keeps g log last total buffer capacity → log.failed ≡ false → log.torn_at ≡ None
      → (device : L) → (g.honest device → g.honest log.device) → Appended (g.seen log.device) buffer (g.may_leave log.device) (g.may_leave device) → g.seen device ≡ g.seen log.device ++ buffer → (room : ℕ) → log.reserved ≤ room → (bytes : List ℕ) → bytes ≡ []
      → Keeps g (record { records = log.records; forced = log.forced; pending = length bytes; reserved = log.reserved; torn_at = log.torn_at; failed = log.failed; replacing = log.replacing; device = device; settled = log.settled }) last total bytes room
  handed log last buffer capacity k running untorn device falls crash added room le bytes none = record {
    is_log = record {
      spelled = k.is_log.spelled;
      order = k.is_log.order;
      based = k.is_log.based;
      leaves = λ h. append_leaves log last buffer capacity k running untorn device crash (falls h);
      running = k.is_log.running;
      replaced = λ h was i tried. absurd (none_torn i (sym (k.is_log.running running) ∙ tried));
    };
    count = k.count;
    total = k.total;
    room = omega (arith, le, ap length none);
    whole = k.whole;
    buffered = λ _. (0, all_held log.forced log.records k.is_log.order, λ h. subst (λ (t : Option ℕ). HoldsTo t (held log) (g.seen device)) (sym untorn) (added ∙ reads_all log last buffer capacity k running untorn (falls h)), none);
  }

  -- an append of the buffer has failed
  pub broken : {total : ℕ} (log : Logged L) (last : ℕ) (buffer : List ℕ) (capacity : ℕ) → Keeps g log last total buffer capacity → log.failed ≡ false → (device : L) → (g.honest device → WasDurable g log → (c : List ℕ) → g.may_leave device c → IsBeginning log.records log.forced c)
      → Keeps g (record { records = log.records; forced = log.forced; pending = length buffer; reserved = log.reserved; torn_at = log.torn_at; failed = true; replacing = log.replacing; device = device; settled = log.settled }) last total buffer capacity
  broken log last buffer capacity k running device leaves = record {
    is_log = record {
      spelled = k.is_log.spelled;
      order = k.is_log.order;
      based = k.is_log.based;
      leaves = leaves;
      running = λ false. absurd cc;
      replaced = λ h was i tried. absurd (none_torn i (sym (k.is_log.running running) ∙ tried));
    };
    count = k.count;
    total = k.total;
    room = k.room;
    whole = k.whole;
    buffered = λ running. absurd cc;
  }

  -- all is forced
  pub forced_all : {total : ℕ} (log : Logged L) (last : ℕ) (buffer : List ℕ) (capacity : ℕ) → Keeps g log last total buffer capacity → log.failed ≡ false → log.torn_at ≡ None → length buffer ≡ 0
      → (device : L) → (g.honest device → g.honest log.device) → Only (g.seen log.device) (g.may_leave device) → g.seen device ≡ g.seen log.device → (settled : L)
      → Keeps g (record { records = log.records; forced = last; pending = length buffer; reserved = log.reserved; torn_at = log.torn_at; failed = log.failed; replacing = log.replacing; device = device; settled = settled }) last total buffer capacity
  forced_all log last buffer capacity k running untorn none device falls durable same settled = record {
    is_log = record {
      spelled = k.is_log.spelled;
      order = (let n = k.count in omega arith);
      based = λ some. subst (λ (n : ℕ). gone log.records < n) (sym k.count) (gone_less log.records (subst (λ (n : ℕ). 0 < n) k.count some));
      leaves = λ h was c left. all_of (held log) (last - gone log.records) c (within last log.records (let n = k.count in omega arith)) (durable c left ∙ nothing_buffered log last buffer capacity k running untorn none (falls h));
      running = k.is_log.running;
      replaced = λ h was i tried. absurd (none_torn i (sym (k.is_log.running running) ∙ tried));
    };
    count = k.count;
    total = k.total;
    room = k.room;
    whole = λ some. untorn;
    buffered = λ _. (0, all_held last log.records (let n = k.count in omega arith), λ h. subst (λ (t : Option ℕ). HoldsTo t (held log) (g.seen device)) (sym untorn) (same ∙ nothing_buffered log last buffer capacity k running untorn none (falls h)), nil_from_length buffer none);
  }

  -- an honest device reads as some of the first records
  pub reads_beginning : (log : Logged L) (last size : ℕ) (buffer : List ℕ) (capacity : ℕ) → Keeps g log last size buffer capacity → log.failed ≡ false → g.honest log.device → IsBeginning log.records log.forced (g.seen log.device)
  reads_beginning log last size buffer capacity k running h =
      let b = k.buffered running in (
        b.0,
        b.1,
        holds_ends log.torn_at (drop b.0 (held log)) (g.seen log.device) (b.2 h),
        λ some. go_on_newer b.0 (held log) (g.seen log.device) (go_on_all (drop b.0 (held log)) (g.seen log.device) (holds_whole log.torn_at (drop b.0 (held log)) (g.seen log.device) (k.whole some) (b.2 h))),
      )

  -- a log with these records, all that its device holds
  pub of_these : (records : List Record) (device settled : L) (last size : ℕ) (torn_at : Option ℕ) (buffer : List ℕ) (capacity : ℕ) → AreSpelled records → last ≡ length records → size ≡ length (spelled records) → IsRead g settled device → (g.honest device → HoldsTo torn_at (standing records) (g.seen settled)) → buffer ≡ []
      → Keeps g (record { records = records; forced = 0; pending = length buffer; reserved = 0; torn_at = torn_at; failed = false; replacing = None; device = device; settled = settled }) last size buffer capacity
  of_these records device settled last size torn_at buffer capacity are count long read holds none = record {
    is_log = record {
      spelled = are;
      order = omega arith;
      based = λ some. absurd (omega (arith, some));
      leaves = λ h was c left. (0, all_held 0 records (omega arith), subst (EndsWith records) (sym (was.0 c (read.leaves c left))) (holds_ends torn_at (standing records) (g.seen settled) (holds h)), λ some. absurd (omega (arith, some)));
      running = λ _. refl;
      replaced = λ h was i tried. absurd (none_torn i tried);
    };
    count = count;
    total = λ _. long;
    room = omega (arith, ap length none);
    whole = λ some. absurd (omega (arith, some));
    buffered = λ _. (0, all_held 0 records (omega arith), λ h. subst (HoldsTo torn_at (standing records)) (sym read.same) (holds h), none);
  }

  -- a beginning of bytes that end with records is these with a torn end, if it holds them
  cut_ends : (records : List Record) (seen c : List ℕ) (n : ℕ) → EndsWithAll records seen → length (spelled_all records) ≤ n → c ≡ take n seen → EndsWithAll records c
  cut_ends records seen c n ends le is =
      let m : ℕ = n - length (spelled_all records) in
      let e : n ≡ length (spelled_all records) + m = omega (arith, le) in
      let end : List ℕ = ends.0 in
      let b = ends.1 in
      let sum = length-append (drop m end) b.1 in
      let more : 0 < length b.1 = b.3 in (
        take m end,
        (b.0, drop m end ++ b.1, b.2, omega (arith, sum, more), b.4 ∙ ap (λ (l : List ℕ). l ++ b.1) (sym (take-append-drop m end)) ∙ append_assoc (take m end) (drop m end) b.1),
        is ∙ ap (λ (k : ℕ). take k seen) e ∙ ap (take (length (spelled_all records) + m)) ends.2 ∙ take-append-add (spelled_all records) end m,
      )

  cut_first : (seen c : List ℕ) (n : ℕ) → c ≡ take n seen → GoOnTo c seen
  cut_first seen c n is = (drop n seen, sym (take-append-drop n seen) ∙ ap (λ (l : List ℕ). l ++ drop n seen) (sym is))

  -- what a cut behind the records leaves at each moment: what might be left before, or these with a torn end
  pub cut_run : (records : List Record) (old new : L) (n : ℕ) (P : List ℕ → Type 0) → ((c : List ℕ) → g.left_since old (g.moment old) c → g.may_leave old c) → EndsWithAll records (g.seen old) → n ≡ length (spelled_all records)
      → CutOff (g.seen old) n (g.may_leave old) (g.may_leave new) → ElapsesThrough (g.moment old) (g.moment new) (g.left_since old) (g.left_since new) (g.may_leave new) (IsCutBetween (g.seen old) n)
      → ((c : List ℕ) → g.may_leave old c → P c) → ((c : List ℕ) → EndsWithAll records c → GoOnTo c (g.seen old) → P c) → LeavesOnly g old new P
  cut_run records old new n P only_now ends is crash time before short =
      let inside : (c : List ℕ) → IsCutBetween (g.seen old) n c → P c = λ c between. short c (cut_ends records (g.seen old) c between.0 ends (let le = between.1 in omega (arith, le, is)) between.2) (cut_first (g.seen old) c between.0 between.2) in
      let now : (c : List ℕ) → g.may_leave new c → P c = λ c may. ⊎_elim (before c) (inside c) (crash c may) in
      record {
        later = time.later;
        each = λ c since. ⊎_elim (λ was. before c (only_now c was)) (⊎_elim (now c) (inside c)) (time.nothing_else (g.moment old) c (omega arith) since);
        before = λ t c le since. ⊎_elim (λ was. inl was) (λ more. inr (⊎_elim (now c) (inside c) more)) (time.nothing_else t c le since);
        keeps = time.keeps;
      }

  module _ {total : ℕ} (log : Logged L) (last : ℕ) (buffer : List ℕ) (capacity : ℕ) (k : Keeps g log last total buffer capacity) (running : log.failed ≡ false) (end : ℕ) (torn : log.torn_at ≡ Some end) (device : L)
      (falls : g.honest device → g.honest log.device) (crash : CutOff (g.seen log.device) end (g.may_leave log.device) (g.may_leave device)) where
    abbrev newer : ℕ
    newer = (k.buffered running).0

    abbrev older : List Record
    older = drop newer (held log)

    reads : g.honest log.device → EndsWithAll older (g.seen log.device) × (end ≡ length (spelled_all older)) × (end < length (g.seen log.device))
    reads h = subst (λ (t : Option ℕ). HoldsTo t older (g.seen log.device)) torn ((k.buffered running).2 h)

    short_begins : (c : List ℕ) → EndsWithAll older c → IsBeginning log.records log.forced c
    short_begins c ends = (newer, (k.buffered running).1, ends, λ some. absurd (none_torn end (sym (k.whole some) ∙ torn)))

    cut_leaves : g.honest log.device → WasDurable g log → (c : List ℕ) → g.may_leave device c → IsBeginning log.records log.forced c
    cut_leaves h was c may = ⊎_elim (k.is_log.leaves h was c) (λ between. short_begins c (cut_ends older (g.seen log.device) c between.0 (reads h).0 (let le = between.1 in let e = (reads h).1 in omega (arith, le, e)) between.2)) (crash c may)

    -- at each moment
    pub cut_moments : ((c : List ℕ) → g.left_since log.device (g.moment log.device) c → g.may_leave log.device c) → ElapsesThrough (g.moment log.device) (g.moment device) (g.left_since log.device) (g.left_since device) (g.may_leave device) (IsCutBetween (g.seen log.device) end)
        → g.honest device → WasDurable g log → LeavesOnly g log.device device (IsBeginning log.records log.forced)
    cut_moments only_now time h was = cut_run older log.device device end (IsBeginning log.records log.forced) only_now (reads (falls h)).0 (reads (falls h)).1 crash time (k.is_log.leaves (falls h) was) (λ c ends first. short_begins c ends)

    pub cut_adds : ((c : List ℕ) → g.left_since log.device (g.moment log.device) c → g.may_leave log.device c) → ElapsesThrough (g.moment log.device) (g.moment device) (g.left_since log.device) (g.left_since device) (g.may_leave device) (IsCutBetween (g.seen log.device) end)
        → g.honest device → LeavesOnly g log.device device (WasLeftOrGoesOn g log)
    cut_adds only_now time h = cut_run older log.device device end (WasLeftOrGoesOn g log) only_now (reads (falls h)).0 (reads (falls h)).1 crash time (λ c was. inl was)
        (λ c ends first. inr (record { behind = newer; within = (k.buffered running).1; reads = (reads (falls h)).0; lost = newer; some = omega arith; is = ends; from = inr first }))

    -- the cut is made
    cut_reads : g.seen device ≡ take end (g.seen log.device) → g.honest log.device → g.seen device ≡ spelled_all older
    cut_reads is h = is ∙ ap (λ (n : ℕ). take n (g.seen log.device)) (reads h).1 ∙ ap (take (length (spelled_all older))) (reads h).0.2 ∙ take-append_seam (spelled_all older) (reads h).0.0

    pub was_cut : g.seen device ≡ take end (g.seen log.device) → g.honest device → WasCut g log device
    was_cut is h = (newer, (k.buffered running).1, (reads (falls h)).0, cut_reads is (falls h))

    pub cut_kept : g.seen device ≡ take end (g.seen log.device)
        → Keeps g (record { records = log.records; forced = log.forced; pending = length buffer; reserved = log.reserved; torn_at = None; failed = log.failed; replacing = log.replacing; device = device; settled = log.settled }) last total buffer capacity
    cut_kept is = record {
      is_log = record {
        spelled = k.is_log.spelled;
        order = k.is_log.order;
        based = k.is_log.based;
        leaves = λ h. cut_leaves (falls h);
        running = k.is_log.running;
        replaced = λ h was i tried. absurd (none_torn i (sym (k.is_log.running running) ∙ tried));
      };
      count = k.count;
      total = k.total;
      room = k.room;
      whole = λ some. refl;
      buffered = λ _. (newer, (k.buffered running).1, λ h. cut_reads is (falls h), (k.buffered running).3);
    }

    -- or it failed
    pub uncut_kept : Keeps g (record { records = log.records; forced = log.forced; pending = length buffer; reserved = log.reserved; torn_at = log.torn_at; failed = true; replacing = log.replacing; device = device; settled = log.settled }) last total buffer capacity
    uncut_kept = broken log last buffer capacity k running device (λ h. cut_leaves (falls h))

  -- nothing was to be cut
  pub none_cut : {total : ℕ} (log : Logged L) (last : ℕ) (buffer : List ℕ) (capacity : ℕ) → Keeps g log last total buffer capacity → log.failed ≡ false → log.torn_at ≡ None → g.honest log.device → WasCut g log log.device
  none_cut log last buffer capacity k running untorn h =
      let b = k.buffered running in
      let whole = holds_whole log.torn_at (drop b.0 (held log)) (g.seen log.device) untorn (b.2 h) in
      (b.0, b.1, ends_all (drop b.0 (held log)) (g.seen log.device) whole, whole)

  -- where all is forced nothing is buffered, and an honest device holds all
  all_forced : {total : ℕ} (log : Logged L) (last : ℕ) (buffer : List ℕ) (capacity : ℕ) → Keeps g log last total buffer capacity → (running : log.failed ≡ false) → log.forced ≡ length log.records → (buffered : IsBuffered g log buffer) → buffered.0 ≡ 0
  all_forced log last buffer capacity k running all buffered =
      let whole = length_standing log.records in
      let few = buffered.1 in
      omega (arith, whole, few, all)

  -- where all are forced, some stand on the device
  some_kept : {total : ℕ} (log : Logged L) (last : ℕ) (buffer : List ℕ) (capacity : ℕ) → Keeps g log last total buffer capacity → log.forced ≡ length log.records → 1 ≤ length log.records → 0 < kept log
  some_kept log last buffer capacity k all some = let less = k.is_log.based (omega (arith, all, some)) in omega (arith, less)

  -- a Base that the device holds is noted
  module _ {total : ℕ} (log : Logged L) (last : ℕ) (buffer : List ℕ) (capacity : ℕ) (k : Keeps g log last total buffer capacity) (all : log.forced ≡ length log.records) (i : ℕ) (is : IsInRange (Base (length log.records) i))
      (idle : length buffer ≡ 0) (reads : g.seen log.device ≡ spelled (based i log.records)) (durable : Only (spelled (based i log.records)) (g.may_leave log.device)) where
    abbrev noted : Record
    noted = Base (length log.records) i

    untorn : log.torn_at ≡ None
    untorn = k.whole (some_kept log last buffer capacity k all (let some : 1 ≤ length log.records = is.0 in some))

    none_buffered : (bytes : List ℕ) → length bytes ≡ 0 → bytes ≡ []
    none_buffered [] none = refl
    none_buffered (b ∷ bytes) none = absurd (omega (arith, none))

    pub base_noted : (settled : L) (records : List Record) → records ≡ Base last i ∷ log.records
        → Keeps g (record { records = records; forced = last + 1; pending = length buffer; reserved = log.reserved; torn_at = log.torn_at; failed = false; replacing = None; device = log.device; settled = settled }) (last + 1) 21 buffer capacity
    base_noted settled records grown =
        let count = k.count in
        let one : last + 1 - length log.records ≤ 1 = omega (arith, count) in
        subst (λ (rs : List Record). Keeps g (record { records = rs; forced = last + 1; pending = length buffer; reserved = log.reserved; torn_at = log.torn_at; failed = false; replacing = None; device = log.device; settled = settled }) (last + 1) 21 buffer capacity)
        (sym (grown ∙ ap (λ (n : ℕ). Base n i ∷ log.records) count))
        (record {
          is_log = record {
            spelled = (fits_base (length log.records) i is, tt);
            order = omega (arith, count);
            based = λ some. omega (arith, count);
            leaves = λ h was c left. all_of (noted ∷ []) (last + 1 - length log.records) c one (durable c left);
            running = λ _. refl;
            replaced = λ h was j tried. absurd (none_torn j tried);
          };
          count = omega (arith, count);
          total = λ few. sym (length-spelling_base (length log.records) i);
          room = k.room;
          whole = λ some. untorn;
          buffered = λ _. (0, omega (arith, one), λ h. subst (λ (t : Option ℕ). HoldsTo t (noted ∷ []) (g.seen log.device)) (sym untorn) reads, none_buffered buffer idle);
        })

  module _ {total : ℕ} (log : Logged L) (last : ℕ) (buffer : List ℕ) (capacity : ℕ) (k : Keeps g log last total buffer capacity) (running : log.failed ≡ false) (all : log.forced ≡ length log.records)
      (i : ℕ) (is : IsInRange (Base (length log.records) i)) (device : L) (falls : g.honest device → g.honest log.device) (bytes : List ℕ) (spells : bytes ≡ spelling (Base last i)) (crash : Replaced bytes (g.may_leave log.device) (g.may_leave device)) where
    abbrev now : List Record
    now = based i log.records

    buffers : IsBuffered g log buffer
    buffers = k.buffered running

    none_newer : buffers.0 ≡ 0
    none_newer = all_forced log last buffer capacity k running all buffers

    empty : buffer ≡ []
    empty = buffers.3 ∙ ap (λ (n : ℕ). spelled_all (take n (held log))) none_newer

    stand : 0 < kept log
    stand = some_kept log last buffer capacity k all (let some : 1 ≤ length log.records = is.0 in some)

    pub none_pending : length buffer ≡ 0
    none_pending = ap length empty

    abbrev base : Record
    base = Base (length log.records) i

    is_record : IsRecord base
    is_record = fits_base (length log.records) i is

    are : bytes ≡ spelling base
    are = spells ∙ ap (λ (n : ℕ). spelling (Base n i)) k.count

    none_tried : log.replacing ≡ None
    none_tried = k.is_log.running running

    -- a crash before leaves all of it
    left_before : g.honest log.device → WasDurable g log → (c : List ℕ) → g.may_leave log.device c → c ≡ spelled log.records
    left_before h was c may =
        let first = k.is_log.leaves h was c may in
        let few = first.1 in
        let whole = length_standing log.records in
        whole_is (held log) c first.0 (omega (arith, few, whole, all)) first.2 (first.3 stand)

    pub replaced_moments : ((c : List ℕ) → g.left_since log.device (g.moment log.device) c → g.may_leave log.device c) → Elapses (g.moment log.device) (g.moment device) (g.left_since log.device) (g.left_since device) (g.may_leave device)
        → g.honest device → WasDurable g log → LeavesOnly g log.device device (λ c. (c ≡ spelled log.records) ⊎ (c ≡ spelled now))
    replaced_moments only_now time h was =
        let before = left_before (falls h) was in
        one_call g log.device device (λ c. (c ≡ spelled log.records) ⊎ (c ≡ spelled now)) (g.may_leave log.device) (g.may_leave device) only_now time
        (λ c may. inl (before c may))
        (λ c may. elim (crash c may) [ inl was ↦ inl (before c was) | inr e ↦ inr (e ∙ are) ])

    pub replaced_not : Keeps g (record { records = log.records; forced = log.forced; pending = length buffer; reserved = log.reserved; torn_at = log.torn_at; failed = true; replacing = Some i; device = device; settled = log.settled }) last total buffer capacity
    replaced_not = record {
      is_log = record {
        spelled = k.is_log.spelled;
        order = k.is_log.order;
        based = k.is_log.based;
        leaves = λ h was. absurd (none_torn i (sym was.1));
        running = λ false. absurd cc;
        replaced = λ h was j tried c may. elim (crash c may) [
          | inl before ↦ inl (k.is_log.leaves (falls h) (was, none_tried) c before)
          | inr e ↦ inr (let same : i ≡ j = cc in e ∙ are ∙ ap (λ (n : ℕ). spelled (based n log.records)) same)
        ];
      };
      count = k.count;
      total = k.total;
      room = k.room;
      whole = k.whole;
      buffered = λ running. absurd cc;
    }

  -- fewer are counted as forced
  pub fewer_forced : {total : ℕ} (log : Logged L) (last : ℕ) (buffer : List ℕ) (capacity : ℕ) (forced : ℕ) → Keeps g log last total buffer capacity → forced ≤ log.forced → (0 < forced → gone log.records < forced)
      → Keeps g (record { records = log.records; forced = forced; pending = length buffer; reserved = log.reserved; torn_at = log.torn_at; failed = log.failed; replacing = log.replacing; device = log.device; settled = log.settled }) last total buffer capacity
  fewer_forced log last buffer capacity forced k le based = record {
    is_log = record {
      spelled = k.is_log.spelled;
      order = (let o = k.is_log.order in omega (arith, le, o));
      based = based;
      leaves = λ h was c left. fewer (k.is_log.leaves h was c left);
      running = k.is_log.running;
      replaced = λ h was i tried c left. ⊎_elim (λ a. inl (fewer a)) (λ b. inr b) (k.is_log.replaced h was i tried c left);
    };
    count = k.count;
    total = k.total;
    room = k.room;
    whole = λ some. k.whole (omega (arith, le, some));
    buffered = λ running. (let b = k.buffered running in let few = b.1 in (b.0, omega (arith, few, le), b.2, b.3));
  } where
    fewer : {c : List ℕ} → IsBeginning log.records log.forced c → IsBeginning log.records forced c
    fewer first = let few = first.1 in (first.0, omega (arith, few, le), first.2, λ some. first.3 (omega (arith, le, some)))
