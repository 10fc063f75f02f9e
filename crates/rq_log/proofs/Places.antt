-- What stands at a place of a log, and that a record stands whole where it is handed over or buffered.
use Rattle.std.proofs.Common.{◌≡◌, ◌≢◌, ⊎_elim, ℕ, zero, suc, ◌+◌, ◌-◌, ◌^◌, ◌<◌, ◌≤◌, min, false, List, [], ◌∷◌, ◌++◌, Some, None, length, take, drop, refl, sym, ◌∙◌, ap, subst, arith, append_assoc, length-append}
use Rattle.std.proofs.Math.Seq.{drop-append_seam, drop-append-add, take-append-add, take-append_seam}
use Rattle.std.proofs.lemmas.List.{drop-append-le, take-append-drop, length-take-le, length-drop}
use Rattle.rq_model.specs.declared.record.Record.{Record}
use Rattle.rq_record.specs.Decoding.{IsFront}
use Rattle.rq_record.specs.Spelling.{HoldsRecord, IsRecord, spelling}
use Rattle.rq_record.proofs.Whole.{long_spelling, one_spelling, short_spelling}
use Rattle.rq_log.specs.Places.{IsAt, IsPlace, IsPlaceAmong, NoneHeldFor, NoneReadFor, NotReadAgainFor, NotToldFor, StandsAmong}
use Rattle.rq_log.specs.Reading.{KeepsRead, Streamed, left_of}
use Rattle.rq_model.specs.declared.refusal.Refusal.{Refusal}
use Rattle.rq_model.specs.declared.refusal.Refusal.TheVariants as why
use Rattle.rq_model.specs.declared.refusal.Damage.TheVariants as damage
use Rattle.rq_disk.specs.declared.device.LogDevice.{Ghosts}
use Rattle.rq_log.specs.Spelled.{spelled, spelled_all, AreAllSpelled, EndsWithAll}
use Rattle.rq_log.specs.Logged.{Logged, held, Keeps}
use Rattle.rq_log.proofs.Runs.{holds_ends, spelled-append, spelled_whole}
use Rattle.std.proofs.lemmas.Bool.{cases_lt}

-- one record stands at the front of bytes at most
one_front : (r s : Record) (used : ℕ) (bytes rest : List ℕ) → IsFront r used bytes → IsRecord s → bytes ≡ spelling s ++ rest → (r ≡ s) × (used ≡ length (spelling s))
one_front r s used bytes rest front is e =
    let whole : spelling r ++ drop used bytes ≡ spelling s ++ rest = ap (λ l. l ++ drop used bytes) (sym front.2) ∙ take-append-drop used bytes ∙ e in
    let same = (one_spelling r s (drop used bytes) rest front.0 is whole).0 in
    let size : used ≡ length (spelling s) = sym (length-take-le used bytes front.1) ∙ ap length front.2 ∙ ap (λ x. length (spelling x)) same in
    (same, size)

AreAllSpelled-behind : (newer older : List Record) → AreAllSpelled (newer ++ older) → AreAllSpelled older
AreAllSpelled-behind [] older are = are
AreAllSpelled-behind (r ∷ newer) older are = AreAllSpelled-behind newer older are.1

-- the next record stands at the place where the older ones end
next_stands : (newer older : List Record) (r : Record) → drop (length (spelled_all older)) (spelled_all (newer ++ (r ∷ older))) ≡ spelling r ++ spelled_all newer
next_stands newer older r =
    ap (drop (length (spelled_all older))) (spelled-append newer (r ∷ older) ∙ append_assoc (spelled_all older) (spelling r) (spelled_all newer))
    ∙ drop-append_seam (spelled_all older) (spelling r ++ spelled_all newer)

next_longer : (newer older : List Record) (r : Record) → length (spelled_all (r ∷ older)) ≤ length (spelled_all (newer ++ (r ∷ older)))
next_longer newer older r = let a = ap length (spelled-append newer (r ∷ older)) in let b = length-append (spelled_all (r ∷ older)) (spelled_all newer) in omega (arith, a, b)

older_shorter : (count : ℕ) (rs : List Record) → length (spelled_all (drop count rs)) ≤ length (spelled_all rs)
older_shorter zero rs = omega arith
older_shorter (suc count) [] = omega arith
older_shorter (suc count) (r ∷ rs) = let a = older_shorter count rs in let b = length-append (spelled_all rs) (spelling r) in omega (arith, a, b)

-- of those that are handed over it stands there whole
next_handed : (count : ℕ) (newer older : List Record) (r : Record) → length (spelled_all older) < length (spelled_all (drop count (newer ++ (r ∷ older))))
    → (rest : List ℕ) × (drop (length (spelled_all older)) (spelled_all (drop count (newer ++ (r ∷ older)))) ≡ spelling r ++ rest)
next_handed zero newer older r less = (spelled_all newer, next_stands newer older r)
next_handed (suc count) [] older r less = let a = older_shorter count older in absurd (omega (arith, a, less))
next_handed (suc count) (n ∷ newer) older r less = next_handed count newer older r less

-- what some records end with is one of them
last_of : (a : Record) (newer older : List Record) → (rest : List Record) × (r : Record) × ((a ∷ newer) ++ older ≡ rest ++ (r ∷ older))
last_of a [] older = ([], a, refl)
last_of a (b ∷ newer) older = let p = last_of b newer older in (a ∷ p.0, p.1, ap (λ l. a ∷ l) p.2)

-- behind a place that is not the end a record stands
next_at : (records : List Record) (place : ℕ) → IsPlaceAmong records place → place ≢ length (spelled_all records)
    → (newer : List Record) × (older : List Record) × (r : Record) × (records ≡ newer ++ (r ∷ older)) × (place ≡ length (spelled_all older))
next_at records place ([], older, e, at) behind = absurd (behind (at ∙ ap (λ l. length (spelled_all l)) (sym e)))
next_at records place (a ∷ newer, older, e, at) behind =
    let p = last_of a newer older in
    (p.0, older, p.1, e ∙ p.2, at)

-- at the end there is none
pub stands_none : (records : List Record) (place : ℕ) → AreAllSpelled records → place ≡ length (spelled_all records) → StandsAmong records place None
stands_none records place are at = record {
  next = λ newer older r is from. absurd (
      let a = long_spelling r (AreAllSpelled-behind newer (r ∷ older) (subst AreAllSpelled is are)).0 in
      let b = next_longer newer older r in
      let c = ap (λ l. length (spelled_all l)) is in
      let d = length-append (spelled_all older) (spelling r) in
      omega (arith, a, b, c, d, at, from)
      );
  none = (λ _. at, λ _. refl);
}

-- elsewhere it is what stands in front of bytes in which each record of that place stands
stands_some : (records : List Record) (place : ℕ) (r : Record) (used next : ℕ) (bytes : List ℕ) → AreAllSpelled records → place ≢ length (spelled_all records) → IsFront r used bytes
    → ((newer older : List Record) (s : Record) → records ≡ newer ++ (s ∷ older) → place ≡ length (spelled_all older) → (rest : List ℕ) × (bytes ≡ spelling s ++ rest))
    → next ≡ min (place + used) (2 ^ 64 - 1) → length (spelled_all records) < 2 ^ 64 → StandsAmong records place (Some (r, next))
stands_some records place r used next bytes are behind front there goes few = record {
  next = λ newer older s is from.
      let fit = (AreAllSpelled-behind newer (s ∷ older) (subst AreAllSpelled is are)).0 in
      let stands = there newer older s is from in
      let same = one_front r s used bytes stands.0 front fit stands.1 in
      let size = length-append (spelled_all older) (spelling s) in
      let longer = next_longer newer older s in
      let all = ap (λ l. length (spelled_all l)) is in
      let behind : next ≡ length (spelled_all older ++ spelling s) = omega (arith, size, from, same.1, goes, longer, all, few) in
      ap (λ x. Some (x, next)) same.0 ∙ ap (λ n. Some (s, n)) behind;
  none = (λ e. absurd cc, λ at. absurd (behind at));
}

behind_seen : (seen buffer : List ℕ) (place : ℕ) → length seen ≤ place → drop (place - length seen) buffer ≡ drop place (seen ++ buffer)
behind_seen seen buffer place le =
    let n : place ≡ length seen + (place - length seen) = omega (arith, le) in
    sym (ap (λ k. drop k (seen ++ buffer)) n ∙ drop-append-add seen buffer (place - length seen))

-- what stands at the front of bytes stands at the front of the first 546 of them
holds_most : (count : ℕ) (bytes : List ℕ) → count ≡ min 546 (length bytes) → HoldsRecord bytes → HoldsRecord (take count bytes)
holds_most count bytes is h =
    let most = short_spelling h.0 h.2 in
    let size = ap length h.3 ∙ length-append (spelling h.0) h.1 in
    let n : count ≡ length (spelling h.0) + (count - length (spelling h.0)) = omega (arith, is, most, size) in
    (h.0, take (count - length (spelling h.0)) h.1, h.2, ap (take count) h.3 ∙ ap (λ k. take k (spelling h.0 ++ h.1)) n ∙ take-append-add (spelling h.0) h.1 (count - length (spelling h.0)))

-- in bytes that were read of a device no record stands, and neither does one on the device
pub none_on_device : (count place : ℕ) (seen read more : List ℕ) → count ≡ min 546 (length seen - place) → read ≡ take count (drop place seen) ++ more → (HoldsRecord (take count read) → ⊥) → HoldsRecord (drop place seen) → ⊥
none_on_device count place seen read more is reads none h =
    let left = length-drop place seen in
    let n : count ≡ min 546 (length (drop place seen)) = omega (arith, is, left) in
    let size = length-take-le count (drop place seen) (omega (arith, n)) in
    none (subst HoldsRecord (sym (ap (take count) reads ∙ ap (λ k. take k (take count (drop place seen) ++ more)) (sym size) ∙ take-append_seam (take count (drop place seen)) more)) (holds_most count (drop place seen) n h))

module _ {L : Type 0} (g : Ghosts L) where
  pub none_read : (e : Refusal) (bytes : List ℕ) (old new : L) → e ≡ why.Damaged (damage.Record 0) → g.faults new ≡ g.faults old → (g.honest new → HoldsRecord bytes → ⊥) → NoneReadFor g e bytes old new
  none_read e bytes old new is same none = subst (λ r. NoneReadFor g r bytes old new) (sym is) (refl, same, none)

  -- what was not held was not read either
  held_read : (e : Refusal) (bytes : List ℕ) (old new : L) → NoneHeldFor g e bytes old new → (e ≢ why.DiskRead) × NoneReadFor g e bytes old new
  held_read (why.Damaged (damage.Record lsn)) bytes old new n = (λ e. absurd cc, n)
  held_read _ bytes old new n = absurd n

  -- where it stands at no place
  pub not_told : (e : Refusal) (records : List Record) (place : ℕ) (bytes : List ℕ) (old new : L) → (e ≡ why.DiskRead → g.honest new → length (spelled records) < 2 ^ 64 → place < length (g.seen old)) → (g.honest new → length (spelled records) < 2 ^ 64 → (HoldsRecord bytes → ⊥) → IsPlace records place → ⊥)
      → NoneReadFor g e bytes old new → NotToldFor g e records place old new
  not_told why.DiskRead records place bytes old new handed f n = (n, handed refl)
  not_told (why.Damaged (damage.Record lsn)) records place bytes old new handed f n = (n.0, n.1, λ h few. f h few (n.2 h))
  not_told _ records place bytes old new handed f n = absurd n

  -- of a log: what stands in front of the bytes from a place on, on its device or in its buffer, stands at that place
  module _ {total : ℕ} (log : Logged L) (last : ℕ) (buffer : List ℕ) (capacity : ℕ) (k : Keeps g log last total buffer capacity) (running : log.failed ≡ false) (handed place : ℕ) (is : handed ≡ total - length buffer) (behind : place ≢ total)
      (h : g.honest log.device) (few : length (spelled log.records) < 2 ^ 64) where
    abbrev older : List Record
    older = drop (k.buffered running).0 (held log)

    ends : EndsWithAll older (g.seen log.device)
    ends = holds_ends log.torn_at older (g.seen log.device) ((k.buffered running).2 h)

    whole : spelled_all older ++ buffer ≡ spelled log.records
    whole = ap (λ (l : List ℕ). spelled_all older ++ l) (k.buffered running).3 ∙ spelled_whole (k.buffered running).0 (held log)

    seen : handed ≡ length (spelled_all older)
    seen = let size = k.total few in let sum = length-append (spelled_all older) buffer in let e = ap length whole in omega (arith, is, size, sum, e)

    on_it : handed ≤ length (g.seen log.device)
    on_it = let sum = length-append (spelled_all older) ends.0 in let e = ap length ends.2 in let n = seen in omega (arith, sum, e, n)

    not_end : place ≢ length (spelled log.records)
    not_end e = behind (e ∙ sym (k.total few))

    -- a record of that place stands on the device, whole
    on_device_there : place < handed → (newer old : List Record) (s : Record) → (held log) ≡ newer ++ (s ∷ old) → place ≡ length (spelled_all old) → (rest : List ℕ) × (drop place (g.seen log.device) ≡ spelling s ++ rest)
    on_device_there less newer old s e at =
        let n = next_handed (k.buffered running).0 newer old s (subst (λ l. length (spelled_all old) < length (spelled_all (drop (k.buffered running).0 l))) e (subst (λ m. m < length (spelled_all older)) at (subst (λ m. place < m) seen less))) in (
          n.0 ++ ends.0,
          ap (drop place) ends.2 ∙ drop-append-le place (spelled_all older) ends.0 (let m = seen in omega (arith, less, m))
              ∙ ap (λ l. l ++ ends.0) (ap (λ m. drop m (spelled_all older)) at ∙ ap (λ l. drop (length (spelled_all old)) (spelled_all (drop (k.buffered running).0 l))) e ∙ n.1) ∙ append_assoc (spelling s) n.0 ends.0,
        )

    -- or in the buffer
    buffered_there : handed ≤ place → (newer old : List Record) (s : Record) → (held log) ≡ newer ++ (s ∷ old) → place ≡ length (spelled_all old) → (rest : List ℕ) × (drop (place - handed) buffer ≡ spelling s ++ rest)
    buffered_there le newer old s e at = (
      spelled_all newer,
      ap (λ n. drop (place - n) buffer) seen ∙ behind_seen (spelled_all older) buffer place (let m = seen in omega (arith, le, m)) ∙ ap (drop place) whole
          ∙ ap (λ n. drop n (spelled log.records)) at ∙ ap (λ l. drop (length (spelled_all old)) (spelled_all l)) e ∙ next_stands newer old s,
    )

    pub told : (next : ℕ) (r : Record) (used : ℕ) → (place < handed → IsFront r used (drop place (g.seen log.device))) → (handed ≤ place → IsFront r used (drop (place - handed) buffer)) → next ≡ min (place + used) (2 ^ 64 - 1)
        → StandsAmong (held log) place (Some (r, next))
    told next r used on_device buffered goes = ⊎_elim
        (λ less. stands_some (held log) place r used next (drop place (g.seen log.device)) k.is_log.spelled not_end (on_device less) (on_device_there less) goes few)
        (λ le. stands_some (held log) place r used next (drop (place - handed) buffer) k.is_log.spelled not_end (buffered le) (buffered_there le) goes few)
        (cases_lt place handed)

    -- where none does, the place is none of the log's
    not_there : (bytes : List ℕ) → ((newer old : List Record) (s : Record) → (held log) ≡ newer ++ (s ∷ old) → place ≡ length (spelled_all old) → (rest : List ℕ) × (bytes ≡ spelling s ++ rest)) → (HoldsRecord bytes → ⊥) → IsPlaceAmong (held log) place → ⊥
    not_there bytes there none at =
        let p = next_at (held log) place at not_end in
        let n = there p.0 p.1 p.2 p.3 p.4 in
        none (p.2, n.0, (AreAllSpelled-behind p.0 (p.2 ∷ p.1) (subst AreAllSpelled p.3 k.is_log.spelled)).0, n.1)

  -- and where none does, the place is none of the log's
  pub why_not_told : {total : ℕ} (log : Logged L) (last : ℕ) (buffer : List ℕ) (capacity : ℕ) → Keeps g log last total buffer capacity → log.failed ≡ false → (handed place : ℕ) → handed ≡ total - length buffer → place ≢ total
      → (e : Refusal) (new : L) → (g.honest new → g.honest log.device) → (place < handed → NoneReadFor g e (drop place (g.seen log.device)) log.device new) → (handed ≤ place → NoneHeldFor g e (drop (place - handed) buffer) log.device new)
      → NotToldFor g e log.records place log.device new
  why_not_told log last buffer capacity k running handed place is behind e new falls on_device buffered = ⊎_elim
      (λ less. not_told e log.records place (drop place (g.seen log.device)) log.device new
      (λ _ h few. let n = on_it log last buffer capacity k running handed place is behind (falls h) few in omega (arith, less, n))
      (λ h few. not_there log last buffer capacity k running handed place is behind (falls h) few (drop place (g.seen log.device)) (on_device_there log last buffer capacity k running handed place is behind (falls h) few less))
      (on_device less))
      (λ le. not_told e log.records place (drop (place - handed) buffer) log.device new
      (λ why_is. absurd ((held_read e (drop (place - handed) buffer) log.device new (buffered le)).0 why_is))
      (λ h few. not_there log last buffer capacity k running handed place is behind (falls h) few (drop (place - handed) buffer) (buffered_there log last buffer capacity k running handed place is behind (falls h) few le))
      (held_read e (drop (place - handed) buffer) log.device new (buffered le)).1)
      (cases_lt place handed)

  -- of a device that is read: a record that was read stands there, whole
  module _ (records : List Record) (s : Streamed L) (first : L) (last : ℕ) (k : KeepsRead g records s first last) where
    read_there : g.honest s.device → (place : ℕ) (r : Record) → IsAt records place r → (rest : List ℕ) × (drop place (g.seen s.device) ≡ spelling r ++ rest)
    read_there h place r at =
        let newer = at.0 in
        let older = at.1 in
        let a = next_longer newer older r in
        let b = length-append (spelled_all older) (spelling r) in (
          spelled_all newer ++ left_of g s,
          ap (drop place) (k.read.same ∙ k.front h ∙ ap (λ l. spelled_all l ++ left_of g s) at.2) ∙ ap (λ n. drop n (spelled_all (newer ++ (r ∷ older)) ++ left_of g s)) at.3
              ∙ drop-append-le (length (spelled_all older)) (spelled_all (newer ++ (r ∷ older))) (left_of g s) (omega (arith, a, b))
              ∙ ap (λ l. l ++ left_of g s) (next_stands newer older r) ∙ append_assoc (spelling r) (spelled_all newer) (left_of g s),
        )

    is_record : (place : ℕ) (r : Record) → IsAt records place r → IsRecord r
    is_record place r at = (AreAllSpelled-behind at.0 (r ∷ at.1) (subst AreAllSpelled at.2 k.are_spelled)).0

    -- so it is the one in front of the bytes from there on
    pub read_again : g.honest s.device → (place : ℕ) (found : Record) (used : ℕ) → IsFront found used (drop place (g.seen s.device)) → (r : Record) → IsAt records place r → found ≡ r
    read_again h place found used front r at = let there = read_there h place r at in (one_front found r used (drop place (g.seen s.device)) there.0 front (is_record place r at) there.1).0

    pub not_read_again : (e : Refusal) (place : ℕ) (new : L) → (g.honest new → g.honest s.device) → NoneReadFor g e (drop place (g.seen s.device)) s.device new → NotReadAgainFor g e records place s.device new
    not_read_again why.DiskRead place new falls n = n
    not_read_again (why.Damaged (damage.Record lsn)) place new falls n = (n.0, n.1, λ h r at. let there = read_there (falls h) place r at in n.2 h (r, there.0, is_record place r at, there.1), n.2)
    not_read_again _ place new falls n = absurd n
