-- What is so of a device whose records are read stays so.
use Rattle.std.proofs.Common.{◌≡◌, ◌≢◌, ◌⊎◌, ⊎_elim, inl, inr, ℕ, ◌+◌, ◌*◌, ◌<◌, ◌≤◌, true, false, List, [], ◌∷◌, ◌++◌, length, take, drop, refl, sym, ◌∙◌, ap, subst, arith, append_assoc, length-append}
use Rattle.std.proofs.lemmas.List.{append-nil, nil_from_length, take-append-drop}
use Rattle.rq_model.specs.declared.record.Record.{Record}
use Rattle.rq_disk.specs.declared.device.LogDevice.{Ghosts}
use Rattle.rq_record.specs.Decoding.{IsFront}
use Rattle.rq_record.specs.Spelling.{HoldsRecord, BeginsRecord, spelling}
use Rattle.rq_record.proofs.Whole.{one_spelling, short_spelling}
use Rattle.rq_model.specs.Bases.{IsMarked, is_base, standing, with_next}
use Rattle.rq_model.proofs.Bases.{length_standing, next_marked, next_stands}
use Rattle.rq_log.specs.Reading.{BeginsWith, EndsShort, HasMoreBehind, HasMost, HasRoomToRead, IsDamagedBehind, IsRead, IsReadBehind, IsReading, KeepsRead, Streamed, left_of}
use Rattle.rq_log.specs.Spelled.{spelled, spelled_all, AreAllSpelled}
use Rattle.rq_log.proofs.Moments.{joined, weaker}
use Rattle.rq_log.proofs.Parsing.{no_end}

-- no record has many bytes
pub few_bytes : (rs : List Record) → AreAllSpelled rs → length (spelled_all rs) ≤ 546 * length rs
few_bytes [] are = omega arith
few_bytes (r ∷ rs) are = let a = few_bytes rs are.1 in let b = short_spelling r are.0 in let c = length-append (spelled_all rs) (spelling r) in omega (arith, a, b, c)

-- what is read twice is only read
pub read_twice : {L : Type 0} (g : Ghosts L) (old mid new : L) → IsRead g old mid → IsRead g mid new → IsRead g old new
read_twice g old mid new a b = record {
  same = b.same ∙ a.same;
  honest = λ h. a.honest (b.honest h);
  leaves = λ c left. a.leaves c (b.leaves c left);
  moments = joined g old mid new (g.may_leave old) a.moments (weaker g mid new (g.may_leave mid) (g.may_leave old) b.moments a.leaves);
}

abbrev head_of : List ℕ → ℕ
head_of [] = 0
head_of (n ∷ l) = n

-- what stands at the front of two lists, and is no longer than the first, stands at its front
fits_first : (a b x y : List ℕ) → a ++ b ≡ x ++ y → length x ≤ length a → (rest : List ℕ) × (a ≡ x ++ rest)
fits_first a b [] y e le = (a, refl)
fits_first [] b (c ∷ x) y e le = absurd (omega arith)
fits_first (d ∷ a) b (c ∷ x) y e le =
    let p = fits_first a b x y (ap (drop 1) e) (omega (arith, le)) in
    (p.0, ap (λ l. d ∷ l) p.1 ∙ ap (λ n. n ∷ (x ++ p.0)) (ap head_of e))

-- no record stands in front of what is left, where none stands in what was read of it
none_left : (unread rest : List ℕ) → (HoldsRecord unread → ⊥) → (546 ≤ length unread) ⊎ (rest ≡ []) → HoldsRecord (unread ++ rest) → ⊥
none_left unread rest none (inl most) h =
    let size = short_spelling h.0 h.2 in
    let p = fits_first unread rest (spelling h.0) h.1 h.3 (omega (arith, size, most)) in
    none (h.0, p.0, h.2, p.1)
none_left unread rest none (inr all) h = none (h.0, h.1, h.2, sym (append-nil unread) ∙ ap (λ l. unread ++ l) (sym all) ∙ h.3)

none_empty : (unread rest : List ℕ) → unread ≢ [] → unread ++ rest ≢ []
none_empty [] rest some e = some refl
none_empty (b ∷ unread) rest some e = let n = ap length e in omega (arith, n)

begins_few : (unread : List ℕ) → BeginsRecord unread → 546 ≤ length unread → ⊥
begins_few unread b most =
    let size = short_spelling b.0 b.2 in let long = ap length b.4 in let sum = length-append unread b.1 in let more : 0 < length b.1 = b.3 in omega (arith, size, long, sum, more, most)

-- and what is no such beginning stays none
none_begins : (unread rest : List ℕ) → (BeginsRecord unread → ⊥) → (546 ≤ length unread) ⊎ (rest ≡ []) → BeginsRecord (unread ++ rest) → ⊥
none_begins unread rest none (inl most) b =
    let size = short_spelling b.0 b.2 in let long = ap length b.4 in let sum = length-append (unread ++ rest) b.1 in let parts = length-append unread rest in let more : 0 < length b.1 = b.3 in omega (arith, size, long, sum, parts, more, most)
none_begins unread rest none (inr all) b = none (subst BeginsRecord (ap (λ l. unread ++ l) all ∙ append-nil unread) b)

-- what begins with the next that was read begins with those before it
pub front_begins : (r : Record) (front : List Record) (bytes : List ℕ) → (is_base r ≡ false) ⊎ (front ≡ []) → BeginsWith (with_next r front) bytes → BeginsWith front bytes
front_begins r front bytes oldest h = (spelling r ++ h.0, h.1 ∙ ap (λ (rs : List Record). spelled_all rs ++ h.0) (next_stands r front oldest) ∙ append_assoc (spelled front) (spelling r) h.0)

module _ {L : Type 0} (g : Ghosts L) (records : List Record) (first : L) (last : ℕ) where
  pub room_to_read : (s : Streamed L) → KeepsRead g records s first last → HasRoomToRead s
  room_to_read s k = let a = few_bytes (standing records) k.are_spelled in let e = length_standing records in let b = k.place in let c = k.count in let d = k.few in omega (arith, a, b, c, d, e)

  pub is_reading : (s : Streamed L) → KeepsRead g records s first last → IsReading g (record { records = records; left = length s.unread; device = s.device; first = first })
  is_reading s k = record {
    are_spelled = k.are_spelled;
    marked = k.marked;
    begins = λ h. (left_of g s, k.front h);
    read = k.read;
  }

  -- more was read
  pub filled : (old s : Streamed L) → KeepsRead g records old first last → (g.honest s.device → left_of g s ≡ left_of g old) → s.at + length old.unread ≡ old.at + length s.unread → IsRead g old.device s.device → KeepsRead g records s first last
  filled old s k left place read = record {
    are_spelled = k.are_spelled;
    marked = k.marked;
    count = k.count;
    few = k.few;
    place = (let p = k.place in omega (arith, p, place));
    front = λ h. k.front (read.honest h) ∙ ap (λ l. spelled records ++ l) (sym (left h));
    read = read_twice g first old.device s.device k.read read;
  }

  -- the next record is taken
  pub taken : (s new : Streamed L) (r : Record) (used lsn : ℕ) (now : List Record) → KeepsRead g records s first last → IsReadBehind last r lsn → now ≡ with_next r records → IsFront r used s.unread → new ≡ record s { unread = drop used s.unread } → KeepsRead g now new first lsn
  taken s new r used lsn now k next grown is same =
      let oldest : (is_base r ≡ false) ⊎ (records ≡ []) = ⊎_elim (λ e. inl e) (λ none. inr (nil_from_length records (sym k.count ∙ none))) next.first in
      let stands : standing now ≡ r ∷ standing records = ap standing grown ∙ next_stands r records oldest in
      let spells : spelled now ≡ spelled records ++ spelling r = ap spelled_all stands in
      subst (λ (x : Streamed L). KeepsRead g now x first lsn) (sym same) (record {
        are_spelled = subst AreAllSpelled (sym stands) (is.0, k.are_spelled);
        marked = subst IsMarked (sym grown) (next_marked r records oldest k.marked);
        count = next.counts records (sym k.count) ∙ ap length (sym grown);
        few = next.few;
        place = (
            let p = k.place in
            let a = ap length spells ∙ length-append (spelled records) (spelling r) in
            let b = ap length is.2 in
            let c = ap length (take-append-drop used s.unread) in
            let d = length-append (take used s.unread) (drop used s.unread) in
            omega (arith, p, a, b, c, d)
            );
        front = λ h. k.front h
            ∙ ap (λ l. spelled records ++ (l ++ drop s.at (g.seen s.device))) (sym (take-append-drop used s.unread))
            ∙ ap (λ l. spelled records ++ ((l ++ drop used s.unread) ++ drop s.at (g.seen s.device))) is.2
            ∙ ap (λ l. spelled records ++ l) (append_assoc (spelling r) (drop used s.unread) (drop s.at (g.seen s.device)))
            ∙ sym (append_assoc (spelled records) (spelling r) (drop used s.unread ++ drop s.at (g.seen s.device)))
            ∙ ap (λ l. l ++ (drop used s.unread ++ drop s.at (g.seen s.device))) (sym spells);
        read = k.read;
      })

  -- what is left is some bytes
  pub more : (s : Streamed L) → KeepsRead g records s first last → s.unread ≢ [] → g.honest s.device → HasMoreBehind records (g.seen first)
  more s k some h = (left_of g s, none_empty s.unread (drop s.at (g.seen s.device)) some, k.front h)

  -- no more than a proper beginning of a record is left
  pub all_read : (s : Streamed L) → KeepsRead g records s first last → HasMost g 546 s → BeginsRecord s.unread → g.honest s.device → EndsShort records (length s.unread) (g.seen first)
  all_read s k (inl most) short h = absurd (begins_few s.unread short most)
  all_read s k (inr all) short h = record {
    end = s.unread;
    short = short;
    long = refl;
    is = k.front h ∙ ap (λ l. spelled records ++ (s.unread ++ l)) (all h) ∙ ap (λ l. spelled records ++ l) (append-nil s.unread);
  }

  -- what is left is no record
  pub damaged : (s : Streamed L) → KeepsRead g records s first last → HasMost g 546 s → (HoldsRecord s.unread → ⊥) → (BeginsRecord s.unread → ⊥) → g.honest s.device → IsDamagedBehind records (g.seen first)
  damaged s k most none some h =
      let few : (546 ≤ length s.unread) ⊎ (drop s.at (g.seen s.device) ≡ []) = ⊎_elim (λ m. inl m) (λ all. inr (all h)) most in
      record {
        rest = left_of g s;
        bad = λ there. absurd (none_left s.unread (drop s.at (g.seen s.device)) none few there);
        no_beginning = none_begins s.unread (drop s.at (g.seen s.device)) some few;
        is = k.front h;
      }

  -- it is a Base, which stands behind others
  pub misplaced : (s : Streamed L) (r : Record) (used : ℕ) → KeepsRead g records s first last → IsFront r used s.unread → is_base r ≡ true → last ≢ 0 → g.honest s.device → IsDamagedBehind records (g.seen first)
  misplaced s r used k is base some h =
      let rest : List ℕ = drop used s.unread ++ drop s.at (g.seen s.device) in
      let front : left_of g s ≡ spelling r ++ rest =
      ap (λ l. l ++ drop s.at (g.seen s.device)) (sym (take-append-drop used s.unread) ∙ ap (λ l. l ++ drop used s.unread) is.2) ∙ append_assoc (spelling r) (drop used s.unread) (drop s.at (g.seen s.device)) in
      record {
        rest = left_of g s;
        bad = λ there. (ap is_base (one_spelling there.0 r there.1 rest there.2 is.0 (sym there.3 ∙ front)).0 ∙ base, λ none. some (k.count ∙ ap length none));
        no_beginning = λ b. no_end r (left_of g s) rest is.0 b front;
        is = k.front h;
      }
