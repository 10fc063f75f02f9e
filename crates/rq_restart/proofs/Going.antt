-- Going through a log, one record after the other.
use Rattle.std.proofs.Common.{◌≡◌, ◌⊎◌, inl, inr, true, false, ℕ, ◌+◌, ◌-◌, ◌%◌, ◌^◌, ◌<◌, ◌≤◌, List, length-append, ◌∷◌, length, refl, sym, ◌∙◌, ap, subst, arith}
use Rattle.rq_disk.specs.Device.{Images}
use Rattle.rq_model.specs.declared.refusal.Refusal.{Refusal}
use Rattle.rq_model.specs.declared.refusal.Refusal.TheVariants as why
use Rattle.rq_model.specs.declared.refusal.Damage.TheVariants as damage
use Rattle.rq_disk.specs.declared.device.LogDevice.{Ghosts}
use Rattle.rq_log.specs.Reading.{BeginsWith, HasMoreBehind, IsDamagedBehind, IsReading, LogRead, StopsFor}
use Rattle.rq_log.specs.Spelled.{AreAllSpelled, AreSpelled, spelled, spelled_all}
use Rattle.rq_log.proofs.Keeping.{front_begins}
use Rattle.rq_model.specs.declared.record.Record.{Record}
use Rattle.rq_page.specs.Sizes.{Sizes}
use Rattle.rq_store.specs.Opening.{FitsUpTo, IsLeft, MayRedo}
use Rattle.rq_store.specs.Fitting.{oldest}
use Rattle.rq_store.specs.Whole.{IsWhole}
use Rattle.rq_store.proofs.Cutting.{whole_dropped}
use Rattle.rq_store.proofs.Bounds.{may_redo}
use Rattle.rq_analysis.specs.OpenWorkView.{open_work_of, open_work_after}
use Rattle.rq_analysis.specs.Dues.{dues, dues_after}
use Rattle.rq_analysis.specs.Numbers.{numbers_after}
use Rattle.rq_analysis.specs.LogTables.{ended_after}
use Rattle.rq_model.specs.declared.record.Record.TheVariants as records
use Rattle.rq_model.specs.Bases.{base_lsn, is_base, marked, marks, standing}
use Rattle.rq_model.proofs.Bases.{next_plain, standing_plain}
use Rattle.rq_model.specs.Incarnations.{IsNext}
use Rattle.rq_analysis.specs.Rules.{IsNextIn}
use Rattle.rq_analysis.proofs.Marked.{marked_incarnation, marked_length}
use Rattle.rq_analysis.proofs.Whole.{whole_logs}
use Rattle.rq_restart.specs.declared.analysis.Analysis.{Analysis}
use Rattle.rq_restart.specs.Found.{IsAnalysisOf, analysis_after}
use Rattle.rq_restart.specs.Refused.{IsBadNext, IsNotForced, IsStoppedBehind, IsWanting, LacksPage, NotRepeated}
use Rattle.rq_restart.specs.Repeating.{Belongs, Repeats}
use Rattle.rq_restart.specs.Undoing.{IsToBeWritten}
use Rattle.rq_record.specs.Spelling.{spelling}
use Rattle.rq_restart.specs.Places.{places_after, places_of}
use Rattle.rq_restart.proofs.Placing.{base_noted}
use Rattle.rq_restart.proofs.Repeated.{first_less, marked_more, next_in, order_more, up_to}

-- how many bytes are known with one record more
size_more : (log : List Record) (r : Record) → is_base r ≡ false → length (spelled log) + length (spelling r) ≡ length (spelled (r ∷ log))
size_more log r plain = sym (ap (λ l. length (spelled_all l)) (standing_plain r log plain) ∙ length-append (spelled_all (standing log)) (spelling r))

-- what is found with one record more, which is the next of its incarnation
pub found_next : (f k : Analysis) (log : List Record) (r : Record) (lsn : ℕ) → lsn ≡ length log + 1 → is_base r ≡ false → length (spelled (r ∷ log)) < 2 ^ 64 → IsAnalysisOf f log → IsNextIn log r → k ≡ analysis_after lsn r f → IsAnalysisOf k (r ∷ log)
found_next f k log r lsn place plain few are next e = record {
  open_work = ap (λ (x : Analysis). x.open_work) e ∙ ap (open_work_after lsn r) are.open_work ∙ ap (λ n. open_work_after n r (open_work_of log)) place;
  dues = ap (λ (x : Analysis). x.dues) e ∙ ap (dues_after lsn r) are.dues ∙ ap (λ n. dues_after n r (dues log)) place;
  numbers = ap (λ (x : Analysis). x.numbers) e ∙ ap (numbers_after r) are.numbers;
  ended = ap (λ (x : Analysis). x.ended) e ∙ ap (ended_after r) are.ended;
  places = ap (λ (x : Analysis). x.places) e ∙ ap (places_after lsn f.size r) are.places ∙ ap (λ n. places_after n f.size r (places_of log)) place ∙ ap (λ n. places_after (length log + 1) n r (places_of log)) are.size;
  size =
      let is = ap (λ (x : Analysis). x.size) e in
      let before = are.size in
      let all = size_more log r plain in
      omega (arith, is, before, all, few);
  order = order_more log r plain next are.order;
  marked = marked_more log r plain are.marked;
}

-- and behind a Base, with which a log begins
module _ (f k : Analysis) (many i lsn : ℕ) (some : 1 ≤ i) (within : i ≤ many) (none : f.size ≡ 0) (few : length (spelling (records.Base many i)) < 2 ^ 64) (e : k ≡ analysis_after lsn (records.Base many i) f) where
  abbrev begun : List Record
  begun = records.Base many i ∷ marks many

  pub found_base : IsAnalysisOf k begun
  found_base = record {
    open_work = ap (λ (x : Analysis). x.open_work) e;
    dues = ap (λ (x : Analysis). x.dues) e;
    numbers = ap (λ (x : Analysis). x.numbers) e;
    ended = ap (λ (x : Analysis). x.ended) e;
    places = ap (λ (x : Analysis). x.places) e ∙ sym (base_noted lsn f.size f.places many i) ∙ base_noted (length (marks many) + 1) (length (spelled (marks many))) (places_of (marks many)) many i;
    size = (let is = ap (λ (x : Analysis). x.size) e in omega (arith, is, none, few));
    order = ((some, within), tt);
    marked = refl;
  }

-- a Base makes nothing of the pages
pub base_is : (r : Record) → is_base r ≡ true → (many : ℕ) × (i : ℕ) × (r ≡ records.Base many i)
base_is (records.Base many i) base = (many, i, refl)
base_is _ base = absurd (cc base)

pub base_repeated : (z : Sizes) (many i : ℕ) → 1 ≤ i → i ≤ many → (first last : Images) → last ≡ first → Repeats z (records.Base many i ∷ marks many) first last
base_repeated z many i some within first last same = (
  last,
  same,
  record {
    belongs = record { next = (some, within); follows = record { running = tt; going = tt; begun = tt; numbered = tt; undoes = tt; takes_back = tt; reads = tt; begins = refl }; may = record { write = tt; before = tt } };
    redone = λ p. refl;
  },
)

-- why no more was read of a device that was only read before
stops_from : {L : Type 0} (g : Ghosts L) (old met new : L) (front : List Record) → g.seen met ≡ g.seen old → g.faults met ≡ g.faults old → (e : Refusal) → StopsFor g e front met new → StopsFor g e front old new
stops_from g old met new front same counted why.LogFull h = (h.0, λ k. subst (HasMoreBehind front) same (h.1 k), h.2 ∙ counted)
stops_from g old met new front same counted why.DiskRead h = h ∙ ap (λ n. (n + 1) % 2 ^ 64) counted
stops_from g old met new front same counted (why.Damaged (damage.Record lsn)) h = (h.0, λ k. subst (IsDamagedBehind front) same (h.1 k), h.2 ∙ counted)
stops_from g old met new front same counted _ h = absurd h

-- what was read first is repeated on these images, and nothing behind it
module _ {L : Type 0} (g : Ghosts L) (z : Sizes) (first : Images) (reader : LogRead L) (reading : IsReading g reader) (front : List Record) (mid : Images) (repeated : Repeats z front first mid) where
  abbrev Stopped : Refusal → Type 0
  Stopped e = IsStoppedBehind g z first e reader.first reader.device

  -- no more was read
  pub stopped_here : reader.records ≡ front → (met : L) → g.seen met ≡ g.seen reader.first → g.faults met ≡ g.faults reader.first → (e : Refusal) → StopsFor g e front met reader.device → Stopped e
  stopped_here all met same counted e stops = record {
    front = front;
    are_spelled = subst AreSpelled all reading.are_spelled;
    begins = λ h. subst (λ (rs : List Record). BeginsWith rs (g.seen reader.first)) all (reading.begins h);
    mid = mid;
    repeated = repeated;
    why = inl (stops_from g reader.first met reader.device front same counted e stops);
    read = reading.read;
  }

  -- one record more was, which is no Base
  module _ (r : Record) (plain : is_base r ≡ false) (grown : reader.records ≡ r ∷ front) (counted : g.faults reader.device ≡ g.faults reader.first) where
    told : AreAllSpelled (r ∷ standing front)
    told = subst AreAllSpelled (standing_plain r front plain) (subst AreSpelled grown reading.are_spelled)

    begins : g.honest reader.device → BeginsWith (r ∷ front) (g.seen reader.first)
    begins h = subst (λ (rs : List Record). BeginsWith rs (g.seen reader.first)) grown (reading.begins h)

    stopped_for : (e : Refusal) → (IsWanting g z front mid e reader.first reader.device ⊎ (IsBadNext g z front mid e reader.first reader.device ⊎ (LacksPage g z front e reader.first reader.device ⊎ IsNotForced g front e reader.first reader.device))) → Stopped e
    stopped_for e why = record {
      front = front;
      are_spelled = told.1;
      begins = λ h. front_begins r front (g.seen reader.first) (inl plain) (subst (λ (rs : List Record). BeginsWith rs (g.seen reader.first)) (sym (next_plain r front plain)) (begins h));
      mid = mid;
      repeated = repeated;
      why = inr why;
      read = reading.read;
    }

    -- it was not repeated
    pub stopped_next : (e : Refusal) → NotRepeated z front r mid e → Stopped e
    stopped_next why.NoMemory h = stopped_for why.NoMemory (inl (refl, counted, inr (record { newest = r; is_record = told.0; begins = begins; grown = h })))
    stopped_next (why.Damaged (damage.Record lsn)) h = stopped_for (why.Damaged (damage.Record lsn)) (inr (inl (record {
      newest = r;
      is_record = told.0;
      plain = plain;
      begins = begins;
      told = ap (λ n. why.Damaged (damage.Record n)) h.0;
      bad = h.1;
      counted = counted;
    })))
    stopped_next _ h = absurd h

    -- or its page could not be had
    pub stopped_without : (page : ℕ) → IsToBeWritten z r page → (e : Refusal) → (e ≡ why.DiskRead) ⊎ (e ≡ why.DiskWrite) → Stopped e
    stopped_without page wants e is = stopped_for e (inr (inr (inl (record { newest = r; is_record = told.0; begins = begins; page = page; wants = wants; is = is; counted = counted }))))

-- of a store that was left so, a record of its log belongs behind those before it, as they are read
pub left_belongs : (z : Sizes) (log front : List Record) (r : Record) (first mid : Images) → is_base r ≡ false → oldest (length (r ∷ front)) log ≡ r ∷ front → length (r ∷ front) ≤ length log → base_lsn front ≡ base_lsn log → IsLeft z first log → Repeats z (marked front) first mid
    → Belongs z (marked front) r mid
left_belongs z log front r first mid plain grows within same left repeated =
    let i = length front in
    let up : i + 1 ≡ length (r ∷ front) = omega arith in
    let before : oldest i log ≡ front = first_less z log first left r front grows within in
    let grown : oldest (i + 1) log ≡ r ∷ oldest i log = ap (λ (n : ℕ). oldest n log) up ∙ grows ∙ ap (λ l. r ∷ l) (sym before) in
    let fits : FitsUpTo z mid log i = (up_to z log first left front before (omega (arith, within)) same mid repeated).fits in
    let w : IsWhole z (r ∷ front) = subst (IsWhole z) grows (whole_dropped z (length log - length (r ∷ front)) log left.whole) in
    record {
      next = next_in (marked front) r plain (subst (λ (n : ℕ). IsNext n r) (sym (marked_incarnation front)) w.order.0);
      follows = whole_logs.one z front r w plain;
      may = subst (λ (n : ℕ). MayRedo z mid (n + 1) r) (sym (marked_length front w.based.1)) (may_redo z log mid i r left.whole.legal left.whole.in_store left.whole.befores (omega (arith, within)) grown fits);
    }
