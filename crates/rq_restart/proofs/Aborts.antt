-- Undoing lost transactions, record by record.
use Rattle.std.proofs.Common.{◌≡◌, ◌+◌, ℕ, zero, suc, true, false, not, ◌<◌, List, [], ◌∷◌, ◌++◌, length, take, None, Some, refl, sym, ◌∙◌, ap, subst, arith}
use Rattle.std.specs.List.{slice_get}
use Rattle.std.proofs.lemmas.List.{take_all}
use Rattle.rq_disk.specs.Device.{Images}
use Rattle.rq_model.specs.declared.record.Record.{Record}
use Rattle.rq_model.specs.Bases.{is_base}
use Rattle.rq_engine.specs.Earlier.{rebased}
use Rattle.rq_model.specs.declared.record.Record.TheVariants as records
use Rattle.rq_model.specs.declared.refusal.Refusal.{Refusal}
use Rattle.rq_model.specs.declared.refusal.Refusal.TheVariants as why
use Rattle.rq_model.specs.declared.refusal.Damage.TheVariants as damage
use Rattle.rq_model.specs.declared.txn.Txn.{Txn}
use Rattle.rq_model.specs.Incarnations.{Extends, incarnation_of, is_plain}
use Rattle.rq_model.proofs.Cuts.{extends_join}
use Rattle.rq_model.specs.Deeds.{deed_by}
use Rattle.rq_model.specs.Unended.{lost}
use Rattle.rq_model.specs.Vocabulary.{In, same_txn}
use Rattle.rq_page.specs.Sizes.{Sizes}
use Rattle.rq_pool.specs.Pooled.{Pooled}
use Rattle.rq_level.specs.declared.writes.SlotWrite.{SlotWrite}
use Rattle.rq_store.specs.State.{State}
use Rattle.rq_store.specs.Steps.{page_op}
use Rattle.rq_sound.specs.Rows.{comp_end}
use Rattle.rq_planner.specs.Backs.{IsTakingBack}
use Rattle.rq_store.specs.Whole.{IsWhole}
use Rattle.rq_analysis.specs.OpenWorkView.{OpenWorkView, open_work_of, without_txn}
use Rattle.rq_analysis.proofs.Lists.{filter_less}
use Rattle.rq_analysis.specs.Choices.{least_free}
use Rattle.rq_analysis.proofs.Choosing.{least_there}
use Rattle.rq_model.proofs.Lists.{same_self}
use Rattle.rq_analysis.proofs.Noting.{noted_active}
use Rattle.rq_restart.specs.declared.analysis.Analysis.{Analysis}
use Rattle.rq_restart.specs.Found.{IsAnalysisOf}
use Rattle.rq_analysis.specs.declared.dues.PendingUndo.{PendingUndo}
use Rattle.rq_restart.specs.Aborting.{AbortStops, AbortsBehind, AbortsFrom, AbortsOn, ArePlanned, AreRounds, HasGoneOn, IsAborting, IsBadStep, IsNextRound, IsMaking, IsOnItsWay, IsPlannedOn, IsTakenNext, OfStore, RepeatedSince, Round, after_round, after_rounds, with_writes}
use Rattle.rq_restart.specs.Aborting.Round.{Ends, TakesBack}
use Rattle.rq_restart.specs.Aborting.IsAborting.{Between, Within}
use Rattle.rq_restart.specs.Aborting.IsBadStep.{BadDue, BadRecord}
use Rattle.rq_restart.specs.Repeating.{ArePagesCounted, Belongs, IsRecordRedone, Repeats, paged, slots_on}
use Rattle.rq_store.specs.Fitting.{image_in}
use Rattle.rq_restart.specs.Undoing.{NamesDevice, StepStops}
use Rattle.rq_restart.proofs.Repeated.{before_from, counted_more}

-- ---- rounds

pub join_rounds : (xs ys : List Round) (log : List Record) → after_rounds (xs ++ ys) log ≡ after_rounds xs (after_rounds ys log)
join_rounds [] ys log = refl
join_rounds (x ∷ xs) ys log = ap (after_round x) (join_rounds xs ys log)

pub join_turns : (xs ys : List Round) (log : List Record) → AreRounds (after_rounds ys log) xs → AreRounds log ys → AreRounds log (xs ++ ys)
join_turns [] ys log h k = k
join_turns (x ∷ xs) ys log h k = (subst (λ l. IsNextRound l x) (sym (join_rounds xs ys log)) h.0, join_turns xs ys log h.1 k)

abbrev pub behind_join : (a b c : List Record) → AbortsBehind a b → AbortsBehind b c → AbortsBehind a c
behind_join a b c h k = record {
  rounds = k.rounds ++ h.rounds;
  turns = join_turns k.rounds h.rounds a (subst (λ l. AreRounds l k.rounds) (sym h.are) k.turns) h.turns;
  are = join_rounds k.rounds h.rounds a ∙ ap (after_rounds k.rounds) h.are ∙ k.are;
}

abbrev pub behind_none : (log : List Record) → AbortsBehind log log
behind_none log = record { rounds = []; turns = tt; are = refl }

-- the end of one that is next
abbrev pub behind_end : (log : List Record) (t : Txn) → IsNextRound log (Ends t) → AbortsBehind log (records.AbortEnd t ∷ log)
behind_end log t turn = record { rounds = Ends t ∷ []; turns = (turn, tt); are = refl }

-- what is due first is taken back by these writes
abbrev pub behind_taken : (log now : List Record) (d : PendingUndo) (n : ℕ) (ws : List SlotWrite) → IsTakenNext log d n → with_writes d.txn n ws log ≡ now → AbortsBehind log (comp_end d.txn n d.lsn ∷ now)
behind_taken log now d n ws next are = record { rounds = TakesBack d n ws ∷ []; turns = (next, tt); are = ap (λ l. comp_end d.txn n d.lsn ∷ l) are }

-- ---- each planned

pub plan_weaker : (z : Sizes) (one other : Images → Type 0) → ((p : Images) → one p → other p) → (d : PendingUndo) (ws : List SlotWrite) → IsPlannedOn z one d ws → IsPlannedOn z other d ws
plan_weaker z one other j d ws h = record { pages = h.pages; on_pages = j h.pages h.on_pages; plan = h.plan }

module _ (z : Sizes) (one other : List Record → Images → Type 0) (j : (l : List Record) (p : Images) → one l p → other l p) where
  pub planned_weaker : (log : List Record) (rs : List Round) → ArePlanned z one log rs → ArePlanned z other log rs
  planned_weaker log [] h = tt
  planned_weaker log (Ends t ∷ rs) h = planned_weaker log rs h
  planned_weaker log (TakesBack d n ws ∷ rs) h = (plan_weaker z (one (after_rounds rs log)) (other (after_rounds rs log)) (j (after_rounds rs log)) d ws h.0, planned_weaker log rs h.1)

  aborts_weaker : (log now : List Record) → AbortsOn z one log now → AbortsOn z other log now
  aborts_weaker log now a = record { behind = a.behind; planned = planned_weaker log a.behind.rounds a.planned }

  pub aborting_weaker : (log now : List Record) → IsAborting z one log now → IsAborting z other log now
  aborting_weaker log now (Between a) = Between (aborts_weaker log now a)
  aborting_weaker log now (Within older d n ws made a next plan are) = Within older d n ws made (aborts_weaker log older a) next (plan_weaker z (one older) (other older) (j older) d ws plan) are

module _ (z : Sizes) (on : List Record → Images → Type 0) where
  join_planned : (xs ys : List Round) (log : List Record) → ArePlanned z on (after_rounds ys log) xs → ArePlanned z on log ys → ArePlanned z on log (xs ++ ys)
  join_planned [] ys log h k = k
  join_planned (Ends t ∷ xs) ys log h k = join_planned xs ys log h k
  join_planned (TakesBack d n ws ∷ xs) ys log h k = (subst (λ l. IsPlannedOn z (on l) d ws) (sym (join_rounds xs ys log)) h.0, join_planned xs ys log h.1 k)

  pub aborts_none : (log : List Record) → AbortsOn z on log log
  aborts_none log = record { behind = behind_none log; planned = tt }

  pub aborting_none : (log : List Record) → IsAborting z on log log
  aborting_none log = Between (aborts_none log)

  -- the end of one that is next
  pub aborts_end : (log : List Record) (t : Txn) → IsNextRound log (Ends t) → AbortsOn z on log (records.AbortEnd t ∷ log)
  aborts_end log t turn = record { behind = behind_end log t turn; planned = tt }

  same_join : (a b c : List Record) → AbortsOn z on a b → AbortsOn z on b c → AbortsOn z on a c
  same_join a b c h k = record {
    behind = behind_join a b c h.behind k.behind;
    planned = join_planned k.behind.rounds h.behind.rounds a (subst (λ l. ArePlanned z on l k.behind.rounds) (sym h.behind.are) k.planned) h.planned;
  }

  same_aborting : (a b c : List Record) → AbortsOn z on a b → IsAborting z on b c → IsAborting z on a c
  same_aborting a b c h (Between k) = Between (same_join a b c h k)
  same_aborting a b c h (Within older d n ws made k next plan are) = Within older d n ws made (same_join a b older h k) next plan are

  -- the first writes of what is due first, and all of them with their end
  pub making_aborts : (log now : List Record) (d : PendingUndo) (n : ℕ) (ws : List SlotWrite) → IsTakenNext log d n → IsPlannedOn z (on log) d ws → IsMaking d.txn n ws log now → IsAborting z on log now
  making_aborts log now d n ws next plan m = Within log d n ws m.made (aborts_none log) next plan m.are

  pub closing_aborts : (log now : List Record) (d : PendingUndo) (n : ℕ) (ws : List SlotWrite) → IsTakenNext log d n → IsPlannedOn z (on log) d ws → with_writes d.txn n ws log ≡ now → AbortsOn z on log (comp_end d.txn n d.lsn ∷ now)
  closing_aborts log now d n ws next plan are = record { behind = behind_taken log now d n ws next are; planned = (plan, tt) }

-- from pages that the log before was repeated on
module _ (z : Sizes) (a b : List Record) (old mid : Images) (repeated : RepeatedSince z a old b mid) where
  since : (l : List Record) (p : Images) → RepeatedSince z b mid l p → RepeatedSince z a old l p
  since l p h first k = h first (repeated first k)

  pub aborts_join : (c : List Record) → AbortsOn z (RepeatedSince z a old) a b → AbortsOn z (RepeatedSince z b mid) b c → AbortsOn z (RepeatedSince z a old) a c
  aborts_join c h k = same_join z (RepeatedSince z a old) a b c h (aborts_weaker z (RepeatedSince z b mid) (RepeatedSince z a old) since b c k)

  pub aborting_join : (c : List Record) → AbortsOn z (RepeatedSince z a old) a b → IsAborting z (RepeatedSince z b mid) b c → IsAborting z (RepeatedSince z a old) a c
  aborting_join c h k = same_aborting z (RepeatedSince z a old) a b c h (aborting_weaker z (RepeatedSince z b mid) (RepeatedSince z a old) since b c k)

-- what is planned over the pages as they are
pub planned_here : (z : Sizes) (log : List Record) (old : Images) (d : PendingUndo) (ws : List SlotWrite) → IsTakingBack z (slots_on z old) (deed_by d.level d.deed) ws → IsPlannedOn z (RepeatedSince z log old log) d ws
planned_here z log old d ws plan = record { pages = old; on_pages = λ first k. k; plan = plan }

-- ---- writes of an operation

writes_snoc : (t : Txn) (n : ℕ) (ws : List SlotWrite) (w : SlotWrite) (log : List Record) → with_writes t n (ws ++ w ∷ []) log ≡ page_op t n w ∷ with_writes t n ws log
writes_snoc t n [] w log = refl
writes_snoc t n (x ∷ ws) w log = writes_snoc t n ws w (page_op t n x ∷ log)

take_more : (ws : List SlotWrite) (i : ℕ) (w : SlotWrite) → slice_get ws i ≡ Some w → take (i + 1) ws ≡ take i ws ++ w ∷ []
take_more [] i w e = (let no : None ≡ Some w = e in cc no)
take_more (x ∷ ws) zero w e = (let is : Some x ≡ Some w = e in let same : x ≡ w = cc is in ap (λ y. y ∷ []) same)
take_more (x ∷ ws) (suc i) w e =
    let next : suc i + 1 ≡ suc (i + 1) = omega arith in
    ap (λ n. take n (x ∷ ws)) next ∙ ap (λ l. x ∷ l) (take_more ws i w e)

-- one more of them is made
pub making_more : (t : Txn) (n : ℕ) (ws : List SlotWrite) (i : ℕ) (w : SlotWrite) (log now : List Record) → slice_get ws i ≡ Some w → with_writes t n (take i ws) log ≡ now → with_writes t n (take (i + 1) ws) log ≡ page_op t n w ∷ now
making_more t n ws i w log now e are = ap (λ l. with_writes t n l log) (take_more ws i w e) ∙ writes_snoc t n (take i ws) w log ∙ ap (λ l. page_op t n w ∷ l) are

pub all_made : (t : Txn) (n : ℕ) (ws : List SlotWrite) (log now : List Record) → with_writes t n (take (length ws) ws) log ≡ now → with_writes t n ws log ≡ now
all_made t n ws log now are = ap (λ l. with_writes t n l log) (sym (take_all (length ws) ws (omega arith))) ∙ are

-- they are plain records, of the same incarnation
writes_extend : (t : Txn) (n : ℕ) (ws : List SlotWrite) (log : List Record) → Extends log (with_writes t n ws log)
writes_extend t n [] log = ([], refl, tt)
writes_extend t n (w ∷ ws) log = extends_join log (page_op t n w ∷ log) (with_writes t n ws (page_op t n w ∷ log)) (page_op t n w ∷ [], refl, (refl, tt)) (writes_extend t n ws (page_op t n w ∷ log))

one_extends : (log now : List Record) (r : Record) → is_plain r ≡ true → Extends log now → Extends log (r ∷ now)
one_extends log now r plain e = (r ∷ e.0, ap (λ l. r ∷ l) e.1, (plain, e.2))

round_extends : (log now : List Record) (r : Round) → Extends log now → Extends log (after_round r now)
round_extends log now (Ends t) e = one_extends log now (records.AbortEnd t) refl e
round_extends log now (TakesBack d n ws) e =
    one_extends log (with_writes d.txn n ws now) (comp_end d.txn n d.lsn) refl (extends_join log now (with_writes d.txn n ws now) e (writes_extend d.txn n ws now))

rounds_extend : (log : List Record) (rs : List Round) → Extends log (after_rounds rs log)
rounds_extend log [] = ([], refl, tt)
rounds_extend log (r ∷ rs) = round_extends log (after_rounds rs log) r (rounds_extend log rs)

pub aborting_extends : (log now : List Record) → AbortsBehind log now → Extends log now
aborting_extends log now a = subst (Extends log) a.are (rounds_extend log a.rounds)

same_writes : (t : Txn) (n : ℕ) (ws : List SlotWrite) (log : List Record) → incarnation_of (with_writes t n ws log) ≡ incarnation_of log
same_writes t n [] log = refl
same_writes t n (w ∷ ws) log = same_writes t n ws (page_op t n w ∷ log)

same_round : (r : Round) (log : List Record) → incarnation_of (after_round r log) ≡ incarnation_of log
same_round (Ends t) log = refl
same_round (TakesBack d n ws) log = same_writes d.txn n ws log

same_rounds : (rs : List Round) (log : List Record) → incarnation_of (after_rounds rs log) ≡ incarnation_of log
same_rounds [] log = refl
same_rounds (r ∷ rs) log = same_round r (after_rounds rs log) ∙ same_rounds rs log

pub aborting_incarnation : (log now : List Record) → AbortsBehind log now → incarnation_of now ≡ incarnation_of log
aborting_incarnation log now a = ap incarnation_of (sym a.are) ∙ same_rounds a.rounds log

-- ---- a record more

module _ {P : Type 0} (z : Sizes) (behind : Type 0) (log : List Record) (r : Record) (old new : Pooled P) (before after : List Record → State → Type 0) (is : behind) where
  pub one_gone : is_base r ≡ false → IsRecordRedone z log r (paged old) (paged new) → OfStore z before after → HasGoneOn z behind log (r ∷ log) old new before after
  one_gone plain one shown = record {
    aborting = is;
    repeated = λ first h. (paged old, before_from (paged old ≡ first) r plain h, one);
    counted = λ h. subst (λ n. ArePagesCounted z n (paged new)) (let e : length log + 1 ≡ length (r ∷ log) = omega arith in e) (counted_more z log r (paged old) (paged new) one h);
    shown = shown;
  }

-- why it was not made
module _ {P : Type 0} (z : Sizes) (behind : List Record → Type 0) (log : List Record) (r : Record) (old : Pooled P) (before : List Record → State → Type 0) (here : behind log) (next : behind (r ∷ log)) where
  pub one_stops : (e : Refusal) → StepStops (length log) (Belongs z log r (paged old)) e → OfStore z before (λ e base. IsOnItsWay base (rebased e log)) → OfStore z before (λ e base. Belongs z log r (paged old)) → AbortStops z behind log old before e
  one_stops why.NoMemory s way belongs = tt
  one_stops why.LogFull s way belongs = record { last = log; aborting = here; full = s; way = way }
  one_stops (why.Damaged (damage.Record lsn)) s way belongs = record {
    last = log;
    aborting = here;
    bad = λ first h. BadRecord r (paged old) next s.0 h s.1;
    none = λ x base k same b. s.1 (belongs x base k same b);
  }
  one_stops _ s way belongs = absurd s

-- a device failed
pub device_stops : {P : Type 0} (z : Sizes) (behind : List Record → Type 0) (log : List Record) (old : Pooled P) (before : List Record → State → Type 0) (e : Refusal) → NamesDevice e → AbortStops z behind log old before e
device_stops z behind log old before why.DiskRead names = tt
device_stops z behind log old before why.DiskWrite names = tt
device_stops z behind log old before _ names = absurd names

-- what stops behind the one is what stops behind the other
module _ (z : Sizes) (one other : List Record → Type 0) (j : (l : List Record) → one l → other l) where
  pub bad_weaker : (first : Images) (last : List Record) (lsn : ℕ) → IsBadStep z one first last lsn → IsBadStep z other first last lsn
  bad_weaker first last lsn (BadRecord newest mid next place repeated bad) = BadRecord newest mid (j (newest ∷ last) next) place repeated bad
  bad_weaker first last lsn (BadDue due older images mid is nobody place same repeated bad) = BadDue due older images mid is nobody place same repeated bad

module _ {P : Type 0} (z : Sizes) (came : Type 0) (log mid : List Record) (old now : Pooled P) (before between : List Record → State → Type 0) (g : HasGoneOn z came log mid old now before between) where
  pub gone_join : (more all : Type 0) (last : List Record) (new : Pooled P) (after : List Record → State → Type 0) → (came → more → all) → HasGoneOn z more mid last now new between after → HasGoneOn z all log last old new before after
  gone_join more all last new after j h = record {
    aborting = j g.aborting h.aborting;
    repeated = λ first k. h.repeated first (g.repeated first k);
    counted = λ k. h.counted (g.counted k);
    shown = λ x base k same b. h.shown x base k same (g.shown x base k same b);
  }

  pub stops_join : (one other : List Record → Type 0) → (came → (l : List Record) → one l → other l) → (e : Refusal) → AbortStops z one mid now between e → AbortStops z other log old before e
  stops_join one other j why.NoMemory s = tt
  stops_join one other j why.DiskRead s = tt
  stops_join one other j why.DiskWrite s = tt
  stops_join one other j why.LogFull s = record {
    last = s.last;
    aborting = j g.aborting s.last s.aborting;
    full = s.full;
    way = λ x base k same b. s.way x base k same (g.shown x base k same b);
  }
  stops_join one other j (why.Damaged (damage.Record lsn)) s = record {
    last = s.last;
    aborting = j g.aborting s.last s.aborting;
    bad = λ first h. bad_weaker z one other (j g.aborting) first s.last lsn (s.bad first (g.repeated first h));
    none = λ x base k same b. s.none x base k same (g.shown x base k same b);
  }
  stops_join one other j _ s = absurd s

-- no record came, and the pages are as they were: a store of which the one is so is one of which the other is
pub alike_gone : {P : Type 0} (z : Sizes) (log now : List Record) (old new : Pooled P) (before after : List Record → State → Type 0) → now ≡ log → new.images ≡ old.images → OfStore z before after → HasGoneOn z (Unit {0}) log now old new before after
alike_gone z log now old new before after same images f = record {
  aborting = tt;
  repeated = λ first h. subst (λ (rs : List Record). Repeats z rs first (paged new)) (sym same) (subst (λ (i : List (List ℕ)). Repeats z log first (image_in i)) (sym images) h);
  counted = λ h. subst (λ (rs : List Record). ArePagesCounted z (length rs) (paged new)) (sym same) (subst (λ (i : List (List ℕ)). ArePagesCounted z (length log) (image_in i)) (sym images) h);
  shown = f;
}

-- nothing was ended or taken back
pub nothing_gone : {P : Type 0} (z : Sizes) (log : List Record) (old : Pooled P) (before : List Record → State → Type 0) → HasGoneOn z (AbortsFrom z log old log) log log old old before before
nothing_gone z log old before = record { aborting = aborts_none z (RepeatedSince z log (paged old)) log; repeated = λ first h. h; counted = λ h. h; shown = λ x base k same b. b }

-- of a whole log those that are noted are lost
pub active_lost : (z : Sizes) (log : List Record) → IsWhole z log → (open_work_of log).active ≡ lost log
active_lost z log w = noted_active z log w.legal w.reads

-- the next of those that have no end is one of them, and fewer are left once it has its end
pub ended_less : (log now : List Record) (f g : Analysis) (t : Txn) → IsAnalysisOf f log → IsAnalysisOf g now → now ≡ records.AbortEnd t ∷ log → least_free f.dues f.open_work.active ≡ Some t → length g.open_work.active < length f.open_work.active
ended_less log now f g t are then grown e =
    let there : In t f.open_work.active = least_there f.dues f.open_work.active t e in
    let off : not (same_txn t t) ≡ false = ap not (same_self t) in
    let less = filter_less (λ (u : Txn). not (same_txn t u)) f.open_work.active t there off in
    let same : g.open_work.active ≡ without_txn t f.open_work.active = ap (λ (h : OpenWorkView). h.active) (then.open_work ∙ ap open_work_of grown) ∙ ap (λ (h : OpenWorkView). without_txn t h.active) (sym are.open_work) in
    let n : length g.open_work.active ≡ length (without_txn t f.open_work.active) = ap length same in
    omega (arith, less, n)
