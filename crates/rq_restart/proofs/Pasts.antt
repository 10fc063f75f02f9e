-- A log as it was read, and the logs that read so.
use Rattle.std.proofs.Common.{◌≡◌, ◌⊎◌, ℕ, zero, suc, ◌+◌, ◌≤◌, true, List, [], ◌∷◌, ◌++◌, length, take, drop, append_assoc, refl, sym, ◌∙◌, ap, subst, inl, inr, arith}
use Rattle.rq_model.specs.declared.record.Record.{Record}
use Rattle.rq_model.specs.declared.record.Record.TheVariants as records
use Rattle.rq_model.specs.declared.record.Record.TheVariants.{Base, Restart}
use Rattle.rq_model.specs.declared.txn.Txn.{Txn}
use Rattle.rq_model.specs.Bases.{HasNoBase, IsMarked, earlier, marked, standing}
use Rattle.rq_model.specs.Incarnations.{ArePlain, incarnation_of, is_plain}
use Rattle.rq_model.proofs.Bases.{added_plain, length_marks, marked_alone, marked_stands, next_same, none_stand, read_marked}
use Rattle.rq_log.specs.Spelled.{AreSpelled, EndsWith}
use Rattle.rq_log.proofs.Parsing.{one_log}
use Rattle.rq_page.specs.Sizes.{Sizes}
use Rattle.rq_store.specs.Opening.{IsLeft}
use Rattle.rq_store.specs.Whole.{AreBased, IsBased}
use Rattle.rq_disk.specs.Device.{Images}
use Rattle.rq_engine.specs.Earlier.{IsEarlier, on, rebased, unknown}
use Rattle.rq_engine.proofs.Earlier.{own}
use Rattle.rq_analysis.specs.OpenWorkView.{OpenWorkView, open_work_of}
use Rattle.rq_analysis.specs.Dues.{dues}
use Rattle.rq_analysis.specs.Numbers.{numbers}
use Rattle.rq_analysis.specs.Pages.{IsNextUndo, IsUndoing, IsUndone, UndoesBehind, undo_of, void_of}
use Rattle.rq_analysis.specs.Pages.IsNextUndo.{Undoes, Voids}
use Rattle.rq_analysis.proofs.Marked.{marked_dues, marked_incarnation, marked_length, marked_numbers, marked_work}
use Rattle.rq_restart.specs.Past.{IsPast, WhereLeft}
use Rattle.rq_level.specs.declared.writes.SlotWrite.{SlotWrite}
use Rattle.rq_sound.specs.Rows.{comp_end}
use Rattle.rq_store.specs.Opening.{next_restart, opened}
use Rattle.rq_store.specs.State.{State}
use Rattle.rq_store.specs.Steps.{page_op}
use Rattle.rq_restart.specs.Aborting.{AbortsBehind, IsAborting, Round, after_round, after_rounds, with_writes}
use Rattle.rq_restart.specs.Aborting.IsAborting.{Between, Within}
use Rattle.rq_restart.specs.Aborting.Round.{Ends, TakesBack}
use Rattle.rq_restart.specs.Restarting.{IsOpenedOver}
use Rattle.rq_restart.specs.RolledBack.{IsRolledBack}

-- ---- what is kept of both is the same

module _ (e log : List Record) (past : IsPast e log) where
  abbrev whole : List Record
  whole = rebased e log

  pub incarnation_on : incarnation_of whole ≡ incarnation_of log
  incarnation_on = sym (marked_incarnation whole) ∙ ap incarnation_of past

  pub numbers_on : numbers whole ≡ numbers log
  numbers_on = sym (marked_numbers whole) ∙ ap numbers past

  pub standing_on : standing whole ≡ standing log
  standing_on = sym (marked_stands whole) ∙ ap standing past

  module _ (based : AreBased whole) where
    pub length_on : length whole ≡ length log
    length_on = sym (marked_length whole based) ∙ ap (λ (l : List Record). length l) past

    pub work_on : open_work_of whole ≡ open_work_of log
    work_on = sym (marked_work whole based) ∙ ap open_work_of past

    pub dues_on : dues whole ≡ dues log
    dues_on = sym (marked_dues whole based) ∙ ap dues past

-- ---- of a log that stands on a device

-- what was read of it has marks for what stood before its Base
pub earlier_back : (log : List Record) → AreSpelled log → rebased (earlier log) (marked log) ≡ log
earlier_back [] told = refl
earlier_back (Base zero i ∷ log) told = absurd (let some = told.0.0.0 in omega (arith, some))
earlier_back (Base (suc n) i ∷ log) told = refl
earlier_back (Restart zero ∷ log) told = absurd (let some = told.0.0 in omega (arith, some))
earlier_back (Restart (suc i) ∷ log) told = ap (λ (l : List Record). Restart (suc i) ∷ l) (earlier_back log told.1)
earlier_back (r ∷ log) told = ap (λ (l : List Record). r ∷ l) (earlier_back log told.1)

pub past_of : (log : List Record) → AreSpelled log → IsPast (earlier log) (marked log)
past_of log told = ap marked (earlier_back log told)

-- what bytes tell
pub read_is : (read log : List Record) (bytes : List ℕ) → IsMarked read → AreSpelled read → AreSpelled log → EndsWith read bytes → EndsWith log bytes → read ≡ marked log
read_is read log bytes m are told ends end = read_marked read log m (one_log (standing read) (standing log) bytes are told ends end)

-- so it is of a store that was left
pub left_there : {z : Sizes} {image : Images} {Q : List Record → Type 0} (read log : List Record) → read ≡ marked log → AreSpelled log → WhereLeft z image read Q → IsLeft z image log → Q (earlier log)
left_there {z} {image} {Q} read log same told w left =
    let back = earlier_back log told in
    w (earlier log) (subst (IsPast (earlier log)) (sym same) (past_of log told)) (subst (IsLeft z image) (sym back ∙ ap (rebased (earlier log)) (sym same)) left)

-- two logs of which the same stands, and the same stood before their Bases
pub same_log : (a b : List Record) → standing a ≡ standing b → earlier a ≡ earlier b → a ≡ b
same_log [] [] e past = refl
same_log [] (q ∷ b) e past = absurd (let none = none_stand (q ∷ b) (sym e) in omega (arith, none))
same_log (r ∷ a) [] e past = absurd (let none = none_stand (r ∷ a) e in omega (arith, none))
same_log (Base many i ∷ a) (Base n j ∷ b) e past = (let same : Base many i ≡ Base n j = cc in ap (λ (l : List Record). Base many i ∷ l) past ∙ ap (λ (r : Record). r ∷ b) same)
same_log (Base many i ∷ a) (q ∷ b) e past = absurd (let bad : Base many i ∷ [] ≡ q ∷ standing b = e in cc bad)
same_log (r ∷ a) (Base n j ∷ b) e past = absurd (let bad : r ∷ standing a ≡ Base n j ∷ [] = e in cc bad)
same_log (r ∷ a) (q ∷ b) e past =
    let same : r ≡ q = cc in
    let rest : standing a ≡ standing b = cc in
    ap (λ (x : Record). x ∷ a) same ∙ ap (λ (l : List Record). q ∷ l) (same_log a b rest past)

-- ---- records behind

module _ (e : List Record) where
  -- plain records behind what was read of a log are so behind the log
  pub record IsAddedOn (log now : List Record) : Type 0 where
    pub more : List Record
    pub plain : ArePlain more
    pub are : more ++ log ≡ now
    pub there : more ++ rebased e log ≡ rebased e now
    pub past : IsPast e log → IsPast e now
    pub based : AreBased (rebased e log) → AreBased (rebased e now)

  pub added_none : (log : List Record) → IsAddedOn log log
  added_none log = record { more = []; plain = tt; are = refl; there = refl; past = λ p. p; based = λ b. b }

  -- one that is no Base and no mark
  pub added_one : (log : List Record) (r : Record) → is_plain r ≡ true → r ∷ rebased e log ≡ rebased e (r ∷ log) → IsAddedOn log (r ∷ log)
  added_one log r plain stays = record {
    more = r ∷ [];
    plain = (plain, tt);
    are = refl;
    there = stays;
    past = λ p. ap marked (sym stays) ∙ next_same r (rebased e log) (added_plain r plain) ∙ ap (λ (l : List Record). r ∷ l) p;
    based = λ b. subst AreBased stays (based_one r plain, b);
  } where
    based_one : (q : Record) → is_plain q ≡ true → IsBased (rebased e log) q
    based_one (Base many i) plain = absurd (cc plain)
    based_one _ plain = tt

  pub past_more : (log : List Record) (r : Record) → is_plain r ≡ true → r ∷ rebased e log ≡ rebased e (r ∷ log) → IsPast e log → IsPast e (r ∷ log)
  past_more log r plain stays past = (added_one log r plain stays).past past

  pub added_join : (a b c : List Record) → IsAddedOn a b → IsAddedOn b c → IsAddedOn a c
  added_join a b c h k = record {
    more = k.more ++ h.more;
    plain = plain_join k.more h.more k.plain h.plain;
    are = append_assoc k.more h.more a ∙ ap (λ (l : List Record). k.more ++ l) h.are ∙ k.are;
    there = append_assoc k.more h.more (rebased e a) ∙ ap (λ (l : List Record). k.more ++ l) h.there ∙ k.there;
    past = λ p. k.past (h.past p);
    based = λ b. k.based (h.based b);
  } where
    plain_join : (xs ys : List Record) → ArePlain xs → ArePlain ys → ArePlain (xs ++ ys)
    plain_join [] ys h k = k
    plain_join (x ∷ xs) ys h k = (h.0, plain_join xs ys h.1 k)

  -- records by which operations without an end are undone
  pub undo_added : (log : List Record) (h : OpenWorkView) (r : Record) → IsNextUndo h r → IsAddedOn log (r ∷ log)
  undo_added log h r (Voids o s least is) = subst (λ (q : Record). IsAddedOn log (q ∷ log)) (sym is) (added_one log (void_of o) refl refl)
  undo_added log h r (Undoes p ps none first is) = subst (λ (q : Record). IsAddedOn log (q ∷ log)) (sym is) (added_one log (undo_of p) refl refl)

  front_added : (log front : List Record) → UndoesBehind log front → IsAddedOn log (front ++ log)
  front_added log [] u = added_none log
  front_added log (r ∷ front) u = added_join log (front ++ log) (r ∷ (front ++ log)) (front_added log front u.1) (undo_added (front ++ log) (open_work_of (front ++ log)) r u.0)

  pub undoing_added : (log undone : List Record) → IsUndoing log undone → IsAddedOn log undone
  undoing_added log undone u = subst (IsAddedOn log) u.are (front_added log u.front u.undoes)

  front_there : (log front : List Record) → UndoesBehind log front → rebased e (front ++ log) ≡ front ++ rebased e log
  front_there log [] u = refl
  front_there log (r ∷ front) u = one_there r u.0 ∙ ap (λ (l : List Record). r ∷ l) (front_there log front u.1) where
    one_there : (q : Record) → IsNextUndo (open_work_of (front ++ log)) q → rebased e (q ∷ (front ++ log)) ≡ q ∷ rebased e (front ++ log)
    one_there q (Voids o s least is) = rw is refl
    one_there q (Undoes p ps none first is) = rw is refl

  module _ (log : List Record) (past : IsPast e log) (based : AreBased (rebased e log)) where
    front_on : (front : List Record) → UndoesBehind log front → UndoesBehind (rebased e log) front
    front_on [] u = tt
    front_on (r ∷ front) u =
        let k = front_added log front u.1 in
        let are = front_there log front u.1 in
        let work : open_work_of (front ++ rebased e log) ≡ open_work_of (front ++ log) = ap open_work_of (sym are) ∙ work_on e (front ++ log) (k.past past) (k.based based) in
        (subst (λ (h : OpenWorkView). IsNextUndo h r) (sym work) u.0, front_on front u.1)

    pub undoing_on : (undone : List Record) → IsUndoing log undone → IsUndoing (rebased e log) (rebased e undone)
    undoing_on undone u = record { front = u.front; are = sym (front_there log u.front u.undoes) ∙ ap (rebased e) u.are; undoes = front_on u.front u.undoes }

    pub undone_on : (undone : List Record) → IsUndone log undone → IsUndone (rebased e log) (rebased e undone)
    undone_on undone u =
        let k = undoing_added log undone u.undoing in
        record { undoing = undoing_on undone u.undoing; none = ap (λ (h : OpenWorkView). h.unfinished) (work_on e undone (k.past past) (k.based based)) ∙ u.none }

  -- and those by which lost transactions are
  writes_added : (t : Txn) (n : ℕ) (ws : List SlotWrite) (log : List Record) → IsAddedOn log (with_writes t n ws log)
  writes_added t n [] log = added_none log
  writes_added t n (w ∷ ws) log = added_join log (page_op t n w ∷ log) (with_writes t n ws (page_op t n w ∷ log)) (added_one log (page_op t n w) refl refl) (writes_added t n ws (page_op t n w ∷ log))

  round_added : (r : Round) (log : List Record) → IsAddedOn log (after_round r log)
  round_added (Ends t) log = added_one log (records.AbortEnd t) refl refl
  round_added (TakesBack d n ws) log =
      let made : List Record = with_writes d.txn n ws log in
      added_join log made (comp_end d.txn n d.lsn ∷ made) (writes_added d.txn n ws log) (added_one made (comp_end d.txn n d.lsn) refl refl)

  rounds_added : (rs : List Round) (log : List Record) → IsAddedOn log (after_rounds rs log)
  rounds_added [] log = added_none log
  rounds_added (r ∷ rs) log = added_join log (after_rounds rs log) (after_round r (after_rounds rs log)) (rounds_added rs log) (round_added r (after_rounds rs log))

  pub behind_added : (log now : List Record) → AbortsBehind log now → IsAddedOn log now
  behind_added log now a = subst (IsAddedOn log) a.are (rounds_added a.rounds log)

  pub aborting_added : (z : Sizes) (on : List Record → Images → Type 0) (log now : List Record) → IsAborting z on log now → IsAddedOn log now
  aborting_added z on log now (Between a) = behind_added log now a.behind
  aborting_added z on log now (Within older d n ws made a next plan are) = subst (IsAddedOn log) are (added_join log older (with_writes d.txn n (take made ws) older) (behind_added log older a.behind) (writes_added d.txn n (take made ws) older))

  -- what mends a log mends each that reads so
  pub mended_added : (log now : List Record) → IsRolledBack log now → IsAddedOn log now
  mended_added log now m = added_join log m.undone now (undoing_added log m.undone m.undoes.undoing) (behind_added m.undone now m.aborting)

  -- the record that begins the next incarnation
  restart_stays : (log : List Record) (n : ℕ) → 1 ≤ n → Restart n ∷ rebased e log ≡ rebased e (Restart n ∷ log)
  restart_stays log zero some = absurd (omega (arith, some))
  restart_stays log (suc n) some = refl

  pub begun_added : (log : List Record) → IsAddedOn log (next_restart log ∷ log)
  begun_added log = added_one log (next_restart log) refl (restart_stays log (incarnation_of log + 1) (omega arith))

  pub begun_on : (log : List Record) → IsPast e log → rebased e (next_restart log ∷ log) ≡ next_restart (rebased e log) ∷ rebased e log
  begun_on log past = sym (restart_stays log (incarnation_of log + 1) (omega arith)) ∙ ap (λ (i : ℕ). Restart (i + 1) ∷ rebased e log) (sym (incarnation_on e log past))

  -- so it is of the store that opens
  pub opened_on : (z : Sizes) (images : List (List ℕ)) (log : List Record) → IsPast e log → AreBased (rebased e log) → on e (opened z images log) ≡ opened z images (rebased e log)
  opened_on z images log past based =
      let i = incarnation_on e log past in
      let n = length_on e log past based in
      ap (λ (l : List Record). record (opened z images log) { records = l }) (begun_on log past)
      ∙ ap (λ (k : ℕ). record (opened z images log) { records = next_restart (rebased e log) ∷ rebased e log; forced = suc k }) (sym n)
      ∙ ap (λ (k : ℕ). record (opened z images (rebased e log)) { incarnation = k + 1 }) (sym i)

-- of a log without a Base all is known
pub mended_alone : (older : List Record) → HasNoBase older → AreSpelled older → (rolled_back : List Record) → IsRolledBack older rolled_back → rebased (earlier older) rolled_back ≡ rolled_back
mended_alone older plain told rolled_back m =
    let e : List Record = earlier older in
    let alone : marked older ≡ older = marked_alone older plain in
    let k = mended_added e (marked older) rolled_back (subst (λ (l : List Record). IsRolledBack l rolled_back) (sym alone) m) in
    sym k.there ∙ ap (λ (l : List Record). k.more ++ l) (earlier_back older told ∙ sym alone) ∙ k.are

-- ---- how many are unknown of a store that was opened

-- as many as stood before its Base
as_many : (log : List Record) → AreSpelled log → AreBased log → length (earlier log) ≡ length (unknown (marked log))
as_many [] told based = refl
as_many (Base zero i ∷ log) told based = absurd (let some = told.0.0.0 in omega (arith, some))
as_many (Base (suc n) i ∷ log) told based = sym based.0 ∙ ap suc (sym (length_marks n))
as_many (Restart zero ∷ log) told based = absurd (let some = told.0.0 in omega (arith, some))
as_many (Restart (suc i) ∷ log) told based = as_many log told.1 based.1
as_many (r ∷ log) told based = as_many log told.1 based.1

-- nothing else is unknown where those stand that are
itself : (u log : List Record) → rebased u log ≡ log → (unknown log ≡ []) ⊎ (unknown log ≡ u)
itself u [] e = inl refl
itself u (Restart zero ∷ log) e = inr (sym e)
itself u (Restart (suc i) ∷ log) e = (let rest : rebased u log ≡ log = cc in itself u log rest)
itself u (r ∷ log) e = (let rest : rebased u log ≡ log = cc in itself u log rest)

none_below : (more log : List Record) → unknown (more ++ log) ≡ [] → unknown log ≡ []
none_below [] log e = e
none_below (Restart zero ∷ more) log e = absurd (cc)
none_below (Restart (suc i) ∷ more) log e = none_below more log e
none_below (r ∷ more) log e = none_below more log e

-- what a restart adds is known
module _ (older : List Record) (s : State) (over : IsOpenedOver older s) where
  abbrev rolled_back : List Record
  rolled_back = drop 1 s.records

  unknown_stay : unknown s.records ≡ unknown (marked older)
  unknown_stay =
      let u : List Record = unknown (marked older) in
      let now : List Record = next_restart rolled_back ∷ rolled_back in
      let k = added_join u (marked older) rolled_back now (mended_added u (marked older) rolled_back over.0) (begun_added u rolled_back) in
      let there : rebased u now ≡ now = sym k.there ∙ ap (λ (l : List Record). k.more ++ l) (own (marked older)) ∙ k.are in
      let same : unknown now ≡ u = elim (itself u now there) [
        | inl none ↦ none ∙ sym (none_below k.more (marked older) (ap unknown k.are ∙ none))
        | inr is ↦ is
      ] in
      ap (λ (x : State). unknown x.records) over.1 ∙ same

  pub opened_earlier : AreSpelled older → AreBased older → IsEarlier (earlier older) s
  opened_earlier told based = as_many older told based ∙ ap (λ (l : List Record). length l) (sym unknown_stay)
