-- What the device of a log tells that is gone on with, from call to call.
use Rattle.std.proofs.Common.{◌≡◌, ⊎_elim, ℕ, zero, suc, ◌+◌, ◌-◌, ◌≤◌, List, [], ◌∷◌, ◌++◌, drop, take, inl, inr, refl, sym, ◌∙◌, ap, subst, arith}
use Rattle.std.proofs.lemmas.List.{append-nil, append_assoc, drop-drop, take-append-drop}
use Rattle.rq_model.specs.declared.record.Record.{Record}
use Rattle.rq_model.specs.declared.record.Record.TheVariants.{Base, Restart}
use Rattle.rq_model.specs.Bases.{gone, standing}
use Rattle.rq_model.proofs.Bases.{standing_again}
use Rattle.rq_disk.specs.declared.device.LogDevice.{Ghosts}
use Rattle.rq_record.specs.Spelling.{IsRecord}
use Rattle.rq_log.specs.Crash.{LeavesOnly}
use Rattle.rq_log.specs.Logged.{Logged, WasLeftOrGoesOn}
use Rattle.rq_log.specs.Reading.{IsRead}
use Rattle.rq_log.specs.Spelled.{AreAllSpelled, AreSpelled, EndsWith, EndsWithAll, GoOnTo, GoesOn, spelled}
use Rattle.rq_log.proofs.Moments.{joined, weaker}
use Rattle.rq_log.proofs.Parsing.{one_log}
use Rattle.rq_log.proofs.Runs.{AreAllSpelled-drop, nothing_short}
use Rattle.rq_restart.specs.Telling.{GoesOnTelling, KeepsTold, StandsBehind, TellsBehind, WasLeftOrTells}

-- what stands of a log stands without the newest, too
one_dropped : (k : ℕ) (r : Record) (log : List Record) → standing (r ∷ log) ≡ r ∷ log → (standing log ≡ log → standing (drop k log) ≡ drop k log) → (standing (drop k []) ≡ drop k []) → standing (drop k log) ≡ drop k log
one_dropped k (Base many i) log e more none = subst (λ (l : List Record). standing (drop k l) ≡ drop k l) (ap (drop 1) e) none
one_dropped k _ log e more none = more (ap (drop 1) e)

pub stands_dropped : (k : ℕ) (log : List Record) → standing log ≡ log → standing (drop k log) ≡ drop k log
stands_dropped zero log e = e
stands_dropped (suc k) [] e = refl
stands_dropped (suc k) (r ∷ log) e = one_dropped k r log e (stands_dropped k log) (stands_dropped k [] refl)

goes_twice : (a b c : List ℕ) → GoOnTo a b → GoOnTo b c → GoOnTo a c
goes_twice a b c one two = (one.0 ++ two.0, two.1 ∙ ap (λ (l : List ℕ). l ++ two.0) one.1 ∙ append_assoc a one.0 two.0)

behind_twice : (a b c : List Record) → StandsBehind a b → StandsBehind b c → StandsBehind a c
behind_twice a b c one two = (two.0 ++ one.0, two.1 ∙ ap (λ (l : List Record). two.0 ++ l) one.1 ∙ sym (append_assoc two.0 one.0 (standing a)))

-- a log tells itself
tells_itself : (older : List Record) (seen bytes : List ℕ) → bytes ≡ seen → AreSpelled older → EndsWith older seen → TellsBehind older seen bytes
tells_itself older seen bytes same told reads = record {
  now = older;
  more = ([], refl);
  told = told;
  is = subst (EndsWith older) (sym same) reads;
  first = inl ([], sym same ∙ sym (append-nil bytes));
}

-- what it tells tells more
tells_twice : (older : List Record) (seen mid bytes : List ℕ) (one : TellsBehind older seen mid) → TellsBehind one.now mid bytes → TellsBehind older seen bytes
tells_twice older seen mid bytes one two = record {
  now = two.now;
  more = behind_twice older one.now two.now one.more two.more;
  told = two.told;
  is = two.is;
  first = ⊎_elim
      (λ was. ⊎_elim
      (λ goes. inl (goes_twice bytes mid seen was goes))
      (λ all. inr (all.0, all.1, all.2, goes_twice bytes mid (spelled all.0) was all.3)) one.first)
      (λ all. inr (all.0, all.1, behind_twice older one.now all.0 one.more all.2, all.3)) two.first;
}

module _ {L : Type 0} (l : Ghosts L) where
  -- the log was read
  pub tells_read : (log now : L) (ended : Type 0) → IsRead l log now → GoesOnTelling l log now ended
  tells_read log now ended read h older told reads = record {
    crash = λ c may. inl (read.leaves c may);
    moments = weaker l log now (l.may_leave log) (WasLeftOrTells l log older) read.moments (λ c was. inl was);
    reads = λ e. tells_itself older (l.seen log) (l.seen now) read.same told reads;
  }

  -- the same where it ended so
  pub tells_ended : (log now : L) (ended as_well : Type 0) → (as_well → ended) → GoesOnTelling l log now ended → GoesOnTelling l log now as_well
  tells_ended log now ended as_well f goes h older told reads = (let k = goes h older told reads in record { crash = k.crash; moments = k.moments; reads = λ e. k.reads (f e) })

  -- one run of calls after the other
  pub tells_then : (log mid now : L) (one two : Type 0) → one → (l.honest now → l.honest mid) → GoesOnTelling l log mid one → GoesOnTelling l mid now two → GoesOnTelling l log now two
  tells_then log mid now one two ended honest first second h older told reads =
      let a : KeepsTold l log mid older one = first (honest h) older told reads in
      let t = a.reads ended in
      let b : KeepsTold l mid now t.now two = second h t.now t.told t.is in
      let further : (c : List ℕ) → WasLeftOrTells l mid t.now c → WasLeftOrTells l log older c = λ c. ⊎_elim (λ may. a.crash c may) (λ k. inr (tells_twice older (l.seen log) (l.seen mid) c t k)) in
      record {
        crash = λ c may. further c (b.crash c may);
        moments = joined l log mid now (WasLeftOrTells l log older) a.moments (weaker l mid now (WasLeftOrTells l mid t.now) (WasLeftOrTells l log older) b.moments further);
        reads = λ e. tells_twice older (l.seen log) (l.seen mid) (l.seen now) t (b.reads e);
      }

  -- records are handed over and forced
  module _ (log : Logged L) (are : AreSpelled log.records) (holds : l.honest log.device → (lost : ℕ) × EndsWithAll (drop lost (standing log.records)) (l.seen log.device)) where
    abbrev held : List Record
    held = standing log.records

    parts : (older : List Record) (k : ℕ) → AreSpelled older → EndsWith older (l.seen log.device) → EndsWithAll (drop k held) (l.seen log.device) → standing older ≡ drop k held
    parts older k told reads is = one_log (standing older) (drop k held) (l.seen log.device) told (AreAllSpelled-drop k held are) reads is

    all_behind : (older : List Record) (k : ℕ) → standing older ≡ drop k held → StandsBehind older log.records
    all_behind older k same = (take k held, sym (take-append-drop k held) ∙ ap (λ (rs : List Record). take k held ++ rs) (sym same))

    tells_some : (older : List Record) (c : List ℕ) → AreSpelled older → EndsWith older (l.seen log.device) → GoesOn held (log.forced - gone log.records) (l.seen log.device) c → TellsBehind older (l.seen log.device) c
    tells_some older c told reads g =
        let same = parts older g.behind told reads g.reads in
        let stands : standing (drop g.lost held) ≡ drop g.lost held = stands_dropped g.lost held (standing_again log.records) in
        let n : ℕ = g.behind - g.lost in
        let sum : g.lost + n ≡ g.behind = (let some = g.some in omega (arith, some)) in
        let front : List Record = take n (drop g.lost held) in
        let rest : drop n (drop g.lost held) ≡ standing older = drop-drop n g.lost held ∙ ap (λ (k : ℕ). drop k held) sum ∙ sym same in
        record {
          now = drop g.lost held;
          more = (front, stands ∙ sym (take-append-drop n (drop g.lost held)) ∙ ap (λ (rs : List Record). front ++ rs) rest);
          told = subst AreAllSpelled (sym stands) (AreAllSpelled-drop g.lost held are);
          is = subst (λ (rs : List Record). EndsWithAll rs c) (sym stands) g.is;
          first = ⊎_elim (λ first. inr (log.records, are, all_behind older g.behind same, first)) (λ was. inl was) g.from;
        }

    tells_all : (older : List Record) (now : L) → AreSpelled older → EndsWith older (l.seen log.device) → l.honest log.device → l.seen now ≡ spelled log.records → TellsBehind older (l.seen log.device) (l.seen now)
    tells_all older now told reads h seen =
        let lost = holds h in
        let more = all_behind older lost.0 (parts older lost.0 told reads lost.1) in
        record {
          now = log.records;
          more = more;
          told = are;
          is = ([], nothing_short, seen ∙ sym (append-nil (spelled log.records)));
          first = inr (log.records, are, more, ([], sym seen ∙ sym (append-nil (l.seen now))));
        }

    pub tells_forced : (counts : (d : L) (t : ℕ) (c : List ℕ) → t ≤ l.moment d → l.may_leave d c → l.left_since d t c) (now : L) (ended : Type 0) → (l.honest now → l.honest log.device) → (l.honest now → LeavesOnly l log.device now (WasLeftOrGoesOn l log)) → (ended → l.honest now → l.seen now ≡ spelled log.records) → GoesOnTelling l log.device now ended
    tells_forced counts now ended honest left seen h older told reads =
        let so : (c : List ℕ) → WasLeftOrGoesOn l log c → WasLeftOrTells l log.device older c = λ c. ⊎_elim (λ was. inl was) (λ g. inr (tells_some older c told reads g)) in
        let run : LeavesOnly l log.device now (WasLeftOrTells l log.device older) = weaker l log.device now (WasLeftOrGoesOn l log) (WasLeftOrTells l log.device older) (left h) so in
        record {
          crash = λ c may. run.each c (counts now (l.moment log.device) c run.later may);
          moments = run;
          reads = λ e. tells_all older now told reads (honest h) (seen e h);
        }

  -- behind a log with the record of the next incarnation
  pub tells_begun : (old log : Logged L) (i : ℕ) (now : L) (ended : Type 0) → log.device ≡ old.device → log.records ≡ Restart i ∷ old.records → IsRecord (Restart i) → AreSpelled old.records → (l.honest old.device → (lost : ℕ) × EndsWithAll (drop lost (standing old.records)) (l.seen old.device))
      → ((d : L) (t : ℕ) (c : List ℕ) → t ≤ l.moment d → l.may_leave d c → l.left_since d t c) → (l.honest now → l.honest log.device) → (l.honest now → LeavesOnly l log.device now (WasLeftOrGoesOn l log)) → (ended → l.honest now → l.seen now ≡ spelled log.records) → GoesOnTelling l old.device now ended
  tells_begun old log i now ended device grown is are holds counts honest left seen =
      subst (λ (d : L). GoesOnTelling l d now ended) device (tells_forced log (subst AreSpelled (sym grown) (is, are)) there counts now ended honest left seen)
    where
      there : l.honest log.device → (lost : ℕ) × EndsWithAll (drop lost (standing log.records)) (l.seen log.device)
      there h =
          let b = holds (subst l.honest device h) in (
            suc b.0,
            subst (λ (rs : List Record). EndsWithAll (drop (suc b.0) (standing rs)) (l.seen log.device)) (sym grown)
                (subst (λ (d : L). EndsWithAll (drop b.0 (standing old.records)) (l.seen d)) (sym device) b.1),
          )
