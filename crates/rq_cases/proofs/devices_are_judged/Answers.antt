use Rattle.std.proofs.Common.{◌≡◌, ℕ, List, [], ◌∷◌, length, refl, sym, ap, arith, inl, ⊎_elim}
use Rattle.rq_model.specs.declared.record.Record.{Record}
use Rattle.rq_model.specs.declared.record.Record.TheVariants.{Base}
use Rattle.rq_model.specs.Bases.{marks, standing}
use Rattle.rq_model.proofs.Bases.{none_stand, read_marked}
use Rattle.rq_log.specs.Spelled.{AreSpelled, spelled}
use Rattle.rq_log.proofs.Runs.{ends_all}
use Rattle.rq_cases.proofs.devices_are_judged.Goals as goal

nothing_stands : (log : List Record) → standing log ≡ [] → log ≡ []
nothing_stands [] e = refl
nothing_stands (r ∷ log) e = absurd (let none = none_stand (r ∷ log) e in omega (arith, none))

based : AreSpelled (Base 5 1 ∷ [])
based = (((omega arith, omega arith, omega arith, omega arith), (omega arith, omega arith)), tt)

pub returns : goal.returns
returns c = record {
  nothing_written = λ z d images may q. inl (may q);
  written_past_the_last = λ z d images q past no all. ⊎_elim no (λ f. (let low = f.0 in omega (arith, low, past))) (all q);
  superblock_before = λ z d images may. inl may;
  superblock_too_early = λ z d images q low no not_yet b. ⊎_elim no (λ f. not_yet (f q low)) b;
  others_kept = λ z d q past. refl;
  another_changed = λ z old new q past other kept. other (kept q past);
  ran = λ d runs h s. runs s;
  ran_while_stopped = λ old new h s r. r h s;
  no_bytes = λ log told ends. nothing_stands log (c.one_log.ensures log [] [] told tt ends (ends_all [] [] refl));
  two_logs = λ a b bytes h k other x y. other (c.one_log.ensures a b bytes h k x y);
  lsn_of_a_base = λ log told ends.
      let bytes : List ℕ = spelled (Base 5 1 ∷ []) in
      let same = c.one_log.ensures log (Base 5 1 ∷ []) bytes told based ends (ends_all (Base 5 1 ∷ []) bytes refl) in
      ap (λ (l : List Record). length l) (read_marked (Base 5 1 ∷ marks 5) log refl (sym same));
  another_lsn = λ log bytes n told other ends lsn. other (lsn log told ends);
  below_a_base = λ a b. ends_all (Base 5 1 ∷ []) (spelled (Base 5 1 ∷ b)) refl;
  two_sizes = λ a b image other h k. other (c.one_size.ensures a b image h k);
}
