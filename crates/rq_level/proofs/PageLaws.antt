-- What the level of single slots keeps to.
use Rattle.std.proofs.Common.{◌≡◌, ℕ, ◌+◌, ◌*◌, List, [], ◌∷◌, Bool, true, false, Ok, map, All, refl, sym, ap, ◌∙◌, inl}
use Rattle.std.proofs.lemmas.List.Elements.{All-cons, All-nil}
use Rattle.rq_model.specs.declared.record.Record.{Record}
use Rattle.rq_model.specs.declared.record.Record.TheVariants as records
use Rattle.rq_model.specs.Vocabulary.{In}
use Rattle.rq_level.specs.Asked.{IsGathered, job_back, TellsDeedOf, AreBackOver, AreWritten, AreOverSlots, StandsYet, ChoosesBack, AreBackOfSlots}
use Rattle.rq_level.specs.LevelState.{LevelState}
use Rattle.rq_level.specs.Meaning.{page_meaning}
use Rattle.rq_level.specs.PagePlans.{IsOneWrite, TakesBack, is_slot_number, page_undoes}
use Rattle.rq_level.specs.declared.slots.Given.{Given}
use Rattle.rq_level.specs.declared.writes.Plan.{Plan}
use Rattle.rq_level.specs.declared.writes.SlotWrite.{SlotWrite}
use Rattle.rq_level.proofs.Based.{all_each}
use Rattle.rq_level.proofs.Gathered.{none_within}

-- of the one write
of_one : (P : SlotWrite → Type 0) (a : ℕ) (x y : List ℕ) (ws : List SlotWrite) → ((w : SlotWrite) → w.at ≡ a → w.before ≡ x → P w) → IsOneWrite a x y ws → All P ws
of_one P a x y [] f h = absurd h
of_one P a x y (w ∷ []) f h = All-cons P w [] (f w h.0 h.1) (All-nil P)
of_one P a x y (w ∷ v ∷ ws) f h = absurd h

one_written : (a : ℕ) (x y : List ℕ) (ws : List SlotWrite) → IsOneWrite a x y ws → In a (map (λ (w : SlotWrite). w.at) ws)
one_written a x y [] h = absurd h
one_written a x y (w ∷ []) h = inl (sym h.0)
one_written a x y (w ∷ v ∷ ws) h = absurd h

module _ (k : LevelState) (given : List Given) (latched : List ℕ) (p : Plan) (after : LevelState) where
  back_one : (is : Bool) (a : ℕ) (x y : List ℕ) → TakesBack k is a x y (Ok p) after → IsOneWrite a y x p.writes.items × (p.deed ≡ []) × (after ≡ k)
  back_one true a x y h = (h.0.write, h.0.deed, h.1)
  back_one false a x y h = absurd h

  pub over_back : (told : Record) → page_undoes k told given latched (Ok p) after → AreBackOver told k given latched p.writes.items
  over_back (records.PageOp t n page slot x y) h = (back_one (is_slot_number slot) (page * 16 + slot) x y h).0
  over_back _ h = absurd h

  pub back_holds : (q : ℕ → List ℕ) (told : Record) → page_undoes k told given latched (Ok p) after → StandsYet q told → AreOverSlots q p.writes.items
  back_holds q (records.PageOp t n page slot x y) h stands =
      of_one (λ v. v.before ≡ q v.at) (page * 16 + slot) y x p.writes.items (λ v at is. is ∙ sym stands ∙ ap q (sym at)) (back_one (is_slot_number slot) (page * 16 + slot) x y h).0
  back_holds q _ h stands = absurd h

  all_in : ((g : Given) → In g given → In g.at (map (λ (w : SlotWrite). w.at) p.writes.items)) → AreWritten given p
  all_in h = all_each (λ (g : Given). In g.at (map (λ (w : SlotWrite). w.at) p.writes.items)) given h

  pub back_kept : (told : Record) → page_undoes k told given latched (Ok p) after → after ≡ k
  back_kept (records.PageOp t n page slot x y) h = (back_one (is_slot_number slot) (page * 16 + slot) x y h).2
  back_kept _ h = absurd h

  pub back_read : (told : Record) → page_undoes k told given latched (Ok p) after → TellsDeedOf 0 told
  back_read (records.PageOp t n page slot x y) h = refl
  back_read _ h = absurd h

  pub back_writes : (told : Record) → page_undoes k told given latched (Ok p) after → IsGathered page_meaning k.sizes (job_back told) given → AreWritten given p
  back_writes (records.PageOp t n page slot x y) h g = all_in (none_within (λ n. In n (map (λ (w : SlotWrite). w.at) p.writes.items)) given [] given refl g)
  back_writes _ h g = absurd h

  pub back_takes : (told : Record) → page_undoes k told given latched (Ok p) after → ChoosesBack told k given after p
  back_takes (records.PageOp t n page slot x y) h = back_kept (records.PageOp t n page slot x y) h
  back_takes _ h = absurd h

  pub back_slots : (told : Record) → page_undoes k told given latched (Ok p) after → AreBackOfSlots told k p
  back_slots (records.PageOp t n page slot x y) h = tt
  back_slots _ h = absurd h
