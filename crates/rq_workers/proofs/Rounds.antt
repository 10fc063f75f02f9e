-- One round more of a loop.
use Rattle.std.proofs.Common.{◌≡◌, ℕ, Bool, true, false, List, ◌∷◌, refl, ap, ◌∙◌}
use Rattle.rq_engine.specs.declared.event.Event.TheVariants.{WritePage, Checkpoint}
use Rattle.rq_engine.specs.Says.{call_of}
use Rattle.rq_workers.specs.declared.acts.Act.{Act}
use Rattle.rq_workers.specs.declared.acts.Act.TheVariants.{Asked, Made, Forced}
use Rattle.rq_workers.specs.declared.acts.Heard.{Heard}
use Rattle.rq_workers.specs.Acts.{Work, Did, DidOne, IsCalled, IsForced, may_call, passed_at}
use Rattle.rq_workers.specs.Loops.{AreForces, IsLogWriting, AreWrites, IsPageWriting, AreCheckpoints, IsCheckpointing, next_page, page_after}

-- the page whose turn it is after what was done
abbrev pub Writes : ℕ → ℕ → List Act → Type 0
Writes pages page acts = AreWrites pages acts × (page ≡ next_page pages acts)

module _ {S : Type 0} where
  -- behind a gate that was passed
  pub may_force : (v w : Work S) (b : Bool) → DidOne (Asked 1 b) v w → b ≡ true → passed_at 1 w.done ≡ true
  may_force v w b d e = rw (d.0, e) refl

  pub may_write : (page : ℕ) (v w : Work S) (b : Bool) → DidOne (Asked 2 b) v w → b ≡ true → may_call w.done (call_of (WritePage page)) ≡ true
  may_write page v w b d e = rw (d.0, e) refl

  pub may_checkpoint : (v w : Work S) (b : Bool) → DidOne (Asked 5 b) v w → b ≡ true → may_call w.done (call_of Checkpoint) ≡ true
  may_checkpoint v w b d e = rw (d.0, e) refl

  pub force_more : (v w x y : Work S) (b : Bool) (h : Heard) → Did AreForces v w → DidOne (Asked 1 b) w x → b ≡ true → IsForced x h y → Did AreForces v y
  force_more v w x y b h d a e m =
      (Forced m.0 ∷ Asked 1 b ∷ d.0, m.1.0 ∙ ap (λ l. Forced m.0 ∷ l) (a.0 ∙ ap (λ l. Asked 1 b ∷ l) d.1), m.1.1 ∙ a.1 ∙ d.2, (m.2, refl, e, d.3))

  pub forces_end : (v w x : Work S) (b : Bool) → Did AreForces v w → DidOne (Asked 1 b) w x → b ≡ false → Did IsLogWriting v x
  forces_end v w x b d a e = (Asked 1 b ∷ d.0, a.0 ∙ ap (λ l. Asked 1 b ∷ l) d.1, a.1 ∙ d.2, (refl, e, d.3))

  pub write_more : (pages page : ℕ) (v w x y : Work S) (b : Bool) (h : Heard) → Did (Writes pages page) v w → DidOne (Asked 2 b) w x → b ≡ true → IsCalled x (WritePage page) h y → Did (Writes pages (page_after pages page)) v y
  write_more pages page v w x y b h d a e m = (
    Made m.0 ∷ Asked 2 b ∷ d.0,
    m.1.0 ∙ ap (λ l. Made m.0 ∷ l) (a.0 ∙ ap (λ l. Asked 2 b ∷ l) d.1),
    m.1.1 ∙ a.1 ∙ d.2,
    ((m.2 ∙ ap WritePage d.3.1, refl, e, d.3.0), ap (page_after pages) d.3.1),
  )

  pub writes_end : (pages page : ℕ) (v w x : Work S) (b : Bool) → Did (Writes pages page) v w → DidOne (Asked 2 b) w x → b ≡ false → Did (IsPageWriting pages) v x
  writes_end pages page v w x b d a e = (Asked 2 b ∷ d.0, a.0 ∙ ap (λ l. Asked 2 b ∷ l) d.1, a.1 ∙ d.2, (refl, e, d.3.0))

  pub checkpoint_more : (v w x y : Work S) (b : Bool) (h : Heard) → Did AreCheckpoints v w → DidOne (Asked 5 b) w x → b ≡ true → IsCalled x Checkpoint h y → Did AreCheckpoints v y
  checkpoint_more v w x y b h d a e m =
      (Made m.0 ∷ Asked 5 b ∷ d.0, m.1.0 ∙ ap (λ l. Made m.0 ∷ l) (a.0 ∙ ap (λ l. Asked 5 b ∷ l) d.1), m.1.1 ∙ a.1 ∙ d.2, (m.2, refl, e, d.3))

  pub checkpoints_end : (v w x : Work S) (b : Bool) → Did AreCheckpoints v w → DidOne (Asked 5 b) w x → b ≡ false → Did IsCheckpointing v x
  checkpoints_end v w x b d a e = (Asked 5 b ∷ d.0, a.0 ∙ ap (λ l. Asked 5 b ∷ l) d.1, a.1 ∙ d.2, (refl, e, d.3))
