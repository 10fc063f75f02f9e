-- What the level of single slots answers: it takes back slot writes, and is asked to do nothing.
use Rattle.std.specs.Prelude.{◌≡◌, ℕ, ◌+◌, ◌*◌, Bool, true, false, nat_le, ◌&&◌, List, [], ◌∷◌, Result, Ok, Err}
use Rattle.rq_model.specs.declared.record.Record.{Record}
use Rattle.rq_model.specs.declared.record.Record.TheVariants.{PageOp}
use Rattle.rq_model.specs.declared.refusal.Refusal.{Refusal}
use Rattle.rq_model.specs.declared.refusal.Refusal.TheVariants as why
use Rattle.rq_level.specs.ChainPlans.{RefusesUnread}
use Rattle.rq_level.specs.LevelState.{LevelState}
use Rattle.rq_level.specs.declared.slots.Given.{Given}
use Rattle.rq_level.specs.declared.writes.Plan.{Plan}
use Rattle.rq_level.specs.declared.writes.Replies.TheVariants as replies
use Rattle.rq_level.specs.declared.writes.SlotWrite.{SlotWrite}

-- the one write is of this slot, from these bytes to those
abbrev pub IsOneWrite : ℕ → List ℕ → List ℕ → List SlotWrite → Type 0
IsOneWrite a before after [] = ⊥
IsOneWrite a before after (w ∷ []) = (w.at ≡ a) × (w.before ≡ before) × (w.after ≡ after)
IsOneWrite a before after (w ∷ v ∷ ws) = ⊥

-- the plan of one write, whose operation ends with no record of its own and answers nothing
pub record IsWritePlan (a : ℕ) (before after : List ℕ) (p : Plan) : Type 0 where
  pub write : IsOneWrite a before after p.writes.items
  pub deed : p.deed ≡ []
  pub reply : p.reply ≡ replies.Nothing

-- a slot of a page is one of 1 to 15
abbrev pub is_slot_number : ℕ → Bool
is_slot_number n = nat_le 1 n && nat_le n 15

-- a slot write that is taken back: the slot has its bytes from before
abbrev pub TakesBack : LevelState → (is : Bool) → ℕ → List ℕ → List ℕ → Result Plan Refusal → LevelState → Type 0
TakesBack k true a before after (Ok p) kept = IsWritePlan a after before p × (kept ≡ k)
TakesBack k true a before after (Err why.NoMemory) kept = kept ≡ k
TakesBack k true a before after (Err _) kept = ⊥
TakesBack k false a before after answer kept = RefusesUnread k answer kept

-- and of a record of a slot of a page
abbrev pub page_undoes : LevelState → Record → List Given → List ℕ → Result Plan Refusal → LevelState → Type 0
page_undoes k (PageOp t n page slot before after) given latched answer kept =
    TakesBack k (is_slot_number slot) (page * 16 + slot) before after answer kept
page_undoes k _ given latched answer kept = RefusesUnread k answer kept
