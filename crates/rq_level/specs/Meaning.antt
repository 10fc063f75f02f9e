-- What the level of each number does.
use Rattle.std.specs.Prelude.{◌≡◌, ◌≢◌, ℕ, zero, suc, ◌+◌, ◌<◌, ◌≤◌, nat_lt, Bool, true, false, List, [], ◌∷◌, Option, None, Some, Result, Ok, length, slice_index_or}
use Rattle.rq_model.specs.declared.record.Record.{Record}
use Rattle.rq_model.specs.declared.record.Record.TheVariants.{PageOp, PageUndo}
use Rattle.rq_model.specs.declared.refusal.Refusal.{Refusal}
use Rattle.rq_page.specs.Pages.{lsn_of, IsWritten}
use Rattle.rq_page.specs.Formatted.{IsHeaderOf}
use Rattle.rq_level.specs.LevelState.{LevelState, KnowsStore, nothing_kept, noted}
use Rattle.rq_level.specs.Ops.{Job}
use Rattle.rq_level.specs.Given.{AreGiven}
use Rattle.rq_level.specs.ChainPlans.{RefusesUnread, chain_plans, chain_undoes, job_wanted}
use Rattle.rq_level.specs.PagePlans.{page_undoes}
use Rattle.rq_level.specs.TagPlans.{tag_note, tag_plans, tag_undoes, tag_wants}
use Rattle.rq_level.specs.declared.level.Want.{Want}
use Rattle.rq_level.specs.declared.level.Want.TheVariants as wants
use Rattle.rq_level.specs.declared.slots.Given.{Given}
use Rattle.rq_level.specs.declared.writes.Plan.{Plan}
use Rattle.rq_page.specs.Sizes.{Sizes}

pub record Meaning : Type 1 where
  -- the slot that it asks for next, of a store whose sizes it was told, if it asks for one
  pub want : Option Sizes → Job → List Given → Option ℕ
  -- what it may answer to an operation that is to be planned, and what it keeps then
  pub plans : LevelState → Job → List Given → List ℕ → Result Plan Refusal → LevelState → Type 0
  -- and to a record that is to be undone
  pub undoes : LevelState → Record → List Given → List ℕ → Result Plan Refusal → LevelState → Type 0
  -- what it keeps once a slot is noted
  pub note : LevelState → ℕ → List ℕ → LevelState
  -- of a store with these sizes it was told all that it needs before its slots, and has room for what it keeps of them
  pub ready : Sizes → LevelState → Type 0

-- it keeps nothing of the slots that it is told of, but for what slot 1 of the first page tells
pub record NotesNothing (m : Meaning) : Type 0 where
  pub same : (k : LevelState) (a : ℕ) (bytes : List ℕ) → a ≢ 1 → m.note k a bytes ≡ k

-- it keeps nothing of the slot at this address
abbrev pub KeepsNothingAt : Meaning → ℕ → Type 0
KeepsNothingAt m a = (k : LevelState) (bytes : List ℕ) → m.note k a bytes ≡ k

-- of each plan of something to do
abbrev pub OfPlans : Meaning → (LevelState → Job → List Given → List ℕ → Plan → LevelState → Type 0) → Type 0
OfPlans m P = (k : LevelState) (job : Job) (given : List Given) (latched : List ℕ) (p : Plan) (after : LevelState)
    → m.plans k job given latched (Ok p) after → P k job given latched p after

-- of each plan of what takes a record back
abbrev pub OfBacks : Meaning → (LevelState → Record → List Given → List ℕ → Plan → LevelState → Type 0) → Type 0
OfBacks m P = (k : LevelState) (told : Record) (given : List Given) (latched : List ℕ) (p : Plan) (after : LevelState)
    → m.undoes k told given latched (Ok p) after → P k told given latched p after

abbrev pub chain_meaning : Meaning
chain_meaning = record {
  want = λ z. job_wanted;
  plans = chain_plans;
  undoes = chain_undoes;
  note = noted;
  ready = KnowsStore;
}

abbrev pub tag_meaning : Meaning
tag_meaning = record {
  want = tag_wants;
  plans = tag_plans;
  undoes = tag_undoes;
  note = tag_note;
  ready = λ z k. k.sizes ≡ Some z;
}

-- a level without a meaning wants and keeps nothing, and refuses everything
abbrev pub no_meaning : Meaning
no_meaning = record {
  want = λ z job given. None;
  plans = λ k job given latched answer after. RefusesUnread k answer after;
  undoes = λ k r given latched answer after. RefusesUnread k answer after;
  note = λ k a bytes. k;
  ready = λ z k. k.sizes ≡ None;
}

abbrev pub page_meaning : Meaning
page_meaning = record no_meaning { undoes = page_undoes }

-- what the level of this number is
unfoldable pub meaning_of : ℕ → Meaning
meaning_of zero = page_meaning
meaning_of (suc zero) = chain_meaning
meaning_of (suc (suc zero)) = tag_meaning
meaning_of (suc (suc (suc n))) = no_meaning

-- how many levels there are
abbrev pub level_count : ℕ
level_count = 3

-- what is wanted, as a level says it
abbrev pub wish : Option ℕ → Want
wish None = wants.Ready
wish (Some a) = wants.Slot a

-- the slots are of the store whose sizes the level was told
abbrev pub AreOf : Option Sizes → List Given → Type 0
AreOf None given = Unit {0}
AreOf (Some z) given = AreGiven z given

-- a write that a record tells: its slot, and what it leaves there
pub record Redo : Type 0 where
  pub slot : ℕ
  pub after : List ℕ

abbrev pub redo_of : Record → Option Redo
redo_of (PageOp t n page slot before after) = Some (record { slot = slot; after = after })
redo_of (PageUndo t n undone page slot after) = Some (record { slot = slot; after = after })
redo_of _ = None

-- a record is applied exactly where the page's LSN is smaller
pub record IsAppliedOnce (old : List ℕ) (lsn : ℕ) (w : Redo) (made : Bool) (new : List ℕ) : Type 0 where
  pub answer : made ≡ nat_lt (lsn_of old) lsn
  pub done : made ≡ true → IsWritten old new w.slot w.after lsn
  pub kept : made ≡ false → new ≡ old
  -- it has the header of each place whose header it had
  pub header : (z : Sizes) (page : ℕ) → IsHeaderOf z page old → IsHeaderOf z page new

abbrev pub AppliesOnce : Option Redo → List ℕ → ℕ → Bool → List ℕ → Type 0
AppliesOnce None old lsn made new = (made ≡ false) × (new ≡ old)
AppliesOnce (Some w) old lsn made new = IsAppliedOnce old lsn w made new

-- the record names a slot of a page
abbrev pub IsRedo : Option Redo → Type 0
IsRedo None = Unit {0}
IsRedo (Some w) = (1 ≤ w.slot) × (w.slot ≤ 15)

-- what the level of a number keeps
abbrev pub kept_at : List LevelState → ℕ → LevelState
kept_at ks i = slice_index_or ks i nothing_kept

-- each level was told of a slot
pub record AreTold (a : ℕ) (bytes : List ℕ) (old new : List LevelState) : Type 0 where
  pub count : length new ≡ length old
  pub each : (i : ℕ) → i < length old → kept_at new i ≡ (meaning_of i).note (kept_at old i) a bytes

-- numbers that count on by one
abbrev pub CountOn : ℕ → List ℕ → Type 0
CountOn k [] = Unit {0}
CountOn k (n ∷ ns) = (n ≡ k) × CountOn (k + 1) ns
