-- How many writes a plan has, and that an inverse's tells no deed, and what it replies.
use Rattle.std.proofs.Common.{◌≡◌, ℕ, ◌+◌, ◌*◌, ◌≤◌, List, [], ◌∷◌, Bool, true, false, Option, None, Some, Ok, length, ap, arith}
use Rattle.std.proofs.lemmas.List.{length-map, length-reverse}
use Rattle.std.specs.Prelude.{reverse}
use Rattle.rq_page.specs.Sizes.{Sizes}
use Rattle.rq_page.specs.declared.cell.Cell.{Cell}
use Rattle.rq_model.specs.declared.record.Deed.{Deed}
use Rattle.rq_model.specs.declared.record.Deed.TheVariants.{Append, UnlinkHead, Close as Close_deed, Mark}
use Rattle.rq_model.specs.declared.record.Record.{Record}
use Rattle.rq_model.specs.declared.record.Record.TheVariants as records
use Rattle.rq_model.specs.Deeds.{deed_by}
use Rattle.rq_views.specs.Log.{Write}
use Rattle.rq_views.specs.Plans.{relinked}
use Rattle.rq_level.specs.LevelState.{LevelState}
use Rattle.rq_level.specs.Ops.{Doing}
use Rattle.rq_level.specs.Ops.Doing.{Send, Receive, Close}
use Rattle.rq_level.specs.Writes.{writes_of, write_of}
use Rattle.rq_level.specs.ChainPlans.{Plans, PlansFor, Undoes, chain_undoes}
use Rattle.rq_level.specs.PagePlans.{IsOneWrite, TakesBack, is_slot_number, page_undoes}
use Rattle.rq_level.specs.Asked.{reply_back}
use Rattle.rq_level.specs.declared.slots.Given.{Given}
use Rattle.rq_level.specs.declared.writes.Replies.TheVariants as replies
use Rattle.rq_level.specs.declared.writes.Plan.{Plan}
use Rattle.rq_level.specs.declared.writes.SlotWrite.{SlotWrite}

linked : (at : ℕ) (o : Option Cell) (f : Cell → Cell) (ws : List Write) → length (relinked at o f ws) ≤ 1 + length ws
linked at None f ws = omega arith
linked at (Some c) f ws = omega arith

as_many : (z : Sizes) (items : List SlotWrite) (ws : List Write) (n : ℕ) → reverse (writes_of z items) ≡ ws → length ws ≤ n → length items ≤ n
as_many z items ws n e h = omega (arith, ap length e, length-reverse (writes_of z items), length-map items (write_of z), h)

-- a directory slot, a neighbour, a cell
three : (z : Sizes) (items : List SlotWrite) (d c : Write) (at : ℕ) (o : Option Cell) (f : Cell → Cell)
    → reverse (writes_of z items) ≡ d ∷ relinked at o f (c ∷ []) → length items ≤ 3
three z items d c at o f e = as_many z items _ 3 e (omega (arith, linked at o f (c ∷ [])))

one : (z : Sizes) (items : List SlotWrite) (d : Write) → reverse (writes_of z items) ≡ d ∷ [] → length items ≤ 3
one z items d e = as_many z items _ 3 e (omega arith)

planned : (z : Option Sizes) (d : Option Doing) (k : LevelState) (given : List Given) (latched : List ℕ) (p : Plan) (after : LevelState)
    → Plans z d k given latched (Ok p) after → length p.writes.items ≤ 3
planned (Some z) (Some (Send s tag body)) k given latched p after h = three z p.writes.items _ _ _ _ _ h.writes
planned (Some z) (Some (Receive s)) k given latched p after h = three z p.writes.items _ _ _ _ _ h.writes
planned (Some z) (Some (Close s)) k given latched p after h = one z p.writes.items _ h.marked.writes
planned (Some z) None k given latched p after h = absurd h
planned None (Some d) k given latched p after h = absurd h
planned None None k given latched p after h = absurd h

pub few_planned : (undo : Bool) (z : Option Sizes) (d : Option Doing) (k : LevelState) (given : List Given) (latched : List ℕ) (p : Plan) (after : LevelState)
    → PlansFor undo z d k given latched (Ok p) after → length p.writes.items ≤ 3
few_planned true z d k given latched p after h = absurd h
few_planned false z d k given latched p after h = planned z d k given latched p after h

undone : (z : Option Sizes) (d : Option Deed) (k : LevelState) (given : List Given) (latched : List ℕ) (p : Plan) (after : LevelState)
    → Undoes z d k given latched (Ok p) after → length p.writes.items ≤ 3
undone (Some z) (Some (Append s n tag previous body)) k given latched p after h = three z p.writes.items _ _ _ _ _ h.writes
undone (Some z) (Some (UnlinkHead s n tag body)) k given latched p after h = three z p.writes.items _ _ _ _ _ h.writes
undone (Some z) (Some (Close_deed s)) k given latched p after h = one z p.writes.items _ h.marked.writes
undone (Some z) (Some (Mark c tag previous)) k given latched p after h = absurd h
undone (Some z) None k given latched p after h = absurd h
undone None (Some d) k given latched p after h = absurd h
undone None None k given latched p after h = absurd h

pub few_undone : (k : LevelState) (told : Record) (given : List Given) (latched : List ℕ) (p : Plan) (after : LevelState)
    → chain_undoes k told given latched (Ok p) after → length p.writes.items ≤ 3
few_undone k (records.OpEnd t n level deed) given latched p after h = undone k.sizes (deed_by level deed) k given latched p after h
few_undone k _ given latched p after h = absurd h

single : (a : ℕ) (before after : List ℕ) (ws : List SlotWrite) → IsOneWrite a before after ws → length ws ≤ 3
single a before after [] h = absurd h
single a before after (w ∷ []) h = omega arith
single a before after (w ∷ v ∷ ws) h = absurd h

taken_back : (k : LevelState) (is : Bool) (a : ℕ) (before after : List ℕ) (p : Plan) (kept : LevelState) → TakesBack k is a before after (Ok p) kept → length p.writes.items ≤ 3
taken_back k true a before after p kept h = single _ _ _ p.writes.items h.0.write
taken_back k false a before after p kept h = absurd h

pub few_taken_back : (k : LevelState) (told : Record) (given : List Given) (latched : List ℕ) (p : Plan) (after : LevelState)
    → page_undoes k told given latched (Ok p) after → length p.writes.items ≤ 3
few_taken_back k (records.PageOp t n page slot x y) given latched p after h = taken_back k (is_slot_number slot) (page * 16 + slot) x y p after h
few_taken_back k _ given latched p after h = absurd h

-- an inverse tells no deed, and what its end replies
silent : (z : Option Sizes) (d : Option Deed) (k : LevelState) (given : List Given) (latched : List ℕ) (p : Plan) (after : LevelState)
    → Undoes z d k given latched (Ok p) after → (p.deed ≡ []) × (p.reply ≡ replies.Undone)
silent (Some z) (Some (Append s n tag previous body)) k given latched p after h = (h.inverse.deed, h.inverse.reply)
silent (Some z) (Some (UnlinkHead s n tag body)) k given latched p after h = (h.inverse.deed, h.inverse.reply)
silent (Some z) (Some (Close_deed s)) k given latched p after h = (h.inverse.deed, h.inverse.reply)
silent (Some z) (Some (Mark c tag previous)) k given latched p after h = absurd h
silent (Some z) None k given latched p after h = absurd h
silent None (Some d) k given latched p after h = absurd h
silent None None k given latched p after h = absurd h

pub silent_undone : (k : LevelState) (told : Record) (given : List Given) (latched : List ℕ) (p : Plan) (after : LevelState)
    → chain_undoes k told given latched (Ok p) after → (p.deed ≡ []) × (p.reply ≡ reply_back told)
silent_undone k (records.OpEnd t n level deed) given latched p after h = silent k.sizes (deed_by level deed) k given latched p after h
silent_undone k _ given latched p after h = absurd h

silent_back : (k : LevelState) (is : Bool) (a : ℕ) (before after : List ℕ) (p : Plan) (kept : LevelState) → TakesBack k is a before after (Ok p) kept → (p.deed ≡ []) × (p.reply ≡ replies.Nothing)
silent_back k true a before after p kept h = (h.0.deed, h.0.reply)
silent_back k false a before after p kept h = absurd h

pub silent_taken_back : (k : LevelState) (told : Record) (given : List Given) (latched : List ℕ) (p : Plan) (after : LevelState)
    → page_undoes k told given latched (Ok p) after → (p.deed ≡ []) × (p.reply ≡ reply_back told)
silent_taken_back k (records.PageOp t n page slot x y) given latched p after h = silent_back k (is_slot_number slot) (page * 16 + slot) x y p after h
silent_taken_back k _ given latched p after h = absurd h
