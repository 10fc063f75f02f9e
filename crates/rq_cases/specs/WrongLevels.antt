-- Wrong levels: each is a level of the store with one wrong answer more, or one that asks, notes or is ready otherwise. The laws
-- of levels refuse it. Each law refuses one at least, but for `reads`, which says nothing of what a level does.
use Rattle.std.specs.Prelude.{[], ◌*◌, ◌+◌, ◌/◌, ◌<◌, ◌^◌, ◌||◌, ◌∷◌, ◌≡◌, ◌≢◌, ◌≤◌, ◌⊎◌, Bool, Err, List, None, Ok, Option, Some, cond, false, length, map, nat_eq, replicate, suc, true, zero, ℕ}
use Rattle.rq_model.specs.declared.record.Record.{Record}
use Rattle.rq_model.specs.declared.record.Record.TheVariants.{OpEnd, PageOp}
use Rattle.rq_model.specs.declared.record.Deed.{Deed}
use Rattle.rq_model.specs.declared.record.Deed.TheVariants.{Close, UnlinkHead}
use Rattle.rq_model.specs.declared.txn.Txn.{Txn}
use Rattle.rq_model.specs.Deeds.{deed_by, spelled_deed}
use Rattle.rq_model.specs.Vocabulary.{In}
use Rattle.rq_model.specs.declared.refusal.Refusal.{Refusal}
use Rattle.rq_model.specs.declared.refusal.Refusal.TheVariants as why
use Rattle.rq_page.specs.declared.cell.Cell.{Cell}
use Rattle.rq_page.specs.declared.directory.Directory.{Directory}
use Rattle.rq_page.specs.Cells.{free_bytes}
use Rattle.rq_page.specs.Pages.{lsn_of}
use Rattle.rq_page.specs.Sizes.{Sizes, cell_count, directory_at}
use Rattle.rq_page.specs.Slots.Slot.{Sender, Used}
use Rattle.rq_page.specs.declared.layout.PageKind.TheVariants as kind
use Rattle.rq_page.specs.Kinds.{kind_of}
use Rattle.rq_views.specs.Chain.{View}
use Rattle.rq_views.specs.Items.{layout_of}
use Rattle.rq_views.specs.Log.{Slots, applied}
use Rattle.rq_level.specs.Asked.{AreAsGiven, AreNoted, AsksForNone, IsGathered, Knows, TakesCell, job_back, reply_back, written_at}
use Rattle.rq_level.specs.Given.{given_at}
use Rattle.rq_level.specs.Gists.{gist_of}
use Rattle.rq_level.specs.Lawful.{IsLawful}
use Rattle.rq_level.specs.LevelState.{IsLowest, KnowsStore, LevelState, SomeFree, is_free_slot, noted, nothing_kept, reserved_at, told_sizes}
use Rattle.rq_level.specs.Meaning.{AppliesOnce, AreOf, Meaning, Redo, meaning_of, no_meaning}
use Rattle.rq_level.specs.Ops.{Job}
use Rattle.rq_level.specs.TagPlans.{tag_wants}
use Rattle.rq_level.specs.TakenBack.{AreOverHeld, ShowsOf, newest_first}
use Rattle.rq_level.specs.declared.slots.Given.{Given}
use Rattle.rq_level.specs.declared.writes.Plan.{Plan}
use Rattle.rq_level.specs.declared.writes.Replies.{Replies}
use Rattle.rq_level.specs.declared.writes.Replies.TheVariants as replies
use Rattle.rq_level.specs.declared.writes.SlotWrite.{SlotWrite}
use Rattle.rq_level.specs.ChainPlans.{asking}

-- ---- right plans

-- one question to a level: a job, or a record that is to be taken back
pub record Question (Asked : Type 0) : Type 0 where
  pub kept : LevelState
  pub asked : Asked
  pub given : List Given
  pub latched : List ℕ

-- The slots are of the store that the level was told, and it has noted them. It asked for each of them to do the job.
pub record IsAsked (m : Meaning) (k : LevelState) (job : Job) (given : List Given) : Type 0 where
  pub of : AreOf k.sizes given
  pub noted : AreNoted m k given
  pub gathered : IsGathered m k.sizes job given

-- the level of this number plans q for the question, as it should
pub record IsRight (n : ℕ) (c : Question Job) (q : Plan) (left : LevelState) : Type 0 where
  pub asked : IsAsked (meaning_of n) c.kept c.asked c.given
  pub plans : (meaning_of n).plans c.kept c.asked c.given c.latched (Ok q) left

-- and to take a record back
pub record IsRightBack (n : ℕ) (c : Question Record) (q : Plan) (left : LevelState) : Type 0 where
  pub asked : IsAsked (meaning_of n) c.kept (job_back c.asked) c.given
  pub undoes : (meaning_of n).undoes c.kept c.asked c.given c.latched (Ok q) left

-- one plan is another but for its writes
pub record IsButForWrites (p q : Plan) : Type 0 where
  pub deed : p.deed ≡ q.deed
  pub reply : p.reply ≡ q.reply

-- ---- what is wrong

-- the level may also answer this question by this plan
abbrev pub also_plans : Question Job → Plan → LevelState → Meaning → Meaning
also_plans c p left m = record m {
  plans = λ k job given latched answer after. m.plans k job given latched answer after
      ⊎ ((k ≡ c.kept) × (job ≡ c.asked) × (given ≡ c.given) × (latched ≡ c.latched) × (answer ≡ Ok p) × (after ≡ left));
}

abbrev pub also_undoes : Question Record → Plan → LevelState → Meaning → Meaning
also_undoes c p left m = record m {
  undoes = λ k told given latched answer after. m.undoes k told given latched answer after
      ⊎ ((k ≡ c.kept) × (told ≡ c.asked) × (given ≡ c.given) × (latched ≡ c.latched) × (answer ≡ Ok p) × (after ≡ left));
}

-- the level may also refuse this question, for this
abbrev pub also_refuses : Question Job → Refusal → LevelState → Meaning → Meaning
also_refuses c r left m = record m {
  plans = λ k job given latched answer after. m.plans k job given latched answer after
      ⊎ ((k ≡ c.kept) × (job ≡ c.asked) × (given ≡ c.given) × (latched ≡ c.latched) × (answer ≡ Err r) × (after ≡ left));
}

abbrev pub also_refuses_back : Question Record → Refusal → LevelState → Meaning → Meaning
also_refuses_back c r left m = record m {
  undoes = λ k told given latched answer after. m.undoes k told given latched answer after
      ⊎ ((k ≡ c.kept) × (told ≡ c.asked) × (given ≡ c.given) × (latched ≡ c.latched) × (answer ≡ Err r) × (after ≡ left));
}

-- bytes of a cell that is used, and of one that is free, by the first of them
abbrev pub some_used : List ℕ
some_used = 1 ∷ []

abbrev pub some_free : List ℕ
some_free = 0 ∷ []

-- the first of so many slots from an address on that was not given
abbrev pub first_wanting : ℕ → ℕ → List Given → Option ℕ
first_wanting zero a given = None
first_wanting (suc n) a given = asking a (λ bytes l. first_wanting n (a + 1) l) (given_at a given) given

-- the sizes are noted as they should be, and slots so
abbrev pub noted_by : (LevelState → ℕ → List ℕ → LevelState) → LevelState → ℕ → List ℕ → LevelState
noted_by note k a bytes = cond (nat_eq a 1) (noted k a bytes) (note k a bytes)

-- a slot is noted as it should be, but for which cells are free
abbrev pub noted_but_free : LevelState → ℕ → List ℕ → LevelState
noted_but_free k a bytes = record (noted k a bytes) { free = k.free }

-- The level of chains, which has no cell noted as free or used since the opening. It answers nothing where it was given the cell
-- that it would take.
abbrev pub flagged_at_opening : Meaning
flagged_at_opening = record (meaning_of 1) {
  plans = λ k job given latched answer after. (meaning_of 1).plans k job given latched answer after × AsksForNone k latched given;
  undoes = λ k told given latched answer after. (meaning_of 1).undoes k told given latched answer after × AsksForNone k latched given;
  note = noted_by noted_but_free;
}

-- such a level that takes nothing back
abbrev pub plans_by_opening : Meaning
plans_by_opening = record flagged_at_opening { undoes = no_meaning.undoes }

-- and one that does nothing else
abbrev pub undoes_by_opening : Meaning
undoes_by_opening = record flagged_at_opening { plans = no_meaning.plans }

abbrev pub has_true : List Bool → Bool
has_true [] = false
has_true (b ∷ bs) = b || has_true bs

-- a free cell counts as free where no other does
abbrev pub one_noted : LevelState → ℕ → List ℕ → LevelState
one_noted k a bytes = cond (has_true (noted k a some_used).free) (noted k a some_used) (noted k a bytes)

-- no cell is chosen any more
abbrev pub unchosen : LevelState → LevelState
unchosen k = record k { reserved = map (λ (b : Bool). false) k.reserved }

-- flags for the cells of a store, of which nothing is noted yet
abbrev pub made_anew : Option Sizes → LevelState
made_anew None = nothing_kept
made_anew (Some z) =
    record { sizes = Some z; free = replicate (cell_count z) false; reserved = replicate (cell_count z) false }

-- ---- the cases

-- q receives the first message of a group, as it should. Over the slots that it leaves, p is to take that back, and leaves
-- slots where another message is the first.
pub record PutsBackElsewhere (z : Sizes) (c : Question Job) (q : Plan) (left : LevelState) (b : Question Record) (p : Plan) : Type 0 where
  pub right : IsRight 1 c q left
  pub sizes : c.kept.sizes ≡ Some z
  pub sizes_back : b.kept.sizes ≡ Some z
  pub sender : ℕ
  pub below : sender < 2 ^ 32
  pub sequence : ℕ
  pub tag : ℕ
  pub body : List ℕ
  pub told : deed_by 1 q.deed ≡ Some (UnlinkHead sender sequence tag body)
  pub txn : Txn
  pub number : ℕ
  pub asked : b.asked ≡ OpEnd txn number 1 q.deed
  -- what the slots hold before both
  pub held : Slots
  pub view : View
  pub shows : ShowsOf (layout_of z) held sender view
  pub others : List (ℕ × List ℕ)
  pub messages : view.messages ≡ (tag, body) ∷ others
  pub over : AreOverHeld held (newest_first z q)
  pub over_back : AreOverHeld (applied (newest_first z q) held) (newest_first z p)
  -- and behind both
  pub directory : Directory
  pub directory_is : applied (newest_first z p) (applied (newest_first z q) held) (directory_at sender) ≡ Sender sender directory
  pub first : Cell
  pub first_is : applied (newest_first z p) (applied (newest_first z q) held) directory.head ≡ Used first
  pub another : ◌≢◌ {A = ℕ × List ℕ} (first.tag, first.body) (tag, body)

-- a slot write of p leaves a free cell there by its first byte alone
pub record FreesByOneByte (z : Sizes) (p : Plan) : Type 0 where
  pub write : SlotWrite
  pub there : In write p.writes.items
  pub cell : kind_of z (write.at / 16) ≡ Some kind.Cells
  pub rest : List ℕ
  pub after : write.after ≡ 0 ∷ rest
  pub another : write.after ≢ free_bytes

-- Each wrong plan p is a right one, q, but for what is named, or q itself with something else kept. One that puts a message back
-- elsewhere is told by what the slots hold then. Those that take a cell which a group's slot leads to have none that is right: there
-- the store is damaged. A law that refuses a case is named first. Where the comment says so, no other does.
pub record WrongLevels : Type 0 where
  -- `refuses`: the level of chains refuses a job as of a closed group, such as a send
  pub refuses_a_closed_group : (c : Question Job) → IsLawful 1 (also_refuses c why.Closed c.kept (meaning_of 1)) → ⊥
  -- `refuses`: it has chosen a cell when memory is wanting, and keeps it chosen
  pub choice_of_a_refused_send : (c : Question Job) (q : Plan) (left : LevelState) → IsRight 1 c q left → left ≢ c.kept
      → IsLawful 1 (also_refuses c why.NoMemory left (meaning_of 1)) → ⊥
  -- `refuses_undo`: the level of chains can't take something back, such as a receive where no cell is free, and says that the store
  -- is full
  pub back_refused_as_full : (c : Question Record) → IsLawful 1 (also_refuses_back c why.Full c.kept (meaning_of 1)) → ⊥
  -- `refuses_undo`: what would take a receive back is refused, and its cell stays chosen
  pub choice_of_a_refused_back : (c : Question Record) (q : Plan) (left : LevelState) → IsRightBack 1 c q left → left ≢ c.kept
      → IsLawful 1 (also_refuses_back c why.Latched left (meaning_of 1)) → ⊥
  -- `count`: a level of any number writes more than three slots
  pub four_writes : (n : ℕ) (c : Question Job) (q p : Plan) (left : LevelState) → IsRight n c q left → IsButForWrites p q
      → 3 < length p.writes.items → IsLawful n (also_plans c p left (meaning_of n)) → ⊥
  -- `count_undo`: a level of any number takes something back by more than three writes
  pub four_writes_back : (n : ℕ) (c : Question Record) (q p : Plan) (left : LevelState) → IsRightBack n c q left
      → IsButForWrites p q → 3 < length p.writes.items → IsLawful n (also_undoes c p left (meaning_of n)) → ⊥
  -- `before`: the level of chains also writes a slot that it was not given, and that is no cell which it may take
  pub not_given : (c : Question Job) (q p : Plan) (left : LevelState) (w : SlotWrite) → IsRight 1 c q left
      → IsButForWrites p q → p.writes.items ≡ w ∷ q.writes.items → given_at w.at c.given ≡ None
      → (TakesCell c.kept c.latched w → ⊥) → IsLawful 1 (also_plans c p left (meaning_of 1)) → ⊥
  -- `before`: a level of any number writes over another image than it was given
  pub another_image : (n : ℕ) (c : Question Job) (q p : Plan) (left : LevelState) (w : SlotWrite) (rest : List SlotWrite)
      (bytes : List ℕ) → IsRight n c q left → IsButForWrites p q → p.writes.items ≡ w ∷ rest → given_at w.at c.given ≡ Some bytes
      → w.before ≢ bytes → IsLawful n (also_plans c p left (meaning_of n)) → ⊥
  -- `before_undo`: the level of single slots puts back what stood before a write over what that write did not leave
  pub not_compared : (c : Question Record) (q p : Plan) (left : LevelState) (w : SlotWrite) (t : Txn) (n page slot : ℕ)
      (before after : List ℕ) → IsRightBack 0 c q left → IsButForWrites p q → c.asked ≡ PageOp t n page slot before after
      → p.writes.items ≡ w ∷ [] → w.at ≡ page * 16 + slot → w.after ≡ before → w.before ≢ after
      → IsLawful 0 (also_undoes c p left (meaning_of 0)) → ⊥
  -- `holds`: the level of chains has no cell noted since the opening, and takes one that is used by now. No other law refuses it.
  pub flags_of_the_opening : (c : Question Job) (q : Plan) (left : LevelState) (w : SlotWrite) (slots : ℕ → List ℕ)
      → IsRight 1 c q left → In w q.writes.items → w.before ≡ free_bytes → is_free_slot (slots w.at) ≡ false
      → AsksForNone c.kept c.latched c.given → Knows plans_by_opening c.kept slots → AreAsGiven slots c.given
      → IsLawful 1 plans_by_opening → ⊥
  -- `holds_undo`: the level of chains has no cell noted since the opening, and puts a message back into one that is used by now. No
  -- other law refuses it.
  pub back_by_flags_of_the_opening : (c : Question Record) (q : Plan) (left : LevelState) (w : SlotWrite) (slots : ℕ → List ℕ)
      (t : Txn) (number : ℕ) (deed : List ℕ) → IsRightBack 1 c q left → c.asked ≡ OpEnd t number 1 deed → In w q.writes.items
      → w.before ≡ free_bytes → is_free_slot (slots w.at) ≡ false
      → AsksForNone c.kept c.latched c.given → Knows undoes_by_opening c.kept slots → AreAsGiven slots c.given
      → IsLawful 1 undoes_by_opening → ⊥
  -- `asked_is_written`: a level leaves a slot that it asked for as it was, such as the group's own, or the link of the next cell
  pub leaves_a_slot : (n : ℕ) (c : Question Job) (q p : Plan) (left : LevelState) (g : Given) → IsRight n c q left
      → IsButForWrites p q → In g c.given → (In g.at (written_at p) → ⊥)
      → IsLawful n (also_plans c p left (meaning_of n)) → ⊥
  -- `asked_is_written_undo`: a level of any number takes an operation back by no writes at all
  pub nothing_is_undone : (n : ℕ) (c : Question Record) (q p : Plan) (left : LevelState) (g : Given) (rest : List Given)
      → IsRightBack n c q left → IsButForWrites p q → c.given ≡ g ∷ rest → p.writes.items ≡ []
      → IsLawful n (also_undoes c p left (meaning_of n)) → ⊥
  -- `spares`: the level of chains takes a cell that it asked for. A group's slot may name a free cell as its last, for example,
  -- which is then taken for a send.
  pub takes_a_linked_cell : (z : Sizes) (c : Question Job) (p : Plan) (left : LevelState) (a : ℕ) (bytes : List ℕ)
      → IsAsked (meaning_of 1) c.kept c.asked c.given → c.kept.sizes ≡ Some z → IsLowest z c.kept c.latched a
      → given_at a c.given ≡ Some bytes → left ≢ c.kept → IsLawful 1 (also_plans c p left (meaning_of 1)) → ⊥
  -- `spares_undo`: it takes one to take something back. A group's slot may name a free cell as its first, for example, which is then
  -- taken for a message that is put back.
  pub puts_back_into_a_linked_cell : (z : Sizes) (c : Question Record) (p : Plan) (left : LevelState) (a : ℕ) (bytes : List ℕ)
      → IsAsked (meaning_of 1) c.kept (job_back c.asked) c.given → c.kept.sizes ≡ Some z → IsLowest z c.kept c.latched a
      → given_at a c.given ≡ Some bytes → left ≢ c.kept → IsLawful 1 (also_undoes c p left (meaning_of 1)) → ⊥
  -- `takes`: the cell of a send is not kept as chosen, so that the next send takes it too
  pub forgets_its_choice : (z : Sizes) (c : Question Job) (q : Plan) (left : LevelState) (w : SlotWrite) → IsRight 1 c q left
      → c.kept.sizes ≡ Some z → In w q.writes.items → given_at w.at c.given ≡ None → c.kept ≢ reserved_at z c.kept w.at
      → IsLawful 1 (also_plans c q c.kept (meaning_of 1)) → ⊥
  -- `takes_undo`: nor is the cell of a message that is put back
  pub forgets_its_choice_back : (z : Sizes) (c : Question Record) (q : Plan) (left : LevelState) (w : SlotWrite) (t : Txn)
      (number : ℕ) (deed : List ℕ) → IsRightBack 1 c q left → c.asked ≡ OpEnd t number 1 deed → c.kept.sizes ≡ Some z
      → In w q.writes.items → given_at w.at c.given ≡ None → c.kept ≢ reserved_at z c.kept w.at
      → IsLawful 1 (also_undoes c q c.kept (meaning_of 1)) → ⊥
  -- `slots`: a receive frees a cell by its first byte, and leaves the others
  pub frees_by_one_byte : (z : Sizes) (c : Question Job) (q p : Plan) (left : LevelState) → IsRight 1 c q left
      → c.kept.sizes ≡ Some z → IsButForWrites p q → FreesByOneByte z p → IsLawful 1 (also_plans c p left (meaning_of 1)) → ⊥
  -- `slots_undo`: so does what takes a send back
  pub frees_back_by_one_byte : (z : Sizes) (c : Question Record) (q p : Plan) (left : LevelState) (t : Txn) (number : ℕ)
      (deed : List ℕ) → IsRightBack 1 c q left → c.asked ≡ OpEnd t number 1 deed → c.kept.sizes ≡ Some z → IsButForWrites p q
      → FreesByOneByte z p → IsLawful 1 (also_undoes c p left (meaning_of 1)) → ⊥
  -- `asks`: the level of tags asks again for the slot that it was given, once. No other law refuses it.
  pub asks_again : IsLawful 2 (record (meaning_of 2) {
    want = λ z job given. cond (nat_eq (length given) 1) (tag_wants z job []) (tag_wants z job given);
  }) → ⊥
  -- `few`: the level of single slots asks for all slots of the first page of groups, before something that it doesn't plan. No
  -- other law refuses it.
  pub asks_for_a_page : IsLawful 0 (record (meaning_of 0) {
    want = λ z job given. cond job.undo None (first_wanting 15 17 given);
  }) → ⊥
  -- `told`: the level of tags tells a close, which is a deed of the level of chains
  pub deed_of_another : (c : Question Job) (q : Plan) (left : LevelState) (sender : ℕ) → IsRight 2 c q left
      → IsLawful 2 (also_plans c (record q { deed = spelled_deed (Close sender) }) left (meaning_of 2)) → ⊥
  -- `silent`: what takes an operation back tells a deed
  pub inverse_with_a_deed : (n : ℕ) (c : Question Record) (q : Plan) (left : LevelState) (bytes : List ℕ) → IsRightBack n c q left
      → bytes ≢ [] → IsLawful n (also_undoes c (record q { deed = bytes }) left (meaning_of n)) → ⊥
  -- `replies`: a level of any number replies with something else than its deed tells
  pub reply_of_another : (n : ℕ) (c : Question Job) (q : Plan) (left : LevelState) (d : Deed) (r : Replies) → IsRight n c q left
      → deed_by n q.deed ≡ Some d → r ≢ replies.Deed (gist_of d)
      → IsLawful n (also_plans c (record q { reply = r }) left (meaning_of n)) → ⊥
  -- `replies_undo`: what takes something back doesn't reply that it is undone, or the undo of a slot write says so
  pub back_replies_something_else : (n : ℕ) (c : Question Record) (q : Plan) (left : LevelState) (r : Replies)
      → IsRightBack n c q left → r ≢ reply_back c.asked
      → IsLawful n (also_undoes c (record q { reply = r }) left (meaning_of n)) → ⊥
  -- `inverse`: the level of chains takes a receive back by putting the message at the group's tail
  pub put_back_at_the_tail : (z : Sizes) (c : Question Job) (q : Plan) (left : LevelState) (b : Question Record) (p : Plan)
      (after : LevelState) → PutsBackElsewhere z c q left b p → IsLawful 1 (also_undoes b p after (meaning_of 1)) → ⊥
  -- `chooses`: a receive notes the cell that it is to free as free by now
  pub frees_too_early : (c : Question Job) (q : Plan) (left : LevelState) (w : SlotWrite) (rest : List SlotWrite)
      → IsRight 1 c q left → q.writes.items ≡ w ∷ rest → is_free_slot w.before ≡ false → noted c.kept w.at w.after ≢ c.kept
      → IsLawful 1 (also_plans c q (noted c.kept w.at w.after) (meaning_of 1)) → ⊥
  -- `chooses_undo`: so does what takes a send back
  pub frees_back_too_early : (c : Question Record) (q : Plan) (left : LevelState) (w : SlotWrite) (rest : List SlotWrite)
      → IsRightBack 1 c q left → q.writes.items ≡ w ∷ rest → is_free_slot w.before ≡ false → noted c.kept w.at w.after ≢ c.kept
      → IsLawful 1 (also_undoes c q (noted c.kept w.at w.after) (meaning_of 1)) → ⊥
  -- `last`: the level of chains notes the cells that become used, and not those that become free. No other law refuses it.
  pub freed_cell_stays_used : IsLawful 1 (record (meaning_of 1) {
    note = noted_by (λ k a bytes. cond (is_free_slot bytes) (noted_but_free k a bytes) (noted k a bytes));
  }) → ⊥
  -- `commutes`: it remembers one free cell, the first that it is told of
  pub one_free_cell : IsLawful 1 (record (meaning_of 1) { note = noted_by one_noted }) → ⊥
  -- `alone`: with each cell that is noted, no cell is chosen any more
  pub forgets_all_choices : IsLawful 1 (record (meaning_of 1) { note = noted_by (λ k a bytes. unchosen (noted k a bytes)) }) → ⊥
  -- `room`: it makes its flags where it is told the sizes, and can't say so when memory is wanting
  pub makes_its_flags : IsLawful 1 (record (meaning_of 1) {
    note = λ k a bytes. cond (nat_eq a 1) (made_anew (told_sizes bytes)) (noted k a bytes);
  }) → ⊥
  -- `no_others`: it is ready for each store that it has flags for, whatever sizes it was told
  pub ready_by_its_flags : IsLawful 1 (record (meaning_of 1) {
    ready = λ z k. (cell_count z ≤ length k.free) × (cell_count z ≤ length k.reserved);
  }) → ⊥
  -- `stays`: it is ready while some cell is free
  pub ready_with_a_free_cell : IsLawful 1 (record (meaning_of 1) { ready = λ z k. KnowsStore z k × SomeFree z k }) → ⊥
  -- `own`: a level of any number plans what another is asked
  pub job_of_another : (n : ℕ) (c : Question Job) (q : Plan) (left : LevelState) → c.asked.level ≢ n
      → IsLawful n (also_plans c q left (meaning_of n)) → ⊥
  -- `own_back`: a level takes back what another did, as that should
  pub takes_back_of_another : (n l : ℕ) (c : Question Record) (q : Plan) (left : LevelState) (t : Txn) (number : ℕ)
      (deed : List ℕ) → IsRightBack l c q left → c.asked ≡ OpEnd t number l deed → l ≢ n
      → IsLawful n (also_undoes c q left (meaning_of n)) → ⊥
  -- Of what the redo of every level does: a write is made again on a page that has its LSN. No level has a redo of its own.
  pub made_again : (w : Redo) (once twice : List ℕ) → AppliesOnce (Some w) once (lsn_of once) true twice → ⊥
