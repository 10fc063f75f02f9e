-- Which slots a level asks for, one after the other: three at most, and those that its plan writes.
use Rattle.std.proofs.Common.{◌≡◌, ℕ, suc, ◌/◌, ◌<◌, ◌≤◌, ◌++◌, nat_eq, cond, List, [], ◌∷◌, Bool, true, false, Option, None, Some, Ok, map, length, refl, sym, ap, ◌∙◌, subst, inl, inr, arith}
use Rattle.std.proofs.lemmas.Bool.{cases_Bool, eq-eqb}
use Rattle.std.proofs.lemmas.List.{append_assoc}
use Rattle.rq_model.specs.declared.record.Deed.{Deed}
use Rattle.rq_model.specs.declared.record.Deed.TheVariants.{Append, UnlinkHead, Close as Close_deed, Mark}
use Rattle.rq_model.specs.Vocabulary.{In}
use Rattle.rq_page.specs.declared.cell.Cell.{Cell}
use Rattle.rq_page.specs.declared.cell.CellSlot.{CellSlot}
use Rattle.rq_page.specs.declared.cell.CellSlot.TheVariants as cells
use Rattle.rq_page.specs.declared.directory.Directory.{Directory}
use Rattle.rq_page.specs.declared.layout.PageKind.{PageKind}
use Rattle.rq_page.specs.declared.layout.PageKind.TheVariants as kind
use Rattle.rq_page.specs.Cells.{cell_slot_in}
use Rattle.rq_page.specs.Directories.{directory_in}
use Rattle.rq_page.specs.Clients.{client_in}
use Rattle.rq_page.specs.Kinds.{kind_of}
use Rattle.rq_page.specs.Sizes.{Sizes, client_slot_at, directory_at, sender_count}
use Rattle.rq_page.specs.Slots.{Slot, Free, Used, Sender, Client, held_for, held_in, of_cell_slot, of_directory_slot}
use Rattle.rq_page.proofs.Addresses.{kind_directory, senders_have_slots}
use Rattle.rq_level.specs.Asked.{AreWanted}
use Rattle.rq_level.specs.ChainPlans.{Beside, Plans, Undoes, IsSent, IsReceived, IsTailUnlinked, IsReturned, unless_given, Link, along, along_from, asking, link_of, to_head, to_next, to_prev, to_tail, undo_wanted, wanted}
use Rattle.rq_level.specs.Given.{GivenHolds, given_at}
use Rattle.rq_level.specs.Ops.{Doing}
use Rattle.rq_level.specs.Ops.Doing.{Send, Receive, Close}
use Rattle.rq_level.specs.Lawful.{IsNotGiven}
use Rattle.rq_level.specs.TagPlans.{client_wanted}
use Rattle.rq_level.specs.declared.slots.Given.{Given}
use Rattle.rq_level.specs.LevelState.{LevelState}
use Rattle.rq_level.specs.declared.writes.Plan.{Plan}
use Rattle.rq_level.specs.declared.writes.SlotWrite.{SlotWrite}
use Rattle.rq_views.specs.Log.{Write}
use Rattle.rq_views.specs.Plans.{relinked}
use Rattle.rq_level.proofs.Based.{IsChainPlan, IsSomething, done, holds_at, is_written, undone}

abbrev pub Want : Type 0
Want = List Given → Option ℕ

-- this slot, and with its bytes what is wanted next
abbrev first : ℕ → (List ℕ → Want) → Want
first a next given = asking a next (given_at a given) given

same_want : (w v : Want) → ((l : List Given) → w l ≡ v l) → w ≡ v
same_want w v e = λ i l. e l i

-- ---- what was given stays given

stays : (a : ℕ) (xs ys : List Given) (bytes : List ℕ) → given_at a xs ≡ Some bytes → given_at a (xs ++ ys) ≡ Some bytes
stays a [] ys bytes e = absurd (let no : None ≡ Some bytes = e in cc)
stays a (x ∷ xs) ys bytes e = one (nat_eq x.at a) (stays a xs ys bytes) e where
  one : (b : Bool) → (given_at a xs ≡ Some bytes → given_at a (xs ++ ys) ≡ Some bytes) → cond b (Some x.bytes) (given_at a xs) ≡ Some bytes → cond b (Some x.bytes) (given_at a (xs ++ ys)) ≡ Some bytes
  one true f h = h
  one false f h = f h

given_last : (xs : List Given) (g : Given) → given_at g.at xs ≡ None → given_at g.at (xs ++ g ∷ []) ≡ Some g.bytes
given_last [] g e = ap (λ b. cond b (Some g.bytes) None) (eq-eqb g.at g.at refl)
given_last (x ∷ xs) g e = one (nat_eq x.at g.at) (given_last xs g) e where
  one : (b : Bool) → (given_at g.at xs ≡ None → given_at g.at (xs ++ g ∷ []) ≡ Some g.bytes) → cond b (Some x.bytes) (given_at g.at xs) ≡ None → cond b (Some x.bytes) (given_at g.at (xs ++ g ∷ [])) ≡ Some g.bytes
  one true f h = absurd (let no : Some x.bytes ≡ None = h in cc)
  one false f h = f h

-- once the slot was given, what is wanted is what comes next
settled : (a : ℕ) (next : List ℕ → Want) (bytes : List ℕ) (front rest : List Given) → given_at a front ≡ Some bytes → AreWanted (first a next) front rest → AreWanted (next bytes) front rest
settled a next bytes front [] e h = tt
settled a next bytes front (g ∷ gs) e h = (sym (ap (λ o. asking a next o front) e) ∙ h.0, settled a next bytes (front ++ g ∷ []) gs (stays a front (g ∷ []) bytes e) h.1)

-- the slot was given before, or is the first
module _ (a : ℕ) (next : List ℕ → Want) (Q : List Given → List Given → Type 0)
    (none : (front : List Given) → Q front [])
    (known : (front rest : List Given) (bytes : List ℕ) → given_at a front ≡ Some bytes → AreWanted (next bytes) front rest → Q front rest)
    (new : (front : List Given) (g : Given) (gs : List Given) → g.at ≡ a → given_at a (front ++ g ∷ []) ≡ Some g.bytes → AreWanted (next g.bytes) (front ++ g ∷ []) gs → Q front (g ∷ gs)) where
  split : (front rest : List Given) → AreWanted (first a next) front rest → Q front rest
  split front [] h = none front
  split front (g ∷ gs) h = at (given_at a front) refl where
    at : (o : Option (List ℕ)) → given_at a front ≡ o → Q front (g ∷ gs)
    at None e =
        let here : g.at ≡ a = (let is : Some a ≡ Some g.at = sym (ap (λ o. asking a next o front) e) ∙ h.0 in cc) in
        let there : given_at a (front ++ g ∷ []) ≡ Some g.bytes = subst (λ n. given_at n (front ++ g ∷ []) ≡ Some g.bytes) here (given_last front g (ap (λ n. given_at n front) here ∙ e)) in
        new front g gs here there (settled a next g.bytes (front ++ g ∷ []) gs there h.1)
    at (Some bytes) e = known front (g ∷ gs) bytes e (settled a next bytes front (g ∷ gs) e h)

-- ---- none is asked for twice

pub unless : (given : List Given) (a : ℕ) (o : Option (List ℕ)) → given_at a given ≡ o → IsNotGiven given (unless_given a o)
unless given a None e = e
unless given a (Some bytes) e = tt

asks_next : (given : List Given) (a : ℕ) (link : Link) (next : ℕ → List Given → Option ℕ) → ((b : ℕ) → IsNotGiven given (next b given)) → (o : Option (List ℕ)) → given_at a given ≡ o
    → IsNotGiven given (asking a (λ bytes l. cond (nat_eq (link bytes) 0) None (next (link bytes) l)) o given)
asks_next given a link next h None e = e
asks_next given a link next h (Some bytes) e = elim (cases_Bool (nat_eq (link bytes) 0)) [ inl y ↦ rw y tt | inr n ↦ rw n (h (link bytes)) ]

pub asks_along : (given : List Given) (links : List Link) (a : ℕ) → IsNotGiven given (along links a given)
asks_along given [] a = unless given a (given_at a given) refl
asks_along given (link ∷ links) a = asks_next given a link (along links) (asks_along given links) (given_at a given) refl

pub asks_client : (given : List Given) (z : Option Sizes) (c : Option ℕ) → IsNotGiven given (client_wanted z c given)
asks_client given None c = tt
asks_client given (Some z) None = tt
asks_client given (Some z) (Some c) = asks_along given [] (client_slot_at z c)

-- ---- how many

abbrev HasFew : ℕ → Want → Type 0
HasFew n w = (front rest : List Given) → AreWanted w front rest → length rest ≤ n

none_few : HasFew 0 (λ l. None)
none_few front [] h = omega arith
none_few front (g ∷ gs) h = absurd (let no : None ≡ Some g.at = h.0 in cc)

one_more : (n : ℕ) (a : ℕ) (next : List ℕ → Want) → ((bytes : List ℕ) → HasFew n (next bytes)) → HasFew (suc n) (first a next)
one_more n a next h = split a next (λ front rest. length rest ≤ suc n)
    (λ front. omega arith)
    (λ front rest bytes e w. let few = h bytes front rest w in omega (arith, few))
    (λ front g gs here there w. let few = h g.bytes (front ++ g ∷ []) gs w in omega (arith, few))

fewer : (n m : ℕ) (w : Want) → n ≤ m → HasFew n w → HasFew m w
fewer n m w le h front rest a = let few = h front rest a in omega (arith, few, le)

-- a slot alone
alone : (a : ℕ) → first a (λ bytes l. None) ≡ (λ l. unless_given a (given_at a l))
alone a = same_want (first a (λ bytes l. None)) (λ l. unless_given a (given_at a l)) (λ l. same (given_at a l) l) where
  same : (o : Option (List ℕ)) (l : List Given) → asking a (λ bytes l. None) o l ≡ unless_given a o
  same None l = refl
  same (Some bytes) l = refl

few_unless : (a : ℕ) → HasFew 1 (λ l. unless_given a (given_at a l))
few_unless a = subst (HasFew 1) (alone a) (one_more 0 a (λ bytes l. None) (λ bytes. none_few))

few_from : (n : ℕ) (a : ℕ) (w : Want) → HasFew n w → HasFew n (λ l. cond (nat_eq a 0) None (w l))
few_from n a w h = by (nat_eq a 0) where
  by : (b : Bool) → HasFew n (λ l. cond b None (w l))
  by true = fewer 0 n (λ l. None) (omega arith) none_few
  by false = h

few_along : (links : List Link) (a : ℕ) → HasFew (suc (length links)) (along links a)
few_along [] a = few_unless a
few_along (link ∷ links) a = one_more (suc (length links)) a (λ bytes. along_from links (link bytes)) (λ bytes. few_from (suc (length links)) (link bytes) (along links (link bytes)) (few_along links (link bytes)))

few_wanted : (d : Option Doing) → HasFew 3 (wanted d)
few_wanted None = fewer 0 3 (λ l. None) (omega arith) none_few
few_wanted (Some (Send s tag body)) = fewer 2 3 _ (omega arith) (few_along (to_tail ∷ []) (directory_at s))
few_wanted (Some (Receive s)) = few_along (to_head ∷ to_next ∷ []) (directory_at s)
few_wanted (Some (Close s)) = fewer 1 3 _ (omega arith) (few_unless (directory_at s))

few_undo : (d : Option Deed) → HasFew 3 (undo_wanted d)
few_undo None = fewer 0 3 (λ l. None) (omega arith) none_few
few_undo (Some (Append s n tag previous body)) = few_along (to_tail ∷ to_prev ∷ []) (directory_at s)
few_undo (Some (UnlinkHead s n tag body)) = fewer 2 3 _ (omega arith) (few_along (to_head ∷ []) (directory_at s))
few_undo (Some (Close_deed s)) = fewer 1 3 _ (omega arith) (few_unless (directory_at s))
few_undo (Some (Mark c tag previous)) = fewer 0 3 (λ l. None) (omega arith) none_few

pub few_asked : (undo : Bool) (e : Option Deed) (d : Option Doing) (given : List Given) → AreWanted (λ l. cond undo (undo_wanted e l) (wanted d l)) [] given → length given ≤ 3
few_asked true e d given h = few_undo e [] given h
few_asked false e d given h = few_wanted d [] given h

pub few_of_client : (z : Option Sizes) (c : Option ℕ) (given : List Given) → AreWanted (client_wanted z c) [] given → length given ≤ 3
few_of_client None c given h = fewer 0 3 (λ l. None) (omega arith) none_few [] given h
few_of_client (Some z) None given h = fewer 0 3 (λ l. None) (omega arith) none_few [] given h
few_of_client (Some z) (Some c) given h = fewer 1 3 _ (omega arith) (few_unless (client_slot_at z c)) [] given h

pub few_asks_none : (given : List Given) → AreWanted (λ l. None) [] given → length given ≤ 3
few_asks_none given h = fewer 0 3 (λ l. None) (omega arith) none_few [] given h

-- ---- which

-- what a slot of the directory and one of a cell tells
directory_read : (z : Sizes) (s : ℕ) (d : Directory) (bytes : List ℕ) → s < sender_count z → held_in z (directory_at s / 16) bytes ≡ Sender s d → (directory_in bytes).directory ≡ d
directory_read z s d bytes lt e =
    let place = senders_have_slots z s lt in
    let is : of_directory_slot (directory_in bytes) ≡ Sender s d = sym (ap (λ (o : Option PageKind). held_for o bytes) (kind_directory z (directory_at s / 16) place.0 place.1)) ∙ e in
    cc

used_is : (x : CellSlot) (c : Cell) → of_cell_slot x ≡ Used c → x ≡ cells.Used c
used_is cells.Free c e = absurd (let no : Free ≡ Used c = e in cc)
used_is (cells.Used d) c e = let same : d ≡ c = (let is : Used d ≡ Used c = e in cc) in ap cells.Used same

read_for : (o : Option PageKind) (c : Cell) (bytes : List ℕ) → held_for o bytes ≡ Used c → cell_slot_in bytes ≡ cells.Used c
read_for None c bytes e = absurd (let no : Free ≡ Used c = e in cc)
read_for (Some kind.Superblock) c bytes e = absurd (let no : Free ≡ Used c = e in cc)
read_for (Some kind.Directory) c bytes e = absurd (let no : of_directory_slot (directory_in bytes) ≡ Used c = e in cc)
read_for (Some kind.Cells) c bytes e = used_is (cell_slot_in bytes) c e
read_for (Some kind.Tags) c bytes e = absurd (let no : Client (client_in bytes) ≡ Used c = e in cc)

module _ (P : ℕ → Type 0) (whole : List Given) where
  abbrev pub Within : Want → Type 0
  Within w = (front rest : List Given) → front ++ rest ≡ whole → AreWanted w front rest → (g : Given) → In g rest → P g.at

  pub none_within : Within (λ l. None)
  none_within front [] e h g i = absurd i
  none_within front (x ∷ xs) e h g i = absurd (let no : None ≡ Some x.at = h.0 in cc)

  first_within : (a : ℕ) (next : List ℕ → Want) → P a → ((bytes : List ℕ) → given_at a whole ≡ Some bytes → Within (next bytes)) → Within (first a next)
  first_within a next p h front rest e w = split a next (λ f r. f ++ r ≡ whole → (g : Given) → In g r → P g.at)
      (λ f e g i. absurd i)
      (λ f r bytes known v e. h bytes (subst (λ l. given_at a l ≡ Some bytes) e (stays a f r bytes known)) f r e v)
      (λ f x xs here there v e g i.
      let joined : (f ++ x ∷ []) ++ xs ≡ whole = append_assoc f (x ∷ []) xs ∙ e in
      elim i [
        | inl same ↦ subst P (sym (ap (λ (y : Given). y.at) same ∙ here)) p
        | inr j ↦ h x.bytes (subst (λ l. given_at a l ≡ Some x.bytes) joined (stays a (f ++ x ∷ []) xs x.bytes there)) (f ++ x ∷ []) xs joined v g j
      ])
      front rest w e

  pub unless_within : (a : ℕ) → P a → Within (λ l. unless_given a (given_at a l))
  unless_within a p = subst Within (alone a) (first_within a (λ bytes l. None) p (λ bytes e. none_within))

  from_within : (a : ℕ) (w : Want) → Within w → Within (λ l. cond (nat_eq a 0) None (w l))
  from_within a w h = by (nat_eq a 0) where
    by : (b : Bool) → Within (λ l. cond b None (w l))
    by true = none_within
    by false = h

-- the slots that a plan writes, of those that were given
module _ (z : Sizes) (k : LevelState) (given : List Given) (latched : List ℕ) (p : Plan) where
  abbrev places : List ℕ
  places = map (λ (w : SlotWrite). w.at) p.writes.items

  -- it was given, holds something, and is written
  pub record IsTouched (a : ℕ) : Type 0 where
    pub held : Slot
    pub holds : GivenHolds z given a held
    pub some : IsSomething held
    pub written : In a places

  abbrev Touches : Want → Type 0
  Touches w = Within IsTouched given w

  -- a write of a plan, over what was given of its slot
  module _ (after : LevelState) (m : IsChainPlan z k given latched p after) where
    touched : (v : Write) → GivenHolds z given v.at v.before → IsSomething v.before → In v m.all → IsTouched v.at
    touched v h some i = record { held = v.before; holds = h; some = some; written = is_written z k given latched p after m v i }

    link_touched : (a : ℕ) (o : Option Cell) (f : Cell → Cell) (d : Write) (rest : List Write) → m.all ≡ d ∷ relinked a o f rest → Beside z given a o → Touches (along_from [] a)
    link_touched a None f d rest e b = subst (λ n. Touches (along_from [] n)) (sym b) (none_within IsTouched given)
    link_touched a (Some c) f d rest e b =
        let w : Write = record { at = a; before = Used c; after = Used (f c) } in
        from_within IsTouched given a (along [] a) (unless_within IsTouched given a (touched w b tt (subst (λ (ws : List Write). In w ws) (sym e) (inr (inl refl)))))

  -- the last of a plan's writes
  last_in : (d c : Write) (a : ℕ) (o : Option Cell) (f : Cell → Cell) → In c (d ∷ relinked a o f (c ∷ []))
  last_in d c a None f = inr (inl refl)
  last_in d c a (Some x) f = inr (inr (inl refl))

  -- a link of a directory slot that was given, and of a cell
  directory_leads : (s : ℕ) (d : Directory) (link : Directory → ℕ) (bytes : List ℕ) → s < sender_count z → GivenHolds z given (directory_at s) (Sender s d) → given_at (directory_at s) given ≡ Some bytes → link (directory_in bytes).directory ≡ link d
  directory_leads s d link bytes below holds e = ap link (directory_read z s d bytes below (holds_at z given (directory_at s) _ bytes e holds))

  cell_leads : (a : ℕ) (c : Cell) (link : Cell → ℕ) (bytes : List ℕ) → GivenHolds z given a (Used c) → given_at a given ≡ Some bytes → link_of link (cell_slot_in bytes) ≡ link c
  cell_leads a c link bytes holds e = ap (link_of link) (read_for (kind_of z (a / 16)) c bytes (holds_at z given a _ bytes e holds))

  sent_touched : (s tag : ℕ) (body : List ℕ) (after : LevelState) → IsSent z k given latched s tag body p after → Touches (along (to_tail ∷ []) (directory_at s))
  sent_touched s tag body after h =
      let m = done z (Some (Send s tag body)) k given latched p after h in
      let d = h.can.directory in
      first_within IsTouched given (directory_at s) (λ bytes. along_from [] (to_tail bytes))
      (touched after m _ h.can.directory_is tt (inl refl))
      (λ bytes e. subst (λ n. Touches (along_from [] n)) (sym (directory_leads s d (λ x. x.tail) bytes h.can.below h.can.directory_is e))
      (link_touched after m d.tail h.can.old _ _ _ refl h.can.beside))

  received_touched : (s : ℕ) (after : LevelState) → IsReceived z k given s p after → Touches (along (to_head ∷ to_next ∷ []) (directory_at s))
  received_touched s after h =
      let m = done z (Some (Receive s)) k given latched p after h in
      let d = h.can.directory in
      first_within IsTouched given (directory_at s) (λ bytes. along_from (to_next ∷ []) (to_head bytes))
      (touched after m _ h.can.directory_is tt (inl refl))
      (λ bytes e. subst (λ n. Touches (along_from (to_next ∷ []) n)) (sym (directory_leads s d (λ x. x.head) bytes h.can.below h.can.directory_is e))
      (from_within IsTouched given d.head (along (to_next ∷ []) d.head)
      (first_within IsTouched given d.head (λ bytes. along_from [] (to_next bytes))
      (touched after m _ h.can.head_is tt (last_in _ _ h.can.cell.next h.can.next _))
      (λ bytes e. subst (λ n. Touches (along_from [] n)) (sym (cell_leads d.head h.can.cell (λ c. c.next) bytes h.can.head_is e))
      (link_touched after m h.can.cell.next h.can.next _ _ _ refl h.can.beside)))))

  unsent_touched : (s n tag previous : ℕ) (body : List ℕ) (after : LevelState) → IsTailUnlinked z k given s n previous p after → Touches (along (to_tail ∷ to_prev ∷ []) (directory_at s))
  unsent_touched s n tag previous body after h =
      let m = undone z (Some (Append s n tag previous body)) k given latched p after h in
      let d = h.can.directory in
      first_within IsTouched given (directory_at s) (λ bytes. along_from (to_prev ∷ []) (to_tail bytes))
      (touched after m _ h.can.directory_is tt (inl refl))
      (λ bytes e. subst (λ n. Touches (along_from (to_prev ∷ []) n)) (sym (directory_leads s d (λ x. x.tail) bytes h.can.below h.can.directory_is e))
      (from_within IsTouched given d.tail (along (to_prev ∷ []) d.tail)
      (first_within IsTouched given d.tail (λ bytes. along_from [] (to_prev bytes))
      (touched after m _ h.can.tail_is tt (last_in _ _ h.can.cell.prev h.can.front _))
      (λ bytes e. subst (λ n. Touches (along_from [] n)) (sym (cell_leads d.tail h.can.cell (λ c. c.prev) bytes h.can.tail_is e))
      (link_touched after m h.can.cell.prev h.can.front _ _ _ refl h.can.beside)))))

  returned_touched : (s n tag : ℕ) (body : List ℕ) (after : LevelState) → IsReturned z k given latched s n tag body p after → Touches (along (to_head ∷ []) (directory_at s))
  returned_touched s n tag body after h =
      let m = undone z (Some (UnlinkHead s n tag body)) k given latched p after h in
      let d = h.can.directory in
      first_within IsTouched given (directory_at s) (λ bytes. along_from [] (to_head bytes))
      (touched after m _ h.can.directory_is tt (inl refl))
      (λ bytes e. subst (λ n. Touches (along_from [] n)) (sym (directory_leads s d (λ x. x.head) bytes h.can.below h.can.directory_is e))
      (link_touched after m d.head h.can.old _ _ _ refl h.can.beside))

  pub done_touched : (d : Option Doing) (after : LevelState) → Plans (Some z) d k given latched (Ok p) after → Touches (wanted d)
  done_touched (Some (Send s tag body)) after h = sent_touched s tag body after h
  done_touched (Some (Receive s)) after h = received_touched s after h
  done_touched (Some (Close s)) after h = unless_within IsTouched given (directory_at s) (touched after (done z (Some (Close s)) k given latched p after h) _ h.marked.can.directory_is tt (inl refl))
  done_touched None after h = absurd h

  pub undone_touched : (d : Option Deed) (after : LevelState) → Undoes (Some z) d k given latched (Ok p) after → Touches (undo_wanted d)
  undone_touched (Some (Append s n tag previous body)) after h = unsent_touched s n tag previous body after h
  undone_touched (Some (UnlinkHead s n tag body)) after h = returned_touched s n tag body after h
  undone_touched (Some (Close_deed s)) after h = unless_within IsTouched given (directory_at s) (touched after (undone z (Some (Close_deed s)) k given latched p after h) _ h.marked.can.directory_is tt (inl refl))
  undone_touched (Some (Mark c tag previous)) after h = absurd h
  undone_touched None after h = absurd h
