-- Laws of chains.
use Rattle.rq_page.specs.declared.cell.Cell.{Cell}
use Rattle.rq_page.specs.declared.directory.Directory.{Directory}
use Rattle.std.proofs.Common.{◌≡◌, ◌≢◌, ℕ, suc, ◌+◌, ◌-◌, ◌<◌, ◌⊎◌, ◌==◌, inl, inr, List, [], ◌∷◌, ◌++◌, length, Bool, true, false, if◌then◌else◌, refl, sym, ap, subst, ◌∙◌, arith, Option, None, Some}
use Rattle.std.proofs.lemmas.Bool.{cases_eq, cond-true, cond-false, eq-eqb, eqb-true}
use Rattle.std.proofs.lemmas.List.{length-append, map-append}
use Rattle.rq_views.specs.Chain.{Cells, written, Node, first, last, Linked, View, message, Shows, IsApart, relink_next, relink_prev, IsForeign, cells_appended, directory_appended, view_appended, all_but_last, view_tail_unlinked, view_put_back, Taking, Sending, AreTaken, AreSent}
use Rattle.rq_views.specs.Chain.Taking.{Took, PutBack}
use Rattle.rq_views.specs.Chain.Sending.{Sent, TailUnlinked, Closed, Reopened}

pub no_eq : (a b : ℕ) → a ≢ b → (a == b) ≡ false
no_eq a b ne = let d : ((x : Bool) → (a == b) ≡ x → (a == b) ≡ false) = elim [ true ↦ λ e. absurd (ne (eqb-true a b e)) | false ↦ λ e. e ] in d (a == b) refl

pub last_append : (p : ℕ) (ns : List Node) (n : Node) → last p (ns ++ n ∷ []) ≡ n.at
last_append p [] n = refl
last_append p (x ∷ ns) n = last_append x.at ns n

apart_rest : (s q n : ℕ) (slot : Option Cell) → IsApart s q (suc n) slot → IsApart s (q + 1) n slot
apart_rest s q n None h = tt
apart_rest s q n (Some c) h = λ e lo hi. h e (omega arith) (omega arith)

-- what changes apart from a chain leaves it
pub frame : (m m' : Cells) (s p q : ℕ) (ns : List Node) (z : ℕ) → ((a : ℕ) → (m' a ≡ m a) ⊎ IsApart s q (length ns) (m a)) → Linked m s p q ns z → Linked m' s p q ns z
frame m m' s p q [] z h l = tt
frame m m' s p q (n ∷ ns) z h l = (
  l.0,
  elim (h n.at) [ inl e ↦ e ∙ l.1 | inr apart ↦ absurd (let P : Option Cell → Type 0 = IsApart s q (suc (length ns)) in subst P l.1 apart refl (omega arith) (omega arith)) ],
  frame m m' s n.at (q + 1) ns z (λ a. elim (h a) [ inl e ↦ inl e | inr apart ↦ inr (apart_rest s q (length ns) (m a) apart) ]) l.2,
)

apart_foreign : (s q n : ℕ) (slot : Option Cell) → IsForeign s slot → IsApart s q n slot
apart_foreign s q n None h = tt
apart_foreign s q n (Some c) h = λ e lo hi. h e

-- what changes outside the sender's cells leaves its chain
pub frame_foreign : (m m' : Cells) (s p q : ℕ) (ns : List Node) (z : ℕ) → ((a : ℕ) → (m' a ≡ m a) ⊎ IsForeign s (m a)) → Linked m s p q ns z → Linked m' s p q ns z
frame_foreign m m' s p q ns z h l = frame m m' s p q ns z (λ a. elim (h a) [ inl e ↦ inl e | inr f ↦ inr (apart_foreign s q (length ns) (m a) f) ]) l

-- the cell of a node in its place
abbrev pub cell_at : ℕ → ℕ → ℕ → Node → ℕ → Option Cell
cell_at s p q n next = Some (record { sender = s; sequence = q; tag = n.tag; body = n.body; next = next; prev = p })

-- a slot numbered below q is not in a chain from q on
apart_below : (s q k n : ℕ) (slot : Option Cell) (c : Cell) → slot ≡ Some c → c.sequence < q → IsApart s q n slot
apart_below s q k n slot c e h = let P : Option Cell → Type 0 = IsApart s q n in subst P (sym e) (λ _ lo _. omega arith)

-- the last cell of a chain that is not empty
pub last_is : (m : Cells) (s p q : ℕ) (n : Node) (ns : List Node) (z : ℕ) → Linked m s p q (n ∷ ns) z → (c : Cell) × (m (last n.at ns) ≡ Some c) × (c.sequence ≡ q + length ns) × (c.sender ≡ s)
last_is m s p q n [] z l = (_, l.1, omega arith, refl)
last_is m s p q n (n2 ∷ ns) z l = let r = last_is m s n.at (q + 1) n2 ns z l.2 in (r.0, r.1, omega (arith, r.2), r.3)

pub none_some : (o : Option Cell) (c : Cell) → o ≡ None → o ≡ Some c → ⊥
none_some o c e f = cc

-- two slots of which the cells are numbered otherwise stand at different places
pub other_place : (m : Cells) (a b : ℕ) (c d : Cell) → m a ≡ Some c → m b ≡ Some d → c.sequence < d.sequence → a ≢ b
other_place m a b c d e f h g = let h2 : Some c ≡ Some d = sym e ∙ ap m g ∙ f in let k : c.sequence ≡ d.sequence = cc in omega arith

-- a cell that is put behind a chain
pub append_linked : (m m' : Cells) (s p q : ℕ) (ns : List Node) (n : Node) → 0 < n.at → m n.at ≡ None → m' n.at ≡ cell_at s (last p ns) (q + length ns) n 0
    → ((a : ℕ) → a ≢ n.at → a ≢ last p ns → m' a ≡ m a)
    → ((a : ℕ) → 0 < a → a ≡ last p ns → m' a ≡ relink_next n.at (m a))
    → Linked m s p q ns 0 → Linked m' s p q (ns ++ n ∷ []) 0
append_linked m m' s p q [] n pos free new rest end l = (pos, new ∙ ap (λ k. cell_at s p k n 0) (omega arith), tt)
append_linked m m' s p q (x ∷ []) n pos free new rest end l = (l.0, end x.at l.0 refl ∙ ap (relink_next n.at) l.1, (pos, new ∙ ap (λ k. cell_at s x.at k n 0) (omega arith), tt))
append_linked m m' s p q (x ∷ y ∷ ns) n pos free new rest end l = (
  l.0,
  rest x.at (λ e. none_some (m x.at) _ (ap m e ∙ free) l.1) (let r = last_is m s x.at (q + 1) y ns 0 l.2 in other_place m x.at (last y.at ns) _ r.0 l.1 r.1 (omega (arith, r.2))) ∙ l.1,
  append_linked m m' s x.at (q + 1) (y ∷ ns) n pos free (new ∙ ap (λ k. cell_at s (last y.at ns) k n 0) (omega arith)) rest end l.2,
)

-- a chain without its first cell
pub unlink_head_linked : (m m' : Cells) (s q : ℕ) (n : Node) (ns : List Node)
    → ((a : ℕ) → a ≢ n.at → a ≢ first ns 0 → m' a ≡ m a)
    → ((a : ℕ) → a ≢ n.at → a ≡ first ns 0 → m' a ≡ relink_prev 0 (m a))
    → Linked m s 0 q (n ∷ ns) 0 → Linked m' s 0 (q + 1) ns 0
unlink_head_linked m m' s q n [] rest head l = tt
unlink_head_linked m m' s q n (x ∷ ns) rest head l = (
  l.2.0,
  head x.at (λ e. other_place m n.at x.at _ _ l.1 l.2.1 (omega arith) (sym e)) refl ∙ ap (relink_prev 0) l.2.1,
  frame m m' s x.at (q + 1 + 1) ns 0 (λ a. elim (cases_eq a n.at) [
    | inl e ↦ inr (let f = ap m e ∙ l.1 in apart_below s (q + 1 + 1) q (length ns) (m a) _ f (omega arith))
    | inr ne ↦ elim (cases_eq a x.at) [
      | inl e2 ↦ inr (let f = ap m e2 ∙ l.2.1 in apart_below s (q + 1 + 1) q (length ns) (m a) _ f (omega arith))
      | inr ne2 ↦ inl (rest a ne ne2)
    ]
  ]) l.2.2,
)

-- a message put back before a chain
pub put_back_linked : (m m' : Cells) (s q : ℕ) (n : Node) (ns : List Node) → 0 < n.at → m n.at ≡ None → m' n.at ≡ cell_at s 0 q n (first ns 0)
    → ((a : ℕ) → a ≢ n.at → a ≢ first ns 0 → m' a ≡ m a)
    → ((a : ℕ) → a ≢ n.at → a ≡ first ns 0 → m' a ≡ relink_prev n.at (m a))
    → Linked m s 0 (q + 1) ns 0 → Linked m' s 0 q (n ∷ ns) 0
put_back_linked m m' s q n [] pos free new rest head l = (pos, new, tt)
put_back_linked m m' s q n (x ∷ ns) pos free new rest head l = (
  pos,
  new,
  (
    l.0,
    head x.at (λ e. none_some (m x.at) _ (ap m e ∙ free) l.1) refl ∙ ap (relink_prev n.at) l.1,
    frame m m' s x.at (q + 1 + 1) ns 0 (λ a. elim (cases_eq a n.at) [
      | inl e ↦ inr (let P : Option Cell → Type 0 = IsApart s (q + 1 + 1) (length ns) in subst P (sym (ap m e ∙ free)) tt)
      | inr ne ↦ elim (cases_eq a x.at) [
        | inl e2 ↦ inr (let f = ap m e2 ∙ l.1 in apart_below s (q + 1 + 1) q (length ns) (m a) _ f (omega arith))
        | inr ne2 ↦ inl (rest a ne ne2)
      ]
    ]) l.2,
  ),
)

pub first_append : (xs ys : List Node) (z : ℕ) → first (xs ++ ys) z ≡ first xs (first ys z)
first_append [] ys z = refl
first_append (x ∷ xs) ys z = refl

-- the front of a chain
pub front_linked : (m : Cells) (s p q : ℕ) (xs ys : List Node) (z : ℕ) → Linked m s p q (xs ++ ys) z → Linked m s p q xs (first ys z)
front_linked m s p q [] ys z l = tt
front_linked m s p q (n ∷ xs) ys z l = (l.0, l.1 ∙ ap (cell_at s p q n) (first_append xs ys z), front_linked m s n.at (q + 1) xs ys z l.2)

-- the last of a chain
pub end_linked : (m : Cells) (s p q : ℕ) (xs : List Node) (n : Node) → Linked m s p q (xs ++ n ∷ []) 0 → m n.at ≡ cell_at s (last p xs) (q + length xs) n 0
end_linked m s p q [] n l = l.1 ∙ ap (λ k. cell_at s p k n 0) (omega arith)
end_linked m s p q (x ∷ xs) n l = end_linked m s x.at (q + 1) xs n l.2 ∙ ap (λ k. cell_at s (last x.at xs) k n 0) (omega arith)

-- a chain without its last cell
pub unlink_tail_linked : (m m' : Cells) (s p q : ℕ) (ns : List Node) (n : Node)
    → ((a : ℕ) → a ≢ n.at → a ≢ last p ns → m' a ≡ m a)
    → ((a : ℕ) → a ≢ n.at → a ≡ last p ns → m' a ≡ relink_next 0 (m a))
    → Linked m s p q (ns ++ n ∷ []) 0 → Linked m' s p q ns 0
unlink_tail_linked m m' s p q [] n rest end l = tt
unlink_tail_linked m m' s p q (x ∷ []) n rest end l = (l.0, end x.at (other_place m x.at n.at _ _ l.1 l.2.1 (omega arith)) refl ∙ ap (relink_next 0) l.1, tt)
unlink_tail_linked m m' s p q (x ∷ y ∷ ns) n rest end l = (
  l.0,
  rest x.at (let e = end_linked m s x.at (q + 1) (y ∷ ns) n l.2 in other_place m x.at n.at _ _ l.1 e (omega arith))
      (let r = last_is m s x.at (q + 1) y ns n.at (front_linked m s x.at (q + 1) (y ∷ ns) (n ∷ []) 0 l.2) in other_place m x.at (last y.at ns) _ r.0 l.1 r.1 (omega (arith, r.2)))
      ∙ l.1,
  unlink_tail_linked m m' s x.at (q + 1) (y ∷ ns) n rest end l.2,
)

-- what the receiving end does is the same behind a message that is sent
pub append_taken : (ops : List Taking) (v w : View) (tag : ℕ) (body : List ℕ) → AreTaken ops v w → AreTaken ops (view_appended v tag body) (view_appended w tag body)
append_taken [] v w tag body h = ap (λ u. view_appended u tag body) h
append_taken (Took t b ∷ ops) v w tag body h = (h.0 ++ (tag, body) ∷ [], ap (λ xs. xs ++ (tag, body) ∷ []) h.1, append_taken ops _ w tag body h.2)
append_taken (PutBack t b ∷ ops) v w tag body h = (h.0, append_taken ops _ w tag body h.1)

-- which operations of the receiving end with which replies: each leaves one view
pub taken_once : (ops : List Taking) (v w u : View) → AreTaken ops v w → AreTaken ops v u → w ≡ u
taken_once [] v w u h k = sym h ∙ k
taken_once (Took t b ∷ ops) v w u h k = let same : h.0 ≡ k.0 = (let e = sym h.1 ∙ k.1 in cc) in taken_once ops _ w u h.2 (let P : List (ℕ × List ℕ) → Type 0 = λ r. AreTaken ops (record v { received = v.received + 1; messages = r }) u in subst P (sym same) k.2)
taken_once (PutBack t b ∷ ops) v w u h k = taken_once ops _ w u h.1 k.1

pub all_but_last_append : (xs : List (ℕ × List ℕ)) (x : ℕ × List ℕ) → all_but_last (xs ++ x ∷ []) ≡ xs
all_but_last_append [] x = refl
all_but_last_append (y ∷ []) x = refl
all_but_last_append (y ∷ z ∷ xs) x = ap (λ r. y ∷ r) (all_but_last_append (z ∷ xs) x)

taken_tag : (ops : List Taking) (v w : View) → AreTaken ops v w → w.last_tag ≡ v.last_tag
taken_tag [] v w h = ap (λ (u : View). u.last_tag) (sym h)
taken_tag (Took t b ∷ ops) v w h = taken_tag ops _ w h.2
taken_tag (PutBack t b ∷ ops) v w h = taken_tag ops _ w h.1

-- a send, then what the receiving end could do without it with the same replies, then the send's inverse: what those alone give
pub send_law : (ops : List Taking) (v w u : View) (tag : ℕ) (body : List ℕ) → AreTaken ops v w → AreTaken ops (view_appended v tag body) u → view_tail_unlinked u v.last_tag ≡ w
send_law ops v w u tag body alone done =
    let e = taken_once ops _ u _ done (append_taken ops v w tag body alone) in
    ap (λ x. view_tail_unlinked x v.last_tag) e ∙ ap (λ (r : List (ℕ × List ℕ)). let x : View = record w { last_tag = v.last_tag; messages = r } in x) (all_but_last_append w.messages (tag, body)) ∙ ap (λ t. let x : View = record w { last_tag = t } in x) (sym (taken_tag ops v w alone))

pub take_law_from : (ops : List Sending) (v1 u v w : View) (tag : ℕ) (body : List ℕ) → 0 < v1.received → v ≡ view_put_back v1 tag body → AreSent ops v1 u → AreSent ops v w → view_put_back u tag body ≡ w
take_law_from [] v1 u v w tag body pos e h k = ap (λ x. view_put_back x tag body) (sym h) ∙ sym e ∙ k
take_law_from (Sent t b ∷ ops) v1 u v w tag body pos e h k = take_law_from ops _ u _ w tag body pos (ap (λ x. view_appended x t b) e) h k
take_law_from (TailUnlinked t ∷ ops) v1 u v w tag body pos e h k =
    let g : (k.0 ≡ (tag, body) ∷ h.0) = sym (all_but_last_append k.0 k.1) ∙ ap all_but_last (sym k.2 ∙ ap (λ (x : View). x.messages) e ∙ ap (λ r. (tag, body) ∷ r) h.2) ∙ all_but_last_append ((tag, body) ∷ h.0) h.1 in
    take_law_from ops _ u _ w tag body pos (ap (λ (x : View). let y : View = record x { last_tag = t; messages = k.0 } in y) e ∙ ap (λ r. let y : View = record v1 { received = v1.received - 1; last_tag = t; messages = r } in y) g) h.3 k.3
take_law_from (Closed ∷ ops) v1 u v w tag body pos e h k = take_law_from ops _ u _ w tag body pos (ap (λ (x : View). let y : View = record x { closed = true } in y) e) h k
take_law_from (Reopened ∷ ops) v1 u v w tag body pos e h k = take_law_from ops _ u _ w tag body pos (ap (λ (x : View). let y : View = record x { closed = false } in y) e) h k

pub written_same : (m : Cells) (at : ℕ) (slot : Option Cell) → written m at slot at ≡ slot
written_same m at slot = cond-true (at == at) slot (m at) (eq-eqb at at refl)

pub written_other : (m : Cells) (at : ℕ) (slot : Option Cell) (a : ℕ) → a ≢ at → written m at slot a ≡ m a
written_other m at slot a ne = cond-false (a == at) slot (m a) (no_eq a at ne)

pub last_pos : (m : Cells) (s p q : ℕ) (n : Node) (ns : List Node) (z : ℕ) → Linked m s p q (n ∷ ns) z → 0 < last n.at ns
last_pos m s p q n [] z l = l.0
last_pos m s p q n (x ∷ ns) z l = last_pos m s n.at (q + 1) x ns z l.2

-- of a chain that has cells, the last is used
pub tail_used : (m : Cells) (s q : ℕ) (ns : List Node) → 0 < last 0 ns → Linked m s 0 q ns 0 → (c : Cell) × (m (last 0 ns) ≡ Some c) × (c.sender ≡ s)
tail_used m s q [] h l = absurd (omega arith)
tail_used m s q (n ∷ ns) h l = let r = last_is m s 0 q n ns 0 l in (r.0, r.1, r.3)

head_after : (m : Cells) (s q : ℕ) (ns : List Node) (new head : ℕ) (n : Node) → n.at ≡ new → head ≡ first ns 0 → Linked m s 0 q ns 0 → (if last 0 ns == 0 then new else head) ≡ first (ns ++ n ∷ []) 0
head_after m s q [] new head n e f l = sym e
head_after m s q (x ∷ ns) new head n e f l = cond-false (last x.at ns == 0) new head (no_eq _ _ (let p = last_pos m s 0 q x ns 0 l in λ g. omega arith)) ∙ f

-- a send: the sender's chain
pub append_shows : (m : Cells) (s : ℕ) (d : Directory) (v : View) (new tag : ℕ) (body : List ℕ) → 0 < new → m new ≡ None → Shows m s d v
    → Shows (cells_appended m s d new tag body) s (directory_appended d new tag) (view_appended v tag body)
append_shows m s d v new tag body pos free h =
    let n : Node = record { at = new; tag = tag; body = body } in
    let one = written m new (Some (record { sender = s; sequence = d.sent + 1; tag = tag; body = body; next = 0; prev = d.tail })) in
    let used : (0 < d.tail → (c : Cell) × (m d.tail ≡ Some c) × (c.sender ≡ s)) = λ g. let P : ℕ → Type 0 = λ t. (c : Cell) × (m t ≡ Some c) × (c.sender ≡ s) in subst P (sym h.tail) (tail_used m s (d.received + 1) h.nodes (omega (arith, h.tail)) h.linked) in
    record {
      nodes = h.nodes ++ n ∷ [];
      linked = append_linked m (cells_appended m s d new tag body) s 0 (d.received + 1) h.nodes n pos free
          (elim (cases_eq d.tail 0) [
            | inl e ↦ ap (λ f. f new) (cond-true (d.tail == 0) one _ (eq-eqb _ _ e)) ∙ written_same m new _ ∙ ap (λ k. cell_at s d.tail k n 0) (omega (arith, h.sent)) ∙ ap (λ t. cell_at s t (d.received + 1 + length h.nodes) n 0) h.tail
            | inr ne ↦ ap (λ f. f new) (cond-false (d.tail == 0) one _ (no_eq _ _ ne)) ∙ written_other one d.tail _ new (λ e. let u = used (omega arith) in none_some (m d.tail) u.0 (ap m (sym e) ∙ free) u.1) ∙ written_same m new _ ∙ ap (λ k. cell_at s d.tail k n 0) (omega (arith, h.sent)) ∙ ap (λ t. cell_at s t (d.received + 1 + length h.nodes) n 0) h.tail
          ])
          (λ a na nl. elim (cases_eq d.tail 0) [
            | inl e ↦ ap (λ f. f a) (cond-true (d.tail == 0) one _ (eq-eqb _ _ e)) ∙ written_other m new _ a na
            | inr ne ↦ ap (λ f. f a) (cond-false (d.tail == 0) one _ (no_eq _ _ ne)) ∙ written_other one d.tail _ a (λ e. nl (e ∙ h.tail)) ∙ written_other m new _ a na
          ])
          (λ a pa ea. let et : a ≡ d.tail = ea ∙ sym h.tail in ap (λ f. f a) (cond-false (d.tail == 0) one _ (no_eq _ _ (λ e. omega arith))) ∙ ap (λ k. written one d.tail (relink_next new (m d.tail)) k) et ∙ written_same one d.tail _ ∙ ap (λ k. relink_next new (m k)) (sym et))
          h.linked;
      head = ap (λ t. if t == 0 then new else d.head) h.tail ∙ head_after m s (d.received + 1) h.nodes new d.head n refl h.head h.linked;
      tail = sym (last_append 0 h.nodes n);
      sent = omega (arith, h.sent, length-append h.nodes (n ∷ []));
      closed = h.closed;
      received = h.received;
      last_tag = refl;
      messages = ap (λ r. r ++ (tag, body) ∷ []) h.messages ∙ sym (map-append message h.nodes (n ∷ []));
    }
