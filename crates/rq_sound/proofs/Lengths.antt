-- How many slots a deed and its inverse write, by what stands in their sender's chain.
use Rattle.std.proofs.Common.{◌≡◌, ℕ, ◌+◌, ◌<◌, ◌++◌, List, [], ◌∷◌, length, refl, sym, ◌∙◌, ap, subst, false, cond, nat_eq, nat_lt, Option, Some, None, arith}
use Rattle.std.proofs.lemmas.Bool.{lt-ltb, eqb-true, false_from_ne_true}
use Rattle.std.proofs.lemmas.List.{length-append, length-map}
use Rattle.rq_model.specs.declared.record.Deed.{Deed}
use Rattle.rq_model.specs.declared.record.Deed.TheVariants.{Append, UnlinkHead, Close, Mark}
use Rattle.rq_page.specs.declared.cell.Cell.{Cell}
use Rattle.rq_page.specs.declared.directory.Directory.{Directory}
use Rattle.rq_page.specs.Slots.Slot.{Free, Used, Sender}
use Rattle.rq_views.specs.Chain.{directory_appended, Node, Linked, View, first, last, message}
use Rattle.rq_views.specs.Log.{Slots, put, cell_in, cells_of, Write, HasBefores, Places}
use Rattle.rq_views.specs.Plans.{IsPlan, LinksTo, relinked, with_next, with_prev, directory_write, directory_tail_unlinked, directory_put_back, unlink_tail_writes, put_back_writes, append_writes, unlink_head_writes, directory_head_unlinked}
use Rattle.rq_views.specs.Plans.Turn.{Did, Undid}
use Rattle.rq_views.proofs.Chains.{end_linked, front_linked, last_append, last_pos}
use Rattle.rq_views.proofs.ChainLaws.{through, used_sender, free_sender, shows_here}
use Rattle.rq_views.proofs.Takes.{snoc, some_is}
use Rattle.rq_sound.proofs.Own.{ShowsOwn}

-- what the model says that the inverse of a deed writes, where its sender's chain has n messages
abbrev pub inverse_writes : Deed → ℕ → ℕ
inverse_writes (Append s n tag previous body) m = cond (nat_lt 1 m) 3 2
inverse_writes (UnlinkHead s n tag body) m = cond (nat_eq m 0) 2 3
inverse_writes (Close s) m = 1
inverse_writes (Mark c tag previous) m = 1

pub tail_there : (l : Places) (q : Slots) (s : ℕ) (d e : Directory) (at : ℕ) (o : Option Cell) (f : Cell → Cell) (b : ℕ) (c : Cell) → HasBefores (directory_write l s d e ∷ relinked at o f (record { at = b; before = Used c; after = Free } ∷ [])) q → (Sender s d ≡ q (l.directory_at s)) × (Used c ≡ q b)
tail_there l q s d e at None f b c h = ((through q b Free (Sender s d) (l.directory_at s) (free_sender s d) h.0).1, h.1.0)
tail_there l q s d e at (Some x) f b c h =
    let t = through (put q b Free) at (Used (f x)) (Sender s d) (l.directory_at s) (used_sender (f x) s d) h.0 in
    ((through q b Free (Sender s d) (l.directory_at s) (free_sender s d) t.1).1, h.1.1.0)

pub back_there : (l : Places) (q : Slots) (s : ℕ) (d e : Directory) (at : ℕ) (o : Option Cell) (f : Cell → Cell) (b : ℕ) (c : Cell) → HasBefores (directory_write l s d e ∷ relinked at o f (record { at = b; before = Free; after = Used c } ∷ [])) q → Sender s d ≡ q (l.directory_at s)
back_there l q s d e at None f b c h = (through q b (Used c) (Sender s d) (l.directory_at s) (used_sender c s d) h.0).1
back_there l q s d e at (Some x) f b c h =
    let t = through (put q b (Used c)) at (Used (f x)) (Sender s d) (l.directory_at s) (used_sender (f x) s d) h.0 in
    (through q b (Used c) (Sender s d) (l.directory_at s) (used_sender c s d) t.1).1

-- the writes of a link and one more
two_or_three : (w : Write) (at : ℕ) (o : Option Cell) (f : Cell → Cell) (v : Write) (s : ℕ) → LinksTo s at o → ((at ≡ 0) → length (w ∷ relinked at o f (v ∷ [])) ≡ 2) × ((0 < at) → length (w ∷ relinked at o f (v ∷ [])) ≡ 3)
two_or_three w at None f v s link = ((λ e. refl), λ p. absurd (let e : at ≡ 0 = link in omega (arith, e, p)))
two_or_three w at (Some c) f v s link = ((λ e. absurd (let p : 0 < at = link.0 in omega (arith, e, p))), λ p. refl)

tail_prev : (m : Slots) (s q : ℕ) (xs : List Node) (x : Node) (c : Cell) → Linked (cells_of m) s 0 q (xs ++ x ∷ []) 0 → Used c ≡ m x.at → ((xs ≡ []) → c.prev ≡ 0) × ((0 < length xs) → 0 < c.prev)
tail_prev m s q [] x c k e =
    let a = some_is _ _ (ap cell_in e ∙ end_linked (cells_of m) s 0 q [] x k) in
    ((λ n. ap (λ (y : Cell). y.prev) a), λ p. absurd (omega (arith, p)))
tail_prev m s q (y ∷ ys) x c k e =
    let a = some_is _ _ (ap cell_in e ∙ end_linked (cells_of m) s 0 q (y ∷ ys) x k) in
    let b : c.prev ≡ last y.at ys = ap (λ (y : Cell). y.prev) a in
    let p = last_pos (cells_of m) s 0 q y ys x.at (front_linked (cells_of m) s 0 q (y ∷ ys) (x ∷ []) 0 k) in
    ((λ n. absurd (cons_not y ys n)), λ more. (omega (arith, b, p)))
  where
    cons_not : (y : Node) (ys : List Node) → y ∷ ys ≡ [] → ⊥
    cons_not y ys n = cc

tail_length : (l : Places) (q : Slots) (s previous : ℕ) (d : Directory) (c : Cell) (front : Option Cell) (ns : List Node) → 0 < d.tail → LinksTo s c.prev front → Used c ≡ q d.tail → Linked (cells_of q) s 0 (d.received + 1) ns 0 → d.tail ≡ last 0 ns
    → length (unlink_tail_writes l s d c previous front) ≡ cond (nat_lt 1 (length ns)) 3 2
tail_length l q s previous d c front [] pos link at k t = absurd (let e : d.tail ≡ 0 = t in omega (arith, e, pos))
tail_length l q s previous d c front (n ∷ ns) pos link at k t =
    let r = snoc n ns in
    let e : d.tail ≡ r.1.at = t ∙ ap (λ l. last 0 l) r.2 ∙ last_append 0 r.0 r.1 in
    let w = two_or_three (directory_write l s d (directory_tail_unlinked d c previous)) c.prev front (with_next 0) (record { at = d.tail; before = Used c; after = Free }) s link in
    let p = tail_prev q s (d.received + 1) r.0 r.1 c (subst (λ ns. Linked (cells_of q) s 0 (d.received + 1) ns 0) r.2 k) (at ∙ ap q e) in
    let len : length (n ∷ ns) ≡ length r.0 + 1 = ap (λ (l : List Node). length l) r.2 ∙ length-append r.0 (r.1 ∷ []) in
    at_front r.0 (n ∷ ns) len (λ e. w.0 (p.0 e)) (λ more. w.1 (p.1 more))
  where
    at_front : (xs ns : List Node) → length ns ≡ length xs + 1 → (xs ≡ [] → length (unlink_tail_writes l s d c previous front) ≡ 2) → (0 < length xs → length (unlink_tail_writes l s d c previous front) ≡ 3)
        → length (unlink_tail_writes l s d c previous front) ≡ cond (nat_lt 1 (length ns)) 3 2
    at_front [] ns len two three = two refl ∙ ap (λ m. cond (nat_lt 1 m) 3 2) (sym len)
    at_front (y ∷ ys) ns len two three = three (omega arith) ∙ ap (λ b. cond b 3 2) (sym (lt-ltb 1 (length ns) (omega (arith, len))))

back_length : (l : Places) (q : Slots) (s new tag : ℕ) (body : List ℕ) (d : Directory) (old : Option Cell) (ns : List Node) → LinksTo s d.head old → Linked (cells_of q) s 0 (d.received + 1) ns 0 → d.head ≡ first ns 0
    → length (put_back_writes l s d new tag body old) ≡ cond (nat_eq (length ns) 0) 2 3
back_length l q s new tag body d old ns link k h =
    let w = two_or_three (directory_write l s d (directory_put_back d new)) d.head old (with_prev new) (record { at = new; before = Free; after = Used (record { sender = s; sequence = d.received; tag = tag; body = body; next = d.head; prev = 0 }) }) s link in
    at ns k h w.0 w.1
  where
    more : (n : Node) (ns : List Node) → nat_eq (length (n ∷ ns)) 0 ≡ false
    more n ns = false_from_ne_true (nat_eq (length (n ∷ ns)) 0) (λ y. let e = eqb-true (length (n ∷ ns)) 0 y in absurd (omega (arith, e)))

    at : (ns : List Node) → Linked (cells_of q) s 0 (d.received + 1) ns 0 → d.head ≡ first ns 0 → ((d.head ≡ 0) → length (put_back_writes l s d new tag body old) ≡ 2) → ((0 < d.head) → length (put_back_writes l s d new tag body old) ≡ 3)
        → length (put_back_writes l s d new tag body old) ≡ cond (nat_eq (length ns) 0) 2 3
    at [] k h two three = two h
    at (n ∷ ns) k h two three = three (let e : d.head ≡ n.at = h in let p : 0 < n.at = k.0 in omega (arith, e, p)) ∙ ap (λ b. cond b 2 3) (sym (more n ns))

-- the length of the inverse's plan is what the model says
pub inverse_length : (l : Places) (q : Slots) (ws : List Write) (d : Deed) (v : View) → IsPlan l (Undid d) ws → HasBefores ws q → ShowsOwn l q d v → length ws ≡ inverse_writes d (length v.messages)
inverse_length l q ws (Append s n tag previous body) v p f h =
    let t = tail_there l q s p.directory (directory_tail_unlinked p.directory p.cell previous) p.cell.prev p.front (with_next 0) p.directory.tail p.cell (subst (λ x. HasBefores x q) p.writes f) in
    let k = shows_here l q s v p.directory t.0 h in
    let len : length v.messages ≡ length k.nodes = ap (λ (xs : List (ℕ × List ℕ)). length xs) k.messages ∙ length-map k.nodes message in
    ap length p.writes ∙ tail_length l q s previous p.directory p.cell p.front k.nodes p.used p.front_is t.1 k.linked k.tail ∙ ap (λ m. cond (nat_lt 1 m) 3 2) (sym len)
inverse_length l q ws (UnlinkHead s n tag body) v p f h =
    let t = back_there l q s p.directory (directory_put_back p.directory p.new) p.directory.head p.old (with_prev p.new) p.new (record { sender = s; sequence = p.directory.received; tag = tag; body = body; next = p.directory.head; prev = 0 }) (subst (λ x. HasBefores x q) p.writes f) in
    let k = shows_here l q s v p.directory t h in
    let len : length v.messages ≡ length k.nodes = ap (λ (xs : List (ℕ × List ℕ)). length xs) k.messages ∙ length-map k.nodes message in
    ap length p.writes ∙ back_length l q s p.new tag body p.directory p.old k.nodes p.old_is k.linked k.head ∙ ap (λ m. cond (nat_eq m 0) 2 3) (sym len)
inverse_length l q ws (Close s) v p f h = ap length p.writes
inverse_length l q ws (Mark c tag previous) v p f h = ap length p.writes

-- and what it says that the deed writes
abbrev pub deed_writes : Deed → ℕ → ℕ
deed_writes (Append s n tag previous body) m = cond (nat_eq m 0) 2 3
deed_writes (UnlinkHead s n tag body) m = cond (nat_lt 1 m) 3 2
deed_writes (Close s) m = 1
deed_writes (Mark c tag previous) m = 1

append_length : (l : Places) (q : Slots) (s new tag : ℕ) (body : List ℕ) (d : Directory) (old : Option Cell) (ns : List Node) → LinksTo s d.tail old → Linked (cells_of q) s 0 (d.received + 1) ns 0 → d.tail ≡ last 0 ns
    → length (append_writes l s d new tag body old) ≡ cond (nat_eq (length ns) 0) 2 3
append_length l q s new tag body d old ns link k t =
    let w = two_or_three (directory_write l s d (directory_appended d new tag)) d.tail old (with_next new) (record { at = new; before = Free; after = Used (record { sender = s; sequence = d.sent + 1; tag = tag; body = body; next = 0; prev = d.tail }) }) s link in
    at ns k t w.0 w.1
  where
    more : (n : Node) (ns : List Node) → nat_eq (length (n ∷ ns)) 0 ≡ false
    more n ns = false_from_ne_true (nat_eq (length (n ∷ ns)) 0) (λ y. let e = eqb-true (length (n ∷ ns)) 0 y in absurd (omega (arith, e)))

    at : (ns : List Node) → Linked (cells_of q) s 0 (d.received + 1) ns 0 → d.tail ≡ last 0 ns → ((d.tail ≡ 0) → length (append_writes l s d new tag body old) ≡ 2) → ((0 < d.tail) → length (append_writes l s d new tag body old) ≡ 3)
        → length (append_writes l s d new tag body old) ≡ cond (nat_eq (length ns) 0) 2 3
    at [] k t two three = two t
    at (n ∷ ns) k t two three = three (let p = last_pos (cells_of q) s 0 (d.received + 1) n ns 0 k in omega (arith, t, p)) ∙ ap (λ b. cond b 2 3) (sym (more n ns))

head_length : (l : Places) (q : Slots) (s : ℕ) (d : Directory) (c : Cell) (next : Option Cell) (ns : List Node) → 0 < d.head → LinksTo s c.next next → Used c ≡ q d.head → Linked (cells_of q) s 0 (d.received + 1) ns 0 → d.head ≡ first ns 0
    → length (unlink_head_writes l s d c next) ≡ cond (nat_lt 1 (length ns)) 3 2
head_length l q s d c next [] pos link at k h = absurd (let e : d.head ≡ 0 = h in omega (arith, e, pos))
head_length l q s d c next (n ∷ ns) pos link at k h =
    let w = two_or_three (directory_write l s d (directory_head_unlinked d c)) c.next next (with_prev 0) (record { at = d.head; before = Used c; after = Free }) s link in
    let is = some_is _ _ (ap cell_in at ∙ ap (cells_of q) h ∙ k.1) in
    from ns k.2 (ap (λ (x : Cell). x.next) is) w.0 w.1
  where
    from : (ns : List Node) → Linked (cells_of q) s n.at (d.received + 1 + 1) ns 0 → c.next ≡ first ns 0 → ((c.next ≡ 0) → length (unlink_head_writes l s d c next) ≡ 2) → ((0 < c.next) → length (unlink_head_writes l s d c next) ≡ 3)
        → length (unlink_head_writes l s d c next) ≡ cond (nat_lt 1 (length (n ∷ ns))) 3 2
    from [] k e two three = two e
    from (m ∷ ms) k e two three = three (let p : 0 < m.at = k.0 in omega (arith, e, p)) ∙ ap (λ b. cond b 3 2) (sym (lt-ltb 1 (length (n ∷ m ∷ ms)) (omega arith)))

-- the length of the deed's plan is what the model says
pub deed_length : (l : Places) (q : Slots) (ws : List Write) (d : Deed) (v : View) → IsPlan l (Did d) ws → HasBefores ws q → ShowsOwn l q d v → length ws ≡ deed_writes d (length v.messages)
deed_length l q ws (Append s n tag previous body) v p f h =
    let t = back_there l q s p.directory (directory_appended p.directory p.new tag) p.directory.tail p.old (with_next p.new) p.new (record { sender = s; sequence = p.directory.sent + 1; tag = tag; body = body; next = 0; prev = p.directory.tail }) (subst (λ x. HasBefores x q) p.writes f) in
    let k = shows_here l q s v p.directory t h in
    let len : length v.messages ≡ length k.nodes = ap (λ (xs : List (ℕ × List ℕ)). length xs) k.messages ∙ length-map k.nodes message in
    ap length p.writes ∙ append_length l q s p.new tag body p.directory p.old k.nodes p.old_is k.linked k.tail ∙ ap (λ m. cond (nat_eq m 0) 2 3) (sym len)
deed_length l q ws (UnlinkHead s n tag body) v p f h =
    let t = tail_there l q s p.directory (directory_head_unlinked p.directory p.cell) p.cell.next p.next (with_prev 0) p.directory.head p.cell (subst (λ x. HasBefores x q) p.writes f) in
    let k = shows_here l q s v p.directory t.0 h in
    let len : length v.messages ≡ length k.nodes = ap (λ (xs : List (ℕ × List ℕ)). length xs) k.messages ∙ length-map k.nodes message in
    ap length p.writes ∙ head_length l q s p.directory p.cell p.next k.nodes p.used p.next_is t.1 k.linked k.head ∙ ap (λ m. cond (nat_lt 1 m) 3 2) (sym len)
deed_length l q ws (Close s) v p f h = ap length p.writes
deed_length l q ws (Mark c tag previous) v p f h = ap length p.writes
