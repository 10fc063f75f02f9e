-- The laws of the other operations.
use Rattle.rq_page.specs.declared.cell.Cell.{Cell}
use Rattle.rq_page.specs.declared.directory.Directory.{Directory}
use Rattle.std.proofs.Common.{◌≡◌, ◌≢◌, ℕ, ◌+◌, ◌-◌, ◌<◌, ◌==◌, List, [], ◌∷◌, ◌++◌, length, drop, map, Bool, refl, sym, ap, subst, ◌∙◌, arith, Option, None, Some}
use Rattle.std.proofs.lemmas.Bool.{cond-true, cond-false, eq-eqb}
use Rattle.std.proofs.lemmas.List.{length-append, map-append}
use Rattle.rq_views.specs.Chain.{Cells, Node, first, last, Linked, View, message, Shows, relink_next, relink_prev, view_tail_unlinked, view_put_back, all_but_last}
use Rattle.rq_views.specs.Log.{Slots, cell_in, cells_of, put, Write, applied, HasBefores, Places}
use Rattle.rq_page.specs.Slots.Slot.{Free, Used, Sender}
use Rattle.rq_views.specs.Plans.{ShowsAt, LinksTo, with_next, with_prev, directory_write, directory_head_unlinked, unlink_head_writes, IsUnlinkHead, view_head_unlinked, directory_tail_unlinked, unlink_tail_writes, IsUnlinkTail, directory_put_back, put_back_writes, IsPutBack, IsMark}
use Rattle.rq_views.proofs.Chains.{no_eq, none_some, unlink_head_linked, unlink_tail_linked, put_back_linked, end_linked, all_but_last_append, last_append, cell_at}
use Rattle.rq_views.proofs.Overlay.{put_at, put_off}
use Rattle.rq_views.proofs.ChainLaws.{cells_directory, used_sender, free_sender, through, shows_here, shows_same}

pub mark_law : (l : Places) (q : Slots) (ws : List Write) (s : ℕ) (closed : Bool) (v : View) → IsMark l s closed ws → HasBefores ws q → ShowsAt l q s v → ShowsAt l (applied ws q) s (record v { closed = closed })
mark_law l q ws s closed v p f h =
    let d = p.directory in
    let e : Directory = record d { closed = closed } in
    let f2 : HasBefores (directory_write l s d e ∷ []) q = subst (λ ws. HasBefores ws q) p.writes f in
    let k = shows_here l q s v d f2.0 h in
    let shown : ShowsAt l (applied (directory_write l s d e ∷ []) q) s (record v { closed = closed }) = record {
      directory = e;
      at = put_at q (l.directory_at s) (Sender s e) (l.directory_at s) refl;
      shows = shows_same (cells_of q) _ s e (record v { closed = closed }) (cells_directory q (l.directory_at s) s d e f2.0)
          (record { nodes = k.nodes; linked = k.linked; head = k.head; tail = k.tail; sent = k.sent; closed = refl; received = k.received; last_tag = k.last_tag; messages = k.messages });
    } in
    subst (λ ws. ShowsAt l (applied ws q) s (record v { closed = closed })) (sym p.writes) shown

pub some_is : (c d : Cell) → Some c ≡ Some d → c ≡ d
some_is c d e = cc

-- the chain without its head
head_shows : (m m' : Cells) (s : ℕ) (d : Directory) (v : View) (c : Cell) (ns : List Node) → 0 < d.head → m d.head ≡ Some c
    → Linked m s 0 (d.received + 1) ns 0 → d.head ≡ first ns 0 → d.tail ≡ last 0 ns → d.sent ≡ d.received + length ns → v.messages ≡ map message ns → v.closed ≡ d.closed → v.received ≡ d.received → v.last_tag ≡ d.last_tag
    → ((a : ℕ) → a ≢ d.head → a ≢ c.next → m' a ≡ m a)
    → ((a : ℕ) → 0 < a → a ≢ d.head → a ≡ c.next → m' a ≡ relink_prev 0 (m a))
    → Shows m' s (directory_head_unlinked d c) (view_head_unlinked v)
head_shows m m' s d v c [] pos here l hh ht hs hm hc hr hl rest head = absurd (omega (arith, pos, hh))
head_shows m m' s d v c (n ∷ []) pos here l hh ht hs hm hc hr hl rest head =
    let ce : c.next ≡ 0 = ap (λ (x : Cell). x.next) (some_is _ _ (sym here ∙ ap m hh ∙ l.1)) in
    record {
      nodes = [];
      linked = tt;
      head = ce;
      tail = cond-true (c.next == 0) 0 d.tail (eq-eqb _ _ ce);
      sent = omega (arith, hs);
      closed = hc;
      received = ap (λ x. x + 1) hr;
      last_tag = hl;
      messages = ap (λ xs. drop 1 xs) hm;
    }
head_shows m m' s d v c (n ∷ x ∷ ns) pos here l hh ht hs hm hc hr hl rest head =
    let ce : c.next ≡ x.at = ap (λ (x : Cell). x.next) (some_is _ _ (sym here ∙ ap m hh ∙ l.1)) in
    record {
      nodes = x ∷ ns;
      linked = unlink_head_linked m m' s (d.received + 1) n (x ∷ ns)
          (λ a na nx. rest a (λ e. na (e ∙ hh)) (λ e. nx (e ∙ ce)))
          (λ a na ex. head a (subst (λ k. 0 < k) (sym ex) l.2.0) (λ e. na (e ∙ hh)) (ex ∙ sym ce))
          l;
      head = ce;
      tail = cond-false (c.next == 0) 0 d.tail (no_eq _ _ (λ e. let p : 0 < x.at = l.2.0 in omega (arith, p, ce, e))) ∙ ht;
      sent = omega (arith, hs);
      closed = hc;
      received = ap (λ x. x + 1) hr;
      last_tag = hl;
      messages = ap (λ xs. drop 1 xs) hm;
    }

head_own : (l : Places) (q : Slots) (s : ℕ) (v : View) (d : Directory) (c : Cell) (next : Option Cell) → 0 < d.head → LinksTo s c.next next
    → HasBefores (unlink_head_writes l s d c next) q → ShowsAt l q s v → ShowsAt l (applied (unlink_head_writes l s d c next) q) s (view_head_unlinked v)
head_own l q s v d c None pos link f h =
    let q1 = put q d.head Free in
    let e = directory_head_unlinked d c in
    let t = through q d.head Free (Sender s d) (l.directory_at s) (free_sender s d) f.0 in
    let k = shows_here l q s v d t.1 h in
    record {
      directory = e;
      at = put_at q1 (l.directory_at s) (Sender s e) (l.directory_at s) refl;
      shows = head_shows (cells_of q) _ s d v c k.nodes pos (ap cell_in (sym f.1.0)) k.linked k.head k.tail k.sent k.messages k.closed k.received k.last_tag
          (λ a na nn. cells_directory q1 (l.directory_at s) s d e f.0 a ∙ ap cell_in (put_off q d.head Free a na))
          (λ a pa na en. absurd (let z : c.next ≡ 0 = link in omega (arith, pa, en, z)));
    }
head_own l q s v d c (Some x) pos link f h =
    let q1 = put q d.head Free in
    let q2 = put q1 c.next (Used (with_prev 0 x)) in
    let e = directory_head_unlinked d c in
    let t2 = through q1 c.next (Used (with_prev 0 x)) (Sender s d) (l.directory_at s) (used_sender (with_prev 0 x) s d) f.0 in
    let t = through q d.head Free (Sender s d) (l.directory_at s) (free_sender s d) t2.1 in
    let k = shows_here l q s v d t.1 h in
    record {
      directory = e;
      at = put_at q2 (l.directory_at s) (Sender s e) (l.directory_at s) refl;
      shows = head_shows (cells_of q) _ s d v c k.nodes pos (ap cell_in (sym f.1.1.0)) k.linked k.head k.tail k.sent k.messages k.closed k.received k.last_tag
          (λ a na nn. cells_directory q2 (l.directory_at s) s d e f.0 a ∙ ap cell_in (put_off q1 c.next (Used (with_prev 0 x)) a nn) ∙ ap cell_in (put_off q d.head Free a na))
          (λ a pa na en. cells_directory q2 (l.directory_at s) s d e f.0 a ∙ ap cell_in (put_at q1 c.next (Used (with_prev 0 x)) a en)
          ∙ ap (λ y. relink_prev 0 (cell_in y)) (f.1.0 ∙ ap q1 (sym en) ∙ put_off q d.head Free a na));
    }

pub head_law : (l : Places) (q : Slots) (ws : List Write) (s n tag : ℕ) (body : List ℕ) (v : View) → IsUnlinkHead l s n tag body ws → HasBefores ws q → ShowsAt l q s v → ShowsAt l (applied ws q) s (view_head_unlinked v)
head_law l q ws s n tag body v p f h =
    subst (λ ws. ShowsAt l (applied ws q) s (view_head_unlinked v)) (sym p.writes)
    (head_own l q s v p.directory p.cell p.next p.used p.next_is (subst (λ ws. HasBefores ws q) p.writes f) h)

-- the last of a list apart
pub snoc : (n : Node) (ns : List Node) → (xs : List Node) × (x : Node) × (n ∷ ns ≡ xs ++ x ∷ [])
snoc n [] = ([], n, refl)
snoc n (y ∷ ns) = let r = snoc y ns in (n ∷ r.0, r.1, ap (λ l. n ∷ l) r.2)

-- the chain without its tail
tail_shows : (m m' : Cells) (s : ℕ) (d : Directory) (v : View) (c : Cell) (previous : ℕ) (xs : List Node) (x : Node) → 0 < d.tail → m d.tail ≡ Some c
    → Linked m s 0 (d.received + 1) (xs ++ x ∷ []) 0 → d.head ≡ first (xs ++ x ∷ []) 0 → d.tail ≡ last 0 (xs ++ x ∷ []) → d.sent ≡ d.received + length (xs ++ x ∷ []) → v.messages ≡ map message (xs ++ x ∷ []) → v.closed ≡ d.closed → v.received ≡ d.received
    → ((a : ℕ) → a ≢ d.tail → a ≢ c.prev → m' a ≡ m a)
    → ((a : ℕ) → 0 < a → a ≢ d.tail → a ≡ c.prev → m' a ≡ relink_next 0 (m a))
    → Shows m' s (directory_tail_unlinked d c previous) (view_tail_unlinked v previous)
tail_shows m m' s d v c previous [] x pos here l hh ht hs hm hc hr rest end =
    let ce : c.prev ≡ 0 = ap (λ (x : Cell). x.prev) (some_is _ _ (sym here ∙ ap m ht ∙ l.1)) in
    record {
      nodes = [];
      linked = tt;
      head = cond-true (c.prev == 0) 0 d.head (eq-eqb _ _ ce);
      tail = ce;
      sent = omega (arith, hs);
      closed = hc;
      received = hr;
      last_tag = refl;
      messages = ap all_but_last hm;
    }
tail_shows m m' s d v c previous (y ∷ xs) x pos here l hh ht hs hm hc hr rest end =
    let at : d.tail ≡ x.at = ht ∙ last_append 0 (y ∷ xs) x in
    let cell = end_linked m s 0 (d.received + 1) (y ∷ xs) x l in
    let ce : c.prev ≡ last y.at xs = ap (λ (x : Cell). x.prev) (some_is _ _ (sym here ∙ ap m at ∙ cell)) in
    record {
      nodes = y ∷ xs;
      linked = unlink_tail_linked m m' s 0 (d.received + 1) (y ∷ xs) x
          (λ a na nl. rest a (λ e. na (e ∙ at)) (λ e. nl (e ∙ ce)))
          (λ a na el. end a (subst (λ k. 0 < k) (sym el) (last_in m s 0 (d.received + 1) y xs (x ∷ []) l)) (λ e. na (e ∙ at)) (el ∙ sym ce))
          l;
      head = cond-false (c.prev == 0) 0 d.head (no_eq _ _ (λ e. let p = last_in m s 0 (d.received + 1) y xs (x ∷ []) l in omega (arith, p, ce, e))) ∙ hh;
      tail = ce;
      sent = omega (arith, hs, length-append (y ∷ xs) (x ∷ []));
      closed = hc;
      received = hr;
      last_tag = refl;
      messages = ap all_but_last (hm ∙ map-append message (y ∷ xs) (x ∷ [])) ∙ all_but_last_append (map message (y ∷ xs)) (message x);
    } where
      last_in : (m : Cells) (s p q : ℕ) (y : Node) (xs zs : List Node) → Linked m s p q ((y ∷ xs) ++ zs) 0 → 0 < last y.at xs
      last_in m s p q y [] zs l = l.0
      last_in m s p q y (x ∷ xs) zs l = last_in m s y.at (q + 1) x xs zs l.2

tail_split : (m m' : Cells) (s : ℕ) (d : Directory) (v : View) (c : Cell) (previous : ℕ) (ns : List Node) → 0 < d.tail → m d.tail ≡ Some c
    → Linked m s 0 (d.received + 1) ns 0 → d.head ≡ first ns 0 → d.tail ≡ last 0 ns → d.sent ≡ d.received + length ns → v.messages ≡ map message ns → v.closed ≡ d.closed → v.received ≡ d.received
    → ((a : ℕ) → a ≢ d.tail → a ≢ c.prev → m' a ≡ m a)
    → ((a : ℕ) → 0 < a → a ≢ d.tail → a ≡ c.prev → m' a ≡ relink_next 0 (m a))
    → Shows m' s (directory_tail_unlinked d c previous) (view_tail_unlinked v previous)
tail_split m m' s d v c previous [] pos here l hh ht hs hm hc hr rest end = absurd (omega (arith, pos, ht))
tail_split m m' s d v c previous (n ∷ ns) pos here l hh ht hs hm hc hr rest end =
    let r = snoc n ns in
    tail_shows m m' s d v c previous r.0 r.1 pos here
    (subst (λ xs. Linked m s 0 (d.received + 1) xs 0) r.2 l) (hh ∙ ap (λ xs. first xs 0) r.2) (ht ∙ ap (λ xs. last 0 xs) r.2) (hs ∙ ap (λ (xs : List Node). d.received + length xs) r.2) (hm ∙ ap (λ xs. map message xs) r.2) hc hr rest end

tail_own : (l : Places) (q : Slots) (s : ℕ) (v : View) (d : Directory) (c : Cell) (previous : ℕ) (front : Option Cell) → 0 < d.tail → LinksTo s c.prev front
    → HasBefores (unlink_tail_writes l s d c previous front) q → ShowsAt l q s v → ShowsAt l (applied (unlink_tail_writes l s d c previous front) q) s (view_tail_unlinked v previous)
tail_own l q s v d c previous None pos link f h =
    let q1 = put q d.tail Free in
    let e = directory_tail_unlinked d c previous in
    let t = through q d.tail Free (Sender s d) (l.directory_at s) (free_sender s d) f.0 in
    let k = shows_here l q s v d t.1 h in
    record {
      directory = e;
      at = put_at q1 (l.directory_at s) (Sender s e) (l.directory_at s) refl;
      shows = tail_split (cells_of q) _ s d v c previous k.nodes pos (ap cell_in (sym f.1.0)) k.linked k.head k.tail k.sent k.messages k.closed k.received
          (λ a na nn. cells_directory q1 (l.directory_at s) s d e f.0 a ∙ ap cell_in (put_off q d.tail Free a na))
          (λ a pa na en. absurd (let z : c.prev ≡ 0 = link in omega (arith, pa, en, z)));
    }
tail_own l q s v d c previous (Some x) pos link f h =
    let q1 = put q d.tail Free in
    let q2 = put q1 c.prev (Used (with_next 0 x)) in
    let e = directory_tail_unlinked d c previous in
    let t2 = through q1 c.prev (Used (with_next 0 x)) (Sender s d) (l.directory_at s) (used_sender (with_next 0 x) s d) f.0 in
    let t = through q d.tail Free (Sender s d) (l.directory_at s) (free_sender s d) t2.1 in
    let k = shows_here l q s v d t.1 h in
    record {
      directory = e;
      at = put_at q2 (l.directory_at s) (Sender s e) (l.directory_at s) refl;
      shows = tail_split (cells_of q) _ s d v c previous k.nodes pos (ap cell_in (sym f.1.1.0)) k.linked k.head k.tail k.sent k.messages k.closed k.received
          (λ a na nn. cells_directory q2 (l.directory_at s) s d e f.0 a ∙ ap cell_in (put_off q1 c.prev (Used (with_next 0 x)) a nn) ∙ ap cell_in (put_off q d.tail Free a na))
          (λ a pa na en. cells_directory q2 (l.directory_at s) s d e f.0 a ∙ ap cell_in (put_at q1 c.prev (Used (with_next 0 x)) a en)
          ∙ ap (λ y. relink_next 0 (cell_in y)) (f.1.0 ∙ ap q1 (sym en) ∙ put_off q d.tail Free a na));
    }

pub tail_law : (l : Places) (q : Slots) (ws : List Write) (s n previous : ℕ) (v : View) → IsUnlinkTail l s n previous ws → HasBefores ws q → ShowsAt l q s v → ShowsAt l (applied ws q) s (view_tail_unlinked v previous)
tail_law l q ws s n previous v p f h =
    subst (λ ws. ShowsAt l (applied ws q) s (view_tail_unlinked v previous)) (sym p.writes)
    (tail_own l q s v p.directory p.cell previous p.front p.used p.front_is (subst (λ ws. HasBefores ws q) p.writes f) h)

-- a message before the chain
back_shows : (m m' : Cells) (s : ℕ) (d : Directory) (v : View) (new tag : ℕ) (body : List ℕ) (ns : List Node) → 0 < new → 0 < d.received → m new ≡ None
    → m' new ≡ Some (record { sender = s; sequence = d.received; tag = tag; body = body; next = d.head; prev = 0 })
    → Linked m s 0 (d.received + 1) ns 0 → d.head ≡ first ns 0 → d.tail ≡ last 0 ns → d.sent ≡ d.received + length ns → v.messages ≡ map message ns → v.closed ≡ d.closed → v.received ≡ d.received → v.last_tag ≡ d.last_tag
    → ((a : ℕ) → a ≢ new → a ≢ d.head → m' a ≡ m a)
    → ((a : ℕ) → 0 < a → a ≢ new → a ≡ d.head → m' a ≡ relink_prev new (m a))
    → Shows m' s (directory_put_back d new) (view_put_back v tag body)
back_shows m m' s d v new tag body [] pos some free here l hh ht hs hm hc hr hl rest head =
    let n : Node = record { at = new; tag = tag; body = body } in
    let q : d.received ≡ d.received - 1 + 1 = omega (arith, some) in
    record {
      nodes = n ∷ [];
      linked = (pos, here ∙ ap (λ k. cell_at s 0 k n d.head) q ∙ ap (cell_at s 0 (d.received - 1 + 1) n) hh, tt);
      head = refl;
      tail = cond-true (d.head == 0) new d.tail (eq-eqb _ _ hh);
      sent = omega (arith, hs, some);
      closed = hc;
      received = ap (λ x. x - 1) hr;
      last_tag = hl;
      messages = ap (λ xs. (tag, body) ∷ xs) hm;
    }
back_shows m m' s d v new tag body (x ∷ ns) pos some free here l hh ht hs hm hc hr hl rest head =
    let n : Node = record { at = new; tag = tag; body = body } in
    let q : d.received ≡ d.received - 1 + 1 = omega (arith, some) in
    record {
      nodes = n ∷ x ∷ ns;
      linked = subst (λ k. Linked m' s 0 k (n ∷ x ∷ ns) 0) q (put_back_linked m m' s d.received n (x ∷ ns) pos free (here ∙ ap (cell_at s 0 d.received n) hh)
          (λ a na nx. rest a na (λ e. nx (e ∙ hh)))
          (λ a na ex. head a (subst (λ k. 0 < k) (sym ex) l.0) na (ex ∙ sym hh))
          l);
      head = refl;
      tail = cond-false (d.head == 0) new d.tail (no_eq _ _ (λ e. let p : 0 < x.at = l.0 in omega (arith, p, hh, e))) ∙ ht;
      sent = omega (arith, hs, some);
      closed = hc;
      received = ap (λ x. x - 1) hr;
      last_tag = hl;
      messages = ap (λ xs. (tag, body) ∷ xs) hm;
    }

back_own : (l : Places) (q : Slots) (s : ℕ) (v : View) (d : Directory) (new tag : ℕ) (body : List ℕ) (old : Option Cell) → 0 < new → 0 < d.received → LinksTo s d.head old
    → HasBefores (put_back_writes l s d new tag body old) q → ShowsAt l q s v → ShowsAt l (applied (put_back_writes l s d new tag body old) q) s (view_put_back v tag body)
back_own l q s v d new tag body None pos some link f h =
    let c : Cell = record { sender = s; sequence = d.received; tag = tag; body = body; next = d.head; prev = 0 } in
    let q1 = put q new (Used c) in
    let e = directory_put_back d new in
    let t = through q new (Used c) (Sender s d) (l.directory_at s) (used_sender c s d) f.0 in
    let k = shows_here l q s v d t.1 h in
    record {
      directory = e;
      at = put_at q1 (l.directory_at s) (Sender s e) (l.directory_at s) refl;
      shows = back_shows (cells_of q) _ s d v new tag body k.nodes pos some (ap cell_in (sym f.1.0))
          (cells_directory q1 (l.directory_at s) s d e f.0 new ∙ ap cell_in (put_at q new (Used c) new refl))
          k.linked k.head k.tail k.sent k.messages k.closed k.received k.last_tag
          (λ a na nh. cells_directory q1 (l.directory_at s) s d e f.0 a ∙ ap cell_in (put_off q new (Used c) a na))
          (λ a pa na eh. absurd (let z : d.head ≡ 0 = link in omega (arith, pa, eh, z)));
    }
back_own l q s v d new tag body (Some x) pos some link f h =
    let c : Cell = record { sender = s; sequence = d.received; tag = tag; body = body; next = d.head; prev = 0 } in
    let q1 = put q new (Used c) in
    let q2 = put q1 d.head (Used (with_prev new x)) in
    let e = directory_put_back d new in
    let t2 = through q1 d.head (Used (with_prev new x)) (Sender s d) (l.directory_at s) (used_sender (with_prev new x) s d) f.0 in
    let t = through q new (Used c) (Sender s d) (l.directory_at s) (used_sender c s d) t2.1 in
    let k = shows_here l q s v d t.1 h in
    let off : new ≢ d.head = head_used (cells_of q) s d.head (d.received + 1) new k.nodes link.0 k.head k.linked (ap cell_in (sym f.1.1.0)) in
    record {
      directory = e;
      at = put_at q2 (l.directory_at s) (Sender s e) (l.directory_at s) refl;
      shows = back_shows (cells_of q) _ s d v new tag body k.nodes pos some (ap cell_in (sym f.1.1.0))
          (cells_directory q2 (l.directory_at s) s d e f.0 new ∙ ap cell_in (put_off q1 d.head (Used (with_prev new x)) new off) ∙ ap cell_in (put_at q new (Used c) new refl))
          k.linked k.head k.tail k.sent k.messages k.closed k.received k.last_tag
          (λ a na nh. cells_directory q2 (l.directory_at s) s d e f.0 a ∙ ap cell_in (put_off q1 d.head (Used (with_prev new x)) a nh) ∙ ap cell_in (put_off q new (Used c) a na))
          (λ a pa na eh. cells_directory q2 (l.directory_at s) s d e f.0 a ∙ ap cell_in (put_at q1 d.head (Used (with_prev new x)) a eh)
          ∙ ap (λ y. relink_prev new (cell_in y)) (f.1.0 ∙ ap q1 (sym eh) ∙ put_off q new (Used c) a na));
    } where
      head_used : (m : Cells) (s head q new : ℕ) (ns : List Node) → 0 < head → head ≡ first ns 0 → Linked m s 0 q ns 0 → m new ≡ None → new ≢ head
      head_used m s head q new [] pos e l free k = omega (arith, pos, e)
      head_used m s head q new (n ∷ ns) pos e l free k = none_some (m n.at) _ (ap m (sym e ∙ sym k) ∙ free) l.1

pub back_law : (l : Places) (q : Slots) (ws : List Write) (s n tag : ℕ) (body : List ℕ) (v : View) → IsPutBack l s n tag body ws → HasBefores ws q → ShowsAt l q s v → ShowsAt l (applied ws q) s (view_put_back v tag body)
back_law l q ws s n tag body v p f h =
    subst (λ ws. ShowsAt l (applied ws q) s (view_put_back v tag body)) (sym p.writes)
    (back_own l q s v p.directory p.new tag body p.old p.used p.some_received p.old_is (subst (λ ws. HasBefores ws q) p.writes f) h)
