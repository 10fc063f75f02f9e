-- What a transaction may receive, undo and start, as the plain reference finds it.
use Rattle.std.proofs.Common.{◌≡◌, ℕ, zero, suc, ◌+◌, ◌-◌, ◌<◌, Bool, Option, List, [], ◌∷◌, ◌++◌, length, take, drop, map, refl, sym, ◌∙◌, ap, subst, true, false, None, Some, inl, inr, arith, get_or, nat_lt, nat_eq, not, ◌&&◌, IsTrue}
use Rattle.std.specs.List.{cons_option, filter, filter_map, slice_get}
use Rattle.std.proofs.lemmas.List.{length-map, map-append}
use Rattle.std.proofs.lemmas.Bool.{cases_Bool, or_cases, or_parts, and_parts, true≢false, eqb-true, and_right}
use Rattle.std.proofs.lemmas.Bool.Decides.{nat_tests}
use Rattle.rq_model.specs.declared.txn.Txn.{Txn}
use Rattle.rq_model.specs.declared.message.Message.{Message}
use Rattle.rq_reference.specs.declared.rows.OpenTxn.{OpenTxn}
use Rattle.rq_reference.specs.declared.rows.Act.{Act}
use Rattle.rq_reference.specs.declared.scans.Tagged.TheVariants.{Sends}
use Rattle.rq_model.specs.Vocabulary.{Op, first, last, last_or, front, is_some, has_number, sent_for, client_group}
use Rattle.rq_model.specs.Vocabulary.Op.{Send, Take, End, Mark}
use Rattle.rq_model.specs.History.{Job}
use Rattle.rq_model.specs.History.Job.{Sending, Taking, Undoing}
use Rattle.rq_model.specs.History.Call.{Start_receive, Finish}
use Rattle.rq_model.specs.History.Entry.{Started}
use Rattle.rq_model.specs.Ledger.{Open, Done, Ledger, found, started, rest_in, sent_in, tag_of, taken_in, change}
use Rattle.rq_model.specs.Growth.{Growth}
use Rattle.rq_model.specs.Legal.{OnFound, At, IsDoneBy, Legal, MayCome}
use Rattle.rq_model.specs.Tests.{Size, below, gives, any_gives, free_to_receive, holds_for, Passes, log_full}
use Rattle.rq_reference.specs.Plain.{StandsAt, open_of, op_of, sending_with, receiving_with, pick, receivable, ops_with, tag_for, tag_in, tags_in, ComesTo, Stand, finish_entry, next}

-- the last of a list stands at its last place
last_or_got : {X : Type 0} (y : X) (ys : List X) (d : X) → last_or y ys ≡ get_or (y ∷ ys) (length ys) d
last_or_got y [] d = refl
last_or_got y (z ∷ zs) d = last_or_got z zs d

last_or_map : {X Y : Type 0} (f : X → Y) (y : X) (ys : List X) → last_or (f y) (map f ys) ≡ f (last_or y ys)
last_or_map f y [] = refl
last_or_map f y (z ∷ zs) = last_or_map f z zs

pub last_got : {X Y : Type 0} (f : X → Y) (xs : List X) (x : X) → 0 < length xs → x ≡ get_or xs (length xs - 1) x → last (map f xs) ≡ Some (f x)
last_got f [] x h e = absurd (omega arith)
last_got f (y ∷ ys) x h e =
    let n : length (y ∷ ys) - 1 ≡ length ys = omega arith in
    let g : x ≡ get_or (y ∷ ys) (length ys) x = e ∙ ap (λ i. get_or (y ∷ ys) i x) n in
    ap (λ z. Some z) (last_or_map f y ys ∙ ap f (last_or_got y ys x ∙ sym g))

front_map : {X Y : Type 0} (f : X → Y) (xs : List X) → front (map f xs) ≡ map f (front xs)
front_map f [] = refl
front_map f (x ∷ []) = refl
front_map f (x ∷ y ∷ ys) = ap (λ l. f x ∷ l) (front_map f (y ∷ ys))

front_take : {X : Type 0} (xs : List X) → front xs ≡ take (length xs - 1) xs
front_take [] = refl
front_take (x ∷ []) = refl
front_take (x ∷ y ∷ ys) =
    let n : length (x ∷ y ∷ ys) - 1 ≡ suc (length (y ∷ ys) - 1) = omega arith in
    rw n (ap (λ l. x ∷ l) (front_take (y ∷ ys)))

pub front_of : {X Y : Type 0} (f : X → Y) (xs ys : List X) (n : ℕ) → ys ≡ take n xs → n ≡ length xs - 1 → map f ys ≡ front (map f xs)
front_of f xs ys n e g = ap (map f) (e ∙ ap (λ i. take i xs) g ∙ sym (front_take xs)) ∙ sym (front_map f xs)

-- what is found, with a fact more
pub on_more : (x : Option Open) (P Q : Open → Type 0) → OnFound x P → ((o : Open) → P o → Q o) → OnFound x Q
on_more None P Q h f = absurd h
on_more (Some o) P Q h f = f o h

pub on_two : (x : Option Open) (P Q R : Open → Type 0) → OnFound x P → OnFound x Q → ((o : Open) → P o → Q o → R o) → OnFound x R
on_two None P Q R h k f = absurd h
on_two (Some o) P Q R h k f = f o h k

-- of whoever stands at a place
pub on_place : (l : Ledger) (t : Txn) (k : ℕ) (d : Open) (P : Open → Type 0) → StandsAt l t k → ((o : Open) → P o) → At l t P
on_place l t k d P h f = rw (h.found d) (f (get_or l.open_ones k d))

pub found_at : (r : Option Message) (xs ys : List Message) (i j : ℕ) → r ≡ slice_get xs i → xs ≡ ys → i ≡ j → r ≡ slice_get ys j
found_at r xs ys i j e g h = e ∙ ap (λ l. slice_get l i) g ∙ ap (slice_get ys) h

-- every one of these is the sender's
abbrev From : ℕ → List Message → Type 0
From s [] = Unit {0}
From s (m ∷ ms) = (m.sender ≡ s) × From s ms

from_append : (s : ℕ) (xs ys : List Message) → From s xs → From s ys → From s (xs ++ ys)
from_append s [] ys a b = b
from_append s (x ∷ xs) ys a b = (a.0, from_append s xs ys a.1 b)

from_drop : (s n : ℕ) (xs : List Message) → From s xs → From s (drop n xs)
from_drop s zero xs a = a
from_drop s (suc n) [] a = a
from_drop s (suc n) (x ∷ xs) a = from_drop s n xs a.1

from_got : (s i : ℕ) (xs : List Message) (m : Message) → From s xs → slice_get xs i ≡ Some m → m.sender ≡ s
from_got s i [] m a e = cc
from_got s zero (x ∷ xs) m a e = let g : x ≡ m = cc in ap (λ (y : Message). y.sender) (sym g) ∙ a.0
from_got s (suc i) (x ∷ xs) m a e = from_got s i xs m a.1 e

from_ops : (s : ℕ) (ops : List Op) → From s (filter_map (sent_for s) ops)
from_ops s [] = tt
from_ops s (Send m ∷ ops) = elim (cases_Bool (nat_eq m.sender s)) [
  | inl y ↦ rw y (eqb-true m.sender s y, from_ops s ops)
  | inr n ↦ rw n (from_ops s ops)
]
from_ops s (Take m ∷ ops) = from_ops s ops
from_ops s (End r ∷ ops) = from_ops s ops
from_ops s (Mark client tag ∷ ops) = elim (cases_Bool (nat_eq (client_group client) s)) [
  | inl y ↦ rw y (eqb-true (client_group client) s y, from_ops s ops)
  | inr n ↦ rw n (from_ops s ops)
]

from_sent : (s : ℕ) (c : List Done) → From s (sent_in c s)
from_sent s [] = tt
from_sent s (d ∷ c) = from_append s (filter_map (sent_for s) d.ops) (sent_in c s) (from_ops s d.ops) (from_sent s c)

-- what waits of a sender is its own
pub waits_from : (c : List Done) (s i : ℕ) (m : Message) → Some m ≡ slice_get (rest_in c s) i → m.sender ≡ s
waits_from c s i m e = from_got s i (rest_in c s) m (from_drop s (length (taken_in c s)) (sent_in c s) (from_sent s c)) (sym e)

pub gives_holds : (l : Ledger) (t : Txn) (s : ℕ) (x : Option Open) → gives l t x s ≡ true → OnFound x (λ o. IsTrue (holds_for l o s))
gives_holds l t s None g = absurd (true≢false (sym g))
gives_holds l t s (Some o) g = (and_parts (free_to_receive t s l.open_ones) (holds_for l o s) g).1

pub gives_free : (l : Ledger) (t : Txn) (s : ℕ) (x : Option Open) → gives l t x s ≡ true → free_to_receive t s l.open_ones ≡ true
gives_free l t s None g = absurd (true≢false (sym g))
gives_free l t s (Some o) g = (and_parts (free_to_receive t s l.open_ones) (holds_for l o s) g).0

-- a free group that gives nothing holds nothing
pub gives_not : (l : Ledger) (t : Txn) (s : ℕ) (x : Option Open) → is_some x ≡ true → gives l t x s ≡ false → free_to_receive t s l.open_ones ≡ true → OnFound x (λ o. holds_for l o s ≡ false)
gives_not l t s None k g f = absurd (true≢false (sym k))
gives_not l t s (Some o) k g f = let h : (true && holds_for l o s) ≡ false = rw f at g in h

-- any group gives one where there is a first that does
pub any_first : (ss : List ℕ) (l : Ledger) (t : Txn) (x : Option Open) → any_gives ss l t x ≡ is_some (first (filter (gives l t x) ss))
any_first [] l t x = refl
any_first (s ∷ ss) l t x = elim (cases_Bool (gives l t x s)) [ inl y ↦ rw y refl | inr n ↦ rw n (any_first ss l t x) ]

abbrev AllAre : (ℕ → Type 0) → List ℕ → Type 0
AllAre P [] = Unit {0}
AllAre P (n ∷ ns) = P n × AllAre P ns

are_more : (P Q : ℕ → Type 0) (ns : List ℕ) → ((n : ℕ) → P n → Q n) → AllAre P ns → AllAre Q ns
are_more P Q [] f a = tt
are_more P Q (n ∷ ns) f a = (f n a.0, are_more P Q ns f a.1)

are_append : (P : ℕ → Type 0) (xs ys : List ℕ) → AllAre P xs → AllAre P ys → AllAre P (xs ++ ys)
are_append P [] ys a b = b
are_append P (x ∷ xs) ys a b = (a.0, are_append P xs ys a.1 b)

are_below : (n : ℕ) → AllAre (λ s. s < n) (below n)
are_below zero = tt
are_below (suc n) = are_append (λ s. s < suc n) (below n) (n ∷ []) (are_more (λ s. s < n) (λ s. s < suc n) (below n) (λ s h. omega arith) (are_below n)) (omega arith, tt)

are_filtered : (P : ℕ → Type 0) (p : ℕ → Bool) (ns : List ℕ) → AllAre P ns → AllAre (λ s. P s × (p s ≡ true)) (filter p ns)
are_filtered P p [] a = tt
are_filtered P p (n ∷ ns) a = elim (cases_Bool (p n)) [ inl y ↦ rw y ((a.0, y), are_filtered P p ns a.1) | inr k ↦ rw k (are_filtered P p ns a.1) ]

are_has : (P : ℕ → Type 0) (s : ℕ) (ns : List ℕ) → AllAre P ns → has_number s ns ≡ true → P s
are_has P s [] a h = absurd (true≢false (sym h))
are_has P s (n ∷ ns) a h = elim (or_cases (nat_eq n s) (has_number s ns) h) [ inl y ↦ subst P (eqb-true n s y) a.0 | inr y ↦ are_has P s ns a.1 y ]

are_first : (P : ℕ → Type 0) (s : ℕ) (ns : List ℕ) → AllAre P ns → first ns ≡ Some s → P s
are_first P s [] a e = cc
are_first P s (n ∷ ns) a e = let g : n ≡ s = cc in subst P g a.0

-- what is picked is one of the groups
pub picked : (z : Size) (l : Ledger) (t : Txn) (asked s : ℕ) → pick asked (receivable z l t) ≡ Some s → (s < z.senders) × (gives l t (found t l.open_ones) s ≡ true)
picked z l t asked s e =
    let all = are_filtered (λ n. n < z.senders) (gives l t (found t l.open_ones)) (below z.senders) (are_below z.senders) in
    let P : ℕ → Type 0 = λ n. (n < z.senders) × (gives l t (found t l.open_ones) n ≡ true) in
    elim (cases_Bool (has_number asked (receivable z l t))) [
      | inl y ↦ let g : Some asked ≡ Some s = rw y at e in let k : asked ≡ s = cc in subst P k (are_has P asked (receivable z l t) all y)
      | inr n ↦ let g : first (receivable z l t) ≡ Some s = rw n at e in are_first P s (receivable z l t) all g
    ]

pub picked_first : (asked : ℕ) (ns : List ℕ) → is_some (pick asked ns) ≡ is_some (first ns)
picked_first asked [] = refl
picked_first asked (n ∷ ns) = elim (cases_Bool (has_number asked (n ∷ ns))) [ inl y ↦ rw y refl | inr k ↦ rw k refl ]

-- where none is picked, no group gives a message
none_gives : (ss : List ℕ) (l : Ledger) (t : Txn) (x : Option Open) → any_gives ss l t x ≡ false → AllAre (λ s. gives l t x s ≡ false) ss
none_gives [] l t x e = tt
none_gives (s ∷ ss) l t x e = let w = or_parts (gives l t x s) (any_gives ss l t x) e in (w.0, none_gives ss l t x w.1)

are_left : (P : ℕ → Type 0) (xs ys : List ℕ) → AllAre P (xs ++ ys) → AllAre P xs × AllAre P ys
are_left P [] ys a = (tt, a)
are_left P (x ∷ xs) ys a = let h = are_left P xs ys a.1 in ((a.0, h.0), h.1)

at_below : (P : ℕ → Type 0) (n s : ℕ) → AllAre P (below n) → s < n → P s
at_below P zero s a h = absurd (omega arith)
at_below P (suc n) s a h =
    let w = are_left P (below n) (n ∷ []) a in
    elim (cases_Bool (nat_eq n s)) [
      | inl y ↦ subst P (eqb-true n s y) w.1.0
      | inr y ↦ let k : s < n = grind (arith, nat_tests) in at_below P n s w.0 k
    ]

pub none_picked : (z : Size) (l : Ledger) (t : Txn) (asked : ℕ) → is_some (found t l.open_ones) ≡ true → pick asked (receivable z l t) ≡ None
    → At l t (λ o. (s : ℕ) → s < z.senders → free_to_receive t s l.open_ones ≡ true → holds_for l o s ≡ false)
none_picked z l t asked k e =
    let x = found t l.open_ones in
    let none : any_gives (below z.senders) l t x ≡ false = any_first (below z.senders) l t x ∙ sym (picked_first asked (receivable z l t)) ∙ ap is_some e in
    let each = none_gives (below z.senders) l t x none in
    none_held x k (λ s h. at_below (λ n. gives l t x n ≡ false) z.senders s each h)
  where
    none_held : (x : Option Open) → is_some x ≡ true → ((s : ℕ) → s < z.senders → gives l t x s ≡ false) → OnFound x (λ o. (s : ℕ) → s < z.senders → free_to_receive t s l.open_ones ≡ true → holds_for l o s ≡ false)
    none_held None k g = absurd (true≢false (sym k))
    none_held (Some o) k g = λ s h f. gives_not l t s (Some o) refl (g s h) f

-- a group that gives a message is one of any
any_has : (z : Size) (l : Ledger) (t : Txn) (s : ℕ) (x : Option Open) → s < z.senders → gives l t x s ≡ true → any_gives (below z.senders) l t x ≡ true
any_has z l t s x h g = elim (cases_Bool (any_gives (below z.senders) l t x)) [
  | inl y ↦ y
  | inr n ↦ absurd (true≢false (sym g ∙ at_below (λ r. gives l t x r ≡ false) z.senders s (none_gives (below z.senders) l t x n) h))
]

and_second : (a b : Bool) → a ≡ true → (a && b) ≡ false → b ≡ false
and_second true b e h = h
and_second false b e h = absurd (true≢false (sym e))

-- there is a group to receive from, and no room for it
pub full_receive : (z : Size) (l : Ledger) (t : Txn) (gs : List ℕ) (b : Bool) → b ≡ (is_some (first gs) && log_full l 4) → gs ≡ receivable z l t
    → (any_gives (below z.senders) l t (found t l.open_ones) && log_full l 4) ≡ b
full_receive z l t gs b e g = ap (λ y. y && log_full l 4) (any_first (below z.senders) l t (found t l.open_ones) ∙ ap (λ ns. is_some (first ns)) (sym g)) ∙ sym e

-- a receive from a group that is picked may start
pub may_take : (z : Size) (l : Ledger) (t : Txn) (s n : ℕ) → Passes z l (Start_receive t) → (s < z.senders) × (gives l t (found t l.open_ones) s ≡ true)
    → At l t (λ o. n ≡ o.number + 1) → Legal z l (Started t n (Taking s))
may_take z l t s n p g h =
    let x = found t l.open_ones in
    let full : log_full l 4 ≡ false = and_second (any_gives (below z.senders) l t x) (log_full l 4) (any_has z l t s x g.0 g.1) p.1.1.1.1.0 in
    let k : nat_lt s z.senders ≡ true = (let b = g.0 in grind (arith, nat_tests)) in
    let f = gives_free l t s x g.1 in (
      (p.0, (p.1.0, (p.1.1.0, (p.1.1.1.0, (ap not k, (ap not f, (and_right (gives l t x s) (log_full l 4) full, tt))))))),
      on_two x (λ o. n ≡ o.number + 1) (λ o. IsTrue (holds_for l o s)) (λ o. (n ≡ o.number + 1) × IsTrue (holds_for l o s)) h (gives_holds l t s x g.1) (λ o a b. (a, b)),
    )

-- a row with an operation under way
abbrev pub with_work : OpenTxn → ℕ → ℕ → List ℕ → List ℕ → Job → Open
with_work m n left s r j = record (open_of m) { number = n; under = Some j; left = left; sending = s; receiving = r }

started_cases : (m : OpenTxn) (n w : ℕ) (j : Job) → with_work m n w (sending_with j m.sending.items) (receiving_with j m.receiving.items) j ≡ started n w j (open_of m)
started_cases m n w (Sending x) = refl
started_cases m n w _ = refl

pub started_is : (m : OpenTxn) (n left w : ℕ) (s r : List ℕ) (j : Job) → left ≡ w → s ≡ sending_with j m.sending.items → r ≡ receiving_with j m.receiving.items
    → with_work m n left s r j ≡ started n w j (open_of m)
started_is m n left w s r j e g h =
    ap (λ x. with_work m n x s r j) e ∙ ap (λ x. with_work m n w x r j) g ∙ ap (λ x. with_work m n w (sending_with j m.sending.items) x j) h ∙ started_cases m n w j

pub kept_txn : (n w : ℕ) (j : Job) (o : Open) → (started n w j o).txn ≡ o.txn
kept_txn n w (Sending x) o = refl
kept_txn n w _ o = refl

-- a row whose operation is finished
abbrev pub finished_one : Option Act → Open → Open
finished_one f o = record o { ops = ops_with f o.ops; under = None }

pub next_finish : (t : Txn) (n : ℕ) (f : Option Act) (s : Stand) → next (finish_entry t n f) s ≡ record s { ledger = record s.ledger { open_ones = change t (finished_one f) s.ledger.open_ones; records = s.ledger.records + 1 } }
next_finish t n (Some a) s = refl
next_finish t n None s = refl

pub may_finish : (z : Size) (g : Growth) (l : Ledger) (t : Txn) (n : ℕ) (f : Option Act) (j : Job) (o : Open) → Passes z l (Finish t n) → found t l.open_ones ≡ Some o → o.under ≡ Some j
    → At l t (λ p. ComesTo l p j f) → MayCome z g l (finish_entry t n f)
may_finish z g l t n (Some a) j o p e u h = let k : IsDoneBy l o (Some j) (op_of a) = rw e at h in (p, rw e (rw u k))
may_finish z g l t n None j o p e u h = let k : j ≡ Undoing = rw e at h in (p, rw e (u ∙ ap (λ x. Some x) k))

-- what is told of a sender is that of its messages
with_tag : (o : Option Message) (tags : List ℕ) (ms : List Message) → tags ≡ map (λ (m : Message). m.tag) ms → cons_option (tag_in o) tags ≡ map (λ (m : Message). m.tag) (cons_option o ms)
with_tag None tags ms e = e
with_tag (Some m) tags ms e = ap (λ l. m.tag ∷ l) e

tags_of : (s : ℕ) (ops : List Op) → filter_map (tag_for Sends s) ops ≡ map (λ (m : Message). m.tag) (filter_map (sent_for s) ops)
tags_of s [] = refl
tags_of s (op ∷ ops) = with_tag (sent_for s op) (filter_map (tag_for Sends s) ops) (filter_map (sent_for s) ops) (tags_of s ops)

tags_sent : (s : ℕ) (ds : List Done) → tags_in Sends ds s ≡ map (λ (m : Message). m.tag) (sent_in ds s)
tags_sent s [] = refl
tags_sent s (d ∷ ds) = ap (λ l. l ++ tags_in Sends ds s) (tags_of s d.ops) ∙ ap (λ l. map (λ (m : Message). m.tag) (filter_map (sent_for s) d.ops) ++ l) (tags_sent s ds) ∙ sym (map-append (λ (m : Message). m.tag) (filter_map (sent_for s) d.ops) (sent_in ds s))

pub sends_counted : (s : ℕ) (ds : List Done) → length (tags_in Sends ds s) ≡ length (sent_in ds s)
sends_counted s ds = ap length (tags_sent s ds) ∙ length-map (sent_in ds s) (λ (m : Message). m.tag)

pub sends_last : (s : ℕ) (ds : List Done) → last_or 0 (tags_in Sends ds s) ≡ tag_of (sent_in ds s)
sends_last s ds = ap (last_or 0) (tags_sent s ds) ∙ go (sent_in ds s)
  where
    go : (ms : List Message) → last_or 0 (map (λ (m : Message). m.tag) ms) ≡ tag_of ms
    go [] = refl
    go (m ∷ ms) = last_or_map (λ (m : Message). m.tag) m ms
