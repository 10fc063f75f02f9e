-- On a sound store with nothing under way, what is read of a sender is its committed content.
use Rattle.std.proofs.Common.{◌≡◌, ℕ, zero, suc, ◌+◌, ◌-◌, ◌/◌, ◌<◌, ◌≤◌, List, [], ◌∷◌, ◌++◌, length, map, take, drop, refl, sym, ◌∙◌, ap, subst, ◌||◌, cond, false, arith, inl, inr, Option, Some, None}
use Rattle.std.specs.Prelude.{Result, Ok, Err, IfOk, IfErr}
use Rattle.std.specs.Global.{Vec}
use Rattle.std.specs.List.{filter_map}
use Rattle.std.proofs.Math.Seq.{take-append_seam}
use Rattle.std.proofs.lemmas.Bool.{cases_Bool}
use Rattle.std.proofs.lemmas.Option.{same_Some}
use Rattle.std.proofs.lemmas.List.{length-append, length-map, length-drop, map-append, append-nil, take-append-drop}
use Rattle.rq_model.specs.declared.message.Message.{Message}
use Rattle.rq_model.specs.declared.txn.Txn.{Txn}
use Rattle.rq_model.specs.declared.refusal.Refusal.{Refusal}
use Rattle.rq_model.specs.declared.refusal.Refusal.TheVariants.{NoMemory, DiskRead, Damaged}
use Rattle.rq_model.specs.declared.refusal.Damage.TheVariants.{Page}
use Rattle.rq_model.specs.Tests.{below}
use Rattle.rq_disk.specs.declared.device.PageDevice.{Ghosts}
use Rattle.rq_pool.specs.Pooled.{Pooled}
use Rattle.rq_model.specs.Vocabulary.{In, same_txn, sent_for, taken_from}
use Rattle.rq_model.specs.History.{Group}
use Rattle.rq_model.specs.Ledger.{group_in}
use Rattle.rq_model.specs.Content.{added, removed, closed, tag_after}
use Rattle.rq_model.specs.Commits.{committed_of}
use Rattle.rq_model.proofs.Told.{told_sent, told_taken}
use Rattle.rq_model.proofs.Lists.{same_is, not_same}
use Rattle.rq_txn.specs.declared.Finished.{Finished}
use Rattle.rq_txn.specs.Rows.{Row, found_row, AreDistinct, any_under}
use Rattle.rq_page.specs.declared.directory.Directory.{Directory}
use Rattle.rq_page.specs.Sizes.{Sizes, directory_at, sender_count}
use Rattle.rq_views.specs.Chain.{View, Cells, Node, Linked, first, message}
use Rattle.rq_views.specs.Committed.{IsViewOf, message_of}
use Rattle.rq_views.specs.Groups.{on_sending_end, on_receiving_end, side, committed}
use Rattle.rq_views.specs.Items.{items}
use Rattle.rq_views.specs.Legal.{open_deeds, view}
use Rattle.rq_views.specs.Log.{cell_in, cells_of}
use Rattle.rq_views.proofs.Committed.{say}
use Rattle.rq_views.proofs.Deeds.{Sound}
use Rattle.rq_views.proofs.GroupRule.{held}
use Rattle.rq_views.proofs.Holders.{Held}
use Rattle.rq_views.proofs.Holding.{Holds, view_holds, committed_is_group, tag_and_body}
use Rattle.rq_store.specs.State.{State}
use Rattle.rq_store.specs.Rows.{placed}
use Rattle.rq_store.specs.Fitting.{left_by}
use Rattle.rq_store.proofs.Grouping.{groups_of}
use Rattle.rq_store.proofs.RowLists.{found_in}
use Rattle.rq_store.proofs.Placed.{told_placed}
use Rattle.rq_sound.specs.Sound.{IsSound}
use Rattle.rq_sound.proofs.Contracts.{shows}
use Rattle.rq_sound.proofs.Groups.{none_latched}
use Rattle.rq_content.specs.declared.GroupContent.{GroupContent}
use Rattle.rq_content.specs.Read.{group_of, IsBroken, IsNoDamage, StopsFor, Before, start, without_all, without_rows, or_else, met, cells_in, shown_group, read_group}
use Rattle.rq_content.proofs.Walks.{linked_over, met_linked}
use Rattle.rq_content.proofs.LeftOut.{own, own_taken, SameSends, sends_same, sends_through, respects, quiet_sends, quiet_takes, closes, closes_is, closed_before, own_left, first_tag, AreFirst, takes_first}
use Rattle.rq_content.proofs.OneRead.{Has, fields_are, read_is}

-- of these rows none but t's sends for g
abbrev NoneSends : ℕ → Txn → List Row → Type 0
NoneSends g t rows = (r : Row) → In r rows → same_txn r.txn t ≡ false → side (on_sending_end g) (placed r.finished) ≡ []

-- and none but t's takes from it
abbrev NoneTakes : ℕ → Txn → List Row → Type 0
NoneTakes g t rows = (r : Row) → In r rows → same_txn r.txn t ≡ false → side (on_receiving_end g) (placed r.finished) ≡ []

sends_quiet : (g : ℕ) (t : Txn) (rows : List Row) (b : Before) → NoneSends g t rows → found_row t rows ≡ None → SameSends (without_rows g rows b) b
sends_quiet g t [] b q e = sends_same b
sends_quiet g t (r ∷ rows) b q e = elim (cases_Bool (same_txn r.txn t)) [
  | inl y ↦ let bad : Some r ≡ None = rw y at e in cc
  | inr n ↦ let k = q r (inl refl) in sends_through _ (without_rows g rows b) b (quiet_sends g r.finished (without_rows g rows b) (k n)) (sends_quiet g t rows b (λ p i. q p (inr i)) (rw n at e))
]

-- what sends leave out of all rows is what they leave out of one
sends_one : (g : ℕ) (t : Txn) (rows : List Row) (b : Before) (r : Row) → AreDistinct rows → NoneSends g t rows → found_row t rows ≡ Some r → SameSends (without_rows g rows b) (without_all g r.finished b)
sends_one g t [] b r d q e = cc
sends_one g t (p ∷ rows) b r d q e = elim (cases_Bool (same_txn p.txn t)) [
  | inl y ↦
      let same : p ≡ r = same_Some p r (rw y at e) in
      let none : found_row t rows ≡ None = ap (λ u. found_row u rows) (sym (same_is p.txn t y)) ∙ d.0 in
      let k = respects g p.finished (without_rows g rows b) b (sends_quiet g t rows b (λ x i. q x (inr i)) none) in
      subst (λ (x : Row). SameSends (without_all g p.finished (without_rows g rows b)) (without_all g x.finished b)) same k
  | inr n ↦
      let k = q p (inl refl) in
      sends_through _ (without_rows g rows b) _ (quiet_sends g p.finished (without_rows g rows b) (k n)) (sends_one g t rows b r d.1 (λ x i. q x (inr i)) (rw n at e))
]

takes_quiet : (g : ℕ) (t : Txn) (rows : List Row) (b : Before) → NoneTakes g t rows → found_row t rows ≡ None → (without_rows g rows b).taken ≡ b.taken
takes_quiet g t [] b q e = refl
takes_quiet g t (r ∷ rows) b q e = elim (cases_Bool (same_txn r.txn t)) [
  | inl y ↦ let bad : Some r ≡ None = rw y at e in cc
  | inr n ↦ let k = q r (inl refl) in quiet_takes g r.finished (without_rows g rows b) (k n) ∙ takes_quiet g t rows b (λ p i. q p (inr i)) (rw n at e)
]

-- and so it is with takes
takes_one : (g : ℕ) (t : Txn) (rows : List Row) (b : Before) (r : Row) → AreDistinct rows → NoneTakes g t rows → found_row t rows ≡ Some r → (without_rows g rows b).taken ≡ b.taken ++ own_taken g r.finished
takes_one g t [] b r d q e = cc
takes_one g t (p ∷ rows) b r d q e = elim (cases_Bool (same_txn p.txn t)) [
  | inl y ↦
      let same : p ≡ r = same_Some p r (rw y at e) in
      let none : found_row t rows ≡ None = ap (λ u. found_row u rows) (sym (same_is p.txn t y)) ∙ d.0 in
      (own_left g p.finished (without_rows g rows b)).taken ∙ ap (λ l. l ++ own_taken g p.finished) (takes_quiet g t rows b (λ x i. q x (inr i)) none) ∙ ap (λ (x : Row). b.taken ++ own_taken g x.finished) same
  | inr n ↦
      let k = q p (inl refl) in
      quiet_takes g p.finished (without_rows g rows b) (k n) ∙ takes_one g t rows b r d.1 (λ x i. q x (inr i)) (rw n at e)
]

-- what t has done and not ended: messages sent and taken
record DoneBy (s : State) (g : ℕ) (t : Txn) : Type 0 where
  finished : List Finished
  open_is : open_deeds t (items s.sizes s.records) ≡ placed finished
  sends_left : (b : Before) → NoneSends g t s.rows → SameSends (without_rows g s.rows b) (without_all g finished b)
  takes_left : (b : Before) → NoneTakes g t s.rows → (without_rows g s.rows b).taken ≡ b.taken ++ own_taken g finished

done_by : (s : State) (k : IsSound s) (g : ℕ) (t : Txn) → DoneBy s g t
done_by s k g t = at (found_row t s.rows) refl where
  at : (o : Option Row) → found_row t s.rows ≡ o → DoneBy s g t
  at None e = record { finished = []; open_is = (k.standing.others t e).settled; sends_left = λ b q. sends_quiet g t s.rows b q e; takes_left = λ b q. takes_quiet g t s.rows b q e ∙ sym (append-nil b.taken) }
  at (Some r) e =
      let i = found_in t s.rows r e in
      record {
        finished = r.finished;
        open_is = ap (λ u. open_deeds u (items s.sizes s.records)) (sym i.1) ∙ (k.standing.each r i.0).done;
        sends_left = λ b q. sends_one g t s.rows b r k.standing.distinct q e;
        takes_left = λ b q. takes_one g t s.rows b r k.standing.distinct q e;
      }

-- what t sent for g, and how many messages it took from it
added_own : (s : State) (g : ℕ) (t : Txn) (d : DoneBy s g t) → added g (say (open_deeds t (items s.sizes s.records))) ≡ own g d.finished
added_own s g t d = ap (λ ps. added g (say ps)) d.open_is ∙ sym (told_sent g (say (placed d.finished))) ∙ ap (filter_map (sent_for g)) (told_placed d.finished)

removed_own : (s : State) (g : ℕ) (t : Txn) (d : DoneBy s g t) → removed g (say (open_deeds t (items s.sizes s.records))) ≡ length (own_taken g d.finished)
removed_own s g t d = ap (λ ps. removed g (say ps)) d.open_is ∙ sym (told_taken g (say (placed d.finished))) ∙ ap (λ l. length (filter_map (taken_from g) l)) (told_placed d.finished)

-- A chain that holds what is committed without what its receiving holder took, and then what its sending holder sent, with the directory
-- slot without those sends.
record Shown (m : Cells) (g : ℕ) (d : Directory) (c : View) (a : Before) (sent : List Message) (nodes : List Node) : Type 0 where
  linked : Linked m g 0 (d.received + 1) nodes 0
  head : d.head ≡ first nodes 0
  count : d.sent ≡ d.received + length nodes
  messages : map message nodes ≡ drop (length a.taken) c.messages ++ map tag_and_body sent
  received : d.received ≡ c.received + length a.taken
  left : a.sent ≡ d.sent - length sent
  taken : AreFirst g a.taken c.messages

many : (m : Cells) (g : ℕ) (d : Directory) (c : View) (a : Before) (sent : List Message) (nodes : List Node) → Shown m g d c a sent nodes → length nodes + length a.taken ≡ length c.messages + length sent
many m g d c a sent nodes h =
    let e : length nodes ≡ length (drop (length a.taken) c.messages ++ map tag_and_body sent) = sym (length-map nodes message) ∙ ap length h.messages in
    let f = length-append (drop (length a.taken) c.messages) (map tag_and_body sent) in
    let k = length-drop (length a.taken) c.messages in
    let n = length-map sent tag_and_body in
    let w = h.taken.within in
    omega (arith, e, f, k, n, w)

-- what is met of it is committed
met_committed : (m : Cells) (g : ℕ) (d : Directory) (c : View) (a : Before) (sent : List Message) (nodes : List Node) → Shown m g d c a sent nodes → met m g d.head (a.sent - d.received) ≡ map (message_of g) (drop (length a.taken) c.messages)
met_committed m g d c a sent nodes h =
    let n = many m g d c a sent nodes h in
    let rest = drop (length a.taken) c.messages in
    let r : length rest ≡ length c.messages - length a.taken = length-drop (length a.taken) c.messages in
    let w = h.taken.within in
    let k : a.sent - d.received ≡ length rest = omega (arith, n, r, w, h.left, h.count) in
    let le : length rest ≤ length nodes = omega (arith, n, r, w) in
    ap (met m g d.head) k ∙ ap (λ x. met m g x (length rest)) h.head ∙ met_linked m g 0 (d.received + 1) nodes 0 (length rest) h.linked le
    ∙ ap (λ l. map (message_of g) (take (length rest) l)) h.messages ∙ ap (map (message_of g)) (take-append_seam rest (map tag_and_body sent))

-- so many are met
met_many : (m : Cells) (g : ℕ) (d : Directory) (c : View) (a : Before) (sent : List Message) (nodes : List Node) → Shown m g d c a sent nodes → length (met m g d.head (a.sent - d.received)) ≡ a.sent - d.received
met_many m g d c a sent nodes h =
    let n = many m g d c a sent nodes h in
    let rest = drop (length a.taken) c.messages in
    let r : length rest ≡ length c.messages - length a.taken = length-drop (length a.taken) c.messages in
    let w = h.taken.within in
    ap length (met_committed m g d c a sent nodes h) ∙ length-map rest (message_of g) ∙ (omega (arith, n, r, w, h.left, h.count))

-- with what was taken in front it is all that is committed
taken_and_met : (m : Cells) (g : ℕ) (d : Directory) (c : View) (a : Before) (sent : List Message) (nodes : List Node) → Shown m g d c a sent nodes → map (message_of g) c.messages ≡ a.taken ++ met m g d.head (a.sent - d.received)
taken_and_met m g d c a sent nodes h =
    let k = length a.taken in
    ap (map (message_of g)) (sym (take-append-drop k c.messages)) ∙ map-append (message_of g) (take k c.messages) (drop k c.messages) ∙ ap (λ l. l ++ map (message_of g) (drop k c.messages)) h.taken.are ∙ ap (λ l. a.taken ++ l) (sym (met_committed m g d c a sent nodes h))

shows_group : (m : Cells) (g : ℕ) (d : Directory) (c : View) (a : Before) (sent : List Message) (nodes : List Node) (group : Group) → Shown m g d c a sent nodes → IsViewOf g group c
    → or_else a.previous d.last_tag ≡ c.last_tag → a.closed ≡ group.closed → shown_group m g d a ≡ group
shows_group m g d c a sent nodes group h is tag closed =
    let n = many m g d c a sent nodes h in
    let w = h.taken.within in
    let total : group.sent ≡ a.sent = omega (arith, n, w, h.left, h.count, h.received, is.received, is.sent) in
    let received : group.received ≡ d.received - length a.taken = omega (arith, h.received, is.received) in
    let rest : group.rest ≡ a.taken ++ met m g d.head (a.sent - d.received) = is.rest ∙ taken_and_met m g d c a sent nodes h in
    sym (fields_are group.sent group.last_tag group.received 0 group.closed group.rest m g d a total (sym is.last_tag ∙ sym tag) received (sym closed) rest)

-- what a sound store shows of g
record Finds (s : State) (g : ℕ) : Type 0 where
  directory : Directory
  nodes : List Node
  before : Before
  sent : List Message
  has : Has s.sizes s.images s.rows g directory before
  shows : Shown (cells_in s.sizes s.images) g directory (committed (items s.sizes s.records) g) before sent nodes
  tag : or_else before.previous directory.last_tag ≡ (committed (items s.sizes s.records) g).last_tag
  closed : before.closed ≡ (group_in (committed_of s.records) g).closed

finds : (s : State) (k : IsSound s) → any_under s.rows ≡ false → (g : ℕ) → g < sender_count s.sizes → Finds s g
finds s k e g below =
    let its = items s.sizes s.records in
    let c = committed its g in
    let h : Held g (λ u. open_deeds u its) (view its g) c = held g its (groups_of s.sizes s.records k.log) in
    let t = h.sender in
    let u = h.taker in
    let w : Holds g (say (open_deeds t its)) (say (open_deeds u its)) c (view its g) = view_holds g its t u (groups_of s.sizes s.records k.log) h.sender_alone h.taker_alone in
    let is = committed_is_group s.sizes g s.records k.log.rules k.log.reads in
    let dt = done_by s k g t in
    let du = done_by s k g u in
    let own_is : added g (say (open_deeds t its)) ≡ own g dt.finished = added_own s g t dt in
    let x = shows s k g below (none_latched s.rows (directory_at g / 16) e) in
    let d = x.directory in
    let nobody_sends : NoneSends g t s.rows = λ r i n. ap (side (on_sending_end g)) (sym (k.standing.each r i).done) ∙ h.sender_alone r.txn (not_same r.txn t n) in
    let nobody_takes : NoneTakes g u s.rows = λ r i n. ap (side (on_receiving_end g)) (sym (k.standing.each r i).done) ∙ h.taker_alone r.txn (not_same r.txn u n) in
    let a : Before = without_rows g s.rows (start d) in
    let sends = dt.sends_left (start d) nobody_sends in
    let left = own_left g dt.finished (start d) in
    let taken : a.taken ≡ own_taken g du.finished = du.takes_left (start d) nobody_takes in
    let count : removed g (say (open_deeds u its)) ≡ length a.taken = removed_own s g u du ∙ ap length (sym taken) in
    record {
      directory = d;
      nodes = x.shows.nodes;
      before = a;
      sent = own g dt.finished;
      has = record { held = k.pages (directory_at g) ∙ x.at; before = refl };
      shows = record {
        linked = linked_over (cells_in s.sizes s.images) (cells_of (left_by s.sizes s.records).slots) (λ a. ap cell_in (k.pages a)) g 0 (d.received + 1) x.shows.nodes 0 x.shows.linked;
        head = x.shows.head;
        count = x.shows.sent;
        messages = sym x.shows.messages ∙ w.messages ∙ ap (λ n. drop n c.messages ++ map tag_and_body (added g (say (open_deeds t its)))) count ∙ ap (λ l. drop (length a.taken) c.messages ++ map tag_and_body l) own_is;
        received = sym x.shows.received ∙ w.received ∙ ap (λ n. c.received + n) count;
        left = sends.sent ∙ left.sent;
        taken = subst (λ l. AreFirst g l c.messages) (sym taken) (takes_first g du.finished c (subst (λ ps. Sound (side (on_receiving_end g) ps) c) du.open_is (h.takes u)));
      };
      tag =
          ap (λ o. or_else o d.last_tag) sends.previous
          ∙ ap (or_else (without_all g dt.finished (start d)).previous) (sym x.shows.last_tag ∙ w.last_tag ∙ ap (tag_after c.last_tag) own_is)
          ∙ first_tag g dt.finished (start d) c refl (subst (λ ps. Sound (side (on_sending_end g) ps) c) dt.open_is (h.sends t));
      closed = sends.closed ∙ left.closed ∙ elim (cases_Bool (closes g dt.finished)) [
        | inl y ↦ ap (λ b. cond b false d.closed) y ∙ sym (closed_before g dt.finished c y (subst (λ ps. Sound (side (on_sending_end g) ps) c) dt.open_is (h.sends t))) ∙ is.closed
        | inr n ↦ ap (λ b. cond b false d.closed) n ∙ sym x.shows.closed ∙ w.closed ∙ ap (λ b. b || c.closed) (ap (λ ps. closed g (say ps)) dt.open_is ∙ closes_is g dt.finished ∙ n) ∙ is.closed
      ];
    }

-- the committed content of a sender is what is read of it
pub reads_committed : (s : State) (k : IsSound s) → any_under s.rows ≡ false → (g : ℕ) → g < sender_count s.sizes → read_group s.sizes s.images s.rows g ≡ group_in (committed_of s.records) g
reads_committed s k e g below =
    let f = finds s k e g below in
    let m = cells_in s.sizes s.images in
    let group = group_in (committed_of s.records) g in
    read_is s.sizes s.images s.rows g f.directory f.before (λ x y. shown_group m g x y ≡ group) f.has
    (shows_group m g f.directory (committed (items s.sizes s.records) g) f.before f.sent f.nodes group f.shows (committed_is_group s.sizes g s.records k.log.rules k.log.reads) f.tag f.closed)

-- and no chain is broken
pub none_broken : (s : State) (k : IsSound s) → any_under s.rows ≡ false → (r : Refusal) → IsBroken s.sizes s.images s.rows r → ⊥
none_broken s k e r b =
    let g = b.sender in
    let f = finds s k e g b.below in
    let m = cells_in s.sizes s.images in
    let whole = read_is s.sizes s.images s.rows g f.directory f.before (λ x y. length (met m g x.head (y.sent - x.received)) ≡ y.sent - x.received) f.has
    (met_many m g f.directory (committed (items s.sizes s.records) g) f.before f.sent f.nodes f.shows) in
    let short = b.short in
    omega (arith, whole, short)

map_below : (f h : ℕ → Group) (n : ℕ) → ((i : ℕ) → i < n → f i ≡ h i) → map f (below n) ≡ map h (below n)
map_below f h zero e = refl
map_below f h (suc n) e = map-append f (below n) (n ∷ []) ∙ ap (λ l. l ++ f n ∷ []) (map_below f h n (λ i lt. e i (omega (arith, lt)))) ∙ ap (λ x. map h (below n) ++ x ∷ []) (e n (omega arith)) ∙ sym (map-append h (below n) (n ∷ []))

abbrev Read : Sizes → List (List ℕ) → List Row → Result (Vec GroupContent) Refusal → Type 0
Read z images rows result = IfOk result (λ groups. map group_of groups.items ≡ map (read_group z images rows) (below (sender_count z)))

abbrev Committed : State → Result (Vec GroupContent) Refusal → Type 0
Committed s result = IfOk result (λ groups. map group_of groups.items ≡ map (group_in (committed_of s.records)) (below (sender_count s.sizes)))

all_read : (s : State) (k : IsSound s) → any_under s.rows ≡ false → (r : Result (Vec GroupContent) Refusal) → Read s.sizes s.images s.rows r → Committed s r
all_read s k e (Ok groups) h = h ∙ map_below (read_group s.sizes s.images s.rows) (group_in (committed_of s.records)) (sender_count s.sizes) (λ i lt. reads_committed s k e i lt)
all_read s k e (Err r) h = tt

-- what is read of all of them is the committed content
pub content_is : (s : State) (k : IsSound s) (z : Sizes) (images : List (List ℕ)) (rows : List Row) → s.sizes ≡ z → s.images ≡ images → s.rows ≡ rows → any_under s.rows ≡ false
    → (r : Result (Vec GroupContent) Refusal) → Read z images rows r → Committed s r
content_is s k z images rows e1 e2 e3 idle r h =
    all_read s k idle r (subst (λ z. Read z s.images s.rows r) (sym e1) (subst (λ i. Read z i s.rows r) (sym e2) (subst (λ l. Read z images l r) (sym e3) h)))

module _ {P : Type 0} (g : Ghosts P) (s : State) (k : IsSound s) (old new : Pooled P) (rows : List Row) (sizes : s.sizes ≡ old.sizes) (images : s.images ≡ old.images) (same : s.rows ≡ rows) (idle : any_under s.rows ≡ false) (honest : g.honest new.device) where
  none_damaged : (r : Refusal) → IsBroken old.sizes old.images rows r → ⊥
  none_damaged r b = none_broken s k idle r (subst (λ z. IsBroken z s.images s.rows r) (sym sizes) (subst (λ i. IsBroken old.sizes i s.rows r) (sym images) (subst (λ l. IsBroken old.sizes old.images l r) (sym same) b)))

  no_stop : (r : Refusal) → StopsFor g rows old r new → IsNoDamage r
  no_stop NoMemory h = inl refl
  no_stop DiskRead h = inr refl
  no_stop (Damaged (Page n)) h = absurd (none_damaged (Damaged (Page n)) (h.1 honest))
  no_stop _ h = absurd h

  -- and no damage is met
  pub none_met : (r : Result (Vec GroupContent) Refusal) → IfErr r (λ refusal. StopsFor g rows old refusal new) → IfErr r (λ refusal. IsNoDamage refusal)
  none_met (Ok groups) h = tt
  none_met (Err r) h = no_stop r h
