-- What an operation's writes tell of the view that they were made over.
use Rattle.rq_page.specs.declared.cell.Cell.{Cell}
use Rattle.rq_page.specs.declared.directory.Directory.{Directory}
use Rattle.std.proofs.Common.{◌≡◌, ℕ, ◌+◌, ◌<◌, List, [], ◌∷◌, length, map, sym, ap, subst, ◌∙◌, arith, Option, None, Some}
use Rattle.rq_views.specs.Chain.{Cells, Node, first, Linked, View, message}
use Rattle.rq_views.specs.Log.{Slots, put, cell_in, cells_of, Write, HasBefores, Places}
use Rattle.rq_page.specs.Slots.Slot.{Free, Used, Sender}
use Rattle.rq_views.specs.Plans.{ShowsAt, with_next, with_prev, append_writes, unlink_head_writes, IsAppend, IsUnlinkHead}
use Rattle.rq_views.proofs.ChainLaws.{through, used_sender, free_sender, shows_here}
use Rattle.rq_views.proofs.CanPlan.{length_shown}

append_directory : (l : Places) (q : Slots) (s : ℕ) (d : Directory) (new tag : ℕ) (body : List ℕ) (old : Option Cell) → HasBefores (append_writes l s d new tag body old) q → Sender s d ≡ q (l.directory_at s)
append_directory l q s d new tag body None f = (through q new _ (Sender s d) (l.directory_at s) (used_sender _ s d) f.0).1
append_directory l q s d new tag body (Some o) f = (through q new _ (Sender s d) (l.directory_at s) (used_sender _ s d) (through (put q new _) d.tail _ (Sender s d) (l.directory_at s) (used_sender (with_next new o) s d) f.0).1).1

pub append_tells : (l : Places) (q : Slots) (ws : List Write) (s n tag previous : ℕ) (body : List ℕ) (v : View) → IsAppend l s n tag previous body ws → HasBefores ws q → ShowsAt l q s v → (previous ≡ v.last_tag) × (n ≡ v.received + length v.messages + 1)
append_tells l q ws s n tag previous body v p f h =
    let e = append_directory l q s p.directory p.new tag body p.old (subst (λ ws. HasBefores ws q) p.writes f) in
    let k = shows_here l q s v p.directory e h in
    (p.previous_is ∙ sym k.last_tag, let m : length v.messages ≡ length k.nodes = ap (λ xs. length xs) k.messages ∙ length_shown k.nodes in omega (arith, p.sequence, k.sent, k.received, m))

head_directory : (l : Places) (q : Slots) (s : ℕ) (d : Directory) (c : Cell) (next : Option Cell) → HasBefores (unlink_head_writes l s d c next) q → (Sender s d ≡ q (l.directory_at s)) × (Used c ≡ q d.head)
head_directory l q s d c None f = ((through q d.head Free (Sender s d) (l.directory_at s) (free_sender s d) f.0).1, f.1.0)
head_directory l q s d c (Some x) f = ((through q d.head Free (Sender s d) (l.directory_at s) (free_sender s d) (through (put q d.head Free) c.next _ (Sender s d) (l.directory_at s) (used_sender (with_prev 0 x) s d) f.0).1).1, f.1.1.0)

head_message : (m : Cells) (s head q : ℕ) (c : Cell) (ns : List Node) → 0 < head → head ≡ first ns 0 → Linked m s 0 q ns 0 → m head ≡ Some c → (rest : List (ℕ × List ℕ)) × (map message ns ≡ (c.tag, c.body) ∷ rest)
head_message m s head q c [] pos e l here = absurd (omega (arith, pos, e))
head_message m s head q c (n ∷ ns) pos e l here = (map message ns, ap (λ (x : ℕ × List ℕ). x ∷ map message ns) (cell_message (sym l.1 ∙ ap m (sym e) ∙ here))) where
  cell_message : {a b : Cell} → Some a ≡ Some b → ◌≡◌ {A = ℕ × List ℕ} (a.tag, a.body) (b.tag, b.body)
  cell_message {a} {b} h = let k : a ≡ b = cc in ap (λ (x : Cell). let y : ℕ × List ℕ = (x.tag, x.body) in y) k

pub head_tells : (l : Places) (q : Slots) (ws : List Write) (s n tag : ℕ) (body : List ℕ) (v : View) → IsUnlinkHead l s n tag body ws → HasBefores ws q → ShowsAt l q s v → ((rest : List (ℕ × List ℕ)) × (v.messages ≡ (tag, body) ∷ rest)) × (n ≡ v.received + 1)
head_tells l q ws s n tag body v p f h =
    let e = head_directory l q s p.directory p.cell p.next (subst (λ ws. HasBefores ws q) p.writes f) in
    let k = shows_here l q s v p.directory e.0 h in
    let r = head_message (cells_of q) s p.directory.head (p.directory.received + 1) p.cell k.nodes p.used k.head k.linked (ap cell_in (sym e.1)) in
    ((r.0, k.messages ∙ r.1 ∙ ap (λ t. (t, p.cell.body) ∷ r.0) (sym p.tag_is) ∙ ap (λ b. (tag, b) ∷ r.0) (sym p.body_is)), p.sequence ∙ ap (λ x. x + 1) (sym k.received))
