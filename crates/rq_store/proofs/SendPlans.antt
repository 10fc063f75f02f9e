-- A planned send fits the slots that it is planned from.
use Rattle.std.proofs.Common.{◌≡◌, ◌≢◌, ℕ, ◌+◌, ◌<◌, List, [], ◌∷◌, refl, sym, ◌∙◌, ap, subst, Option, Some, None}
use Rattle.rq_page.specs.declared.cell.Cell.{Cell}
use Rattle.rq_page.specs.declared.directory.Directory.{Directory}
use Rattle.rq_page.specs.Slots.{Slot}
use Rattle.rq_page.specs.Slots.Slot.{Free, Used, Sender}
use Rattle.rq_views.specs.Chain.{Node, last, Linked, View, Shows}
use Rattle.rq_views.specs.Log.{Slots, Write, HasBefores, Places, cells_of, cell_in, put}
use Rattle.rq_views.specs.Plans.{ShowsAt, LinksTo, append_writes, with_next, IsAppend}
use Rattle.rq_views.proofs.Chains.{last_is, last_pos}
use Rattle.rq_views.proofs.ChainLaws.{shows_here}
use Rattle.rq_views.proofs.Overlay.{put_off}
use Rattle.rq_store.specs.Plans.{Stands_at}

-- no cell stands at 0
abbrev NoneAtZero : Slots → Type 0
NoneAtZero q = q 0 ≡ Free

same_some : (a b : Cell) → Some a ≡ Some b → a ≡ b
same_some a b e = cc

link_at : (q : Slots) (s : ℕ) (d : Directory) (v : View) (old : Option Cell) → NoneAtZero q → Shows (cells_of q) s d v → Stands_at q d.tail old → LinksTo s d.tail old
link_at q s d v None zero k e = e
link_at q s d v (Some c) zero k e = at k.nodes k.linked k.tail where
  at : (ns : List Node) → Linked (cells_of q) s 0 (d.received + 1) ns 0 → d.tail ≡ last 0 ns → LinksTo s d.tail (Some c)
  at [] l t = let bad : Used c ≡ Free = sym e ∙ ap q t ∙ zero in cc
  at (n ∷ ns) l t =
      let r = last_is (cells_of q) s 0 (d.received + 1) n ns 0 l in
      let here : Some c ≡ Some r.0 = ap cell_in (sym e) ∙ ap (cells_of q) t ∙ r.1 in
      (subst (λ a. 0 < a) (sym t) (last_pos (cells_of q) s 0 (d.received + 1) n ns 0 l), ap (λ (x : Cell). x.sender) (same_some c r.0 here) ∙ r.3)

pub is_append : (l : Places) (q : Slots) (s tag : ℕ) (body : List ℕ) (d : Directory) (new : ℕ) (old : Option Cell) (v : View) (ws : List Write) → NoneAtZero q → q (l.directory_at s) ≡ Sender s d → ShowsAt l q s v → Stands_at q d.tail old → 0 < new
    → ws ≡ append_writes l s d new tag body old → IsAppend l s (d.sent + 1) tag d.last_tag body ws
is_append l q s tag body d new old v ws zero at shows beside pos e = record {
  directory = d;
  new = new;
  old = old;
  used = pos;
  sequence = refl;
  previous_is = refl;
  old_is = link_at q s d v old zero (shows_here l q s v d (sym at) shows) beside;
  writes = e;
}

pub append_fits : (l : Places) (q : Slots) (s tag : ℕ) (body : List ℕ) (d : Directory) (new : ℕ) (old : Option Cell) → q (l.directory_at s) ≡ Sender s d → q new ≡ Free → Stands_at q d.tail old → HasBefores (append_writes l s d new tag body old) q
append_fits l q s tag body d new None at free beside =
    let off : l.directory_at s ≢ new = λ e. (let bad : Sender s d ≡ Free = sym at ∙ ap q e ∙ free in cc) in
    (sym (put_off q new _ (l.directory_at s) off ∙ at), (sym free, tt))
append_fits l q s tag body d new (Some c) at free beside =
    let off : l.directory_at s ≢ new = λ e. (let bad : Sender s d ≡ Free = sym at ∙ ap q e ∙ free in cc) in
    let off_tail : l.directory_at s ≢ d.tail = λ e. (let bad : Sender s d ≡ Used c = sym at ∙ ap q e ∙ beside in cc) in
    let apart : d.tail ≢ new = λ e. (let bad : Used c ≡ Free = sym beside ∙ ap q e ∙ free in cc) in
    let cell : Slot = Used (record { sender = s; sequence = d.sent + 1; tag = tag; next = 0; prev = d.tail; body = body }) in
    (sym (put_off (put q new cell) d.tail (Used (with_next new c)) (l.directory_at s) off_tail ∙ put_off q new cell (l.directory_at s) off ∙ at), (sym (put_off q new cell d.tail apart ∙ beside), (sym free, tt)))
