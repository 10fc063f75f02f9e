-- Where the cells at both ends of a chain stand, by its directory slot.
use Rattle.std.proofs.Common.{◌≡◌, ℕ, ◌+◌, ◌-◌, ◌<◌, ◌++◌, List, [], ◌∷◌, length, refl, sym, ◌∙◌, ap, subst, Some, arith}
use Rattle.std.proofs.lemmas.List.{length-append}
use Rattle.rq_page.specs.declared.cell.Cell.{Cell}
use Rattle.rq_page.specs.declared.directory.Directory.{Directory}
use Rattle.rq_page.specs.Sizes.{Sizes}
use Rattle.rq_page.specs.Slots.Slot.{Used}
use Rattle.rq_views.specs.Chain.{Node, first, last, Linked, View, Shows}
use Rattle.rq_views.specs.InStore.{AllStand}
use Rattle.rq_views.specs.Log.{Slots, cell_in, cells_of}
use Rattle.rq_views.proofs.Chains.{end_linked, front_linked, last_append, last_is}
use Rattle.rq_views.proofs.Stands.{used_is_cell}
use Rattle.rq_views.proofs.Takes.{snoc, some_is}
use Rattle.rq_views.proofs.CanPlan.{used_from}
use Rattle.rq_sound.specs.Groups.{StandsAt, LinksOn}

-- the chain with its last cell apart
record WithLast (q : Slots) (s : ℕ) (d : Directory) : Type 0 where
  rest : List Node
  end : Node
  linked : Linked (cells_of q) s 0 (d.received + 1) (rest ++ end ∷ []) 0
  place : d.tail ≡ end.at
  count : d.sent ≡ d.received + 1 + length rest

module _ (z : Sizes) (q : Slots) (stand : AllStand z q) (s : ℕ) (d : Directory) (v : View) (k : Shows (cells_of q) s d v) where
  stands : (a n : ℕ) (c : Cell) → cells_of q a ≡ Some c → c.sender ≡ s → c.sequence ≡ n → StandsAt z q a s n
  stands a n c e sender number =
      let here = used_from (q a) c e in
      record { cell = c; at = here; place = used_is_cell z q a c stand here; sender = sender; sequence = number }

  pub empty_links : d.received ≡ d.sent → (d.head ≡ 0) × (d.tail ≡ 0)
  empty_links e = at k.nodes k.sent k.head k.tail where
    at : (ns : List Node) → d.sent ≡ d.received + length ns → d.head ≡ first ns 0 → d.tail ≡ last 0 ns → (d.head ≡ 0) × (d.tail ≡ 0)
    at [] n h t = (h, t)
    at (x ∷ ns) n h t = absurd (omega (arith, e, n))

  pub head_stands : d.received < d.sent → StandsAt z q d.head s (d.received + 1)
  head_stands more = at k.nodes k.linked k.sent k.head where
    at : (ns : List Node) → Linked (cells_of q) s 0 (d.received + 1) ns 0 → d.sent ≡ d.received + length ns → d.head ≡ first ns 0 → StandsAt z q d.head s (d.received + 1)
    at [] l n h = absurd (omega (arith, more, n))
    at (x ∷ ns) l n h = stands d.head (d.received + 1) _ (ap (cells_of q) h ∙ l.1) refl refl

  pub next_stands : (c : Cell) → d.received < d.sent → q d.head ≡ Used c → LinksOn z q s (d.received + 2) c.next d
  next_stands c more here = at k.nodes k.linked k.sent k.head where
    behind : (x : Node) (ns : List Node) → Linked (cells_of q) s x.at (d.received + 1 + 1) ns 0 → c.next ≡ first ns 0 → d.sent ≡ d.received + length (x ∷ ns) → LinksOn z q s (d.received + 2) c.next d
    behind x [] l e n = record { one = λ one. e; more = λ two. absurd (omega (arith, n, two)) }
    behind x (m ∷ ms) l e n = record {
      one = λ one. absurd (omega (arith, n, one));
      more = λ two. stands c.next (d.received + 2) _ (ap (cells_of q) e ∙ l.1) refl (omega arith);
    }

    at : (ns : List Node) → Linked (cells_of q) s 0 (d.received + 1) ns 0 → d.sent ≡ d.received + length ns → d.head ≡ first ns 0 → LinksOn z q s (d.received + 2) c.next d
    at [] l n h = absurd (omega (arith, more, n))
    at (x ∷ ns) l n h =
        let is = some_is c _ (ap cell_in (sym here) ∙ ap (cells_of q) h ∙ l.1) in
        behind x ns l.2 (ap (λ (y : Cell). y.next) is) n

  last_of : d.received < d.sent → WithLast q s d
  last_of more = at k.nodes k.linked k.sent k.tail where
    at : (ns : List Node) → Linked (cells_of q) s 0 (d.received + 1) ns 0 → d.sent ≡ d.received + length ns → d.tail ≡ last 0 ns → WithLast q s d
    at [] l n t = absurd (omega (arith, more, n))
    at (x ∷ ns) l n t =
        let r = snoc x ns in
        let len : length (x ∷ ns) ≡ length (r.0 ++ r.1 ∷ []) = ap (λ (l : List Node). length l) r.2 in
        record {
          rest = r.0;
          end = r.1;
          linked = subst (λ ns. Linked (cells_of q) s 0 (d.received + 1) ns 0) r.2 l;
          place = t ∙ ap (λ l. last 0 l) r.2 ∙ last_append 0 r.0 r.1;
          count = omega (arith, n, len, length-append r.0 (r.1 ∷ []));
        }

  pub tail_stands : d.received < d.sent → StandsAt z q d.tail s d.sent
  tail_stands more =
      let r = last_of more in
      let n = r.count in
      stands d.tail d.sent _ (ap (cells_of q) r.place ∙ end_linked (cells_of q) s 0 (d.received + 1) r.rest r.end r.linked) refl (omega (arith, n))

  pub front_stands : (c : Cell) → d.received < d.sent → q d.tail ≡ Used c → LinksOn z q s (d.sent - 1) c.prev d
  front_stands c more here = at (last_of more).rest (last_of more).end (last_of more).linked (last_of more).place (last_of more).count where
    at : (xs : List Node) (x : Node) → Linked (cells_of q) s 0 (d.received + 1) (xs ++ x ∷ []) 0 → d.tail ≡ x.at → d.sent ≡ d.received + 1 + length xs → LinksOn z q s (d.sent - 1) c.prev d
    at [] x l t n =
        let is = some_is c _ (ap cell_in (sym here) ∙ ap (cells_of q) t ∙ end_linked (cells_of q) s 0 (d.received + 1) [] x l) in
        record { one = λ one. ap (λ (y : Cell). y.prev) is; more = λ two. absurd (omega (arith, n, two)) }
    at (y ∷ ys) x l t n =
        let is = some_is c _ (ap cell_in (sym here) ∙ ap (cells_of q) t ∙ end_linked (cells_of q) s 0 (d.received + 1) (y ∷ ys) x l) in
        let b = last_is (cells_of q) s 0 (d.received + 1) y ys x.at (front_linked (cells_of q) s 0 (d.received + 1) (y ∷ ys) (x ∷ []) 0 l) in
        let number = b.2 in
        record {
          one = λ one. absurd (omega (arith, n, one));
          more = λ two. stands c.prev (d.sent - 1) b.0 (ap (cells_of q) (ap (λ (y : Cell). y.prev) is) ∙ b.1) b.3 (omega (arith, n, number));
        }
