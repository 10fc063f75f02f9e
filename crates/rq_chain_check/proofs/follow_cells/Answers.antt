use Rattle.std.proofs.Common.{◌≡◌, ◌+◌, ◌≤◌, ℕ, ap, sym, ◌∙◌, subst, arith}
use Rattle.rq_page.specs.declared.directory.Directory.{Directory}
use Rattle.rq_page.specs.Sizes.{IsCellAddress, IsLink, Sizes, cell_count, place_of}
use Rattle.rq_bitset.specs.Flags.{flag_at, OthersStay}
use Rattle.rq_views.specs.Log.{cells_of}
use Rattle.rq_views.specs.Stored.{slots_in}
use Rattle.rq_pool.proofs.Fetched.{read_then}
use Rattle.rq_chain_check.specs.Follows.{IsLinkedCell}
use Rattle.rq_chain_check.proofs.Options.{none_told, some_told}
use Rattle.rq_pool.proofs.Fetched.{over_stored, reads_on, stops_on, stored_before, unread_then}
use Rattle.rq_chain_check.proofs.Walks.{walk_goes, walk_stops, ends_whole, ends_broken}
use Rattle.rq_chain_check.proofs.follow_cells.Goals as goal

pub linked_cell-requires : goal.linked_cell-requires
linked_cell-requires g c = subst (λ (z : Sizes). IsLink z c.loop-received.at) (sym (c.loop-received.invariant.read.kept 0).sizes) c.loop-received.invariant.link

pub put-requires : goal.put-requires
put-requires g c =
    let z = c.args.pages.now.sizes in
    let of_layout : cell_count c.layout-layout.result ≡ cell_count z = ap cell_count c.layout-layout.ensures.sizes in
    let below = c.cell_place.ensures.below in
    let room = c.requires.room in
    let same = c.loop-received.invariant.same in
    omega (arith, of_layout, below, room, same)

pub loop-received-preserved : goal.loop-received-preserved
loop-received-preserved g c =
    let z = c.args.pages.now.sizes in
    let q = slots_in z c.args.pages.now.images in
    let loop = c.loop-received.invariant in
    let linked = c.in-Ok-Some.ensures in
    let new = c.linked_cell.new.pages in
    let read = read_then g.P.PageDevice c.args.pages.now c.loop-received.pages new loop.read linked.read.read in
    let place : c.cell_place.result ≡ place_of z c.loop-received.at = c.cell_place.ensures.value ∙ ap (λ (l : Sizes). place_of l c.loop-received.at) c.layout-layout.ensures.sizes in
    let found = c.in-Ok-Some.field-0 in
    let next = c.in-Ok-Some.next in
    let is = c.in-Ok-Some.field-0-is in
    let number = c.loop-received.received + 1 in
    let before = c.loop-received.before in
    let at = c.loop-received.at in
    let cell = some_told (λ n. IsLinkedCell (cells_of (slots_in new.sizes new.images)) c.args.sender number before at n) found next is linked.cell in
    let stands = subst (λ (y : Sizes). IsCellAddress y at) (loop.read.kept 0).sizes (some_told (λ n. IsCellAddress c.loop-received.pages.sizes at) found next is linked.place) in
    record {
      walk = λ stored.
          let held = over_stored g.P.PageDevice (λ y images. IsLinkedCell (cells_of (slots_in y images)) c.args.sender number before at next) c.args.pages.now new read stored cell in
          let walk = loop.walk (stored_before g.P.PageDevice c.args.pages.now c.loop-received.pages new linked.read.read stored) in
          walk_goes z q c.args.sender c.args.group.now c.args.met.now c.loop-received.met c.put.new.self c.loop-received.received before at next walk held stands (sym (ap (flag_at c.put.new.self) place) ∙ c.put.ensures.put)
          (subst (λ k. OthersStay k c.loop-received.met c.put.new.self) place c.put.ensures.others);
      link = subst (λ (y : Sizes). IsLink y next) (read.kept 0).sizes (some_told (λ n. IsLink new.sizes n) found next is linked.link);
      same = c.put.ensures.same ∙ loop.same;
      counted = linked.read.counted ∙ loop.counted;
      read = read;
    }

-- the chain stops where the next cell should stand
pub returns-in-Ok-None-clause-broken : goal.returns-in-Ok-None-clause-broken
returns-in-Ok-None-clause-broken g c stored =
    let z = c.args.pages.now.sizes in
    let q = slots_in z c.args.pages.now.images in
    let loop = c.loop-received.invariant in
    let linked = c.in-Ok-None.ensures in
    let new = c.linked_cell.new.pages in
    let s = c.args.sender in
    let next_number = c.loop-received.received + 1 in
    let before = c.loop-received.before in
    let at = c.loop-received.at in
    let none = over_stored g.P.PageDevice (λ y images. (next : ℕ) → IsLinkedCell (cells_of (slots_in y images)) s next_number before at next → ⊥) c.args.pages.now new (read_then g.P.PageDevice c.args.pages.now c.loop-received.pages new loop.read linked.read.read) stored (none_told ((next : ℕ) → IsLinkedCell (cells_of (slots_in new.sizes new.images)) s next_number before at next → ⊥) c.in-Ok-None.field-0 c.in-Ok-None.field-0-is linked.none) in
    walk_stops z q s c.args.group.now c.args.met.now c.loop-received.met c.loop-received.received before at c.requires.held (loop.walk (stored_before g.P.PageDevice c.args.pages.now c.loop-received.pages new linked.read.read stored))
    c.loop-received-test.true none

pub returns-in-Ok-None-clause-read : goal.returns-in-Ok-None-clause-read
returns-in-Ok-None-clause-read g c = reads_on g.P.PageDevice _ _ c.args.pages.now c.loop-received.pages c.linked_cell.new.pages c.loop-received.invariant.read c.loop-received.invariant.counted c.in-Ok-None.ensures.read

pub returns-in-Err-clause-refused : goal.returns-in-Err-clause-refused
returns-in-Err-clause-refused g c = unread_then g.P.PageDevice c.in-Err.refusal c.args.pages.now c.loop-received.pages c.linked_cell.new.pages c.loop-received.invariant.read c.in-Err.ensures.refused

pub returns-in-Err-clause-read : goal.returns-in-Err-clause-read
returns-in-Err-clause-read g c = stops_on g.P.PageDevice c.in-Err.refusal c.args.pages.now c.loop-received.pages c.linked_cell.new.pages c.loop-received.invariant.read c.loop-received.invariant.counted c.in-Err.ensures.read

pub returns-clause-whole : goal.returns-clause-whole
returns-clause-whole g c stored =
    let z = c.args.pages.now.sizes in
    let q = slots_in z c.args.pages.now.images in
    let d : Directory = c.args.group.now in
    let done = c.loop-received-test.false in
    let high = c.loop-received.auto.received-end in
    let all : d.received ≤ d.sent → c.loop-received.received ≡ d.sent = (λ up. let most = high up in omega (arith, most, done)) in
    ends_whole z q c.args.sender d c.args.met.now c.loop-received.met c.loop-received.received c.loop-received.before c.loop-received.at c.requires.held (c.loop-received.invariant.walk stored) all c.is_end.result c.is_end.ensures

pub returns-clause-broken : goal.returns-clause-broken
returns-clause-broken g c stored =
    let z = c.args.pages.now.sizes in
    let q = slots_in z c.args.pages.now.images in
    let d : Directory = c.args.group.now in
    let done = c.loop-received-test.false in
    let high = c.loop-received.auto.received-end in
    let all : d.received ≤ d.sent → c.loop-received.received ≡ d.sent = (λ up. let most = high up in omega (arith, most, done)) in
    ends_broken z q c.args.sender d c.args.met.now c.loop-received.met c.loop-received.received c.loop-received.before c.loop-received.at c.requires.held (c.loop-received.invariant.walk stored) all c.is_end.result c.is_end.ensures
