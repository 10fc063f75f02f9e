use Rattle.std.proofs.Common.{◌≡◌, ◌↔◌, ◌/◌, ◌%◌, IsTrue, ℕ, subst, sym, arith}
use Rattle.std.proofs.Math.Bool.{beq}
use Rattle.rq_bitset.specs.Flags.{flag_at}
use Rattle.rq_page.specs.Pages.{slot_of}
use Rattle.rq_page.specs.Sizes.{directory_at}
use Rattle.rq_page.specs.Slots.{held_in}
use Rattle.rq_pool.specs.Indexed.{IsNotedOn, closed_flag, closed_groups}
use Rattle.rq_pool.proofs.Indexes.{told_so}
use Rattle.rq_pool.proofs.notes.is_group_noted.Goals as goal

pub returns-in-Some : goal.returns-in-Some
returns-in-Some c =
    let z = c.args.layout.now in
    let at = c.args.at in
    let s = c.in-Some.sender in
    let there : directory_at s ≡ at = c.in-Some.ensures.at in
    let told = told_so c.args.closed.now s (closed_flag (held_in z (at / 16) (slot_of (at % 16) c.args.page.now))) c.has.result c.is_closed.result c.has.ensures c.is_closed.ensures in
    let so : (IsTrue (beq c.has.result c.is_closed.result) ↔ IsNotedOn (closed_groups z) z c.args.page.now c.args.closed.now s) =
    subst (λ (a : ℕ). IsTrue (beq c.has.result c.is_closed.result) ↔ (flag_at c.args.closed.now s ≡ closed_flag (held_in z (a / 16) (slot_of (a % 16) c.args.page.now)))) (sym there) told in (
      λ t k lt same. subst (λ (i : ℕ). IsNotedOn (closed_groups z) z c.args.page.now c.args.closed.now i) (omega (arith, there, same)) (so.0 t),
      λ noted. so.1 (noted s c.in-Some.ensures.below there),
    )
