use Rattle.std.proofs.Common.{◌≡◌, ◌∙◌, sym, ap, rules, get_or, [], length, List, ℕ}
use Rattle.rq_disk.specs.Memory.{pages_after, reads}
use Rattle.rq_disk.specs.declared.mem_pages.PageCall.{PageCall}
use Rattle.rq_disk.proofs.mem_pages.MemPages.new.Goals as goal

pub invariant_of-result : goal.invariant_of-result
invariant_of-result c =
    let same : c.in_ok-newest.newest.items ≡ c.args.images.items = search rules in
    record {
      count = ap length same;
      cached = λ p. ap (λ (l : List (List ℕ)). get_or l p []) same ∙ sym (ap (λ (calls : List PageCall). reads (pages_after c.args.images.items calls) p) c.new.ensures.items);
    }
