use Rattle.std.proofs.Common.{rules, ◌≡◌, ◌∙◌, ap, ◌++◌, ◌∷◌, [], List}
use Rattle.rq_disk.specs.declared.mem_log.LogCall.{LogCall}
use Rattle.rq_disk.specs.declared.mem_log.LogCall.TheVariants.{Append}
use Rattle.rq_disk.proofs.mem_log.add_run.Goals as goal

pub returns-clause-ok : goal.returns-clause-ok
returns-clause-ok c =
    let same : c.in_ok-copy.copy.items ≡ c.args.run.now = search rules in (
      c.in_ok-copy.copy,
      same,
      c.in_ok-push.ensures.items ∙ ap (λ (l : List LogCall). l ++ Append c.in_ok-copy.copy ∷ []) c.try_reserve.ensures.items,
      c.in_ok-extend_from_slice.ensures.items,
    )
