-- A whole log keeps the rule of groups over its views.
use Rattle.std.proofs.Common.{List}
use Rattle.rq_model.specs.declared.record.Record.{Record}
use Rattle.rq_page.specs.Sizes.{Sizes}
use Rattle.rq_views.specs.Groups.{KeepsGroups}
use Rattle.rq_views.specs.Items.{items}
use Rattle.rq_views.proofs.Rules.{rules_groups}
use Rattle.rq_store.specs.Whole.{IsWhole}

pub groups_of : (z : Sizes) (log : List Record) → IsWhole z log → KeepsGroups (items z log)
groups_of z log w = rules_groups z log w.legal w.rules w.reads w.told
