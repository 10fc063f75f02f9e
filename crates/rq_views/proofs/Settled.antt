-- Where every transaction that did something has ended, the used cells are the messages that are committed and not taken.
use Rattle.std.proofs.Common.{◌≡◌, ℕ, List, [], length, sym, ◌∙◌, ap}
use Rattle.std.proofs.lemmas.List.{length-map}
use Rattle.rq_model.specs.declared.record.Record.{Record}
use Rattle.rq_model.specs.declared.txn.Txn.{Txn}
use Rattle.rq_model.specs.Ledger.{rest_in}
use Rattle.rq_model.specs.Tests.{below, count_rest}
use Rattle.rq_model.specs.Commits.{committed_of}
use Rattle.rq_model.specs.Rules.{KeepsRules}
use Rattle.rq_model.proofs.Counts.{sum_same, count_is_sum}
use Rattle.rq_page.specs.Sizes.{Sizes, sender_count}
use Rattle.rq_views.specs.Chain.{View}
use Rattle.rq_views.specs.Log.{state_of}
use Rattle.rq_views.specs.Legal.{open_deeds, view, IsLegalLog}
use Rattle.rq_views.specs.Groups.{committed, KeepsGroups}
use Rattle.rq_views.specs.Committed.{message_of}
use Rattle.rq_views.specs.Items.{items, layout_of, ReadsItsDeeds}
use Rattle.rq_views.specs.Stored.{count_used}
use Rattle.rq_views.specs.InStore.{InStore}
use Rattle.rq_views.proofs.Counting.{quiet_counts}
use Rattle.rq_views.proofs.GroupRule.{settled_view}
use Rattle.rq_views.proofs.Holding.{committed_is_group}

-- what is committed and not taken is in the view of what is committed
pub rest_shown : (z : Sizes) (s : ℕ) (log : List Record) → KeepsRules log → ReadsItsDeeds log → length (rest_in (committed_of log) s) ≡ length (committed (items z log) s).messages
rest_shown z s log rules reads =
    let h = committed_is_group z s log rules reads in
    ap length h.rest ∙ length-map (committed (items z log) s).messages (message_of s)

-- nothing that an open transaction did is counted
pub settled_counts : (z : Sizes) (log : List Record) → IsLegalLog (layout_of z) (items z log) → InStore z log → KeepsGroups (items z log) → KeepsRules log → ReadsItsDeeds log
    → ((t : Txn) → open_deeds t (items z log) ≡ [])
    → count_used z (state_of (layout_of z) (items z log)).quiet ≡ count_rest (below (sender_count z)) (committed_of log)
settled_counts z log legal store groups rules reads none =
    quiet_counts z log legal store
    ∙ sum_same (λ s. length (view (items z log) s).messages) (λ s. length (rest_in (committed_of log) s)) (sender_count z)
    (λ s lt. ap (λ (v : View). length v.messages) (settled_view s (items z log) groups none) ∙ sym (rest_shown z s log rules reads))
    ∙ sym (count_is_sum (sender_count z) (committed_of log))
