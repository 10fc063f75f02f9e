-- What is kept of each sender's sends, and of each client's marks, is what the commits of the log tell.
use Rattle.std.specs.Prelude.{◌≡◌, ℕ, ◌+◌, ◌<◌, List, length}
use Rattle.rq_model.specs.declared.record.Record.{Record}
use Rattle.rq_model.specs.Ledger.{sent_in, tag_of}
use Rattle.rq_model.specs.Commits.{committed_of}
use Rattle.rq_page.specs.Sizes.{Sizes, client_count, sender_count}
use Rattle.rq_groups.specs.Ends.{group_at}
use Rattle.rq_groups.specs.Sent.{SentBy, sent_count, sent_tag}

-- how many groups a store has: those of its senders, and behind them those of its clients
abbrev pub place_count : Sizes → ℕ
place_count z = sender_count z + client_count z

-- the group at a place
abbrev pub group_of : Sizes → ℕ → ℕ
group_of z i = group_at (sender_count z) i

pub record KeepsSends (z : Sizes) (log : List Record) (sent : SentBy) : Type 0 where
  pub counts : (i : ℕ) → i < place_count z → sent_count sent i ≡ length (sent_in (committed_of log) (group_of z i))
  pub tags : (i : ℕ) → i < place_count z → sent_tag sent i ≡ tag_of (sent_in (committed_of log) (group_of z i))
