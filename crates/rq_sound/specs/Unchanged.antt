-- The calls that change no list of a sound store, with whatever under way.
use Rattle.std.specs.Prelude.{◌≡◌, ℕ, ◌<◌, ◌&&◌, Bool, false, not, nat_eq, nat_lt, List, length, map}
use Rattle.rq_model.specs.declared.txn.Txn.{Txn}
use Rattle.rq_model.specs.Commits.{committed_of}
use Rattle.rq_model.specs.History.{Call, Group}
use Rattle.rq_model.specs.Ledger.{group_in, sent_in, tag_of}
use Rattle.rq_model.specs.Replay.{Reply, receipt}
use Rattle.rq_model.specs.Tests.{below}
use Rattle.rq_model.specs.Vocabulary.{client_group}
use Rattle.rq_page.specs.Sizes.{client_count, sender_count}
use Rattle.rq_store.specs.State.{State}
use Rattle.rq_txn.specs.Rows.{any_under}
use Rattle.rq_sound.specs.Sound.{IsSound}
use Rattle.rq_sound.specs.ModelSteps.{IsModelStep}

-- A hand-over, a page that is written, a receipt exactly for what is forced in this incarnation, what a sender's last
-- committed send was, or a client's mark, and the committed content, where nothing is under way.
pub record UnchangedAreSteps : Type 0 where
  pub hands_over : (s : State) → IsSound s → s.failed ≡ false → IsModelStep s Call.Hand_over Reply.Gave_handed_over s
  pub writes : (s : State) (page : ℕ) (done : Bool) → IsSound s → s.failed ≡ false
      → IsModelStep s (Call.Write_page page) (Reply.Gave_written done) s
  pub acknowledges : (s : State) (t : Txn) (lsn : ℕ) (given : Bool) → IsSound s → s.failed ≡ false
      → given ≡ (nat_eq t.incarnation s.incarnation && not (nat_lt s.forced lsn))
      → IsModelStep s (Call.Acknowledge t lsn) (Reply.Gave_receipt (receipt given t lsn)) s
  pub tells : (s : State) (g : ℕ) → IsSound s → s.failed ≡ false → g < sender_count s.sizes
      → IsModelStep s (Call.Last_tag g)
      (Reply.Gave_tag (length (sent_in (committed_of s.records) g)) (tag_of (sent_in (committed_of s.records) g))) s
  pub tells_client : (s : State) (c : ℕ) → IsSound s → s.failed ≡ false → c < client_count s.sizes
      → IsModelStep s (Call.Client_tag c)
      (Reply.Gave_client_tag (length (sent_in (committed_of s.records) (client_group c)))
      (tag_of (sent_in (committed_of s.records) (client_group c)))) s
  pub shows : (s : State) (groups : List Group) → IsSound s → s.failed ≡ false → any_under s.rows ≡ false
      → groups ≡ map (group_in (committed_of s.records)) (below (sender_count s.sizes))
      → IsModelStep s Call.Show (Reply.Gave_content groups) s
