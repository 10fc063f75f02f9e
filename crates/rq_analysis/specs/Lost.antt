-- The store that a crash leaves, with the transactions that it stopped: their rows, ends and counts, by the log alone.
use Rattle.std.specs.Prelude.{◌≡◌, ℕ, ◌+◌, ◌-◌, ◌≤◌, cond, max, nat_eq, true, false, List, [], ◌∷◌, length, map, reverse, Option, Some, None}
use Rattle.std.specs.List.{sum_by}
use Rattle.rq_model.specs.declared.txn.Txn.{Txn}
use Rattle.rq_model.specs.declared.record.Record.{Record}
use Rattle.rq_model.specs.declared.record.Record.TheVariants.{OpEnd}
use Rattle.rq_model.specs.Vocabulary.{same_txn, client_group}
use Rattle.rq_model.specs.Commits.{committed_of}
use Rattle.rq_model.specs.Content.{Said, deeds}
use Rattle.rq_model.specs.Content.Said.{Added, Removed, Ended, Marked}
use Rattle.rq_model.specs.Incarnations.{incarnation_of, txn_of}
use Rattle.rq_model.specs.Ledger.{rest_in, sent_in, tag_of}
use Rattle.rq_model.specs.Tests.{below}
use Rattle.rq_model.specs.Unended.{lost, unfinished}
use Rattle.rq_page.specs.Sizes.{Sizes, IsInRange, sender_count}
use Rattle.rq_views.specs.Items.{items}
use Rattle.rq_views.specs.Legal.{Placed, open_deeds}
use Rattle.rq_views.specs.Numbers.{greatest}
use Rattle.rq_views.specs.Stored.{count_used, slots_in}
use Rattle.rq_txn.specs.declared.Finished.{Finished}
use Rattle.rq_txn.specs.Rows.{Row}
use Rattle.rq_groups.specs.declared.Held.{Held}
use Rattle.rq_groups.specs.Ends.{HeldEnds, with_held}
use Rattle.rq_groups.specs.Sent.{SentBy}
use Rattle.rq_store.specs.Fitting.{AllHoldBase, FitsLog, image_in, left_by, oldest}
use Rattle.rq_store.specs.Sends.{group_of, place_count}
use Rattle.rq_store.specs.State.{State}
use Rattle.rq_store.specs.Whole.{IsWhole}
use Rattle.rq_sound.specs.Counted.{takes_all, takes_in}

-- the number of the operation whose OpEnd has this LSN
abbrev pub number_ended : ℕ → List Record → ℕ
number_ended n [] = 0
number_ended n (OpEnd t m level deed ∷ log) = cond (nat_eq n (length log + 1)) m (number_ended n log)
number_ended n (_ ∷ log) = number_ended n log

abbrev pub finished_one : List Record → Placed → Finished
finished_one log p = record { lsn = p.lsn; number = number_ended p.lsn log; deed = p.deed }

-- what a transaction has finished and not undone, in order
abbrev pub finished_in : Sizes → List Record → Txn → List Finished
finished_in z log t = reverse (map (finished_one log) (open_deeds t (items z log)))

-- the row of a transaction that the crash stopped: it has nothing under way, and is to be undone
abbrev pub lost_row : Sizes → List Record → Txn → Row
lost_row z log t = record {
  txn = t;
  aborting = true;
  finished = finished_in z log t;
  number = greatest t (items z log);
  under = None;
}

abbrev pub lost_rows : Sizes → List Record → List Row
lost_rows z log = map (lost_row z log) (lost log)

-- the sender of the end that a deed uses, on either side
abbrev pub sending_end : Said → Option ℕ
sending_end (Added m) = Some m.sender
sending_end (Removed m) = None
sending_end (Ended s) = Some s
sending_end (Marked c tag) = Some (client_group c)

abbrev pub receiving_end : Said → Option ℕ
receiving_end (Added m) = None
receiving_end (Removed m) = Some m.sender
receiving_end (Ended s) = None
receiving_end (Marked c tag) = None

abbrev pub with_used : Txn → Option ℕ → List Held → List Held
with_used t None hs = hs
with_used t (Some s) hs = with_held t s hs

abbrev pub with_all_used : (Said → Option ℕ) → Txn → List Said → List Held → List Held
with_all_used side t [] hs = hs
with_all_used side t (d ∷ ds) hs = with_used t (side d) (with_all_used side t ds hs)

-- the ends of one side that these transactions used, whether they undid that or not
abbrev pub used_by : (Said → Option ℕ) → List Record → List Txn → List Held
used_by side log [] = []
used_by side log (t ∷ ts) = with_all_used side t (deeds (λ u. same_txn u t) log) (used_by side log ts)

abbrev pub lost_ends : List Record → HeldEnds
lost_ends log = record {
  sending = used_by sending_end log (lost log);
  receiving = used_by receiving_end log (lost log);
}

-- the greatest count of a transaction in the log
abbrev pub count_of : Option Txn → ℕ
count_of None = 0
count_of (Some t) = t.count

abbrev pub begins_in : List Record → ℕ
begins_in [] = 0
begins_in (r ∷ log) = max (count_of (txn_of r)) (begins_in log)

-- by sender, how many messages are committed and not taken by any of these
abbrev pub waiting_beside : Sizes → List Record → List Row → List ℕ
waiting_beside z log rows = map (λ g. length (rest_in (committed_of log) g) - sum_by (takes_in g) rows) (below (sender_count z))

-- what each sender's committed sends, and each client's marks, come to
abbrev pub sent_by_log : Sizes → List Record → SentBy
sent_by_log z log = record {
  counts = map (λ i. length (sent_in (committed_of log) (group_of z i))) (below (place_count z));
  tags = map (λ i. tag_of (sent_in (committed_of log) (group_of z i))) (below (place_count z));
}

-- the store with these transactions, of whose log this many records are forced
abbrev pub lost_store : Sizes → List (List ℕ) → List Record → ℕ → State
lost_store z images log forced = record {
  sizes = z;
  rows = lost_rows z log;
  ends = lost_ends log;
  images = images;
  records = log;
  forced = forced;
  failed = false;
  incarnation = incarnation_of log;
  begins = begins_in log;
  cells_in_use = count_used z (left_by z log).quiet + sum_by takes_all (lost_rows z log);
  waiting = waiting_beside z log (lost_rows z log);
  sent = sent_by_log z log;
}

-- Pages and log as a crash leaves them, once history is repeated and operations without an end are undone: the log is
-- whole with nothing under way, and the pages hold what it leaves. What began the log's incarnation is forced.
pub record IsRepeated (z : Sizes) (images : List (List ℕ)) (log : List Record) (forced : ℕ) : Type 0 where
  pub range : IsInRange z
  pub whole : IsWhole z log
  pub none_unfinished : unfinished log ≡ []
  pub some : 1 ≤ incarnation_of log
  pub begun : incarnation_of (oldest forced log) ≡ incarnation_of log
  pub within : forced ≤ length log
  pub pages : (a : ℕ) → slots_in z images a ≡ (left_by z log).slots a
  pub fits : FitsLog z (image_in images) log
  pub based : AllHoldBase z (image_in images) log
