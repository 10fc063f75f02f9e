-- Each sender's view: what is committed of it, without what its receiving holder took, with what its sending holder sent.
use Rattle.std.proofs.Common.{◌≡◌, ℕ, ◌+◌, ◌-◌, ◌≤◌, List, ◌++◌, length, map, drop, ◌||◌, ◌∙◌, ap, subst, arith}
use Rattle.std.proofs.lemmas.List.{length-drop}
use Rattle.rq_model.specs.declared.message.Message.{Message}
use Rattle.rq_model.specs.declared.record.Record.{Record}
use Rattle.rq_model.specs.declared.txn.Txn.{Txn}
use Rattle.rq_model.specs.Ledger.{group_in}
use Rattle.rq_model.specs.Content.{Said, added, removed, closed, tag_after}
use Rattle.rq_model.specs.Commits.{committed_of}
use Rattle.rq_model.specs.Rules.{KeepsRules}
use Rattle.rq_model.proofs.Told.{content_is}
use Rattle.rq_page.specs.Sizes.{Sizes}
use Rattle.rq_views.specs.Chain.{View}
use Rattle.rq_views.specs.Log.{Item}
use Rattle.rq_views.specs.Legal.{Placed, open_deeds, view}
use Rattle.rq_views.specs.Groups.{on_sending_end, on_receiving_end, side, with_all, committed, Alone, KeepsGroups}
use Rattle.rq_views.specs.Committed.{IsViewOf}
use Rattle.rq_views.specs.Items.{items, ReadsItsDeeds}
use Rattle.rq_views.proofs.Committed.{say, sends_form, takes_form}
use Rattle.rq_views.proofs.Content.{committed_is_content}
use Rattle.rq_views.proofs.Deeds.{side_takes, takes_total, total}
use Rattle.rq_views.proofs.GroupRule.{held}
use Rattle.rq_views.proofs.Holders.{same_side}

-- what committed transactions leave of a sender is its group in the commit list
pub committed_is_group : (z : Sizes) (s : ℕ) (log : List Record) → KeepsRules log → ReadsItsDeeds log → IsViewOf s (group_in (committed_of log) s) (committed (items z log) s)
committed_is_group z s log rules reads = subst (λ g. IsViewOf s g (committed (items z log) s)) (content_is s log rules) (committed_is_content z s log rules reads)

-- what stands in a chain of a message
abbrev pub tag_and_body : Message → ℕ × List ℕ
tag_and_body m = (m.tag, m.body)

-- the view is this one, without what these deeds took of s and with what those sent for it
pub record Holds (s : ℕ) (sent taken : List Said) (c v : View) : Type 0 where
  pub closed : v.closed ≡ (closed s sent || c.closed)
  pub received : v.received ≡ c.received + removed s taken
  pub last_tag : v.last_tag ≡ tag_after c.last_tag (added s sent)
  pub messages : v.messages ≡ drop (removed s taken) c.messages ++ map tag_and_body (added s sent)

-- the view as the holders' deeds make it
pub view_folds : (s : ℕ) (log : List Item) (t u : Txn) → KeepsGroups log → Alone (on_sending_end s) t log → Alone (on_receiving_end s) u log
    → view log s ≡ with_all (side (on_sending_end s) (open_deeds t log)) (with_all (side (on_receiving_end s) (open_deeds u log)) (committed log s))
view_folds s log t u k sends takes =
    let h = held s log k in
    let os : Txn → List Placed = λ x. open_deeds x log in
    h.shown
    ∙ ap (λ ds. with_all ds (with_all (side (on_receiving_end s) (os h.taker)) (committed log s))) (same_side (on_sending_end s) os h.sender t h.sender_alone sends)
    ∙ ap (λ ds. with_all (side (on_sending_end s) (os t)) (with_all ds (committed log s))) (same_side (on_receiving_end s) os h.taker u h.taker_alone takes)

-- where t alone sends for s and u alone takes from it, the view is what is committed, without u's takes and with t's sends
pub view_holds : (s : ℕ) (log : List Item) (t u : Txn) → KeepsGroups log → Alone (on_sending_end s) t log → Alone (on_receiving_end s) u log
    → Holds s (say (open_deeds t log)) (say (open_deeds u log)) (committed log s) (view log s)
view_holds s log t u k sends takes =
    let c = committed log s in
    let e = view_folds s log t u k sends takes ∙ sends_form s (open_deeds t log) (with_all (side (on_receiving_end s) (open_deeds u log)) c) in
    let f = takes_form s (open_deeds u log) c in
    let ds = say (open_deeds t log) in
    record {
      closed = ap (λ (v : View). v.closed) e ∙ ap (λ (v : View). closed s ds || v.closed) f;
      received = ap (λ (v : View). v.received) e ∙ ap (λ (v : View). v.received) f;
      last_tag = ap (λ (v : View). v.last_tag) e ∙ ap (λ (v : View). tag_after v.last_tag (added s ds)) f;
      messages = ap (λ (v : View). v.messages) e ∙ ap (λ (v : View). v.messages ++ map tag_and_body (added s ds)) f;
    }

-- two such transactions there always are
pub record Holders (s : ℕ) (log : List Item) : Type 0 where
  pub sender : Txn
  pub sends : Alone (on_sending_end s) sender log
  pub taker : Txn
  pub takes : Alone (on_receiving_end s) taker log
  pub view : Holds s (say (open_deeds sender log)) (say (open_deeds taker log)) (committed log s) (view log s)

pub holders : (s : ℕ) (log : List Item) → KeepsGroups log → Holders s log
holders s log k =
    let h = held s log k in
    record { sender = h.sender; sends = h.sender_alone; taker = h.taker; takes = h.taker_alone; view = view_holds s log h.sender h.taker k h.sender_alone h.taker_alone }

-- nobody has taken more than is committed
pub taken_there : (s : ℕ) (log : List Item) (u : Txn) → KeepsGroups log → removed s (say (open_deeds u log)) ≤ length (committed log s).messages
taken_there s log u k =
    let c = committed log s in
    let ps = open_deeds u log in
    let form = takes_form s ps c in
    let t : total (with_all (side (on_receiving_end s) ps) c) ≡ total c = takes_total (side (on_receiving_end s) ps) c (side_takes s ps) ((held s log k).takes u) in
    let r : (with_all (side (on_receiving_end s) ps) c).received ≡ c.received + removed s (say ps) = ap (λ (v : View). v.received) form in
    let m : length (with_all (side (on_receiving_end s) ps) c).messages ≡ length (drop (removed s (say ps)) c.messages) = ap (λ (v : View). length v.messages) form in
    let d : length (drop (removed s (say ps)) c.messages) ≡ length c.messages - removed s (say ps) = length-drop (removed s (say ps)) c.messages in
    omega arith
