-- What a log comes to. A log is its records, the newest first.
use Rattle.std.specs.Prelude.{ℕ, ◌+◌, Bool, true, false, cond, List, [], ◌∷◌, ◌++◌, Option, Some, None, nat_eq, ◌||◌, drop, length}
use Rattle.rq_model.specs.declared.txn.Txn.{Txn}
use Rattle.rq_model.specs.declared.record.Deed.{Deed}
use Rattle.rq_model.specs.declared.record.Deed.TheVariants.{Append, UnlinkHead, Close, Mark}
use Rattle.rq_model.specs.declared.record.Record.{Record}
use Rattle.rq_model.specs.declared.record.Record.TheVariants.{OpEnd, Commit, AbortEnd}
use Rattle.rq_model.specs.declared.message.Message.{Message}
use Rattle.rq_model.specs.Vocabulary.{same_txn, last_or, client_group, mark_of}
use Rattle.rq_model.specs.History.{Group}
use Rattle.rq_model.specs.Ledger.{tag_of}
use Rattle.rq_model.specs.Deeds.{deed_by}

-- what a deed says
pub data Said : Type 0 where
  Added : (message : Message) → Said
  Removed : (message : Message) → Said
  Ended : (sender : ℕ) → Said
  Marked : (client tag : ℕ) → Said

abbrev pub said : Deed → Said
said (Append sender sequence tag previous body) = Added (record { sender = sender; tag = tag; body = body })
said (UnlinkHead sender sequence tag body) = Removed (record { sender = sender; tag = tag; body = body })
said (Close sender) = Ended sender
said (Mark client tag previous) = Marked client tag

-- whose operation ended, and what it said
pub record Ending : Type 0 where
  pub txn : Txn
  pub said : Said

abbrev pub ending_by : Txn → Option Deed → Option Ending
ending_by txn None = None
ending_by txn (Some deed) = Some (record { txn = txn; said = said deed })

-- An OpEnd tells what the deed of its level says. No other record ends an operation that counts.
abbrev pub ending : Record → Option Ending
ending (OpEnd txn operation level deed) = ending_by txn (deed_by level deed)
ending _ = None

abbrev pub commits_txn : Txn → Record → Bool
commits_txn t (Commit u) = same_txn u t
commits_txn t _ = false

abbrev pub aborts_txn : Txn → Record → Bool
aborts_txn t (AbortEnd u) = same_txn u t
aborts_txn t _ = false

abbrev pub ends_txn : Txn → Record → Bool
ends_txn t r = commits_txn t r || aborts_txn t r

-- t has its Commit in the log
abbrev pub has_commit : List Record → Txn → Bool
has_commit [] t = false
has_commit (r ∷ log) t = commits_txn t r || has_commit log t

-- t has its Commit or AbortEnd in the log
abbrev pub has_end : List Record → Txn → Bool
has_end [] t = false
has_end (r ∷ log) t = ends_txn t r || has_end log t

abbrev pub kept : (Txn → Bool) → Option Ending → List Said → List Said
kept p None ds = ds
kept p (Some e) ds = cond (p e.txn) (e.said ∷ ds) ds

-- the deeds of the transactions with p, newest first
abbrev pub deeds : (Txn → Bool) → List Record → List Said
deeds p [] = []
deeds p (r ∷ log) = kept p (ending r) (deeds p log)

abbrev pub no_group : Group
no_group = record { sent = 0; last_tag = 0; received = 0; closed = false; rest = [] }

-- what a deed makes of the group of s
abbrev pub with_deed : ℕ → Said → Group → Group
with_deed s (Added m) g = cond (nat_eq m.sender s) (record g {
  sent = g.sent + 1;
  last_tag = m.tag;
  rest = g.rest ++ m
      ∷ [];
}) g
with_deed s (Removed r) g = cond (nat_eq r.sender s) (record g { received = g.received + 1; rest = drop 1 g.rest }) g
with_deed s (Ended r) g = cond (nat_eq r s) (record g { closed = true }) g
with_deed s (Marked c tag) g = cond (nat_eq (client_group c) s) (record g {
  sent = g.sent + 1;
  last_tag = tag;
  rest = g.rest ++ mark_of c tag
      ∷ [];
}) g

abbrev pub with_deeds : ℕ → List Said → Group → Group
with_deeds s [] g = g
with_deeds s (d ∷ ds) g = with_deed s d (with_deeds s ds g)

-- the content of a log: the deeds of committed transactions, in log order, over an empty open group
abbrev pub content : List Record → ℕ → Group
content log s = with_deeds s (deeds (has_commit log) log) no_group

-- parts of a list of deeds
abbrev pub added_one : ℕ → Said → List Message → List Message
added_one s (Added m) ms = cond (nat_eq m.sender s) (ms ++ m ∷ []) ms
added_one s (Removed r) ms = ms
added_one s (Ended r) ms = ms
added_one s (Marked c tag) ms = cond (nat_eq (client_group c) s) (ms ++ mark_of c tag ∷ []) ms

abbrev pub added : ℕ → List Said → List Message
added s [] = []
added s (d ∷ ds) = added_one s d (added s ds)

abbrev pub removed_one : ℕ → Said → ℕ
removed_one s (Added m) = 0
removed_one s (Removed r) = cond (nat_eq r.sender s) 1 0
removed_one s (Ended r) = 0
removed_one s (Marked c tag) = 0

abbrev pub removed : ℕ → List Said → ℕ
removed s [] = 0
removed s (d ∷ ds) = removed s ds + removed_one s d

abbrev pub closed_one : ℕ → Said → Bool
closed_one s (Added m) = false
closed_one s (Removed r) = false
closed_one s (Ended r) = nat_eq r s
closed_one s (Marked c tag) = false

abbrev pub closed : ℕ → List Said → Bool
closed s [] = false
closed s (d ∷ ds) = closed_one s d || closed s ds

-- the same, not by a fold
abbrev pub shape : ℕ → List Said → Group
shape s ds = record {
  sent = length (added s ds);
  last_tag = tag_of (added s ds);
  received = removed s ds;
  closed = closed s ds;
  rest = drop (removed s ds) (added s ds);
}

-- the last tag when these were added behind
abbrev pub tag_after : ℕ → List Message → ℕ
tag_after tag [] = tag
tag_after tag (m ∷ ms) = (last_or m ms).tag

-- what a transaction's own deeds make of a group when it commits
abbrev pub with_own : ℕ → List Said → Group → Group
with_own s own g = record {
  sent = g.sent + length (added s own);
  last_tag = tag_after g.last_tag (added s own);
  received = g.received + removed s own;
  closed = g.closed || closed s own;
  rest = drop (removed s own) (g.rest ++ added s own);
}
