-- What is shown of a group, from the history, and what a commit makes of it.
use Rattle.std.specs.Prelude.{◌≡◌, ℕ, ◌+◌, List, ◌++◌, ◌||◌, take, drop, length}
use Rattle.std.specs.List.{filter_map}
use Rattle.rq_model.specs.Vocabulary.{Op, sent_for, taken_from}
use Rattle.rq_model.specs.History.{Group, Entry, commits, durable, sends, takes, rest, ended}
use Rattle.rq_model.specs.Ledger.{tag_of, any_ends}
use Rattle.rq_model.specs.declared.record.Record.{Record}
use Rattle.rq_model.specs.Content.{tag_after}
use Rattle.rq_model.specs.Commits.{committed_of}

-- the committed content of s, by the filters of the history
abbrev pub group : List Entry → ℕ → Group
group h s = record {
  sent = length (sends h s);
  last_tag = tag_of (sends h s);
  received = length (takes h s);
  closed = ended (commits h) s h;
  rest = rest h s;
}

-- what a commit of these operations makes of the content of s
abbrev pub with_ops : ℕ → List Op → Group → Group
with_ops s ops g = record {
  sent = g.sent + length (filter_map (sent_for s) ops);
  last_tag = tag_after g.last_tag (filter_map (sent_for s) ops);
  received = g.received + length (filter_map (taken_from s) ops);
  closed = g.closed || any_ends s ops;
  rest = drop (length (filter_map (taken_from s) ops)) (g.rest ++ filter_map (sent_for s) ops);
}

-- these entries, newest first, came after those of the history
abbrev pub Survives : List Entry → List Entry → Type 0
Survives newer h = take (durable h) (commits (newer ++ h)) ≡ take (durable h) (commits h)

-- the number of commits that a cut of the log leaves
abbrev pub commits_left : List Record → ℕ
commits_left older = length (committed_of older)
