-- An end of a sender's or a client's group, as one that is held.
use Rattle.std.specs.Prelude.{◌≡◌, Bool, cond, drop, take, [], ◌∷◌}
use Rattle.rq_model.specs.declared.txn.Txn.{Txn}
use Rattle.rq_model.specs.Vocabulary.{client_group}
use Rattle.rq_groups.specs.declared.End.{End}
use Rattle.rq_groups.specs.declared.End.TheVariants.{Sending, Receiving, Marking}
use Rattle.rq_groups.specs.Ends.{HeldEnds, has_held, is_free_for, with_held}

-- t holds the end
abbrev pub holds_end : Txn → End → HeldEnds → Bool
holds_end t (Sending s) ends = has_held t s ends.sending
holds_end t (Receiving s) ends = has_held t s ends.receiving
holds_end t (Marking c) ends = has_held t (client_group c) ends.sending

-- no transaction but t holds the end
abbrev pub is_free_end : Txn → End → HeldEnds → Bool
is_free_end t (Sending s) ends = is_free_for t s ends.sending
is_free_end t (Receiving s) ends = is_free_for t s ends.receiving
is_free_end t (Marking c) ends = is_free_for t (client_group c) ends.sending

-- the end is the one that was taken last on its side, by t
abbrev pub IsNewest : Txn → End → HeldEnds → Type 0
IsNewest t (Sending s) ends = take 1 ends.sending ≡ record { txn = t; sender = s } ∷ []
IsNewest t (Receiving s) ends = take 1 ends.receiving ≡ record { txn = t; sender = s } ∷ []
IsNewest t (Marking c) ends = take 1 ends.sending ≡ record { txn = t; sender = client_group c } ∷ []

-- t holds the end too
abbrev pub with_end : Txn → End → HeldEnds → HeldEnds
with_end t (Sending s) ends = record { sending = with_held t s ends.sending; receiving = ends.receiving }
with_end t (Receiving s) ends = record { sending = ends.sending; receiving = with_held t s ends.receiving }
with_end t (Marking c) ends = record {
  sending = with_held t (client_group c) ends.sending;
  receiving = ends.receiving;
}

-- without what was newly taken last on that side
abbrev pub without_newest : End → Bool → HeldEnds → HeldEnds
without_newest (Sending s) newly ends = record {
  sending = cond newly (drop 1 ends.sending) ends.sending;
  receiving = ends.receiving;
}
without_newest (Receiving s) newly ends = record {
  sending = ends.sending;
  receiving = cond newly (drop 1 ends.receiving) ends.receiving;
}
without_newest (Marking c) newly ends = record {
  sending = cond newly (drop 1 ends.sending) ends.sending;
  receiving = ends.receiving;
}
