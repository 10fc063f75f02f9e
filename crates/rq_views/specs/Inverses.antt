-- Taking an operation back after operations on the other end of its sender's chain.
use Rattle.std.specs.Prelude.{◌≡◌, ℕ, ◌<◌, ◌++◌, List, [], ◌∷◌, Bool, true, false}
use Rattle.rq_model.specs.declared.record.Deed.TheVariants.{Append, UnlinkHead, Close, Mark}
use Rattle.rq_views.specs.Chain.{View, Taking, Sending, AreTaken, AreSent}
use Rattle.rq_views.specs.Groups.{TellsView}
use Rattle.rq_views.specs.Plans.{Turn, with_turn}
use Rattle.rq_views.specs.Plans.Turn.{Did, Undid}

-- the operation that takes this one back
abbrev pub inverse : Turn → Turn
inverse (Did d) = Undid d
inverse (Undid d) = Did d

-- the operation is of the receiving end; the others are of the sending end
abbrev pub is_of_receiver : Turn → Bool
is_of_receiver (Did (Append s n tag previous body)) = false
is_of_receiver (Did (UnlinkHead s n tag body)) = true
is_of_receiver (Did (Close s)) = false
is_of_receiver (Did (Mark c tag previous)) = false
is_of_receiver (Undid (Append s n tag previous body)) = false
is_of_receiver (Undid (UnlinkHead s n tag body)) = true
is_of_receiver (Undid (Close s)) = false
is_of_receiver (Undid (Mark c tag previous)) = false

-- this message is the last one, and its tag the last tag
abbrev pub IsLast : ℕ → List ℕ → View → Type 0
IsLast tag body v = (v.last_tag ≡ tag) × ((front : List (ℕ × List ℕ)) × (v.messages ≡ front ++ (tag, body) ∷ []))

-- The view is one that the operation can be done over, with what it tells. Of an inverse: the message that was sent is
-- the last one and its tag the last tag; some message is received; the group is closed.
abbrev pub CanBeDone : Turn → View → Type 0
CanBeDone (Did d) v = TellsView d v
CanBeDone (Undid (Append s n tag previous body)) v = IsLast tag body v
CanBeDone (Undid (UnlinkHead s n tag body)) v = 0 < v.received
CanBeDone (Undid (Close s)) v = v.closed ≡ true
CanBeDone (Undid (Mark c tag previous)) v = IsLast tag [] v

-- An operation is done over a view v, and then operations of the other end of the chain, which lead to u. These could
-- be done without it, with the same replies, and lead to w then. Its inverse over u gives w. So it is of each of the
-- six operations of a chain, and of a mark and its inverse.
pub record InversesLeaveTheOthers : Type 0 where
  pub sending : (t : Turn) (ops : List Taking) (v w u : View) → is_of_receiver t ≡ false → CanBeDone t v
      → AreTaken ops v w → AreTaken ops (with_turn t v) u → with_turn (inverse t) u ≡ w
  pub receiving : (t : Turn) (ops : List Sending) (v w u : View) → is_of_receiver t ≡ true → CanBeDone t v
      → AreSent ops v w → AreSent ops (with_turn t v) u → with_turn (inverse t) u ≡ w
