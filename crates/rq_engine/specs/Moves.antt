-- What sends and takes make of what waits, and sends and marks of what each sender has sent, and how each client was marked.
use Rattle.std.specs.Prelude.{ℕ, ◌+◌, List, [], ◌∷◌}
use Rattle.rq_model.specs.declared.record.Deed.{Deed}
use Rattle.rq_model.specs.declared.record.Deed.TheVariants.{Append, UnlinkHead, Mark}
use Rattle.rq_txn.specs.declared.Finished.{Finished}
use Rattle.rq_groups.specs.Waiting.{more_waiting, fewer_waiting}
use Rattle.rq_groups.specs.Sent.{SentBy, with_one_more}

-- a message that was sent waits
abbrev pub with_sent : Deed → List ℕ → List ℕ
with_sent (Append s n tag previous body) ws = more_waiting s 1 ws
with_sent _ ws = ws

-- so do those that these operations sent
abbrev pub with_sends : List Finished → List ℕ → List ℕ
with_sends [] ws = ws
with_sends (f ∷ fs) ws = with_sends fs (with_sent f.deed ws)

-- a message that was sent is its sender's last one; a tag that was marked its client's, behind n senders
abbrev pub with_tag : ℕ → Deed → SentBy → SentBy
with_tag n (Append s k tag previous body) sent = with_one_more s tag sent
with_tag n (Mark c tag previous) sent = with_one_more (n + c) tag sent
with_tag n _ sent = sent

-- so is the last of those that these operations sent or marked for it
abbrev pub with_tags : ℕ → List Finished → SentBy → SentBy
with_tags n [] sent = sent
with_tags n (f ∷ fs) sent = with_tags n fs (with_tag n f.deed sent)

-- a message that was taken waits no more
abbrev pub without_taken : Deed → List ℕ → List ℕ
without_taken (UnlinkHead s n tag body) ws = fewer_waiting s ws
without_taken _ ws = ws

-- a message whose taking is undone waits again
abbrev pub with_taken : Deed → List ℕ → List ℕ
with_taken (UnlinkHead s n tag body) ws = more_waiting s 1 ws
with_taken _ ws = ws
