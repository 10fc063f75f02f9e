-- What each sender's committed sends, and each client's marks, come to: how many they are, and the tag of the last one.
use Rattle.std.specs.Prelude.{ℕ, ◌+◌, List, slice_index, slice_set}

-- by place: senders come first, and behind them clients
pub record SentBy : Type 0 where
  pub counts : List ℕ
  pub tags : List ℕ

-- how many were sent or marked at place s, and the last one's tag: 0 where there is none, and beyond the end
abbrev pub sent_count : SentBy → ℕ → ℕ
sent_count sent s = slice_index sent.counts s

abbrev pub sent_tag : SentBy → ℕ → ℕ
sent_tag sent s = slice_index sent.tags s

-- n were sent or marked at place s, the last of which has this tag
abbrev pub with_last : ℕ → ℕ → ℕ → SentBy → SentBy
with_last s n tag sent = record { counts = slice_set sent.counts s n; tags = slice_set sent.tags s tag }

-- one more was sent or marked there, with this tag
abbrev pub with_one_more : ℕ → ℕ → SentBy → SentBy
with_one_more s tag sent = with_last s (sent_count sent s + 1) tag sent
