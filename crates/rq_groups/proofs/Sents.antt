-- What each sender's sends come to after one more.
use Rattle.std.proofs.Common.{◌≡◌, ◌≢◌, ℕ, ◌<◌, length}
use Rattle.std.proofs.lemmas.List.{length-set, get_or-set_same, get_or-set_other}
use Rattle.rq_groups.specs.Sent.{SentBy, sent_count, sent_tag, with_last}

pub length-counts : (s n tag : ℕ) (sent : SentBy) → length (with_last s n tag sent).counts ≡ length sent.counts
length-counts s n tag sent = length-set sent.counts s n

pub length-tags : (s n tag : ℕ) (sent : SentBy) → length (with_last s n tag sent).tags ≡ length sent.tags
length-tags s n tag sent = length-set sent.tags s tag

pub count_same : (s n tag : ℕ) (sent : SentBy) → s < length sent.counts → sent_count (with_last s n tag sent) s ≡ n
count_same s n tag sent below = get_or-set_same sent.counts s n 0 below

pub count_other : (s n tag : ℕ) (sent : SentBy) (g : ℕ) → g ≢ s → sent_count (with_last s n tag sent) g ≡ sent_count sent g
count_other s n tag sent g other = get_or-set_other sent.counts s g n 0 other

pub tag_same : (s n tag : ℕ) (sent : SentBy) → s < length sent.tags → sent_tag (with_last s n tag sent) s ≡ tag
tag_same s n tag sent below = get_or-set_same sent.tags s tag 0 below

pub tag_other : (s n tag : ℕ) (sent : SentBy) (g : ℕ) → g ≢ s → sent_tag (with_last s n tag sent) g ≡ sent_tag sent g
tag_other s n tag sent g other = get_or-set_other sent.tags s g tag 0 other
