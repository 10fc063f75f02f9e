-- What of the slots of a store is told so far, by place.
use Rattle.std.specs.Prelude.{◌≡◌, ℕ, ◌<◌, ◌≤◌, List, length, slice_index}
use Rattle.rq_model.specs.declared.refusal.Refusal.{Refusal}
use Rattle.rq_model.specs.declared.refusal.Refusal.TheVariants as why
use Rattle.rq_model.specs.declared.refusal.Damage.TheVariants as damage
use Rattle.rq_disk.specs.declared.device.PageDevice.{Ghosts}
use Rattle.rq_page.specs.Sizes.{Sizes, directory_at, page_count, sender_count}
use Rattle.rq_pool.specs.Fetching.{IsReadAsStored}
use Rattle.rq_pool.specs.Pooled.{Pooled}
use Rattle.rq_views.specs.Stored.{slots_in}
use Rattle.rq_groups.specs.Sent.{SentBy}
use Rattle.rq_store.specs.Opening.{IsCounted, messages_told, place_slot, sent_told, tag_told}
use Rattle.rq_store.specs.Sends.{place_count}
use Rattle.rq_restart.specs.Repeating.{paged}

-- of the first n all is told, and of no other anything
pub record IsToldTo (told : ℕ → ℕ) (n : ℕ) (numbers : List ℕ) : Type 0 where
  pub told_so : (i : ℕ) → i < n → slice_index numbers i ≡ told i
  pub rest : (i : ℕ) → n ≤ i → slice_index numbers i ≡ 0

-- of the first n senders how many messages wait
pub record AreWaitingTo (z : Sizes) (images : List (List ℕ)) (n : ℕ) (waiting : List ℕ) : Type 0 where
  pub senders : length waiting ≡ sender_count z
  pub counted : IsToldTo (λ s. messages_told (slots_in z images (directory_at s))) n waiting

-- what the sends or marks of the first n senders and clients come to
pub record AreSentTo (z : Sizes) (images : List (List ℕ)) (n : ℕ) (sent : SentBy) : Type 0 where
  pub counts : length sent.counts ≡ place_count z
  pub tags : length sent.tags ≡ place_count z
  pub numbers : IsToldTo (λ i. sent_told (slots_in z images (place_slot z i))) n sent.counts
  pub last : IsToldTo (λ i. tag_told (slots_in z images (place_slot z i))) n sent.tags

-- why the tables were not filled: a page was not read, or it has a number beyond so many records, or its device has lied
abbrev pub NotTabled : {P : Type 0} → Ghosts P → ℕ → Pooled P → Refusal → Pooled P → Type 0
NotTabled g records old why.DiskRead new = Unit {0}
NotTabled g records old (why.Damaged (damage.Page n)) new = (1 ≤ n) × (n < page_count old.sizes)
    × (IsReadAsStored g old new → IsCounted old.sizes records n (paged old n) → ⊥)
NotTabled g records old _ new = ⊥
