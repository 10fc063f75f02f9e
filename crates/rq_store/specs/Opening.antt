-- Opening a store: pages that fit a log, what going through the log makes of them, and the store that is open then.
use Rattle.std.specs.Prelude.{◌≡◌, ◌≢◌, ℕ, ◌+◌, ◌-◌, ◌<◌, ◌≤◌, false, List, [], ◌∷◌, length, map, Option, Some, None, cond, nat_lt}
use Rattle.rq_model.specs.declared.record.Record.{Record}
use Rattle.rq_model.specs.declared.record.Record.TheVariants.{PageOp, Restart}
use Rattle.rq_model.specs.Tests.{below}
use Rattle.rq_page.specs.Sizes.{Sizes, client_slot_at, directory_at, page_count, sender_count}
use Rattle.rq_page.specs.Pages.{lsn_of, slot_of, IsWritten}
use Rattle.rq_page.specs.Slots.{Slot, IsSlotOf}
use Rattle.rq_page.specs.Slots.Slot.{Free, Used, Sender, Client}
use Rattle.rq_page.specs.Formatted.{count_in}
use Rattle.rq_views.specs.Stored.{slots_in, count_used}
use Rattle.rq_groups.specs.Sent.{SentBy}
use Rattle.rq_store.specs.Sends.{place_count}
use Rattle.rq_store.specs.State.{State}
use Rattle.rq_model.specs.Incarnations.{incarnation_of}
use Rattle.rq_store.specs.Whole.{IsWhole}
use Rattle.rq_store.specs.Fitting.{ToldWrite, told_by, oldest, HoldsPage, FitsPage, FitsLog, AllHoldBase}

-- the pages and the log of a store that was left as a crash may leave one
pub record IsLeft (z : Sizes) (image : ℕ → List ℕ) (log : List Record) : Type 0 where
  pub whole : IsWhole z log
  pub fits : FitsLog z image log
  pub based : AllHoldBase z image log

-- the page once the first k records are gone through: it fits, and where it was older it is as these leave it
pub record FitsPageUpTo (z : Sizes) (log : List Record) (k p : ℕ) (image : List ℕ) : Type 0 where
  pub fits : FitsPage z log p image
  pub caught_up : lsn_of image ≤ k → HoldsPage z p image (oldest k log)

abbrev pub FitsUpTo : Sizes → (ℕ → List ℕ) → List Record → ℕ → Type 0
FitsUpTo z image log k = (p : ℕ) → 1 ≤ p → p < page_count z → FitsPageUpTo z log k p (image p)

-- what the write of the record with this LSN makes of the pages: it is made where its page is older
pub record IsRedone (w : ToldWrite) (lsn : ℕ) (old new : ℕ → List ℕ) : Type 0 where
  pub made : lsn_of (old w.page) < lsn → IsWritten (old w.page) (new w.page) w.slot w.after lsn
  pub kept : lsn ≤ lsn_of (old w.page) → new w.page ≡ old w.page
  pub others : (p : ℕ) → p ≢ w.page → new p ≡ old p

abbrev pub Redoes : Option ToldWrite → ℕ → (ℕ → List ℕ) → (ℕ → List ℕ) → Type 0
Redoes None lsn old new = (p : ℕ) → new p ≡ old p
Redoes (Some w) lsn old new = IsRedone w lsn old new

-- the record that opens a store over this log
abbrev pub next_restart : List Record → Record
next_restart log = Restart (incarnation_of log + 1)

-- how many messages a directory slot tells of
abbrev pub messages_told : Slot → ℕ
messages_told Free = 0
messages_told (Used c) = 0
messages_told (Sender s d) = d.sent - d.received
messages_told (Client k) = 0

-- by sender, how many messages wait where nothing is open
abbrev pub waiting_in : Sizes → List (List ℕ) → List ℕ
waiting_in z images = map (λ s. messages_told (slots_in z images (directory_at s))) (below (sender_count z))

-- how many messages a directory slot says were sent, or a client's slot were marked, and the last one's tag
abbrev pub sent_told : Slot → ℕ
sent_told Free = 0
sent_told (Used c) = 0
sent_told (Sender s d) = d.sent
sent_told (Client k) = k.count

abbrev pub tag_told : Slot → ℕ
tag_told Free = 0
tag_told (Used c) = 0
tag_told (Sender s d) = d.last_tag
tag_told (Client k) = k.tag

-- the slot of the group at a place
abbrev pub place_slot : Sizes → ℕ → ℕ
place_slot z i = cond (nat_lt i (sender_count z)) (directory_at i) (client_slot_at z (i - sender_count z))

-- what each sender's sends, and each client's marks, come to where nothing is open
abbrev pub sent_in_slots : Sizes → List (List ℕ) → SentBy
sent_in_slots z images = record {
  counts = map (λ i. sent_told (slots_in z images (place_slot z i))) (below (place_count z));
  tags = map (λ i. tag_told (slots_in z images (place_slot z i))) (below (place_count z));
}

-- the open store: of the next incarnation, with nothing begun and all records forced
abbrev pub opened : Sizes → List (List ℕ) → List Record → State
opened z images log = record {
  sizes = z;
  rows = [];
  ends = record { sending = []; receiving = [] };
  images = images;
  records = next_restart log ∷ log;
  forced = length (next_restart log ∷ log);
  failed = false;
  incarnation = incarnation_of log + 1;
  begins = 0;
  cells_in_use = count_used z (slots_in z images);
  waiting = waiting_in z images;
  sent = sent_in_slots z images;
}

-- The before-image of a slot's write stands in its slot, where the page is older than the record.
abbrev pub IsBeforeIn : Record → ℕ → (ℕ → List ℕ) → Type 0
IsBeforeIn (PageOp t n page slot before after) lsn image = lsn_of (image page) < lsn
    → slot_of slot (image page) ≡ before
IsBeforeIn _ lsn image = Unit {0}

-- a write of a slot of the store, no number of whose slot is beyond the record's LSN
pub record IsSoundTold (z : Sizes) (lsn : ℕ) (w : ToldWrite) : Type 0 where
  pub slot : IsSlotOf z w.page w.slot w.after
  pub count : count_in z w.page w.after ≤ lsn

abbrev pub IsSoundWrite : Sizes → ℕ → Option ToldWrite → Type 0
IsSoundWrite z lsn None = Unit {0}
IsSoundWrite z lsn (Some w) = IsSoundTold z lsn w

pub record MayRedo (z : Sizes) (image : ℕ → List ℕ) (lsn : ℕ) (r : Record) : Type 0 where
  pub write : IsSoundWrite z lsn (told_by r)
  pub before : IsBeforeIn r lsn image

-- no page's LSN, and no number of its slots, is beyond the end of a log with so many records
pub record IsCounted (z : Sizes) (count p : ℕ) (image : List ℕ) : Type 0 where
  pub lsn : lsn_of image ≤ count
  pub slots : (n : ℕ) → 1 ≤ n → n ≤ 15 → count_in z p (slot_of n image) ≤ count
