-- Indexes of slots: of the cells that are free, and of the groups that are closed.
use Rattle.std.specs.Prelude.{◌≡◌, ℕ, ◌*◌, ◌/◌, ◌%◌, ◌<◌, ◌≤◌, Bool, cond, List, length}
use Rattle.rq_bitset.specs.Flags.{flag_at}
use Rattle.rq_page.specs.Sizes.{Sizes, cell_count, cell_at, directory_at, sender_count}
use Rattle.rq_page.specs.Pages.{slot_of}
use Rattle.rq_page.specs.Slots.{Slot, held_in}
use Rattle.rq_page.specs.Slots.Slot.{Sender}
use Rattle.rq_page.specs.declared.directory.Directory.{Directory}
use Rattle.rq_views.specs.Stored.{slots_in, is_used}

-- what an index tells: of so many places, where each stands, the flag of what stands there
pub record Indexed : Type 0 where
  pub count : ℕ
  pub at : ℕ → ℕ
  pub flag : Slot → ℕ

-- the flag of a cell: 1 where it is free
abbrev pub free_flag : Slot → ℕ
free_flag x = cond (is_used x) 0 1

-- the flag of a group: 1 where it is closed
abbrev pub closed_flag : Slot → ℕ
closed_flag (Sender s d) = cond d.closed 1 0
closed_flag _ = 0

abbrev pub free_cells : Sizes → Indexed
free_cells z = record { count = cell_count z; at = cell_at z; flag = free_flag }

abbrev pub closed_groups : Sizes → Indexed
closed_groups z = record { count = sender_count z; at = directory_at; flag = closed_flag }

-- each slot is a free cell, and a closed group's, as it was
abbrev pub AreFlaggedAlike : Sizes → (old new : List (List ℕ)) → Type 0
AreFlaggedAlike z old new = (a : ℕ) → (free_flag (slots_in z new a) ≡ free_flag (slots_in z old a))
    × (closed_flag (slots_in z new a) ≡ closed_flag (slots_in z old a))

-- the flag at a place is that of what stands there
abbrev pub IsNoted : Indexed → Sizes → List (List ℕ) → List ℕ → ℕ → Type 0
IsNoted x z images flags k = flag_at flags k ≡ x.flag (slots_in z images (x.at k))

-- the same, where these are the bytes of the page on which it stands
abbrev pub IsNotedOn : Indexed → Sizes → List ℕ → List ℕ → ℕ → Type 0
IsNotedOn x z page flags k = flag_at flags k ≡ x.flag (held_in z (x.at k / 16) (slot_of (x.at k % 16) page))

-- the flags of all that stands on a page with these bytes are
abbrev pub AreNotedOn : Indexed → Sizes → ℕ → List ℕ → List ℕ → Type 0
AreNotedOn x z number page flags = (k : ℕ) → k < x.count → x.at k / 16 ≡ number → IsNotedOn x z page flags k

-- every flag is, and none beyond is set
pub record IsIndex (x : Indexed) (z : Sizes) (images : List (List ℕ)) (flags : List ℕ) : Type 0 where
  pub room : x.count ≤ 64 * length flags
  pub noted : (k : ℕ) → k < x.count → IsNoted x z images flags k
  pub beyond : (k : ℕ) → x.count ≤ k → flag_at flags k ≡ 0

-- a sender's directory slot tells whether its group is closed
pub record TellsClosed (z : Sizes) (images : List (List ℕ)) (sender : ℕ) (closed : Bool) : Type 0 where
  pub directory : Directory
  pub held : slots_in z images (directory_at sender) ≡ Sender sender directory
  pub tells : closed ≡ directory.closed
