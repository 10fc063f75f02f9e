-- The pages of the worked run are those of a store, and each write makes the next of the one before.
use Rattle.std.proofs.Common.{◌≡◌, ◌≢◌, ℕ, zero, suc, ◌+◌, ◌^◌, ◌<◌, ◌≤◌, ◌/◌, ◌%◌, ◌==◌, if◌then◌else◌, cond, nat_lt, List, length, refl, sym, ap, ◌∙◌, arith, inl, inr}
use Rattle.std.proofs.lemmas.Bool.{cases_eq}
use Rattle.std.proofs.lemmas.Bool.Decides.{nat_tests}
use Rattle.rq_page.specs.declared.directory.Directory.{Directory}
use Rattle.rq_page.specs.Cells.{cell_bytes, free_bytes}
use Rattle.rq_page.specs.Directories.{new_directory}
use Rattle.rq_page.specs.Formatted.{formatted_slot, superblock_bytes, IsFormatted, IsHeaderOf}
use Rattle.rq_page.specs.Pages.{header_bytes, slot_of, IsWritten}
use Rattle.rq_page.specs.Sizes.{Sizes, IsInRange, IsLink, page_count}
use Rattle.rq_page.specs.Slots.{IsCellOf, IsSlotOf, Slot, held_in, slot_bytes}
use Rattle.rq_page.specs.Slots.Slot.{Free, Sender, Used}
use Rattle.rq_page.proofs.CellBytes.{length-cell_bytes}
use Rattle.rq_page.proofs.DirectoryBytes.{length-directory_bytes}
use Rattle.rq_page.proofs.Spellings.{spelling_tells}
use Rattle.rq_views.specs.Log.{put}
use Rattle.rq_views.specs.WorkedItems.{cell}
use Rattle.rq_views.specs.Stored.{slots_in, slot_at}
use Rattle.rq_views.proofs.Overlay.{put_off}
use Rattle.rq_pool.proofs.Slots.{slots_here}
use Rattle.rq_store.specs.Fitting.{image_in}
use Rattle.rq_store.specs.Worked.{AreFormatted}
use Rattle.rq_store.proofs.Spelling.{MayStandAt}
use Rattle.rq_cases.specs.Store.{sizes, page_image, pages_with, one_closed, one_sent, one_taken, group, groups_0, groups_1, groups_2, cells_0, cells_1, cells_2, formatted_pages}
use Rattle.rq_cases.proofs.Images.{header_is, slot_is, lsn_is, either_long, written_long, first_written, length-free, length-superblock}

pub range : IsInRange sizes
range = record {
  directory_low = omega arith;
  directory_high = omega arith;
  cells_low = omega arith;
  cells_high = omega arith;
  tags_high = omega arith;
}

-- how long slots are
group_long : (d : Directory) → length (group d) ≡ 256
group_long d = length-directory_bytes (record { sender = 0; directory = d })

cell_long : length (cell_bytes (cell 0)) ≡ 256
cell_long = length-cell_bytes (cell 0) (omega arith)

pub first_long : (n : ℕ) → length (formatted_slot sizes 0 n) ≡ 256
first_long n = either_long (n == 1) (superblock_bytes sizes) free_bytes (length-superblock sizes) length-free

pub groups_0_long : (n : ℕ) → length (groups_0 n) ≡ 256
groups_0_long n = length-directory_bytes _

pub cells_0_long : (n : ℕ) → length (cells_0 n) ≡ 256
cells_0_long n = length-free

pub groups_1_long : (n : ℕ) → length (groups_1 n) ≡ 256
groups_1_long = written_long 1 (group one_sent) groups_0 (group_long one_sent) groups_0_long

pub groups_2_long : (n : ℕ) → length (groups_2 n) ≡ 256
groups_2_long = written_long 1 (group one_taken) groups_1 (group_long one_taken) groups_1_long

pub cells_1_long : (n : ℕ) → length (cells_1 n) ≡ 256
cells_1_long = written_long 1 (cell_bytes (cell 0)) cells_0 cell_long cells_0_long

pub cells_2_long : (n : ℕ) → length (cells_2 n) ≡ 256
cells_2_long = written_long 1 free_bytes cells_1 length-free cells_1_long

-- the formatted pages are formatted
pub are_formatted : AreFormatted sizes formatted_pages
are_formatted zero low = record {
  header = header_is 0 0 0 (formatted_slot sizes 0) first_long;
  slots = slot_is 0 0 0 (formatted_slot sizes 0) first_long;
}
are_formatted (suc zero) low = record {
  header = header_is 0 1 1 groups_0 groups_0_long;
  slots = slot_is 0 1 1 groups_0 groups_0_long;
}
are_formatted (suc (suc zero)) low = record {
  header = header_is 0 2 2 cells_0 cells_0_long;
  slots = slot_is 0 2 2 cells_0 cells_0_long;
}
are_formatted (suc (suc (suc n))) low = absurd (omega (arith, low))

-- what may stand in a slot, by its bytes
cell_fits : IsCellOf sizes (cell 0)
cell_fits = record {
  numbers = record {
    sender = omega arith;
    numbered = omega arith;
    sequence = omega arith;
    tag = omega arith;
    next = omega arith;
    prev = omega arith;
    body = omega arith;
  };
  sender = omega arith;
  next = inl refl;
  prev = inl refl;
}

free_stands : MayStandAt sizes 33 Free
free_stands = record { low = omega arith; holds = tt }

cell_stands : MayStandAt sizes 33 (Used (cell 0))
cell_stands = record { low = omega arith; holds = cell_fits }

at_cell : IsLink sizes 33
at_cell = inr (record { above = omega arith; below = omega arith; slot = omega arith })

group_stands : (d : Directory) → d.sent < 2 → d.received < d.sent + 1 → d.last_tag < 8 → d.head < 100 → d.tail < 100
    → IsLink sizes d.head → IsLink sizes d.tail → MayStandAt sizes 17 (Sender 0 d)
group_stands d sent received tag head tail h t = record {
  low = omega arith;
  holds = record {
    numbers = record {
      sender = omega arith;
      sent = omega (arith, sent);
      received = omega (arith, received);
      last_tag = omega (arith, tag);
      head = omega (arith, head);
      tail = omega (arith, tail);
    };
    own = refl;
    head = h;
    tail = t;
  };
}

new_stands : MayStandAt sizes 17 (Sender 0 new_directory)
new_stands =
    group_stands new_directory (omega arith) (omega arith) (omega arith) (omega arith) (omega arith) (inl refl) (inl refl)

sent_stands : MayStandAt sizes 17 (Sender 0 one_sent)
sent_stands =
    group_stands one_sent (omega arith) (omega arith) (omega arith) (omega arith) (omega arith) at_cell at_cell

taken_stands : MayStandAt sizes 17 (Sender 0 one_taken)
taken_stands =
    group_stands one_taken (omega arith) (omega arith) (omega arith) (omega arith) (omega arith) (inl refl) (inl refl)

closed_stands : MayStandAt sizes 17 (Sender 0 one_closed)
closed_stands =
    group_stands one_closed (omega arith) (omega arith) (omega arith) (omega arith) (omega arith) (inl refl) (inl refl)

told : (a : ℕ) (x : Slot) → MayStandAt sizes a x
    → (held_in sizes (a / 16) (slot_bytes x) ≡ x) × IsSlotOf sizes (a / 16) (a % 16) (slot_bytes x)
told a x h = spelling_tells sizes (a / 16) (a % 16) x h.low (omega arith) h.holds

pub free_told : (held_in sizes 2 free_bytes ≡ Free) × IsSlotOf sizes 2 1 free_bytes
free_told = told 33 Free free_stands

pub cell_told : (held_in sizes 2 (cell_bytes (cell 0)) ≡ Used (cell 0)) × IsSlotOf sizes 2 1 (cell_bytes (cell 0))
cell_told = told 33 (Used (cell 0)) cell_stands

pub new_told : (held_in sizes 1 (group new_directory) ≡ Sender 0 new_directory) × IsSlotOf sizes 1 1 (group new_directory)
new_told = told 17 (Sender 0 new_directory) new_stands

pub sent_told : (held_in sizes 1 (group one_sent) ≡ Sender 0 one_sent) × IsSlotOf sizes 1 1 (group one_sent)
sent_told = told 17 (Sender 0 one_sent) sent_stands

pub taken_told : (held_in sizes 1 (group one_taken) ≡ Sender 0 one_taken) × IsSlotOf sizes 1 1 (group one_taken)
taken_told = told 17 (Sender 0 one_taken) taken_stands

pub closed_told : (held_in sizes 1 (group one_closed) ≡ Sender 0 one_closed) × IsSlotOf sizes 1 1 (group one_closed)
closed_told = told 17 (Sender 0 one_closed) closed_stands

-- a slot is written, and the slots hold what they held but there
pub slots_put : (z : Sizes) (old new : List (List ℕ)) (at : ℕ) (after : List ℕ) (stamp : ℕ) → 1 ≤ at % 16
    → IsWritten (image_in old (at / 16)) (image_in new (at / 16)) (at % 16) after stamp
    → ((p : ℕ) → p ≢ at / 16 → image_in new p ≡ image_in old p)
    → (a : ℕ) → slots_in z new a ≡ put (slots_in z old) at (held_in z (at / 16) after) a
slots_put z old new at after stamp low w others a =
    let stays : slot_at new a ≡ slot_at old a → slots_in z new a ≡ slots_in z old a =
    λ same. ap (λ b. cond (nat_lt 0 (a % 16)) (held_in z (a / 16) b) Free) same in
    elim (cases_eq a at) [
      | inl here ↦
          ap (slots_in z new) here
          ∙ slots_here z new at low
          ∙ ap (held_in z (at / 16)) w.slot
          ∙ sym (if_here a at (held_in z (at / 16) after) (slots_in z old a) here)
      | inr off ↦ other a off stays ∙ sym (put_off (slots_in z old) at (held_in z (at / 16) after) a off)
    ]
  where
    if_here : (p q : ℕ) (x y : Slot) → p ≡ q → (if p == q then x else y) ≡ x
    if_here p q x y is = grind (arith, nat_tests)

    none : (m : ℕ) (x y : Slot) → m ≡ 0 → cond (nat_lt 0 m) x Free ≡ cond (nat_lt 0 m) y Free
    none m x y e = rw e refl

    other : (a : ℕ) → a ≢ at → (slot_at new a ≡ slot_at old a → slots_in z new a ≡ slots_in z old a)
        → slots_in z new a ≡ slots_in z old a
    other a off stays = elim (cases_eq (a / 16) (at / 16)) [
      | inr another ↦ stays (ap (slot_of (a % 16)) (others (a / 16) another))
      | inl page ↦ elim (cases_eq (a % 16) 0) [
        | inl zero_slot ↦ none (a % 16) (held_in z (a / 16) (slot_at new a)) (held_in z (a / 16) (slot_at old a)) zero_slot
        | inr slot ↦ stays
            (ap (λ p. slot_of (a % 16) (image_in new p)) page
            ∙ w.others (a % 16) (omega (arith, slot)) (omega arith) (λ e. off (omega (arith, page, e)))
            ∙ ap (λ p. slot_of (a % 16) (image_in old p)) (sym page))
      ]
    ]

-- headers and the superblock of such pages
pub headers_with : (groups_lsn cells_lsn : ℕ) (groups cells : ℕ → List ℕ) → groups_lsn < 2 ^ 64 → cells_lsn < 2 ^ 64
    → ((n : ℕ) → length (groups n) ≡ 256) → ((n : ℕ) → length (cells n) ≡ 256)
    → (p : ℕ) → 1 ≤ p → p < page_count sizes
    → IsHeaderOf sizes p (image_in (pages_with groups_lsn groups cells_lsn cells) p)
headers_with gl cl groups cells gf cf g c zero low high = absurd (omega (arith, low))
headers_with gl cl groups cells gf cf g c (suc zero) low high =
    header_is gl 1 1 groups g ∙ ap (λ l. header_bytes l 1 1) (sym (lsn_is gl 1 1 groups g gf))
headers_with gl cl groups cells gf cf g c (suc (suc zero)) low high =
    header_is cl 2 2 cells c ∙ ap (λ l. header_bytes l 2 2) (sym (lsn_is cl 2 2 cells c cf))
headers_with gl cl groups cells gf cf g c (suc (suc (suc n))) low high = absurd (omega (arith, high))

pub superblock_with : (groups_lsn cells_lsn : ℕ) (groups cells : ℕ → List ℕ)
    → IsFormatted sizes 0 (image_in (pages_with groups_lsn groups cells_lsn cells) 0)
superblock_with gl cl groups cells = are_formatted 0 (omega arith)

-- one page of them is another
pub others_of_1 : (gl gm cl : ℕ) (groups other cells : ℕ → List ℕ) (p : ℕ) → p ≢ 1
    → image_in (pages_with gm other cl cells) p ≡ image_in (pages_with gl groups cl cells) p
others_of_1 gl gm cl groups other cells zero off = refl
others_of_1 gl gm cl groups other cells (suc zero) off = absurd (off refl)
others_of_1 gl gm cl groups other cells (suc (suc zero)) off = refl
others_of_1 gl gm cl groups other cells (suc (suc (suc n))) off = refl

pub others_of_2 : (gl cl cm : ℕ) (groups cells other : ℕ → List ℕ) (p : ℕ) → p ≢ 2
    → image_in (pages_with gl groups cm other) p ≡ image_in (pages_with gl groups cl cells) p
others_of_2 gl cl cm groups cells other zero off = refl
others_of_2 gl cl cm groups cells other (suc zero) off = refl
others_of_2 gl cl cm groups cells other (suc (suc zero)) off = absurd (off refl)
others_of_2 gl cl cm groups cells other (suc (suc (suc n))) off = refl

pub fill_written : IsWritten (page_image 0 2 2 cells_0) (page_image 2 2 2 cells_1) 1 (cell_bytes (cell 0)) 2
fill_written = first_written 0 2 2 2 (cell_bytes (cell 0)) cells_0 cell_long cells_0_long (omega arith)

pub sent_written : IsWritten (page_image 0 1 1 groups_0) (page_image 3 1 1 groups_1) 1 (group one_sent) 3
sent_written = first_written 0 3 1 1 (group one_sent) groups_0 (group_long one_sent) groups_0_long (omega arith)

pub free_written : IsWritten (page_image 2 2 2 cells_1) (page_image 6 2 2 cells_2) 1 free_bytes 6
free_written = first_written 2 6 2 2 free_bytes cells_1 length-free cells_1_long (omega arith)

pub taken_written : IsWritten (page_image 3 1 1 groups_1) (page_image 7 1 1 groups_2) 1 (group one_taken) 7
taken_written = first_written 3 7 1 1 (group one_taken) groups_1 (group_long one_taken) groups_1_long (omega arith)
