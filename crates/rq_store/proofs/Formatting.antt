-- The pages of a formatted store fit the empty log.
use Rattle.std.proofs.Common.{◌≡◌, ℕ, ◌/◌, ◌%◌, ◌<◌, ◌≤◌, ◌++◌, ◌∷◌, List, [], replicate, refl, sym, ◌∙◌, ap, subst, Bool, true, false, cond, Option, Some, None, nat_lt, nat_le, ◌&&◌, not, inl, inr, arith}
use Rattle.std.proofs.lemmas.Bool.{lt-ltb, cases_lt}
use Rattle.std.proofs.lemmas.Bool.Decides.{nat_tests}
use Rattle.std.proofs.lemmas.List.{append_assoc}
use Rattle.byteorder.specs.Endian.{big_bytes, big_number}
use Rattle.byteorder.specs.Numbers.{big_number-reads_back}
use Rattle.rq_page.specs.declared.layout.PageKind.{PageKind}
use Rattle.rq_page.specs.Sizes.{Sizes, IsInRange, page_count, tags_from, address, sender_at, client_at}
use Rattle.rq_page.specs.Kinds.{kind_of, kind_byte}
use Rattle.rq_page.specs.Directories.{new_directory}
use Rattle.rq_page.specs.Clients.{new_client}
use Rattle.rq_page.specs.Pages.{lsn_of, header_bytes, header_front}
use Rattle.rq_page.specs.Slots.{Slot, held_in, IsSlotOf}
use Rattle.rq_page.specs.Slots.Slot.{Free, Sender, Client}
use Rattle.rq_page.specs.Formatted.{IsFormatted, IsHeaderFor, formatted_content, formatted_slot}
use Rattle.rq_page.proofs.FormattedSlots.{formatted_holds}
use Rattle.rq_page.proofs.PageParts.{lsn_of_header}
use Rattle.rq_views.specs.Items.{formatted_at}
use Rattle.rq_store.specs.Fitting.{oldest, FitsPage, FitsLog, IsStamp, HoldsPage}

header_lsn : (page kind : ℕ) → big_number 8 (header_bytes 0 page kind) ≡ 0
unfolding header_bytes header_front
header_lsn page kind =
    ap (big_number 8) (append_assoc (big_bytes 8 0) (big_bytes 4 page ++ kind ∷ []) (replicate 243 0))
    ∙ big_number-reads_back 8 0 ((big_bytes 4 page ++ kind ∷ []) ++ replicate 243 0) (omega arith)

pub no_lsn : (k : Option PageKind) (page : ℕ) (image : List ℕ) → IsHeaderFor k page 0 image → lsn_of image ≡ 0
no_lsn None page image h = absurd h
no_lsn (Some k) page image h = lsn_of_header image ∙ ap (big_number 8) h ∙ header_lsn page (kind_byte k)

abbrev tag_by_place : Sizes → ℕ → ℕ → Slot
tag_by_place z page slot = cond (nat_lt 0 slot && nat_le (tags_from z) page && nat_lt page (page_count z)) (Client (new_client (client_at z page slot))) Free

abbrev by_place : Sizes → ℕ → ℕ → Slot
by_place z page slot = cond (nat_lt 0 page && nat_le page z.directory && nat_lt 0 slot) (Sender (sender_at page slot) new_directory) (tag_by_place z page slot)

-- what stands there by address is what stands there by page and slot
formatted_there : (z : Sizes) (page slot : ℕ) → 1 ≤ page → page < page_count z → 1 ≤ slot → slot ≤ 15 → formatted_at z (address page slot) ≡ formatted_content z page slot
formatted_there z page slot low high slot_low slot_high =
    let p : address page slot / 16 ≡ page = omega arith in
    let n : address page slot % 16 ≡ slot = omega arith in
    let x : nat_lt 0 page ≡ true = lt-ltb 0 page low in
    let y : nat_lt 0 slot ≡ true = lt-ltb 0 slot slot_low in
    let w : nat_lt page (page_count z) ≡ true = lt-ltb page (page_count z) high in
    ap (λ i. by_place z i (address page slot % 16)) p ∙ ap (by_place z page) n
    ∙ rw x (rw y (rw w (by_kind (nat_le page z.directory) (nat_lt page (tags_from z)) (nat_le (tags_from z) page) behind))) where
      behind : nat_le (tags_from z) page ≡ not (nat_lt page (tags_from z))
      behind = elim (cases_lt page (tags_from z)) [
        | inl lt ↦ let a : nat_lt page (tags_from z) ≡ true = grind (arith, nat_tests) in let b : nat_le (tags_from z) page ≡ false = grind (arith, nat_tests) in rw a b
        | inr le ↦ let a : nat_lt page (tags_from z) ≡ false = grind (arith, nat_tests) in let b : nat_le (tags_from z) page ≡ true = grind (arith, nat_tests) in rw a b
      ]

      by_kind : (b t u : Bool) → u ≡ not t
          → cond (b && true) (Sender (sender_at page slot) new_directory) (cond (u && true) (Client (new_client (client_at z page slot))) Free)
          ≡ cond b (Sender (sender_at page slot) new_directory) (cond t Free (Client (new_client (client_at z page slot))))
      by_kind true t u e = refl
      by_kind false true u e = rw e refl
      by_kind false false u e = rw e refl

-- a formatted page fits
pub formatted_page : (z : Sizes) (page : ℕ) (image : List ℕ) → IsInRange z → 1 ≤ page → page < page_count z → IsFormatted z page image → FitsPage z [] page image
formatted_page z page image range low high h =
    let none : lsn_of image ≡ 0 = no_lsn (kind_of z page) page image h.header in
    let holds : (n : ℕ) → 1 ≤ n → n ≤ 15 → IsSlotOf z page n (formatted_slot z page n) × (held_in z page (formatted_slot z page n) ≡ formatted_content z page n) = (λ n a b. formatted_holds z page n range low high a b) in
    record {
      slots = λ n a b. subst (IsSlotOf z page n) (sym (h.slots n a b)) (holds n a b).0;
      within = omega (arith, none);
      stamped = subst (λ n. IsStamp page (oldest n [])) (sym none) tt;
      held = subst (λ n. HoldsPage z page image (oldest n [])) (sym none) (λ n a b. ap (held_in z page) (h.slots n a b) ∙ (holds n a b).1 ∙ sym (formatted_there z page n low high a b));
    }

-- so do the pages of a formatted store
pub formatted_fits : (z : Sizes) (image : ℕ → List ℕ) → IsInRange z → ((p : ℕ) → p < page_count z → IsFormatted z p (image p)) → FitsLog z image []
formatted_fits z image range h = record {
  superblock = h 0 (omega arith);
  headers = λ p low high. let f = h p high in subst (λ n. IsHeaderFor (kind_of z p) p n (image p)) (sym (no_lsn (kind_of z p) p (image p) f.header)) f.header;
  pages = λ p low high. formatted_page z p (image p) range low high (h p high);
}
