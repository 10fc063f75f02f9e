-- The slots of a formatted store are well formed.
use Rattle.std.proofs.Common.{◌≡◌, ℕ, ◌<◌, ◌≤◌, ◌==◌, nat_le, nat_lt, Bool, true, false, if◌then◌else◌, ◌^◌, List, Option, Some, refl, sym, ap, ◌∙◌, arith, subst, inl, inr}
use Rattle.std.proofs.lemmas.Bool.{cases_lt}
use Rattle.std.proofs.lemmas.Bool.Decides.{nat_tests}
use Rattle.rq_page.specs.Sizes.{Sizes, IsInRange, page_count, tags_from, sender_at, client_at}
use Rattle.rq_page.specs.Kinds.{kind_of}
use Rattle.rq_page.specs.Cells.{free_bytes}
use Rattle.rq_page.specs.Directories.{directory_bytes, new_directory}
use Rattle.rq_page.specs.Clients.{client_bytes, new_client}
use Rattle.rq_page.specs.Slots.{Slot, Free, Sender, Client, slot_bytes, held_in, MayHold, IsSlotOf}
use Rattle.rq_page.specs.Formatted.{formatted_slot, formatted_content, superblock_bytes, FormattedHolds}
use Rattle.rq_page.specs.declared.layout.PageKind.{PageKind}
use Rattle.rq_page.specs.declared.layout.PageKind.TheVariants as kind
use Rattle.rq_page.proofs.Addresses.{kind_directory, kind_cells, kind_tags}
use Rattle.rq_page.proofs.Spellings.{spelling_tells}

-- what is spelled there, where the page is not the first
spelled_behind : (l : Sizes) (page slot : ℕ) → 1 ≤ page
    → slot_bytes (formatted_content l page slot) ≡ formatted_slot l page slot
spelled_behind l page slot low =
    let later : (page == 0) ≡ false = grind (arith, nat_tests) in
    let client : ℕ = client_at l page slot in
    let behind : Bool → Slot = λ t. (if t then Free else Client (new_client client)) in
    let behind_bytes : Bool → List ℕ = λ t. (if t then free_bytes else client_bytes (new_client client)) in
    let content : Bool → Bool → Slot = λ c t. (if c then Sender (sender_at page slot) new_directory else behind t) in
    let bytes : Bool → Bool → List ℕ = λ c t. (if c then directory_bytes (record { sender = sender_at page slot; directory = new_directory }) else behind_bytes t) in
    let first : List ℕ = (if slot == 1 then superblock_bytes l else free_bytes) in
    let other : (t : Bool) → slot_bytes (behind t) ≡ behind_bytes t =
    λ t. elim t as (λ d. slot_bytes (behind d) ≡ behind_bytes d) [ true ↦ refl | false ↦ refl ] in
    let each : (c t : Bool) → slot_bytes (content c t) ≡ bytes c t =
    λ c t. elim c as (λ d. slot_bytes (content d t) ≡ bytes d t) [ true ↦ refl | false ↦ other t ] in
    each (nat_le page l.directory) (nat_lt page (tags_from l)) ∙ sym (ap (λ t. (if t then first else bytes (nat_le page l.directory) (nat_lt page (tags_from l)))) later)

-- a formatted slot may hold what it holds
may_hold : (l : Sizes) (page slot : ℕ) → IsInRange l → 1 ≤ page → page < page_count l → 1 ≤ slot → slot ≤ 15
    → MayHold (kind_of l page) l page slot (formatted_content l page slot)
may_hold l page slot range low high slot_low slot_high =
    elim (cases_lt l.directory page) [
      | inl behind ↦
          let free : nat_le page l.directory ≡ false = grind (arith, nat_tests) in
          let rest : Slot = (if nat_lt page (tags_from l) then Free else Client (new_client (client_at l page slot))) in
          let there : formatted_content l page slot ≡ rest = ap (λ t. (if t then Sender (sender_at page slot) new_directory else rest)) free in
          elim (cases_lt page (tags_from l)) [
            | inl cell ↦
                let is : nat_lt page (tags_from l) ≡ true = grind (arith, nat_tests) in
                let held : rest ≡ Free = ap (λ t. (if t then Free else Client (new_client (client_at l page slot)))) is in
                subst (λ (k : Option PageKind). MayHold k l page slot (formatted_content l page slot)) (sym (kind_cells l page behind cell))
                (subst (λ (x : Slot). MayHold (Some kind.Cells) l page slot x) (sym (there ∙ held)) tt)
            | inr tag ↦
                let is : nat_lt page (tags_from l) ≡ false = grind (arith, nat_tests) in
                let held : rest ≡ Client (new_client (client_at l page slot)) = ap (λ t. (if t then Free else Client (new_client (client_at l page slot)))) is in
                let number : client_at l page slot < 2 ^ 32 = omega (arith, range.tags_high) in
                subst (λ (k : Option PageKind). MayHold k l page slot (formatted_content l page slot)) (sym (kind_tags l page tag high))
                (subst (λ (x : Slot). MayHold (Some kind.Tags) l page slot x) (sym (there ∙ held)) (record {
                  numbers = record { client = number; count = omega arith; tag = omega arith };
                  own = refl;
                }))
          ]
      | inr within ↦
          let used : nat_le page l.directory ≡ true = grind (arith, nat_tests) in
          let rest : Slot = (if nat_lt page (tags_from l) then Free else Client (new_client (client_at l page slot))) in
          let there : formatted_content l page slot ≡ Sender (sender_at page slot) new_directory = ap (λ t. (if t then Sender (sender_at page slot) new_directory else rest)) used in
          let numbers : sender_at page slot < 2 ^ 32 = omega (arith, range.directory_high) in
          subst (λ (k : Option PageKind). MayHold k l page slot (formatted_content l page slot)) (sym (kind_directory l page low within))
          (subst (λ (x : Slot). MayHold (Some kind.Directory) l page slot x) (sym there) (record {
            numbers = record { sender = numbers; sent = omega arith; received = omega arith; last_tag = omega arith; head = omega arith; tail = omega arith };
            own = refl;
            head = inl refl;
            tail = inl refl;
          }))
    ]

pub formatted_holds : FormattedHolds
formatted_holds l page slot range low high slot_low slot_high =
    let told = spelling_tells l page slot (formatted_content l page slot) slot_low slot_high (may_hold l page slot range low high slot_low slot_high) in
    let same : slot_bytes (formatted_content l page slot) ≡ formatted_slot l page slot = spelled_behind l page slot low in
    (subst (IsSlotOf l page slot) same told.1, ap (held_in l page) (sym same) ∙ told.0)
