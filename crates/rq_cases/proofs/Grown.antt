-- Stores with a tag page, behind a migration and in the midst of one.
use Rattle.std.proofs.Common.{rules, ◌≡◌, ◌≢◌, ℕ, zero, suc, ◌==◌, List, [], ◌∷◌, length, Some, None, Option, refl, sym, ap, ◌∙◌, subst, inl, inr, arith}
use Rattle.rq_model.specs.declared.record.Record.{Record}
use Rattle.rq_model.specs.Bases.{standing}
use Rattle.rq_model.specs.Growth.{IsGrownBy}
use Rattle.rq_model.specs.Growth.Growth.{Grows}
use Rattle.rq_model.specs.History.Call.{Migrate}
use Rattle.rq_model.specs.History.Entry.{Grew, Refused}
use Rattle.rq_model.specs.Ledger.{group_in, ledger}
use Rattle.rq_model.specs.declared.refusal.Refusal.TheVariants.{DiskWrite}
use Rattle.rq_model.proofs.Told.{content_is}
use Rattle.rq_disk.specs.Memory.{MayBe, PageState, fresh_pages, if_no, reads}
use Rattle.rq_disk.specs.declared.mem_log.MemLog.{MemLog}
use Rattle.rq_disk.specs.declared.mem_pages.MemPages.{MemPages}
use Rattle.rq_log.specs.Spelled.{spelled}
use Rattle.rq_log.proofs.Runs.{ends_all, go_on_all}
use Rattle.rq_page.proofs.DirectoryBytes.{length-directory_bytes}
use Rattle.rq_page.proofs.Formats.{told_sizes}
use Rattle.rq_page.specs.Cells.{free_bytes}
use Rattle.rq_page.specs.Formatted.{formatted_slot, superblock_bytes}
use Rattle.rq_page.specs.Sizes.{IsInRange, with_tags}
use Rattle.rq_store.specs.Fitting.{AllFit, AllHoldBase, FitsLog, image_in}
use Rattle.rq_store.specs.Whole.{IsWhole}
use Rattle.rq_store.specs.Worked.{AreFormatted}
use Rattle.rq_store.proofs.Based.{hold_base}
use Rattle.rq_store.proofs.Cutting.{fits_log, fits_log_longer, only_fit}
use Rattle.rq_store.proofs.Formatting.{formatted_fits}
use Rattle.rq_store.proofs.WorkedFits as formatted
use Rattle.rq_sound.specs.Calls.{checkpointed, failed}
use Rattle.rq_sound.proofs.Checkpoints.{checkpoint_sound}
use Rattle.rq_engine.specs.Crash.{IsCut}
use Rattle.rq_engine.specs.Devices.{EachPair}
use Rattle.rq_engine.specs.Earlier.{on}
use Rattle.rq_engine.specs.Migration.{KeepsBeyond}
use Rattle.rq_engine.proofs.Crashing.{commits_of_cut}
use Rattle.rq_engine.proofs.Standing.{failed_steps}
use Rattle.rq_restart.specs.Underway.{IsStore}
use Rattle.rq_core.specs.Devices.{mem_log, mem_pages}
use Rattle.rq_core.specs.Worked.{first_entries}
use Rattle.rq_core.specs.World.{IsCutBy}
use Rattle.rq_cases.specs.Checkpoints.{based_log, behind, midway}
use Rattle.rq_cases.specs.Migrations.{was_migrated}
use Rattle.rq_cases.specs.Opened.{AreNewPages, IsWrittenSince, over}
use Rattle.rq_cases.specs.Run.{fresh, log_1}
use Rattle.rq_cases.specs.Store.{formatted_pages, grown_pages, sizes, tagged}
use Rattle.rq_cases.specs.Worlds.{Hold, Opens, Shuts}
use Rattle.rq_cases.proofs.Checkpoints.{based_told, failed_sound}
use Rattle.rq_cases.proofs.Held.{log_left, only_images, only_records, pages_written}
use Rattle.rq_cases.proofs.Images.{either_long, header_is, length-client, length-free, length-superblock, slot_is}
use Rattle.rq_cases.proofs.Pages.{are_formatted, range}
use Rattle.rq_cases.proofs.Running.{fresh_sound}
use Rattle.rq_cases.proofs.Worlds.{page_left}

tagged_range : IsInRange tagged
tagged_range = record { directory_low = range.directory_low; directory_high = range.directory_high; cells_low = range.cells_low; cells_high = range.cells_high; tags_high = omega arith }

-- how long slots are
first_slots : (n : ℕ) → length (formatted_slot tagged 0 n) ≡ 256
first_slots n = either_long (n == 1) (superblock_bytes tagged) free_bytes (length-superblock tagged) length-free

group_slots : (n : ℕ) → length (formatted_slot tagged 1 n) ≡ 256
group_slots n = length-directory_bytes _

cell_slots : (n : ℕ) → length (formatted_slot tagged 2 n) ≡ 256
cell_slots n = length-free

client_slots : (n : ℕ) → length (formatted_slot tagged 3 n) ≡ 256
client_slots n = length-client _

grown_formatted : AreFormatted tagged grown_pages
grown_formatted zero low = record { header = header_is 0 0 0 (formatted_slot tagged 0) first_slots; slots = slot_is 0 0 0 (formatted_slot tagged 0) first_slots }
grown_formatted (suc zero) low = record { header = header_is 0 1 1 (formatted_slot tagged 1) group_slots; slots = slot_is 0 1 1 (formatted_slot tagged 1) group_slots }
grown_formatted (suc (suc zero)) low = record { header = header_is 0 2 2 (formatted_slot tagged 2) cell_slots; slots = slot_is 0 2 2 (formatted_slot tagged 2) cell_slots }
grown_formatted (suc (suc (suc zero))) low = record { header = header_is 0 3 3 (formatted_slot tagged 3) client_slots; slots = slot_is 0 3 3 (formatted_slot tagged 3) client_slots }
grown_formatted (suc (suc (suc (suc n)))) low = absurd (omega (arith, low))

-- the log of one record for all, over those pages
whole : IsWhole tagged based_log
whole = record {
  legal = search rules;
  told = search rules;
  rules = search rules;
  reads = search rules;
  in_store = search rules;
  befores = search rules;
  order = search rules;
  based = (refl, (tt, tt));
  behind = search rules;
  room = search rules;
  numbers = search rules;
}

none_made : FitsLog tagged (image_in grown_pages) []
none_made = formatted_fits tagged (image_in grown_pages) tagged_range grown_formatted

fits : FitsLog tagged (image_in grown_pages) based_log
fits = fits_log_longer tagged (image_in grown_pages) [] based_log (2, refl) none_made

holds : AllHoldBase tagged (image_in grown_pages) based_log
holds p low high old = formatted.base tagged grown_pages tagged_range grown_formatted p low high (none_made.pages p low high).within

module _ (pages : MemPages) (log : MemLog) (h : Hold pages grown_pages log based_log) where
  fit : AllFit (mem_pages.may_be pages) tagged based_log
  fit = only_fit (image_in grown_pages) (mem_pages.may_be pages) tagged based_log (only_images grown_pages pages h.0) fits holds

  leaves : EachPair mem_pages mem_log pages log (IsStore tagged based_log)
  leaves images bytes a b = record {
    range = tagged_range;
    are_spelled = based_told;
    is = ends_all (standing based_log) bytes (only_records log based_log h.1 bytes b);
    left = record { whole = whole; fits = fits_log (mem_pages.may_be pages) tagged based_log images fit a; based = hold_base (mem_pages.may_be pages) tagged based_log images fit a };
  }

  cut : EachPair mem_pages mem_log pages log (IsCut (record (checkpointed (failed fresh)) { sizes = tagged }))
  cut images bytes a b =
      let is = only_records log based_log h.1 bytes b in
      record {
        lost = 0;
        forced = omega arith;
        incarnation = omega arith;
        told = based_told;
        spells = ends_all (standing based_log) bytes is;
        begins = go_on_all (standing based_log) bytes is;
        store = (leaves images bytes a b).left;
        durable = omega arith;
        content = λ g. content_is g based_log whole.rules ∙ ap (λ c. group_in c g) (sym (commits_of_cut 0 based_log));
      }

  pub shut_grown : Shuts (Grew 1 2 ∷ was_migrated) pages log
  shut_grown = record {
    range = tagged_range;
    phase = refl;
    older = based_log;
    ties = record { committed = refl; records = refl; incarnation = omega arith };
    left = λ images bytes a b. (based_log, ([], refl, tt), leaves images bytes a b);
  }

  pub open_grown : Opens sizes was_migrated (over (failed behind) pages log)
  open_grown = record {
    sizes = refl;
    past = log_1;
    long = refl;
    ledger = refl;
    sound = (failed_steps (checkpointed fresh) (checkpoint_sound fresh fresh_sound refl) refl (Migrate 1)).sound;
    devices = inr (record { failed = refl; none_open = refl; leaves = λ images bytes a b. (Some 1, refl, refl, (refl, refl, (refl, cut images bytes a b))) });
  }

  pub midway_left : Opens sizes (Refused (Migrate 1) DiskWrite ∷ first_entries 1) (midway pages log)
  midway_left = record {
    sizes = refl;
    past = [];
    long = refl;
    ledger = refl;
    sound = failed_sound;
    devices = inr (record { failed = refl; none_open = refl; leaves = λ images bytes a b. (Some 1, refl, (refl, refl), (refl, refl, cut images bytes a b)) });
  }

-- pages of a store without tag pages are not left behind a migration that was answered
none_left : (past : List Record) (tags : Option ℕ) → IsGrownBy (Grows 1) tags → IsCutBy (Grows 1) (ledger was_migrated) tags (on past (failed behind)) (image_in formatted_pages) (spelled based_log) → ⊥
none_left past None grown cut = grown
none_left past (Some n) grown cut =
    let within : IsInRange (with_tags n sizes) = record { directory_low = range.directory_low; directory_high = range.directory_high; cells_low = range.cells_low; cells_high = range.cells_high; tags_high = omega (arith, grown) } in
    let none = (told_sizes sizes (image_in formatted_pages 0) range (are_formatted 0 (omega arith))).2 in
    let some = (told_sizes (with_tags n sizes) (image_in formatted_pages 0) within cut.2.1.store.fits.superblock).2 in
    omega (arith, grown, none, some)

pub untagged_pages : (pages : MemPages) (log : MemLog) → Hold pages formatted_pages log based_log → Opens sizes was_migrated (over (failed behind) pages log) → ⊥
untagged_pages pages log h o = elim o.devices [
  | inl f ↦ (let e = f.stays in cc e)
  | inr m ↦ (let x = m.leaves (image_in formatted_pages) (spelled based_log) (page_left pages formatted_pages h.0) (log_left log based_log h.1) in none_left o.past x.0 x.1 x.3)
]

-- pages of which one was written
pub behind_is_another : (old new : MemPages) (image : List ℕ) → image ≢ [] → AreNewPages old grown_pages → IsWrittenSince old new 4 image → KeepsBeyond mem_pages 1 sizes old new → ⊥
behind_is_another old new image some n w kept =
    let now : mem_pages.seen new 4 ≡ image = ap (λ (s : PageState). reads s 4) (pages_written grown_pages old new 4 image n w) in
    let was : mem_pages.seen old 4 ≡ [] = ap (λ (s : PageState). reads s 4) n.pages in
    some (sym now ∙ (kept 4 (omega arith)).0 ∙ was)

-- a crash leaves nothing more of the others
others_stay : (page other : ℕ) (image c : List ℕ) → other ≢ page → MayBe (record (fresh_pages grown_pages) { since = (page, image) ∷ [] }) other c → MayBe (fresh_pages grown_pages) other c
others_stay page other image c off (inl same) = inl same
others_stay page other image c off (inr (inl here)) = absurd (off here.0)
others_stay page other image c off (inr (inr none)) = absurd none

pub behind_is_kept : (old new : MemPages) (image : List ℕ) → AreNewPages old grown_pages → IsWrittenSince old new 3 image → KeepsBeyond mem_pages 1 sizes old new
behind_is_kept old new image n w page past =
    let is = pages_written grown_pages old new 3 image n w in
    let off : page ≢ 3 = λ e. omega (arith, past, e) in (
      ap (λ (s : PageState). reads s page) is ∙ if_no page 3 image ((fresh_pages grown_pages).synced page) off ∙ sym (ap (λ (s : PageState). reads s page) n.pages),
      λ c may. subst (λ (s : PageState). MayBe s page c) (sym n.pages) (others_stay 3 page image c off (subst (λ (s : PageState). MayBe s page c) is may)),
    )
