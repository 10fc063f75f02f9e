-- Worked histories with migrations: that they are legal, and that others are not.
use Rattle.std.proofs.Common.{◌≡◌, ℕ, ◌+◌, ◌≤◌, List, [], Option, None, Some, length, rules, refl, sym, ◌∙◌, ap, arith, inl, inr}
use Rattle.std.specs.Prelude.{replicate}
use Rattle.std.proofs.lemmas.List.{length-append}
use Rattle.rq_model.specs.declared.record.Record.{Record}
use Rattle.rq_disk.specs.Device.{Images}
use Rattle.rq_page.proofs.Formats.{told_sizes}
use Rattle.rq_page.specs.Formatted.{IsHeaderFor}
use Rattle.rq_page.specs.Kinds.{kind_byte, kind_of}
use Rattle.rq_page.specs.Pages.{header_bytes, header_front, header_of, lsn_of}
use Rattle.rq_page.specs.Sizes.{IsInRange, with_tags}
use Rattle.rq_page.specs.declared.layout.PageKind.{PageKind}
use Rattle.rq_store.specs.Opening.{IsLeft}
use Rattle.rq_cases.specs.Store.{sizes}
use Rattle.rq_cases.proofs.Pages.{range}
use Rattle.rq_cases.specs.Migrations.{MigrationsAreJudged}
use Rattle.rq_cases.proofs.Grown.{behind_is_another, behind_is_kept, midway_left, open_grown, shut_grown, untagged_pages}

untold : (n : ℕ) (log : List Record) (images : Images) → 1 ≤ n → n ≤ 1024 → IsLeft sizes images log → IsLeft (with_tags n sizes) images log → ⊥
untold n log images low high without with =
    let within : IsInRange (with_tags n sizes) = record { directory_low = range.directory_low; directory_high = range.directory_high; cells_low = range.cells_low; cells_high = range.cells_high; tags_high = high } in
    let none = (told_sizes sizes (images 0) range without.fits.superblock).2 in
    let some = (told_sizes (with_tags n sizes) (images 0) within with.fits.superblock).2 in
    omega (arith, low, none, some)

-- a page has a header
no_bytes : (k : Option PageKind) (page lsn : ℕ) (image : List ℕ) → image ≡ [] → IsHeaderFor k page lsn image → ⊥
unfolding header_of header_bytes
no_bytes None page lsn image none is = is
no_bytes (Some k) page lsn image none is =
    let length_is : 0 ≡ length (header_front lsn page (kind_byte k)) + 243 = ap length (ap header_of (sym none) ∙ is) ∙ length-append (header_front lsn page (kind_byte k)) (replicate 243 0) in
    omega (arith, length_is)

pub worked_migrations : MigrationsAreJudged
worked_migrations = record {
  answered = search rules;
  refuses_all_then = search rules;
  goes_on_then = λ a. (let e = a.0.0.0 in cc e);
  migrates_twice = λ a. (let e = a.0.0.0 in cc e);
  elsewhere = λ a. (let e = a.0.1 in omega (arith, e));
  of_tagged = λ a. (let e = a.0.0.1.0 in cc e);
  none = λ a. (let e = a.0.0.1.0 in cc e);
  most = search rules;
  too_many = λ a. (let e = a.0.0.1.0 in cc e);
  of_open = λ a. (let e = a.0.0.1.1.0 in cc e);
  refused_none = search rules;
  refused_many = search rules;
  refused_tagged = search rules;
  refused_for_nothing = λ a. (let e = a.0 in cc e);
  not_quiet = search rules;
  quiet = λ a. (let e = a.0 in cc e);
  has_no_room = λ a. (let e = a.0.0.1.1.1.0 in cc e);
  full = search rules;
  full_for_nothing = λ a. (let e = a.0 in cc e);
  refused_then_for_a_device = λ a. (let e = a.0 in cc e);
  bad_before_quiet = λ a. (let e = a.0 in cc e);
  comes_through = search rules;
  loses_nothing = λ a. (let e = a.0.0.forced in omega (arith, e));
  stopped_before = search rules;
  stopped_at_its_record = search rules;
  stopped_behind = search rules;
  stopped_without_its_record = λ a. (let e = a.0.2 in omega (arith, e));
  stopped_with_one_more = λ a. (let e = a.0.2 in omega (arith, e));
  cut_off_before = search rules;
  cut_off_behind = λ a. (let e = a.0.2 in omega (arith, e));
  inside = search rules;
  inside_without_its_record = λ a. (let e = a.0.2 in omega (arith, e));
  inside_with_one_more = λ a. (let e = a.0.2 in omega (arith, e));
  answered_of_less = λ a. (let e = a.0.2 in omega (arith, e));
  answered_with_one_more = λ a. (let e = a.0.2 in omega (arith, e));
  is_forgotten = λ a. a.0.1;
  other_pages = λ a. (let e = a.0.1 in omega (arith, e));
  other_pages_than_refused = λ a. (let e = a.0.1.0 in omega (arith, e));
  grows_unasked = λ a. (let e = a.0.1.0 in cc e);
  grows_by_a_checkpoint = λ a. a.0.1;
  grows_full = λ a. (let e = a.0.1.1 in cc e);
  grows_full_refused = λ a. (let e = a.0.1.1 in cc e);
  full_refused_at_its_record = λ a. elim a.0.2 [ inl e ↦ omega (arith, e) | inr e ↦ (let room = e.0.room in cc room) ];
  grows_none = λ a. (let e = a.0.0.tags in cc e);
  grows_too_many = λ a. (let e = a.0.0.tags in cc e);
  grows_tagged = λ a. (let e = a.0.0.tags in cc e);
  grows_open = λ a. (let e = a.0.0.none_open in cc e);
  grows_shut = λ a. a.0.0.not_shut refl;
  grows_twice = λ a. (let e = a.0.0.tags in cc e);
  refuses_behind = search rules;
  goes_on_behind = λ a. (let e = a.0.0.0 in cc e);
  crashes_behind = search rules;
  content = refl;
  size = refl;
  unknown_before = search rules;
  marks_before = λ a. (let e = a.0.0.1.1.1.1.0 in cc e);
  marks_then = search rules;
  unknown_then = search rules;
  told_then = search rules;
  refused_then = search rules;
  must_grow = λ a. a;
  grows_as_asked = refl;
  grows_otherwise = λ a. omega (arith, a);
  may_stay = tt;
  may_grow = refl;
  unasked = λ a. a;
  untold = untold;
  unwritten = λ n p log images low high none left. no_bytes (kind_of (with_tags n sizes) p) p (lsn_of (images p)) (images p) none (left.fits.headers p low high);
  open_behind_one = open_grown;
  open_without_tag_pages = untagged_pages;
  shut_behind_one = shut_grown;
  midway_grown = midway_left;
  written_behind = behind_is_another;
  written_in_its_place = behind_is_kept;
}
