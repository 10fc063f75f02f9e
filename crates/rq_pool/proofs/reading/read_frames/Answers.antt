use Rattle.std.proofs.Common.{◌≡◌, ◌∙◌, ◌++◌, ◌∷◌, [], ℕ, ◌+◌, List, length, min, Bool, false, ap, arith, refl, replicate, rules, subst, sym}
use Rattle.std.proofs.lemmas.List.{replicate_more}
use Rattle.rq_model.specs.declared.refusal.Refusal.TheVariants as why
use Rattle.rq_disk.specs.Device.{Images}
use Rattle.rq_page.specs.Sizes.{page_count}
use Rattle.rq_pool.specs.declared.Entry.{Entry}
use Rattle.rq_pool.specs.declared.Frame.{Frame}
use Rattle.rq_pool.specs.Frames.{first_frame, first_page, first_place, frames_of, images_of, pages_of, places_of}
use Rattle.rq_pool.specs.Indexed.{closed_groups, free_cells}
use Rattle.rq_pool.specs.Reading.{IsSuperblock, StopsFor}
use Rattle.rq_pool.proofs.Numbering.{AreNumberedTo, numbered_more}
use Rattle.rq_pool.proofs.Order.{all_stand, first_is_fixed, first_more, none_first, none_fixed, tied_first}
use Rattle.rq_pool.proofs.Readings.{only_read_on, seen_more, read_more, earlier, stops_later}
use Rattle.rq_pool.proofs.Indexes.{cells_stand, groups_stand, index_whole, noted_more}
use Rattle.rq_pool.proofs.reading.read_frames.Goals as goal

pub loop-number-preserved : goal.loop-number-preserved
loop-number-preserved g c =
    let P = g.P.PageDevice in
    let i = c.loop-number.invariant in
    let z = c.args.layout.now in
    let n = c.loop-number.number in
    let old = images_of c.loop-number.entries.items in
    let new = images_of c.add_page-in-loop-number.new.entries.items in
    let more = c.in_ok-add_page-2.ensures in
    let grown = more.images in
    let page = c.read_sound_page.new.page in
    let read = c.in_ok-read_sound_page.ensures in
    let noted = c.note_page.ensures in
    record {
      read = read_more old new n page grown i.read.count c.args.layout.now i.read read.ok.1;
      superblock = earlier old new n page grown i.read.count 0 (omega (arith, c.loop-number.auto.number)) ∙ i.superblock;
      seen = λ h. seen_more old new n page grown i.read.count (P.seen c.args.device.now) (i.seen (read.device.honest h)) (read.ok.0 h ∙ ap (λ (s : Images). s n) i.device.same);
      unchanged = more.changed ∙ ap (λ (l : List Bool). l ++ false ∷ []) i.unchanged ∙ replicate_more n false;
      first = first_more c.args.most n old page (places_of c.loop-number.entries.items) (frames_of c.loop-number.frames.items) (pages_of c.loop-number.frames.items) i.read.count i.first new _ _ _ grown more.places more.frames more.pages;
      numbers = (let told = c.in_ok-note_ahead.ensures in numbered_more z old new n page c.loop-number.ahead.items c.note_ahead.new.ahead.items grown i.read.count i.numbers told.here told.others);
      free = noted_more (free_cells z) z (cells_stand z) old new c.loop-number.free c.note_page.new.free n page grown i.read.count i.free noted.free noted.free_others noted.free_same;
      closed = noted_more (closed_groups z) z (groups_stand z) old new c.loop-number.closed c.note_page.new.closed n page grown i.read.count i.closed noted.closed noted.closed_others noted.closed_same;
      faults = read.cause ∙ i.faults;
      device = only_read_on P c.args.device.now c.loop-number.device c.read_sound_page.new.device i.device read.device;
    }

-- a device that fails, or a page that is damaged
pub returns-in_err-read_sound_page-clause-err : goal.returns-in_err-read_sound_page-clause-err
returns-in_err-read_sound_page-clause-err g c =
    let P = g.P.PageDevice in
    let i = c.loop-number.invariant in
    let said = stops_later P c.args.device.now c.loop-number.device c.read_sound_page.new.device _ i.device.same i.faults c.in_err-read_sound_page.ensures.err in
    search (rules, said)

pub returns-in_err-read_sound_page-clause-device : goal.returns-in_err-read_sound_page-clause-device
returns-in_err-read_sound_page-clause-device g c =
    only_read_on g.P.PageDevice c.args.device.now c.loop-number.device c.read_sound_page.new.device c.loop-number.invariant.device c.in_err-read_sound_page.ensures.device

-- no memory for a page more
pub returns-in_err-add_page-2-clause-err : goal.returns-in_err-add_page-2-clause-err
returns-in_err-add_page-2-clause-err g c =
    let P = g.P.PageDevice in
    let i = c.loop-number.invariant in
    let read = c.in_ok-read_sound_page.ensures in
    let said : StopsFor P why.NoMemory c.args.device.now c.read_sound_page.new.device =
    (λ h. (c.args.layout.now, subst (IsSuperblock c.args.layout.now) (c.requires.first (i.device.honest (read.device.honest h))) c.requires.superblock), read.cause ∙ i.faults) in
    search (rules, said)

pub returns-in_err-add_page-2-clause-device : goal.returns-in_err-add_page-2-clause-device
returns-in_err-add_page-2-clause-device g c =
    only_read_on g.P.PageDevice c.args.device.now c.loop-number.device c.read_sound_page.new.device c.loop-number.invariant.device c.in_ok-read_sound_page.ensures.device

-- or to tell its number
pub returns-in_err-note_ahead-clause-err : goal.returns-in_err-note_ahead-clause-err
returns-in_err-note_ahead-clause-err g c =
    let P = g.P.PageDevice in
    let i = c.loop-number.invariant in
    let read = c.in_ok-read_sound_page.ensures in
    let said : StopsFor P why.NoMemory c.args.device.now c.read_sound_page.new.device =
    (λ h. (c.args.layout.now, subst (IsSuperblock c.args.layout.now) (c.requires.first (i.device.honest (read.device.honest h))) c.requires.superblock), read.cause ∙ i.faults) in
    search (rules, said)

pub returns-in_err-note_ahead-clause-device : goal.returns-in_err-note_ahead-clause-device
returns-in_err-note_ahead-clause-device g c =
    only_read_on g.P.PageDevice c.args.device.now c.loop-number.device c.read_sound_page.new.device c.loop-number.invariant.device c.in_ok-read_sound_page.ensures.device

-- nothing was told of it before
pub note_ahead-requires : goal.note_ahead-requires
note_ahead-requires g c = c.loop-number.invariant.numbers.none c.loop-number.number (omega arith)

-- all pages are read
pub returns-clause-ok : goal.returns-clause-ok
returns-clause-ok g c =
    let i = c.loop-number.invariant in
    let all : c.loop-number.number ≡ page_count c.args.layout.now = (let low = c.loop-number-test.false in let high = c.loop-number.auto.number-end in let n = c.pages-count.ensures.number in omega (arith, low, high, n)) in
    record {
      superblock = subst (IsSuperblock c.args.layout.now) (sym i.superblock) c.requires.superblock;
      count = i.read.count ∙ all;
      sound = λ p low lt. i.read.sound p low (omega (arith, lt, all));
    }

pub returns-clause-changed : goal.returns-clause-changed
returns-clause-changed g c =
    let all : c.loop-number.number ≡ page_count c.args.layout.now = (let low = c.loop-number-test.false in let high = c.loop-number.auto.number-end in let n = c.pages-count.ensures.number in omega (arith, low, high, n)) in
    c.loop-number.invariant.unchanged ∙ ap (λ (n : ℕ). replicate n false) all

pub returns-clause-free : goal.returns-clause-free
returns-clause-free g c =
    let z = c.args.layout.now in
    let all : c.loop-number.number ≡ page_count c.args.layout.now = (let low = c.loop-number-test.false in let high = c.loop-number.auto.number-end in let n = c.pages-count.ensures.number in omega (arith, low, high, n)) in
    index_whole (free_cells z) z (cells_stand z) _ _ c.loop-number.number all c.loop-number.invariant.free

pub returns-clause-closed : goal.returns-clause-closed
returns-clause-closed g c =
    let z = c.args.layout.now in
    let all : c.loop-number.number ≡ page_count c.args.layout.now = (let low = c.loop-number-test.false in let high = c.loop-number.auto.number-end in let n = c.pages-count.ensures.number in omega (arith, low, high, n)) in
    index_whole (closed_groups z) z (groups_stand z) _ _ c.loop-number.number all c.loop-number.invariant.closed

pub returns-clause-tied : goal.returns-clause-tied
returns-clause-tied g c =
    let i = c.loop-number.invariant in tied_first c.args.most c.loop-number.number _ _ _ _ _ i.read.count i.unchanged i.first

pub returns-clause-stand : goal.returns-clause-stand
returns-clause-stand g c = λ enough.
    let i = c.loop-number.invariant in
    let all : c.loop-number.number ≡ page_count c.args.layout.now = (let low = c.loop-number-test.false in let high = c.loop-number.auto.number-end in let n = c.pages-count.ensures.number in omega (arith, low, high, n)) in
    all_stand c.args.most c.loop-number.number _ _ _ _ _ i.read.count i.unchanged i.first (omega (arith, all, enough))

pub returns-clause-first : goal.returns-clause-first
returns-clause-first g c =
    let i = c.loop-number.invariant in
    first_is_fixed c.args.most c.loop-number.number _ _ _ _ _ i.read.count i.unchanged i.first (omega (arith, c.loop-number.auto.number)) c.requires.some

pub returns-clause-loose : goal.returns-clause-loose
returns-clause-loose g c =
    let i = c.loop-number.invariant in
    none_fixed c.args.most c.loop-number.number _ _ _ _ _ i.read.count i.unchanged i.first

pub returns-clause-numbers : goal.returns-clause-numbers
returns-clause-numbers g c =
    let z = c.args.layout.now in
    let all : c.loop-number.number ≡ page_count z = (let low = c.loop-number-test.false in let high = c.loop-number.auto.number-end in let n = c.pages-count.ensures.number in omega (arith, low, high, n)) in
    (subst (λ (n : ℕ). AreNumberedTo z (images_of c.loop-number.entries.items) n c.loop-number.ahead.items) all c.loop-number.invariant.numbers).same

pub loop-number-init : goal.loop-number-init
loop-number-init g c =
    let a = c.in_ok-add_page.ensures in
    let first = first_more c.args.most 0 [] c.args.superblock [] [] [] refl (none_first c.args.most) (images_of c.add_page.new.entries.items) (places_of c.add_page.new.entries.items) (frames_of c.add_page.new.frames.items) (pages_of c.add_page.new.frames.items)
    (a.images ∙ ap (λ (l : List Entry). images_of l ++ c.args.superblock ∷ []) c.in-Ok.ensures.items)
    (a.places ∙ ap (λ (l : List Entry). places_of l ++ first_place c.args.most 0 ∷ []) c.in-Ok.ensures.items)
    (a.frames ∙ ap (λ (l : List Frame). frames_of l ++ first_frame c.args.most 0) c.in-Ok-with_capacity.ensures.items)
    (a.pages ∙ ap (λ (l : List Frame). pages_of l ++ first_page c.args.most 0 c.args.superblock) c.in-Ok-with_capacity.ensures.items) in
    record {
      read = search rules;
      superblock = search rules;
      seen = search rules;
      unchanged = search rules;
      first = first;
      numbers = record { same = λ p low lt. absurd (omega (arith, low, lt)); none = search rules };
      free = search rules;
      closed = search rules;
      faults = refl;
      device = search rules;
    }

pub returns-clause-every : goal.returns-clause-every
returns-clause-every g c =
    let all : c.loop-number.number ≡ page_count c.args.layout.now = (let low = c.loop-number-test.false in let high = c.loop-number.auto.number-end in let n = c.pages-count.ensures.number in omega (arith, low, high, n)) in
    c.loop-number.invariant.first.frames_are ∙ ap (λ (n : ℕ). min n c.args.most) all
