-- The records of the worked run have spellings.
use Rattle.std.proofs.Common.{◌≡◌, ℕ, zero, suc, ◌+◌, ◌*◌, ◌<◌, ◌==◌, length-append, Bool, true, false, if◌then◌else◌, List, [], ◌∷◌, ◌++◌, ◌∙◌, ◌^◌, length, replicate, refl, sym, ap, arith}
use Rattle.std.specs.Prelude.{codes}
use Rattle.byteorder.specs.Endian.{big_bytes, big_number}
use Rattle.rq_bytes.specs.Number.{AreBytes, number}
use Rattle.rq_bytes.proofs.Strings.{AreBytes-number}
use Rattle.rq_model.specs.Deeds.{spelled_deed}
use Rattle.rq_page.specs.declared.directory.Directory.{Directory}
use Rattle.rq_page.specs.declared.directory.DirectorySlot.{DirectorySlot}
use Rattle.rq_page.specs.Cells.{cell_bytes, cell_front, free_bytes}
use Rattle.rq_page.specs.Directories.{directory_bytes, directory_front}
use Rattle.rq_page.specs.Formatted.{formatted_slot, superblock_bytes, superblock_front}
use Rattle.rq_page.specs.Pages.{header_bytes, header_front}
use Rattle.rq_page.proofs.CellBytes.{length-cell_bytes}
use Rattle.rq_page.proofs.DirectoryBytes.{length-directory_bytes}
use Rattle.rq_views.specs.WorkedItems.{cell, sends, t1}
use Rattle.rq_model.specs.declared.record.Record.{Record}
use Rattle.rq_record.specs.Spelling.{FitsTxn, IsImage, IsRecord, IsTxnInRange, spelling}
use Rattle.rq_record.proofs.Whole.{framed_whole, long_spelling, short_spelling}
use Rattle.rq_record.proofs.Readers.{AreBytes-append, AreBytes-zeros}
use Rattle.rq_log.specs.Spelled.{AreSpelled, EndsWith, spelled}
use Rattle.rq_log.proofs.Runs.{ends_all}
use Rattle.rq_store.specs.Steps.{op_end, page_op}
use Rattle.rq_cases.specs.Run.{log_1, log_5, no_record}
use Rattle.rq_store.specs.Fitting.{image_in}
use Rattle.rq_cases.specs.Sound.{IsImageOfPage}
use Rattle.rq_cases.specs.Store.{cells_0, count_sent, fill_cell, formatted_pages, groups_0, joined, page_image, part, sizes}
use Rattle.rq_cases.proofs.Images.{length-free, part_long}
use Rattle.rq_log.proofs.Parsing.{one_based}
use Rattle.rq_model.specs.Bases.{HasNoBase, standing}
use Rattle.rq_log.specs.Spelled.{AreAllSpelled}
use Rattle.rq_log.specs.Spelled.{EndsWithAll}
use Rattle.rq_log.specs.Spelled.{spelled_all}
use Rattle.rq_model.proofs.Bases.{all_stand}
use Rattle.rq_model.proofs.Bases.{plain_drop}
use Rattle.rq_log.proofs.Runs.{AreAllSpelled-drop}
use Rattle.std.specs.Prelude.{drop}
use Rattle.std.proofs.Common.{subst}
use Rattle.rq_cases.proofs.Pages.{cells_0_long, groups_0_long, first_long}

are_cons : (x : ℕ) (xs : List ℕ) → x < 256 → AreBytes xs → AreBytes (x ∷ xs)
are_cons x xs low h zero = low
are_cons x xs low h (suc i) = h i

are_big : (size n : ℕ) → AreBytes (big_bytes size n)
unfolding number
are_big size n = AreBytes-number size n

state_byte : (closed : Bool) → (if closed then 2 else 1) < 256
state_byte true = omega arith
state_byte false = omega arith

pub group_bytes : (x : DirectorySlot) → AreBytes (directory_bytes x)
unfolding directory_bytes directory_front
group_bytes x =
    let d : Directory = x.directory in
    let f : List ℕ = big_bytes 8 d.tail in
    let e : List ℕ = big_bytes 8 d.head ++ f in
    let c : List ℕ = big_bytes 8 d.last_tag ++ e in
    let b : List ℕ = big_bytes 8 d.received ++ c in
    let a : List ℕ = big_bytes 8 d.sent ++ b in
    let s : List ℕ = big_bytes 4 x.sender ++ a in
    AreBytes-append (directory_front x) (replicate 208 0)
    (are_cons (if d.closed then 2 else 1) (0 ∷ 0 ∷ 0 ∷ s) (state_byte d.closed)
    (are_cons 0 (0 ∷ 0 ∷ s) (omega arith) (are_cons 0 (0 ∷ s) (omega arith) (are_cons 0 s (omega arith)
    (AreBytes-append (big_bytes 4 x.sender) a (are_big 4 x.sender)
    (AreBytes-append (big_bytes 8 d.sent) b (are_big 8 d.sent)
    (AreBytes-append (big_bytes 8 d.received) c (are_big 8 d.received)
    (AreBytes-append (big_bytes 8 d.last_tag) e (are_big 8 d.last_tag)
    (AreBytes-append (big_bytes 8 d.head) f (are_big 8 d.head) (are_big 8 d.tail))))))))))
    (AreBytes-zeros 208)

pub filled_bytes : AreBytes (cell_bytes (cell 0))
unfolding cell_bytes cell_front
filled_bytes =
    let f : List ℕ = big_bytes 8 0 in
    let e : List ℕ = big_bytes 8 0 ++ f in
    let c : List ℕ = big_bytes 8 7 ++ e in
    let b : List ℕ = big_bytes 8 1 ++ c in
    let a : List ℕ = big_bytes 4 0 ++ b in
    let l : List ℕ = big_bytes 2 1 ++ a in
    AreBytes-append (cell_front (cell 0)) (104 ∷ replicate 215 0)
    (are_cons 1 (0 ∷ l) (omega arith) (are_cons 0 l (omega arith)
    (AreBytes-append (big_bytes 2 1) a (are_big 2 1)
    (AreBytes-append (big_bytes 4 0) b (are_big 4 0)
    (AreBytes-append (big_bytes 8 1) c (are_big 8 1)
    (AreBytes-append (big_bytes 8 7) e (are_big 8 7)
    (AreBytes-append (big_bytes 8 0) f (are_big 8 0) (are_big 8 0))))))))
    (are_cons 104 (replicate 215 0) (omega arith) (AreBytes-zeros 215))

pub empty_bytes : AreBytes free_bytes
unfolding free_bytes
empty_bytes = AreBytes-zeros 256

deed_bytes : AreBytes (spelled_deed (sends 0))
deed_bytes =
    let d : List ℕ = big_bytes 8 0 ++ 104 ∷ [] in
    let c : List ℕ = big_bytes 8 7 ++ d in
    let b : List ℕ = big_bytes 8 1 ++ c in
    let a : List ℕ = big_bytes 4 0 ++ b in
    are_cons 1 a (omega arith)
    (AreBytes-append (big_bytes 4 0) b (are_big 4 0)
    (AreBytes-append (big_bytes 8 1) c (are_big 8 1)
    (AreBytes-append (big_bytes 8 7) d (are_big 8 7)
    (AreBytes-append (big_bytes 8 0) (104 ∷ []) (are_big 8 0) (are_cons 104 [] (omega arith) (λ i. omega arith))))))

deed_long : length (spelled_deed (sends 0)) ≡ 30
deed_long = refl

in_range : IsTxnInRange t1
in_range = (omega arith, omega arith)

fits : FitsTxn t1
fits = (omega arith, omega arith)

group_image : (x : DirectorySlot) → IsImage (directory_bytes x)
group_image x = (length-directory_bytes x, group_bytes x)

cell_image : IsImage (cell_bytes (cell 0))
cell_image = (length-cell_bytes (cell 0) (omega arith), filled_bytes)

free_image : IsImage free_bytes
free_image = (length-free, empty_bytes)

pub fill_is : IsRecord (page_op t1 1 fill_cell)
fill_is = (
  (in_range, omega arith, (omega arith, omega arith)),
  (fits, omega arith, omega arith, omega arith, free_image, cell_image),
)

count_is : IsRecord (page_op t1 1 count_sent)
count_is = (
  (in_range, omega arith, (omega arith, omega arith)),
  (fits, omega arith, omega arith, omega arith, group_image _, group_image _),
)

end_is : IsRecord (op_end t1 1 (sends 0))
end_is = (
  (in_range, omega arith, omega arith, omega (arith, deed_long), omega (arith, deed_long)),
  (fits, omega arith, omega arith, omega (arith, deed_long), deed_bytes),
)

pub first_spelled : AreSpelled log_1
first_spelled = ((omega arith, omega arith), tt)

pub records_spelled : AreSpelled log_5
records_spelled = ((in_range, fits), (end_is, (count_is, (fill_is, first_spelled))))

-- the length field is too large for a record
long_number : (rest : List ℕ) → big_number 4 (no_record ++ rest) ≡ 2 ^ 24
long_number rest = refl

-- no Base stands in them
pub first_plain : HasNoBase log_1
first_plain = (refl, tt)

pub records_plain : HasNoBase log_5
records_plain = (refl, (refl, (refl, (refl, first_plain))))

-- what is left of them where the newest are cut off
pub drop_spelled : (n : ℕ) → AreSpelled (drop n log_5)
drop_spelled n = subst AreAllSpelled (sym (all_stand (drop n log_5) (plain_drop n log_5 records_plain))) (AreAllSpelled-drop n log_5 records_spelled)

-- what begins no record is no log
short_all : (log : List Record) → AreAllSpelled log → EndsWithAll log no_record → ⊥
short_all [] told ends =
    let b = ends.1 in
    let size = framed_whole b.0 b.2 in
    let short = short_spelling b.0 b.2 in
    let n : big_number 4 (spelling b.0) ≡ 2 ^ 24 = ap (big_number 4) (b.4 ∙ ap (λ l. l ++ b.1) (sym ends.2)) ∙ long_number b.1 in
    omega (arith, size, short, n)
short_all (r ∷ older) told ends =
    let n : 4 ≡ length (spelled_all (r ∷ older) ++ ends.0) = ap length ends.2 in
    let long = long_spelling r told.0 in
    let all = length-append (spelled_all older) (spelling r) in
    let both = length-append (spelled_all (r ∷ older)) ends.0 in
    omega (arith, n, long, all, both)

pub short_log : (log : List Record) → AreSpelled log → EndsWith log no_record → ⊥
short_log log told ends = short_all (standing log) told ends

-- the log that these bytes spell is the one that they tell
pub the_log : (a : List Record) → HasNoBase a → (b : List Record) (bytes : List ℕ) → AreSpelled a → AreSpelled b → bytes ≡ spelled a → EndsWith b bytes → a ≡ b
the_log a plain b bytes h k e ends = sym (one_based b a bytes plain k h ends (ends_all (standing a) bytes e))

-- what spells one log spells no other
pub spells_one : (a : List Record) → HasNoBase a → (b : List Record) → AreSpelled a → AreSpelled b → spelled a ≡ spelled b → a ≡ b
spells_one a plain b h k e = the_log a plain b (spelled a) h k refl (ends_all (standing b) (spelled a) e)

-- the formatted pages are pages of bytes
header_bytes_are : (lsn page kind : ℕ) → kind < 256 → AreBytes (header_bytes lsn page kind)
unfolding header_bytes header_front
header_bytes_are lsn page kind low =
    AreBytes-append (big_bytes 8 lsn ++ (big_bytes 4 page ++ kind ∷ [])) (replicate 243 0)
    (AreBytes-append (big_bytes 8 lsn) (big_bytes 4 page ++ kind ∷ []) (are_big 8 lsn)
    (AreBytes-append (big_bytes 4 page) (kind ∷ []) (are_big 4 page) (are_cons kind [] low (λ i. omega arith))))
    (AreBytes-zeros 243)

name_bytes : AreBytes (codes "RQMSTORE")
name_bytes =
    are_cons 82 (81 ∷ 77 ∷ 83 ∷ 84 ∷ 79 ∷ 82 ∷ 69 ∷ []) (omega arith)
    (are_cons 81 (77 ∷ 83 ∷ 84 ∷ 79 ∷ 82 ∷ 69 ∷ []) (omega arith)
    (are_cons 77 (83 ∷ 84 ∷ 79 ∷ 82 ∷ 69 ∷ []) (omega arith) (are_cons 83 (84 ∷ 79 ∷ 82 ∷ 69 ∷ []) (omega arith)
    (are_cons 84 (79 ∷ 82 ∷ 69 ∷ []) (omega arith) (are_cons 79 (82 ∷ 69 ∷ []) (omega arith)
    (are_cons 82 (69 ∷ []) (omega arith) (are_cons 69 [] (omega arith) (λ i. omega arith))))))))

superblock_bytes_are : AreBytes (superblock_bytes sizes)
unfolding superblock_bytes superblock_front
superblock_bytes_are =
    let d : List ℕ = big_bytes 4 0 in
    let c : List ℕ = big_bytes 4 1 ++ d in
    let b : List ℕ = big_bytes 4 1 ++ c in
    let a : List ℕ = big_bytes 4 1 ++ b in
    AreBytes-append (codes "RQMSTORE" ++ a) (replicate 232 0)
    (AreBytes-append (codes "RQMSTORE") a name_bytes
    (AreBytes-append (big_bytes 4 1) b (are_big 4 1)
    (AreBytes-append (big_bytes 4 1) c (are_big 4 1) (AreBytes-append (big_bytes 4 1) d (are_big 4 1) (are_big 4 0)))))
    (AreBytes-zeros 232)

either_bytes : (b : Bool) (x y : List ℕ) → AreBytes x → AreBytes y → AreBytes (if b then x else y)
either_bytes true x y h g = h
either_bytes false x y h g = g

module _ (parts : ℕ → List ℕ) (long : (j : ℕ) → length (parts j) ≡ 256) (bytes : (j : ℕ) → AreBytes (parts j)) where
  joined_long : (n k : ℕ) → length (joined parts k n) ≡ 256 * n
  joined_long zero k = refl
  joined_long (suc n) k =
      let a = length-append (parts k) (joined parts (k + 1) n) in
      let b = long k in
      let c = joined_long n (k + 1) in
      omega (arith, a, b, c)

  joined_bytes : (n k : ℕ) → AreBytes (joined parts k n)
  joined_bytes zero k = λ i. omega arith
  joined_bytes (suc n) k = AreBytes-append (parts k) (joined parts (k + 1) n) (bytes k) (joined_bytes n (k + 1))

part_bytes : (page kind : ℕ) (slots : ℕ → List ℕ) → kind < 256 → ((n : ℕ) → AreBytes (slots n)) → (j : ℕ) → AreBytes (part 0 page kind slots j)
part_bytes page kind slots low each zero = header_bytes_are 0 page kind low
part_bytes page kind slots low each (suc n) = each (suc n)

image_is : (page kind : ℕ) (slots : ℕ → List ℕ) → kind < 256 → ((n : ℕ) → length (slots n) ≡ 256) → ((n : ℕ) → AreBytes (slots n)) → IsImageOfPage (page_image 0 page kind slots)
image_is page kind slots low long each = (
  joined_long (part 0 page kind slots) (part_long 0 page kind slots long) (part_bytes page kind slots low each) 16 0,
  joined_bytes (part 0 page kind slots) (part_long 0 page kind slots long) (part_bytes page kind slots low each) 16 0,
)

pub are_images : (p : ℕ) → p < 3 → IsImageOfPage (image_in formatted_pages p)
are_images zero low = image_is 0 0 (formatted_slot sizes 0) (omega arith) first_long (λ n. either_bytes (n == 1) (superblock_bytes sizes) free_bytes superblock_bytes_are empty_bytes)
are_images (suc zero) low = image_is 1 1 groups_0 (omega arith) groups_0_long (λ n. group_bytes _)
are_images (suc (suc zero)) low = image_is 2 2 cells_0 (omega arith) cells_0_long (λ n. empty_bytes)
are_images (suc (suc (suc p))) low = absurd (omega (arith, low))
