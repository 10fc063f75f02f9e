-- A run whose crashes leave what was chosen is a run.
use Rattle.std.proofs.Common.{◌≡◌, ℕ, suc, ◌+◌, ◌<◌, List, [], ◌∷◌, ◌++◌, length, take, map, refl, sym, ◌∙◌, ap, subst, arith, get_or}
use Rattle.std.proofs.Math.Seq.{take-suc}
use Rattle.std.proofs.lemmas.List.{length-take-le}
use Rattle.rq_disk.specs.declared.mem_log.MemLog.{MemLog}
use Rattle.rq_disk.specs.declared.mem_pages.MemPages.{MemPages}
use Rattle.rq_core.specs.declared.happening.Entry.{Entry}
use Rattle.rq_core.specs.declared.happening.Happening.{Happening as Happens}
use Rattle.rq_core.specs.Happenings.{Answer, paired}
use Rattle.rq_core.specs.Happenings.Answer.{Crashed}
use Rattle.rq_core.specs.Chosen.{DoneSoFar, IfCrashed, IsChosen, IsRefusedIn, Outlives, LedAsChosen, course_in, entered}
use Rattle.rq_core.specs.Runs.{Fresh, IsLeftBy, Led, MemWorld}
use Rattle.rq_core.specs.World.World.{Is_shut}
use Rattle.rq_core.specs.Views.{answer_in, course, happens}

pub if_crashed : (a : Answer) (said : Type 0) → said → IfCrashed a said
if_crashed (Crashed n) said h = h
if_crashed _ said h = tt

-- what answers that it crashed does not answer that it was refused
pub crashed_not_refused : (frames : ℕ) (pages mid_pages : MemPages) (log mid_log : MemLog) (a : Answer) (new : MemWorld) → IsLeftBy mid_pages mid_log a new → IsRefusedIn frames pages log a new
crashed_not_refused frames pages mid_pages log mid_log (Crashed n) (Is_shut new_pages new_log) left = tt
crashed_not_refused frames pages mid_pages log mid_log _ _ left = absurd left

-- of the devices of a store that was given up
pub left_by : (o : Outlives) (pages old_pages : MemPages) (log old_log : MemLog) (new : MemWorld) → pages ≡ old_pages → log ≡ old_log → IsChosen o pages log new → IsChosen o old_pages old_log new
left_by o pages old_pages log old_log new same same_log left = subst (λ d. IsChosen o d old_log new) same (subst (λ d. IsChosen o pages d new) same_log left)

-- the course is that of the lists
entered_course : (done : DoneSoFar) (xs : List Happens) (es : List Entry) → course_in (entered done xs es) ≡ paired (course_in done) (map happens xs) (map answer_in es)
entered_course done (x ∷ xs) (e ∷ es) = entered_course ((x, e) ∷ done) xs es
entered_course done [] [] = refl
entered_course done [] (e ∷ es) = refl
entered_course done (x ∷ xs) [] = refl

led_in : (first : Fresh) (done : DoneSoFar) (world : MemWorld) → LedAsChosen first done world → Led first.sizes (course_in done) world
led_in first [] world led = led
led_in first (a ∷ done) world led = (led.0, led_in first done led.0 led.1, led.2)

pub led_of : (first : Fresh) (xs : List Happens) (es : List Entry) (world : MemWorld) → LedAsChosen first (entered [] xs es) world → Led first.sizes (course xs es) world
led_of first xs es world led = subst (λ c. Led first.sizes c world) (entered_course [] xs es) (led_in first (entered [] xs es) world led)

pub course_is : (xs : List Happens) (es : List Entry) → course_in (entered [] xs es) ≡ course xs es
course_is xs es = entered_course [] xs es

-- one happening more, and its entry
entered_more : (done : DoneSoFar) (xs : List Happens) (es : List Entry) (x : Happens) (e : Entry) → length xs ≡ length es → entered done (xs ++ x ∷ []) (es ++ e ∷ []) ≡ (x, e) ∷ entered done xs es
entered_more done [] [] x e same = refl
entered_more done (y ∷ xs) (d ∷ es) x e same = entered_more ((y, d) ∷ done) xs es x e (omega (arith, same))
entered_more done [] (d ∷ es) x e same = absurd (omega (arith, same))
entered_more done (y ∷ xs) [] x e same = absurd (omega (arith, same))

pub entered_pushed : (xs : List Happens) (es new : List Entry) (i : ℕ) (d : Happens) (e : Entry) → i < length xs → length es ≡ i → new ≡ es ++ e ∷ [] → entered [] (take (i + 1) xs) new ≡ (get_or xs i d, e) ∷ entered [] (take i xs) es
entered_pushed xs es new i d e within count is =
    let s : i + 1 ≡ suc i = omega arith in
    let t : take (i + 1) xs ≡ take i xs ++ (get_or xs i d ∷ []) = ap (λ n. take n xs) s ∙ take-suc xs i d within in
    let n : length (take i xs) ≡ length es = length-take-le i xs (omega (arith, within)) ∙ sym count in
    ap (λ l. entered [] l new) t ∙ ap (λ l. entered [] (take i xs ++ (get_or xs i d ∷ [])) l) is ∙ entered_more [] (take i xs) es (get_or xs i d) e n
