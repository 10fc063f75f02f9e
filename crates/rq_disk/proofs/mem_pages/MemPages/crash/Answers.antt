use Rattle.std.proofs.Common.{◌≡◌, ◌<◌, ◌∙◌, ◌++◌, [], ℕ, List, length, take, drop, get_or, ap, sym, subst, ⊎_elim, arith}
use Rattle.std.proofs.lemmas.List.{append-nil, drop_all, take_all}
use Rattle.rq_disk.specs.Device.{Only}
use Rattle.rq_disk.specs.Memory.{pages_after, reads, MayBe, crashed_page}
use Rattle.rq_disk.specs.Choice.{place_of}
use Rattle.rq_disk.specs.declared.mem_pages.PageCall.{PageCall}
use Rattle.rq_disk.proofs.Replays.{crash_may}
use Rattle.rq_disk.proofs.mem_pages.MemPages.crash.Goals as goal

-- a list that is written over by one as long
written_over : (n : ℕ) (old new : List (List ℕ)) → length new ≡ length old → n ≡ length old → take n (new ++ drop (length new) old) ≡ new
written_over n old new same long =
    ap (λ (rest : List (List ℕ)). take n (new ++ rest)) (drop_all (length new) old (omega (arith, same))) ∙ ap (take n) (append-nil new) ∙ take_all n new (omega (arith, same, long))

pub returns-clause-pages : goal.returns-clause-pages
returns-clause-pages c p lt =
    let m = c.args.self in
    let place = place_of c.args.choice p in
    let left = c.outlive.new.images in
    let long : length left ≡ length m.first.items = c.outlive.auto.images ∙ ap length c.deref_mut.ensures.value in
    ap (λ (calls : List PageCall). reads (pages_after (take m.first.len (left ++ drop (length left) m.first.items)) calls) p) c.new.ensures.items
    ∙ ap (λ (l : List (List ℕ)). get_or l p []) (written_over m.first.len m.first.items left long m.first.ok.0)
    ∙ c.outlive.ensures p (subst (λ (l : List (List ℕ)). p < length l) (sym c.deref_mut.ensures.value) lt)
    ∙ ap (λ (l : List (List ℕ)). crashed_page place (pages_after l c.deref.result.now) p) c.deref_mut.ensures.value
    ∙ ap (λ (calls : List PageCall). crashed_page place (pages_after m.first.items calls) p) c.deref.ensures.value

pub returns-clause-may_be : goal.returns-clause-may_be
returns-clause-may_be c p =
    let m = c.args.self in
    let s = pages_after m.first.items m.calls.items in
    let left = take m.first.len (c.outlive.new.images ++ drop (length c.outlive.new.images) m.first.items) in
    let none : (q : ℕ) → reads (pages_after left c.new.result.items) q ≡ get_or left q [] = λ q. ap (λ (calls : List PageCall). reads (pages_after left calls) q) c.new.ensures.items in
    let same : length c.outlive.new.images ≡ length m.first.items = c.outlive.auto.images ∙ ap length c.deref_mut.ensures.value in
    let long : length left ≡ length m.first.items = ap length (written_over m.first.len m.first.items c.outlive.new.images same m.first.ok.0) ∙ same in
    subst (MayBe s p) (sym (none p))
    (crash_may m.first.items left m.newest.items s (place_of c.args.choice) long m.count m.cached (λ q lt. sym (none q) ∙ returns-clause-pages c q lt) p)

-- what was only begun with leaves nothing else
only_fresh : (images : List (List ℕ)) (p : ℕ) → Only (reads (pages_after images []) p) (MayBe (pages_after images []) p)
only_fresh images p image may = ⊎_elim (λ e. e) (λ w. absurd w) may

pub returns-clause-synced : goal.returns-clause-synced
returns-clause-synced c p =
    let left = take c.args.self.first.len (c.outlive.new.images ++ drop (length c.outlive.new.images) c.args.self.first.items) in
    subst (λ (calls : List PageCall). Only (reads (pages_after left calls) p) (MayBe (pages_after left calls) p)) (sym c.new.ensures.items) (only_fresh left p)
