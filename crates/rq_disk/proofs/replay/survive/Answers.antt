use Rattle.std.proofs.Common.{◌∙◌, ◌+◌, sym, ap, subst, List, ℕ, take, ◌∷◌}
use Rattle.std.specs.Prelude.{slice_set}
use Rattle.rq_disk.specs.Choice.{place_of}
use Rattle.rq_disk.specs.Replay.{page_writes}
use Rattle.rq_disk.specs.declared.choice.PageChoice.{PageChoice}
use Rattle.rq_disk.specs.declared.mem_pages.PageCall.TheVariants.{Write, Sync}
use Rattle.rq_disk.proofs.Replays.{Survives, survive_taken, survive_left, writes-step}
use Rattle.rq_disk.proofs.replay.survive.Goals as goal
use Rattle.rq_disk.proofs.replay.survive.Goals.{in-Write+then-takes, in-Write+else-takes, in_default}

pub loop-call-preserved : goal.loop-call-preserved
loop-call-preserved c =
    let l = c.loop-call in
    let calls = c.args.calls.now in
    let lt = c.loop-call-test.true in
    let item = c.call-item in
    let base = c.args.pages.now in
    let first = place_of c.args.choice in
    let ws = page_writes (take l.call-index calls) in
    let all = page_writes (take (l.call-index + 1) calls) in
    let so_far : Survives l.pages base ws (place_of l.choice) first = record { images_are = l.invariant.images; places_are = l.invariant.places } in
    let later = place_of c.match-call.choice in
    let done : Survives c.match-call.pages base all later first = elim c.match-call.branch [
      | in-Write+then-takes w ↦
          let here = w.in-Write in
          let s = subst (λ (o : PageChoice). Survives c.match-call.pages base ((here.page, here.image.value) ∷ ws) (place_of o) first) (sym w.choice-is)
          (survive_taken l.pages base ws (place_of l.choice) first so_far here.page here.image.value (place_of w.takes.new.self) c.match-call.pages
          (w.pages-is ∙ w.put.ensures ∙ ap (slice_set l.pages here.page) w.deref.ensures) (sym w.if-takes.true ∙ w.takes.ensures.takes) w.takes.ensures.left) in
          subst (λ (xs : List (ℕ × List ℕ)). Survives c.match-call.pages base xs later first) (sym (writes-step calls l.call-index item.result (Write here.page here.image) lt (sym item.is ∙ here.is))) s
      | in-Write+else-takes w ↦
          let here = w.in-Write in
          let s = subst (λ (o : PageChoice). Survives c.match-call.pages base ((here.page, here.image.value) ∷ ws) (place_of o) first) (sym w.choice-is)
          (survive_left l.pages base ws (place_of l.choice) first so_far here.page here.image.value (place_of w.takes.new.self) c.match-call.pages w.pages-is (sym w.if-takes.false ∙ w.takes.ensures.takes) w.takes.ensures.left) in
          subst (λ (xs : List (ℕ × List ℕ)). Survives c.match-call.pages base xs later first) (sym (writes-step calls l.call-index item.result (Write here.page here.image) lt (sym item.is ∙ here.is))) s
      | in_default w ↦
          let s = subst (λ (o : PageChoice). Survives c.match-call.pages base ws (place_of o) first) (sym w.choice-is)
          (subst (λ (images : List (List ℕ)). Survives images base ws (place_of l.choice) first) (sym w.pages-is) so_far) in
          subst (λ (xs : List (ℕ × List ℕ)). Survives c.match-call.pages base xs later first) (sym (writes-step calls l.call-index item.result Sync lt (sym item.is ∙ w.in_default.is))) s
    ] in
    record { images = done.images_are; places = done.places_are }
