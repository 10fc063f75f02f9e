use Rattle.std.proofs.Common.{◌∙◌, ◌-◌, [], ℕ, List, length, take, drop, get_or, ap, arith}
use Rattle.std.proofs.lemmas.List.{take_all, length-drop}
use Rattle.rq_disk.specs.Choice.{place_of}
use Rattle.rq_disk.specs.Memory.{image_after}
use Rattle.rq_disk.specs.Replay.{page_writes}
use Rattle.rq_disk.specs.declared.mem_pages.PageCall.{PageCall}
use Rattle.rq_disk.proofs.Replays.{crash_pages, length-replayed}
use Rattle.rq_disk.proofs.replay.outlive.Goals as goal

pub returns : goal.returns
returns c =
    let images = c.args.images.now in
    let calls = c.args.calls.now in
    let n = c.calls_synced-synced.result in
    let choice = c.args.choice in
    let rest = take_all (length calls - n) (drop n calls) (omega (arith, length-drop n calls)) in
    let long = ap length c.replay.ensures ∙ length-replayed images (take n calls) in
    crash_pages images calls n c.calls_synced-synced.ensures.fresh c.calls_synced-synced.ensures.writes c.survive.new.pages (place_of choice)
    (λ p lt. c.survive.ensures p (omega (arith, lt, long))
    ∙ ap (λ (later : List PageCall). image_after (page_writes later) (get_or c.replay.new.pages p []) p (place_of choice p)) rest
    ∙ ap (λ (base : List (List ℕ)). image_after (page_writes (drop n calls)) (get_or base p []) p (place_of choice p)) c.replay.ensures)
