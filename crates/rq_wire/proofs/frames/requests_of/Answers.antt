use Rattle.std.proofs.Common.{◌≡◌, ◌+◌, List, ◌++◌, ◌∷◌, [], drop, sym, subst, arith, rules}
use Rattle.std.proofs.lemmas.List.{drop-drop, length-drop}
use Rattle.rq_wire.specs.declared.request.Request.{Request}
use Rattle.rq_wire.specs.declared.look.Prefix.TheVariants.{Frame}
use Rattle.rq_wire.specs.Looks.{looks}
use Rattle.rq_wire.specs.Stream.{Begins}
use Rattle.rq_wire.proofs.Fronts.{frame_fits, begins_one}
use Rattle.rq_wire.proofs.frames.requests_of.Goals as goal

pub overflow_add-taken : goal.overflow_add-taken
overflow_add-taken c =
    let rest = drop c.loop-requests.taken c.args.bytes.now in
    let e : looks rest ≡ Frame c.in-Frame.request c.in-Frame.size = search rules in
    let fits = frame_fits rest c.in-Frame.request c.in-Frame.size e in
    let long = length-drop c.loop-requests.taken c.args.bytes.now in
    let most = c.type_inv.bytes in
    omega (arith, fits.1, long, most, c.loop-requests.invariant.within)

pub loop-requests-preserved : goal.loop-requests-preserved
loop-requests-preserved c =
    let bytes = c.args.bytes.now in
    let rest = drop c.loop-requests.taken bytes in
    let e : looks rest ≡ Frame c.in-Frame.request c.in-Frame.size = search rules in
    let fits = frame_fits rest c.in-Frame.request c.in-Frame.size e in
    let long = length-drop c.loop-requests.taken bytes in
    let on = begins_one c.loop-requests.requests.items c.in-Frame.request c.in-Frame.size bytes rest
    c.loop-requests.invariant.begun e in
    record {
      begun = subst (λ (rs : List Request). Begins rs bytes (drop (c.loop-requests.taken + c.in-Frame.size) bytes))
          (sym c.in_ok-push-in-Frame.ensures.items) (subst (Begins (c.loop-requests.requests.items ++
          c.in-Frame.request ∷ []) bytes) (drop-drop c.in-Frame.size c.loop-requests.taken bytes) on);
      within = omega (arith, fits.1, long, c.loop-requests.invariant.within);
    }

pub loop-requests-smaller : goal.loop-requests-smaller
loop-requests-smaller c =
    let bytes = c.args.bytes.now in
    let rest = drop c.loop-requests.taken bytes in
    let e : looks rest ≡ Frame c.in-Frame.request c.in-Frame.size = search rules in
    let fits = frame_fits rest c.in-Frame.request c.in-Frame.size e in
    let long = length-drop c.loop-requests.taken bytes in
    omega (arith, fits.0, fits.1, long, c.loop-requests.invariant.within)
