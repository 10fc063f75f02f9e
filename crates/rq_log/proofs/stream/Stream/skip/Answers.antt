use Rattle.std.proofs.Common.{◌+◌, ◌-◌, ◌≤◌, length, take, drop, ℕ, List, ap, sym, subst, ◌∙◌, arith}
use Rattle.std.proofs.lemmas.List.{length-take}
use Rattle.rq_log.specs.Reading.{Streamed}
use Rattle.rq_log.proofs.Streams.{skipped}
use Rattle.rq_log.proofs.stream.Stream.skip.Goals as goal

pub returns : goal.returns
returns g c =
    let s = c.self.inside in
    let room : c.args.count ≤ length (take (s.end - s.start) (drop s.start s.window.items)) = subst (λ (v : Streamed g.row.L.Denot). c.args.count ≤ length v.unread) (sym c.self.view_is) c.requires in
    let size = length-take (s.end - s.start) (drop s.start s.window.items) in
    let o = c.self.invariant.order in
    let le : s.start + c.args.count ≤ s.end = omega (arith, room, size, o) in
    ap (λ (u : List ℕ). record { unread = u; at = s.at; ended = s.ended; device = s.device }) (skipped s.window.items s.start s.end c.args.count le)
    ∙ ap (λ (v : Streamed g.row.L.Denot). record v { unread = drop c.args.count v.unread }) c.self.view_is
