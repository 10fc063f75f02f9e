use Rattle.std.proofs.Common.{rules, ◌≡◌, ◌+◌, ◌-◌, ◌≤◌, ◌++◌, length, take, drop, ap, refl, sym, ◌∙◌, arith}
use Rattle.std.proofs.lemmas.List.{length-drop}
use Rattle.rq_log.specs.Reading.{left_of}
use Rattle.rq_log.proofs.Streams.{filled_window, has_most, left_same, pasted}
use Rattle.rq_log.proofs.stream.Stream.fill.Goals as goal

pub returns-clause-most : goal.returns-clause-most
returns-clause-most g c =
    let l = g.L.LogDevice in
    let s = c.self.inside in
    let e = s.end - s.start in
    let n = c.in_ok-count.count in
    let w = c.read_behind.new.window in
    let window : length w ≡ length c.deref_mut.result.now = c.read_behind.ensures.length in
    let long : length w ≡ length c.copy_within.new.self.items = window ∙ ap length c.deref_mut.ensures.value in
    let len : c.copy_within.new.self.len ≡ length c.copy_within.new.self.items = search rules in
    let was : 546 ≤ c.copy_within.new.self.len = search (rules, c.copy_within.ensures.len, c.self.invariant.wide) in
    let wide : 546 ≤ length w = omega (arith, was, len, long) in
    let items : take c.copy_within.new.self.len (w ++ drop (length w) c.copy_within.new.self.items) ≡ w = filled_window c.copy_within.new.self.len w (drop (length w) c.copy_within.new.self.items) (len ∙ sym long) in
    let within = c.in_ok-count.ensures.within in
    has_most w (l.seen s.device) (e + n - 0) s.at e n (ap (take (e + n - 0)) items) (omega arith) wide (omega (arith, within, window))
    (λ h. let r = c.in_ok-count.ensures.count h in omega (arith, r, window)) refl c.in_ok-count.ensures.read.same

pub returns-clause-left : goal.returns-clause-left
returns-clause-left g c = λ h.
    let l = g.L.LogDevice in
    let s = c.self.inside in
    let e = s.end - s.start in
    let n = c.in_ok-count.count in
    let order = c.self.invariant.order in
    let within = c.self.invariant.within in
    let size = length-drop s.start s.window.items in
    let moved : take e c.deref_mut.result.now ≡ take e (drop s.start s.window.items) =
    ap (take e) (c.deref_mut.ensures.value ∙ c.copy_within.ensures.items) ∙ pasted s.window.items (drop s.start s.window.items) e (omega (arith, size, order, within)) in
    let count : e + n - 0 ≡ e + n = omega arith in
    let long : length c.read_behind.new.window ≡ length c.copy_within.new.self.items = c.read_behind.ensures.length ∙ ap length c.deref_mut.ensures.value in
    let len : c.copy_within.new.self.len ≡ length c.copy_within.new.self.items = search rules in
    let items : take c.copy_within.new.self.len (c.read_behind.new.window ++ drop (length c.read_behind.new.window) c.copy_within.new.self.items) ≡ c.read_behind.new.window = filled_window c.copy_within.new.self.len c.read_behind.new.window (drop (length c.read_behind.new.window) c.copy_within.new.self.items) (len ∙ sym long) in
    left_same (take e (drop s.start s.window.items)) (l.seen s.device) s.at n
    (ap (take (e + n - 0)) items ∙ ap (λ k. take k c.read_behind.new.window) count ∙ c.in_ok-count.ensures.bytes h ∙ ap (λ u. u ++ take n (drop s.at (l.seen s.device))) moved) refl c.in_ok-count.ensures.read.same
    ∙ ap (λ v. left_of l v) c.self.view_is
