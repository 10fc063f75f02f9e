use Rattle.std.proofs.Common.{◌+◌, [], get_or, length, take, sym, ◌∙◌, ap, subst, arith}
use Rattle.std.proofs.lemmas.List.{length_push, take_all}
use Rattle.rq_core.specs.Chosen.{IsAsChosen, LedAsChosen, course_in, entered}
use Rattle.rq_core.specs.Runs.{Happened}
use Rattle.rq_core.specs.World.World.{Is_shut}
use Rattle.rq_core.specs.Views.{answer_in, course, happens, world_of}
use Rattle.rq_core.proofs.Choosing.{course_is, entered_pushed, led_of}
use Rattle.rq_core.proofs.Courses.{told_so_far}
use Rattle.rq_core.proofs.world.World.run.Goals as goal

pub loop-happening-init : goal.loop-happening-init
loop-happening-init g c = record {
  each = ap length c.in_ok-entries.ensures.items;
  led = subst (λ es. LedAsChosen c.args.self (entered [] [] es) (Is_shut c.self.inside.pages c.self.inside.log)) (sym c.in_ok-entries.ensures.items) (subst (λ first. LedAsChosen first [] (Is_shut c.self.inside.pages c.self.inside.log)) c.self.view_is (c.self.invariant.range, c.self.invariant.left));
}

pub loop-happening-preserved : goal.loop-happening-preserved
loop-happening-preserved g c =
    let i = c.loop-happening.happening-index in
    let count = c.loop-happening.invariant.each in
    let within = c.loop-happening-test.true in
    let next = c.in_ok-store.ensures in
    let entry = next.0 in
    let items = next.1 in
    let xs = c.args.happenings.now in
    let es = c.loop-happening.entries.items in
    let met = world_of c.loop-happening.store in
    let left = world_of c.in_ok-store.store in
    record {
      each = ap length items ∙ length_push es entry ∙ ap (λ n. n + 1) count;
      led = subst (λ k. LedAsChosen c.args.self k left) (sym (entered_pushed xs es c.happen_next.new.entries.items i c.happening-item.result entry within count items)) (
        met,
        c.loop-happening.invariant.led,
        subst (λ h. Happened (course_in (entered [] (take i xs) es)) (happens h) met (answer_in entry) left) c.happening-item.is
            (subst (λ k. Happened k (happens c.happening-item.result) met (answer_in entry) left) (sym (course_is (take i xs) es))
            (next.2 (course (take i xs) es) (told_so_far xs es i (omega (arith, within)) count))),
        subst (λ first. IsAsChosen first.frames (get_or xs i c.happening-item.result) met (answer_in entry) left) c.self.view_is
            (subst (λ h. IsAsChosen c.self.inside.frames.count h met (answer_in entry) left) c.happening-item.is next.3),
      );
    }

pub returns-clause-chosen : goal.returns-clause-chosen
returns-clause-chosen g c =
    let xs = c.args.happenings.now in
    let end = c.loop-happening-test.false in
    record {
      end = world_of c.loop-happening.store;
      led = subst (λ l. LedAsChosen c.args.self (entered [] l c.loop-happening.entries.items) (world_of c.loop-happening.store)) (take_all c.loop-happening.happening-index xs end) c.loop-happening.invariant.led;
      given = c.given_up-pages.ensures;
    }

pub returns-clause-run : goal.returns-clause-run
returns-clause-run g c =
    let xs = c.args.happenings.now in
    let end = c.loop-happening-test.false in
    record {
      end = world_of c.loop-happening.store;
      led = led_of c.args.self xs c.loop-happening.entries.items (world_of c.loop-happening.store)
          (subst (λ l. LedAsChosen c.args.self (entered [] l c.loop-happening.entries.items) (world_of c.loop-happening.store)) (take_all c.loop-happening.happening-index xs end) c.loop-happening.invariant.led);
      given = c.given_up-pages.ensures;
    }

pub returns-clause-headline : goal.returns-clause-headline
returns-clause-headline g c =
    let xs = c.args.happenings.now in
    let end = c.loop-happening-test.false in
    c.a_run_is_told.ensures.headline c.args.self.sizes (course xs c.loop-happening.entries.items) c.given_up-pages.result.0 c.given_up-pages.result.1
    (record {
      end = world_of c.loop-happening.store;
      led = led_of c.args.self xs c.loop-happening.entries.items (world_of c.loop-happening.store)
          (subst (λ l. LedAsChosen c.args.self (entered [] l c.loop-happening.entries.items) (world_of c.loop-happening.store)) (take_all c.loop-happening.happening-index xs end) c.loop-happening.invariant.led);
      given = c.given_up-pages.ensures;
    })
