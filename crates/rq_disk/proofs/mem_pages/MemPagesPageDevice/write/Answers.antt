use Rattle.std.proofs.Common.{◌≡◌, ◌<◌, ◌∙◌, sym, length, arith, rules}
use Rattle.std.proofs.lemmas.List.{length-set}
use Rattle.rq_disk.specs.declared.mem_pages.PageCall.TheVariants.{Write}
use Rattle.rq_disk.proofs.KeptPages.{written_to, write_reads, write_cached, pages_elapses, pages_stay}
use Rattle.rq_disk.specs.Memory.{if_no}
use Rattle.rq_disk.proofs.mem_pages.MemPagesPageDevice.write.Goals as goal

pub invariant_of-self-then-cuts_off : goal.invariant_of-self-then-cuts_off
invariant_of-self-then-cuts_off c =
    let m = c.args.self.now in
    let done = c.in-Ok.ensures.ok in
    let written : c.copy_from_slice.new.self ≡ c.args.image.now = search rules in
    let inside : c.args.page < length m.newest.items = omega (arith, m.newest.ok.0, c.len.ensures) in
    record {
      count = length-set m.newest.items c.args.page c.copy_from_slice.new.self ∙ m.count;
      cached = write_cached m.first.items m.calls.items c.add_write.new.calls.items m.newest.items c.args.page done.0 c.copy_from_slice.new.self (done.1 ∙ sym written) done.2 inside m.cached;
    }

pub returns-then-cuts_off-clause-crash : goal.returns-then-cuts_off-clause-crash
returns-then-cuts_off-clause-crash c =
    let done = c.in-Ok.ensures.ok in
    written_to c.args.self.now.first.items c.args.self.now.calls.items c.add_write.new.calls.items c.args.page done.0 c.args.image.now done.1 done.2

pub returns-then-cuts_off-clause-time : goal.returns-then-cuts_off-clause-time
returns-then-cuts_off-clause-time c =
    let done = c.in-Ok.ensures.ok in
    pages_elapses c.args.self.now.first.items c.args.self.now.calls.items c.add_write.new.calls.items (Write c.args.page done.0) done.2

pub invariant_of-self-else-cuts_off : goal.invariant_of-self-else-cuts_off
invariant_of-self-else-cuts_off c =
    let m = c.args.self.now in
    let done = c.in-Ok.ensures.ok in
    let written : c.copy_from_slice.new.self ≡ c.args.image.now = search rules in
    let inside : c.args.page < length m.newest.items = omega (arith, m.newest.ok.0, c.len.ensures) in
    record {
      count = length-set m.newest.items c.args.page c.copy_from_slice.new.self ∙ m.count;
      cached = write_cached m.first.items m.calls.items c.add_write.new.calls.items m.newest.items c.args.page done.0 c.copy_from_slice.new.self (done.1 ∙ sym written) done.2 inside m.cached;
    }

pub returns-else-cuts_off-clause-crash : goal.returns-else-cuts_off-clause-crash
returns-else-cuts_off-clause-crash c =
    let done = c.in-Ok.ensures.ok in
    written_to c.args.self.now.first.items c.args.self.now.calls.items c.add_write.new.calls.items c.args.page done.0 c.args.image.now done.1 done.2

pub returns-else-cuts_off-clause-time : goal.returns-else-cuts_off-clause-time
returns-else-cuts_off-clause-time c =
    let done = c.in-Ok.ensures.ok in
    pages_elapses c.args.self.now.first.items c.args.self.now.calls.items c.add_write.new.calls.items (Write c.args.page done.0) done.2

pub returns-in-Err-clause-time : goal.returns-in-Err-clause-time
returns-in-Err-clause-time c = pages_stay c.args.self.now.first.items c.args.self.now.calls.items c.add_write.new.calls.items c.in-Err.ensures.err

pub returns-then-cuts_off-clause-others : goal.returns-then-cuts_off-clause-others
returns-then-cuts_off-clause-others c =
    let m = c.args.self.now in
    let done = c.in-Ok.ensures.ok in
    λ p other. write_reads m.first.items m.calls.items c.add_write.new.calls.items c.args.page done.0 c.args.image.now done.1 done.2 p ∙ if_no p c.args.page c.args.image.now _ other

pub returns-else-cuts_off-clause-others : goal.returns-else-cuts_off-clause-others
returns-else-cuts_off-clause-others c =
    let m = c.args.self.now in
    let done = c.in-Ok.ensures.ok in
    λ p other. write_reads m.first.items m.calls.items c.add_write.new.calls.items c.args.page done.0 c.args.image.now done.1 done.2 p ∙ if_no p c.args.page c.args.image.now _ other
