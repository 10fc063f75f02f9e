use Rattle.std.proofs.Common.{◌∙◌, sym, ap}
use Rattle.rq_disk.specs.Device.{Images}
use Rattle.rq_disk.specs.declared.mem_pages.PageCall.TheVariants.{Sync}
use Rattle.rq_disk.proofs.KeptPages.{synced_to, same_to, fewer_to, pages_elapses, pages_stay}
use Rattle.rq_disk.proofs.mem_pages.MemPagesPageDevice.sync.Goals as goal

pub invariant_of-self-in-Ok : goal.invariant_of-self-in-Ok
invariant_of-self-in-Ok c =
    let m = c.args.self.now in
    record {
      count = m.count;
      cached = λ p. m.cached p ∙ sym (ap (λ (f : Images). f p) (same_to m.first.items m.calls.items c.add_sync.new.calls.items c.in-Ok.ensures.ok));
    }

pub returns-in-Ok-clause-durable : goal.returns-in-Ok-clause-durable
returns-in-Ok-clause-durable c = synced_to c.args.self.now.first.items c.args.self.now.calls.items c.add_sync.new.calls.items c.in-Ok.ensures.ok

pub returns-in-Ok-clause-crash : goal.returns-in-Ok-clause-crash
returns-in-Ok-clause-crash c = fewer_to c.args.self.now.first.items c.args.self.now.calls.items c.add_sync.new.calls.items c.in-Ok.ensures.ok

pub returns-in-Ok-clause-time : goal.returns-in-Ok-clause-time
returns-in-Ok-clause-time c = pages_elapses c.args.self.now.first.items c.args.self.now.calls.items c.add_sync.new.calls.items Sync c.in-Ok.ensures.ok

pub returns-in-Err-clause-time : goal.returns-in-Err-clause-time
returns-in-Err-clause-time c = pages_stay c.args.self.now.first.items c.args.self.now.calls.items c.add_sync.new.calls.items c.in-Err.ensures.err
