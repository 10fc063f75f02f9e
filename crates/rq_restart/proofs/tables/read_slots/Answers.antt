use Rattle.std.proofs.Common.{◌≡◌, ◌+◌, ap, ◌∙◌, sym, subst, arith}
use Rattle.rq_page.specs.Sizes.{client_count, sender_count}
use Rattle.rq_planner.proofs.Readings.{knows_read}
use Rattle.rq_store.specs.Sends.{place_count}
use Rattle.rq_restart.specs.Tables.{AreSentTo, AreWaitingTo}
use Rattle.rq_restart.proofs.Counting.{are_told}
use Rattle.rq_restart.proofs.Tabled.{tabled_reads, tabled_stops}
use Rattle.rq_restart.proofs.tables.read_slots.Goals as goal

pub read_tables-requires-clause-waiting : goal.read_tables-requires-clause-waiting
read_tables-requires-clause-waiting g c = record {
  senders = c.in_ok-waiting.ensures.senders ∙ c.senders-senders.ensures.number ∙ ap sender_count c.layout.ensures.sizes;
  counted = record { told_so = λ i lt. absurd (omega (arith, lt)); rest = λ i le. c.in_ok-waiting.ensures.none i };
}

pub read_tables-requires-clause-sent : goal.read_tables-requires-clause-sent
read_tables-requires-clause-sent g c =
    let z = c.args.pages.now.sizes in
    let senders : c.senders-senders.result ≡ sender_count z = c.senders-senders.ensures.number ∙ ap sender_count c.layout.ensures.sizes in
    let clients : c.clients-clients.result ≡ client_count z = c.clients-clients.ensures.number ∙ ap client_count c.layout-2.ensures.sizes in
    let all : c.senders-senders.result + c.clients-clients.result ≡ place_count z = omega (arith, senders, clients) in
    let made = c.in_ok-sent.ensures in
    record {
      counts = made.places.0 ∙ all;
      tags = made.places.1 ∙ all;
      numbers = record { told_so = λ i lt. absurd (omega (arith, lt)); rest = λ i le. (made.none i).0 };
      last = record { told_so = λ i lt. absurd (omega (arith, lt)); rest = λ i le. (made.none i).1 };
    }

pub returns-in-Ok-clause-told : goal.returns-in-Ok-clause-told
returns-in-Ok-clause-told g c =
    let made = c.in-Ok.ensures in
    let z = c.args.pages.now.sizes in
    let y = c.read_tables.new.pages.sizes in
    let images = c.read_tables.new.pages.images in
    let same : y ≡ z = (c.read_tables.ensures.read.read.kept 0).sizes in
    let senders : c.senders-senders.result ≡ sender_count y = c.senders-senders.ensures.number ∙ ap sender_count (c.layout.ensures.sizes ∙ sym same) in
    let clients : c.clients-clients.result ≡ client_count y = c.clients-clients.ensures.number ∙ ap client_count (c.layout-2.ensures.sizes ∙ sym same) in
    let all : c.senders-senders.result + c.clients-clients.result ≡ place_count y = omega (arith, senders, clients) in
    are_told y images c.args.records c.read_tables.new.waiting c.read_tables.new.sent (subst (λ n. AreWaitingTo y images n c.read_tables.new.waiting) senders made.waiting) (subst (λ n. AreSentTo y images n c.read_tables.new.sent) all made.sent) made.few

pub returns-in-Ok-clause-known : goal.returns-in-Ok-clause-known
returns-in-Ok-clause-known g c = knows_read g.P.PageDevice c.args.pages.now c.read_tables.new.pages c.args.planner c.read_tables.ensures.read.read c.requires.known

pub returns-in-Err-clause-read : goal.returns-in-Err-clause-read
returns-in-Err-clause-read g c = record { read = c.in-Err.ensures.read.read; counted = tt; refused = c.in-Err.ensures.read.refused }

pub returns-in-Err-clause-stops : goal.returns-in-Err-clause-stops
returns-in-Err-clause-stops g c = tabled_stops g.P.PageDevice c.args.records c.in-Err.refusal c.args.pages.now c.read_tables.new.pages c.in-Err.ensures.causes

pub returns-in-Err-clause-names : goal.returns-in-Err-clause-names
returns-in-Err-clause-names g c = tabled_reads g.P.PageDevice c.args.records c.in-Err.refusal c.args.pages.now c.read_tables.new.pages c.in-Err.ensures.causes
