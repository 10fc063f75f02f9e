use Rattle.std.proofs.Common.{sym, ◌∙◌, ap}
use Rattle.rq_engine.specs.Opened.{OpenStore}
use Rattle.rq_laws.proofs.Writing.{refused_alike, reads_alike, wrote_alike}
use Rattle.rq_laws.proofs.calls.write_page.Goals as goal

pub returns : goal.returns
returns g c = record {
  same = wrote_alike g.P.PageDevice _ _ _ c.write_page.new.self c.write_page-2.new.self _ _ c.requires.same c.write_page.ensures.answer c.write_page.ensures.state c.write_page.ensures.changed c.write_page.ensures.log c.write_page.ensures.device c.write_page-2.ensures.answer c.write_page-2.ensures.state c.write_page-2.ensures.changed c.write_page-2.ensures.log c.write_page-2.ensures.device;
  reads = reads_alike g.P.PageDevice _ _ _ c.write_page.new.self c.write_page-2.new.self _ _ c.requires.same c.write_page.ensures.answer c.write_page.ensures.state c.write_page.ensures.changed c.write_page.ensures.log c.write_page.ensures.device c.write_page-2.ensures.answer c.write_page-2.ensures.state c.write_page-2.ensures.changed c.write_page-2.ensures.log c.write_page-2.ensures.device;
  log = c.write_page.ensures.log ∙ ap (λ (o : OpenStore _ _). o.log) c.requires.same ∙ sym c.write_page-2.ensures.log;
  decided = refused_alike g.P.PageDevice _ _ _ _ _ c.requires.same c.write_page.ensures.answer c.write_page-2.ensures.answer;
}
