use Rattle.std.proofs.Common.{◌++◌, codes, decimal}
use Rattle.std.proofs.lemmas.Result.{on_ok_weaker}
use Rattle.rq_inspect.specs.Lines.{txn_text}
use Rattle.rq_inspect.specs.Reports.{named, operation_key_text, txn_key_text}
use Rattle.rq_inspect.proofs.Texts.{lines_written}
use Rattle.rq_inspect.proofs.reporting.Report.print.Goals as goal

pub returns : goal.returns
returns c =
    let r = c.self.inside in
    rw (← c.self.view_is) (on_ok_weaker c.print_committed.result (λ last.
    lines_written c.args.out.now.items c.writeln.new.self.items c.print_unfinished.new.out.items c.print_lost.new.out.items c.print_committed.new.out.items
    (codes "records " ++ (decimal r.records ++ codes "\n")) (named (codes "unfinished") operation_key_text r.unfinished.keys)
    (named (codes "lost") txn_key_text r.lost.keys) (named (codes "committed") txn_text r.committed.items)
    c.in_ok-writeln.ensures.bytes c.in_ok-print_unfinished.ensures c.in_ok-print_lost.ensures (rw c.deref.ensures.value at last)) c.print_committed.ensures)
