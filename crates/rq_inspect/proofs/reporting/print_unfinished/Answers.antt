use Rattle.std.proofs.Common.{◌++◌, length, codes, decimal, ap, ◌∙◌}
use Rattle.std.proofs.lemmas.Result.{on_ok_weaker}
use Rattle.rq_inspect.specs.Reports.{each, operation_key_text}
use Rattle.rq_inspect.proofs.Texts.{names_written}
use Rattle.rq_inspect.proofs.reporting.print_unfinished.Goals as goal

pub returns : goal.returns
returns c =
    let ks = c.args.operations.keys in
    let out = c.args.out.now.items in
    on_ok_weaker c.writeln.result (λ last.
    names_written out c.write.new.self.items c.print_operations.new.out.items c.writeln.new.self.items
    (codes "unfinished " ++ decimal (length ks)) (each operation_key_text ks)
    (c.in_ok-write.ensures.bytes ∙ ap (λ n. out ++ (codes "unfinished " ++ decimal n)) c.len-count.ensures.len)
    c.in_ok-print_operations.ensures last) c.writeln.ensures.bytes
