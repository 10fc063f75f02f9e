use Rattle.rq_inspect.proofs.Written.{piece_written}
use Rattle.rq_inspect.proofs.inspecting.write_full.Goals as goal

pub returns-in_ok-write_all : goal.returns-in_ok-write_all
returns-in_ok-write_all g c = λ first text w.
    piece_written first (g.W.Write.contents c.args.writer.now) (g.W.Write.contents c.write_all.new.self) c.args.piece.now.items text c.clear.new.self.items
    c.clear.ensures.items (rw c.deref.ensures.value at c.in_ok-write_all.ensures.bytes) w
