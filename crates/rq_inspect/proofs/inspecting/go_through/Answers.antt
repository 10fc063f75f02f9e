use Rattle.std.proofs.Common.{rules, ◌≡◌, ◌⊎◌, inl, ℕ, false, List, [], ◌++◌, length, Option, ap, subst, sym, ◌∙◌, append_assoc}
use Rattle.rq_model.specs.declared.record.Record.{Record}
use Rattle.rq_model.specs.Bases.{is_base, with_next}
use Rattle.rq_inspect.specs.Inspections.{IsWrittenBut, lines}
use Rattle.rq_inspect.specs.Lines.{line_of}
use Rattle.rq_inspect.specs.Reports.{Tells}
use Rattle.rq_log.proofs.Keeping.{front_begins}
use Rattle.rq_inspect.proofs.Reading.{lines_next}
use Rattle.rq_log.specs.Reading.{BeginsWith}
use Rattle.rq_inspect.proofs.Stopped.{stopped_reading}
use Rattle.rq_inspect.proofs.inspecting.go_through.Goals as goal

pub returns-in-Err-clause-stopped : goal.returns-in-Err-clause-stopped
returns-in-Err-clause-stopped g c =
    let l = g.L.LogDevice in
    let was = c.loop-refusal.invariant in
    let first = c.args.reader.now.first in
    let reader = c.next_into.new.self in
    let same : reader.first ≡ first = c.next_into.ensures.first ∙ was.first in
    stopped_reading l c.in-Err.refusal c.loop-refusal.reader.records first c.loop-refusal.reader.device reader.device _ was.reading.are_spelled was.reading.marked was.count
    (was.reading.read.same ∙ ap l.seen was.first)
    (λ h. subst (λ rs. BeginsWith rs (l.seen first)) c.in-Err.ensures.same (subst (λ f. BeginsWith reader.records (l.seen f)) same (c.next_into.ensures.reading.begins h)))
    was.text c.in-Err.ensures.err

pub returns-then-is_err-clause-stopped : goal.returns-then-is_err-clause-stopped
returns-then-is_err-clause-stopped g c =
    let l = g.L.LogDevice in
    let was = c.loop-refusal.invariant in
    let front = c.loop-refusal.reader.records in
    let r = c.next_into.new.into in
    let first = c.args.reader.now.first in
    let reader = c.next_into.new.self in
    let same : reader.first ≡ first = c.next_into.ensures.first ∙ was.first in
    let oldest : (is_base r ≡ false) ⊎ (front ≡ []) = rw c.in-Ok-true.field-0-test at c.in-Ok-true.ensures.oldest in
    let grown : reader.records ≡ with_next r front = rw c.in-Ok-true.field-0-test at c.in-Ok-true.ensures.some in
    let piece : c.take_in.new.piece.items ≡ c.loop-refusal.piece.items = search rules in (
      c.in-Ok-true.ensures.cause ∙ was.count,
      λ h. record {
        log = front;
        are_spelled = was.reading.are_spelled;
        marked = was.reading.marked;
        begins = front_begins r front (l.seen first) oldest (subst (λ rs. BeginsWith rs (l.seen first)) grown (subst (λ f. BeginsWith reader.records (l.seen f)) same (c.next_into.ensures.reading.begins h)));
        written = inl (rw piece was.text);
      },
    )

pub loop-refusal-preserved : goal.loop-refusal-preserved
loop-refusal-preserved g c =
    let was = c.loop-refusal.invariant in
    let front = c.loop-refusal.reader.records in
    let r = c.next_into.new.into in
    let reader = c.next_into.new.self in
    let first = g.W.Write.contents c.args.writer.now in
    let lsn = c.last.result in
    let oldest : (is_base r ≡ false) ⊎ (front ≡ []) = rw c.in-Ok-true.field-0-test at c.in-Ok-true.ensures.oldest in
    let grown : reader.records ≡ with_next r front = rw c.in-Ok-true.field-0-test at c.in-Ok-true.ensures.some in
    let size : lsn ≡ length (with_next r front) = c.last.ensures ∙ ap length grown in
    let told : (log : List Record) → (is_base r ≡ false) ⊎ (log ≡ []) → lsn ≡ length (with_next r log) → Tells log [] c.loop-refusal.report → Tells (with_next r log) [] c.take_in.new.report = search rules in
    let line : c.take_in.new.piece.items ≡ c.loop-refusal.piece.items ++ line_of lsn r = search rules in
    let full : (w : Option (List ℕ)) (text : List ℕ) → IsWrittenBut w (g.W.Write.contents c.loop-refusal.writer) c.take_in.new.piece.items text → IsWrittenBut w (g.W.Write.contents c.write_full.new.writer) c.write_full.new.piece.items text = search rules in
    let t = was.text in
    let all : t.0 ++ c.take_in.new.piece.items ≡ lines reader.records =
    ap (λ p. t.0 ++ p) line ∙ sym (append_assoc t.0 c.loop-refusal.piece.items (line_of lsn r)) ∙ ap (λ p. p ++ line_of lsn r) t.2 ∙ lines_next r front lsn oldest size ∙ ap lines (sym grown) in
    record {
      told = subst (λ rs. Tells rs [] c.take_in.new.report) (sym grown) (told front oldest size was.told);
      text = full first (lines reader.records) (t.0, t.1, all);
      reading = c.next_into.ensures.reading;
      count = c.in-Ok-true.ensures.cause ∙ was.count;
      first = c.next_into.ensures.first ∙ was.first;
    }
