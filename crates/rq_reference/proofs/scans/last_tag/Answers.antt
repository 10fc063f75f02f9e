use Rattle.std.proofs.Common.{ap, sym, ◌∙◌}
use Rattle.rq_model.specs.declared.message.Message.{Message}
use Rattle.rq_reference.proofs.Plainly.{tag_at}
use Rattle.rq_reference.proofs.scans.last_tag.Goals as goal

pub loop-message-preserved : goal.loop-message-preserved
loop-message-preserved c = ap (λ (m : Message). m.tag) c.message-item.is ∙ sym (tag_at c.args.messages.now c.loop-message.message-index c.message-item.result c.loop-message-test.true)
