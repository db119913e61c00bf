-- What was handed out is of the reply.
use Rattle.fsr_order_answers.specs.Order.{IsOrderAnswer}
use Rattle.memory_answers.proofs.HandingLemmas.{answers}
use Rattle.memory_answers.proofs.answers.order.Goals as goal

pub returns : goal.returns
returns c =
    answers (IsOrderAnswer c.args.show c.args.document.now) c.order_bytes-reply.result _ _ _ _
    c.order_bytes-reply.ensures c.hand_out.ensures
