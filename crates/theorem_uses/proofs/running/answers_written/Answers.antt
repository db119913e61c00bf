-- The receipt carries the writes, and the read heeds it.
use Rattle.std.proofs.Common.{◌≡◌, ◌<◌, refl, sym, ◌∙◌, ap, arith}
use Rattle.history_core.specs.declared.history.Kind.TheVariants.{Read}
use Rattle.theorem_uses.proofs.Written.{answer_written}
use Rattle.theorem_uses.proofs.running.answers_written.Goals as goal

pub returns-clause-last : goal.returns-clause-last
returns-clause-last g c =
    let w = c.tell-receipt.new.pass in
    let write = c.in-Ok.ensures.call.1 in
    let chose = c.in-Ok.ensures.call.2 in
    let is = c.tell-receipt.ensures.pass in
    let same = c.tell-receipt.ensures.same c.in-Ok.ensures.told in
    let who = same.process ∙ write.process ∙ c.requires.writer.1 in
    ap (λ z. z.item) (is.last (same.told ∙ c.in-Ok.ensures.told) 1 (omega (arith, c.requires.two)) (λ e. let z = e ∙ who in omega arith)
    ∙ same.own ∙ chose.2)

pub returns-clause-written : goal.returns-clause-written
returns-clause-written g c =
    let write = c.in-Ok.ensures.call.1 in
    let chose = c.in-Ok.ensures.call.2 in
    let tag : 0 < c.write.new.pass.own.stamp.tag =
    let a = ap (λ z. z.stamp.tag) chose.2 in let b = ap (λ z. z.tag) chose.1 in omega (arith, a, b) in
    answer_written g.F.Family c.args.board.now g.V.RecordLaw.obeys Read c.write.new.pass c.tell-receipt.new.pass c.args.reader.now
    c.learn.new.pass c.read-answer.new.pass c.tell-receipt.result c.read-answer.result c.requires.two
    (write.process ∙ c.requires.writer.1) c.requires.reader.1 c.requires.unread tag
    (c.tell-receipt.ensures.told c.in-Ok.ensures.told) ((c.tell-receipt.ensures.same c.in-Ok.ensures.told).writes 1)
    c.learn.ensures.learnt c.learn.ensures.same.process c.learn.ensures.same.own
    c.read-answer.ensures.call c.read-answer.ensures.known
