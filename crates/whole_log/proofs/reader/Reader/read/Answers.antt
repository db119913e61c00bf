-- The line was an operation, which was entered.
use Rattle.std.proofs.Common.{◌∙◌}
use Rattle.whole_log.proofs.WholeBodies.{judged_as}
use Rattle.whole_log.specs.inner.WholeReadings.{whole_rule}
use Rattle.whole_log.proofs.reader.Reader.read.Goals as goal

pub returns-in-Ok-clause-read : goal.returns-in-Ok-clause-read
returns-in-Ok-clause-read c = λ opening lines read. c.in-Ok.ensures.entered opening lines c.args.bytes.now c.args.last read
    (judged_as (whole_rule c.args.self.now) c.len.result _ c.args.last c.args.bytes.now c.in-Ok-Some.field-0 c.in-Ok-Some.op
    c.in-Ok-Some.ensures.said c.in-Ok-Some.field-0-is (c.len.ensures ∙ (c.args.self.now.ops.ok.0 ∙ read.are.long)))
