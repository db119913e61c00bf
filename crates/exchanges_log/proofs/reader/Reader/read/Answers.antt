-- The line was an operation, rule was entered.
use Rattle.std.proofs.Common.{arith}
use Rattle.exchanges_log.proofs.LineLemmas.{judged_as}
use Rattle.exchanges_log.specs.inner.ExchangeReadings.{rule_of}
use Rattle.exchanges_log.proofs.reader.Reader.read.Goals as goal

pub returns-in-Ok-clause-read : goal.returns-in-Ok-clause-read
returns-in-Ok-clause-read c = λ opening lines read. c.in-Ok.ensures.entered opening lines c.args.bytes.now c.args.last read
    (judged_as (rule_of c.args.self.now) c.len-place.result _ c.args.last c.args.bytes.now c.in-Ok-Some.field-0 c.in-Ok-Some.op
    c.in-Ok-Some.ensures c.in-Ok-Some.field-0-is (omega (arith, c.len-place.ensures, c.args.self.now.ops.ok.0, read.are.long)))
