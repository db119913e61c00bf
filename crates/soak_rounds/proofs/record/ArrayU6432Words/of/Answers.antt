-- All words are the number.
use Rattle.std.proofs.Common.{arith}
use Rattle.soak_rounds.proofs.Wholes.{whole}
use Rattle.soak_rounds.proofs.record.ArrayU6432Words.of.Goals as goal

pub returns : goal.returns
returns c = whole 32 c.args.number (omega arith)
