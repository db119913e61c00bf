-- A number of 64 bits has at most 20 digits.
use Rattle.std.proofs.Common.{◌≤◌, ap, arith, length, length-append}
use Rattle.std.proofs.lemmas.Fmt.{length-decimal-le}
use Rattle.std.proofs.lemmas.Grind.{common_steps}
use Rattle.std.specs.Fmt.{decimal}
use Rattle.print_report.proofs.line.Line.put_number.Goals as goal

pub write_digits-self-inside-requires : goal.write_digits-self-inside-requires
write_digits-self-inside-requires c =
    let digits : length (decimal c.args.number) ≤ 20 = length-decimal-le 20 c.args.number (omega arith) (omega arith) (omega arith) in
    grind (arith, common_steps)

pub returns-clause-len : goal.returns-clause-len
returns-clause-len c =
    let digits : length (decimal c.args.number) ≤ 20 = length-decimal-le 20 c.args.number (omega arith) (omega arith) (omega arith) in
    rw c.write_digits-self-inside.ensures.written (simp length-append (omega (arith, digits, ap length c.self.view_is)))
