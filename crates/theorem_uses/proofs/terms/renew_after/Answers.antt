-- The next board opens with the record that the end gave.
use Rattle.std.proofs.Common.{ap, rules}
use Rattle.theorem_uses.proofs.Later.{terms_join}
use Rattle.theorem_uses.proofs.terms.renew_after.Goals as goal

pub returns-clause-goes_on : goal.returns-clause-goes_on
returns-clause-goes_on g c = λ calls made.
    let run = c.finish-last.ensures.atomic calls made in (
      c.finish-last.result,
      run,
      λ those newest b. terms_join g.F.Family c.args.board c.in_ok-made.made.0 _ those c.finish-last.result newest run b
          (ap (λ z. z.item) c.in_ok-made.ensures.opened),
    )

-- the call of `renew` says so, of the record that the end gave
pub returns-clause-opens : goal.returns-clause-opens
returns-clause-opens g c = (c.finish-last.result, search rules)

pub returns-in_err-made-clause-opens : goal.returns-in_err-made-clause-opens
returns-in_err-made-clause-opens g c = (c.finish-last.result, search rules)
