-- A record that got its number is of those that were met, or one more.
use Rattle.exchanges_log.proofs.NumberedLemmas.{gave_first}
use Rattle.exchanges_log.proofs.number.number.Goals as goal

pub returns : goal.returns
returns c = λ records is.
    gave_first records _ _ c.in_ok-number.number c.number.new.self c.fitted.ensures (c.in_ok-number.ensures records is)
