-- The third record gets its number behind the two.
use Rattle.std.proofs.Common.{[], ◌∷◌, string_bytes}
use Rattle.exchanges_log.proofs.NumberedLemmas.{gave_next}
use Rattle.exchanges_log.proofs.number.number_three.Goals as goal

pub returns : goal.returns
returns c = λ records is.
    gave_next records (string_bytes c.args.first ∷ string_bytes c.args.second ∷ []) (c.in_ok-first.first ∷ c.in_ok-first.second ∷ [])
    (string_bytes c.args.third) c.in_ok-third.third c.number_two.new.numbering c.number.new.numbering (c.in_ok-first.ensures records is)
    c.in_ok-third.ensures
