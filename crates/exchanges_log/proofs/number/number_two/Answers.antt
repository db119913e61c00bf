-- The second record gets its number behind the first.
use Rattle.std.proofs.Common.{[], ◌∷◌, string_bytes}
use Rattle.exchanges_log.proofs.NumberedLemmas.{gave_next}
use Rattle.exchanges_log.proofs.number.number_two.Goals as goal

pub returns : goal.returns
returns c = λ records is.
    gave_next records (string_bytes c.args.first ∷ []) (c.in_ok-first.first ∷ []) (string_bytes c.args.second) c.in_ok-second.second
    c.number.new.numbering c.number-2.new.numbering (c.in_ok-first.ensures records is) c.in_ok-second.ensures
