-- The third record gets its number behind the two.
use Rattle.std.proofs.Common.{[], ◌∷◌, string_bytes}
use Rattle.watch_lines.proofs.NumberLemmas.{got_next}
use Rattle.watch_lines.proofs.number.number_three.Goals as goal

pub returns : goal.returns
returns c = λ all naming kept.
    got_next all naming (string_bytes c.args.first ∷ string_bytes c.args.second ∷ []) (c.in_ok-first.first ∷ c.in_ok-first.second ∷ [])
    (string_bytes c.args.third) c.in_ok-third.third c.args.records.now c.number_two.new.records c.number.new.records
    (c.in_ok-first.ensures all naming kept) c.in_ok-third.ensures
