-- The second record gets its number behind the first.
use Rattle.std.proofs.Common.{[], ◌∷◌, string_bytes}
use Rattle.watch_lines.proofs.NumberLemmas.{got_next}
use Rattle.watch_lines.proofs.number.number_two.Goals as goal

pub returns : goal.returns
returns c = λ all naming kept.
    got_next all naming (string_bytes c.args.first ∷ []) (c.in_ok-first.first ∷ []) (string_bytes c.args.second) c.in_ok-second.second
    c.args.records.now c.number.new.records c.number-2.new.records (c.in_ok-first.ensures all naming kept) c.in_ok-second.ensures
