-- What was said so far stands before what the lines left give.
use Rattle.std.proofs.Common.{◌≡◌, ◌++◌, drop}
use Rattle.record_words.specs.Origins.{names_from}
use Rattle.record_words.proofs.origins.push_all_names.Given as goal

abbrev pub invariant-loop-number : goal.invariant-loop-number
invariant-loop-number l = l.text.items ++ names_from l.number (drop l.number l.lines)
    ≡ l.initial.text.items ++ names_from 0 l.lines
