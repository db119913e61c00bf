-- Each letter passed named a side, so the sides read, put before what the rest gives, are what all letters give.
use Rattle.std.proofs.Common.{◌≡◌, drop}
use Rattle.read_history.specs.Shapes.{all_of}
use Rattle.read_schedule.specs.CellShapes.{turn_named}
use Rattle.read_history.proofs.ListLemmas.{with_front}
use Rattle.read_schedule.proofs.turns.turns_in.Given as goal

abbrev pub invariant-loop-letter : goal.invariant-loop-letter
invariant-loop-letter l = with_front l.turns.items (all_of turn_named (drop l.letter-index l.letters)) ≡ all_of turn_named l.letters
