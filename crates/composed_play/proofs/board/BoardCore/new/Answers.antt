-- Both tables are filled with one value each, so every cell and every own record is the opening.
use Rattle.std.proofs.Common.{refl}
use Rattle.std.proofs.lemmas.List.{length-replicate}
use Rattle.composed_play.proofs.boards.Steps.{board_opens}
use Rattle.composed_play.proofs.board.BoardCore.new.Goals as goal

pub invariant_of-result : goal.invariant_of-result
invariant_of-result g c = rw (c.in_ok-cells_filled.ensures, c.in_ok-filled.ensures)
    (board_opens c.args.n c.args.limit c.args.opening c.args.noise c.requires.processes.0 c.requires.processes.1)

pub returns-clause-board : goal.returns-clause-board
returns-clause-board g c = rw (c.in_ok-cells_filled.ensures, c.in_ok-filled.ensures) refl

pub returns-clause-size : goal.returns-clause-size
returns-clause-size g c = rw c.in_ok-filled.ensures (length-replicate c.args.n _)
