-- The answers of each cell have numbers, by its freshness; so the operations choose by the law of choices.
use Rattle.composed_play.proofs.boards.Runs.{board_chooses, board_clear, board_fresh}
use Rattle.composed_play.proofs.laws.boards_choose.Goals as goal

pub returns-clause-chosen : goal.returns-clause-chosen
returns-clause-chosen g c at span opening noise ops stamps slot chosen cut run played =
    board_chooses at span opening noise ops stamps slot chosen cut run played

pub returns-clause-clear : goal.returns-clause-clear
returns-clause-clear g c at span opening noise ops stamps slot chosen cut run i j write read ow lw or lr =
    board_clear at span opening noise ops stamps slot chosen cut run i j write read ow lw or lr

pub returns-clause-fresh : goal.returns-clause-fresh
returns-clause-fresh g c at span opening noise ops stamps slot chosen cut run i j write read ow lw or lr =
    board_fresh at span opening noise ops stamps slot chosen cut run i j write read ow lw or lr
