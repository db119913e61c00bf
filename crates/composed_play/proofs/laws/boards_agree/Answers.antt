-- The slots of a cell don't depend on its records, so its reads have the same numbers in both runs; the rest is induction over the
-- positions.
use Rattle.composed_play.proofs.boards.Agree.{answers_agree, chosen_agrees, slots_agree, stamps_agree}
use Rattle.composed_play.proofs.laws.boards_agree.Goals as goal

pub returns-clause-chosen : goal.returns-clause-chosen
returns-clause-chosen g c at span opening noise ops others stamps other_stamps slot other_slot chosen other_chosen cut played
    other_played run other_run i k t h =
    chosen_agrees at span opening noise cut ops others stamps other_stamps slot other_slot chosen other_chosen played
    other_played run other_run i k t h

pub returns-clause-slots : goal.returns-clause-slots
returns-clause-slots g c at span opening noise ops others stamps other_stamps slot other_slot chosen other_chosen cut played other_played
    run other_run i k access l =
    slots_agree at span opening noise cut ops others stamps other_stamps slot other_slot chosen other_chosen played other_played
    run other_run i k access l

pub returns-clause-stamps : goal.returns-clause-stamps
returns-clause-stamps g c at span opening noise ops others stamps other_stamps slot other_slot chosen other_chosen cut played other_played
    run other_run p q k op other_op there other_there is other_is who =
    stamps_agree at span opening noise cut ops others stamps other_stamps slot other_slot chosen other_chosen played other_played run
    other_run p q k op other_op there other_there is other_is who

pub returns-clause-answers : goal.returns-clause-answers
returns-clause-answers g c at span opening noise ops others stamps other_stamps slot other_slot chosen other_chosen cut played other_played
    run other_run p q k op other_op there other_there is other_is who end e other_e =
    answers_agree at span opening noise cut ops others stamps other_stamps slot other_slot chosen other_chosen played other_played run
    other_run p q k op other_op there other_there is other_is who end e other_e
