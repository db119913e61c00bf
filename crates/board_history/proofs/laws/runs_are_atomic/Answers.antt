-- A run is one so far, and its history is one so far.
use Rattle.board_history.proofs.Last.{history_last}
use Rattle.board_history.proofs.Whole.{all_there, history_atomic, history_lawful}
use Rattle.board_history.proofs.laws.runs_are_atomic.Goals as goal

pub returns-clause-atomic : goal.returns-clause-atomic
returns-clause-atomic g c width n limit opening steps did ops stamps order run h is =
    history_atomic width n limit opening steps did run ops stamps h order is

pub returns-clause-lawful : goal.returns-clause-lawful
returns-clause-lawful g c width n limit opening steps did ops stamps order run h is =
    history_lawful width n limit opening steps did run ops stamps h order is

pub returns-clause-there : goal.returns-clause-there
returns-clause-there g c width n limit opening steps did run = all_there width n limit opening steps did run

pub returns-clause-last : goal.returns-clause-last
returns-clause-last g c width n limit opening steps did ops stamps order greatest run h is own =
    history_last width n limit opening steps did run ops stamps h order greatest is own
