-- A history so far is one of choices.
use Rattle.board_history.proofs.Atomic.{history_atomic, history_lawful, history_stands}
use Rattle.board_history.proofs.There.{atomic_run}
use Rattle.board_history.proofs.laws.runs_so_far_are_atomic.Goals as goal

pub returns-clause-atomic : goal.returns-clause-atomic
returns-clause-atomic g c width n limit opening steps did ops stamps order run h is =
    history_atomic width n limit opening steps did run ops stamps h order is

pub returns-clause-lawful : goal.returns-clause-lawful
returns-clause-lawful g c width n limit opening steps did ops stamps order run h is =
    history_lawful width n limit opening steps did run ops stamps h order is

pub returns-clause-chosen : goal.returns-clause-chosen
returns-clause-chosen g c width n did ops stamps order h is = history_stands width n did ops stamps h order is

pub returns-clause-there : goal.returns-clause-there
returns-clause-there g c width n limit opening steps did run = atomic_run width n limit opening steps did run
