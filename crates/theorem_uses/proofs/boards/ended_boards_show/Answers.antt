-- The calls are operations of the run's history.
use Rattle.theorem_uses.proofs.Ended.{ends_with_the_only, reads_the_only, refuses_no_write, stamps_go_up}
use Rattle.theorem_uses.proofs.Scheduled.{ends_with_the_greatest, of_one_schedule}
use Rattle.theorem_uses.proofs.boards.ended_boards_show.Goals as goal

pub returns-clause-reads : goal.returns-clause-reads
returns-clause-reads g c = reads_the_only g.F.Family

pub returns-clause-ends : goal.returns-clause-ends
returns-clause-ends g c = ends_with_the_only g.F.Family

pub returns-clause-refuses : goal.returns-clause-refuses
returns-clause-refuses g c = refuses_no_write g.F.Family

pub returns-clause-rises : goal.returns-clause-rises
returns-clause-rises g c = stamps_go_up g.F.Family

pub returns-clause-greatest : goal.returns-clause-greatest
returns-clause-greatest g c = ends_with_the_greatest g.F.Family

pub returns-clause-schedule : goal.returns-clause-schedule
returns-clause-schedule g c = of_one_schedule g.F.Family
