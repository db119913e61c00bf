-- By the law of choices.
use Rattle.board_history.proofs.Later.{calls_agree, calls_rise, calls_written}
use Rattle.board_history.proofs.laws.calls_heed.Goals as goal

pub returns-clause-rises : goal.returns-clause-rises
returns-clause-rises g c width n limit opening steps did i j k m d e run li lj at_d at_e l =
    calls_rise width n limit opening steps did run i j k m d e li lj at_d at_e l

pub returns-clause-written : goal.returns-clause-written
returns-clause-written g c width n limit opening steps did i k d run l at = calls_written width n limit opening steps did run i k d l at

pub returns-clause-agree : goal.returns-clause-agree
returns-clause-agree g c width n limit opening steps did i j k m d e run li lj at_d at_e same =
    calls_agree width n limit opening steps did run i j k m d e li lj at_d at_e same
