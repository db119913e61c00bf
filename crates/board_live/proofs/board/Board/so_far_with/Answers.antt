-- What the family shows by one seat is a run of the board so far.
use Rattle.std.proofs.Common.{ap, rules}
use Rattle.board_live.proofs.SoFar.{ordered_so_far}
use Rattle.board_live.proofs.board.Board.so_far_with.Goals as goal

pub returns-clause-same : goal.returns-clause-same
returns-clause-same g c = ap (λ z. record c.args.pass.now { seat = z }) c.so_far_from.ensures.same

pub returns-clause-atomic : goal.returns-clause-atomic
returns-clause-atomic g c =
    ordered_so_far g.F.Family g.V.RecordLaw.obeys c.args.self.now c.args.pass.now c.requires c.so_far_from.ensures.so_far

pub so_far_from-requires : goal.so_far_from-requires
so_far_from-requires g c = search rules
