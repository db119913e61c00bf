-- The look of the family, or none.
use Rattle.std.proofs.Common.{◌≡◌, ◌<◌, arith, ◌∙◌, rules}
use Rattle.board_live.proofs.Accessing.{not_looked}
use Rattle.board_live.proofs.calls.was_told.Goals as goal

pub look-requires-clause-own : goal.look-requires-clause-own
look-requires-clause-own g c = search rules

pub look-requires-clause-other : goal.look-requires-clause-other
look-requires-clause-other g c =
    let all : g.F.Family.processes c.args.family.now ≡ c.args.processes = c.requires.of.all in
    (omega (arith, all, c.if-from-processes.false), λ e. c.if-from-process.false (e ∙ c.requires.of.who))

pub look-requires-clause-plan : goal.look-requires-clause-plan
look-requires-clause-plan g c = c.requires.plan

pub returns-clause-found : goal.returns-clause-found
returns-clause-found g c = record {
  of = c.look.ensures.own;
  finds = c.look.ensures.finds;
  unfound = c.look.ensures.unfound;
  said = c.look.ensures.said;
  calls = c.look.ensures.calls;
}

pub returns-clause-so_far : goal.returns-clause-so_far
returns-clause-so_far g c = c.look.ensures.so_far

pub returns-then-from-processes-clause-found : goal.returns-then-from-processes-clause-found
returns-then-from-processes-clause-found g c =
    not_looked g.F.Family c.args.family.now c.args.seat.now c.args.item.now c.requires.of.seat

pub returns-then-from-processes-clause-so_far : goal.returns-then-from-processes-clause-so_far
returns-then-from-processes-clause-so_far g c = c.requires.so_far

pub returns-then-from-process-clause-found : goal.returns-then-from-process-clause-found
returns-then-from-process-clause-found g c =
    not_looked g.F.Family c.args.family.now c.args.seat.now c.args.item.now c.requires.of.seat

pub returns-then-from-process-clause-so_far : goal.returns-then-from-process-clause-so_far
returns-then-from-process-clause-so_far g c = c.requires.so_far
