-- Logs that have one order aren't broken, and neither are those of a run.
use Rattle.std.proofs.Common.{map, inl, inr}
use Rattle.board_tasks.proofs.SoundOrders.{never_broken}
use Rattle.board_tasks.proofs.SoundRuns.{run_unbroken}
use Rattle.board_tasks.proofs.origin.check_origin.Goals as goal

pub returns-in-Some-clause-ordered : goal.returns-in-Some-clause-ordered
returns-in-Some-clause-ordered g c limit last h =
    absurd (never_broken g.V.PartialEq.eq g.met.V.Eq.laws.refl c.args.opening (map g.L.HasLog.logged c.args.logs.now) limit last h
    c.in-Some.task c.in-Some.call (record { either = inl c.in-Some.ensures.first }))

pub returns-in-Some-first_break-clause-ordered : goal.returns-in-Some-first_break-clause-ordered
returns-in-Some-first_break-clause-ordered g c limit last h =
    absurd (never_broken g.V.PartialEq.eq g.met.V.Eq.laws.refl c.args.opening (map g.L.HasLog.logged c.args.logs.now) limit last h
    c.in-Some-first_break.task c.in-Some-first_break.call
    (record { either = inr (c.in_default.ensures.none, c.in-Some-first_break.ensures.first) }))

pub returns-in-Some-clause-origin : goal.returns-in-Some-clause-origin
returns-in-Some-clause-origin g c = record { either = inl c.in-Some.ensures.first }

pub returns-in-Some-first_break-clause-origin : goal.returns-in-Some-first_break-clause-origin
returns-in-Some-first_break-clause-origin g c =
    record { either = inr (c.in_default.ensures.none, c.in-Some-first_break.ensures.first) }

pub returns-in-Some-clause-run : goal.returns-in-Some-clause-run
returns-in-Some-clause-run g c h =
    absurd (run_unbroken g.V.PartialEq.eq g.met.V.Eq.laws.refl c.args.opening (map g.L.HasLog.logged c.args.logs.now) h
    c.in-Some.task c.in-Some.call (record { either = inl c.in-Some.ensures.first }))

pub returns-in-Some-first_break-clause-run : goal.returns-in-Some-first_break-clause-run
returns-in-Some-first_break-clause-run g c h =
    absurd (run_unbroken g.V.PartialEq.eq g.met.V.Eq.laws.refl c.args.opening (map g.L.HasLog.logged c.args.logs.now) h
    c.in-Some-first_break.task c.in-Some-first_break.call
    (record { either = inr (c.in_default.ensures.none, c.in-Some-first_break.ensures.first) }))
