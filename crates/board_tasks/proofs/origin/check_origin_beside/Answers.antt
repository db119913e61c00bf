-- Logs of which some are lost aren't broken where all of them are sound, or where they are of a run so far.
use Rattle.std.proofs.Common.{map, inl, inr}
use Rattle.board_tasks.proofs.SoundBeside.{beside_unbroken}
use Rattle.board_tasks.proofs.SoundRest.{rest_unbroken}
use Rattle.board_tasks.proofs.origin.check_origin_beside.Goals as goal

pub returns-in-Some-clause-origin : goal.returns-in-Some-clause-origin
returns-in-Some-clause-origin g c = record { either = inl c.in-Some.ensures.first }

pub returns-in-Some-first_break-clause-origin : goal.returns-in-Some-first_break-clause-origin
returns-in-Some-first_break-clause-origin g c =
    record { either = inr (c.in_default.ensures.none, c.in-Some-first_break.ensures.first) }

pub returns-in-Some-clause-rest : goal.returns-in-Some-clause-rest
returns-in-Some-clause-rest g c whole sound rest =
    absurd (rest_unbroken g.V.PartialEq.eq c.args.opening c.args.lost.now whole (map g.L.HasLog.logged c.args.logs.now) rest
    sound.0 sound.1 c.in-Some.task c.in-Some.call (record { either = inl c.in-Some.ensures.first }))

pub returns-in-Some-first_break-clause-rest : goal.returns-in-Some-first_break-clause-rest
returns-in-Some-first_break-clause-rest g c whole sound rest =
    absurd (rest_unbroken g.V.PartialEq.eq c.args.opening c.args.lost.now whole (map g.L.HasLog.logged c.args.logs.now) rest
    sound.0 sound.1 c.in-Some-first_break.task c.in-Some-first_break.call
    (record { either = inr (c.in_default.ensures.none, c.in-Some-first_break.ensures.first) }))

pub returns-in-Some-clause-run : goal.returns-in-Some-clause-run
returns-in-Some-clause-run g c h =
    absurd (beside_unbroken g.V.PartialEq.eq g.met.V.Eq.laws.refl c.args.opening c.args.lost.now (map g.L.HasLog.logged c.args.logs.now) h
    c.in-Some.task c.in-Some.call (record { either = inl c.in-Some.ensures.first }))

pub returns-in-Some-first_break-clause-run : goal.returns-in-Some-first_break-clause-run
returns-in-Some-first_break-clause-run g c h =
    absurd (beside_unbroken g.V.PartialEq.eq g.met.V.Eq.laws.refl c.args.opening c.args.lost.now (map g.L.HasLog.logged c.args.logs.now) h
    c.in-Some-first_break.task c.in-Some-first_break.call
    (record { either = inr (c.in_default.ensures.none, c.in-Some-first_break.ensures.first) }))
