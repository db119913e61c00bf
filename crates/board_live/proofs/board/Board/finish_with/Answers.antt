-- The family shows all processes with the seats of these passes, whose calls are a run of the board with those of the others.
use Rattle.std.proofs.Common.{◌≡◌, ◌<◌, ap, ◌∙◌, arith, length}
use Rattle.std.proofs.lemmas.List.{length-map}
use Rattle.board_live.proofs.Together.{each_seat, ordered_with}
use Rattle.board_live.proofs.board.Board.finish_with.Goals as goal

pub finish_with-requires-clause-some : goal.finish_with-requires-clause-some
finish_with-requires-clause-some g c =
    let n : length c.in_ok-seats.seats.items ≡ length c.args.passes.items =
    ap length c.in_ok-seats.ensures ∙ length-map c.args.passes.items (λ p. p.seat) in
    omega (arith, n, c.requires.some)

pub finish_with-requires-clause-seats : goal.finish_with-requires-clause-seats
finish_with-requires-clause-seats g c = each_seat g.F.Family g.V.RecordLaw.obeys c.args.self c.args.passes.items c.requires.passes
    c.in_ok-seats.seats.items c.in_ok-seats.ensures

pub returns-clause-atomic : goal.returns-clause-atomic
returns-clause-atomic g c =
    let some : 0 < length c.args.passes.items = omega (arith, c.requires.some) in
    ordered_with g.F.Family g.V.RecordLaw.obeys c.args.self c.args.passes.items c.requires.passes c.in_ok-seats.seats.items
    c.in_ok-seats.ensures some c.finish_with.ensures.so_far
