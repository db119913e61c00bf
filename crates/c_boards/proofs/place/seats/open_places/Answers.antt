-- The places are those of the new board's passes.
use Rattle.std.specs.Arc.{arc_value}
use Rattle.c_boards.proofs.Opening.{opened, own}
use Rattle.c_boards.proofs.place.seats.open_places.Goals as goal

pub returns-in-Ok : goal.returns-in-Ok
returns-in-Ok g c = record {
  opens = opened g.F.Family g.V.RecordLaw.obeys (λ d. arc_value (g.D.HasPlace.place d).board)
      (λ d. (g.D.HasPlace.place d).pass.value) c.args.n c.args.limit c.args.words c.in_ok-board.board
      c.in_ok-board.passes.items c.in-Ok.places.items c.in_ok-board.ensures c.in-Ok.ensures;
  sits = own g.F.Family g.V.RecordLaw.obeys (λ d. arc_value (g.D.HasPlace.place d).board)
      (λ d. (g.D.HasPlace.place d).pass.value) c.args.n c.args.limit c.args.words c.in_ok-board.board
      c.in_ok-board.passes.items c.in-Ok.places.items c.in_ok-board.ensures c.in-Ok.ensures;
}
