-- The share has the board.
use Rattle.std.proofs.Common.{◌≡◌, subst}
use Rattle.std.specs.Prelude.{IfOk}
use Rattle.std.specs.Arc.{arc_value}
use Rattle.c_boards.specs.Opens.{Pairs}
use Rattle.c_boards.proofs.place.seats.share.Goals as goal

pub returns : goal.returns
returns g c =
    let place = g.D.HasPlace.place in
    subst (λ b. IfOk c.seats.result
    (λ v. Pairs (λ p d. ((place d).pass.value ≡ p) × (arc_value (place d).board ≡ b)) c.args.passes.items v.items))
    c.in_ok-board.ensures.ok c.seats.ensures
