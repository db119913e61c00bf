-- The boxes are those of the places.
use Rattle.std.proofs.Common.{sym, ◌∙◌}
use Rattle.c_boards.proofs.Pairing.{paired_length}
use Rattle.c_boards.proofs.makes.open_boxed.Goals as goal

pub returns-in-Ok : goal.returns-in-Ok
returns-in-Ok g c =
    let o = c.in_ok-places.ensures in
    (_, o.0, sym (paired_length _ _ _ c.in-Ok.ensures) ∙ o.1, c.in-Ok.ensures)

pub returns-in-Err : goal.returns-in-Err
returns-in-Err g c = (c.in_ok-places.ensures.2, c.in_ok-places.ensures.3)
