-- Each turn moves one entry from those that are left to those that have their point, so both together stay the same.
use Rattle.std.proofs.Common.{◌≡◌, ◌++◌, drop}
use Rattle.print_picture.specs.Picture.{points_text}
use Rattle.print_picture.proofs.marks.push_points.Given as goal

abbrev pub invariant-loop-n : goal.invariant-loop-n
invariant-loop-n l =
    let all = points_text l.scale l.ops l.points in
    l.text.items ++ all l.n (drop l.n l.order) ≡ l.initial.text.items ++ all 0 l.order
