-- Each turn moves one entry from those that are left to those that are joined, so both together stay the same.
use Rattle.std.proofs.Common.{◌≡◌, ◌++◌, None, drop}
use Rattle.print_picture.specs.Picture.{joins_text}
use Rattle.print_picture.proofs.marks.push_joins.Given as goal

abbrev pub invariant-loop-n : goal.invariant-loop-n
invariant-loop-n l =
    let all = joins_text l.scale l.ops l.points in
    l.text.items ++ all l.n l.write (drop l.n l.order) ≡ l.initial.text.items ++ all 0 None l.order
