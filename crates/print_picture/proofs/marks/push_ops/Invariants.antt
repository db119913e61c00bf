-- Each turn moves one operation from those that are left to those that are drawn, so both together stay the same.
use Rattle.std.proofs.Common.{◌≡◌, ◌++◌, drop}
use Rattle.print_picture.specs.Picture.{ops_text}
use Rattle.print_picture.proofs.marks.push_ops.Given as goal

abbrev pub invariant-loop-place : goal.invariant-loop-place
invariant-loop-place l =
    let all = ops_text l.scale l.stamps l.lines in
    l.text.items ++ all l.place (drop l.place l.ops) ≡ l.initial.text.items ++ all 0 l.ops
