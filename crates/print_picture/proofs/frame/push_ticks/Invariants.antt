-- The moments so far are on the axis.
use Rattle.std.proofs.Common.{◌≡◌, ◌++◌}
use Rattle.print_picture.specs.Picture.{ticks_text}
use Rattle.print_picture.proofs.frame.push_ticks.Given as goal

abbrev pub invariant-loop-n : goal.invariant-loop-n
invariant-loop-n l = l.text.items ≡ l.initial.text.items ++ ticks_text l.moments l.scale l.high l.n
