-- The slot accesses so far are drawn.
use Rattle.std.proofs.Common.{◌≡◌, ◌++◌, take}
use Rattle.std.specs.List.{flat_map}
use Rattle.print_picture.specs.Picture.{visit_text}
use Rattle.print_picture.proofs.marks.push_visits.Given as goal

abbrev pub invariant-loop-visit : goal.invariant-loop-visit
invariant-loop-visit l = l.text.items ≡ l.initial.text.items ++ flat_map (visit_text l.lanes l.scale) (take l.visit-index l.visits)
