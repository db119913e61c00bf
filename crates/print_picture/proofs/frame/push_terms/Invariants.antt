-- Each turn moves one term from those that are left to those that are drawn, so both together stay the same.
use Rattle.std.proofs.Common.{◌≡◌, ◌+◌, ◌++◌, drop}
use Rattle.print_picture.specs.Picture.{terms_text}
use Rattle.print_picture.proofs.frame.push_terms.Given as goal

abbrev pub invariant-loop-k : goal.invariant-loop-k
invariant-loop-k l =
    let all = terms_text l.scale l.high l.ops in
    l.text.items ++ all (l.k + 1) (drop l.k l.terms) ≡ l.initial.text.items ++ all 1 l.terms
