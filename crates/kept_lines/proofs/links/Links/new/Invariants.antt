-- As many empty buckets as turns.
use Rattle.std.proofs.Common.{◌≡◌, replicate}
use Rattle.kept_lines.proofs.links.Links.new.Given as goal

abbrev pub invariant-loop : goal.invariant-loop
invariant-loop l = l.last.items ≡ replicate l.counter 0
