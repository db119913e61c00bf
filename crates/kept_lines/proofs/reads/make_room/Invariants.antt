-- Room for as many records as the count says.
use Rattle.std.proofs.Common.{◌≡◌, length}
use Rattle.kept_lines.specs.Reads.{GrowsUnread}
use Rattle.kept_lines.proofs.reads.make_room.Given as goal

abbrev pub invariant-loop : goal.invariant-loop
invariant-loop l = GrowsUnread l.fn.seen.items l.seen.items × (length l.seen.items ≡ l.counter)
