-- Each call takes one seat out.
use Rattle.std.proofs.Common.{length}
use Rattle.family_table.proofs.processes.+show_all.Given as goal

abbrev pub decreases-show_all : goal.decreases-show_all
decreases-show_all g l = length l.seats.now.items
