-- Those of one more operation are added, and at last of all.
use Rattle.std.proofs.lemmas.Option.{slice_get-get_or}
use Rattle.watch_lines.proofs.KeptLemmas.{naming_all, naming_first, naming_more}
use Rattle.watch_lines.proofs.held.add_all.Goals as goal

pub loop-i-init : goal.loop-i-init
loop-i-init c = naming_first c.args.ops.now c.args.numbers.now

pub loop-i-preserved : goal.loop-i-preserved
loop-i-preserved c =
    naming_more c.args.ops.now c.loop-i.i _ c.args.numbers.now c.loop-i.numbers c.add_named.new.numbers
    (slice_get-get_or c.args.ops.now c.loop-i.i _ c.loop-i-test.true) c.loop-i.invariant c.in_ok-add_named.ensures

pub returns : goal.returns
returns c = naming_all c.args.ops.now c.loop-i.i c.args.numbers.now c.loop-i.numbers c.loop-i-test.false c.loop-i.invariant
