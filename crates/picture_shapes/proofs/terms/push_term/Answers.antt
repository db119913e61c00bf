-- The accesses of a process are told behind those of the processes before it.
use Rattle.std.proofs.Common.{ap, length}
use Rattle.picture_shapes.proofs.TermLemmas.{term_step}
use Rattle.picture_shapes.proofs.terms.push_term.Goals as goal

pub loop-who-preserved : goal.loop-who-preserved
loop-who-preserved c =
    term_step _ _ c.loop-who.who c.args.term.now _ _ _ _ c.as_slice.result.now _ _ _ _
    c.in_ok-steps.ensures.positions c.as_slice.ensures c.in_ok-steps.ensures.events (ap length c.as_slice-processes.ensures)
    c.loop-who.invariant c.in_ok-push_own.ensures
