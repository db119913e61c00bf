-- What is found is nothing exactly where the logs are sound.
use Rattle.std.proofs.Common.{◌∙◌, refl, arith}
use Rattle.std.proofs.lemmas.List.{take_all}
use Rattle.soak_rounds.specs.Scripts.{reads_of, writes_of}
use Rattle.soak_rounds.proofs.BoardLists.{counted_more}
use Rattle.soak_rounds.proofs.Origins.{not_both}
use Rattle.soak_rounds.proofs.boards.look.Goals as goal

pub loop-lane-preserved : goal.loop-lane-preserved
loop-lane-preserved g c =
    let at = c.lane-item.is in
    record {
      writes = rw (c.saturating_add-writes.ensures, c.writes_of.ensures, c.log.ensures, c.loop-lane.invariant.writes)
          (counted_more writes_of (λ l. l.log.items) c.args.lanes.now c.loop-lane.lane-index c.lane-item.result (omega arith) at);
      reads = rw (c.saturating_add-reads.ensures, c.reads_of.ensures, c.log-in-loop-lane.ensures, c.loop-lane.invariant.reads)
          (counted_more reads_of (λ l. l.log.items) c.args.lanes.now c.loop-lane.lane-index c.lane-item.result (omega arith) at);
    }

pub returns-in-Broken : goal.returns-in-Broken
returns-in-Broken g c =
    let whole = take_all c.loop-lane.lane-index c.args.lanes.now (omega arith) in
    record {
      writes = c.loop-lane.invariant.writes ∙ rw whole refl;
      reads = c.loop-lane.invariant.reads ∙ rw whole refl;
      found = (λ none. cc, λ sound. absurd (not_both _ _ _ c.in-Broken.task c.in-Broken.call c.in-Broken.ensures.origin sound));
    }

pub returns-in-Sound : goal.returns-in-Sound
returns-in-Sound g c =
    let whole = take_all c.loop-lane.lane-index c.args.lanes.now (omega arith) in
    record {
      writes = c.loop-lane.invariant.writes ∙ rw whole refl;
      reads = c.loop-lane.invariant.reads ∙ rw whole refl;
      found = (λ none. c.in-Sound.ensures.origin, λ sound. refl);
    }
