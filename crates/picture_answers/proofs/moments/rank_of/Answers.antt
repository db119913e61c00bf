-- The search finds the rank, or where the moment would stand.
use Rattle.picture_answers.proofs.MomentLemmas.{found_rank, missed_rank}
use Rattle.picture_answers.proofs.moments.rank_of.Goals as goal

pub returns-in-Ok : goal.returns-in-Ok
returns-in-Ok c = found_rank c.args.moments.now c.args.moment c.in-Ok.rank c.requires c.in-Ok.ensures.position

pub returns-in-Err : goal.returns-in-Err
returns-in-Err c = missed_rank c.args.moments.now c.args.moment c.in-Err.rank c.requires c.in-Err.ensures.position
