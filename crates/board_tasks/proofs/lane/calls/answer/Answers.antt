-- What was seen is what the call tells.
use Rattle.std.proofs.Common.{refl, sym, subst}
use Rattle.board_tasks.specs.declared.lane.Reply.TheVariants.{Written, Seen, Ended}
use Rattle.board_tasks.specs.Tasks.{Replies}
use Rattle.board_tasks.proofs.lane.calls.answer.Goals as goal

pub returns-in-Read-clause-entry : goal.returns-in-Read-clause-entry
returns-in-Read-clause-entry g c = record {
  of = c.read.ensures.pass;
  seen = c.read.result;
  call = c.read.ensures.call;
  replies = subst (λ w. Replies c.args.board.now.limit c.args.pass.now.process w c.read.result c.read.new.pass.own (Seen c.read.result))
      (sym c.in-Read.is) (refl, c.read.ensures.chosen);
}

pub returns-in-Ok-clause-entry : goal.returns-in-Ok-clause-entry
returns-in-Ok-clause-entry g c = record {
  of = c.in-Ok.ensures.pass;
  seen = c.in-Ok.ensures.call.0;
  call = c.in-Ok.ensures.call.1;
  replies = subst (λ w. Replies c.args.board.now.limit c.args.pass.now.process w c.in-Ok.ensures.call.0 c.write.new.pass.own
      (Written c.in-Ok.stamp)) (sym c.in-Write.is) c.in-Ok.ensures.call.2;
}

pub returns-in-Err-clause-entry : goal.returns-in-Err-clause-entry
returns-in-Err-clause-entry g c = record {
  of = c.in-Err.ensures.pass;
  seen = c.in-Err.ensures.call.0;
  call = c.in-Err.ensures.call.1;
  replies = subst (λ w. Replies c.args.board.now.limit c.args.pass.now.process w c.in-Err.ensures.call.0 c.write.new.pass.own
      (Ended c.in-Err.ended.seen)) (sym c.in-Write.is) c.in-Err.ensures.call.2;
}
