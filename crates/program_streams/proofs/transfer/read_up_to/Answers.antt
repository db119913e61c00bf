-- What a call took follows what was taken before it, also where the call failed, and is within the bound with it.
use Rattle.std.proofs.Common.{inr, subst, ◌∙◌, ◌<◌}
use Rattle.program_streams.proofs.TransferLemmas.{adds_piece, nearer, takes_piece}
use Rattle.program_streams.proofs.transfer.read_up_to.Goals as goal

pub returns-in-Err-clause-taken : goal.returns-in-Err-clause-taken
returns-in-Err-clause-taken g c = takes_piece _ _ _ c.args.bytes.now.items c.input.bytes.items
    c.args.most c.input.invariant.0 c.in-Err.ensures.more

pub input-smaller : goal.input-smaller
input-smaller g c = nearer _ _ c.input.bytes.items c.take_more.new.bytes.items c.args.most c.in-Ok.field-0
    c.in-Ok.ensures.more (subst (λ z. z < c.args.most) (c.len.ensures ∙ c.input.bytes.ok.0) c.input-test.true)
    c.in-Ok.field-0-test.1

pub input-preserved : goal.input-preserved
input-preserved g c = (
  adds_piece _ _ _ c.args.bytes.now.items c.input.bytes.items c.take_more.new.bytes.items c.args.most c.in-Ok.field-0
      c.input.invariant.0 c.in-Ok.ensures.more,
  λ fits. c.in-Ok.ensures.more.3,
  c.in-Ok.ensures.counts ∙ c.input.invariant.2,
)

pub returns-in-Ok-eq0-clause-taken : goal.returns-in-Ok-eq0-clause-taken
returns-in-Ok-eq0-clause-taken g c =
    let all = adds_piece _ _ _ c.args.bytes.now.items c.input.bytes.items c.take_more.new.bytes.items c.args.most
    c.in-Ok-eq0.field-0 c.input.invariant.0 c.in-Ok-eq0.ensures.more in
    (all.0, all.1, all.2, inr (c.in-Ok-eq0.ensures.more.5 c.in-Ok-eq0.field-0-test), λ fits. c.in-Ok-eq0.ensures.more.3)
