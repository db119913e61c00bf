-- The text ends in the white space that its codes end in.
use Rattle.fsr_order_input.proofs.RestLemmas.{goes_on_by_codes}
use Rattle.fsr_order_input.proofs.input.goes_on.Goals as goal

pub returns-then-more : goal.returns-then-more
returns-then-more c =
    goes_on_by_codes c.args.more c.args.text.now.packed c.args.text.now.codes.items c.as_slice.result.now c.ends_in_space.result
    c.if-more.true c.as_slice.ensures.value c.ends_in_space.ensures
