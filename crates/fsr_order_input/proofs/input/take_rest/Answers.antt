-- Each piece follows those before it, and one more came only where these didn't end in too much white space.
use Rattle.std.proofs.Common.{sym, ◌∙◌}
use Rattle.text_lines.specs.Words.{text_in}
use Rattle.fsr_order_input.proofs.RestLemmas.{adds_rest, keeps_space, takes_rest}
use Rattle.fsr_order_input.proofs.input.take_rest.Goals as goal

pub returns-in-Err-clause-taken : goal.returns-in-Err-clause-taken
returns-in-Err-clause-taken g c =
    takes_rest _ _ _ (text_in c.args.front) (text_in c.rest.text) c.rest.more c.rest.invariant.0
    (sym c.goes_on.ensures ∙ c.rest-test.true) c.in-Err.ensures.taken

pub rest-preserved : goal.rest-preserved
rest-preserved g c = (
  adds_rest _ _ _ (text_in c.args.front) (text_in c.rest.text) (text_in c.take_piece.new.text) c.in-Ok.more c.rest.invariant.0
      c.in-Ok.ensures.taken,
  c.in-Ok.ensures.taken.4,
  λ few. keeps_space _ _ (text_in c.rest.text) (text_in c.take_piece.new.text) c.rest.more c.in-Ok.more
      (sym c.goes_on.ensures ∙ c.rest-test.true) c.in-Ok.ensures.taken,
  c.in-Ok.ensures.counts ∙ c.rest.invariant.3,
)
