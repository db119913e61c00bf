-- What the search of the kept operations answers is true of the whole log.
use Rattle.std.proofs.Common.{◌∙◌}
use Rattle.history_thinning.proofs.Ends.{lawful_end, unlawful_end}
use Rattle.history_thinning.proofs.answer.answer_of.Goals as goal

pub returns-in_ok-writes-in-Order : goal.returns-in_ok-writes-in-Order
returns-in_ok-writes-in-Order c = λ answered limit log thin. (
  lawful_end limit log c.args.thinned.now thin c.args.search c.in-Order.order answered
      c.in-Order.is c.as_slice-ops.result.now
      c.as_slice-places.result.now c.as_slice.result.now c.in_ok-writes-in-Order.writes.items
      c.new.result c.as_slice-ops.ensures c.as_slice-places.ensures
      (c.as_slice.ensures.value ∙ c.into_vec-listed.ensures) c.in_ok-writes-in-Order.ensures c.new.ensures,
  tt,
)

pub returns-in-Unlawful : goal.returns-in-Unlawful
returns-in-Unlawful c = λ answered limit log thin.
    unlawful_end limit log c.args.thinned.now thin c.args.search c.in-Unlawful.reason
    answered c.in-Unlawful.is c.as_slice-places.result.now
    c.reason_in.result c.as_slice-places.ensures c.reason_in.ensures
