-- The latest beginnings so far are the earliest points exactly where no operation ends before its own.
use Rattle.history_explain.proofs.PointLemmas.{made_earliest, made_length, made_none}
use Rattle.history_explain.proofs.point.points.Goals as goal

pub are_reached-requires : goal.are_reached-requires
are_reached-requires g c = made_length c.as_slice-ops.result.now c.args.order.now _ _ c.in_ok-points.ensures c.as_slice.ensures.value

pub returns-then-are_reached : goal.returns-then-are_reached
returns-then-are_reached g c =
    made_earliest _ _ _ _ _ _ c.as_slice-ops.ensures c.in_ok-points.ensures c.as_slice.ensures.value c.new.ensures
    (c.are_reached.ensures.0 c.if-are_reached.true)

pub returns-else-are_reached : goal.returns-else-are_reached
returns-else-are_reached g c =
    made_none _ _ _ _ _ c.as_slice-ops.ensures c.in_ok-points.ensures c.as_slice.ensures.value (λ r.
    let yes = c.are_reached.ensures.1 r in
    cc)
