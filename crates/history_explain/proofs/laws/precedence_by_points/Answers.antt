-- An operation that ends before a beginning that stands before it would have its point before that one's; and without such a one
-- the latest beginning so far is a point.
use Rattle.history_explain.proofs.PointLemmas.{kept_points, points_keep}
use Rattle.history_explain.proofs.laws.precedence_by_points.Goals as goal

pub returns : goal.returns
returns g c = λ ops order. (points_keep ops order, λ h. kept_points ops order h.0 h.1)
