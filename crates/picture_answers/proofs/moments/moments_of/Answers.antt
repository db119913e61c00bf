-- The moments of all operations, in their order.
use Rattle.std.proofs.Common.{ℕ, List, subst, sym}
use Rattle.std.specs.List.{Contains}
use Rattle.picture_answers.proofs.moments.moments_of.Goals as goal

pub returns : goal.returns
returns c = record {
  rise = c.put_in_order.ensures.rise;
  all = λ moment has.
      c.put_in_order.ensures.all moment (subst (λ (l : List ℕ). Contains l moment) (sym c.in_ok-moments.ensures) has);
  only = λ moment has.
      subst (λ (l : List ℕ). Contains l moment) c.in_ok-moments.ensures (c.put_in_order.ensures.only moment has);
}
