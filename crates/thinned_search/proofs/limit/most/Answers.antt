-- Each search tells on which side of its limit the greatest is, and at last two limits stand side by side.
use Rattle.std.proofs.Common.{rules, tests, subst, inr, Bool, ◌≤◌, ◌-◌}
use Rattle.thinned_search.specs.Limits.{IsLawfulUnder}
use Rattle.thinned_search.proofs.LimitLemmas.{is_most}
use Rattle.thinned_search.proofs.limit.most.Goals as goal

pub between-preserved-then-branch : goal.between-preserved-then-branch
between-preserved-then-branch c = record {
  known = λ own log thin none. record {
    reached = inr (subst (λ (b : Bool). IsLawfulUnder log c.middle-middle.result b) c.if-branch.true
        (c.in_ok-is_lawful_under.ensures own log thin));
    beyond = (c.between.invariant.known own log thin none).beyond;
  };
  ordered = search rules;
  apart = λ limited. c.middle-middle.ensures.below;
}

pub between-preserved : goal.between-preserved
between-preserved c = record {
  known = λ own log thin none. record {
    reached = (c.between.invariant.known own log thin none).reached;
    beyond = subst (λ (b : Bool). IsLawfulUnder log c.middle-middle.result b) c.if-branch.false
        (c.in_ok-is_lawful_under.ensures own log thin);
  };
  ordered = search rules;
  apart = λ limited. c.middle-middle.ensures.above;
}

pub returns : goal.returns
returns c = λ own log thin none limited.
    let past : c.between.high - c.between.low ≤ 1 = search (rules, tests) in
    is_most log c.between.low c.between.high (c.between.invariant.apart limited) past (c.between.invariant.known own log thin none)
