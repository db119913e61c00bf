-- A block with an operation that stands too often or too seldom breaks the rule.
use Rattle.std.proofs.Common.{◌*◌, arith, inl, inr, refl}
use Rattle.std.proofs.lemmas.Bool.{cases_lt}
use Rattle.std.proofs.lemmas.Option.{slice_get_within}
use Rattle.history_check.proofs.check.listing.stands.Goals as goal

pub returns-then-not-block_stands : goal.returns-then-not-block_stands
returns-then-not-block_stands g c = (
  λ t. cc,
  λ each. let yes = c.block_stands.ensures.1 (λ p o bp pe e. each p o (omega arith) (slice_get_within c.args.ops.now p o e) e) in cc,
)

pub loop-block-init : goal.loop-block-init
loop-block-init g c = λ p o zero below at. absurd (omega (arith, below))

pub block_stands-requires-clause-places : goal.block_stands-requires-clause-places
block_stands-requires-clause-places g c = c.requires

pub block_stands-requires-clause-base_in : goal.block_stands-requires-clause-base_in
block_stands-requires-clause-base_in g c = omega (arith, c.loop-block-test.true)

pub loop-block-preserved : goal.loop-block-preserved
loop-block-preserved g c =
    let block = c.block_stands.ensures.0 c.if-not-block_stands.false in
    λ p o zero below at. elim (cases_lt p (c.loop-block.block * 4096)) [
      | inl lt ↦ c.loop-block.invariant p o zero lt at
      | inr le ↦ block p o le (omega arith) at
    ]

pub returns : goal.returns
returns g c =
    (λ t p o zero below at. c.loop-block.invariant p o zero (omega (arith, below, c.loop-block-test.false)) at, λ each. refl)
