-- The marks tell that it can't, or all is compared.
use Rattle.std.proofs.Common.{List, ℕ, subst, IsTrue}
use Rattle.object_sweep.specs.inner.Steps.{Covers, sure_at}
use Rattle.object_sweep.proofs.held.covers.Goals as goal

pub returns-then-not-may_cover : goal.returns-then-not-may_cover
returns-then-not-may_cover g c = (
  λ t. cc,
  λ h. absurd (c.may_cover.ensures c.if-not-may_cover.true (sure_at c.args.log.now) c.requires h),
)

pub returns : goal.returns
returns g c =
    let P : List ℕ → Type 0 = λ z. (IsTrue c.covers_placed.result → Covers (sure_at c.args.log.now) c.args.one.now c.args.other.now.state z)
    × (Covers (sure_at c.args.log.now) c.args.one.now c.args.other.now.state z → IsTrue c.covers_placed.result) in
    subst P c.as_slice.ensures.value c.covers_placed.ensures
