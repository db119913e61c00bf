-- The records stand for all.
use Rattle.std.proofs.Common.{ℕ, List, sym, subst}
use Rattle.object_window.specs.inner.Openings.{StandForAll}
use Rattle.object_window.proofs.loss.loss_of.Goals as goal

pub loss_from-requires : goal.loss_from-requires
loss_from-requires c =
    let P : List ℕ → Type 0 = λ z. StandForAll c.args.log.now z in subst P (sym c.as_slice.ensures.value) c.in-Ok.ensures
