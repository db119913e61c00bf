-- Nothing looks at what it leaves.
use Rattle.std.proofs.Common.{inr}
use Rattle.object_window.proofs.window.is_free.Goals as goal

pub returns : goal.returns
returns c h = inr (inr (c.is_unseen.ensures h))
