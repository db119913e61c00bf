-- Each step is possible from both.
use Rattle.object_window.proofs.Alike.{unasked}
use Rattle.object_window.proofs.laws.unasked_are_alike.Goals as goal

pub returns : goal.returns
returns c = unasked
