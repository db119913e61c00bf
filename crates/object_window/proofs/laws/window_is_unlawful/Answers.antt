-- What lies between the window's moments of a lawful order, without what is left out.
use Rattle.object_window.proofs.Picked.{unlawful}
use Rattle.object_window.proofs.laws.window_is_unlawful.Goals as goal

pub returns : goal.returns
returns c = unlawful
