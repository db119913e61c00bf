-- Taking it and letting it go show.
use Rattle.test_objects.proofs.Effects.{letting_shows, taking_shows}
use Rattle.test_objects.proofs.lock.LockObject.is_pure.Goals as goal

pub returns-in-Took-clause-exact : goal.returns-in-Took-clause-exact
returns-in-Took-clause-exact c h = absurd (taking_shows c.args.what _ c.in-Took.is h)

pub returns-in-LetGo-clause-exact : goal.returns-in-LetGo-clause-exact
returns-in-LetGo-clause-exact c h = absurd (letting_shows c.args.what _ c.in-LetGo.is h)
