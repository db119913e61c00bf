-- Each end is known.
use Rattle.object_watch.proofs.Latest.{all_known}
use Rattle.object_watch.proofs.laws.last_end_shows_all.Goals as goal

pub returns : goal.returns
returns g c = all_known
