-- Nothing is known of a log yet.
use Rattle.std.proofs.Common.{refl}
use Rattle.watch_lines.proofs.WatcherLemmas.{knows_opened}
use Rattle.watch_lines.specs.WatchHeads.{header_seen}
use Rattle.watch_lines.proofs.watcher.Watcher.new.Goals as goal

pub returns : goal.returns
returns c =
    knows_opened (header_seen c.args.header) _ refl c.in_ok-records.ensures c.in_ok-watch.ensures.opened
    c.in_ok-watch.ensures.moment c.in_ok-watch.ensures.held refl refl refl c.none.ensures refl
