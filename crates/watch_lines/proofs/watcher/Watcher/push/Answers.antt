-- The operation stands behind the others.
use Rattle.watch_lines.proofs.WatcherLemmas.{pushed}
use Rattle.std.proofs.Common.{refl}
use Rattle.watch_lines.proofs.watcher.Watcher.push.Goals as goal

pub returns-clause-pushed : goal.returns-clause-pushed
returns-clause-pushed c = λ s k here.
    pushed s c.args.self.now _ c.args.op c.in_ok-next.next c.args.line k here
    (c.in_ok-next.ensures.named s.records k.follows.naming k.follows.records) c.in_ok-self.ensures c.in_ok-take_lined.ensures.moment
    c.in_ok-take_lined.ensures.taken c.in_ok-take_lined.ensures.held c.in_ok-keep_key.ensures refl refl refl refl

pub returns-clause-kept : goal.returns-clause-kept
returns-clause-kept c =
    let s = c.requires.known.0 in
    let k = c.requires.known.1 in (c.in_ok-next.ensures.named s.records k.follows.naming k.follows.records).named.keeps
