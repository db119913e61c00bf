-- The floor rises if it is a higher one.
use Rattle.watch_lines.proofs.WatcherLemmas.{forgets_none, forgets_risen, rises_later, rises_not}
use Rattle.std.proofs.Common.{ap, sym, ◌∙◌}
use Rattle.watch_lines.specs.Tasks.{moment_of}
use Rattle.watch_lines.proofs.watcher.Watcher.rise_if.Goals as goal

pub rise-requires : goal.rise-requires
rise-requires c =
    let k = c.requires.known.1 in
    record {
      known = c.requires.known;
      later = rises_later c.args.self.watch.moment c.moment_of.result c.moment_of-2.result (moment_of c.args.self.high)
          (moment_of c.args.high) (k.moment ∙ sym (ap moment_of k.high)) c.moment_of.ensures c.moment_of-2.ensures
          c.if-moment_of.false c.requires.no_lower;
    }

pub returns-then-moment_of-clause-rises : goal.returns-then-moment_of-clause-rises
returns-then-moment_of-clause-rises c = λ s k.
    rises_not s c.args.self c.args.high k (sym c.moment_of.ensures ∙ (c.if-moment_of.true ∙ c.moment_of-2.ensures))

pub returns-then-moment_of-clause-forgets : goal.returns-then-moment_of-clause-forgets
returns-then-moment_of-clause-forgets c =
    forgets_none c.args.self (record c.args.self { high = c.args.high })
    (sym c.moment_of.ensures ∙ (c.if-moment_of.true ∙ c.moment_of-2.ensures))

pub returns-clause-forgets : goal.returns-clause-forgets
returns-clause-forgets c = forgets_risen c.args.self c.rise.result c.rise.ensures.forgets
