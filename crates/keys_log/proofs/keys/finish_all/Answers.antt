-- One key more is given.
use Rattle.std.proofs.Common.{◌∷◌, [], ◌++◌, List, subst, sym}
use Rattle.kept_lines.specs.declared.keys_log.KeyLog.{KeyLog}
use Rattle.keys_log.specs.inner.KeyReadings.{AreFinished}
use Rattle.keys_log.proofs.KeyBodyLemmas.{finished_more}
use Rattle.keys_log.proofs.keys.finish_all.Goals as goal

pub readers-preserved : goal.readers-preserved
readers-preserved c =
    subst (λ (logs : List KeyLog). AreFinished c.args.limit c.args.ended (c.readers.yielded ++ c.in-Some.one ∷ []) logs)
    (sym c.in_ok-push.ensures.items)
    (finished_more c.args.limit c.args.ended c.readers.yielded c.readers.logs.items c.in-Some.one c.in_ok-log.log
    c.readers.invariant c.in_ok-log.ensures)
