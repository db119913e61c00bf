-- The element that is read is the one at its place.
use Rattle.std.proofs.Common.{refl}
use Rattle.std.proofs.lemmas.Option.{slice_get-get_or}
use Rattle.matrix_core.proofs.progress.done_at.Goals as goal

pub returns-clause-at : goal.returns-clause-at
returns-clause-at g c = (_, slice_get-get_or c.args.lines.now c.args.process c.index-lines-process.result c.requires.process, refl)

pub returns-clause-inside : goal.returns-clause-inside
returns-clause-inside g c =
    c.requires.inside c.args.process _ (slice_get-get_or c.args.lines.now c.args.process c.index-lines-process.result c.requires.process)
