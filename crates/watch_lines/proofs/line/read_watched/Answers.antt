-- What the line says runs forwards.
use Rattle.watch_lines.proofs.ForwardLemmas.{forwards_if}
use Rattle.std.proofs.Common.{sym, ◌∙◌}
use Rattle.watch_lines.proofs.line.read_watched.Goals as goal

pub returns-clause-forwards : goal.returns-clause-forwards
returns-clause-forwards c =
    forwards_if c.args.bytes.now _ c.watched_in.result (sym c.is_blank.ensures ∙ c.if-is_blank.false)
    c.in_ok-value.ensures c.watched_in.ensures
