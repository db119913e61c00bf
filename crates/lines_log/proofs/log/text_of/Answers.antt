-- White space is left out where it isn't too much.
use Rattle.std.proofs.Common.{sym, ◌∙◌}
use Rattle.lines_log.proofs.TextLemmas.{left_out}
use Rattle.lines_log.proofs.log.text_of.Goals as goal

pub returns-else-ends_in_space : goal.returns-else-ends_in_space
returns-else-ends_in_space c =
    left_out c.args.bytes.now c.trim_ascii_end.result.now c.trim_ascii_end.ensures.value
    (sym c.ends_in_space.ensures ∙ c.if-ends_in_space.false)
