-- A record that gets its number is of those that the log has, or one more.
use Rattle.watch_lines.proofs.NumberLemmas.{got_first}
use Rattle.watch_lines.proofs.number.number.Goals as goal

pub returns : goal.returns
returns c = λ all naming kept.
    got_first all naming _ _ c.in_ok-number.number c.args.records.now c.number.new.self c.fitted.ensures c.in_ok-number.ensures kept
