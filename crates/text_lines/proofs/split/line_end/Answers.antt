-- A line feed was found there, or there is none.
use Rattle.text_lines.proofs.SplitLemmas.{feed_found, feed_missing}
use Rattle.text_lines.proofs.split.line_end.Goals as goal

pub returns-in-Some : goal.returns-in-Some
returns-in-Some c = feed_found c.args.bytes.now c.in-Some.end c.in-Some.ensures

pub returns-in-None : goal.returns-in-None
returns-in-None c = feed_missing c.args.bytes.now c.in-None.ensures
