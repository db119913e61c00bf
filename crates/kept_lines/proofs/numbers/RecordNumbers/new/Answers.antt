-- The opening alone has a number.
use Rattle.std.proofs.Common.{[]}
use Rattle.kept_lines.proofs.DistinctLemmas.{one_distinct}
use Rattle.kept_lines.proofs.numbers.RecordNumbers.new.Goals as goal

pub returns : goal.returns
returns c = record {
  distinct = one_distinct c.args.opening.now;
  texts = c.in_ok-push.ensures [] c.in_ok-texts.ensures;
  links = c.in_ok-enter.ensures [] c.in_ok-links.ensures;
}
