-- The pieces are the line.
use Rattle.print_reasons.proofs.text.push_line.Goals as goal

pub returns : goal.returns
returns c = c.push_pieces.ensures
