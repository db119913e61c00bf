-- The pieces are the sentence.
use Rattle.reason_sentences.proofs.crossed.push_replaced.Goals as goal

pub returns : goal.returns
returns c = c.push_pieces.ensures
