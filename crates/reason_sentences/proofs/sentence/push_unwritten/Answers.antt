-- The pieces are the sentence.
use Rattle.reason_sentences.proofs.sentence.push_unwritten.Goals as goal

pub returns : goal.returns
returns c = c.push_pieces.ensures
