-- The text so far with the pieces left behind it is the whole.
use Rattle.std.proofs.Common.{◌≡◌, drop}
use Rattle.reason_sentences.specs.Pieces.{pieces_behind}
use Rattle.reason_sentences.proofs.pieces.push_pieces.Given as goal

abbrev pub invariant-loop-piece : goal.invariant-loop-piece
invariant-loop-piece l = pieces_behind l.text.items (drop l.piece-index l.pieces) ≡ pieces_behind l.initial.text.items l.pieces
