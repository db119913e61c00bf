-- One piece more stands behind the text, and at last all of them.
use Rattle.std.proofs.Common.{◌∙◌, ◌+◌, ℕ, List, ap, arith, drop, sym}
use Rattle.std.proofs.lemmas.List.{at_drop_all, at_drop_more}
use Rattle.reason_sentences.specs.Pieces.{pieces_behind}
use Rattle.reason_sentences.proofs.PieceLemmas.{behind}
use Rattle.reason_sentences.proofs.pieces.push_pieces.Goals as goal

pub returns : goal.returns
returns c = sym (at_drop_all (pieces_behind c.loop-piece.text.items) c.args.pieces.now c.loop-piece.piece-index
    (omega (arith, c.loop-piece-test.false))) ∙ c.loop-piece.invariant ∙ behind c.args.text.now.items c.args.pieces.now

pub loop-piece-preserved : goal.loop-piece-preserved
loop-piece-preserved c =
    ap (λ (l : List ℕ). pieces_behind l (drop (c.loop-piece.piece-index + 1) c.args.pieces.now)) c.in_ok-push_piece.ensures
    ∙ sym (at_drop_more (pieces_behind c.loop-piece.text.items) c.args.pieces.now c.loop-piece.piece-index _ c.loop-piece-test.true)
    ∙ c.loop-piece.invariant
