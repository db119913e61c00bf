-- Pieces behind a text are it and their own text.
use Rattle.std.proofs.Common.{◌≡◌, ◌∙◌, ◌++◌, [], ◌∷◌, ℕ, List, ap, append_assoc, append-nil, refl, sym}
use Rattle.reason_sentences.specs.Pieces.{piece_text, pieces_behind, pieces_text}
use Rattle.reason_sentences.specs.declared.pieces.Piece.{Piece}

pub behind : (start : List ℕ) (pieces : List Piece) → pieces_behind start pieces ≡ start ++ pieces_text pieces
behind start pieces = ap (λ (l : List ℕ). pieces_behind l pieces) (sym (append-nil start)) ∙ split start [] pieces
  where
    split : (start text : List ℕ) (pieces : List Piece) → pieces_behind (start ++ text) pieces ≡ start ++ pieces_behind text pieces
    split start text [] = refl
    split start text (p ∷ ps) = ap (λ (l : List ℕ). pieces_behind l ps) (append_assoc start text (piece_text p))
        ∙ split start (text ++ piece_text p) ps
