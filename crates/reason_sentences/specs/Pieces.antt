-- Sentences in pieces (this project's own).
use Rattle.std.specs.Prelude.{ℕ, ◌++◌, List, [], ◌∷◌}
use Rattle.reason_sentences.specs.Numbers.{number_text}
use Rattle.text_lines.specs.Places.{line_at}
use Rattle.reason_sentences.specs.declared.pieces.Piece.{Piece}
use Rattle.reason_sentences.specs.declared.pieces.Piece.TheVariants.{Words, Bytes, Line, Number}

abbrev pub piece_text : Piece → List ℕ
piece_text (Words words) = words.now
piece_text (Bytes bytes) = bytes.now
piece_text (Line words place) = number_text words.now (line_at place)
piece_text (Number words number) = number_text words.now number

-- these behind a text
abbrev pub pieces_behind : List ℕ → List Piece → List ℕ
pieces_behind text [] = text
pieces_behind text (piece ∷ pieces) = pieces_behind (text ++ piece_text piece) pieces

abbrev pub pieces_text : List Piece → List ℕ
pieces_text pieces = pieces_behind [] pieces
