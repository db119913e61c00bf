-- Of which lines the words of a record are, at their places (this project's own). Such a record was given, and nobody
-- wrote it; a record that is torn has words of several writes.
use Rattle.std.specs.Prelude.{ℕ, ◌+◌, ◌++◌, List, [], ◌∷◌, codes, length, map, Bool, true, false, nat_eq}
use Rattle.std.specs.Prelude.{nat_lt, if◌then◌else◌, Option, None, Some, slice_get, unwrap_or}
use Rattle.std.specs.Fmt.{decimal}
use Rattle.std.specs.List.{flat_map}
use Rattle.text_lines.specs.Places.{line_at}
use Rattle.text_lines.specs.Splits.{lines_of}
use Rattle.record_words.specs.Words.{words_of}
use Rattle.record_words.specs.declared.line.LineWords.{LineWords}

-- ---- lines and their words

-- the line with so many in front of it; an empty one behind the last
abbrev pub line_in : List ℕ → ℕ → List ℕ
line_in bytes index = unwrap_or (slice_get (lines_of bytes) index) []

-- the words of the operation at a place; the header is the line in front of the first
abbrev pub record_words : List ℕ → ℕ → List ℕ
record_words bytes place = words_of (codes "record") (line_in bytes (place + 1))

abbrev pub words_at : List ℕ → ℕ → LineWords
words_at bytes place = record { line = line_at place; words = record_words bytes place }

abbrev pub opening_words : List ℕ → LineWords
opening_words bytes = record { line = 1; words = words_of (codes "opening") (line_in bytes 0) }

abbrev pub opening_line : Bool → List ℕ → List LineWords
opening_line true bytes = opening_words bytes ∷ []
opening_line false bytes = []

-- of the header, if that is asked for, and of the operations at these places
abbrev pub all_words : List ℕ → Bool → List ℕ → List LineWords
all_words bytes opening places = opening_line opening bytes ++ map (words_at bytes) places

-- ---- whose words they are

abbrev pub is_word : ℕ → Option ℕ → Bool
is_word word None = false
is_word word (Some own) = nat_eq own word

-- a line has this word at this place
abbrev pub has : ℕ → ℕ → LineWords → Bool
has place word line = is_word word (slice_get line.words place)

abbrev pub one_with : ℕ → ℕ → LineWords → List ℕ
one_with place word line = if has place word line then line.line ∷ [] else []

-- the lines that have it, by their numbers
abbrev pub lines_with : List LineWords → ℕ → ℕ → List ℕ
lines_with lines place word = flat_map (one_with place word) lines

-- ---- the text

abbrev pub line_name : ℕ → List ℕ
line_name line = if nat_eq line 1 then codes "the opening" else codes "line " ++ decimal line

-- what stands in front of the first of several, or of one behind so many others
abbrev pub gap_text : List ℕ → ℕ → List ℕ
gap_text first n = if nat_eq n 0 then first else codes ", "

-- lines, behind so many others
abbrev pub names_from : ℕ → List ℕ → List ℕ
names_from n [] = []
names_from n (line ∷ lines) = gap_text (codes " (") n ++ line_name line ++ names_from (n + 1) lines

abbrev pub names_text : List ℕ → List ℕ
names_text [] = codes " (no record that it could see)"
names_text (line ∷ lines) = names_from 0 (line ∷ lines) ++ codes ")"

abbrev pub word_text : List LineWords → ℕ → ℕ → List ℕ
word_text lines place word =
    gap_text (codes "Its words: ") place ++ decimal word ++ names_text (lines_with lines place word)

-- words, the first of which is at this place
abbrev pub words_text : List LineWords → ℕ → List ℕ → List ℕ
words_text lines place [] = []
words_text lines place (w ∷ ws) = word_text lines place w ++ words_text lines (place + 1) ws

-- nothing of one word
abbrev pub told_of : List LineWords → List ℕ → List ℕ
told_of lines words = if nat_lt (length words) 2 then [] else words_text lines 0 words ++ codes ".\n"

-- of which lines the words of the operation at this place are: these writes, and the header if that is asked for, are
-- looked at
abbrev pub origins_text : List ℕ → Bool → ℕ → List ℕ → List ℕ
origins_text bytes opening read writes = told_of (all_words bytes opening writes) (record_words bytes read)
