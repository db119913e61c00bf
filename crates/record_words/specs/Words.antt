-- The words of a line of a log: the numbers that stand at the key `words`, else those of its record (this project's
-- own).
use Rattle.std.specs.Prelude.{ℕ, List, [], ◌∷◌, codes, Option, None, Some, Result, Ok, Err}
use Rattle.serde_json.specs.Data.{Data}
use Rattle.serde_json.specs.Find.{get}
use Rattle.read_document.specs.declared.refusal.DocError.{DocError}
use Rattle.read_document.specs.Document.{value_of}
use Rattle.read_document.specs.Values.{as_items, as_whole}

abbrev pub number_before : Option ℕ → List ℕ → List ℕ
number_before None numbers = []
number_before (Some n) numbers = n ∷ numbers

-- the whole numbers in front of the first value that is none
abbrev pub numbers_of : List Data → List ℕ
numbers_of [] = []
numbers_of (d ∷ ds) = number_before (as_whole d) (numbers_of ds)

abbrev pub one_number : Data → List ℕ
one_number d = number_before (as_whole d) []

abbrev pub numbers_by : Option (List Data) → Data → List ℕ
numbers_by None d = one_number d
numbers_by (Some ds) d = numbers_of ds

-- the numbers of an array, or one number
abbrev pub numbers_in : Data → List ℕ
numbers_in d = numbers_by (as_items d) d

abbrev pub numbers_found : Option Data → List ℕ
numbers_found None = []
numbers_found (Some d) = numbers_in d

abbrev pub numbers_at : List ℕ → Data → List ℕ
numbers_at key d = numbers_found (get key d)

abbrev pub first_words : List ℕ → List ℕ → List ℕ
first_words [] others = others
first_words (w ∷ ws) others = w ∷ ws

-- a record stands at this key
abbrev pub words_in : List ℕ → Data → List ℕ
words_in key d = first_words (numbers_at (codes "words") d) (numbers_at key d)

abbrev pub words_by : List ℕ → Result Data DocError → List ℕ
words_by key (Ok d) = words_in key d
words_by key (Err why) = []

abbrev pub words_of : List ℕ → List ℕ → List ℕ
words_of key line = words_by key (value_of line)
