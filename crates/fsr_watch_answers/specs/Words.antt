-- What the words of the program that has the command `watch` alone ask for (this project's own).
use Rattle.std.specs.Prelude.{ℕ, List, [], ◌∷◌, codes, Option, Some, None, if◌then◌else◌}
use Rattle.std.specs.Str.{bytes_eq}
use Rattle.program_runs.specs.Shows.{budget_of, usual_budget}

-- a word that says how many configurations may be held, and their number
abbrev pub budget_named : List ℕ → List ℕ → Option ℕ
budget_named word number = if bytes_eq word (codes "--budget") then budget_of number else None

-- behind the program's name stands no word, or that
abbrev pub budget_in : List (List ℕ) → Option ℕ
budget_in (name ∷ []) = Some usual_budget
budget_in (name ∷ word ∷ number ∷ []) = budget_named word number
budget_in words = None
