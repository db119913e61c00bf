-- What the words of the program that has the command `order` alone ask for (this project's own).
use Rattle.std.specs.Prelude.{ℕ, List, [], ◌∷◌, codes, true, Option, Some, None, option_map, if◌then◌else◌}
use Rattle.std.specs.Str.{bytes_eq}
use Rattle.program_runs.specs.Shows.{budget_of, plain}
use Rattle.program_runs.specs.declared.show.Show.{Show}

-- a word asks for the writes in order, for a small log, or for a status of its own where little is shown
abbrev pub show_named : List ℕ → Option Show
show_named word = if bytes_eq word (codes "--order") then Some (record plain { order = true })
    else (if bytes_eq word (codes "--small") then Some (record plain { small = true })
    else (if bytes_eq word (codes "--strict") then Some (record plain { strict = true }) else None))

abbrev pub plain_within : Option ℕ → Option Show
plain_within budget = option_map (λ most. record plain { budget = most }) budget

-- a word that says how many configurations may be held, and their number
abbrev pub show_within : List ℕ → List ℕ → Option Show
show_within word number = if bytes_eq word (codes "--budget") then plain_within (budget_of number) else None

-- behind the program's name stands no word, or one that asks for something, or one with a number
abbrev pub show_of : List (List ℕ) → Option Show
show_of (name ∷ []) = Some plain
show_of (name ∷ word ∷ []) = show_named word
show_of (name ∷ word ∷ number ∷ []) = show_within word number
show_of words = None
