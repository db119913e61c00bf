-- What is printed of a log that is lost in a window (this project's own).
use Rattle.std.specs.Prelude.{ℕ, ◌++◌, List, codes}
use Rattle.std.specs.List.{flat_map}
use Rattle.print_evidence.specs.Lost.{line_in}
use Rattle.reason_sentences.specs.Numbers.{number_text}
use Rattle.print_reasons.specs.Text.{line_text, place_lines}

-- the lines of the operations at these places
abbrev pub named_lines : List ℕ → List ℕ
named_lines places = codes "unlawful together" ++ place_lines places ++ codes "\n"

-- and as they stand in the log
abbrev pub shown_lines : List ℕ → List ℕ → List ℕ
shown_lines bytes places = flat_map (λ p. line_text p (line_in bytes p)) places

abbrev pub window_text : ℕ → ℕ → List ℕ
window_text first last =
    number_text (codes "From time ") first ++ number_text (codes " to time ") last
    ++ codes " no order of these is lawful, whatever the register held before.\n"
    ++ codes "Each other operation ended before, began after, or leaves no record that these ask for.\n"

-- the operations of a window from the first moment to the last one, and what holds of them
abbrev pub together_text : List ℕ → ℕ → ℕ → List ℕ → List ℕ
together_text bytes first last places = named_lines places ++ shown_lines bytes places ++ window_text first last
