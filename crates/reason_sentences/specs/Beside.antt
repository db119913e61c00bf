-- Which writes an operation could see, in words (this project's own).
use Rattle.std.specs.Prelude.{ℕ, ◌++◌, List, codes, if◌then◌else◌, length, nat_eq, nat_lt, slice_get, take, unwrap_or}
use Rattle.std.specs.List.{flat_map}
use Rattle.history_core.specs.declared.thinned.Thinned.{Thinned}
use Rattle.text_lines.specs.Places.{line_at}
use Rattle.reason_sentences.specs.KeptAt.{kept_at}
use Rattle.reason_sentences.specs.Numbers.{number_text}
use Rattle.reason_sentences.specs.Seen.{could_see, most_seen}

-- the place of a kept operation
abbrev pub place_at : List ℕ → ℕ → ℕ
place_at places kept = unwrap_or (slice_get places kept) 0

abbrev pub seen_line : List ℕ → ℕ → List ℕ
seen_line places kept = number_text (codes " ") (line_at (place_at places kept))

-- the lines of these kept operations
abbrev pub seen_lines : List ℕ → List ℕ → List ℕ
seen_lines places seen = flat_map (seen_line places) seen

-- whether that were all of so many
abbrev pub rest_text : ℕ → List ℕ
rest_text many =
    if nat_eq many 0 then codes " none.\n"
    else (if nat_lt most_seen many then codes " and more.\n" else codes ".\n")

abbrev pub seen_text : List ℕ → List ℕ → List ℕ
seen_text places seen =
    codes "Lines of the writes that it could see:" ++ seen_lines places (take most_seen seen) ++ rest_text (length seen)

-- the writes whose records the operation could have given
abbrev pub beside_text : Thinned → ℕ → List ℕ
beside_text thinned read = seen_text thinned.places (could_see thinned.history.ops (kept_at thinned.places read))
