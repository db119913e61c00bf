-- The records of a log in lines. They are compared as values, so each is known by its text: the compact JSON of a text,
-- or of an array of numbers; one number is the array of it (this project's own, over RFC 8259 as serde_json writes it).
use Rattle.std.specs.Prelude.{ℕ, ◌++◌, ◌&&◌, List, length, codes, Bool, nat_le, is_some, if◌then◌else◌}
use Rattle.std.specs.Prelude.{Option, Some, None, option_map}
use Rattle.std.specs.Fmt.{decimal}
use Rattle.std.specs.List.{list_all}
use Rattle.std.specs.Option.{option_map_or}
use Rattle.serde_json.specs.Data.{Data}
use Rattle.serde_json.specs.Find.{as_str}
use Rattle.serde_json.specs.Written.{compact_text}
use Rattle.read_document.specs.Values.{as_items, as_whole}

abbrev pub is_whole : Data → Bool
is_whole d = is_some (as_whole d)

-- 1 to 64 whole numbers
abbrev pub are_numbers : List Data → Bool
are_numbers ds = nat_le 1 (length ds) && nat_le (length ds) 64 && list_all is_whole ds

-- a text or an array of numbers, whose record has the value's own text
abbrev pub is_kept : Data → Bool
is_kept d = option_map_or are_numbers (as_items d) (is_some (as_str d))

-- the text of an array of numbers, or of one number
abbrev pub numbers_text : Option (List Data) → Data → Option (List ℕ)
numbers_text (Some ds) d = if are_numbers ds then Some (compact_text d) else None
numbers_text None d = option_map (λ n. codes "[" ++ decimal n ++ codes "]") (as_whole d)

-- the text of a record, or nothing where the value is none
abbrev pub record_text : Data → Option (List ℕ)
record_text d = if is_some (as_str d) then Some (compact_text d) else numbers_text (as_items d) d
