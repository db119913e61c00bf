-- The numbers of the records of a log: each record that was met has its place among them (this project's own).
use Rattle.std.specs.Prelude.{◌≡◌, ℕ, List, length, slice_get, Some}
use Rattle.std.specs.BTreeMap.{btree_map_len, get_by_text}
use Rattle.kept_lines.specs.Numberings.{MeetsRecord}
use Rattle.exchanges_log.specs.declared.numbering.Numbering.{Numbering}

-- these are the records that were met, each once, with their places for numbers
pub record IsNumbering (records : List (List ℕ)) (numbering : Numbering) : Type 0 where
  pub found : (text : List ℕ) (n : ℕ) → get_by_text numbering.numbers text ≡ Some n → slice_get records n ≡ Some text
  pub known : (text : List ℕ) (n : ℕ) → slice_get records n ≡ Some text → get_by_text numbering.numbers text ≡ Some n
  pub long : btree_map_len numbering.numbers ≡ length records

-- this number was given to the record
pub record GaveNumber (records : List (List ℕ)) (text : List ℕ) (n : ℕ) (numbering : Numbering) : Type 0 where
  pub after : List (List ℕ)
  pub meets : MeetsRecord records text after
  pub at : slice_get after n ≡ Some text
  pub numbers : IsNumbering after numbering
