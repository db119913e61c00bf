-- The numbers of the records of a log: each record that was met has its place among them (this project's own).
use Rattle.std.specs.Prelude.{◌≡◌, ℕ, List, slice_get, Some}
use Rattle.kept_lines.specs.Numberings.{AreDistinct, MeetsRecord}
use Rattle.kept_lines.specs.declared.numbers.RecordNumbers.{RecordNumbers}
use Rattle.kept_lines.specs.inner.Linked.{AreLinked}
use Rattle.kept_lines.specs.inner.Texts.{AreTexts}

-- these are the records that were met, each once, with their places for numbers
pub record AreNumbered (records : List (List ℕ)) (numbers : RecordNumbers) : Type 0 where
  pub distinct : AreDistinct records
  pub texts : AreTexts records numbers.texts
  pub links : AreLinked records numbers.links

-- this number was given to the record
pub record GaveRecord (records : List (List ℕ)) (text : List ℕ) (n : ℕ) (numbers : RecordNumbers) : Type 0 where
  pub after : List (List ℕ)
  pub meets : MeetsRecord records text after
  pub at : slice_get after n ≡ Some text
  pub numbered : AreNumbered after numbers
