-- The whole log that lines stand for (this project's own).
use Rattle.std.specs.Prelude.{◌≡◌, ℕ, List, length}
use Rattle.lines_log.specs.Logs.{IsLog, unfinished_in}
use Rattle.read_line.specs.Lines.{Head}
use Rattle.kept_lines.specs.Reads.{WereRead}
use Rattle.whole_log.specs.declared.whole_log.WholeLog.{WholeLog}

-- the operations of the log that bytes stand for, three counts, and whether its end is there
pub record IsWholeLog (bytes : List ℕ) (read : WholeLog) : Type 0 where
  pub head : Head
  pub records : List (List ℕ)
  pub is : IsLog bytes head records read.ops.items
  pub unfinished : read.unfinished ≡ unfinished_in read.ops.items
  pub count : read.records ≡ length records
  pub given : WereRead read.ops.items read.read
  pub ended : read.ended ≡ is.ended
