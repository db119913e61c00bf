-- The log that lines stand for: an operation a line, and a number for each record (this project's own).
use Rattle.std.specs.Prelude.{◌≡◌, ℕ, ◌-◌, ◌==◌, List, [], ◌∷◌, ◌++◌, length, take, Bool, true, false, ◌||◌}
use Rattle.std.specs.Prelude.{not, if◌then◌else◌, slice_get}
use Rattle.std.specs.Prelude.{Option, None, Some, is_none, is_some, unwrap_or, Result, Ok, Err}
use Rattle.std.specs.List.{count_by}
use Rattle.std.specs.Str.{bytes_eq}
use Rattle.history_core.specs.declared.history.Kind.{Kind}
use Rattle.history_core.specs.declared.history.Kind.TheVariants.{Write, Read, Refused}
use Rattle.history_core.specs.declared.history.Op.{Op}
use Rattle.program_streams.specs.Spaces.{ends_in_space, space_behind}
use Rattle.read_document.specs.declared.refusal.DocError.{DocError}
use Rattle.read_document.specs.declared.refusal.DocError.TheVariants.{Law, Missing, Shape}
use Rattle.read_document.specs.declared.key.Key.TheVariants as key
use Rattle.read_document.specs.Refusals.{◌>>=◌}
use Rattle.history_thinning.specs.Thinnings.{IsThinnedLog}
use Rattle.kept_lines.specs.declared.lines_log.LinesLog.{LinesLog}
use Rattle.kept_lines.specs.Numberings.{AreDistinct}
use Rattle.kept_lines.specs.Reads.{WereRead}
use Rattle.text_lines.specs.Splits.{lines_of}
use Rattle.kept_lines.specs.Tasks.{TakeTurns}
use Rattle.read_line.specs.Lines.{LineEntry, operation, done, entry_of, Head, head_of}

-- what the lines behind a header are judged by: whether it has a limit, and the key of the first operation
pub record LineRule : Type 0 where
  pub limited : Bool
  pub key : Option (List ℕ)

abbrev pub key_said : Result LineEntry DocError → Option (List ℕ)
key_said (Ok (operation o)) = o.key
key_said (Ok (done ops)) = None
key_said (Err why) = None

-- the key of the operation on the first of these lines, if it has one
abbrev pub first_key : List (List ℕ) → Option (List ℕ)
first_key [] = None
first_key (line ∷ lines) = key_said (entry_of line)

abbrev pub rule_in : Head → List (List ℕ) → LineRule
rule_in head body = record { limited = is_some head.limit; key = first_key body }

abbrev pub same_key : Option (List ℕ) → Option (List ℕ) → Bool
same_key None None = true
same_key None (Some other) = false
same_key (Some key) None = false
same_key (Some key) (Some other) = bytes_eq key other

abbrev pub is_refused : Kind → Bool
is_refused Write = false
is_refused Read = false
is_refused Refused = true

-- What a line is behind so many operations: an operation, or the end of the log. All operations have one key,
-- or none. A write is refused only where the header has a limit, and the end stands on the last line, with
-- the number of the operations.
abbrev pub judged : LineRule → ℕ → Bool → LineEntry → Result (Option (Op (List ℕ))) DocError
judged rule count last (operation o) =
    if same_key rule.key o.key
    then (if rule.limited || not (is_refused o.op.kind) then Ok (Some o.op) else Err (Missing key.Limit))
    else Err (Law key.Key)
judged rule count last (done ops) = if last then (if ops == count then Ok None else Err (Law key.Ops))
    else Err (Shape key.Kind)

abbrev pub judged_line : LineRule → ℕ → Bool → List ℕ → Result (Option (Op (List ℕ))) DocError
judged_line rule count last line = entry_of line >>= judged rule count last

-- the number of a record, where there is one
abbrev pub IsItem : List (List ℕ) → Option (List ℕ) → Option ℕ → Type 0
IsItem records None None = Unit {0}
IsItem records None (Some n) = ⊥
IsItem records (Some text) None = ⊥
IsItem records (Some text) (Some n) = slice_get records n ≡ Some text

-- an operation with the number of its record in place of its text
pub record IsNumberedOp (records : List (List ℕ)) (said : Op (List ℕ)) (op : Op ℕ) : Type 0 where
  pub who : op.who ≡ said.who
  pub kind : op.kind ≡ said.kind
  pub starts : op.starts ≡ said.starts
  pub ends : op.ends ≡ said.ends
  pub item : IsItem records said.item op.item

-- these operations stand on these lines, where these are the records
pub record AreLines (rule : LineRule) (lines records : List (List ℕ)) (log : List (Op ℕ)) : Type 0 where
  pub long : length log ≡ length lines
  pub each : (p : ℕ) (line : List ℕ) (op : Op ℕ) → slice_get lines p ≡ Some line → slice_get log p ≡ Some op →
      (said : Op (List ℕ)) × (last : Bool) × (judged_line rule p last line ≡ Ok (Some said))
      × IsNumberedOp records said op

-- the lines behind the header are those of the operations, and the end if it is there
abbrev pub AreAll : LineRule → Bool → List (List ℕ) → List (List ℕ) → Type 0
AreAll rule false body lines = body ≡ lines
AreAll rule true body lines = (end : List ℕ) × (body ≡ lines ++ end ∷ [])
    × (judged_line rule (length lines) true end ≡ Ok None)

-- The text of a log: white space behind its last line is left out, unless there is too much of it. Then it
-- stays, as lines that are none.
abbrev pub text_of : List ℕ → List ℕ
text_of bytes = if ends_in_space bytes then bytes else take (length bytes - space_behind bytes) bytes

-- The log that bytes stand for: each record has its place among these for its number, and the opening is the first. Of
-- two operations of one task the first has ended before the second begins.
pub record IsLog (bytes : List ℕ) (head : Head) (records : List (List ℕ)) (log : List (Op ℕ)) : Type 0 where
  pub header : List ℕ
  pub body : List (List ℕ)
  pub lines : List (List ℕ)
  pub split : lines_of (text_of bytes) ≡ header ∷ body
  pub said : head_of header ≡ Ok head
  pub ended : Bool
  pub all : AreAll (rule_in head body) ended body lines
  pub are : AreLines (rule_in head body) lines records log
  pub opening : slice_get records 0 ≡ Some head.opening
  pub distinct : AreDistinct records
  pub turns : TakeTurns log

abbrev pub unfinished_in : List (Op ℕ) → ℕ
unfinished_in ops = count_by (λ o. is_none o.ends) ops

-- what is kept of this log: few of its operations, under the header's limit, four counts, and whether its end is there
pub record IsLinesLog (bytes : List ℕ) (log : List (Op ℕ)) (read : LinesLog) : Type 0 where
  pub head : Head
  pub records : List (List ℕ)
  pub is : IsLog bytes head records log
  pub thinned : IsThinnedLog (unwrap_or head.limit 1) log read.thinned
  pub ops : read.ops ≡ length log
  pub unfinished : read.unfinished ≡ unfinished_in log
  pub count : read.records ≡ length records
  pub given : WereRead log read.read
  pub ended : read.ended ≡ is.ended
