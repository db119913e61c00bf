-- The log of each key: its operations are some of the lines, and each has its place among all of them (this project's
-- own). Each key is a register of its own. That the whole is linearizable where each of them is: M. Herlihy and J.
-- Wing, Linearizability, 1990.
use Rattle.std.specs.Prelude.{◌≡◌, ℕ, suc, List, [], ◌∷◌, ◌++◌, length, Bool, if◌then◌else◌, slice_get}
use Rattle.std.specs.Prelude.{Option, Some, is_some, option_map, string_bytes, unwrap_or, Ok}
use Rattle.std.specs.List.{filter, list_any}
use Rattle.history_core.specs.declared.history.Op.{Op}
use Rattle.history_core.specs.Searches.{WritesOnce}
use Rattle.history_thinning.specs.Thinnings.{Equal, IsThinnedLog}
use Rattle.text_lines.specs.Splits.{lines_of}
use Rattle.read_line.specs.Lines.{entry_of, Head, head_of}
use Rattle.kept_lines.specs.Numberings.{AreDistinct}
use Rattle.kept_lines.specs.Reads.{WereRead}
use Rattle.kept_lines.specs.Tasks.{TakeTurns}
use Rattle.lines_log.specs.Logs.{AreAll, AreLines, first_key, key_said, LineRule, rule_in, same_key, text_of}
use Rattle.lines_log.specs.Logs.{unfinished_in}
use Rattle.kept_lines.specs.declared.keys_log.KeyLog.{KeyLog}
use Rattle.kept_lines.specs.declared.keys_log.KeysLog.{KeysLog}

-- the key of the operation on a line, if it has one
abbrev pub key_on : List ℕ → Option (List ℕ)
key_on line = key_said (entry_of line)

-- whether this line is of this key; those without one are of one register
abbrev pub is_of : Option (List ℕ) → List ℕ → Bool
is_of key line = same_key key (key_on line)

abbrev pub lines_of_key : Option (List ℕ) → List (List ℕ) → List (List ℕ)
lines_of_key key lines = filter (is_of key) lines

-- the places of the lines of a key, where the first of these lines is at place p
abbrev pub places_from : Option (List ℕ) → ℕ → List (List ℕ) → List ℕ
places_from key p [] = []
places_from key p (line ∷ lines) =
    if is_of key line then p ∷ places_from key (suc p) lines else places_from key (suc p) lines

abbrev pub places_of_key : Option (List ℕ) → List (List ℕ) → List ℕ
places_of_key key lines = places_from key 0 lines

abbrev pub is_met : List (Option (List ℕ)) → Option (List ℕ) → Bool
is_met keys key = list_any (same_key key) keys

abbrev pub with_key : List (Option (List ℕ)) → Option (List ℕ) → List (Option (List ℕ))
with_key keys key = if is_met keys key then keys else keys ++ key ∷ []

-- these keys, and the further ones of these lines, each once, by its first line
abbrev pub keys_from : List (Option (List ℕ)) → List (List ℕ) → List (Option (List ℕ))
keys_from keys [] = keys
keys_from keys (line ∷ lines) = keys_from (with_key keys (key_on line)) lines

-- the keys of lines, of which the first has this one
abbrev pub keys_in : Option (List ℕ) → List (List ℕ) → List (Option (List ℕ))
keys_in first lines = keys_from (first ∷ []) lines

-- what the lines of a key are judged by
abbrev pub rule_for : Head → Option (List ℕ) → LineRule
rule_for head key = record { limited = is_some head.limit; key = key }

-- the operations of one register on these lines: each record has its place among these for its number, and the opening
-- is the first; of two operations of one task the first has ended before the second begins
pub record IsKeyRegister (opening : List ℕ) (rule : LineRule) (lines : List (List ℕ)) (log : List (Op ℕ)) : Type 0 where
  pub records : List (List ℕ)
  pub are : AreLines rule lines records log
  pub opened : slice_get records 0 ≡ Some opening
  pub distinct : AreDistinct records
  pub turns : TakeTurns log
  pub once : (n : ℕ) → WritesOnce Equal 0 log n

-- what is kept of the log of a key of these lines: the places of its operations among them, and of these as of a log
-- of their own few operations, under the header's limit, and four counts
pub record IsKeyLog (head : Head) (lines : List (List ℕ)) (key : Option (List ℕ)) (log : List (Op ℕ))
    (read : KeyLog) : Type 0 where
  pub named : option_map string_bytes read.key ≡ key
  pub places : read.places.items ≡ places_of_key key lines
  pub is : IsKeyRegister head.opening (rule_for head key) (lines_of_key key lines) log
  pub thinned : IsThinnedLog (unwrap_or head.limit 1) log read.log.thinned
  pub ops : read.log.ops ≡ length log
  pub unfinished : read.log.unfinished ≡ unfinished_in log
  pub count : read.log.records ≡ length is.records
  pub given : WereRead log read.log.read

-- what is kept of the log that bytes stand for: the log of each key, by its first line, and whether the end is there
pub record IsKeysLog (bytes : List ℕ) (read : KeysLog) : Type 0 where
  pub head : Head
  pub header : List ℕ
  pub body : List (List ℕ)
  pub lines : List (List ℕ)
  pub split : lines_of (text_of bytes) ≡ header ∷ body
  pub said : head_of header ≡ Ok head
  pub all : AreAll (rule_in head body) read.ended body lines
  pub long : length read.logs.items ≡ length (keys_in (first_key body) lines)
  pub each : (i : ℕ) (key : Option (List ℕ)) (one : KeyLog) → slice_get (keys_in (first_key body) lines) i ≡ Some key →
      slice_get read.logs.items i ≡ Some one → (log : List (Op ℕ)) × IsKeyLog head lines key log one
