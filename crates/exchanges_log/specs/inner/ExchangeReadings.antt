-- How far a log whose records repeat is read. Only private functions cite this, which is this project's own.
use Rattle.std.specs.Prelude.{◌≡◌, ℕ, List, [], ◌∷◌, ◌++◌, length, Bool, true, false, slice_get}
use Rattle.std.specs.Prelude.{None, Some, Option, Ok, option_map, string_bytes}
use Rattle.text_lines.specs.Splits.{lines_of}
use Rattle.exchanges_log.specs.Numberings.{IsNumbering}
use Rattle.lines_log.specs.Logs.{LineRule}
use Rattle.exchanges_log.specs.ExchangeLogs.{AreAllExchanges, AreExchangeLines, judged_line}
use Rattle.exchanges_log.specs.ExchangeLogs.{uncertain_in, unfinished_in}
use Rattle.exchanges_log.specs.declared.exchanges_log.ExchangesLog.{ExchangesLog}
use Rattle.exchanges_log.specs.declared.reader.Reader.{Reader}

-- what its lines are judged by
abbrev pub rule_of : Reader → LineRule
rule_of reader = record { limited = reader.limited; key = option_map string_bytes reader.key }

-- these lines were read
pub record AreExchangesRead (opening : List ℕ) (lines : List (List ℕ)) (reader : Reader) : Type 0 where
  pub records : List (List ℕ)
  pub are : AreExchangeLines (rule_of reader) lines records reader.ops.items
  pub numbering : IsNumbering records reader.numbering
  pub opened : slice_get records 0 ≡ Some opening

-- one more line was read: an operation was entered, or it is the end
abbrev pub ReadsExchange : List ℕ → List (List ℕ) → List ℕ → Bool → Reader → Reader → Bool → Type 0
ReadsExchange opening lines line last old new false = AreExchangesRead opening (lines ++ line ∷ []) new
ReadsExchange opening lines line last old new true =
    AreExchangesRead opening lines new × (judged_line (rule_of old) (length lines) last line ≡ Ok None)

-- some lines were read
abbrev pub HasReadExchanges : Reader → Type 0
HasReadExchanges reader = (opening : List ℕ) × (lines : List (List ℕ)) × AreExchangesRead opening lines reader

-- this body goes on with the rest; or its end was read, and nothing is left
abbrev pub HasRestOf : LineRule → Bool → List (List ℕ) → List (List ℕ) → List ℕ → Type 0
HasRestOf rule false body lines rest = body ≡ lines ++ lines_of rest
HasRestOf rule true body lines rest = (rest ≡ []) × AreAllExchanges rule true body lines

-- lines of this body were read
pub record IsBodyReadSoFar (opening : List ℕ) (rule : LineRule) (ended : Bool) (body : List (List ℕ))
    (rest : List ℕ) (reader : Reader) : Type 0 where
  pub lines : List (List ℕ)
  pub read : AreExchangesRead opening lines reader
  pub same : rule_of reader ≡ rule
  pub left : HasRestOf rule ended body lines rest

-- the body was read
pub record IsBodyRead (opening : List ℕ) (body : List (List ℕ)) (reader : Reader) (ended : Bool) : Type 0 where
  pub lines : List (List ℕ)
  pub read : AreExchangesRead opening lines reader
  pub all : AreAllExchanges (rule_of reader) ended body lines

-- what was read, as it is given
pub record AreExchangesFinished (most : Option ℕ) (has_end : Bool) (reader : Reader) (log : ExchangesLog) :
    Type 0 where
  pub ops : log.ops ≡ reader.ops
  pub limit : log.limit ≡ most
  pub unfinished : log.unfinished ≡ unfinished_in reader.ops.items
  pub uncertain : log.uncertain ≡ uncertain_in reader.ops.items
  pub count : (records : List (List ℕ)) → IsNumbering records reader.numbering → log.records ≡ length records
  pub ended : log.ended ≡ has_end
