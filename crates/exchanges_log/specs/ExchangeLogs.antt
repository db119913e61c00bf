-- The log that lines stand for whose records repeat: an operation a line, and a number for each record (this project's
-- own).
use Rattle.std.specs.Prelude.{◌≡◌, ◌⊎◌, ℕ, ◌==◌, ◌&&◌, ◌||◌, not, List, [], ◌∷◌, ◌++◌, length, Bool, true, false}
use Rattle.std.specs.Prelude.{if◌then◌else◌, slice_get, Option, None, Some, is_none, is_some, Result, Ok, Err}
use Rattle.std.specs.List.{count_by}
use Rattle.object_core.specs.declared.operation.Operation.{Operation}
use Rattle.object_registers.specs.declared.exchanging.Exchange.{Exchange}
use Rattle.object_registers.specs.declared.exchanging.Exchange.TheVariants.{Sets, Gets, Swaps, Misses, Finds, Tries}
use Rattle.object_registers.specs.declared.exchanging.Exchange.TheVariants.{Refuses}
use Rattle.read_document.specs.declared.refusal.DocError.{DocError}
use Rattle.read_document.specs.declared.refusal.DocError.TheVariants.{Law, Missing, Shape}
use Rattle.read_document.specs.declared.key.Key.TheVariants as key
use Rattle.read_document.specs.Refusals.{◌>>=◌}
use Rattle.text_lines.specs.Splits.{lines_of}
use Rattle.kept_lines.specs.Numberings.{AreDistinct}
use Rattle.read_line.specs.Lines.{Head, head_of}
use Rattle.lines_log.specs.Logs.{LineRule, same_key, text_of}
use Rattle.read_exchange.specs.Exchanges.{done, entry_of, ExchangeEntry, is_refusal, operation, SaidExchange}
use Rattle.read_exchange.specs.Exchanges.{sets, gets, swaps, misses, finds, tries, refuses}
use Rattle.exchanges_log.specs.declared.exchanges_log.ExchangesLog.{ExchangesLog}

abbrev pub key_said : Result ExchangeEntry DocError → Option (List ℕ)
key_said (Ok (operation o)) = o.key
key_said (Ok (done ops)) = None
key_said (Err why) = None

-- the key of the operation on the first of these lines, if it has one
abbrev pub first_key : List (List ℕ) → Option (List ℕ)
first_key [] = None
first_key (line ∷ lines) = key_said (entry_of line)

-- by the header, and by the key of the first operation
abbrev pub rule_in : Head → List (List ℕ) → LineRule
rule_in head body = record { limited = is_some head.limit; key = first_key body }

-- What a line is behind so many operations: an operation, or the end of the log. All operations have one key, or none.
-- A write is refused only where the header has a limit, and the end stands on the last line, with the number of the
-- operations.
abbrev pub judged : LineRule → ℕ → Bool → ExchangeEntry → Result (Option (Operation SaidExchange)) DocError
judged rule count last (operation o) =
    if same_key rule.key o.key
    then (if rule.limited || not (is_refusal o.op.what) then Ok (Some o.op) else Err (Missing key.Limit))
    else Err (Law key.Key)
judged rule count last (done ops) =
    if last then (if ops == count then Ok None else Err (Law key.Ops)) else Err (Shape key.Kind)

abbrev pub judged_line : LineRule → ℕ → Bool → List ℕ → Result (Option (Operation SaidExchange)) DocError
judged_line rule count last line = entry_of line >>= judged rule count last

-- what an operation does, with the numbers of its records in place of their texts; an unfinished read without a record
-- gets the opening, and need not stand in an order
abbrev pub MeansExchange : List (List ℕ) → SaidExchange → Exchange → Type 0
MeansExchange records (sets text) what = (n : ℕ) × (slice_get records n ≡ Some text) × (what ≡ Sets n)
MeansExchange records (gets None) what = what ≡ Gets 0
MeansExchange records (gets (Some text)) what = (n : ℕ) × (slice_get records n ≡ Some text) × (what ≡ Gets n)
MeansExchange records (swaps from to) what =
    (m n : ℕ) × (slice_get records m ≡ Some from) × (slice_get records n ≡ Some to) × (what ≡ Swaps m n)
MeansExchange records (misses from to) what =
    (m n : ℕ) × (slice_get records m ≡ Some from) × (slice_get records n ≡ Some to) × (what ≡ Misses m)
MeansExchange records (finds from to found) what =
    (m n k : ℕ) × (slice_get records m ≡ Some from) × (slice_get records n ≡ Some to)
    × (slice_get records k ≡ Some found) × (what ≡ Finds m k)
MeansExchange records (tries from to) what =
    (m n : ℕ) × (slice_get records m ≡ Some from) × (slice_get records n ≡ Some to) × (what ≡ Tries m n)
MeansExchange records (refuses text) what = (n : ℕ) × (slice_get records n ≡ Some text) × (what ≡ Refuses n)

pub record IsNumberedExchange (records : List (List ℕ)) (said : Operation SaidExchange) (op : Operation Exchange) :
    Type 0 where
  pub starts : op.starts ≡ said.starts
  pub ends : op.ends ≡ said.ends
  pub maybe : op.maybe ≡ said.maybe
  pub what : MeansExchange records said.what op.what

-- the records that an operation names
abbrev pub texts_of : SaidExchange → List (List ℕ)
texts_of (sets text) = text ∷ []
texts_of (gets None) = []
texts_of (gets (Some text)) = text ∷ []
texts_of (swaps from to) = from ∷ to ∷ []
texts_of (misses from to) = from ∷ to ∷ []
texts_of (finds from to found) = from ∷ to ∷ found ∷ []
texts_of (tries from to) = from ∷ to ∷ []
texts_of (refuses text) = text ∷ []

-- one of these lines has an operation that names the record
pub record IsNamed (rule : LineRule) (lines : List (List ℕ)) (text : List ℕ) : Type 0 where
  pub place : ℕ
  pub line : List ℕ
  pub at : slice_get lines place ≡ Some line
  pub said : Operation SaidExchange
  pub last : Bool
  pub is : judged_line rule place last line ≡ Ok (Some said)
  pub among : ℕ
  pub names : slice_get (texts_of said.what) among ≡ Some text

-- these operations stand on these lines, where these are the records: the opening, and those that operations name
pub record AreExchangeLines (rule : LineRule) (lines records : List (List ℕ))
    (log : List (Operation Exchange)) : Type 0 where
  pub long : length log ≡ length lines
  pub each : (p : ℕ) (line : List ℕ) (op : Operation Exchange) → slice_get lines p ≡ Some line →
      slice_get log p ≡ Some op →
      (said : Operation SaidExchange) × (last : Bool) × (judged_line rule p last line ≡ Ok (Some said))
      × IsNumberedExchange records said op
  pub named : (n : ℕ) (text : List ℕ) → slice_get records n ≡ Some text → (n ≡ 0) ⊎ IsNamed rule lines text

-- the lines behind the header are those of the operations, and the end if it is there
abbrev pub AreAllExchanges : LineRule → Bool → List (List ℕ) → List (List ℕ) → Type 0
AreAllExchanges rule false body lines = body ≡ lines
AreAllExchanges rule true body lines =
    (end : List ℕ) × (body ≡ lines ++ end ∷ []) × (judged_line rule (length lines) true end ≡ Ok None)

-- The log that bytes stand for: each record has its place among these for its number, and the opening is the first.
pub record IsRepeatingLog (bytes : List ℕ) (records : List (List ℕ)) (log : List (Operation Exchange)) : Type 0 where
  pub header : List ℕ
  pub body : List (List ℕ)
  pub lines : List (List ℕ)
  pub head : Head
  pub split : lines_of (text_of bytes) ≡ header ∷ body
  pub said : head_of header ≡ Ok head
  pub ended : Bool
  pub all : AreAllExchanges (rule_in head body) ended body lines
  pub are : AreExchangeLines (rule_in head body) lines records log
  pub opened : slice_get records 0 ≡ Some head.opening
  pub distinct : AreDistinct records

abbrev pub unfinished_in : List (Operation Exchange) → ℕ
unfinished_in ops = count_by (λ o. is_none o.ends) ops

-- it has ended, and may have done nothing
abbrev pub is_uncertain : Operation Exchange → Bool
is_uncertain o = is_some o.ends && o.maybe

abbrev pub uncertain_in : List (Operation Exchange) → ℕ
uncertain_in ops = count_by is_uncertain ops

-- the operations of the log, the header's limit, three counts, and whether its end is there
pub record IsExchangesLog (bytes : List ℕ) (read : ExchangesLog) : Type 0 where
  pub records : List (List ℕ)
  pub is : IsRepeatingLog bytes records read.ops.items
  pub limit : read.limit ≡ is.head.limit
  pub unfinished : read.unfinished ≡ unfinished_in read.ops.items
  pub uncertain : read.uncertain ≡ uncertain_in read.ops.items
  pub count : read.records ≡ length records
  pub ended : read.ended ≡ is.ended
