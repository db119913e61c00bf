-- Other numbers for the records of a log: a watch gives a record that it has forgotten another number than the log does
-- (this project's own).
use Rattle.std.specs.Prelude.{◌≡◌, ℕ, ◌<◌, List, [], ◌∷◌, map, slice_get, Some}
use Rattle.object_core.specs.declared.operation.Operation.{Operation}
use Rattle.object_registers.specs.declared.exchanging.Exchange.{Exchange}
use Rattle.object_registers.specs.declared.exchanging.Exchange.TheVariants.{Sets, Gets, Swaps, Misses, Finds, Tries}
use Rattle.object_registers.specs.declared.exchanging.Exchange.TheVariants.{Refuses}
use Rattle.kept_lines.specs.Numberings.{AreDistinct}
use Rattle.read_exchange.specs.Exchanges.{SaidExchange}
use Rattle.exchanges_log.specs.ExchangeLogs.{IsNumberedExchange, MeansExchange, texts_of}
use Rattle.exchanges_log.specs.ExchangeNumbers.{GrowBy}
use Rattle.watch_lines.specs.Kept.{IsKeptNumber, KeepsAll, Names, number_in}
use Rattle.watch_lines.specs.declared.lined.Lined.{Lined}
use Rattle.watch_lines.specs.declared.records.Records.{Records}

-- a number for each number, and back
pub record Naming : Type 0 where
  pub to : ℕ → ℕ
  pub from : ℕ → ℕ
  pub back : (n : ℕ) → from (to n) ≡ n
  pub forth : (n : ℕ) → to (from n) ≡ n

-- with other numbers
abbrev pub exchange_by : (ℕ → ℕ) → Exchange → Exchange
exchange_by f (Sets value) = Sets (f value)
exchange_by f (Gets value) = Gets (f value)
exchange_by f (Swaps from to) = Swaps (f from) (f to)
exchange_by f (Misses from) = Misses (f from)
exchange_by f (Finds from found) = Finds (f from) (f found)
exchange_by f (Tries from to) = Tries (f from) (f to)
exchange_by f (Refuses value) = Refuses (f value)

abbrev pub op_by : (ℕ → ℕ) → Operation Exchange → Operation Exchange
op_by f o = record { starts = o.starts; ends = o.ends; maybe = o.maybe; what = exchange_by f o.what }

abbrev pub lined_by : (ℕ → ℕ) → Operation Lined → Operation Lined
lined_by f o = record {
  starts = o.starts;
  ends = o.ends;
  maybe = o.maybe;
  what = record { what = exchange_by f o.what.what; line = o.what.line };
}

abbrev pub log_by : (ℕ → ℕ) → List (Operation Lined) → List (Operation Lined)
log_by f log = map (lined_by f) log

-- each number that is kept stands for the one that the log has for this record, and the opening is kept with its own
pub record AreKeptNumbers (all : List (List ℕ)) (naming : Naming) (kept : Records) : Type 0 where
  pub found : (text : List ℕ) (n : ℕ) → number_in kept text ≡ Some n → slice_get all (naming.from n) ≡ Some text
  pub below : (text : List ℕ) (n : ℕ) → number_in kept text ≡ Some n → n < kept.next
  pub opening : (text : List ℕ) × (slice_get all 0 ≡ Some text) × (number_in kept text ≡ Some 0)
  pub distinct : AreDistinct all

-- these texts came: what was kept still is, and its numbers stand for what they stood for
pub record AreNamed (all : List (List ℕ)) (naming : Naming) (old : Records) (texts : List (List ℕ)) (new : Records) :
    Type 0 where
  pub after : List (List ℕ)
  pub now : Naming
  pub grow : GrowBy all texts after
  pub kept : AreKeptNumbers after now new
  pub stay : (text : List ℕ) (n : ℕ) → number_in old text ≡ Some n → number_in new text ≡ Some n
  pub same : (n : ℕ) → IsKeptNumber old n → now.from n ≡ naming.from n
  pub keeps : KeepsAll old new

-- these texts have these numbers
abbrev pub HaveNumbers : Records → List (List ℕ) → List ℕ → Type 0
HaveNumbers kept [] [] = Unit {0}
HaveNumbers kept [] (n ∷ ns) = ⊥
HaveNumbers kept (text ∷ texts) [] = ⊥
HaveNumbers kept (text ∷ texts) (n ∷ ns) = (number_in kept text ≡ Some n) × HaveNumbers kept texts ns

-- they got them
pub record GotNumbers (all : List (List ℕ)) (naming : Naming) (old : Records) (texts : List (List ℕ)) (ns : List ℕ)
    (new : Records) : Type 0 where
  pub named : AreNamed all naming old texts new
  pub have : HaveNumbers new texts ns

-- what an operation does got the numbers of its records, each of which is kept
pub record IsNamedWhat (all : List (List ℕ)) (naming : Naming) (old : Records) (said : SaidExchange) (new : Records)
    (what : Exchange) : Type 0 where
  pub named : AreNamed all naming old (texts_of said) new
  pub is : MeansExchange named.after said (exchange_by named.now.from what)
  pub names : (n : ℕ) → Names what n → IsKeptNumber new n

-- an operation did
pub record IsNamedExchange (all : List (List ℕ)) (naming : Naming) (old : Records) (said : Operation SaidExchange)
    (new : Records) (op : Operation Exchange) : Type 0 where
  pub named : AreNamed all naming old (texts_of said.what) new
  pub is : IsNumberedExchange named.after said (op_by named.now.from op)
  pub names : (n : ℕ) → Names op.what n → IsKeptNumber new n
