-- Operations whose records got numbers (this project's own).
use Rattle.std.specs.Prelude.{◌≡◌, ◌⊎◌, ℕ, List, [], ◌∷◌, slice_get, Some}
use Rattle.object_core.specs.declared.operation.Operation.{Operation}
use Rattle.object_registers.specs.declared.exchanging.Exchange.{Exchange}
use Rattle.exchanges_log.specs.Numberings.{IsNumbering}
use Rattle.exchanges_log.specs.declared.numbering.Numbering.{Numbering}
use Rattle.lines_log.specs.inner.Numbers.{Grow}
use Rattle.read_exchange.specs.Exchanges.{SaidExchange}
use Rattle.exchanges_log.specs.ExchangeLogs.{IsNumberedExchange, MeansExchange, texts_of}

-- to these records those came, each of which is of these texts
pub record GrowBy (records texts after : List (List ℕ)) : Type 0 where
  pub grows : Grow records after
  pub met : (n : ℕ) (text : List ℕ) → slice_get after n ≡ Some text →
      (slice_get records n ≡ Some text) ⊎ ((i : ℕ) × (slice_get texts i ≡ Some text))

-- the numbers of these texts, in their order
abbrev pub AreNumbersOf : List (List ℕ) → List (List ℕ) → List ℕ → Type 0
AreNumbersOf records [] [] = Unit {0}
AreNumbersOf records [] (n ∷ ns) = ⊥
AreNumbersOf records (text ∷ texts) [] = ⊥
AreNumbersOf records (text ∷ texts) (n ∷ ns) = (slice_get records n ≡ Some text) × AreNumbersOf records texts ns

-- these texts got these numbers
pub record GaveNumbers (records texts : List (List ℕ)) (ns : List ℕ) (numbering : Numbering) : Type 0 where
  pub after : List (List ℕ)
  pub grow : GrowBy records texts after
  pub numbers : IsNumbering after numbering
  pub are : AreNumbersOf after texts ns

-- the records of an operation got their numbers
pub record IsExchangeNow (records : List (List ℕ)) (said : SaidExchange) (numbering : Numbering) (what : Exchange) :
    Type 0 where
  pub after : List (List ℕ)
  pub grow : GrowBy records (texts_of said) after
  pub numbers : IsNumbering after numbering
  pub is : MeansExchange after said what

pub record IsOperationNow (records : List (List ℕ)) (said : Operation SaidExchange) (numbering : Numbering)
    (op : Operation Exchange) : Type 0 where
  pub after : List (List ℕ)
  pub grow : GrowBy records (texts_of said.what) after
  pub numbers : IsNumbering after numbering
  pub is : IsNumberedExchange after said op
