-- The order that a cell's report prints (this project's own).
use Rattle.std.specs.Prelude.{◌≡◌, ℕ, ◌+◌, ◌<◌, List, slice_get, Some, IsSome, ◌⊎◌}
use Rattle.history_core.specs.declared.history.Op.{Op}
use Rattle.history_core.specs.declared.history.Kind.{Kind}
use Rattle.history_core.specs.declared.history.Kind.TheVariants.{Write, Read, Refused}
use Rattle.history_core.specs.Numbers.{StandsAt}
use Rattle.history_core.specs.Orders.{ListsPlaces, times_of}
use Rattle.four_slot_core.specs.Accesses.{Accesses, IsSource}

-- the number of an operation of this kind that begins here: a write's own, from 1 on, or that of a read's source
abbrev pub HasNumber : Accesses → Accesses → Kind → ℕ → ℕ → Type 0
HasNumber writer reader Write begin n = (k : ℕ) × (writer.at k 0 ≡ Some begin) × (n ≡ k + 1)
HasNumber writer reader Read begin n = (m : ℕ) × (reader.at m 0 ≡ Some begin) × IsSource writer reader m n
HasNumber writer reader Refused begin n = ⊥

-- the write that begins here has made W4
abbrev pub IsStoredWrite : Accesses → ℕ → Type 0
IsStoredWrite writer begin = (k : ℕ) × (writer.at k 0 ≡ Some begin) × IsSome (writer.at k 3)

-- the order lists the finished operations, and of the unfinished ones a write that has made W4
abbrev pub IsListed : {R : Type 0} → Accesses → Op R → Type 0
IsListed writer op = IsSome op.ends ⊎ ((op.kind ≡ Write) × IsStoredWrite writer op.starts)

-- of one number the write comes first, and then the reads by beginning
abbrev pub ComesFirst : {R : Type 0} → Op R → Op R → Type 0
ComesFirst a b = (b.kind ≡ Read) × ((a.kind ≡ Write) ⊎ ((a.kind ≡ Read) × (a.starts < b.starts)))

-- the order: the finished reads of the opening by beginning, then for each write in turn the write and the finished
-- reads with it as source, by beginning
pub record IsReportOrder {R : Type 0} (writer reader : Accesses) (ops : List (Op R)) (order : List ℕ) : Type 0 where
  pub places : ListsPlaces ops order
  pub listed : (p : ℕ) (op : Op R) → slice_get ops p ≡ Some op → IsListed writer op → times_of p order ≡ 1
  pub left_out : (p : ℕ) (op : Op R) → slice_get ops p ≡ Some op → ¬ IsListed writer op → times_of p order ≡ 0
  pub sorted : (i j p q m n : ℕ) (a b : Op R) → StandsAt ops order i p a → StandsAt ops order j q b → i < j →
      HasNumber writer reader a.kind a.starts m → HasNumber writer reader b.kind b.starts n → (m < n) ⊎
      ((m ≡ n) × ComesFirst a b)
