-- The records whose numbers are kept, and those that are held (this project's own).
use Rattle.std.specs.Prelude.{◌≡◌, ◌⊎◌, ℕ, ◌+◌, ◌≤◌, Bool, cond, IsTrue, List, slice_get}
use Rattle.std.specs.Prelude.{Option, None, Some}
use Rattle.std.specs.BTreeMap.{btree_map_len, get_by_text}
use Rattle.std.specs.BTreeSet.{BTreeSet, contains}
use Rattle.std.specs.Ordering.{nat_cmp}
use Rattle.std.specs.Str.{bytes_eq}
use Rattle.object_core.specs.declared.operation.Operation.{Operation}
use Rattle.object_registers.specs.declared.exchanging.Exchange.{Exchange}
use Rattle.object_registers.specs.declared.exchanging.Exchange.TheVariants.{Sets, Gets, Swaps, Misses, Finds, Tries}
use Rattle.object_registers.specs.declared.exchanging.Exchange.TheVariants.{Refuses}
use Rattle.object_watch.specs.Remainders.{IsOneOfLog}
use Rattle.object_watch.specs.declared.remainder.Remainder.{Remainder}
use Rattle.watch_lines.specs.declared.lined.Lined.{Lined}
use Rattle.watch_lines.specs.declared.lined.LinedRegister.{LinedRegister}
use Rattle.watch_lines.specs.declared.records.Records.{Records}

-- ---- what is kept

-- the number of the record with this text, if it is kept
abbrev pub number_in : Records → List ℕ → Option ℕ
number_in kept text = get_by_text kept.numbers text

-- a record with this number is kept
abbrev pub IsKeptNumber : Records → ℕ → Type 0
IsKeptNumber kept n = (text : List ℕ) × (number_in kept text ≡ Some n)

-- the record with this text is kept alone, with number 0
pub record IsKeptAlone (opening : List ℕ) (kept : Records) : Type 0 where
  pub found : (text : List ℕ) (n : ℕ) → number_in kept text ≡ Some n → (text ≡ opening) × (n ≡ 0)
  pub known : number_in kept opening ≡ Some 0
  pub next : kept.next ≡ 1

-- no fewer are kept than before, and as many may be before any is forgotten
pub record KeepsAll (old new : Records) : Type 0 where
  pub more : btree_map_len old.numbers ≤ btree_map_len new.numbers
  pub most : new.most ≡ old.most

-- it got the next number
pub record IsNext (old : Records) (text : List ℕ) (n : ℕ) (new : Records) : Type 0 where
  pub unknown : number_in old text ≡ None
  pub is : n ≡ old.next
  pub next : new.next ≡ old.next + 1
  pub numbers : (other : List ℕ) →
      number_in new other ≡ cond (bytes_eq text other) (Some n) (number_in old other)
  pub keeps : KeepsAll old new

-- the record with this text has this number: it was kept, or got the next
abbrev pub GotNumber : Records → List ℕ → ℕ → Records → Type 0
GotNumber old text n new = ((number_in old text ≡ Some n) × (new ≡ old)) ⊎ IsNext old text n new

-- of the records those are kept whose numbers pass a test
pub record RetainsOnly (test : ℕ → Bool) (old new : Records) : Type 0 where
  pub stays : (text : List ℕ) (n : ℕ) → number_in old text ≡ Some n → IsTrue (test n) → number_in new text ≡ Some n
  pub was : (text : List ℕ) (n : ℕ) → number_in new text ≡ Some n → number_in old text ≡ Some n
  pub passes : (text : List ℕ) (n : ℕ) → number_in new text ≡ Some n → IsTrue (test n)
  pub next : new.next ≡ old.next

-- ---- what is held

-- an operation names a record
abbrev pub Names : Exchange → ℕ → Type 0
Names (Sets value) n = n ≡ value
Names (Gets value) n = n ≡ value
Names (Swaps from to) n = (n ≡ from) ⊎ (n ≡ to)
Names (Misses from) n = n ≡ from
Names (Finds from found) n = (n ≡ from) ⊎ (n ≡ found)
Names (Tries from to) n = (n ≡ from) ⊎ (n ≡ to)
Names (Refuses value) n = n ≡ value

-- one of these does
abbrev pub AreNaming : List (Operation Lined) → ℕ → Type 0
AreNaming ops n = (o : Operation Lined) × IsOneOfLog ops o × Names o.what.what n

-- it is the record of a state, or an operation that waits there names it
abbrev pub IsHeldIn : Remainder LinedRegister Lined → ℕ → Type 0
IsHeldIn one n = (n ≡ one.state.register.held) ⊎ AreNaming one.rest.items n

abbrev pub IsHeldRecord : List (Remainder LinedRegister Lined) → ℕ → Type 0
IsHeldRecord held n = (i : ℕ) × (one : Remainder LinedRegister Lined) × (slice_get held i ≡ Some one) × IsHeldIn one n

-- to some numbers those came, and no others
pub record AddsTo (old new : BTreeSet ℕ) (These : ℕ → Type 0) : Type 0 where
  pub stay : (n : ℕ) → IsTrue (contains nat_cmp old n) → IsTrue (contains nat_cmp new n)
  pub came : (n : ℕ) → These n → IsTrue (contains nat_cmp new n)
  pub from : (n : ℕ) → IsTrue (contains nat_cmp new n) → IsTrue (contains nat_cmp old n) ⊎ These n

-- all that is held stays kept; and if they were many, nothing else does but the opening
pub record Forgets (held : List (Remainder LinedRegister Lined)) (old new : Records) : Type 0 where
  pub stays : (text : List ℕ) (n : ℕ) → number_in old text ≡ Some n → (n ≡ 0) ⊎ IsHeldRecord held n →
      number_in new text ≡ Some n
  pub was : (text : List ℕ) (n : ℕ) → number_in new text ≡ Some n → number_in old text ≡ Some n
  pub few : old.most ≤ btree_map_len old.numbers → (n : ℕ) → IsKeptNumber new n → (n ≡ 0) ⊎ IsHeldRecord held n
  pub next : new.next ≡ old.next
