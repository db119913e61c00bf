-- Cells in one table: where the words and slots of each lie, and what an act on a cell's slots is in
-- the table (this project's own).
use Rattle.std.specs.Prelude.{◌≡◌, ◌⊎◌, ℕ, zero, suc, ◌+◌, ◌*◌, ◌<◌, List, [], ◌∷◌, map, slice_index_or}
use mathlib.Core.Option.{Option, some, none}
use lib.ListN.{get_elem?}
use Rattle.atomic_table.specs.Table.{Act, keeps, takes, gives, chain}

-- so many cells of so many words and slots, and the place in the table of each word and slot
pub record Layout : Type 0 where
  pub cells : ℕ
  pub cell_words : ℕ
  pub cell_slots : ℕ
  pub words : ℕ
  pub slots : ℕ
  pub word : ℕ → ℕ → ℕ
  pub slot : ℕ → ℕ → ℕ

-- each has a place of its own in the table
pub record IsLayout (l : Layout) : Type 0 where
  pub word_in : (k i : ℕ) → k < l.cells → i < l.cell_words → l.word k i < l.words
  pub slot_in : (k i : ℕ) → k < l.cells → i < l.cell_slots → l.slot k i < l.slots
  pub word_apart : (k i j h : ℕ) → i < l.cell_words → h < l.cell_words → l.word k i ≡ l.word j h → (k ≡ j) × (i ≡ h)
  pub slot_apart : (k i j h : ℕ) → i < l.cell_slots → h < l.cell_slots → l.slot k i ≡ l.slot j h → (k ≡ j) × (i ≡ h)

-- the word in which process i says its tags, on a line of its own behind the words of all cells
abbrev pub said_at : Layout → ℕ → ℕ
said_at l i = l.words + 8 * i

-- the first n elements by their places
abbrev pub gather : {A : Type 0} → (ℕ → ℕ) → ℕ → A → List A → List A
gather f zero d xs = []
gather f (suc n) d xs = slice_index_or xs (f zero) d ∷ gather (λ i. f (suc i)) n d xs

module _ {S : Type 0} where
  -- slots of a cell by their places in the table, and a cell's act so
  abbrev pub shift : (ℕ → ℕ) → List (ℕ × S) → List (ℕ × S)
  shift f cs = map (λ x. (f x.0, x.1)) cs

  abbrev pub shift_act : (ℕ → ℕ) → Act S → Act S
  shift_act f keeps = keeps
  shift_act f (takes k y) = takes (f k) y
  shift_act f gives = gives
  shift_act f (chain x y) = chain (shift_act f x) (shift_act f y)

  -- slots of a cell that has n
  abbrev pub Inside : ℕ → List (ℕ × S) → Type 0
  Inside n [] = Unit {0}
  Inside n (x ∷ cs) = (x.0 < n) × Inside n cs

  -- an act on the slots behind these, which are given back first and then taken again
  abbrev pub around : List (ℕ × S) → Act S → Act S
  around [] a = a
  around (x ∷ xs) a = chain gives (chain (around xs a) (takes x.0 x.1))

module _ {A : Type 0} where
  abbrev pub EachOf : (A → Type 0) → List A → Type 0
  EachOf P [] = Unit {0}
  EachOf P (x ∷ xs) = P x × EachOf P xs

  -- one of these, each at one place, and no common one
  abbrev pub IsInCell : A → List A → Type 0
  IsInCell x [] = ⊥
  IsInCell x (y ∷ ys) = (x ≡ y) ⊎ IsInCell x ys

  abbrev pub Distinct : List A → Type 0
  Distinct [] = Unit {0}
  Distinct (x ∷ xs) = (IsInCell x xs → ⊥) × Distinct xs

  abbrev pub Disjoint : List A → List A → Type 0
  Disjoint xs ys = (x : A) → IsInCell x xs → IsInCell x ys → ⊥

-- these slots are out
abbrev pub Out : {S : Type 0} → List (Option S) → List ℕ → Type 0
Out hs xs = (h : ℕ) → IsInCell h xs → get_elem? hs h ≡ some none
