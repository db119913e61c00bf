-- How the player makes the order: the places of the listed writes and of the finished reads, woven by their numbers.
-- Only its private functions cite this, which is this project's own; the meaning of a report's order stands in
-- ReportOrders.
use Rattle.std.specs.Prelude.{◌≡◌, ℕ, ◌<◌, ◌≤◌, List, slice_get, length, Some}
use Rattle.four_slot_core.specs.declared.schedule.Turn.{Turn}
use Rattle.four_slot_core.specs.declared.schedule.Turn.TheVariants.{Writer, Reader}
use Rattle.four_slot_play.specs.declared.player.run.Numbered.{Numbered}
use Rattle.four_slot_play.specs.declared.player.steps.Started.{Started}
use Rattle.four_slot_play.specs.inner.Parts.{started}

-- each operation of a side stands once, and after the operations of its side with smaller numbers
pub record SidesInTurn (parts : List Started) : Type 0 where
  pub once : (turn : Turn) (k p q s t : ℕ) → slice_get parts p ≡ Some (started turn k s) →
      slice_get parts q ≡ Some (started turn k t) → p ≡ q
  pub earlier : (turn : Turn) (j k p s : ℕ) → slice_get parts p ≡ Some (started turn k s) → j < k →
      (q : ℕ) × (t : ℕ) × (q < p) × (slice_get parts q ≡ Some (started turn j t))

-- operation k of a side stands somewhere
abbrev pub HasPart : Turn → ℕ → List Started → Type 0
HasPart turn k parts = (p : ℕ) × (s : ℕ) × (slice_get parts p ≡ Some (started turn k s))

abbrev pub HasFirst : Turn → ℕ → List Started → Type 0
HasFirst turn count parts = (k : ℕ) → k < count → HasPart turn k parts

-- the places of a side's first operations, so many of them, by their numbers
pub record IsPlacesOf (turn : Turn) (count : ℕ) (parts : List Started) (places : List ℕ) : Type 0 where
  pub each : (k p : ℕ) → slice_get places k ≡ Some p → (s : ℕ) × (slice_get parts p ≡ Some (started turn k s))
  pub few : length places ≤ count
  pub all : (k p s : ℕ) → slice_get parts p ≡ Some (started turn k s) → k < count → k < length places

abbrev pub NumbersRise : {R : Type 0} → List (Numbered R) → Type 0
NumbersRise {R} answers =
    (l m : ℕ) (a b : Numbered R) → slice_get answers l ≡ Some a → slice_get answers m ≡ Some b → l ≤ m →
    a.number ≤ b.number

abbrev pub NumbersBelow : {R : Type 0} → ℕ → List (Numbered R) → Type 0
NumbersBelow {R} count answers = (l : ℕ) (a : Numbered R) → slice_get answers l ≡ Some a → a.number ≤ count

-- an entry of the order: an operation of a side, by its number
pub record Entry : Type 0 where
  pub turn : Turn
  pub number : ℕ

abbrev pub entry : Turn → ℕ → Entry
entry turn number = record { turn = turn; number = number }

-- the first entry goes before the second: writes and reads by their own numbers on their side, and write j before the
-- reads that have a number above j
abbrev pub GoesBy : {R : Type 0} → List (Numbered R) → Turn → ℕ → Turn → ℕ → Type 0
GoesBy answers Writer j Writer k = j < k
GoesBy {R} answers Writer j Reader m = (a : Numbered R) → slice_get answers m ≡ Some a → j < a.number
GoesBy {R} answers Reader l Writer k = (a : Numbered R) → slice_get answers l ≡ Some a → a.number ≤ k
GoesBy answers Reader l Reader m = l < m

abbrev pub Goes : {R : Type 0} → List (Numbered R) → Entry → Entry → Type 0
Goes answers a b = GoesBy answers a.turn a.number b.turn b.number

-- it is one of the first writes or of the first reads
abbrev pub IsAmongBy : ℕ → ℕ → Turn → ℕ → Type 0
IsAmongBy writes reads Writer k = k < writes
IsAmongBy writes reads Reader m = m < reads

abbrev pub IsAmong : ℕ → ℕ → Entry → Type 0
IsAmong writes reads e = IsAmongBy writes reads e.turn e.number

-- the first writes and the first reads, so many of each, in order
pub record IsWoven {R : Type 0} (answers : List (Numbered R)) (writes reads : ℕ) (entries : List Entry) : Type 0 where
  pub each : (x : ℕ) (e : Entry) → slice_get entries x ≡ Some e → IsAmong writes reads e
  pub all : (e : Entry) → IsAmong writes reads e → (x : ℕ) × (slice_get entries x ≡ Some e)
  pub sorted : (x y : ℕ) (a b : Entry) → slice_get entries x ≡ Some a → slice_get entries y ≡ Some b → x < y →
      Goes answers a b

-- of the list of its side
abbrev pub list_of : List ℕ → List ℕ → Turn → List ℕ
list_of writes reads Writer = writes
list_of writes reads Reader = reads

-- the order has the place of each entry
pub record IsWeave {R : Type 0} (writes reads : List ℕ) (answers : List (Numbered R)) (i j : ℕ)
    (order : List ℕ) : Type 0 where
  pub entries : List Entry
  pub long : length entries ≡ length order
  pub places : (x : ℕ) (e : Entry) → slice_get entries x ≡ Some e →
      slice_get order x ≡ slice_get (list_of writes reads e.turn) e.number
  pub woven : IsWoven answers i j entries

-- the order lists the first operations of each side, by their places among the parts
pub record IsOrdered {R : Type 0} (parts : List Started) (count : ℕ) (answers : List (Numbered R))
    (order : List ℕ) : Type 0 where
  pub entries : List Entry
  pub long : length entries ≡ length order
  pub places : (x : ℕ) (e : Entry) → slice_get entries x ≡ Some e →
      (p : ℕ) × (s : ℕ) × (slice_get order x ≡ Some p) × (slice_get parts p ≡ Some (started e.turn e.number s))
  pub woven : IsWoven answers count (length answers) entries
