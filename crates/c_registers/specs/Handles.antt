-- What a handle has, and what the calls of C do to it (this project's definitions).
use Rattle.std.specs.Prelude.{◌≡◌, ◌≢◌, ◌⊎◌, ℕ, ◌+◌, ◌≤◌, ◌^◌}
use Rattle.c_registers.specs.Numbers.{numbered}
use Rattle.c_registers.specs.declared.numbered.Numbered.{Numbered}

-- what a handle has: a side of its type where `live` is the number of that type
pub record Holding (D : Type 0) : Type 0 where
  pub live : ℕ
  pub side : D

abbrev pub holding : {D : Type 0} → ℕ → D → Holding D
holding live side = record { live = live; side = side }

-- what `live` is while a call runs on the side, and stays where that call was cut off: no number of a type
abbrev pub busy : ℕ
busy = 255

-- why a call is refused where `live` isn't the number of its type, as its status: the handle has no side, or its last
-- call was cut off, or it has a side of another type
pub data LacksSide (live : ℕ) : ℕ → Type 0 where
  ended : live ≡ 0 → LacksSide live 3
  other : live ≢ 0 → live ≢ busy → LacksSide live 5
  cut_off : live ≡ busy → LacksSide live 12

module _ {D : Type 0} (code : ℕ) where
  -- the handle has this side, of the type with this number
  abbrev pub Has : Holding D → D → Type 0
  Has h s = (h.live ≡ code) × (h.side ≡ s)

  -- the handle lacks a side of this type, with this status, and is what it was
  abbrev pub IsLacking : Holding D → Holding D → ℕ → Type 0
  IsLacking h k n = (h.live ≢ code) × LacksSide h.live n × (k ≡ h)

  -- a call that writes a record, and its status: the handle before and after
  pub data IsWrite {P W : Type 0} (writes : P → D) (last : P → ℕ) (has_written : P → P → W → Type 0)
      (h k : Holding D) (item : W) : ℕ → Type 0 where
    done : (p q : P) → Has h (writes p) → Has k (writes q) → has_written p q item →
        IsWrite writes last has_written h k item 0
    at_limit : (p : P) → Has h (writes p) → 2 ^ 64 ≤ last p + 1 → k ≡ h → IsWrite writes last has_written h k item 4
    refused : {n : ℕ} → IsLacking h k n → IsWrite writes last has_written h k item n

  -- a call that publishes what lies in the writing side's slot, and its status: a write of that
  abbrev pub IsPublish : {P : Type 0} → (P → D) → (P → ℕ) → (P → P → Type 0) → Holding D → Holding D → ℕ → Type 0
  IsPublish writes last has_published h k = IsWrite writes last (λ p q (_ : Unit {0}). has_published p q) h k tt

  -- a call that reads a record and its number into what had others, and its status
  pub data IsRead {G W : Type 0} (reads : G → D) (has_read : G → G → Numbered W → Type 0)
      (h k : Holding D) (item item' : W) (number number' : ℕ) : ℕ → Type 0 where
    done : (p q : G) → Has h (reads p) → Has k (reads q) → has_read p q (numbered number' item') →
        IsRead reads has_read h k item item' number number' 0
    refused : {n : ℕ} → IsLacking h k n → item' ≡ item → number' ≡ number →
        IsRead reads has_read h k item item' number number' n

  -- a call that tells the number that a read would give, into what had another one, and its status: a
  -- read whose record stays behind
  pub data IsLook {G W : Type 0} (reads : G → D) (has_read : G → G → Numbered W → Type 0)
      (h k : Holding D) (number number' : ℕ) : ℕ → Type 0 where
    done : (p q : G) (w : W) → Has h (reads p) → Has k (reads q) → has_read p q (numbered number' w) →
        IsLook reads has_read h k number number' 0
    refused : {n : ℕ} → IsLacking h k n → number' ≡ number → IsLook reads has_read h k number number' n

  -- what a handle has once a record of its side that was lent is back: that side, of which
  -- this stays. Else it is as it was
  pub data IsBack {G : Type 0} (reads : G → D) (stays : G → G → Type 0) (h k : Holding D) : Type 0 where
    reader : (f g : G) → Has h (reads f) → Has k (reads g) → stays f g → IsBack reads stays h k
    refused : h.live ≢ code → k ≡ h → IsBack reads stays h k

  -- what a handle has once the words in its writing side's slot, which were lent, are back:
  -- that side with them in its slot
  abbrev pub IsSlotFilled : {P W : Type 0} → (P → D) → (P → W → P) → Holding D → Holding D → W → Type 0
  IsSlotFilled writes filled h k w = (p : _) × Has h (writes p) × Has k (writes (filled p w))

  -- a call that makes what led to some words lead to those of the last answer, or of a writing side's slot, and its
  -- status: the handle before, and the words
  pub data IsHold {G W : Type 0} (reads : G → D) (words : G → W) (h : Holding D) (seen seen' : W) : ℕ → Type 0 where
    done : (g : G) → Has h (reads g) → seen' ≡ words g → IsHold reads words h seen seen' 0
    refused : {n : ℕ} → h.live ≢ code → LacksSide h.live n → seen' ≡ seen → IsHold reads words h seen seen' n

  -- a call that ends a side, and its status
  pub data IsEnd (h k : Holding D) : ℕ → Type 0 where
    done : h.live ≡ code → k.live ≡ 0 → IsEnd h k 0
    refused : {n : ℕ} → IsLacking h k n → IsEnd h k n

-- a call that makes a cell, and its status: the handles before and after, whose types have these numbers
pub data IsMake {D E P G W : Type 0} (codes : ℕ × ℕ) (writes : P → D) (reads : G → E) (is_made : P → G → W → Type 0)
    (w : Holding D) (r : Holding E) (w' : Holding D) (r' : Holding E) (first : W) : ℕ → Type 0 where
  done : (p : P) (g : G) → w.live ≡ 0 → r.live ≡ 0 → Has codes.0 w' (writes p) → Has codes.1 r' (reads g) →
      is_made p g first → IsMake codes writes reads is_made w r w' r' first 0
  no_memory : w.live ≡ 0 → r.live ≡ 0 → w' ≡ w → r' ≡ r → IsMake codes writes reads is_made w r w' r' first 1
  in_use : (w.live ≢ 0) ⊎ (r.live ≢ 0) → w' ≡ w → r' ≡ r → IsMake codes writes reads is_made w r w' r' first 2
