-- Which writes a read of a regular register may see, after L. Lamport, On Interprocess Communication, 1986.
use Rattle.std.specs.Prelude.{◌≡◌, ℕ, ◌≤◌, true, List, slice_get, Some}
use Rattle.history_core.specs.declared.history.Op.{Op}
use Rattle.history_core.specs.Orders.{is_write, Precedes}

-- a write that began by the end of a read, and between which and the read no other write lies
pub record IsVisible (ops : List (Op ℕ)) (end : ℕ) (read write : Op ℕ) : Type 0 where
  pub writes : is_write write.kind ≡ true
  pub begun : write.starts ≤ end
  pub last : (p : ℕ) (other : Op ℕ) → slice_get ops p ≡ Some other → is_write other.kind ≡ true →
      Precedes write other → Precedes other read → ⊥
