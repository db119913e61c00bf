-- Texts in one buffer. Only private functions cite this, which is this project's own.
use Rattle.std.specs.Prelude.{◌≡◌, ℕ, ◌+◌, ◌≤◌, List, length, slice_get, Some}
use Rattle.std.specs.List.{slice_range}
use Rattle.kept_lines.specs.declared.texts.Texts.{Texts}

-- a text stands from here to there
pub record StandsBetween (text bytes : List ℕ) (from to : ℕ) : Type 0 where
  pub rises : from ≤ to
  pub within : to ≤ length bytes
  pub is : slice_range bytes from to ≡ text

-- these texts stand one behind the other
pub record AreTexts (texts : List (List ℕ)) (stored : Texts) : Type 0 where
  pub long : length stored.bounds.items ≡ length texts + 1
  pub last : slice_get stored.bounds.items (length texts) ≡ Some (length stored.bytes.items)
  pub each : (n from to : ℕ) (text : List ℕ) → slice_get texts n ≡ Some text →
      slice_get stored.bounds.items n ≡ Some from → slice_get stored.bounds.items (n + 1) ≡ Some to →
      StandsBetween text stored.bytes.items from to
