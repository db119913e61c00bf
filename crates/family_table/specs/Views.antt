-- The one process that a view has, and the one receipt (this project's own).
use Rattle.std.specs.Prelude.{List, [], ◌∷◌}
use Rattle.family_table.specs.declared.notes.Process.{Process}
use Rattle.family_table.specs.declared.notes.Receipt.{Receipt}
use Rattle.family_table.specs.declared.notes.View.{View}
use Rattle.family_table.specs.declared.notes.View.TheVariants.{Told, Has}

module _ {V : Type 0} where
  -- the process that a view has, and the receipt
  abbrev pub no_process : Process V
  no_process = record { who = 0; clock = 0; times = []; held = []; parts = []; said = []; found = [] }

  abbrev pub first_or : Process V → List (Process V) → Process V
  first_or d [] = d
  first_or d (p ∷ ps) = p

  abbrev pub process_of : View V → Process V
  process_of (Told r) = no_process
  process_of (Has ps) = first_or no_process ps

  abbrev pub receipt_in : View V → Receipt V
  receipt_in (Told r) = r
  receipt_in (Has ps) = record { clock = 0; parts = [] }
