-- What goes from seat to seat (this project's own).
use Rattle.std.specs.Prelude.{List, [], ◌∷◌, ◌++◌}
use Rattle.family_table.specs.declared.notes.Process.{Process}
use Rattle.family_table.specs.declared.notes.Receipt.{Receipt}
use Rattle.family_table.specs.declared.notes.View.{View}
use Rattle.family_table.specs.declared.notes.View.TheVariants.{Told, Has}
use Rattle.family_table.specs.Family.{receipt_of, heard_by}

module _ {V : Type 0} where
  abbrev pub no_one : View V
  no_one = Has []

  abbrev pub no_process : View V → View V
  no_process x = Has []

  abbrev pub all_of : View V → View V
  all_of x = x

  -- the first process, and the others
  abbrev pub first_of_list : List (Process V) → List (Process V)
  first_of_list [] = []
  first_of_list (p ∷ ps) = p ∷ []

  abbrev pub others_of_list : List (Process V) → List (Process V)
  others_of_list [] = []
  others_of_list (p ∷ ps) = ps

  abbrev pub first_of : View V → View V
  first_of (Told r) = Has []
  first_of (Has ps) = Has (first_of_list ps)

  abbrev pub all_but_first : View V → View V
  all_but_first (Told r) = Told r
  all_but_first (Has ps) = Has (others_of_list ps)

  -- the receipt of the one process that a seat has, and what that process knows once it has learnt one
  abbrev pub told_of_list : (V → V) → List (Process V) → View V
  told_of_list receipt [] = Has []
  told_of_list receipt (p ∷ ps) = Told (receipt_of receipt p)

  abbrev pub told_by : (V → V) → View V → View V
  told_by receipt (Told r) = Has []
  told_by receipt (Has ps) = told_of_list receipt ps

  abbrev pub learnt_of_list : (V → V → V) → List (Process V) → Receipt V → List (Process V)
  learnt_of_list hears [] r = []
  learnt_of_list hears (p ∷ ps) r = heard_by hears p r ∷ ps

  abbrev pub learnt_by : (V → V → V) → View V → View V → View V
  learnt_by hears (Has ps) (Told r) = Has (learnt_of_list hears ps r)
  learnt_by hears x y = x

  abbrev pub joined : View V → View V → View V
  joined (Has ps) (Has qs) = Has (ps ++ qs)
  joined x y = x
