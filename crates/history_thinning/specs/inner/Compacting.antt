-- How rows that no record needs are dropped. Only private functions cite this, which is this project's own.
use Rattle.std.specs.Prelude.{◌≡◌, ℕ, ◌+◌, Bool, List, set, slice_get, Option, None, Some, nat_eq, ◌||◌, if◌then◌else◌}
use Rattle.std.specs.Option.{option_and_then}
use Rattle.history_core.specs.declared.history.Op.{Op}
use Rattle.history_thinning.specs.declared.group.Roles.{Roles}

abbrev pub has_role : Roles → ℕ → Bool
has_role roles index =
    nat_eq roles.write index || nat_eq roles.first index || nat_eq roles.last index || nat_eq roles.refused index

abbrev pub item_at : List (Op ℕ) → ℕ → Option ℕ
item_at ops index = option_and_then (λ (o : Op ℕ). o.item) (slice_get ops index)

abbrev pub if_used : Option Roles → ℕ → ℕ → Option ℕ
if_used None number index = None
if_used (Some own) number index = if has_role own index then Some number else None

-- the number of the record for which the operation at this index is kept
abbrev pub user_of : List (Op ℕ) → List Roles → ℕ → Option ℕ
user_of ops roles index = option_and_then (λ number. if_used (slice_get roles number) number index) (item_at ops index)

abbrev pub moved_index : ℕ → ℕ → ℕ → ℕ
moved_index from to index = if nat_eq index from then to else index

abbrev pub moved_roles : ℕ → ℕ → Roles → Roles
moved_roles from to roles = record {
  write = moved_index from to roles.write;
  first = moved_index from to roles.first;
  last = moved_index from to roles.last;
  refused = moved_index from to roles.refused;
}

-- a row is at another index too, and the roles of its record name that
pub record IsShifted (number from to : ℕ) (ops : List (Op ℕ)) (places : List ℕ) (roles : List Roles)
    (new_ops : List (Op ℕ)) (new_places : List ℕ) (new_roles : List Roles) : Type 0 where
  pub ops_are : (o : Op ℕ) → slice_get ops from ≡ Some o → new_ops ≡ set ops to o
  pub places_are : (p : ℕ) → slice_get places from ≡ Some p → new_places ≡ set places to p
  pub roles_are : (own : Roles) → slice_get roles number ≡ Some own →
      new_roles ≡ set roles number (moved_roles from to own)

-- the same where the row is of use, with the number of those that are; else all stays
pub record Settles (from to : ℕ) (ops : List (Op ℕ)) (places : List ℕ) (roles : List Roles)
    (new_ops : List (Op ℕ)) (new_places : List ℕ) (new_roles : List Roles) (used : ℕ) : Type 0 where
  pub none : user_of ops roles from ≡ None →
      (new_ops ≡ ops) × (new_places ≡ places) × (new_roles ≡ roles) × (used ≡ to)
  pub some : (number : ℕ) → user_of ops roles from ≡ Some number →
      IsShifted number from to ops places roles new_ops new_places new_roles × (used ≡ to + 1)
