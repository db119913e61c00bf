-- What documents of histories share: the laws of their operations, and their one term (this project's own).
use Rattle.std.specs.Prelude.{ℕ, List, [], ◌∷◌, length, Bool, true, false, not, nat_le}
use Rattle.std.specs.Prelude.{◌&&◌, is_some, Option, Some, None}
use Rattle.std.specs.List.{list_all}
use Rattle.std.specs.Option.{option_map_or}
use Rattle.history_core.specs.Band.{fits}
use Rattle.history_core.specs.declared.band.Band.{Band}
use Rattle.history_core.specs.declared.history.Kind.{Kind}
use Rattle.history_core.specs.declared.history.Kind.TheVariants.{Write, Read, Refused}
use Rattle.history_core.specs.declared.history.Op.{Op}
use Rattle.history_core.specs.declared.history.Term.{Term}
use Rattle.read_document.specs.Ranges.{count_in_range}

-- A write has a record that fits. Anything else that is finished has a record.
abbrev pub item_law : Kind → Bool → Option Band → Bool
item_law Write finished None = false
item_law Write finished (Some b) = fits b
item_law Read finished None = not finished
item_law Read finished (Some b) = true
item_law Refused finished None = not finished
item_law Refused finished (Some b) = true

abbrev pub has_item : Op Band → Bool
has_item op = item_law op.kind (is_some op.ends) op.item

-- Besides, the end isn't before the beginning.
abbrev pub is_lawful : Op Band → Bool
is_lawful op = option_map_or (λ ends. nat_le op.starts ends) op.ends true && has_item op

abbrev pub is_actor : Op Band → Bool
is_actor op = nat_le op.who 15

abbrev pub ops_in_range : List (Op Band) → Bool
ops_in_range ops = count_in_range (length ops) && list_all is_actor ops

-- the terms of a history under one limit
abbrev pub one_term : ℕ → List Term
one_term limit = record { first = 0; limit = limit } ∷ []
