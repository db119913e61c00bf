-- The kind of an operation by its name, and which limits there are (this project's own).
use Rattle.std.specs.Prelude.{ℕ, List, codes, Bool, nat_le, ◌&&◌, if◌then◌else◌, Option, Some, None}
use Rattle.std.specs.Str.{bytes_eq}
use Rattle.history_core.specs.declared.history.Kind.{Kind}
use Rattle.history_core.specs.declared.history.Kind.TheVariants.{Write, Read, Refused}

abbrev pub limit_in_range : ℕ → Bool
limit_in_range limit = nat_le 1 limit && nat_le limit 18446744073709551614

abbrev pub kind_named : List ℕ → Option Kind
kind_named s =
    if bytes_eq s (codes "write") then Some Write
    else (if bytes_eq s (codes "read") then Some Read
    else (if bytes_eq s (codes "refused") then Some Refused else None))
