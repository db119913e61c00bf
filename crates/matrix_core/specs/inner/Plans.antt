-- What the plans of the processes say of an operation.
use Rattle.std.specs.Prelude.{ℕ, List, Option, slice_get}
use Rattle.std.specs.Option.{option_and_then}
use Rattle.history_core.specs.declared.wish.Wish.{Wish}

-- the operation of a process with this number, by its place in the process's plan
abbrev pub planned : {R : Type 0} → List (List (Wish R)) → ℕ → ℕ → Option (Wish R)
planned plans who operation = option_and_then (λ plan. slice_get plan operation) (slice_get plans who)
