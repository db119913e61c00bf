-- The first source of a record. Only private functions cite this.
use Rattle.std.specs.Prelude.{◌≡◌, ℕ, ◌<◌, ◌≤◌, ◌⊎◌, Bool, true, nat_lt, List, slice_get, Option, None, Some}
use Rattle.std.specs.Prelude.{option_map, unwrap_or}
use Rattle.object_core.specs.declared.operation.Operation.{Operation}
use Rattle.object_registers.specs.declared.exchanging.Exchange.{Exchange}
use Rattle.object_sources.specs.Sources.{HasFoundAnother, IsUnsourced, MayLeave}
use Rattle.object_sources.specs.declared.source.Unsourced.{Unsourced}

-- when the operation at a place began
abbrev pub starts_at : List (Operation Exchange) → ℕ → ℕ
starts_at log q = unwrap_or (option_map (λ (o : Operation Exchange). o.starts) (slice_get log q)) 0

-- it began before the first so far
abbrev pub is_sooner : List (Operation Exchange) → ℕ → Option ℕ → Bool
is_sooner log q None = true
is_sooner log q (Some first) = nat_lt (starts_at log q) (starts_at log first)

-- of two places that of the operation that began first, and of two that began at once the lesser one
abbrev pub BeganFirst : List (Operation Exchange) → ℕ → ℕ → Type 0
BeganFirst log p q = (starts_at log p < starts_at log q) ⊎ ((starts_at log p ≡ starts_at log q) × (p ≤ q))

-- of the sources at places below n the first; none if there is none
abbrev pub IsFirstBelow : List (Operation Exchange) → ℕ → ℕ → Option ℕ → Type 0
IsFirstBelow log value n None = (q : ℕ) → q < n → ¬ MayLeave log value q
IsFirstBelow log value n (Some source) =
    MayLeave log value source × (source < n) × ((q : ℕ) → q < n → MayLeave log value q → BeganFirst log source q)

-- why this operation can't have found this record
abbrev pub IsUnsourcedOf : List (Operation Exchange) → ℕ → Operation Exchange → ℕ → Option Unsourced → Type 0
IsUnsourcedOf log place op value why =
    (opening : ℕ) → slice_get log place ≡ Some op → HasFoundAnother opening value op → IsUnsourced opening log place why
