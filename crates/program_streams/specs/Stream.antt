-- What the calls of a stream say of its count of failures (this project's own).
use Rattle.std.specs.Prelude.{◌≡◌, ◌<◌, ◌+◌, ◌-◌, ◌^◌, ℕ, Result, MatchResult}

-- the count can still rise
abbrev pub HasRoom : ℕ → Type 0
HasRoom failed = failed < 2 ^ 64 - 1

-- The count rises by one exactly where the call failed.
abbrev pub Counts : {T E : Type 0} → ℕ → ℕ → Result T E → Type 0
Counts old new r = MatchResult r (λ _. new ≡ old) (λ _. new ≡ old + 1)
