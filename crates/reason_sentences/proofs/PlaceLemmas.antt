-- Where the first one is that passes a test, or that none does.
use Rattle.std.proofs.Common.{rules, tests, ◌≡◌, ℕ, ◌≤◌, List, length, refl, arith, Bool, true, false, cond, Some, None}
use Rattle.std.specs.Prelude.{nat_lt, not}
use Rattle.std.specs.List.{position, position_or_len}
use Rattle.std.proofs.lemmas.List.Sums.{prefix_len-le-length}
use Rattle.std.proofs.lemmas.Option.{same_Some}

pub found : (passes : ℕ → Bool) (xs : List ℕ) (at : ℕ) → Some at ≡ position passes xs → at ≡ position_or_len passes xs
found passes xs at e = by_test (nat_lt (position_or_len passes xs) (length xs)) (position_or_len passes xs) e
  where
    by_test : (b : Bool) (n : ℕ) → Some at ≡ cond b (Some n) None → at ≡ n
    by_test true n h = same_Some at n h
    by_test false n h = cc

pub missing : (passes : ℕ → Bool) (xs : List ℕ) → None ≡ position passes xs → length xs ≡ position_or_len passes xs
missing passes xs e = by_test (nat_lt (position_or_len passes xs) (length xs)) refl e
  where
    by_test : (b : Bool) → nat_lt (position_or_len passes xs) (length xs) ≡ b → None ≡ cond b (Some (position_or_len passes xs)) None
        → length xs ≡ position_or_len passes xs
    by_test true test h = cc
    by_test false test h =
        let past : length xs ≤ position_or_len passes xs = search (rules, tests) in
        omega (arith, past, prefix_len-le-length (λ (x : ℕ). not (passes x)) xs)
