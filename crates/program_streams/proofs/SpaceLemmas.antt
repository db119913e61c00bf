-- White space at the end of a text: what a piece adds to it, and what is trimmed.
use Rattle.std.proofs.Common.{◌≡◌, ◌+◌, ◌-◌, ◌++◌, ◌∷◌, ◌≤◌, [], ℕ, List, Bool, true, false, ap, arith, cond, length, refl, sym, ◌∙◌}
use Rattle.std.proofs.Common.{reverse, suc, subst}
use Rattle.std.specs.Char.{is_ascii_whitespace}
use Rattle.std.specs.List.{prefix_len}
use Rattle.std.specs.Str.{IsTrimAsciiEnd}
use Rattle.std.proofs.lemmas.List.Sums.{suffix_len_is, suffix_len-le-length}
use Rattle.std.proofs.lemmas.List.{length-reverse, reverse-append}
use Rattle.program_streams.specs.Spaces.{space_behind}

-- what is trimmed is the white space
pub trimmed : (bytes text : List ℕ) → IsTrimAsciiEnd bytes text → length bytes - length text ≡ space_behind bytes
trimmed bytes text is =
    let tail : space_behind bytes ≡ length bytes - is.0 = suffix_len_is is_ascii_whitespace bytes is.0 0 is.3 is.4 is.5 in
    omega (arith, tail, is.2)

-- no more than the text
pub within : (bytes : List ℕ) → space_behind bytes ≤ length bytes
within bytes = suffix_len-le-length is_ascii_whitespace bytes

front_adds : (front rest : List ℕ) → prefix_len is_ascii_whitespace (front ++ rest) ≤ length front + prefix_len is_ascii_whitespace rest
front_adds [] rest = omega arith
front_adds (x ∷ xs) rest =
    by_test (is_ascii_whitespace x) (prefix_len is_ascii_whitespace (xs ++ rest)) (length xs) (prefix_len is_ascii_whitespace rest)
    (front_adds xs rest)
  where
    by_test : (b : Bool) (n m k : ℕ) → n ≤ m + k → cond b (1 + n) 0 ≤ suc m + k
    by_test true n m k l = omega (arith, l)
    by_test false n m k l = omega arith

-- a piece adds no more than its length
pub adds_space : (before piece : List ℕ) → space_behind (before ++ piece) ≤ length piece + space_behind before
adds_space before piece =
    subst (λ (l : List ℕ). prefix_len is_ascii_whitespace l ≤ length piece + space_behind before) (sym (reverse-append before piece))
    (subst (λ (n : ℕ). prefix_len is_ascii_whitespace (reverse piece ++ reverse before) ≤ n + space_behind before) (length-reverse piece)
    (front_adds (reverse piece) (reverse before)))
