-- One line fewer, and the first of those that are left.
use Rattle.std.proofs.Common.{◌≡◌, ◌∙◌, ◌+◌, ℕ, zero, suc, Bool, List, [], ◌∷◌, ap, arith, drop, map, refl, slice_get, sym}
use Rattle.std.specs.Prelude.{unwrap_or}
use Rattle.text_lines.specs.Splits.{lines_of}
use Rattle.text_lines.specs.Words.{told}
use Rattle.print_reasons.proofs.BodyLemmas.{told_body}
use Rattle.print_reasons.specs.Text.{body_of}
use Rattle.print_evidence.specs.Lost.{line_in}

drop_suc : {X : Type 0} (n : ℕ) (xs : List X) → drop 1 (drop n xs) ≡ drop (suc n) xs
drop_suc zero xs = refl
drop_suc (suc n) [] = refl
drop_suc (suc n) (x ∷ xs) = drop_suc n xs

pub one_fewer : {X : Type 0} (n : ℕ) (xs ys : List X) → ys ≡ drop n xs → drop 1 ys ≡ drop (n + 1) xs
one_fewer n xs ys e = ap (drop 1) e ∙ (drop_suc n xs ∙ ap (λ k. drop k xs) (add_one n))
  where
    add_one : (n : ℕ) → suc n ≡ n + 1
    add_one n = omega arith

pub first_left : {X : Type 0} (n : ℕ) (xs : List X) → slice_get (drop n xs) 0 ≡ slice_get xs n
first_left zero xs = refl
first_left (suc n) [] = refl
first_left (suc n) (x ∷ xs) = first_left n xs

-- the line of a log by its codes
pub told_line : (packed : Bool) (codes : List ℕ) (place : ℕ) → told packed (line_in codes place) ≡ line_in (told packed codes) place
told_line packed codes place =
    there (body_of codes) place ∙ ap (λ (ls : List (List ℕ)). unwrap_or (slice_get ls place) []) (told_body packed codes)
  where
    there : (ls : List (List ℕ)) (n : ℕ) → told packed (unwrap_or (slice_get ls n) []) ≡ unwrap_or (slice_get (map (told packed) ls) n) []
    there [] n = refl
    there (l ∷ ls) zero = refl
    there (l ∷ ls) (suc n) = there ls n
