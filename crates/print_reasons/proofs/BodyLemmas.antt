-- The lines behind the header by their codes.
use Rattle.std.proofs.Common.{◌≡◌, ◌∙◌, [], ◌∷◌, ℕ, Bool, List, ap, drop, map, refl, sym}
use Rattle.text_lines.specs.Splits.{lines_of}
use Rattle.text_lines.specs.Words.{told}
use Rattle.text_lines.proofs.LineLemmas.{lines_told}
use Rattle.print_reasons.specs.Text.{body_of}

pub told_body : (packed : Bool) (codes : List ℕ) → map (told packed) (body_of codes) ≡ body_of (told packed codes)
told_body packed codes = behind (lines_of codes) ∙ ap (drop 1) (sym (lines_told packed codes))
  where
    behind : (ls : List (List ℕ)) → map (told packed) (drop 1 ls) ≡ drop 1 (map (told packed) ls)
    behind [] = refl
    behind (l ∷ ls) = refl
