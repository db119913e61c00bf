-- A line of a text is what the line of its codes stands for.
use Rattle.std.proofs.Common.{◌≡◌, ◌∙◌, [], ℕ, Bool, List, Option, Some, None, ap, option_map, sym}
use Rattle.std.specs.Prelude.{slice_get, unwrap_or}
use Rattle.std.proofs.lemmas.Option.{slice_get-map}
use Rattle.text_lines.specs.Splits.{lines_of}
use Rattle.text_lines.specs.Words.{told}
use Rattle.text_lines.proofs.LineLemmas.{lines_told}
use Rattle.record_words.specs.Origins.{line_in}

pub line_told : (packed : Bool) (codes : List ℕ) (index : ℕ) → slice_get (lines_of (told packed codes)) index
    ≡ option_map (told packed) (slice_get (lines_of codes) index)
line_told packed codes index = ap (λ (ls : List (List ℕ)). slice_get ls index) (lines_told packed codes)
    ∙ slice_get-map (told packed) (lines_of codes) index

pub some_line : (packed : Bool) (codes own : List ℕ) (index : ℕ) → Some own ≡ slice_get (lines_of codes) index
    → told packed own ≡ line_in (told packed codes) index
some_line packed codes own index e = ap (λ (o : Option (List ℕ)). unwrap_or (option_map (told packed) o) []) e
    ∙ sym (ap (λ (o : Option (List ℕ)). unwrap_or o []) (line_told packed codes index))

pub no_line : (packed : Bool) (codes : List ℕ) (index : ℕ) → None ≡ slice_get (lines_of codes) index
    → [] ≡ line_in (told packed codes) index
no_line packed codes index e = ap (λ (o : Option (List ℕ)). unwrap_or (option_map (told packed) o) []) e
    ∙ sym (ap (λ (o : Option (List ℕ)). unwrap_or o []) (line_told packed codes index))
