-- The text of a log by its codes.
use Rattle.std.proofs.Common.{◌≡◌, ◌≢◌, ◌<◌, ◌-◌, ◌∙◌, [], ◌∷◌, ℕ, List, Bool, true, false, ap, drop, length, refl, suc, sym, take}
use Rattle.std.specs.Prelude.{if◌then◌else◌, nat_lt}
use Rattle.program_streams.specs.Spaces.{ends_in_space, max_space, space_behind}
use Rattle.text_lines.specs.Splits.{lines_of}
use Rattle.text_lines.proofs.SplitLemmas.{feed_at, split_at_feed}
use Rattle.text_lines.specs.Words.{IsNextLine, told}
use Rattle.text_lines.proofs.LineLemmas.{told_some}
use Rattle.text_lines.proofs.SpaceLemmas.{trims}
use Rattle.lines_log.specs.Faults.{is_end}
use Rattle.lines_log.specs.Logs.{text_of}

-- white space is left out of the codes as of the text
pub told_text : (packed : Bool) (codes : List ℕ) → told packed (text_of codes) ≡ text_of (told packed codes)
told_text packed codes =
    by_test (ends_in_space codes)
    ∙ ap (λ (n : ℕ). if nat_lt max_space n then told packed codes else take (length (told packed codes) - space_behind
    (told packed codes)) (told packed codes))
    (sym (trims packed codes).space)
  where
    by_test : (b : Bool) → told packed (if b then codes else take (length codes - space_behind codes) codes)
        ≡ (if b then told packed codes else take (length (told packed codes) - space_behind (told packed codes)) (told packed codes))
    by_test true = refl
    by_test false = sym (trims packed codes).trim

-- the text is at its end where its codes are
pub end_told : (packed : Bool) (codes : List ℕ) → is_end (told packed codes) ≡ is_end codes
end_told packed [] = refl
end_told packed (c ∷ cs) = some (told packed (c ∷ cs)) (told_some packed c cs)
  where
    some : (text : List ℕ) → (text ≡ [] → ⊥) → is_end text ≡ false
    some [] h = absurd (h refl)
    some (x ∷ xs) h = refl

-- the first line of what is left by its codes, once it was read from a piece of memory
pub next_of : (packed : Bool) (codes line behind shown : List ℕ) → (codes ≢ [] → IsNextLine packed codes line behind) → is_end codes ≡ false
    → shown ≡ line → lines_of (told packed codes) ≡ shown ∷ lines_of (told packed behind)
next_of packed [] line behind shown next more e = cc
next_of packed (c ∷ cs) line behind shown next more e =
    (next (λ (none : c ∷ cs ≡ []). cc)).lines ∙ ap (λ (l : List ℕ). l ∷ lines_of (told packed behind)) (sym e)

pub shorter_of : (packed : Bool) (codes line behind : List ℕ) → (codes ≢ [] → IsNextLine packed codes line behind) → is_end codes ≡ false
    → length behind < length codes
shorter_of packed [] line behind next more = cc
shorter_of packed (c ∷ cs) line behind next more = (next (λ (none : c ∷ cs ≡ []). cc)).shorter

-- there is a line where there are codes
pub some_line : (packed : Bool) (codes : List ℕ) → is_end codes ≡ false
    → (line : List ℕ) × (behind : List ℕ) × (lines_of (told packed codes) ≡ line ∷ lines_of behind)
some_line packed [] more = cc
some_line packed (c ∷ cs) more =
    let text : List ℕ = told packed (c ∷ cs) in
    (take (feed_at text) text, drop (suc (feed_at text)) text, split_at_feed text (told_some packed c cs))

pub nothing_told : (packed : Bool) (codes : List ℕ) → is_end codes ≡ true → told packed codes ≡ []
nothing_told packed [] e = refl
nothing_told packed (c ∷ cs) e = cc
