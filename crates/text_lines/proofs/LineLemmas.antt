-- The lines of a text are what the lines of its codes stand for.
use Rattle.std.proofs.Common.{◌≡◌, ◌≢◌, ◌<◌, ◌++◌, ◌+◌, ◌-◌, ◌⊎◌, inl, inr, ◌%◌, ◌/◌, ◌∷◌, [], ℕ, List, Bool, true}
use Rattle.std.proofs.Common.{false, ap, append-nil, arith, map, refl, sym, ◌∙◌}
use Rattle.std.specs.Prelude.{◌==◌, ◌&&◌, not, nat_lt, if◌then◌else◌}
use Rattle.std.specs.Char.{is_ascii_whitespace}
use Rattle.std.proofs.lemmas.Bool.Decides.{nat_tests}
use Rattle.text_lines.specs.Splits.{in_front, IsSplit, lines_of}
use Rattle.text_lines.specs.Words.{IsNextLine, pair, told, word}
use Rattle.text_lines.proofs.WordLemmas.{fits, phrase_fits}

no_feed : (c : ℕ) → is_ascii_whitespace c ≡ false → (c == 10) ≡ false
no_feed c e = grind (arith, nat_tests)

pub byte_fits : (c : ℕ) → is_ascii_whitespace c ≡ false → fits (c ∷ []) ≡ true
byte_fits c e = rw (no_feed c e) (rw e refl)

no_space : (c : ℕ) → nat_lt c 128 ≡ false → is_ascii_whitespace c ≡ false
no_space c e = grind (arith, nat_tests)

digit_fits : (a b : ℕ) → b < 10 → fits ((48 + a) ∷ (48 + b) ∷ []) ≡ true
digit_fits a b less =
    let first : ((48 + a) == 10) ≡ false = grind (arith, nat_tests) in
    let second : is_ascii_whitespace (48 + b) ≡ false = grind (arith, nat_tests) in
    rw first (byte_fits (48 + b) second)

-- a code of white space stands for itself, and the word of any other is a front of a line
abbrev pub IsKept : Bool → ℕ → Type 0
IsKept packed c = ((is_ascii_whitespace c ≡ true) × (word packed c ≡ c ∷ []))
    ⊎ ((is_ascii_whitespace c ≡ false) × (fits (word packed c) ≡ true))

kept_byte : (c : ℕ) (b : Bool) → is_ascii_whitespace c ≡ b → IsKept false c
kept_byte c true e = inl (e, refl)
kept_byte c false e = inr (e, byte_fits c e)

kept_pair : (n : ℕ) → fits (pair n) ≡ true
kept_pair n = digit_fits (n / 10) (n % 10) (omega arith)

pub kept : (packed : Bool) (c : ℕ) → IsKept packed c
kept false c = kept_byte c (is_ascii_whitespace c) refl
kept true c = by_size (nat_lt c 128) refl (nat_lt c 228) refl
  where
    by_size : (b : Bool) → nat_lt c 128 ≡ b → (d : Bool) → nat_lt c 228 ≡ d → IsKept true c
    by_size true e d f = rw e (kept_byte c (is_ascii_whitespace c) refl)
    by_size false e true f = inr (no_space c e, rw e (rw f (kept_pair (c - 128))))
    by_size false e false f = inr (no_space c e, rw e (rw f (phrase_fits (c - 228))))

-- a text in front of the first line
abbrev all_in_front : List ℕ → List (List ℕ) → List (List ℕ)
all_in_front front [] = front ∷ []
all_in_front front (line ∷ lines) = (front ++ line) ∷ lines

front_byte : (x : ℕ) (lines : List (List ℕ)) → in_front x lines ≡ all_in_front (x ∷ []) lines
front_byte x [] = refl
front_byte x (l ∷ ls) = refl

front_more : (x : ℕ) (front : List ℕ) (lines : List (List ℕ)) → in_front x (all_in_front front lines) ≡ all_in_front (x ∷ front) lines
front_more x front [] = refl
front_more x front (l ∷ ls) = refl

front_of_line : (front text : List ℕ) → fits front ≡ true → lines_of (front ++ text) ≡ all_in_front front (lines_of text)
front_of_line [] text e = cc
front_of_line (x ∷ []) text e = by_feed (x == 10) e
  where
    by_feed : (b : Bool) → (not b && not (is_ascii_whitespace x)) ≡ true
        → (if b then [] ∷ lines_of text else in_front x (lines_of text)) ≡ all_in_front (x ∷ []) (lines_of text)
    by_feed true h = cc
    by_feed false h = front_byte x (lines_of text)
front_of_line (x ∷ y ∷ ys) text e = by_feed (front_of_line (y ∷ ys) text) (x == 10) e
  where
    by_feed : (fits (y ∷ ys) ≡ true → lines_of (y ∷ ys ++ text) ≡ all_in_front (y ∷ ys) (lines_of text))
        → (b : Bool) → (not b && fits (y ∷ ys)) ≡ true
        → (if b then [] ∷ lines_of (y ∷ ys ++ text) else in_front x (lines_of (y ∷ ys ++ text))) ≡ all_in_front (x ∷ y ∷ ys) (lines_of text)
    by_feed rest true h = cc
    by_feed rest false h = ap (in_front x) (rest h) ∙ front_more x (y ∷ ys) (lines_of text)

told_front : (packed : Bool) (c : ℕ) (lines : List (List ℕ)) → all_in_front (word packed c) (map (told packed) lines)
    ≡ map (told packed) (in_front c lines)
told_front packed c [] = ap (λ (l : List ℕ). l ∷ []) (sym (append-nil (word packed c)))
told_front packed c (l ∷ ls) = refl

pub lines_told : (packed : Bool) (codes : List ℕ) → lines_of (told packed codes) ≡ map (told packed) (lines_of codes)
lines_told packed [] = refl
lines_told packed (c ∷ cs) = by_kind (lines_told packed cs) (kept packed c)
  where
    by_feed : lines_of (told packed cs) ≡ map (told packed) (lines_of cs) → word packed c ≡ c ∷ [] → (b : Bool)
        → (if b then [] ∷ lines_of (told packed cs) else in_front c (lines_of (told packed cs)))
        ≡ map (told packed) (if b then [] ∷ lines_of cs else in_front c (lines_of cs))
    by_feed rest is true = ap (λ (ls : List (List ℕ)). [] ∷ ls) rest
    by_feed rest is false = ap (in_front c) rest ∙ front_byte c (map (told packed) (lines_of cs))
        ∙ ap (λ (v : List ℕ). all_in_front v (map (told packed) (lines_of cs))) (sym is) ∙ told_front packed c (lines_of cs)

    inside : (c == 10) ≡ false → map (told packed) (in_front c (lines_of cs)) ≡ map (told packed) (lines_of (c ∷ cs))
    inside e = rw e refl

    by_kind : lines_of (told packed cs) ≡ map (told packed) (lines_of cs)
        → ((is_ascii_whitespace c ≡ true) × (word packed c ≡ c ∷ [])) ⊎ ((is_ascii_whitespace c ≡ false) × (fits (word packed c) ≡ true))
        → lines_of (word packed c ++ told packed cs) ≡ map (told packed) (lines_of (c ∷ cs))
    by_kind rest (inl h) = ap (λ (v : List ℕ). lines_of (v ++ told packed cs)) h.1 ∙ by_feed rest h.1 (c == 10)
    by_kind rest (inr h) = front_of_line (word packed c) (told packed cs) h.1
        ∙ ap (all_in_front (word packed c)) rest ∙ told_front packed c (lines_of cs) ∙ inside (no_feed c h.0)

-- the first line of a text is what the first line of its codes stands for
pub split_told : (packed : Bool) (codes line rest : List ℕ) → lines_of codes ≡ line ∷ lines_of rest
    → lines_of (told packed codes) ≡ told packed line ∷ lines_of (told packed rest)
split_told packed codes line rest e =
    lines_told packed codes ∙ ap (map (told packed)) e ∙ ap (λ (ls : List (List ℕ)). told packed line ∷ ls) (sym (lines_told packed rest))

pub next_told : (packed : Bool) (codes own line behind : List ℕ) → IsSplit codes own behind → line ≡ told packed own
    → IsNextLine packed codes line behind
next_told packed codes own line behind split e = record {
  lines = split_told packed codes own behind split.lines ∙ ap (λ (l : List ℕ). l ∷ lines_of (told packed behind)) (sym e);
  shorter = split.shorter;
}

-- where there are codes there is text
pub told_some : (packed : Bool) (c : ℕ) (cs : List ℕ) → told packed (c ∷ cs) ≢ []
told_some packed c cs none = by_kind (kept packed c)
  where
    no_front : (front rest : List ℕ) → fits front ≡ true → front ++ rest ≡ [] → ⊥
    no_front [] rest e none = cc
    no_front (x ∷ xs) rest e none = cc

    by_kind : ((is_ascii_whitespace c ≡ true) × (word packed c ≡ c ∷ [])) ⊎ ((is_ascii_whitespace c ≡ false)
        × (fits (word packed c) ≡ true)) → ⊥
    by_kind (inl h) =
        let some : c ∷ told packed cs ≡ [] = ap (λ (v : List ℕ). v ++ told packed cs) (sym h.1) ∙ none in cc
    by_kind (inr h) = no_front (word packed c) (told packed cs) h.1 none
