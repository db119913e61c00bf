-- A text ends in the white space that its codes end in.
use Rattle.std.proofs.Common.{◌≡◌, ◌++◌, ◌+◌, ◌-◌, ◌⊎◌, inl, inr, ◌∷◌, [], ℕ, List, Bool, true, false, ap, append_assoc, append-nil, arith}
use Rattle.std.proofs.Common.{length, length-append, refl, reverse, subst, sym, take, ◌∙◌}
use Rattle.std.specs.Prelude.{◌==◌, ◌&&◌, not, cond}
use Rattle.std.specs.Char.{is_ascii_whitespace}
use Rattle.std.specs.List.{prefix_len, suffix_len}
use Rattle.std.proofs.lemmas.List.{reverse-append, reverse-reverse, take_all, take-append-le}
use Rattle.std.proofs.lemmas.Grind.{flat_map-append}
use Rattle.text_lines.specs.Words.{told, word}
use Rattle.text_lines.proofs.WordLemmas.{fits}
use Rattle.text_lines.proofs.LineLemmas.{byte_fits, kept}

-- the white space at the end of a text, and the text without it
abbrev pub space : List ℕ → ℕ
space text = suffix_len is_ascii_whitespace text

abbrev pub trim : List ℕ → List ℕ
trim text = take (length text - space text) text

space_more : (text : List ℕ) (c : ℕ) → is_ascii_whitespace c ≡ true → space (text ++ c ∷ []) ≡ 1 + space text
space_more text c e =
    ap (prefix_len is_ascii_whitespace) (reverse-append text (c ∷ [])) ∙ ap (λ (b : Bool). cond b (1 + space text) 0) e

ends_in : (front rest : List ℕ) → fits front ≡ true → prefix_len is_ascii_whitespace (reverse front ++ rest) ≡ 0
ends_in [] rest e = cc
ends_in (x ∷ []) rest e = by_test (x == 10) (is_ascii_whitespace x) e
  where
    by_test : (a b : Bool) → (not a && not b) ≡ true → cond b (1 + prefix_len is_ascii_whitespace rest) 0 ≡ 0
    by_test true b h = cc
    by_test false true h = cc
    by_test false false h = refl
ends_in (x ∷ y ∷ ys) rest e =
    ap (λ (l : List ℕ). prefix_len is_ascii_whitespace (l ++ rest)) (reverse-append (x ∷ []) (y ∷ ys))
    ∙ ap (prefix_len is_ascii_whitespace) (append_assoc (reverse (y ∷ ys)) (x ∷ []) rest)
    ∙ ends_in (y ∷ ys) (x ∷ rest) (behind (x == 10) e)
  where
    behind : (a : Bool) → (not a && fits (y ∷ ys)) ≡ true → fits (y ∷ ys) ≡ true
    behind true h = cc
    behind false h = h

no_space : (text front : List ℕ) → fits front ≡ true → space (text ++ front) ≡ 0
no_space text front e = ap (prefix_len is_ascii_whitespace) (reverse-append text front) ∙ ends_in front (reverse text) e

trim_space : (text : List ℕ) (c : ℕ) → is_ascii_whitespace c ≡ true → trim (text ++ c ∷ []) ≡ trim text
trim_space text c e =
    let left : length (text ++ c ∷ []) - space (text ++ c ∷ []) ≡ length text - space text =
    omega (arith, length-append text (c ∷ []), space_more text c e) in
    ap (λ (n : ℕ). take n (text ++ c ∷ [])) left ∙ take-append-le (length text - space text) text (c ∷ []) (omega arith)

trim_none : (text front : List ℕ) → fits front ≡ true → trim (text ++ front) ≡ text ++ front
trim_none text front e = take_all (length (text ++ front) - space (text ++ front)) (text ++ front) (omega (arith, no_space text front e))

pub record Trims (packed : Bool) (codes : List ℕ) : Type 0 where
  pub space : space (told packed codes) ≡ space codes
  pub trim : trim (told packed codes) ≡ told packed (trim codes)

told_last : (packed : Bool) (codes : List ℕ) (c : ℕ) → told packed (codes ++ c ∷ []) ≡ told packed codes ++ word packed c
told_last packed codes c =
    flat_map-append (word packed) codes (c ∷ []) ∙ ap (λ (l : List ℕ). told packed codes ++ l) (append-nil (word packed c))

one_more : (packed : Bool) (codes : List ℕ) (c : ℕ) → Trims packed codes → Trims packed (codes ++ c ∷ [])
one_more packed codes c before = by_kind (kept packed c)
  where
    by_kind : ((is_ascii_whitespace c ≡ true) × (word packed c ≡ c ∷ [])) ⊎ ((is_ascii_whitespace c ≡ false)
        × (fits (word packed c) ≡ true))
        → Trims packed (codes ++ c ∷ [])
    by_kind (inl h) =
        let last : told packed (codes ++ c ∷ []) ≡ told packed codes ++ c ∷ [] =
        told_last packed codes c ∙ ap (λ (l : List ℕ). told packed codes ++ l) h.1 in
        record {
          space = ap space last ∙ space_more (told packed codes) c h.0 ∙ ap (λ (n : ℕ). 1 + n) before.space ∙ sym (space_more codes c h.0);
          trim = ap trim last ∙ trim_space (told packed codes) c h.0 ∙ before.trim ∙ ap (told packed) (sym (trim_space codes c h.0));
        }
    by_kind (inr h) =
        let own : fits (c ∷ []) ≡ true = byte_fits c h.0 in
        record {
          space = ap space (told_last packed codes c) ∙ no_space (told packed codes) (word packed c) h.1
              ∙ sym (no_space codes (c ∷ []) own);
          trim = ap trim (told_last packed codes c) ∙ trim_none (told packed codes) (word packed c) h.1 ∙ sym (told_last packed codes c)
              ∙ ap (told packed) (sym (trim_none codes (c ∷ []) own));
        }

by_last : (packed : Bool) (turned : List ℕ) → Trims packed (reverse turned)
by_last packed [] = record { space = refl; trim = refl }
by_last packed (c ∷ cs) =
    subst (Trims packed) (sym (reverse-append (c ∷ []) cs)) (one_more packed (reverse cs) c (by_last packed cs))

pub trims : (packed : Bool) (codes : List ℕ) → Trims packed codes
trims packed codes = subst (Trims packed) (reverse-reverse codes) (by_last packed (reverse codes))
