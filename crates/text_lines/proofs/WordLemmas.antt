-- A phrase isn't empty, has no line feed and doesn't end in white space.
use Rattle.std.proofs.Common.{◌≡◌, ◌<◌, ◌++◌, ◌+◌, ◌-◌, ◌∷◌, [], ℕ, List, Bool, true, false, ap, append_assoc}
use Rattle.std.proofs.Common.{append-nil, arith, get_or, length}
use Rattle.std.proofs.Common.{refl, sym, subst, ◌∙◌, take, length-append}
use Rattle.std.specs.Prelude.{◌==◌, ◌&&◌, not, codes, nat_lt, if◌then◌else◌, Result, Ok, Err, IfOk, is_ok}
use Rattle.std.proofs.lemmas.Bool.Decides.{nat_tests}
use Rattle.std.specs.Char.{is_ascii_whitespace}
use Rattle.std.proofs.lemmas.List.{take_more}
use Rattle.std.proofs.lemmas.Grind.{flat_map-append}
use Rattle.text_lines.specs.Words.{BeginsWith, phrase, told, word}

-- a text that isn't empty, has no line feed and doesn't end in white space
abbrev pub fits : List ℕ → Bool
fits [] = false
fits (x ∷ []) = not (x == 10) && not (is_ascii_whitespace x)
fits (x ∷ y ∷ ys) = not (x == 10) && fits (y ∷ ys)

choose : (b : Bool) (x y : List ℕ) → fits x ≡ true → fits y ≡ true → fits (if b then x else y) ≡ true
choose true x y a b = a
choose false x y a b = b

pub phrase_fits : (n : ℕ) → fits (phrase n) ≡ true
phrase_fits n =
    choose (n == 0) _ _ refl (choose (n == 1) _ _ refl (choose (n == 2) _ _ refl (choose (n == 3) _ _ refl (choose (n == 4) _ _ refl
    (choose (n == 5) _ _ refl (choose (n == 6) _ _ refl (choose (n == 7) _ _ refl (choose (n == 8) _ _ refl (choose (n == 9) _ _ refl
    (choose (n == 10) _ _ refl (choose (n == 11) _ _ refl (choose (n == 12) _ _ refl (choose (n == 13) _ _ refl (choose (n == 14) _ _ refl
    (choose (n == 15) _ _ refl (choose (n == 16) _ _ refl (choose (n == 17) _ _ refl (choose (n == 18) _ _ refl refl))))))))))))))))))

pub has_length : (text : List ℕ) → fits text ≡ true → 0 < length text
has_length [] e = cc
has_length (x ∷ xs) e = omega arith

word_phrase : (n : ℕ) → word true (228 + n) ≡ phrase n
word_phrase n =
    let byte : nat_lt (228 + n) 128 ≡ false = grind (arith, nat_tests) in
    let digits : nat_lt (228 + n) 228 ≡ false = grind (arith, nat_tests) in
    let number : (228 + n) - 228 ≡ n = omega arith in
    rw byte (rw digits (ap phrase number))

-- behind a phrase less is left
pub phrase_first : (bytes prefix rest : List ℕ) (n : ℕ) → prefix ≡ phrase n → bytes ≡ prefix ++ rest → BeginsWith bytes (228 + n) rest
phrase_first bytes prefix rest n is parts = record {
  parts = parts ∙ ap (λ (l : List ℕ). l ++ rest) (is ∙ sym (word_phrase n));
  shorter = omega (arith, ap length parts, ap length is, length-append prefix rest, has_length (phrase n) (phrase_fits n));
}

-- one code more of those of a list
pub one_more : (packed : Bool) (start text new codes : List ℕ) (i d : ℕ) → i < length codes → text ≡ start ++ told packed (take i codes)
    → new ≡ text ++ word packed (get_or codes i d) → new ≡ start ++ told packed (take (i + 1) codes)
one_more packed start text new codes i d less before next =
    let last : told packed (get_or codes i d ∷ []) ≡ word packed (get_or codes i d) = append-nil (word packed (get_or codes i d)) in
    let grown : told packed (take (i + 1) codes) ≡ told packed (take i codes) ++ word packed (get_or codes i d) =
    ap (told packed) (take_more codes i d less) ∙ flat_map-append (word packed) (take i codes) (get_or codes i d ∷ [])
    ∙ ap (λ (l : List ℕ). told packed (take i codes) ++ l) last in
    next ∙ ap (λ (l : List ℕ). l ++ word packed (get_or codes i d)) before
    ∙ append_assoc start (told packed (take i codes)) (word packed (get_or codes i d))
    ∙ ap (λ (l : List ℕ). start ++ l) (sym grown)

-- a code taken from the front of what is left
pub one_packed : (codes new all rest behind : List ℕ) (code : ℕ) → told true codes ++ rest ≡ all → BeginsWith rest code behind
    → new ≡ codes ++ code ∷ [] → told true new ++ behind ≡ all
one_packed codes new all rest behind code before first pushed =
    ap (λ (l : List ℕ). told true l ++ behind) pushed
    ∙ ap (λ (l : List ℕ). l ++ behind) (flat_map-append (word true) codes (code ∷ []))
    ∙ ap (λ (l : List ℕ). (told true codes ++ l) ++ behind) (append-nil (word true code))
    ∙ append_assoc (told true codes) (word true code) behind
    ∙ ap (λ (l : List ℕ). told true codes ++ l) (sym first.parts) ∙ before

-- what is true of a longer text, where there was memory for it
pub if_longer : {T E : Type 0} (result : Result T E) (P : List ℕ → Type 0) (new more old : List ℕ) →
    new ≡ (if is_ok result then more else old) → P more → IfOk result (λ _. P new)
if_longer (Ok x) P new more old e h = subst P (sym e) h
if_longer (Err x) P new more old e h = tt

-- where each code is a byte
pub told_plain : (codes : List ℕ) → told false codes ≡ codes
told_plain [] = refl
told_plain (x ∷ xs) = ap (λ (l : List ℕ). x ∷ l) (told_plain xs)

pub plain_more : (packed : Bool) (old new bytes : List ℕ) → packed ≡ false → new ≡ old ++ bytes → told packed new ≡ told packed old ++ bytes
plain_more true old new bytes unpacked e = cc
plain_more false old new bytes unpacked e = told_plain new ∙ e ∙ ap (λ (l : List ℕ). l ++ bytes) (sym (told_plain old))

pub plain_pushed : (packed : Bool) (old new codes : List ℕ) → packed ≡ false → new ≡ old ++ codes → new ≡ old ++ told packed codes
plain_pushed true old new codes unpacked e = cc
plain_pushed false old new codes unpacked e = e ∙ ap (λ (l : List ℕ). old ++ l) (sym (told_plain codes))

pub unpacked_same : (packed : Bool) (codes slice start text : List ℕ) → slice ≡ codes → start ≡ [] → text ≡ start ++ told packed slice
    → told false text ≡ told packed codes
unpacked_same packed codes slice start text same none e =
    told_plain text ∙ e ∙ ap (λ (l : List ℕ). l ++ told packed slice) none ∙ ap (told packed) same
