-- The front of a document tells whether it's a log in lines, if it is longer than any header.
use Rattle.std.proofs.Common.{rules, tests, ◌≡◌, ℕ, ◌<◌, ◌≤◌, List, [], ◌∷◌, ◌++◌, ◌⊎◌, inl, inr, length, refl, ap, sym, ◌∙◌, arith, Bool}
use Rattle.std.proofs.Common.{true, false, length-append}
use Rattle.std.specs.Prelude.{◌==◌, nat_le}
use Rattle.read_document.specs.Document.{json_of, max_bytes, value_of}
use Rattle.read_document.specs.Refusals.{◌>>=◌, must, some_or}
use Rattle.read_document.specs.declared.refusal.DocError.TheVariants.{Long, NotJson}
use Rattle.text_lines.specs.Splits.{in_front, lines_of}
use Rattle.read_document.specs.Kinds.{is_header, says_lines}
use Rattle.fsr_order_input.specs.Kinds.{are_lines, first_is_header}

-- a front and what more comes have one first line, or the front is a part of the first line
abbrev Begins : List ℕ → List ℕ → Type 0
Begins front more =
    ((line : List ℕ) × (a : List (List ℕ)) × (b : List (List ℕ)) × (lines_of front ≡ line ∷ a) × (lines_of (front ++ more) ≡ line ∷ b))
    ⊎ ((tail : List ℕ) × (b : List (List ℕ)) × (lines_of front ≡ front ∷ []) × (lines_of (front ++ more) ≡ (front ++ tail) ∷ b))

at_feed : (x : ℕ) (xs : List ℕ) → (x == 10) ≡ true → lines_of (x ∷ xs) ≡ [] ∷ lines_of xs
at_feed x xs e = rw e refl

no_feed : (x : ℕ) (xs : List ℕ) → (x == 10) ≡ false → lines_of (x ∷ xs) ≡ in_front x (lines_of xs)
no_feed x xs e = rw e refl

last_byte : (x : ℕ) (more : List ℕ) (b : Bool) → (x == 10) ≡ b → Begins (x ∷ []) more
last_byte x more true e = inl ([], [], lines_of more, at_feed x [] e, at_feed x more e)
last_byte x more false e = by_lines (lines_of more) refl
  where
    by_lines : (ls : List (List ℕ)) → lines_of more ≡ ls → Begins (x ∷ []) more
    by_lines [] is = inr ([], [], no_feed x [] e, no_feed x more e ∙ ap (in_front x) is)
    by_lines (l ∷ ls) is = inr (l, ls, no_feed x [] e, no_feed x more e ∙ ap (in_front x) is)

one_byte : (x : ℕ) (xs more : List ℕ) (b : Bool) → Begins xs more → (x == 10) ≡ b → Begins (x ∷ xs) more
one_byte x xs more true rest e = inl ([], lines_of xs, lines_of (xs ++ more), at_feed x xs e, at_feed x (xs ++ more) e)
one_byte x xs more false (inl same) e =
    inl (x ∷ same.0, same.1, same.2, no_feed x xs e ∙ ap (in_front x) same.3, no_feed x (xs ++ more) e ∙ ap (in_front x) same.4)
one_byte x xs more false (inr on) e =
    inr (on.0, on.1, no_feed x xs e ∙ ap (in_front x) on.2, no_feed x (xs ++ more) e ∙ ap (in_front x) on.3)

begins : (x : ℕ) (xs more : List ℕ) → Begins (x ∷ xs) more
begins x [] more = last_byte x more (x == 10) refl
begins x (y ∷ ys) more = one_byte x (y ∷ ys) more (x == 10) (begins y ys more) refl

too_long : (line : List ℕ) → max_bytes < length line → is_header line ≡ false
unfolding value_of
too_long line long = by_test (nat_le (length line) max_bytes) refl
  where
    by_test : (b : Bool) → nat_le (length line) max_bytes ≡ b
        → says_lines (must b Long >>= (λ short_enough. some_or NotJson (json_of line))) ≡ false
    by_test true test = absurd (let fits : length line ≤ max_bytes = search (rules, tests) in omega (arith, fits, long))
    by_test false test = refl

pub front_decides : (front more : List ℕ) → max_bytes < length front → are_lines (front ++ more) ≡ are_lines front
front_decides [] more long = absurd (omega (arith, long))
front_decides (x ∷ xs) more long = by_way (begins x xs more)
  where
    by_way : Begins (x ∷ xs) more → are_lines ((x ∷ xs) ++ more) ≡ are_lines (x ∷ xs)
    by_way (inl same) = ap first_is_header same.4 ∙ sym (ap first_is_header same.3)
    by_way (inr on) =
        ap first_is_header on.3 ∙ too_long ((x ∷ xs) ++ on.0) (omega (arith, long, length-append (x ∷ xs) on.0))
        ∙ sym (ap first_is_header on.2 ∙ too_long (x ∷ xs) long)
