-- One value more of those of an array: a number, or none.
use Rattle.std.proofs.Common.{◌≡◌, ◌∙◌, ◌++◌, ◌+◌, ◌<◌, ◌∷◌, [], ℕ, List, Option, Some, None, ap, append_assoc, append-nil, drop, get_or, length, map, sym}
use Rattle.std.proofs.lemmas.List.{at_drop_more}
use Rattle.serde_json.specs.View.{view}
use Rattle.serde_json.specs.declared.value.Value.{Value}
use Rattle.read_document.specs.Values.{as_whole}
use Rattle.record_words.specs.Words.{number_before, numbers_of}

-- what the values from this one on give
pub from_one : (values : List Value) (i : ℕ) (value : Value) (number : Option ℕ) → i < length values
    → value ≡ get_or values i value → number ≡ as_whole (view value)
    → numbers_of (map view (drop i values)) ≡ number_before number (numbers_of (map view (drop (i + 1) values)))
from_one values i value number less is of =
    let rest : List ℕ = numbers_of (map view (drop (i + 1) values)) in
    at_drop_more (λ (l : List Value). numbers_of (map view l)) values i value less
    ∙ ap (λ (v : Value). number_before (as_whole (view v)) rest) (sym is) ∙ ap (λ (o : Option ℕ). number_before o rest) (sym of)

pub no_more : (values : List Value) (i : ℕ) (value : Value) (numbers all : List ℕ) → i < length values
    → value ≡ get_or values i value → None ≡ as_whole (view value) → numbers ++ numbers_of (map view (drop i values)) ≡ all
    → numbers ≡ all
no_more values i value numbers all less is of before =
    sym (append-nil numbers) ∙ ap (λ (l : List ℕ). numbers ++ l) (sym (from_one values i value None less is of)) ∙ before

pub one_more : (values : List Value) (i : ℕ) (value : Value) (n : ℕ) (numbers new all : List ℕ) → i < length values
    → value ≡ get_or values i value → Some n ≡ as_whole (view value) → numbers ++ numbers_of (map view (drop i values)) ≡ all
    → new ≡ numbers ++ (n ∷ []) → new ++ numbers_of (map view (drop (i + 1) values)) ≡ all
one_more values i value n numbers new all less is of before pushed =
    let rest : List ℕ = numbers_of (map view (drop (i + 1) values)) in
    ap (λ (l : List ℕ). l ++ rest) pushed ∙ append_assoc numbers (n ∷ []) rest
    ∙ ap (λ (l : List ℕ). numbers ++ l) (sym (from_one values i value (Some n) less is of)) ∙ before
