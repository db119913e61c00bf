-- Pieces, one behind the other, are one.
use Rattle.std.proofs.Common.{◌≡◌, ◌∙◌, ◌++◌, ◌+◌, ◌<◌, ◌∷◌, [], ℕ, List, ap, append_assoc, append-nil, get_or, length, sym, take}
use Rattle.std.specs.List.{flat_map}
use Rattle.std.proofs.lemmas.List.{take_more}
use Rattle.std.proofs.lemmas.Grind.{flat_map-append}

pub two_pieces : (start a b one two : List ℕ) → one ≡ start ++ a → two ≡ one ++ b → two ≡ start ++ (a ++ b)
two_pieces start a b one two first second = second ∙ ap (λ (l : List ℕ). l ++ b) first ∙ append_assoc start a b

pub three_pieces : (start a b c one two three : List ℕ) → one ≡ start ++ a → two ≡ one ++ b →
    three ≡ two ++ c → three ≡ start ++ (a ++ b ++ c)
three_pieces start a b c one two three first second third =
    third ∙ ap (λ (l : List ℕ). l ++ c) (two_pieces start a b one two first second) ∙ append_assoc start (a ++ b) c

pub four_pieces : (start a b c d one two three four : List ℕ) → one ≡ start ++ a → two ≡ one ++ b → three ≡ two ++ c → four ≡ three ++ d
    → four ≡ start ++ (a ++ b ++ c ++ d)
four_pieces start a b c d one two three four first second third fourth =
    fourth ∙ ap (λ (l : List ℕ). l ++ d) (three_pieces start a b c one two three first second third) ∙ append_assoc start (a ++ b ++ c) d

pub five_pieces : (start a b c d e one two three four five : List ℕ) → one ≡ start ++ a → two ≡ one ++ b → three ≡ two ++ c
    → four ≡ three ++ d → five ≡ four ++ e → five ≡ start ++ (a ++ b ++ c ++ d ++ e)
five_pieces start a b c d e one two three four five first second third fourth fifth =
    fifth ∙ ap (λ (l : List ℕ). l ++ e) (four_pieces start a b c d one two three four first second third fourth)
    ∙ append_assoc start (a ++ b ++ c ++ d) e

-- one piece more of those of a list
pub one_more : {X : Type 0} (f : X → List ℕ) (start text new : List ℕ) (rest : List X) (i : ℕ) (d : X) → i < length rest
    → text ≡ start ++ flat_map f (take i rest) → new ≡ text ++ f (get_or rest i d) → new ≡ start ++ flat_map f (take (i + 1) rest)
one_more f start text new rest i d less before next =
    let last : flat_map f (get_or rest i d ∷ []) ≡ f (get_or rest i d) = append-nil (f (get_or rest i d)) in
    let grown : flat_map f (take (i + 1) rest) ≡ flat_map f (take i rest) ++ f (get_or rest i d) =
    ap (flat_map f) (take_more rest i d less) ∙ flat_map-append f (take i rest) (get_or rest i d ∷ [])
    ∙ ap (λ (l : List ℕ). flat_map f (take i rest) ++ l) last in
    next ∙ ap (λ (l : List ℕ). l ++ f (get_or rest i d)) before ∙ append_assoc start (flat_map f (take i rest)) (f (get_or rest i d))
    ∙ ap (λ (l : List ℕ). start ++ l) (sym grown)
