-- Pieces of a text, one behind the other, are one.
use Rattle.std.proofs.Common.{◌≡◌, ◌∙◌, ◌++◌, ℕ, List, ap, append_assoc}

two_pieces : (start a b one two : List ℕ) → one ≡ start ++ a → two ≡ one ++ b → two ≡ start ++ (a ++ b)
two_pieces start a b one two first second = second ∙ ap (λ (l : List ℕ). l ++ b) first ∙ append_assoc start a b

pub three_pieces : (start a b c one two three : List ℕ) → one ≡ start ++ a → two ≡ one ++ b → three ≡ two ++ c →
    three ≡ start ++ (a ++ b ++ c)
three_pieces start a b c one two three first second third =
    third ∙ ap (λ (l : List ℕ). l ++ c) (two_pieces start a b one two first second) ∙ append_assoc start (a ++ b) c

four_pieces : (start a b c d one two three four : List ℕ) → one ≡ start ++ a → two ≡ one ++ b → three ≡ two ++ c → four ≡ three ++ d →
    four ≡ start ++ (a ++ b ++ c ++ d)
four_pieces start a b c d one two three four first second third fourth =
    fourth ∙ ap (λ (l : List ℕ). l ++ d) (three_pieces start a b c one two three first second third)
    ∙ append_assoc start (a ++ b ++ c) d

pub five_pieces : (start a b c d e one two three four five : List ℕ) → one ≡ start ++ a → two ≡ one ++ b → three ≡ two ++ c →
    four ≡ three ++ d → five ≡ four ++ e → five ≡ start ++ (a ++ b ++ c ++ d ++ e)
five_pieces start a b c d e one two three four five first second third fourth fifth =
    fifth ∙ ap (λ (l : List ℕ). l ++ e) (four_pieces start a b c d one two three four first second third fourth)
    ∙ append_assoc start (a ++ b ++ c ++ d) e
