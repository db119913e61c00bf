-- A text that lies over the front of a buffer: all of it, or a front of it where the buffer is shorter.
use Rattle.std.proofs.Common.{◌≡◌, ◌≤◌, ◌++◌, [], ◌∷◌, ℕ, List, ap, arith, drop, length, min, refl, sym, ◌∙◌, take, suc}
use Rattle.std.proofs.lemmas.List.{append-nil, drop_all, take_all}
use Rattle.memory_answers.specs.Handing.{put_over}

front_of : (text rest : List ℕ) → take (length text) (text ++ rest) ≡ text
front_of [] rest = refl
front_of (x ∷ xs) rest = ap (λ (l : List ℕ). x ∷ l) (front_of xs rest)

behind : (text rest : List ℕ) → drop (length text) (text ++ rest) ≡ rest
behind [] rest = refl
behind (x ∷ xs) rest = behind xs rest

whole : (text old : List ℕ) → length text ≤ length old → put_over text old ≡ text ++ drop (length text) old
whole text old fits =
    let all : min (length text) (length old) ≡ length text = omega (arith, fits) in
    ap (λ (n : ℕ). take n text ++ drop n old) all
    ∙ ap (λ (l : List ℕ). l ++ drop (length text) old) (take_all (length text) text (omega arith))

pub text_whole : (text old new : List ℕ) (size : ℕ) → new ≡ put_over text old → size ≡ length text → size ≤ length old
    → text ≡ take size new
text_whole text old new size put counted fits =
    sym (ap (λ (n : ℕ). take n new) counted
    ∙ ap (λ (l : List ℕ). take (length text) l) (put ∙ whole text old (omega (arith, counted, fits)))
    ∙ front_of text (drop (length text) old))

pub rest_stays : (text old new : List ℕ) (size : ℕ) → new ≡ put_over text old → size ≡ length text → size ≤ length old
    → drop size new ≡ drop size old
rest_stays text old new size put counted fits =
    ap (λ (n : ℕ). drop n new) counted
    ∙ ap (λ (l : List ℕ). drop (length text) l) (put ∙ whole text old (omega (arith, counted, fits)))
    ∙ behind text (drop (length text) old)
    ∙ ap (λ (n : ℕ). drop n old) (sym counted)

pub front_full : (text old new : List ℕ) (size : ℕ) → new ≡ put_over text old → size ≡ length text → length old ≤ size
    → new ≡ take (length old) text
front_full text old new size put counted short =
    let least : min (length text) (length old) ≡ length old = omega (arith, counted, short) in
    put ∙ ap (λ (n : ℕ). take n text ++ drop n old) least
    ∙ ap (λ (l : List ℕ). take (length old) text ++ l) (drop_all (length old) old (omega arith))
    ∙ append-nil (take (length old) text)
