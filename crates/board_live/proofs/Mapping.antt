-- A list is gone through from its end, and what its elements give is pushed: in the end that is turned round.
use Rattle.std.proofs.Common.{◌≡◌, List, [], ◌∷◌, ◌++◌, length, map, reverse, refl, sym, ◌∙◌, ap, arith, append_assoc, append-nil}
use Rattle.std.proofs.lemmas.List.{map-append, reverse-append}
use Rattle.board_live.specs.declared.board.Pass.{Pass}
use Rattle.board_live.specs.inner.Room.{in_order}

-- a list of what was made so far from the last elements, last first
pub record MappedFrom {A B : Type 0} (f : A → B) (whole left : List A) (made : List B) : Type 0 where
  pub done : List A
  pub of : whole ≡ left ++ done
  pub are : reverse made ≡ map f done

pub mapped_none : {A B : Type 0} (f : A → B) (whole : List A) → MappedFrom f whole whole []
mapped_none f whole = record { done = []; of = sym (append-nil whole); are = refl }

pub mapped_more : {A B : Type 0} (f : A → B) (whole before left : List A) (made : List B) (x : A) → MappedFrom f whole before made
    → before ≡ left ++ x ∷ [] → MappedFrom f whole left (made ++ f x ∷ [])
mapped_more f whole before left made x h e = record {
  done = x ∷ h.done;
  of = h.of ∙ ap (λ z. z ++ h.done) e ∙ append_assoc left (x ∷ []) h.done;
  are = reverse-append made (f x ∷ []) ∙ ap (λ z. f x ∷ z) h.are;
}

pub mapped_all : {A B : Type 0} (f : A → B) (whole left : List A) (made : List B) → MappedFrom f whole left made → length left ≡ 0
    → reverse made ≡ map f whole
mapped_all f whole [] made h e = h.are ∙ ap (map f) (sym h.of)
mapped_all f whole (x ∷ xs) made h e = absurd (omega (arith, e))

module _ {V F S T : Type 0} where
  -- no pass is left
  pub order_none : (passes : List (Pass V F S T)) (seats : List S) → length passes ≡ 0 → in_order passes seats ≡ reverse seats
  order_none [] seats e = refl
  order_none (p ∷ ps) seats e = absurd (omega (arith, e))

  -- the last pass's seat is taken out
  pub order_more : (passes left : List (Pass V F S T)) (seats : List S) (p : Pass V F S T) → passes ≡ left ++ p ∷ [] →
      in_order left (seats ++ p.seat ∷ []) ≡ in_order passes seats
  order_more passes left seats p e =
      ap (λ z. map (λ q. q.seat) left ++ z) (reverse-append seats (p.seat ∷ []))
      ∙ sym (append_assoc (map (λ q. q.seat) left) (p.seat ∷ []) (reverse seats))
      ∙ ap (λ z. z ++ reverse seats) (sym (map-append (λ q. q.seat) left (p ∷ [])))
      ∙ ap (λ z. in_order z seats) (sym e)
