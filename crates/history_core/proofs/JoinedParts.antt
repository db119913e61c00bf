-- Many parts, one after the other, by recursion: the first one, and the whole of the others with their places moved on.
use Rattle.std.proofs.Common.{◌≡◌, ℕ, ◌+◌, List, [], ◌∷◌, ◌++◌, length, Some, arith, refl, sym, subst, ◌∙◌, ap, append-nil, append_assoc}
use Rattle.std.proofs.Common.{length-append}
use Rattle.history_core.specs.Joined.{HasFirstTerm, IsInTurn, ops_of, order_after, order_from, Part, terms_after, terms_from}
use Rattle.history_core.specs.Orders.{IsAtomicOrder, latest, RefusesLawfully}
use Rattle.history_core.proofs.Joined.{atomic_joined, latest_joined}
use Rattle.history_core.proofs.JoinedLimits.{lawful_joined}

-- places moved on twice, and by nothing
order_after_twice : (a b : ℕ) (order : List ℕ) → order_after (a + b) order ≡ order_after a (order_after b order)
order_after_twice a b [] = refl
order_after_twice a b (p ∷ order) = ap (λ q. q ∷ order_after (a + b) order) (let e : (a + b) + p ≡ a + (b + p) = omega arith in
    e) ∙ ap (λ xs. (a + (b + p)) ∷ xs) (order_after_twice a b order)

order_after_none : (order : List ℕ) → order_after 0 order ≡ order
order_after_none [] = refl
order_after_none (p ∷ order) = ap (λ q. q ∷ order_after 0 order) (let e : 0 + p ≡ p = omega arith in
    e) ∙ ap (λ xs. p ∷ xs) (order_after_none order)

order_after_join : (a : ℕ) (xs ys : List ℕ) → order_after a (xs ++ ys) ≡ order_after a xs ++ order_after a ys
order_after_join a [] ys = refl
order_after_join a (x ∷ xs) ys = ap (λ zs. (a + x) ∷ zs) (order_after_join a xs ys)

module _ {R : Type 0} where
  places_after : (place : ℕ) (first : Part R) (parts : List (Part R)) →
      (place + length first.ops) + length (ops_of parts) ≡ place + length (ops_of (first ∷ parts))
  places_after place first parts = omega (arith, length-append first.ops (ops_of parts))

  pub order_moved : (a b : ℕ) (parts : List (Part R)) → order_from (a + b) parts ≡ order_after a (order_from b parts)
  order_moved a b [] = refl
  order_moved a b (part ∷ parts) =
      ap (λ xs. xs ++ order_from ((a + b) + length part.ops) parts) (order_after_twice a b part.order)
      ∙ ap (λ n. order_after a (order_after b part.order) ++ order_from n parts)
      (let e : (a + b) + length part.ops ≡ a + (b + length part.ops) = omega arith in
      e)
      ∙ ap (λ xs. order_after a (order_after b part.order) ++ xs) (order_moved a (b + length part.ops) parts)
      ∙ sym (order_after_join a (order_after b part.order) (order_from (b + length part.ops) parts))

  pub terms_moved : (a b : ℕ) (parts : List (Part R)) → terms_from (a + b) parts ≡ terms_after a (terms_from b parts)
  terms_moved a b [] = refl
  terms_moved a b (part ∷ parts) =
      ap (λ n. record { first = a + b; limit = part.limit } ∷ terms_from n parts)
      (let e : (a + b) + length part.ops ≡ a + (b + length part.ops) = omega arith in
      e)
      ∙ ap (λ ts. record { first = a + b; limit = part.limit } ∷ ts) (terms_moved a (b + length part.ops) parts)

  -- the order and the terms of the first part and the others
  order_first : (part : Part R) (parts : List (Part R)) →
      order_from 0 (part ∷ parts) ≡ part.order ++ order_after (length part.ops) (order_from 0 parts)
  order_first part parts =
      ap (λ xs. xs ++ order_from (0 + length part.ops) parts) (order_after_none part.order)
      ∙ ap (λ n. part.order ++ order_from n parts) (let e : 0 + length part.ops ≡ length part.ops + 0 = omega arith in e)
      ∙ ap (λ xs. part.order ++ xs) (order_moved (length part.ops) 0 parts)

  terms_first : (part : Part R) (parts : List (Part R)) →
      terms_from 0 (part ∷ parts) ≡ (record { first = 0; limit = part.limit } ∷ []) ++ terms_after (length part.ops) (terms_from 0 parts)
  terms_first part parts =
      ap (λ n. record { first = 0; limit = part.limit } ∷ terms_from n parts)
      (let e : 0 + length part.ops ≡ length part.ops + 0 = omega arith in
      e)
      ∙ ap (λ ts. record { first = 0; limit = part.limit } ∷ ts) (terms_moved (length part.ops) 0 parts)

  has_first_term : (parts : List (Part R)) → HasFirstTerm (terms_from 0 parts) (ops_of parts)
  has_first_term [] l = absurd (omega arith)
  has_first_term (part ∷ parts) l = (0, record { first = 0; limit = part.limit }, refl, refl)

  no_operations : (Same : R → R → Type 0) (opening : R) → IsAtomicOrder Same opening [] []
  no_operations Same opening = record {
    listing = record { places = λ i p e. cc; stands = λ p o from to e. cc };
    precedence = λ i j a b ai bj ne pre. cc;
    reading = λ i o e. cc;
  }

  pub atomic_parts : (Same : R → R → Type 0) (opening last : R) (parts : List (Part R)) → IsInTurn Same opening parts last →
      IsAtomicOrder Same opening (ops_of parts) (order_from 0 parts)
  atomic_parts Same opening last [] h = no_operations Same opening
  atomic_parts Same opening last (part ∷ parts) h =
      subst (IsAtomicOrder Same opening (part.ops ++ ops_of parts)) (sym (order_first part parts))
      (atomic_joined Same opening h.0 part.ops (ops_of parts) part.order (order_from 0 parts) h.1
      (atomic_parts Same h.0 last parts h.5) h.3 h.4)

  pub lawful_parts : (Same : R → R → Type 0) (opening last : R) (parts : List (Part R)) → IsInTurn Same opening parts last →
      RefusesLawfully (terms_from 0 parts) (ops_of parts) (order_from 0 parts)
  lawful_parts Same opening last [] h = λ k t e. cc
  lawful_parts Same opening last (part ∷ parts) h =
      subst (λ ts. RefusesLawfully ts (part.ops ++ ops_of parts) (order_from 0 (part ∷ parts))) (sym (terms_first part parts))
      (subst (RefusesLawfully ((record { first = 0; limit = part.limit } ∷ []) ++ terms_after (length part.ops) (terms_from 0 parts))
      (part.ops ++ ops_of parts)) (sym (order_first part parts))
      (lawful_joined (record { first = 0; limit = part.limit } ∷ []) (terms_from 0 parts) part.ops (ops_of parts) part.order
      (order_from 0 parts) h.1.listing.places (atomic_parts Same h.0 last parts h.5).listing.places h.2
      (lawful_parts Same h.0 last parts h.5) (has_first_term parts)))

  pub latest_parts : (Same : R → R → Type 0) (opening last : R) (parts : List (Part R)) → IsInTurn Same opening parts last →
      latest opening (ops_of parts) (order_from 0 parts) ≡ Some last
  latest_parts Same opening last [] h = ap Some h
  latest_parts Same opening last (part ∷ parts) h =
      ap (latest opening (part.ops ++ ops_of parts)) (order_first part parts)
      ∙ latest_joined opening h.0 part.ops (ops_of parts) part.order (order_from 0 parts) h.1.listing.places h.3
      ∙ latest_parts Same h.0 last parts h.5

  -- one more part after the others
  pub ops_more : (parts : List (Part R)) (part : Part R) → ops_of (parts ++ part ∷ []) ≡ ops_of parts ++ part.ops
  ops_more [] part = append-nil part.ops
  ops_more (first ∷ parts) part = ap (λ xs. first.ops ++ xs) (ops_more parts part) ∙ sym (append_assoc first.ops (ops_of parts) part.ops)

  pub order_more : (place : ℕ) (parts : List (Part R)) (part : Part R) →
      order_from place (parts ++ part ∷ []) ≡ order_from place parts ++ order_after (place + length (ops_of parts)) part.order
  order_more place [] part =
      append-nil (order_after place part.order) ∙ ap (λ n. order_after n part.order) (let e : place ≡ place + 0 = omega arith in
      e)
  order_more place (first ∷ parts) part =
      ap (λ xs. order_after place first.order ++ xs) (order_more (place + length first.ops) parts part)
      ∙ ap (λ n. order_after place first.order ++ (order_from (place + length first.ops) parts ++ order_after n part.order))
      (places_after place first parts)
      ∙ sym (append_assoc (order_after place first.order) (order_from (place + length first.ops) parts)
      (order_after (place + length (ops_of (first ∷ parts))) part.order))

  pub terms_more : (place : ℕ) (parts : List (Part R)) (part : Part R) →
      terms_from place (parts ++ part ∷ []) ≡ terms_from place parts ++ record {
        first = place + length (ops_of parts);
        limit = part.limit;
      } ∷ []
  terms_more place [] part = ap (λ n. record { first = n; limit = part.limit } ∷ []) (let e : place ≡ place + 0 = omega arith in e)
  terms_more place (first ∷ parts) part =
      ap (λ ts. record { first = place; limit = first.limit } ∷ ts) (
      terms_more (place + length first.ops) parts part
      ∙ ap (λ n. terms_from (place + length first.ops) parts ++ record { first = n; limit = part.limit } ∷ [])
      (places_after place first parts)
      )
