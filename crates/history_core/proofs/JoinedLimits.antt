-- Two orders, one after the other, refuse lawfully as they do by themselves: a term of one part has no place of the other,
-- so that it counts the writes of its own part alone.
use Rattle.std.proofs.Common.{◌≡◌, ℕ, ◌+◌, ◌<◌, ◌≤◌, Bool, true, false, ◌&&◌, nat_le, nat_lt, List, [], ◌∷◌, ◌++◌, length, take, drop}
use Rattle.std.proofs.Common.{slice_get, Some, arith, refl, sym, subst, ◌∙◌, ap, inl, inr, zero, suc}
use Rattle.std.specs.List.{list_all}
use Rattle.std.proofs.Math.Seq.{drop-append-add}
use Rattle.std.proofs.lemmas.Bool.Decides.{nat_tests}
use Rattle.std.proofs.lemmas.List.{drop-append-le}
use Rattle.std.proofs.lemmas.List.Folds.{list_all-append}
use Rattle.std.proofs.lemmas.Option.{same_Some}
use Rattle.history_core.specs.declared.history.Op.{Op}
use Rattle.history_core.specs.declared.history.Term.{Term}
use Rattle.history_core.specs.Joined.{HasFirstTerm, order_after, terms_after}
use Rattle.history_core.specs.Orders.{in_term, is_write_at, KeepsLimit, ListsPlaces, RefusesLawfully, writes_in}
use Rattle.history_core.proofs.Counting.{count_agree}
use Rattle.history_core.proofs.JoinedPlaces.{count_join, count_moved, count_none, entry_cases, get_cases, take_after, take_before, taken}
use Rattle.history_core.proofs.Places.{get_after, get_before}

and_false : (b : Bool) → (b && false) ≡ false
and_false true = refl
and_false false = refl

and_true : (b : Bool) → (b && true) ≡ b
and_true true = refl
and_true false = refl

-- the later terms have no place of the first part
below_terms : (count p : ℕ) (terms : List Term) → p < count → list_all (λ u. nat_lt p u.first) (terms_after count terms) ≡ true
below_terms count p [] l = refl
below_terms count p (t ∷ terms) l =
    let now : nat_lt p (count + t.first) ≡ true = grind (arith, nat_tests) in
    ap (λ b. b && list_all (λ u. nat_lt p u.first) (terms_after count terms)) now ∙ below_terms count p terms l

-- one of them begins before each place of the second part
not_below_terms : (count p : ℕ) (terms : List Term) (k : ℕ) (t : Term) → slice_get terms k ≡ Some t → t.first ≡ 0 → count ≤ p →
    list_all (λ u. nat_lt p u.first) (terms_after count terms) ≡ false
not_below_terms count p [] k t e first le = cc
not_below_terms count p (u ∷ terms) zero t e first le =
    let same : u ≡ t = same_Some u t e in
    let at : u.first ≡ 0 = ap (λ (z : Term). z.first) same ∙ first in
    let now : nat_lt p (count + u.first) ≡ false = grind (arith, nat_tests) in
    ap (λ b. b && list_all (λ v. nat_lt p v.first) (terms_after count terms)) now
not_below_terms count p (u ∷ terms) (suc k) t e first le =
    ap (λ b. nat_lt p (count + u.first) && b) (not_below_terms count p terms k t e first le) ∙ and_false (nat_lt p (count + u.first))

-- the later terms have the places that they had, moved on
moved_below : (count q : ℕ) (terms : List Term) →
    list_all (λ u. nat_lt (count + q) u.first) (terms_after count terms) ≡ list_all (λ u. nat_lt q u.first) terms
moved_below count q [] = refl
moved_below count q (t ∷ terms) =
    let now : nat_lt (count + q) (count + t.first) ≡ nat_lt q t.first = grind (arith, nat_tests) in
    ap (λ b. b && list_all (λ u. nat_lt (count + q) u.first) (terms_after count terms)) now
    ∙ ap (λ b. nat_lt q t.first && b) (moved_below count q terms)

moved_in_term : (count q : ℕ) (t : Term) (terms : List Term) →
    in_term (record { first = count + t.first; limit = t.limit }) (terms_after count terms) (count + q) ≡ in_term t terms q
moved_in_term count q t terms =
    let now : nat_le (count + t.first) (count + q) ≡ nat_le t.first q = grind (arith, nat_tests) in
    ap (λ b. b && list_all (λ u. nat_lt (count + q) u.first) (terms_after count terms)) now
    ∙ ap (λ b. nat_le t.first q && b) (moved_below count q terms)

-- a place of an earlier part is not a later term's
not_moved_in_term : (count p : ℕ) (t : Term) (terms : List Term) → p < count →
    in_term (record { first = count + t.first; limit = t.limit }) terms p ≡ false
not_moved_in_term count p t terms l =
    let now : nat_le (count + t.first) p ≡ false = grind (arith, nat_tests) in
    ap (λ b. b && list_all (λ u. nat_lt p u.first) terms) now

-- of the places of the first part a term has those that it had
joined_in_term : (count p : ℕ) (t : Term) (terms those : List Term) → p < count →
    in_term t (terms ++ terms_after count those) p ≡ in_term t terms p
joined_in_term count p t terms those l =
    ap (λ b. nat_le t.first p && b) (
    list_all-append (λ u. nat_lt p u.first) terms (terms_after count those)
    ∙ ap (λ b. list_all (λ u. nat_lt p u.first) terms && b) (below_terms count p those l)
    ∙ and_true (list_all (λ u. nat_lt p u.first) terms)
    )

-- and none of those of the second part
joined_not_in_term : (count p : ℕ) (t : Term) (terms those : List Term) → count ≤ p → (k : ℕ) (u : Term) → slice_get those k ≡ Some u →
    u.first ≡ 0 → in_term t (terms ++ terms_after count those) p ≡ false
joined_not_in_term count p t terms those le k u e first =
    ap (λ b. nat_le t.first p && b) (
    list_all-append (λ v. nat_lt p v.first) terms (terms_after count those)
    ∙ ap (λ b. list_all (λ v. nat_lt p v.first) terms && b) (not_below_terms count p those k u e first le)
    ∙ and_false (list_all (λ v. nat_lt p v.first) terms)
    )
    ∙ and_false (nat_le t.first p)

terms_get : (count : ℕ) (terms : List Term) (k : ℕ) (t : Term) → slice_get (terms_after count terms) k ≡ Some t →
    (u : Term) × (t ≡ record { first = count + u.first; limit = u.limit }) × (slice_get terms k ≡ Some u)
terms_get count [] k t h = cc
terms_get count (u ∷ terms) zero t h = (u, sym (same_Some (record { first = count + u.first; limit = u.limit }) t h), refl)
terms_get count (u ∷ terms) (suc k) t h = terms_get count terms k t h

drop_terms : (count : ℕ) (n : ℕ) (terms : List Term) → drop n (terms_after count terms) ≡ terms_after count (drop n terms)
drop_terms count zero terms = refl
drop_terms count (suc n) [] = refl
drop_terms count (suc n) (t ∷ terms) = drop_terms count n terms

module _ {R : Type 0} where
  -- a limit for places of which those of the second part are none
  limit_before : (within old : ℕ → Bool) (limit : ℕ) (ops later : List (Op R)) (order after : List ℕ) → ListsPlaces ops order →
      ((p : ℕ) → p < length ops → within p ≡ old p) → ((q : ℕ) → q < length later → within (length ops + q) ≡ false) →
      ListsPlaces later after →
      KeepsLimit old limit ops order → KeepsLimit within limit (ops ++ later) (order ++ order_after (length ops) after)
  limit_before within old limit ops later order after places same none those kept i p o e f kind inside =
      elim (entry_cases (length ops) order after i p e) [
        | inl w ↦
            let l : p < length ops = places i p w.1 in
            let h : limit ≤ writes_in old ops (take i order) =
            kept i p o w.1 (sym (get_before ops later p l) ∙ f) kind (sym (same p l) ∙ inside) in
            let counts : writes_in within (ops ++ later) (take i (order ++ order_after (length ops) after))
            ≡ writes_in old ops (take i order) =
            ap (writes_in within (ops ++ later)) (take_before (length ops) order after i w.0)
            ∙ count_agree (λ q. within q && is_write_at (slice_get (ops ++ later) q)) (λ q. old q && is_write_at (slice_get ops q))
            (take i order) (λ n q t. agree q (places n q (taken i order n q t))) in
            omega arith
        | inr w ↦ let l = those w.0 w.1 w.4 in let no : within p ≡ false = ap within w.3 ∙ none w.1 l in cc
      ]
    where
      agree : (q : ℕ) → q < length ops → (within q && is_write_at (slice_get (ops ++ later) q)) ≡ (old q && is_write_at (slice_get ops q))
      agree q l =
          ap (λ b. b && is_write_at (slice_get (ops ++ later) q)) (same q l) ∙ ap (λ x. old q && is_write_at x) (get_before ops later q l)

  -- and one for places of which those of the first part are none
  limit_after : (within old : ℕ → Bool) (limit : ℕ) (ops later : List (Op R)) (order after : List ℕ) → ListsPlaces ops order →
      ((p : ℕ) → p < length ops → within p ≡ false) → ((q : ℕ) → within (length ops + q) ≡ old q) →
      KeepsLimit old limit later after → KeepsLimit within limit (ops ++ later) (order ++ order_after (length ops) after)
  limit_after within old limit ops later order after places none same kept i p o e f kind inside =
      elim (entry_cases (length ops) order after i p e) [
        | inl w ↦ let no : within p ≡ false = none p (places i p w.1) in cc
        | inr w ↦
            let at : slice_get later w.1 ≡ Some o = sym (get_after ops later w.1) ∙ ap (slice_get (ops ++ later)) (sym w.3) ∙ f in
            let h : limit ≤ writes_in old later (take w.0 after) =
            kept w.0 w.1 o w.4 at kind (sym (same w.1) ∙ ap within (sym w.3) ∙ inside) in
            let counts : writes_in within (ops ++ later) (take i (order ++ order_after (length ops) after))
            ≡ writes_in old later (take w.0 after) =
            ap (λ n. writes_in within (ops ++ later) (take n (order ++ order_after (length ops) after))) w.2
            ∙ ap (writes_in within (ops ++ later)) (take_after (length ops) order after w.0)
            ∙ count_join (λ q. within q && is_write_at (slice_get (ops ++ later) q)) order (order_after (length ops) (take w.0 after))
            ∙ ap (λ n. n + writes_in within (ops ++ later) (order_after (length ops) (take w.0 after)))
            (count_none (λ q. within q && is_write_at (slice_get (ops ++ later) q)) order
            (λ n q t. ap (λ b. b && is_write_at (slice_get (ops ++ later) q)) (none q (places n q t))))
            ∙ ap (λ n. 0 + n) (count_moved (λ q. within q && is_write_at (slice_get (ops ++ later) q))
            (λ q. old q && is_write_at (slice_get later q)) (length ops) (take w.0 after) agree)
            ∙ omega arith in
            omega arith
      ]
    where
      agree : (q : ℕ) →
          (within (length ops + q) && is_write_at (slice_get (ops ++ later) (length ops + q))) ≡ (old q && is_write_at (slice_get later q))
      agree q = ap (λ b. b && is_write_at (slice_get (ops ++ later) (length ops + q))) (same q)
          ∙ ap (λ x. old q && is_write_at x) (get_after ops later q)

  pub lawful_joined : (terms those : List Term) (ops later : List (Op R)) (order after : List ℕ) → ListsPlaces ops order →
      ListsPlaces later after → RefusesLawfully terms ops order → RefusesLawfully those later after → HasFirstTerm those later →
      RefusesLawfully (terms ++ terms_after (length ops) those) (ops ++ later) (order ++ order_after (length ops) after)
  lawful_joined terms those ops later order after places those_places h g begins k t e =
      elim (get_cases terms (terms_after (length ops) those) k t e) [
        | inl w ↦
            let l = w.0 in
            let rest : drop (k + 1) (terms ++ terms_after (length ops) those) ≡ drop (k + 1) terms ++ terms_after (length ops) those =
            drop-append-le (k + 1) terms (terms_after (length ops) those) (omega arith) in
            subst (λ us. KeepsLimit (in_term t us) t.limit (ops ++ later) (order ++ order_after (length ops) after)) (sym rest)
            (limit_before (in_term t (drop (k + 1) terms ++ terms_after (length ops) those)) (in_term t (drop (k + 1) terms)) t.limit ops
            later order after places
            (λ p lp. joined_in_term (length ops) p t (drop (k + 1) terms) those lp)
            (λ q lq.
            let b = begins (omega arith) in
            joined_not_in_term (length ops) (length ops + q) t (drop (k + 1) terms) those (omega arith) b.0 b.1 b.2 b.3)
            those_places (h k t w.1))
        | inr w ↦
            let u = terms_get (length ops) those w.0 t w.2 in
            let rest : drop (k + 1) (terms ++ terms_after (length ops) those) ≡ terms_after (length ops) (drop (w.0 + 1) those) =
            ap (λ n. drop n (terms ++ terms_after (length ops) those)) (let s = w.1 in
            let s' : k + 1 ≡ length terms + (w.0 + 1) = omega arith in
            s')
            ∙ drop-append-add terms (terms_after (length ops) those) (w.0 + 1)
            ∙ drop_terms (length ops) (w.0 + 1) those in
            subst (λ us. KeepsLimit (in_term t us) t.limit (ops ++ later) (order ++ order_after (length ops) after)) (sym rest)
            (subst (λ (v : Term). KeepsLimit (in_term v (terms_after (length ops) (drop (w.0 + 1) those))) v.limit (ops ++ later)
            (order ++ order_after (length ops) after)) (sym u.1)
            (limit_after (in_term (record { first = length ops + u.0.first; limit = u.0.limit }) (terms_after (length ops)
            (drop (w.0 + 1) those))) (in_term u.0 (drop (w.0 + 1) those)) u.0.limit ops later order after places
            (λ p lp. not_moved_in_term (length ops) p u.0 (terms_after (length ops) (drop (w.0 + 1) those)) lp)
            (λ q. moved_in_term (length ops) q u.0 (drop (w.0 + 1) those))
            (g w.0 u.0 u.2)))
      ]
