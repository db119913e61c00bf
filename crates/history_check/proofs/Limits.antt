-- Lawful refusal: one more entry adds to the count where it is a write of the term, and a term's places end at the least first
-- of the terms after it.
use Rattle.std.proofs.Common.{◌≡◌, ℕ, ◌+◌, ◌<◌, ◌≤◌, min, Bool, true, false, ◌&&◌, nat_le, nat_lt, List, [], ◌∷◌, length, take, drop}
use Rattle.std.proofs.Common.{get_or, slice_get, Some, arith, refl, sym, subst, ◌∙◌, ap, inl, inr, zero, suc}
use Rattle.std.specs.List.{list_all}
use Rattle.std.specs.Prelude.{if◌then◌else◌}
use Rattle.std.proofs.lemmas.Bool.{cases_lt, cases_Bool}
use Rattle.std.proofs.lemmas.Bool.Decides.{nat_tests}
use Rattle.std.proofs.lemmas.List.{drop_all, drop_more}
use Rattle.std.proofs.lemmas.List.Sums.{count_by_more_yes, count_by_more_no}
use Rattle.std.proofs.lemmas.Option.{get_or_from_slice_get, same_Some, slice_get_within, slice_get_read}
use Rattle.history_core.specs.declared.history.Op.{Op}
use Rattle.history_core.specs.declared.history.Term.{Term}
use Rattle.history_core.specs.declared.history.Kind.TheVariants.{Refused}
use Rattle.history_core.specs.Orders.{in_term, KeepsLimit, RefusesLawfully, ListsPlaces, is_write_at, is_write, writes_in}
use Rattle.history_check.specs.Ranges.{is_between, writes_after, MayRefuse}
use Rattle.history_core.proofs.Counting.{count_agree}

-- the entries before n keep the limit, and there are this many writes among them
pub record CountsTo {R : Type 0} (first next limit : ℕ) (ops : List (Op R)) (order : List ℕ) (n writes : ℕ) : Type 0 where
  pub counted : writes ≡ writes_in (is_between first next) ops (take n order)
  pub few : writes ≤ n
  pub kept : (i p : ℕ) (o : Op R) → i < n → slice_get order i ≡ Some p → slice_get ops p ≡ Some o → o.kind ≡ Refused →
      is_between first next p ≡ true → limit ≤ writes_in (is_between first next) ops (take i order)

writes_more : {R : Type 0} (within : ℕ → Bool) (ops : List (Op R)) (order : List ℕ) (n p : ℕ) (o : Op R) → slice_get order n ≡ Some p →
    slice_get ops p ≡ Some o →
    writes_in within ops (take (n + 1) order) ≡ writes_after (within p) o.kind (writes_in within ops (take n order))
writes_more within ops order n p o e f =
    let g : get_or order n 0 ≡ p = get_or_from_slice_get order n p 0 e in
    let l : n < length order = slice_get_within order n p e in
    let test : Bool = within p && is_write o.kind in
    let t : (within (get_or order n 0) && is_write_at (slice_get ops (get_or order n 0))) ≡ test =
    ap (λ q. within q && is_write_at (slice_get ops q)) g ∙ ap (λ w. within p && is_write_at w) f in
    elim (cases_Bool test) [
      | inl y ↦ count_by_more_yes (λ q. within q && is_write_at (slice_get ops q)) order n 0 l (t ∙ y)
          ∙ ap (λ b. writes_in within ops (take n order) + (if b then 1 else 0)) (sym y)
      | inr y ↦ count_by_more_no (λ q. within q && is_write_at (slice_get ops q)) order n 0 l (t ∙ y) ∙ omega arith
          ∙ ap (λ b. writes_in within ops (take n order) + (if b then 1 else 0)) (sym y)
    ]

pub counts_start : {R : Type 0} (first next limit : ℕ) (ops : List (Op R)) (order : List ℕ) → CountsTo first next limit ops order 0 0
counts_start first next limit ops order = record { counted = refl; few = omega arith; kept = λ i p o h. absurd (omega arith) }

pub counts_step : {R : Type 0} (first next limit : ℕ) (ops : List (Op R)) (order : List ℕ) (n p writes more : ℕ) (o : Op R) →
    slice_get order n ≡ Some p → slice_get ops p ≡ Some o → CountsTo first next limit ops order n writes →
    more ≡ writes_after (is_between first next p) o.kind writes → MayRefuse (is_between first next p) o.kind limit writes →
    CountsTo first next limit ops order (n + 1) more
counts_step {R} first next limit ops order n p writes more o e f c m may = record {
  counted =
      m ∙ ap (writes_after (is_between first next p) o.kind) c.counted ∙ sym (writes_more (is_between first next) ops order n p o e f);
  few = few_more (is_between first next p && is_write o.kind) m;
  kept = λ i q a h ei fa ka ba. elim (cases_lt i n) [ inl l ↦ c.kept i q a l ei fa ka ba | inr le ↦ here i q a (omega arith) ei fa ka ba ];
}
  where
    few_more : (b : Bool) → more ≡ writes + (if b then 1 else 0) → more ≤ n + 1
    few_more true h = omega (arith, c.few)
    few_more false h = omega (arith, c.few)

    here : (i q : ℕ) (a : Op R) → i ≡ n → slice_get order i ≡ Some q → slice_get ops q ≡ Some a → a.kind ≡ Refused →
        is_between first next q ≡ true → limit ≤ writes_in (is_between first next) ops (take i order)
    here i q a s ei fa ka ba =
        let same_p : q ≡ p = same_Some q p (sym ei ∙ ap (slice_get order) s ∙ e) in
        let same_o : a ≡ o = same_Some a o (sym fa ∙ ap (slice_get ops) same_p ∙ f) in
        let k : o.kind ≡ Refused = ap (λ (z : Op R). z.kind) (sym same_o) ∙ ka in
        let b : is_between first next p ≡ true = ap (is_between first next) (sym same_p) ∙ ba in
        let l : limit ≤ writes = may b k in
        let w : writes_in (is_between first next) ops (take i order) ≡ writes =
        ap (λ z. writes_in (is_between first next) ops (take z order)) s ∙ sym c.counted in
        omega arith

pub counts_all : {R : Type 0} (first next limit : ℕ) (ops : List (Op R)) (order : List ℕ) (n writes : ℕ) → length order ≤ n →
    CountsTo first next limit ops order n writes → KeepsLimit (is_between first next) limit ops order
counts_all first next limit ops order n writes le c i p o e f k b = c.kept i p o (omega (arith, slice_get_within order i p e)) e f k b

pub counts_broken : {R : Type 0} (first next limit : ℕ) (ops : List (Op R)) (order : List ℕ) (n p writes : ℕ) (o : Op R) →
    slice_get order n ≡ Some p → slice_get ops p ≡ Some o → CountsTo first next limit ops order n writes →
    KeepsLimit (is_between first next) limit ops order → MayRefuse (is_between first next p) o.kind limit writes
counts_broken first next limit ops order n p writes o e f c all b k = omega (arith, all n p o e f k b, c.counted)

-- a term's places are those from its first up to the next first
pub keeps_agree : {R : Type 0} (f g : ℕ → Bool) (limit : ℕ) (ops : List (Op R)) (order : List ℕ) → ListsPlaces ops order →
    ((p : ℕ) → p < length ops → f p ≡ g p) → KeepsLimit f limit ops order → KeepsLimit g limit ops order
keeps_agree f g limit ops order places same kept i p o e fo k b =
    let h : limit ≤ writes_in f ops (take i order) = kept i p o e fo k (same p (places i p e) ∙ b) in
    let w : writes_in f ops (take i order) ≡ writes_in g ops (take i order) =
    count_agree (λ q. f q && is_write_at (slice_get ops q)) (λ q. g q && is_write_at (slice_get ops q)) (take i order)
    (λ j q ej. ap (λ x. x && is_write_at (slice_get ops q)) (same q (places j q (taken i order j q ej)))) in
    omega arith
  where
    taken : (n : ℕ) (xs : List ℕ) (j q : ℕ) → slice_get (take n xs) j ≡ Some q → slice_get xs j ≡ Some q
    taken zero xs j q h = cc
    taken (suc n) [] j q h = h
    taken (suc n) (x ∷ xs) zero q h = h
    taken (suc n) (x ∷ xs) (suc j) q h = taken n xs j q h

-- next is the least first of the terms from k on, or the number of operations where they have none below it; and these
-- terms' refused writes are lawful
pub record TermsFrom {R : Type 0} (terms : List Term) (ops : List (Op R)) (order : List ℕ) (k next : ℕ) : Type 0 where
  pub bound : (p : ℕ) → p < length ops → list_all (λ u. nat_lt p u.first) (drop k terms) ≡ nat_lt p next
  pub kept : (j : ℕ) (t : Term) → k ≤ j → slice_get terms j ≡ Some t → KeepsLimit (in_term t (drop (j + 1) terms)) t.limit ops order

pub terms_start : {R : Type 0} (terms : List Term) (ops : List (Op R)) (order : List ℕ) →
    TermsFrom terms ops order (length terms) (length ops)
terms_start terms ops order = record {
  bound = λ p h.
      let e : drop (length terms) terms ≡ [] = drop_all (length terms) terms (omega arith) in
      let t : nat_lt p (length ops) ≡ true = grind (arith, nat_tests) in
      ap (list_all (λ u. nat_lt p u.first)) e ∙ sym t;
  kept = λ j t le e. absurd (omega (arith, slice_get_within terms j t e));
}

-- the places of the term at k
term_places : {R : Type 0} (terms : List Term) (ops : List (Op R)) (order : List ℕ) (j next : ℕ) (t : Term) →
    TermsFrom terms ops order (j + 1) next → (p : ℕ) → p < length ops → is_between t.first next p ≡ in_term t (drop (j + 1) terms) p
term_places terms ops order j next t h p l = ap (λ b. nat_le t.first p && b) (sym (h.bound p l))

pub terms_step : {R : Type 0} (terms : List Term) (ops : List (Op R)) (order : List ℕ) (k j next : ℕ) (t : Term) → ListsPlaces ops order →
    j + 1 ≡ k → j < length terms → t ≡ get_or terms j t → TermsFrom terms ops order k next →
    KeepsLimit (is_between t.first next) t.limit ops order → TermsFrom terms ops order j (min next t.first)
terms_step {R} terms ops order k j next t places jk l e h kept = record {
  bound = λ p lp. ap (list_all (λ u. nat_lt p u.first)) (drop_more terms j t l)
      ∙ ap (λ z. nat_lt p z.first && list_all (λ u. nat_lt p u.first) (drop (j + 1) terms)) (sym e)
      ∙ ap (λ b. nat_lt p t.first && b) (h'.bound p lp) ∙ both p;
  kept = λ i u le ei. elim (cases_lt j i) [ inl lt ↦ h.kept i u (omega arith) ei | inr ge ↦ here i u (omega arith) ei ];
}
  where
    h' : TermsFrom terms ops order (j + 1) next
    h' = let P : ℕ → Type 0 = λ n. TermsFrom terms ops order n next in subst P (sym jk) h

    both : (p : ℕ) → (nat_lt p t.first && nat_lt p next) ≡ nat_lt p (min next t.first)
    both p = grind (arith, nat_tests)

    at_j : slice_get terms j ≡ Some t
    at_j = slice_get_read terms (length terms) j t refl l e

    here : (i : ℕ) (u : Term) → i ≡ j → slice_get terms i ≡ Some u → KeepsLimit (in_term u (drop (i + 1) terms)) u.limit ops order
    here i u ij ei =
        let s : t ≡ u = same_Some t u (sym at_j ∙ ap (slice_get terms) (sym ij) ∙ ei) in
        let P : Term → ℕ → Type 0 = λ z n. KeepsLimit (in_term z (drop (n + 1) terms)) z.limit ops order in
        subst (λ z. P z i) s (subst (λ n. P t n) (sym ij) (keeps_agree (is_between t.first next) (in_term t (drop (j + 1) terms)) t.limit
        ops order places (term_places terms ops order j next t h') kept))

pub terms_broken : {R : Type 0} (terms : List Term) (ops : List (Op R)) (order : List ℕ) (k j next : ℕ) (t : Term) → ListsPlaces ops order →
    j + 1 ≡ k → j < length terms → t ≡ get_or terms j t → TermsFrom terms ops order k next → RefusesLawfully terms ops order →
    KeepsLimit (is_between t.first next) t.limit ops order
terms_broken {R} terms ops order k j next t places jk l e h all =
    let P : ℕ → Type 0 = λ n. TermsFrom terms ops order n next in
    let h' : TermsFrom terms ops order (j + 1) next = subst P (sym jk) h in
    keeps_agree (in_term t (drop (j + 1) terms)) (is_between t.first next) t.limit ops order places
    (λ p lp. sym (term_places terms ops order j next t h' p lp)) (all j t (slice_get_read terms (length terms) j t refl l e))
