-- The writes that an order of kept operations lists, by their places in the log.
use Rattle.std.proofs.Common.{◌≡◌, ℕ, ◌+◌, true, false, List, [], ◌∷◌, ◌++◌, take, slice_get, Some}
use Rattle.std.proofs.Common.{refl, sym, ◌∙◌, ap, inl, inr, arith}
use Rattle.std.specs.Prelude.{if◌then◌else◌}
use Rattle.std.proofs.lemmas.Bool.{cases_lt}
use Rattle.std.proofs.lemmas.List.{length-append}
use Rattle.std.proofs.lemmas.Option.{get_or_from_slice_get, same_Some, slice_get_within}
use Rattle.history_core.specs.declared.history.Op.{Op}
use Rattle.history_core.specs.Orders.{is_write_at, writes_in}
use Rattle.history_core.proofs.Places.{get_last, get_stays}
use Rattle.history_core.proofs.Counts.{writes_next}
use Rattle.history_thinning.specs.inner.Mapped.{AreWritePlaces, place_in}

module _ (ops : List (Op ℕ)) (places order : List ℕ) where
  pub writes_none : AreWritePlaces ops places order 0 []
  writes_none = record { long = refl; listed = λ i p l e t. absurd (omega arith) }

  module _ (n p : ℕ) (at : slice_get order n ≡ Some p) (writes : List ℕ) (h : AreWritePlaces ops places order n writes) where
    next : writes_in (λ _. true) ops (take (n + 1) order)
        ≡ writes_in (λ _. true) ops (take n order) + (if is_write_at (slice_get ops p) then 1 else 0)
    next = writes_next ops order n (slice_get_within order n p at)
        ∙ ap (λ q. writes_in (λ _. true) ops (take n order) + (if is_write_at (slice_get ops q) then 1 else 0))
        (get_or_from_slice_get order n p 0 at)

    pub writes_skip : is_write_at (slice_get ops p) ≡ false → AreWritePlaces ops places order (n + 1) writes
    writes_skip f = record {
      long = let e = next ∙ ap (λ b. writes_in (λ _. true) ops (take n order) + (if b then 1 else 0)) f in h.long ∙ omega arith;
      listed = λ i q l e t. elim (cases_lt i n) [
        | inl lt ↦ h.listed i q lt e t
        | inr le ↦
            let s : i ≡ n = omega arith in
            let same : Some q ≡ Some p = sym e ∙ ap (slice_get order) s ∙ at in
            let k : is_write_at (slice_get ops q) ≡ is_write_at (slice_get ops p) =
            ap (λ z. is_write_at (slice_get ops z)) (same_Some q p same) in
            cc
      ];
    }

    pub writes_more : is_write_at (slice_get ops p) ≡ true → AreWritePlaces ops places order (n + 1) (writes ++ place_in places p ∷ [])
    writes_more t = record {
      long =
          let e = next ∙ ap (λ b. writes_in (λ _. true) ops (take n order) + (if b then 1 else 0)) t in
          length-append writes (place_in places p ∷ []) ∙ ap (λ k. k + 1) h.long ∙ sym e;
      listed = λ i q l e u. elim (cases_lt i n) [
        | inl lt ↦ get_stays writes _ (place_in places p) _ (h.listed i q lt e u)
        | inr le ↦
            let s : i ≡ n = omega arith in
            let same : q ≡ p = same_Some q p (sym e ∙ ap (slice_get order) s ∙ at) in
            get_last writes (place_in places p) (writes_in (λ _. true) ops (take i order))
            (ap (λ k. writes_in (λ _. true) ops (take k order)) s ∙ sym h.long) ∙ ap (λ z. Some (place_in places z)) (sym same)
      ];
    }
