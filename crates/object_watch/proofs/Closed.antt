-- All that is seen is visited: what can be finished is kept. By the length of an order and how many operations aren't spare.
use Rattle.std.proofs.Common.{◌≡◌, ℕ, zero, suc, ◌+◌, ◌<◌, ◌≤◌, List, ◌++◌, length, map, slice_get, Option, Some}
use Rattle.std.proofs.Common.{sym, ◌∙◌, ap, subst, arith, inl, inr}
use Rattle.std.proofs.lemmas.Option.{same_Some, slice_get_within}
use Rattle.object_core.specs.declared.operation.Operation.{Operation}
use Rattle.object_core.specs.Logs.{IsLawfulOrder}
use Rattle.object_watch.specs.Remainders.{AnyLawfulWith, AreAhead, ComesFrom, IsAhead, known, removed}
use Rattle.object_watch.specs.declared.remainder.Remainder.{Remainder}
use Rattle.object_watch.specs.inner.Levels.{AreAllTried, IsHeldWithSpare, IsSeenTo}
use Rattle.object_watch.specs.inner.Levels.IsSeenTo.{Keeps, Places, Tries}
use Rattle.object_watch.proofs.Going.{order_by_end, order_by_pure, order_in_place}
use Rattle.object_watch.proofs.Within.{due_is_needed, ending_needed, needed, needed_fewer, needed_no_more, needed_within, order_within}

module _ {S W : Type 0} (after : S → W → Option S) (end : ℕ) (future : List (Operation W)) (last : ℕ)
    (is : ComesFrom (end + 1) last future) where
  -- with this future it has this order
  abbrev Has : S → List (Operation W) → List ℕ → Type 0
  Has s rest order = IsLawfulOrder after s (map (known last) (rest ++ future)) order

  -- what covers something has an order as long
  covers : (held : List (Remainder S W)) (s : S) (rest : List (Operation W)) → IsHeldWithSpare after end held s rest → (order : List ℕ) →
      Has s rest order → (i : ℕ) × (one : Remainder S W) × (slice_get held i ≡ Some one) × (other : List ℕ)
      × Has one.state one.rest.items other × (length other ≡ length order) × (needed end one.rest.items ≡ needed end rest)
  covers held s rest (i, one, at, same, within) order h =
      let x = order_within after future last end within s order h in
      let P : S → Type 0 = λ z. Has z one.rest.items x.0 in
      (i, one, at, x.0, subst P (sym same) x.1, x.2, sym (needed_within after end within))

  module _ (seen kept : List (Remainder S W)) where
    -- those of them that can be finished with less
    abbrev Finishes : ℕ → Type 0
    Finishes m = (i : ℕ) (one : Remainder S W) → slice_get seen i ≡ Some one → (order : List ℕ) → Has one.state one.rest.items order →
        length order + needed end one.rest.items < m → AnyLawfulWith after future last kept

    -- one is placed, or one that may be placed for it
    placed : (m : ℕ) → Finishes m → (s : S) (rest : List (Operation W)) → IsAhead end rest → (p : ℕ) →
        AreAllTried after end s rest p (length rest) seen → (order : List ℕ) → length order + needed end rest < suc m → (n q : ℕ) → q < n →
        (a : Operation W) (t : S) → slice_get rest q ≡ Some a → a.starts ≤ end → after s a.what ≡ Some t → (left : List ℕ) →
        Has t (removed q rest) left → length left + 1 ≡ length order → AnyLawfulWith after future last kept
    placed m more s rest ahead p tried order l zero q less a t at began can left g long = absurd (omega (arith, less))
    placed m more s rest ahead p tried order l (suc n) q less a t at began can left g long =
        elim (tried.1 q (slice_get_within rest q a at)) [
          | inl (r, x, b, sooner, rx, qb, first, h) ↦
              let same : a ≡ b = same_Some a b (sym at ∙ qb) in
              let P : Operation W → Type 0 = λ z. z.starts ≤ end in
              let o = order_in_place after end last future is s rest ahead r q x b rx qb h (λ e. omega (arith, e, sooner))
              (subst P same began) t left g in
              let steps : after s x.what ≡ Some t = h.same s ∙ (ap (λ (z : Operation W). after s z.what) (sym same) ∙ can) in
              let k = o.2 in
              placed m more s rest ahead p tried order l n r (omega (arith, sooner, less)) x t rx first steps o.0 o.1
              (omega (arith, long, k))
          | inr here ↦
              let x = covers seen t (removed q rest) (here a t at began can) left g in
              let fewer = needed_no_more end q rest in
              let b = x.5 in
              let c = x.6 in
              more x.0 x.1 x.2 x.3 x.4 (omega (arith, fewer, long, b, c, l))
        ]

    step : (m : ℕ) → Finishes m → (s : S) (rest : List (Operation W)) → IsAhead end rest → IsSeenTo after end s rest seen kept →
        (order : List ℕ) → Has s rest order → length order + needed end rest < suc m → AnyLawfulWith after future last kept
    step m more s rest ahead (Keeps none covered) order h l =
        let x = covers kept s rest covered order h in (x.0, x.1, x.2, (x.3, x.4))
    step m more s rest ahead (Places p q ends pure placed) order h l =
        let t = pure.2.3 in
        let left = order_by_pure after end last future is s rest ahead q pure.0 t.0 pure.1 pure.2.1 t.1 order h in
        let x = covers seen t.0 (removed q rest) (placed pure.0 t.0 pure.1 pure.2.0 t.1) left.0 left.1 in
        let fewer = needed_fewer end q rest pure.0 pure.1 (due_is_needed end pure.0 pure.2.2) in
        let a = left.2 in
        let b = x.5 in
        let c = x.6 in
        more x.0 x.1 x.2 x.3 x.4 (omega (arith, fewer, a, b, c, l))
    step m more s rest ahead (Tries p ends tried) order h l =
        elim (order_by_end after end last future is s rest ahead p ends.0 ends.1 ends.2 order h) [
          | inl out ↦
              let x = covers seen s (removed p rest) (tried.0 ends.0 ends.1 out.0) out.1 out.2 in
              let fewer = needed_fewer end p rest ends.0 ends.1 (ending_needed end ends.0.ends ends.0.maybe ends.2) in
              let a = out.3 in
              let b = x.5 in
              let c = x.6 in
              more x.0 x.1 x.2 x.3 x.4 (omega (arith, fewer, a, b, c, l))
          | inr (q, a, t, at, began, can, left, g, long) ↦
              placed m more s rest ahead p tried order l (q + 1) q (omega arith) a t at began can left g long
        ]

    module _ (ahead : AreAhead end seen) (handled : (i : ℕ) (one : Remainder S W) → slice_get seen i ≡ Some one →
        IsSeenTo after end one.state one.rest.items seen kept) where
      pub all_finish : (m : ℕ) → Finishes m
      all_finish zero i one at order h l = absurd (omega (arith, l))
      all_finish (suc m) i one at order h l =
          step m (all_finish m) one.state one.rest.items (ahead i one at) (handled i one at) order h l

      pub closed : AnyLawfulWith after future last seen → AnyLawfulWith after future last kept
      closed (i, one, at, lawful) =
          let n : ℕ = length lawful.0 + needed end one.rest.items in
          all_finish (n + 1) i one at lawful.0 lawful.1 (omega arith)
