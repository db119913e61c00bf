-- The walk with which the search begins: the opening alone is placed, and nothing was looked at.
use Rattle.std.proofs.Common.{◌≡◌, ℕ, ◌+◌, ◌<◌, Bool, true, false, List, [], ◌∷◌, ◌++◌, length, refl, sym, ◌∙◌, ap, subst, arith}
use Rattle.std.proofs.Common.{◌⊎◌, inl, inr, slice_get, set, replicate, Option, None, Some, nat_eq, length-set}
use Rattle.std.specs.Prelude.{not, ◌&&◌}
use Rattle.std.proofs.lemmas.Bool.Decides.{nat_tests}
use Rattle.std.proofs.lemmas.List.{length-replicate}
use Rattle.std.proofs.lemmas.Option.{none-some, slice_get_cases}
use Rattle.history_coherence.specs.declared.edge.Edge.{Edge}
use Rattle.history_coherence.specs.declared.walk.Mark.{Mark}
use Rattle.history_coherence.specs.declared.walk.Mark.TheVariants.{New, Open, Placed}
use Rattle.history_coherence.specs.inner.Keys.{AreLast, edge_at, is_back, IsPrevious, number_at, NumbersUpTo}
use Rattle.history_coherence.specs.inner.Walks.{IsBeyond, IsWalk}
use Rattle.history_coherence.proofs.Edges.{is_edge, number_from, number_is, number_within, set_cases, set_here}
use Rattle.history_coherence.proofs.Tables.{blank_is}

not_back : (e : Edge) → is_back (Some e) ≡ false → e.to ≡ 0 → e.from ≡ 0
not_back e h z = by (nat_eq e.to 0) (nat_eq e.from 0) refl refl h
  where
    by : (a b : Bool) → nat_eq e.to 0 ≡ a → nat_eq e.from 0 ≡ b → (a && not b) ≡ false → e.from ≡ 0
    by a true t u h = grind (arith, nat_tests)
    by true false t u h = cc
    by false false t u h = absurd (grind (arith, nat_tests))

module _ (keys earlier cursors : List (Option ℕ)) (greatest : ℕ) (within : NumbersUpTo keys greatest)
    (back : (q : ℕ) → q < length keys → is_back (edge_at keys earlier q) ≡ false) (last : AreLast keys (length keys) cursors)
    (long : length cursors ≡ greatest + 1) where
  many : length (set (replicate (greatest + 1) New) 0 (Placed 0)) ≡ greatest + 1
  many = length-set (replicate (greatest + 1) New) 0 (Placed 0) ∙ length-replicate (greatest + 1) New

  -- a mark is that of the opening, or new
  mark_is : (x : ℕ) (m : Mark) → slice_get (set (replicate (greatest + 1) New) 0 (Placed 0)) x ≡ Some m →
      ((x ≡ 0) × (Placed 0 ≡ m)) ⊎ (New ≡ m)
  mark_is x m e =
      let l : 0 < length (replicate (greatest + 1) New) = omega (arith, length-replicate (greatest + 1) New) in
      elim (set_cases (replicate (greatest + 1) New) 0 x (Placed 0) m e l) [
        | inl w ↦ inl w
        | inr w ↦ inr (blank_is (greatest + 1) New m x w.1)
      ]

  found_last : (x q : ℕ) (c : Option ℕ) → IsPrevious keys (length keys) x c → IsBeyond c q → q < length keys → number_at keys q ≡ Some x → ⊥
  found_last x q None h b l e = h q l e
  found_last x q (Some r) h b l e = h.2 q b l e

  pub walk_start : IsWalk keys earlier (set (replicate (greatest + 1) New) 0 (Placed 0)) cursors [] ([] ++ 0 ∷ [])
  walk_start = record {
    long = long ∙ sym many;
    keyed = λ q x e. let l = within q x e in omega (arith, many);
    opening = set_here (replicate (greatest + 1) New) 0 (Placed 0) (omega (arith, length-replicate (greatest + 1) New));
    at_cursor = λ x q e. (last x (Some q) (number_from cursors x q e)).1;
    passed = λ x q e l b f g.
        let i = is_edge keys earlier q e f in
        let k : number_at keys q ≡ Some x = i.to ∙ ap Some g in
        let lc : x < length cursors = omega (arith, many) in
        elim (slice_get_cases cursors x).1 [
          | inr w ↦ absurd (omega (arith, w.0))
          | inl w ↦
              let P : Option ℕ → Type 0 = λ o. IsBeyond o q in
              absurd (found_last x q w.0 (last x w.0 w.2) (subst P (number_is cursors x w.0 w.2) b) (number_within keys q x k) k)
        ];
    below = λ x rank q e m f g. elim (mark_is x (Placed rank) m) [
      | inr w ↦ let z : New ≡ Placed rank = w in cc
      | inl w ↦
          let i = is_edge keys earlier q e f in
          let z : e.to ≡ 0 = g ∙ w.0 in
          let n = not_back e (ap is_back (sym f) ∙ back q (number_within keys q e.to i.to)) z in
          inl (n ∙ sym z)
    ];
    ranked = λ x rank m. elim (mark_is x (Placed rank) m) [
      | inr w ↦ let z : New ≡ Placed rank = w in cc
      | inl w ↦ let r : 0 ≡ rank = cc in ap (slice_get ([] ++ 0 ∷ [])) (sym r) ∙ ap Some (sym w.0)
    ];
    on_path = λ i x e. absurd (none-some x e);
    all_open = λ x m. elim (mark_is x Open m) [
      | inr w ↦ let z : New ≡ Open = w in cc
      | inl w ↦ let z : Placed 0 ≡ Open = w.1 in cc
    ];
    once = λ i j x e f. absurd (none-some x e);
    next = λ i x y e f. absurd (none-some x e);
  }
