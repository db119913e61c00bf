-- Which slots are out: with an act of one process each slot that a process has is out still, and with no other one.
use Rattle.std.proofs.Common.{◌≡◌, ◌≢◌, ◌⊎◌, ℕ, List, [], ◌∷◌, ◌++◌, set}
use Rattle.std.proofs.Common.{sym, ◌∙◌, subst, ⊎_elim}
use Rattle.std.proofs.lemmas.List.{map-append}
use Rattle.std.proofs.lemmas.Bool.{cases_eq}
use mathlib.Core.Option.{some, none, Option, some-injective, some-ne-none}
use lib.ListN.{get_elem?}
use Rattle.atomic_table.specs.Table.{Act, keeps, takes, gives, chain, carried_after, homes_after, Valid}
use Rattle.atomic_table.proofs.Lists.{set_here, set_else}
use Rattle.cell_contract.specs.Acts.{Proper}
use Rattle.cell_contract.specs.Running.{held_slots}
use Rattle.family_table.specs.Layouts.{shift, shift_act, IsInCell, Distinct, Disjoint, Out}
use Rattle.family_table.proofs.Slices.{in_more, in_less, in_middle, distinct_more, distinct_less, within}

-- what an act does to the homes, and to the slots of its seat: nothing, or one slot goes out that was at home, or one comes home
pub record Effect {S : Type 0} (homes homes' : List (Option S)) (held held' : List ℕ) : Type 0 where
  pub mine : Out homes held → Distinct held → Out homes' held' × Distinct held'
  pub others : (xs : List ℕ) → Out homes xs → Out homes held → Disjoint held xs → Out homes' xs × Disjoint held' xs

module _ {S : Type 0} where
  out_none : (hs : List (Option S)) (h : ℕ) (y : S) → get_elem? hs h ≡ some none → get_elem? hs h ≡ some (some y) → ⊥
  out_none hs h y a b = some-ne-none y (some-injective (some y) none (sym b ∙ a))

  same_effect : (hs : List (Option S)) (xs : List ℕ) → Effect hs hs xs xs
  same_effect hs xs = record { mine = λ o d. (o, d); others = λ ys o out a. (o, a) }

  takes_effect : (hs : List (Option S)) (k : ℕ) (y : S) (xs ys : List ℕ) → get_elem? hs k ≡ some (some y) →
      Effect hs (set hs k none) (xs ++ ys) (xs ++ k ∷ ys)
  takes_effect hs k y xs ys home =
      let gone : (zs : List ℕ) → Out hs zs → Out (set hs k none) zs =
      λ zs o h i. ⊎_elim (λ (e : h ≡ k). subst (λ z. get_elem? (set hs k none) z ≡ some none) (sym e)
      (set_here hs k none (within hs k (some y) home)))
      (λ (ne : h ≢ k). set_else hs k h none ne ∙ o h i) (same_or h k) in
      let fresh : (zs : List ℕ) → Out hs zs → IsInCell k zs → ⊥ = λ zs o i. out_none hs k y (o k i) home in record {
        mine = λ o d. (
          (λ h i. ⊎_elim (λ (e : h ≡ k). subst (λ z. get_elem? (set hs k none) z ≡ some none) (sym e)
              (set_here hs k none (within hs k (some y) home)))
              (λ (j : IsInCell h (xs ++ ys)). gone (xs ++ ys) o h j) (in_more xs ys h k i)),
          distinct_more xs ys k d (fresh (xs ++ ys) o),
        );
        others = λ zs o out a. (
          gone zs o,
          (λ h i j. ⊎_elim (λ (e : h ≡ k). fresh zs o (subst (λ z. IsInCell z zs) e j)) (λ (m : IsInCell h (xs ++ ys)). a h m j)
              (in_more xs ys h k i)),
        );
      } where
        same_or : (h k : ℕ) → (h ≡ k) ⊎ (h ≢ k)
        same_or h k = cases_eq h k

  gives_effect : (hs : List (Option S)) (k : ℕ) (y : S) (xs ys : List ℕ) → Effect hs (set hs k (some y)) (xs ++ k ∷ ys) (xs ++ ys)
  gives_effect hs k y xs ys = record {
    mine = λ o d.
        let t = distinct_less xs ys k d in (
          (λ h i. set_else hs k h (some y) (λ e. t.1 (subst (λ z. IsInCell z (xs ++ ys)) e i)) ∙ o h (in_less xs ys h k i)),
          t.0,
        );
    others = λ zs o out a. (
      (λ h i. set_else hs k h (some y) (λ e. a k (in_middle xs ys k) (subst (λ z. IsInCell z zs) e i)) ∙ o h i),
      (λ h i j. a h (in_less xs ys h k i) j),
    );
  }

  -- a cell's act, among other slots of the seat
  pub act_effect : (f : ℕ → ℕ) (hs : List (Option S)) (before c behind : List (ℕ × S)) (a : Act S) → Proper c a →
      Valid hs (shift f c ++ behind) (shift_act f a) →
      Effect hs (homes_after hs (shift f c ++ behind) (shift_act f a)) (held_slots (before ++ (shift f c ++ behind)))
      (held_slots (before ++ (shift f (carried_after c a) ++ behind)))
  act_effect f hs before c behind keeps p v = same_effect hs (held_slots (before ++ (shift f c ++ behind)))
  act_effect f hs before c behind (takes k y) p v =
      let rest : List (ℕ × S) = shift f c ++ behind in
      subst (λ (z : List ℕ × List ℕ). Effect hs (set hs (f k) none) z.0 z.1)
      (λ i. (sym (map-append (λ (x : ℕ × S). x.0) before rest) i, sym (map-append (λ (x : ℕ × S). x.0) before ((f k, y) ∷ rest)) i))
      (takes_effect hs (f k) y (held_slots before) (held_slots rest) v)
  act_effect f hs before [] behind gives p v = absurd p
  act_effect f hs before (x ∷ c) behind gives p v =
      let rest : List (ℕ × S) = shift f c ++ behind in
      subst (λ (z : List ℕ × List ℕ). Effect hs (set hs (f x.0) (some x.1)) z.0 z.1)
      (λ i. (sym (map-append (λ (x : ℕ × S). x.0) before ((f x.0, x.1) ∷ rest)) i, sym (map-append (λ (x : ℕ × S). x.0) before rest) i))
      (gives_effect hs (f x.0) x.1 (held_slots before) (held_slots rest))
  act_effect f hs before c behind (chain a b) p v = absurd p
