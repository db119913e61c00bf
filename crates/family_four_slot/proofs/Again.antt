-- A slot that a seat has and that no home has is taken again with the record that it had, whatever the seat gave back and took since.
use Rattle.std.proofs.Common.{◌≡◌, ℕ, List, [], ◌∷◌, ◌++◌, sym, ap, ◌∙◌, subst, inl, inr, ⊎_elim}
use Rattle.std.proofs.lemmas.List.{map-append}
use mathlib.Core.Option.{some, none, Option, some-injective, some-ne-none}
use lib.ListN.{get_elem?}
use Rattle.atomic_table.specs.Table.{Act, keeps, takes, gives, chain, carried_after, homes_after, Valid}
use Rattle.atomic_table.proofs.Lists.{at_set}
use Rattle.cell_contract.specs.Running.{held_slots}
use Rattle.family_table.specs.Layouts.{IsInCell, Distinct, Out}
use Rattle.family_table.proofs.Slices.{distinct_less, in_middle, in_more}

module _ {S : Type 0} (j : ℕ) (y : S) where
  -- the slot has this record alone, at home or with the seat
  pub record IsOne (homes : List (Option S)) (cs : List (ℕ × S)) : Type 0 where
    pub home : (x : S) → get_elem? homes j ≡ some (some x) → x ≡ y
    pub carried : (x : S) → IsInCell (j, x) cs → x ≡ y

  pub one_after : (homes : List (Option S)) (cs : List (ℕ × S)) (a : Act S) → IsOne homes cs → Valid homes cs a →
      IsOne (homes_after homes cs a) (carried_after cs a)
  one_after homes cs keeps one valid = one
  one_after homes cs (takes k z) one valid = record {
    home = λ x e. ⊎_elim
        (λ (t : (j ≡ k) × (none ≡ some x)). absurd (some-ne-none x (sym t.1)))
        (λ t. one.home x t.1)
        (at_set homes k j none (some x) e);
    carried = λ x i. ⊎_elim
        (λ (e : (j, x) ≡ (k, z)). ap (λ q. q.1) e ∙ one.home z (ap (λ q. get_elem? homes q.0) e ∙ valid))
        (λ i. one.carried x i) i;
  }
  one_after homes [] gives one valid = one
  one_after homes (c ∷ cs) gives one valid = record {
    home = λ x e. ⊎_elim
        (λ (t : (j ≡ c.0) × (some c.1 ≡ some x)).
        one.carried x (inl (λ z. (t.0 z, sym (some-injective c.1 x t.1) z))))
        (λ t. one.home x t.1)
        (at_set homes c.0 j (some c.1) (some x) e);
    carried = λ x i. one.carried x (inr i);
  }
  one_after homes cs (chain a b) one valid =
      one_after (homes_after homes cs a) (carried_after cs a) b (one_after homes cs a one valid.0) valid.1

  -- a slot among those of a seat, each of which is out and distinct
  pub one_there : (homes : List (Option S)) (before behind : List (ℕ × S)) →
      let cs = before ++ (j, y) ∷ behind in Out homes (held_slots cs) → Distinct (held_slots cs) → IsOne homes cs
  one_there homes before behind out distinct =
      let held : held_slots (before ++ (j, y) ∷ behind) ≡ held_slots before ++ j ∷ held_slots behind =
      map-append (λ (x : ℕ × S). x.0) before ((j, y) ∷ behind) in
      let here : IsInCell j (held_slots (before ++ (j, y) ∷ behind)) =
      subst (IsInCell j) (sym held) (in_middle (held_slots before) (held_slots behind) j) in
      let alone = (distinct_less (held_slots before) (held_slots behind) j (subst Distinct held distinct)).1 in record {
        home = λ x e. absurd (some-ne-none x (some-injective (some x) none (sym e ∙ out j here)));
        carried = λ x i. ⊎_elim
            (λ (e : (j, x) ≡ (j, y)). ap (λ q. q.1) e)
            (λ (k : IsInCell (j, x) (before ++ behind)). absurd (alone
            (subst (IsInCell j) (map-append (λ (x : ℕ × S). x.0) before behind) (in_held (before ++ behind) x k))))
            (in_more before behind (j, x) (j, y) i);
      } where
        in_held : (cs : List (ℕ × S)) (x : S) → IsInCell (j, x) cs → IsInCell j (held_slots cs)
        in_held [] x i = absurd i
        in_held (c ∷ cs) x (inl e) = inl (ap (λ q. q.0) e)
        in_held (c ∷ cs) x (inr i) = inr (in_held cs x i)
