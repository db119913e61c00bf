-- Acts on the slots of a seat: a cell's act on its slots in the table, and an act on slots that lie behind others, which are given back
-- first and then taken again. Of that only the act stays, since the others were out and are so again.
use Rattle.std.proofs.Common.{◌≡◌, ◌≢◌, ℕ, zero, suc, ◌<◌, List, [], ◌∷◌, ◌++◌, length, get_or, set}
use Rattle.std.proofs.Common.{refl, sym, ap, ◌∙◌, subst, inl, inr}
use mathlib.Core.Option.{some, none, Option, some-injective, some-ne-none}
use lib.ListN.{get_elem?}
use Rattle.atomic_table.specs.Table.{Act, keeps, takes, gives, chain, carried_after, homes_after, Valid}
use Rattle.atomic_table.proofs.Lists.{set_here, set_else, set_again}
use Rattle.cell_contract.specs.Acts.{Proper}
use Rattle.cell_contract.specs.Running.{held_slots}
use Rattle.family_table.specs.Layouts.{gather, shift, shift_act, Inside, around, IsInCell, Distinct, Out}
use Rattle.family_table.proofs.Slices.{gather_at, gather_set, gather_apart, set_swap, set_twice, set_long, within}

module _ {S : Type 0} where
  -- a cell's act in the table
  pub carried_shift : (f : ℕ → ℕ) (c others : List (ℕ × S)) (a : Act S) → Proper c a →
      carried_after (shift f c ++ others) (shift_act f a) ≡ shift f (carried_after c a) ++ others
  carried_shift f c others keeps p = refl
  carried_shift f c others (takes k y) p = refl
  carried_shift f [] others gives p = absurd p
  carried_shift f (x ∷ c) others gives p = refl
  carried_shift f c others (chain a b) p = absurd p

  -- what is gathered has a home's value where the table has it
  at_home : (f : ℕ → ℕ) (n k : ℕ) (hs : List (Option S)) (y : S) → get_elem? (gather f n none hs) k ≡ some (some y) →
      (k < n) × (get_elem? hs (f k) ≡ some (some y))
  at_home f n k hs y e = let t = gather_at f n k none hs (some y) e in (t.0, there hs (f k) y t.1) where
    there : (hs : List (Option S)) (i : ℕ) (y : S) → get_or hs i none ≡ some y → get_elem? hs i ≡ some (some y)
    there [] i y h = absurd (some-ne-none y (sym h))
    there (z ∷ zs) zero y h = ap some h
    there (z ∷ zs) (suc i) y h = there zs i y h

  pub valid_shift : (f : ℕ → ℕ) (n : ℕ) (hs : List (Option S)) (c others : List (ℕ × S)) (a : Act S) → Proper c a →
      Valid (gather f n none hs) c a → Valid hs (shift f c ++ others) (shift_act f a)
  valid_shift f n hs c others keeps p v = tt
  valid_shift f n hs c others (takes k y) p v = (at_home f n k hs y v).1
  valid_shift f n hs c others gives p v = tt
  valid_shift f n hs c others (chain a b) p v = absurd p

  pub homes_gather : (f : ℕ → ℕ) (n : ℕ) (hs : List (Option S)) (c others : List (ℕ × S)) (a : Act S) →
      ((i : ℕ) → i < n → f i < length hs) → ((a b : ℕ) → a < n → b < n → f a ≡ f b → a ≡ b) → Inside n c → Proper c a →
      Valid (gather f n none hs) c a →
      gather f n none (homes_after hs (shift f c ++ others) (shift_act f a)) ≡ homes_after (gather f n none hs) c a
  homes_gather f n hs c others keeps within one i p v = refl
  homes_gather f n hs c others (takes k y) within one i p v =
      let t = at_home f n k hs y v in gather_set f n none hs k none t.0 (within k t.0) one
  homes_gather f n hs [] others gives within one i p v = absurd p
  homes_gather f n hs (x ∷ c) others gives within one i p v = gather_set f n none hs x.0 (some x.1) i.0 (within x.0 i.0) one
  homes_gather f n hs c others (chain a b) within one i p v = absurd p

  pub homes_apart : (f g : ℕ → ℕ) (n : ℕ) (hs : List (Option S)) (c others : List (ℕ × S)) (a : Act S) →
      ((i j : ℕ) → i < n → j < n → g i ≢ f j) → Inside n c → Proper c a → Valid (gather f n none hs) c a →
      gather g n none (homes_after hs (shift f c ++ others) (shift_act f a)) ≡ gather g n none hs
  homes_apart f g n hs c others keeps d i p v = refl
  homes_apart f g n hs c others (takes k y) d i p v =
      let t = at_home f n k hs y v in gather_apart g n none hs (f k) none (λ j l. d j k l t.0)
  homes_apart f g n hs [] others gives d i p v = absurd p
  homes_apart f g n hs (x ∷ c) others gives d i p v = gather_apart g n none hs (f x.0) (some x.1) (λ j l. d j x.0 l i.0)
  homes_apart f g n hs c others (chain a b) d i p v = absurd p

  -- one act, which doesn't touch this slot
  abbrev Avoids : ℕ → List (ℕ × S) → Act S → Type 0
  Avoids i c keeps = Unit {0}
  Avoids i c (takes k y) = i ≢ k
  Avoids i [] gives = Unit {0}
  Avoids i (x ∷ c) gives = i ≢ x.0
  Avoids i c (chain a b) = ⊥

  abbrev AllAvoid : List (ℕ × S) → List (ℕ × S) → Act S → Type 0
  AllAvoid [] c a = Unit {0}
  AllAvoid (x ∷ xs) c a = Avoids x.0 c a × AllAvoid xs c a

  avoid_at : (i : ℕ) (hs : List (Option S)) (c : List (ℕ × S)) (a : Act S) → Avoids i c a →
      get_elem? (homes_after hs c a) i ≡ get_elem? hs i
  avoid_at i hs c keeps v = refl
  avoid_at i hs c (takes k y) v = set_else hs k i none v
  avoid_at i hs [] gives v = refl
  avoid_at i hs (x ∷ c) gives v = set_else hs x.0 i (some x.1) v
  avoid_at i hs c (chain a b) v = absurd v

  avoid_set : (i : ℕ) (w : Option S) (hs : List (Option S)) (c : List (ℕ × S)) (a : Act S) → Avoids i c a →
      homes_after (set hs i w) c a ≡ set (homes_after hs c a) i w
  avoid_set i w hs c keeps v = refl
  avoid_set i w hs c (takes k y) v = set_swap hs i k w none v
  avoid_set i w hs [] gives v = refl
  avoid_set i w hs (x ∷ c) gives v = set_swap hs i x.0 w (some x.1) v
  avoid_set i w hs c (chain a b) v = absurd v

  avoid_valid : (i : ℕ) (w : Option S) (hs : List (Option S)) (c : List (ℕ × S)) (a : Act S) → Avoids i c a → Valid hs c a →
      Valid (set hs i w) c a
  avoid_valid i w hs c keeps v h = tt
  avoid_valid i w hs c (takes k y) v h = set_else hs i k w (λ e. v (sym e)) ∙ h
  avoid_valid i w hs c gives v h = tt
  avoid_valid i w hs c (chain a b) v h = absurd v

  out_set : (hs : List (Option S)) (i : ℕ) (w : Option S) (xs : List ℕ) → (IsInCell i xs → ⊥) → Out hs xs → Out (set hs i w) xs
  out_set hs i w xs ne out h k = set_else hs i h w (λ e. ne (subst (λ z. IsInCell z xs) e k)) ∙ out h k

  -- the slots in front are given back and taken again
  pub around_carried : (xs c : List (ℕ × S)) (a : Act S) → carried_after (xs ++ c) (around xs a) ≡ xs ++ carried_after c a
  around_carried [] c a = refl
  around_carried (x ∷ xs) c a = ap (λ zs. x ∷ zs) (around_carried xs c a)

  pub around_homes : (hs : List (Option S)) (xs c : List (ℕ × S)) (a : Act S) → Out hs (held_slots xs) → Distinct (held_slots xs) →
      AllAvoid xs c a → homes_after hs (xs ++ c) (around xs a) ≡ homes_after hs c a
  around_homes hs [] c a out d v = refl
  around_homes hs (x ∷ xs) c a out d v =
      let given : List (Option S) = set hs x.0 (some x.1) in
      let after : List (Option S) = homes_after hs c a in
      let inner : homes_after given (xs ++ c) (around xs a) ≡ set after x.0 (some x.1) =
      around_homes given xs c a (out_set hs x.0 (some x.1) (held_slots xs) d.0 (λ h k. out h (inr k))) d.1 v.1
      ∙ avoid_set x.0 (some x.1) hs c a v.0 in
      let none_there : get_elem? after x.0 ≡ some none = avoid_at x.0 hs c a v.0 ∙ out x.0 (inl refl) in
      ap (λ zs. set zs x.0 none) inner ∙ (set_twice after x.0 (some x.1) none ∙ set_again after x.0 none none_there)

  pub around_valid : (hs : List (Option S)) (xs c : List (ℕ × S)) (a : Act S) → Out hs (held_slots xs) → Distinct (held_slots xs) →
      AllAvoid xs c a → Valid hs c a → Valid hs (xs ++ c) (around xs a)
  around_valid hs [] c a out d v ok = ok
  around_valid hs (x ∷ xs) c a out d v ok =
      let given : List (Option S) = set hs x.0 (some x.1) in
      let out' : Out given (held_slots xs) = out_set hs x.0 (some x.1) (held_slots xs) d.0 (λ h k. out h (inr k)) in
      let here : get_elem? given x.0 ≡ some (some x.1) = set_here hs x.0 (some x.1) (within hs x.0 none (out x.0 (inl refl))) in (
        tt,
        (
          around_valid given xs c a out' d.1 v.1 (avoid_valid x.0 (some x.1) hs c a v.0 ok),
          ap (λ zs. get_elem? zs x.0) (around_homes given xs c a out' d.1 v.1) ∙ (avoid_at x.0 given c a v.0 ∙ here),
        ),
      )

  -- slots that are out and distinct are avoided by an act on those behind them
  pub all_avoid : (hs : List (Option S)) (xs c : List (ℕ × S)) (a : Act S) → Proper c a → Valid hs c a →
      Out hs (held_slots xs) → ((h : ℕ) → IsInCell h (held_slots xs) → IsInCell h (held_slots c) → ⊥) → AllAvoid xs c a
  all_avoid hs [] c a p v out apart = tt
  all_avoid hs (x ∷ xs) c a p v out apart = (
    avoided x.0 c a p v (out x.0 (inl refl)) (λ k. apart x.0 (inl refl) k),
    all_avoid hs xs c a p v (λ h k. out h (inr k)) (λ h k. apart h (inr k)),
  ) where
    avoided : (i : ℕ) (c : List (ℕ × S)) (a : Act S) → Proper c a → Valid hs c a → get_elem? hs i ≡ some none →
        (IsInCell i (held_slots c) → ⊥) → Avoids i c a
    avoided i c keeps p v out ne = tt
    avoided i c (takes k y) p v out ne =
        λ e. absurd (some-ne-none y (some-injective (some y) none (sym v ∙ (ap (get_elem? hs) (sym e) ∙ out))))
    avoided i [] gives p v out ne = tt
    avoided i (x ∷ c) gives p v out ne = λ e. ne (inl e)
    avoided i c (chain a b) p v out ne = absurd p

  pub proper_shift : (f : ℕ → ℕ) (c others : List (ℕ × S)) (a : Act S) → Proper c a → Proper (shift f c ++ others) (shift_act f a)
  proper_shift f c others keeps p = tt
  proper_shift f c others (takes k y) p = tt
  proper_shift f [] others gives p = absurd p
  proper_shift f (x ∷ c) others gives p = tt
  proper_shift f c others (chain a b) p = absurd p

  pub homes_long : (hs : List (Option S)) (c : List (ℕ × S)) (a : Act S) → length (homes_after hs c a) ≡ length hs
  homes_long hs c keeps = refl
  homes_long hs c (takes k y) = set_long hs k none
  homes_long hs [] gives = refl
  homes_long hs (x ∷ c) gives = set_long hs x.0 (some x.1)
  homes_long hs c (chain a b) = homes_long (homes_after hs c a) (carried_after c a) b ∙ homes_long hs c a
