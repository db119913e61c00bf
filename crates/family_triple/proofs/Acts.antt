-- Acts in turn on the slots of a cell, as acts in the table; the slots of the cell stand before all others of the seat.
use Rattle.std.proofs.Common.{◌≡◌, ◌≢◌, ℕ, zero, suc, ◌<◌, List, [], ◌∷◌, ◌++◌, length, get_or, set}
use Rattle.std.proofs.Common.{refl, sym, ap, ◌∙◌, subst, ⊎_elim, inl, inr, arith}
use Rattle.std.proofs.lemmas.Bool.{cases_eq}
use mathlib.Core.Option.{some, none, Option, some-injective, some-ne-none}
use lib.ListN.{get_elem?}
use Rattle.atomic_table.specs.Table.{Act, keeps, takes, gives, chain, carried_after, homes_after, Valid}
use Rattle.atomic_table.proofs.Lists.{set_here, set_else}
use Rattle.cell_contract.specs.Acts.{ProperAll}
use Rattle.cell_contract.specs.Running.{held_slots}
use Rattle.family_table.specs.Layouts.{gather, shift, shift_act, Inside, IsInCell, Distinct, Disjoint, Out}
use Rattle.family_table.proofs.Slices.{gather_at, gather_set, gather_apart, set_long, within}

module _ {S : Type 0} where
  pub carried_shift : (f : ℕ → ℕ) (c others : List (ℕ × S)) (a : Act S) → ProperAll c a →
      carried_after (shift f c ++ others) (shift_act f a) ≡ shift f (carried_after c a) ++ others
  carried_shift f c others keeps p = refl
  carried_shift f c others (takes k y) p = refl
  carried_shift f [] others gives p = absurd p
  carried_shift f (x ∷ c) others gives p = refl
  carried_shift f c others (chain a b) p =
      ap (λ z. carried_after z (shift_act f b)) (carried_shift f c others a p.0) ∙ carried_shift f (carried_after c a) others b p.1

  -- what is gathered has a home's value where the table has it
  at_home : (f : ℕ → ℕ) (n k : ℕ) (hs : List (Option S)) (y : S) → get_elem? (gather f n none hs) k ≡ some (some y) →
      (k < n) × (get_elem? hs (f k) ≡ some (some y))
  at_home f n k hs y e = let t = gather_at f n k none hs (some y) e in (t.0, there hs (f k) y t.1) where
    there : (hs : List (Option S)) (i : ℕ) (y : S) → get_or hs i none ≡ some y → get_elem? hs i ≡ some (some y)
    there [] i y h = absurd (some-ne-none y (sym h))
    there (z ∷ zs) zero y h = ap some h
    there (z ∷ zs) (suc i) y h = there zs i y h

  pub homes_long : (hs : List (Option S)) (c : List (ℕ × S)) (a : Act S) → length (homes_after hs c a) ≡ length hs
  homes_long hs c keeps = refl
  homes_long hs c (takes k y) = set_long hs k none
  homes_long hs [] gives = refl
  homes_long hs (x ∷ c) gives = set_long hs x.0 (some x.1)
  homes_long hs c (chain a b) = homes_long (homes_after hs c a) (carried_after c a) b ∙ homes_long hs c a

  -- the slots of a cell that has so many homes stay inside
  inside_after : (n : ℕ) (gs : List (Option S)) (c : List (ℕ × S)) (a : Act S) → length gs ≡ n → Inside n c → Valid gs c a →
      Inside n (carried_after c a)
  inside_after n gs c keeps e i v = i
  inside_after n gs c (takes k y) e i v = let l = within gs k (some y) v in ((let z : k < n = omega arith in z), i)
  inside_after n gs [] gives e i v = tt
  inside_after n gs (x ∷ c) gives e i v = i.1
  inside_after n gs c (chain a b) e i v =
      inside_after n (homes_after gs c a) (carried_after c a) b (homes_long gs c a ∙ e) (inside_after n gs c a e i v.0) v.1

  gather_long : (f : ℕ → ℕ) (n : ℕ) (hs : List (Option S)) → length (gather f n none hs) ≡ n
  gather_long f zero hs = refl
  gather_long f (suc n) hs = ap suc (gather_long (λ i. f (suc i)) n hs)

  module _ (f : ℕ → ℕ) (n : ℕ) (one : (a b : ℕ) → a < n → b < n → f a ≡ f b → a ≡ b) where
    pub homes_gather : (hs : List (Option S)) (c others : List (ℕ × S)) (a : Act S) → ((i : ℕ) → i < n → f i < length hs) → Inside n c →
        ProperAll c a → Valid (gather f n none hs) c a →
        gather f n none (homes_after hs (shift f c ++ others) (shift_act f a)) ≡ homes_after (gather f n none hs) c a
    homes_gather hs c others keeps there i p v = refl
    homes_gather hs c others (takes k y) there i p v =
        let t = at_home f n k hs y v in gather_set f n none hs k none t.0 (there k t.0) one
    homes_gather hs [] others gives there i p v = absurd p
    homes_gather hs (x ∷ c) others gives there i p v = gather_set f n none hs x.0 (some x.1) i.0 (there x.0 i.0) one
    homes_gather hs c others (chain a b) there i p v =
        let hs' : List (Option S) = homes_after hs (shift f c ++ others) (shift_act f a) in
        let first = homes_gather hs c others a there i p.0 v.0 in
        let long : length hs' ≡ length hs = homes_long hs (shift f c ++ others) (shift_act f a) in
        ap (λ z. gather f n none (homes_after hs' z (shift_act f b))) (carried_shift f c others a p.0)
        ∙ (homes_gather hs' (carried_after c a) others b (λ j l. let t = there j l in omega arith)
        (inside_after n (gather f n none hs) c a (gather_long f n hs) i v.0) p.1
        (subst (λ z. Valid z (carried_after c a) b) (sym first) v.1)
        ∙ ap (λ z. homes_after z (carried_after c a) b) first)

    pub valid_shift : (hs : List (Option S)) (c others : List (ℕ × S)) (a : Act S) → ((i : ℕ) → i < n → f i < length hs) → Inside n c →
        ProperAll c a → Valid (gather f n none hs) c a → Valid hs (shift f c ++ others) (shift_act f a)
    valid_shift hs c others keeps there i p v = tt
    valid_shift hs c others (takes k y) there i p v = (at_home f n k hs y v).1
    valid_shift hs c others gives there i p v = tt
    valid_shift hs c others (chain a b) there i p v =
        let hs' : List (Option S) = homes_after hs (shift f c ++ others) (shift_act f a) in
        let first = homes_gather hs c others a there i p.0 v.0 in
        let long : length hs' ≡ length hs = homes_long hs (shift f c ++ others) (shift_act f a) in (
          valid_shift hs c others a there i p.0 v.0,
          subst (λ z. Valid hs' z (shift_act f b)) (sym (carried_shift f c others a p.0))
              (valid_shift hs' (carried_after c a) others b (λ j l. let t = there j l in omega arith)
              (inside_after n (gather f n none hs) c a (gather_long f n hs) i v.0) p.1
              (subst (λ z. Valid z (carried_after c a) b) (sym first) v.1)),
        )

    -- the homes of another cell stay
    pub homes_apart : (g : ℕ → ℕ) → ((i j : ℕ) → i < n → j < n → g i ≢ f j) → (hs : List (Option S)) (c others : List (ℕ × S)) (a : Act S) →
        ((i : ℕ) → i < n → f i < length hs) → Inside n c → ProperAll c a → Valid (gather f n none hs) c a →
        gather g n none (homes_after hs (shift f c ++ others) (shift_act f a)) ≡ gather g n none hs
    homes_apart g d hs c others keeps there i p v = refl
    homes_apart g d hs c others (takes k y) there i p v =
        let t = at_home f n k hs y v in gather_apart g n none hs (f k) none (λ j l. d j k l t.0)
    homes_apart g d hs [] others gives there i p v = absurd p
    homes_apart g d hs (x ∷ c) others gives there i p v = gather_apart g n none hs (f x.0) (some x.1) (λ j l. d j x.0 l i.0)
    homes_apart g d hs c others (chain a b) there i p v =
        let hs' : List (Option S) = homes_after hs (shift f c ++ others) (shift_act f a) in
        let first = homes_gather hs c others a there i p.0 v.0 in
        let long : length hs' ≡ length hs = homes_long hs (shift f c ++ others) (shift_act f a) in
        ap (λ z. gather g n none (homes_after hs' z (shift_act f b))) (carried_shift f c others a p.0)
        ∙ (homes_apart g d hs' (carried_after c a) others b (λ j l. let t = there j l in omega arith)
        (inside_after n (gather f n none hs) c a (gather_long f n hs) i v.0) p.1
        (subst (λ z. Valid z (carried_after c a) b) (sym first) v.1)
        ∙ homes_apart g d hs c others a there i p.0 v.0)

-- What acts do to the homes, and to the slots of their seat
pub record Effect {S : Type 0} (homes homes' : List (Option S)) (held held' : List ℕ) : Type 0 where
  pub mine : Out homes held → Distinct held → Out homes' held' × Distinct held'
  pub others : (xs : List ℕ) → Out homes xs → Out homes held → Distinct held → Disjoint held xs → Out homes' xs × Disjoint held' xs

module _ {S : Type 0} where
  out_none : (hs : List (Option S)) (h : ℕ) (y : S) → get_elem? hs h ≡ some none → get_elem? hs h ≡ some (some y) → ⊥
  out_none hs h y a b = some-ne-none y (some-injective (some y) none (sym b ∙ a))

  same_effect : (hs : List (Option S)) (xs : List ℕ) → Effect hs hs xs xs
  same_effect hs xs = record { mine = λ o d. (o, d); others = λ ys o out d a. (o, a) }

  both_effects : (hs hs' hs'' : List (Option S)) (xs ys zs : List ℕ) → Effect hs hs' xs ys → Effect hs' hs'' ys zs → Effect hs hs'' xs zs
  both_effects hs hs' hs'' xs ys zs e f = record {
    mine = λ o d. let t = e.mine o d in f.mine t.0 t.1;
    others = λ us o out d a. let t = e.mine out d in let u = e.others us o out d a in f.others us u.0 t.0 t.1 u.1;
  }

  takes_effect : (hs : List (Option S)) (k : ℕ) (y : S) (xs : List ℕ) → get_elem? hs k ≡ some (some y) →
      Effect hs (set hs k none) xs (k ∷ xs)
  takes_effect hs k y xs home =
      let fresh : (zs : List ℕ) → Out hs zs → IsInCell k zs → ⊥ = λ zs o i. out_none hs k y (o k i) home in
      let here : get_elem? (set hs k none) k ≡ some none = set_here hs k none (within hs k (some y) home) in
      let gone : (zs : List ℕ) → Out hs zs → Out (set hs k none) zs =
      λ zs o h i. ⊎_elim (λ (e : h ≡ k). subst (λ z. get_elem? (set hs k none) z ≡ some none) (sym e) here)
      (λ (ne : h ≢ k). set_else hs k h none ne ∙ o h i) (cases_eq h k) in
      record {
        mine = λ o d. (
          (λ h i. ⊎_elim (λ (e : h ≡ k). subst (λ z. get_elem? (set hs k none) z ≡ some none) (sym e) here)
              (λ (j : IsInCell h xs). gone xs o h j) i),
          (fresh xs o, d),
        );
        others = λ zs o out d a. (
          gone zs o,
          (λ h i j. ⊎_elim (λ (e : h ≡ k). fresh zs o (subst (λ z. IsInCell z zs) e j)) (λ (m : IsInCell h xs). a h m j) i),
        );
      }

  gives_effect : (hs : List (Option S)) (k : ℕ) (y : S) (xs : List ℕ) → Effect hs (set hs k (some y)) (k ∷ xs) xs
  gives_effect hs k y xs = record {
    mine = λ o d. (
      (λ h i. set_else hs k h (some y) (λ e. d.0 (subst (λ z. IsInCell z xs) e i)) ∙ o h (inr i)),
      d.1,
    );
    others = λ zs o out d a. (
      (λ h i. set_else hs k h (some y) (λ e. a k (inl refl) (subst (λ z. IsInCell z zs) e i)) ∙ o h i),
      (λ h i j. a h (inr i) j),
    );
  }

  -- of a seat's acts in turn, each of which gives back only what the seat then has
  pub acts_effect : (hs : List (Option S)) (cs : List (ℕ × S)) (a : Act S) → ProperAll cs a → Valid hs cs a →
      Effect hs (homes_after hs cs a) (held_slots cs) (held_slots (carried_after cs a))
  acts_effect hs cs keeps p v = same_effect hs (held_slots cs)
  acts_effect hs cs (takes k y) p v = takes_effect hs k y (held_slots cs) v
  acts_effect hs [] gives p v = absurd p
  acts_effect hs (x ∷ cs) gives p v = gives_effect hs x.0 x.1 (held_slots cs)
  acts_effect hs cs (chain a b) p v =
      both_effects hs (homes_after hs cs a) (homes_after (homes_after hs cs a) (carried_after cs a) b) (held_slots cs)
      (held_slots (carried_after cs a)) (held_slots (carried_after (carried_after cs a) b))
      (acts_effect hs cs a p.0 v.0) (acts_effect (homes_after hs cs a) (carried_after cs a) b p.1 v.1)

  pub proper_shift : (f : ℕ → ℕ) (c others : List (ℕ × S)) (a : Act S) → ProperAll c a → ProperAll (shift f c ++ others) (shift_act f a)
  proper_shift f c others keeps p = tt
  proper_shift f c others (takes k y) p = tt
  proper_shift f [] others gives p = absurd p
  proper_shift f (x ∷ c) others gives p = tt
  proper_shift f c others (chain a b) p = (
    proper_shift f c others a p.0,
    subst (λ z. ProperAll z (shift_act f b)) (sym (carried_shift f c others a p.0)) (proper_shift f (carried_after c a) others b p.1),
  )
