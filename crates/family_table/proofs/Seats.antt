-- What is known of processes goes from seat to seat: the rule of the family stays, since only the seats' views change.
use Rattle.std.proofs.Common.{true, ◌≡◌, ◌≢◌, ℕ, zero, suc, ◌+◌, ◌*◌, ◌<◌, ◌≤◌, List, [], ◌∷◌, ◌++◌, map, length, get_or, set, refl, sym}
use Rattle.std.proofs.Common.{ap, ◌∙◌, subst}
use Rattle.std.proofs.Common.{⊎_elim, arith, nat_eq, cond, false}
use Rattle.std.proofs.lemmas.Bool.Decides.{nat_tests}
use mathlib.Core.Option.{some, some-injective, some-ne-none}
use lib.ListN.{get_elem?}
use Rattle.std.proofs.lemmas.Bool.{cases_eq}
use Rattle.atomic_table.specs.Table.{State, Splits, Joins, opening}
use Rattle.atomic_table.proofs.Lists.{at_set, at_snoc}
use Rattle.family_table.specs.declared.notes.Process.{Process}
use Rattle.family_table.specs.declared.notes.View.{View}
use Rattle.family_table.specs.declared.notes.View.TheVariants.{Has}
use Rattle.family_table.specs.Layouts.{Layout, said_at, EachOf, IsInCell, Distinct}
use Rattle.family_table.specs.Family.{total, cell, holders, Shows, FamilyRule}
use Rattle.family_table.proofs.Slices.{within}
use Rattle.family_table.proofs.Steps.{count_of}
use Rattle.family_table.proofs.Tags.{tags_start}
use Rattle.family_table.proofs.Totals.{total_set, total_snoc}

pub same_number : (m n : ℕ) → m ≡ n → nat_eq m n ≡ true
same_number m n e = grind (arith, nat_tests)

pub differ : (m n : ℕ) → m ≢ n → nat_eq m n ≡ false
differ m n ne = grind (arith, nat_tests)

module _ {A : Type 0} (P : A → Type 0) where
  pub each_both : (xs ys : List A) → EachOf P xs → EachOf P ys → EachOf P (xs ++ ys)
  each_both [] ys p q = q
  each_both (x ∷ xs) ys p q = (p.0, each_both xs ys p.1 q)

  pub each_at : (xs : List A) (i : ℕ) (x : A) → EachOf P xs → get_elem? xs i ≡ some x → P x
  each_at [] i x p e = absurd (some-ne-none x (sym e))
  each_at (y ∷ ys) zero x p e = subst P (some-injective y x e) p.0
  each_at (y ∷ ys) (suc i) x p e = each_at ys i x p.1 e

  pub each_of : (xs : List A) → ((i : ℕ) (x : A) → get_elem? xs i ≡ some x → P x) → EachOf P xs
  each_of [] h = tt
  each_of (x ∷ xs) h = (h zero x refl, each_of xs (λ i y e. h (suc i) y e))

module _ {V : Type 0} where
  holders_both : (who : ℕ) (ps qs : List (Process V)) → holders who (Has (ps ++ qs)) ≡ holders who (Has ps) + holders who (Has qs)
  holders_both who [] qs = omega arith
  holders_both who (p ∷ ps) qs = let h = holders_both who ps qs in omega arith

  no_count : (who : ℕ) (p : Process V) → p.who ≢ who → cond {A = ℕ} (nat_eq p.who who) 1 0 ≡ 0
  no_count who p ne = ap (λ b. cond {A = ℕ} b 1 0) (differ p.who who ne)

  -- processes with their numbers, from b on: each number stands once
  numbers_above : (who b : ℕ) (ps : List (Process V)) → ((i : ℕ) (p : Process V) → get_elem? ps i ≡ some p → p.who ≡ b + i) → who < b →
      holders who (Has ps) ≡ 0
  numbers_above who b [] h l = refl
  numbers_above who b (p ∷ ps) h l =
      let here : p.who ≡ b + 0 = h zero p refl in
      let other : p.who ≢ who = λ e. absurd (omega arith) in
      let rest = numbers_above who (b + 1) ps (λ i q e. let d : q.who ≡ b + suc i = h (suc i) q e in omega arith) (omega arith) in
      let none_here = no_count who p other in omega arith

  pub numbers_once : (who b : ℕ) (ps : List (Process V)) → ((i : ℕ) (p : Process V) → get_elem? ps i ≡ some p → p.who ≡ b + i) →
      holders who (Has ps) ≤ 1
  numbers_once who b [] h = omega arith
  numbers_once who b (p ∷ ps) h =
      let here : p.who ≡ b + 0 = h zero p refl in
      let later : (i : ℕ) (q : Process V) → get_elem? ps i ≡ some q → q.who ≡ (b + 1) + i =
      λ i q e. let d : q.who ≡ b + suc i = h (suc i) q e in omega arith in
      ⊎_elim
      (λ (e : p.who ≡ who). let one = count_of who p e in let rest = numbers_above who (b + 1) ps later (omega arith) in
      let z : holders who (Has (p ∷ ps)) ≤ 1 = omega arith in z)
      (λ (ne : p.who ≢ who). let no_one = no_count who p ne in let rest = numbers_once who (b + 1) ps later in
      let z : holders who (Has (p ∷ ps)) ≤ 1 = omega arith in z)
      (cases_eq p.who who)

module _ {S V : Type 0} (blank : V) (l : Layout) (Rule : ℕ → State S V → Type 0) (Plan : ℕ → Process V → Type 0) (n : ℕ) where
  abbrev F : State S (View V) → Type 0
  F = FamilyRule blank l Rule Plan n

  -- other views, each of which shows what is known, and no process twice
  pub reviewed : (s : State S (View V)) (r : F s) (vs : List (View V)) →
      ((j : ℕ) (x : View V) → get_elem? vs j ≡ some x → Shows r.processes r.receipts x) → ((who : ℕ) → total (holders who) vs ≤ 1) →
      F (record { words = s.words; homes = s.homes; views = vs })
  reviewed s r vs shows once = record {
    now = r.now;
    processes = r.processes;
    receipts = r.receipts;
    many = r.many;
    sized = r.sized;
    cells = r.cells;
    numbered = r.numbered;
    clocks = r.clocks;
    told = r.told;
    steps = r.steps;
    long = r.long;
    within = r.within;
    made = r.made;
    away = r.away;
    apart = r.apart;
    shows = shows;
    once = once;
    tags = r.tags;
    planned = r.planned;
  }

  -- one part of what a seat knows goes to a new seat
  pub family_parts : (id : ℕ) (xs ys zs : List (Process V)) →
      ((who : ℕ) → holders who (Has ys) + holders who (Has zs) ≡ holders who (Has xs)) →
      ((P : Process V → Type 0) → EachOf P xs → EachOf P ys × EachOf P zs) → Splits F id (Has xs) (Has ys) (Has zs)
  family_parts id xs ys zs same both s r at =
      let known = r.shows id (Has xs) at in
      let parted = both (λ (p : Process V). get_elem? r.processes p.who ≡ some p) known in
      reviewed s r (set s.views id (Has ys) ++ Has zs ∷ [])
      (λ j x e. ⊎_elim
      (λ (h : get_elem? (set s.views id (Has ys)) j ≡ some x). ⊎_elim
      (λ (b : (j ≡ id) × (Has ys ≡ x)). subst (Shows r.processes r.receipts) b.1 parted.0)
      (λ (b : (j ≢ id) × (get_elem? s.views j ≡ some x)). r.shows j x b.1)
      (at_set s.views id j (Has ys) x h))
      (λ (h : Has zs ≡ x). subst (Shows r.processes r.receipts) h parted.1)
      (at_snoc (set s.views id (Has ys)) (Has zs) x j e))
      (λ who.
      let a = total_set (holders who) s.views id (Has xs) (Has ys) at in
      let b = total_snoc (holders who) (set s.views id (Has ys)) (Has zs) in
      let most : total (holders who) s.views ≤ 1 = r.once who in
      let sum = same who in
      let g : total (holders who) (set s.views id (Has ys) ++ Has zs ∷ []) ≤ 1 = omega arith in g)

  -- the first process of a seat's goes to a new seat; and all of them do
  pub parts_first : (id : ℕ) (p : Process V) (ps : List (Process V)) → Splits F id (Has (p ∷ ps)) (Has ps) (Has (p ∷ []))
  parts_first id p ps = family_parts id (p ∷ ps) ps (p ∷ []) (λ who. omega arith) (λ P h. (h.1, (h.0, tt)))

  pub parts_all : (id : ℕ) (ps : List (Process V)) → Splits F id (Has ps) (Has []) (Has ps)
  parts_all id ps = family_parts id ps [] ps (λ who. omega arith) (λ P h. (tt, h))

  -- a seat takes in what another knows of processes
  pub family_joins : (id other : ℕ) (xs ys : List (Process V)) → Joins F id (Has xs) other (Has ys) (Has (xs ++ ys)) (Has [])
  family_joins id other xs ys s r at apart there =
      let known = r.shows id (Has xs) at in
      let at_other : get_elem? s.views other ≡ some (Has ys) = ⊎_elim (λ (h : (other ≡ id) × (Has (xs ++ ys) ≡ Has ys)). absurd (apart h.0))
      (λ (h : (other ≢ id) × (get_elem? s.views other ≡ some (Has ys))). h.1) (at_set s.views id other (Has (xs ++ ys)) (Has ys) there) in
      let also = r.shows other (Has ys) at_other in
      let all = each_both (λ (p : Process V). get_elem? r.processes p.who ≡ some p) xs ys known also in
      reviewed s r (set (set s.views id (Has (xs ++ ys))) other (Has []))
      (λ j x e. ⊎_elim (λ (b : (j ≡ other) × (Has [] ≡ x)). subst (Shows r.processes r.receipts) b.1 tt)
      (λ (b : (j ≢ other) × (get_elem? (set s.views id (Has (xs ++ ys))) j ≡ some x)). ⊎_elim
      (λ (d : (j ≡ id) × (Has (xs ++ ys) ≡ x)). subst (Shows r.processes r.receipts) d.1 all)
      (λ (d : (j ≢ id) × (get_elem? s.views j ≡ some x)). r.shows j x d.1)
      (at_set s.views id j (Has (xs ++ ys)) x b.1))
      (at_set (set s.views id (Has (xs ++ ys))) other j (Has []) x e))
      (λ who.
      let a = total_set (holders who) s.views id (Has xs) (Has (xs ++ ys)) at in
      let b = total_set (holders who) (set s.views id (Has (xs ++ ys))) other (Has ys) (Has []) there in
      let both = holders_both who xs ys in
      let most : total (holders who) s.views ≤ 1 = r.once who in
      let g : total (holders who) (set (set s.views id (Has (xs ++ ys))) other (Has [])) ≤ 1 = omega arith in g)

  -- at the start: one seat has all processes, none of which has done anything
  pub family_starts : (words : List ℕ) (slots : List S) (ps : List (Process V)) → length words ≡ l.words + 8 * n →
      ((i : ℕ) → i < n → get_or words (said_at l i) 0 ≡ 0) → length slots ≡ l.slots → length ps ≡ n →
      ((i : ℕ) (p : Process V) → get_elem? ps i ≡ some p →
      (p.who ≡ i) × (p.clock ≡ 0) × (p.times ≡ []) × (p.held ≡ []) × (p.said ≡ []) × (p.found ≡ [])) →
      ((i : ℕ) (p : Process V) → get_elem? ps i ≡ some p → Plan i p) →
      ((k : ℕ) → k < l.cells → Rule 0 (cell blank l k words (map some slots) ps [])) → F (opening words slots (Has ps))
  family_starts words slots ps lw unsaid ls many fresh planned cells = record {
    planned = planned;
    tags = tags_start l words ps (λ i p e. unsaid i (let b = within ps i p e in omega arith))
        (λ i p e. let z = fresh i p e in (z.4, z.5));
    now = 0;
    processes = ps;
    receipts = [];
    many = many;
    sized = (lw, some_long slots ∙ ls);
    cells = cells;
    numbered = λ i p e. (fresh i p e).0;
    clocks = λ i p e. let z : p.clock ≡ 0 = (fresh i p e).1 in omega arith;
    told = λ r h. absurd h;
    steps = [];
    long = refl;
    within = λ x who e. absurd (cc);
    made = λ i p e. (fresh i p e).2;
    away = λ i p e. let z = (fresh i p e).3 in (
      (λ h j. absurd (subst (IsInCell h) z j)),
      subst Distinct (sym z) tt,
    );
    apart = λ i j u v d e ne h a b. absurd (subst (IsInCell h) (fresh i u d).3 a);
    shows = λ j x e. subst (Shows ps []) (at_one (Has ps) x j e)
        (each_of (λ (p : Process V). get_elem? ps p.who ≡ some p) ps
        (λ i p h. subst (λ z. get_elem? ps z ≡ some p) (sym (fresh i p h).0) h));
    once = λ who. let one = numbers_once who 0 ps (λ i p e. let z : p.who ≡ i = (fresh i p e).0 in omega arith) in
        let g : total (holders who) (Has ps ∷ []) ≤ 1 = omega arith in
        g;
  } where
    some_long : (xs : List S) → length (map some xs) ≡ length xs
    some_long [] = refl
    some_long (x ∷ xs) = ap suc (some_long xs)

    at_one : {A : Type 0} (a b : A) (j : ℕ) → get_elem? (a ∷ []) j ≡ some b → a ≡ b
    at_one a b zero e = some-injective a b e
    at_one a b (suc j) e = absurd (some-ne-none b (sym e))
