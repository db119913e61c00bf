-- The floors of tasks: those with one more, and the least of them.
use Rattle.std.proofs.Common.{◌≡◌, ℕ, zero, suc, ◌≤◌, List, [], ◌∷◌, ◌++◌, map, take, drop, set, min, refl, ap, sym, ◌∙◌, arith, Some}
use Rattle.std.proofs.Common.{slice_get, ◌+◌, add-one, length, Bool, true, false}
use Rattle.std.specs.Prelude.{◌==◌, cond}
use Rattle.std.proofs.lemmas.Option.{none-some, same_Some}
use Rattle.std.specs.List.{fold}
use Rattle.watch_lines.specs.Tasks.{least_floor, moment_of, task_of}
use Rattle.watch_lines.specs.declared.tasks.Task.{Task}

module _ {X : Type 0} (f : X → X) where
  -- up to this place they are changed, and from there on as they were
  abbrev pub changed_to : ℕ → List X → List X
  changed_to i xs = map f (take i xs) ++ drop i xs

  pub not_yet : (xs : List X) (i : ℕ) → slice_get (changed_to i xs) i ≡ slice_get xs i
  not_yet [] zero = refl
  not_yet [] (suc i) = refl
  not_yet (x ∷ xs) zero = refl
  not_yet (x ∷ xs) (suc i) = not_yet xs i

  one_more : (xs : List X) (i : ℕ) (x : X) → slice_get xs i ≡ Some x → set (changed_to i xs) i (f x) ≡ changed_to (suc i) xs
  one_more [] i x e = absurd (none-some x e)
  one_more (y ∷ ys) zero x e = ap (λ (z : X). f z ∷ ys) (sym (same_Some y x e))
  one_more (y ∷ ys) (suc i) x e = ap (λ (zs : List X). f y ∷ zs) (one_more ys i x e)

  pub changed_more : (xs now : List X) (i : ℕ) (x y : X) → now ≡ changed_to i xs → slice_get now i ≡ Some x → y ≡ f x →
      set now i y ≡ changed_to (i + 1) xs
  changed_more xs now i x y is at change =
      ap (λ (zs : List X). set zs i y) is
      ∙ (ap (λ (z : X). set (changed_to i xs) i z) change
      ∙ (one_more xs i x (sym (not_yet xs i) ∙ (ap (λ (zs : List X). slice_get zs i) (sym is) ∙ at))
      ∙ ap (λ (n : ℕ). changed_to n xs) (sym (add-one i))))

  pub changed_long : (xs : List X) (i : ℕ) → length (changed_to i xs) ≡ length xs
  changed_long [] zero = refl
  changed_long [] (suc i) = refl
  changed_long (x ∷ xs) zero = refl
  changed_long (x ∷ xs) (suc i) = ap suc (changed_long xs i)

  pub changed_all : (xs : List X) (i : ℕ) → length xs ≤ i → changed_to i xs ≡ map f xs
  changed_all [] zero h = refl
  changed_all [] (suc i) h = refl
  changed_all (x ∷ xs) zero h = absurd (omega (arith, h))
  changed_all (x ∷ xs) (suc i) h = ap (λ (zs : List X). f x ∷ zs) (changed_all xs i (omega (arith, h)))

-- the least of these and of a moment
least_of : (a : ℕ) (ts : List Task) → a ≤ 18446744073709551615 →
    fold (λ (least : ℕ) (t : Task). min least (moment_of t.high)) a ts ≡ min a (least_floor ts)
least_of a [] fits = omega (arith, fits)
least_of a (t ∷ ts) fits =
    let m : ℕ = moment_of t.high in
    let less : min a m ≤ 18446744073709551615 = omega (arith, fits) in
    least_of (min a m) ts less ∙ same a m (least_floor ts)
  where
    same : (a m n : ℕ) → min (min a m) n ≡ min a (min m n)
    same a m n = omega arith

pub least_is : (ts : List Task) →
    fold (λ (least : ℕ) (t : Task). min least (moment_of t.high)) 18446744073709551615 ts ≡ least_floor ts
least_is ts =
    let all = least_of 18446744073709551615 ts (omega arith) in
    let most : least_floor ts ≤ 18446744073709551615 = at_most ts in omega (arith, all, most)
  where
    at_most : (ts : List Task) → least_floor ts ≤ 18446744073709551615
    at_most [] = omega arith
    at_most (t ∷ ts) = let rest = at_most ts in omega (arith, rest)

-- the least is at most the floor of each
least_below : (tasks : List Task) (who : ℕ) (t : Task) → task_of tasks who ≡ Some t → least_floor tasks ≤ moment_of t.high
least_below [] who t e = absurd (none-some t e)
least_below (x ∷ xs) who t e = by_test (x.who == who) e (least_below xs who t)
  where
    by_test : (b : Bool) → cond b (Some x) (task_of xs who) ≡ Some t →
        (task_of xs who ≡ Some t → least_floor xs ≤ moment_of t.high) →
        min (moment_of x.high) (least_floor xs) ≤ moment_of t.high
    by_test true e rest = let same = ap (λ (z : Task). moment_of z.high) (same_Some x t e) in omega (arith, same)
    by_test false e rest = let less = rest e in omega (arith, less)

pub least_refuses : (tasks : List Task) (who begins : ℕ) (t : Task) → task_of tasks who ≡ Some t → moment_of t.high ≤ begins →
    least_floor tasks ≤ begins
least_refuses tasks who begins t e above =
    let less = least_below tasks who t e in omega (arith, less, above)
