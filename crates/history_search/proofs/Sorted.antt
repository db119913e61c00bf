-- Places that are sorted by rank have their ranks in order.
use Rattle.std.proofs.Common.{◌≡◌, ℕ, ◌<◌, ◌≤◌, Bool, true, false, List, [], ◌∷◌, get_or, refl, sym, ◌∙◌, ap, arith, inl, inr}
use Rattle.std.proofs.Common.{zero, suc, map, slice_get, Some}
use Rattle.std.specs.Prelude.{nat_eq, nat_lt}
use Rattle.std.specs.List.Sorted.{IsSortedByKey}
use Rattle.std.specs.declared.cmp.Ordering.{Ordering}
use Rattle.std.specs.declared.cmp.Ordering.TheVariants.{Less, Equal}
use Rattle.std.specs.Ordering.{is_lt, nat_cmp, bool_cmp, ordering_then}
use Rattle.std.proofs.lemmas.Bool.{cases_lt}
use Rattle.std.proofs.lemmas.Bool.Decides.{nat_tests}
use Rattle.std.proofs.lemmas.List.Sorted.{ranks_by, sorted_far}
use Rattle.std.proofs.lemmas.Option.{slice_get_within, get_or_from_slice_get, same_Some, none-some}
use Rattle.history_search.specs.contracts.rank.RankOrd.TheImpl.Laws.{total-law as RankTotal}
use Rattle.history_search.specs.declared.rank.Rank.{Rank}
use Rattle.history_search.specs.inner.Ranks.{AreInOrder, IsNoLater}

-- how ranks compare
abbrev pub rank_cmp : Rank → Rank → Ordering
rank_cmp a b = ordering_then (bool_cmp a.late b.late) (ordering_then (nat_cmp a.first b.first) (ordering_then (nat_cmp a.last b.last)
    (ordering_then (nat_cmp a.group b.group) (ordering_then (bool_cmp a.answers b.answers)
    (ordering_then (nat_cmp a.starts b.starts) (nat_cmp a.place b.place))))))

cmp_less : (a b : ℕ) → a < b → nat_cmp a b ≡ Less
cmp_less a b l = let t : nat_lt a b ≡ true = grind (arith, nat_tests) in rw t refl

cmp_same : (a b : ℕ) → a ≡ b → nat_cmp a b ≡ Equal
cmp_same a b e =
    let t : nat_lt a b ≡ false = grind (arith, nat_tests) in
    let s : nat_eq a b ≡ true = grind (arith, nat_tests) in
    rw (t, s) refl

then_number : (x y : ℕ) (rest : Ordering) → is_lt (ordering_then (nat_cmp y x) rest) ≡ false → (x ≤ y) × (x ≡ y → is_lt rest ≡ false)
then_number x y rest h = (
  elim (cases_lt y x) [
    | inl l ↦
        let z : is_lt (ordering_then (nat_cmp y x) rest) ≡ true = ap (λ o. is_lt (ordering_then o rest)) (cmp_less y x l) in
        cc
    | inr le ↦ le
  ],
  λ e. sym (ap (λ o. is_lt (ordering_then o rest)) (cmp_same y x (sym e))) ∙ h,
)

then_test : (x y : Bool) (rest : Ordering) → is_lt (ordering_then (bool_cmp y x) rest) ≡ false →
    (x ≡ true → y ≡ true) × (x ≡ y → is_lt rest ≡ false)
then_test false false rest h = (λ e. cc, λ _. h)
then_test false true rest h = (λ e. refl, λ e. cc)
then_test true false rest h = cc
then_test true true rest h = (λ e. refl, λ _. h)

last_number : (x y : ℕ) (rest : Ordering) → is_lt (ordering_then (nat_cmp y x) rest) ≡ false → x ≤ y
last_number x y rest h = (then_number x y rest h).0

no_later : (x y : Rank) → is_lt (rank_cmp y x) ≡ false → IsNoLater x y
no_later x y h =
    let a = then_test x.late y.late _ h in
    record {
      late = a.0;
      first = λ l. (then_number x.first y.first _ (a.1 l)).0;
      last = λ l f. (then_number x.last y.last _ ((then_number x.first y.first _ (a.1 l)).1 f)).0;
      group = λ l f t.
          (then_number x.group y.group _ ((then_number x.last y.last _ ((then_number x.first y.first _ (a.1 l)).1 f)).1 t)).0;
      answers = λ l f t g. (then_test x.answers y.answers _
          ((then_number x.group y.group _ ((then_number x.last y.last _ ((then_number x.first y.first _ (a.1 l)).1 f)).1 t)).1 g)).0;
      starts = λ l f t g r. (then_number x.starts y.starts _ ((then_test x.answers y.answers _
          ((then_number x.group y.group _ ((then_number x.last y.last _ ((then_number x.first y.first _ (a.1 l)).1 f)).1 t)).1 g)).1 r)).0;
    }

-- whose rank stands there
rank_from : (rank : ℕ → Rank) (places : List ℕ) (i : ℕ) (x : Rank) → slice_get (map rank places) i ≡ Some x →
    (p : ℕ) × (slice_get places i ≡ Some p) × (rank p ≡ x)
rank_from rank [] i x e = absurd (none-some x e)
rank_from rank (p ∷ places) zero x e = (p, refl, same_Some (rank p) x e)
rank_from rank (p ∷ places) (suc i) x e = rank_from rank places i x e

pub sorted_in_order : (rank : ℕ → Rank) (places : List ℕ) → IsSortedByKey rank rank_cmp places → AreInOrder (map rank places)
sorted_in_order rank places up i j x y ei ej l =
    let p = rank_from rank places i x ei in
    let q = rank_from rank places j y ej in
    let far : is_lt (rank_cmp (rank (get_or places j p.0)) (rank (get_or places i p.0))) ≡ false =
    sorted_far (λ u v. is_lt (rank_cmp (rank u) (rank v))) (ranks_by RankTotal rank) places up i j p.0 (omega arith)
    (slice_get_within places j q.0 q.1) in
    let gx : rank (get_or places i p.0) ≡ x = ap rank (get_or_from_slice_get places i p.0 p.0 p.1) ∙ p.2 in
    let gy : rank (get_or places j p.0) ≡ y = ap rank (get_or_from_slice_get places j q.0 p.0 q.1) ∙ q.2 in
    no_later x y (ap (λ z. is_lt (rank_cmp z x)) (sym gy)
    ∙ (ap (λ z. is_lt (rank_cmp (rank (get_or places j p.0)) z)) (sym gx) ∙ far))
