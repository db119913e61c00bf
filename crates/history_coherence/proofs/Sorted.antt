-- The ranks of a log, and that a sorted list of ranks is in order.
use Rattle.std.proofs.Common.{◌≡◌, ℕ, ◌+◌, ◌<◌, ◌≤◌, Bool, true, false, List, [], ◌∷◌, ◌++◌, length, get_or, refl, sym, ◌∙◌, ap, subst}
use Rattle.std.proofs.Common.{arith, inl, inr, slice_get, Option, Some, nat_eq}
use Rattle.std.specs.Prelude.{nat_lt, if◌then◌else◌}
use Rattle.std.specs.List.{All}
use Rattle.std.specs.List.Sorted.{IsPermutation, IsSorted}
use Rattle.std.specs.declared.cmp.Ordering.{Ordering}
use Rattle.std.specs.declared.cmp.Ordering.TheVariants.{Less, Equal}
use Rattle.std.specs.Ordering.{is_lt, nat_cmp, bool_cmp, ordering_then}
use Rattle.std.proofs.lemmas.Bool.{cases_lt, cases_Bool}
use Rattle.std.proofs.lemmas.Bool.Decides.{nat_tests}
use Rattle.std.proofs.lemmas.List.Sums.{sum_by-append, sum_by-cons}
use Rattle.std.proofs.lemmas.List.Sorted.{All-permutation, Contains-permutation, IsPermutation-map, ranks_by, sorted_far}
use Rattle.std.proofs.lemmas.List.Sorted.{sum_by-IsPermutation}
use Rattle.std.proofs.lemmas.Option.{slice_get_within, slice_get-get_or, get_or_from_slice_get, none-some}
use Rattle.history_core.specs.declared.history.Op.{Op}
use Rattle.history_core.specs.Orders.{times_of}
use Rattle.history_core.proofs.Listing.{times_nowhere}
use Rattle.history_core.proofs.Places.{get_last, get_pushed_cases, get_stays}
use Rattle.history_coherence.specs.contracts.rank.RankOrd.TheImpl.Laws.{total-law as RankTotal}
use Rattle.history_coherence.specs.declared.rank.Rank.{Rank}
use Rattle.history_coherence.specs.declared.walk.Mark.{Mark}
use Rattle.history_coherence.specs.declared.walk.Mark.TheVariants.{Placed}
use Rattle.history_coherence.specs.inner.Keys.{number_at}
use Rattle.history_coherence.specs.inner.Ranks.{AreRanksInOrder, AreRanksOf, StandsNoLater, IsRankIn}
use Rattle.history_coherence.proofs.Ranked.{places_of, rank_at}
use Rattle.history_coherence.proofs.Tables.{below_or}

-- how ranks compare
abbrev pub rank_cmp : Rank → Rank → Ordering
rank_cmp a b = ordering_then (nat_cmp a.rank b.rank) (ordering_then (bool_cmp a.answers b.answers) (nat_cmp a.place b.place))

cmp_less : (a b : ℕ) → a < b → nat_cmp a b ≡ Less
cmp_less a b l = let t : nat_lt a b ≡ true = grind (arith, nat_tests) in rw t refl

cmp_same : (a b : ℕ) → a ≡ b → nat_cmp a b ≡ Equal
cmp_same a b e =
    let t : nat_lt a b ≡ false = grind (arith, nat_tests) in
    let s : nat_eq a b ≡ true = grind (arith, nat_tests) in
    rw (t, s) refl

then_number : (x y : ℕ) (rest : Ordering) → is_lt (ordering_then (nat_cmp y x) rest) ≡ false → (x ≤ y) × (x ≡ y → is_lt rest ≡ false)
then_number x y rest h = (
  elim (cases_lt y x) [
    | inl l ↦
        let z : is_lt (ordering_then (nat_cmp y x) rest) ≡ true = ap (λ o. is_lt (ordering_then o rest)) (cmp_less y x l) in
        cc
    | inr le ↦ le
  ],
  λ e. sym (ap (λ o. is_lt (ordering_then o rest)) (cmp_same y x (sym e))) ∙ h,
)

then_test : (x y : Bool) (rest : Ordering) → is_lt (ordering_then (bool_cmp y x) rest) ≡ false →
    (x ≡ true → y ≡ true) × (x ≡ y → is_lt rest ≡ false)
then_test false false rest h = (λ e. cc, λ _. h)
then_test false true rest h = (λ e. refl, λ e. cc)
then_test true false rest h = cc
then_test true true rest h = (λ e. refl, λ _. h)

last_number : (x y : ℕ) → is_lt (nat_cmp y x) ≡ false → x ≤ y
last_number x y h = elim (cases_lt y x) [
  | inl l ↦ let z : is_lt (nat_cmp y x) ≡ true = ap is_lt (cmp_less y x l) in cc
  | inr le ↦ le
]

no_later : (x y : Rank) → is_lt (rank_cmp y x) ≡ false → StandsNoLater x y
no_later x y h =
    let a = then_number x.rank y.rank _ h in
    record {
      rank = a.0;
      answers = λ e. (then_test x.answers y.answers _ (a.1 e)).0;
      place = λ e f. last_number x.place y.place ((then_test x.answers y.answers _ (a.1 e)).1 f);
    }

pub sorted_in_order : (ranks : List Rank) → IsSorted rank_cmp ranks → AreRanksInOrder ranks
sorted_in_order ranks up i j x y ei ej l =
    let far : is_lt (rank_cmp (get_or ranks j x) (get_or ranks i x)) ≡ false =
    sorted_far (λ u v. is_lt (rank_cmp u v)) (ranks_by RankTotal (λ z. z)) ranks up i j x (omega arith) (slice_get_within ranks j y ej) in
    let gx : get_or ranks i x ≡ x = get_or_from_slice_get ranks i x x ei in
    let gy : get_or ranks j x ≡ y = get_or_from_slice_get ranks j y x ej in
    no_later x y (ap (λ z. is_lt (rank_cmp z x)) (sym gy) ∙ (ap (λ z. is_lt (rank_cmp (get_or ranks j x) z)) (sym gx) ∙ far))

-- ---- the ranks of the places met so far
map_push : (xs : List Rank) (x : Rank) → places_of (xs ++ x ∷ []) ≡ places_of xs ++ x.place ∷ []
map_push [] x = refl
map_push (y ∷ ys) x = ap (λ zs. y.place ∷ zs) (map_push ys x)

times_push : (p q : ℕ) (xs : List ℕ) → times_of p (xs ++ q ∷ []) ≡ times_of p xs + (if nat_eq q p then 1 else 0)
times_push p q xs = sum_by-append (λ r. if nat_eq r p then 1 else 0) xs (q ∷ [])
    ∙ ap (λ n. times_of p xs + n) (sum_by-cons (λ r. if nat_eq r p then 1 else 0) q [] ∙ omega arith)

module _ (log : List (Op ℕ)) (keys : List (Option ℕ)) (marks : List Mark) where
  pub ranks_start : AreRanksOf log keys marks 0 []
  ranks_start = record {
    each = λ i r e. absurd (none-some r e);
    all = λ p x l e. absurd (omega arith);
    once = λ p. omega arith;
  }

  pub ranks_skip : (n : ℕ) (ranks : List Rank) →
      ((x : ℕ) → number_at keys n ≡ Some x → (rank : ℕ) × (slice_get marks x ≡ Some (Placed rank))) →
      ((x rank : ℕ) → number_at keys n ≡ Some x → slice_get marks x ≡ Some (Placed rank) → ⊥) → AreRanksOf log keys marks n ranks →
      AreRanksOf log keys marks (n + 1) ranks
  ranks_skip n ranks placed none h = record {
    each = λ i r e. ((h.each i r e).0, let l = (h.each i r e).1 in omega arith);
    all = λ p x l e. elim (below_or p n l) [
      | inl lt ↦ h.all p x lt e
      | inr q ↦
          let k : number_at keys n ≡ Some x = ap (number_at keys) (sym q) ∙ e in
          let w = placed x k in
          absurd (none x w.0 k w.1)
    ];
    once = h.once;
  }

  pub ranks_more : (n : ℕ) (ranks : List Rank) (r : Rank) → IsRankIn log keys marks r → r.place ≡ n → AreRanksOf log keys marks n ranks →
      AreRanksOf log keys marks (n + 1) (ranks ++ r ∷ [])
  ranks_more n ranks r k e h = record {
    each = λ i x f. elim (get_pushed_cases ranks r i x f) [
      | inl old ↦ ((h.each i x old).0, let l = (h.each i x old).1 in omega arith)
      | inr new ↦
          let P : Rank → Type 0 = λ z. IsRankIn log keys marks z × (z.place < n + 1) in
          subst P new.1 (k, omega arith)
    ];
    all = λ p x l m. elim (below_or p n l) [
      | inl lt ↦ let y = h.all p x lt m in (y.0, y.1, get_stays ranks y.1 r y.0 y.2, y.3)
      | inr q ↦ (length ranks, r, get_last ranks r (length ranks) refl, e ∙ sym q)
    ];
    once = λ p.
        let step : times_of p (places_of (ranks ++ r ∷ [])) ≡ times_of p (places_of ranks) + (if nat_eq r.place p then 1 else 0) =
        ap (times_of p) (map_push ranks r) ∙ times_push p r.place (places_of ranks) in
        elim (cases_Bool (nat_eq r.place p)) [
          | inr f ↦
              let s : times_of p (places_of (ranks ++ r ∷ [])) ≡ times_of p (places_of ranks) + 0 =
              step ∙ ap (λ b. times_of p (places_of ranks) + (if b then 1 else 0)) f in
              omega (arith, h.once p)
          | inl t ↦
              let q : r.place ≡ p = grind (arith, nat_tests) in
              let none : times_of p (places_of ranks) ≡ 0 = times_nowhere p (places_of ranks) (λ i f.
              let x = rank_at ranks i p f in
              let l = (h.each i x.0 x.1).1 in
              let y : x.0.place ≡ p = x.2 in
              omega arith) in
              let s : times_of p (places_of (ranks ++ r ∷ [])) ≡ times_of p (places_of ranks) + 1 =
              step ∙ ap (λ b. times_of p (places_of ranks) + (if b then 1 else 0)) t in
              omega arith
        ];
  }

  pub ranks_sorted : (n : ℕ) (ranks sorted : List Rank) → IsPermutation ranks sorted → AreRanksOf log keys marks n ranks →
      AreRanksOf log keys marks n sorted
  ranks_sorted n ranks sorted perm h = record {
    each = λ i r e.
        let P : Rank → Type 0 = λ z. IsRankIn log keys marks z × (z.place < n) in
        let all : All P ranks = λ k d l. h.each k (get_or ranks k d) (slice_get-get_or ranks k d l) in
        let w : P (get_or sorted i r) = All-permutation P ranks sorted perm all i r (slice_get_within sorted i r e) in
        subst P (get_or_from_slice_get sorted i r r e) w;
    all = λ p x l m.
        let y = h.all p x l m in
        let c = Contains-permutation ranks sorted y.1 perm
        (y.0, slice_get_within ranks y.0 y.1 y.2, get_or_from_slice_get ranks y.0 y.1 y.1 y.2) in
        (c.0, y.1, slice_get-get_or sorted c.0 y.1 c.1 ∙ ap Some c.2, y.3);
    once = λ p.
        let e = sum_by-IsPermutation (λ r. if nat_eq r p then 1 else 0) (places_of ranks) (places_of sorted)
        (IsPermutation-map (λ (r : Rank). r.place) ranks sorted perm) in
        let f : times_of p (places_of sorted) ≡ times_of p (places_of ranks) = e in
        omega (arith, h.once p);
  }
