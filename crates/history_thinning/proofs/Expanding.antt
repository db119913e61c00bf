-- An atomic order of what was kept makes one of the whole log: each record's write where it stood, behind it all answers of the record by
-- beginning, and those of the opening in front. It is an order by number, the number of a record being that of its write.
use Rattle.std.proofs.Common.{◌≡◌, ℕ, zero, suc, ◌+◌, ◌<◌, ◌≤◌, Bool, true, false, List, [], ◌∷◌, length, take, get_or, slice_get}
use Rattle.std.proofs.Common.{Option, None, Some, arith}
use Rattle.std.proofs.Common.{refl, sym, ◌∙◌, ap, subst, inl, inr, ◌⊎◌}
use Rattle.std.specs.Prelude.{IsSome, is_some, nat_eq, if◌then◌else◌, ◌||◌, ◌&&◌}
use Rattle.std.proofs.lemmas.Bool.{cases_Bool, cases_eq, cases_lt, cases_order}
use Rattle.std.proofs.lemmas.Bool.Decides.{nat_tests}
use Rattle.std.proofs.lemmas.Option.{same_Some, slice_get_within, slice_get_cases, get_or_from_slice_get}
use Rattle.history_core.specs.declared.history.Op.{Op}
use Rattle.history_core.specs.Orders.{IsAtomicOrder, is_write, is_write_at, Precedes, writes_in}
use Rattle.history_core.proofs.Listed.{some_and_of}
use Rattle.history_core.specs.Reasons.{counts, IsOfOpening, OfOneRecord}
use Rattle.history_core.proofs.Atomic.{before, both_opened, IsSearched, joined, led, Leads, led_before, mate, no_stale, of_one}
use Rattle.history_core.proofs.Atomic.{of_opening, opened, shares, some_from, some_of, stands, stands_once_at, turned}
use Rattle.history_core.proofs.Counts.{count_up, writes_next}
use Rattle.history_thinning.specs.Thinnings.{Equal, IsThinned}
use Rattle.history_thinning.proofs.Reasons.{alike, kept_known, opened_ends, pair}
use Rattle.history_thinning.proofs.Finished.{counts_finished}
use Rattle.history_thinning.proofs.Sorting.{in_here, in_sort, IsIn, Lex, lex_trans, lex_which, rises, sort, sort_in, stands_at, strict_sort}

-- the first of a list that passes a test
abbrev pub index : (ℕ → Bool) → List ℕ → ℕ
index test [] = 0
index test (x ∷ xs) = if test x then 0 else suc (index test xs)

abbrev pub has_any : (ℕ → Bool) → List ℕ → Bool
has_any test [] = false
has_any test (x ∷ xs) = if test x then true else has_any test xs

index_at : (test : ℕ → Bool) (xs : List ℕ) (j x : ℕ) → slice_get xs j ≡ Some x → test x ≡ true →
    (y : ℕ) × (slice_get xs (index test xs) ≡ Some y) × (test y ≡ true)
index_at test [] j x h t = cc
index_at test (z ∷ xs) zero x h t =
    let u : test z ≡ true = ap test (same_Some z x h) ∙ t in
    (z, ap (λ b. slice_get (z ∷ xs) (if b then 0 else suc (index test xs))) u, u)
index_at test (z ∷ xs) (suc j) x h t =
    let w = index_at test xs j x h t in
    elim (cases_Bool (test z)) [
      | inl u ↦ (z, ap (λ b. slice_get (z ∷ xs) (if b then 0 else suc (index test xs))) u, u)
      | inr f ↦ (w.0, ap (λ b. slice_get (z ∷ xs) (if b then 0 else suc (index test xs))) f ∙ w.1, w.2)
    ]

pub has_at : (test : ℕ → Bool) (xs : List ℕ) → has_any test xs ≡ true → (j : ℕ) × (x : ℕ) × (slice_get xs j ≡ Some x) × (test x ≡ true)
has_at test [] h = cc
has_at test (z ∷ xs) h = elim (cases_Bool (test z)) [
  | inl u ↦ (0, z, refl, u)
  | inr f ↦ let w = has_at test xs (sym (ap (λ b. if b then true else has_any test xs) f) ∙ h) in (suc w.0, w.1, w.2, w.3)
]

pub at_has : (test : ℕ → Bool) (xs : List ℕ) (j x : ℕ) → slice_get xs j ≡ Some x → test x ≡ true → has_any test xs ≡ true
at_has test [] j x h t = cc
at_has test (z ∷ xs) zero x h t = ap (λ b. if b then true else has_any test xs) (ap test (same_Some z x h) ∙ t)
at_has test (z ∷ xs) (suc j) x h t = elim (cases_Bool (test z)) [
  | inl u ↦ ap (λ b. if b then true else has_any test xs) u
  | inr f ↦ ap (λ b. if b then true else has_any test xs) f ∙ at_has test xs j x h t
]

abbrev pub item_is : ℕ → Option ℕ → Bool
item_is r None = false
item_is r (Some x) = nat_eq x r

abbrev pub writes_record : ℕ → Option (Op ℕ) → Bool
writes_record r None = false
writes_record r (Some o) = is_write o.kind && item_is r o.item

item_some : (r : ℕ) (item : Option ℕ) → item_is r item ≡ true → item ≡ Some r
item_some r None h = cc
item_some r (Some x) h = let e : x ≡ r = grind (arith, nat_tests) in ap Some e

some_item : (r : ℕ) (item : Option ℕ) → item ≡ Some r → item_is r item ≡ true
some_item r None h = cc
some_item r (Some x) h = let e : x ≡ r = same_Some x r h in grind (arith, nat_tests)

pub both : (a b : Bool) → (a && b) ≡ true → (a ≡ true) × (b ≡ true)
both true b h = (refl, h)
both false b h = cc

pub and_both : (a b : Bool) → a ≡ true → b ≡ true → (a && b) ≡ true
and_both true b s t = t
and_both false b s t = cc

record_is : (r : ℕ) (o : Option (Op ℕ)) → writes_record r o ≡ true →
    (a : Op ℕ) × (o ≡ Some a) × (is_write a.kind ≡ true) × (a.item ≡ Some r)
record_is r None h = cc
record_is r (Some a) h = let w = both (is_write a.kind) (item_is r a.item) h in (a, refl, w.0, item_some r a.item w.1)

pub is_record : (r : ℕ) (o : Option (Op ℕ)) (a : Op ℕ) → o ≡ Some a → is_write a.kind ≡ true → a.item ≡ Some r → writes_record r o ≡ true
is_record r o a e t i = ap (writes_record r) e ∙ and_both (is_write a.kind) (item_is r a.item) t (some_item r a.item i)

abbrev pub number_or : Option ℕ → ℕ
number_or None = 0
number_or (Some x) = x

abbrev pub record_of : Option (Op ℕ) → ℕ
record_of None = 0
record_of (Some o) = number_or o.item

abbrev pub starts_of : Option (Op ℕ) → ℕ
starts_of None = 0
starts_of (Some o) = o.starts

abbrev pub kind_rank : Bool → ℕ
kind_rank true = 0
kind_rank false = 1

pub less_which : (p q : ℕ) → (p ≡ q) ⊎ ((p < q) ⊎ (q < p))
less_which p q = cases_order p q

pub less_trans : (p q r : ℕ) → p < q → q < r → p < r
less_trans p q r a b = omega arith

module _ (log kept : List (Op ℕ)) (places : List ℕ) (thin : IsThinned Equal log kept places) (known : IsSearched Equal 0 log) (order :
    List ℕ)
    (atomic : IsAtomicOrder Equal 0 kept order) where
  kk : IsSearched Equal 0 kept
  kk = kept_known log kept places thin known

  abbrev pub test : ℕ → ℕ → Bool
  test r q = writes_record r (slice_get kept q)

  -- the number of a record: that of its write among the listed ones
  abbrev pub rank : ℕ → ℕ
  rank r = if nat_eq r 0 then 0 else 1 + writes_in (λ _. true) kept (take (index (test r) order) order)

  abbrev pub number : ℕ → ℕ
  number p = rank (record_of (slice_get log p))

  -- a record's write is listed here
  pub record IsWrittenAt (r entry i : ℕ) (write : Op ℕ) : Type 0 where
    pub at : slice_get order entry ≡ Some i
    pub is : slice_get kept i ≡ Some write
    pub writes : is_write write.kind ≡ true
    pub item : write.item ≡ Some r

  not_nought : (r entry i : ℕ) (a : Op ℕ) → IsWrittenAt r entry i a → nat_eq r 0 ≡ false
  not_nought r entry i a w = elim (cases_Bool (nat_eq r 0)) [
    | inr f ↦ f
    | inl t ↦
        let e : r ≡ 0 = grind (arith, nat_tests) in
        absurd (kk.fresh i a w.is w.writes (of_opening Equal 0 a r w.item e))
  ]

  pub one_entry : (r d e i k : ℕ) (a b : Op ℕ) → IsWrittenAt r d i a → IsWrittenAt r e k b → d ≡ e
  one_entry r d e i k a b v w =
      let s : i ≡ k = kk.once i k a b v.is w.is v.writes w.writes (of_one Equal a b r r v.item w.item refl) in
      stands_once_at Equal 0 kept order kk atomic d e k (v.at ∙ ap Some s) w.at

  pub rank_written : (r entry i : ℕ) (a : Op ℕ) → IsWrittenAt r entry i a → rank r ≡ 1 + writes_in (λ _. true) kept (take entry order)
  rank_written r entry i a w =
      let t = is_record r (slice_get kept i) a w.is w.writes w.item in
      let x = index_at (test r) order entry i w.at t in
      let y = record_is r (slice_get kept x.0) x.2 in
      let there : IsWrittenAt r (index (test r) order) x.0 y.0 = record { at = x.1; is = y.1; writes = y.2; item = y.3 } in
      let s : index (test r) order ≡ entry = one_entry r (index (test r) order) entry x.0 i y.0 a there w in
      ap (λ b. if b then 0 else 1 + writes_in (λ _. true) kept (take (index (test r) order) order)) (not_nought r entry i a w)
      ∙ ap (λ n. 1 + writes_in (λ _. true) kept (take n order)) s

  rank_opening : rank 0 ≡ 0
  rank_opening = let t : nat_eq 0 0 ≡ true = grind (arith, nat_tests) in
      ap (λ b. if b then 0 else 1 + writes_in (λ _. true) kept (take (index (test 0) order) order)) t

  -- which operations stand: the finished ones and the listed writes
  abbrev pub stands_op : Option (Op ℕ) → Bool
  stands_op None = false
  stands_op (Some o) = is_some o.ends || (is_write o.kind && has_any (test (number_or o.item)) order)

  -- what an operation that stands is led by: the opening, or the write of its record
  pub record IsLed (o : Op ℕ) : Type 0 where
    pub number : ℕ
    pub item : o.item ≡ Some number
    pub entry : ℕ
    pub index : ℕ
    pub write : Op ℕ
    pub at : IsWrittenAt number entry index write

  led_finished : (p : ℕ) (o : Op ℕ) → slice_get log p ≡ Some o → IsSome o.ends → IsOfOpening Equal 0 o ⊎ IsLed o
  led_finished p o e h =
      let end = some_of o.ends h in
      let v = thin.ends p end.0 o e end.1 in
      let first = some_and_of (λ f. f ≤ end.0) v.1.ends v.3 in
      let s = stands Equal 0 kept order kk atomic v.0 v.1 v.2.at (some_from v.1.ends first.0 first.1) in
      elim (led Equal 0 kept order kk atomic s.0 v.0 v.1 s.1 v.2.at) [
        | inl x ↦
            let one = shares Equal o x.2 (joined Equal alike o v.1 x.2 v.2.one x.3.one) in
            inr (record {
              number = one.x;
              item = one.has_x;
              entry = x.0;
              index = x.1;
              write = x.2;
              at = record { at = x.3.at; is = x.3.is; writes = x.3.writes; item = one.has_y ∙ ap Some (sym one.same) };
            })
        | inr y ↦ inl (opened Equal alike 0 o v.1 v.2.one y.1)
      ]

  led_write : (item : Option ℕ) → has_any (test (number_or item)) order ≡ true →
      (r : ℕ) × (item ≡ Some r) × (entry : ℕ) × (i : ℕ) × (a : Op ℕ) × IsWrittenAt r entry i a
  led_write None h =
      let x = has_at (test 0) order h in
      let y = record_is 0 (slice_get kept x.1) x.3 in
      absurd (kk.fresh x.1 y.0 y.1 y.2 (of_opening Equal 0 y.0 0 y.3 refl))
  led_write (Some r) h =
      let x = has_at (test r) order h in
      let y = record_is r (slice_get kept x.1) x.3 in
      (r, refl, x.0, x.1, y.0, record { at = x.2; is = y.1; writes = y.2; item = y.3 })

  pub leader : (p : ℕ) (o : Op ℕ) → slice_get log p ≡ Some o → stands_op (Some o) ≡ true → IsOfOpening Equal 0 o ⊎ IsLed o
  leader p o e h = elim (cases_Bool (is_some o.ends)) [
    | inl t ↦ led_finished p o e t
    | inr f ↦
        let t : (is_write o.kind && has_any (test (number_or o.item)) order) ≡ true =
        subst (λ b. (b || (is_write o.kind && has_any (test (number_or o.item)) order)) ≡ true) f h in
        let w = both (is_write o.kind) (has_any (test (number_or o.item)) order) t in
        let x = led_write o.item w.1 in
        inr (record { number = x.0; item = x.1; entry = x.2; index = x.3; write = x.4; at = x.5 })
  ]

  pub number_led : (p : ℕ) (o : Op ℕ) → slice_get log p ≡ Some o → (w : IsLed o) →
      number p ≡ 1 + writes_in (λ _. true) kept (take w.entry order)
  number_led p o e w =
      ap (λ z. rank (record_of z)) e ∙ ap (λ z. rank (number_or z)) w.item
      ∙ rank_written w.number w.entry w.index w.write w.at

  pub number_opened : (p : ℕ) (o : Op ℕ) → slice_get log p ≡ Some o → IsOfOpening Equal 0 o → number p ≡ 0
  number_opened p o e h =
      let x = some_and_of (λ z. Equal z 0) o.item h in
      ap (λ z. rank (record_of z)) e ∙ ap (λ z. rank (number_or z)) (x.1 ∙ ap Some x.2) ∙ rank_opening

  -- writes in turn have numbers that rise
  pub more_writes : (d e i : ℕ) (a : Op ℕ) → slice_get order d ≡ Some i → slice_get kept i ≡ Some a → is_write a.kind ≡ true → d < e →
      writes_in (λ _. true) kept (take d order) < writes_in (λ _. true) kept (take e order)
  more_writes d e i a at is t l =
      let n = writes_next kept order d (slice_get_within order d i at) in
      let g : get_or order d 0 ≡ i = get_or_from_slice_get order d i 0 at in
      let w : is_write_at (slice_get kept (get_or order d 0)) ≡ true =
      ap (λ z. is_write_at (slice_get kept z)) g ∙ ap is_write_at is ∙ t in
      let m : writes_in (λ _. true) kept (take (d + 1) order) ≡ writes_in (λ _. true) kept (take d order) + 1 =
      n ∙ ap (λ b. writes_in (λ _. true) kept (take d order) + (if b then 1 else 0)) w in
      let up : writes_in (λ _. true) kept (take (d + 1) order) ≤ writes_in (λ _. true) kept (take e order) =
      count_up (λ q. true && is_write_at (slice_get kept q)) order (d + 1) e (omega arith) in
      omega arith

  -- of one number, of one record
  pub same_entry : (a b : Op ℕ) (v : IsLed a) (w : IsLed b) →
      writes_in (λ _. true) kept (take v.entry order) ≡ writes_in (λ _. true) kept (take w.entry order) → v.entry ≡ w.entry
  same_entry a b v w same = elim (cases_order v.entry w.entry) [
    | inl s ↦ s
    | inr (inl l) ↦ let m = more_writes v.entry w.entry v.index v.write v.at.at v.at.is v.at.writes l in absurd (omega arith)
    | inr (inr l) ↦ let m = more_writes w.entry v.entry w.index w.write w.at.at w.at.is w.at.writes l in absurd (omega arith)
  ]

  pub same_record : (a b : Op ℕ) (v : IsLed a) (w : IsLed b) → v.entry ≡ w.entry → OfOneRecord Equal a b
  same_record a b v w s =
      let i : v.index ≡ w.index = same_Some v.index w.index (sym v.at.at ∙ ap (slice_get order) s ∙ w.at.at) in
      let o : v.write ≡ w.write = same_Some v.write w.write (sym v.at.is ∙ ap (slice_get kept) i ∙ w.at.is) in
      let n : v.number ≡ w.number = same_Some v.number w.number (sym v.at.item ∙ ap (λ (z : Op ℕ). z.item) o ∙ w.at.item) in
      of_one Equal a b v.number w.number v.item w.item n

  pub of_number : (p q : ℕ) (a b : Op ℕ) → slice_get log p ≡ Some a → slice_get log q ≡ Some b → stands_op (Some a) ≡ true →
      stands_op (Some b) ≡ true → number p ≡ number q → OfOneRecord Equal a b
  of_number p q a b ea eb sa sb same = elim (leader p a ea sa) [
    | inl x ↦ elim (leader q b eb sb) [
      | inl y ↦ both_opened Equal alike 0 a b x y
      | inr y ↦
          let m = number_opened p a ea x in
          let n = number_led q b eb y in
          absurd (omega arith)
    ]
    | inr x ↦ elim (leader q b eb sb) [
      | inl y ↦
          let m = number_led p a ea x in
          let n = number_opened q b eb y in
          absurd (omega arith)
      | inr y ↦
          let m = number_led p a ea x in
          let n = number_led q b eb y in
          same_record a b x y (same_entry a b x y (omega arith))
    ]
  ]

  -- the write leads itself, and what counts of its record
  pub led_mate : (r d i k : ℕ) (a b : Op ℕ) → IsWrittenAt r d i a → slice_get kept k ≡ Some b → counts b ≡ true → OfOneRecord Equal a b →
      (e : ℕ) × (slice_get order e ≡ Some k) × Leads Equal kept order e b d i a
  led_mate r d i k a b w e count one =
      mate Equal 0 kept order kk atomic d i d i k a a b w.at w.is (record {
        at = w.at;
        is = w.is;
        writes = w.writes;
        up_to = omega arith;
        none = λ m v mj jm g. absurd (omega arith);
        one = of_one Equal a a r r w.item w.item refl;
      }) e count one

  of_led : (a : Op ℕ) (w : IsLed a) → OfOneRecord Equal w.write a
  of_led a w = of_one Equal w.write a w.number w.number w.at.item w.item refl

  not_opened : (a : Op ℕ) (w : IsLed a) → IsOfOpening Equal 0 a → ⊥
  not_opened a w h = kk.fresh w.index w.write w.at.is w.at.writes (opened Equal alike 0 w.write a (of_led a w) h)

  -- numbers never fall along precedence
  pub rising : (p q : ℕ) (a b : Op ℕ) → slice_get log p ≡ Some a → slice_get log q ≡ Some b → stands_op (Some a) ≡ true →
      stands_op (Some b) ≡ true → counts b ≡ true → Precedes a b → number p ≤ number q
  rising p q a b ea eb sa sb count pre = elim (leader p a ea sa) [
    | inl x ↦ let m = number_opened p a ea x in omega arith
    | inr x ↦
        let w = pair log kept places thin known p q a b ea eb count pre in
        let a_one : OfOneRecord Equal x.write w.2 = joined Equal alike x.write a w.2 (of_led a x) w.4.one in
        let a_counts : counts w.2 ≡ true = counts_finished w.2 w.6 in
        elim (leader q b eb sb) [
          | inl y ↦
              let opens : IsOfOpening Equal 0 w.3 = opened Equal alike 0 w.3 b (turned Equal alike b w.3 w.5.one) y in
              absurd (no_stale Equal 0 kept order kk atomic w.0 w.1 (record {
                other = w.2;
                op = w.3;
                other_at = w.4.at;
                at = w.5.at;
                finished = opened_ends log kept places thin known w.1 w.3 w.5.at w.7 opens;
                opened = opens;
                another = λ h. not_opened a x (opened Equal alike 0 a w.2 w.4.one h);
                precedes = w.8;
              }))
          | inr y ↦
              let b_one : OfOneRecord Equal y.write w.3 = joined Equal alike y.write b w.3 (of_led b y) w.5.one in
              let u = led_mate x.number x.entry x.index w.0 x.write w.2 x.at w.4.at a_counts a_one in
              let v = led_mate y.number y.entry y.index w.1 y.write w.3 y.at w.5.at w.7 b_one in
              let l : u.0 < v.0 = before Equal 0 kept order kk atomic u.0 v.0 w.0 w.1 w.2 w.3 u.1 w.4.at v.1 w.5.at w.8 in
              let m = number_led p a ea x in
              let n = number_led q b eb y in
              elim (cases_lt y.entry x.entry) [
                | inl back ↦
                    let far : v.0 < x.entry = led_before Equal 0 kept order kk atomic v.0 y.entry y.index x.entry x.index w.3 y.write
                    x.write
                    v.2 back x.at.at x.at.is x.at.writes in
                    let up : x.entry ≤ u.0 = u.2.up_to in
                    absurd (omega arith)
                | inr le ↦
                    let up : writes_in (λ _. true) kept (take x.entry order) ≤ writes_in (λ _. true) kept (take y.entry order) =
                    count_up (λ q. true && is_write_at (slice_get kept q)) order x.entry y.entry le in
                    omega arith
              ]
        ]
  ]

  -- ---- the order
  abbrev pub kind_of : ℕ → ℕ
  kind_of p = kind_rank (is_write_at (slice_get log p))

  abbrev pub begins_at : ℕ → ℕ
  begins_at p = starts_of (slice_get log p)

  abbrev pub Later : ℕ → ℕ → Type 0
  Later p q = p < q

  abbrev pub ByStart : ℕ → ℕ → Type 0
  ByStart = Lex begins_at Later

  abbrev pub ByKind : ℕ → ℕ → Type 0
  ByKind = Lex kind_of ByStart

  abbrev pub ComesFirst : ℕ → ℕ → Type 0
  ComesFirst = Lex number ByKind

  pub first_which : (p q : ℕ) → (p ≡ q) ⊎ (ComesFirst p q ⊎ ComesFirst q p)
  first_which = lex_which number ByKind (lex_which kind_of ByStart (lex_which begins_at Later less_which))

  pub first_trans : (p q r : ℕ) → ComesFirst p q → ComesFirst q r → ComesFirst p r
  first_trans = lex_trans number ByKind (lex_trans kind_of ByStart (lex_trans begins_at Later less_trans))

  abbrev pub standing : ℕ → List ℕ
  standing zero = []
  standing (suc n) = if stands_op (slice_get log n) then n ∷ standing n else standing n

  in_standing : (n p : ℕ) → IsIn p (standing n) → (p < n) × (stands_op (slice_get log p) ≡ true)
  in_standing zero p m = absurd m
  in_standing (suc n) p m = elim (cases_Bool (stands_op (slice_get log n))) [
    | inl t ↦ elim (subst (λ b. IsIn p (if b then n ∷ standing n else standing n)) t m) [
      | inl e ↦ (omega arith, ap (λ z. stands_op (slice_get log z)) e ∙ t)
      | inr k ↦ let w = in_standing n p k in let l : p < n = w.0 in (omega arith, w.1)
    ]
    | inr f ↦
        let w = in_standing n p (subst (λ b. IsIn p (if b then n ∷ standing n else standing n)) f m) in
        let l : p < n = w.0 in
        (omega arith, w.1)
  ]

  standing_in : (n p : ℕ) → p < n → stands_op (slice_get log p) ≡ true → IsIn p (standing n)
  standing_in zero p l t = absurd (omega arith)
  standing_in (suc n) p l t = elim (cases_Bool (stands_op (slice_get log n))) [
    | inl u ↦ subst (λ b. IsIn p (if b then n ∷ standing n else standing n)) (sym u) (elim (cases_eq p n) [
      | inl e ↦ inl e
      | inr ne ↦ inr (standing_in n p (omega arith) t)
    ])
    | inr f ↦ elim (cases_eq p n) [
      | inl e ↦ let u : stands_op (slice_get log n) ≡ true = ap (λ z. stands_op (slice_get log z)) (sym e) ∙ t in cc
      | inr ne ↦ subst (λ b. IsIn p (if b then n ∷ standing n else standing n)) (sym f) (standing_in n p (omega arith) t)
    ]
  ]

  pub whole : List ℕ
  whole = sort ComesFirst first_which first_trans (standing (length log))

  pub whole_is : (i p : ℕ) → slice_get whole i ≡ Some p → (o : Op ℕ) × (slice_get log p ≡ Some o) × (stands_op (Some o) ≡ true)
  unfolding whole
  whole_is i p e =
      let m = in_sort ComesFirst first_which first_trans p (standing (length log)) (in_here p whole i e) in
      let w = in_standing (length log) p m in
      elim (slice_get_cases log p).1 [
        | inl x ↦ (x.0, x.2, sym (ap stands_op x.2) ∙ w.1)
        | inr x ↦ absurd (omega (arith, x.0, w.0))
      ]

  pub is_whole : (p : ℕ) (o : Op ℕ) → slice_get log p ≡ Some o → stands_op (Some o) ≡ true → (i : ℕ) × (slice_get whole i ≡ Some p)
  unfolding whole
  is_whole p o e t =
      let m = standing_in (length log) p (slice_get_within log p o e) (ap stands_op e ∙ t) in
      stands_at p whole (sort_in ComesFirst first_which first_trans p (standing (length log)) m)

  pub whole_up : (i j p q : ℕ) → slice_get whole i ≡ Some p → slice_get whole j ≡ Some q → i < j → ComesFirst p q
  unfolding whole
  whole_up i j p q ei ej l =
      rises ComesFirst first_which first_trans whole i j p q (strict_sort ComesFirst first_which first_trans (standing (length log)))
      ei ej l
