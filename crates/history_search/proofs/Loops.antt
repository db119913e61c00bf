-- One more step of each loop, over plain lists.
use Rattle.std.proofs.Common.{◌≡◌, ◌≢◌, ℕ, zero, suc, ◌+◌, ◌<◌, ◌≤◌, Bool, true, false, List, [], ◌∷◌, ◌++◌, length, take, get_or}
use Rattle.std.proofs.Common.{refl, sym, ◌∙◌, ap, subst, arith, ◌⊎◌, inl, inr, slice_get, set, replicate, Option, None, Some, nat_eq}
use Rattle.std.specs.Prelude.{IfSome, IsSome, IsSomeAnd, is_some, nat_lt, if◌then◌else◌}
use Rattle.std.specs.List.{All}
use Rattle.std.specs.List.Sorted.{IsPermutation}
use Rattle.std.proofs.lemmas.Bool.{cases_lt, cases_eq, cases_Bool}
use Rattle.std.proofs.lemmas.Bool.Decides.{nat_tests}
use Rattle.std.proofs.lemmas.List.Sums.{sum_by-append, sum_by-cons}
use Rattle.std.proofs.Common.{length-set}
use Rattle.std.proofs.lemmas.List.{length-replicate}
use Rattle.std.proofs.lemmas.List.Sorted.{All-permutation, IsPermutation-map, sum_by-IsPermutation, Contains-permutation}
use Rattle.std.proofs.lemmas.Option.{slice_get_within, same_Some, slice_get-get_or, get_or_from_slice_get, none-some}
use Rattle.history_core.specs.declared.history.Op.{Op}
use Rattle.history_core.specs.declared.history.Kind.{Kind}
use Rattle.history_core.specs.declared.history.Kind.TheVariants.{Write, Read, Refused}
use Rattle.history_core.specs.Orders.{is_write, is_write_at, times_of, writes_in}
use Rattle.history_core.proofs.Listed.{some_and_from, some_and_of}
use Rattle.history_core.proofs.Listing.{times_nowhere}
use Rattle.history_core.proofs.Places.{get_pushed_cases, get_last, get_stays, get_set_other, get_set_same}
use Rattle.history_search.specs.declared.rank.Rank.{Rank}
use Rattle.history_search.specs.declared.span.Moment.{Moment}
use Rattle.history_search.specs.declared.span.Span.{Span}
use Rattle.history_core.specs.Searches.{AreForwards}
use Rattle.history_search.specs.inner.Groups.{AreSpans, earlier_moment, empty_span, ends_before, HaveGroups, IsSpan, joined_span}
use Rattle.history_search.specs.inner.Groups.{later_moment}
use Rattle.history_search.specs.inner.Groups.{Member, refused_at}
use Rattle.history_search.specs.inner.Found.{EndsBefore, IsEarlyIn, NoneEarlyIn, NoneEndsBefore, NoneStaleIn}
use Rattle.history_search.specs.inner.Limits.{IsFirstRefusal, kind_or, NoneRefused}
use Rattle.history_search.specs.inner.Ranks.{AreRanks, ends_at, IsRank, IsTurned, later_rank, NoneTurned, stands_in}
use Rattle.history_search.proofs.Ranks.{places_of, rank_at}

-- what is below n + 1 is below n, or is n
below_or : (p n : ℕ) → p < n + 1 → (p < n) ⊎ (p ≡ n)
below_or p n l = elim (cases_lt p n) [ inl lt ↦ inl lt | inr le ↦ inr (omega arith) ]

-- the opening's group has no beginning, or this one
pub stale_none : (spans : List Span) (s : Span) → slice_get spans 0 ≡ Some s → s.begins ≡ None → NoneStaleIn spans
stale_none spans s at e opened m found begins =
    let q : s ≡ opened = same_Some s opened (sym at ∙ found) in
    let z : ⊥ = none-some m (sym e ∙ ap (λ (y : Span). y.begins) q ∙ begins) in
    absurd z

pub stale_past : (spans : List Span) (s : Span) (m : Moment) → slice_get spans 0 ≡ Some s → s.begins ≡ Some m →
    NoneEndsBefore spans m.at → NoneStaleIn spans
stale_past spans s m at e none opened other found begins =
    let q : s ≡ opened = same_Some s opened (sym at ∙ found) in
    let k : m ≡ other = same_Some m other (sym e ∙ ap (λ (y : Span). y.begins) q ∙ begins) in
    subst (λ (y : Moment). NoneEndsBefore spans y.at) k none

module _ {R : Type 0} (ops : List (Op R)) where
  -- a read that precedes the write of its group, whose span has the number m
  pub early_found : (spans : List Span) (n m read : ℕ) (o : Op R) (span : Span) → m ≡ n + 1 → slice_get ops n ≡ Some o →
      slice_get spans m ≡ Some span → ends_before span.ends o.starts ≡ Some read → IsEarlyIn ops spans read n
  early_found spans n m read o span s at found e =
      let k : suc n ≡ m = omega arith in
      (o, span, at, ap (slice_get spans) k ∙ found, e)

  pub early_more : (spans : List Span) (n m : ℕ) (o : Op R) (span : Span) → m ≡ n + 1 → slice_get ops n ≡ Some o →
      slice_get spans m ≡ Some span → ends_before span.ends o.starts ≡ None → NoneEarlyIn ops spans n → NoneEarlyIn ops spans (n + 1)
  early_more spans n m o span s at found e before w a other l f h = elim (below_or w n l) [
    | inl lt ↦ before w a other lt f h
    | inr q ↦
        let k : m ≡ suc w = omega arith in
        let x : o ≡ a = same_Some o a (sym at ∙ ap (slice_get ops) (sym q) ∙ f) in
        let y : span ≡ other = same_Some span other (sym found ∙ ap (slice_get spans) k ∙ h) in
        subst (λ (z : Span). ends_before z.ends a.starts ≡ None) y (subst (λ (z : Op R). ends_before span.ends z.starts ≡ None) x e)
  ]

  pub forwards_more : (n : ℕ) (o : Op R) → slice_get ops n ≡ Some o → (IsSomeAnd o.ends (λ end. end < o.starts) → ⊥) → AreForwards ops n →
      AreForwards ops (n + 1)
  forwards_more n o e not_back before p a l f = elim (below_or p n l) [
    | inl lt ↦ before p a lt f
    | inr s ↦
        let q : o ≡ a = same_Some o a (sym e ∙ ap (slice_get ops) (sym s) ∙ f) in
        let P : Op R → Type 0 = λ z. IfSome z.ends (λ end. z.starts ≤ end) in
        subst P q (by o.ends not_back)
  ]
    where
      by : (ends : Option ℕ) → (IsSomeAnd ends (λ end. end < o.starts) → ⊥) → IfSome ends (λ end. o.starts ≤ end)
      by None h = tt
      by (Some x) h = elim (cases_lt x o.starts) [ inl lt ↦ absurd (h lt) | inr le ↦ le ]

  pub forwards_all : (n : ℕ) → length ops ≤ n → AreForwards ops n → (m : ℕ) → AreForwards ops m
  forwards_all n le all m p o l e = all p o (omega (arith, slice_get_within ops p o e)) e

  module _ (groups : List (Option ℕ)) where
    pub have_more : (n : ℕ) (o : Op R) (found : Option ℕ) → slice_get ops n ≡ Some o → slice_get groups n ≡ Some found →
        (IsSome o.ends × (found ≡ None) → ⊥) → HaveGroups ops groups n → HaveGroups ops groups (n + 1)
    have_more n o found e f h before p a l ea fin = elim (below_or p n l) [
      | inl lt ↦ before p a lt ea fin
      | inr s ↦
          let q : a ≡ o = same_Some a o (sym ea ∙ ap (slice_get ops) s ∙ e) in
          by found (f' s) (λ none. h (subst (λ (z : Op R). IsSome z.ends) q fin, none))
    ]
      where
        f' : p ≡ n → slice_get groups p ≡ Some found
        f' s = ap (slice_get groups) s ∙ f

        by : (r : Option ℕ) → slice_get groups p ≡ Some r → (r ≡ None → ⊥) → (g : ℕ) × (slice_get groups p ≡ Some (Some g))
        by None g h = absurd (h refl)
        by (Some x) g h = (x, g)

  -- ---- two ranks that stand against precedence
  pub record IsLast (ranks : List Rank) (n : ℕ) (last : Rank) : Type 0 where
    pub k : ℕ
    pub at : slice_get ranks k ≡ Some last
    pub near : k < n
    pub most : (i : ℕ) (x : Rank) → i < n → slice_get ranks i ≡ Some x → x.starts ≤ last.starts
    pub none : NoneTurned ops ranks n

  pub last_start : (ranks : List Rank) (x : Rank) → slice_get ranks 0 ≡ Some x → IsLast ranks 1 x
  last_start ranks x e = record {
    k = 0;
    at = e;
    near = omega arith;
    most = λ i y l f.
        let s : i ≡ 0 = omega arith in
        let q : y ≡ x = same_Some y x (sym f ∙ ap (slice_get ranks) s ∙ e) in
        let qs : y.starts ≡ x.starts = ap (λ (z : Rank). z.starts) q in
        omega arith;
    none = λ i j x y ij jn f g t. absurd (omega arith);
  }

  later_starts : (x y : Rank) → (x.starts ≤ (later_rank x y).starts) × (y.starts ≤ (later_rank x y).starts)
  later_starts x y = by (nat_lt x.starts y.starts) refl
    where
      by : (b : Bool) → nat_lt x.starts y.starts ≡ b → (x.starts ≤ (if b then y else x).starts) × (y.starts ≤ (if b then y else x).starts)
      by true e = let l : x.starts < y.starts = grind (arith, nat_tests) in (omega arith, omega arith)
      by false e = let l : y.starts ≤ x.starts = grind (arith, nat_tests) in (omega arith, omega arith)

  turned_later : (x z y : Rank) → x.starts ≤ z.starts → IsTurned ops x y → IsTurned ops z y
  turned_later x z y le t = by (ends_at ops y.place) t
    where
      by : (end : Option ℕ) → IsSomeAnd end (λ e. e < x.starts) → IsSomeAnd end (λ e. e < z.starts)
      by None h = h
      by (Some e) h = omega arith

  pub last_more : (ranks : List Rank) (n : ℕ) (last y : Rank) →
      slice_get ranks n ≡ Some y → (IsTurned ops last y → ⊥) →
      IsLast ranks n last → IsLast ranks (n + 1) (later_rank last y)
  last_more ranks n last y e not_turned h = record {
    k = (picked (nat_lt last.starts y.starts) refl).0;
    at = (picked (nat_lt last.starts y.starts) refl).1;
    near = (picked (nat_lt last.starts y.starts) refl).2;
    most = λ i x l f. elim (below_or i n l) [
      | inl lt ↦ let m = h.most i x lt f in let s = (later_starts last y).0 in omega arith
      | inr s ↦
          let q : x ≡ y = same_Some x y (sym f ∙ ap (slice_get ranks) s ∙ e) in
          let qs : x.starts ≡ y.starts = ap (λ (z : Rank). z.starts) q in
          let up = (later_starts last y).1 in
          omega arith
    ];
    none = λ i j x z ij jn f g t. elim (below_or j n jn) [
      | inl lt ↦ h.none i j x z ij lt f g t
      | inr s ↦
          let q : z ≡ y = same_Some z y (sym g ∙ ap (slice_get ranks) s ∙ e) in
          let m = h.most i x (omega arith) f in
          not_turned (turned_later x last y m (subst (λ (w : Rank). IsTurned ops x w) q t))
    ];
  }
    where
      picked : (b : Bool) → nat_lt last.starts y.starts ≡ b → (k : ℕ) × (slice_get ranks k ≡ Some (if b then y else last)) × (k < n + 1)
      picked true t = (n, e, omega arith)
      picked false t = (h.k, h.at, omega (arith, h.near))

-- ---- the first refused write
pub refused_kind : {R : Type 0} (found : Option (Op R)) → Refused ≡ kind_or found → IsSomeAnd found (λ o. o.kind ≡ Refused)
refused_kind None h = cc
refused_kind (Some o) h = sym h

pub other_kind : {R : Type 0} (found : Option (Op R)) (kind : Kind) → kind ≡ kind_or found → (kind ≡ Refused → ⊥) →
    IsSomeAnd found (λ o. o.kind ≡ Refused) → ⊥
other_kind None kind e other h = h
other_kind (Some o) kind e other h = other (e ∙ h)

pub write_kind : {R : Type 0} (found : Option (Op R)) (kind : Kind) → kind ≡ kind_or found → is_write kind ≡ is_write_at found
write_kind None kind e = ap is_write e
write_kind (Some o) kind e = ap is_write e

module _ {R : Type 0} (ops : List (Op R)) (order : List ℕ) where
  pub none_refused : (n p : ℕ) → slice_get order n ≡ Some p → (IsSomeAnd (slice_get ops p) (λ o. o.kind ≡ Refused) → ⊥) →
      NoneRefused ops order n → NoneRefused ops order (n + 1)
  none_refused n p e other before i q o l f g k = elim (below_or i n l) [
    | inl lt ↦ before i q o lt f g k
    | inr s ↦
        let same_place : q ≡ p = same_Some q p (sym f ∙ ap (slice_get order) s ∙ e) in
        other (some_and_from (λ (z : Op R). z.kind ≡ Refused) (slice_get ops p) o (ap (slice_get ops) (sym same_place) ∙ g) k)
  ]

  pub refusal_at : (n p writes : ℕ) → slice_get order n ≡ Some p → IsSomeAnd (slice_get ops p) (λ o. o.kind ≡ Refused) →
      NoneRefused ops order n → writes ≡ writes_in (λ _. true) ops (take n order) → IsFirstRefusal ops order n p writes
  refusal_at n p writes e h none counted =
      let x = some_and_of (λ (z : Op R). z.kind ≡ Refused) (slice_get ops p) h in
      record { op = x.0; at = e; is = x.1; refused = x.2; none = none; counted = counted }

-- ---- ends before a moment
pub found_before : (spans : List Span) (g moment before : ℕ) (span : Span) → 1 ≤ g → slice_get spans g ≡ Some span →
    ends_before span.ends moment ≡ Some before → EndsBefore spans moment before
found_before spans zero moment before span l e h = absurd (omega arith)
found_before spans (suc w) moment before span l e h = (w, span, e, h)

pub none_before : (spans : List Span) (g moment : ℕ) (span : Span) → slice_get spans g ≡ Some span → ends_before span.ends moment ≡ None →
    ((w : ℕ) (other : Span) → suc w < g → slice_get spans (suc w) ≡ Some other → ends_before other.ends moment ≡ None) →
    (w : ℕ) (other : Span) → suc w < g + 1 → slice_get spans (suc w) ≡ Some other → ends_before other.ends moment ≡ None
none_before spans g moment span e h before w other l f = elim (below_or (suc w) g l) [
  | inl lt ↦ before w other lt f
  | inr s ↦
      let q : other ≡ span = same_Some other span (sym f ∙ ap (slice_get spans) s ∙ e) in
      ap (λ (z : Span). ends_before z.ends moment) q ∙ h
]

-- ---- spans
pub get_same : {X : Type 0} (n : ℕ) (x y : X) (i : ℕ) → slice_get (replicate n x) i ≡ Some y → y ≡ x
get_same zero x y i h = cc
get_same (suc n) x y zero h = sym (same_Some x y h)
get_same (suc n) x y (suc i) h = get_same n x y i h

earlier_least : (ends : Option Moment) (end : Option ℕ) (place : ℕ) (m : Moment) → ends ≡ Some m →
    (k : Moment) × (earlier_moment ends end place ≡ Some k) × (k.at ≤ m.at)
earlier_least None end place m e = cc
earlier_least (Some a) None place m e = let s : a ≡ m = same_Some a m e in
    (a, refl, let q : a.at ≡ m.at = ap (λ (z : Moment). z.at) s in omega arith)
earlier_least (Some a) (Some end) place m e =
    let s : a ≡ m = same_Some a m e in
    let q : a.at ≡ m.at = ap (λ (z : Moment). z.at) s in
    by (nat_lt end a.at) refl q
  where
    by : (b : Bool) → nat_lt end a.at ≡ b → a.at ≡ m.at →
        (k : Moment) × ((if b then Some (record { at = end; place = place }) else Some a) ≡ Some k) × (k.at ≤ m.at)
    by true t q = let l : end < a.at = grind (arith, nat_tests) in (record { at = end; place = place }, refl, omega arith)
    by false t q = (a, refl, omega arith)

earlier_new : (ends : Option Moment) (end place : ℕ) → (k : Moment) × (earlier_moment ends (Some end) place ≡ Some k) × (k.at ≤ end)
earlier_new None end place = (record { at = end; place = place }, refl, omega arith)
earlier_new (Some a) end place = by (nat_lt end a.at) refl
  where
    by : (b : Bool) → nat_lt end a.at ≡ b →
        (k : Moment) × ((if b then Some (record { at = end; place = place }) else Some a) ≡ Some k) × (k.at ≤ end)
    by true t = (record { at = end; place = place }, refl, omega arith)
    by false t = let l : a.at ≤ end = grind (arith, nat_tests) in (a, refl, omega arith)

earlier_from : (ends : Option Moment) (end : Option ℕ) (place : ℕ) (k : Moment) → earlier_moment ends end place ≡ Some k →
    (ends ≡ Some k) ⊎ ((end ≡ Some k.at) × (k.place ≡ place))
earlier_from ends None place k e = inl e
earlier_from None (Some end) place k e =
    let s : record { at = end; place = place } ≡ k = same_Some (record { at = end; place = place }) k e in
    inr (ap (λ (z : Moment). Some z.at) s, sym (ap (λ (z : Moment). z.place) s))
earlier_from (Some a) (Some end) place k e = by (nat_lt end a.at) e
  where
    by : (b : Bool) → (if b then Some (record { at = end; place = place }) else Some a) ≡ Some k →
        (Some a ≡ Some k) ⊎ ((Some end ≡ Some k.at) × (k.place ≡ place))
    by true e =
        let s : record { at = end; place = place } ≡ k = same_Some (record { at = end; place = place }) k e in
        inr (ap (λ (z : Moment). Some z.at) s, sym (ap (λ (z : Moment). z.place) s))
    by false e = inl e

later_most : (begins : Option Moment) (starts place : ℕ) (m : Moment) → begins ≡ Some m →
    (k : Moment) × (later_moment begins starts place ≡ Some k) × (m.at ≤ k.at)
later_most None starts place m e = cc
later_most (Some a) starts place m e =
    let s : a ≡ m = same_Some a m e in
    let q : a.at ≡ m.at = ap (λ (z : Moment). z.at) s in
    by (nat_lt a.at starts) refl q
  where
    by : (b : Bool) → nat_lt a.at starts ≡ b → a.at ≡ m.at →
        (k : Moment) × ((if b then Some (record { at = starts; place = place }) else Some a) ≡ Some k) × (m.at ≤ k.at)
    by true t q = let l : a.at < starts = grind (arith, nat_tests) in (record { at = starts; place = place }, refl, omega arith)
    by false t q = (a, refl, omega arith)

later_new : (begins : Option Moment) (starts place : ℕ) → (k : Moment) × (later_moment begins starts place ≡ Some k) × (starts ≤ k.at)
later_new None starts place = (record { at = starts; place = place }, refl, omega arith)
later_new (Some a) starts place = by (nat_lt a.at starts) refl
  where
    by : (b : Bool) → nat_lt a.at starts ≡ b →
        (k : Moment) × ((if b then Some (record { at = starts; place = place }) else Some a) ≡ Some k) × (starts ≤ k.at)
    by true t = (record { at = starts; place = place }, refl, omega arith)
    by false t = let l : starts ≤ a.at = grind (arith, nat_tests) in (a, refl, omega arith)

later_from : (begins : Option Moment) (starts place : ℕ) (k : Moment) → later_moment begins starts place ≡ Some k →
    (begins ≡ Some k) ⊎ ((starts ≡ k.at) × (k.place ≡ place))
later_from None starts place k e =
    let s : record { at = starts; place = place } ≡ k = same_Some (record { at = starts; place = place }) k e in
    inr (ap (λ (z : Moment). z.at) s, sym (ap (λ (z : Moment). z.place) s))
later_from (Some a) starts place k e = by (nat_lt a.at starts) e
  where
    by : (b : Bool) → (if b then Some (record { at = starts; place = place }) else Some a) ≡ Some k →
        (Some a ≡ Some k) ⊎ ((starts ≡ k.at) × (k.place ≡ place))
    by true e =
        let s : record { at = starts; place = place } ≡ k = same_Some (record { at = starts; place = place }) k e in
        inr (ap (λ (z : Moment). z.at) s, sym (ap (λ (z : Moment). z.place) s))
    by false e = inl e

refused_new : (old : Option ℕ) (kind : Kind) (place : ℕ) → kind ≡ Refused → refused_at old kind place ≡ Some place
refused_new old kind place k = ap (λ z. refused_at old z place) k

refused_stays : (old : Option ℕ) (kind : Kind) (place : ℕ) → IsSome old → IsSome (refused_at old kind place)
refused_stays old Write place h = h
refused_stays old Read place h = h
refused_stays old Refused place h = refl

refused_from : (old : Option ℕ) (kind : Kind) (place p : ℕ) → refused_at old kind place ≡ Some p →
    (old ≡ Some p) ⊎ ((kind ≡ Refused) × (place ≡ p))
refused_from old Write place p e = inl e
refused_from old Read place p e = inl e
refused_from old Refused place p e = inr (refl, same_Some place p e)

module _ {R : Type 0} (ops : List (Op R)) (groups : List (Option ℕ)) where
  -- a place below n + 1 is n, or below it
  span_joined : (n g : ℕ) (o : Op R) (span : Span) → Member ops groups n o g → IsSpan ops groups n g span →
      IsSpan ops groups (n + 1) g (joined_span span o n)
  span_joined n g o span m h = record {
    least = λ p end a l k e. elim (below_or p n l) [
      | inl lt ↦
          let x = h.least p end a lt k e in
          let y = earlier_least span.ends o.ends n x.0 x.1 in
          let le : x.0.at ≤ end = x.2 in
          (y.0, y.1, omega (arith, y.2))
      | inr s ↦
          let q : o ≡ a = same_Some o a (sym m.0 ∙ ap (slice_get ops) (sym s) ∙ k.0) in
          let f : o.ends ≡ Some end = ap (λ (z : Op R). z.ends) q ∙ e in
          let y = earlier_new span.ends end n in
          (y.0, ap (λ z. earlier_moment span.ends z n) f ∙ y.1, y.2)
    ];
    ender = λ k e. elim (earlier_from span.ends o.ends n k e) [
      | inl old ↦ h.ender k old
      | inr new ↦
          let P : ℕ → Type 0 = λ z. Member ops groups z o g in
          (o, subst P (sym new.1) m, new.0)
    ];
    most = λ p a l k. elim (below_or p n l) [
      | inl lt ↦
          let x = h.most p a lt k in
          let y = later_most span.begins o.starts n x.0 x.1 in
          let le : a.starts ≤ x.0.at = x.2 in
          (y.0, y.1, omega (arith, y.2))
      | inr s ↦
          let q : o ≡ a = same_Some o a (sym m.0 ∙ ap (slice_get ops) (sym s) ∙ k.0) in
          let f : o.starts ≡ a.starts = ap (λ (z : Op R). z.starts) q in
          let y = later_new span.begins o.starts n in
          (y.0, y.1, omega (arith, y.2))
    ];
    beginner = λ k e. elim (later_from span.begins o.starts n k e) [
      | inl old ↦ h.beginner k old
      | inr new ↦
          let P : ℕ → Type 0 = λ z. Member ops groups z o g in
          (o, subst P (sym new.1) m, new.0)
    ];
    asks = λ p a l k r. elim (below_or p n l) [
      | inl lt ↦ refused_stays span.refused o.kind n (h.asks p a lt k r)
      | inr s ↦
          let q : o ≡ a = same_Some o a (sym m.0 ∙ ap (slice_get ops) (sym s) ∙ k.0) in
          ap is_some (refused_new span.refused o.kind n (ap (λ (z : Op R). z.kind) q ∙ r))
    ];
    asker = λ p e. elim (refused_from span.refused o.kind n p e) [
      | inl old ↦ h.asker p old
      | inr new ↦
          let P : ℕ → Type 0 = λ z. Member ops groups z o g in
          (o, subst P new.1 m, new.0)
    ];
  }

  -- a place of another group leaves a span
  span_apart : (n g : ℕ) (span : Span) → slice_get groups n ≢ Some (Some g) → IsSpan ops groups n g span → IsSpan ops groups (n + 1) g span
  span_apart n g span ne h = record {
    least = λ p end a l k e. h.least p end a (still p a l k) k e;
    ender = h.ender;
    most = λ p a l k. h.most p a (still p a l k) k;
    beginner = h.beginner;
    asks = λ p a l k r. h.asks p a (still p a l k) k r;
    asker = h.asker;
  }
    where
      still : (p : ℕ) (a : Op R) → p < n + 1 → Member ops groups p a g → p < n
      still p a l k = elim (below_or p n l) [ inl lt ↦ lt | inr s ↦ absurd (ne (ap (slice_get groups) (sym s) ∙ k.1)) ]

  pub spans_start : (spans : List Span) → spans ≡ replicate (length ops + 1) empty_span → AreSpans ops groups 0 spans
  spans_start spans e = record {
    long = ap length e ∙ length-replicate (length ops + 1) empty_span;
    each = λ g span f.
        let s : span ≡ empty_span = get_same (length ops + 1) empty_span span g (sym (ap (λ z. slice_get z g) e) ∙ f) in
        let P : Span → Type 0 = λ z. IsSpan ops groups 0 g z in
        subst P (sym s) (record {
          least = λ p end o l m x. absurd (omega arith);
          ender = λ m x. cc;
          most = λ p o l m. absurd (omega arith);
          beginner = λ m x. cc;
          asks = λ p o l m x. absurd (omega arith);
          asker = λ p x. cc;
        });
  }

  pub spans_skip : (n : ℕ) (spans : List Span) → slice_get groups n ≡ Some None → AreSpans ops groups n spans →
      AreSpans ops groups (n + 1) spans
  spans_skip n spans e h = record {
    long = h.long;
    each = λ g span f. span_apart n g span (λ s. let z : Some None ≡ Some (Some g) = sym e ∙ s in cc) (h.each g span f);
  }

  pub spans_more : (n g : ℕ) (o : Op R) (span : Span) (spans : List Span) → Member ops groups n o g → slice_get spans g ≡ Some span →
      AreSpans ops groups n spans → AreSpans ops groups (n + 1) (set spans g (joined_span span o n))
  spans_more n g o span spans m e h = record {
    long = length-set spans g (joined_span span o n) ∙ h.long;
    each = λ k x f. elim (cases_eq k g) [
      | inl s ↦
          let q : joined_span span o n ≡ x =
          same_Some (joined_span span o n) x (sym (get_set_same spans g span (joined_span span o n) e)
          ∙ ap (slice_get (set spans g (joined_span span o n))) (sym s) ∙ f) in
          let P : Span → Type 0 = λ z. IsSpan ops groups (n + 1) g z in
          let Q : ℕ → Type 0 = λ z. IsSpan ops groups (n + 1) z x in
          subst Q (sym s) (subst P q (span_joined n g o span m (h.each g span e)))
      | inr ne ↦ span_apart n k x (λ s. ne (same_group g k (sym m.1 ∙ s)))
          (h.each k x (sym (get_set_other spans g k (joined_span span o n) ne) ∙ f))
    ];
  }
    where
      same_group : (g k : ℕ) → Some (Some g) ≡ Some (Some k) → k ≡ g
      same_group g k e = sym (same_Some g k (same_Some (Some g) (Some k) e))

  -- ---- ranks
  module _ (spans : List Span) (cut : Option (Option ℕ)) where
    pub ranks_start : AreRanks ops groups spans cut 0 []
    ranks_start = record {
      each = λ i r e. absurd (none-some r e);
      all = λ p g o l m s. absurd (omega arith);
      once = λ p. omega arith;
    }

    pub ranks_skip : (n : ℕ) (ranks : List Rank) →
        ((g : ℕ) (o : Op R) → Member ops groups n o g → stands_in cut g (slice_get spans g) ≡ false) →
        AreRanks ops groups spans cut n ranks → AreRanks ops groups spans cut (n + 1) ranks
    ranks_skip n ranks none h = record {
      each = λ i r e. ((h.each i r e).0, let l = (h.each i r e).1 in omega arith);
      all = λ p g o l m s. elim (below_or p n l) [
        | inl lt ↦ h.all p g o lt m s
        | inr q ↦
            let P : ℕ → Type 0 = λ z. Member ops groups z o g in
            let f : stands_in cut g (slice_get spans g) ≡ false = none g o (subst P q m) in
            cc
      ];
      once = h.once;
    }

    map_push : (xs : List Rank) (x : Rank) → places_of (xs ++ x ∷ []) ≡ places_of xs ++ x.place ∷ []
    map_push [] x = refl
    map_push (y ∷ ys) x = ap (λ zs. y.place ∷ zs) (map_push ys x)

    times_push : (p q : ℕ) (xs : List ℕ) → times_of p (xs ++ q ∷ []) ≡ times_of p xs + (if nat_eq q p then 1 else 0)
    times_push p q xs = sum_by-append (λ r. if nat_eq r p then 1 else 0) xs (q ∷ [])
        ∙ ap (λ n. times_of p xs + n) (sum_by-cons (λ r. if nat_eq r p then 1 else 0) q [] ∙ omega arith)

    pub ranks_more : (n : ℕ) (ranks : List Rank) (r : Rank) → IsRank ops groups spans cut r → r.place ≡ n →
        AreRanks ops groups spans cut n ranks → AreRanks ops groups spans cut (n + 1) (ranks ++ r ∷ [])
    ranks_more n ranks r k e h = record {
      each = λ i x f. elim (get_pushed_cases ranks r i x f) [
        | inl old ↦ ((h.each i x old).0, let l = (h.each i x old).1 in omega arith)
        | inr new ↦
            let P : Rank → Type 0 = λ z. IsRank ops groups spans cut z × (z.place < n + 1) in
            subst P new.1 (k, omega arith)
      ];
      all = λ p g o l m s. elim (below_or p n l) [
        | inl lt ↦ let x = h.all p g o lt m s in (x.0, x.1, get_stays ranks x.1 r x.0 x.2, x.3)
        | inr q ↦ (length ranks, r, get_last ranks r (length ranks) refl, e ∙ sym q)
      ];
      once = λ p.
          let step : times_of p (places_of (ranks ++ r ∷ [])) ≡ times_of p (places_of ranks) + (if nat_eq r.place p then 1 else 0) =
          ap (times_of p) (map_push ranks r) ∙ times_push p r.place (places_of ranks) in
          elim (cases_Bool (nat_eq r.place p)) [
            | inr f ↦
                let s : times_of p (places_of (ranks ++ r ∷ [])) ≡ times_of p (places_of ranks) + 0 =
                step ∙ ap (λ b. times_of p (places_of ranks) + (if b then 1 else 0)) f in
                omega (arith, h.once p)
            | inl t ↦
                let q : r.place ≡ p = grind (arith, nat_tests) in
                let none : times_of p (places_of ranks) ≡ 0 = times_nowhere p (places_of ranks) (λ i f.
                let x = rank_at ranks i p f in
                let l = (h.each i x.0 x.1).1 in
                let y : x.0.place ≡ p = x.2 in
                omega arith) in
                let s : times_of p (places_of (ranks ++ r ∷ [])) ≡ times_of p (places_of ranks) + 1 =
                step ∙ ap (λ b. times_of p (places_of ranks) + (if b then 1 else 0)) t in
                omega arith
          ];
    }

    pub ranks_sorted : (n : ℕ) (ranks sorted : List Rank) → IsPermutation ranks sorted → AreRanks ops groups spans cut n ranks →
        AreRanks ops groups spans cut n sorted
    ranks_sorted n ranks sorted perm h = record {
      each = λ i r e.
          let P : Rank → Type 0 = λ z. IsRank ops groups spans cut z × (z.place < n) in
          let all : All P ranks = λ k d l. h.each k (get_or ranks k d) (slice_get-get_or ranks k d l) in
          let w : P (get_or sorted i r) = All-permutation P ranks sorted perm all i r (slice_get_within sorted i r e) in
          subst P (get_or_from_slice_get sorted i r r e) w;
      all = λ p g o l m s.
          let x = h.all p g o l m s in
          let c = Contains-permutation ranks sorted x.1 perm
          (x.0, slice_get_within ranks x.0 x.1 x.2, get_or_from_slice_get ranks x.0 x.1 x.1 x.2) in
          (c.0, x.1, slice_get-get_or sorted c.0 x.1 c.1 ∙ ap Some c.2, x.3);
      once = λ p.
          let e = sum_by-IsPermutation (λ r. if nat_eq r p then 1 else 0) (places_of ranks) (places_of sorted)
          (IsPermutation-map (λ (r : Rank). r.place) ranks sorted perm) in
          let f : times_of p (places_of sorted) ≡ times_of p (places_of ranks) = e in
          omega (arith, h.once p);
    }
