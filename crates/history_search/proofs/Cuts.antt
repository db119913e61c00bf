-- Groups that cross are a reason; and where no two cross, one pass over the sorted ranks finds the late groups: what has to stand behind a
-- late group comes after it.
use Rattle.std.proofs.Common.{◌≡◌, ◌≢◌, ℕ, zero, suc, ◌+◌, ◌<◌, ◌≤◌, min, Bool, true, false, List, length, refl, sym}
use Rattle.std.proofs.Common.{◌∙◌, ap, subst, arith, ◌⊎◌, inl, inr, slice_get, Option, None, Some}
use Rattle.std.specs.Prelude.{◌||◌, nat_lt, if◌then◌else◌}
use Rattle.std.specs.Option.{option_and_then}
use Rattle.std.proofs.lemmas.Bool.{cases_lt, cases_order, cases_eq, cases_Bool}
use Rattle.std.proofs.lemmas.Bool.Decides.{nat_tests}
use Rattle.std.proofs.lemmas.Option.{slice_get_within, same_Some}
use Rattle.history_core.specs.declared.history.Op.{Op}
use Rattle.history_core.specs.Orders.{Precedes}
use Rattle.history_core.proofs.Listed.{some_and_from, some_and_of}
use Rattle.history_search.specs.declared.rank.Rank.{Rank}
use Rattle.history_search.specs.declared.span.Span.{Span}
use Rattle.history_search.specs.inner.Groups.{AreGroups, AreSpans, Member}
use Rattle.history_search.specs.inner.Ranks.{AreInOrder, AreRanks, asks_in, begin_in, cut_after, earliest, end_in, ends_at, first_in}
use Rattle.history_search.specs.inner.Ranks.{is_above}
use Rattle.history_search.specs.inner.Ranks.{is_late, IsNoLater, IsRank, IsTurned, last_in, late_in, NoneTurned}
use Rattle.history_core.proofs.Atomic.{IsSearched}
use Rattle.history_search.proofs.Groups.{AllHaveGroups}
use Rattle.history_search.proofs.Ranks.{back_by, IsBack, rank_group, rank_op, stands_with_end}
use Rattle.history_search.proofs.Spans.{first_member, last_member}

-- a group is late: a write of it was refused, or it has to stand behind one that is late
pub data IsLate : List Span → ℕ → Type 0 where
  asks : {spans : List Span} {w : ℕ} → asks_in (slice_get spans (suc w)) ≡ true → IsLate spans w
  after : {spans : List Span} {v w m : ℕ} → IsLate spans v → end_in (slice_get spans (suc v)) ≡ Some m →
      m < begin_in (slice_get spans (suc w)) → IsLate spans w

or_either : (a b : Bool) → (a || b) ≡ true → (a ≡ true) ⊎ (b ≡ true)
or_either true b h = inl refl
or_either false b h = inr h

above_by : (end : Option ℕ) (begin : ℕ) → is_above end begin ≡ true → (x : ℕ) × (end ≡ Some x) × (x < begin)
above_by None begin h = cc
above_by (Some x) begin h = (x, refl, grind (arith, nat_tests))

pub above_from : (end : Option ℕ) (begin x : ℕ) → end ≡ Some x → x < begin → is_above end begin ≡ true
above_from end begin x e l = let t : nat_lt x begin ≡ true = grind (arith, nat_tests) in ap (λ z. is_above z begin) e ∙ t

or_second : (a b : Bool) → b ≡ true → (a || b) ≡ true
or_second true b h = refl
or_second false b h = h

earliest_left : (a b : Option ℕ) (x : ℕ) → a ≡ Some x → (y : ℕ) × (earliest a b ≡ Some y) × (y ≤ x)
earliest_left None b x e = cc
earliest_left (Some a) None x e = let s : a ≡ x = same_Some a x e in (a, refl, omega arith)
earliest_left (Some a) (Some b) x e = let s : a ≡ x = same_Some a x e in (min a b, refl, omega arith)

earliest_right : (a b : Option ℕ) (x : ℕ) → b ≡ Some x → (y : ℕ) × (earliest a b ≡ Some y) × (y ≤ x)
earliest_right None b x e = (x, e, omega arith)
earliest_right (Some a) None x e = cc
earliest_right (Some a) (Some b) x e = let s : b ≡ x = same_Some b x e in (min a b, refl, omega arith)

earliest_is : (a b : Option ℕ) (y : ℕ) → earliest a b ≡ Some y → (a ≡ Some y) ⊎ (b ≡ Some y)
earliest_is None b y e = inr e
earliest_is (Some a) None y e = inl e
earliest_is (Some a) (Some b) y e =
    let s : min a b ≡ y = same_Some (min a b) y e in
    elim (cases_lt a b) [ inl l ↦ inl (ap Some (omega arith)) | inr l ↦ inr (ap Some (omega arith)) ]

module _ {R : Type 0} (Same : R → R → Type 0) (opening : R) (ops : List (Op R))
    (groups : List (Option ℕ)) (known : IsSearched Same opening ops)
    (are : AreGroups Same opening ops groups) (all : AllHaveGroups ops groups) (spans : List Span)
    (spanned : AreSpans ops groups (length ops) spans)
    (early : (p w : ℕ) (o a : Op R) → Member ops groups p o (suc w) → slice_get ops w ≡ Some a → Precedes o a → ⊥)
    (stale : (p q w : ℕ) (o b : Op R) → Member ops groups p o 0 → Member ops groups q b (suc w) → Precedes b o → ⊥) where
  pub turned_from : (cut : Option (Option ℕ)) (x y : Rank) (h : IsRank ops groups spans cut x) (k : IsRank ops groups spans cut y) →
      Precedes k.op h.op → IsTurned ops x y
  turned_from cut x y h k pre =
      let e = some_and_of (λ end. end < h.op.starts) k.op.ends pre in
      let l : e.0 < h.op.starts = e.2 in
      some_and_from (λ end. end < x.starts) (ends_at ops y.place) e.0
      (ap (option_and_then (λ (o : Op R). o.ends)) k.member.0 ∙ e.1) (omega (arith, h.starts))

  pub turned_of : (cut : Option (Option ℕ)) (x y : Rank) (h : IsRank ops groups spans cut x) (k : IsRank ops groups spans cut y) →
      IsTurned ops x y → Precedes k.op h.op
  turned_of cut x y h k turned =
      let e = some_and_of (λ end. end < x.starts) (ends_at ops y.place) turned in
      let l : e.0 < x.starts = e.2 in
      some_and_from (λ end. end < h.op.starts) k.op.ends e.0
      (sym (ap (option_and_then (λ (o : Op R). o.ends)) k.member.0) ∙ e.1) (omega (arith, h.starts))

  module _ (ranks : List Rank) (ranked : AreRanks ops groups spans None (length ops) ranks) (in_order : AreInOrder ranks)
      (none : NoneTurned ops ranks (length ranks)) where
    -- where something in group g has to stand before something in group h
    stands_before : (g h m : ℕ) → g ≢ h → end_in (slice_get spans g) ≡ Some m → m < begin_in (slice_get spans h) → (n : ℕ) →
        end_in (slice_get spans h) ≡ Some n → (x : Rank) × (y : Rank) × IsRank ops groups spans None x × IsRank ops groups spans None y
        × IsNoLater x y × (x.group ≡ g) × (y.group ≡ h)
    stands_before g h m ne em lm n en =
        let a = first_member Same opening ops groups known are spans spanned g m em in
        let c = first_member Same opening ops groups known are spans spanned h n en in
        let d = last_member Same opening ops groups known are spans spanned c.0 h c.1 c.2 in
        let i = ranked.all a.0 g a.1 (slice_get_within ops a.0 a.1 a.2.0) a.2 (stands_with_end None g m (slice_get spans g) em) in
        let j = ranked.all d.0 h d.1 (slice_get_within ops d.0 d.1 d.2.0) d.2 (stands_with_end None h n (slice_get spans h) en) in
        let x = (ranked.each i.0 i.1 i.2).0 in
        let y = (ranked.each j.0 j.1 j.2).0 in
        let gx : i.1.group ≡ g = rank_group Same opening ops groups known are all spans spanned None i.1 a.0 g a.1 x i.3 a.2 in
        let gy : j.1.group ≡ h = rank_group Same opening ops groups known are all spans spanned None j.1 d.0 h d.1 y j.3 d.2 in
        let ox : x.op ≡ a.1 = rank_op Same opening ops groups known are all spans spanned None i.1 a.0 a.1 x i.3 a.2.0 in
        let oy : y.op ≡ d.1 = rank_op Same opening ops groups known are all spans spanned None j.1 d.0 d.1 y j.3 d.2.0 in
        let ends : x.op.ends ≡ Some m = ap (λ (o : Op R). o.ends) ox ∙ a.3 in
        let starts : y.op.starts ≡ begin_in (slice_get spans h) = ap (λ (o : Op R). o.starts) oy ∙ d.3 in
        let pre : Precedes x.op y.op = some_and_from (λ end. end < y.op.starts) x.op.ends m ends (omega arith) in
        elim (cases_order i.0 j.0) [
          | inl s ↦
              let q : i.1 ≡ j.1 = same_Some i.1 j.1 (sym i.2 ∙ ap (slice_get ranks) s ∙ j.2) in
              absurd (ne (sym gx ∙ ap (λ (r : Rank). r.group) q ∙ gy))
          | inr (inl l) ↦ (i.1, j.1, x, y, in_order i.0 j.0 i.1 j.1 i.2 j.2 l, gx, gy)
          | inr (inr l) ↦ absurd (none j.0 i.0 j.1 i.1 l (slice_get_within ranks i.0 i.1 i.2) j.2 i.2 (turned_from None j.1 i.1 y x pre))
        ]

    -- no two groups cross
    pub uncrossed : (v w : ℕ) → IsBack spans v w → ⊥
    uncrossed v w b =
        let one = stands_before (suc w) (suc v) b.m (λ e. b.differ (sym e)) b.later_end b.later_first b.n b.earlier_end in
        let two = stands_before (suc v) (suc w) b.n b.differ b.earlier_end b.earlier_first b.m b.later_end in
        let xf = one.2.first ∙ ap (λ g. first_in g (slice_get spans g)) one.5 in
        let yf = one.3.first ∙ ap (λ g. first_in g (slice_get spans g)) one.6 in
        let zf = two.2.first ∙ ap (λ g. first_in g (slice_get spans g)) two.5 in
        let uf = two.3.first ∙ ap (λ g. first_in g (slice_get spans g)) two.6 in
        let xt = one.2.last ∙ ap (λ g. last_in g (slice_get spans g)) one.5 in
        let yt = one.3.last ∙ ap (λ g. last_in g (slice_get spans g)) one.6 in
        let zt = two.2.last ∙ ap (λ g. last_in g (slice_get spans g)) two.5 in
        let ut = two.3.last ∙ ap (λ g. last_in g (slice_get spans g)) two.6 in
        let lo : one.0.late ≡ one.1.late = one.2.late ∙ sym one.3.late in
        let lt : two.0.late ≡ two.1.late = two.2.late ∙ sym two.3.late in
        same_order one.0 one.1 two.0 two.1 one.4 two.4 lo lt (xf ∙ sym uf) (yf ∙ sym zf) (xt ∙ sym ut) (yt ∙ sym zt) (one.5 ∙ sym two.6)
        (one.6 ∙ sym two.5) (λ e. b.differ (sym one.6 ∙ sym e ∙ one.5))
      where
        same_order : (x y z u : Rank) → IsNoLater x y → IsNoLater z u → x.late ≡ y.late → z.late ≡ u.late → x.first ≡ u.first →
            y.first ≡ z.first → x.last ≡ u.last → y.last ≡ z.last → x.group ≡ u.group → y.group ≡ z.group → x.group ≢ y.group → ⊥
        same_order x y z u h k l m f g t s p q ne =
            let a : x.first ≡ y.first = omega (arith, h.first l, k.first m) in
            let b : z.first ≡ u.first = omega arith in
            let c : x.last ≡ y.last = omega (arith, h.last l a, k.last m b) in
            let d : z.last ≡ u.last = omega arith in
            let e : x.group ≡ y.group = omega (arith, h.group l a c, k.group m b d) in
            ne e

    -- what is known of the earliest end of the late groups after n ranks
    pub record IsCut (n : ℕ) (end : Option ℕ) : Type 0 where
      pub closed : (t m : ℕ) (r : Rank) → t < n → slice_get ranks t ≡ Some r → is_late end r.group (slice_get spans r.group) ≡ true →
          end_in (slice_get spans r.group) ≡ Some m → (x : ℕ) × (end ≡ Some x) × (x ≤ m)
      pub forced : (x : ℕ) → end ≡ Some x → (v : ℕ) × IsLate spans v × (end_in (slice_get spans (suc v)) ≡ Some x)

    pub cut_start : IsCut 0 None
    cut_start = record { closed = λ t m r l e f g. absurd (omega arith); forced = λ x e. cc }

    -- what is late by this end is late
    pub late_by : (n v : ℕ) (end : Option ℕ) → IsCut n end → is_late end (suc v) (slice_get spans (suc v)) ≡ true → IsLate spans v
    late_by n v end cut h = elim (or_either (asks_in (slice_get spans (suc v))) (is_above end (begin_in (slice_get spans (suc v)))) h) [
      | inl t ↦ asks t
      | inr t ↦
          let x = above_by end (begin_in (slice_get spans (suc v))) t in
          let y = cut.forced x.0 x.1 in
          after y.1 y.2 x.2
    ]

    same_rank : (t n : ℕ) (r q : Rank) → slice_get ranks n ≡ Some r → slice_get ranks t ≡ Some q → t < n + 1 → (t < n) ⊎ (q ≡ r)
    same_rank t n r q e f l = elim (cases_eq t n) [
      | inl s ↦ inr (same_Some q r (sym f ∙ ap (slice_get ranks) s ∙ e))
      | inr ne ↦ inl (omega arith)
    ]

    -- a group that isn't late leaves the end
    kept : (n : ℕ) (end : Option ℕ) (r : Rank) → slice_get ranks n ≡ Some r → IsCut n end →
        is_late end r.group (slice_get spans r.group) ≡ false → IsCut (n + 1) end
    kept n end r e cut f = record {
      closed = λ t m q l eq late en. elim (same_rank t n r q e eq l) [
        | inl lt ↦ cut.closed t m q lt eq late en
        | inr s ↦
            let g : is_late end q.group (slice_get spans q.group) ≡ false =
            ap (λ (z : Rank). is_late end z.group (slice_get spans z.group)) s ∙ f in
            cc
      ];
      forced = cut.forced;
    }

    -- a group that has become late by the end of a later one would cross it
    not_newly : (n t v u : ℕ) (end : Option ℕ) (r q : Rank) → slice_get ranks n ≡ Some r → slice_get ranks t ≡ Some q → t < n →
        r.group ≡ suc v → q.group ≡ suc u → is_late end (suc v) (slice_get spans (suc v)) ≡ true →
        is_late end (suc u) (slice_get spans (suc u)) ≡ false →
        is_late (earliest end (end_in (slice_get spans (suc v)))) (suc u) (slice_get spans (suc u)) ≡ true → ⊥
    not_newly n t v u end r q er eq l gr gq late before now =
        elim (or_either (asks_in (slice_get spans (suc u))) (is_above (earliest end (end_in (slice_get spans (suc v))))
        (begin_in (slice_get spans (suc u)))) now) [
          | inl a ↦
              let t : is_late end (suc u) (slice_get spans (suc u)) ≡ true =
              ap (λ z. z || is_above end (begin_in (slice_get spans (suc u)))) a in
              cc
          | inr a ↦
              let x = above_by (earliest end (end_in (slice_get spans (suc v)))) (begin_in (slice_get spans (suc u))) a in
              elim (earliest_is end (end_in (slice_get spans (suc v))) x.0 x.1) [
                | inl old ↦
                    let t : is_late end (suc u) (slice_get spans (suc u)) ≡ true = or_second (asks_in (slice_get spans (suc u)))
                    (is_above end (begin_in (slice_get spans (suc u)))) (above_from end (begin_in (slice_get spans (suc u))) x.0 old x.2) in
                    cc
                | inr new ↦ elim (cases_eq u v) [
                  | inl s ↦
                      let t : is_late end (suc u) (slice_get spans (suc u)) ≡ true =
                      ap (λ z. is_late end (suc z) (slice_get spans (suc z))) s ∙ late in
                      cc
                  | inr ne ↦
                      let ne_groups : suc u ≢ suc v = λ s. ne (omega arith) in
                      uncrossed u v (back_by Same opening ops groups known are all spans spanned None early stale
                      (λ a b m f en lm. let z : false ≡ true = f in cc) q r u v (ranked.each t q eq).0 (ranked.each n r er).0
                      (in_order t n q r eq er l) gq gr ne_groups x.0 new x.2)
                ]
              ]
        ]

    lowered : (n v : ℕ) (end : Option ℕ) (r : Rank) → slice_get ranks n ≡ Some r → IsCut n end → r.group ≡ suc v →
        is_late end (suc v) (slice_get spans (suc v)) ≡ true → IsCut (n + 1) (earliest end (end_in (slice_get spans (suc v))))
    lowered n v end r e cut g late = record {
      closed = λ t m q l eq now en. elim (same_rank t n r q e eq l) [
        | inr s ↦
            let gq : q.group ≡ suc v = ap (λ (z : Rank). z.group) s ∙ g in
            earliest_right end (end_in (slice_get spans (suc v))) m (ap (λ z. end_in (slice_get spans z)) (sym gq) ∙ en)
        | inl lt ↦ elim (cases_Bool (is_late end q.group (slice_get spans q.group))) [
          | inl old ↦
              let x = cut.closed t m q lt eq old en in
              let y = earliest_left end (end_in (slice_get spans (suc v))) x.0 x.1 in
              let xm : x.0 ≤ m = x.2 in
              (y.0, y.1, omega (arith, y.2))
          | inr not_old ↦ absurd (newly t q eq lt q.group refl not_old now)
        ]
      ];
      forced = λ x ex. elim (earliest_is end (end_in (slice_get spans (suc v))) x ex) [
        | inl old ↦ cut.forced x old
        | inr new ↦ (v, late_by n v end cut late, new)
      ];
    }
      where
        newly : (t : ℕ) (q : Rank) → slice_get ranks t ≡ Some q → t < n → (gq : ℕ) → q.group ≡ gq →
            is_late end q.group (slice_get spans q.group) ≡ false →
            is_late (earliest end (end_in (slice_get spans (suc v)))) q.group (slice_get spans q.group) ≡ true → ⊥
        newly t q eq lt zero gq f now =
            let z : is_late (earliest end (end_in (slice_get spans (suc v)))) q.group (slice_get spans q.group) ≡ false =
            ap (λ z. is_late (earliest end (end_in (slice_get spans (suc v)))) z (slice_get spans z)) gq in
            cc
        newly t q eq lt (suc u) gq f now = not_newly n t v u end r q e eq lt g gq late
            (sym (ap (λ z. is_late end z (slice_get spans z)) gq) ∙ f)
            (sym (ap (λ z. is_late (earliest end (end_in (slice_get spans (suc v)))) z (slice_get spans z)) gq) ∙ now)

    -- one more rank
    pub cut_step : (n : ℕ) (end : Option ℕ) (r : Rank) → slice_get ranks n ≡ Some r → IsCut n end →
        IsCut (n + 1) (cut_after end r.group (slice_get spans r.group))
    cut_step n end r e cut = elim (cases_Bool (is_late end r.group (slice_get spans r.group))) [
      | inr f ↦
          let P : Bool → Type 0 = λ b. IsCut (n + 1) (if b then earliest end (end_in (slice_get spans r.group)) else end) in
          subst P (sym f) (kept n end r e cut f)
      | inl t ↦
          let P : Bool → Type 0 = λ b. IsCut (n + 1) (if b then earliest end (end_in (slice_get spans r.group)) else end) in
          subst P (sym t) (by r.group refl t)
    ]
      where
        by : (g : ℕ) → r.group ≡ g → is_late end r.group (slice_get spans r.group) ≡ true →
            IsCut (n + 1) (earliest end (end_in (slice_get spans r.group)))
        by zero g t = let f : is_late end r.group (slice_get spans r.group) ≡ false = ap (λ z. is_late end z (slice_get spans z)) g in cc
        by (suc v) g t =
            let P : ℕ → Type 0 = λ z. IsCut (n + 1) (earliest end (end_in (slice_get spans z))) in
            subst P (sym g) (lowered n v end r e cut g (sym (ap (λ z. is_late end z (slice_get spans z)) g) ∙ t))

    -- at the end, what has to stand behind a late group is late
    pub cut_closed : (end : Option ℕ) → IsCut (length ranks) end → (v w m : ℕ) →
        late_in (Some end) (suc v) (slice_get spans (suc v)) ≡ true →
        end_in (slice_get spans (suc v)) ≡ Some m → m < begin_in (slice_get spans (suc w)) →
        late_in (Some end) (suc w) (slice_get spans (suc w)) ≡ true
    cut_closed end cut v w m late em lm =
        let a = first_member Same opening ops groups known are spans spanned (suc v) m em in
        let i = ranked.all a.0 (suc v) a.1 (slice_get_within ops a.0 a.1 a.2.0) a.2
        (stands_with_end None (suc v) m (slice_get spans (suc v)) em) in
        let g : i.1.group ≡ suc v =
        rank_group Same opening ops groups known are all spans spanned None i.1 a.0 (suc v) a.1 (ranked.each i.0 i.1 i.2).0 i.3 a.2 in
        let x = cut.closed i.0 m i.1 (slice_get_within ranks i.0 i.1 i.2) i.2 (ap (λ z. is_late end z (slice_get spans z)) g ∙ late)
        (ap (λ z. end_in (slice_get spans z)) g ∙ em) in
        let l : x.0 ≤ m = x.2 in
        or_second (asks_in (slice_get spans (suc w))) (is_above end (begin_in (slice_get spans (suc w))))
        (above_from end (begin_in (slice_get spans (suc w))) x.0 x.1 (omega arith))
