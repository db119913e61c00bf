-- In every atomic order a late group stands behind a refused write, or has one. So the writes before the first refused write are not late,
-- but for that of its own group, and in the order that was found no fewer stand before the first refused write.
use Rattle.std.proofs.Common.{◌≡◌, ◌≢◌, ℕ, zero, suc, ◌+◌, ◌<◌, ◌≤◌, Bool, true, false, not, cond, List, ◌∷◌, length, take, refl, sym}
use Rattle.std.proofs.Common.{◌∙◌, ap, subst, arith, ◌⊎◌, inl, inr, slice_get, Option, None, Some}
use Rattle.std.specs.Prelude.{IsSome, is_some, ◌||◌, ◌&&◌}
use Rattle.std.specs.List.{count_by}
use Rattle.std.proofs.lemmas.Bool.{cases_lt, cases_order, cases_eq, cases_Bool}
use Rattle.std.proofs.lemmas.Option.{slice_get_within, same_Some, slice_get_cases}
use Rattle.history_core.specs.declared.history.Op.{Op}
use Rattle.history_core.specs.declared.history.Kind.{Kind}
use Rattle.history_core.specs.declared.history.Kind.TheVariants.{Write, Read, Refused}
use Rattle.history_core.specs.Orders.{IsAtomicOrder, is_write, is_write_at, MayStand, Precedes, times_of, writes_in}
use Rattle.history_core.proofs.Counting.{stands_once, times_take_le}
use Rattle.history_core.proofs.Listed.{some_and_from}
use Rattle.history_core.proofs.Listing.{times_cases}
use Rattle.history_search.specs.declared.rank.Rank.{Rank}
use Rattle.history_search.specs.declared.span.Moment.{Moment}
use Rattle.history_search.specs.declared.span.Span.{Span}
use Rattle.history_core.specs.Reasons.{IsOfOpening, IsRefusedUpTo, OfOneRecord}
use Rattle.history_search.specs.inner.Groups.{AreGroups, AreSpans, Member}
use Rattle.history_search.specs.inner.Limits.{IsFirstRefusal, NoneRefused}
use Rattle.history_search.specs.inner.Ranks.{AreInOrder, AreRanks, asks_in, begin_in, end_in, is_above, is_late, late_in, moment_or}
use Rattle.history_search.specs.inner.Ranks.{stands_in}
use Rattle.history_core.proofs.Atomic.{before, IsSearched, joined, Leads, led, led_before, mate, some_from, stands, turned}
use Rattle.history_core.proofs.Counts.{count_cons, counted, front_get, get_front, times_apart, times_self, times_some}
use Rattle.history_search.proofs.Cuts.{after, asks, IsLate}
use Rattle.history_search.proofs.Groups.{AllHaveGroups, alike, apart, finished_or, has, of_opening_group, write_has, write_of}
use Rattle.history_search.proofs.Ranks.{place_at, places_of, rank_at, rank_group, rank_op, write_before}
use Rattle.history_search.proofs.Spans.{asking_member, first_member, group_asks}

-- a refused write stands before entry k
pub record RefusedBefore {R : Type 0} (ops : List (Op R)) (order : List ℕ) (k : ℕ) : Type 0 where
  pub j : ℕ
  pub q : ℕ
  pub op : Op R
  pub before : j < k
  pub at : slice_get order j ≡ Some q
  pub is : slice_get ops q ≡ Some op
  pub refused : op.kind ≡ Refused

no_write : (kind : Kind) → kind ≡ Refused → is_write kind ≡ false
no_write kind e = ap is_write e

refused_or : (kind : Kind) → (kind ≡ Refused) ⊎ (kind ≡ Refused → ⊥)
refused_or Write = inr (λ e. cc)
refused_or Read = inr (λ e. cc)
refused_or Refused = inl refl

-- a refused write that stands is finished
listed_ends : (ends : Option ℕ) (kind : Kind) (n : ℕ) → kind ≡ Refused → 1 ≤ n → MayStand ends kind n → IsSome ends
listed_ends (Some e) kind n k l h = refl
listed_ends None Write n k l h = cc
listed_ends None Read n k l h = cc
listed_ends None Refused n k l h = absurd (omega arith)

-- up to an entry that is a refused write there is a first
first_refused : {R : Type 0} (ops : List (Op R)) (order : List ℕ) (n : ℕ) → RefusedBefore ops order n →
    (r : RefusedBefore ops order n) × NoneRefused ops order r.j
first_refused ops order zero r = absurd (omega (arith, r.before))
first_refused {R} ops order (suc n) r = elim (search_before ops order n) [
  | inl s ↦
      let w = first_refused ops order n s in (
        record {
          j = w.0.j;
          q = w.0.q;
          op = w.0.op;
          before = omega (arith, w.0.before);
          at = w.0.at;
          is = w.0.is;
          refused = w.0.refused;
        },
        w.1,
      )
  | inr none ↦ (r, λ i p o l e f k. none i p o (omega (arith, r.before)) e f k)
]
  where
    search_before : {Q : Type 0} (ops : List (Op Q)) (order : List ℕ) (n : ℕ) → RefusedBefore ops order n ⊎ NoneRefused ops order n
    search_before ops order zero = inr (λ i p o l e f k. omega arith)
    search_before {Q} ops order (suc n) = elim (search_before ops order n) [
      | inl s ↦ inl (record {
        j = s.j;
        q = s.q;
        op = s.op;
        before = omega (arith, s.before);
        at = s.at;
        is = s.is;
        refused = s.refused;
      })
      | inr none ↦ by (slice_get order n) refl none
    ]
      where
        at_place : (p : ℕ) → slice_get order n ≡ Some p → (o : Option (Op Q)) → slice_get ops p ≡ o → NoneRefused ops order n →
            RefusedBefore ops order (suc n) ⊎ NoneRefused ops order (suc n)
        at_place p e None f none = inr (λ i q a l g h k. elim (cases_lt i n) [
          | inl lt ↦ none i q a lt g h k
          | inr le ↦
              let s : i ≡ n = omega arith in
              let sp : q ≡ p = same_Some q p (sym g ∙ ap (slice_get order) s ∙ e) in
              let x : Some a ≡ None = sym h ∙ ap (slice_get ops) sp ∙ f in
              cc
        ])
        at_place p e (Some o) f none = elim (refused_or o.kind) [
          | inl k ↦ inl (record { j = n; q = p; op = o; before = omega arith; at = e; is = f; refused = k })
          | inr other ↦ inr (λ i q a l g h k. elim (cases_lt i n) [
            | inl lt ↦ none i q a lt g h k
            | inr le ↦
                let s : i ≡ n = omega arith in
                let sp : q ≡ p = same_Some q p (sym g ∙ ap (slice_get order) s ∙ e) in
                let so : o ≡ a = same_Some o a (sym f ∙ ap (slice_get ops) (sym sp) ∙ h) in
                other (ap (λ (z : Op Q). z.kind) so ∙ k)
          ])
        ]

        by : (p : Option ℕ) → slice_get order n ≡ p → NoneRefused ops order n →
            RefusedBefore ops order (suc n) ⊎ NoneRefused ops order (suc n)
        by None e none = inr (λ i q a l g h k. elim (cases_lt i n) [
          | inl lt ↦ none i q a lt g h k
          | inr le ↦
              let s : i ≡ n = omega arith in
              let x : Some q ≡ None = sym g ∙ ap (slice_get order) s ∙ e in
              cc
        ])
        by (Some p) e none = at_place p e (slice_get ops p) refl none

module _ {R : Type 0} (Same : R → R → Type 0) (opening : R) (ops : List (Op R))
    (groups : List (Option ℕ)) (known : IsSearched Same opening ops)
    (are : AreGroups Same opening ops groups) (all : AllHaveGroups ops groups) (spans : List Span)
    (spanned : AreSpans ops groups (length ops) spans) where
  begin_by : (g m : ℕ) (found : Option Span) → slice_get spans g ≡ found → m < begin_in found →
      (p : ℕ) × (o : Op R) × Member ops groups p o g × (o.starts ≡ begin_in found)
  begin_by g m None e h = absurd (omega arith)
  begin_by g m (Some span) e h = moment span.begins refl h
    where
      moment : (begins : Option Moment) → span.begins ≡ begins → m < moment_or begins →
          (p : ℕ) × (o : Op R) × Member ops groups p o g × (o.starts ≡ moment_or span.begins)
      moment None s k = absurd (omega arith)
      moment (Some x) s k = let y = (spanned.each g span e).beginner x s in (x.place, y.0, y.1, y.2 ∙ sym (ap moment_or s))

  -- a member that begins last, where some member begins after a moment
  begin_member : (g m : ℕ) → m < begin_in (slice_get spans g) →
      (p : ℕ) × (o : Op R) × Member ops groups p o g × (o.starts ≡ begin_in (slice_get spans g))
  begin_member g m h = begin_by g m (slice_get spans g) refl h

  refused_ends : (p g : ℕ) (o : Op R) → Member ops groups p o g → o.kind ≡ Refused → IsSome o.ends
  refused_ends p g o m k = elim (finished_or Same opening ops groups known are p g o m) [
    | inl h ↦ h
    | inr t ↦ let f = no_write o.kind k in cc
  ]

  module _ (order : List ℕ) (atomic : IsAtomicOrder Same opening ops order) where
    lead_itself : (k w : ℕ) (a : Op R) → slice_get order k ≡ Some w → slice_get ops w ≡ Some a → is_write a.kind ≡ true →
        OfOneRecord Same a a → Leads Same ops order k a k w a
    lead_itself k w a e f t one = record {
      at = e;
      is = f;
      writes = t;
      up_to = omega arith;
      none = λ m v mk km g. absurd (omega arith);
      one = one;
    }

    -- what the write at entry k leads stands, where it is of the group
    group_mate : (k w q : ℕ) (a b : Op R) → slice_get order k ≡ Some w → Member ops groups w a (suc w) → is_write a.kind ≡ true →
        Member ops groups q b (suc w) → (i : ℕ) × (slice_get order i ≡ Some q) × Leads Same ops order i b k w a
    group_mate k w q a b e ma t mb =
        let one = alike Same opening ops groups known are w w (suc w) a a ma ma in
        mate Same opening ops order known atomic k w k w q a a b e ma.0 (lead_itself k w a e ma.0 t one) mb.0
        (has Same opening ops groups known are q (suc w) b mb).0 (alike Same opening ops groups known are w q (suc w) a b ma mb)

    -- a refused write of a group stands before a later write
    asked_before : (k w j v : ℕ) (a b : Op R) → slice_get order k ≡ Some w → Member ops groups w a (suc w) → is_write a.kind ≡ true →
        asks_in (slice_get spans (suc w)) ≡ true → k < j → slice_get order j ≡ Some v → slice_get ops v ≡ Some b → is_write b.kind ≡ true →
        RefusedBefore ops order j
    asked_before k w j v a b e m t asked kj ej eb tb =
        let r = asking_member Same opening ops groups known are spans spanned (suc w) asked in
        let i = group_mate k w r.0 a r.1 e m t r.2 in
        record {
          j = i.0;
          q = r.0;
          op = r.1;
          before = led_before Same opening ops order known atomic i.0 k w j v r.1 a b i.2 kj ej eb tb;
          at = i.1;
          is = r.2.0;
          refused = r.3;
        }

    -- a late group has a refused write, or stands behind one
    late_follows : (w k : ℕ) → IsLate spans w → slice_get order k ≡ Some w →
        (asks_in (slice_get spans (suc w)) ≡ true) ⊎ RefusedBefore ops order k
    late_follows w k (asks h) e = inl h
    late_follows w k (after {v = v} {m = m} late em lm) e =
        let b = begin_member (suc w) m lm in
        let a = write_of Same opening ops groups known are b.0 w b.1 b.2 in
        let y = group_mate k w b.0 a.0 b.1 e a.1 a.2 b.2 in
        let o = first_member Same opening ops groups known are spans spanned (suc v) m em in
        let x = stands Same opening ops order known atomic o.0 o.1 o.2.0 (some_from o.1.ends m o.3) in
        let pre : Precedes o.1 b.1 = some_and_from (λ end. end < b.1.starts) o.1.ends m o.3 (let s = b.3 in omega arith) in
        let up : x.0 < y.0 = before Same opening ops order known atomic x.0 y.0 o.0 b.0 o.1 b.1 x.1 o.2.0 y.1 b.2.0 pre in
        elim (led Same opening ops order known atomic x.0 o.0 o.1 x.1 o.2.0) [
          | inr z ↦ let n : suc v ≡ 0 = of_opening_group Same opening ops groups known are o.0 (suc v) o.1 o.2 z.1 in absurd (omega arith)
          | inl z ↦
              let one = joined Same known.alike z.2 o.1 z.2 (turned Same known.alike o.1 z.2 z.3.one) z.3.one in
              let mv = write_has Same opening ops groups known are z.1 z.2 z.3.is z.3.writes one in
              let g : suc v ≡ suc z.1 = apart Same opening ops groups known are o.0 z.1 (suc v) (suc z.1) o.1 z.2 o.2 mv z.3.one in
              let s : z.1 ≡ v = omega arith in
              let ej : slice_get order z.0 ≡ Some v = z.3.at ∙ ap Some s in
              let P : ℕ → Type 0 = λ n. Member ops groups n z.2 (suc n) in
              let m_v : Member ops groups v z.2 (suc v) = subst P s mv in
              elim (cases_order z.0 k) [
                | inl q ↦
                    let t : v ≡ w = same_Some v w (sym ej ∙ ap (slice_get order) q ∙ e) in
                    elim (late_follows v z.0 late ej) [
                      | inl h ↦ inl (ap (λ n. asks_in (slice_get spans (suc n))) (sym t) ∙ h)
                      | inr r ↦ inr (let Q : ℕ → Type 0 = λ n. RefusedBefore ops order n in subst Q q r)
                    ]
                | inr (inl l) ↦ elim (late_follows v z.0 late ej) [
                  | inl h ↦ inr (asked_before z.0 v k w z.2 a.0 ej m_v z.3.writes h l e a.1.0 a.2)
                  | inr r ↦ inr (record {
                    j = r.j;
                    q = r.q;
                    op = r.op;
                    before = omega (arith, r.before);
                    at = r.at;
                    is = r.is;
                    refused = r.refused;
                  })
                ]
                | inr (inr l) ↦
                    let n = led_before Same opening ops order known atomic y.0 k w z.0 v b.1 a.0 z.2 y.2 l ej m_v.0 z.3.writes in
                    absurd (omega (arith, z.3.up_to))
              ]
        ]

    -- a write before the first refused write is not late, but for that of its group
    not_late : (i j k w : ℕ) (a o : Op R) (v : ℕ) (b : Op R) → NoneRefused ops order i → Leads Same ops order i o j v b → k < i → k ≢ j →
        slice_get order k ≡ Some w → Member ops groups w a (suc w) → is_write a.kind ≡ true → IsLate spans w → ⊥
    not_late i j k w a o v b none x ki ne e m t late =
        let kj : k < j = elim (cases_order k j) [
          | inl s ↦ absurd (ne s)
          | inr (inl l) ↦ l
          | inr (inr l) ↦
              let f : is_write_at (slice_get ops w) ≡ false = x.none k w (omega arith) (omega arith) e in
              let g : is_write_at (slice_get ops w) ≡ true = ap is_write_at m.0 ∙ t in
              cc
        ] in
        let up = x.up_to in
        elim (late_follows w k late e) [
          | inl h ↦
              let r = asked_before k w j v a b e m t h kj x.at x.is x.writes in
              none r.j r.q r.op (omega (arith, r.before)) r.at r.is r.refused
          | inr r ↦ none r.j r.q r.op (omega (arith, r.before)) r.at r.is r.refused
        ]

  -- ---- the order that was found
  module _ (early : (p w : ℕ) (o a : Op R) → Member ops groups p o (suc w) → slice_get ops w ≡ Some a → Precedes o a → ⊥)
      (stale : (p q w : ℕ) (o b : Op R) → Member ops groups p o 0 → Member ops groups q b (suc w) → Precedes b o → ⊥)
      (end : Option ℕ) (late_only : (v : ℕ) → is_late end (suc v) (slice_get spans (suc v)) ≡ true → IsLate spans v)
      (unasked : asks_in (slice_get spans 0) ≡ false)
      (ranks : List Rank) (ranked : AreRanks ops groups spans (Some end) (length ops) ranks) (in_order : AreInOrder ranks)
      (c place writes : ℕ) (first : IsFirstRefusal ops (places_of ranks) c place writes) where
    -- a rank by its place in the order
    late_true : (w : ℕ) → asks_in (slice_get spans (suc w)) ≡ true → is_late end (suc w) (slice_get spans (suc w)) ≡ true
    late_true w h = ap (λ z. z || is_above end (begin_in (slice_get spans (suc w)))) h

    -- the group of the first refused write, whose write stands before it
    pub record AskingGroup : Type 0 where
      pub rank : Rank
      pub w : ℕ
      pub at : slice_get ranks c ≡ Some rank
      pub group : rank.group ≡ suc w
      pub asked : asks_in (slice_get spans (suc w)) ≡ true
      pub answers : rank.answers ≡ true

    asking : AskingGroup
    asking =
        let r = rank_at ranks c place first.at in
        let k = (ranked.each c r.0 r.1).0 in
        let s : k.op ≡ first.op = rank_op Same opening ops groups known are all spans spanned
        (Some end) r.0 place first.op k r.2 first.is in
        let kind : k.op.kind ≡ Refused = ap (λ (z : Op R). z.kind) s ∙ first.refused in
        let asked : asks_in (slice_get spans r.0.group) ≡ true =
        group_asks Same opening ops groups known are spans spanned r.0.place r.0.group k.op k.member kind in
        by r.0 r.1 r.0.group refl asked (answering r.0.answers (sym k.answers ∙ no_write k.op.kind kind))
      where
        answering : (b : Bool) → not b ≡ false → b ≡ true
        answering true h = refl
        answering false h = cc

        by : (r : Rank) → slice_get ranks c ≡ Some r → (g : ℕ) → r.group ≡ g → asks_in (slice_get spans r.group) ≡ true → r.answers ≡ true →
            AskingGroup
        by r e zero g h a = let f : asks_in (slice_get spans r.group) ≡ false = ap (λ z. asks_in (slice_get spans z)) g ∙ unasked in cc
        by r e (suc w) g h a = record {
          rank = r;
          w = w;
          at = e;
          group = g;
          asked = ap (λ z. asks_in (slice_get spans z)) (sym g) ∙ h;
          answers = a;
        }

    -- a write that isn't late stands before the first refused write
    stands_ahead : (w : ℕ) (a : Op R) → Member ops groups w a (suc w) → is_late end (suc w) (slice_get spans (suc w)) ≡ false →
        1 ≤ times_of w (take c (places_of ranks))
    stands_ahead w a m f =
        let q = asking in
        let stood : stands_in (Some end) (suc w) (slice_get spans (suc w)) ≡ true =
        ap (λ z. is_some (end_in (slice_get spans (suc w))) || not z) f ∙ or_true (is_some (end_in (slice_get spans (suc w)))) in
        let x = ranked.all w (suc w) a (slice_get_within ops w a m.0) m stood in
        let k = (ranked.each x.0 x.1 x.2).0 in
        let kc = (ranked.each c q.rank q.at).0 in
        let g : x.1.group ≡ suc w = rank_group Same opening ops groups known are all spans spanned (Some end) x.1 w (suc w) a k x.3 m in
        let xl : x.1.late ≡ false = k.late ∙ ap (λ z. late_in (Some end) z (slice_get spans z)) g ∙ f in
        let cl : q.rank.late ≡ true = kc.late ∙ ap (λ z. late_in (Some end) z (slice_get spans z)) q.group ∙ late_true q.w q.asked in
        let l : x.0 < c = elim (cases_order x.0 c) [
          | inr (inl l) ↦ l
          | inl s ↦
              let e : x.1 ≡ q.rank = same_Some x.1 q.rank (sym x.2 ∙ ap (slice_get ranks) s ∙ q.at) in
              let z : x.1.late ≡ q.rank.late = ap (λ (r : Rank). r.late) e in
              cc
          | inr (inr l) ↦ let t = (in_order c x.0 q.rank x.1 q.at x.2 l).late cl in cc
        ] in
        times_some w x.0 (take c (places_of ranks))
        (front_get (places_of ranks) c x.0 w l (place_at ranks x.0 x.1 x.2 ∙ ap Some x.3))
      where
        or_true : (b : Bool) → (b || true) ≡ true
        or_true true = refl
        or_true false = refl

    own_write_ahead : (q : AskingGroup) → (1 ≤ times_of q.w (take c (places_of ranks))) × (is_write_at (slice_get ops q.w) ≡ true)
    own_write_ahead q =
        let k = (ranked.each c q.rank q.at).0 in
        let x = write_before Same opening ops groups known are all spans spanned
        (Some end) ranks ranked in_order c q.w q.rank q.at q.group q.answers in
        let P : ℕ → Type 0 = λ z. Member ops groups q.rank.place k.op z in
        let a = write_of Same opening ops groups known are q.rank.place q.w k.op (subst P q.group k.member) in (
          times_some q.w x.j (take c (places_of ranks)) (front_get (places_of ranks) c x.j q.w x.before x.at),
          ap is_write_at a.1.0 ∙ a.2,
        )

    module _ (order : List ℕ) (atomic : IsAtomicOrder Same opening ops order) where
      once : (p : ℕ) (a : Op R) → slice_get ops p ≡ Some a → times_of p order ≤ 1
      once p a e = stands_once a.ends a.kind (times_of p order) (atomic.listing.stands p a (omega arith) (slice_get_within ops p a e) e)

      -- a write before the first refused write of an atomic order stands before that of the order found, and is not of its group
      ahead : (i j v p : ℕ) (o b : Op R) → NoneRefused ops order i → Leads Same ops order i o j v b → is_write_at (slice_get ops p) ≡ true →
          1 ≤ times_of p (take i order) → p ≢ v → (1 ≤ times_of p (take c (places_of ranks))) × (p ≢ asking.w)
      ahead i j v p o b none x t some ne = elim (times_cases p (take i order)) [
        | inr z ↦ absurd (omega arith)
        | inl k ↦
            let f = get_front order i k.0 p k.1 in
            let kj : k.0 ≢ j = λ s. ne (same_Some p v (sym f.1 ∙ ap (slice_get order) s ∙ x.at)) in
            by (slice_get ops p) refl k.0 f.0 f.1 kj t
      ]
        where
          by : (found : Option (Op R)) → slice_get ops p ≡ found → (k : ℕ) → k < i → slice_get order k ≡ Some p → k ≢ j →
              is_write_at (slice_get ops p) ≡ true → (1 ≤ times_of p (take c (places_of ranks))) × (p ≢ asking.w)
          by None e k ki ek kj t = let f : is_write_at (slice_get ops p) ≡ false = ap is_write_at e in cc
          by (Some a) e k ki ek kj t =
              let ta : is_write a.kind ≡ true = sym (ap is_write_at e) ∙ t in
              let m : Member ops groups p a (suc p) = elim (led Same opening ops order known atomic k p a ek e) [
                | inl y ↦ write_has Same opening ops groups known are p a e ta
                    (joined Same known.alike a y.2 a y.3.one (turned Same known.alike a y.2 y.3.one))
                | inr y ↦ absurd (known.fresh p a e ta y.1)
              ] in
              let f : is_late end (suc p) (slice_get spans (suc p)) ≡ false =
              elim (cases_Bool (is_late end (suc p) (slice_get spans (suc p)))) [
                | inr f ↦ f
                | inl l ↦ absurd (not_late order atomic i j k p a o v b none x ki kj ek m ta (late_only p l))
              ] in (
                stands_ahead p a m f,
                λ s.
                    let l : is_late end (suc p) (slice_get spans (suc p)) ≡ true =
                    ap (λ z. is_late end (suc z) (slice_get spans (suc z))) s ∙ late_true asking.w asking.asked in
                    cc,
              )

      -- no more writes stand before the first refused write of an atomic order
      no_more : (i j v : ℕ) (o b : Op R) → NoneRefused ops order i → Leads Same ops order i o j v b →
          writes_in (λ _. true) ops (take i order) ≤ writes_in (λ _. true) ops (take c (places_of ranks))
      no_more i j v o b none x =
          let q = asking in
          let own_ahead = own_write_ahead q in
          let test : ℕ → Bool = λ p. true && is_write_at (slice_get ops p) in
          let tv : is_write_at (slice_get ops v) ≡ true = ap is_write_at x.is ∙ x.writes in
          let left : count_by test (q.w ∷ take i order) ≡ 1 + count_by test (take i order) =
          count_cons test q.w (take i order) ∙ ap (λ z. cond z 1 0 + count_by test (take i order)) own_ahead.1 in
          let right : count_by test (v ∷ take c (places_of ranks)) ≡ 1 + count_by test (take c (places_of ranks)) =
          count_cons test v (take c (places_of ranks)) ∙ ap (λ z. cond z 1 0 + count_by test (take c (places_of ranks))) tv in
          let all_fewer = counted test (q.w ∷ take i order) (v ∷ take c (places_of ranks)) (λ p t. fewer p t own_ahead.0) in
          omega arith
        where
          some_op : (p : ℕ) → is_write_at (slice_get ops p) ≡ true → times_of p order ≤ 1
          some_op p t = elim (slice_get_cases ops p).1 [
            | inl y ↦ once p y.0 y.2
            | inr y ↦ let f : is_write_at (slice_get ops p) ≡ false = ap is_write_at y.1 in cc
          ]

          fewer : (p : ℕ) → is_write_at (slice_get ops p) ≡ true → 1 ≤ times_of asking.w (take c (places_of ranks)) →
              times_of p (asking.w ∷ take i order) ≤ times_of p (v ∷ take c (places_of ranks))
          fewer p t own_ahead =
              let most : times_of p (take i order) ≤ 1 = let l = times_take_le order i p in omega (arith, some_op p t) in
              elim (cases_eq asking.w p) [
                | inl s ↦
                    let here : 1 ≤ times_of p (take c (places_of ranks)) =
                    subst (λ z. 1 ≤ times_of z (take c (places_of ranks))) s own_ahead in
                    let lhs : times_of p (asking.w ∷ take i order) ≡ 1 + times_of p (take i order) =
                    ap (λ z. times_of p (z ∷ take i order)) s ∙ times_self p (take i order) in
                    elim (cases_eq v p) [
                      | inl e ↦
                          let rhs : times_of p (v ∷ take c (places_of ranks)) ≡ 1 + times_of p (take c (places_of ranks)) =
                          ap (λ z. times_of p (z ∷ take c (places_of ranks))) e ∙ times_self p (take c (places_of ranks)) in
                          omega arith
                      | inr ne ↦
                          let rhs = times_apart p v (take c (places_of ranks)) ne in
                          let none_here : times_of p (take i order) ≡ 0 = elim (cases_lt 0 (times_of p (take i order))) [
                            | inl l ↦ absurd ((ahead i j v p o b none x t l (λ e. ne (sym e))).1 (sym s))
                            | inr l ↦ omega arith
                          ] in
                          omega arith
                    ]
                | inr ns ↦
                    let lhs = times_apart p asking.w (take i order) ns in
                    elim (cases_eq v p) [
                      | inl e ↦
                          let rhs : times_of p (v ∷ take c (places_of ranks)) ≡ 1 + times_of p (take c (places_of ranks)) =
                          ap (λ z. times_of p (z ∷ take c (places_of ranks))) e ∙ times_self p (take c (places_of ranks)) in
                          omega arith
                      | inr ne ↦
                          let rhs = times_apart p v (take c (places_of ranks)) ne in
                          elim (cases_lt 0 (times_of p (take i order))) [
                            | inl l ↦ let y = (ahead i j v p o b none x t l (λ e. ne (sym e))).0 in omega arith
                            | inr l ↦ omega arith
                          ]
                    ]
              ]

      -- so in each atomic order a refused write up to this one has too few
      pub refused_up_to : (limit i : ℕ) → slice_get order i ≡ Some place → writes < limit → IsRefusedUpTo limit ops order i
      refused_up_to limit i e few =
          let found = first_refused ops order (i + 1) (record {
            j = i;
            q = place;
            op = first.op;
            before = omega arith;
            at = e;
            is = first.is;
            refused = first.refused;
          }) in
          let r = found.0 in
          elim (led Same opening ops order known atomic r.j r.q r.op r.at r.is) [
            | inl x ↦
                let le = no_more r.j x.0 x.1 r.op x.2 found.1 x.3 in
                record {
                  early = r.j;
                  place = r.q;
                  op = r.op;
                  up_to = omega (arith, r.before);
                  listed = r.at;
                  at = r.is;
                  refused = r.refused;
                  few = omega (arith, first.counted);
                }
            | inr y ↦ absurd (asked_opening r.j r.q r.op r.at r.is r.refused y.1)
          ]
        where
          asked_opening : (j q : ℕ) (a : Op R) → slice_get order j ≡ Some q → slice_get ops q ≡ Some a → a.kind ≡ Refused →
              IsOfOpening Same opening a → ⊥
          asked_opening j q a e f k h =
              let ends = listed_ends a.ends a.kind (times_of q order) k (times_some q j order e)
              (atomic.listing.stands q a (omega arith) (slice_get_within ops q a f) f) in
              let g = all q a f ends in
              let z : g.0 ≡ 0 = of_opening_group Same opening ops groups known are q g.0 a (f, g.1) h in
              let t : asks_in (slice_get spans g.0) ≡ true = group_asks Same opening ops groups known are spans spanned q g.0 a
              (f, g.1) k in
              let n : asks_in (slice_get spans g.0) ≡ false = ap (λ z. asks_in (slice_get spans z)) z ∙ unasked in
              cc
