-- However a search came to its answer, the answer is right: each reason that was found excludes every atomic order, and none of an earlier
-- rule is left; and the order that was found breaks no rule.
use Rattle.std.proofs.Common.{◌≡◌, ◌≢◌, ℕ, zero, suc, ◌+◌, ◌<◌, ◌≤◌, Bool, true, false, List, [], ◌∷◌, length, map, take, drop, refl, sym}
use Rattle.std.proofs.Common.{◌∙◌, ap, subst, arith, ◌⊎◌, inl, inr, slice_get, Option, None, Some}
use Rattle.std.specs.Prelude.{IfNone, IsSome, is_some, nat_lt, if◌then◌else◌, ◌&&◌}
use Rattle.std.proofs.lemmas.Bool.{cases_lt}
use Rattle.std.proofs.lemmas.Bool.Decides.{nat_tests}
use Rattle.std.proofs.lemmas.Option.{slice_get_within, same_Some, slice_get_cases, none-some}
use Rattle.history_core.specs.declared.history.Op.{Op}
use Rattle.history_core.specs.declared.history.Term.{Term}
use Rattle.history_core.specs.declared.history.Kind.TheVariants.{Refused}
use Rattle.history_core.specs.declared.history.Verdict.TheVariants.{Lawful}
use Rattle.history_core.specs.Orders.{in_term, IsAtomicOrder, IsVerdict, is_write, is_write_at, KeepsLimit, Precedes, RefusesLawfully}
use Rattle.history_core.specs.Orders.{writes_in}
use Rattle.history_core.proofs.Listed.{some_and_from, some_and_of}
use Rattle.history_core.proofs.Listing.{times_cases}
use Rattle.history_search.specs.declared.rank.Rank.{Rank}
use Rattle.history_core.specs.declared.reason.Reason.{Reason}
use Rattle.history_core.specs.declared.reason.Reason.TheVariants.{Unwritten, Early, Stale, Crossed, Limit}
use Rattle.history_core.specs.declared.reason.Search.{Search}
use Rattle.history_core.specs.declared.reason.Search.TheVariants.{Order, Unlawful}
use Rattle.history_search.specs.declared.span.Moment.{Moment}
use Rattle.history_search.specs.declared.span.Span.{Span}
use Rattle.history_core.specs.Reasons.{IsLimited, IsOfOpening, IsReason, OfOneRecord, rule_of}
use Rattle.history_core.specs.declared.reason.SearchError.{SearchError}
use Rattle.history_core.specs.declared.reason.SearchError.TheVariants.{NoMemory, Terms, Backwards, WritesOpening, WritesTwice}
use Rattle.history_core.specs.Searches.{AreForwards, IsAnswered, IsFault, IsGroupFault, IsOneTerm, IsSearch, IsUnlawful, WritesOnce}
use Rattle.history_search.specs.inner.Found.{AreSorted, AreStraight, begin_place, crossing_of, cut_by, end_place, HasEnough, HasTooFew}
use Rattle.history_search.specs.inner.Found.{IsCrossing, IsEarlyIn, IsFound, IsGroupLimit, IsGroupOrder, IsGroupSearch, IsLateOrder}
use Rattle.history_search.specs.inner.Found.{IsPrepared, IsStaleIn, NoneEarlyIn, NoneStaleIn, place_or, refused_in}
use Rattle.history_search.specs.inner.Groups.{AreGroups, AreSpans, ends_before, HasGroup, HaveGroups, Member}
use Rattle.history_search.specs.inner.Limits.{IsFirstRefusal}
use Rattle.history_search.specs.inner.Ranks.{asks_in, begin_in, cut_after, end_in, IsTurned, moment_at, moment_or}
use Rattle.history_core.proofs.Atomic.{IsSearched, led, no_crossing, no_early, no_stale, no_unwritten, opened, stands, turned}
use Rattle.history_core.proofs.Counts.{counted, count_up, get_front, of_one_term}
use Rattle.history_search.proofs.Cuts.{cut_closed, cut_start, cut_step, IsCut, late_by, turned_of, uncrossed}
use Rattle.history_search.proofs.Groups.{AllHaveGroups, finished_or, has, is_crossed, is_early, is_stale, is_unwritten, none_early}
use Rattle.history_search.proofs.Groups.{none_stale}
use Rattle.history_search.proofs.Groups.{none_unwritten, not_itself}
use Rattle.history_search.proofs.Late.{refused_up_to}
use Rattle.history_search.proofs.Ranks.{IsBack, places_of, rank_at, ranks_keep, ranks_list, ranks_read, turned_back}
use Rattle.history_search.proofs.Spans.{span_of}

ended_before : (ends : Option Moment) (moment place : ℕ) → ends_before ends moment ≡ Some place →
    (m : Moment) × (ends ≡ Some m) × (m.at < moment) × (m.place ≡ place)
ended_before None moment place e = cc
ended_before (Some m) moment place e = by (nat_lt m.at moment) refl e
  where
    by : (b : Bool) → nat_lt m.at moment ≡ b → (if b then Some m.place else None) ≡ Some place →
        (k : Moment) × (Some m ≡ Some k) × (k.at < moment) × (k.place ≡ place)
    by true t e = (m, refl, grind (arith, nat_tests), same_Some m.place place e)
    by false t e = cc

not_before : (ends : Option Moment) (moment : ℕ) (m : Moment) → ends ≡ Some m → ends_before ends moment ≡ None → moment ≤ m.at
not_before None moment m s e = cc
not_before (Some k) moment m s e = by (nat_lt k.at moment) refl e
  where
    by : (b : Bool) → nat_lt k.at moment ≡ b → (if b then Some k.place else None) ≡ None → moment ≤ m.at
    by true t e = cc
    by false t e =
        let q : k.at ≡ m.at = ap (λ (z : Moment). z.at) (same_Some k m s) in
        let l : moment ≤ k.at = grind (arith, nat_tests) in
        omega arith

rule_one : (r : Reason) → 1 ≤ rule_of r
rule_one (Unwritten a) = omega arith
rule_one (Early a b) = omega arith
rule_one (Stale a b) = omega arith
rule_one (Crossed a b c d) = omega arith
rule_one (Limit a) = omega arith

-- ---- what a call has promised of none
pub if_none : {X : Type 0} (o : Option X) (P : Type 0) → IfNone o P → ((x : X) → o ≡ Some x → ⊥) → P
if_none None P h never = h
if_none (Some x) P h never = absurd (never x refl)

pub none_of : {X : Type 0} (o : Option X) → ((x : X) → o ≡ Some x → ⊥) → o ≡ None
none_of None never = refl
none_of (Some x) never = absurd (never x refl)

-- ---- the parts of an answer
module _ {R : Type 0} (ops : List (Op R)) (groups : List (Option ℕ)) where
  pub crossing_from : (spans : List Span) (limit : ℕ) (ranks seen : List Rank) (reason : Reason) (x y : Rank) → seen ≡ ranks →
      AreSorted ops groups spans None ranks → (i : ℕ) (j : ℕ) → i < j → slice_get seen i ≡ Some x → slice_get seen j ≡ Some y →
      IsTurned ops x y → reason ≡ crossing_of (slice_get spans x.group) (slice_get spans y.group) →
      IsGroupSearch ops groups spans limit (Unlawful reason)
  crossing_from spans limit ranks seen reason x y s sorted i j ij ei ej turned e =
      let P : Reason → Type 0 = λ z. IsGroupSearch ops groups spans limit (Unlawful z) in
      subst P (sym e) (record {
        ranks = ranks;
        sorted = sorted;
        i = i;
        j = j;
        x = x;
        y = y;
        at_x = ap (λ z. slice_get z i) (sym s) ∙ ei;
        at_y = ap (λ z. slice_get z j) (sym s) ∙ ej;
        turned = turned;
        before = ij;
        found = refl;
      })

  pub found_from : (spans : List Span) (limit : ℕ) → IsPrepared ops groups spans → (search : Search) →
      IsGroupSearch ops groups spans limit search → IsFound ops groups limit search
  found_from spans limit h (Order order) f = (spans, h, f)
  found_from spans limit h (Unlawful (Unwritten read)) f = absurd f
  found_from spans limit h (Unlawful (Early read write)) f = absurd f
  found_from spans limit h (Unlawful (Stale before read)) f = absurd f
  found_from spans limit h (Unlawful (Crossed a b c d)) f = (spans, h, f)
  found_from spans limit h (Unlawful (Limit place)) f = (spans, h, f)

  pub prepared_found : {A B C : Type 0} (spans one two three : List Span) (limit : ℕ) (a : Option A) (b : Option B) (c : Option C) →
      one ≡ spans → two ≡ spans → three ≡ spans → AreSpans ops groups (length ops) spans → IfNone a (HaveGroups ops groups (length ops)) →
      ((x : A) → a ≡ Some x → ⊥) → IfNone b (NoneEarlyIn ops one (length ops)) → ((x : B) → b ≡ Some x → ⊥) →
      IfNone c (NoneStaleIn two) → ((x : C) → c ≡ Some x → ⊥) → (search : Search) → IsGroupSearch ops groups three limit search →
      IsFound ops groups limit search
  prepared_found spans one two three limit a b c e1 e2 e3 spanned all not_a early not_b stale not_c search h =
      let P : List Span → Type 0 = λ z. NoneEarlyIn ops z (length ops) in
      let Q : List Span → Type 0 = λ z. NoneStaleIn z in
      let S : List Span → Type 0 = λ z. IsGroupSearch ops groups z limit search in
      found_from spans limit (record {
        all = if_none a (HaveGroups ops groups (length ops)) all not_a;
        spanned = spanned;
        early = subst P e1 (if_none b (NoneEarlyIn ops one (length ops)) early not_b);
        stale = subst Q e2 (if_none c (NoneStaleIn two) stale not_c);
      }) search (subst S e3 h)

pub group_fault : {R : Type 0} (Same : R → R → Type 0) (opening : R) (terms : List Term) (ops : List (Op R)) (error : SearchError) →
    ((n : ℕ) → AreForwards ops n) → IsGroupFault Same opening ops error → IsFault Same opening terms ops error
group_fault Same opening terms ops NoMemory forwards h = tt
group_fault Same opening terms ops Terms forwards h = absurd h
group_fault Same opening terms ops (Backwards place) forwards h = absurd h
group_fault Same opening terms ops (WritesOpening place) forwards h = (h.0, h.1, forwards)
group_fault Same opening terms ops (WritesTwice first second) forwards h = (h.0, h.1, forwards)

pub groups_within : {R : Type 0} (Same : R → R → Type 0) (opening : R) (ops : List (Op R)) (groups : List (Option ℕ)) →
    AreGroups Same opening ops groups → (p g : ℕ) → slice_get groups p ≡ Some (Some g) → g ≤ length ops
groups_within {R} Same opening ops groups are p g e =
    let l : p < length ops = let k = slice_get_within groups p (Some g) e in omega (arith, are.long) in
    elim (slice_get_cases ops p).1 [
      | inl x ↦ by g x.0 (are.each p x.0 (Some g) x.2 e).1
      | inr x ↦ absurd (omega (arith, x.0))
    ]
  where
    by : (g : ℕ) (o : Op R) → HasGroup Same opening ops g o → g ≤ length ops
    by zero o h = omega arith
    by (suc w) o h = let k = slice_get_within ops w h.0 h.1 in omega arith

module _ {R : Type 0} (Same : R → R → Type 0) (opening : R) (limit : ℕ) (terms : List Term)
    (one : IsOneTerm limit terms) (ops : List (Op R))
    (groups : List (Option ℕ)) (known : IsSearched Same opening ops) (are : AreGroups Same opening ops groups) where
  -- reasons of the first four rules exclude every atomic order
  pub excluded : (r : Reason) → rule_of r ≤ 4 → IsReason Same opening limit ops r →
      (order : List ℕ) → IsAtomicOrder Same opening ops order → ⊥
  excluded (Unwritten a) l h order atomic = no_unwritten Same opening ops order known atomic a h
  excluded (Early a b) l h order atomic = no_early Same opening ops order known atomic a b h
  excluded (Stale a b) l h order atomic = no_stale Same opening ops order known atomic a b h
  excluded (Crossed a b c d) l h order atomic = no_crossing Same opening ops order known atomic a b c d h
  excluded (Limit a) l h order atomic = absurd (omega arith)

  unlawful : (r : Reason) → rule_of r ≤ 4 → IsReason Same opening limit ops r →
      ((other : Reason) → IsReason Same opening limit ops other → rule_of r ≤ rule_of other) →
      IsUnlawful Same opening limit terms ops r
  unlawful r l h first = record { none = λ order v. excluded r l h order v.0; is = h; first = first }

  first_two : AllHaveGroups ops groups → (other : Reason) → IsReason Same opening limit ops other → 2 ≤ rule_of other
  first_two all (Unwritten a) h = absurd (none_unwritten Same opening ops groups known are all a h)
  first_two all (Early a b) h = omega arith
  first_two all (Stale a b) h = omega arith
  first_two all (Crossed a b c d) h = omega arith
  first_two all (Limit a) h = omega arith

  abbrev NoEarly : Type 0
  NoEarly = (p w : ℕ) (o a : Op R) → Member ops groups p o (suc w) → slice_get ops w ≡ Some a → Precedes o a → ⊥

  abbrev NoStale : Type 0
  NoStale = (p q w : ℕ) (o b : Op R) → Member ops groups p o 0 → Member ops groups q b (suc w) → Precedes b o → ⊥

  first_three : AllHaveGroups ops groups → NoEarly → (other : Reason) → IsReason Same opening limit ops other → 3 ≤ rule_of other
  first_three all early (Unwritten a) h = absurd (none_unwritten Same opening ops groups known are all a h)
  first_three all early (Early a b) h = absurd (none_early Same opening ops groups known are all early a b h)
  first_three all early (Stale a b) h = omega arith
  first_three all early (Crossed a b c d) h = omega arith
  first_three all early (Limit a) h = omega arith

  first_four : AllHaveGroups ops groups → NoEarly → NoStale → (other : Reason) → IsReason Same opening limit ops other → 4 ≤ rule_of other
  first_four all early stale (Unwritten a) h = absurd (none_unwritten Same opening ops groups known are all a h)
  first_four all early stale (Early a b) h = absurd (none_early Same opening ops groups known are all early a b h)
  first_four all early stale (Stale a b) h = absurd (none_stale Same opening ops groups known are all stale a b h)
  first_four all early stale (Crossed a b c d) h = omega arith
  first_four all early stale (Limit a) h = omega arith

  all_of : HaveGroups ops groups (length ops) → AllHaveGroups ops groups
  all_of h p o e f = h p o (slice_get_within ops p o e) e f

  module _ (spans : List Span) (spanned : AreSpans ops groups (length ops) spans) where
    early_of : NoneEarlyIn ops spans (length ops) → NoEarly
    early_of none p w o a m e pre =
        let x = some_and_of (λ end. end < a.starts) o.ends pre in
        let s = span_of Same opening ops groups known are spans spanned p (suc w) o m in
        let k = s.2.least p x.0 o (slice_get_within ops p o m.0) m x.1 in
        let l = not_before s.0.ends a.starts k.0 k.1 (none w a s.0 (slice_get_within ops w a e) e s.1) in
        let le : k.0.at ≤ x.0 = k.2 in
        let lt : x.0 < a.starts = x.2 in
        omega arith

    stale_of : NoneStaleIn spans → NoStale
    stale_of none p q w o b m n pre =
        let x = some_and_of (λ end. end < o.starts) b.ends pre in
        let s = span_of Same opening ops groups known are spans spanned p 0 o m in
        let t = span_of Same opening ops groups known are spans spanned q (suc w) b n in
        let i = s.2.most p o (slice_get_within ops p o m.0) m in
        let k = t.2.least q x.0 b (slice_get_within ops q b n.0) n x.1 in
        let l = not_before t.0.ends i.0.at k.0 k.1 (none s.0 i.0 s.1 i.1 w t.0 t.1) in
        let le : k.0.at ≤ x.0 = k.2 in
        let lt : x.0 < o.starts = x.2 in
        let up : o.starts ≤ i.0.at = i.2 in
        omega arith

    found_early : (read w : ℕ) → IsEarlyIn ops spans read w → IsReason Same opening limit ops (Early read w)
    found_early read w f =
        let x = ended_before f.1.ends f.0.starts read f.4 in
        let y = (spanned.each (suc w) f.1 f.3).ender x.0 x.1 in
        let P : ℕ → Type 0 = λ z. Member ops groups z y.0 (suc w) in
        let pre : Precedes y.0 f.0 = some_and_from (λ end. end < f.0.starts) y.0.ends x.0.at y.2 x.2 in
        is_early Same opening ops groups known are read w y.0 f.0 (subst P x.3 y.1) f.2 pre

    found_stale : (before read : ℕ) → IsStaleIn spans before read → IsReason Same opening limit ops (Stale before read)
    found_stale before read f =
        let e = f.4 in
        let x = ended_before e.1.ends f.1.at before e.3 in
        let y = (spanned.each (suc e.0) e.1 e.2).ender x.0 x.1 in
        let z = (spanned.each 0 f.0 f.2).beginner f.1 f.3 in
        let s : z.0.starts ≡ f.1.at = z.2 in
        let pre : Precedes y.0 z.0 =
        some_and_from (λ end. end < z.0.starts) y.0.ends x.0.at y.2 (let l : x.0.at < f.1.at = x.2 in omega arith) in
        let P : ℕ → Type 0 = λ n. Member ops groups n z.0 0 in
        let Q : ℕ → Type 0 = λ n. Member ops groups n y.0 (suc e.0) in
        is_stale Same opening ops groups known are read before e.0 z.0 y.0 (subst P f.5 z.1) (subst Q x.3 y.1) pre

    end_place_by : (g n : ℕ) (found : Option Span) → slice_get spans g ≡ found → end_in found ≡ Some n →
        (o : Op R) × Member ops groups (end_place found) o g × (o.ends ≡ Some n)
    end_place_by g n None e h = cc
    end_place_by g n (Some span) e h = moment span.ends refl h
      where
        moment : (ends : Option Moment) → span.ends ≡ ends → moment_at ends ≡ Some n →
            (o : Op R) × Member ops groups (place_or span.ends) o g × (o.ends ≡ Some n)
        moment None s k = cc
        moment (Some x) s k =
            let y = (spanned.each g span e).ender x s in
            let P : ℕ → Type 0 = λ z. Member ops groups z y.0 g in
            (y.0, subst P (sym (ap place_or s)) y.1, y.2 ∙ k)

    begin_place_by : (g n : ℕ) (found : Option Span) → slice_get spans g ≡ found → n < begin_in found →
        (o : Op R) × Member ops groups (begin_place found) o g × (o.starts ≡ begin_in found)
    begin_place_by g n None e h = absurd (omega arith)
    begin_place_by g n (Some span) e h = moment span.begins refl h
      where
        moment : (begins : Option Moment) → span.begins ≡ begins → n < moment_or begins →
            (o : Op R) × Member ops groups (place_or span.begins) o g × (o.starts ≡ moment_or span.begins)
        moment None s k = absurd (omega arith)
        moment (Some x) s k =
            let y = (spanned.each g span e).beginner x s in
            let P : ℕ → Type 0 = λ z. Member ops groups z y.0 g in
            (y.0, subst P (sym (ap place_or s)) y.1, y.2 ∙ sym (ap moment_or s))

    -- groups that cross are a reason
    crossed_by : (v w : ℕ) → IsBack spans v w → IsReason Same opening limit ops
        (crossing_of (slice_get spans (suc v)) (slice_get spans (suc w)))
    crossed_by v w b =
        let oa = end_place_by (suc v) b.n (slice_get spans (suc v)) refl b.earlier_end in
        let ob = begin_place_by (suc w) b.n (slice_get spans (suc w)) refl b.earlier_first in
        let oc = end_place_by (suc w) b.m (slice_get spans (suc w)) refl b.later_end in
        let od = begin_place_by (suc v) b.m (slice_get spans (suc v)) refl b.later_first in
        let l = b.earlier_first in
        let k = b.later_first in
        let sb = ob.2 in
        let sd = od.2 in
        is_crossed Same opening ops groups known are (end_place (slice_get spans (suc v))) (begin_place (slice_get spans (suc w)))
        (end_place (slice_get spans (suc w))) (begin_place (slice_get spans (suc v))) v w oa.0 ob.0 oc.0 od.0 b.differ oa.1 ob.1 oc.1 od.1
        (some_and_from (λ end. end < ob.0.starts) oa.0.ends b.n oa.2 (omega arith))
        (some_and_from (λ end. end < od.0.starts) oc.0.ends b.m oc.2 (omega arith))

    module _ (all : AllHaveGroups ops groups) (early : NoEarly) (stale : NoStale) where
      found_crossing : (r : Reason) → IsCrossing ops groups spans r → IsReason Same opening limit ops r
      found_crossing r f =
          let h = (f.sorted.are.each f.i f.x f.at_x).0 in
          let k = (f.sorted.are.each f.j f.y f.at_y).0 in
          let pre = turned_of Same opening ops groups known are all spans spanned early stale None f.x f.y h k f.turned in
          let ne : f.x.place ≢ f.y.place = λ s.
          let q : h.op ≡ k.op = same_Some h.op k.op (sym h.member.0 ∙ ap (slice_get ops) s ∙ k.member.0) in
          let P : Op R → Type 0 = λ z. Precedes z h.op in
          not_itself Same opening ops groups known are f.x.place h.op h.member.0 (subst P (sym q) pre) in
          let b = turned_back Same opening ops groups known are all spans spanned None early stale
          (λ v w m t e l. let z : false ≡ true = t in cc) f.x f.y h k (f.sorted.in_order f.i f.j f.x f.y f.at_x f.at_y f.before) ne pre in
          let P : Reason → Type 0 = λ z. IsReason Same opening limit ops z in
          let Q : ℕ → ℕ → Type 0 = λ g e. IsReason Same opening limit ops (crossing_of (slice_get spans g) (slice_get spans e)) in
          subst P (sym f.found) (subst (λ g. Q g f.y.group) (sym b.2) (subst (λ e. Q (suc b.0) e) (sym b.3) (crossed_by b.0 b.1 b.4)))

      -- ---- orders
      straight_atomic : (ranks : List Rank) → AreStraight ops groups spans ranks → IsAtomicOrder Same opening ops (places_of ranks)
      straight_atomic ranks s = record {
        listing = ranks_list Same opening ops groups known are all spans spanned None ranks s.sorted.are s.sorted.in_order;
        precedence = ranks_keep Same opening ops groups known are all spans spanned None early stale
            (λ v w m t e l. let z : false ≡ true = t in cc)
            (uncrossed Same opening ops groups known are all spans spanned early stale ranks s.sorted.are s.sorted.in_order s.none) ranks
            s.sorted.are s.sorted.in_order;
        reading = ranks_read Same opening ops groups known are all spans spanned None ranks s.sorted.are s.sorted.in_order;
      }

      -- the end by which groups are late, over all ranks
      cut_over : (ranks : List Rank) (s : AreStraight ops groups spans ranks) (done left : List Rank) (end : Option ℕ) (n : ℕ) →
          n + length left ≡ length ranks → ((i : ℕ) → slice_get ranks (n + i) ≡ slice_get left i) →
          IsCut Same opening ops groups known are all spans spanned early stale ranks s.sorted.are s.sorted.in_order s.none n end →
          IsCut Same opening ops groups known are all spans spanned early stale ranks s.sorted.are s.sorted.in_order s.none (length ranks)
          (cut_by spans end left)
      cut_over ranks s done [] end n l at cut =
          let P : ℕ → Type 0 = λ z. IsCut Same opening ops groups known are all spans spanned early stale ranks s.sorted.are
          s.sorted.in_order s.none z end in
          subst P (omega arith) cut
      cut_over ranks s done (r ∷ left) end n l at cut =
          cut_over ranks s done left (cut_after end r.group (slice_get spans r.group)) (n + 1) (omega arith)
          (λ i. ap (slice_get ranks) (omega arith) ∙ at (suc i))
          (cut_step Same opening ops groups known are all spans spanned early stale ranks s.sorted.are s.sorted.in_order s.none n end r
          (ap (slice_get ranks) (omega arith) ∙ at 0) cut)

      whole_cut : (ranks : List Rank) (s : AreStraight ops groups spans ranks) →
          IsCut Same opening ops groups known are all spans spanned early stale ranks s.sorted.are s.sorted.in_order s.none (length ranks)
          (cut_by spans None ranks)
      whole_cut ranks s = cut_over ranks s [] ranks None 0 (omega arith) (λ i. ap (slice_get ranks) (omega arith))
          (cut_start Same opening ops groups known are all spans spanned early stale ranks s.sorted.are s.sorted.in_order s.none)

      late_ranks_atomic : (straight ranks : List Rank) (s : AreStraight ops groups spans straight) →
          AreSorted ops groups spans (Some (cut_by spans None straight)) ranks → IsAtomicOrder Same opening ops (places_of ranks)
      late_ranks_atomic straight ranks s h = record {
        listing = ranks_list Same opening ops groups known are all spans spanned (Some (cut_by spans None straight)) ranks h.are h.in_order;
        precedence = ranks_keep Same opening ops groups known are all spans spanned (Some (cut_by spans None straight)) early stale
            (cut_closed Same opening ops groups known are all spans spanned early stale straight s.sorted.are s.sorted.in_order s.none
            (cut_by spans None straight) (whole_cut straight s))
            (uncrossed Same opening ops groups known are all spans spanned early stale straight s.sorted.are s.sorted.in_order s.none) ranks
            h.are h.in_order;
        reading = ranks_read Same opening ops groups known are all spans spanned (Some (cut_by spans None straight)) ranks h.are h.in_order;
      }

      order_atomic : (order : List ℕ) →
          ((ranks : List Rank) × AreStraight ops groups spans ranks × (order ≡ map (λ r. r.place) ranks))
          ⊎ IsLateOrder ops groups spans order →
          IsAtomicOrder Same opening ops order
      order_atomic order h = let P : List ℕ → Type 0 = λ z. IsAtomicOrder Same opening ops z in elim h [
        | inl x ↦ subst P (sym x.2) (straight_atomic x.0 x.1)
        | inr x ↦ subst P (sym x.is) (late_ranks_atomic x.straight x.ranks x.are_straight x.sorted)
      ]

      -- where the first refused write has enough writes before it, all have
      enough : (order : List ℕ) → HasEnough ops order limit → (i p : ℕ) (o : Op R) → slice_get order i ≡ Some p → slice_get ops p ≡ Some o →
          o.kind ≡ Refused → limit ≤ writes_in (λ _. true) ops (take i order)
      enough order h i p o e f k = elim h [
        | inl none ↦ absurd (none i p o (slice_get_within order i p e) e f k)
        | inr x ↦ elim (cases_lt i x.0) [
          | inl l ↦ absurd (x.3.none i p o l e f k)
          | inr le ↦
              let up = count_up (λ q. true && is_write_at (slice_get ops q)) order x.0 i le in
              omega (arith, x.3.counted, x.4)
        ]
      ]

      lawfully : (order : List ℕ) → HasEnough ops order limit → RefusesLawfully terms ops order
      lawfully order h =
          let t : Term = record { first = 0; limit = limit } in
          let P : List Term → Type 0 = λ ts. RefusesLawfully ts ops order in
          subst P (sym one) (λ k u e. by k u e)
        where
          by : (k : ℕ) (u : Term) → slice_get ((record { first = 0; limit = limit }) ∷ []) k ≡ Some u →
              KeepsLimit (in_term u (drop (k + 1) ((record { first = 0; limit = limit }) ∷ []))) u.limit ops order
          by zero u e =
              let t : Term = record { first = 0; limit = limit } in
              let q : t ≡ u = same_Some t u e in
              let Q : Term → Type 0 = λ z. KeepsLimit (in_term z []) z.limit ops order in
              let base : Q t = λ i p o a b c _.
              let s = of_one_term limit ops (take i order) in
              let l = enough order h i p o a b c in
              omega arith in
              let d : drop (0 + 1) (t ∷ []) ≡ [] = refl in
              subst Q q base
          by (suc k) u e = absurd (none-some u e)

      found_order : (order : List ℕ) → IsGroupOrder ops groups spans limit order → IsVerdict Same opening terms ops order Lawful
      found_order order h = (order_atomic order h.0, lawfully order h.1)

      -- ---- the limit
      -- with an atomic order at hand no reason of another rule is left
      only_limit : (order : List ℕ) → IsAtomicOrder Same opening ops order → (other : Reason) → IsReason Same opening limit ops other →
          5 ≤ rule_of other
      only_limit order atomic (Unwritten a) h = absurd (no_unwritten Same opening ops order known atomic a h)
      only_limit order atomic (Early a b) h = absurd (no_early Same opening ops order known atomic a b h)
      only_limit order atomic (Stale a b) h = absurd (no_stale Same opening ops order known atomic a b h)
      only_limit order atomic (Crossed a b c d) h = absurd (no_crossing Same opening ops order known atomic a b c d h)
      only_limit order atomic (Limit a) h = omega arith

      -- a limited write excludes every lawful order
      no_lawful : (place : ℕ) → IsLimited Same opening limit ops place → (order : List ℕ) →
          IsVerdict Same opening terms ops order Lawful → ⊥
      no_lawful place r order v =
          let i = stands Same opening ops order known v.0 place r.op r.at r.finished in
          let x = r.few order v.0 i.0 i.1 in
          let t : Term = record { first = 0; limit = limit } in
          let P : List Term → Type 0 = λ ts. RefusesLawfully ts ops order in
          let law = subst P one v.1 in
          let l : limit ≤ writes_in (in_term t []) ops (take x.early order) =
          law 0 t refl x.early x.place x.op x.listed x.at x.refused (all_in x.place) in
          let s = of_one_term limit ops (take x.early order) in
          omega (arith, x.few)
        where
          all_in : (p : ℕ) → in_term (record { first = 0; limit = limit }) [] p ≡ true
          all_in p = grind (arith, nat_tests)

      limited : (place : ℕ) (order : List ℕ) → IsAtomicOrder Same opening ops order → IsLimited Same opening limit ops place →
          IsUnlawful Same opening limit terms ops (Limit place)
      limited place order atomic r = record { none = no_lawful place r; is = r; first = only_limit order atomic }

      asks_none : (found : Option Span) → refused_in found ≡ None → asks_in found ≡ false
      asks_none None h = refl
      asks_none (Some span) h = ap is_some h

      -- a refused write of the opening has no write before it
      opening_limited : (place : ℕ) (found : Option Span) → slice_get spans 0 ≡ found → refused_in found ≡ Some place → 0 < limit →
          (order : List ℕ) → IsAtomicOrder Same opening ops order → IsLimited Same opening limit ops place
      opening_limited place None e h l found_order found_atomic = cc
      opening_limited place (Some span) e h l found_order found_atomic =
          let y = (spanned.each 0 span e).asker place h in
          let finished : IsSome y.0.ends = elim (finished_or Same opening ops groups known are place 0 y.0 y.1) [
            | inl f ↦ f
            | inr t ↦ let k : is_write y.0.kind ≡ false = ap is_write y.2 in cc
          ] in
          let stood = stands Same opening ops found_order known found_atomic place y.0 y.1.0 finished in
          record {
            op = y.0;
            at = y.1.0;
            finished = finished;
            refused = y.2;
            may = record {
              order = found_order;
              atomic = found_atomic;
              entry = stood.0;
              listed = stood.1;
              few = let n = none_written found_order found_atomic stood.0 stood.1 y.0 y.1 in omega arith;
            };
            few = λ order atomic i at. record {
              early = i;
              place = place;
              op = y.0;
              up_to = omega arith;
              listed = at;
              at = y.1.0;
              refused = y.2;
              few = let n = none_written order atomic i at y.0 y.1 in omega arith;
            };
          }
        where
          none_written : (order : List ℕ) → IsAtomicOrder Same opening ops order → (i : ℕ) → slice_get order i ≡ Some place → (o : Op R) →
              Member ops groups place o 0 → writes_in (λ _. true) ops (take i order) ≤ 0
          none_written order atomic i at o m = elim (led Same opening ops order known atomic i place o at m.0) [
            | inl x ↦
                let opened_source = has Same opening ops groups known are place 0 o m in
                absurd (known.fresh x.1 x.2 x.3.is x.3.writes
                (opened_by x.2 o (turned_one x.2 o x.3.one) opened_source.1))
            | inr z ↦ counted (λ q. true && is_write_at (slice_get ops q)) (take i order) [] (λ p t. elim (times_cases p (take i order)) [
              | inr n ↦ omega arith
              | inl k ↦
                  let f = get_front order i k.0 p k.1 in
                  let w : is_write_at (slice_get ops p) ≡ false = z.0 k.0 p (omega arith) (let a = f.0 in omega arith) f.1 in
                  let u : is_write_at (slice_get ops p) ≡ true = t in
                  cc
            ])
          ]
            where
              turned_one : (a b : Op R) → OfOneRecord Same b a → OfOneRecord Same a b
              turned_one a b h = turned Same known.alike b a h

              opened_by : (a b : Op R) → OfOneRecord Same a b → IsOfOpening Same opening b → IsOfOpening Same opening a
              opened_by a b h k = opened Same known.alike opening a b h k

      late_limited : (place : ℕ) (order : List ℕ) → IsLateOrder ops groups spans order → HasTooFew ops order limit place →
          IsLimited Same opening limit ops place
      late_limited place order f h =
          let P : List ℕ → Type 0 = λ z. IsFirstRefusal ops z h.0 place h.1 in
          let first = subst P f.is h.2 in
          let finished : IsSome first.op.ends = elim (refused_ended place first.op first.is first.refused f h) [
            | inl x ↦ x
            | inr x ↦ absurd x
          ] in
          record {
            op = first.op;
            at = first.is;
            finished = finished;
            refused = first.refused;
            may = record {
              order = order;
              atomic = order_atomic order (inr f);
              entry = h.0;
              listed = h.2.at;
              few = let counted = h.2.counted in let less = h.3 in omega arith;
            };
            few = λ o atomic i at. refused_up_to Same opening ops groups known are all spans spanned early stale
                (cut_by spans None f.straight)
                (λ v t. late_by Same opening ops groups known are all spans spanned early stale f.straight f.are_straight.sorted.are
                f.are_straight.sorted.in_order f.are_straight.none (length f.straight) v (cut_by spans None f.straight)
                (whole_cut f.straight f.are_straight) t) (asks_none (slice_get spans 0) f.unasked) f.ranks f.sorted.are f.sorted.in_order
                h.0 place h.1 first o atomic limit i at h.3;
          }
        where
          refused_ended : (p : ℕ) (o : Op R) → slice_get ops p ≡ Some o → o.kind ≡ Refused → (f : IsLateOrder ops groups spans order) →
              (h : HasTooFew ops order limit p) → IsSome o.ends ⊎ ⊥
          refused_ended p o e k f h =
              let r = rank_at f.ranks h.0 p (sym (ap (λ z. slice_get z h.0) f.is) ∙ h.2.at) in
              let m = (f.sorted.are.each h.0 r.0 r.1).0 in
              let s : m.op ≡ o = same_Some m.op o (sym m.member.0 ∙ ap (slice_get ops) r.2 ∙ e) in
              elim (finished_or Same opening ops groups known are r.0.place r.0.group m.op m.member) [
                | inl x ↦ inl (subst (λ (z : Op R). IsSome z.ends) s x)
                | inr t ↦
                    let n : is_write o.kind ≡ false = ap is_write k in
                    let u : is_write o.kind ≡ true = ap (λ (z : Op R). is_write z.kind) (sym s) ∙ t in
                    cc
              ]

      found_limit : (place : ℕ) → IsGroupLimit ops groups spans limit place → IsUnlawful Same opening limit terms ops (Limit place)
      found_limit place h = elim h [
        | inl x ↦ limited place (places_of x.0) (straight_atomic x.0 x.1)
            (opening_limited place (slice_get spans 0) refl x.3 x.2 (places_of x.0) (straight_atomic x.0 x.1))
        | inr x ↦ limited place x.0 (order_atomic x.0 (inr x.1)) (late_limited place x.0 x.1 x.2)
      ]

  -- ---- all answers
  pub assembled : (search : Search) → IsFound ops groups limit search → IsSearch Same opening limit terms ops search
  assembled (Order order) f = found_order f.0 f.1.spanned (all_of f.1.all) (early_of f.0 f.1.spanned f.1.early)
      (stale_of f.0 f.1.spanned f.1.stale) order f.2
  assembled (Unlawful (Unwritten read)) f = unlawful (Unwritten read) (omega arith)
      (is_unwritten Same opening ops groups known are read f.0 f.1 f.2 f.3) (λ other h. rule_one other)
  assembled (Unlawful (Early read write)) f = unlawful (Early read write) (omega arith) (found_early f.0 f.2 read write f.3)
      (first_two (all_of f.1))
  assembled (Unlawful (Stale before read)) f = unlawful (Stale before read) (omega arith) (found_stale f.0 f.2 before read f.4)
      (first_three (all_of f.1) (early_of f.0 f.2 f.3))
  assembled (Unlawful (Crossed a b c d)) f = unlawful (Crossed a b c d) (omega arith)
      (found_crossing f.0 f.1.spanned (all_of f.1.all) (early_of f.0 f.1.spanned f.1.early) (stale_of f.0 f.1.spanned f.1.stale)
      (Crossed a b c d) f.2)
      (first_four (all_of f.1.all) (early_of f.0 f.1.spanned f.1.early) (stale_of f.0 f.1.spanned f.1.stale))
  assembled (Unlawful (Limit place)) f = found_limit f.0 f.1.spanned (all_of f.1.all) (early_of f.0 f.1.spanned f.1.early)
      (stale_of f.0 f.1.spanned f.1.stale) place f.2

-- the whole, over the lists that a history has
pub answered : {R : Type 0} (Same : R → R → Type 0) (opening : R) (limit : ℕ) (terms seen_terms : List Term) (ops seen : List (Op R))
    (groups seen_groups : List (Option ℕ)) (search : Search) → seen_terms ≡ terms → seen ≡ ops → seen_groups ≡ groups →
    IsSearched Same opening seen → IsOneTerm limit seen_terms → ((n : ℕ) → AreForwards seen n) →
    ((n : ℕ) → WritesOnce Same opening seen n) → AreGroups Same opening seen groups → IsFound seen seen_groups limit search →
    IsAnswered Same opening terms ops search
answered Same opening limit terms seen_terms ops seen groups seen_groups search et eo eg known one forwards once are found =
    let P : List Term → List (Op _) → Type 0 = λ t o. IsAnswered Same opening t o search in
    let Q : List (Option ℕ) → Type 0 = λ z. IsFound seen z limit search in
    subst (λ t. P t ops) et (subst (λ o. P seen_terms o) eo (record {
      limit = limit;
      one_term = one;
      forwards = forwards;
      once = once;
      answer = assembled Same opening limit seen_terms one seen groups known are search (subst Q eg found);
    }))
