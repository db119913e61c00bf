-- The small log of an unlawful one has a reason of the same rule, and each of its reasons is one of the whole; and its lines rise.
use Rattle.std.proofs.Common.{◌≡◌, ℕ, ◌+◌, ◌<◌, ◌≤◌, zero, suc, Bool, true, false, List, [], ◌∷◌, ◌++◌, length, map, slice_get}
use Rattle.std.proofs.Common.{get_or, take, Option, None, Some, ◌⊎◌, inl, inr, refl, sym, ◌∙◌, ap, subst, arith}
use Rattle.std.specs.Prelude.{◌==◌, ◌&&◌, ◌||◌, if◌then◌else◌, cond, nat_eq, not}
use Rattle.std.specs.List.{list_any}
use Rattle.std.proofs.lemmas.Bool.{cases_lt, cases_order}
use Rattle.std.proofs.lemmas.Bool.Decides.{nat_tests}
use Rattle.std.proofs.lemmas.List.{append-nil, length_push}
use Rattle.std.proofs.lemmas.Option.{get_or_from_slice_get, same_Some, slice_get_cases, slice_get_within}
use Rattle.history_core.proofs.Atomic.{IsSearched, led, no_early, of_one, shares}
use Rattle.history_core.proofs.Counts.{count_up, writes_next}
use Rattle.history_core.proofs.Places.{get_last, get_pushed_cases, get_stays}
use Rattle.history_core.specs.Orders.{is_write, is_write_at, writes_in}
use Rattle.history_core.specs.Reasons.{IsLimited, IsReason, IsUnwritten, MayHaveFew, OfOneRecord, rule_of}
use Rattle.history_core.specs.declared.history.Op.{Op}
use Rattle.history_core.specs.declared.reason.Reason.{Reason}
use Rattle.history_core.specs.declared.reason.Reason.TheVariants.{Unwritten, Early, Stale, Crossed, Limit}
use Rattle.history_core.specs.declared.thinned.Thinned.{Thinned}
use Rattle.history_thinning.specs.Answers.{IsKeptAt, NamesKept}
use Rattle.history_thinning.specs.Thinnings.{Equal, IsThinnedLog}
use Rattle.history_thinning.proofs.Reasons.{alike, kept_at, kept_known, place_of, searched, write_kept}
use Rattle.reason_sentences.specs.KeptAt.{is_item, kept_at as kept_place}
use Rattle.reason_sentences.specs.Named.{beside, is_named, same_item, writes_one_of}
use Rattle.text_lines.specs.Places.{line_at}
use Rattle.small_log.specs.Small.{lines_of, named_of, one_or_none, shown_in, small_lines, small_ops}
use Rattle.order_laws.proofs.LoneLemmas.{IsLone, IsSource}
use Rattle.order_laws.proofs.ToldLemmas.{AreLines}

-- the first place of a number that stands there
first_at : (places : List ℕ) (i p : ℕ) → slice_get places i ≡ Some p → slice_get places (kept_place places p) ≡ Some p
first_at [] i p e = cc
first_at (x ∷ places) i p e = by (x == p) refl i e (λ j f. first_at places j p f)
  where
    is_it : (a b : ℕ) → (a == b) ≡ true → a ≡ b
    is_it a b t = grind (arith, nat_tests)

    isnt : (a b : ℕ) → (a == b) ≡ false → a ≡ b → ⊥
    isnt a b t s = let f : (a == b) ≡ true = grind (arith, nat_tests) in cc

    by : (b : Bool) → (x == p) ≡ b → (j : ℕ) → slice_get (x ∷ places) j ≡ Some p →
        ((j : ℕ) → slice_get places j ≡ Some p → slice_get places (kept_place places p) ≡ Some p) →
        slice_get (x ∷ places) (kept_place (x ∷ places) p) ≡ Some p
    by true t j f below = subst (λ z. slice_get (x ∷ places) (cond (not z) (1 + kept_place places p) 0) ≡ Some p) (sym t)
        (ap Some (is_it x p t))
    by false t zero f below = absurd (isnt x p t (same_Some x p f))
    by false t (suc j) f below =
        subst (λ z. slice_get (x ∷ places) (cond (not z) (1 + kept_place places p) 0) ≡ Some p) (sym t)
        (ap (slice_get (x ∷ places)) (let e : 1 + kept_place places p ≡ suc (kept_place places p) = omega arith in e) ∙ below j f)

module _ (ops : List (Op ℕ)) (named : List ℕ) where
  -- with one more place
  one_more : (b : Bool) (x : Option (Op ℕ)) (xs : List (Op ℕ)) (i : ℕ) (o : Op ℕ) →
      slice_get (xs ++ (if b then one_or_none x else [])) i ≡ Some o →
      (slice_get xs i ≡ Some o) ⊎ ((i ≡ length xs) × (x ≡ Some o) × (b ≡ true))
  one_more true None xs i o e = inl (ap (λ z. slice_get z i) (sym (append-nil xs)) ∙ e)
  one_more true (Some a) xs i o e = elim (get_pushed_cases xs a i o e) [
    | inl old ↦ inl old
    | inr new ↦ inr (new.0, ap Some new.1, refl)
  ]
  one_more false x xs i o e = inl (ap (λ z. slice_get z i) (sym (append-nil xs)) ∙ e)

  still : (b : Bool) (x : Option (Op ℕ)) (xs : List (Op ℕ)) (i : ℕ) (o : Op ℕ) → slice_get xs i ≡ Some o →
      slice_get (xs ++ (if b then one_or_none x else [])) i ≡ Some o
  still true None xs i o e = ap (λ z. slice_get z i) (append-nil xs) ∙ e
  still true (Some a) xs i o e = get_stays xs o a i e
  still false x xs i o e = ap (λ z. slice_get z i) (append-nil xs) ∙ e

  -- an operation of the small log is one of the log, and is named there, behind those named before it
  pub from : (n i : ℕ) (o : Op ℕ) → slice_get (named_of ops named n) i ≡ Some o →
      (p : ℕ) × (p < n) × (slice_get ops p ≡ Some o) × (is_named ops named p ≡ true) × (i ≡ length (named_of ops named p))
  from zero i o e = cc
  from (suc n) i o e = elim (one_more (is_named ops named n) (slice_get ops n) (named_of ops named n) i o e) [
    | inl old ↦ let w = from n i o old in (w.0, let l = w.1 in omega (arith, l), w.2, w.3, w.4)
    | inr new ↦ (n, omega arith, new.1, new.2, new.0)
  ]

  -- of two the one that stands first stands first in the log
  pub both : (n i j : ℕ) (a b : Op ℕ) → i < j → slice_get (named_of ops named n) i ≡ Some a → slice_get (named_of ops named n) j ≡ Some b →
      (p : ℕ) × (q : ℕ) × (p < q) × (q < n) × (slice_get ops p ≡ Some a) × (slice_get ops q ≡ Some b)
  both zero i j a b l ea eb = cc
  both (suc n) i j a b l ea eb =
      let long = length (named_of ops named n) in
      elim (one_more (is_named ops named n) (slice_get ops n) (named_of ops named n) j b eb) [
        | inl old ↦
            let k : j < long = slice_get_within (named_of ops named n) j b old in
            elim (one_more (is_named ops named n) (slice_get ops n) (named_of ops named n) i a ea) [
              | inl e ↦ let w = both n i j a b l e old in (w.0, w.1, w.2, let m = w.3 in omega (arith, m), w.4, w.5)
              | inr e ↦ let same : i ≡ long = e.0 in absurd (omega (arith, l, k, same))
            ]
        | inr new ↦
            let at : j ≡ long = new.0 in
            elim (one_more (is_named ops named n) (slice_get ops n) (named_of ops named n) i a ea) [
              | inl e ↦ let w = from n i a e in (w.0, n, w.1, omega arith, w.2, new.1)
              | inr e ↦ let same : i ≡ long = e.0 in absurd (omega (arith, l, at, same))
            ]
      ]

  -- one that is named is in the small log, behind those named before it
  pub has : (n p : ℕ) (o : Op ℕ) → p < n → is_named ops named p ≡ true → slice_get ops p ≡ Some o →
      (i : ℕ) × (slice_get (named_of ops named n) i ≡ Some o) × (i ≡ length (named_of ops named p))
  has zero p o l t e = absurd (omega (arith, l))
  has (suc n) p o l t e = elim (cases_lt p n) [
    | inl less ↦
        let w = has n p o less t e in
        (w.0, still (is_named ops named n) (slice_get ops n) (named_of ops named n) w.0 o w.1, w.2)
    | inr ge ↦ let s : p ≡ n = omega (arith, l, ge) in (
      length (named_of ops named n),
      last (is_named ops named n) (slice_get ops n) (subst (λ z. is_named ops named z ≡ true) s t) (subst (λ z. slice_get ops z ≡ Some o) s
          e),
      ap (λ z. length (named_of ops named z)) (sym s),
    )
  ]
    where
      last : (b : Bool) (x : Option (Op ℕ)) → b ≡ true → x ≡ Some o →
          slice_get (named_of ops named n ++ (if b then one_or_none x else [])) (length (named_of ops named n)) ≡ Some o
      last true None t e = cc
      last true (Some a) t e = get_last (named_of ops named n) a (length (named_of ops named n)) refl ∙ e
      last false x t e = cc

-- the lines of kept operations, whose places rise
module _ (ops : List (Op ℕ)) (named places : List ℕ) (long : length places ≡ length ops)
    (rise : (i j p q : ℕ) → i < j → slice_get places i ≡ Some p → slice_get places j ≡ Some q → p < q) where
  one_more_line : (b : Bool) (x : Option ℕ) (xs : List ℕ) (i line : ℕ) →
      slice_get (xs ++ (if b then map line_at (one_or_none x) else [])) i ≡ Some line →
      (slice_get xs i ≡ Some line) ⊎ ((i ≡ length xs) × (q : ℕ) × (x ≡ Some q) × (line ≡ line_at q))
  one_more_line true None xs i line e = inl (ap (λ z. slice_get z i) (sym (append-nil xs)) ∙ e)
  one_more_line true (Some q) xs i line e = elim (get_pushed_cases xs (line_at q) i line e) [
    | inl old ↦ inl old
    | inr new ↦ inr (new.0, q, refl, sym new.1)
  ]
  one_more_line false x xs i line e = inl (ap (λ z. slice_get z i) (sym (append-nil xs)) ∙ e)

  line_from : (n i line : ℕ) → slice_get (lines_of ops named places n) i ≡ Some line →
      (p : ℕ) × (q : ℕ) × (p < n) × (slice_get places p ≡ Some q) × (line ≡ line_at q)
  line_from zero i line e = cc
  line_from (suc n) i line e = elim (one_more_line (is_named ops named n) (slice_get places n) (lines_of ops named places n) i line e) [
    | inl old ↦ let w = line_from n i line old in (w.0, w.1, let l = w.2 in omega (arith, l), w.3, w.4)
    | inr new ↦ (n, new.1, omega arith, new.2, new.3)
  ]

  lines_rise : (n i j a b : ℕ) → i < j → slice_get (lines_of ops named places n) i ≡ Some a →
      slice_get (lines_of ops named places n) j ≡ Some b → a < b
  lines_rise zero i j a b l ea eb = cc
  lines_rise (suc n) i j a b l ea eb =
      let before = lines_of ops named places n in
      elim (one_more_line (is_named ops named n) (slice_get places n) before j b eb) [
        | inl old ↦
            let k : j < length before = slice_get_within before j b old in
            elim (one_more_line (is_named ops named n) (slice_get places n) before i a ea) [
              | inl e ↦ lines_rise n i j a b l e old
              | inr e ↦ let same : i ≡ length before = e.0 in absurd (omega (arith, l, k, same))
            ]
        | inr new ↦
            let at : j ≡ length before = new.0 in
            elim (one_more_line (is_named ops named n) (slice_get places n) before i a ea) [
              | inl e ↦
                  let w = line_from n i a e in
                  let less : w.1 < new.1 = rise w.0 n w.1 new.1 w.2 w.3 new.2 in
                  let is_a : a ≡ w.1 + 2 = w.4 in
                  let is_b : b ≡ new.1 + 2 = new.3 in
                  omega (arith, less, is_a, is_b)
              | inr e ↦ let same : i ≡ length before = e.0 in absurd (omega (arith, l, at, same))
            ]
      ]

  lines_long : (n : ℕ) → n ≤ length ops → length (lines_of ops named places n) ≡ length (named_of ops named n)
  lines_long zero le = refl
  lines_long (suc n) le = elim (slice_get_cases ops n).1 [
    | inl v ↦ elim (slice_get_cases places n).1 [
      | inl w ↦ by (is_named ops named n) (slice_get ops n) (slice_get places n) v.0 w.0 v.2 w.2 (lines_long n (omega (arith, le)))
      | inr past ↦ let f : length places ≤ n = past.0 in absurd (omega (arith, le, f, long))
    ]
    | inr past ↦ let f : length ops ≤ n = past.0 in absurd (omega (arith, le, f))
  ]
    where
      by : (b : Bool) (x : Option (Op ℕ)) (y : Option ℕ) (o : Op ℕ) (q : ℕ) → x ≡ Some o → y ≡ Some q →
          length (lines_of ops named places n) ≡ length (named_of ops named n) →
          length (lines_of ops named places n ++ (if b then map line_at (one_or_none y) else []))
          ≡ length (named_of ops named n ++ (if b then one_or_none x else []))
      by true None y o q e f h = cc
      by true (Some a) None o q e f h = cc
      by true (Some a) (Some p) o q e f h =
          length_push (lines_of ops named places n) (line_at p) ∙ ap (λ k. k + 1) h ∙ sym (length_push (named_of ops named n) a)
      by false x y o q e f h = ap length (append-nil (lines_of ops named places n)) ∙ h ∙ sym
          (ap length (append-nil (named_of ops named n)))

  pub are_lines : AreLines (lines_of ops named places (length ops)) (named_of ops named (length ops))
  are_lines = record {
    long = lines_long (length ops) (omega arith);
    above = λ i line e. let w = line_from (length ops) i line e in let is : line ≡ w.1 + 2 = w.4 in omega (arith, is);
    apart = λ i j line ei ej. elim (cases_order i j) [
      | inl same ↦ same
      | inr (inl l) ↦ let bad : line < line = lines_rise (length ops) i j line line l ei ej in absurd (omega (arith, bad))
      | inr (inr l) ↦ let bad : line < line = lines_rise (length ops) j i line line l ej ei in absurd (omega (arith, bad))
    ];
  }

-- the write of the record of an operation at one of these places is one to be named
write_named : (ops : List (Op ℕ)) (named : List ℕ) (p x : ℕ) (o a : Op ℕ) → list_any (λ q. nat_eq q p) named ≡ true →
    slice_get ops p ≡ Some o → o.item ≡ Some x → a.item ≡ Some x → is_write a.kind ≡ true → writes_one_of ops named (Some a) ≡ true
write_named ops named p x o a any e f g t =
    by (is_write a.kind) (list_any (λ q. same_item a.item (slice_get ops q)) named) t (some named any)
  where
    by : (b c : Bool) → b ≡ true → c ≡ true → (b && c) ≡ true
    by true c t h = h
    by false c t h = cc

    is_it : (q : ℕ) → nat_eq q p ≡ true → q ≡ p
    is_it q t = grind (arith, nat_tests)

    itself : (n : ℕ) → nat_eq n n ≡ true
    itself n = grind (arith, nat_tests)

    same : (q : ℕ) → nat_eq q p ≡ true → same_item a.item (slice_get ops q) ≡ true
    same q t = ap (λ z. same_item z (slice_get ops q)) g ∙ ap (same_item (Some x)) (ap (slice_get ops) (is_it q t) ∙ e)
        ∙ ap (is_item x) f ∙ itself x

    or_cases : (b c d e : Bool) → (b ≡ true → d ≡ true) → (c ≡ true → e ≡ true) → (b || c) ≡ true → (d || e) ≡ true
    or_cases true c true e f g h = refl
    or_cases true c false e f g h = absurd (let t : false ≡ true = f refl in cc)
    or_cases false c true e f g h = refl
    or_cases false c false e f g h = g h

    some : (ks : List ℕ) → list_any (λ q. nat_eq q p) ks ≡ true → list_any (λ q. same_item a.item (slice_get ops q)) ks ≡ true
    some [] h = cc
    some (k ∷ ks) h = or_cases (nat_eq k p) (list_any (λ q. nat_eq q p) ks) (same_item a.item (slice_get ops k))
        (list_any (λ q. same_item a.item (slice_get ops q)) ks) (same k) (some ks) h

-- of one place: what is named is at it, or the write of its record
named_one : (ops : List (Op ℕ)) (k p : ℕ) → is_named ops (k ∷ []) p ≡ true →
    (k ≡ p) ⊎ (writes_one_of ops (k ∷ []) (slice_get ops p) ≡ true)
named_one ops k p h = by (nat_eq k p) refl h
  where
    is_it : (a b : ℕ) → nat_eq a b ≡ true → a ≡ b
    is_it a b t = grind (arith, nat_tests)

    by : (b : Bool) → nat_eq k p ≡ b → ((b || false) || writes_one_of ops (k ∷ []) (slice_get ops p)) ≡ true →
        (k ≡ p) ⊎ (writes_one_of ops (k ∷ []) (slice_get ops p) ≡ true)
    by true t h = inl (is_it k p t)
    by false t h = inr h

write_of_one : (ops : List (Op ℕ)) (k : ℕ) (o a : Op ℕ) → slice_get ops k ≡ Some o → writes_one_of ops (k ∷ []) (Some a) ≡ true →
    (is_write a.kind ≡ true) × OfOneRecord Equal o a
write_of_one ops k o a e h =
    by (is_write a.kind) a.item o.item refl refl refl (subst (λ z. (is_write a.kind && (same_item a.item z || false)) ≡ true) e h)
  where
    is_it : (x y : ℕ) → nat_eq x y ≡ true → y ≡ x
    is_it x y t = grind (arith, nat_tests)

    or_false : (b : Bool) → (b || false) ≡ true → b ≡ true
    or_false true t = refl
    or_false false t = t

    by : (b : Bool) (i k : Option ℕ) → is_write a.kind ≡ b → a.item ≡ i → o.item ≡ k →
        (b && (same_item i (Some o) || false)) ≡ true → (is_write a.kind ≡ true) × OfOneRecord Equal o a
    by true None k t f g h = cc
    by true (Some x) None t f g h =
        let item : is_item x o.item ≡ true = or_false (is_item x o.item) h in
        let none : is_item x o.item ≡ false = ap (is_item x) g in
        cc
    by true (Some x) (Some y) t f g h =
        let item : is_item x o.item ≡ true = or_false (is_item x o.item) h in
        let same : nat_eq x y ≡ true = sym (ap (is_item x) g) ∙ item in
        (t, of_one Equal o a y x g f (is_it x y same))
    by false i k t f g h = cc

-- a number is one of these, if it stands among them
here : (k : ℕ) (xs ys : List ℕ) → list_any (λ q. nat_eq q k) (xs ++ k ∷ ys) ≡ true
here k [] ys = first (nat_eq k k) (list_any (λ q. nat_eq q k) ys) (itself k)
  where
    itself : (n : ℕ) → nat_eq n n ≡ true
    itself n = grind (arith, nat_tests)

    first : (a b : Bool) → a ≡ true → (a || b) ≡ true
    first true b t = refl
    first false b t = cc
here k (x ∷ xs) ys = later (nat_eq x k) (list_any (λ q. nat_eq q k) (xs ++ k ∷ ys)) (here k xs ys)
  where
    later : (a b : Bool) → b ≡ true → (a || b) ≡ true
    later true b t = refl
    later false b t = t

module _ (limit : ℕ) (log : List (Op ℕ)) (thinned : Thinned) (is : IsThinnedLog limit log thinned) where
  known : IsSearched Equal 0 log
  known = searched log is.forwards is.once

  kept : IsSearched Equal 0 thinned.history.ops
  kept = kept_known log thinned.history.ops thinned.places is.kept known

  -- an operation of the log that is kept
  at_kept : (p : ℕ) (o : Op ℕ) → IsKeptAt thinned.places p → slice_get log p ≡ Some o →
      slice_get thinned.history.ops (kept_place thinned.places p) ≡ Some o
  at_kept p o w e = kept_at log thinned.history.ops thinned.places is.kept known (kept_place thinned.places p) p o
      (first_at thinned.places w.0 p w.1) e

  -- is in the small log, if it is named
  in_small : (reason : Reason) (p : ℕ) (o : Op ℕ) → IsKeptAt thinned.places p → slice_get log p ≡ Some o →
      list_any (λ q. nat_eq q (kept_place thinned.places p)) (shown_in thinned reason) ≡ true →
      (i : ℕ) × (slice_get (small_ops thinned reason) i ≡ Some o)
      × (i ≡ length (named_of thinned.history.ops (shown_in thinned reason) (kept_place thinned.places p)))
  in_small reason p o w e t =
      let named = shown_in thinned reason in
      let k = kept_place thinned.places p in
      let at = at_kept p o w e in
      has thinned.history.ops named (length thinned.history.ops) k o (slice_get_within thinned.history.ops k o at)
      (first (list_any (λ q. nat_eq q k) named) (writes_one_of thinned.history.ops named (slice_get thinned.history.ops k)) t) at
    where
      first : (a b : Bool) → a ≡ true → (a || b) ≡ true
      first true b t = refl
      first false b t = cc

  -- what is known of the small log
  pub small_known : (reason : Reason) → IsSearched Equal 0 (small_ops thinned reason)
  small_known reason =
      let ops = thinned.history.ops in
      let named = shown_in thinned reason in
      record {
        alike = alike;
        forwards = λ p end o at e. let w = from ops named (length ops) p o at in kept.forwards w.0 end o w.2 e;
        once = λ p q a b ea eb ta tb one. elim (cases_order p q) [
          | inl s ↦ s
          | inr (inl l) ↦
              let w = both ops named (length ops) p q a b l ea eb in
              let s : w.0 ≡ w.1 = kept.once w.0 w.1 a b w.4 w.5 ta tb one in
              let m : w.0 < w.1 = w.2 in absurd (omega (arith, s, m))
          | inr (inr l) ↦
              let w = both ops named (length ops) q p b a l eb ea in
              let s : w.1 ≡ w.0 = kept.once w.1 w.0 a b w.5 w.4 ta tb one in
              let m : w.0 < w.1 = w.2 in absurd (omega (arith, s, m))
        ];
        fresh = λ p a e t bad. let w = from ops named (length ops) p a e in kept.fresh w.0 a w.2 t bad;
      }

  -- an operation of the small log is one of the whole
  of_log : (reason : Reason) (i : ℕ) (o : Op ℕ) → slice_get (small_ops thinned reason) i ≡ Some o →
      (p : ℕ) × (slice_get log p ≡ Some o)
  of_log reason i o e =
      let w = from thinned.history.ops (shown_in thinned reason) (length thinned.history.ops) i o e in
      let v = place_of log thinned.history.ops thinned.places is.kept known w.0 o w.2 in (v.0, v.2)

  -- a reason of the same rule
  pub by_same_rule : (reason : Reason) → IsReason Equal 0 limit log reason → NamesKept thinned.places reason → rule_of reason < 5 →
      (again : Reason) × (rule_of again ≡ rule_of reason) × IsReason Equal 0 limit (small_ops thinned reason) again
  by_same_rule (Unwritten read) r w l =
      let k = kept_place thinned.places read in
      let i = in_small (Unwritten read) read r.op w r.at (here k [] (beside thinned.history.ops (Unwritten k))) in (
        Unwritten i.0,
        refl,
        record {
          op = r.op;
          at = i.1;
          finished = r.finished;
          opened = r.opened;
          written = λ j a e t one. let v = of_log (Unwritten read) j a e in r.written v.0 a v.1 t one;
        },
      )
  by_same_rule (Early read write) r w l =
      let k = kept_place thinned.places read in
      let m = kept_place thinned.places write in
      let i = in_small (Early read write) read r.op w.0 r.at (here k [] (m ∷ [])) in
      let j = in_small (Early read write) write r.source w.1 r.source_at (here m (k ∷ []) []) in (
        Early i.0 j.0,
        refl,
        record {
          op = r.op;
          source = r.source;
          at = i.1;
          source_at = j.1;
          answers = r.answers;
          writes = r.writes;
          one = r.one;
          precedes = r.precedes;
        },
      )
  by_same_rule (Stale earlier read) r w l =
      let k = kept_place thinned.places earlier in
      let m = kept_place thinned.places read in
      let i = in_small (Stale earlier read) earlier r.other w.0 r.other_at (here k [] (m ∷ [])) in
      let j = in_small (Stale earlier read) read r.op w.1 r.at (here m (k ∷ []) []) in (
        Stale i.0 j.0,
        refl,
        record {
          other = r.other;
          op = r.op;
          other_at = i.1;
          at = j.1;
          finished = r.finished;
          opened = r.opened;
          another = r.another;
          precedes = r.precedes;
        },
      )
  by_same_rule (Crossed a b c d) r w l =
      let ka = kept_place thinned.places a in
      let kb = kept_place thinned.places b in
      let kc = kept_place thinned.places c in
      let kd = kept_place thinned.places d in
      let reason = Crossed a b c d in
      let ia = in_small reason a r.op_a w.0 r.at_a (here ka [] (kb ∷ kc ∷ kd ∷ [])) in
      let ib = in_small reason b r.op_b w.1 r.at_b (here kb (ka ∷ []) (kc ∷ kd ∷ [])) in
      let ic = in_small reason c r.op_c w.2 r.at_c (here kc (ka ∷ kb ∷ []) (kd ∷ [])) in
      let id = in_small reason d r.op_d w.3 r.at_d (here kd (ka ∷ kb ∷ kc ∷ []) []) in (
        Crossed ia.0 ib.0 ic.0 id.0,
        refl,
        record {
          op_a = r.op_a;
          op_b = r.op_b;
          op_c = r.op_c;
          op_d = r.op_d;
          at_a = ia.1;
          at_b = ib.1;
          at_c = ic.1;
          at_d = id.1;
          counts_b = r.counts_b;
          counts_d = r.counts_d;
          first = r.first;
          second = r.second;
          one = r.one;
          other = r.other;
          apart = r.apart;
          one_opened = r.one_opened;
          other_opened = r.other_opened;
        },
      )
  by_same_rule (Limit refused) r w l = absurd (omega (arith, l))

  -- the write of the record of one of its operations is in the small log
  sourced : (reason : Reason) (i p : ℕ) (o a : Op ℕ) → slice_get (small_ops thinned reason) i ≡ Some o → slice_get log p ≡ Some a →
      is_write a.kind ≡ true → OfOneRecord Equal o a →
      (w : ℕ) × (b : Op ℕ) × (slice_get (small_ops thinned reason) w ≡ Some b) × (is_write b.kind ≡ true) × OfOneRecord Equal o b
  sourced reason i p o a e at t one =
      let ops = thinned.history.ops in
      let named = shown_in thinned reason in
      let w = from ops named (length ops) i o e in
      let s = shares Equal o a one in
      let same : s.x ≡ s.y = s.same in
      by w.0 s.x (list_any (λ q. nat_eq q w.0) named) refl w.2 s.has_x (s.has_y ∙ ap Some (sym same))
      (subst (λ z. (list_any (λ q. nat_eq q w.0) named || writes_one_of ops named z) ≡ true) w.2 w.3)
    where
      or_true : (b c : Bool) → c ≡ true → (b || c) ≡ true
      or_true true c t = refl
      or_true false c t = t

      and_true : (b c : Bool) → (b && c) ≡ true → b ≡ true
      and_true true c t = refl
      and_true false c t = cc

      by : (k x : ℕ) (b : Bool) → list_any (λ q. nat_eq q k) (shown_in thinned reason) ≡ b →
          slice_get thinned.history.ops k ≡ Some o → o.item ≡ Some x → a.item ≡ Some x →
          (b || writes_one_of thinned.history.ops (shown_in thinned reason) (Some o)) ≡ true →
          (w : ℕ) × (b : Op ℕ) × (slice_get (small_ops thinned reason) w ≡ Some b) × (is_write b.kind ≡ true) × OfOneRecord Equal o b
      by k x true any ek has_o has_a h =
          let ops = thinned.history.ops in
          let named = shown_in thinned reason in
          let v = write_kept log ops thinned.places is.kept known p a at t in
          let yes : writes_one_of ops named (slice_get ops v.0) ≡ true =
          ap (writes_one_of ops named) v.2 ∙ write_named ops named k x o a any ek has_o has_a t in
          let j = has ops named (length ops) v.0 a (slice_get_within ops v.0 a v.2)
          (or_true (list_any (λ q. nat_eq q v.0) named) (writes_one_of ops named (slice_get ops v.0)) yes) v.2 in
          (j.0, a, j.1, t, one)
      by k x false any ek has_o has_a h =
          (i, o, e, and_true (is_write o.kind) _ h, of_one Equal o o x x has_o has_o refl)

  -- a reason of the small log is one of the whole
  pub unwritten_of_log : (reason : Reason) (p : ℕ) → IsUnwritten Equal 0 (small_ops thinned reason) p → (q : ℕ) × IsUnwritten Equal 0 log q
  unwritten_of_log reason p r =
      let v = of_log reason p r.op r.at in (
        v.0,
        record {
          op = r.op;
          at = v.1;
          finished = r.finished;
          opened = r.opened;
          written = λ w a e t one. let s = sourced reason p w r.op a r.at e t one in r.written s.0 s.1 s.2 s.3 s.4;
        },
      )

  pub reason_of_log : (reason other : Reason) → IsReason Equal 0 limit (small_ops thinned reason) other → rule_of other < 5 →
      (more : Reason) × (rule_of more ≡ rule_of other) × IsReason Equal 0 limit log more
  reason_of_log reason (Unwritten read) r l = let w = unwritten_of_log reason read r in (Unwritten w.0, refl, w.1)
  reason_of_log reason (Early read write) r l =
      let v = of_log reason read r.op r.at in
      let w = of_log reason write r.source r.source_at in (
        Early v.0 w.0,
        refl,
        record {
          op = r.op;
          source = r.source;
          at = v.1;
          source_at = w.1;
          answers = r.answers;
          writes = r.writes;
          one = r.one;
          precedes = r.precedes;
        },
      )
  reason_of_log reason (Stale earlier read) r l =
      let v = of_log reason earlier r.other r.other_at in
      let w = of_log reason read r.op r.at in (
        Stale v.0 w.0,
        refl,
        record {
          other = r.other;
          op = r.op;
          other_at = v.1;
          at = w.1;
          finished = r.finished;
          opened = r.opened;
          another = r.another;
          precedes = r.precedes;
        },
      )
  reason_of_log reason (Crossed a b c d) r l =
      let va = of_log reason a r.op_a r.at_a in
      let vb = of_log reason b r.op_b r.at_b in
      let vc = of_log reason c r.op_c r.at_c in
      let vd = of_log reason d r.op_d r.at_d in (
        Crossed va.0 vb.0 vc.0 vd.0,
        refl,
        record {
          op_a = r.op_a;
          op_b = r.op_b;
          op_c = r.op_c;
          op_d = r.op_d;
          at_a = va.1;
          at_b = vb.1;
          at_c = vc.1;
          at_d = vd.1;
          counts_b = r.counts_b;
          counts_d = r.counts_d;
          first = r.first;
          second = r.second;
          one = r.one;
          other = r.other;
          apart = r.apart;
          one_opened = r.one_opened;
          other_opened = r.other_opened;
        },
      )
  reason_of_log reason (Limit refused) r l = absurd (omega (arith, l))

  -- of a limit it has the refused write, and the write of that one's record if it isn't the opening
  pub lone_small : (refused : ℕ) → IsLimited Equal 0 limit log refused → NamesKept thinned.places (Limit refused) →
      (i : ℕ) × IsLone limit (small_ops thinned (Limit refused)) i
  lone_small refused r w = (
    stood.0,
    record {
      op = r.op;
      at = stood.1;
      finished = r.finished;
      refused = r.refused;
      others = other;
      source = elim (led Equal 0 log m.order known m.atomic m.entry refused r.op m.listed r.at) [
        | inr x ↦ inl (x.1, omega (arith, m.few))
        | inl x ↦ inr (
          source x.1 x.2 x.3.is x.3.writes x.3.one,
          let before : x.0 < m.entry = earlier x.0 x.1 x.2 x.3.at x.3.is x.3.writes x.3.up_to in
              let more = one_before x.0 x.1 x.2 x.3.at x.3.is x.3.writes before in
              omega (arith, m.few),
        )
      ];
    },
  )
    where
      k : ℕ
      k = kept_place thinned.places refused

      m : MayHaveFew Equal 0 limit log refused
      m = r.may

      stood : (i : ℕ) × (slice_get (small_ops thinned (Limit refused)) i ≡ Some r.op)
          × (i ≡ length (named_of thinned.history.ops (kept_place thinned.places refused ∷ []) (kept_place thinned.places refused)))
      stood = in_small (Limit refused) refused r.op w r.at (here (kept_place thinned.places refused) [] [])

      other : (j : ℕ) (o : Op ℕ) → slice_get (small_ops thinned (Limit refused)) j ≡ Some o →
          (j ≡ stood.0) ⊎ ((is_write o.kind ≡ true) × OfOneRecord Equal r.op o)
      other j o e =
          let ops = thinned.history.ops in
          let v = from ops (k ∷ []) (length ops) j o e in
          elim (named_one ops k v.0 v.3) [
            | inl same ↦ inl (v.4 ∙ ap (λ z. length (named_of ops (k ∷ []) z)) (sym same) ∙ sym stood.2)
            | inr t ↦ inr (write_of_one ops k r.op o (at_kept refused r.op w r.at) (ap (writes_one_of ops (k ∷ [])) (sym v.2) ∙ t))
          ]

      source : (p : ℕ) (a : Op ℕ) → slice_get log p ≡ Some a → is_write a.kind ≡ true → OfOneRecord Equal r.op a →
          IsSource (small_ops thinned (Limit refused)) r.op
      source p a e t one =
          let s = sourced (Limit refused) stood.0 p r.op a stood.1 e t one in
          let v = of_log (Limit refused) s.0 s.1 s.2 in
          record {
            place = s.0;
            write = s.1;
            at = s.2;
            writes = s.3;
            one = s.4;
            apart = λ pre. no_early Equal 0 log m.order known m.atomic refused v.0 (record {
              op = r.op;
              source = s.1;
              at = r.at;
              source_at = v.1;
              answers = ap is_write r.refused;
              writes = s.3;
              one = s.4;
              precedes = pre;
            });
          }

      earlier : (j p : ℕ) (a : Op ℕ) → slice_get m.order j ≡ Some p → slice_get log p ≡ Some a → is_write a.kind ≡ true →
          j ≤ m.entry → j < m.entry
      earlier j p a e f t le = elim (cases_lt j m.entry) [
        | inl less ↦ less
        | inr ge ↦
            let s : j ≡ m.entry = omega (arith, le, ge) in
            let place : p ≡ refused = same_Some p refused (sym e ∙ ap (slice_get m.order) s ∙ m.listed) in
            let op : a ≡ r.op = same_Some a r.op (sym f ∙ ap (slice_get log) place ∙ r.at) in
            let g : is_write a.kind ≡ false = ap (λ (z : Op ℕ). is_write z.kind) op ∙ ap is_write r.refused in
            cc
      ]

      one_before : (j p : ℕ) (a : Op ℕ) → slice_get m.order j ≡ Some p → slice_get log p ≡ Some a → is_write a.kind ≡ true →
          j < m.entry → 1 ≤ writes_in (λ _. true) log (take m.entry m.order)
      one_before j p a e f t less =
          let next = writes_next log m.order j (slice_get_within m.order j p e) in
          let here : is_write_at (slice_get log (get_or m.order j 0)) ≡ true =
          ap (λ z. is_write_at (slice_get log z)) (get_or_from_slice_get m.order j p 0 e) ∙ ap is_write_at f ∙ t in
          let one : writes_in (λ _. true) log (take (j + 1) m.order) ≡ writes_in (λ _. true) log (take j m.order) + 1 =
          next ∙ ap (λ b. writes_in (λ _. true) log (take j m.order) + (if b then 1 else 0)) here in
          let up = count_up (λ q. true && is_write_at (slice_get log q)) m.order (j + 1) m.entry (omega (arith, less)) in
          omega arith

  pub own_lines : (reason : Reason) → AreLines (small_lines thinned reason) (small_ops thinned reason)
  own_lines reason = are_lines thinned.history.ops (shown_in thinned reason) thinned.places is.kept.long is.kept.rise
