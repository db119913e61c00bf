-- The small log of one key among several is that of its own log, with the lines of the whole.
use Rattle.std.proofs.Common.{◌≡◌, ℕ, ◌+◌, ◌<◌, ◌≤◌, zero, suc, Bool, true, false, cond, List, [], ◌∷◌, length, map, slice_get}
use Rattle.std.proofs.Common.{Option, None, Some, inl, inr, refl, sym, ◌∙◌, ap, subst, arith}
use Rattle.std.specs.Prelude.{◌==◌, if◌then◌else◌, not, option_map, unwrap_or}
use Rattle.std.proofs.lemmas.Bool.{cases_order}
use Rattle.std.proofs.lemmas.Bool.Decides.{nat_tests}
use Rattle.std.proofs.lemmas.List.{length-map}
use Rattle.std.proofs.lemmas.Option.{same_Some, slice_get-map, slice_get_cases, slice_get_within}
use Rattle.history_core.specs.Reasons.{rule_of}
use Rattle.history_core.specs.Searches.{IsUnlawful}
use Rattle.history_core.specs.declared.history.Op.{Op}
use Rattle.history_core.specs.declared.reason.Reason.{Reason}
use Rattle.history_core.specs.declared.reason.Reason.TheVariants.{Unwritten, Early, Stale, Crossed, Limit}
use Rattle.history_core.specs.declared.thinned.Thinned.{Thinned}
use Rattle.history_thinning.specs.Answers.{IsKeptAt, NamesKept}
use Rattle.history_thinning.specs.Thinnings.{Equal, IsThinnedLog, one_term}
use Rattle.keys_log.specs.Keys.{is_of, lines_of_key, places_from, places_of_key}
use Rattle.reason_sentences.specs.KeptAt.{kept_at as kept_place}
use Rattle.reason_sentences.specs.Named.{in_kept, shown_of}
use Rattle.small_log.specs.Small.{lines_of, named_of, shown_in, small_lines, small_ops, told_ops}
use Rattle.print_keys.specs.KeysText.{whole_place, whole_places, whole_reason, whole_thinned}
use Rattle.order_laws.proofs.PrintedLemmas.{unlawful_told}
use Rattle.order_laws.proofs.SmallLemmas.{are_lines}

abbrev pub Rise : List ℕ → Type 0
Rise places = (i j p q : ℕ) → i < j → slice_get places i ≡ Some p → slice_get places j ≡ Some q → p < q

-- these are places in a list
abbrev AreWithin : List ℕ → List ℕ → Type 0
AreWithin ws places = (i q : ℕ) → slice_get places i ≡ Some q → q < length ws

-- ---- the places of a key's lines

least_place : (key : Option (List ℕ)) (p : ℕ) (lines : List (List ℕ)) (i q : ℕ) → slice_get (places_from key p lines) i ≡ Some q → p ≤ q
least_place key p [] i q e = cc
least_place key p (line ∷ lines) i q e = by (is_of key line) i e (λ j f. least_place key (suc p) lines j q f)
  where
    by : (b : Bool) (i : ℕ) → slice_get (if b then p ∷ places_from key (suc p) lines else places_from key (suc p) lines) i ≡ Some q →
        ((j : ℕ) → slice_get (places_from key (suc p) lines) j ≡ Some q → suc p ≤ q) → p ≤ q
    by true zero e below = let s : p ≡ q = same_Some p q e in omega (arith, s)
    by true (suc i) e below = let l : suc p ≤ q = below i e in omega (arith, l)
    by false i e below = let l : suc p ≤ q = below i e in omega (arith, l)

rise_from : (key : Option (List ℕ)) (p : ℕ) (lines : List (List ℕ)) (i j a b : ℕ) → i < j →
    slice_get (places_from key p lines) i ≡ Some a → slice_get (places_from key p lines) j ≡ Some b → a < b
rise_from key p [] i j a b l ea eb = cc
rise_from key p (line ∷ lines) i j a b l ea eb =
    by (is_of key line) i j l ea eb (λ i j l ea eb. rise_from key (suc p) lines i j a b l ea eb)
  where
    by : (c : Bool) (i j : ℕ) → i < j →
        slice_get (if c then p ∷ places_from key (suc p) lines else places_from key (suc p) lines) i ≡ Some a →
        slice_get (if c then p ∷ places_from key (suc p) lines else places_from key (suc p) lines) j ≡ Some b →
        ((i j : ℕ) → i < j → slice_get (places_from key (suc p) lines) i ≡ Some a →
        slice_get (places_from key (suc p) lines) j ≡ Some b → a < b) → a < b
    by true i zero l ea eb below = absurd (omega (arith, l))
    by true zero (suc j) l ea eb below =
        let s : p ≡ a = same_Some p a ea in
        let le : suc p ≤ b = least_place key (suc p) lines j b eb in
        omega (arith, s, le)
    by true (suc i) (suc j) l ea eb below = below i j (omega (arith, l)) ea eb
    by false i j l ea eb below = below i j l ea eb

pub places_rise : (key : Option (List ℕ)) (lines : List (List ℕ)) → Rise (places_of_key key lines)
places_rise key lines = rise_from key 0 lines

pub places_long : (key : Option (List ℕ)) (p : ℕ) (lines : List (List ℕ)) →
    length (places_from key p lines) ≡ length (lines_of_key key lines)
places_long key p [] = refl
places_long key p (line ∷ lines) = by (is_of key line) (places_long key (suc p) lines)
  where
    by : (b : Bool) → length (places_from key (suc p) lines) ≡ length (lines_of_key key lines) →
        length (if b then p ∷ places_from key (suc p) lines else places_from key (suc p) lines)
        ≡ length (if b then line ∷ lines_of_key key lines else lines_of_key key lines)
    by true e = ap suc e
    by false e = e

-- ---- the same operations at their places in the whole log

is_it : (a b : ℕ) → (a == b) ≡ true → a ≡ b
is_it a b t = grind (arith, nat_tests)

isnt : (a b : ℕ) → (a == b) ≡ false → a ≡ b → ⊥
isnt a b t s = let f : (a == b) ≡ true = grind (arith, nat_tests) in cc

module _ (ws : List ℕ) (rise : Rise ws) where
  whole_at : (p : ℕ) → p < length ws → slice_get ws p ≡ Some (whole_place ws p)
  whole_at p l = elim (slice_get_cases ws p).1 [
    | inl w ↦ w.2 ∙ ap Some (ap (λ z. unwrap_or z 0) (sym w.2))
    | inr past ↦ let le : length ws ≤ p = past.0 in absurd (omega (arith, l, le))
  ]

  whole_rise : (p q : ℕ) → p < q → q < length ws → whole_place ws p < whole_place ws q
  whole_rise p q l within = rise p q (whole_place ws p) (whole_place ws q) l (whole_at p (omega (arith, l, within))) (whole_at q within)

  whole_one : (p q : ℕ) → p < length ws → q < length ws → whole_place ws p ≡ whole_place ws q → p ≡ q
  whole_one p q lp lq same = elim (cases_order p q) [
    | inl is ↦ is
    | inr (inl l) ↦ let bad : whole_place ws p < whole_place ws q = whole_rise p q l lq in absurd (omega (arith, bad, same))
    | inr (inr l) ↦ let bad : whole_place ws q < whole_place ws p = whole_rise q p l lp in absurd (omega (arith, bad, same))
  ]

  same_test : (p q : ℕ) → p < length ws → q < length ws → (whole_place ws p == whole_place ws q) ≡ (p == q)
  same_test p q lp lq = by (whole_place ws p == whole_place ws q) (p == q) refl refl
    where
      by : (b c : Bool) → (whole_place ws p == whole_place ws q) ≡ b → (p == q) ≡ c → b ≡ c
      by true true e f = refl
      by true false e f = absurd (isnt p q f (whole_one p q lp lq (is_it (whole_place ws p) (whole_place ws q) e)))
      by false true e f = absurd (isnt (whole_place ws p) (whole_place ws q) e (ap (whole_place ws) (is_it p q f)))
      by false false e f = refl

  kept_same : (places : List ℕ) (p : ℕ) → AreWithin ws places → p < length ws →
      kept_place (whole_places ws places) (whole_place ws p) ≡ kept_place places p
  kept_same [] p within l = refl
  kept_same (x ∷ places) p within l =
      ap (λ z. cond (not z) (1 + kept_place (whole_places ws places) (whole_place ws p)) 0) (same_test x p (within 0 x refl) l)
      ∙ ap (λ (n : ℕ). cond (not (x == p)) (1 + n) 0) (kept_same places p (λ i q e. within (suc i) q e) l)

  whole_from : (places : List ℕ) (i q : ℕ) → slice_get (whole_places ws places) i ≡ Some q →
      (p : ℕ) × (slice_get places i ≡ Some p) × (whole_place ws p ≡ q)
  whole_from places i q e = by (slice_get places i) (sym (slice_get-map (whole_place ws) places i) ∙ e)
    where
      by : (o : Option ℕ) → option_map (whole_place ws) o ≡ Some q → (p : ℕ) × (o ≡ Some p) × (whole_place ws p ≡ q)
      by None e = cc
      by (Some p) e = (p, refl, same_Some (whole_place ws p) q e)

  one_same : (places : List ℕ) → AreWithin ws places → (p : ℕ) → IsKeptAt places p →
      kept_place (whole_places ws places) (whole_place ws p) ≡ kept_place places p
  one_same places within p w = kept_same places p within (within w.0 p w.1)

  cons_same : {a b : ℕ} {xs ys : List ℕ} → a ≡ b → xs ≡ ys → a ∷ xs ≡ b ∷ ys
  cons_same {a = a} {b = b} {xs = xs} {ys = ys} e f = ap (λ (z : ℕ). z ∷ xs) e ∙ ap (λ (zs : List ℕ). b ∷ zs) f

  pub named_same : (ops : List (Op ℕ)) (places : List ℕ) → AreWithin ws places → (reason : Reason) → NamesKept places reason →
      shown_of ops (in_kept (whole_places ws places) (whole_reason ws reason)) ≡ shown_of ops (in_kept places reason)
  named_same ops places within (Unwritten read) w = ap (λ (z : ℕ). shown_of ops (Unwritten z)) (one_same places within read w)
  named_same ops places within (Early read write) w =
      cons_same (one_same places within read w.0) (cons_same (one_same places within write w.1) refl)
  named_same ops places within (Stale before read) w =
      cons_same (one_same places within before w.0) (cons_same (one_same places within read w.1) refl)
  named_same ops places within (Crossed a b c d) w = cons_same (one_same places within a w.0) (cons_same (one_same places within b w.1)
      (cons_same (one_same places within c w.2) (cons_same (one_same places within d w.3) refl)))
  named_same ops places within (Limit refused) w = cons_same (one_same places within refused w) refl

  pub kept_rise : (places : List ℕ) → AreWithin ws places →
      Rise places → Rise (whole_places ws places)
  kept_rise places within own i j p q l ep e_q =
      let v = whole_from places i p ep in
      let w = whole_from places j q e_q in
      let less : whole_place ws v.0 < whole_place ws w.0 = whole_rise v.0 w.0 (own i j v.0 w.0 l v.1 w.1) (within j w.0 w.1) in
      let is_p : whole_place ws v.0 ≡ p = v.2 in
      let is_q : whole_place ws w.0 ≡ q = w.2 in
      omega (arith, less, is_p, is_q)

-- the small log of such operations, whose places in the whole log rise, is unlawful by the same rule
pub whole_told : (limit : ℕ) (log : List (Op ℕ)) (thinned : Thinned) (ws : List ℕ) (reason : Reason) → IsThinnedLog limit log thinned →
    Rise ws → length ws ≡ length log →
    IsUnlawful Equal 0 limit (one_term limit) log reason → NamesKept thinned.places reason →
    (again : Reason) × (rule_of again ≡ rule_of reason) × IsUnlawful Equal 0 limit (one_term limit)
    (told_ops (small_lines (whole_thinned ws thinned) (whole_reason ws reason))
    (small_ops (whole_thinned ws thinned) (whole_reason ws reason))) again
whole_told limit log thinned ws reason is rise long unlawful kept =
    let ops = thinned.history.ops in
    let own = shown_in thinned reason in
    let places = whole_places ws thinned.places in
    let lines = are_lines ops own places (length-map thinned.places (whole_place ws) ∙ is.kept.long)
    (kept_rise ws rise thinned.places kept_within is.kept.rise) in
    let P : List ℕ → Type 0 = λ named. (again : Reason) × (rule_of again ≡ rule_of reason)
    × IsUnlawful Equal 0 limit (one_term limit)
    (told_ops (lines_of ops named places (length ops)) (named_of ops named (length ops))) again in
    subst P (sym (named_same ws rise ops thinned.places kept_within reason kept))
    (unlawful_told limit log thinned is reason (lines_of ops own places (length ops)) lines kept unlawful)
  where
    kept_within : (i q : ℕ) → slice_get thinned.places i ≡ Some q → q < length ws
    kept_within i q e = elim (slice_get_cases thinned.history.ops i).1 [
      | inl w ↦
          let l : q < length log = slice_get_within log q w.0 (is.kept.are i q w.0 e w.2) in
          omega (arith, l, long)
      | inr past ↦
          let le : length thinned.history.ops ≤ i = past.0 in
          let l : i < length thinned.places = slice_get_within thinned.places i q e in
          let same : length thinned.places ≡ length thinned.history.ops = is.kept.long in
          absurd (omega (arith, le, l, same))
    ]
