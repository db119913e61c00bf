-- The writes that an operation could see, by precedence.
use Rattle.std.proofs.Common.{◌≡◌, ℕ, ◌+◌, ◌<◌, ◌≤◌, zero, suc, Bool, true, false, List, [], ◌∷◌, ◌++◌, slice_get}
use Rattle.std.proofs.Common.{Option, None, Some, ◌⊎◌, inl, inr, refl, sym, ◌∙◌, ap, subst, arith}
use Rattle.std.specs.Prelude.{◌&&◌, not, nat_lt, IsSomeAnd, if◌then◌else◌, unwrap_or}
use Rattle.std.proofs.lemmas.Bool.{cases_lt}
use Rattle.std.proofs.lemmas.Bool.Decides.{nat_tests}
use Rattle.std.proofs.lemmas.Option.{same_Some}
use Rattle.history_core.specs.declared.history.Op.{Op}
use Rattle.history_core.specs.Orders.{is_write, Precedes}
use Rattle.reason_sentences.specs.Seen.{could_see, had_ended, is_before, is_seen, last_begin, later_begin, one_seen, seen_by, seen_from}
use Rattle.order_laws.specs.Regular.{IsVisible}

both : (a b : Bool) → (a && b) ≡ true → (a ≡ true) × (b ≡ true)
both true b t = (refl, t)
both false b t = cc

all_of : (a b c : Bool) → a ≡ true → b ≡ true → c ≡ true → (a && (b && c)) ≡ true
all_of true true true x y z = refl
all_of true true false x y z = cc
all_of true false c x y z = cc
all_of false b c x y z = cc

isnt : (a : Bool) → not a ≡ true → a ≡ true → ⊥
isnt true n t = cc
isnt false n t = cc

unless : (a : Bool) → (a ≡ true → ⊥) → not a ≡ true
unless true n = absurd (n refl)
unless false n = refl

ended : (moment : ℕ) (end : Option ℕ) → is_before end moment ≡ true → IsSomeAnd end (λ e. e < moment)
ended moment None t = cc
ended moment (Some e) t = grind (arith, nat_tests)

is_ended : (moment : ℕ) (end : Option ℕ) → IsSomeAnd end (λ e. e < moment) → is_before end moment ≡ true
is_ended moment None h = absurd h
is_ended moment (Some e) h = grind (arith, nat_tests)

and_true : (a b : Bool) → a ≡ true → b ≡ true → (a && b) ≡ true
and_true true b x y = y
and_true false b x y = cc

-- a moment later is one before which more had ended
later : (end : Option ℕ) (a b : ℕ) → IsSomeAnd end (λ e. e < a) → a ≤ b → IsSomeAnd end (λ e. e < b)
later None a b h le = absurd h
later (Some e) a b h le = omega (arith, h, le)

-- nothing ended before all moments
never : (end : Option ℕ) → IsSomeAnd end (λ e. e < 0) → ⊥
never None h = absurd h
never (Some e) h = absurd (omega (arith, h))

-- ---- when the last began

module _ (moment : ℕ) where
  no_sooner : (last : ℕ) (o : Op ℕ) → last ≤ later_begin moment last o
  no_sooner last o = by (had_ended moment o) (nat_lt last o.starts) refl
    where
      by : (a b : Bool) → nat_lt last o.starts ≡ b → last ≤ (if a && b then o.starts else last)
      by true true t = let l : last < o.starts = grind (arith, nat_tests) in omega (arith, l)
      by true false t = omega arith
      by false b t = omega arith

  at_least : (last : ℕ) (ops : List (Op ℕ)) → last ≤ last_begin moment last ops
  at_least last [] = omega arith
  at_least last (o ∷ ops) = let a = no_sooner last o in let b = at_least (later_begin moment last o) ops in omega (arith, a, b)

  takes_in : (last : ℕ) (o : Op ℕ) → had_ended moment o ≡ true → o.starts ≤ later_begin moment last o
  takes_in last o t = by (had_ended moment o) (nat_lt last o.starts) t refl
    where
      by : (a b : Bool) → a ≡ true → nat_lt last o.starts ≡ b → o.starts ≤ (if a && b then o.starts else last)
      by true true x t = omega arith
      by true false x t = let le : o.starts ≤ last = grind (arith, nat_tests) in omega (arith, le)
      by false b x t = cc

  -- no such write began later
  pub none_later : (last : ℕ) (ops : List (Op ℕ)) (q : ℕ) (w : Op ℕ) → slice_get ops q ≡ Some w → had_ended moment w ≡ true →
      w.starts ≤ last_begin moment last ops
  none_later last [] q w e t = cc
  none_later last (o ∷ ops) zero w e t =
      let same : o ≡ w = same_Some o w e in
      let a : o.starts ≤ later_begin moment last o = takes_in last o (ap (had_ended moment) same ∙ t) in
      let b = at_least (later_begin moment last o) ops in
      let s : o.starts ≡ w.starts = ap (λ (x : Op ℕ). x.starts) same in
      omega (arith, a, b, s)
  none_later last (o ∷ ops) (suc q) w e t = none_later (later_begin moment last o) ops q w e t

  -- it is that of such a write, or the one that was given
  abbrev pub IsFrom : ℕ → List (Op ℕ) → ℕ → Type 0
  IsFrom last ops found = (found ≡ last)
      ⊎ ((q : ℕ) × (w : Op ℕ) × (slice_get ops q ≡ Some w) × (had_ended moment w ≡ true) × (found ≡ w.starts))

  step_from : (last : ℕ) (o : Op ℕ) → (later_begin moment last o ≡ last)
      ⊎ ((had_ended moment o ≡ true) × (later_begin moment last o ≡ o.starts))
  step_from last o = by (had_ended moment o) (nat_lt last o.starts) refl
    where
      by : (a b : Bool) → had_ended moment o ≡ a → ((if a && b then o.starts else last) ≡ last)
          ⊎ ((had_ended moment o ≡ true) × ((if a && b then o.starts else last) ≡ o.starts))
      by true true t = inr (t, refl)
      by true false t = inl refl
      by false b t = inl refl

  pub is_from : (last : ℕ) (ops : List (Op ℕ)) → IsFrom last ops (last_begin moment last ops)
  is_from last [] = inl refl
  is_from last (o ∷ ops) = elim (is_from (later_begin moment last o) ops) [
    | inl same ↦ elim (step_from last o) [
      | inl stays ↦ inl (same ∙ stays)
      | inr taken ↦ inr (zero, o, refl, taken.0, same ∙ taken.1)
    ]
    | inr w ↦ inr (suc w.0, w.1, w.2, w.3, w.4)
  ]

-- ---- which are seen

module _ (last end : ℕ) where
  pub seen_is : (p : ℕ) (ops : List (Op ℕ)) (i s : ℕ) → slice_get (seen_from last end p ops) i ≡ Some s →
      (j : ℕ) × (o : Op ℕ) × (slice_get ops j ≡ Some o) × (s ≡ p + j) × (is_seen last end o ≡ true)
  seen_is p [] i s e = cc
  seen_is p (o ∷ ops) i s e = by (is_seen last end o) refl i e
      (λ k f. let w = seen_is (p + 1) ops k s f in let at = w.3 in (suc w.0, w.1, w.2, omega (arith, at), w.4))
    where
      Is : Type 0
      Is = (j : ℕ) × (a : Op ℕ) × (slice_get (o ∷ ops) j ≡ Some a) × (s ≡ p + j) × (is_seen last end a ≡ true)

      by : (b : Bool) → is_seen last end o ≡ b → (i : ℕ) →
          slice_get ((if b then p ∷ [] else []) ++ seen_from last end (p + 1) ops) i ≡ Some s →
          ((k : ℕ) → slice_get (seen_from last end (p + 1) ops) k ≡ Some s → Is) → Is
      by true t zero e behind = let same : p ≡ s = same_Some p s e in (zero, o, refl, omega (arith, same), t)
      by true t (suc i) e behind = behind i e
      by false t i e behind = behind i e

  pub is_in_seen : (p : ℕ) (ops : List (Op ℕ)) (j : ℕ) (o : Op ℕ) → slice_get ops j ≡ Some o → is_seen last end o ≡ true →
      (i : ℕ) × (slice_get (seen_from last end p ops) i ≡ Some (p + j))
  is_in_seen p [] j o e t = cc
  is_in_seen p (a ∷ ops) zero o e t = by (is_seen last end a) (ap (is_seen last end) (same_Some a o e) ∙ t)
    where
      by : (b : Bool) → b ≡ true → (i : ℕ) × (slice_get ((if b then p ∷ [] else []) ++ seen_from last end (p + 1) ops) i ≡ Some (p + 0))
      by true t = (zero, ap Some (omega arith))
      by false t = cc
  is_in_seen p (a ∷ ops) (suc j) o e t =
      let w = is_in_seen (p + 1) ops j o e t in
      let same : p + 1 + j ≡ p + suc j = omega arith in
      by (is_seen last end a) w.0 (w.1 ∙ ap Some same)
    where
      by : (b : Bool) (i : ℕ) → slice_get (seen_from last end (p + 1) ops) i ≡ Some (p + suc j) →
          (i : ℕ) × (slice_get ((if b then p ∷ [] else []) ++ seen_from last end (p + 1) ops) i ≡ Some (p + suc j))
      by true i e = (suc i, e)
      by false i e = (i, e)

-- ---- what is seen is visible

module _ (ops : List (Op ℕ)) (read : Op ℕ) (end : ℕ) where
  abbrev last : ℕ
  last = last_begin read.starts 0 ops

  had : (w : Op ℕ) → is_write w.kind ≡ true → Precedes w read → had_ended read.starts w ≡ true
  had w t before = and_true (is_write w.kind) (is_before w.ends read.starts) t (is_ended read.starts w.ends before)

  pub visible : (o : Op ℕ) → is_seen last end o ≡ true → IsVisible ops end read o
  visible o t =
      let w = both (is_write o.kind) (not (nat_lt end o.starts) && not (had_ended last o)) t in
      let v = both (not (nat_lt end o.starts)) (not (had_ended last o)) w.1 in
      let still = v.0 in
      record {
        writes = w.0;
        begun = by (nat_lt end o.starts) refl still;
        last = λ q other at writes first second.
            let least : other.starts ≤ last = none_later read.starts 0 ops q other at (had other writes second) in
            isnt (had_ended last o) v.1 (and_true (is_write o.kind) (is_before o.ends last) w.0
            (is_ended last o.ends (later o.ends other.starts last first least)));
      }
    where
      by : (b : Bool) → nat_lt end o.starts ≡ b → not b ≡ true → o.starts ≤ end
      by true t n = cc
      by false t n = grind (arith, nat_tests)

  pub seen : (o : Op ℕ) → IsVisible ops end read o → is_seen last end o ≡ true
  seen o v = all_of (is_write o.kind) (not (nat_lt end o.starts)) (not (had_ended last o)) v.writes
      (unless (nat_lt end o.starts) past) (unless (had_ended last o) old)
    where
      past : nat_lt end o.starts ≡ true → ⊥
      past t = let l : end < o.starts = grind (arith, nat_tests) in let le = v.begun in absurd (omega (arith, l, le))

      old : had_ended last o ≡ true → ⊥
      old t =
          let before = ended last o.ends (both (is_write o.kind) (is_before o.ends last) t).1 in
          elim (is_from read.starts 0 ops) [
            | inl none ↦ absurd (never o.ends (later o.ends last 0 before (let e : last ≡ 0 = none in omega (arith, e))))
            | inr w ↦
                let had = both (is_write w.1.kind) (is_before w.1.ends read.starts) w.3 in
                let le : last ≤ w.1.starts = let e : last ≡ w.1.starts = w.4 in omega (arith, e) in
                v.last w.0 w.1 w.2 had.0 (later o.ends last w.1.starts before le) (ended read.starts w.1.ends had.1)
          ]
