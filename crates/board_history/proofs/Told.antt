-- The steps of calls, and what they told.
use Rattle.std.proofs.Common.{◌≡◌, ℕ, zero, suc, ◌+◌, ◌-◌, ◌*◌, ◌<◌, ◌≤◌, List, [], ◌∷◌, ◌++◌, length, slice_get, Some}
use Rattle.std.proofs.Common.{Bool, true, false, refl, sym, ◌∙◌, ap, arith}
use Rattle.std.specs.Prelude.{if◌then◌else◌}
use Rattle.std.proofs.lemmas.Option.{none-some, same_Some}
use Rattle.history_core.proofs.Played.{later_operation}
use Rattle.matrix_core.specs.declared.stamp.Stamped.{Stamped}
use Rattle.board_history.specs.BoardRuns.{Called, records, steps_before, steps_of_call, told}

abbrev pub one_if : Bool → ℕ
one_if b = if b then 1 else 0

-- a call has at least the steps of its column
pub column_steps : (width n : ℕ) (tells finds : Bool) → (n - 1) * width ≤ steps_of_call width n tells finds
column_steps width n true finds = omega arith
column_steps width n false true = omega arith
column_steps width n false false = omega arith

pub line_some : (width n : ℕ) → 2 ≤ n → 0 < width → 0 < (n - 1) * width
line_some width n two some = let l : 0 * width + width ≤ (n - 1) * width = later_operation width 0 (n - 1) (omega arith) in omega arith

module _ {V : Type 0} (width n : ℕ) where
  pub steps_next : (calls : List (Called V)) (k : ℕ) (c : Called V) → slice_get calls k ≡ Some c →
      steps_before width n calls (suc k) ≡ steps_before width n calls k + steps_of_call width n c.tells c.finds
  steps_next [] k c e = absurd (none-some c e)
  steps_next (d ∷ calls) zero c e =
      let s : steps_of_call width n d.tells d.finds ≡ steps_of_call width n c.tells c.finds =
      ap (λ (z : Called V). steps_of_call width n z.tells z.finds) (same_Some d c e) in
      let z : steps_before width n calls 0 ≡ 0 = zero_steps calls in
      omega arith
    where
      zero_steps : (calls : List (Called V)) → steps_before width n calls 0 ≡ 0
      zero_steps [] = refl
      zero_steps (x ∷ xs) = refl
  steps_next (d ∷ calls) (suc k) c e =
      let r : steps_before width n calls (suc k) ≡ steps_before width n calls k + steps_of_call width n c.tells c.finds =
      steps_next calls k c e in
      omega arith

  -- earlier calls have their steps before
  pub steps_rise : (calls : List (Called V)) (k m : ℕ) → k ≤ m → steps_before width n calls k ≤ steps_before width n calls m
  steps_rise [] zero zero l = omega arith
  steps_rise [] zero (suc m) l = omega arith
  steps_rise [] (suc k) zero l = absurd (omega arith)
  steps_rise [] (suc k) (suc m) l = omega arith
  steps_rise (c ∷ calls) zero zero l = omega arith
  steps_rise (c ∷ calls) zero (suc m) l = omega arith
  steps_rise (c ∷ calls) (suc k) zero l = absurd (omega arith)
  steps_rise (c ∷ calls) (suc k) (suc m) l =
      let r : steps_before width n calls k ≤ steps_before width n calls m = steps_rise calls k m (omega arith) in omega arith

  -- one call more keeps the steps of those before, and adds its own
  pub steps_stay : (calls : List (Called V)) (c : Called V) (k : ℕ) → k ≤ length calls →
      steps_before width n (calls ++ c ∷ []) k ≡ steps_before width n calls k
  steps_stay [] c zero l = refl
  steps_stay [] c (suc k) l = absurd (omega arith)
  steps_stay (d ∷ calls) c zero l = refl
  steps_stay (d ∷ calls) c (suc k) l = ap (λ z. steps_of_call width n d.tells d.finds + z) (steps_stay calls c k (omega arith))

module _ {V : Type 0} where
  pub told_next : (calls : List (Called V)) (k : ℕ) (c : Called V) → slice_get calls k ≡ Some c →
      told calls (suc k) ≡ told calls k + one_if c.tells
  told_next [] k c e = absurd (none-some c e)
  told_next (d ∷ calls) zero c e =
      let s : one_if d.tells ≡ one_if c.tells = ap (λ (z : Called V). one_if z.tells) (same_Some d c e) in
      let z : told calls 0 ≡ 0 = zero_told calls in
      omega arith
    where
      zero_told : (calls : List (Called V)) → told calls 0 ≡ 0
      zero_told [] = refl
      zero_told (x ∷ xs) = refl
  told_next (d ∷ calls) (suc k) c e =
      let r : told calls (suc k) ≡ told calls k + one_if c.tells = told_next calls k c e in omega arith

  pub told_rises : (calls : List (Called V)) (k m : ℕ) → k ≤ m → told calls k ≤ told calls m
  told_rises [] zero zero l = omega arith
  told_rises [] zero (suc m) l = omega arith
  told_rises [] (suc k) zero l = absurd (omega arith)
  told_rises [] (suc k) (suc m) l = omega arith
  told_rises (c ∷ calls) zero zero l = omega arith
  told_rises (c ∷ calls) zero (suc m) l = omega arith
  told_rises (c ∷ calls) (suc k) zero l = absurd (omega arith)
  told_rises (c ∷ calls) (suc k) (suc m) l =
      let r : told calls k ≤ told calls m = told_rises calls k m (omega arith) in omega arith

  pub told_stays : (calls : List (Called V)) (c : Called V) (k : ℕ) → k ≤ length calls → told (calls ++ c ∷ []) k ≡ told calls k
  told_stays [] c zero l = refl
  told_stays [] c (suc k) l = absurd (omega arith)
  told_stays (d ∷ calls) c zero l = refl
  told_stays (d ∷ calls) c (suc k) l = ap (λ z. one_if d.tells + z) (told_stays calls c k (omega arith))

  -- one call more adds its record where it tells it
  pub records_more : (calls : List (Called V)) (c : Called V) → c.tells ≡ true → records (calls ++ c ∷ []) ≡ records calls ++ c.chosen ∷ []
  records_more [] c t = ap (λ b. if b then c.chosen ∷ [] else []) t
  records_more (d ∷ calls) c t = more d.tells (records_more calls c t)
    where
      more : (b : Bool) → records (calls ++ c ∷ []) ≡ records calls ++ c.chosen ∷ [] →
          (if b then d.chosen ∷ records (calls ++ c ∷ []) else records (calls ++ c ∷ []))
          ≡ (if b then d.chosen ∷ records calls else records calls) ++ c.chosen ∷ []
      more true r = ap (λ ys. d.chosen ∷ ys) r
      more false r = r

  pub records_same : (calls : List (Called V)) (c : Called V) → c.tells ≡ false → records (calls ++ c ∷ []) ≡ records calls
  records_same [] c t = ap (λ b. if b then c.chosen ∷ [] else []) t
  records_same (d ∷ calls) c t = ap (λ ys. if d.tells then d.chosen ∷ ys else ys) (records_same calls c t)

  pub records_long : (calls : List (Called V)) → length (records calls) ≡ told calls (length calls)
  records_long [] = refl
  records_long (d ∷ calls) = long d.tells (records_long calls)
    where
      long : (b : Bool) → length (records calls) ≡ told calls (length calls) →
          length (if b then d.chosen ∷ records calls else records calls) ≡ one_if b + told calls (length calls)
      long true r = omega arith
      long false r = omega arith

  -- whose record it is
  pub record IsTold (calls : List (Called V)) (x : ℕ) (r : Stamped V) : Type 0 where
    pub number : ℕ
    pub call : Called V
    pub there : slice_get calls number ≡ Some call
    pub tells : call.tells ≡ true
    pub count : told calls number ≡ x
    pub chosen : call.chosen ≡ r

  pub told_by : (calls : List (Called V)) (x : ℕ) (r : Stamped V) → slice_get (records calls) x ≡ Some r → IsTold calls x r
  told_by [] x r e = absurd (none-some r e)
  told_by (c ∷ calls) x r e = by_case c.tells refl x e (λ y e. told_by calls y r e)
    where
      later : (b : Bool) → c.tells ≡ b → (y x : ℕ) → one_if b + y ≡ x → IsTold calls y r → IsTold (c ∷ calls) x r
      later b t y x q w = record {
        number = suc w.number;
        call = w.call;
        there = w.there;
        tells = w.tells;
        count = ap (λ z. one_if z + told calls w.number) t ∙ ap (λ z. one_if b + z) w.count ∙ q;
        chosen = w.chosen;
      }

      by_case : (b : Bool) → c.tells ≡ b → (x : ℕ) → slice_get (if b then c.chosen ∷ records calls else records calls) x ≡ Some r →
          ((y : ℕ) → slice_get (records calls) y ≡ Some r → IsTold calls y r) → IsTold (c ∷ calls) x r
      by_case true t zero e f = record { number = 0; call = c; there = refl; tells = t; count = refl; chosen = same_Some c.chosen r e }
      by_case true t (suc y) e f = later true t y (suc y) (omega arith) (f y e)
      by_case false t x e f = later false t x x (omega arith) (f x e)
