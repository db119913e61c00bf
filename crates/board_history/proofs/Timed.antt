-- When calls so far begin, choose and end, if they do: the steps of a process rise, and those of two processes are never at one time.
use Rattle.std.proofs.Common.{◌≡◌, true, ℕ, suc, ◌+◌, ◌-◌, ◌*◌, ◌<◌, ◌≤◌, List, length, slice_get, Some}
use Rattle.std.proofs.Common.{sym, ◌∙◌, ap, subst, arith, inl, inr}
use Rattle.std.proofs.lemmas.Bool.{cases_eq, cases_order}
use Rattle.std.proofs.lemmas.Option.{same_Some, slice_get_within}
use Rattle.history_core.specs.Schedules.{positions}
use Rattle.history_core.proofs.Positions.{position_actor, position_once, positions_rise}
use Rattle.matrix_core.specs.Lines.{first_record}
use Rattle.matrix_core.proofs.lists.Elements.{get_exists}
use Rattle.board_history.specs.BoardRuns.{Called, Did, end_of, steps_before, steps_of_call}
use Rattle.board_history.specs.RunsSoFar.{IsBoardRunSoFar}
use Rattle.board_history.proofs.Told.{column_steps, line_some, steps_next, steps_rise}

module _ {V : Type 0} (width n limit : ℕ) (opening : V) (steps : List ℕ) (did : ℕ → Did V)
    (run : IsBoardRunSoFar width n limit (first_record opening) steps did) where
  -- a step of a call is there, at its position
  pub step_is : (i index : ℕ) → i < n → slice_get (positions 1 i steps) index ≡ slice_get (did i).times index
  step_is i index l = ap (λ ts. slice_get ts index) (sym (run.scheduled i l))

  pub times_rise : (i a b s t : ℕ) → i < n → slice_get (did i).times a ≡ Some s → slice_get (did i).times b ≡ Some t → a < b → s < t
  times_rise i a b s t l ea eb lt = positions_rise 1 i steps a b s t (step_is i a l ∙ ea) (step_is i b l ∙ eb) lt

  pub times_at_most : (i a b s t : ℕ) → i < n → slice_get (did i).times a ≡ Some s → slice_get (did i).times b ≡ Some t → a ≤ b → s ≤ t
  times_at_most i a b s t l ea eb le = elim (cases_eq a b) [
    | inl e ↦ let q : s ≡ t = same_Some s t (sym ea ∙ ap (slice_get (did i).times) e ∙ eb) in omega arith
    | inr ne ↦ let r : s < t = times_rise i a b s t l ea eb (omega arith) in omega arith
  ]

  pub times_once : (i j a b t : ℕ) → i < n → j < n → slice_get (did i).times a ≡ Some t →
      slice_get (did j).times b ≡ Some t → (i ≡ j) × (a ≡ b)
  times_once i j a b t li lj ea eb =
      let pa : slice_get (positions 1 i steps) a ≡ Some t = step_is i a li ∙ ea in
      let pb : slice_get (positions 1 j steps) b ≡ Some t = step_is j b lj ∙ eb in
      let who : i ≡ j = position_actor 1 i j steps a b t pa pb in
      (who, position_once 1 i steps a b t pa (subst (λ z. slice_get (positions 1 z steps) b ≡ Some t) (sym who) pb))

  -- the first step of a call
  abbrev pub at : ℕ → ℕ → ℕ
  at i k = steps_before width n (did i).calls k

  pub line : 0 < (n - 1) * width
  line = line_some width n run.size.0 run.size.2

  pub at_next : (i k : ℕ) (c : Called V) → slice_get (did i).calls k ≡ Some c →
      at i (suc k) ≡ at i k + steps_of_call width n c.tells c.finds
  at_next i k c e = steps_next width n (did i).calls k c e

  pub at_least : (i k : ℕ) (c : Called V) → slice_get (did i).calls k ≡ Some c → at i k + (n - 1) * width ≤ at i (suc k)
  at_least i k c e =
      let s = at_next i k c e in
      let l : (n - 1) * width ≤ steps_of_call width n c.tells c.finds = column_steps width n c.tells c.finds in
      omega arith

  pub at_tells : (i k : ℕ) (c : Called V) → slice_get (did i).calls k ≡ Some c → c.tells ≡ true →
      at i (suc k) ≡ at i k + ((n - 1) * width + (n - 1) * width)
  at_tells i k c e t = at_next i k c e ∙ ap (λ b. at i k + steps_of_call width n b c.finds) t

  pub at_rises : (i k m : ℕ) → k ≤ m → at i k ≤ at i m
  at_rises i k m l = steps_rise width n (did i).calls k m l

  pub begins : (i k : ℕ) (c : Called V) → i < n → slice_get (did i).calls k ≡ Some c → slice_get (did i).times (at i k) ≡ Some c.begin
  begins i k c l e = (run.each i l).begun k c e

  -- the last step of its column, at which a call chooses
  pub chooses_at : (i k : ℕ) (c : Called V) → i < n → slice_get (did i).calls k ≡ Some c →
      (t : ℕ) × (slice_get (did i).times (at i k + ((n - 1) * width - 1)) ≡ Some t)
  chooses_at i k c l e = (run.each i l).chose k c e

  -- the time at which a call ended is that of its last step
  pub ends : (i k : ℕ) (c : Called V) → slice_get (did i).calls k ≡ Some c →
      slice_get (did i).times (at i (suc k) - 1) ≡ end_of width n (did i) k c
  ends i k c e =
      let s : at i (suc k) ≡ at i k + steps_of_call width n c.tells c.finds = at_next i k c e in
      let m : (n - 1) * width ≤ steps_of_call width n c.tells c.finds = column_steps width n c.tells c.finds in
      let p : 0 < (n - 1) * width = line in
      ap (slice_get (did i).times) (let q : at i (suc k) - 1 ≡ at i k + (steps_of_call width n c.tells c.finds - 1) = omega arith in q)

  -- a call begins no later than it ends
  pub lasts : (i k end : ℕ) (c : Called V) → i < n → slice_get (did i).calls k ≡ Some c → end_of width n (did i) k c ≡ Some end →
      c.begin ≤ end
  lasts i k end c l e f =
      let a : at i k + (n - 1) * width ≤ at i (suc k) = at_least i k c e in
      let p : 0 < (n - 1) * width = line in
      times_at_most i (at i k) (at i (suc k) - 1) c.begin end l (begins i k c l e) (ends i k c e ∙ f) (omega arith)

  -- of one process the call with the smaller number has ended before the other begins
  pub in_turn : (i k m : ℕ) (c d : Called V) → i < n → slice_get (did i).calls k ≡ Some c → slice_get (did i).calls m ≡ Some d → k < m →
      (end : ℕ) × (end_of width n (did i) k c ≡ Some end) × (end < d.begin)
  in_turn i k m c d l ec ed lt =
      let a : at i k + (n - 1) * width ≤ at i (suc k) = at_least i k c ec in
      let b : at i (suc k) ≤ at i m = at_rises i (suc k) m (omega arith) in
      let p : 0 < (n - 1) * width = line in
      let begun : slice_get (did i).times (at i m) ≡ Some d.begin = begins i m d l ed in
      let inside : at i m < length (did i).times = slice_get_within (did i).times (at i m) d.begin begun in
      let t = get_exists (did i).times (at i (suc k) - 1) (omega arith) in (
        t.0,
        sym (ends i k c ec) ∙ t.1,
        times_rise i (at i (suc k) - 1) (at i m) t.0 d.begin l t.1 begun (omega arith),
      )

  -- calls that begin at one time are one
  pub begin_once : (i j k m : ℕ) (c d : Called V) → i < n → j < n → slice_get (did i).calls k ≡ Some c →
      slice_get (did j).calls m ≡ Some d →
      c.begin ≡ d.begin → (i ≡ j) × (k ≡ m)
  begin_once i j k m c d li lj ec ed same =
      let o = times_once i j (at i k) (at j m) c.begin li lj (begins i k c li ec) (begins j m d lj ed ∙ ap Some (sym same)) in
      let ed' : slice_get (did i).calls m ≡ Some d = subst (λ z. slice_get (did z).calls m ≡ Some d) (sym o.0) ed in
      let same' : at i k ≡ at i m = o.1 ∙ ap (λ z. at z m) (sym o.0) in
      let p : 0 < (n - 1) * width = line in (
        o.0,
        elim (cases_order k m) [
          | inl e ↦ e
          | inr (inl lt) ↦
              let a : at i k + (n - 1) * width ≤ at i (suc k) = at_least i k c ec in
              let b : at i (suc k) ≤ at i m = at_rises i (suc k) m (omega arith) in absurd (omega arith)
          | inr (inr lt) ↦
              let a : at i m + (n - 1) * width ≤ at i (suc m) = at_least i m d ed' in
              let b : at i (suc m) ≤ at i k = at_rises i (suc m) k (omega arith) in absurd (omega arith)
        ],
      )
