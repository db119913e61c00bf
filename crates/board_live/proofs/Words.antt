-- A process keeps its word: what it said and found stays so with more steps and with more calls. So what a call found to be told was told.
use Rattle.std.proofs.Common.{◌≡◌, ◌⊎◌, ℕ, suc, ◌+◌, ◌-◌, ◌*◌, ◌<◌, ◌≤◌, List, [], ◌∷◌, ◌++◌, length, slice_get, Some, true, false}
use Rattle.std.proofs.Common.{refl, sym, ◌∙◌, ap, subst, arith, inl, inr, append-nil}
use Rattle.std.proofs.lemmas.Bool.{cases_eq, cases_lt}
use Rattle.std.proofs.lemmas.Option.{none-some, same_Some, slice_get_within}
use Rattle.history_core.proofs.Places.{get_after, get_before, get_pushed_cases}
use Rattle.cell_contract.specs.declared.said.Said.{Said}
use Rattle.cell_contract.specs.declared.said.Found.{Found}
use Rattle.cell_contract.specs.Ends.{WasSaid}
use Rattle.matrix_core.specs.declared.stamp.Stamp.{Stamp}
use Rattle.matrix_core.specs.Choices.{IsAtMost}
use Rattle.matrix_core.proofs.choices.Stamps.{stamp_same}
use Rattle.board_history.specs.BoardRuns.{Called, Did, end_among, end_of, steps_before, steps_of_call, WasTold}
use Rattle.board_history.proofs.Growing.{not_both}
use Rattle.board_history.proofs.Told.{column_steps, line_some, steps_next, steps_rise, steps_stay}
use Rattle.board_live.specs.Plans.{KeepsItsWord, WasTrue}

-- an element of one list after another is of the first or of the second
get_both : {A : Type 0} (xs ys : List A) (x : ℕ) (a : A) → slice_get (xs ++ ys) x ≡ Some a →
    (slice_get xs x ≡ Some a) ⊎ ((y : ℕ) × (slice_get ys y ≡ Some a))
get_both xs ys x a e = elim (cases_lt x (length xs)) [
  | inl l ↦ inl (sym (get_before xs ys x l) ∙ e)
  | inr ge ↦
      let at : length xs + (x - length xs) ≡ x = omega arith in
      inr (x - length xs, sym (get_after xs ys (x - length xs)) ∙ ap (slice_get (xs ++ ys)) at ∙ e)
]

get_first : {A : Type 0} (xs ys : List A) (x : ℕ) (a : A) → slice_get xs x ≡ Some a → slice_get (xs ++ ys) x ≡ Some a
get_first xs ys x a e = get_before xs ys x (slice_get_within xs x a e) ∙ e

module _ {V : Type 0} (width n process : ℕ) (two : 2 ≤ n) (some : 0 < width) (times steps : List ℕ) (calls : List (Called V))
    (long : length times ≡ steps_before width n calls (length calls)) where
  -- the last step of a call that has ended is among the steps
  inside : (k : ℕ) (c : Called V) → slice_get calls k ≡ Some c →
      steps_before width n calls k + (steps_of_call width n c.tells c.finds - 1) < length times
  inside k c e =
      let l : k < length calls = slice_get_within calls k c e in
      let next : steps_before width n calls (suc k) ≡ steps_before width n calls k + steps_of_call width n c.tells c.finds =
      steps_next width n calls k c e in
      let room : steps_before width n calls (suc k) ≤ steps_before width n calls (length calls) =
      steps_rise width n calls (suc k) (length calls) (omega arith) in
      let line : 0 < (n - 1) * width = line_some width n two some in
      let least : (n - 1) * width ≤ steps_of_call width n c.tells c.finds = column_steps width n c.tells c.finds in
      omega arith

  end_later : (k : ℕ) (c : Called V) → slice_get calls k ≡ Some c →
      end_among width n (times ++ steps) calls k c ≡ end_among width n times calls k c
  end_later k c e =
      get_before times steps (steps_before width n calls k + (steps_of_call width n c.tells c.finds - 1)) (inside k c e)

  end_stays : (call : Called V) (k : ℕ) (c : Called V) → slice_get calls k ≡ Some c →
      end_among width n (times ++ steps) (calls ++ call ∷ []) k c ≡ end_among width n times calls k c
  end_stays call k c e =
      let l : k < length calls = slice_get_within calls k c e in
      ap (λ z. slice_get (times ++ steps) (z + (steps_of_call width n c.tells c.finds - 1))) (steps_stay width n calls call k (omega arith))
      ∙ end_later k c e

  true_later : (s : Said) → WasTrue width n process times calls s → WasTrue width n process (times ++ steps) calls s
  true_later s w = record {
    number = w.number;
    call = w.call;
    there = w.there;
    tells = w.tells;
    writer = w.writer;
    not_below = w.not_below;
    end = w.end;
    ended = end_later w.number w.call w.there ∙ w.ended;
    before = w.before;
  }

  true_stays : (call : Called V) (s : Said) → WasTrue width n process times calls s →
      WasTrue width n process (times ++ steps) (calls ++ call ∷ []) s
  true_stays call s w = record {
    number = w.number;
    call = w.call;
    there = get_first calls (call ∷ []) w.number w.call w.there;
    tells = w.tells;
    writer = w.writer;
    not_below = w.not_below;
    end = w.end;
    ended = end_stays call w.number w.call w.there ∙ w.ended;
    before = w.before;
  }

  -- more steps
  pub word_later : (said : List Said) (found : List Found) → KeepsItsWord width n process times calls said found →
      KeepsItsWord width n process (times ++ steps) calls said found
  word_later said found w = record {
    says = λ x s e. true_later s (w.says x s e);
    finds = λ k end c e t f g. w.finds k end c e t f (sym (end_later k c e) ∙ g);
  }

  -- one call more, and what it said and found
  pub word_more : (call : Called V) (said says : List Said) (found finds : List Found) →
      KeepsItsWord width n process times calls said found →
      ((x : ℕ) (s : Said) → slice_get says x ≡ Some s → WasTrue width n process (times ++ steps) (calls ++ call ∷ []) s) →
      ((end : ℕ) → call.tells ≡ false → call.finds ≡ true →
      end_among width n (times ++ steps) (calls ++ call ∷ []) (length calls) call ≡ Some end →
      (y : ℕ) × (slice_get finds y ≡ Some (record { who = call.chosen.stamp.writer; tag = call.chosen.stamp.tag; time = end }))) →
      KeepsItsWord width n process (times ++ steps) (calls ++ call ∷ []) (said ++ says) (found ++ finds)
  word_more call said says found finds w truly fresh = record {
    says = λ x s e. elim (get_both said says x s e) [
      | inl was ↦ true_stays call s (w.says x s was)
      | inr now ↦ truly now.0 s now.1
    ];
    finds = λ k end c e t f g. elim (get_pushed_cases calls call k c e) [
      | inl was ↦
          let y = w.finds k end c was t f (sym (end_stays call k c was) ∙ g) in
          (y.0, get_first found finds y.0 _ y.1)
      | inr now ↦
          let same : call ≡ c = now.1 in
          let y = fresh end (ap (λ (z : Called V). z.tells) same ∙ t) (ap (λ (z : Called V). z.finds) same ∙ f)
          (ap (λ (z : ℕ × Called V). end_among width n (times ++ steps) (calls ++ call ∷ []) z.0 z.1) (λ j. (sym now.0 j, same j)) ∙ g) in (
            length found + y.0,
            get_after found finds y.0 ∙ y.1
                ∙ ap (λ (z : Called V). Some (record { who = z.chosen.stamp.writer; tag = z.chosen.stamp.tag; time = end })) same,
          )
    ];
  }

  -- one call more, which tells
  pub word_told : (call : Called V) (said : List Said) (found : List Found) → call.tells ≡ true →
      KeepsItsWord width n process times calls said found →
      KeepsItsWord width n process (times ++ steps) (calls ++ call ∷ []) said found
  word_told call said found tells w =
      subst (λ (z : List Said × List Found). KeepsItsWord width n process (times ++ steps) (calls ++ call ∷ []) z.0 z.1)
      (λ j. (append-nil said j, append-nil found j))
      (word_more call said [] found [] w (λ x s e. absurd (none-some s e)) (λ end t f g. absurd (not_both call.tells tells t)))

module _ {V : Type 0} (width n process : ℕ) (times : List ℕ) (calls : List (Called V)) where
  -- of all that was said truly each part is
  pub word_fewer : (some said : List Said) (found : List Found) →
      ((x : ℕ) (s : Said) → slice_get some x ≡ Some s → slice_get said x ≡ Some s) →
      KeepsItsWord width n process times calls said found → KeepsItsWord width n process times calls some found
  word_fewer some said found part w = record { says = λ x s e. w.says x s (part x s e); finds = w.finds }

  pub word_said : (said : List Said) (found : List Found) (one : Said) → WasTrue width n process times calls one →
      KeepsItsWord width n process times calls said found → KeepsItsWord width n process times calls (said ++ one ∷ []) found
  word_said said found one truly w = record {
    says = λ x s e. elim (get_pushed_cases said one x s e) [
      | inl was ↦ w.says x s was
      | inr now ↦ subst (WasTrue width n process times calls) now.1 truly
    ];
    finds = w.finds;
  }

module _ {V : Type 0} (width n : ℕ) (run : ℕ → Did V) where
  -- what another process has been found to have said
  pub record IsTruthOf (f : Found) : Type 0 where
    pub who : f.who < n
    pub said : List Said
    pub found : List Found
    pub word : KeepsItsWord width n f.who (run f.who).times (run f.who).calls said found
    pub was : WasSaid said f

  at_least : (a b : Stamp) → a.tag ≤ b.tag → b.writer ≡ a.writer → IsAtMost a b
  at_least a b l same = elim (cases_eq a.tag b.tag) [
    | inl e ↦ inl (stamp_same a b e (sym same))
    | inr ne ↦ inr (inl (omega arith))
  ]

  -- so what a call found to be told was told
  pub told_then : (i k end : ℕ) (c : Called V) (said : List Said) (found : List Found) →
      KeepsItsWord width n i (run i).times (run i).calls said found →
      ((x : ℕ) (f : Found) → slice_get found x ≡ Some f → IsTruthOf f) → slice_get (run i).calls k ≡ Some c → c.tells ≡ false →
      c.finds ≡ true → end_of width n (run i) k c ≡ Some end → WasTold width n run c.chosen.stamp end
  told_then i k end c said found w truth e t f g =
      let y = w.finds k end c e t f g in
      let one : Found = record { who = c.chosen.stamp.writer; tag = c.chosen.stamp.tag; time = end } in
      let h : IsTruthOf one = truth y.0 one y.1 in
      let s : Said = h.was.1 in
      let v : WasTrue width n one.who (run one.who).times (run one.who).calls s = h.word.says h.was.0 s h.was.2 in
      let tag : c.chosen.stamp.tag ≤ s.tag = h.was.3 in
      let time : s.time < end = h.was.4 in
      let more : s.tag ≤ v.call.chosen.stamp.tag = v.not_below in
      let before : v.end ≤ s.time = v.before in
      record {
        who = one.who;
        number = v.number;
        call = v.call;
        inside = h.who;
        there = v.there;
        tells = v.tells;
        not_below = at_least c.chosen.stamp v.call.chosen.stamp (omega arith) v.writer;
        end = v.end;
        ended = v.ended;
        before = omega arith;
      }
