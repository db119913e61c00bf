-- A whole term of a composed board: each operation that chose saw the answers of the cells of its column.
use Rattle.std.proofs.Common.{◌≡◌, ℕ, ◌+◌, ◌-◌, ◌*◌, ◌/◌, ◌<◌, ◌≤◌, List, [], ◌∷◌, ◌++◌, length, take, replicate, slice_get}
use Rattle.std.proofs.Common.{Some, Bool, true, false, refl, sym, subst, ◌∙◌, ap, arith, inl, inr, append-nil}
use Rattle.std.proofs.Common.{append_assoc}
use Rattle.std.specs.Prelude.{nat_lt, if◌then◌else◌}
use Rattle.std.proofs.lemmas.Bool.{cases_lt}
use Rattle.std.proofs.lemmas.Bool.Decides.{nat_tests}
use Rattle.std.proofs.lemmas.List.{length-replicate, length_push, take_at}
use Rattle.history_core.specs.declared.history.Kind.{Kind}
use Rattle.history_core.specs.declared.history.Kind.TheVariants.{Write as WriteKind, Refused as RefusedKind}
use Rattle.matrix_core.specs.declared.progress.Outcome.{Outcome}
use Rattle.matrix_core.specs.declared.progress.Outcome.TheVariants.{Written, Ended}
use Rattle.history_core.specs.declared.wish.Wish.{Wish}
use Rattle.history_core.specs.declared.wish.Wish.TheVariants.{Write, Read}
use Rattle.history_core.specs.Schedules.{Overruns, planned, Span, steps_of}
use Rattle.history_core.proofs.Folds.{fold_keeps_all}
use Rattle.history_core.proofs.Overruns.{operation_number, planned_next}
use Rattle.matrix_core.specs.declared.stamp.Stamped.{Stamped}
use Rattle.matrix_core.specs.declared.progress.Progress.{Progress}
use Rattle.matrix_core.specs.Choices.{Choice, ChoosesByKind}
use Rattle.matrix_core.specs.Lines.{choice, first_record, opening_line}
use Rattle.composed_play.specs.Boards.{noise_record, SeesCells}
use Rattle.composed_play.specs.BoardEvents.{after_event, Board, opening_board}
use Rattle.matrix_core.proofs.terms.Kinds.{kind_chosen}
use Rattle.composed_play.specs.BoardSteps.{board_after, board_on, chosen_in, own_at, wish_after, wish_or_read}
use Rattle.matrix_core.specs.Lines.{own_or}
use Rattle.composed_play.proofs.boards.Outcomes.{outcome_at, outcome_in}
use Rattle.matrix_core.proofs.terms.Kinds.{outcome_or}
use Rattle.matrix_core.specs.ByAccesses.{chooses_at, IsCut}
use Rattle.four_slot_core.specs.Events.{opening_state}
use Rattle.composed_play.proofs.boards.TraceSteps.{board_step}
use Rattle.composed_play.proofs.boards.Traces.{IsAt, IsLineAt, Saw}
use Rattle.matrix_core.proofs.choices.ByAccesses.{in_done, step_event}
use Rattle.matrix_core.proofs.lists.Elements.{get_middle, get_replicate}
use Rattle.matrix_core.proofs.lines.Others.{place_inside}
use Rattle.matrix_core.proofs.lists.Elements.{get_exists}
use Rattle.history_core.proofs.Positions.{position_below}

module _ {R : Type 0} (at : ℕ) (span : Span R) (opening noise : R) (cut : IsCut 5 span) (left : (step : ℕ) → ¬ Overruns span step) where
  pub board_more : (done : List ℕ) (b : Board R) (xs : List ℕ) (s : ℕ) →
      board_on span done b (xs ++ s ∷ []) ≡ after_event (board_on span done b xs) s (wish_after span (done ++ xs) s)
  board_more done b [] s = ap (λ ys. after_event b s (wish_after span ys s)) (sym (append-nil done))
  board_more done b (x ∷ xs) s =
      board_more (done ++ x ∷ []) (after_event b x (wish_after span done x)) xs s
      ∙ ap (λ ys. after_event (board_on span (done ++ x ∷ []) (after_event b x (wish_after span done x)) xs) s (wish_after span ys s))
      (append_assoc done (x ∷ []) xs)

  abbrev pub boards : List ℕ → Board R
  boards done = board_after span opening noise done

  abbrev pub chose_in : ℕ → ℕ → Stamped R
  chose_in = chosen_in at span opening noise

  abbrev pub answers_in : ℕ → ℕ → Outcome R
  answers_in = outcome_in at span opening noise

  -- before the first step
  pub at_first : IsAt at span opening noise cut.at_least cut.accesses chose_in answers_in [] (boards [])
  at_first =
      let n : ℕ = length span.plans in
      let st = opening_state (first_record opening) (noise_record noise) in
      let len : length (replicate (n * n) st) ≡ n * n = length-replicate (n * n) st in
      record {
        size = length-replicate n (opening_line opening);
        limit = refl;
        places = len;
        cells = λ i j li lj ne.
            let l = place_inside n i j li lj in
            let x = get_exists (replicate (n * n) st) (i * n + j) (omega arith) in
            x.1 ∙ ap Some (get_replicate (n * n) (i * n + j) st x.0 x.1);
        lines = λ i line h.
            let is : opening_line opening ≡ line = sym (get_replicate n i (opening_line opening) line h) in
            subst (λ z. IsLineAt at span opening noise cut.at_least cut.accesses chose_in answers_in [] i z) is (record {
              k = 0;
              r = 0;
              steps = omega arith;
              inside = let two : 2 ≤ n = cut.at_least in let e : span.accesses ≡ (2 * (n - 1)) * 5 = cut.accesses in omega arith;
              low = omega arith;
              high = omega arith;
              early = λ l. refl;
              late = λ l. absurd (omega arith);
              outcome = λ l. absurd (omega arith);
              wish = λ p l. absurd (omega arith);
              answers = [];
              hears = λ p l. absurd (omega arith);
              seen = λ p l. absurd (omega arith);
            });
        saws = λ i k l. absurd (omega arith);
      }

  -- what the step after these is to do, where it begins an operation
  pub wished_by : (done rest : List ℕ) (s : ℕ) → span.steps ≡ done ++ s ∷ rest → (k : ℕ) → steps_of s done ≡ k * span.accesses →
      planned span s k ≡ Some (wish_after span done s)
  wished_by done rest s whole k c =
      let a : ℕ = span.accesses in
      let two : 2 ≤ length span.plans = cut.at_least in
      let acc : a ≡ (2 * (length span.plans - 1)) * 5 = cut.accesses in
      let p = planned_next span done rest s k 0 whole (left (length done)) (omega arith) (omega arith) in
      let num : steps_of s done / a ≡ k = operation_number a (steps_of s done) k 0 (omega arith) (omega arith) in
      p.1 ∙ ap Some (sym (ap wish_or_read (ap (planned span s) num ∙ p.1)))

  -- what it has chosen, where it chooses
  pub picks_by : (done rest : List ℕ) (s : ℕ) → span.steps ≡ done ++ s ∷ rest → (k : ℕ) (x : Progress R) →
      steps_of s done ≡ k * span.accesses + ((length span.plans - 2) * 5 + 4)
      → slice_get (after_event (boards done) s (wish_after span done s)).lines s ≡ Some x →
      (chose_in s k ≡ x.own) × (answers_in s k ≡ x.outcome)
  picks_by done rest s whole k x c e =
      let next : boards (done ++ s ∷ []) ≡ after_event (boards done) s (wish_after span done s) =
      board_more [] (opening_board (length span.plans) span.limit opening noise) done s in
      let here : chooses_at at span 5 s k ≡ Some (at + length done) =
      step_event at span done rest s k ((length span.plans - 2) * 5 + 4) whole c in
      let count : at + length done + 1 - at ≡ length (done ++ s ∷ []) =
      (let q : at + length done + 1 - at ≡ length done + 1 = omega arith in q) ∙ sym (length_push done s) in
      let front : take (at + length done + 1 - at) span.steps ≡ done ++ s ∷ []
      = ap (λ m. take m span.steps) count ∙ ap (take (length (done ++ s ∷ []))) (whole ∙ sym (append_assoc done (s ∷ []) rest))
      ∙ take_at (done ++ s ∷ []) rest (length (done ++ s ∷ [])) refl in (
        ap (own_at span opening noise at s) here
            ∙ ap (λ xs. own_or opening (slice_get (boards xs).lines s)) front
            ∙ ap (λ (z : Board R). own_or opening (slice_get z.lines s)) next
            ∙ ap (own_or opening) e,
        ap (outcome_at span opening noise at s) here
            ∙ ap (λ xs. outcome_or opening (slice_get (boards xs).lines s)) front
            ∙ ap (λ (z : Board R). outcome_or opening (slice_get z.lines s)) next
            ∙ ap (outcome_or opening) e,
      )

  pub one_more : (done rest : List ℕ) (s : ℕ) → span.steps ≡ done ++ s ∷ rest →
      IsAt at span opening noise cut.at_least cut.accesses chose_in answers_in done (boards done) →
      IsAt at span opening noise cut.at_least cut.accesses chose_in answers_in (done ++ s ∷ []) (boards (done ++ s ∷ []))
  one_more done rest s whole h =
      let w : Wish R = wish_after span done s in
      let b : Board R = boards done in
      let next : boards (done ++ s ∷ []) ≡ after_event b s w =
      board_more [] (opening_board (length span.plans) span.limit opening noise) done s in
      let ls : s < length span.plans = cut.steps (length done) s (ap (λ xs. slice_get xs (length done)) whole ∙ get_middle done s rest) in
      subst (λ z. IsAt at span opening noise cut.at_least cut.accesses chose_in answers_in (done ++ s ∷ []) z) (sym next)
      (board_step at span opening noise cut.at_least cut.accesses chose_in answers_in done s b w ls h (wished_by done rest s whole)
      (picks_by done rest s whole))

  -- after the last
  pub at_last : IsAt at span opening noise cut.at_least cut.accesses chose_in answers_in span.steps (boards span.steps)
  at_last = fold_keeps_all {A = ℕ} {B = Unit {0}} (λ done u. IsAt at span opening noise cut.at_least cut.accesses chose_in answers_in done
      (boards done)) (λ u s. u) tt span.steps at_first (λ done rest u s whole h. one_more done rest s whole h)

  -- what is chosen by kind
  kinds : (limit : ℕ) (c : Choice R) (w : Wish R) (line : Progress R) →
      record { stamp = c.stamp; item = c.item } ≡ (choice limit c.who w line).own → c.kind ≡ kind_chosen limit w line.seen →
      ChoosesByKind limit c c.kind line.seen.stamp line.seen.item
  kinds limit c Read line own kind = subst (λ k. ChoosesByKind limit c k line.seen.stamp line.seen.item) (sym kind)
      (ap (λ (z : Stamped R). z.stamp) own, ap (λ (z : Stamped R). z.item) own)
  kinds limit c (Write v) line own kind = elim (cases_lt line.seen.stamp.tag limit) [
    | inl l ↦
        let t : nat_lt line.seen.stamp.tag limit ≡ true = grind (arith, nat_tests) in
        let own' : record { stamp = c.stamp; item = c.item } ≡ (record {
          stamp = record { tag = line.seen.stamp.tag + 1; writer = c.who };
          item = v;
        }) = own ∙ ap (λ (z : Bool). (if z then record line {
          own = record { stamp = record { tag = line.seen.stamp.tag + 1; writer = c.who }; item = v };
          outcome = Written (record { tag = line.seen.stamp.tag + 1; writer = c.who });
        } else record line { own = line.seen; outcome = Ended line.seen }).own) t in
        subst (λ k. ChoosesByKind limit c k line.seen.stamp line.seen.item)
        (sym (kind ∙ ap (λ (z : Bool). if z then WriteKind else RefusedKind) t)) (l, ap (λ (z : Stamped R). z.stamp) own')
    | inr g ↦
        let t : nat_lt line.seen.stamp.tag limit ≡ false = grind (arith, nat_tests) in
        let own' : record { stamp = c.stamp; item = c.item } ≡ line.seen = own ∙ ap (λ (z : Bool). (if z then record line {
          own = record { stamp = record { tag = line.seen.stamp.tag + 1; writer = c.who }; item = v };
          outcome = Written (record { tag = line.seen.stamp.tag + 1; writer = c.who });
        } else record line { own = line.seen; outcome = Ended line.seen }).own) t in
        subst (λ k. ChoosesByKind limit c k line.seen.stamp line.seen.item)
        (sym (kind ∙ ap (λ (z : Bool). if z then WriteKind else RefusedKind) t))
        (g, ap (λ (z : Stamped R). z.stamp) own', ap (λ (z : Stamped R). z.item) own')
  ]

  -- the progress at the choice of an operation that has chosen
  pub saw_of : (i k t : ℕ) → chooses_at at span 5 i k ≡ Some t →
      Saw at span opening noise cut.at_least cut.accesses chose_in answers_in span.steps i k
  saw_of i k t h = at_last.saws i k (in_done at span span.steps [] i k ((length span.plans - 2) * 5 + 4) t (sym (append-nil span.steps)) h
      (position_below at i span.steps (k * span.accesses + ((length span.plans - 2) * 5 + 4)) t h))

  pub sees_of : (c : Choice R) (k : ℕ) (saw : Saw at span opening noise cut.at_least cut.accesses chose_in answers_in span.steps c.who k) →
      record { stamp = c.stamp; item = c.item } ≡ chose_in c.who k → c.kind ≡ kind_chosen span.limit saw.line.wish saw.line.seen
      → SeesCells at span opening noise chose_in c k
  sees_of c k saw own kind = record {
    answers = saw.answers;
    each =
        let e : length saw.answers ≡ length span.plans - 1 = saw.hears.count_is in
        let two : 2 ≤ length span.plans = cut.at_least in
        omega arith;
    answered = saw.hears.each;
    by_kind = subst (λ (z : Stamped R). ChoosesByKind span.limit c c.kind z.stamp z.item) saw.seen
        (kinds span.limit c saw.line.wish saw.line (own ∙ saw.chose) kind);
  }

  -- so each operation that has chosen has a kind, and saw the answers of the cells of its column
  pub choices_see : (i k t : ℕ) → chooses_at at span 5 i k ≡ Some t
      → (kind : Kind) × ((c : Choice R) → c.who ≡ i → record { stamp = c.stamp; item = c.item } ≡ chose_in i k → c.kind ≡ kind →
      SeesCells at span opening noise chose_in c k)
  choices_see i k t h =
      let s = saw_of i k t h in (
        kind_chosen span.limit s.line.wish s.line.seen,
        λ c who own kind.
            let h' : chooses_at at span 5 c.who k ≡ Some t = ap (λ z. chooses_at at span 5 z k) who ∙ h in
            let P : ℕ → Type 0 = λ z. record { stamp = c.stamp; item = c.item } ≡ chose_in z k →
            (saw : Saw at span opening noise cut.at_least cut.accesses chose_in answers_in span.steps z k) →
            c.kind ≡ kind_chosen span.limit saw.line.wish saw.line.seen → SeesCells at span opening noise chose_in c k in
            subst P who (λ o saw q. sees_of c k saw o q) own s kind,
      )
