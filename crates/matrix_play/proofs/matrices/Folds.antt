-- A whole term of a matrix: what the steps tell is a run by accesses of one step each.
use Rattle.std.proofs.Common.{◌≡◌, ℕ, suc, ◌+◌, ◌-◌, ◌*◌, ◌<◌, ◌≤◌, List, [], ◌∷◌, ◌++◌, length, take, slice_get}
use Rattle.std.proofs.Common.{Option, None, Some, Bool, true, false, refl, sym, subst, ◌∙◌, ap, arith, inl, inr, append-nil}
use Rattle.std.proofs.Common.{append_assoc}
use Rattle.std.specs.Prelude.{nat_lt}
use Rattle.std.specs.List.{fold}
use Rattle.std.proofs.lemmas.Bool.{cases_lt}
use Rattle.std.proofs.lemmas.Bool.Decides.{nat_tests}
use Rattle.std.proofs.lemmas.List.{length-replicate, length_push, take_at}
use Rattle.history_core.specs.declared.history.Op.{Op}
use Rattle.history_core.specs.declared.wish.Wish.{Wish}
use Rattle.history_core.specs.declared.wish.Wish.TheVariants.{Write, Read}
use Rattle.history_core.specs.Schedules.{access_at, IsOperation, Overruns, Span, steps_of}
use Rattle.history_core.proofs.Folds.{fold_keeps_all}
use Rattle.history_core.proofs.Played.{nothing_played}
use Rattle.history_core.proofs.Positions.{missing_position, position_below}
use Rattle.four_slot_core.specs.Traces.{source_record}
use Rattle.matrix_core.specs.declared.stamp.Stamped.{Stamped}
use Rattle.matrix_core.specs.declared.progress.Progress.{Progress}
use Rattle.matrix_core.specs.declared.progress.Outcome.{Outcome}
use Rattle.matrix_core.specs.declared.progress.Outcome.TheVariants.{Seen}
use Rattle.matrix_core.proofs.terms.Kinds.{outcome_or}
use Rattle.matrix_core.specs.Lines.{own_or}
use Rattle.matrix_core.specs.ByAccesses.{choice_at, chooses_at, ChoosesBy}
use Rattle.matrix_core.specs.Choices.{Choice, ChoosesByKind}
use Rattle.matrix_core.specs.Lines.{choice, first_record, opening_line}
use Rattle.matrix_play.specs.MatrixEvents.{size}
use Rattle.matrix_core.proofs.terms.Kinds.{kind_of}
use Rattle.matrix_play.specs.MatrixRuns.{IsMatrixRun}
use Rattle.matrix_play.specs.inner.MatrixPlays.{after_step, opening_matrix_play, place_of, MatrixPlaying}
use Rattle.matrix_core.proofs.choices.ByAccesses.{in_done, step_event}
use Rattle.matrix_core.proofs.lists.Elements.{fold_more, get_middle, get_replicate}
use Rattle.matrix_core.proofs.choices.Made.{IsMade, made_past, made_so_far}
use Rattle.matrix_play.proofs.matrices.Shape.{opens}
use Rattle.matrix_play.proofs.matrices.Telling.{IsPlay, play_step, wrote}
use Rattle.matrix_play.proofs.matrices.Traces.{IsLineAt, Saw}
use Rattle.matrix_play.proofs.matrices.Plays.{IsSpan, opening_so_far}
use Rattle.matrix_core.proofs.terms.Told.{IsToldOf, nothing_told}

-- what is chosen by kind
chosen_is : {R : Type 0} (limit : ℕ) (c : Choice R) (w : Wish R) (line : Progress R) →
    record { stamp = c.stamp; item = c.item } ≡ (choice limit c.who w line).own → c.kind ≡ kind_of (choice limit c.who w line).outcome
    → ChoosesByKind limit c c.kind line.seen.stamp line.seen.item
chosen_is limit c Read line own kind = subst (λ k. ChoosesByKind limit c k line.seen.stamp line.seen.item) (sym kind)
    (ap (λ (z : Stamped _). z.stamp) own, ap (λ (z : Stamped _). z.item) own)
chosen_is {R} limit c (Write v) line own kind =
    by_test (nat_lt line.seen.stamp.tag limit) (λ e. grind (arith, nat_tests)) (λ e. grind (arith, nat_tests)) own kind
  where
    by_test : (b : Bool) → (b ≡ true → line.seen.stamp.tag < limit) → (b ≡ false → limit ≤ line.seen.stamp.tag) →
        record { stamp = c.stamp; item = c.item } ≡ (wrote c.who v line b).own → c.kind ≡ kind_of (wrote c.who v line b).outcome
        → ChoosesByKind limit c c.kind line.seen.stamp line.seen.item
    by_test true below above own kind =
        subst (λ k. ChoosesByKind limit c k line.seen.stamp line.seen.item) (sym kind) (below refl, ap (λ (z : Stamped R). z.stamp) own)
    by_test false below above own kind = subst (λ k. ChoosesByKind limit c k line.seen.stamp line.seen.item) (sym kind) (
      above refl,
      ap (λ (z : Stamped R). z.stamp) own,
      ap (λ (z : Stamped R). z.item) own,
    )

module _ {R : Type 0} (at : ℕ) (span : Span R) (opening : R) where
  abbrev pub run_after : List ℕ → MatrixPlaying R
  run_after done = fold (after_step span.plans) (opening_matrix_play (length span.plans) span.limit opening at) done

  -- a process's own record after the step at a position, and what its operation is to answer
  abbrev own_at : ℕ → Option ℕ → Stamped R
  own_at i None = first_record opening
  own_at i (Some p) = own_or opening (slice_get (run_after (take (p + 1 - at) span.steps)).matrix.lines i)

  abbrev outcome_at : ℕ → Option ℕ → Outcome R
  outcome_at i None = Seen (first_record opening)
  outcome_at i (Some p) = outcome_or opening (slice_get (run_after (take (p + 1 - at) span.steps)).matrix.lines i)

  -- what operation k of process i chose, and what it is to answer
  abbrev pub chose_in : ℕ → ℕ → Stamped R
  chose_in i k = own_at i (chooses_at at span 1 i k)

  abbrev answers_in : ℕ → ℕ → Outcome R
  answers_in i k = outcome_at i (chooses_at at span 1 i k)

  module _ (sp : IsSpan span) (inside : (step who : ℕ) → slice_get span.steps step ≡ Some who → who < length span.plans)
      (left : (step : ℕ) → ¬ Overruns span step) where
    abbrev n : ℕ
    n = length span.plans

    abbrev ch : ℕ
    ch = n - 2

    pub high : n - 2 + 1 < span.accesses
    high = let two : 2 ≤ n = sp.at_least in let a : span.accesses ≡ 2 * (n - 1) = sp.accesses in omega arith

    abbrev Play : List ℕ → MatrixPlaying R → Type 0
    Play done run = IsPlay at span opening sp sp.accesses high chose_in answers_in done run

    at_first : Play [] (run_after [])
    at_first = record {
      so_far = opening_so_far at span opening sp;
      traces = record {
        matrix = opens n span.limit opening sp.at_least sp.at_most;
        same_size = length-replicate n (opening_line opening);
        limit = refl;
        cells = λ i write x li lw e. record {
          count = 0;
          made = record { inside = λ k l. absurd (omega arith); all = λ k l. absurd (omega arith) };
          is = get_replicate (n * n) _ (first_record opening) x e;
        };
        lines = λ i line h.
            let is : opening_line opening ≡ line = sym (get_replicate n i (opening_line opening) line h) in
            subst (λ z. IsLineAt at span opening sp.at_least sp.accesses chose_in answers_in [] i z) is (record {
              k = 0;
              steps = omega arith;
              early = λ l. refl;
              late = λ l. absurd (omega arith);
              outcome = λ l. absurd (omega arith);
              wish = λ p l. absurd (omega arith);
              answers = [];
              sees = λ p l. absurd (omega arith);
              seen = λ p l. absurd (omega arith);
            });
        saws = λ i k l. absurd (omega arith);
      };
      told = nothing_told at span ch high chose_in (λ i k. kind_of (answers_in i k)) (place_of (run_after []))
          (nothing_played at span (place_of (run_after [])));
    }

    one_more : (done rest : List ℕ) (s : ℕ) → span.steps ≡ done ++ s ∷ rest → Play done (run_after done) →
        Play (done ++ s ∷ []) (run_after (done ++ s ∷ []))
    one_more done rest s whole h =
        let next : run_after (done ++ s ∷ []) ≡ after_step span.plans (run_after done) s =
        fold_more (after_step span.plans) (opening_matrix_play n span.limit opening at) done s in
        let ls : s < n = inside (length done) s (ap (λ xs. slice_get xs (length done)) whole ∙ get_middle done s rest) in
        let picks : (k : ℕ) (x : Progress R) → steps_of s done ≡ k * span.accesses + ch →
        slice_get (after_step span.plans (run_after done) s).matrix.lines s ≡ Some x →
        (chose_in s k ≡ x.own) × (answers_in s k ≡ x.outcome) = λ k x c e.
        let c1 : (n - 2) * 1 + (1 - 1) ≡ n - 2 = omega arith in
        let here : chooses_at at span 1 s k ≡ Some (at + length done) =
        ap (access_at at span s k) c1 ∙ step_event at span done rest s k ch whole c in
        let count : at + length done + 1 - at ≡ length (done ++ s ∷ []) =
        (let q : at + length done + 1 - at ≡ length done + 1 = omega arith in q) ∙ sym (length_push done s) in
        let front : take (at + length done + 1 - at) span.steps ≡ done ++ s ∷ [] =
        ap (λ m. take m span.steps) count ∙ ap (take (length (done ++ s ∷ []))) (whole ∙ sym (append_assoc done (s ∷ []) rest))
        ∙ take_at (done ++ s ∷ []) rest (length (done ++ s ∷ [])) refl in (
          ap (own_at s) here
              ∙ ap (λ xs. own_or opening (slice_get (run_after xs).matrix.lines s)) front
              ∙ ap (λ (z : MatrixPlaying R). own_or opening (slice_get z.matrix.lines s)) next
              ∙ ap (own_or opening) e,
          ap (outcome_at s) here
              ∙ ap (λ xs. outcome_or opening (slice_get (run_after xs).matrix.lines s)) front
              ∙ ap (λ (z : MatrixPlaying R). outcome_or opening (slice_get z.matrix.lines s)) next
              ∙ ap (outcome_or opening) e,
        ) in
        subst (λ z. Play (done ++ s ∷ []) z) (sym next)
        (play_step at span opening sp sp.accesses high chose_in answers_in done rest (run_after done) s whole ls
        (left (length done)) h picks)

    pub at_last : Play span.steps (run_after span.steps)
    at_last = fold_keeps_all {A = ℕ} {B = Unit {0}} (λ done u. Play done (run_after done)) (λ u s. u) tt span.steps at_first
        (λ done rest u s whole h. one_more done rest s whole h)

    abbrev run : MatrixPlaying R
    run = run_after span.steps

    -- an operation that has chosen
    has_made : (i k t : ℕ) → chooses_at at span 1 i k ≡ Some t → k * span.accesses + ch < steps_of i span.steps
    has_made i k t h =
        let c1 : (n - 2) * 1 + (1 - 1) ≡ n - 2 = omega arith in
        let h1 : access_at at span i k ch ≡ Some t = ap (access_at at span i k) (sym c1) ∙ h in
        in_done at span span.steps [] i k ch t (sym (append-nil span.steps)) h1
        (position_below at i span.steps (k * span.accesses + ch) t h1)

    has_not : (i k : ℕ) → chooses_at at span 1 i k ≡ None → steps_of i span.steps ≤ k * span.accesses + ch
    has_not i k h =
        let c1 : (n - 2) * 1 + (1 - 1) ≡ n - 2 = omega arith in
        missing_position at i span.steps (k * span.accesses + ch) (ap (access_at at span i k) (sym c1) ∙ h)

    told_of : (p k t : ℕ) (op : Op R) → slice_get run.ops p ≡ Some op → IsOperation at span k op → chooses_at at span 1 op.who k ≡ Some t
        → IsToldOf at span ch high chose_in (λ i j. kind_of (answers_in i j)) run.stamps p k op
    told_of p k t op there is h = at_last.told.told p k op there is.begins (has_made op.who k t h)

    choices_by : (p k t : ℕ) (op : Op R) → slice_get run.ops p ≡ Some op → IsOperation at span k op →
        chooses_at at span 1 op.who k ≡ Some t → ChoosesBy at span 1 opening chose_in (choice_at chose_in p k op) k
    choices_by p k t op there is h =
        let saw : Saw at span opening sp.at_least sp.accesses chose_in answers_in op.who k =
        at_last.traces.saws op.who k (has_made op.who k t h) in
        let kind : op.kind ≡ kind_of (choice span.limit op.who saw.line.wish saw.line).outcome =
        (told_of p k t op there is h).same_kind ∙ ap kind_of saw.outcome in
        let c : Choice R = choice_at chose_in p k op in
        record {
          answers = saw.answers;
          each = let e : length saw.answers ≡ n - 1 = saw.sees.count_is in let two : 2 ≤ n = sp.at_least in omega arith;
          answered = saw.sees.each;
          by_kind = subst (λ (z : Stamped R). ChoosesByKind span.limit c c.kind z.stamp z.item) saw.seen
              (chosen_is span.limit c saw.line.wish saw.line saw.chose kind);
        }

    pub is_run : IsMatrixRun at span opening run.ops run.stamps chose_in
    is_run = record {
      by = record {
        long = at_last.told.long;
        chooses = choices_by;
        told = λ p k t op there is h. (told_of p k t op there is h).stamp;
        untold = λ p k op there is h. at_last.told.untold p k op there is.begins (has_not op.who k h);
        written = λ p k t op there is h. (told_of p k t op there is h).item;
        ended = λ p k end op there is h. at_last.told.ended p k end op there is.begins h;
      };
      unchosen = λ p k op there is h. at_last.told.unrefused p k op there is.begins (has_not op.who k h);
      unfinished = at_last.told.unfinished;
    }

    -- the own record of each process at the end is the last that it chose
    pub holds : (i : ℕ) (line : Progress R) → slice_get run.matrix.lines i ≡ Some line
        → (count : ℕ) × IsMade span.accesses ((n - 2) * 1 + (1 - 1)) (steps_of i span.steps) count
        × (line.own ≡ source_record (first_record opening) (chose_in i) count)
    holds i line h =
        let l : IsLineAt at span opening sp.at_least sp.accesses chose_in answers_in span.steps i line = at_last.traces.lines i line h in
        let c1 : n - 2 ≡ (n - 2) * 1 + (1 - 1) = omega arith in
        let hi = high in
        let ins : line.done + 3 ≤ 2 * n =
        let a : line.done + 3 ≤ 2 * size run.matrix = at_last.so_far.matrix.inside i line h in
        let e : size run.matrix ≡ n = at_last.so_far.processes in
        omega arith in
        let acs : span.accesses ≡ 2 * (n - 1) = sp.accesses in
        elim (cases_lt ch line.done) [
          | inl late ↦ (
            l.k + 1,
            subst (λ e. IsMade span.accesses e (steps_of i span.steps) (l.k + 1)) c1
                (made_past span.accesses ch (steps_of i span.steps) l.k line.done l.steps late (omega arith)),
            l.late late ∙ (let e : suc l.k ≡ l.k + 1 = omega arith in ap (source_record (first_record opening) (chose_in i)) e),
          )
          | inr early ↦ (
            l.k,
            subst (λ e. IsMade span.accesses e (steps_of i span.steps) l.k) c1
                (made_so_far span.accesses ch (steps_of i span.steps) l.k line.done l.steps early (omega arith)),
            l.early early,
          )
        ]
