-- From the operations that a player has told to the run of the board: what is told is what the board's events chose.
use Rattle.std.proofs.Common.{◌≡◌, ℕ, ◌+◌, ◌-◌, ◌*◌, ◌<◌, List, [], length, slice_get, Option, Some, Bool, true}
use Rattle.std.proofs.Common.{false, refl, sym, ◌∙◌, ap, arith, append-nil}
use Rattle.std.specs.Prelude.{nat_lt, if◌then◌else◌}
use Rattle.std.proofs.lemmas.Bool.Decides.{nat_tests}
use Rattle.history_core.specs.declared.history.Op.{Op}
use Rattle.history_core.specs.declared.history.Kind.TheVariants.{Write as WriteKind, Refused as RefusedKind}
use Rattle.matrix_core.specs.declared.progress.Outcome.TheVariants.{Written, Ended}
use Rattle.history_core.specs.declared.wish.Wish.{Wish}
use Rattle.history_core.specs.declared.wish.Wish.TheVariants.{Write, Read}
use Rattle.history_core.specs.Schedules.{IsOperation, Overruns, Span}
use Rattle.history_core.proofs.Positions.{missing_position, position_below}
use Rattle.matrix_core.specs.declared.stamp.Stamp.{Stamp}
use Rattle.matrix_core.specs.declared.progress.Progress.{Progress}
use Rattle.matrix_core.specs.Lines.{choice, other}
use Rattle.matrix_core.proofs.terms.Kinds.{kind_of}
use Rattle.matrix_core.specs.ByAccesses.{choice_at, chooses_at, IsCut}
use Rattle.composed_play.specs.Boards.{cell_trace, IsBoardRun}
use Rattle.matrix_core.proofs.terms.Kinds.{kind_chosen}
use Rattle.composed_play.specs.BoardSteps.{chosen_in}
use Rattle.composed_play.proofs.boards.Outcomes.{outcome_in}
use Rattle.composed_play.proofs.boards.Folds.{saw_of, sees_of}
use Rattle.composed_play.proofs.boards.Traces.{Saw}
use Rattle.matrix_core.proofs.choices.ByAccesses.{in_done}
use Rattle.matrix_core.proofs.terms.Told.{IsTold, IsToldOf}

-- the kind that an outcome has
kind_by : {R : Type 0} (limit i : ℕ) (w : Wish R) (line : Progress R) →
    kind_of (choice limit i w line).outcome ≡ kind_chosen limit w line.seen
kind_by limit i Read line = refl
kind_by limit i (Write v) line = by (nat_lt line.seen.stamp.tag limit)
  where
    by : (b : Bool) → kind_of (if b then record line {
      own = record { stamp = record { tag = line.seen.stamp.tag + 1; writer = i }; item = v };
      outcome = Written (record { tag = line.seen.stamp.tag + 1; writer = i });
    } else record line { own = line.seen; outcome = Ended line.seen }).outcome ≡ (if b then WriteKind else RefusedKind)
    by true = refl
    by false = refl

module _ {R : Type 0} (at : ℕ) (span : Span R) (opening noise : R) (cut : IsCut 5 span) (left : (step : ℕ) → ¬ Overruns span step)
    (low : 0 < (length span.plans - 2) * 5 + 4) (high : (length span.plans - 2) * 5 + 4 + 1 < span.accesses)
    (ops : List (Op R)) (stamps : List (Option Stamp)) (place : ℕ → ℕ)
    (told : IsTold at span ((length span.plans - 2) * 5 + 4) high (chosen_in at span opening noise)
    (λ i k. kind_of (outcome_in at span opening noise i k)) span.steps ops stamps place) where
  abbrev ch : ℕ
  ch = (length span.plans - 2) * 5 + 4

  abbrev pub slot_in : ℕ → ℕ → ℕ → Option ℕ
  slot_in i k access = if nat_lt access (length span.plans - 1)
      then slice_get (cell_trace at span opening noise (chosen_in at span opening noise) (other i access) i).read_slots k
      else slice_get
      (cell_trace at span opening noise (chosen_in at span opening noise) i (other i (access - (length span.plans - 1)))).write_slots k

  has_chosen : (p k t : ℕ) (op : Op R) → slice_get ops p ≡ Some op → IsOperation at span k op → chooses_at at span 5 op.who k ≡ Some t →
      IsToldOf at span ch high (chosen_in at span opening noise) (λ i k. kind_of (outcome_in at span opening noise i k)) stamps p k op
  has_chosen p k t op there is h = told.told p k op there is.begins (in_done at span span.steps [] op.who k ch t
      (sym (append-nil span.steps)) h (position_below at op.who span.steps (k * span.accesses + ch) t h))

  pub is_run : IsBoardRun at span opening noise ops stamps slot_in (chosen_in at span opening noise)
  is_run = record {
    long = told.long;
    sees = λ p k t op there is h.
        let saw : Saw at span opening noise cut.at_least cut.accesses (chosen_in at span opening noise) (outcome_in at span opening noise)
        span.steps op.who k = saw_of at span opening noise cut left op.who k t h in
        let kind : op.kind ≡ kind_chosen span.limit saw.line.wish saw.line.seen =
        (has_chosen p k t op there is h).same_kind ∙ ap kind_of saw.outcome ∙ kind_by span.limit op.who saw.line.wish saw.line in
        sees_of at span opening noise cut left (choice_at (chosen_in at span opening noise) p k op) k saw refl kind;
    told = λ p k t op there is h. (has_chosen p k t op there is h).stamp;
    untold = λ p k op there is h. told.untold p k op there is.begins (missing_position at op.who span.steps (k * span.accesses + ch) h);
    written = λ p k t op there is h. (has_chosen p k t op there is h).item;
    ended = λ p k end op there is h. told.ended p k end op there is.begins h;
    unchosen =
        λ p k op there is h. told.unrefused p k op there is.begins (missing_position at op.who span.steps (k * span.accesses + ch) h);
    unfinished = told.unfinished;
    row_slots = λ i write k.
        let t : nat_lt (length span.plans - 1 + write) (length span.plans - 1) ≡ false = grind (arith, nat_tests) in
        let e : length span.plans - 1 + write - (length span.plans - 1) ≡ write = omega arith in
        ap (λ b. if b then slice_get
        (cell_trace at span opening noise (chosen_in at span opening noise) (other i (length span.plans - 1 + write)) i).read_slots k
        else slice_get (cell_trace at span opening noise (chosen_in at span opening noise) i
        (other i (length span.plans - 1 + write - (length span.plans - 1)))).write_slots k) t
        ∙ ap (λ m. slice_get (cell_trace at span opening noise (chosen_in at span opening noise) i (other i m)).write_slots k) e;
    column_slots = λ j read k l.
        let t : nat_lt read (length span.plans - 1) ≡ true = grind (arith, nat_tests) in
        ap (λ b. if b then slice_get (cell_trace at span opening noise (chosen_in at span opening noise) (other j read) j).read_slots k
        else slice_get (cell_trace at span opening noise (chosen_in at span opening noise) j
        (other j (read - (length span.plans - 1)))).write_slots k) t;
  }
