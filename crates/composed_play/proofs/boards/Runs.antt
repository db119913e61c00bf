-- The run of a composed board chooses by the law of choices, and its cells are clear and fresh at the accesses that the schedule
-- says, with the slots of the report.
use Rattle.std.proofs.Common.{◌≡◌, ℕ, ◌+◌, ◌<◌, List, length, slice_get, Option, Some, IsSome, refl, sym}
use Rattle.std.proofs.Common.{subst, ◌∙◌, ap, arith, inl, inr}
use Rattle.std.proofs.lemmas.Option.{slice_get_within}
use Rattle.history_core.specs.declared.history.Op.{Op}
use Rattle.history_core.specs.Schedules.{IsPlayed, Span}
use Rattle.four_slot_core.specs.Accesses.{Agree, IsClear, IsFreshRead}
use Rattle.four_slot_core.specs.Traces.{reads_of, source_record, Trace, writes_of}
use Rattle.four_slot_core.proofs.Pushed.{some_of}
use Rattle.four_slot_core.proofs.traces.AccessesAgree.{clear_as, fresh_as, some_as}
use Rattle.four_slot_core.proofs.traces.Laws.{traces_answered, traces_clear, traces_fresh}
use Rattle.matrix_core.specs.declared.stamp.Stamp.{Stamp}
use Rattle.matrix_core.specs.declared.stamp.Stamped.{Stamped}
use Rattle.matrix_core.specs.Lines.{first_record, other}
use Rattle.matrix_core.specs.Choices.{Choice, HasChoices}
use Rattle.matrix_core.specs.ByAccesses.{ChoosesBy, IsChosenBy, IsCut}
use Rattle.composed_play.specs.Boards.{cell_moments, cell_trace, column_accesses, IsBoardRun, noise_record, row_accesses, SeesCells}
use Rattle.composed_play.proofs.boards.Cells.{cell_numbers, read_at, rises_in, write_at}
use Rattle.matrix_core.proofs.choices.ByAccesses.{chosen_by_law, chosen_fully, HasRecords}

module _ {R : Type 0} (at : ℕ) (span : Span R) (opening noise : R) (ops : List (Op R)) (stamps : List (Option Stamp))
    (slot : ℕ → ℕ → ℕ → Option ℕ) (chosen : ℕ → ℕ → Stamped R)
    (cut : IsCut 5 span) (run : IsBoardRun at span opening noise ops stamps slot chosen) where
  sees_chooses : (c : Choice R) (k : ℕ) → SeesCells at span opening noise chosen c k → ChoosesBy at span 5 opening chosen c k
  sees_chooses c k h = record {
    answers = h.answers;
    each = h.each;
    answered = λ read write answer e back l.
        let each : length h.answers + 1 ≡ length span.plans = h.each in
        let lr : read < length h.answers = slice_get_within h.answers read answer e in
        cell_numbers at span opening noise chosen cut.accesses (other c.who read) c.who write read k answer back l refl (omega arith)
        (h.answered read answer e);
    by_kind = h.by_kind;
  }

  -- the law that both players rest on
  pub board_by_accesses : IsChosenBy at span 5 opening ops stamps chosen
  board_by_accesses = record {
    long = run.long;
    chooses = λ p k t op there is h. sees_chooses _ k (run.sees p k t op there is h);
    told = run.told;
    untold = run.untold;
    written = run.written;
    ended = run.ended;
  }

  -- its choices, with the records
  pub board_fully : IsPlayed at span ops →
      (choices : List (Choice R)) × HasChoices opening span.limit ops stamps choices × HasRecords at span 5 chosen choices
  board_fully played = chosen_fully at 5 span opening ops stamps chosen cut played board_by_accesses

  pub board_chooses : IsPlayed at span ops → (choices : List (Choice R)) × HasChoices opening span.limit ops stamps choices
  board_chooses played = chosen_by_law at 5 span opening ops stamps chosen cut played board_by_accesses

  module _ (i j write read : ℕ) (ow : other i write ≡ j) (lw : write + 1 < length span.plans)
      (or : other j read ≡ i) (lr : read + 1 < length span.plans) where
    abbrev t : Trace (Stamped R)
    t = cell_trace at span opening noise chosen i j

    writes_agree : Agree (writes_of t) (row_accesses at span slot i write)
    writes_agree = record {
      at = λ k e l. write_at at span opening noise chosen cut.accesses i j write k e ow lw l;
      slot =
          λ k. ap (λ z. slice_get (cell_trace at span opening noise chosen i z).write_slots k) (sym ow) ∙ sym (run.row_slots i write k);
    }

    reads_agree : Agree (reads_of t) (column_accesses at span slot j read)
    reads_agree = record {
      at = λ k e l. read_at at span opening noise chosen cut.accesses i j read k e or lr l;
      slot = λ k. ap (λ z. slice_get (cell_trace at span opening noise chosen z j).read_slots k) (sym or)
          ∙ sym (run.column_slots j read k lr);
    }

    pub board_clear : IsClear (row_accesses at span slot i write) (column_accesses at span slot j read)
    board_clear = clear_as (writes_of t) (row_accesses at span slot i write) (reads_of t) (column_accesses at span slot j read)
        writes_agree reads_agree
        (traces_clear (first_record opening) (noise_record noise) (chosen i) (cell_moments at span i j)
        (rises_in at span opening noise chosen cut.accesses i j))

    -- the answer of a read has the number of its source
    pub board_numbers : (m : ℕ) (x : Stamped R) → slice_get (cell_trace at span opening noise chosen i j).answers m ≡ Some x
        → (n : ℕ) × IsFreshRead (row_accesses at span slot i write) (column_accesses at span slot j read) m n
        × (x ≡ source_record (first_record opening) (chosen i) n)
    board_numbers m x e =
        let f = traces_fresh (first_record opening) (noise_record noise) (chosen i) (cell_moments at span i j)
        (rises_in at span opening noise chosen cut.accesses i j) m x e in (
          f.0,
          fresh_as (writes_of t) (row_accesses at span slot i write) (reads_of t) (column_accesses at span slot j read)
              writes_agree reads_agree m f.0 f.1,
          f.2,
        )

    pub board_fresh : (m : ℕ) → IsSome ((column_accesses at span slot j read).at m 4) →
        (n : ℕ) × IsFreshRead (row_accesses at span slot i write) (column_accesses at span slot j read) m n
        × (slice_get (cell_trace at span opening noise chosen i j).answers m ≡ Some (source_record (first_record opening) (chosen i) n))
    board_fresh m done =
        let rises = rises_in at span opening noise chosen cut.accesses i j in
        let there = traces_answered (first_record opening) (noise_record noise) (chosen i) (cell_moments at span i j) rises m
        (some_as ((column_accesses at span slot j read).at m 4) ((reads_of t).at m 4) (sym (reads_agree.at m 4 (omega arith))) done) in
        let x = some_of (slice_get t.answers m) there in
        let f = traces_fresh (first_record opening) (noise_record noise) (chosen i) (cell_moments at span i j) rises m x.0 x.1 in (
          f.0,
          fresh_as (writes_of t) (row_accesses at span slot i write) (reads_of t) (column_accesses at span slot j read)
              writes_agree reads_agree m f.0 f.1,
          x.1 ∙ ap Some f.2,
        )
