-- The player's run is the trace of the schedule's steps: by induction over the steps, what it shows is what the trace shows, and
-- the trace's positions are the schedule's.
use Rattle.std.proofs.Common.{◌≡◌, ℕ, ◌+◌, List, [], ◌∷◌, ◌++◌, map, zero, suc, refl, sym, ◌∙◌, ap, append_assoc, append-nil}
use Rattle.std.specs.List.{fold}
use Rattle.history_core.specs.Schedules.{positions}
use Rattle.four_slot_core.specs.declared.schedule.Turn.{Turn}
use Rattle.four_slot_core.specs.declared.schedule.Turn.TheVariants.{Writer, Reader}
use Rattle.four_slot_play.specs.declared.player.run.Numbered.{Numbered}
use Rattle.four_slot_core.specs.Traces.{Moment, Trace, moments_from, then_step, source_record}
use Rattle.four_slot_core.specs.Play.{actor, item_of, run}
use Rattle.four_slot_play.specs.inner.Runs.{Log, log_of, step_of, numbered, opening_record, numbered_run, numbered_trace}
use Rattle.four_slot_core.proofs.traces.Good.{IsGood, trace_good}
use Rattle.four_slot_core.proofs.traces.Laws.{moments_rise}
use Rattle.four_slot_core.proofs.traces.Mapped.{map_trace, trace_mapped}

module _ {R : Type 0} where
  abbrev pub steps_from : (ℕ → R) → Trace R → ℕ → List Turn → Trace R
  steps_from items t n steps = fold (λ (u : Trace R) (m : Moment). then_step items u m.turn m.at) t (moments_from n steps)

  step_shown : (items : ℕ → R) (t : Trace R) (turn : Turn) (n : ℕ) → log_of (then_step items t turn n) ≡ step_of items (log_of t) turn
  step_shown items t Writer n = refl
  step_shown items t Reader n = refl

  pub steps_shown : (items : ℕ → R) (t : Trace R) (n : ℕ) (steps : List Turn) →
      log_of (steps_from items t n steps) ≡ fold (step_of items) (log_of t) steps
  steps_shown items t n [] = refl
  steps_shown items t n (turn ∷ steps) =
      steps_shown items (then_step items t turn n) (n + 1) steps
      ∙ ap (λ (l : Log R). fold (step_of items) l steps) (step_shown items t turn n)

  pub writer_positions : (items : ℕ → R) (t : Trace R) (n : ℕ) (steps : List Turn) →
      (steps_from items t n steps).writer ≡ t.writer ++ positions n 0 (map actor steps)
  writer_positions items t n [] = sym (append-nil t.writer)
  writer_positions items t n (Writer ∷ steps) = writer_positions items (then_step items t Writer n) (n + 1) steps
      ∙ append_assoc t.writer (n ∷ []) (positions (n + 1) 0 (map actor steps))
  writer_positions items t n (Reader ∷ steps) = writer_positions items (then_step items t Reader n) (n + 1) steps

  pub reader_positions : (items : ℕ → R) (t : Trace R) (n : ℕ) (steps : List Turn) →
      (steps_from items t n steps).reader ≡ t.reader ++ positions n 1 (map actor steps)
  reader_positions items t n [] = sym (append-nil t.reader)
  reader_positions items t n (Reader ∷ steps) = reader_positions items (then_step items t Reader n) (n + 1) steps
      ∙ append_assoc t.reader (n ∷ []) (positions (n + 1) 1 (map actor steps))
  reader_positions items t n (Writer ∷ steps) = reader_positions items (then_step items t Writer n) (n + 1) steps

module _ {R : Type 0} where
  abbrev pub number_of : Numbered R → ℕ
  number_of a = a.number

  abbrev pub record_of : Numbered R → R
  record_of a = a.item

  pub run_shown : (opening noise : R) (writes : List R) (steps : List Turn) →
      log_of (numbered_trace opening noise writes steps) ≡ numbered_run opening noise writes steps
  run_shown opening noise writes steps = steps_shown {R = Numbered R} (numbered opening writes) _ 0 steps

  pub run_good : (opening noise : R) (writes : List R) (steps : List Turn) →
      (end : ℕ) × IsGood number_of (opening_record opening) (numbered opening writes) (numbered_trace opening noise writes steps) end
  run_good opening noise writes steps =
      trace_good {R = Numbered R} number_of (opening_record opening) (opening_record noise) (numbered opening writes) (moments_from 0 steps)
      (record { opening_first = refl; in_turn = λ k. refl }) (moments_rise 0 steps)

  -- without the numbers it is the run
  pub run_mapped : (opening noise : R) (writes : List R) (steps : List Turn) →
      run opening noise writes steps ≡ map_trace record_of (numbered_trace opening noise writes steps)
  run_mapped opening noise writes steps = trace_mapped {A = Numbered R} record_of (opening_record opening) (opening_record noise)
      (numbered opening writes) (moments_from 0 steps)

  pub source_item : (opening : R) (writes : List R) (n : ℕ) →
      (source_record (opening_record opening) (numbered opening writes) n).item ≡ source_record opening (item_of opening writes) n
  source_item opening writes zero = refl
  source_item opening writes (suc k) = refl
