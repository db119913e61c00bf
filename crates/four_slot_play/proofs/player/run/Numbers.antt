-- The numbers of a run's answers rise, and each is that of a write that has made W4: the slot that a pair's bit names has the
-- record of such a write.
use Rattle.std.proofs.Common.{◌≡◌, ℕ, ◌+◌, ◌*◌, ◌/◌, ◌<◌, ◌≤◌, List, length, map, slice_get, inl, inr, sym, ◌∙◌, ap, arith}
use Rattle.std.proofs.lemmas.Bool.{cases_eq}
use Rattle.std.proofs.lemmas.Option.{same_Some}
use Rattle.history_core.specs.Schedules.{steps_of}
use Rattle.history_core.proofs.Positions.{position_made, position_exists, positions_length}
use Rattle.four_slot_core.specs.declared.schedule.Turn.{Turn}
use Rattle.four_slot_core.specs.declared.schedule.Turn.TheVariants.{Writer, Reader}
use Rattle.four_slot_play.specs.declared.player.run.Numbered.{Numbered}
use Rattle.four_slot_play.specs.declared.player.steps.Started.{Started}
use Rattle.four_slot_core.specs.declared.state.State.{State}
use Rattle.four_slot_core.specs.declared.state.Stage.{Stage}
use Rattle.four_slot_core.specs.declared.state.Stage.TheVariants.{W1, W2, W3, W4, W5}
use Rattle.four_slot_core.specs.declared.state.ReaderStage.{ReaderStage}
use Rattle.four_slot_core.specs.Freshness.{IsFreshAt, named}
use Rattle.four_slot_core.specs.Invariant.{IsSoundAt}
use Rattle.four_slot_core.specs.Traces.{Trace, trace_start}
use Rattle.four_slot_play.specs.inner.Parts.{IsPartsOf, IsAccessesOf}
use Rattle.four_slot_core.specs.Play.{actor}
use Rattle.four_slot_play.specs.inner.Runs.{numbered, opening_record, numbered_trace}
use Rattle.four_slot_play.specs.inner.Weaves.{HasPart, HasFirst, NumbersRise, NumbersBelow}
use Rattle.four_slot_core.proofs.Pushed.{get_within}
use Rattle.four_slot_core.proofs.traces.Counts.{left}
use Rattle.four_slot_core.proofs.traces.Fresh.{open_writes}
use Rattle.four_slot_play.proofs.player.run.Traces.{number_of, run_good, writer_positions, reader_positions}

-- the writes that have made W4, where this many have ended
stored_writes : Stage → ℕ → ℕ
stored_writes W4 ended = ended + 1
stored_writes W1 ended = ended
stored_writes W2 ended = ended
stored_writes W3 ended = ended
stored_writes W5 ended = ended

-- the number that the last R3 chose is one of theirs
chosen_stored : {R : Type 0} (w : Stage) (r : ReaderStage) (num : R → ℕ) (s : State R) (last : R) (prev floor : ℕ) → IsSoundAt w r s last →
    IsFreshAt w r num s last prev floor → prev ≤ stored_writes w (num last)
unfolding stored_writes
chosen_stored W4 r num s last prev floor h f = elim (f.top s.latest) [
  | inl le ↦ omega (arith, f.past)
  | inr z ↦ let new : num (named s s.latest) ≡ num s.item = ap num (h.current_new tt (sym z.1)) in omega (arith, f.past, new, f.numbered tt)
]
chosen_stored W1 r num s last prev floor h f = elim (f.top s.latest) [ inl le ↦ omega (arith, f.past) | inr z ↦ absurd z.0 ]
chosen_stored W2 r num s last prev floor h f = elim (f.top s.latest) [ inl le ↦ omega (arith, f.past) | inr z ↦ absurd z.0 ]
chosen_stored W3 r num s last prev floor h f = elim (f.top s.latest) [ inl le ↦ omega (arith, f.past) | inr z ↦ absurd z.0 ]
chosen_stored W5 r num s last prev floor h f = elim (f.top s.latest) [ inl le ↦ omega (arith, f.past) | inr z ↦ absurd z.0 ]

-- so many positions of W4 there are
stored_count : (w : Stage) (n ended begun : ℕ) → n + left w ≡ begun * 5 → ended + open_writes w ≡ begun →
    stored_writes w ended ≤ (n + 1) / 5
unfolding stored_writes
stored_count W1 n ended begun c o = omega arith
stored_count W2 n ended begun c o = omega arith
stored_count W3 n ended begun c o = omega arith
stored_count W4 n ended begun c o = omega arith
stored_count W5 n ended begun c o = omega arith

-- an access that is made belongs to an operation that has begun
pub has_begun : (turn : Turn) (steps : List ℕ) (parts : List Started) (k i : ℕ) → IsPartsOf steps parts → k * 5 + 0 ≤ i →
    i < steps_of (actor turn) steps → HasPart turn k parts
has_begun turn steps parts k i h le l =
    let begin = position_exists 0 (actor turn) steps (k * 5 + 0) (omega arith) in
    let w = h.all turn k begin.0 begin.1 in
    (w.0, begin.0, w.1)

pub first_writes : (steps stores : List ℕ) (parts : List Started) → IsPartsOf steps parts → IsAccessesOf 0 3 steps stores →
    HasFirst Writer (length stores) parts
first_writes steps stores parts h a k l =
    let x = get_within stores k l in
    has_begun Writer steps parts k (k * 5 + 3) h (omega arith) (position_made 0 0 steps (k * 5 + 3) x.0 (sym (a.each k) ∙ x.1))

module _ {R : Type 0} (opening noise : R) (steps : List Turn) (writes : List R) where
  abbrev played : Trace (Numbered R)
  played = numbered_trace opening noise writes steps

  writer_long : length played.writer ≡ steps_of 0 (map actor steps)
  writer_long = ap length
      (writer_positions {R = Numbered R} (numbered opening writes) (trace_start (opening_record opening) (opening_record noise)) 0 steps)
      ∙ positions_length 0 0 (map actor steps)

  reader_long : length played.reader ≡ steps_of 1 (map actor steps)
  reader_long = ap length
      (reader_positions {R = Numbered R} (numbered opening writes) (trace_start (opening_record opening) (opening_record noise)) 0 steps)
      ∙ positions_length 0 1 (map actor steps)

  pub first_reads : (parts : List Started) → IsPartsOf (map actor steps) parts → HasFirst Reader (length played.answers) parts
  first_reads parts h k l =
      let good = run_good opening noise writes steps in
      let long = reader_long in
      has_begun Reader (map actor steps) parts k (k * 5 + 0) h (omega arith) (omega (arith, good.1.counted.reader))

  pub numbers_rise : NumbersRise played.answers
  numbers_rise l m a b la mb le =
      let good = run_good opening noise writes steps in
      elim (cases_eq l m) [
        | inl e ↦
            let is : a ≡ b = same_Some a b (sym la ∙ ap (slice_get played.answers) e ∙ mb) in
            let n : a.number ≡ b.number = ap (λ (z : Numbered R). z.number) is in
            omega arith
        | inr ne ↦ (good.1.fresh.finished m b mb).earlier l a (omega arith) la
      ]

  pub numbers_below : (stores : List ℕ) → IsAccessesOf 0 3 (map actor steps) stores → NumbersBelow (length stores) played.answers
  numbers_below stores a l x lx =
      let good = run_good opening noise writes steps in
      let f = good.1.fresh in
      let s : State (Numbered R) = played.cell in
      let high : x.number ≤ good.1.prev = f.highest l x lx in
      let chosen = chosen_stored s.writer s.reader number_of s good.1.last good.1.prev good.1.floor f.sound f.order in
      let count =
      stored_count s.writer (length played.writer) good.1.last.number (length played.write_slots) good.1.counted.writer f.numbered in
      let long = a.long in
      let one : a.rest ≡ 1 = let e = a.last in omega arith in
      let same : length stores ≡ (length played.writer + 1) / 5 =
      long ∙ ap (λ r. (steps_of 0 (map actor steps) + r) / 5) one ∙ ap (λ n. (n + 1) / 5) (sym writer_long) in
      omega arith
