-- Entries of the order by their numbers: a write has its own, from 1 on, and a read that of its answer. The numbers rise along
-- precedence, since each finished read is fresh, and along the order, as it is woven.
use Rattle.std.proofs.Common.{◌≡◌, ℕ, ◌+◌, ◌*◌, ◌<◌, ◌≤◌, List, length, map, slice_get, Option, None, Some, zero, suc, ◌⊎◌, inl, inr, refl}
use Rattle.std.proofs.Common.{sym, ◌∙◌, ap, arith}
use Rattle.std.proofs.lemmas.Option.{same_Some}
use Rattle.history_core.specs.Schedules.{positions}
use Rattle.history_core.proofs.Positions.{positions_order, positions_rise}
use Rattle.four_slot_core.specs.declared.schedule.Turn.{Turn}
use Rattle.four_slot_core.specs.declared.schedule.Turn.TheVariants.{Writer, Reader}
use Rattle.four_slot_play.specs.declared.player.run.Numbered.{Numbered}
use Rattle.four_slot_core.specs.Accesses.{IsFreshRead}
use Rattle.history_core.specs.Registers.{IsBefore}
use Rattle.history_core.proofs.Times.{of_before, to_before}
use Rattle.four_slot_core.specs.Traces.{Trace, trace_start, writes_of, reads_of}
use Rattle.four_slot_core.specs.Play.{actor}
use Rattle.four_slot_play.specs.inner.Runs.{numbered, opening_record, numbered_trace}
use Rattle.four_slot_play.specs.inner.Weaves.{GoesBy, IsAmongBy}
use Rattle.four_slot_core.proofs.Pushed.{get_within}
use Rattle.four_slot_core.proofs.traces.Good.{numbered_read_fresh}
use Rattle.four_slot_play.proofs.player.run.Traces.{number_of, run_good, writer_positions, reader_positions}
use Rattle.four_slot_play.proofs.player.run.Numbers.{numbers_rise}

number_cases : (n : ℕ) → (n ≡ 0) ⊎ ((k : ℕ) × (n ≡ k + 1))
number_cases zero = inl refl
number_cases (suc k) = inr (k, omega arith)

module _ {R : Type 0} (opening noise : R) (steps : List Turn) (writes : List R) where
  abbrev pub played : Trace (Numbered R)
  played = numbered_trace opening noise writes steps

  abbrev pub acts : List ℕ
  acts = map actor steps

  abbrev pub number_at : Option (Numbered R) → ℕ
  number_at None = 0
  number_at (Some a) = a.number

  abbrev pub number_by : Turn → ℕ → ℕ
  number_by Writer k = k + 1
  number_by Reader m = number_at (slice_get played.answers m)

  -- operation k of a side begins, or ends, at this position
  abbrev pub Begins : Turn → ℕ → ℕ → Type 0
  Begins t k s = slice_get (positions 0 (actor t) acts) (k * 5 + 0) ≡ Some s

  abbrev pub Ends : Turn → ℕ → ℕ → Type 0
  Ends t k e = slice_get (positions 0 (actor t) acts) (k * 5 + 4) ≡ Some e

  writer_is : (i : ℕ) → slice_get played.writer i ≡ slice_get (positions 0 0 acts) i
  writer_is i = ap (λ (xs : List ℕ). slice_get xs i)
      (writer_positions {R = Numbered R} (numbered opening writes) (trace_start (opening_record opening) (opening_record noise)) 0 steps)

  reader_is : (i : ℕ) → slice_get played.reader i ≡ slice_get (positions 0 1 acts) i
  reader_is i = ap (λ (xs : List ℕ). slice_get xs i)
      (reader_positions {R = Numbered R} (numbered opening writes) (trace_start (opening_record opening) (opening_record noise)) 0 steps)

  -- a listed read has its answer, and is fresh by its number
  pub answer_at : (m : ℕ) → m < length played.answers → (x : Numbered R) × (slice_get played.answers m ≡ Some x)
      × (number_by Reader m ≡ x.number) × IsFreshRead (writes_of played) (reads_of played) m x.number
  answer_at m l =
      let good = run_good opening noise writes steps in
      let x = get_within played.answers m l in (
        x.0,
        x.1,
        ap number_at x.1,
        numbered_read_fresh {R = Numbered R} number_of (opening_record opening) (numbered opening writes) played good.0 m x.0 good.1 x.1,
      )

  -- the write with a read's number began before the read ended
  source_begun : (m e : ℕ) → m < length played.answers → Ends Reader m e → (k : ℕ) → number_by Reader m ≡ k + 1 →
      (s : ℕ) × Begins Writer k s × (s < e)
  source_begun m e l ends k is =
      let x = answer_at m l in
      let b = of_before (slice_get played.writer (k * 5 + 0)) (slice_get played.reader (m * 5 + 4)) (x.3.read_of.begun k (sym x.2 ∙ is)) in
      (b.0, sym (writer_is (k * 5 + 0)) ∙ b.1, b.2 e (reader_is (m * 5 + 4) ∙ ends))

  -- the numbers rise along precedence
  pub entry_rises : (count : ℕ) (t u : Turn) (k m e r : ℕ) → IsAmongBy count (length played.answers) t k →
      IsAmongBy count (length played.answers) u m → Ends t k e → Begins u m r → e < r → number_by t k ≤ number_by u m
  entry_rises count Writer Writer k m e r kt mu ends begins lt =
      let l : k * 5 + 4 < m * 5 + 0 = positions_order 0 0 acts (k * 5 + 4) (m * 5 + 0) e r ends begins lt in
      omega arith
  entry_rises count Writer Reader k m e r kt mu ends begins lt =
      let x = answer_at m mu in
      let P : IsBefore (slice_get played.writer (k * 5 + 4)) (slice_get played.reader (m * 5 + 0)) =
      to_before (slice_get played.writer (k * 5 + 4)) (slice_get played.reader (m * 5 + 0)) e (writer_is (k * 5 + 4)
      ∙ ends) (λ y q. let s : r ≡ y = same_Some r y (sym begins ∙ sym (reader_is (m * 5 + 0)) ∙ q) in omega arith) in
      let le : k < x.0.number = x.3.read_of.late k P in
      omega (arith, x.2)
  entry_rises count Reader Writer k m e r kt mu ends begins lt = elim (number_cases (number_by Reader k)) [
    | inl z ↦ omega arith
    | inr j ↦
        let b = source_begun k e kt ends j.0 j.1 in
        let l : j.0 * 5 + 0 < m * 5 + 0 = positions_order 0 0 acts (j.0 * 5 + 0) (m * 5 + 0) b.0 r b.1 begins (omega (arith, b.2)) in
        omega (arith, j.1)
  ]
  entry_rises count Reader Reader k m e r kt mu ends begins lt =
      let l : k * 5 + 4 < m * 5 + 0 = positions_order 0 1 acts (k * 5 + 4) (m * 5 + 0) e r ends begins lt in
      let x = answer_at k kt in
      let y = answer_at m mu in
      let le = numbers_rise opening noise steps writes k m x.0 y.0 x.1 y.1 (omega arith) in
      omega (arith, x.2, y.2)

  -- and along the order
  pub entry_sorted : (count : ℕ) (t u : Turn) (k m : ℕ) → IsAmongBy count (length played.answers) t k →
      IsAmongBy count (length played.answers) u m → GoesBy played.answers t k u m → number_by t k ≤ number_by u m
  entry_sorted count Writer Writer k m kt mu goes = omega arith
  entry_sorted count Writer Reader k m kt mu goes = let x = answer_at m mu in let l = goes x.0 x.1 in omega (arith, x.2)
  entry_sorted count Reader Writer k m kt mu goes = let x = answer_at k kt in let l = goes x.0 x.1 in omega (arith, x.2)
  entry_sorted count Reader Reader k m kt mu goes =
      let x = answer_at k kt in
      let y = answer_at m mu in
      let le = numbers_rise opening noise steps writes k m x.0 y.0 x.1 y.1 (omega arith) in
      omega (arith, x.2, y.2)

  -- nothing of a number goes before its write
  pub entry_write_first : (count : ℕ) (t : Turn) (k m : ℕ) → IsAmongBy count (length played.answers) t k →
      GoesBy played.answers t k Writer m → number_by t k ≡ number_by Writer m → ⊥
  entry_write_first count Writer k m kt goes same = absurd (omega arith)
  entry_write_first count Reader k m kt goes same = let x = answer_at k kt in let l = goes x.0 x.1 in absurd (omega (arith, x.2))

  -- the reads of a number go by beginning
  pub entry_by_beginning : (k m s r : ℕ) → GoesBy played.answers Reader k Reader m → Begins Reader k s → Begins Reader m r → s < r
  entry_by_beginning k m s r goes ks mr = positions_rise 0 1 acts (k * 5 + 0) (m * 5 + 0) s r ks mr (omega arith)

  -- and none of them precedes the write
  pub entry_after_write : (m k e s : ℕ) → m < length played.answers → number_by Reader m ≡ k + 1 → Ends Reader m e →
      Begins Writer k s → e < s → ⊥
  entry_after_write m k e s l same ends begins lt =
      let b = source_begun m e l ends k same in
      let is : b.0 ≡ s = same_Some b.0 s (sym b.1 ∙ begins) in
      absurd (omega (arith, b.2))
