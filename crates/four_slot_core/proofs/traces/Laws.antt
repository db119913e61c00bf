-- Each trace from the opening is one of numbered records, without the numbers; so it is clear and fresh.
use Rattle.std.proofs.Common.{◌≡◌, ℕ, ◌+◌, ◌*◌, ◌<◌, ◌≤◌, List, [], ◌∷◌, ◌++◌, length, map, slice_get, Option, Some, None, IsSome, zero}
use Rattle.std.proofs.Common.{suc, refl, sym, subst, ◌∙◌, ap, arith, append-nil, append_assoc}
use Rattle.std.proofs.lemmas.List.Sums.{fold-append}
use Rattle.std.specs.Option.{option_map}
use Rattle.std.proofs.lemmas.List.{length-map}
use Rattle.std.proofs.lemmas.Option.{slice_get-map, slice_get_within}
use Rattle.four_slot_core.specs.declared.schedule.Turn.{Turn}
use Rattle.four_slot_core.specs.Accesses.{IsClear, IsFreshRead}
use Rattle.four_slot_core.specs.Traces.{Moment, RisesFrom, moments_from, Trace, trace, writes_of, reads_of, source_record, moment_at}
use Rattle.four_slot_core.specs.Traces.{moments_of, then_step, trace_start}
use Rattle.four_slot_core.proofs.Pushed.{some_of, get_within, is_some_of}
use Rattle.four_slot_core.specs.declared.state.ReaderStage.{ReaderStage}
use Rattle.four_slot_core.specs.declared.state.ReaderStage.TheVariants.{R1, R2, R3, R4, R5}
use Rattle.four_slot_core.proofs.traces.Counts.{made, has_chosen, IsCounted}
use Rattle.four_slot_core.proofs.traces.Good.{IsNumbered, trace_good, numbered_read_fresh}
use Rattle.four_slot_core.proofs.traces.Mapped.{map_trace, trace_mapped}

-- a record with a number
abbrev pub With : Type 0 → Type 0
With R = ℕ × R

abbrev pub number_of : {R : Type 0} → With R → ℕ
number_of p = p.0

abbrev pub record_of : {R : Type 0} → With R → R
record_of p = p.1

abbrev pub numbered_trace : {R : Type 0} → R → R → (ℕ → R) → List Moment → Trace (With R)
numbered_trace opening noise items ms = trace (0, opening) (0, noise) (λ k. (suc k, items k)) ms

numbers : {R : Type 0} (opening : R) (items : ℕ → R) → IsNumbered number_of (0, opening) (λ k. (suc k, items k))
numbers opening items = record { opening_first = refl; in_turn = λ k. omega arith }

without_numbers : {R : Type 0} (opening noise : R) (items : ℕ → R) (ms : List Moment) →
    trace opening noise items ms ≡ map_trace record_of (numbered_trace opening noise items ms)
without_numbers {R} opening noise items ms = trace_mapped {A = With R} record_of (0, opening) (0, noise) (λ k. (suc k, items k)) ms

source_mapped : {R : Type 0} (opening : R) (items : ℕ → R) (n : ℕ) →
    (source_record {R = With R} (0, opening) (λ k. (suc k, items k)) n).1 ≡ source_record opening items n
source_mapped opening items zero = refl
source_mapped opening items (suc k) = refl

pub traces_clear : {R : Type 0} (opening noise : R) (items : ℕ → R) (ms : List Moment) → RisesFrom 0 ms →
    IsClear (writes_of (trace opening noise items ms)) (reads_of (trace opening noise items ms))
traces_clear {R} opening noise items ms rises =
    let P : Trace R → Type 0 = λ t. IsClear (writes_of t) (reads_of t) in
    let good = trace_good {R = With R} number_of (0, opening) (0, noise) (λ k. (suc k, items k)) ms (numbers opening items) rises in
    subst P (sym (without_numbers opening noise items ms)) good.1.clear

some_mapped : {A B : Type 0} (f : A → B) (o : Option A) (x : B) → option_map f o ≡ Some x → (y : A) × (o ≡ Some y) × (f y ≡ x)
some_mapped f None x e = cc
some_mapped f (Some y) x e = (y, refl, cc)

pub traces_fresh : {R : Type 0} (opening noise : R) (items : ℕ → R) (ms : List Moment) → RisesFrom 0 ms → (m : ℕ) (x : R) →
    slice_get (trace opening noise items ms).answers m ≡ Some x → (n : ℕ) × IsFreshRead (writes_of (trace opening noise items ms))
    (reads_of (trace opening noise items ms)) m n × (x ≡ source_record opening items n)
traces_fresh {R} opening noise items ms rises m x e =
    let numbered : Trace (With R) = numbered_trace opening noise items ms in
    let same = without_numbers opening noise items ms in
    let good = trace_good {R = With R} number_of (0, opening) (0, noise) (λ k. (suc k, items k)) ms (numbers opening items) rises in
    let there : slice_get (map record_of numbered.answers) m ≡ Some x = ap (λ t. slice_get t.answers m) (sym same) ∙ e in
    let y = some_mapped record_of (slice_get numbered.answers m) x (sym (slice_get-map record_of numbered.answers m) ∙ there) in
    let P : Trace R → Type 0 = λ t. IsFreshRead (writes_of t) (reads_of t) m y.0.0 in (
      y.0.0,
      subst P (sym same) (numbered_read_fresh {R = With R} number_of (0, opening) (λ k. (suc k, items k)) numbered good.0 m y.0 good.1 y.1),
      sym y.2 ∙ ap record_of (good.1.known.answers m y.0 y.1) ∙ source_mapped opening items y.0.0,
    )

-- how many steps, slots and answers a trace has
pub traces_counted : {R : Type 0} (opening noise : R) (items : ℕ → R) (ms : List Moment) → RisesFrom 0 ms →
    (end : ℕ) × IsCounted (trace opening noise items ms) end
traces_counted {R} opening noise items ms rises =
    let good = trace_good {R = With R} number_of (0, opening) (0, noise) (λ k. (suc k, items k)) ms (numbers opening items) rises in
    let P : Trace R → Type 0 = λ t. IsCounted t good.0 in
    (good.0, subst P (sym (without_numbers opening noise items ms)) (plain good.0 (numbered_trace opening noise items ms) good.1.counted))
  where
    plain : (end : ℕ) (t : Trace (With R)) → IsCounted t end → IsCounted (map_trace record_of t) end
    plain end t c = record {
      writer = c.writer;
      reader = c.reader ∙ ap (λ n. n * 5 + made t.cell.reader) (sym (length-map t.answers record_of));
      read_slots = c.read_slots ∙ ap (λ n. n + has_chosen t.cell.reader) (sym (length-map t.answers record_of));
      writer_below = c.writer_below;
      reader_below = c.reader_below;
      write_slot = c.write_slot;
      read_slot = λ i. ap (slice_get t.read_slots) (length-map t.answers record_of) ∙ c.read_slot i;
    }

small_made : (r : ReaderStage) → made r ≤ 4
small_made R1 = omega arith
small_made R2 = omega arith
small_made R3 = omega arith
small_made R4 = omega arith
small_made R5 = omega arith

-- each read that has ended has its answer
pub traces_answered : {R : Type 0} (opening noise : R) (items : ℕ → R) (ms : List Moment) → RisesFrom 0 ms → (m : ℕ) →
    IsSome ((reads_of (trace opening noise items ms)).at m 4) → IsSome (slice_get (trace opening noise items ms).answers m)
traces_answered {R} opening noise items ms rises m ended =
    let t : Trace R = trace opening noise items ms in
    let c = traces_counted opening noise items ms rises in
    let e = some_of (slice_get t.reader (m * 5 + 4)) ended in
    let inside : m * 5 + 4 < length t.reader = slice_get_within t.reader (m * 5 + 4) e.0 e.1 in
    let x = get_within t.answers m (omega (arith, c.1.reader, small_made t.cell.reader)) in
    is_some_of (slice_get t.answers m) x.0 x.1

-- the first steps of a schedule rise as the whole does
pub rises_first : (next : ℕ) (ms more : List Moment) → RisesFrom next (ms ++ more) → RisesFrom next ms
rises_first next [] more h = tt
rises_first next (m ∷ ms) more h = (h.0, rises_first (m.at + 1) ms more h.1)

-- the positions of a schedule rise
pub moments_rise : (n : ℕ) (turns : List Turn) → RisesFrom n (moments_from n turns)
moments_rise n [] = tt
moments_rise n (turn ∷ turns) = (omega arith, moments_rise (n + 1) turns)

rises_lower : (next : ℕ) (ms : List Moment) → RisesFrom (next + 1) ms → RisesFrom next ms
rises_lower next [] h = tt
rises_lower next (m ∷ ms) h = (omega (arith, h.0), h.1)

-- positions that rise from any number on rise from 0 on
pub rises_from_first : (next : ℕ) (ms : List Moment) → RisesFrom next ms → RisesFrom 0 ms
rises_from_first next [] h = tt
rises_from_first next (m ∷ ms) h = (omega arith, h.1)

-- the steps of one cell among other events rise too
pub moments_of_rise : {E : Type 0} (turn : E → Option Turn) (n : ℕ) (es : List E) → RisesFrom n (moments_of turn n es)
moments_of_rise turn n [] = tt
moments_of_rise turn n (e ∷ es) = with_first (turn e) (moments_of turn (n + 1) es) (moments_of_rise turn (n + 1) es)
  where
    with_first : (o : Option Turn) (ms : List Moment) → RisesFrom (n + 1) ms → RisesFrom n (moment_at o n ++ ms)
    with_first None ms h = rises_lower n ms h
    with_first (Some t) ms h = (omega arith, h)

-- one more event
pub moments_of_more : {E : Type 0} (turn : E → Option Turn) (n : ℕ) (es : List E) (e : E) →
    moments_of turn n (es ++ e ∷ []) ≡ moments_of turn n es ++ moment_at (turn e) (n + length es)
moments_of_more turn n [] e = append-nil (moment_at (turn e) n) ∙ ap (moment_at (turn e)) (omega arith)
moments_of_more turn n (d ∷ es) e =
    let k : (n + 1) + length es ≡ n + suc (length es) = omega arith in
    ap (λ ms. moment_at (turn d) n ++ ms)
    (moments_of_more turn (n + 1) es e ∙ ap (λ m. moments_of turn (n + 1) es ++ moment_at (turn e) m) k)
    ∙ sym (append_assoc (moment_at (turn d) n) (moments_of turn (n + 1) es) (moment_at (turn e) (n + suc (length es))))

-- one more step
pub trace_more : {R : Type 0} (opening noise : R) (items : ℕ → R) (ms : List Moment) (m : Moment) →
    trace opening noise items (ms ++ m ∷ []) ≡ then_step items (trace opening noise items ms) m.turn m.at
trace_more {R} opening noise items ms m =
    fold-append {A = Moment} {B = Trace R} (λ t m. then_step items t m.turn m.at) (trace_start opening noise) ms (m ∷ [])
