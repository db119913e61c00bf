-- A trace from the opening, where write k takes a record with the number k + 1, is clear and fresh: each step keeps what the
-- files above say of it.
use Rattle.std.proofs.Common.{◌≡◌, ℕ, ◌+◌, ◌<◌, ◌≤◌, List, [], ◌∷◌, length, slice_get, Some, zero, suc, refl, ap, ◌⊎◌, inl, inr, arith}
use Rattle.std.specs.List.{fold}
use Rattle.std.proofs.lemmas.Option.{slice_get_within}
use Rattle.four_slot_core.specs.declared.schedule.Turn.{Turn}
use Rattle.four_slot_core.specs.declared.schedule.Turn.TheVariants.{Writer, Reader}
use Rattle.four_slot_core.specs.declared.state.Stage.{Stage}
use Rattle.four_slot_core.specs.declared.state.Stage.TheVariants.{W1, W2, W3, W4, W5}
use Rattle.four_slot_core.specs.Accesses.{Accesses, IsClear, IsSource, IsFreshRead}
use Rattle.four_slot_core.specs.Freshness.{prev_after, floor_after}
use Rattle.four_slot_core.specs.Invariant.{IsUnderWay, last_after}
use Rattle.four_slot_core.specs.Traces.{Moment, RisesFrom, Trace, then_step, trace, trace_start, writes_of, reads_of, source_record}
use Rattle.four_slot_core.proofs.Pushed.{get_within}
use Rattle.four_slot_core.proofs.traces.Counts.{IsCounted, counted_write, counted_read, counted_start}
use Rattle.four_slot_core.proofs.traces.Clear.{clear_write, clear_read}
use Rattle.four_slot_core.proofs.traces.Fresh.{open_writes, IsFreshTrace, fresh_write, fresh_read, fresh_start}
use Rattle.four_slot_core.proofs.traces.Sources.{IsSourced, sourced_write, sourced_read, sourced_start}
use Rattle.four_slot_core.proofs.traces.Records.{HasKnown, known_write, known_read, known_start}

-- the opening has the number 0, and the item of write k the number k + 1
pub record IsNumbered {R : Type 0} (num : R → ℕ) (opening : R) (items : ℕ → R) : Type 0 where
  pub opening_first : num opening ≡ 0
  pub in_turn : (k : ℕ) → num (items k) ≡ k + 1

pub record IsGood {R : Type 0} (num : R → ℕ) (opening : R) (items : ℕ → R) (t : Trace R) (next : ℕ) : Type 0 where
  pub counted : IsCounted t next
  pub clear : IsClear (writes_of t) (reads_of t)
  pub last : R
  pub prev : ℕ
  pub floor : ℕ
  pub fresh : IsFreshTrace num t last prev floor
  pub sourced : IsSourced num t prev
  pub known : HasKnown num opening items t

one_open : (w : Stage) → IsUnderWay w → open_writes w ≡ 1
one_open W1 u = refl
one_open W2 u = refl
one_open W3 u = refl
one_open W4 u = refl
one_open W5 u = absurd u

good_step : {R : Type 0} (num : R → ℕ) (opening : R) (items : ℕ → R) (t : Trace R) (turn : Turn) (next at : ℕ) → IsNumbered num opening
    items → next ≤ at → IsGood num opening items t next → IsGood num opening items (then_step items t turn at) (at + 1)
good_step {R} num opening items t Writer next at n le h =
    let k : ℕ = length t.write_slots in
    let x : R = items k in
    let number : num x ≡ k + 1 = n.in_turn k in
    let is : suc k ≡ num x = omega arith in
    record {
      counted = counted_write at x t next le h.counted;
      clear = clear_write at x t next h.last le h.counted h.fresh.sound h.clear;
      last = last_after t.cell.writer t.cell h.last;
      prev = h.prev;
      floor = h.floor;
      fresh = fresh_write num at x t next h.last h.prev h.floor le number h.counted h.fresh;
      sourced = sourced_write num at x t next h.prev le h.counted
          (λ u. omega (arith, h.fresh.order.numbered u, h.fresh.numbered, one_open t.cell.writer u)) h.sourced;
      known = known_write num opening items at x t (ap (source_record opening items) is) h.known;
    }
good_step {R} num opening items t Reader next at n le h = record {
  counted = counted_read at t next le h.counted;
  clear = clear_read at t next h.last le h.counted h.fresh.sound h.clear;
  last = h.last;
  prev = prev_after t.cell.reader num t.cell h.prev;
  floor = floor_after t.cell.reader num h.last h.floor;
  fresh = fresh_read num at t next h.last h.prev h.floor le h.counted h.fresh;
  sourced = sourced_read num at t next h.last h.prev h.floor le h.counted h.fresh h.sourced;
  known = known_read num opening items at t h.fresh.unmet h.known;
}

good_steps : {R : Type 0} (num : R → ℕ) (opening : R) (items : ℕ → R) (ms : List Moment) (t : Trace R) (next : ℕ) →
    IsNumbered num opening items → RisesFrom next ms → IsGood num opening items t next →
    (end : ℕ) × IsGood num opening items (fold (λ u m. then_step items u m.turn m.at) t ms) end
good_steps num opening items [] t next n rises h = (next, h)
good_steps num opening items (m ∷ ms) t next n rises h = good_steps num opening items ms (then_step items t m.turn m.at) (m.at + 1) n
    rises.1 (good_step num opening items t m.turn next m.at n rises.0 h)

pub trace_good : {R : Type 0} (num : R → ℕ) (opening noise : R) (items : ℕ → R) (ms : List Moment) → IsNumbered num opening items →
    RisesFrom 0 ms → (end : ℕ) × IsGood num opening items (trace opening noise items ms) end
trace_good {R} num opening noise items ms n rises = good_steps num opening items ms (trace_start opening noise) 0 n rises (record {
  counted = counted_start opening noise;
  clear = λ k m same sw sr. cc;
  last = opening;
  prev = 0;
  floor = 0;
  fresh = fresh_start num opening noise n.opening_first;
  sourced = sourced_start num opening noise n.opening_first;
  known = known_start num opening noise items n.opening_first;
})

-- a read has one source
pub source_up : (writer reader : Accesses) (m a b : ℕ) → IsSource writer reader m a → IsSource writer reader m b → a ≤ b
source_up writer reader m a b h g = elim (number_cases a) [
  | inl z ↦ omega arith
  | inr k ↦ let f = g.above k.0 (h.filled k.0 k.1) in omega (arith, k.1)
]
  where
    number_cases : (n : ℕ) → (n ≡ 0) ⊎ ((k : ℕ) × (n ≡ k + 1))
    number_cases zero = inl refl
    number_cases (suc k) = inr (k, omega arith)

-- a finished read is fresh, by the number of its answer
pub numbered_read_fresh : {R : Type 0} (num : R → ℕ) (opening : R) (items : ℕ → R) (t : Trace R) (next m : ℕ) (x : R) →
    IsGood num opening items t next → slice_get t.answers m ≡ Some x → IsFreshRead (writes_of t) (reads_of t) m (num x)
numbered_read_fresh {R} num opening items t next m x h e =
    let mine = h.fresh.finished m x e in
    let inside : m < length t.answers = slice_get_within t.answers m x e in
    record {
      source = h.sourced.finished m x e;
      read_of = record {
        late = λ k b. let l : k + 1 ≤ num x = mine.writes k b in omega arith;
        begun = λ k e. mine.begun k e;
      };
      reads = λ j i l s.
          let y = get_within t.answers j (omega arith) in
          let up : i ≤ num y.0 = source_up (writes_of t) (reads_of t) j i (num y.0) s (h.sourced.finished j y.0 y.1) in
          omega (arith, mine.earlier j y.0 l y.1);
    }
