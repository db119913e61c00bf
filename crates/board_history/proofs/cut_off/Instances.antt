-- The three runs: every list has few elements, so each fact computes at its places.
use Rattle.std.proofs.Common.{◌≡◌, ◌≢◌, ℕ, zero, suc, ◌+◌, ◌<◌, List, [], ◌∷◌, slice_get, Option, None, Some}
use Rattle.std.proofs.Common.{true, false, refl, ap, subst, arith, inl, inr, ◌⊎◌}
use Rattle.std.specs.Prelude.{if◌then◌else◌}
use Rattle.std.proofs.lemmas.Option.{none-some, same_Some}
use Rattle.history_core.specs.declared.history.Op.{Op}
use Rattle.history_core.specs.Orders.{IsAtomicOrder, times_of}
use Rattle.history_core.specs.Schedules.{positions}
use Rattle.history_core.specs.Registers.{intervals, IsBefore, IsReadOf}
use Rattle.matrix_core.specs.declared.stamp.Stamp.{Stamp}
use Rattle.matrix_core.specs.declared.stamp.Stamped.{Stamped}
use Rattle.matrix_core.specs.Stamps.{first_stamp}
use Rattle.matrix_core.specs.Lines.{other}
use Rattle.matrix_core.specs.Listings.{IsInOrder, is_listed}
use Rattle.board_history.specs.BoardRuns.{Called, Did, end_of, IsRegister}
use Rattle.board_history.specs.CutOffInstances.{answered, cell_ops, cell_run, cell_stamps, cell_steps, column_ops, column_run}
use Rattle.board_history.specs.CutOffInstances.{column_stamps, kept_run, kept_steps}
use Rattle.board_history.specs.CutOffInstances.{column_steps, IsWorkedOut, read_call, read_op, row_ops, row_run, row_run_of, row_stamps}
use Rattle.board_history.specs.CutOffInstances.{row_steps, write_call, write_op, written}
use Rattle.board_history.specs.HistoriesSoFar.{IsOpOfCallSoFar, IsHistorySoFar, IsUnchosenCall}
use Rattle.board_history.specs.Instances.{seven, zero_first}
use Rattle.board_history.specs.RunsSoFar.{IsBoardRunSoFar, IsProcessSoFar, unchosen_begin}
use Rattle.board_history.proofs.Growing.{not_both}
use Rattle.board_history.proofs.cut_off.Few.{IsPartOf, none_chosen, none_find, not_read, one_call, read_first, two_sorted}
use Rattle.board_history.proofs.cut_off.Places.{below, each_at, EachAt, each_pair}

column_each : (i : ℕ) → i < 2 → IsProcessSoFar 2 2 5 zero_first i (column_run i)
column_each zero l = one_call 2 2 0 (column_run 0).times (write_call 4) (column_run 0).writes (column_run 0).reads refl
    (omega arith) refl (2, refl)
    (λ e m. below (λ e. IsPartOf 2 2 0 (column_run 0).times (write_call 4) (column_run 0).writes (column_run 0).reads e (other 0 e)) 1
    (record { read_begun = refl; read_ended = refl; write_begun = refl; write_ended = refl; written = (refl, tt) }, tt) e (omega arith))
    (zero_first ∷ []) refl (refl, tt) refl (λ place. (omega arith, refl))
column_each (suc zero) l = none_chosen 2 2 1 (column_run 1).times (column_run 1).writes (column_run 1).reads (omega arith) (λ j. refl)
column_each (suc (suc i)) l = absurd (omega arith)

column_is_run : IsBoardRunSoFar 2 2 5 zero_first column_steps column_run
column_is_run = record {
  size = (omega arith, omega arith, omega arith);
  within = each_at (λ step who. who < 2) column_steps
      (omega arith, (omega arith, (omega arith, (omega arith, (omega arith, tt)))));
  scheduled = below (λ i. (column_run i).times ≡ positions 1 i column_steps) 2 (refl, (refl, tt));
  each = column_each;
  finds = none_find 2 2 column_run none;
  registers = λ i j li lj ne. registers i j li lj ne;
}
  where
    none : (i k : ℕ) (c : Called ℕ) → slice_get (column_run i).calls k ≡ Some c → c.finds ≡ false
    none zero = each_at (λ k c. c.finds ≡ false) (column_run 0).calls (refl, tt)
    none (suc i) = each_at (λ k c. c.finds ≡ false) [] tt

    registers : (i j : ℕ) → i < 2 → j < 2 → i ≢ j → IsRegister zero_first ((column_run i).writes j) ((column_run j).reads i)
    registers zero zero li lj ne = absurd (ne refl)
    registers zero (suc zero) li lj ne = not_read ((column_run 0).writes 1) (5 ∷ []) []
    registers (suc zero) zero li lj ne = read_first ((column_run 1).writes 0) 1 2 tt
    registers (suc zero) (suc zero) li lj ne = absurd (ne refl)
    registers (suc (suc i)) j li lj ne = absurd (omega arith)
    registers i (suc (suc j)) li lj ne = absurd (omega arith)

-- a history of two operations
module _ (width n : ℕ) (did : ℕ → Did ℕ) where
  abbrev IsOne : Op ℕ → Option Stamp → Type 0
  IsOne op stamp = ((k : ℕ) × IsOpOfCallSoFar width n did op stamp k) ⊎ IsUnchosenCall width n did op stamp

  abbrev HasCall : List (Op ℕ) → List (Option Stamp) → ℕ → ℕ → Type 0
  HasCall ops stamps i k = (p : ℕ) × (op : Op ℕ) × (stamp : Option Stamp) × (slice_get ops p ≡ Some op) × (slice_get stamps p ≡ Some stamp)
      × (op.who ≡ i) × IsOpOfCallSoFar width n did op stamp k

  abbrev HasUnchosen : List (Op ℕ) → List (Option Stamp) → ℕ → Type 0
  HasUnchosen ops stamps i = (p : ℕ)
      × (op : Op ℕ) × (stamp : Option Stamp) × (slice_get ops p ≡ Some op) × (slice_get stamps p ≡ Some stamp)
      × (op.who ≡ i) × IsUnchosenCall width n did op stamp

  pub two_calls : (a b : Op ℕ) (s t : Option Stamp) → IsOne a s → IsOne b t →
      ((i : ℕ) → i < n → EachAt (λ k c. HasCall (a ∷ b ∷ []) (s ∷ t ∷ []) i k) (did i).calls) →
      ((i begin : ℕ) → i < n → unchosen_begin width n (did i) ≡ Some begin → HasUnchosen (a ∷ b ∷ []) (s ∷ t ∷ []) i) →
      a.starts < b.starts →
      IsHistorySoFar width n did (a ∷ b ∷ []) (s ∷ t ∷ [])
  two_calls a b s t is_a is_b calls unchosen l = record {
    long = refl;
    each = each_pair (λ p op stamp. IsOne op stamp) (a ∷ b ∷ []) (s ∷ t ∷ []) (is_a, (is_b, tt));
    all = λ i k c li e. each_at (λ k c. HasCall (a ∷ b ∷ []) (s ∷ t ∷ []) i k) (did i).calls (calls i li) k c e;
    unchosen = unchosen;
    rising = λ p q c d ec ed m. rising p q c d ec ed m;
  }
    where
      rising : (p q : ℕ) (c d : Op ℕ) → slice_get (a ∷ b ∷ []) p ≡ Some c → slice_get (a ∷ b ∷ []) q ≡ Some d → p < q → c.starts < d.starts
      rising zero zero c d ec ed m = absurd (omega arith)
      rising zero (suc zero) c d ec ed m =
          subst (λ (z : Op ℕ). z.starts < d.starts) (same_Some a c ec) (subst (λ (z : Op ℕ). a.starts < z.starts) (same_Some b d ed) l)
      rising (suc p) zero c d ec ed m = absurd (omega arith)
      rising (suc zero) (suc zero) c d ec ed m = absurd (omega arith)
      rising (suc (suc p)) (suc q) c d ec ed m = absurd (none-some c ec)
      rising p (suc (suc q)) c d ec ed m = absurd (none-some d ed)

write_ended : IsOpOfCallSoFar 2 2 column_run (write_op (Some 4)) (Some seven.stamp) 0
write_ended = record {
  who = omega arith;
  call = write_call 4;
  made = refl;
  kind = refl;
  item = refl;
  stamp = refl;
  begins = refl;
  ends = refl;
}

read_unchosen : IsUnchosenCall 2 2 column_run (read_op 5 None None) None
read_unchosen = record { who = omega arith; begins = refl; ends = refl; stamp = refl }

column_history : IsHistorySoFar 2 2 column_run column_ops column_stamps
column_history = two_calls 2 2 column_run (write_op (Some 4)) (read_op 5 None None) (Some seven.stamp) None (inl (0, write_ended))
    (inr read_unchosen) (λ i l. calls i l) (λ i begin l e. unchosen i begin l e) (omega arith)
  where
    calls : (i : ℕ) → i < 2 → EachAt (λ k c. HasCall 2 2 column_run column_ops column_stamps i k) (column_run i).calls
    calls zero l = ((0, write_op (Some 4), Some seven.stamp, refl, refl, refl, write_ended), tt)
    calls (suc i) l = tt

    unchosen : (i begin : ℕ) → i < 2 → unchosen_begin 2 2 (column_run i) ≡ Some begin →
        HasUnchosen 2 2 column_run column_ops column_stamps i
    unchosen zero begin l e = absurd (none-some begin e)
    unchosen (suc zero) begin l e = (1, read_op 5 None None, None, refl, refl, refl, read_unchosen)
    unchosen (suc (suc i)) begin l e = absurd (omega arith)

column_order : IsInOrder column_ops column_stamps (0 ∷ [])
column_order = record {
  places = each_at (λ i p. p < 2) (0 ∷ []) (omega arith, tt);
  listed = each_pair (λ p op stamp. times_of p (0 ∷ [])
      ≡ (if is_listed op stamp then 1 else 0)) column_ops column_stamps (refl, (refl, tt));
  sorted = λ i j p q a b s t l ha hb es et. one i j q l hb.0;
}
  where
    one : (i j q : ℕ) → i < j → slice_get {X = ℕ} (0 ∷ []) j ≡ Some q → {A : Type 0} → A
    one i zero q l e = absurd (omega arith)
    one i (suc j) q l e = absurd (none-some q e)

pub column_worked : IsWorkedOut 2 2 column_steps column_run column_ops column_stamps (0 ∷ [])
column_worked = record { run = column_is_run; history = column_history; by_stamp = column_order }

row_each : (i : ℕ) → i < 3 → IsProcessSoFar 1 3 5 zero_first i (row_run i)
row_each zero l = one_call 1 3 0 (row_run 0).times (write_call 0) (row_run 0).writes (row_run 0).reads refl
    (omega arith) refl (2, refl)
    (λ e m. below (λ e. IsPartOf 1 3 0 (row_run 0).times (write_call 0) (row_run 0).writes (row_run 0).reads e (other 0 e)) 2 (
      record { read_begun = refl; read_ended = refl; write_begun = refl; write_ended = refl; written = (refl, tt) },
      (record { read_begun = refl; read_ended = refl; write_begun = refl; write_ended = refl; written = tt }, tt),
    ) e (omega arith))
    (zero_first ∷ zero_first ∷ []) refl (refl, (refl, tt)) refl (λ place. (omega arith, refl))
row_each (suc zero) l = one_call 1 3 1 (row_run 1).times (read_call seven 4 7) (row_run 1).writes (row_run 1).reads refl
    (omega arith) refl (5, refl)
    (λ e m. below (λ e. IsPartOf 1 3 1 (row_run 1).times (read_call seven 4 7) (row_run 1).writes (row_run 1).reads e (other 1 e)) 2 (
      record { read_begun = refl; read_ended = refl; write_begun = refl; write_ended = refl; written = (refl, tt) },
      (record { read_begun = refl; read_ended = refl; write_begun = refl; write_ended = refl; written = (refl, tt) }, tt),
    ) e (omega arith))
    (seven ∷ zero_first ∷ []) refl (refl, (refl, tt)) refl (λ place. (refl, refl))
row_each (suc (suc zero)) l = none_chosen 1 3 2 (row_run 2).times (row_run 2).writes (row_run 2).reads (omega arith) (λ j. refl)
row_each (suc (suc (suc i))) l = absurd (omega arith)

-- the write to process 1, and the read that is answered it
told : IsRegister zero_first (written seven 3 (3 ∷ [])) (answered seven 1 4 4)
told = record {
  source = λ m n x a b. each_at (λ m n. (x : Stamped ℕ) → slice_get (seven ∷ []) m ≡ Some x →
      slice_get (zero_first ∷ seven ∷ []) n ≡ Some x) (1 ∷ []) ((λ x e. e), tt) m n a x b;
  read_of = each_at (λ m n. IsReadOf (intervals (3 ∷ []) (3 ∷ [])) (intervals (4 ∷ []) (4 ∷ [])) m n) (1 ∷ [])
      (record { late = λ k b. late k b; begun = λ k e. begun k e }, tt);
  numbered = refl;
}
  where
    late : (k : ℕ) → IsBefore (slice_get (3 ∷ []) k) (Some 4) → k < 1
    late zero b = omega arith
    late (suc k) b = absurd b

    begun : (k : ℕ) → 1 ≡ k + 1 → IsBefore (slice_get (3 ∷ []) k) (Some 4)
    begun zero e = let l : 3 < 4 = omega arith in l
    begun (suc k) e = absurd (omega arith)

row_is_run : IsBoardRunSoFar 1 3 5 zero_first row_steps row_run
row_is_run = record {
  size = (omega arith, omega arith, omega arith);
  within = each_at (λ step who. who < 3) row_steps
      (omega arith, (omega arith, (omega arith, (omega arith, (omega arith, (omega arith, (omega arith, tt)))))));
  scheduled = below (λ i. (row_run i).times ≡ positions 1 i row_steps) 3 (refl, (refl, (refl, tt)));
  each = row_each;
  finds = none_find 1 3 row_run none;
  registers = λ i j li lj ne. registers i j li lj ne;
}
  where
    none : (i k : ℕ) (c : Called ℕ) → slice_get (row_run i).calls k ≡ Some c → c.finds ≡ false
    none zero = each_at (λ k c. c.finds ≡ false) (row_run 0).calls (refl, tt)
    none (suc zero) = each_at (λ k c. c.finds ≡ false) (row_run 1).calls (refl, tt)
    none (suc (suc i)) = each_at (λ k c. c.finds ≡ false) [] tt

    registers : (i j : ℕ) → i < 3 → j < 3 → i ≢ j → IsRegister zero_first ((row_run i).writes j) ((row_run j).reads i)
    registers zero zero li lj ne = absurd (ne refl)
    registers zero (suc zero) li lj ne = told
    registers zero (suc (suc j)) li lj ne = not_read ((row_run 0).writes (suc (suc j))) [] []
    registers (suc zero) zero li lj ne = read_first ((row_run 1).writes 0) 1 1 (omega arith, tt)
    registers (suc zero) (suc zero) li lj ne = absurd (ne refl)
    registers (suc zero) (suc (suc j)) li lj ne = not_read ((row_run 1).writes (suc (suc j))) [] []
    registers (suc (suc zero)) zero li lj ne = read_first ((row_run 2).writes 0) 2 2 tt
    registers (suc (suc zero)) (suc zero) li lj ne = read_first ((row_run 2).writes 1) 5 5 tt
    registers (suc (suc zero)) (suc (suc zero)) li lj ne = absurd (ne refl)
    registers (suc (suc zero)) (suc (suc (suc j))) li lj ne = absurd (omega arith)
    registers (suc (suc (suc i))) j li lj ne = absurd (omega arith)

-- of processes 0 and 1 the call that is cut off, and the one that has ended
row_write : IsOpOfCallSoFar 1 3 row_run (write_op None) (Some seven.stamp) 0
row_write = record {
  who = omega arith;
  call = write_call 0;
  made = refl;
  kind = refl;
  item = refl;
  stamp = refl;
  begins = refl;
  ends = refl;
}

row_read : IsOpOfCallSoFar 1 3 row_run (read_op 4 (Some 7) (Some 7)) (Some seven.stamp) 0
row_read = record {
  who = omega arith;
  call = read_call seven 4 7;
  made = refl;
  kind = refl;
  item = refl;
  stamp = refl;
  begins = refl;
  ends = refl;
}

row_history : IsHistorySoFar 1 3 row_run row_ops row_stamps
row_history = two_calls 1 3 row_run (write_op None) (read_op 4 (Some 7) (Some 7)) (Some seven.stamp) (Some seven.stamp) (inl (0, row_write))
    (inl (0, row_read)) (λ i l. calls i l) (λ i begin l e. absurd (none i begin l e)) (omega arith)
  where
    calls : (i : ℕ) → i < 3 → EachAt (λ k c. HasCall 1 3 row_run row_ops row_stamps i k) (row_run i).calls
    calls zero l = ((0, write_op None, Some seven.stamp, refl, refl, refl, row_write), tt)
    calls (suc zero) l = ((1, read_op 4 (Some 7) (Some 7), Some seven.stamp, refl, refl, refl, row_read), tt)
    calls (suc (suc i)) l = tt

    none : (i begin : ℕ) → i < 3 → unchosen_begin 1 3 (row_run i) ≡ Some begin → ⊥
    none zero begin l e = none-some begin e
    none (suc zero) begin l e = none-some begin e
    none (suc (suc i)) begin l e = none-some begin e

row_order : IsInOrder row_ops row_stamps (0 ∷ 1 ∷ [])
row_order = record {
  places = each_at (λ i p. p < 2) (0 ∷ 1 ∷ []) (omega arith, (omega arith, tt));
  listed = each_pair (λ p op stamp. times_of p (0 ∷ 1 ∷ []) ≡ (if is_listed op stamp then 1 else 0)) row_ops row_stamps (refl, (refl, tt));
  sorted = two_sorted row_ops row_stamps 0 1 (write_op None) (read_op 4 (Some 7) (Some 7)) seven.stamp seven.stamp refl refl refl refl
      (inr (refl, inl (refl, refl)));
}

pub row_worked : IsWorkedOut 1 3 row_steps row_run row_ops row_stamps (0 ∷ 1 ∷ [])
row_worked = record { run = row_is_run; history = row_history; by_stamp = row_order }

cell_each : (i : ℕ) → i < 2 → IsProcessSoFar 3 2 5 zero_first i (cell_run i)
cell_each zero l = one_call 3 2 0 (cell_run 0).times (write_call 0) (cell_run 0).writes (cell_run 0).reads refl
    (omega arith) refl (3, refl)
    (λ e m. below (λ e. IsPartOf 3 2 0 (cell_run 0).times (write_call 0) (cell_run 0).writes (cell_run 0).reads e (other 0 e)) 1
    (record { read_begun = refl; read_ended = refl; write_begun = refl; write_ended = refl; written = (refl, tt) }, tt) e (omega arith))
    (zero_first ∷ []) refl (refl, tt) refl (λ place. (omega arith, refl))
cell_each (suc zero) l = one_call 3 2 1 (cell_run 1).times (read_call zero_first 5 10) (cell_run 1).writes (cell_run 1).reads refl
    (omega arith) refl (7, refl)
    (λ e m. below (λ e. IsPartOf 3 2 1 (cell_run 1).times (read_call zero_first 5 10) (cell_run 1).writes (cell_run 1).reads e
    (other 1 e)) 1
    (record { read_begun = refl; read_ended = refl; write_begun = refl; write_ended = refl; written = (refl, tt) }, tt) e (omega arith))
    (zero_first ∷ []) refl (refl, tt) refl (λ place. (refl, refl))
cell_each (suc (suc i)) l = absurd (omega arith)

cell_is_run : IsBoardRunSoFar 3 2 5 zero_first cell_steps cell_run
cell_is_run = record {
  size = (omega arith, omega arith, omega arith);
  within = each_at (λ step who. who < 2) cell_steps (
    omega arith,
    (
      omega arith,
      (
        omega arith,
        (
          omega arith,
          (
            omega arith,
            (
              omega arith,
              (omega arith, (omega arith, (omega arith, (omega arith, tt)))),
            ),
          ),
        ),
      ),
    ),
  );
  scheduled = below (λ i. (cell_run i).times ≡ positions 1 i cell_steps) 2 (refl, (refl, tt));
  each = cell_each;
  finds = none_find 3 2 cell_run none;
  registers = λ i j li lj ne. registers i j li lj ne;
}
  where
    none : (i k : ℕ) (c : Called ℕ) → slice_get (cell_run i).calls k ≡ Some c → c.finds ≡ false
    none zero = each_at (λ k c. c.finds ≡ false) (cell_run 0).calls (refl, tt)
    none (suc i) = each_at (λ k c. c.finds ≡ false) (cell_run 1).calls (refl, tt)

    registers : (i j : ℕ) → i < 2 → j < 2 → i ≢ j → IsRegister zero_first ((cell_run i).writes j) ((cell_run j).reads i)
    registers zero zero li lj ne = absurd (ne refl)
    registers zero (suc zero) li lj ne = read_first ((cell_run 0).writes 1) 5 7 tt
    registers (suc zero) zero li lj ne = read_first ((cell_run 1).writes 0) 1 3 (omega arith, tt)
    registers (suc zero) (suc zero) li lj ne = absurd (ne refl)
    registers (suc (suc i)) j li lj ne = absurd (omega arith)
    registers i (suc (suc j)) li lj ne = absurd (omega arith)

cell_write : IsOpOfCallSoFar 3 2 cell_run (write_op None) (Some seven.stamp) 0
cell_write = record {
  who = omega arith;
  call = write_call 0;
  made = refl;
  kind = refl;
  item = refl;
  stamp = refl;
  begins = refl;
  ends = refl;
}

cell_read : IsOpOfCallSoFar 3 2 cell_run (read_op 5 (Some 10) (Some 0)) (Some first_stamp) 0
cell_read = record {
  who = omega arith;
  call = read_call zero_first 5 10;
  made = refl;
  kind = refl;
  item = refl;
  stamp = refl;
  begins = refl;
  ends = refl;
}

cell_history : IsHistorySoFar 3 2 cell_run cell_ops cell_stamps
cell_history = two_calls 3 2 cell_run (write_op None) (read_op 5 (Some 10) (Some 0)) (Some seven.stamp) (Some first_stamp) (inl
    (0, cell_write))
    (inl (0, cell_read)) (λ i l. calls i l) (λ i begin l e. absurd (none i begin l e)) (omega arith)
  where
    calls : (i : ℕ) → i < 2 → EachAt (λ k c. HasCall 3 2 cell_run cell_ops cell_stamps i k) (cell_run i).calls
    calls zero l = ((0, write_op None, Some seven.stamp, refl, refl, refl, cell_write), tt)
    calls (suc zero) l = ((1, read_op 5 (Some 10) (Some 0), Some first_stamp, refl, refl, refl, cell_read), tt)
    calls (suc (suc i)) l = absurd (omega arith)

    none : (i begin : ℕ) → i < 2 → unchosen_begin 3 2 (cell_run i) ≡ Some begin → ⊥
    none zero begin l e = none-some begin e
    none (suc i) begin l e = none-some begin e

cell_order : IsInOrder cell_ops cell_stamps (1 ∷ 0 ∷ [])
cell_order = record {
  places = each_at (λ i p. p < 2) (1 ∷ 0 ∷ []) (omega arith, (omega arith, tt));
  listed = each_pair (λ p op stamp. times_of p (1 ∷ 0 ∷ [])
      ≡ (if is_listed op stamp then 1 else 0)) cell_ops cell_stamps (refl, (refl, tt));
  sorted = two_sorted cell_ops cell_stamps 1 0 (read_op 5 (Some 10) (Some 0)) (write_op None) first_stamp seven.stamp refl refl refl refl
      (inl (inl (omega arith)));
}

pub cell_worked : IsWorkedOut 3 2 cell_steps cell_run cell_ops cell_stamps (1 ∷ 0 ∷ [])
cell_worked = record { run = cell_is_run; history = cell_history; by_stamp = cell_order }

differ : (a b : ℕ) → a ≡ b → b < a → ⊥
differ a b e l = omega arith

-- a read that is cut off has no place in an order
pub no_cut_read : IsAtomicOrder (λ x y. x ≡ y) 0 column_ops (0 ∷ 1 ∷ []) → ⊥
no_cut_read is = differ 1 0 (is.listing.stands 1 (read_op 5 None None) (omega arith) (omega arith) refl) (omega arith)

-- the read of 7 has none without the write that is cut off
pub not_without_write : IsAtomicOrder (λ x y. x ≡ y) 0 row_ops (1 ∷ []) → ⊥
not_without_write is = differ 7 0 (is.reading 0 (read_op 4 (Some 7) (Some 7)) refl) (omega arith)

-- and the answer to process 1 isn't older than what it was told
pub no_stale : (number : ℕ) → IsBoardRunSoFar 1 3 5 zero_first row_steps (row_run_of zero_first number) → ⊥
no_stale number run =
    let r = run.registers 0 1 (omega arith) (omega arith) (λ e. omega arith) in
    let late : 0 < number = (r.read_of 0 number refl).late 0 (let l : 3 < 4 = omega arith in l) in
    later number late (r.source 0 number zero_first refl refl)
  where
    later : (n : ℕ) → 0 < n → slice_get (zero_first ∷ seven ∷ []) n ≡ Some zero_first → ⊥
    later zero l e = omega arith
    later (suc zero) l e = differ 1 0 (ap (λ (s : Stamped ℕ). s.stamp.tag) (same_Some seven zero_first e)) (omega arith)
    later (suc (suc n)) l e = none-some zero_first e

-- nor does process 1 keep to itself what it was told, while the write isn't told to process 2
pub no_kept : IsBoardRunSoFar 1 3 5 zero_first kept_steps kept_run → ⊥
no_kept run =
    let w = run.finds 1 0 6 _ (omega arith) refl refl refl refl in
    no_end w.who w.number w.call w.end w.there w.tells w.ended
  where
    none : (i k : ℕ) (c : Called ℕ) → slice_get (kept_run (suc i)).calls k ≡ Some c → c.tells ≡ false
    none zero = each_at (λ k c. c.tells ≡ false) (kept_run 1).calls (refl, tt)
    none (suc i) = each_at (λ k c. c.tells ≡ false) [] tt

    no_end : (i k : ℕ) (c : Called ℕ) (end : ℕ) → slice_get (kept_run i).calls k ≡ Some c → c.tells ≡ true →
        end_of 1 3 (kept_run i) k c ≡ Some end → ⊥
    no_end zero k c end e t g = each_at (λ k c. end_of 1 3 (kept_run 0) k c ≡ Some end → ⊥) (kept_run 0).calls
        ((λ g. none-some end g), tt) k c e g
    no_end (suc i) k c end e t g = not_both c.tells t (none i k c e)
