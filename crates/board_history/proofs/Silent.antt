-- Reads that tell nobody: one that has its process's own record makes a run, and one that finds that its record was told; one that has
-- another record makes none (`silent`), nor one that finds so too early (`finds`).
use Rattle.std.proofs.Common.{◌≡◌, ◌≢◌, Bool, ℕ, zero, suc, ◌+◌, ◌-◌, ◌<◌, List, [], ◌∷◌, length, slice_get, Some, true, false}
use Rattle.std.proofs.Common.{refl, sym, ◌∙◌, ap, subst, arith, inl}
use Rattle.std.proofs.lemmas.Option.{none-some, same_Some}
use Rattle.matrix_core.specs.declared.stamp.Stamped.{Stamped}
use Rattle.matrix_core.specs.Choices.{ChoosesByKind}
use Rattle.matrix_core.specs.Stamps.{greater}
use Rattle.history_core.specs.declared.history.Kind.TheVariants.{Write, Read}
use Rattle.history_core.specs.Schedules.{positions}
use Rattle.history_core.specs.Registers.{IsReadOf}
use Rattle.board_history.specs.BoardRuns.{AreReads, AreWrites, Called, end_of, IsBoardRun, IsProcess, IsRegister, own_before, Sees}
use Rattle.board_history.specs.BoardRuns.{steps_before, steps_of_call, told, WasTold}
use Rattle.board_history.proofs.Growing.{not_both}
use Rattle.board_history.proofs.Instances.{one_each, one_process}
use Rattle.board_history.specs.Instances.{found_early, found_read, seven, silent_before, silent_read, telling, two_processes}
use Rattle.board_history.specs.Instances.{untold_read, zero_first}

module _ (answer : Stamped ℕ) (number begin end : ℕ) (finds : Bool) (times : List ℕ) where
  -- the read that tells nobody
  abbrev read : Called ℕ
  read = record { begin = begin; end = end; kind = Read; seen = answer; chosen = answer; tells = false; finds = finds }

  not_told : (c : Called ℕ) → read ≡ c → c.tells ≡ true → ⊥
  not_told c e t = not_both c.tells t (sym (ap (λ (z : Called ℕ). z.tells) e))

  -- a process that made this one read: it has its own record, or finds that it needn't tell
  reader : length times ≡ steps_of_call 1 2 false finds + 0 → slice_get times 0 ≡ Some begin →
      slice_get times (0 + (steps_of_call 1 2 false finds - 1)) ≡ Some end → (finds ≡ false → answer ≡ zero_first) →
      answer ≡ greater zero_first answer → IsProcess 1 2 5 zero_first 1 (untold_read answer number begin end finds times)
  reader long first last own is = record {
    long = long;
    begun = λ k c e. begun k c e;
    ended = λ k c e. ended k c e;
    reads = λ e l. at_read e l;
    answered = λ e l. refl;
    writes = λ e l. at_write e l;
    written = λ e l. refl;
    silent = λ k c e t f. silent k c e f;
    sees = λ k c e. saw k c e;
    chooses = λ k place c e. chose k place c e;
  }
    where
      begun : (k : ℕ) (c : Called ℕ) → slice_get (read ∷ []) k ≡ Some c → slice_get times (steps_before 1 2 (read ∷ []) k) ≡ Some c.begin
      begun zero c e = first ∙ ap (λ (z : Called ℕ). Some z.begin) (same_Some read c e)
      begun (suc k) c e = absurd (none-some c e)

      ended : (k : ℕ) (c : Called ℕ) → slice_get (read ∷ []) k ≡ Some c →
          slice_get times (steps_before 1 2 (read ∷ []) k + (steps_of_call 1 2 c.tells c.finds - 1)) ≡ Some c.end
      ended zero c e = ap (λ (z : Called ℕ). slice_get times (0 + (steps_of_call 1 2 z.tells z.finds - 1))) (sym (same_Some read c e))
          ∙ last ∙ ap (λ (z : Called ℕ). Some z.end) (same_Some read c e)
      ended (suc k) c e = absurd (none-some c e)

      at_first : (k : ℕ) → k < 1 → slice_get (begin ∷ []) k ≡ slice_get times (steps_before 1 2 (read ∷ []) k + 0)
      at_first zero l = sym first
      at_first (suc k) l = absurd (omega arith)

      at_read : (e : ℕ) → e + 1 < 2 →
          AreReads 1 2 (untold_read answer number begin end finds times) e (begin ∷ []) (begin ∷ [])
      at_read zero l = record { begun = λ k l. at_first k l; ended = λ k l. at_first k l; all = (refl, refl) }
      at_read (suc e) l = absurd (omega arith)

      none : (e k : ℕ) (c : Called ℕ) → slice_get (read ∷ []) k ≡ Some c → c.tells ≡ true → slice_get {X = ℕ} [] (told (read ∷ []) k)
          ≡ slice_get times (steps_before 1 2 (read ∷ []) k + e)
      none e zero c h t = absurd (not_told c (same_Some read c h) t)
      none e (suc k) c h t = absurd (none-some c h)

      at_write : (e : ℕ) → e + 1 < 2 → AreWrites 1 2 (untold_read answer number begin end finds times) (1 + e) [] []
      at_write zero l = record { begun = λ k c e t. none 1 k c e t; ended = λ k c e t. none 1 k c e t; all = (refl, refl) }
      at_write (suc e) l = absurd (omega arith)

      silent : (k : ℕ) (c : Called ℕ) → slice_get (read ∷ []) k ≡ Some c → c.finds ≡ false →
          c.chosen ≡ own_before zero_first (read ∷ []) k
      silent zero c e f = ap (λ (z : Called ℕ). z.chosen) (sym (same_Some read c e))
          ∙ own (ap (λ (z : Called ℕ). z.finds) (same_Some read c e) ∙ f)
      silent (suc k) c e f = absurd (none-some c e)

      answered : (e : ℕ) (x : Stamped ℕ) → slice_get (answer ∷ []) e ≡ Some x → slice_get (answer ∷ []) zero ≡ Some x
      answered zero x h = h
      answered (suc e) x h = absurd (none-some x h)

      saw : (k : ℕ) (c : Called ℕ) → slice_get (read ∷ []) k ≡ Some c →
          Sees 2 zero_first 1 (untold_read answer number begin end finds times) k c.seen
      saw zero c h = record {
        answers = answer ∷ [];
        each = refl;
        answered = λ e x g. answered e x g;
        greatest = ap (λ (z : Called ℕ). z.seen) (sym (same_Some read c h)) ∙ is;
      }
      saw (suc k) c h = absurd (none-some c h)

      chose : (k place : ℕ) (c : Called ℕ) → slice_get (read ∷ []) k ≡ Some c →
          ChoosesByKind 5 (record { place = place; who = 1; kind = c.kind; stamp = c.chosen.stamp; item = c.chosen.item })
          c.kind c.seen.stamp c.seen.item
      chose zero place c h = subst (λ (c : Called ℕ). ChoosesByKind 5
          (record { place = place; who = 1; kind = c.kind; stamp = c.chosen.stamp; item = c.chosen.item }) c.kind c.seen.stamp c.seen.item)
          (same_Some read c h) (refl, refl)
      chose (suc k) place c h = absurd (none-some c h)

-- a register that nobody wrote to, which was read once
unwritten : (time : ℕ) → IsRegister zero_first (record { items = []; begins = []; ends = [] })
    (record { items = zero_first ∷ []; numbers = 0 ∷ []; begins = time ∷ []; ends = time ∷ [] })
unwritten time = record { source = λ m n x a b. source m n x a b; read_of = λ m n a. read_of m n a; numbered = refl }
  where
    source : (m n : ℕ) (x : Stamped ℕ) → slice_get {X = ℕ} (0 ∷ []) m ≡ Some n → slice_get (zero_first ∷ []) m ≡ Some x →
        slice_get (zero_first ∷ []) n ≡ Some x
    source zero n x a b = ap (slice_get (zero_first ∷ [])) (sym (same_Some 0 n a)) ∙ b
    source (suc m) n x a b = absurd (none-some n a)

    no_write : (n : ℕ) → 0 ≡ n → (k : ℕ) → n ≡ k + 1 → ⊥
    no_write n e k f = omega arith

    read_of : (m n : ℕ) → slice_get {X = ℕ} (0 ∷ []) m ≡ Some n →
        IsReadOf (record { begins = slice_get {X = ℕ} []; ends = slice_get {X = ℕ} [] })
        (record { begins = slice_get {X = ℕ} (time ∷ []); ends = slice_get {X = ℕ} (time ∷ []) }) m n
    read_of zero n a = record {
      late = λ k h. absurd h;
      begun = λ k e. absurd (no_write n (same_Some 0 n a) k e);
    }
    read_of (suc m) n a = absurd (none-some n a)

pub is_silent : IsBoardRun 1 2 5 zero_first (1 ∷ 0 ∷ 0 ∷ []) silent_before
is_silent = record {
  size = (omega arith, omega arith, omega arith);
  within = λ step who e. within step who e;
  scheduled = λ i l. scheduled i l;
  each = λ i l. each i l;
  finds = λ i k end c l e t f. absurd (finds_none i k c l e f);
  registers = λ i j li lj ne. registers i j li lj ne;
}
  where
    finds_none : (i k : ℕ) (c : Called ℕ) → i < 2 → slice_get (silent_before i).calls k ≡ Some c → c.finds ≡ true → ⊥
    finds_none zero zero c l e f = not_both c.finds f (ap (λ (z : Called ℕ). z.finds) (sym (same_Some _ c e)))
    finds_none zero (suc k) c l e f = none-some c e
    finds_none (suc i) zero c l e f = not_both c.finds f (ap (λ (z : Called ℕ). z.finds) (sym (same_Some _ c e)))
    finds_none (suc i) (suc k) c l e f = none-some c e

    within : (step who : ℕ) → slice_get {X = ℕ} (1 ∷ 0 ∷ 0 ∷ []) step ≡ Some who → who < 2
    within zero who e = let z : 1 ≡ who = same_Some 1 who e in omega arith
    within (suc zero) who e = let z : 0 ≡ who = same_Some 0 who e in omega arith
    within (suc (suc zero)) who e = let z : 0 ≡ who = same_Some 0 who e in omega arith
    within (suc (suc (suc step))) who e = absurd (none-some who e)

    scheduled : (i : ℕ) → i < 2 → (silent_before i).times ≡ positions 1 i (1 ∷ 0 ∷ 0 ∷ [])
    scheduled zero l = refl
    scheduled (suc zero) l = refl
    scheduled (suc (suc i)) l = absurd (omega arith)

    each : (i : ℕ) → i < 2 → IsProcess 1 2 5 zero_first i (silent_before i)
    each zero l = one_process 0 Write zero_first seven zero_first 0 2 3 refl (λ place. (omega arith, refl))
    each (suc zero) l = reader zero_first 0 1 1 false (1 ∷ []) refl refl refl (λ f. refl) refl
    each (suc (suc i)) l = absurd (omega arith)

    registers : (i j : ℕ) → i < 2 → j < 2 → i ≢ j → IsRegister zero_first ((silent_before i).writes j) ((silent_before j).reads i)
    registers zero zero li lj ne = absurd (ne refl)
    registers zero (suc zero) li lj ne = one_each seven zero_first 0 1 3 refl (λ l. absurd (omega arith)) (λ e. absurd (omega arith))
    registers (suc zero) zero li lj ne = unwritten 2
    registers (suc zero) (suc zero) li lj ne = absurd (ne refl)
    registers (suc (suc i)) j li lj ne = absurd (omega arith)
    registers i (suc (suc j)) li lj ne = absurd (omega arith)

pub is_untold : (number : ℕ) → IsBoardRun 1 2 5 zero_first (0 ∷ 0 ∷ 1 ∷ []) (two_processes (silent_read seven number 3)) → ⊥
is_untold number run = tags 1 0 (ap (λ (s : Stamped ℕ). s.stamp.tag) ((run.each 1 (omega arith)).silent 0 _ refl refl refl)) (omega arith)
  where
    tags : (a b : ℕ) → a ≡ b → b < a → ⊥
    tags a b e l = omega arith

pub is_found : IsBoardRun 1 2 5 zero_first (0 ∷ 0 ∷ 1 ∷ 1 ∷ []) (two_processes (found_read seven 1 3 4))
is_found = record {
  size = (omega arith, omega arith, omega arith);
  within = λ step who e. within step who e;
  scheduled = λ i l. scheduled i l;
  each = λ i l. each i l;
  finds = λ i k end c l e t f g. finds i k end c l e t g;
  registers = λ i j li lj ne. registers i j li lj ne;
}
  where
    within : (step who : ℕ) → slice_get {X = ℕ} (0 ∷ 0 ∷ 1 ∷ 1 ∷ []) step ≡ Some who → who < 2
    within zero who e = let z : 0 ≡ who = same_Some 0 who e in omega arith
    within (suc zero) who e = let z : 0 ≡ who = same_Some 0 who e in omega arith
    within (suc (suc zero)) who e = let z : 1 ≡ who = same_Some 1 who e in omega arith
    within (suc (suc (suc zero))) who e = let z : 1 ≡ who = same_Some 1 who e in omega arith
    within (suc (suc (suc (suc step)))) who e = absurd (none-some who e)

    scheduled : (i : ℕ) → i < 2 → (two_processes (found_read seven 1 3 4) i).times ≡ positions 1 i (0 ∷ 0 ∷ 1 ∷ 1 ∷ [])
    scheduled zero l = refl
    scheduled (suc zero) l = refl
    scheduled (suc (suc i)) l = absurd (omega arith)

    each : (i : ℕ) → i < 2 → IsProcess 1 2 5 zero_first i (two_processes (found_read seven 1 3 4) i)
    each zero l = one_process 0 Write zero_first seven zero_first 0 1 2 refl (λ place. (omega arith, refl))
    each (suc zero) l = reader seven 1 3 4 true (3 ∷ 4 ∷ []) refl refl refl (λ f. absurd (not_both true refl f)) refl
    each (suc (suc i)) l = absurd (omega arith)

    -- the write ended at 2
    finds : (i k end : ℕ) (c : Called ℕ) → i < 2 → slice_get (two_processes (found_read seven 1 3 4) i).calls k ≡ Some c →
        c.tells ≡ false → end_of 1 2 (two_processes (found_read seven 1 3 4) i) k c ≡ Some end →
        WasTold 1 2 (two_processes (found_read seven 1 3 4)) c.chosen.stamp end
    finds zero zero end c l e t g = absurd (not_both c.tells (ap (λ (z : Called ℕ). z.tells) (sym (same_Some _ c e))) t)
    finds zero (suc k) end c l e t g = absurd (none-some c e)
    finds (suc i) (suc k) end c l e t g = absurd (none-some c e)
    finds (suc i) zero end c l e t g =
        let is : 4 ≡ end = same_Some 4 end (ap (λ (z : Called ℕ).
        slice_get {X = ℕ} (3 ∷ 4 ∷ []) (0 + (steps_of_call 1 2 z.tells z.finds - 1))) (same_Some _ c e) ∙ g) in
        record {
          who = 0;
          number = 0;
          call = telling Write zero_first seven 1 2;
          inside = omega arith;
          there = refl;
          tells = refl;
          not_below = inl (ap (λ (z : Called ℕ). z.chosen.stamp) (sym (same_Some _ c e)));
          end = 2;
          ended = refl;
          before = omega arith;
        }

    registers : (i j : ℕ) → i < 2 → j < 2 → i ≢ j →
        IsRegister zero_first ((two_processes (found_read seven 1 3 4) i).writes j) ((two_processes (found_read seven 1 3 4) j).reads i)
    registers zero zero li lj ne = absurd (ne refl)
    registers zero (suc zero) li lj ne = one_each seven seven 1 3 2 refl (λ l. omega arith) (λ e. omega arith)
    registers (suc zero) zero li lj ne = unwritten 1
    registers (suc zero) (suc zero) li lj ne = absurd (ne refl)
    registers (suc (suc i)) j li lj ne = absurd (omega arith)
    registers i (suc (suc j)) li lj ne = absurd (omega arith)

-- the write ended at 7, and nobody else told anything
pub is_early : IsBoardRun 2 2 5 zero_first (0 ∷ 0 ∷ 0 ∷ 1 ∷ 1 ∷ 1 ∷ 0 ∷ []) found_early → ⊥
is_early run =
    let w = run.finds 1 0 6 _ (omega arith) refl refl refl refl in
    no_end w.who w.number w.call w.end w.there w.tells w.ended w.before
  where
    no_end : (i k : ℕ) (c : Called ℕ) (end : ℕ) → slice_get (found_early i).calls k ≡ Some c → c.tells ≡ true →
        end_of 2 2 (found_early i) k c ≡ Some end → end < 6 → ⊥
    no_end zero zero c end e t g l =
        let is : 7 ≡ end = same_Some 7 end (ap (λ (z : Called ℕ).
        slice_get {X = ℕ} (1 ∷ 2 ∷ 3 ∷ 7 ∷ []) (0 + (steps_of_call 2 2 z.tells z.finds - 1))) (same_Some _ c e) ∙ g) in
        omega arith
    no_end zero (suc k) c end e t g l = none-some c e
    no_end (suc i) zero c end e t g l = not_both c.tells t (ap (λ (z : Called ℕ). z.tells) (sym (same_Some _ c e)))
    no_end (suc i) (suc k) c end e t g l = none-some c e
