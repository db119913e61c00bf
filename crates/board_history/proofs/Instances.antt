-- The two runs of two processes: every list has one or two elements, so each fact computes at its places.
use Rattle.std.proofs.Common.{◌≡◌, ◌≢◌, ℕ, zero, suc, ◌+◌, ◌-◌, ◌<◌, [], ◌∷◌, slice_get, Some, true, false}
use Rattle.std.proofs.Common.{refl, sym, ◌∙◌, ap, subst, arith}
use Rattle.std.proofs.lemmas.Option.{none-some, same_Some}
use Rattle.history_core.specs.Registers.{IsBefore, IsReadOf}
use Rattle.matrix_core.specs.declared.stamp.Stamped.{Stamped}
use Rattle.matrix_core.specs.Choices.{ChoosesByKind}
use Rattle.matrix_core.specs.Stamps.{greater}
use Rattle.history_core.specs.declared.history.Kind.{Kind}
use Rattle.history_core.specs.declared.history.Kind.TheVariants.{Write, Read}
use Rattle.history_core.specs.Schedules.{positions}
use Rattle.board_history.specs.BoardRuns.{AreReads, AreWrites, Called, IsBoardRun, IsProcess, IsRegister, own_before, Sees}
use Rattle.board_history.specs.BoardRuns.{steps_before, steps_of_call, told}
use Rattle.board_history.proofs.Growing.{not_both}
use Rattle.board_history.specs.Instances.{one_call, reads_opening, reads_seven, seven, telling, two_processes, zero_first}

-- the accesses of one call of two steps
one_access : (kind : Kind) (seen chosen answer : Stamped ℕ) (number read written : ℕ) →
    AreReads 1 2 (one_call (telling kind seen chosen read written) answer number read written) 0 (read ∷ []) (read ∷ [])
    × AreWrites 1 2 (one_call (telling kind seen chosen read written) answer number read written) 1 (written ∷ []) (written ∷ [])
one_access kind seen chosen answer number read written = (
  record { begun = λ k l. at_read k l; ended = λ k l. at_read k l; all = (refl, refl) },
  record { begun = λ k c e t. at_write k c e; ended = λ k c e t. at_write k c e; all = (refl, refl) },
)
  where
    at_read : (k : ℕ) → k < 1 → slice_get (read ∷ []) k
        ≡ slice_get (read ∷ written ∷ []) (steps_before 1 2 (telling kind seen chosen read written ∷ []) k + 0)
    at_read zero l = refl
    at_read (suc k) l = absurd (omega arith)

    at_write : (k : ℕ) (c : Called ℕ) → slice_get (telling kind seen chosen read written ∷ []) k ≡ Some c →
        slice_get (written ∷ []) (told (telling kind seen chosen read written ∷ []) k)
        ≡ slice_get (read ∷ written ∷ []) (steps_before 1 2 (telling kind seen chosen read written ∷ []) k + 1)
    at_write zero c e = refl
    at_write (suc k) c e = absurd (none-some c e)

-- a register with one write and one read
pub one_each : (item answer : Stamped ℕ) (number read written : ℕ) → slice_get (zero_first ∷ item ∷ []) number ≡ Some answer →
    (written < read → 0 < number) → (number ≡ 1 → written < read) →
    IsRegister zero_first (record { items = item ∷ []; begins = written ∷ []; ends = written ∷ [] })
    (record { items = answer ∷ []; numbers = number ∷ []; begins = read ∷ []; ends = read ∷ [] })
one_each item answer number read written is late begun = record {
  source = λ m n x a b. source m n x a b;
  read_of = λ m n a. read_of m n a;
  numbered = refl;
}
  where
    two : (m : ℕ) → slice_get (zero_first ∷ item ∷ []) m ≡ Some answer → m < 2
    two zero h = omega arith
    two (suc zero) h = omega arith
    two (suc (suc m)) h = absurd (none-some answer h)

    source : (m n : ℕ) (x : Stamped ℕ) → slice_get (number ∷ []) m ≡ Some n → slice_get (answer ∷ []) m ≡ Some x →
        slice_get (zero_first ∷ item ∷ []) n ≡ Some x
    source zero n x a b = ap (slice_get (zero_first ∷ item ∷ [])) (sym (same_Some number n a)) ∙ is ∙ b
    source (suc m) n x a b = absurd (none-some n a)

    is_late : (n : ℕ) → number ≡ n → (k : ℕ) → IsBefore (slice_get (written ∷ []) k) (Some read) → k < n
    is_late n e zero h = let l : 0 < number = late h in omega arith
    is_late n e (suc k) h = absurd h

    has_begun : (n : ℕ) → number ≡ n → (k : ℕ) → n ≡ k + 1 → IsBefore (slice_get (written ∷ []) k) (Some read)
    has_begun n e zero f = begun (e ∙ f)
    has_begun n e (suc k) f = absurd (let z = two number is in omega arith)

    read_of : (m n : ℕ) → slice_get (number ∷ []) m ≡ Some n →
        IsReadOf (record { begins = slice_get (written ∷ []); ends = slice_get (written ∷ []) })
        (record { begins = slice_get (read ∷ []); ends = slice_get (read ∷ []) }) m n
    read_of zero n a = record {
      late = λ k h. is_late n (same_Some number n a) k h;
      begun = λ k e. has_begun n (same_Some number n a) k e;
    }
    read_of (suc m) n a = absurd (none-some n a)

-- a process that made one call
pub one_process : (i : ℕ) (kind : Kind) (seen chosen answer : Stamped ℕ) (number read written : ℕ) → seen ≡ greater zero_first answer →
    ((place : ℕ) → ChoosesByKind 5 (record { place = place; who = i; kind = kind; stamp = chosen.stamp; item = chosen.item })
    kind seen.stamp seen.item) →
    IsProcess 1 2 5 zero_first i (one_call (telling kind seen chosen read written) answer number read written)
one_process i kind seen chosen answer number read written sees chooses = record {
  long = refl;
  begun = λ k c e. begun k c e;
  ended = λ k c e. ended k c e;
  reads = λ e l. at_read e l;
  answered = λ e l. refl;
  writes = λ e l. at_write e l;
  written = λ e l. refl;
  silent = λ k c e t f. silent k c e t;
  sees = λ k c e. saw k c e;
  chooses = λ k place c e. chose k place c e;
}
  where
    begun : (k : ℕ) (c : Called ℕ) → slice_get (telling kind seen chosen read written ∷ []) k ≡ Some c →
        slice_get (read ∷ written ∷ []) (steps_before 1 2 (telling kind seen chosen read written ∷ []) k) ≡ Some c.begin
    begun zero c e = ap (λ (z : Called ℕ). Some z.begin) (same_Some (telling kind seen chosen read written) c e)
    begun (suc k) c e = absurd (none-some c e)

    ended : (k : ℕ) (c : Called ℕ) → slice_get (telling kind seen chosen read written ∷ []) k ≡ Some c →
        slice_get (read ∷ written ∷ [])
        (steps_before 1 2 (telling kind seen chosen read written ∷ []) k + (steps_of_call 1 2 c.tells c.finds - 1)) ≡ Some c.end
    ended zero c e = ap (λ (z : Called ℕ). slice_get (read ∷ written ∷ []) (0 + (steps_of_call 1 2 z.tells z.finds - 1)))
        (sym (same_Some (telling kind seen chosen read written) c e))
        ∙ ap (λ (z : Called ℕ). Some z.end) (same_Some (telling kind seen chosen read written) c e)
    ended (suc k) c e = absurd (none-some c e)

    not_silent : (c : Called ℕ) → (telling kind seen chosen read written) ≡ c → c.tells ≡ false → ⊥
    not_silent c e t = not_both true refl (ap (λ (z : Called ℕ). z.tells) e ∙ t)

    silent : (k : ℕ) (c : Called ℕ) → slice_get (telling kind seen chosen read written ∷ []) k ≡ Some c →
        c.tells ≡ false → c.chosen ≡ own_before zero_first (telling kind seen chosen read written ∷ []) k
    silent zero c e t = absurd (not_silent c (same_Some (telling kind seen chosen read written) c e) t)
    silent (suc k) c e t = absurd (none-some c e)

    at_read : (e : ℕ) → e + 1 < 2 → AreReads 1 2 (one_call (telling kind seen chosen read written) answer number read written) e
        (read ∷ []) (read ∷ [])
    at_read zero l = (one_access kind seen chosen answer number read written).0
    at_read (suc e) l = absurd (omega arith)

    at_write : (e : ℕ) → e + 1 < 2 → AreWrites 1 2 (one_call (telling kind seen chosen read written) answer number read written)
        (1 + e) (written ∷ []) (written ∷ [])
    at_write zero l = (one_access kind seen chosen answer number read written).1
    at_write (suc e) l = absurd (omega arith)

    answered : (e : ℕ) (x : Stamped ℕ) → slice_get (answer ∷ []) e ≡ Some x → slice_get (answer ∷ []) zero ≡ Some x
    answered zero x h = h
    answered (suc e) x h = absurd (none-some x h)

    saw : (k : ℕ) (c : Called ℕ) → slice_get (telling kind seen chosen read written ∷ []) k ≡ Some c →
        Sees 2 zero_first i (one_call (telling kind seen chosen read written) answer number read written) k c.seen
    saw zero c h = record {
      answers = answer ∷ [];
      each = refl;
      answered = λ e x g. answered e x g;
      greatest = ap (λ (z : Called ℕ). z.seen) (sym (same_Some (telling kind seen chosen read written) c h)) ∙ sees;
    }
    saw (suc k) c h = absurd (none-some c h)

    chose : (k place : ℕ) (c : Called ℕ) → slice_get (telling kind seen chosen read written ∷ []) k ≡ Some c →
        ChoosesByKind 5 (record { place = place; who = i; kind = c.kind; stamp = c.chosen.stamp; item = c.chosen.item })
        c.kind c.seen.stamp c.seen.item
    chose zero place c h = subst (λ (c : Called ℕ). ChoosesByKind 5
        (record { place = place; who = i; kind = c.kind; stamp = c.chosen.stamp; item = c.chosen.item }) c.kind c.seen.stamp c.seen.item)
        (same_Some (telling kind seen chosen read written) c h) (chooses place)
    chose (suc k) place c h = absurd (none-some c h)

pub is_fresh : IsBoardRun 1 2 5 zero_first (0 ∷ 0 ∷ 1 ∷ 1 ∷ []) (two_processes reads_seven)
is_fresh = record {
  size = (omega arith, omega arith, omega arith);
  within = λ step who e. within step who e;
  scheduled = λ i l. scheduled i l;
  each = λ i l. each i l;
  finds = λ i k end c l e t f. absurd (finds_none i k c l e f);
  registers = λ i j li lj ne. registers i j li lj ne;
}
  where
    finds_none : (i k : ℕ) (c : Called ℕ) → i < 2 → slice_get (two_processes reads_seven i).calls k ≡ Some c → c.finds ≡ true → ⊥
    finds_none zero zero c l e f = not_both c.finds f (ap (λ (z : Called ℕ). z.finds) (sym (same_Some _ c e)))
    finds_none zero (suc k) c l e f = none-some c e
    finds_none (suc i) zero c l e f = not_both c.finds f (ap (λ (z : Called ℕ). z.finds) (sym (same_Some _ c e)))
    finds_none (suc i) (suc k) c l e f = none-some c e

    within : (step who : ℕ) → slice_get (0 ∷ 0 ∷ 1 ∷ 1 ∷ []) step ≡ Some who → who < 2
    within zero who e = let z : 0 ≡ who = same_Some 0 who e in omega arith
    within (suc zero) who e = let z : 0 ≡ who = same_Some 0 who e in omega arith
    within (suc (suc zero)) who e = let z : 1 ≡ who = same_Some 1 who e in omega arith
    within (suc (suc (suc zero))) who e = let z : 1 ≡ who = same_Some 1 who e in omega arith
    within (suc (suc (suc (suc step)))) who e = absurd (none-some who e)

    scheduled : (i : ℕ) → i < 2 → (two_processes reads_seven i).times ≡ positions 1 i (0 ∷ 0 ∷ 1 ∷ 1 ∷ [])
    scheduled zero l = refl
    scheduled (suc zero) l = refl
    scheduled (suc (suc i)) l = absurd (omega arith)

    each : (i : ℕ) → i < 2 → IsProcess 1 2 5 zero_first i (two_processes reads_seven i)
    each zero l = one_process 0 Write zero_first seven zero_first 0 1 2 refl (λ place. (omega arith, refl))
    each (suc zero) l = one_process 1 Read seven seven seven 1 3 4 refl (λ place. (refl, refl))
    each (suc (suc i)) l = absurd (omega arith)

    registers : (i j : ℕ) → i < 2 → j < 2 → i ≢ j →
        IsRegister zero_first ((two_processes reads_seven i).writes j) ((two_processes reads_seven j).reads i)
    registers zero zero li lj ne = absurd (ne refl)
    registers zero (suc zero) li lj ne = one_each seven seven 1 3 2 refl (λ l. omega arith) (λ e. omega arith)
    registers (suc zero) zero li lj ne = one_each seven zero_first 0 1 4 refl (λ l. absurd (omega arith)) (λ e. absurd (omega arith))
    registers (suc zero) (suc zero) li lj ne = absurd (ne refl)
    registers (suc (suc i)) j li lj ne = absurd (omega arith)
    registers i (suc (suc j)) li lj ne = absurd (omega arith)

pub is_stale : (number : ℕ) → IsBoardRun 1 2 5 zero_first (0 ∷ 0 ∷ 1 ∷ 1 ∷ []) (two_processes (reads_opening number)) → ⊥
is_stale number run =
    let r = run.registers 0 1 (omega arith) (omega arith) (λ e. omega arith) in
    let late : 0 < number = (r.read_of 0 number refl).late 0 (let l : 2 < 3 = omega arith in l) in
    other number late (r.source 0 number zero_first refl refl)
  where
    tags : (a b : ℕ) → a ≡ b → b < a → ⊥
    tags a b e l = omega arith

    other : (n : ℕ) → 0 < n → slice_get (zero_first ∷ seven ∷ []) n ≡ Some zero_first → ⊥
    other zero l e = omega arith
    other (suc zero) l e = tags 1 0 (ap (λ (s : Stamped ℕ). s.stamp.tag) (same_Some seven zero_first e)) (omega arith)
    other (suc (suc n)) l e = none-some zero_first e
