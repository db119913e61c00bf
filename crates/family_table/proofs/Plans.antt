-- What a plan is asked of whole accesses: the accesses of a row or a column are those that the plan allows one after the other.
use Rattle.std.proofs.Common.{◌≡◌, true, false, ℕ, ◌+◌, ◌-◌, ◌<◌, ◌≤◌, List, [], ◌∷◌, ◌++◌, Option, refl, sym, ap, ◌∙◌, subst, arith}
use Rattle.std.specs.Prelude.{nat_lt}
use Rattle.std.proofs.lemmas.Bool.Decides.{nat_tests}
use Rattle.history_core.specs.Others.{other}
use Rattle.cell_contract.specs.Accesses.{ReadAccesses, WriteAccesses}
use Rattle.cell_contract.specs.Plans.{Doings, doings, if_there, MayRead, MayReadEach, MayWrite, MayWriteEach, ReadsSoFar, WritesSoFar}
use Rattle.cell_contract.specs.Rows.{OneByOne, IsReadFrom, IsWriteTo}
use Rattle.cell_contract.specs.declared.said.Said.{Said}
use Rattle.cell_contract.specs.declared.said.Found.{Found}
use Rattle.cell_contract.specs.Rows.OneByOne.{no_call, one_more}

-- a row or a column of one kind of call is one of another kind, as each call is
module _ {S R : Type 0} (seen : S → R) (Call : ℕ → S → S → Type 0) (As : ℕ → R → R → Type 0)
    (same : (at : ℕ) (old new : S) → Call at old new → As at (seen old) (seen new)) (process : ℕ) (start : S) where
  each_as : (count : ℕ) (now : S) → OneByOne Call process start count now → OneByOne As process (seen start) count (seen now)
  each_as _ _ no_call = no_call
  each_as _ _ (one_more count now new r call) =
      one_more count (seen now) (seen new) (each_as count now r) (same (other process count) now new call)

module _ {S T : Type 0} (is_seat : S → Type 0) (who clock : S → ℕ) (times : S → List ℕ) (writes : S → ℕ → WriteAccesses T)
    (reads : S → ℕ → ReadAccesses T) (said : S → List Said) (found : S → List Found) (width : ℕ) where
  -- a whole write has made all its steps
  pub whole_write : (item : T) (to : ℕ) (old new : S) → IsWriteTo is_seat who clock times writes reads said found width item to old new →
      WritesSoFar width width item to (doings (times old) (writes old) (reads old) (said old) (found old))
      (doings (times new) (writes new) (reads new) (said new) (found new))
  whole_write item to old new call = record {
    steps = call.access.steps;
    long = call.access.long;
    times = call.access.made;
    items = call.written.items;
    begins = call.access.begins ∙ ap (λ (z : Option ℕ). (writes old to).times.begins ++ if_there z) (sym call.access.first_is);
    ends = call.access.ends ∙ ap (λ (z : Option ℕ). (writes old to).times.ends ++ if_there z) (sym call.access.last_is);
    others = (
      λ j ne. ap (λ (z : WriteAccesses T). record { items = z.items; begins = z.times.begins; ends = z.times.ends }) (call.others.0 j ne),
      λ j. ap (λ (z : ReadAccesses T). record { items = z.answers; begins = z.times.begins; ends = z.times.ends }) (call.others.1 j),
    );
    tags = call.tags;
  }

  pub whole_writes : (item : T) (process : ℕ) (start : S) (count : ℕ) (now : S) →
      OneByOne (IsWriteTo is_seat who clock times writes reads said found width item) process start count now →
      OneByOne (WritesSoFar width width item) process (doings (times start) (writes start) (reads start) (said start) (found start)) count
      (doings (times now) (writes now) (reads now) (said now) (found now))
  whole_writes item = each_as (λ z. doings (times z) (writes z) (reads z) (said z) (found z))
      (IsWriteTo is_seat who clock times writes reads said found width item) (WritesSoFar width width item) (whole_write item)

  module _ {L : Type 0} (opening : T) (fits : T → Type 0) (rises : T → T → Type 0) (sees : T → L → T → L → Type 0) where
    -- a whole read has made all its steps, and has its answer
    pub whole_read : (from : ℕ) (old new : S × L) →
        IsReadFrom is_seat who clock times writes reads said found width opening fits rises sees from old new →
        ReadsSoFar width width from (doings (times old.0) (writes old.0) (reads old.0) (said old.0) (found old.0))
        (doings (times new.0) (writes new.0) (reads new.0) (said new.0) (found new.0))
    whole_read from old new call = record {
      steps = call.access.steps;
      long = call.access.long;
      times = call.access.made;
      answers = call.answer ∷ [];
      items = call.read.answers;
      begins = call.access.begins ∙ ap (λ (z : Option ℕ). (reads old.0 from).times.begins ++ if_there z) (sym call.access.first_is);
      ends = call.access.ends ∙ ap (λ (z : Option ℕ). (reads old.0 from).times.ends ++ if_there z) (sym call.access.last_is);
      others = (
        λ j ne. ap (λ (z : ReadAccesses T). record { items = z.answers; begins = z.times.begins; ends = z.times.ends })
            (call.others.0 j ne),
        λ j. ap (λ (z : WriteAccesses T). record { items = z.items; begins = z.times.begins; ends = z.times.ends }) (call.others.1 j),
      );
      tags = call.tags;
    }

    pub whole_reads : (process : ℕ) (start : S × L) (count : ℕ) (now : S × L) →
        OneByOne (IsReadFrom is_seat who clock times writes reads said found width opening fits rises sees) process start count now →
        OneByOne (ReadsSoFar width width) process
        (doings (times start.0) (writes start.0) (reads start.0) (said start.0) (found start.0)) count
        (doings (times now.0) (writes now.0) (reads now.0) (said now.0) (found now.0))
    whole_reads = each_as (λ z. doings (times z.0) (writes z.0) (reads z.0) (said z.0) (found z.0))
        (IsReadFrom is_seat who clock times writes reads said found width opening fits rises sees) (ReadsSoFar width width) whole_read

-- a process before the own one has its own number among the others, and one after it one less
others_before : (i k : ℕ) → k < i → other i k ≡ k
others_before i k l = let b : nat_lt k i ≡ true = grind (arith, nat_tests) in rw b refl

others_from : (i k : ℕ) → i ≤ k → other i k ≡ k + 1
others_from i k l = let b : nat_lt k i ≡ false = grind (arith, nat_tests) in rw b refl

others_after : (i j : ℕ) → i < j → other i (j - 1) ≡ j
others_after i j l = others_from i (j - 1) (omega arith) ∙ (let e : j - 1 + 1 ≡ j = omega arith in e)

-- what the plan says of the next access of a row or a column
module _ {T : Type 0} (plan : Doings T → Type 0) (width n process at : ℕ) (old now : Doings T) where
  pub may_write_before : (item : T) → MayWriteEach plan width n process item old →
      OneByOne (WritesSoFar width width item) process old at now → at < process → process < n → MayWrite plan width item at now
  may_write_before item may r l ln = subst (λ z. MayWrite plan width item z now) (others_before process at l)
      (may at now (let z : at + 1 < n = omega arith in z) r)

  pub may_write_after : (item : T) → MayWriteEach plan width n process item old →
      OneByOne (WritesSoFar width width item) process old (at - 1) now → process < at → at < n → MayWrite plan width item at now
  may_write_after item may r l ln = subst (λ z. MayWrite plan width item z now) (others_after process at l)
      (may (at - 1) now (let z : at - 1 + 1 < n = omega arith in z) r)

  pub may_read_before : MayReadEach plan width n process old →
      OneByOne (ReadsSoFar width width) process old at now → at < process → process < n → MayRead plan width at now
  may_read_before may r l ln = subst (λ z. MayRead plan width z now) (others_before process at l)
      (may at now (let z : at + 1 < n = omega arith in z) r)

  pub may_read_after : MayReadEach plan width n process old →
      OneByOne (ReadsSoFar width width) process old (at - 1) now → process < at → at < n → MayRead plan width at now
  may_read_after may r l ln = subst (λ z. MayRead plan width z now) (others_after process at l)
      (may (at - 1) now (let z : at - 1 + 1 < n = omega arith in z) r)
