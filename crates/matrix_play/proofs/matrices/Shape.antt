-- An access keeps the shape of a matrix: it changes the record of one cell, and the progress of one process.
use Rattle.std.proofs.Common.{◌≡◌, ℕ, ◌+◌, ◌*◌, ◌<◌, ◌≤◌, length, replicate, set, true, false, refl, ◌∙◌, ap, arith, ⊎_elim}
use Rattle.std.specs.Prelude.{slice_get, Some, nat_lt, nat_eq, if◌then◌else◌, ◌-◌}
use Rattle.std.proofs.lemmas.Bool.Decides.{nat_tests}
use Rattle.std.proofs.lemmas.List.{length-set, length-replicate}
use Rattle.history_core.specs.declared.wish.Wish.{Wish}
use Rattle.matrix_core.specs.declared.stamp.Stamped.{Stamped}
use Rattle.matrix_core.specs.declared.progress.Progress.{Progress}
use Rattle.matrix_core.specs.Lines.{cell_place, other, after_read, after_write, opening_line, first_record}
use Rattle.matrix_core.proofs.lists.Elements.{get_set, get_replicate}
use Rattle.matrix_play.specs.declared.matrix.MatrixStage.TheVariants.{Got, Put, Done}
use Rattle.matrix_play.specs.MatrixEvents.{Matrix, IsMatrix, size, cell_of, after_access, stage_of, opening_matrix}

pub keeps_line : {R : Type 0} (m : Matrix R) (i : ℕ) (line : Progress R) → IsMatrix m → line.done + 3 ≤ 2 * size m →
    IsMatrix (record m { lines = set m.lines i line })
keeps_line m i line s d = let e : length (set m.lines i line) ≡ length m.lines = length-set m.lines i line in record {
  at_least = let a = s.at_least in omega arith;
  at_most = let a = s.at_most in omega arith;
  cells = rw e s.cells;
  inside = λ k l p. ⊎_elim (λ q.
      let f : l.done ≡ line.done = ap (λ z. z.done) q.1 in
      omega arith) (λ q.
      let f : l.done + 3 ≤ 2 * length m.lines = s.inside k l q.1 in
      omega arith) (get_set m.lines i k line l p);
}

pub keeps_cell : {R : Type 0} (m : Matrix R) (k : ℕ) (x : Stamped R) → IsMatrix m → IsMatrix (record m { cells = set m.cells k x })
keeps_cell m k x s = record { at_least = s.at_least; at_most = s.at_most; cells = length-set m.cells k x ∙ s.cells; inside = s.inside }

less : (a b : ℕ) → a < b → nat_lt a b ≡ true
less a b h = grind (arith, nat_tests)

not_less : (a b : ℕ) → b ≤ a → nat_lt a b ≡ false
not_less a b h = grind (arith, nat_tests)

-- the two kinds of access
pub read_is : {R : Type 0} (m : Matrix R) (i : ℕ) (wish : Wish R) (line : Progress R) (answer : Stamped R) →
    slice_get m.lines i ≡ Some line → line.done + 1 < size m
    → cell_of m (other i line.done) i ≡ Some answer →
    after_access m i wish ≡ record m { lines = set m.lines i (after_read (size m) m.limit i wish line answer) }
read_is m i wish line answer at d c = let t : nat_lt (line.done + 1) (size m) ≡ true = less _ _ d in rw (at, t, c) refl

pub write_is : {R : Type 0} (m : Matrix R) (i : ℕ) (wish : Wish R) (line : Progress R) →
    slice_get m.lines i ≡ Some line → size m ≤ line.done + 1
    → after_access m i wish ≡ record m {
      cells = set m.cells (cell_place (size m) i (other i (line.done + 1 - size m))) line.own;
      lines = set m.lines i (after_write (size m) line);
    }
write_is m i wish line at d = let t : nat_lt (line.done + 1) (size m) ≡ false = not_less _ _ d in rw (at, t) refl

pub got_is : {R : Type 0} (m : Matrix R) (i : ℕ) (line : Progress R) → slice_get m.lines i ≡ Some line → line.done + 1 < size m →
    stage_of m i ≡ Got (other i line.done)
got_is m i line at d = let t : nat_lt (line.done + 1) (size m) ≡ true = less _ _ d in rw (at, t) refl

pub put_is : {R : Type 0} (m : Matrix R) (i : ℕ) (line : Progress R) → slice_get m.lines i ≡ Some line → size m ≤ line.done + 1
    → stage_of m i ≡ (if nat_eq (line.done + 3) (2 * size m) then Done line.outcome else Put (other i (line.done + 1 - size m)))
put_is m i line at d = let t : nat_lt (line.done + 1) (size m) ≡ false = not_less _ _ d in rw (at, t) refl

-- the opening has the shape of a matrix
pub opens : {R : Type 0} (n limit : ℕ) (opening : R) → 2 ≤ n → n ≤ 16 → IsMatrix (opening_matrix n limit opening)
opens n limit opening two small =
    let e : length (replicate n (opening_line opening)) ≡ n = length-replicate n (opening_line opening) in
    record {
      at_least = omega arith;
      at_most = omega arith;
      cells = length-replicate (n * n) (first_record opening) ∙ rw e refl;
      inside = λ i line h. let d : line.done ≡ 0 = ap (λ l. l.done) (get_replicate n i (opening_line opening) line h) in omega arith;
    }
