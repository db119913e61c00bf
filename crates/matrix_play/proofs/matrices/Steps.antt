-- The kinds of a step: an access that chooses, one that ends an operation, any other, and the first one of an operation.
use Rattle.std.proofs.Common.{◌≡◌, ◌≢◌, ℕ, ◌+◌, ◌*◌, ◌<◌, List, length, set, Bool, true, false, refl, ◌∙◌, ap, arith}
use Rattle.std.specs.Prelude.{slice_get, Option, Some, nat_eq, if◌then◌else◌}
use Rattle.std.proofs.lemmas.Option.{slice_get_within}
use Rattle.history_core.specs.declared.history.Op.{Op}
use Rattle.history_core.specs.declared.wish.Wish.{Wish}
use Rattle.history_core.specs.declared.wish.Wish.TheVariants.{Read}
use Rattle.matrix_core.specs.declared.stamp.Stamp.{Stamp}
use Rattle.matrix_core.specs.declared.progress.Progress.{Progress}
use Rattle.matrix_core.specs.inner.Operations.{chose, ended}
use Rattle.matrix_core.proofs.lists.Elements.{same, not_same, get_exists}
use Rattle.matrix_core.proofs.terms.Steps.{changed_is}
use Rattle.matrix_play.specs.MatrixEvents.{Matrix, size, after_access}
use Rattle.matrix_play.specs.inner.MatrixPlays.{MatrixPlaying, place_of, accesses, began, stepped, after_step, next_wish, begins_with}

module _ {R : Type 0} (run : MatrixPlaying R) (who : ℕ) (wish : Wish R) (line : Progress R) where
  pub access_chooses : (m : Matrix R) (next : Progress R) (op : Op R) → m ≡ after_access run.matrix who wish →
      line.done + 2 ≡ size run.matrix
      → slice_get m.lines who ≡ Some next → slice_get run.ops (place_of run who) ≡ Some op → length run.stamps ≡ length run.ops
      → accesses run who wish line ≡ record run {
        matrix = m;
        now = run.now + 1;
        ops = set run.ops (place_of run who) (chose next.outcome op);
        stamps = set run.stamps (place_of run who) (Some next.own.stamp);
      }
  access_chooses m next op e t at o l =
      let b : nat_eq (line.done + 2) (size run.matrix) ≡ true = same _ _ t in
      let w : place_of run who < length run.stamps = omega (arith, slice_get_within run.ops (place_of run who) op o) in
      let s : (x : Option Stamp) × (slice_get run.stamps (place_of run who) ≡ Some x) = get_exists run.stamps (place_of run who) w in
      rw b (rw (← e) (rw at (rw (
        changed_is (chose next.outcome) (place_of run who) run.ops op o,
        changed_is (λ (x : Option Stamp). Some next.own.stamp) (place_of run who) run.stamps s.0 s.1,
      ) refl)))

  pub access_finishes : (m : Matrix R) (op : Op R) → m ≡ after_access run.matrix who wish → line.done + 2 ≢ size run.matrix →
      line.done + 3 ≡ 2 * size run.matrix
      → slice_get run.ops (place_of run who) ≡ Some op
      → accesses run who wish line ≡ record run {
        matrix = m;
        now = run.now + 1;
        ops = set run.ops (place_of run who) (ended run.now line.outcome op);
      }
  access_finishes m op e f t o =
      let b : nat_eq (line.done + 2) (size run.matrix) ≡ false = not_same _ _ f in
      let d : nat_eq (line.done + 3) (2 * size run.matrix) ≡ true = same _ _ t in
      rw b (rw d (rw (← e) (rw (changed_is (ended run.now line.outcome) (place_of run who) run.ops op o) refl)))

  pub access_moves : (m : Matrix R) → m ≡ after_access run.matrix who wish → line.done + 2 ≢ size run.matrix →
      line.done + 3 ≢ 2 * size run.matrix
      → accesses run who wish line ≡ record run { matrix = m; now = run.now + 1 }
  access_moves m e f t =
      let b : nat_eq (line.done + 2) (size run.matrix) ≡ false = not_same _ _ f in
      let d : nat_eq (line.done + 3) (2 * size run.matrix) ≡ false = not_same _ _ t in
      rw b (rw d (rw (← e) refl))

pub step_begins : {R : Type 0} (plans : List (List (Wish R))) (run : MatrixPlaying R) (who : ℕ) (wish : Wish R) (line : Progress R) →
    slice_get run.matrix.lines who ≡ Some line → line.done ≡ 0
    → next_wish plans run who ≡ Some wish → after_step plans run who ≡ accesses (began run who wish) who wish line
step_begins plans run who wish line at z w =
    ap (stepped plans run who) at
    ∙ (ap (λ (b : Bool). if b then begins_with run who line (next_wish plans run who) else accesses run who Read line) (same _ _ z)
    ∙ ap (begins_with run who line) w)

pub step_goes_on : {R : Type 0} (plans : List (List (Wish R))) (run : MatrixPlaying R) (who : ℕ) (line : Progress R) →
    slice_get run.matrix.lines who ≡ Some line → 0 < line.done
    → after_step plans run who ≡ accesses run who Read line
step_goes_on plans run who line at z =
    ap (stepped plans run who) at
    ∙ ap (λ (b : Bool). if b then begins_with run who line (next_wish plans run who) else accesses run who Read line)
    (not_same line.done 0 (λ e. omega arith))
