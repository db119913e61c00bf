-- Only a write changes the latest record, so what a write left stays to the next one.
use Rattle.std.proofs.Common.{◌≡◌, ℕ, List, [], ◌∷◌, slice_get, Option, Some, suc, refl, ◌∙◌, ap}
use Rattle.std.specs.List.{fold}
use Rattle.std.proofs.lemmas.List.Sums.{fold-append}
use Rattle.history_core.specs.declared.history.Op.{Op}
use Rattle.history_core.specs.Orders.{HasNoWrites, latest, left_at, left_by}
use Rattle.history_core.proofs.Latest.{left_unwritten}
use Rattle.history_core.proofs.laws.latest_is_last_write.Goals as goal

kept : {R : Type 0} (ops : List (Op R)) (order : List ℕ) (r : Option R) → HasNoWrites ops order →
    fold (λ r p. left_at r (slice_get ops p)) r order ≡ r
kept ops [] r h = refl
kept {R} ops (p ∷ order) r h =
    kept ops order (left_at r (slice_get ops p)) (λ i q e. h (suc i) q e) ∙ left_unwritten r (slice_get ops p) (h 0 p refl)

pub returns-clause-opening : goal.returns-clause-opening
returns-clause-opening g c opening ops order none = kept ops order (Some opening) none

pub returns-clause-last : goal.returns-clause-last
returns-clause-last g c opening ops before after p o there write none =
    fold-append (λ r q. left_at r (slice_get ops q)) (Some opening) before (p ∷ after)
    ∙ kept ops after (left_at (latest opening ops before) (slice_get ops p)) none
    ∙ ap (left_at (latest opening ops before)) there
    ∙ ap (λ kind. left_by (latest opening ops before) kind o.item) write
