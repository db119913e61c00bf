-- One that can do all that another can has no mark beside the other's, and all of the other's but for unsure ones.
use Rattle.std.proofs.Common.{◌≡◌, ℕ, true, nat_eq, sym, ◌∙◌, ap}
use Rattle.std.specs.Prelude.{bit_and, bit_or, IsFalse}
use Rattle.object_sweep.specs.Marks.{marks_of}
use Rattle.object_sweep.proofs.Marks.{marks_among, marks_with_unsure}
use Rattle.object_sweep.proofs.Placed.{same_number}
use Rattle.object_sweep.proofs.held.may_cover.Goals as goal

differ : (x y : ℕ) → IsFalse (nat_eq x y) → x ≡ y → ⊥
differ x y f e = let t : nat_eq x y ≡ true = ap (λ z. nat_eq z y) e ∙ same_number y in cc

pub returns-then-one-other : goal.returns-then-one-other
returns-then-one-other g c f sure marks h =
    differ (bit_and c.args.other.now.marks (bit_or c.args.one.now.marks c.args.unsure)) c.args.other.now.marks f
    (ap (λ z. bit_and z (bit_or c.args.one.now.marks c.args.unsure)) c.args.other.now.marked
    ∙ ap (λ z. bit_and (marks_of c.args.other.now.placed.items) (bit_or z c.args.unsure)) c.args.one.now.marked
    ∙ ap (λ z. bit_and (marks_of c.args.other.now.placed.items) (bit_or (marks_of c.args.one.now.placed.items) z)) marks
    ∙ marks_with_unsure sure c.args.one.now.placed.items c.args.other.now.placed.items h.2 ∙ sym c.args.other.now.marked)

pub returns-else-one-other : goal.returns-else-one-other
returns-else-one-other g c f sure marks h =
    differ (bit_and c.args.one.now.marks c.args.other.now.marks) c.args.one.now.marks f
    (ap (λ z. bit_and z c.args.other.now.marks) c.args.one.now.marked
    ∙ ap (bit_and (marks_of c.args.one.now.placed.items)) c.args.other.now.marked
    ∙ marks_among c.args.one.now.placed.items c.args.other.now.placed.items h.1 ∙ sym c.args.one.now.marked)
