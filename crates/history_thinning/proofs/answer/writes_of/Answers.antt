-- One more entry, which is a write or not.
use Rattle.std.proofs.Common.{◌≡◌, ◌+◌, ℕ, List, [], ◌∷◌, ◌++◌, get_or, slice_get, Some, sym, ◌∙◌, ap, subst}
use Rattle.std.proofs.lemmas.Option.{slice_get-get_or}
use Rattle.history_thinning.specs.inner.Mapped.{AreWritePlaces}
use Rattle.history_thinning.proofs.Writes.{writes_more, writes_skip}
use Rattle.history_thinning.proofs.answer.writes_of.Goals as goal
use Rattle.history_thinning.proofs.answer.writes_of.Goals.{then-is_write_at+in_ok-push, else-is_write_at}

pub loop-kept-preserved : goal.loop-kept-preserved
loop-kept-preserved c =
    let n : ℕ = c.loop-kept.kept-index in
    let p : ℕ = get_or c.args.order.now n 0 in
    let at : slice_get c.args.order.now n ≡ Some p = slice_get-get_or c.args.order.now n 0 c.loop-kept-test.true in
    let P : List ℕ → Type 0 = λ z. AreWritePlaces c.args.ops.now c.args.places.now c.args.order.now (n + 1) z in
    elim c.if-is_write_at.branch [
      | then-is_write_at+in_ok-push w ↦
          subst P (sym (ap (λ v. v.items) w.writes-is ∙ w.in_ok-push.ensures.items ∙ ap (λ z. c.loop-kept.writes.items ++ z ∷ [])
          w.place_in.ensures))
          (writes_more c.args.ops.now c.args.places.now c.args.order.now n p at c.loop-kept.writes.items c.loop-kept.invariant
          (sym c.is_write_at.ensures ∙ w.if-is_write_at.true))
      | else-is_write_at w ↦
          subst P (sym (ap (λ v. v.items) w.writes-is)) (writes_skip c.args.ops.now c.args.places.now c.args.order.now n p at
          c.loop-kept.writes.items c.loop-kept.invariant (sym c.is_write_at.ensures ∙ w.if-is_write_at.false))
    ]
