-- The place's own call tells the rest.
use Rattle.std.proofs.Common.{refl, subst, sym}
use Rattle.c_boards.specs.Marks.{stamp_of}
use Rattle.c_boards.proofs.calls.see_inside.Goals as goal

pub returns : goal.returns
returns g c = (
  c.see-answer.new.self,
  refl,
  subst (λ p. g.S.Posts.has_seen p c.see-answer.new.self (record { stamp = stamp_of c.mark_of.result; item = c.see-answer.result.item }))
      c.inside.ensures.value
      (subst (λ s. g.S.Posts.has_seen c.inside.result.now c.see-answer.new.self (record { stamp = s; item = c.see-answer.result.item }))
      (sym c.mark_of.ensures) c.see-answer.ensures),
)
