-- One configuration, which has placed nothing.
use Rattle.std.proofs.Common.{[], ◌∷◌, ◌++◌, ◌∙◌, ap, refl}
use Rattle.object_sweep.proofs.front.first_front.Goals as goal

pub returns : goal.returns
returns g c = (
  refl,
  (
    c.new-3.ensures.items,
    (
      c.new-2.result,
      c.in_ok-push.ensures.items ∙ ap (λ z. z ++ c.new-2.result ∷ []) c.in_ok-configurations.ensures.items,
      c.new-2.ensures.0,
      c.new-2.ensures.1 ∙ c.new.ensures.items,
    ),
  ),
)
