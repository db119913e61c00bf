-- The box was taken out, or the handle is as it was.
use Rattle.std.proofs.Common.{rules, ◌≡◌, refl, subst}
use Rattle.c_registers.specs.Handles.{LacksSide, done, refused}
use Rattle.c_registers.proofs.calls.end.Goals as goal

pub returns-then-live-CODE : goal.returns-then-live-CODE
returns-then-live-CODE g c =
    refused (search rules, subst (λ z. LacksSide z c.lacks.result) c.live-live.ensures c.lacks.ensures, refl)

pub returns : goal.returns
returns g c = done (search rules) (search rules)
