-- Each entry of the joined order is judged by its own part.
use Rattle.std.proofs.Common.{◌≡◌}
use Rattle.history_core.proofs.Joined.{atomic_joined, latest_joined}
use Rattle.history_core.proofs.JoinedLimits.{lawful_joined}
use Rattle.history_core.proofs.laws.orders_join.Goals as goal

pub returns-clause-atomic : goal.returns-clause-atomic
returns-clause-atomic g c opening next ops later order after h k held behind =
    atomic_joined (λ x y. x ≡ y) opening next ops later order after h k held behind

pub returns-clause-lawful : goal.returns-clause-lawful
returns-clause-lawful g c terms those ops later order after places those_places h k begins =
    lawful_joined terms those ops later order after places those_places h k begins

pub returns-clause-last : goal.returns-clause-last
returns-clause-last g c opening next ops later order after places held = latest_joined opening next ops later order after places held
