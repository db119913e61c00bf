-- By recursion, from the law for two parts.
use Rattle.std.proofs.Common.{◌≡◌}
use Rattle.history_core.proofs.JoinedParts.{atomic_parts, latest_parts, lawful_parts}
use Rattle.history_core.proofs.laws.parts_join.Goals as goal

pub returns-clause-atomic : goal.returns-clause-atomic
returns-clause-atomic g c opening last parts h = atomic_parts (λ x y. x ≡ y) opening last parts h

pub returns-clause-lawful : goal.returns-clause-lawful
returns-clause-lawful g c opening last parts h = lawful_parts (λ x y. x ≡ y) opening last parts h

pub returns-clause-last : goal.returns-clause-last
returns-clause-last g c opening last parts h = latest_parts (λ x y. x ≡ y) opening last parts h
