-- The order of a term is made from the operations that stand behind those of the terms before.
use Rattle.std.proofs.Common.{◌≡◌, ℕ, ◌+◌, List, ◌++◌, length, map, drop, sym, ◌∙◌}
use Rattle.std.specs.Prelude.{Option}
use Rattle.history_core.specs.declared.history.Op.{Op}
use Rattle.matrix_core.specs.declared.stamp.Stamp.{Stamp}
use Rattle.matrix_core.specs.Listings.{IsInOrder}
use Rattle.matrix_core.proofs.lists.Elements.{rest_is}

pub listed_behind : {R : Type 0} (ops mine_ops all_ops : List (Op R)) (stamps mine_stamps all_stamps : List (Option Stamp)) (place : ℕ)
    (order order' mine : List ℕ) → all_ops ≡ ops ++ mine_ops → all_stamps ≡ stamps ++ mine_stamps → place ≡ length ops →
    length stamps ≡ length ops
    → IsInOrder (drop place all_ops) (drop place all_stamps) mine
    → order' ≡ order ++ map (λ p. place + p) mine
    → IsInOrder mine_ops mine_stamps mine × (order' ≡ order ++ map (λ p. length ops + p) mine)
listed_behind ops mine_ops all_ops stamps mine_stamps all_stamps place order order' mine eo es pl long sorted e = (
  rw (rest_is ops mine_ops all_ops place eo pl, rest_is stamps mine_stamps all_stamps place es (pl ∙ sym long)) at sorted,
  rw pl at e,
)
