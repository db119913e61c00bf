-- Logs with an entry that breaks a rule aren't sound.
use Rattle.std.proofs.Common.{inl, inr}
use Rattle.std.specs.Prelude.{ℕ, Bool, List}
use Rattle.board_tasks.specs.declared.lane.Entry.{Entry}
use Rattle.board_tasks.specs.declared.origin.Origin.TheVariants.{Sound, Broken}
use Rattle.board_tasks.specs.Origins.{has_origin, in_order, IsOrigin}
use Rattle.board_tasks.proofs.SoundOrders.{breaks_none}

pub not_both : {V : Type 0} (equal : V → V → Bool) (opening : V) (logs : List (List (Entry V))) (task call : ℕ)
    → IsOrigin equal opening logs (Broken task call) → IsOrigin equal opening logs Sound → ⊥
not_both equal opening logs task call broken sound = elim broken.either [
  | inl first ↦ breaks_none in_order logs sound.0 task call first
  | inr (_, first) ↦ breaks_none (has_origin equal opening logs) logs sound.1 task call first
]
