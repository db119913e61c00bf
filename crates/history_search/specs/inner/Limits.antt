-- The first refused write of an order. Only private functions cite this, which is this project's own; the meaning of a
-- lawful refusal stands with the check.
use Rattle.std.specs.Prelude.{◌≡◌, ℕ, ◌<◌, true, List, take, slice_get, Option, None, Some}
use Rattle.history_core.specs.declared.history.Op.{Op}
use Rattle.history_core.specs.declared.history.Kind.{Kind}
use Rattle.history_core.specs.declared.history.Kind.TheVariants.{Read, Refused}
use Rattle.history_core.specs.Orders.{writes_in}

-- the kind of an operation, or else that of a read
abbrev pub kind_or : {R : Type 0} → Option (Op R) → Kind
kind_or None = Read
kind_or (Some o) = o.kind

module _ {R : Type 0} (ops : List (Op R)) (order : List ℕ) where
  -- none of the first n entries is a refused write
  abbrev pub NoneRefused : ℕ → Type 0
  NoneRefused n = (i p : ℕ) (o : Op R) → i < n → slice_get order i ≡ Some p → slice_get ops p ≡ Some o →
      o.kind ≡ Refused → ⊥

  -- the first refused write stands here, with so many writes before it
  pub record IsFirstRefusal (entry place writes : ℕ) : Type 0 where
    pub op : Op R
    pub at : slice_get order entry ≡ Some place
    pub is : slice_get ops place ≡ Some op
    pub refused : op.kind ≡ Refused
    pub none : NoneRefused entry
    pub counted : writes ≡ writes_in (λ _. true) ops (take entry order)
