-- A document that was taken within the bound was taken as is wanted.
use Rattle.std.proofs.Common.{◌≡◌, ℕ, List, Bool, Option, Result, subst, sym}
use Rattle.std.specs.Prelude.{Vec}
use Rattle.std.specs.declared.alloc.Global.{Global}
use Rattle.program_runs.specs.Run.{never, TakesDocument}

pub taken_so : (is_unbounded : List ℕ → Bool) (old new : Option (List ℕ)) (result : Result (Vec ℕ Global) ℕ) → is_unbounded ≡ never
    → TakesDocument never old new result → TakesDocument is_unbounded old new result
taken_so is_unbounded old new result bounded taken =
    subst (λ (b : List ℕ → Bool). TakesDocument b old new result) (sym bounded) taken
