-- What lies in the one slot that a pass holds.
use Rattle.std.proofs.Common.{◌≡◌, ℕ, List, [], ◌∷◌, ◌∙◌, sym, ap, get_or}
use Rattle.cell_contract.specs.Running.{held_slots}
use Rattle.cell_contract.proofs.ListLaws.{may_exchange, none_behind}

module _ {T : Type 0} where
  pub lies : (cs : List (ℕ × T)) (k : ℕ) (d : T) → held_slots cs ≡ k ∷ [] → cs ≡ (k, (get_or cs 0 (k, d)).1) ∷ []
  lies cs k d held =
      let t = may_exchange cs k held in
      let is : cs ≡ (k, t.0) ∷ [] = t.1 ∙ ap (λ (ds : List (ℕ × T)). (k, t.0) ∷ ds) (none_behind cs k held) in
      is ∙ ap (λ (x : T). (k, x) ∷ []) (sym (ap (λ (ds : List (ℕ × T)). (get_or ds 0 (k, d)).1) is))
