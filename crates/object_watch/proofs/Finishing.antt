-- The verdict on the whole log.
use Rattle.std.proofs.Common.{◌≡◌, ℕ, ◌+◌, ◌≤◌, max, List, [], ◌++◌, map, Option, Some, sym, ◌∙◌, ap, subst, arith}
use Rattle.std.proofs.lemmas.List.{append-nil}
use Rattle.object_core.specs.declared.operation.Operation.{Operation}
use Rattle.object_core.specs.Logs.{IsLinearizable}
use Rattle.object_watch.specs.Remainders.{ComesFrom, IsOfOne, known}
use Rattle.object_watch.specs.Watches.{IsHeldOf, IsLawfulUntil, IsLostAfter}
use Rattle.object_watch.specs.declared.remainder.Remainder.{Remainder}
use Rattle.object_watch.specs.inner.Levels.{NoneIsOverBefore}
use Rattle.object_watch.proofs.Latest.{all_known, last_is, last_of}
use Rattle.object_watch.proofs.Watching.{watch_lawful}

module _ {S W : Type 0} (after : S → W → Option S) (opening : S) (log : List (Operation W)) where
  -- nothing that is left has an end
  pub finished : (last : ℕ) (old left : List (Remainder S W)) → IsHeldOf after opening log (last + 1) left →
      ((o : Operation W) → IsOfOne left o → IsOfOne old o) →
      ((at : ℕ) (o : Operation W) → IsOfOne old o → o.ends ≡ Some at → at ≤ last) → IsLinearizable after opening log
  finished last old left h of ends =
      let m : ℕ = max last (last_of log) in
      let lawful : IsLawfulUntil after opening log m =
      watch_lawful after opening log (last + 1) left h (m + 1) (none m) m (omega arith) (omega arith) in
      subst (IsLinearizable after opening)
      (all_known log m (λ i at o e f. (let l = last_is log i at o e f in omega (arith, l)))) lawful
    where
      none : (m : ℕ) → NoneIsOverBefore (m + 1) left
      none m i p at one o e f g =
          let late = (h.ahead i one e).ends p at o f g in
          let soon = ends at o (of o (i, one, e, (p, f))) g in absurd (omega (arith, late, soon))

  -- what is lost has no order
  pub lost_whole : (at : ℕ) → IsLostAfter after opening log at → ¬ IsLinearizable after opening log
  lost_whole at h lawful =
      let m : ℕ = max at (last_of log) in
      let known_whole : map (known m) log ≡ log =
      all_known log m (λ i e o f g. (let l = last_is log i e o f g in omega (arith, l))) in
      let whole : map (known m) (log ++ []) ≡ log = ap (map (known m)) (append-nil log) ∙ known_whole in
      h [] m (comes m (omega arith)) (subst (IsLinearizable after opening) (sym whole) lawful)
    where
      comes : (m : ℕ) → at ≤ m → ComesFrom {W = W} (at + 1) m []
      comes m l = record { later = omega (arith, l); begins = λ i o e. cc; forwards = λ i e o f g. cc }
