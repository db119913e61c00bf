-- The orders of a log are lawful exactly if they are so without the lines of its operations.
use Rattle.std.proofs.Common.{◌≡◌, ℕ, zero, suc, List, [], ◌∷◌, map, refl, ap, sym, ◌∙◌, subst, slice_get, Option, Some, None}
use Rattle.std.proofs.Common.{option_map}
use Rattle.std.specs.Prelude.{◌↔◌}
use Rattle.std.proofs.lemmas.Option.{none-some, same_Some, slice_get-map}
use Rattle.history_core.specs.Orders.{times_of}
use Rattle.object_core.specs.declared.operation.Operation.{Operation}
use Rattle.object_core.specs.Logs.{CanMake, IsLinearizable, IsListing, is_due, KeepsPrecedence, MayStand, NonePrecedes}
use Rattle.object_core.specs.Logs.{Precedes}
use Rattle.object_registers.specs.declared.exchanging.Exchange.{Exchange}
use Rattle.object_registers.specs.declared.exchanging.Exchanging.{Exchanging}
use Rattle.object_registers.specs.Registers.{exchanging_after}
use Rattle.watch_lines.specs.Lined.{lined, lined_after, without_line}
use Rattle.watch_lines.specs.declared.lined.Lined.{Lined}
use Rattle.watch_lines.specs.declared.lined.LinedRegister.{LinedRegister}

module _ {X Y : Type 0} (f : X → Y) where
  pub at_map : (xs : List X) (i : ℕ) (x : X) → slice_get xs i ≡ Some x → slice_get (map f xs) i ≡ Some (f x)
  at_map xs i x e = slice_get-map f xs i ∙ ap (option_map f) e

  pub of_map : (xs : List X) (i : ℕ) (y : Y) → slice_get (map f xs) i ≡ Some y → (x : X) × (slice_get xs i ≡ Some x) × (f x ≡ y)
  of_map [] i y e = absurd (none-some y e)
  of_map (z ∷ xs) zero y e = (z, refl, same_Some (f z) y e)
  of_map (z ∷ xs) (suc i) y e = of_map xs i y e

-- a step with its line, and without it
pub made : (found : Option Exchanging) (t : LinedRegister) → option_map lined found ≡ Some t → found ≡ Some t.register
made None t e = absurd (none-some t e)
made (Some r) t e = ap (λ (u : LinedRegister). Some u.register) (same_Some (lined r) t e)

pub makes : (found : Option Exchanging) (t : Exchanging) → found ≡ Some t → option_map lined found ≡ Some (lined t)
makes found t e = ap (option_map lined) e

listing_bare : (log : List (Operation Lined)) (order : List ℕ) → IsListing log order → IsListing (map without_line log) order
listing_bare log order h p o at =
    let from = of_map without_line log p o at in
    let P : Operation Exchange → Type 0 = λ z. MayStand (is_due z) (times_of p order) in
    subst P from.2 (h p from.0 from.1)

listing_lined : (log : List (Operation Lined)) (order : List ℕ) → IsListing (map without_line log) order → IsListing log order
listing_lined log order h p o at = h p (without_line o) (at_map without_line log p o at)

none_bare : (log : List (Operation Lined)) (order : List ℕ) (p : ℕ) → NonePrecedes log order p →
    NonePrecedes (map without_line log) order p
none_bare log order p h q a b stands at_q at_p before =
    let x = of_map without_line log q a at_q in
    let y = of_map without_line log p b at_p in
    let P : Operation Exchange → Type 0 = λ z. Precedes z b in
    let Q : Operation Exchange → Type 0 = λ z. Precedes (without_line x.0) z in
    h q x.0 y.0 stands x.1 y.1 (subst Q (sym y.2) (subst P (sym x.2) before))

none_lined : (log : List (Operation Lined)) (order : List ℕ) (p : ℕ) → NonePrecedes (map without_line log) order p →
    NonePrecedes log order p
none_lined log order p h q a b stands at_q at_p before =
    h q (without_line a) (without_line b) stands (at_map without_line log q a at_q) (at_map without_line log p b at_p) before

keeps_bare : (log : List (Operation Lined)) (order : List ℕ) → KeepsPrecedence log order →
    KeepsPrecedence (map without_line log) order
keeps_bare log [] h = tt
keeps_bare log (p ∷ order) h = (none_bare log order p h.0, keeps_bare log order h.1)

keeps_lined : (log : List (Operation Lined)) (order : List ℕ) → KeepsPrecedence (map without_line log) order →
    KeepsPrecedence log order
keeps_lined log [] h = tt
keeps_lined log (p ∷ order) h = (none_lined log order p h.0, keeps_lined log order h.1)

can_bare : (log : List (Operation Lined)) (s : LinedRegister) (order : List ℕ) → CanMake lined_after log s order →
    CanMake exchanging_after (map without_line log) s.register order
can_bare log s [] h = tt
can_bare log s (p ∷ order) h =
    (without_line h.0, h.1.register, at_map without_line log p h.0 h.2, made _ h.1 h.3, can_bare log h.1 order h.4)

can_lined : (log : List (Operation Lined)) (s : LinedRegister) (order : List ℕ) →
    CanMake exchanging_after (map without_line log) s.register order → CanMake lined_after log s order
can_lined log s [] h = tt
can_lined log s (p ∷ order) h =
    let from = of_map without_line log p h.0 h.2 in
    let P : Operation Exchange → Type 0 = λ z. exchanging_after s.register z.what ≡ Some h.1 in
    let step : exchanging_after s.register from.0.what.what ≡ Some h.1 = subst P (sym from.2) h.3 in
    (from.0, lined h.1, from.1, makes _ h.1 step, can_lined log (lined h.1) order h.4)

pub same_orders : (opening : LinedRegister) (log : List (Operation Lined)) →
    (IsLinearizable lined_after opening log ↔ IsLinearizable exchanging_after opening.register (map without_line log))
same_orders opening log = (
  λ h. (
    h.0,
    record {
      listing = listing_bare log h.0 h.1.listing;
      precedence = keeps_bare log h.0 h.1.precedence;
      steps = can_bare log opening h.0 h.1.steps;
    },
  ),
  λ h. (
    h.0,
    record {
      listing = listing_lined log h.0 h.1.listing;
      precedence = keeps_lined log h.0 h.1.precedence;
      steps = can_lined log opening h.0 h.1.steps;
    },
  ),
)
