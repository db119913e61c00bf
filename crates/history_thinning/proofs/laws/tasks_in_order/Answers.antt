-- Of two operations of one task the first precedes the other.
use Rattle.std.proofs.Common.{◌≡◌, arith, sym, ap, ◌∙◌, slice_get}
use Rattle.std.specs.Option.{option_and_then}
use Rattle.std.proofs.lemmas.Option.{same_Some}
use Rattle.history_thinning.proofs.laws.tasks_in_order.Goals as goal

pub returns : goal.returns
returns g c = λ log order turns keeps i j p q a b at_a at_b same l.
    keeps i j a b (ap (option_and_then (slice_get log)) at_a.0 ∙ at_a.1) (ap (option_and_then (slice_get log)) at_b.0 ∙ at_b.1)
    (λ s. let e : p ≡ q = same_Some p q (sym at_a.0 ∙ ap (slice_get order) s ∙ at_b.0) in absurd (omega arith))
    (turns p q a b at_a.1 at_b.1 same l)
