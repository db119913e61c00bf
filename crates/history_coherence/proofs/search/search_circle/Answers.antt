-- The opening behind another record, or what the walk found.
use Rattle.std.proofs.Common.{ℕ, List, sym, subst}
use Rattle.history_thinning.specs.Thinnings.{Equal}
use Rattle.history_coherence.specs.Answers.{IsCoherence}
use Rattle.history_coherence.specs.Coherent.{IsCoherentOrder}
use Rattle.history_coherence.specs.declared.coherence.Coherence.{Coherence}
use Rattle.history_coherence.specs.declared.coherence.Incoherence.TheVariants.{Circle as CircleOf}
use Rattle.history_coherence.specs.declared.order.Sorting.{Sorting}
use Rattle.history_coherence.specs.inner.Sortings.{IsSorting}
use Rattle.history_coherence.proofs.Found.{back_found, incoherent, order_found, trail_circle}
use Rattle.history_coherence.proofs.search.search_circle.Goals as goal

pub returns-in-Some : goal.returns-in-Some
returns-in-Some c =
    let log = c.args.log.now in
    let links = c.in_ok-links.links.items in
    let circle = back_found log c.requires.once c.args.tables.now c.requires.tabled c.in-Some.later links c.in-Some.ensures.some
    c.in_ok-links.ensures in
    let P : Coherence → Type 0 = λ z. IsCoherence log z in
    subst P (sym c.circle.ensures) (incoherent log c.requires.once (CircleOf links) circle)

pub returns-in-Order : goal.returns-in-Order
returns-in-Order c =
    let log = c.args.log.now in
    let S : Sorting → Type 0 = λ z. IsSorting log c.args.tables.now z in
    let s = subst S c.in-Order.is c.in_ok-order.ensures in
    let P : List ℕ → Type 0 = λ z. IsCoherentOrder Equal 0 log z in
    subst P (sym c.new.ensures) (order_found log c.requires.once c.args.tables.now c.requires.tabled c.requires.none c.requires.sources
    c.in-Order.order.items s.0 s.1 s.2 s.3)

pub returns-in-Circle : goal.returns-in-Circle
returns-in-Circle c =
    let log = c.args.log.now in
    let links = c.in-Circle.links.items in
    let S : Sorting → Type 0 = λ z. IsSorting log c.args.tables.now z in
    let s = subst S c.in-Circle.is c.in_ok-order.ensures in
    let circle = trail_circle log c.requires.once c.args.tables.now c.requires.tabled links s.0 s.1 in
    let P : Coherence → Type 0 = λ z. IsCoherence log z in
    subst P (sym c.circle-in-Circle.ensures) (incoherent log c.requires.once (CircleOf links) circle)
