-- The places of the entries are those of the term, moved behind those of the terms before.
use Rattle.std.proofs.Common.{◌≡◌, ◌<◌, ◌≤◌, ◌+◌, ◌++◌, ℕ, false, arith, ap, ◌∙◌, length, map, take, get_or}
use Rattle.std.proofs.lemmas.List.{take_all}
use Rattle.matrix_core.specs.declared.order.Listed.{Listed}
use Rattle.matrix_core.proofs.orders.Listing.{entry_inside}
use Rattle.matrix_core.proofs.order.list_term.Goals as goal

pub overflow_add-first : goal.overflow_add-first
overflow_add-first g c =
    let i : ℕ = c.loop-entry.entry-index in
    let e : c.deref-entry-items.result.now ≡ c.in_ok-listed.listed.items = c.deref-entry-items.ensures.value in
    let lt : i < length c.in_ok-listed.listed.items = rw e at c.loop-entry-test.true in
    let d : Listed = record { stamp = record { tag = 0; writer = 0 }; answers = false; place = 0 } in
    let inside : (get_or c.in_ok-listed.listed.items i d).place < length c.args.ops.now =
    entry_inside c.args.ops.now c.args.stamps.now c.in_ok-listed.listed.items i d lt c.in_ok-listed.ensures in
    let r : c.args.first + length c.args.ops.now < 18446744073709551616 = c.requires.room in
    rw e (omega arith)

pub returns : goal.returns
returns g c =
    let e : c.deref-entry-items.result.now ≡ c.in_ok-listed.listed.items = c.deref-entry-items.ensures.value in
    let done : length c.in_ok-listed.listed.items ≤ c.loop-entry.entry-index = rw e at c.loop-entry-test.false in (
      map (λ (e : Listed). e.place) c.in_ok-listed.listed.items,
      c.in_ok-listed.ensures,
      c.loop-entry.invariant ∙ ap (λ z. c.args.order.now.items ++ map (λ p. c.args.first + p) (map (λ (e : Listed). e.place) z))
          (ap (take c.loop-entry.entry-index) e ∙ take_all c.loop-entry.entry-index c.in_ok-listed.listed.items done),
    )
