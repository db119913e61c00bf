-- Each turn takes the slot of one cell, which goes behind those taken before.
use Rattle.std.proofs.Common.{◌≡◌, ◌+◌, ◌-◌, ◌*◌, ◌<◌, ℕ, ◌∙◌, ap, refl, sym, subst, arith}
use Rattle.cell_contract.specs.declared.sight.Sight.TheVariants.{Spent}
use Rattle.cell_triple.specs.Steps.{first_writer, first_reader}
use Rattle.family_table.specs.Family.{of_cell}
use Rattle.family_table.specs.Places.{place}
use Rattle.family_triple.specs.Places.{word_at}
use Rattle.family_triple.proofs.Looking.{word_is}
use Rattle.family_triple.proofs.Taking.{Taking, start, took_row, took_column, took_all, row_in, column_in, row_cell, column_cell}
use Rattle.family_triple.proofs.slots.take_slots.Goals as goal

pub loop-at-init : goal.loop-at-init
loop-at-init g c =
    let o = c.args.table.now.rows.inner.shared.key.first in
    (refl, subst (Taking o c.args.n c.args.who 0 0) (sym c.requires.first) (start o c.args.n c.args.who c.requires.inside))

pub take_put-requires-clause-bare : goal.take_put-requires-clause-bare
take_put-requires-clause-bare g c =
    let h = c.loop-at.invariant.1 in
    let n = c.args.n in
    let who = c.args.who in
    let at = c.loop-at.at in
    let la : at < n - 1 = omega (arith, c.loop-at-test.true, c.loop-at.auto.at-end) in
    let low : row_cell n who at < n * n = row_in n who at c.requires.inside la in
    let is : c.place.result ≡ row_cell n who at = c.place.ensures ∙ ap (place n who) c.other.ensures in (
      h.v,
      first_writer c.args.table.now.rows.inner.shared.key.first,
      record {
        process = record { one = h.one; has = subst (λ (z : ℕ × ℕ). z.0 < z.1) (λ i. (sym is i, sym h.long i)) low; held = h.held };
        notes = ap (λ z. of_cell Spent z h.v.parts) is ∙ h.row.still at (omega arith) la;
      },
      refl,
    )

pub loop-at-preserved : goal.loop-at-preserved
loop-at-preserved g c =
    let h = c.loop-at.invariant.1 in
    let o = c.args.table.now.rows.inner.shared.key.first in
    let n = c.args.n in
    let who = c.args.who in
    let at = c.loop-at.at in
    let la : at < n - 1 = omega (arith, c.loop-at-test.true, c.loop-at.auto.at-end) in
    let k : ℕ = row_cell n who at in
    let is : c.place.result ≡ k = c.place.ensures ∙ ap (place n who) c.other.ensures in
    let word : 8 * c.place.result + 8 ≡ word_at k 0 = ap (λ z. 8 * z + 8) is ∙ word_is k in
    let took = c.take_put.ensures.took k h.v (first_writer o) word h.one (h.row.still at (omega arith) la) in (
      c.turn.ensures.own ∙ (c.take_put.ensures.own ∙ c.loop-at.invariant.0),
      took_row o n who at c.loop-at.seat.inner.me c.take_put.new.seat.inner.me c.turn.new.seat.inner.me c.requires.inside la h took
          c.turn.ensures.turned,
    )

pub take_get-requires-clause-bare : goal.take_get-requires-clause-bare
take_get-requires-clause-bare g c =
    let n = c.args.n in
    let who = c.args.who in
    let at = c.loop-at-2.at in
    let h = c.loop-at-2.invariant.1 in
    let la : at < n - 1 = omega (arith, c.loop-at-2-test.true, c.loop-at-2.auto.at-end) in
    let low : column_cell n who at < n * n = column_in n who at c.requires.inside la in
    let is : c.place-in-loop-at-2.result ≡ column_cell n who at =
    c.place-in-loop-at-2.ensures ∙ ap (λ z. place n z who) c.other-in-loop-at-2.ensures in (
      h.v,
      first_reader c.args.table.now.rows.inner.shared.key.first,
      record {
        process = record { one = h.one; has = subst (λ (z : ℕ × ℕ). z.0 < z.1) (λ i. (sym is i, sym h.long i)) low; held = h.held };
        notes = ap (λ z. of_cell Spent z h.v.parts) is ∙ h.column.still at (omega arith) la;
      },
      refl,
    )

pub loop-at-2-preserved : goal.loop-at-2-preserved
loop-at-2-preserved g c =
    let h = c.loop-at-2.invariant.1 in
    let o = c.args.table.now.rows.inner.shared.key.first in
    let n = c.args.n in
    let who = c.args.who in
    let at = c.loop-at-2.at in
    let la : at < n - 1 = omega (arith, c.loop-at-2-test.true, c.loop-at-2.auto.at-end) in
    let k : ℕ = column_cell n who at in
    let is : c.place-in-loop-at-2.result ≡ k = c.place-in-loop-at-2.ensures ∙ ap (λ z. place n z who) c.other-in-loop-at-2.ensures in
    let word : 8 * c.place-in-loop-at-2.result + 8 ≡ word_at k 0 = ap (λ z. 8 * z + 8) is ∙ word_is k in
    let took = c.take_get.ensures.took k h.v (first_reader o) word h.one (h.column.still at (omega arith) la) in (
      c.turn-in-loop-at-2.ensures.own ∙ (c.take_get.ensures.own ∙ c.loop-at-2.invariant.0),
      took_column o n who at c.loop-at-2.seat.inner.me c.take_get.new.seat.inner.me c.turn-in-loop-at-2.new.seat.inner.me c.requires.inside
          la h took
          c.turn-in-loop-at-2.ensures.turned,
    )

pub returns-clause-ready : goal.returns-clause-ready
returns-clause-ready g c =
    let o = c.args.table.now.rows.inner.shared.key.first in
    let all : c.loop-at-2.at ≡ c.args.n - 1 = omega (arith, c.loop-at-2-test.false, c.loop-at-2.auto.at-end) in
    took_all o c.args.n c.args.who c.loop-at-2.seat.inner.me c.requires.inside
    (subst (λ z. Taking o c.args.n c.args.who (c.args.n - 1) z c.loop-at-2.seat.inner.me) all c.loop-at-2.invariant.1)
