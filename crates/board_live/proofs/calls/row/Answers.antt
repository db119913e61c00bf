-- The row of the family is the board's, by its numbers.
use Rattle.std.proofs.Common.{◌-◌, ◌<◌, ◌∙◌, sym, subst, rules}
use Rattle.board_live.specs.inner.Calls.{HasWrittenRow}
use Rattle.board_live.proofs.Accessing.{row_written}
use Rattle.board_live.proofs.calls.row.Goals as goal

pub returns-clause-row : goal.returns-clause-row
returns-clause-row g c =
    let w = g.F.Family in
    let family = c.args.family.now in
    let old = c.args.seat.now in
    let new = c.write_all_from.new.seat in
    let of = c.requires.of in
    subst (λ z. HasWrittenRow w family z (c.args.processes - 1) old new c.args.item.now) of.who
    (subst (λ z. HasWrittenRow w family (w.who old) (z - 1) old new c.args.item.now) of.all
    (row_written w family (w.who old) old c.args.item.now of.seat (w.processes family - 1) new c.write_all_from.ensures.row))

pub write_all_from-requires-clause-own : goal.write_all_from-requires-clause-own
write_all_from-requires-clause-own g c = search rules

pub write_all_from-requires-clause-lawful : goal.write_all_from-requires-clause-lawful
write_all_from-requires-clause-lawful g c = search rules

pub write_all_from-requires-clause-rises : goal.write_all_from-requires-clause-rises
write_all_from-requires-clause-rises g c = λ j inside ne.
    c.requires.rises j (subst (λ z. j < z) c.requires.of.all inside) (λ e. ne (e ∙ sym c.requires.of.who))

pub write_all_from-requires-clause-plan : goal.write_all_from-requires-clause-plan
write_all_from-requires-clause-plan g c = c.requires.plan

pub returns-clause-so_far : goal.returns-clause-so_far
returns-clause-so_far g c = c.write_all_from.ensures.so_far
