-- Each turn parts the next process off, which takes its slots.
use Rattle.std.proofs.Common.{◌+◌, ◌<◌, ◌∷◌, [], ap, ◌∙◌, refl, sym, subst, arith, replicate}
use Rattle.family_table.specs.declared.notes.View.TheVariants.{Has}
use Rattle.family_table.specs.Seats.{first_of}
use Rattle.family_triple.specs.Access.{IsReady}
use Rattle.family_triple.specs.Triples.{first_process}
use Rattle.family_triple.proofs.Parting.{DealtTo, dealt_more, next_me}
use Rattle.family_triple.proofs.family.seats_of.Goals as goal

pub part-seat-requires-clause-own : goal.part-seat-requires-clause-own
part-seat-requires-clause-own g c = c.loop-who.invariant.0.table

pub part-seat-requires-clause-some : goal.part-seat-requires-clause-some
part-seat-requires-clause-some g c =
    let h = c.loop-who.invariant.0 in
    let l : c.loop-who.who < c.args.n = omega (arith, c.loop-who-test.true, c.loop-who.auto.who-end) in (
      _,
      _,
      ap (λ z. z.0) (next_me c.args.table.now.rows.inner.shared.table_id c.args.n c.args.first c.loop-who.who c.loop-who.rest
          c.loop-who.seats.items l h),
    )

pub take_slots-requires-clause-first : goal.take_slots-requires-clause-first
take_slots-requires-clause-first g c =
    let h = c.loop-who.invariant.0 in
    let l : c.loop-who.who < c.args.n = omega (arith, c.loop-who-test.true, c.loop-who.auto.who-end) in
    c.part-seat.ensures.parted.1
    ∙ (ap (λ z. (first_of z.0, []))
    (next_me c.args.table.now.rows.inner.shared.table_id c.args.n c.args.first c.loop-who.who c.loop-who.rest
    c.loop-who.seats.items l h)
    ∙ ap (λ o. (Has (first_process o c.args.n c.loop-who.who ∷ []), [])) (sym c.requires.key.0))

pub loop-who-preserved : goal.loop-who-preserved
loop-who-preserved g c =
    let h = c.loop-who.invariant.0 in
    let l : c.loop-who.who < c.args.n = omega (arith, c.loop-who-test.true, c.loop-who.auto.who-end) in
    let part = c.part-seat.ensures in (
      subst (DealtTo c.args.table.now.rows.inner.shared.table_id c.args.n c.args.first (c.loop-who.who + 1) c.part-seat.new.seat)
          (sym c.push_reserved.ensures.items)
          (dealt_more c.args.table.now.rows.inner.shared.table_id c.args.n c.args.first c.loop-who.who c.loop-who.rest c.part-seat.new.seat
          c.loop-who.seats.items
          (record {
            seat = c.take_slots.new.seat;
            processes = c.args.n;
            who = c.loop-who.who;
            stored = record { fills = replicate 16 0; reads = replicate 16 2 };
            spare = c.args.first;
          }) l c.requires.few h part.own.0 part.parted.0 (c.take_slots.ensures.own ∙ part.own.1)
          (subst (λ o. IsReady o c.args.n c.loop-who.who c.take_slots.new.seat.inner.me)
          c.requires.key.0 c.take_slots.ensures.ready)
          refl refl refl refl refl),
      c.push_reserved.ensures.capacity ∙ c.loop-who.invariant.1,
    )
