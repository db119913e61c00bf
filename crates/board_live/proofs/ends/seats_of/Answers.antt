-- The seat of the last pass stands before those that were taken out.
use Rattle.std.proofs.Common.{arith, ap, ◌∙◌, ◌≡◌, ◌+◌, ◌∷◌, ◌++◌, [], length, length-append}
use Rattle.board_live.proofs.Ending.{room_of_last}
use Rattle.board_live.proofs.Mapping.{mapped_all, mapped_more, mapped_none}
use Rattle.board_live.proofs.ends.seats_of.Goals as goal

pub push_reserved-requires : goal.push_reserved-requires
push_reserved-requires g c =
    let r = room_of_last c.args.passes.items c.pop.new.self.items c.in-Some.last c.in-Some.ensures.items c.requires.room in
    let e : length c.in-Some.last.room.items ≡ 0 = ap length r.2 in
    omega (arith, r.0, r.1)

pub loop-init : goal.loop-init
loop-init g c =
    let r = room_of_last c.args.passes.items c.pop.new.self.items c.in-Some.last c.in-Some.ensures.items c.requires.room in
    let items : c.push_reserved.new.self.items ≡ c.in-Some.last.seat ∷ [] =
    c.push_reserved.ensures.items ∙ ap (λ z. z ++ c.in-Some.last.seat ∷ []) r.2 in (
      rw items
          (mapped_more (λ p. p.seat) c.args.passes.items c.args.passes.items c.pop.new.self.items [] c.in-Some.last
          (mapped_none _ c.args.passes.items) c.in-Some.ensures.items),
      omega (arith, r.0),
      ap length items,
      rw c.push_reserved.ensures.capacity r.1,
    )

pub loop-preserved : goal.loop-preserved
loop-preserved g c =
    let h = c.loop.invariant in
    let n : length c.loop.passes.items ≡ length c.pop-in-loop.new.self.items + 1 =
    ap length c.in-Some-pop.ensures.items ∙ length-append c.pop-in-loop.new.self.items (c.in-Some-pop.pass ∷ []) in
    let m : length c.push_reserved-in-loop.new.self.items ≡ length c.loop.seats.items + 1 =
    ap length c.push_reserved-in-loop.ensures.items ∙ length-append c.loop.seats.items (c.in-Some-pop.pass.seat ∷ []) in (
      rw c.push_reserved-in-loop.ensures.items
          (mapped_more (λ p. p.seat) c.args.passes.items c.loop.passes.items c.pop-in-loop.new.self.items c.loop.seats.items
          c.in-Some-pop.pass
          h.0 c.in-Some-pop.ensures.items),
      omega (arith, n, h.1),
      omega (arith, m, h.2),
      rw c.push_reserved-in-loop.ensures.capacity h.3,
    )

pub returns : goal.returns
returns g c =
    let h = c.loop.invariant in
    let r = room_of_last c.args.passes.items c.pop.new.self.items c.in-Some.last c.in-Some.ensures.items c.requires.room in
    let none : length c.loop.passes.items ≡ 0 = omega (arith, r.0, h.1, c.loop-test.false, c.loop.auto.counter-end) in
    c.reverse.ensures.items ∙ mapped_all (λ p. p.seat) c.args.passes.items c.loop.passes.items c.loop.seats.items h.0 none
