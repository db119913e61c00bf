-- The seats are taken out, the family shows what was done with them, and they come back: with the calls of the passes that is a run.
use Rattle.std.proofs.Common.{arith, ◌≡◌, ◌∷◌, [], ◌++◌, append-nil, length, map, refl, sym, ap, ◌∙◌, subst}
use Rattle.board_live.specs.declared.board.Pass.{Pass}
use Rattle.board_live.specs.Ends.{AllPasses}
use Rattle.board_live.specs.inner.Room.{in_order}
use Rattle.board_live.proofs.Ending.{room_of_last}
use Rattle.board_live.proofs.Mapping.{order_more}
use Rattle.board_live.proofs.Standing.{all_again, only_one}
use Rattle.board_live.proofs.Whole.{all_atomic, all_registers, all_seats, room_for_all}
use Rattle.board_live.proofs.board.Board.so_far.Goals as goal

pub push_reserved-requires : goal.push_reserved-requires
push_reserved-requires g c =
    let passes = c.args.passes.now.items in
    let r = room_of_last passes c.pop.new.self.items c.in-Some.pass c.in-Some.ensures.items
    (room_for_all g.F.Family g.V.RecordLaw.obeys c.args.self.now passes c.requires) in
    let e : length c.in-Some.pass.room.items ≡ 0 = ap length r.2 in
    omega (arith, r.0, r.1)

pub shown-requires-clause-all : goal.shown-requires-clause-all
shown-requires-clause-all g c =
    let passes = c.args.passes.now.items in
    let left = c.pop.new.self.items in
    let pass = c.in-Some.pass in
    let room = room_for_all g.F.Family g.V.RecordLaw.obeys c.args.self.now passes c.requires in
    let empty = (room_of_last passes left pass c.in-Some.ensures.items room).2 in
    let is : in_order left c.push_reserved.new.self.items ≡ map (λ p. p.seat) passes =
    ap (λ z. in_order left z) (c.push_reserved.ensures.items ∙ ap (λ z. z ++ pass.seat ∷ []) empty)
    ∙ order_more passes left [] pass c.in-Some.ensures.items ∙ append-nil (map (λ p. p.seat) passes) in
    (all_seats g.F.Family g.V.RecordLaw.obeys c.args.self.now passes c.requires (in_order left c.push_reserved.new.self.items) is).0

pub shown-requires-clause-each : goal.shown-requires-clause-each
shown-requires-clause-each g c =
    let passes = c.args.passes.now.items in
    let left = c.pop.new.self.items in
    let pass = c.in-Some.pass in
    let room = room_for_all g.F.Family g.V.RecordLaw.obeys c.args.self.now passes c.requires in
    let empty = (room_of_last passes left pass c.in-Some.ensures.items room).2 in
    let is : in_order left c.push_reserved.new.self.items ≡ map (λ p. p.seat) passes =
    ap (λ z. in_order left z) (c.push_reserved.ensures.items ∙ ap (λ z. z ++ pass.seat ∷ []) empty)
    ∙ order_more passes left [] pass c.in-Some.ensures.items ∙ append-nil (map (λ p. p.seat) passes) in
    (all_seats g.F.Family g.V.RecordLaw.obeys c.args.self.now passes c.requires (in_order left c.push_reserved.new.self.items) is).1

pub shown-requires-clause-room : goal.shown-requires-clause-room
shown-requires-clause-room g c =
    let passes = c.args.passes.now.items in
    let left = c.pop.new.self.items in
    let pass = c.in-Some.pass in
    let r = room_of_last passes left pass c.in-Some.ensures.items
    (room_for_all g.F.Family g.V.RecordLaw.obeys c.args.self.now passes c.requires) in
    let more : length c.push_reserved.new.self.items ≡ 1 =
    ap length (c.push_reserved.ensures.items ∙ ap (λ z. z ++ pass.seat ∷ []) r.2) in
    rw c.push_reserved.ensures.capacity (omega (arith, more, r.0, r.1))

pub returns-clause-passes : goal.returns-clause-passes
returns-clause-passes g c =
    let passes = c.args.passes.now.items in
    let left = c.pop.new.self.items in
    let pass = c.in-Some.pass in
    let room = room_for_all g.F.Family g.V.RecordLaw.obeys c.args.self.now passes c.requires in
    let empty = (room_of_last passes left pass c.in-Some.ensures.items room).2 in
    let back = only_one c.pop-2.new.self.items pass.seat c.in-Some-pop.seat
    (sym (ap (λ z. z ++ pass.seat ∷ []) empty) ∙ sym c.push_reserved.ensures.items ∙ sym c.shown.ensures.seats.0
    ∙ c.in-Some-pop.ensures.items) in
    let again : Pass g.row.V.Denot g.row.F.Denot g.row.F-Seat.Denot g.row.F-Receipt.Denot =
    record pass { seat = c.in-Some-pop.seat; room = c.pop-2.new.self } in
    let is : c.push_reserved-2.new.self.items ≡ left ++ again ∷ [] =
    c.push_reserved-2.ensures.items ∙ ap (λ z. z ++ again ∷ []) c.shown.ensures.passes.0 in
    subst (λ z. AllPasses g.F.Family g.V.RecordLaw.obeys c.args.self.now z) (sym is)
    (all_again g.F.Family g.V.RecordLaw.obeys c.args.self.now passes left pass again c.requires c.in-Some.ensures.items refl refl refl
    (sym back.1)
    (c.in-Some-pop.ensures.capacity ∙ c.shown.ensures.seats.1 ∙ c.push_reserved.ensures.capacity) back.0)

pub returns-clause-registers : goal.returns-clause-registers
returns-clause-registers g c =
    let passes = c.args.passes.now.items in
    let left = c.pop.new.self.items in
    let pass = c.in-Some.pass in
    let room = room_for_all g.F.Family g.V.RecordLaw.obeys c.args.self.now passes c.requires in
    let empty = (room_of_last passes left pass c.in-Some.ensures.items room).2 in
    let is : in_order left c.push_reserved.new.self.items ≡ map (λ p. p.seat) passes =
    ap (λ z. in_order left z) (c.push_reserved.ensures.items ∙ ap (λ z. z ++ pass.seat ∷ []) empty)
    ∙ order_more passes left [] pass c.in-Some.ensures.items ∙ append-nil (map (λ p. p.seat) passes) in
    all_registers g.F.Family g.V.RecordLaw.obeys c.args.self.now passes c.requires (in_order left c.push_reserved.new.self.items) is
    c.shown.ensures.atomic

pub returns-clause-atomic : goal.returns-clause-atomic
returns-clause-atomic g c =
    let passes = c.args.passes.now.items in
    let left = c.pop.new.self.items in
    let pass = c.in-Some.pass in
    let room = room_for_all g.F.Family g.V.RecordLaw.obeys c.args.self.now passes c.requires in
    let empty = (room_of_last passes left pass c.in-Some.ensures.items room).2 in
    let is : in_order left c.push_reserved.new.self.items ≡ map (λ p. p.seat) passes =
    ap (λ z. in_order left z) (c.push_reserved.ensures.items ∙ ap (λ z. z ++ pass.seat ∷ []) empty)
    ∙ order_more passes left [] pass c.in-Some.ensures.items ∙ append-nil (map (λ p. p.seat) passes) in
    all_atomic g.F.Family g.V.RecordLaw.obeys c.args.self.now passes c.requires (in_order left c.push_reserved.new.self.items) is
    c.greatest_own-last.result c.greatest_own-last.ensures c.shown.ensures.scheduled c.shown.ensures.atomic c.shown.ensures.finds
