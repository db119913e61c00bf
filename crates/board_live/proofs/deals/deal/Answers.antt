-- Each seat has become a pass, in their order.
use Rattle.std.proofs.Common.{arith, ap, refl, sym, subst, ◌∙◌, ◌≡◌, ◌+◌, ◌∷◌, [], length, length-append, rules}
use Rattle.std.specs.Prelude.{IsTrue, vec_len}
use Rattle.board_live.proofs.Dealing.{all_dealt, ArePasses, dealt_more, is_new, none_dealt}
use Rattle.board_live.proofs.Plans.{none_allowed}
use Rattle.board_live.proofs.deals.deal.Goals as goal

pub loop-preserved : goal.loop-preserved
loop-preserved g c =
    let h = c.loop.invariant in
    let left = c.pop.new.self.items in
    let place : c.len-process.result ≡ length left = omega (arith, c.len-process.ensures) in
    let n : length c.loop.seats.items ≡ length left + 1 = ap length c.in-Some.ensures.items ∙ length-append left (c.in-Some.seat ∷ []) in
    let all : length c.in_ok-family.seats.items ≡ c.args.n = omega (arith, c.in_ok-family.ensures.seats.0) in
    let first : c.len-process.result + 1 ≡ c.args.n → IsTrue c.is_empty.result = λ last.
    let none : vec_len c.loop.passes ≡ 0 = omega (arith, c.loop.passes.ok, last, place, n, h.1, h.2, all) in search (none, rules) in (
      rw c.push_reserved.ensures.items
          (dealt_more c.args.n c.args.first c.in_ok-family.seats.items c.loop.seats.items left c.loop.passes.items c.len-process.result
          c.in-Some.seat c.in_ok-room.field-0 h.0 c.in-Some.ensures.items place
          (λ last. c.in_ok-room.ensures.0 (first last), c.in_ok-room.ensures.1)),
      omega (arith, n, h.1),
      rw c.push_reserved.ensures.items (length-append c.loop.passes.items _ ∙ ap (λ m. m + 1) h.2),
      c.push_reserved.ensures.capacity ∙ h.3,
    )

pub returns : goal.returns
returns g c =
    let h = c.loop.invariant in
    let seats = c.in_ok-family.seats in
    let long : length seats.items ≡ c.args.n = omega (arith, c.in_ok-family.ensures.seats.0) in
    let none : length c.loop.seats.items ≡ 0 = omega (arith, h.1, c.loop-test.false, c.loop.auto.counter-end, long) in
    is_new g.F.Family g.V.RecordLaw.obeys c.args.n c.args.limit c.args.first
    (record { family = c.in_ok-family.family; processes = c.args.n; limit = c.args.limit; first = c.args.first })
    seats.items c.reverse.new.self.items c.requires.processes c.requires.within c.requires.opens c.requires.lawful refl refl refl
    c.in_ok-family.ensures.opens.0 c.in_ok-family.ensures.opens.1 c.in_ok-family.ensures.opens.2 long
    c.in_ok-family.ensures.seats.1 c.in_ok-family.ensures.unused
    (subst (ArePasses c.args.n c.args.first 0 seats.items) (sym c.reverse.ensures.items)
    (all_dealt c.args.n c.args.first seats.items c.loop.seats.items c.loop.passes.items h.0 none))

pub returns-in_err-passes : goal.returns-in_err-passes
returns-in_err-passes g c = search rules

pub make-requires-clause-lawful : goal.make-requires-clause-lawful
make-requires-clause-lawful g c = search rules

pub make-requires-clause-processes : goal.make-requires-clause-processes
make-requires-clause-processes g c = search rules

pub make-requires-clause-plan : goal.make-requires-clause-plan
make-requires-clause-plan g c = λ i done l none.
    none_allowed g.F.Family.width c.args.n c.args.limit i c.args.first c.requires.processes.0 g.F.Family.some_steps done none

pub returns-in_err-family : goal.returns-in_err-family
returns-in_err-family g c = search rules

pub loop-init : goal.loop-init
loop-init g c = (
  none_dealt c.args.n c.args.first c.in_ok-family.seats.items c.in_ok-passes.passes.items c.in_ok-passes.ensures.items,
  omega arith,
  ap length c.in_ok-passes.ensures.items,
  refl,
)

pub push_reserved-requires : goal.push_reserved-requires
push_reserved-requires g c = search rules

pub loop-smaller : goal.loop-smaller
loop-smaller g c = search rules
