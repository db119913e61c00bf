-- The seats stay the same list in their order, however many are taken out.
use Rattle.std.proofs.Common.{arith, ◌≡◌, ◌+◌, ◌∷◌, [], length, length-append, ap, ◌∙◌, sym, subst}
use Rattle.cell_contract.specs.Ends.{Each, EachTwo, FindWhatWasSaid, IsAtomicCell}
use Rattle.board_live.specs.inner.Room.{in_order}
use Rattle.board_live.proofs.Mapping.{order_none, order_more}
use Rattle.board_live.proofs.ends.+shown.Goals as goal

pub so_far-requires : goal.so_far-requires
so_far-requires g t c =
    let none : length c.args.passes.now.items ≡ 0 = let e = c.in_default.ensures.cases in omega (arith, e.0) in
    let is = c.reverse.ensures.items ∙ sym (order_none c.args.passes.now.items c.args.seats.now.items none) in
    let n : length c.reverse.new.self.items ≡ g.F.Family.processes c.args.family.now = ap length is ∙ c.requires.all in (
      omega arith,
      subst (λ xs. Each (λ i s. g.F.Family.is_seat c.args.family.now s × (g.F.Family.who s ≡ i)) xs) (sym is) c.requires.each,
    )

pub returns-in_default-clause-atomic : goal.returns-in_default-clause-atomic
returns-in_default-clause-atomic g t c =
    let none : length c.args.passes.now.items ≡ 0 = let e = c.in_default.ensures.cases in omega (arith, e.0) in
    let is = c.reverse.ensures.items ∙ sym (order_none c.args.passes.now.items c.args.seats.now.items none) in
    subst (λ xs. EachTwo (λ i j s t. IsAtomicCell (g.F.Family.opening c.args.family.now) (g.F.Family.writes s j)
    (g.F.Family.reads t i)) xs) is
    c.so_far.ensures.atomic

pub returns-in_default-clause-finds : goal.returns-in_default-clause-finds
returns-in_default-clause-finds g t c =
    let none : length c.args.passes.now.items ≡ 0 = let e = c.in_default.ensures.cases in omega (arith, e.0) in
    let is = c.reverse.ensures.items ∙ sym (order_none c.args.passes.now.items c.args.seats.now.items none) in
    subst (λ xs. FindWhatWasSaid g.F.Family.said g.F.Family.found xs) is c.so_far.ensures.finds

pub returns-clause-finds : goal.returns-clause-finds
returns-clause-finds g t c =
    let passes = c.args.passes.now.items in
    let seats = c.args.seats.now.items in
    let left = c.pop.new.self.items in
    let is : in_order left c.push_reserved.new.self.items ≡ in_order passes seats =
    ap (λ z. in_order left z) c.push_reserved.ensures.items ∙ order_more passes left seats c.in-Some.pass c.in-Some.ensures.items in
    subst (λ xs. FindWhatWasSaid g.F.Family.said g.F.Family.found xs) is c.shown.ensures.finds

pub shown-requires : goal.shown-requires
shown-requires g t c κs within =
    let passes = c.args.passes.now.items in
    let seats = c.args.seats.now.items in
    let left = c.pop.new.self.items in
    let pass = c.in-Some.pass in
    let is : in_order left c.push_reserved.new.self.items ≡ in_order passes seats =
    ap (λ z. in_order left z) c.push_reserved.ensures.items ∙ order_more passes left seats pass c.in-Some.ensures.items in
    let fewer : length left + 1 ≡ length passes = sym (ap length c.in-Some.ensures.items ∙ length-append left (pass ∷ [])) in
    let more : length c.push_reserved.new.self.items ≡ length seats + 1 =
    ap length c.push_reserved.ensures.items ∙ length-append seats (pass.seat ∷ []) in (
      omega (arith, fewer, c.decreases),
      (
        within.0,
        (
          within.1.0,
          (
            within.1.1.0,
            (
              within.1.1.1,
              (
                ap length is ∙ c.requires.all,
                (
                  subst (λ xs. Each (λ i s. g.F.Family.is_seat c.args.family.now s × (g.F.Family.who s ≡ i)) xs) (sym is) c.requires.each,
                  rw c.push_reserved.ensures.capacity (omega (arith, fewer, more, c.requires.room)),
                ),
              ),
            ),
          ),
        ),
      ),
    )

pub returns-clause-atomic : goal.returns-clause-atomic
returns-clause-atomic g t c =
    let passes = c.args.passes.now.items in
    let seats = c.args.seats.now.items in
    let left = c.pop.new.self.items in
    let is : in_order left c.push_reserved.new.self.items ≡ in_order passes seats =
    ap (λ z. in_order left z) c.push_reserved.ensures.items ∙ order_more passes left seats c.in-Some.pass c.in-Some.ensures.items in
    subst (λ xs. EachTwo (λ i j s t. IsAtomicCell (g.F.Family.opening c.args.family.now) (g.F.Family.writes s j)
    (g.F.Family.reads t i)) xs) is
    c.shown.ensures.atomic
