-- The row was written, or the record is the own one, or it was found to be told.
use Rattle.std.proofs.Common.{◌≡◌, ◌-◌, ◌∙◌, sym, ap, subst, refl, rules}
use Rattle.cell_contract.specs.Plans.{MayWriteEach}
use Rattle.cell_contract.specs.Running.{last_or}
use Rattle.board_live.specs.Plans.{MakesCalls}
use Rattle.board_live.specs.Records.{Rises, rises_on}
use Rattle.board_live.proofs.Accessing.{done_still, of_still, row_after, row_found, row_kept, row_told}
use Rattle.board_live.proofs.calls.tell_row.Goals as goal

pub was_told-requires-clause-of : goal.was_told-requires-clause-of
was_told-requires-clause-of g c = c.requires.of

pub was_told-requires-clause-plan : goal.was_told-requires-clause-plan
was_told-requires-clause-plan g c = c.requires.may_find

pub was_told-requires-clause-so_far : goal.was_told-requires-clause-so_far
was_told-requires-clause-so_far g c = c.requires.so_far

pub row-requires-clause-of : goal.row-requires-clause-of
row-requires-clause-of g c =
    of_still g.F.Family c.args.family.now c.args.processes c.args.process c.args.seat.now c.was_told.new.seat c.requires.of
    c.was_told.ensures.found.of

pub row-requires-clause-rises : goal.row-requires-clause-rises
row-requires-clause-rises g c = λ j l ne.
    let w = g.F.Family in
    let opening = w.opening c.args.family.now in
    subst (λ z. Rises (last_or opening z.items) c.args.item.now) (sym (c.was_told.ensures.found.calls.0 j))
    (rises_on (last_or opening (w.writes c.args.seat.now j).items) c.args.own.now c.args.item.now (c.requires.below j l ne)
    c.requires.rises)

pub row-requires-clause-lawful : goal.row-requires-clause-lawful
row-requires-clause-lawful g c = c.requires.lawful

pub row-requires-clause-plan : goal.row-requires-clause-plan
row-requires-clause-plan g c =
    let w = g.F.Family in
    let family = c.args.family.now in
    done_still w family c.args.seat.now c.was_told.new.seat c.args.item.now c.was_told.result c.was_told.ensures.found c.if-was_told.false
    (λ done who. MayWriteEach (MakesCalls (w.opening family) w.width (w.processes family) (w.limit family) who) w.width
    (w.processes family) who c.args.item.now done) c.requires.plan

same_stamp : (g : _) (c : goal.Then-eq g) → c.args.own.now.stamp ≡ c.args.item.now.stamp
same_stamp g c = search rules

pub returns-then-eq-clause-row : goal.returns-then-eq-clause-row
returns-then-eq-clause-row g c = row_kept g.F.Family c.args.family.now c.args.process (c.args.processes - 1) c.args.seat.now c.args.own.now
    c.args.item.now c.args.told c.requires.of.seat c.requires.rises (same_stamp g c)

pub returns-then-eq-clause-so_far : goal.returns-then-eq-clause-so_far
returns-then-eq-clause-so_far g c = c.requires.so_far

pub returns-then-eq-clause-silent : goal.returns-then-eq-clause-silent
returns-then-eq-clause-silent g c = λ e. refl

pub returns-then-was_told-clause-row : goal.returns-then-was_told-clause-row
returns-then-was_told-clause-row g c =
    row_found g.F.Family c.args.family.now c.args.process (c.args.processes - 1) c.args.seat.now c.was_told.new.seat c.args.own.now
    c.args.item.now c.args.told c.was_told.result c.was_told.ensures.found c.if-was_told.true

pub returns-then-was_told-clause-so_far : goal.returns-then-was_told-clause-so_far
returns-then-was_told-clause-so_far g c = c.was_told.ensures.so_far

pub returns-then-was_told-clause-silent : goal.returns-then-was_told-clause-silent
returns-then-was_told-clause-silent g c = search rules

pub returns-else-was_told-clause-row : goal.returns-else-was_told-clause-row
returns-else-was_told-clause-row g c =
    (row_told g.F.Family c.args.family.now c.args.process (c.args.processes - 1) c.args.seat.now c.row.new.seat c.args.own.now
    c.args.item.now c.args.told
    (row_after g.F.Family c.args.family.now c.args.process (c.args.processes - 1) c.args.seat.now c.was_told.new.seat c.row.new.seat
    c.args.item.now c.was_told.result c.was_told.ensures.found c.if-was_told.false c.row.ensures.row)).0

pub returns-else-was_told-clause-so_far : goal.returns-else-was_told-clause-so_far
returns-else-was_told-clause-so_far g c = c.row.ensures.so_far

pub returns-else-was_told-clause-silent : goal.returns-else-was_told-clause-silent
returns-else-was_told-clause-silent g c = search rules
