-- Each handle has its place, or all are as they were.
use Rattle.std.proofs.Common.{refl, subst}
use Rattle.c_boards.specs.Opens.{IsWhy}
use Rattle.c_boards.specs.Places.{done, no_memory, in_use, processes, limits}
use Rattle.c_boards.proofs.Putting.{have_all}
use Rattle.c_boards.proofs.makes.make_places.Goals as goal

pub returns-then-any_live : goal.returns-then-any_live
returns-then-any_live g c = in_use (c.if-any_live.ensures.some refl) refl

pub returns-in-Ok : goal.returns-in-Ok
returns-in-Ok g c =
    let o = c.in-Ok.ensures in
    done o.0 (c.if-any_live.ensures.none refl) o.1
    (have_all g.H.Hand.live g.H.Hand.side g.H.Hand.CODE g.D.Wraps.side o.0 c.in-Ok.sides.items c.put_all.new.handles o.3 c.put_all.ensures)

pub returns-in-Err-Processes : goal.returns-in-Err-Processes
returns-in-Err-Processes g c = let w = c.in-Err-Processes in
    processes (c.if-any_live.ensures.none refl) refl (subst (IsWhy _ _) w.field-0-is w.ensures)

pub returns-in-Err-Limit : goal.returns-in-Err-Limit
returns-in-Err-Limit g c = let w = c.in-Err-Limit in let why = subst (IsWhy _ _) w.field-0-is w.ensures in
    limits (c.if-any_live.ensures.none refl) refl why.0 why.1

pub returns-in-Err-NoMemory : goal.returns-in-Err-NoMemory
returns-in-Err-NoMemory g c = let w = c.in-Err-NoMemory in let why = subst (IsWhy _ _) w.field-0-is w.ensures in
    no_memory (c.if-any_live.ensures.none refl) refl why.0 why.1

pub returns-in-Err-Opening : goal.returns-in-Err-Opening
returns-in-Err-Opening g c = let w = c.in-Err-Opening in absurd (subst (IsWhy _ _) w.field-0-is w.ensures)
