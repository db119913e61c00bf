-- The reads and the writes of the call, or the reads and the look, are one call more of its pass.
use Rattle.std.proofs.Common.{◌≡◌, ◌+◌, length, refl, sym, ◌∙◌, ap, inr, rules}
use Rattle.std.proofs.lemmas.List.{length-append}
use Rattle.history_core.specs.declared.history.Kind.TheVariants.{Read}
use Rattle.board_live.proofs.Allowed.{may_find, may_read, may_write, still_below}
use Rattle.board_live.proofs.Calling.{is_bounded, is_call, is_pass}
use Rattle.board_live.proofs.Newest.{own_newest}
use Rattle.board_live.proofs.SoFar.{ordered_so_far}
use Rattle.board_live.proofs.board.Board.read.Goals as goal

pub returns-clause-pass : goal.returns-clause-pass
returns-clause-pass g c =
    is_pass g.F.Family g.V.RecordLaw.obeys c.args.self.now c.args.pass.now c.requires Read c.column.new.seen c.column.new.seen
    c.tell_row-pass.result c.column.new.seat c.tell_row-pass.new.seat c.column.ensures.read c.tell_row-pass.ensures.row (inr (refl, refl))
    (λ place. (refl, refl)) c.column.ensures.read.lawful

pub returns-clause-call : goal.returns-clause-call
returns-clause-call g c =
    is_call g.F.Family g.V.RecordLaw.obeys c.args.self.now c.args.pass.now c.requires Read c.column.new.seen c.column.new.seen
    c.tell_row-pass.result c.column.new.seat c.tell_row-pass.new.seat c.column.ensures.read c.tell_row-pass.ensures.row (inr (refl, refl))
    (λ place. (refl, refl))

pub returns-clause-known : goal.returns-clause-known
returns-clause-known g c =
    (is_call g.F.Family g.V.RecordLaw.obeys c.args.self.now c.args.pass.now c.requires Read c.column.new.seen c.column.new.seen
    c.tell_row-pass.result c.column.new.seat c.tell_row-pass.new.seat c.column.ensures.read c.tell_row-pass.ensures.row (inr (refl, refl))
    (λ place. (refl, refl))).known

pub returns-clause-bounded : goal.returns-clause-bounded
returns-clause-bounded g c =
    is_bounded g.F.Family g.V.RecordLaw.obeys c.args.self.now c.args.pass.now c.requires Read c.column.new.seen c.column.new.seen
    c.tell_row-pass.result c.column.new.seat c.tell_row-pass.new.seat c.column.ensures.read c.tell_row-pass.ensures.row

pub returns-clause-quiet : goal.returns-clause-quiet
returns-clause-quiet g c = λ e.
    let times = g.F.Family.times in
    let kept : c.tell_row-pass.new.seat ≡ c.column.new.seat = c.tell_row-pass.ensures.silent (sym e) in
    ap (λ s. length (times s)) kept ∙ ap length c.column.ensures.read.times
    ∙ length-append (times c.args.pass.now.seat) c.column.ensures.read.steps
    ∙ ap (λ m. length (times c.args.pass.now.seat) + m) c.column.ensures.read.long

pub column-requires-clause-of : goal.column-requires-clause-of
column-requires-clause-of g c = search rules

pub column-requires-clause-lawful : goal.column-requires-clause-lawful
column-requires-clause-lawful g c = search rules

pub column-requires-clause-newest : goal.column-requires-clause-newest
column-requires-clause-newest g c = own_newest g.F.Family g.V.RecordLaw.obeys c.args.self.now c.args.pass.now c.requires

pub column-requires-clause-plan : goal.column-requires-clause-plan
column-requires-clause-plan g c = may_read g.F.Family g.V.RecordLaw.obeys c.args.self.now c.args.pass.now c.requires

pub tell_row-pass-requires-clause-plan : goal.tell_row-pass-requires-clause-plan
tell_row-pass-requires-clause-plan g c =
    may_write g.F.Family g.V.RecordLaw.obeys c.args.self.now c.args.pass.now c.requires c.column.new.seat Read c.column.new.seen
    c.column.new.seen c.column.ensures.read (λ place. (refl, refl))

pub tell_row-pass-requires-clause-of : goal.tell_row-pass-requires-clause-of
tell_row-pass-requires-clause-of g c = search rules

pub tell_row-pass-requires-clause-below : goal.tell_row-pass-requires-clause-below
tell_row-pass-requires-clause-below g c =
    still_below g.F.Family g.V.RecordLaw.obeys c.args.self.now c.args.pass.now c.requires c.column.new.seat c.column.new.seen
    c.column.ensures.read

pub tell_row-pass-requires-clause-may_find : goal.tell_row-pass-requires-clause-may_find
tell_row-pass-requires-clause-may_find g c =
    may_find g.F.Family g.V.RecordLaw.obeys c.args.self.now c.args.pass.now c.requires c.column.new.seat c.column.new.seen
    c.column.ensures.read

pub tell_row-pass-requires-clause-rises : goal.tell_row-pass-requires-clause-rises
tell_row-pass-requires-clause-rises g c = search rules

pub tell_row-pass-requires-clause-lawful : goal.tell_row-pass-requires-clause-lawful
tell_row-pass-requires-clause-lawful g c = search rules

pub returns-clause-chosen : goal.returns-clause-chosen
returns-clause-chosen g c = search rules

pub returns-clause-lawful : goal.returns-clause-lawful
returns-clause-lawful g c = search rules

pub tell_row-pass-requires-clause-so_far : goal.tell_row-pass-requires-clause-so_far
tell_row-pass-requires-clause-so_far g c = c.column.ensures.so_far

pub returns-clause-so_far : goal.returns-clause-so_far
returns-clause-so_far g c = ordered_so_far g.F.Family g.V.RecordLaw.obeys c.args.self.now
    (record c.args.pass.now { own = c.column.new.seen; told = c.tell_row-pass.result; seat = c.tell_row-pass.new.seat })
    (returns-clause-pass g c) c.tell_row-pass.ensures.so_far
