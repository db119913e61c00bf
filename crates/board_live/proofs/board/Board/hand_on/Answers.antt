-- The same as a read's, with a row in any case.
use Rattle.std.proofs.Common.{◌≡◌, ◌-◌, refl, ◌∙◌, inr, rules}
use Rattle.history_core.specs.declared.history.Kind.TheVariants.{Read}
use Rattle.board_live.proofs.Accessing.{row_told}
use Rattle.board_live.proofs.Allowed.{may_read, may_write, still_rises}
use Rattle.board_live.proofs.Calling.{call_tells, is_bounded, is_call, is_pass}
use Rattle.board_live.proofs.Newest.{own_newest}
use Rattle.board_live.proofs.SoFar.{ordered_so_far}
use Rattle.board_live.proofs.board.Board.hand_on.Goals as goal

pub returns-clause-pass : goal.returns-clause-pass
returns-clause-pass g c =
    let row = row_told g.F.Family c.args.self.now.family c.args.pass.now.process (c.args.self.now.processes - 1) c.column.new.seat
    c.row.new.seat c.args.pass.now.own c.column.new.seen c.args.pass.now.told c.row.ensures.row in
    is_pass g.F.Family g.V.RecordLaw.obeys c.args.self.now c.args.pass.now c.requires Read c.column.new.seen c.column.new.seen _
    c.column.new.seat c.row.new.seat c.column.ensures.read row.0 (inr (refl, refl)) (λ place. (refl, refl)) c.column.ensures.read.lawful

pub returns-clause-handed : goal.returns-clause-handed
returns-clause-handed g c =
    let w = g.F.Family in
    let obeys = g.V.RecordLaw.obeys in
    let row = row_told w c.args.self.now.family c.args.pass.now.process (c.args.self.now.processes - 1) c.column.new.seat
    c.row.new.seat c.args.pass.now.own c.column.new.seen c.args.pass.now.told c.row.ensures.row in
    record {
      call = is_call w obeys c.args.self.now c.args.pass.now c.requires Read c.column.new.seen c.column.new.seen _
          c.column.new.seat c.row.new.seat c.column.ensures.read row.0 (inr (refl, refl)) (λ place. (refl, refl));
      row = call_tells w obeys c.args.self.now c.args.pass.now c.requires Read c.column.new.seen c.column.new.seen _
          c.column.new.seat c.row.new.seat c.column.ensures.read row.0 (inr (refl, refl)) (λ place. (refl, refl)) ∙ row.1;
      told = refl;
      bounded = is_bounded w obeys c.args.self.now c.args.pass.now c.requires Read c.column.new.seen c.column.new.seen _
          c.column.new.seat c.row.new.seat c.column.ensures.read row.0;
      so_far = ordered_so_far w obeys c.args.self.now _ (returns-clause-pass g c) c.row.ensures.so_far;
    }

pub column-requires-clause-of : goal.column-requires-clause-of
column-requires-clause-of g c = search rules

pub column-requires-clause-lawful : goal.column-requires-clause-lawful
column-requires-clause-lawful g c = search rules

pub column-requires-clause-newest : goal.column-requires-clause-newest
column-requires-clause-newest g c = own_newest g.F.Family g.V.RecordLaw.obeys c.args.self.now c.args.pass.now c.requires

pub column-requires-clause-plan : goal.column-requires-clause-plan
column-requires-clause-plan g c = may_read g.F.Family g.V.RecordLaw.obeys c.args.self.now c.args.pass.now c.requires

pub row-requires-clause-of : goal.row-requires-clause-of
row-requires-clause-of g c = search rules

pub row-requires-clause-rises : goal.row-requires-clause-rises
row-requires-clause-rises g c =
    still_rises g.F.Family g.V.RecordLaw.obeys c.args.self.now c.args.pass.now c.requires c.column.new.seat c.column.new.seen
    c.column.new.seen c.column.ensures.read (inr (refl, refl))

pub row-requires-clause-lawful : goal.row-requires-clause-lawful
row-requires-clause-lawful g c = c.column.ensures.read.lawful

pub row-requires-clause-plan : goal.row-requires-clause-plan
row-requires-clause-plan g c =
    may_write g.F.Family g.V.RecordLaw.obeys c.args.self.now c.args.pass.now c.requires c.column.new.seat Read c.column.new.seen
    c.column.new.seen c.column.ensures.read (λ place. (refl, refl))
