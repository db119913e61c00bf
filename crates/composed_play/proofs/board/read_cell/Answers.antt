-- The cell at the place makes its event, and no other changes; the slot is that of its state after the event.
use Rattle.std.proofs.Common.{rules, ◌<◌, length, refl}
use Rattle.std.proofs.lemmas.Option.{slice_get_read}
use Rattle.composed_play.proofs.board.read_cell.Goals as goal

pub returns : goal.returns
returns g c =
    let lt : c.args.place < length c.args.cells.now.items = search rules in (
      c.index_mut-cell.result.now,
      c.read_step-stage.new.self,
      slice_get_read c.args.cells.now.items _ c.args.place c.index_mut-cell.result.now refl lt c.index_mut-cell.ensures.value,
      c.read_step-stage.ensures,
      refl,
      c.chosen_by_read.ensures,
    )
