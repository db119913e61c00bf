-- The row of the operation gets the slot at its access.
use Rattle.std.proofs.Common.{rules, ◌≡◌, ◌<◌, length, refl}
use Rattle.std.specs.Prelude.{slice_get, Some}
use Rattle.std.proofs.lemmas.Option.{slice_get_read}
use Rattle.composed_play.proofs.boards.Telling.{notes_it}
use Rattle.composed_play.proofs.board_term.note.Goals as goal

pub returns-then-is_some : goal.returns-then-is_some
returns-then-is_some c =
    let lt : c.args.place < length c.args.slots.now.items = search rules in
    let row : slice_get c.args.slots.now.items c.args.place ≡ Some c.index_mut.result.now =
    slice_get_read c.args.slots.now.items _ c.args.place c.index_mut.result.now refl lt c.index_mut.ensures.value in
    rw c.set.ensures (notes_it c.args.place c.args.access c.args.slot c.args.slots.now.items c.index_mut.result.now (λ e. search rules) row)
