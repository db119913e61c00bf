-- The step that chooses and the last one change the operation at its place.
use Rattle.std.proofs.Common.{rules, ◌≡◌, ◌<◌, length, sym, refl, ◌∙◌, ap, set}
use Rattle.std.specs.Prelude.{slice_get, Some}
use Rattle.std.proofs.lemmas.Option.{slice_get_read}
use Rattle.composed_play.proofs.boards.Telling.{tells_choice, tells_end, tells_nothing}
use Rattle.composed_play.proofs.board_term.tell_ops.Goals as goal

pub returns-then-seat-n : goal.returns-then-seat-n
returns-then-seat-n g c =
    let lt : c.args.seat.place < length c.args.ops.now.items = search rules in
    let was : slice_get c.args.ops.now.items c.args.seat.place ≡ Some c.index.result.now =
    slice_get_read c.args.ops.now.items _ c.args.seat.place c.index.result.now refl lt c.index.ensures in
    ap (set c.args.ops.now.items c.args.seat.place) c.chose.ensures
    ∙ sym (tells_choice c.args.n c.args.seat c.args.now c.args.line.now c.args.ops.now.items c.index.result.now c.if-seat-n.true was)

pub returns-then-seat-n-2 : goal.returns-then-seat-n-2
returns-then-seat-n-2 g c =
    let lt : c.args.seat.place < length c.args.ops.now.items = search rules in
    let was : slice_get c.args.ops.now.items c.args.seat.place ≡ Some c.index-then-seat-n-2.result.now =
    slice_get_read c.args.ops.now.items _ c.args.seat.place c.index-then-seat-n-2.result.now refl lt c.index-then-seat-n-2.ensures in
    ap (set c.args.ops.now.items c.args.seat.place) c.ended.ensures
    ∙ sym (tells_end c.args.n c.args.seat c.args.now c.args.line.now c.args.ops.now.items c.index-then-seat-n-2.result.now
    c.if-seat-n.false c.if-seat-n-2.true was)

pub returns-else-seat-n-2 : goal.returns-else-seat-n-2
returns-else-seat-n-2 g c =
    sym (tells_nothing c.args.n c.args.seat c.args.now c.args.line.now c.args.ops.now.items c.if-seat-n.false c.if-seat-n-2.false)
