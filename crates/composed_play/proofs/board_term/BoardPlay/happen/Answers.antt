-- Each part of the play is what the step makes of it.
use Rattle.std.proofs.Common.{rules, ◌≡◌, ◌∙◌, ◌<◌, ap, sym, refl, length}
use Rattle.std.specs.Prelude.{slice_get, Some}
use Rattle.std.proofs.lemmas.Option.{get_or_from_slice_get, slice_get_read}
use Rattle.composed_play.specs.inner.BoardPlays.{board_seat, first_board_seat, happened, BoardPlaying}
use Rattle.composed_play.proofs.boards.Telling.{moved_as}
use Rattle.composed_play.proofs.board_term.BoardPlay.happen.Goals as goal

pub returns : goal.returns
returns g c =
    let play : BoardPlaying g.row.R.Denot = record {
      board = c.self.inside.board;
      now = c.self.inside.now;
      seats = c.self.inside.seats.items;
      ops = c.self.inside.ops.items;
      stamps = c.self.inside.stamps.items;
      slots = c.self.inside.slots.items;
    } in
    let who : c.args.who < length play.seats = rw (← c.self.view_is) at c.requires.inside in
    let n : c.len-n.result ≡ length play.seats = search rules in
    let at : slice_get play.seats c.args.who ≡ Some c.index-seat.result.now =
    slice_get_read play.seats _ c.args.who _ refl who c.index-seat.ensures in
    let seat : c.index-seat.result.now ≡ board_seat play c.args.who =
    sym (get_or_from_slice_get play.seats c.args.who c.index-seat.result.now first_board_seat at) in
    moved_as play c.args.who c.args.wish c.len-n.result c.index-seat.result.now c.next_seat.result c.line-line.result.now c.step-slot.result
    c.step-slot.new.self c.tell_ops.new.ops.items c.tell_stamps.new.stamps.items c.note.new.slots.items
    n seat c.step-slot.ensures.board c.line-line.ensures.at c.step-slot.ensures.slot c.tell_ops.ensures c.tell_stamps.ensures
    c.note.ensures c.next_seat.ensures
    ∙ ap (λ (z : BoardPlaying g.row.R.Denot). happened z c.args.who c.args.wish) c.self.view_is
