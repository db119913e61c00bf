-- A piece is read into a front of the chunk that is no longer than the room, and the front of it that was filled is added.
use Rattle.std.proofs.Common.{refl, ◌∙◌}
use Rattle.program_streams.proofs.TransferLemmas.{in_longer, front_length, piece_added, within_room}
use Rattle.program_streams.proofs.transfer.take_more.Goals as goal

pub slice_bounds-chunk-end-in-Ok : goal.slice_bounds-chunk-end-in-Ok
slice_bounds-chunk-end-in-Ok g c = in_longer _ _ _ c.in-Ok.ensures.bound.0

pub slice_bounds-extend_from_slice-end : goal.slice_bounds-extend_from_slice-end
slice_bounds-extend_from_slice-end g c = front_length _ _ _ c.in-Ok.ensures.bound.0

pub returns-in-Ok-extend_from_slice-clause-more : goal.returns-in-Ok-extend_from_slice-clause-more
returns-in-Ok-extend_from_slice-clause-more g c =
    piece_added _ _ c.args.bytes.now.items c.extend_from_slice.new.self.items c.take.new.buf _ c.args.most c.in-Ok.count
    c.in-Ok.ensures.bound.0 c.in-Ok.ensures.bytes c.in-Ok-extend_from_slice.ensures.items
    (within_room c.args.bytes.now.items c.take.new.buf _ c.min-room.result c.args.most c.len.result c.take.auto.buf refl
    c.min-room.ensures (c.len.ensures ∙ c.args.bytes.now.ok.0) c.requires.short)
