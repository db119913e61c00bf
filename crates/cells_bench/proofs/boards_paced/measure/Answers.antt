-- The threads are made of a new board's passes.
use Rattle.std.proofs.lemmas.Option.{slice_get-get_or}
use Rattle.cells_bench.proofs.boards_paced.measure.Goals as goal

pub make_pairs-requires : goal.make_pairs-requires
make_pairs-requires g c = λ k d l. rw (c.deref.ensures, c.new-board.ensures)
    ((c.in_ok-board.ensures.each k _ (slice_get-get_or c.in_ok-board.field-0.passes.items k d l)).0)
