-- A step in the column is an event of a read, one in the row an event of a write; what either leaves is said of plain values in
-- boards/OneStep. The answers hand over what each call says, first of the numbers, then of the two branches.
use Rattle.std.proofs.Common.{arith, sym, ◌∙◌, ap, subst, ◌<◌, ◌≤◌, ◌+◌, length, ◌≡◌}
use Rattle.std.proofs.lemmas.List.{length-set}
use Rattle.composed_play.specs.BoardEvents.{after_event, Board, slot_of}
use Rattle.composed_play.proofs.boards.OneStep.{far_within, few, fits_column, fits_row, hears, is_process, line_read, partner_in_column}
use Rattle.composed_play.proofs.boards.OneStep.{partner_in_row, place_in_cells, posts}
use Rattle.composed_play.proofs.board.BoardCore.step.Goals as goal

-- how far the process is
pub done_at-done-requires-clause-process : goal.done_at-done-requires-clause-process
done_at-done-requires-clause-process g c = rw c.deref.ensures.value (is_process c.self.view_is c.requires)

pub done_at-done-requires-clause-small : goal.done_at-done-requires-clause-small
done_at-done-requires-clause-small g c = rw c.deref.ensures.value c.self.invariant.at_most

pub done_at-done-requires-clause-inside : goal.done_at-done-requires-clause-inside
done_at-done-requires-clause-inside g c = rw c.deref.ensures.value c.self.invariant.inside

pub overflow_add-done : goal.overflow_add-done
overflow_add-done g c =
    let far : c.done_at-done.result + 3 ≤ 32 = far_within _ c.self.invariant c.deref.ensures.value c.done_at-done.ensures.inside in
    omega arith

-- the cell of the column
pub other-requires : goal.other-requires
other-requires g c =
    let far : c.done_at-done.result + 3 ≤ 32 = far_within _ c.self.invariant c.deref.ensures.value c.done_at-done.ensures.inside in
    omega arith

pub cell_index-place-requires-clause-small : goal.cell_index-place-requires-clause-small
cell_index-place-requires-clause-small g c = few c.self.invariant (c.len-n.ensures ∙ c.self.inside.lines.ok.0)

pub cell_index-place-requires-clause-writer : goal.cell_index-place-requires-clause-writer
cell_index-place-requires-clause-writer g c =
    let n : c.len-n.result ≡ length c.self.inside.lines.items = c.len-n.ensures ∙ c.self.inside.lines.ok.0 in
    partner_in_column c.args.process c.done_at-done.result
    (subst (λ k. c.args.process < k) (sym n) (is_process c.self.view_is c.requires)) c.if-done-n.true c.other.ensures

pub cell_index-place-requires-clause-reader : goal.cell_index-place-requires-clause-reader
cell_index-place-requires-clause-reader g c =
    let n : c.len-n.result ≡ length c.self.inside.lines.items = c.len-n.ensures ∙ c.self.inside.lines.ok.0 in
    subst (λ k. c.args.process < k) (sym n) (is_process c.self.view_is c.requires)

pub read_cell-stage-requires : goal.read_cell-stage-requires
read_cell-stage-requires g c =
    place_in_cells c.self.invariant (c.len-n.ensures ∙ c.self.inside.lines.ok.0) c.self.inside.cells.ok.0 c.cell_index-place.ensures.inside

pub index_mut-requires : goal.index_mut-requires
index_mut-requires g c = subst (λ k. c.args.process < k) (sym c.self.inside.lines.ok.0) (is_process c.self.view_is c.requires)

pub hear-requires-clause-inside : goal.hear-requires-clause-inside
hear-requires-clause-inside g c =
    fits_column (line_read c.args.process c.self.invariant c.deref.ensures.value c.done_at-done.ensures.at
    c.index_mut.ensures.value) c.if-done-n.true

pub hear-requires-clause-small : goal.hear-requires-clause-small
hear-requires-clause-small g c = few c.self.invariant (c.len-n.ensures ∙ c.self.inside.lines.ok.0)

pub invariant_of-self : goal.invariant_of-self
invariant_of-self g c =
    let l = line_read c.args.process c.self.invariant c.deref.ensures.value c.done_at-done.ensures.at c.index_mut.ensures.value in
    let heard = hears c.args.process c.args.wish c.self.invariant (c.len-n.ensures ∙ c.self.inside.lines.ok.0) l c.if-done-n.true
    c.other.ensures c.cell_index-place.ensures.place c.read_cell-stage.ensures c.hear.ensures in
    heard.shape

pub returns-then-done-n-clause-board : goal.returns-then-done-n-clause-board
returns-then-done-n-clause-board g c =
    let l = line_read c.args.process c.self.invariant c.deref.ensures.value c.done_at-done.ensures.at c.index_mut.ensures.value in
    let heard = hears c.args.process c.args.wish c.self.invariant (c.len-n.ensures ∙ c.self.inside.lines.ok.0) l c.if-done-n.true
    c.other.ensures c.cell_index-place.ensures.place c.read_cell-stage.ensures c.hear.ensures in
    heard.after ∙ ap (λ (z : Board g.row.R.Denot). after_event z c.args.process c.args.wish) c.self.view_is

pub returns-then-done-n-clause-slot : goal.returns-then-done-n-clause-slot
returns-then-done-n-clause-slot g c =
    let l = line_read c.args.process c.self.invariant c.deref.ensures.value c.done_at-done.ensures.at c.index_mut.ensures.value in
    let heard = hears c.args.process c.args.wish c.self.invariant (c.len-n.ensures ∙ c.self.inside.lines.ok.0) l c.if-done-n.true
    c.other.ensures c.cell_index-place.ensures.place c.read_cell-stage.ensures c.hear.ensures in
    heard.slot ∙ ap (λ (z : Board g.row.R.Denot). slot_of z c.args.process) c.self.view_is

pub returns-then-done-n-clause-size : goal.returns-then-done-n-clause-size
returns-then-done-n-clause-size g c = length-set c.self.inside.lines.items c.args.process c.hear.new.line
    ∙ ap (λ (z : Board g.row.R.Denot). length z.lines) c.self.view_is

-- the cell of the row
pub overflow_add-done-else-done-n : goal.overflow_add-done-else-done-n
overflow_add-done-else-done-n g c =
    let far : c.done_at-done.result + 3 ≤ 32 = far_within _ c.self.invariant c.deref.ensures.value c.done_at-done.ensures.inside in
    omega arith

pub overflow_sub-done : goal.overflow_sub-done
overflow_sub-done g c = c.if-done-n.false

pub other-requires-else-done-n : goal.other-requires-else-done-n
other-requires-else-done-n g c =
    let far : c.done_at-done.result + 3 ≤ 32 = far_within _ c.self.invariant c.deref.ensures.value c.done_at-done.ensures.inside in
    let row : c.len-n.result ≤ c.done_at-done.result + 1 = c.if-done-n.false in
    omega arith

pub cell_index-place-requires-else-done-n-clause-small : goal.cell_index-place-requires-else-done-n-clause-small
cell_index-place-requires-else-done-n-clause-small g c = few c.self.invariant (c.len-n.ensures ∙ c.self.inside.lines.ok.0)

pub cell_index-place-requires-else-done-n-clause-writer : goal.cell_index-place-requires-else-done-n-clause-writer
cell_index-place-requires-else-done-n-clause-writer g c =
    let n : c.len-n.result ≡ length c.self.inside.lines.items = c.len-n.ensures ∙ c.self.inside.lines.ok.0 in
    subst (λ k. c.args.process < k) (sym n) (is_process c.self.view_is c.requires)

pub cell_index-place-requires-else-done-n-clause-reader : goal.cell_index-place-requires-else-done-n-clause-reader
cell_index-place-requires-else-done-n-clause-reader g c =
    let n : c.len-n.result ≡ length c.self.inside.lines.items = c.len-n.ensures ∙ c.self.inside.lines.ok.0 in
    partner_in_row c.args.process c.done_at-done.result c.self.invariant n c.deref.ensures.value c.done_at-done.ensures.inside
    (subst (λ k. c.args.process < k) (sym n) (is_process c.self.view_is c.requires)) c.if-done-n.false c.other-else-done-n.ensures

pub index-requires : goal.index-requires
index-requires g c = subst (λ k. c.args.process < k) (sym c.self.inside.lines.ok.0) (is_process c.self.view_is c.requires)

pub write_cell-stage-requires : goal.write_cell-stage-requires
write_cell-stage-requires g c =
    place_in_cells c.self.invariant (c.len-n.ensures ∙ c.self.inside.lines.ok.0) c.self.inside.cells.ok.0
    c.cell_index-place-else-done-n.ensures.inside

pub index_mut-requires-else-done-n : goal.index_mut-requires-else-done-n
index_mut-requires-else-done-n g c =
    subst (λ k. c.args.process < k) (sym c.self.inside.lines.ok.0) (is_process c.self.view_is c.requires)

pub post-requires-clause-inside : goal.post-requires-clause-inside
post-requires-clause-inside g c =
    fits_row c.self.invariant (c.len-n.ensures ∙ c.self.inside.lines.ok.0)
    (line_read c.args.process c.self.invariant c.deref.ensures.value c.done_at-done.ensures.at
    c.index_mut-else-done-n.ensures.value)

pub post-requires-clause-small : goal.post-requires-clause-small
post-requires-clause-small g c = few c.self.invariant (c.len-n.ensures ∙ c.self.inside.lines.ok.0)

pub invariant_of-self-else-done-n : goal.invariant_of-self-else-done-n
invariant_of-self-else-done-n g c =
    let l = line_read c.args.process c.self.invariant c.deref.ensures.value c.done_at-done.ensures.at
    c.index_mut-else-done-n.ensures.value in
    let before = line_read c.args.process c.self.invariant c.deref.ensures.value c.done_at-done.ensures.at c.index.ensures in
    let posted = posts c.args.process c.args.wish c.self.invariant (c.len-n.ensures ∙ c.self.inside.lines.ok.0) l before c.if-done-n.false
    c.other-else-done-n.ensures c.cell_index-place-else-done-n.ensures.place c.write_cell-stage.ensures c.post.ensures in
    posted.shape

pub returns-else-done-n-clause-board : goal.returns-else-done-n-clause-board
returns-else-done-n-clause-board g c =
    let l = line_read c.args.process c.self.invariant c.deref.ensures.value c.done_at-done.ensures.at
    c.index_mut-else-done-n.ensures.value in
    let before = line_read c.args.process c.self.invariant c.deref.ensures.value c.done_at-done.ensures.at c.index.ensures in
    let posted = posts c.args.process c.args.wish c.self.invariant (c.len-n.ensures ∙ c.self.inside.lines.ok.0) l before c.if-done-n.false
    c.other-else-done-n.ensures c.cell_index-place-else-done-n.ensures.place c.write_cell-stage.ensures c.post.ensures in
    posted.after ∙ ap (λ (z : Board g.row.R.Denot). after_event z c.args.process c.args.wish) c.self.view_is

pub returns-else-done-n-clause-slot : goal.returns-else-done-n-clause-slot
returns-else-done-n-clause-slot g c =
    let l = line_read c.args.process c.self.invariant c.deref.ensures.value c.done_at-done.ensures.at
    c.index_mut-else-done-n.ensures.value in
    let before = line_read c.args.process c.self.invariant c.deref.ensures.value c.done_at-done.ensures.at c.index.ensures in
    let posted = posts c.args.process c.args.wish c.self.invariant (c.len-n.ensures ∙ c.self.inside.lines.ok.0) l before c.if-done-n.false
    c.other-else-done-n.ensures c.cell_index-place-else-done-n.ensures.place c.write_cell-stage.ensures c.post.ensures in
    posted.slot ∙ ap (λ (z : Board g.row.R.Denot). slot_of z c.args.process) c.self.view_is

pub returns-else-done-n-clause-size : goal.returns-else-done-n-clause-size
returns-else-done-n-clause-size g c = length-set c.self.inside.lines.items c.args.process c.post.new.line
    ∙ ap (λ (z : Board g.row.R.Denot). length z.lines) c.self.view_is
