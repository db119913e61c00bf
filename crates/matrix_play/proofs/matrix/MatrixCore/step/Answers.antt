-- A column read is the first kind of access and a row write the second; the fields that the code changes are those of the event.
use Rattle.matrix_core.proofs.lists.Elements.{same as same_numbers, not_same}
use Rattle.std.proofs.Common.{Bool, true, false, rules, refl, arith, sym, ◌∙◌, ap, subst, ◌<◌, ◌≤◌, ◌+◌, ◌*◌, ◌-◌, ℕ, length, ◌≡◌}
use Rattle.std.specs.Prelude.{slice_get, Some, slice_set, nat_eq, if◌then◌else◌}
use Rattle.std.proofs.lemmas.List.{length-set}
use Rattle.std.proofs.lemmas.Option.{same_Some, slice_get_read, slice_get_within}
use Rattle.matrix_play.specs.declared.matrix.MatrixStage.{MatrixStage}
use Rattle.matrix_play.specs.declared.matrix.MatrixStage.TheVariants.{Done, Put, Got}
use Rattle.matrix_core.specs.declared.progress.Progress.{Progress}
use Rattle.matrix_play.specs.MatrixEvents.{Matrix, cell_of, after_access, stage_of}
use Rattle.matrix_core.specs.Lines.{cell_place, other, after_write}
use Rattle.matrix_core.proofs.lines.Others.{other_inside}
use Rattle.matrix_play.proofs.matrices.Shape.{keeps_line, keeps_cell, read_is, write_is, got_is, put_is}
use Rattle.matrix_core.proofs.lines.Accesses.{read_done, write_done}
use Rattle.matrix_play.proofs.matrix.MatrixCore.step.Goals as goal
use Rattle.matrix_play.proofs.matrix.MatrixCore.step.Goals.{then-done-n-2, else-done-n-2}

pub done_at-done-requires-clause-inside : goal.done_at-done-requires-clause-inside
done_at-done-requires-clause-inside g c = rw c.deref.ensures.value c.self.invariant.inside

pub read_line-requires : goal.read_line-requires
read_line-requires g c =
    let n : c.len-n.result ≡ length c.self.inside.lines.items = search rules in
    let m : Matrix g.row.R.Denot = record {
      limit = c.self.inside.limit;
      cells = c.self.inside.cells.items;
      lines = c.self.inside.lines.items;
    } in
    let was = c.done_at-done.ensures.at in
    let at_was : slice_get m.lines c.args.process ≡ Some was.0 = rw c.deref.ensures.value at was.1 in
    let lt : c.args.process < length m.lines = slice_get_within m.lines c.args.process was.0 at_was in
    let line : Progress g.row.R.Denot = c.index_mut.result.now in
    let at : slice_get m.lines c.args.process ≡ Some line =
    slice_get_read m.lines _ c.args.process line refl lt c.index_mut.ensures.value in
    let same : was.0 ≡ line = same_Some was.0 line (sym at_was ∙ at) in
    let done : c.done_at-done.result ≡ line.done = was.2 ∙ ap (λ (l : Progress g.row.R.Denot). l.done) same in
    subst (λ d. d + 1 < c.len-n.result) done c.if-done-n.true

pub invariant_of-self : goal.invariant_of-self
invariant_of-self g c =
    let n : c.len-n.result ≡ length c.self.inside.lines.items = search rules in
    let m : Matrix g.row.R.Denot = record {
      limit = c.self.inside.limit;
      cells = c.self.inside.cells.items;
      lines = c.self.inside.lines.items;
    } in
    let was = c.done_at-done.ensures.at in
    let at_was : slice_get m.lines c.args.process ≡ Some was.0 = rw c.deref.ensures.value at was.1 in
    let lt : c.args.process < length m.lines = slice_get_within m.lines c.args.process was.0 at_was in
    let line : Progress g.row.R.Denot = c.index_mut.result.now in
    let at : slice_get m.lines c.args.process ≡ Some line =
    slice_get_read m.lines _ c.args.process line refl lt c.index_mut.ensures.value in
    let same : was.0 ≡ line = same_Some was.0 line (sym at_was ∙ at) in
    let done : c.done_at-done.result ≡ line.done = was.2 ∙ ap (λ (l : Progress g.row.R.Denot). l.done) same in
    let t : line.done + 1 < length m.lines = subst (λ d. d + 1 < length m.lines) done (rw n at c.if-done-n.true) in
    let is = rw n at c.read_line.ensures in
    let e : c.read_line.new.line.done ≡ line.done + 1 = ap (λ (z : Progress g.row.R.Denot). z.done) is
    ∙ read_done (length m.lines) m.limit c.args.process c.args.wish line c.cell_at-answer.result.now in
    keeps_line m c.args.process c.read_line.new.line c.self.invariant (let a = c.self.invariant.at_least in omega arith)

pub returns-then-done-n-clause-matrix : goal.returns-then-done-n-clause-matrix
returns-then-done-n-clause-matrix g c =
    let n : c.len-n.result ≡ length c.self.inside.lines.items = search rules in
    let m : Matrix g.row.R.Denot = record {
      limit = c.self.inside.limit;
      cells = c.self.inside.cells.items;
      lines = c.self.inside.lines.items;
    } in
    let was = c.done_at-done.ensures.at in
    let at_was : slice_get m.lines c.args.process ≡ Some was.0 = rw c.deref.ensures.value at was.1 in
    let lt : c.args.process < length m.lines = slice_get_within m.lines c.args.process was.0 at_was in
    let line : Progress g.row.R.Denot = c.index_mut.result.now in
    let at : slice_get m.lines c.args.process ≡ Some line =
    slice_get_read m.lines _ c.args.process line refl lt c.index_mut.ensures.value in
    let same : was.0 ≡ line = same_Some was.0 line (sym at_was ∙ at) in
    let done : c.done_at-done.result ≡ line.done = was.2 ∙ ap (λ (l : Progress g.row.R.Denot). l.done) same in
    let t : line.done + 1 < length m.lines = subst (λ d. d + 1 < length m.lines) done (rw n at c.if-done-n.true) in
    let is = rw n at c.read_line.ensures in
    let answer : cell_of m (other c.args.process line.done) c.args.process ≡ Some c.cell_at-answer.result.now
    = subst (λ d. cell_of m (other c.args.process d) c.args.process ≡ Some c.cell_at-answer.result.now) done (rw (
      c.deref-then-done-n.ensures.value,
      c.cell_index.ensures.place,
      c.other-from.ensures,
      n,
    ) at c.cell_at-answer.ensures) in
    ap (λ z. let r : Matrix g.row.R.Denot = record m { lines = slice_set m.lines c.args.process z } in r) is
    ∙ (sym (read_is m c.args.process c.args.wish line c.cell_at-answer.result.now at t answer)
    ∙ ap (λ (z : Matrix g.row.R.Denot). after_access z c.args.process c.args.wish) c.self.view_is)

pub returns-then-done-n-clause-stage : goal.returns-then-done-n-clause-stage
returns-then-done-n-clause-stage g c =
    let n : c.len-n.result ≡ length c.self.inside.lines.items = search rules in
    let m : Matrix g.row.R.Denot = record {
      limit = c.self.inside.limit;
      cells = c.self.inside.cells.items;
      lines = c.self.inside.lines.items;
    } in
    let was = c.done_at-done.ensures.at in
    let at_was : slice_get m.lines c.args.process ≡ Some was.0 = rw c.deref.ensures.value at was.1 in
    let lt : c.args.process < length m.lines = slice_get_within m.lines c.args.process was.0 at_was in
    let line : Progress g.row.R.Denot = c.index_mut.result.now in
    let at : slice_get m.lines c.args.process ≡ Some line =
    slice_get_read m.lines _ c.args.process line refl lt c.index_mut.ensures.value in
    let same : was.0 ≡ line = same_Some was.0 line (sym at_was ∙ at) in
    let done : c.done_at-done.result ≡ line.done = was.2 ∙ ap (λ (l : Progress g.row.R.Denot). l.done) same in
    let t : line.done + 1 < length m.lines = subst (λ d. d + 1 < length m.lines) done (rw n at c.if-done-n.true) in
    let is = rw n at c.read_line.ensures in
    ap (λ k. let r : MatrixStage g.row.R.Denot = Got k in r) (c.other-from.ensures ∙ ap (other c.args.process) done)
    ∙ (sym (got_is m c.args.process line at t)
    ∙ ap (λ (z : Matrix g.row.R.Denot). stage_of z c.args.process) c.self.view_is)

pub write_line-requires-clause-inside : goal.write_line-requires-clause-inside
write_line-requires-clause-inside g c =
    let n : c.len-n.result ≡ length c.self.inside.lines.items = search rules in
    let m : Matrix g.row.R.Denot = record {
      limit = c.self.inside.limit;
      cells = c.self.inside.cells.items;
      lines = c.self.inside.lines.items;
    } in
    let was = c.done_at-done.ensures.at in
    let at_was : slice_get m.lines c.args.process ≡ Some was.0 = rw c.deref.ensures.value at was.1 in
    let lt : c.args.process < length m.lines = slice_get_within m.lines c.args.process was.0 at_was in
    let line : Progress g.row.R.Denot = c.index_mut-2.result.now in
    let at : slice_get m.lines c.args.process ≡ Some line =
    slice_get_read m.lines _ c.args.process line refl lt c.index_mut-2.ensures.value in
    let same : was.0 ≡ line = same_Some was.0 line (sym at_was ∙ at) in
    let done : c.done_at-done.result ≡ line.done = was.2 ∙ ap (λ (l : Progress g.row.R.Denot). l.done) same in
    rw n (c.self.invariant.inside c.args.process line at)

pub invariant_of-self-2 : goal.invariant_of-self-2
invariant_of-self-2 g c =
    let n : c.len-n.result ≡ length c.self.inside.lines.items = search rules in
    let m : Matrix g.row.R.Denot = record {
      limit = c.self.inside.limit;
      cells = c.self.inside.cells.items;
      lines = c.self.inside.lines.items;
    } in
    let was = c.done_at-done.ensures.at in
    let at_was : slice_get m.lines c.args.process ≡ Some was.0 = rw c.deref.ensures.value at was.1 in
    let lt : c.args.process < length m.lines = slice_get_within m.lines c.args.process was.0 at_was in
    let line : Progress g.row.R.Denot = c.index_mut-2.result.now in
    let at : slice_get m.lines c.args.process ≡ Some line =
    slice_get_read m.lines _ c.args.process line refl lt c.index_mut-2.ensures.value in
    let same : was.0 ≡ line = same_Some was.0 line (sym at_was ∙ at) in
    let done : c.done_at-done.result ≡ line.done = was.2 ∙ ap (λ (l : Progress g.row.R.Denot). l.done) same in
    let t : length m.lines ≤ line.done + 1 = subst (λ d. length m.lines ≤ d + 1) done (rw n at c.if-done-n.false) in
    let is = rw n at c.write_line.ensures in
    let at_own : slice_get m.lines c.args.process ≡ Some c.index.result.now =
    slice_get_read m.lines _ c.args.process c.index.result.now refl lt c.index.ensures in
    let own : c.index.result.now.own ≡ line.own =
    ap (λ (l : Progress g.row.R.Denot). l.own) (same_Some c.index.result.now line (sym at_own ∙ at)) in
    let inside : line.done + 3 ≤ 2 * length m.lines = c.self.invariant.inside c.args.process line at in
    let d : (after_write (length m.lines) line).done + 3 ≤ 2 * length m.lines =
    write_done (length m.lines) line inside c.self.invariant.at_least in
    let e : c.write_line.new.line.done ≡ (after_write (length m.lines) line).done = ap (λ (z : Progress g.row.R.Denot). z.done) is in
    let m' : Matrix g.row.R.Denot = record m { cells = slice_set m.cells c.cell_index-2.result c.index.result.now.own } in
    rw c.put_cell.ensures (keeps_line m' c.args.process c.write_line.new.line
    (keeps_cell m c.cell_index-2.result c.index.result.now.own c.self.invariant) (rw e d))

pub returns-clause-matrix : goal.returns-clause-matrix
returns-clause-matrix g c =
    let n : c.len-n.result ≡ length c.self.inside.lines.items = search rules in
    let m : Matrix g.row.R.Denot = record {
      limit = c.self.inside.limit;
      cells = c.self.inside.cells.items;
      lines = c.self.inside.lines.items;
    } in
    let was = c.done_at-done.ensures.at in
    let at_was : slice_get m.lines c.args.process ≡ Some was.0 = rw c.deref.ensures.value at was.1 in
    let lt : c.args.process < length m.lines = slice_get_within m.lines c.args.process was.0 at_was in
    let line : Progress g.row.R.Denot = c.index_mut-2.result.now in
    let at : slice_get m.lines c.args.process ≡ Some line =
    slice_get_read m.lines _ c.args.process line refl lt c.index_mut-2.ensures.value in
    let same : was.0 ≡ line = same_Some was.0 line (sym at_was ∙ at) in
    let done : c.done_at-done.result ≡ line.done = was.2 ∙ ap (λ (l : Progress g.row.R.Denot). l.done) same in
    let t : length m.lines ≤ line.done + 1 = subst (λ d. length m.lines ≤ d + 1) done (rw n at c.if-done-n.false) in
    let is = rw n at c.write_line.ensures in
    let at_own : slice_get m.lines c.args.process ≡ Some c.index.result.now =
    slice_get_read m.lines _ c.args.process c.index.result.now refl lt c.index.ensures in
    let own : c.index.result.now.own ≡ line.own =
    ap (λ (l : Progress g.row.R.Denot). l.own) (same_Some c.index.result.now line (sym at_own ∙ at)) in
    let to : c.other-to.result ≡ other c.args.process (line.done + 1 - length m.lines) =
    (rw n at c.other-to.ensures) ∙ ap (λ d. other c.args.process (d + 1 - length m.lines)) done in
    let index : c.cell_index-2.result ≡ cell_place (length m.lines) c.args.process (other c.args.process (line.done + 1 - length m.lines)) =
    (rw n at c.cell_index-2.ensures.place) ∙ ap (cell_place (length m.lines) c.args.process) to in
    let cells : c.put_cell.new.cells.items
    ≡ slice_set m.cells (cell_place (length m.lines) c.args.process (other c.args.process (line.done + 1 - length m.lines))) line.own
    = c.put_cell.ensures ∙ (ap (λ i. slice_set m.cells i c.index.result.now.own) index ∙ ap (slice_set m.cells
    (cell_place (length m.lines) c.args.process (other c.args.process (line.done + 1 - length m.lines)))) own) in
    rw cells (ap (λ z.
    let r : Matrix g.row.R.Denot = record m {
      cells = slice_set m.cells
          (cell_place (length m.lines) c.args.process (other c.args.process (line.done + 1 - length m.lines))) line.own;
      lines = slice_set m.lines c.args.process z;
    } in
    r) is
    ∙ (sym (write_is m c.args.process c.args.wish line at t)
    ∙ ap (λ (z : Matrix g.row.R.Denot). after_access z c.args.process c.args.wish) c.self.view_is))

pub returns-clause-stage : goal.returns-clause-stage
returns-clause-stage g c =
    let n : c.len-n.result ≡ length c.self.inside.lines.items = search rules in
    let m : Matrix g.row.R.Denot = record {
      limit = c.self.inside.limit;
      cells = c.self.inside.cells.items;
      lines = c.self.inside.lines.items;
    } in
    let was = c.done_at-done.ensures.at in
    let at_was : slice_get m.lines c.args.process ≡ Some was.0 = rw c.deref.ensures.value at was.1 in
    let lt : c.args.process < length m.lines = slice_get_within m.lines c.args.process was.0 at_was in
    let line : Progress g.row.R.Denot = c.index_mut-2.result.now in
    let at : slice_get m.lines c.args.process ≡ Some line =
    slice_get_read m.lines _ c.args.process line refl lt c.index_mut-2.ensures.value in
    let same : was.0 ≡ line = same_Some was.0 line (sym at_was ∙ at) in
    let done : c.done_at-done.result ≡ line.done = was.2 ∙ ap (λ (l : Progress g.row.R.Denot). l.done) same in
    let t : length m.lines ≤ line.done + 1 = subst (λ d. length m.lines ≤ d + 1) done (rw n at c.if-done-n.false) in
    let is = rw n at c.write_line.ensures in
    let three : (c.done_at-done.result + 3) ≡ (line.done + 3) = ap (λ d. d + 3) done in
    let to : c.other-to.result ≡ other c.args.process (line.done + 1 - length m.lines) =
    (rw n at c.other-to.ensures) ∙ ap (λ d. other c.args.process (d + 1 - length m.lines)) done in
    let s : c.if-done-n-2.stage ≡ (if nat_eq (line.done + 3) (2 * length m.lines) then Done line.outcome else Put
    (other c.args.process (line.done + 1 - length m.lines)))
    = elim c.if-done-n-2.branch [
      | then-done-n-2 w ↦
          let same_now : w.index-then-done-n-2.result.now ≡ line = same_Some w.index-then-done-n-2.result.now line
          (sym (slice_get_read m.lines _ c.args.process w.index-then-done-n-2.result.now refl lt w.index-then-done-n-2.ensures) ∙ at) in
          let b : nat_eq (line.done + 3) (2 * length m.lines) ≡ true =
          same_numbers _ _ (sym three ∙ (w.if-done-n-2.true ∙ ap (λ k. 2 * k) n)) in
          w.stage-is ∙ (ap (λ (l : Progress g.row.R.Denot).
          let r : MatrixStage g.row.R.Denot = Done l.outcome in
          r) same_now ∙ ap (λ (z : Bool). if z then (let r : MatrixStage g.row.R.Denot = Done line.outcome in
          r) else Put (other c.args.process (line.done + 1 - length m.lines))) (sym b))
      | else-done-n-2 w ↦
          let b : nat_eq (line.done + 3) (2 * length m.lines) ≡ false =
          not_same _ _ (λ e. w.if-done-n-2.false (three ∙ (e ∙ ap (λ k. 2 * k) (sym n)))) in
          w.stage-is ∙ (ap (λ k.
          let r : MatrixStage g.row.R.Denot = Put k in
          r) to ∙ ap (λ (z : Bool). if z then (let r : MatrixStage g.row.R.Denot = Done line.outcome in
          r) else Put (other c.args.process (line.done + 1 - length m.lines))) (sym b))
    ] in
    s ∙ (sym (put_is m c.args.process line at t) ∙ ap (λ (z : Matrix g.row.R.Denot). stage_of z c.args.process) c.self.view_is)

pub returns-then-done-n-clause-size : goal.returns-then-done-n-clause-size
returns-then-done-n-clause-size g c = length-set c.self.inside.lines.items c.args.process c.read_line.new.line
    ∙ ap (λ (z : Matrix g.row.R.Denot). length z.lines) c.self.view_is

pub returns-clause-size : goal.returns-clause-size
returns-clause-size g c = length-set c.self.inside.lines.items c.args.process c.write_line.new.line
    ∙ ap (λ (z : Matrix g.row.R.Denot). length z.lines) c.self.view_is

pub done_at-done-requires-clause-process : goal.done_at-done-requires-clause-process
done_at-done-requires-clause-process g c =
    let lt : c.args.process < length c.self.inside.lines.items =
    subst (λ (z : Matrix g.row.R.Denot). c.args.process < length z.lines) (sym c.self.view_is) c.requires in
    rw c.deref.ensures.value lt

pub done_at-done-requires-clause-small : goal.done_at-done-requires-clause-small
done_at-done-requires-clause-small g c =
    rw c.deref.ensures.value c.self.invariant.at_most

pub overflow_add-done : goal.overflow_add-done
overflow_add-done g c =
    let n : c.len-n.result ≡ length c.self.inside.lines.items = search rules in
    let u : length c.self.inside.lines.items ≤ 16 = c.self.invariant.at_most in
    let two : 2 ≤ length c.self.inside.lines.items = c.self.invariant.at_least in
    let lines : length c.deref.result.now ≡ length c.self.inside.lines.items = ap length c.deref.ensures.value in
    let i : c.done_at-done.result + 3 ≤ 2 * length c.deref.result.now = c.done_at-done.ensures.inside in
    omega arith

pub other-from-requires : goal.other-from-requires
other-from-requires g c =
    let n : c.len-n.result ≡ length c.self.inside.lines.items = search rules in
    let u : length c.self.inside.lines.items ≤ 16 = c.self.invariant.at_most in
    let two : 2 ≤ length c.self.inside.lines.items = c.self.invariant.at_least in
    let lines : length c.deref.result.now ≡ length c.self.inside.lines.items = ap length c.deref.ensures.value in
    let i : c.done_at-done.result + 3 ≤ 2 * length c.deref.result.now = c.done_at-done.ensures.inside in
    let r : c.done_at-done.result + 1 < c.len-n.result = c.if-done-n.true in
    omega arith

pub cell_index-requires-clause-small : goal.cell_index-requires-clause-small
cell_index-requires-clause-small g c =
    let n : c.len-n.result ≡ length c.self.inside.lines.items = search rules in
    let u : length c.self.inside.lines.items ≤ 16 = c.self.invariant.at_most in
    let two : 2 ≤ length c.self.inside.lines.items = c.self.invariant.at_least in
    let lines : length c.deref.result.now ≡ length c.self.inside.lines.items = ap length c.deref.ensures.value in
    let i : c.done_at-done.result + 3 ≤ 2 * length c.deref.result.now = c.done_at-done.ensures.inside in
    omega arith

pub cell_index-requires-clause-writer : goal.cell_index-requires-clause-writer
cell_index-requires-clause-writer g c =
    let n : c.len-n.result ≡ length c.self.inside.lines.items = search rules in
    let u : length c.self.inside.lines.items ≤ 16 = c.self.invariant.at_most in
    let two : 2 ≤ length c.self.inside.lines.items = c.self.invariant.at_least in
    let lines : length c.deref.result.now ≡ length c.self.inside.lines.items = ap length c.deref.ensures.value in
    let i : c.done_at-done.result + 3 ≤ 2 * length c.deref.result.now = c.done_at-done.ensures.inside in
    let lt : c.args.process < length c.self.inside.lines.items =
    subst (λ (z : Matrix g.row.R.Denot). c.args.process < length z.lines) (sym c.self.view_is) c.requires in
    let l : other c.args.process c.done_at-done.result < c.len-n.result =
    other_inside c.len-n.result c.args.process c.done_at-done.result (omega arith) c.if-done-n.true in
    let e : c.other-from.result ≡ other c.args.process c.done_at-done.result = c.other-from.ensures in
    omega arith

pub cell_index-requires-clause-reader : goal.cell_index-requires-clause-reader
cell_index-requires-clause-reader g c =
    let n : c.len-n.result ≡ length c.self.inside.lines.items = search rules in
    let u : length c.self.inside.lines.items ≤ 16 = c.self.invariant.at_most in
    let two : 2 ≤ length c.self.inside.lines.items = c.self.invariant.at_least in
    let lines : length c.deref.result.now ≡ length c.self.inside.lines.items = ap length c.deref.ensures.value in
    let i : c.done_at-done.result + 3 ≤ 2 * length c.deref.result.now = c.done_at-done.ensures.inside in
    let lt : c.args.process < length c.self.inside.lines.items =
    subst (λ (z : Matrix g.row.R.Denot). c.args.process < length z.lines) (sym c.self.view_is) c.requires in
    omega arith

pub overflow_add-done-2 : goal.overflow_add-done-2
overflow_add-done-2 g c =
    let n : c.len-n.result ≡ length c.self.inside.lines.items = search rules in
    let u : length c.self.inside.lines.items ≤ 16 = c.self.invariant.at_most in
    let two : 2 ≤ length c.self.inside.lines.items = c.self.invariant.at_least in
    let lines : length c.deref.result.now ≡ length c.self.inside.lines.items = ap length c.deref.ensures.value in
    let i : c.done_at-done.result + 3 ≤ 2 * length c.deref.result.now = c.done_at-done.ensures.inside in
    omega arith

pub overflow_sub-done : goal.overflow_sub-done
overflow_sub-done g c =
    c.if-done-n.false

pub other-to-requires : goal.other-to-requires
other-to-requires g c =
    let n : c.len-n.result ≡ length c.self.inside.lines.items = search rules in
    let u : length c.self.inside.lines.items ≤ 16 = c.self.invariant.at_most in
    let two : 2 ≤ length c.self.inside.lines.items = c.self.invariant.at_least in
    let lines : length c.deref.result.now ≡ length c.self.inside.lines.items = ap length c.deref.ensures.value in
    let i : c.done_at-done.result + 3 ≤ 2 * length c.deref.result.now = c.done_at-done.ensures.inside in
    let w : c.len-n.result ≤ c.done_at-done.result + 1 = c.if-done-n.false in
    omega arith

pub cell_index-requires-2-clause-small : goal.cell_index-requires-2-clause-small
cell_index-requires-2-clause-small g c =
    let n : c.len-n.result ≡ length c.self.inside.lines.items = search rules in
    let u : length c.self.inside.lines.items ≤ 16 = c.self.invariant.at_most in
    let two : 2 ≤ length c.self.inside.lines.items = c.self.invariant.at_least in
    let lines : length c.deref.result.now ≡ length c.self.inside.lines.items = ap length c.deref.ensures.value in
    let i : c.done_at-done.result + 3 ≤ 2 * length c.deref.result.now = c.done_at-done.ensures.inside in
    omega arith

pub cell_index-requires-2-clause-writer : goal.cell_index-requires-2-clause-writer
cell_index-requires-2-clause-writer g c =
    let n : c.len-n.result ≡ length c.self.inside.lines.items = search rules in
    let u : length c.self.inside.lines.items ≤ 16 = c.self.invariant.at_most in
    let two : 2 ≤ length c.self.inside.lines.items = c.self.invariant.at_least in
    let lines : length c.deref.result.now ≡ length c.self.inside.lines.items = ap length c.deref.ensures.value in
    let i : c.done_at-done.result + 3 ≤ 2 * length c.deref.result.now = c.done_at-done.ensures.inside in
    let lt : c.args.process < length c.self.inside.lines.items =
    subst (λ (z : Matrix g.row.R.Denot). c.args.process < length z.lines) (sym c.self.view_is) c.requires in
    omega arith

pub cell_index-requires-2-clause-reader : goal.cell_index-requires-2-clause-reader
cell_index-requires-2-clause-reader g c =
    let n : c.len-n.result ≡ length c.self.inside.lines.items = search rules in
    let u : length c.self.inside.lines.items ≤ 16 = c.self.invariant.at_most in
    let two : 2 ≤ length c.self.inside.lines.items = c.self.invariant.at_least in
    let lines : length c.deref.result.now ≡ length c.self.inside.lines.items = ap length c.deref.ensures.value in
    let i : c.done_at-done.result + 3 ≤ 2 * length c.deref.result.now = c.done_at-done.ensures.inside in
    let lt : c.args.process < length c.self.inside.lines.items =
    subst (λ (z : Matrix g.row.R.Denot). c.args.process < length z.lines) (sym c.self.view_is) c.requires in
    let w : c.len-n.result ≤ c.done_at-done.result + 1 = c.if-done-n.false in
    let k : ℕ = c.done_at-done.result + 1 - c.len-n.result in
    let l : other c.args.process k < c.len-n.result = other_inside c.len-n.result c.args.process k (omega arith) (omega arith) in
    let e : c.other-to.result ≡ other c.args.process k = c.other-to.ensures in
    omega arith

pub overflow_add-done-3 : goal.overflow_add-done-3
overflow_add-done-3 g c =
    let n : c.len-n.result ≡ length c.self.inside.lines.items = search rules in
    let u : length c.self.inside.lines.items ≤ 16 = c.self.invariant.at_most in
    let two : 2 ≤ length c.self.inside.lines.items = c.self.invariant.at_least in
    let lines : length c.deref.result.now ≡ length c.self.inside.lines.items = ap length c.deref.ensures.value in
    let i : c.done_at-done.result + 3 ≤ 2 * length c.deref.result.now = c.done_at-done.ensures.inside in
    omega arith

pub overflow_mul-n : goal.overflow_mul-n
overflow_mul-n g c =
    let n : c.len-n.result ≡ length c.self.inside.lines.items = search rules in
    let u : length c.self.inside.lines.items ≤ 16 = c.self.invariant.at_most in
    let two : 2 ≤ length c.self.inside.lines.items = c.self.invariant.at_least in
    let lines : length c.deref.result.now ≡ length c.self.inside.lines.items = ap length c.deref.ensures.value in
    let i : c.done_at-done.result + 3 ≤ 2 * length c.deref.result.now = c.done_at-done.ensures.inside in
    omega arith

pub write_line-requires-clause-small : goal.write_line-requires-clause-small
write_line-requires-clause-small g c =
    let n : c.len-n.result ≡ length c.self.inside.lines.items = search rules in
    let u : length c.self.inside.lines.items ≤ 16 = c.self.invariant.at_most in
    let two : 2 ≤ length c.self.inside.lines.items = c.self.invariant.at_least in
    let lines : length c.deref.result.now ≡ length c.self.inside.lines.items = ap length c.deref.ensures.value in
    let i : c.done_at-done.result + 3 ≤ 2 * length c.deref.result.now = c.done_at-done.ensures.inside in
    omega arith
