-- One step of a board by its calls: which line is its process's, which numbers stay small, and what is left when the cell that stands next
-- for the process has made its event and the process has counted it.
use Rattle.std.proofs.Common.{◌≡◌, ℕ, ◌+◌, ◌-◌, ◌*◌, ◌<◌, ◌≤◌, List, Option, length, get_or, refl, sym, ap, subst, ◌∙◌, arith}
use Rattle.std.specs.Prelude.{slice_get, slice_set, Some}
use Rattle.std.proofs.lemmas.List.{length-set}
use Rattle.std.proofs.lemmas.Option.{same_Some, slice_get_read, slice_get_within}
use Rattle.history_core.specs.declared.wish.Wish.{Wish}
use Rattle.four_slot_core.specs.declared.state.State.{State}
use Rattle.four_slot_core.specs.declared.state.Stage.{Stage}
use Rattle.four_slot_core.specs.declared.state.ReadStage.{ReadStage}
use Rattle.four_slot_core.specs.Events.{after_read, after_write, next_read, next_write, IsReadEvent, IsWriteEvent}
use Rattle.matrix_core.specs.declared.stamp.Stamped.{Stamped}
use Rattle.matrix_core.specs.declared.progress.Progress.{Progress}
use Rattle.matrix_core.specs.Lines.{cell_place, other}
use Rattle.matrix_core.proofs.lines.Others.{other_inside}
use Rattle.composed_play.specs.BoardEvents.{after_event, Board, board_size, heard, IsBoard, posted, read_slot, slot_of, write_slot}
use Rattle.composed_play.proofs.boards.Steps.{hear_is, hear_slot, heard_done, keeps_board, post_is, post_slot, posted_done}

-- the process at the other end of the cell: another one of the n, in the column and below in the row
pub partner_in_column : {n o : ℕ} (i done : ℕ) → i < n → done + 1 < n → o ≡ other i done → o < n
partner_in_column {n} {o} i done inside turn to = let l : other i done < n = other_inside n i done inside turn in omega arith

module _ {R : Type 0} where
  -- the line of process i, and how many accesses of its operation are done
  pub record IsLine (b : Board R) (i done : ℕ) (line : Progress R) : Type 0 where
    pub at : slice_get b.lines i ≡ Some line
    pub far : done ≡ line.done

  -- a line that is read at the number of a process is the one of which the accesses were counted
  pub line_read : {b : Board R} {lines : List (Progress R)} {done : ℕ} {line : Progress R} (i : ℕ) → IsBoard b → lines ≡ b.lines →
      ((was : Progress R) × (slice_get lines i ≡ Some was) × (done ≡ was.done)) → line ≡ get_or b.lines i line → IsLine b i done line
  line_read {b} {line = line} i board all was read =
      let was_at : slice_get b.lines i ≡ Some was.0 = ap (λ xs. slice_get xs i) (sym all) ∙ was.1 in
      let at : slice_get b.lines i ≡ Some line = slice_get_read b.lines _ i line refl (slice_get_within b.lines i was.0 was_at) read in
      record { at = at; far = was.2 ∙ ap (λ (l : Progress R). l.done) (same_Some was.0 line (sym was_at ∙ at)) }

  -- a process of the board as its vectors stand
  pub is_process : {b z : Board R} {i : ℕ} → b ≡ z → i < board_size z → i < board_size b
  is_process {i = i} same inside = subst (λ (z : Board R). i < board_size z) (sym same) inside

  -- numbers that stay small: the processes, and the accesses that are done
  pub few : {b : Board R} {n : ℕ} → IsBoard b → n ≡ board_size b → n ≤ 16
  few board size = let most = board.at_most in omega arith

  pub far_within : {b : Board R} {lines : List (Progress R)} (done : ℕ) → IsBoard b → lines ≡ b.lines → done + 3 ≤ 2 * length lines →
      done + 3 ≤ 32
  far_within {b} {lines} done board all inside =
      let most : length b.lines ≤ 16 = board.at_most in let same : length lines ≡ length b.lines = ap (λ xs. length xs) all in omega arith

  pub partner_in_row : {b : Board R} {lines : List (Progress R)} {n o : ℕ} (i done : ℕ) → IsBoard b → n ≡ board_size b → lines ≡ b.lines →
      done + 3 ≤ 2 * length lines → i < n → n ≤ done + 1 → o ≡ other i (done + 1 - n) → o < n
  partner_in_row {b} {lines} {n} {o} i done board size all far inside turn to =
      let same : length lines ≡ length b.lines = ap (λ xs. length xs) all in
      let l : other i (done + 1 - n) < n = other_inside n i (done + 1 - n) inside (omega arith) in omega arith

  -- the cells are as many as the places
  pub place_in_cells : {b : Board R} {n count place : ℕ} → IsBoard b → n ≡ board_size b → count ≡ length b.cells → place < n * n →
      place < count
  place_in_cells {place = place} board size count inside =
      subst (λ k. place < k) (ap (λ k. k * k) size ∙ sym board.cells ∙ sym count) inside

  pub fits_column : {b : Board R} {i n done : ℕ} {line : Progress R} → IsLine b i done line → done + 1 < n → line.done + 1 < n
  fits_column {n = n} l turn = subst (λ d. d + 1 < n) l.far turn

  pub fits_row : {b : Board R} {i n done : ℕ} {line : Progress R} → IsBoard b → n ≡ board_size b → IsLine b i done line →
      line.done + 3 ≤ 2 * n
  fits_row {i = i} {line = line} board size l = let inside = board.inside i line l.at in omega arith

  -- what a step of process i has to leave: the cells and the line after its event, a board, and the slot that the event chose
  pub record IsStep (b : Board R) (i : ℕ) (wish : Wish R) (cells : List (State (Stamped R))) (line : Progress R) (chosen : Option ℕ)
      : Type 0 where
    pub after : record b { cells = cells; lines = slice_set b.lines i line } ≡ after_event b i wish
    pub shape : IsBoard (record b { cells = cells; lines = slice_set b.lines i line })
    pub slot : chosen ≡ slot_of b i

  -- a step in the column: the cell that process o writes makes an event of a read
  pub hears : {b : Board R} {n done o place : ℕ} {line next : Progress R} {cells : List (State (Stamped R))}
      {stage : ReadStage (Stamped R)} {chosen : Option ℕ} (i : ℕ) (wish : Wish R) → IsBoard b → n ≡ board_size b → IsLine b i done line →
      done + 1 < n → o ≡ other i done → place ≡ cell_place n o i
      → ((s t : State (Stamped R)) × (slice_get b.cells place ≡ Some s) × IsReadEvent s stage t × (cells ≡ slice_set b.cells place t)
      × (chosen ≡ read_slot stage t)) → next ≡ heard n b.limit i wish stage line → IsStep b i wish cells next chosen
  hears {b} {n} {done} {o} {place} {line} {next} {cells} {stage} i wish board size l turn to at event counts =
      let s : State (Stamped R) = event.0 in let t : State (Stamped R) = event.1 in
      let column : line.done + 1 < length b.lines = fits_column l (subst (λ k. done + 1 < k) size turn) in
      let P : ℕ = cell_place (length b.lines) (other i line.done) i in
      let place_is : place ≡ P =
      at ∙ ap (λ k. cell_place k o i) size ∙ ap (λ k. cell_place (length b.lines) k i) (to ∙ ap (other i) l.far) in
      let cell : slice_get b.cells P ≡ Some s = ap (slice_get b.cells) (sym place_is) ∙ event.2 in
      let cells_are : cells ≡ slice_set b.cells P (after_read s.reader s) =
      event.4 ∙ ap (λ k. slice_set b.cells k t) place_is ∙ ap (slice_set b.cells P) event.3.1 in
      let line_is : next ≡ heard (length b.lines) b.limit i wish (next_read s.reader s) line =
      counts ∙ ap (λ k. heard k b.limit i wish stage line) size ∙ ap (λ z. heard (length b.lines) b.limit i wish z line) event.3.0 in
      let further : next.done ≤ line.done + 1 = subst (λ (z : Progress R). z.done ≤ line.done + 1) (sym line_is)
      (heard_done (length b.lines) b.limit i wish (next_read s.reader s) line) in
      let two : 2 ≤ length b.lines = board.at_least in
      record {
        after = (λ j. record b { cells = cells_are j; lines = slice_set b.lines i (line_is j) })
            ∙ sym (hear_is b i wish line s l.at column cell);
        shape = keeps_board b i cells next board (ap (λ xs. length xs) event.4 ∙ length-set b.cells place t) (omega arith);
        slot = event.5 ∙ ap (λ z. read_slot z t) event.3.0 ∙ ap (read_slot (next_read s.reader s)) event.3.1
            ∙ sym (hear_slot b i line s l.at column cell);
      }

  -- a step in the row: the cell that process o reads makes an event of the write of the process's own record
  pub posts : {b : Board R} {n done o place : ℕ} {line next was : Progress R} {cells : List (State (Stamped R))} {stage : Stage}
      {chosen : Option ℕ} (i : ℕ) (wish : Wish R) → IsBoard b → n ≡ board_size b → IsLine b i done line → IsLine b i done was →
      n ≤ done + 1 → o ≡ other i (done + 1 - n) → place ≡ cell_place n i o
      → ((s t : State (Stamped R)) × (slice_get b.cells place ≡ Some s) × IsWriteEvent was.own s stage t
      × (cells ≡ slice_set b.cells place t) × (chosen ≡ write_slot stage t)) → next ≡ posted n stage line
      → IsStep b i wish cells next chosen
  posts {b} {n} {done} {o} {place} {line} {next} {was} {cells} {stage} i wish board size l before turn to at event counts =
      let s : State (Stamped R) = event.0 in let t : State (Stamped R) = event.1 in
      let own : was.own ≡ line.own = ap (λ (z : Progress R). z.own) (same_Some was line (sym before.at ∙ l.at)) in
      let row : length b.lines ≤ line.done + 1 = subst (λ d. length b.lines ≤ d + 1) l.far (subst (λ k. k ≤ done + 1) size turn) in
      let last : ℕ = other i (line.done + 1 - length b.lines) in
      let to_last : o ≡ last = to ∙ ap (λ k. other i (done + 1 - k)) size ∙ ap (λ d. other i (d + 1 - length b.lines)) l.far in
      let P : ℕ = cell_place (length b.lines) i last in
      let place_is : place ≡ P = at ∙ ap (λ k. cell_place k i o) size ∙ ap (cell_place (length b.lines) i) to_last in
      let cell : slice_get b.cells P ≡ Some s = ap (slice_get b.cells) (sym place_is) ∙ event.2 in
      let state_is : t ≡ after_write s.writer line.own s = event.3.1 ∙ ap (λ x. after_write s.writer x s) own in
      let cells_are : cells ≡ slice_set b.cells P (after_write s.writer line.own s) =
      event.4 ∙ ap (λ k. slice_set b.cells k t) place_is ∙ ap (slice_set b.cells P) state_is in
      let line_is : next ≡ posted (length b.lines) (next_write s.writer) line =
      counts ∙ ap (λ k. posted k stage line) size ∙ ap (λ z. posted (length b.lines) z line) event.3.0 in
      let inside : next.done + 3 ≤ 2 * length b.lines = subst (λ (z : Progress R). z.done + 3 ≤ 2 * length b.lines) (sym line_is)
      (posted_done (length b.lines) (next_write s.writer) line (board.inside i line l.at) board.at_least) in
      record {
        after = (λ j. record b { cells = cells_are j; lines = slice_set b.lines i (line_is j) })
            ∙ sym (post_is b i wish line s l.at row cell);
        shape = keeps_board b i cells next board (ap (λ xs. length xs) event.4 ∙ length-set b.cells place t) inside;
        slot = event.5 ∙ ap (λ z. write_slot z t) event.3.0 ∙ ap (write_slot (next_write s.writer)) state_is
            ∙ sym (post_slot b i line s l.at row cell);
      }
