-- A step of a composed board, as an equation for each of its two kinds; and that the board keeps its shape.
use Rattle.std.proofs.Common.{◌≡◌, ℕ, ◌+◌, ◌-◌, ◌*◌, ◌<◌, ◌≤◌, List, length, replicate, set, true, false, refl, sym, ap, arith}
use Rattle.std.proofs.Common.{⊎_elim, ◌∙◌, inl, inr}
use Rattle.std.specs.Prelude.{slice_get, Some, nat_lt, nat_eq}
use Rattle.std.proofs.lemmas.Bool.Decides.{nat_tests}
use Rattle.std.proofs.lemmas.List.{length-replicate, length-set}
use Rattle.history_core.specs.declared.wish.Wish.{Wish}
use Rattle.history_core.specs.declared.wish.Wish.TheVariants.{Write, Read}
use Rattle.four_slot_core.specs.declared.state.State.{State}
use Rattle.four_slot_core.specs.declared.state.Stage.{Stage}
use Rattle.four_slot_core.specs.declared.state.Stage.TheVariants.{W1, W2, W3, W4, W5}
use Rattle.four_slot_core.specs.declared.state.ReadStage.{ReadStage}
use Rattle.four_slot_core.specs.declared.state.ReadStage.TheVariants.{R1, R2, R3, R4, R5}
use Rattle.four_slot_core.specs.Events.{after_read as after_read_event, after_write as after_write_event, next_read, next_write}
use Rattle.matrix_core.specs.declared.stamp.Stamped.{Stamped}
use Rattle.matrix_core.specs.declared.progress.Progress.{Progress}
use Rattle.matrix_core.specs.Lines.{begun, opening_line, cell_place, choice, chosen, gathered, other}
use Rattle.composed_play.specs.BoardEvents.{after_event, Board, board_size, heard, IsBoard, opening_board, posted, read_slot, slot_of}
use Rattle.composed_play.specs.BoardEvents.{write_slot}
use Rattle.matrix_core.proofs.lists.Elements.{get_replicate, get_set}
use Rattle.matrix_core.proofs.lines.Accesses.{if_done, write_done}

less : (a b : ℕ) → a < b → nat_lt a b ≡ true
less a b h = grind (arith, nat_tests)

not_less : (a b : ℕ) → b ≤ a → nat_lt a b ≡ false
not_less a b h = grind (arith, nat_tests)

module _ {R : Type 0} where
  pub hear_is : (b : Board R) (i : ℕ) (wish : Wish R) (line : Progress R) (s : State (Stamped R)) → slice_get b.lines i ≡ Some line →
      line.done + 1 < board_size b → slice_get b.cells (cell_place (board_size b) (other i line.done) i) ≡ Some s
      → after_event b i wish ≡ record b {
        cells = set b.cells (cell_place (board_size b) (other i line.done) i) (after_read_event s.reader s);
        lines = set b.lines i (heard (board_size b) b.limit i wish (next_read s.reader s) line);
      }
  hear_is b i wish line s at d c = let t : nat_lt (line.done + 1) (board_size b) ≡ true = less _ _ d in rw (at, t, c) refl

  pub post_is : (b : Board R) (i : ℕ) (wish : Wish R) (line : Progress R) (s : State (Stamped R)) → slice_get b.lines i ≡ Some line →
      board_size b ≤ line.done + 1 → slice_get b.cells (cell_place (board_size b) i (other i (line.done + 1 - board_size b))) ≡ Some s
      → after_event b i wish ≡ record b {
        cells =
            set b.cells (cell_place (board_size b) i (other i (line.done + 1 - board_size b))) (after_write_event s.writer line.own s);
        lines = set b.lines i (posted (board_size b) (next_write s.writer) line);
      }
  post_is b i wish line s at d c = let t : nat_lt (line.done + 1) (board_size b) ≡ false = not_less _ _ d in rw (at, t, c) refl

  -- the slot that it chooses
  pub hear_slot : (b : Board R) (i : ℕ) (line : Progress R) (s : State (Stamped R)) → slice_get b.lines i ≡ Some line →
      line.done + 1 < board_size b → slice_get b.cells (cell_place (board_size b) (other i line.done) i) ≡ Some s
      → slot_of b i ≡ read_slot (next_read s.reader s) (after_read_event s.reader s)
  hear_slot b i line s at d c = let t : nat_lt (line.done + 1) (board_size b) ≡ true = less _ _ d in rw (at, t, c) refl

  pub post_slot : (b : Board R) (i : ℕ) (line : Progress R) (s : State (Stamped R)) → slice_get b.lines i ≡ Some line →
      board_size b ≤ line.done + 1 → slice_get b.cells (cell_place (board_size b) i (other i (line.done + 1 - board_size b))) ≡ Some s
      → slot_of b i ≡ write_slot (next_write s.writer) (after_write_event s.writer line.own s)
  post_slot b i line s at d c = let t : nat_lt (line.done + 1) (board_size b) ≡ false = not_less _ _ d in rw (at, t, c) refl

  pub choice_same : (limit i : ℕ) (wish : Wish R) (line : Progress R) → (choice limit i wish line).done ≡ line.done
  choice_same limit i Read line = refl
  choice_same limit i (Write v) line = if_done (nat_lt line.seen.stamp.tag limit) _ _ refl refl

  pub heard_done : (n limit i : ℕ) (wish : Wish R) (stage : ReadStage (Stamped R)) (line : Progress R) →
      (heard n limit i wish stage line).done ≤ line.done + 1
  heard_done n limit i wish R1 line = let e : (begun wish line).done ≡ line.done = if_done (nat_eq line.done 0) _ _ refl refl in omega arith
  heard_done n limit i wish R2 line = omega arith
  heard_done n limit i wish R3 line = omega arith
  heard_done n limit i wish R4 line = omega arith
  heard_done n limit i wish (R5 answer) line =
      let g : Progress R = gathered answer line in
      let e : (heard n limit i wish (R5 answer) line).done ≡ line.done + 1 =
      if_done (nat_eq (line.done + 2) n) (chosen limit i g) g (choice_same limit i g.wish g) refl in
      omega arith

  pub posted_done : (n : ℕ) (stage : Stage) (line : Progress R) → line.done + 3 ≤ 2 * n → 2 ≤ n → (posted n stage line).done + 3 ≤ 2 * n
  posted_done n W1 line h two = h
  posted_done n W2 line h two = h
  posted_done n W3 line h two = h
  posted_done n W4 line h two = h
  posted_done n W5 line h two = write_done n line h two

  pub keeps_board : (b : Board R) (i : ℕ) (cells : List (State (Stamped R))) (line : Progress R) → IsBoard b →
      length cells ≡ length b.cells → line.done + 3 ≤ 2 * board_size b → IsBoard (record b { cells = cells; lines = set b.lines i line })
  keeps_board b i cells line s c d = let e : length (set b.lines i line) ≡ length b.lines = length-set b.lines i line in record {
    at_least = let a = s.at_least in omega arith;
    at_most = let a = s.at_most in omega arith;
    cells = rw e (c ∙ s.cells);
    inside = λ k l p. ⊎_elim (λ q.
        let f : l.done ≡ line.done = ap (λ z. z.done) q.1 in
        omega arith) (λ q.
        let f : l.done + 3 ≤ 2 * length b.lines = s.inside k l q.1 in
        omega arith) (get_set b.lines i k line l p);
  }

  pub board_opens : (m limit : ℕ) (opening noise : R) → 2 ≤ m → m ≤ 16 → IsBoard (opening_board m limit opening noise)
  board_opens m limit opening noise two small =
      let e : length (replicate m (opening_line opening)) ≡ m = length-replicate m (opening_line opening) in
      record {
        at_least = omega arith;
        at_most = omega arith;
        cells = length-replicate (m * m) _ ∙ rw e refl;
        inside = λ i line h. let d : line.done ≡ 0 = ap (λ l. l.done) (get_replicate m i (opening_line opening) line h) in omega arith;
      }

  -- a write of its row leaves the outcome
  posted_outcome : (n : ℕ) (stage : Stage) (line : Progress R) → (posted n stage line).outcome ≡ line.outcome
  posted_outcome n W1 line = refl
  posted_outcome n W2 line = refl
  posted_outcome n W3 line = refl
  posted_outcome n W4 line = refl
  posted_outcome n W5 line = refl

  pub outcome_stays : (b : Board R) (i : ℕ) (wish : Wish R) (line next : Progress R) (s : State (Stamped R)) →
      slice_get b.lines i ≡ Some line → board_size b ≤ line.done + 1
      → slice_get b.cells (cell_place (board_size b) i (other i (line.done + 1 - board_size b))) ≡ Some s →
      slice_get (after_event b i wish).lines i ≡ Some next → next.outcome ≡ line.outcome
  outcome_stays b i wish line next s at d c e =
      let new : Progress R = posted (board_size b) (next_write s.writer) line in
      let is : slice_get (set b.lines i new) i ≡ Some next =
      ap (λ (z : Board R). slice_get z.lines i) (sym (post_is b i wish line s at d c)) ∙ e in
      elim (get_set b.lines i i new next is) [
        | inl w ↦ ap (λ (z : Progress R). z.outcome) w.1 ∙ posted_outcome (board_size b) (next_write s.writer) line
        | inr w ↦ absurd (w.0 refl)
      ]
