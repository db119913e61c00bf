-- What a step of a composed board tells, by its number within the operation: one opens it, one chooses, the last one ends it, and the
-- others leave the operations as they are.
use Rattle.std.proofs.Common.{◌≡◌, ◌≢◌, ℕ, ◌+◌, ◌-◌, ◌*◌, ◌/◌, ◌<◌, ◌≤◌, List, [], ◌∷◌, ◌++◌, length, set, Bool}
use Rattle.std.proofs.Common.{refl, sym, ◌∙◌, ap, subst, arith, inl, inr}
use Rattle.std.specs.Prelude.{slice_get, Option, Some, None, nat_eq, if◌then◌else◌}
use Rattle.std.proofs.lemmas.Bool.{cases_eq}
use Rattle.std.proofs.lemmas.List.{get_or-set_same, length-replicate, length-set, length_push}
use Rattle.history_core.specs.declared.history.Op.{Op}
use Rattle.history_core.specs.declared.wish.Wish.{Wish}
use Rattle.history_core.specs.Schedules.{board_accesses}
use Rattle.history_core.proofs.Places.{get_pushed_cases}
use Rattle.matrix_core.specs.declared.stamp.Stamp.{Stamp}
use Rattle.matrix_core.specs.declared.progress.Progress.{Progress}
use Rattle.composed_play.specs.declared.board_term.BoardSeat.{BoardSeat}
use Rattle.matrix_core.specs.inner.Operations.{begun_op, changed, chose, ended}
use Rattle.composed_play.specs.BoardEvents.{after_event, Board, slot_of}
use Rattle.composed_play.specs.inner.BoardPlays.{board_seat, CanHappen, CanStep, choosing, first_board_seat, happened, moved, next_seat}
use Rattle.composed_play.specs.inner.BoardPlays.{noted, opened, opened_first, BoardPlaying, plays, after_board_step, told_ops}
use Rattle.composed_play.specs.inner.BoardPlays.{told_stamps}
use Rattle.composed_play.specs.inner.BoardPlays.{wish_now}
use Rattle.matrix_core.proofs.terms.Steps.{changed_is}
use Rattle.matrix_core.proofs.lists.Elements.{not_same, same}

module _ {R : Type 0} (n : ℕ) (seat : BoardSeat) (now : ℕ) (line : Progress R) (ops : List (Op R)) where
  pub tells_choice : (op : Op R) → seat.made ≡ choosing n → slice_get ops seat.place ≡ Some op →
      told_ops n seat now line ops ≡ set ops seat.place (chose line.outcome op)
  tells_choice op e h =
      ap (λ (b : Bool). if b then changed (chose line.outcome) seat.place ops else (if nat_eq (seat.made + 1) (board_accesses n) then
      changed (ended now line.outcome) seat.place ops else ops)) (same seat.made (choosing n) e)
      ∙ changed_is (chose line.outcome) seat.place ops op h

  not_choice : seat.made ≢ choosing n → told_ops n seat now line ops
      ≡ (if nat_eq (seat.made + 1) (board_accesses n) then changed (ended now line.outcome) seat.place ops else ops)
  not_choice ne = ap (λ (b : Bool). if b then changed (chose line.outcome) seat.place ops else (if nat_eq (seat.made + 1) (board_accesses n)
      then changed (ended now line.outcome) seat.place ops else ops)) (not_same seat.made (choosing n) ne)

  pub tells_end : (op : Op R) → seat.made ≢ choosing n → seat.made + 1 ≡ board_accesses n → slice_get ops seat.place ≡ Some op →
      told_ops n seat now line ops ≡ set ops seat.place (ended now line.outcome op)
  tells_end op ne e h =
      not_choice ne
      ∙ ap (λ (b : Bool). if b then changed (ended now line.outcome) seat.place ops else ops) (same (seat.made + 1) (board_accesses n) e)
      ∙ changed_is (ended now line.outcome) seat.place ops op h

  pub tells_nothing : seat.made ≢ choosing n → seat.made + 1 ≢ board_accesses n → told_ops n seat now line ops ≡ ops
  tells_nothing ne nf = not_choice ne ∙ ap (λ (b : Bool). if b then changed (ended now line.outcome) seat.place ops else ops)
      (not_same (seat.made + 1) (board_accesses n) nf)

module _ {R : Type 0} (n : ℕ) (seat : BoardSeat) (line : Progress R) (stamps : List (Option Stamp)) where
  pub tells_stamp : (stamp : Option Stamp) → seat.made ≡ choosing n → slice_get stamps seat.place ≡ Some stamp →
      told_stamps n seat line stamps ≡ set stamps seat.place (Some line.own.stamp)
  tells_stamp stamp e h =
      ap (λ (b : Bool). if b then changed (λ s. Some line.own.stamp) seat.place stamps else stamps) (same seat.made (choosing n) e)
      ∙ changed_is (λ (s : Option Stamp). Some line.own.stamp) seat.place stamps stamp h

  pub tells_no_stamp : seat.made ≢ choosing n → told_stamps n seat line stamps ≡ stamps
  tells_no_stamp ne =
      ap (λ (b : Bool). if b then changed (λ s. Some line.own.stamp) seat.place stamps else stamps) (not_same seat.made (choosing n) ne)

pub notes : (place access slot : ℕ) (slots : List (List (Option ℕ))) (row : List (Option ℕ)) → slice_get slots place ≡ Some row →
    noted place access (Some slot) slots ≡ set slots place (set row access (Some slot))
notes place access slot slots row h = changed_is (λ (r : List (Option ℕ)). set r access (Some slot)) place slots row h

-- the same for a slot that is there
pub notes_it : (place access : ℕ) (slot : Option ℕ) (slots : List (List (Option ℕ))) (row : List (Option ℕ)) → slot ≢ None →
    slice_get slots place ≡ Some row → set slots place (set row access slot) ≡ noted place access slot slots
notes_it place access None slots row ne h = absurd (ne refl)
notes_it place access (Some slot) slots row ne h = sym (notes place access slot slots row h)

module _ {R : Type 0} (play : BoardPlaying R) (who : ℕ) (wish : Wish R) where
  pub opens : (board_seat play who).made ≡ 0 → opened_first play who wish ≡ opened play who wish
  opens e = ap (λ (b : Bool). if b then opened play who wish else play) (same (board_seat play who).made 0 e)

  pub goes_on : 0 < (board_seat play who).made → opened_first play who wish ≡ play
  goes_on l = ap (λ (b : Bool). if b then opened play who wish else play) (not_same (board_seat play who).made 0 (λ e. omega arith))

  -- its seat then
  pub opened_seat : who < length play.seats → board_seat (opened play who wish) who ≡ record {
    place = length play.ops;
    operation = (board_seat play who).operation;
    made = 0;
  }
  opened_seat l = get_or-set_same play.seats who (record {
    place = length play.ops;
    operation = (board_seat play who).operation;
    made = 0;
  }) first_board_seat l

  -- and the step can be made
  pub can_happen : (plans : List (List (Wish R))) → CanStep plans play who → CanHappen (opened_first play who wish) who
  can_happen plans c = elim (cases_eq (board_seat play who).made 0) [
    | inr ne ↦
        let pos : 0 < (board_seat play who).made = omega arith in
        let x : CanHappen play who = record {
          processes = c.processes;
          inside = c.inside;
          stamps = c.stamps;
          slots = c.slots;
          wide = c.wide;
          room = c.room;
          count = c.count;
          made = c.made;
          place = c.place pos;
        } in
        subst (λ p. CanHappen p who) (sym (goes_on pos)) x
    | inl z ↦
        let se : BoardSeat = record { place = length play.ops; operation = (board_seat play who).operation; made = 0 } in
        let new : Op R = begun_op who play.now wish in
        let seat : board_seat (opened play who wish) who ≡ se = opened_seat c.inside in
        let ls : length (set play.seats who se) ≡ length play.seats = length-set play.seats who se in
        let long : length (play.ops ++ new ∷ []) ≡ length play.ops + 1 = length_push play.ops new in
        let two : 2 ≤ length play.seats = c.at_least in
        let x : CanHappen (opened play who wish) who = record {
          processes = ls ∙ c.processes;
          inside = let l : who < length play.seats = c.inside in omega arith;
          stamps = length_push play.stamps None ∙ ap (λ m. m + 1) c.stamps ∙ sym long;
          slots = length_push play.slots _ ∙ ap (λ m. m + 1) c.slots ∙ sym long;
          wide = λ p row h. elim (get_pushed_cases play.slots _ p row h) [
            | inl old ↦ c.wide p row old ∙ ap (λ m. 2 * (m - 1)) (sym ls)
            | inr w ↦ ap length (sym w.1) ∙ length-replicate (2 * (length play.seats - 1)) None ∙ ap (λ m. 2 * (m - 1)) (sym ls)
          ];
          room = c.room;
          count =
              let q : (board_seat (opened play who wish) who).operation ≡ (board_seat play who).operation =
              ap (λ (z : BoardSeat). z.operation) seat in
              let r : (board_seat play who).operation < 18446744073709551615 = c.count in
              omega arith;
          made = let q : (board_seat (opened play who wish) who).made ≡ 0 = ap (λ (z : BoardSeat). z.made) seat in omega arith;
          place =
              let q : (board_seat (opened play who wish) who).place ≡ length play.ops = ap (λ (z : BoardSeat). z.place) seat in
              omega arith;
        } in
        subst (λ p. CanHappen p who) (sym (opens z)) x
  ]

  -- the step of a process whose operation has a wish
  pub step_plays : (plans : List (List (Wish R))) → wish_now plans play who ≡ Some wish →
      after_board_step plans play who ≡ happened (opened_first play who wish) who wish
  step_plays plans e = ap (plays play who) e

  pub happens : (line : Progress R) → slice_get (after_event play.board who wish).lines who ≡ Some line →
      happened play who wish ≡ moved play who wish (Some line)
  happens line e = ap (moved play who wish) e

  -- the parts of a play after the step, each by itself
  pub moved_as : (n : ℕ) (seat next : BoardSeat) (line : Progress R) (slot : Option ℕ) (board : Board R) (ops : List (Op R))
      (stamps : List (Option Stamp)) (slots : List (List (Option ℕ)))
      → n ≡ length play.seats → seat ≡ board_seat play who → board ≡ after_event play.board who wish →
      slice_get board.lines who ≡ Some line → slot ≡ slot_of play.board who
      → ops ≡ told_ops n seat play.now line play.ops → stamps ≡ told_stamps n seat line play.stamps →
      slots ≡ noted seat.place (seat.made / 5) slot play.slots → next ≡ next_seat n seat
      → record {
        board = board;
        now = play.now + 1;
        seats = set play.seats who next;
        ops = ops;
        stamps = stamps;
        slots = slots;
      } ≡ happened play who wish
  moved_as n seat next line slot board ops stamps slots en ese eb at eslot eo est esl ene =
      let at' : slice_get (after_event play.board who wish).lines who ≡ Some line =
      ap (λ (b : Board R). slice_get b.lines who) (sym eb) ∙ at in
      rw (eo, est, esl, ene, en, ese, eslot, eb) (sym (happens line at'))
