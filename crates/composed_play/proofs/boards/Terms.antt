-- A term of a composed board, played: what its steps tell is a run of the board, so its operations have choices by the law of
-- choices, and each of its cells is clear and fresh.
use Rattle.std.proofs.Common.{◌≡◌, ℕ, ◌+◌, ◌-◌, ◌*◌, ◌<◌, ◌≤◌, List, [], ◌∷◌, ◌++◌, length, take, drop, slice_get}
use Rattle.std.proofs.Common.{Some, IsSome, refl, sym, subst, ◌∙◌, ap, arith}
use Rattle.std.specs.List.{fold}
use Rattle.std.proofs.Math.Nat.{mul-le-mul_left}
use Rattle.std.proofs.lemmas.List.{length-append}
use Rattle.std.proofs.lemmas.List.Sums.{count_by-le-length}
use Rattle.std.specs.Prelude.{nat_eq}
use Rattle.std.proofs.lemmas.Option.{slice_get_within}
use Rattle.history_core.specs.Schedules.{Overruns, steps_of}
use Rattle.history_core.proofs.Overruns.{planned_next}
use Rattle.matrix_core.specs.declared.schedule.MatrixTerm.{MatrixTerm}
use Rattle.matrix_core.specs.Runs.{IsTerm}
use Rattle.matrix_core.specs.ByAccesses.{IsCut}
use Rattle.matrix_core.specs.Runs.{board_span}
use Rattle.composed_play.specs.inner.BoardPlays.{after_board_step, board_seat, CanStep, opening_board_play, board_play_of, BoardPlaying}
use Rattle.composed_play.proofs.boards.Plays.{IsBoardSoFar, one_step, opens_play, term_plays}
use Rattle.matrix_core.proofs.lists.Elements.{fold_more, split_at, take_next}

module _ {R : Type 0} (at : ℕ) (opening noise : R) (term : MatrixTerm R) where
  -- the term as the cells' accesses have it
  pub term_cut : IsTerm term → IsCut 5 (board_span term)
  term_cut t = record {
    at_least = t.at_least;
    at_most = t.at_most;
    some = omega arith;
    accesses =
        let two : 2 ≤ length term.plans = t.at_least in
        omega arith;
    steps = t.steps;
  }

  pub term_low : 0 < (length term.plans - 2) * 5 + 4
  term_low = omega arith

  pub term_high : IsTerm term → (length term.plans - 2) * 5 + 4 + 1 < 10 * (length term.plans - 1)
  term_high t = let two : 2 ≤ length term.plans = t.at_least in omega arith

  module _ (t : IsTerm term) (left : (step : ℕ) → ¬ Overruns (board_span term) step) where
    abbrev SoFar : List ℕ → BoardPlaying R → Type 0
    SoFar done play = IsBoardSoFar at (board_span term) opening noise (term_cut t) left term_low (term_high t) done play

    pub played_term : SoFar term.steps (board_play_of at opening noise term)
    played_term = term_plays at (board_span term) opening noise (term_cut t) left term_low (term_high t)

    -- the next step can be made
    can_step : (done rest : List ℕ) (who : ℕ) (play : BoardPlaying R) → term.steps ≡ done ++ who ∷ rest → who < length term.plans →
        at + length term.steps + 1 < 18446744073709551616 → SoFar done play → CanStep term.plans play who
    can_step done rest who play whole lw room g =
        let two : 2 ≤ length term.plans = t.at_least in
        let most : length term.plans ≤ 16 = t.at_most in
        let ln : length play.seats ≡ length term.plans = g.seats in
        let sz : length play.board.lines ≡ length term.plans = ap (λ b. length b.lines) g.board ∙ g.is_at.size in
        let st = g.each who lw in
        let steps : steps_of who done
        ≡ (board_seat play who).operation * (10 * (length term.plans - 1)) + (board_seat play who).made = st.steps in
        let small : (board_seat play who).made < 10 * (length term.plans - 1) = st.inside in
        let long : length term.steps ≡ length done + length (who ∷ rest) = ap length whole ∙ length-append done (who ∷ rest) in
        let few : steps_of who done ≤ length done = count_by-le-length (λ s. nat_eq s who) done in
        let times : (board_seat play who).operation * 1 ≤ (board_seat play who).operation * (10 * (length term.plans - 1)) =
        mul-le-mul_left (board_seat play who).operation (omega arith) in
        let n : play.now ≡ at + length done = g.now in
        let p = planned_next (board_span term) done rest who (board_seat play who).operation (board_seat play who).made whole
        (left (length done)) st.steps st.inside in
        record {
          at_least = omega arith;
          at_most = omega arith;
          processes = ln ∙ sym sz;
          inside = omega arith;
          stamps = g.told.long;
          slots = g.rows.long;
          wide = λ q row e. g.rows.wide q row e ∙ ap (λ z. 2 * (z - 1)) (sym ln);
          room = omega arith;
          count = omega arith;
          made = omega arith;
          planned = subst IsSome (sym p.1) refl;
          place = λ pos.
              let way = g.told.played.under_way who (board_seat play who).operation (board_seat play who).made st.steps pos st.inside in
              let placed : (board_seat play who).place ≡ g.place who = st.placed in
              let l : g.place who < length play.ops = slice_get_within play.ops (g.place who) way.op way.there in
              omega arith;
        }

-- a term's play after its first i steps
pub record IsBoardTermSoFar {R : Type 0} (at : ℕ) (opening noise : R) (term : MatrixTerm R) (i : ℕ) (play : BoardPlaying R) : Type 0 where
  pub is : play
      ≡ fold (after_board_step term.plans) (opening_board_play (length term.plans) term.limit opening noise at) (take i term.steps)
  pub so_far : (t : IsTerm term) (left : (step : ℕ) → ¬ Overruns (board_span term) step) → IsBoardSoFar at (board_span term) opening noise
      (term_cut at opening noise term t) left (term_low at opening noise term) (term_high at opening noise term t) (take i term.steps) play

module _ {R : Type 0} (at : ℕ) (opening noise : R) (term : MatrixTerm R) where
  pub term_begins : IsBoardTermSoFar at opening noise term 0 (opening_board_play (length term.plans) term.limit opening noise at)
  term_begins = record {
    is = refl;
    so_far = λ t left. opens_play at (board_span term) opening noise (term_cut at opening noise term t) left
        (term_low at opening noise term) (term_high at opening noise term t);
  }

  pub term_ready : (i who : ℕ) (play : BoardPlaying R) → IsTerm term → ((step : ℕ) → ¬ Overruns (board_span term) step) →
      at + length term.steps + 1 < 18446744073709551616 → slice_get term.steps i ≡ Some who →
      IsBoardTermSoFar at opening noise term i play → CanStep term.plans play who
  term_ready i who play t left room h s = can_step at opening noise term t left (take i term.steps) (drop (i + 1) term.steps) who play
      (split_at term.steps i who h) (t.steps i who h) room (s.so_far t left)

  pub term_goes_on : (i who : ℕ) (play : BoardPlaying R) → slice_get term.steps i ≡ Some who →
      IsBoardTermSoFar at opening noise term i play → IsBoardTermSoFar at opening noise term (i + 1) (after_board_step term.plans play who)
  term_goes_on i who play h s =
      let next : take (i + 1) term.steps ≡ take i term.steps ++ who ∷ [] = take_next term.steps i who h in
      record {
        is = ap (λ p. after_board_step term.plans p who) s.is
            ∙ (sym (fold_more (after_board_step term.plans) (opening_board_play (length term.plans) term.limit opening noise at)
            (take i term.steps) who)
            ∙ ap (fold (after_board_step term.plans) (opening_board_play (length term.plans) term.limit opening noise at)) (sym next));
        so_far = λ t left. rw next (one_step at (board_span term) opening noise (term_cut at opening noise term t) left
            (term_low at opening noise term) (term_high at opening noise term t) (take i term.steps) (drop (i + 1) term.steps) who
            (split_at term.steps i who h) play (s.so_far t left) (t.steps i who h));
      }

-- each operation of a run has its stamp
pub long_stamps : {R : Type 0} (at : ℕ) (opening noise : R) (term : MatrixTerm R) (play : BoardPlaying R) → IsTerm term →
    ((step : ℕ) → ¬ Overruns (board_span term) step) → play ≡ board_play_of at opening noise term → length play.stamps ≡ length play.ops
long_stamps {R} at opening noise term play t left is =
    ap (λ (z : BoardPlaying R). length z.stamps) is
    ∙ ((played_term at opening noise term t left).told.long ∙ ap (λ (z : BoardPlaying R). length z.ops) (sym is))
