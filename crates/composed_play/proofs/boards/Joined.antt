-- The terms of a composed board's report, one after the other: each opens with the latest record of the one before, so the whole
-- order is atomic and refuses lawfully, and the operations have the schedule's shape.
use Rattle.std.proofs.Common.{◌≡◌, ℕ, ◌+◌, ◌≤◌, List, [], ◌∷◌, ◌++◌, length, map, drop, refl, sym, ◌∙◌, ap, subst}
use Rattle.std.proofs.Common.{arith, append-nil, append_assoc}
use Rattle.std.specs.Prelude.{slice_get, Option, Some}
use Rattle.std.proofs.lemmas.List.{drop_all, length-append}
use Rattle.history_core.specs.declared.history.Op.{Op}
use Rattle.history_core.specs.declared.history.Term.{Term}
use Rattle.history_core.specs.Joined.{ops_of, order_from, Part, terms_from}
use Rattle.history_core.specs.Orders.{latest, RefusesLawfully}
use Rattle.history_core.specs.Schedules.{Overruns}
use Rattle.history_core.proofs.JoinedParts.{atomic_parts, lawful_parts}
use Rattle.history_core.proofs.JoinedSpans.{IsPlayedInTurn, played_in_turn, shape_in_turn}
use Rattle.matrix_core.specs.declared.stamp.Stamp.{Stamp}
use Rattle.matrix_core.specs.declared.schedule.MatrixTerm.{MatrixTerm}
use Rattle.matrix_core.specs.declared.schedule.BoardSchedule.{BoardSchedule}
use Rattle.matrix_core.specs.declared.schedule.BoardReport.{BoardReport}
use Rattle.matrix_core.specs.Lines.{first_record}
use Rattle.composed_play.specs.Boards.{cell_moments, noise_record}
use Rattle.composed_play.proofs.boards.Cells.{rises_in}
use Rattle.four_slot_core.proofs.slots.Cells.{traces_over_safe_slots}
use Rattle.matrix_core.specs.Listings.{IsInOrder}
use Rattle.matrix_core.specs.inner.Operations.{greatest_own, one_term}
use Rattle.matrix_core.specs.Runs.{IsTerm, step_count}
use Rattle.composed_play.specs.inner.BoardPlays.{next_board_opening, board_play_of, BoardPlaying}
use Rattle.composed_play.specs.BoardReports.{AreBoardParts, BoardPart, BoardCameAbout, history_parts}
use Rattle.matrix_core.specs.Runs.{board_span, board_spans}
use Rattle.composed_play.specs.BoardReports.{IsBoardPart, IsBoardReport, board_slots, board_stamps}
use Rattle.composed_play.specs.BoardSteps.{board_after, chosen_in}
use Rattle.composed_play.proofs.boards.Holds.{greatest_chosen}
use Rattle.composed_play.proofs.boards.Reports.{is_run, slot_in}
use Rattle.composed_play.proofs.boards.Runs.{board_clear, board_fresh, board_fully}
use Rattle.composed_play.proofs.boards.Terms.{played_term, term_cut, term_high, term_low}
use Rattle.matrix_core.proofs.lists.Elements.{drop_next}
use Rattle.matrix_core.proofs.orders.Terms.{term_atomic, term_last, term_lawful}

module _ {R : Type 0} where
  -- the part of one term, with this order of its operations
  abbrev pub part_of : ℕ → R → R → MatrixTerm R → List ℕ → BoardPart R
  part_of at opening noise term order = record {
    limit = term.limit;
    ops = (board_play_of at opening noise term).ops;
    stamps = (board_play_of at opening noise term).stamps;
    slots = (board_play_of at opening noise term).slots;
    order = order;
  }

  -- it came about as a part does, and hands on the greatest record that a process holds
  pub term_part : (at : ℕ) (opening noise : R) (term : MatrixTerm R) (order : List ℕ) → IsTerm term →
      ((step : ℕ) → ¬ Overruns (board_span term) step) →
      IsInOrder (board_play_of at opening noise term).ops (board_play_of at opening noise term).stamps order
      → IsBoardPart at opening noise term (part_of at opening noise term order) × (latest opening
      (board_play_of at opening noise term).ops order ≡ Some (next_board_opening opening (board_play_of at opening noise term)))
  term_part at opening noise term order t left sorted =
      let play : BoardPlaying R = board_play_of at opening noise term in
      let cut = term_cut at opening noise term t in
      let low = term_low at opening noise term in
      let high = term_high at opening noise term t in
      let g = played_term at opening noise term t left in
      let run = is_run at (board_span term) opening noise cut left low high play.ops play.stamps g.place g.told in
      let slot = slot_in at (board_span term) opening noise cut left low high play.ops play.stamps g.place g.told in
      let chosen = chosen_in at (board_span term) opening noise in
      let full = board_fully at (board_span term) opening noise play.ops play.stamps slot chosen cut run g.told.played.played in
      let held = greatest_chosen at (board_span term) opening noise cut (board_after (board_span term) opening noise term.steps) g.is_at
      play.ops play.stamps full.0 full.1 full.2 in
      let last = term_last opening term.limit play.ops play.stamps full.0 order full.1 sorted g.told.long g.told.played.played.rising in (
        record {
          limit = refl;
          played = g.told.played.played;
          chosen = chosen;
          slot = slot;
          run = run;
          slots = record {
            long = g.rows.long;
            each = λ p k op row e is there.
                let w = g.rows.wide p row there in
                (w, λ access l. g.rows.each p k access op row e is.begins there (omega arith));
          };
          clear = λ i j write read ow lw or lr.
              board_clear at (board_span term) opening noise play.ops play.stamps slot chosen cut run i j write read ow lw or lr;
          fresh = λ i j write read ow lw or lr m done.
              board_fresh at (board_span term) opening noise play.ops play.stamps slot chosen cut run i j write read ow lw or lr m done;
          safe = λ i j. traces_over_safe_slots (first_record opening) (noise_record noise) (chosen i)
              (cell_moments at (board_span term) i j) (rises_in at (board_span term) opening noise chosen cut.accesses i j);
          choices = full.0;
          chose = full.1;
          order = sorted;
        },
        last (greatest_own (first_record opening) (board_after (board_span term) opening noise term.steps).lines).stamp
            (greatest_own (first_record opening) (board_after (board_span term) opening noise term.steps).lines).item held
            ∙ ap (λ b. Some (greatest_own (first_record opening) b.lines).item) (sym g.board),
      )

  -- parts are played in turn
  pub parts_in_turn : (at : ℕ) (opening noise : R) (terms : List (MatrixTerm R)) (parts : List (BoardPart R)) →
      AreBoardParts at opening noise terms parts
      → (last : R) × IsPlayedInTurn (λ x y. x ≡ y) at opening (board_spans terms) (history_parts parts) last
  parts_in_turn at opening noise [] [] h = (opening, refl)
  parts_in_turn at opening noise [] (part ∷ parts) h = absurd h
  parts_in_turn at opening noise (term ∷ terms) [] h = absurd h
  parts_in_turn at opening noise (term ∷ terms) (part ∷ parts) h =
      let p : IsBoardPart at opening noise term part = h.0 in
      let rest = parts_in_turn (at + length term.steps) h.1.0 noise terms parts h.1.2 in (
        rest.0,
        (
          h.1.0,
          p.limit,
          p.played,
          term_atomic opening term.limit part.ops part.stamps p.choices part.order p.chose p.order p.run.long p.played.rising,
          subst (λ z. RefusesLawfully (record { first = 0; limit = z } ∷ []) part.ops part.order) (sym p.limit)
              (term_lawful opening term.limit part.ops part.stamps p.choices part.order p.chose p.order p.run.long p.played.rising),
          h.1.1,
          rest.1,
        ),
      )

  -- so a report that came about is all that is promised
  pub board_report : (schedule : BoardSchedule R) (report : BoardReport R) → report.history.opening ≡ schedule.opening →
      BoardCameAbout schedule report → IsBoardReport schedule report
  board_report schedule report opens is =
      let parts : List (Part R) = history_parts is.parts in
      let turn = parts_in_turn 0 schedule.opening schedule.noise schedule.terms is.parts is.each in
      let whole = played_in_turn (λ x y. x ≡ y) 0 schedule.opening turn.0 (board_spans schedule.terms) parts turn.1 in
      record {
        opening = opens;
        shape = rw (is.terms, is.ops) (shape_in_turn (λ x y. x ≡ y) 0 0 schedule.opening turn.0 (board_spans schedule.terms) parts turn.1);
        atomic = rw (is.ops, is.order) (atomic_parts (λ x y. x ≡ y) schedule.opening turn.0 parts whole);
        refusals = rw (is.terms, is.ops, is.order) (lawful_parts (λ x y. x ≡ y) schedule.opening turn.0 parts whole);
        run = is;
      }

module _ {R : Type 0} (all : List (MatrixTerm R)) (first noise : R) where
  -- the terms played, with the parts of those to come, are the parts of all terms
  pub record IsBoardReportSoFar (i : ℕ) (opening : R) (now : ℕ) (terms : List Term) (ops : List (Op R)) (stamps : List (Option Stamp))
      (slots : List (List (Option ℕ))) (order : List ℕ) : Type 0 where
    pub together : (later : List (BoardPart R)) → AreBoardParts now opening noise (drop i all) later →
        (parts : List (BoardPart R)) × AreBoardParts 0 first noise all parts
        × (terms ++ terms_from (length ops) (history_parts later) ≡ terms_from 0 (history_parts parts))
        × (ops ++ ops_of (history_parts later) ≡ ops_of (history_parts parts))
        × (stamps ++ board_stamps later ≡ board_stamps parts)
        × (slots ++ board_slots later ≡ board_slots parts)
        × (order ++ order_from (length ops) (history_parts later) ≡ order_from 0 (history_parts parts))
    pub steps : now + step_count (drop i all) ≡ step_count all
    pub long : length stamps ≡ length ops

  pub report_begins : IsBoardReportSoFar 0 first 0 [] [] [] [] []
  report_begins = record { together = λ later h. (later, h, refl, refl, refl, refl, refl); steps = omega arith; long = refl }

  report_more : (i : ℕ) (opening next : R) (now : ℕ) (terms : List Term) (ops : List (Op R)) (stamps : List (Option Stamp))
      (slots : List (List (Option ℕ))) (order : List ℕ) (term : MatrixTerm R) (part : BoardPart R)
      → slice_get all i ≡ Some term → IsBoardPart now opening noise term part → latest opening part.ops part.order ≡ Some next →
      IsBoardReportSoFar i opening now terms ops stamps slots order
      → IsBoardReportSoFar (i + 1) next (now + length term.steps) (terms ++ record { first = length ops; limit = part.limit } ∷ [])
      (ops ++ part.ops) (stamps ++ part.stamps) (slots ++ part.slots) (order ++ map (λ p. length ops + p) part.order)
  report_more i opening next now terms ops stamps slots order term part at is held r =
      let rest : List (MatrixTerm R) = drop (i + 1) all in
      let d : drop i all ≡ term ∷ rest = drop_next all i term at in
      let l : length (ops ++ part.ops) ≡ length ops + length part.ops = length-append ops part.ops in
      record {
        together = λ later h.
            let t =
            r.together (part ∷ later) (subst (λ z. AreBoardParts now opening noise z (part ∷ later)) (sym d) (is, (next, held, h))) in (
              t.0,
              t.1,
              append_assoc terms (record { first = length ops; limit = part.limit } ∷ [])
                  (terms_from (length (ops ++ part.ops)) (history_parts later))
                  ∙ ap (λ z. terms ++ record { first = length ops; limit = part.limit } ∷ terms_from z (history_parts later)) l ∙ t.2,
              append_assoc ops part.ops (ops_of (history_parts later)) ∙ t.3,
              append_assoc stamps part.stamps (board_stamps later) ∙ t.4,
              append_assoc slots part.slots (board_slots later) ∙ t.5,
              append_assoc order (map (λ p. length ops + p) part.order) (order_from (length (ops ++ part.ops)) (history_parts later))
                  ∙ ap (λ z. order ++ (map (λ p. length ops + p) part.order ++ order_from z (history_parts later))) l ∙ t.6,
            );
        steps =
            let s : now + step_count (drop i all) ≡ step_count all = r.steps in
            let c : step_count (drop i all) ≡ length term.steps + step_count rest = ap step_count d in
            omega arith;
        long =
            let a : length (stamps ++ part.stamps) ≡ length stamps + length part.stamps = length-append stamps part.stamps in
            let b : length stamps ≡ length ops = r.long in
            let c : length part.stamps ≡ length part.ops = is.run.long in
            omega arith;
      }

  -- the same, as the code has its parts
  pub report_step : (i : ℕ) (opening opening' : R) (now now' : ℕ) (terms terms' : List Term) (ops ops' : List (Op R))
      (stamps stamps' : List (Option Stamp)) (slots slots' : List (List (Option ℕ))) (order order' mine : List ℕ) (term : MatrixTerm R)
      (play : BoardPlaying R)
      → slice_get all i ≡ Some term → IsTerm term → ((step : ℕ) → ¬ Overruns (board_span term) step) →
      play ≡ board_play_of now opening noise term
      → opening' ≡ next_board_opening opening play → now' ≡ now + length term.steps →
      terms' ≡ terms ++ one_term (length ops) term.limit → ops' ≡ ops ++ play.ops → stamps' ≡ stamps ++ play.stamps →
      slots' ≡ slots ++ play.slots
      → IsInOrder play.ops play.stamps mine → order' ≡ order ++ map (λ p. length ops + p) mine
      → IsBoardReportSoFar i opening now terms ops stamps slots order →
      IsBoardReportSoFar (i + 1) opening' now' terms' ops' stamps' slots' order'
  report_step i opening opening' now now' terms terms' ops ops' stamps stamps' slots slots' order order' mine term play at t left is
      eo en et eops est esl sorted eord r =
      let so : IsInOrder (board_play_of now opening noise term).ops (board_play_of now opening noise term).stamps mine =
      subst (λ (p : BoardPlaying R). IsInOrder p.ops p.stamps mine) is sorted in
      let p = term_part now opening noise term mine t left so in
      let m = report_more i opening (next_board_opening opening (board_play_of now opening noise term)) now terms ops stamps slots order
      term (part_of now opening noise term mine) at p.0 p.1 r in
      rw (eo, en, et, eops, est, esl, eord, is) m

  -- no term is left
  pub report_ends : (i : ℕ) (opening : R) (now : ℕ) (terms : List Term) (ops : List (Op R)) (stamps : List (Option Stamp))
      (slots : List (List (Option ℕ))) (order : List ℕ) → length all ≤ i → IsBoardReportSoFar i opening now terms ops stamps slots order
      → (parts : List (BoardPart R)) × AreBoardParts 0 first noise all parts × (terms ≡ terms_from 0 (history_parts parts))
      × (ops ≡ ops_of (history_parts parts)) × (stamps ≡ board_stamps parts) × (slots ≡ board_slots parts)
      × (order ≡ order_from 0 (history_parts parts))
  report_ends i opening now terms ops stamps slots order l r =
      let d : drop i all ≡ [] = drop_all i all l in
      let t = r.together [] (subst (λ z. AreBoardParts now opening noise z []) (sym d) tt) in (
        t.0,
        t.1,
        sym (append-nil terms) ∙ t.2,
        sym (append-nil ops) ∙ t.3,
        sym (append-nil stamps) ∙ t.4,
        sym (append-nil slots) ∙ t.5,
        sym (append-nil order) ∙ t.6,
      )
