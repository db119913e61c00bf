-- The play of a term of a composed board, step by step: the operations so far with what they chose, and of each the slots of its
-- accesses. A step opens an operation, goes on, chooses or ends; what it chose is known from the board.
use Rattle.std.proofs.Common.{◌≡◌, ◌≢◌, ℕ, ◌+◌, ◌-◌, ◌*◌, ◌/◌, ◌<◌, ◌≤◌, List, [], ◌∷◌, ◌++◌, length, replicate, set, slice_get}
use Rattle.std.proofs.Common.{Option, None, Some, Bool, true, false, refl, sym, subst, ◌∙◌, ap, arith, inl, inr}
use Rattle.std.specs.Prelude.{nat_lt, nat_eq, if◌then◌else◌}
use Rattle.std.specs.List.{fold}
use Rattle.std.proofs.lemmas.Bool.{cases_Bool, cases_eq}
use Rattle.std.proofs.lemmas.List.{get_or-replicate, get_or-set_other, get_or-set_same, length-replicate, length-set, length_push}
use Rattle.std.proofs.lemmas.Option.{none-some, same_Some, slice_get_within}
use Rattle.history_core.specs.declared.history.Op.{Op}
use Rattle.history_core.specs.declared.history.Kind.{Kind}
use Rattle.history_core.specs.declared.history.Kind.TheVariants.{Write as WriteKind, Read as ReadKind, Refused as RefusedKind}
use Rattle.history_core.specs.declared.wish.Wish.{Wish}
use Rattle.history_core.specs.declared.wish.Wish.TheVariants.{Write, Read}
use Rattle.history_core.specs.Schedules.{access_at, board_accesses, Follows, IsOperation, Overruns, planned, Span, steps_of}
use Rattle.history_core.proofs.Folds.{fold_keeps_all}
use Rattle.history_core.proofs.Overruns.{operation_number, planned_next}
use Rattle.history_core.proofs.Places.{get_last, get_pushed_cases, get_set_other as get_set_else}
use Rattle.history_core.proofs.Played.{after, IsReplaced, IsUnderWay, nothing_played, operation_once, replaced_by_set}
use Rattle.history_core.proofs.Played.{same_operation_number}
use Rattle.history_core.proofs.Positions.{position_new, position_once, position_stays, steps_mine, steps_other}
use Rattle.matrix_core.specs.declared.stamp.Stamp.{Stamp}
use Rattle.matrix_core.specs.declared.stamp.Stamped.{Stamped}
use Rattle.matrix_core.specs.declared.progress.Outcome.{Outcome}
use Rattle.matrix_core.specs.declared.progress.Outcome.TheVariants.{Written, Ended}
use Rattle.matrix_core.specs.declared.progress.Progress.{Progress}
use Rattle.composed_play.specs.declared.board_term.BoardSeat.{BoardSeat}
use Rattle.matrix_core.specs.Lines.{cell_place, choice, other}
use Rattle.matrix_core.proofs.terms.Kinds.{kind_of}
use Rattle.matrix_core.specs.inner.Operations.{begun_op, chose, ended}
use Rattle.matrix_core.specs.ByAccesses.{IsCut}
use Rattle.composed_play.specs.BoardEvents.{after_event, Board, board_size, opening_board, slot_of}
use Rattle.composed_play.specs.inner.BoardPlays.{after_board_step, board_seat, choosing, first_board_seat, happened, moved, next_seat}
use Rattle.composed_play.specs.inner.BoardPlays.{noted}
use Rattle.composed_play.specs.inner.BoardPlays.{opened, opening_board_play, BoardPlaying, told_ops, told_stamps}
use Rattle.composed_play.specs.BoardSteps.{board_after, chosen_in, wish_after, wish_or_read}
use Rattle.composed_play.proofs.boards.Outcomes.{outcome_in}
use Rattle.matrix_core.proofs.lines.Others.{other_differs, other_inside}
use Rattle.composed_play.proofs.boards.Folds.{at_first, board_more, one_more, picks_by, wished_by}
use Rattle.composed_play.proofs.boards.Slots.{Shows, slot_at, step_shows}
use Rattle.composed_play.proofs.boards.Steps.{outcome_stays}
use Rattle.composed_play.proofs.boards.Telling.{goes_on, happens, notes, opened_seat, opens, step_plays, tells_choice, tells_end}
use Rattle.composed_play.proofs.boards.Telling.{tells_no_stamp, tells_nothing, tells_stamp}
use Rattle.composed_play.proofs.boards.Traces.{cell, IsAt, IsLineAt, Saw}
use Rattle.matrix_core.proofs.lists.Elements.{get_middle, get_replicate, get_set, get_set_other, get_set_same}
use Rattle.matrix_core.proofs.terms.Steps.{chose_ends, chose_starts, chose_who, ended_ends, ended_starts, ended_who}
use Rattle.matrix_core.proofs.lists.Elements.{get_exists, not_same, same}
use Rattle.matrix_core.proofs.terms.Told.{begins_before, IsTold, nothing_told, told_begins, told_chooses, told_ends, told_goes_on}
use Rattle.matrix_core.proofs.terms.Told.{way as told_way}

module _ {R : Type 0} where
  -- an operation as it begins
  pub record IsBegun (who now : ℕ) (wish : Wish R) (op : Op R) : Type 0 where
    pub actor : op.who ≡ who
    pub starts : op.starts ≡ now
    pub unfinished : op.ends ≡ None
    pub follows : Follows (Some wish) op
    pub unrefused : op.kind ≢ RefusedKind
    pub bare : op.kind ≢ WriteKind → op.item ≡ None

  begun_is : (who now : ℕ) (wish : Wish R) → IsBegun who now wish (begun_op who now wish)
  begun_is who now (Write v) = record {
    actor = refl;
    starts = refl;
    unfinished = refl;
    follows = inl (refl, refl);
    unrefused = λ e. cc;
    bare = λ ne. absurd (ne refl);
  }
  begun_is who now Read = record { actor = refl; starts = refl; unfinished = refl; follows = refl; unrefused = λ e. cc; bare = λ ne. refl }

  -- what its choice makes of it
  pub record IsChoosing (wish : Wish R) (chose_record : Stamped R) (kind : Kind) (op : Op R) : Type 0 where
    pub follows : Follows (Some wish) op
    pub same_kind : op.kind ≡ kind
    pub written : op.kind ≡ WriteKind → op.item ≡ Some chose_record.item
    pub bare : op.kind ≢ WriteKind → op.item ≡ None

  choosing_is : (limit i : ℕ) (wish : Wish R) (line : Progress R) (op : Op R) → Follows (Some wish) op → op.kind ≢ RefusedKind →
      (op.kind ≢ WriteKind → op.item ≡ None)
      → IsChoosing wish (choice limit i wish line).own (kind_of (choice limit i wish line).outcome)
      (chose (choice limit i wish line).outcome op)
  choosing_is limit i Read line op f u b = record {
    follows = f;
    same_kind = f;
    written = λ e.
        let z : ReadKind ≡ WriteKind = sym f ∙ e in
        cc;
    bare = b;
  }
  choosing_is limit i (Write v) line op f u b = by (nat_lt line.seen.stamp.tag limit)
    where
      by : (t : Bool) → (let l : Progress R = if t then record line {
        own = record { stamp = record { tag = line.seen.stamp.tag + 1; writer = i }; item = v };
        outcome = Written (record { tag = line.seen.stamp.tag + 1; writer = i });
      } else record line { own = line.seen; outcome = Ended line.seen } in
          IsChoosing (Write v) l.own (kind_of l.outcome) (chose l.outcome op))
      by true = elim f [
        | inl w ↦ record { follows = inl w; same_kind = w.0; written = λ e. w.1; bare = b }
        | inr w ↦ absurd (u w)
      ]
      by false = record { follows = inr refl; same_kind = refl; written = λ e. cc; bare = λ e. refl }

  -- and what its end makes of it
  pub record IsEnding (wish : Wish R) (chose_record : Stamped R) (old op : Op R) : Type 0 where
    pub follows : Follows (Some wish) op
    pub same_kind : op.kind ≡ old.kind
    pub kept : op.kind ≡ WriteKind → op.item ≡ old.item
    pub item : op.item ≡ Some chose_record.item

  ending_is : (limit i now : ℕ) (wish : Wish R) (line : Progress R) (op : Op R) → Follows (Some wish) op →
      op.kind ≡ kind_of (choice limit i wish line).outcome → (op.kind ≡ WriteKind → op.item ≡ Some (choice limit i wish line).own.item)
      → IsEnding wish (choice limit i wish line).own op (ended now (choice limit i wish line).outcome op)
  ending_is limit i now Read line op f k w = record {
    follows = f;
    same_kind = refl;
    kept = λ e.
        let z : ReadKind ≡ WriteKind = sym k ∙ e in
        cc;
    item = refl;
  }
  ending_is limit i now (Write v) line op f k w = by (nat_lt line.seen.stamp.tag limit) k w
    where
      by : (t : Bool) → (let l : Progress R = if t then record line {
        own = record { stamp = record { tag = line.seen.stamp.tag + 1; writer = i }; item = v };
        outcome = Written (record { tag = line.seen.stamp.tag + 1; writer = i });
      } else record line { own = line.seen; outcome = Ended line.seen } in
          op.kind ≡ kind_of l.outcome → (op.kind ≡ WriteKind → op.item ≡ Some l.own.item) →
          IsEnding (Write v) l.own op (ended now l.outcome op))
      by true k w = record { follows = f; same_kind = refl; kept = λ e. refl; item = w k }
      by false k w = record {
        follows = inr k;
        same_kind = refl;
        kept = λ e.
            let z : RefusedKind ≡ WriteKind = sym k ∙ e in
            cc;
        item = refl;
      }

module _ {R : Type 0} (at : ℕ) (span : Span R) (opening noise : R) (cut : IsCut 5 span) (left : (step : ℕ) → ¬ Overruns span step)
    (low : 0 < (length span.plans - 2) * 5 + 4) (high : (length span.plans - 2) * 5 + 4 + 1 < span.accesses) where
  abbrev n : ℕ
  n = length span.plans

  abbrev a : ℕ
  a = span.accesses

  abbrev ch : ℕ
  ch = (n - 2) * 5 + 4

  abbrev chosen : ℕ → ℕ → Stamped R
  chosen = chosen_in at span opening noise

  abbrev kinds : ℕ → ℕ → Kind
  kinds = λ i k. kind_of (outcome_in at span opening noise i k)

  abbrev Told : List ℕ → List (Op R) → List (Option Stamp) → (ℕ → ℕ) → Type 0
  Told done ops stamps place = IsTold at span ch high chosen kinds done ops stamps place

  abbrev At : List ℕ → Board R → Type 0
  At done b = IsAt at span opening noise cut.at_least cut.accesses chosen (outcome_in at span opening noise) done b

  abbrev pub slot_of_access : List ℕ → ℕ → ℕ → ℕ → Option ℕ
  slot_of_access done i k x = slot_at at span opening noise cut.at_least cut.accesses chosen (outcome_in at span opening noise) done i k x

  abbrev Begins : List ℕ → ℕ → Op R → Type 0
  Begins done k op = access_at at (after span done) op.who k 0 ≡ Some op.starts

  -- a seat: the operation of its process, the steps of that which are made, and its place
  pub record IsSeat (done : List ℕ) (who place : ℕ) (seat : BoardSeat) : Type 0 where
    pub steps : steps_of who done ≡ seat.operation * a + seat.made
    pub inside : seat.made < a
    pub placed : seat.place ≡ place

  -- the rows of slots, where operations have begun by `begun` and the slots are those after `done`
  pub record HasRows (begun done : List ℕ) (ops : List (Op R)) (slots : List (List (Option ℕ))) : Type 0 where
    pub long : length slots ≡ length ops
    pub wide : (p : ℕ) (row : List (Option ℕ)) → slice_get slots p ≡ Some row → length row ≡ 2 * (n - 1)
    pub each : (p k x : ℕ) (op : Op R) (row : List (Option ℕ)) → slice_get ops p ≡ Some op → Begins begun k op →
        slice_get slots p ≡ Some row → x < 2 * (n - 1) → slice_get row x ≡ Some (slot_of_access done op.who k x)

  pub record IsBoardSoFar (done : List ℕ) (play : BoardPlaying R) : Type 0 where
    pub board : play.board ≡ board_after span opening noise done
    pub is_at : At done (board_after span opening noise done)
    pub now : play.now ≡ at + length done
    pub seats : length play.seats ≡ n
    pub place : ℕ → ℕ
    pub each : (who : ℕ) → who < n → IsSeat done who (place who) (board_seat play who)
    pub told : Told done play.ops play.stamps place
    pub rows : HasRows done done play.ops play.slots
    pub unseen : (i k x : ℕ) → steps_of i done ≤ k * a → slot_of_access done i k x ≡ None

  -- the play of a process whose operation has its place, before its step
  pub record IsMid (done : List ℕ) (s k r : ℕ) (place : ℕ → ℕ) (mid : BoardPlaying R) : Type 0 where
    pub board : mid.board ≡ board_after span opening noise done
    pub now : mid.now ≡ at + length done
    pub seats : length mid.seats ≡ n
    pub inside : s < n
    pub operation : (board_seat mid s).operation ≡ k
    pub made : (board_seat mid s).made ≡ r
    pub placed : (board_seat mid s).place ≡ place s
    pub steps : steps_of s done ≡ k * a + r
    pub small : r < a
    pub others : (w : ℕ) → w < n → w ≢ s → IsSeat done w (place w) (board_seat mid w)
    pub rows : HasRows (done ++ s ∷ []) done mid.ops mid.slots

  -- operations that begin as others did
  pub record BeginAs (ops new : List (Op R)) : Type 0 where
    pub long : length new ≡ length ops
    pub each : (p : ℕ) (op : Op R) → slice_get new p ≡ Some op →
        (old : Op R) × (slice_get ops p ≡ Some old) × (old.who ≡ op.who) × (old.starts ≡ op.starts)

  begin_same : (ops : List (Op R)) → BeginAs ops ops
  begin_same ops = record { long = refl; each = λ p op e. (op, e, refl, refl) }

  begin_set : (ops : List (Op R)) (p : ℕ) (old op : Op R) → slice_get ops p ≡ Some old → op.who ≡ old.who → op.starts ≡ old.starts →
      BeginAs ops (set ops p op)
  begin_set ops p old op was who starts = record {
    long = length-set ops p op;
    each = λ q o e. elim (get_set ops p q op o e) [
      | inl w ↦ (
        old,
        ap (slice_get ops) w.0 ∙ was,
        sym who ∙ ap (λ (z : Op R). z.who) (sym w.1),
        sym starts ∙ ap (λ (z : Op R). z.starts) (sym w.1),
      )
      | inr w ↦ (o, w.1, refl, refl)
    ];
  }

  rows_as : (begun done : List ℕ) (ops new : List (Op R)) (slots : List (List (Option ℕ))) → BeginAs ops new →
      HasRows begun done ops slots → HasRows begun done new slots
  rows_as begun done ops new slots same_begin h = record {
    long = h.long ∙ sym same_begin.long;
    wide = h.wide;
    each = λ p k x op row e b there l.
        let o = same_begin.each p op e in
        let b' : Begins begun k o.0 = ap (λ z. access_at at (after span begun) z k 0) o.2 ∙ b ∙ ap Some (sym o.3) in
        h.each p k x o.0 row o.1 b' there l ∙ ap (λ z. Some (slot_of_access done z k x)) o.2;
  }

  module _ (done : List ℕ) (s k : ℕ) (d : ℕ) (ld : d < 2 * (n - 1)) (ops : List (Op R)) (stamps : List (Option Stamp))
      (place : ℕ → ℕ) (told : Told (done ++ s ∷ []) ops stamps place)
      (mine : Op R) (there : slice_get ops (place s) ≡ Some mine) (actor : mine.who ≡ s) (begun : Begins (done ++ s ∷ []) k mine) where
    -- the operation of the step is the only one of its number
    once_here : (p m : ℕ) (op : Op R) → slice_get ops p ≡ Some op → Begins (done ++ s ∷ []) m op → op.who ≡ s → m ≡ k → p ≡ place s
    once_here p m op e b w mk =
        let o = told.played.played.each p op e in
        let q = told.played.played.each (place s) mine there in
        let once : o.0 * a + 0 ≡ m * a + 0 = position_once at op.who (done ++ s ∷ []) (o.0 * a + 0) (m * a + 0) op.starts o.1.begins b in
        let om : o.0 ≡ m = same_operation_number a o.0 m 0 0 once (omega arith) (omega arith) in
        let once' : q.0 * a + 0 ≡ k * a + 0 =
        position_once at mine.who (done ++ s ∷ []) (q.0 * a + 0) (k * a + 0) mine.starts q.1.begins begun in
        let qk : q.0 ≡ k = same_operation_number a q.0 k 0 0 once' (omega arith) (omega arith) in
        let num : q.0 ≡ o.0 = qk ∙ sym mk ∙ sym om in
        operation_once at (after span (done ++ s ∷ [])) ops p (place s) o.0 op mine told.played.played e there (w ∙ sym actor) o.1
        (subst (λ z. IsOperation at (after span (done ++ s ∷ [])) z mine) num q.1)

    -- its number is k
    number_here : (m : ℕ) (op : Op R) → slice_get ops (place s) ≡ Some op → Begins (done ++ s ∷ []) m op → (op.who ≡ s) × (m ≡ k)
    number_here m op e b =
        let is : mine ≡ op = same_Some mine op (sym there ∙ e) in
        let b' : Begins (done ++ s ∷ []) m mine = subst (λ (z : Op R). Begins (done ++ s ∷ []) m z) (sym is) b in
        let once : m * a + 0 ≡ k * a + 0 = position_once at mine.who (done ++ s ∷ []) (m * a + 0) (k * a + 0) mine.starts b' begun in
        (ap (λ (z : Op R). z.who) (sym is) ∙ actor, same_operation_number a m k 0 0 once (omega arith) (omega arith))

    -- the rows after the step
    rows_after : (shown : Option ℕ) (slots : List (List (Option ℕ))) → Shows at span opening noise cut.at_least cut.accesses chosen
        (outcome_in at span opening noise) done s k d shown → HasRows (done ++ s ∷ []) done ops slots
        → HasRows (done ++ s ∷ []) (done ++ s ∷ []) ops (noted (place s) d shown slots)
    rows_after None slots shows h = record {
      long = h.long;
      wide = h.wide;
      each = λ p m x op row e b at_row l. h.each p m x op row e b at_row l ∙ ap Some (sym (quiet op.who m x));
    }
      where
        quiet : (i m x : ℕ) → slot_of_access (done ++ s ∷ []) i m x ≡ slot_of_access done i m x
        quiet i m x = elim (cases_eq i s) [
          | inr ne ↦ shows.elsewhere i m x (λ e. absurd (ne e))
          | inl is ↦ elim (cases_eq m k) [
            | inr ne ↦ shows.elsewhere i m x (λ e f. absurd (ne f))
            | inl mk ↦ elim (cases_eq x d) [
              | inr ne ↦ shows.elsewhere i m x (λ e f. ne)
              | inl xd ↦
                  ap (λ z. slot_of_access (done ++ s ∷ []) z m x) is ∙ ap (λ z. slot_of_access (done ++ s ∷ []) s z x) mk
                  ∙ ap (λ z. slot_of_access (done ++ s ∷ []) s k z) xd
                  ∙ shows.none refl
                  ∙ ap (λ z. slot_of_access done s k z) (sym xd) ∙ ap (λ z. slot_of_access done s z x) (sym mk)
                  ∙ ap (λ z. slot_of_access done z m x) (sym is)
            ]
          ]
        ]
    rows_after (Some v) slots shows h =
        let l : place s < length slots =
        let w = slice_get_within ops (place s) mine there in
        let e : length slots ≡ length ops = h.long in
        omega arith in
        let row = get_exists slots (place s) l in
        let wide_row : length row.0 ≡ 2 * (n - 1) = h.wide (place s) row.0 row.1 in
        let is : noted (place s) d (Some v) slots ≡ set slots (place s) (set row.0 d (Some v)) = notes (place s) d v slots row.0 row.1 in
        let x : HasRows (done ++ s ∷ []) (done ++ s ∷ []) ops (set slots (place s) (set row.0 d (Some v))) = record {
          long = length-set slots (place s) (set row.0 d (Some v)) ∙ h.long;
          wide = λ p r e. elim (get_set slots (place s) p (set row.0 d (Some v)) r e) [
            | inl w ↦ ap length w.1 ∙ length-set row.0 d (Some v) ∙ wide_row
            | inr w ↦ h.wide p r w.1
          ];
          each = λ p m x op r e b at_row lx. elim (get_set slots (place s) p (set row.0 d (Some v)) r at_row) [
            | inr w ↦
                h.each p m x op r e b w.1 lx
                ∙ ap Some (sym (shows.elsewhere op.who m x (λ ws mk. absurd (w.0 (once_here p m op e b ws mk)))))
            | inl w ↦
                let e' : slice_get ops (place s) ≡ Some op = ap (slice_get ops) (sym w.0) ∙ e in
                let num = number_here m op e' b in
                elim (cases_eq x d) [
                  | inl xd ↦
                      ap (λ z. slice_get z x) w.1 ∙ ap (slice_get (set row.0 d (Some v))) xd ∙ get_set_same row.0 d (Some v) (omega arith)
                      ∙ ap Some (sym (ap (λ z. slot_of_access (done ++ s ∷ []) z m x) num.0 ∙ ap (λ z. slot_of_access (done ++ s ∷ []) s z
                      x) num.1 ∙ ap (λ z. slot_of_access (done ++ s ∷ []) s k z) xd ∙ shows.some v refl))
                  | inr ne ↦
                      ap (λ z. slice_get z x) w.1
                      ∙ get_set_other row.0 d x (Some v) (slot_of_access done op.who m x) ne (h.each (place s) m x op row.0 e' b row.1 lx)
                      ∙ ap Some (sym (shows.elsewhere op.who m x (λ ws mk. ne)))
                ]
          ];
        } in
        subst (λ z. HasRows (done ++ s ∷ []) (done ++ s ∷ []) ops z) (sym is) x

  -- a step of a process whose operation has its place, where this is what it makes of the operations
  module _ (done rest : List ℕ) (s k r : ℕ) (whole : span.steps ≡ done ++ s ∷ rest) (mid : BoardPlaying R) (line : Progress R)
      (place : ℕ → ℕ) (is_at : At done (board_after span opening noise done))
      (unseen : (i m x : ℕ) → steps_of i done ≤ m * a → slot_of_access done i m x ≡ None) (m : IsMid done s k r place mid) where
    abbrev w : Wish R
    w = wish_after span done s

    abbrev b : Board R
    b = board_after span opening noise done

    abbrev next : List ℕ
    next = done ++ s ∷ []

    -- its progress before the step
    pub line_before : (line : Progress R) × (slice_get b.lines s ≡ Some line)
    line_before = let sz : board_size b ≡ n = is_at.size in let ls : s < n = m.inside in get_exists b.lines s (omega arith)

    pub at_before : IsLineAt at span opening noise cut.at_least cut.accesses chosen (outcome_in at span opening noise) done s line_before.0
    at_before = is_at.lines s line_before.0 line_before.1

    pub same_k : at_before.k ≡ k
    same_k =
        let c : steps_of s done ≡ at_before.k * a + at_before.r = at_before.steps in
        let e : steps_of s done ≡ k * a + r = m.steps in
        same_operation_number a at_before.k k at_before.r r (sym c ∙ e) at_before.inside m.small

    pub same_r : at_before.r ≡ r
    same_r =
        let c : steps_of s done ≡ at_before.k * a + at_before.r = at_before.steps in
        let e : steps_of s done ≡ k * a + r = m.steps in
        let mul : at_before.k * a ≡ k * a = ap (λ z. z * a) same_k in
        omega arith

    access_is : r / 5 ≡ line_before.0.done
    access_is =
        let lo : line_before.0.done * 5 ≤ at_before.r = at_before.low in
        let hi : at_before.r < line_before.0.done * 5 + 5 = at_before.high in
        let e : at_before.r ≡ r = same_r in
        omega arith

    access_small : line_before.0.done < 2 * (n - 1)
    access_small =
        let lo : line_before.0.done * 5 ≤ at_before.r = at_before.low in
        let l : at_before.r < a = at_before.inside in
        let acc : a ≡ (2 * (n - 1)) * 5 = cut.accesses in
        omega arith

    pub shows : Shows at span opening noise cut.at_least cut.accesses chosen (outcome_in at span opening noise) done s k
        line_before.0.done (slot_of b s)
    shows = subst (λ z. Shows at span opening noise cut.at_least cut.accesses chosen (outcome_in at span opening noise) done s z
        line_before.0.done (slot_of b s)) same_k
        (step_shows at span opening noise cut.at_least cut.accesses chosen (outcome_in at span opening noise) done s b w line_before.0
        m.inside is_at line_before.1 at_before
        (wished_by at span opening noise cut left done rest s whole) (picks_by at span opening noise cut left done rest s whole))

    -- the board after the step
    pub board_next : board_after span opening noise next ≡ after_event b s w
    board_next = board_more at span opening noise cut left [] (opening_board n span.limit opening noise) done s

    pub at_next : At next (board_after span opening noise next)
    at_next = one_more at span opening noise cut left done rest s whole is_at

    -- no operation that hasn't begun has a slot
    unseen_next : (i j x : ℕ) → steps_of i next ≤ j * a → slot_of_access next i j x ≡ None
    unseen_next i j x le = elim (cases_eq i s) [
      | inr ne ↦
          let e : steps_of i next ≡ steps_of i done = steps_other i s done (λ z. ne (sym z)) in
          shows.elsewhere i j x (λ z. absurd (ne z)) ∙ unseen i j x (omega arith)
      | inl is ↦
          let e : steps_of i next ≡ steps_of s done + 1 = ap (λ z. steps_of z next) is ∙ steps_mine s done in
          let c : steps_of s done ≡ k * a + r = m.steps in
          let o : steps_of i done ≡ steps_of s done = ap (λ z. steps_of z done) is in
          shows.elsewhere i j x (λ z jk. absurd (let mul : j * a ≡ k * a = ap (λ y. y * a) jk in omega arith)) ∙ unseen i j x (omega arith)
    ]

    -- the seats after it
    seat_next : (who : ℕ) → who < n → IsSeat next who (place who)
        (board_seat (record mid { seats = set mid.seats s (next_seat (length mid.seats) (board_seat mid s)) }) who)
    seat_next who l = elim (cases_eq who s) [
      | inr ne ↦
          let o : IsSeat done who (place who) (board_seat mid who) = m.others who l ne in
          subst (λ (z : BoardSeat). IsSeat next who (place who) z)
          (sym (get_or-set_other mid.seats s who (next_seat (length mid.seats) (board_seat mid s)) first_board_seat ne))
          (record { steps = steps_other who s done (λ z. ne (sym z)) ∙ o.steps; inside = o.inside; placed = o.placed })
      | inl is ↦
          let ls : s < length mid.seats = let e : length mid.seats ≡ n = m.seats in omega arith in
          let seat : BoardSeat = board_seat mid s in
          let e : steps_of s next ≡ steps_of s done + 1 = steps_mine s done in
          let c : steps_of s done ≡ k * a + r = m.steps in
          let mr : seat.made ≡ r = m.made in
          let mk : seat.operation ≡ k = m.operation in
          let acc : a ≡ (2 * (n - 1)) * 5 = cut.accesses in
          let ln : length mid.seats ≡ n = m.seats in
          let lr : r < a = m.small in
          let x : IsSeat next s (place s) (next_seat (length mid.seats) seat) =
          elim (cases_eq (seat.made + 1) (board_accesses (length mid.seats))) [
            | inl full ↦
                let is' : next_seat (length mid.seats) seat ≡ record { place = seat.place; operation = seat.operation + 1; made = 0 }
                = ap (λ (t : Bool).
                let y : BoardSeat = if t then record {
                  place = seat.place;
                  operation = seat.operation + 1;
                  made = 0;
                } else record { place = seat.place; operation = seat.operation; made = seat.made + 1 } in
                y) (same (seat.made + 1) (board_accesses (length mid.seats)) full) in
                let up : (seat.operation + 1) * a ≡ seat.operation * a + a = omega arith in
                let mul : seat.operation * a ≡ k * a = ap (λ z. z * a) mk in
                subst (λ (z : BoardSeat). IsSeat next s (place s) z) (sym is') (record {
                  steps = omega arith;
                  inside = omega arith;
                  placed = m.placed;
                })
            | inr not_full ↦
                let is' : next_seat (length mid.seats) seat ≡ record {
                  place = seat.place;
                  operation = seat.operation;
                  made = seat.made + 1;
                }
                = ap (λ (t : Bool).
                let y : BoardSeat = if t then record {
                  place = seat.place;
                  operation = seat.operation + 1;
                  made = 0;
                } else record { place = seat.place; operation = seat.operation; made = seat.made + 1 } in
                y) (not_same (seat.made + 1) (board_accesses (length mid.seats)) not_full) in
                let mul : seat.operation * a ≡ k * a = ap (λ z. z * a) mk in
                let less : seat.made + 1 ≢ a = λ z. not_full (omega arith) in
                subst (λ (z : BoardSeat). IsSeat next s (place s) z) (sym is') (record {
                  steps = omega arith;
                  inside = omega arith;
                  placed = m.placed;
                })
          ] in
          subst (λ z. IsSeat next z (place z)
          (board_seat (record mid { seats = set mid.seats s (next_seat (length mid.seats) (board_seat mid s)) }) z)) (sym is)
          (subst (λ (z : BoardSeat). IsSeat next s (place s) z)
          (sym (get_or-set_same mid.seats s (next_seat (length mid.seats) (board_seat mid s)) first_board_seat ls)) x)
    ]

    pub finish : (ops : List (Op R)) (stamps : List (Option Stamp)) → told_ops (length mid.seats) (board_seat mid s) mid.now line mid.ops
        ≡ ops → told_stamps (length mid.seats) (board_seat mid s) line mid.stamps ≡ stamps
        → Told next ops stamps place → BeginAs mid.ops ops → (mine : Op R) → slice_get ops (place s) ≡ Some mine →
        mine.who ≡ s → Begins next k mine
        → IsBoardSoFar next (moved mid s w (Some line))
    finish ops stamps eo es told same_begin mine there actor begun = record {
      board = ap (λ (z : Board R). after_event z s w) m.board ∙ sym board_next;
      is_at = at_next;
      now = let e : mid.now ≡ at + length done = m.now in let l : length next ≡ length done + 1 = length_push done s in omega arith;
      seats = length-set mid.seats s (next_seat (length mid.seats) (board_seat mid s)) ∙ m.seats;
      place = place;
      each = seat_next;
      told = subst (λ z. Told next z (told_stamps (length mid.seats) (board_seat mid s) line mid.stamps) place) (sym eo)
          (subst (λ z. Told next ops z place) (sym es) told);
      rows =
          let x : HasRows next next ops (noted (place s) line_before.0.done (slot_of b s) mid.slots)
          = rows_after done s k line_before.0.done access_small ops stamps place told mine there actor begun (slot_of b s) mid.slots shows
          (rows_as next done mid.ops ops mid.slots same_begin m.rows) in
          let acc : (board_seat mid s).made / 5 ≡ line_before.0.done = ap (λ z. z / 5) m.made ∙ access_is in
          let sl : slot_of mid.board s ≡ slot_of b s = ap (λ (z : Board R). slot_of z s) m.board in
          let e : noted (board_seat mid s).place ((board_seat mid s).made / 5) (slot_of mid.board s) mid.slots
          ≡ noted (place s) line_before.0.done (slot_of b s) mid.slots
          = ap (λ p. noted p ((board_seat mid s).made / 5) (slot_of mid.board s) mid.slots) m.placed
          ∙ ap (λ p. noted (place s) p (slot_of mid.board s) mid.slots) acc
          ∙ ap (λ p. noted (place s) line_before.0.done p mid.slots) sl in
          subst (λ z.
          HasRows next next z (noted (board_seat mid s).place ((board_seat mid s).made / 5) (slot_of mid.board s) mid.slots)) (sym eo)
          (subst (λ z. HasRows next next ops z) (sym e) x);
      unseen = unseen_next;
    }

  -- one step of a process that has an operation left
  module _ (done rest : List ℕ) (s : ℕ) (whole : span.steps ≡ done ++ s ∷ rest) (play : BoardPlaying R)
      (g : IsBoardSoFar done play) (ls : s < n) where
    abbrev seat : BoardSeat
    seat = board_seat play s

    abbrev k : ℕ
    k = (board_seat play s).operation

    abbrev r : ℕ
    r = (board_seat play s).made

    abbrev wish : Wish R
    wish = wish_after span done s

    abbrev then_it : List ℕ
    then_it = done ++ s ∷ []

    steps_now : steps_of s done ≡ k * a + r
    steps_now = (g.each s ls).steps

    made_small : r < a
    made_small = (g.each s ls).inside

    -- what the operation is to do
    wish_is : planned span s k ≡ Some wish
    wish_is =
        let p = planned_next span done rest s k r whole (left (length done)) steps_now made_small in
        let num : steps_of s done / a ≡ k = operation_number a (steps_of s done) k r steps_now made_small in
        p.1 ∙ ap Some (sym (ap wish_or_read (ap (planned span s) num ∙ p.1)))

    -- after the step
    at_then : At then_it (board_after span opening noise then_it)
    at_then = one_more at span opening noise cut left done rest s whole g.is_at

    line_then : (line : Progress R) × (slice_get (after_event play.board s wish).lines s ≡ Some line)
        × (slice_get (board_after span opening noise then_it).lines s ≡ Some line)
    line_then =
        let sz : board_size (board_after span opening noise then_it) ≡ n = at_then.size in
        let x = get_exists (board_after span opening noise then_it).lines s (omega arith) in
        let e : board_after span opening noise then_it ≡ after_event (board_after span opening noise done) s wish =
        board_more at span opening noise cut left [] (opening_board n span.limit opening noise) done s in
        (x.0, ap (λ (z : Board R). slice_get z.lines s) (ap (λ (z : Board R). after_event z s wish) g.board ∙ sym e) ∙ x.1, x.1)

    steps_then : steps_of s then_it ≡ k * a + (r + 1)
    steps_then = let e : steps_of s then_it ≡ steps_of s done + 1 = steps_mine s done in let c = steps_now in omega arith

    -- the first step of an operation
    opens_it : r ≡ 0 → IsBoardSoFar then_it (happened (opened play s wish) s wish)
    opens_it z =
        let mid : BoardPlaying R = opened play s wish in
        let new : Op R = begun_op s play.now wish in
        let is : IsBegun s play.now wish new = begun_is s play.now wish in
        let row : List (Option ℕ) = replicate (2 * (length play.seats - 1)) None in
        let ln : length play.seats ≡ n = g.seats in
        let c0 : steps_of s done ≡ k * a = let c = steps_now in omega arith in
        let se : board_seat mid s ≡ record { place = length play.ops; operation = k; made = 0 } = opened_seat play s wish (omega arith) in
        let place : ℕ → ℕ = λ w. if nat_eq w s then length play.ops else g.place w in
        let place_s : place s ≡ length play.ops = ap (λ (t : Bool). if t then length play.ops else g.place s) (same s s refl) in
        let place_w : (w : ℕ) → w ≢ s → place w ≡ g.place w =
        λ w ne. ap (λ (t : Bool). if t then length play.ops else g.place w) (not_same w s ne) in
        let acc : a ≡ (2 * (n - 1)) * 5 = cut.accesses in
        let two : 2 ≤ n = cut.at_least in
        let long_rows : length play.slots ≡ length play.ops = g.rows.long in
        let new_begins : Begins then_it k new = ap (λ v. access_at at (after span then_it) v k 0) is.actor
        ∙ position_new at s done (k * a + 0) (omega arith) ∙ ap Some (sym (is.starts ∙ g.now)) in
        let rows : HasRows then_it done mid.ops mid.slots = record {
          long = length_push play.slots row ∙ ap (λ q. q + 1) long_rows ∙ sym (length_push play.ops new);
          wide = λ p ro e. elim (get_pushed_cases play.slots row p ro e) [
            | inl old ↦ g.rows.wide p ro old
            | inr w ↦ ap length (sym w.1) ∙ length-replicate (2 * (length play.seats - 1)) None ∙ ap (λ q. 2 * (q - 1)) ln
          ];
          each = λ p q x op ro e b there l. elim (get_pushed_cases play.ops new p op e) [
            | inl old ↦ elim (get_pushed_cases play.slots row p ro there) [
              | inl old_row ↦ g.rows.each p q x op ro old
                  (begins_before at span ch high chosen kinds done s play.ops p q op g.told.played.played old b) old_row l
              | inr v ↦ absurd (let y = slice_get_within play.ops p op old in let pl : p ≡ length play.slots = v.0 in omega arith)
            ]
            | inr v ↦ elim (get_pushed_cases play.slots row p ro there) [
              | inl old_row ↦ absurd (let y = slice_get_within play.slots p ro old_row in let pl : p ≡ length play.ops = v.0 in omega arith)
              | inr u ↦
                  let who : op.who ≡ s = ap (λ (y : Op R). y.who) (sym v.1) ∙ is.actor in
                  let b' : Begins then_it q new = subst (λ (y : Op R). Begins then_it q y) (sym v.1) b in
                  let once : q * a + 0 ≡ k * a + 0 = position_once at new.who then_it (q * a + 0) (k * a + 0) new.starts b' new_begins in
                  let qk : q ≡ k = same_operation_number a q k 0 0 once (omega arith) (omega arith) in
                  let there' = get_exists row x (let e : length row ≡ 2 * (length play.seats - 1) =
                  length-replicate (2 * (length play.seats - 1)) None in omega arith) in
                  ap (λ z. slice_get z x) (sym u.1) ∙ there'.1
                  ∙ ap Some (get_replicate (2 * (length play.seats - 1)) x None there'.0 there'.1)
                  ∙ ap Some (sym (ap (λ z. slot_of_access done z q x) who ∙ ap (λ z. slot_of_access done s z x) qk
                  ∙ g.unseen s k x (omega arith)))
            ]
          ];
        } in
        let m : IsMid done s k 0 place mid = record {
          board = g.board;
          now = g.now;
          seats = length-set play.seats s _ ∙ g.seats;
          inside = ls;
          operation = ap (λ (y : BoardSeat). y.operation) se;
          made = ap (λ (y : BoardSeat). y.made) se;
          placed = ap (λ (y : BoardSeat). y.place) se ∙ sym place_s;
          steps = omega arith;
          small = omega arith;
          others = λ w l ne. subst (λ p. IsSeat done w p (board_seat mid w)) (sym (place_w w ne))
              (subst (λ (y : BoardSeat). IsSeat done w (g.place w) y) (sym (get_or-set_other play.seats s w
              (record { place = length play.ops; operation = k; made = 0 }) first_board_seat ne)) (g.each w l));
          rows = rows;
        } in
        let follows : Follows (planned span new.who k) new =
        subst (λ (o : Option (Wish R)). Follows o new) (sym (ap (λ v. planned span v k) is.actor ∙ wish_is)) is.follows in
        let told0 : Told (done ++ new.who ∷ []) (play.ops ++ new ∷ []) (play.stamps ++ None ∷ []) place
        = told_begins at span ch high chosen kinds done play.ops play.stamps g.place g.told low place k new
        (ap (λ v. steps_of v done) is.actor ∙ c0) (is.starts ∙ g.now) is.unfinished follows
        (ap place is.actor ∙ place_s) (λ w ne. place_w w (λ e. ne (e ∙ sym is.actor))) is.unrefused is.bare in
        let told' : Told then_it (play.ops ++ new ∷ []) (play.stamps ++ None ∷ []) place =
        subst (λ v. Told (done ++ v ∷ []) (play.ops ++ new ∷ []) (play.stamps ++ None ∷ []) place) is.actor told0 in
        let made0 : (board_seat mid s).made ≡ 0 = m.made in
        let lm : length mid.seats ≡ n = m.seats in
        let not_ch : (board_seat mid s).made ≢ choosing (length mid.seats) = λ e. omega arith in
        let not_end : (board_seat mid s).made + 1 ≢ board_accesses (length mid.seats) = λ e. omega arith in
        subst (λ (p : BoardPlaying R). IsBoardSoFar then_it p) (sym (happens mid s wish line_then.0 line_then.1))
        (finish done rest s k 0 whole mid line_then.0 place g.is_at g.unseen m (play.ops ++ new ∷ []) (play.stamps ++ None ∷ [])
        (tells_nothing (length mid.seats) (board_seat mid s) mid.now line_then.0 mid.ops not_ch not_end)
        (tells_no_stamp (length mid.seats) (board_seat mid s) line_then.0 mid.stamps not_ch)
        told' (begin_same (play.ops ++ new ∷ [])) new (get_last play.ops new (place s) place_s) is.actor new_begins)

    -- any later one
    module _ (pos : 0 < r) where
      way : IsUnderWay at (after span done) k s play.ops (g.place s)
      way = g.told.played.under_way s k r steps_now pos made_small

      mid_is : IsMid done s k r g.place play
      mid_is = record {
        board = g.board;
        now = g.now;
        seats = g.seats;
        inside = ls;
        operation = refl;
        made = refl;
        placed = (g.each s ls).placed;
        steps = steps_now;
        small = made_small;
        others = λ w l ne. g.each w l;
        rows = record {
          long = g.rows.long;
          wide = g.rows.wide;
          each = λ p q x op ro e b there l. g.rows.each p q x op ro e
              (begins_before at span ch high chosen kinds done s play.ops p q op g.told.played.played e b) there l;
        };
      }

      way_follows : Follows (Some wish) way.op
      way_follows = subst (λ (o : Option (Wish R)). Follows o way.op) (ap (λ v. planned span v k) way.actor ∙ wish_is) way.operation.follows

      way_begins : Begins then_it k way.op
      way_begins = position_stays at way.op.who s done (k * a + 0) way.op.starts way.operation.begins

      here_placed : seat.place ≡ g.place s
      here_placed = (g.each s ls).placed

      way_there : slice_get play.ops seat.place ≡ Some way.op
      way_there = ap (slice_get play.ops) here_placed ∙ way.there

      same_length : length play.seats ≡ n
      same_length = g.seats

      goes_further : r ≢ ch → r + 1 ≢ a → IsBoardSoFar then_it (happened play s wish)
      goes_further not_ch not_end =
          let ln : length play.seats ≡ n = g.seats in
          let acc : a ≡ (2 * (n - 1)) * 5 = cut.accesses in
          let nc : seat.made ≢ choosing (length play.seats) = λ e. not_ch (e ∙ ap choosing ln) in
          let ne : seat.made + 1 ≢ board_accesses (length play.seats) = λ e. not_end (omega arith) in
          subst (λ (p : BoardPlaying R). IsBoardSoFar then_it p) (sym (happens play s wish line_then.0 line_then.1))
          (finish done rest s k r whole play line_then.0 g.place g.is_at g.unseen mid_is play.ops play.stamps
          (tells_nothing (length play.seats) seat play.now line_then.0 play.ops nc ne)
          (tells_no_stamp (length play.seats) seat line_then.0 play.stamps nc)
          (told_goes_on at span ch high chosen kinds done play.ops play.stamps g.place g.told s k r steps_now pos (let l = made_small in
          omega arith) not_ch)
          (begin_same play.ops) way.op way.there way.actor way_begins)

      chooses_it : r ≡ ch → IsBoardSoFar then_it (happened play s wish)
      chooses_it now =
          let ln : length play.seats ≡ n = g.seats in
          let line : Progress R = line_then.0 in
          let al : IsLineAt at span opening noise cut.at_least cut.accesses chosen (outcome_in at span opening noise) then_it s line =
          at_then.lines s line line_then.2 in
          let ca : steps_of s then_it ≡ al.k * a + al.r = al.steps in
          let cb : steps_of s then_it ≡ k * a + (r + 1) = steps_then in
          let kk : al.k ≡ k = same_operation_number a al.k k al.r (r + 1) (sym ca ∙ cb) al.inside (omega arith) in
          let mul : al.k * a ≡ k * a = ap (λ v. v * a) kk in
          let rr : ch < al.r = omega arith in
          let own : line.own ≡ chosen s k = al.late rr ∙ ap (chosen s) kk in
          let out : line.outcome ≡ outcome_in at span opening noise s k = al.outcome rr ∙ ap (outcome_in at span opening noise s) kk in
          let saw : Saw at span opening noise cut.at_least cut.accesses chosen (outcome_in at span opening noise) then_it s k =
          at_then.saws s k (omega arith) in
          let sw : wish ≡ saw.line.wish = same_Some wish saw.line.wish (sym wish_is ∙ saw.wish) in
          let o : Outcome R = (choice span.limit s saw.line.wish saw.line).outcome in
          let out_is : line.outcome ≡ o = out ∙ saw.outcome in
          let op : Op R = chose o way.op in
          let c : IsChoosing saw.line.wish (choice span.limit s saw.line.wish saw.line).own (kind_of o) op =
          choosing_is span.limit s saw.line.wish saw.line way.op (subst (λ v. Follows (Some v) way.op) sw way_follows)
          (g.told.unrefused (g.place s) k way.op way.there way.operation.begins
          (let v : steps_of way.op.who done ≡ steps_of s done = ap (λ y. steps_of y done) way.actor in
          let q = steps_now in
          omega arith)) (g.told.unfinished (g.place s) way.op way.there way.unfinished) in
          let is : IsReplaced play.ops (set play.ops (g.place s) op) (g.place s) op =
          replaced_by_set play.ops (g.place s) way.op op way.there (chose_who o way.op) (chose_starts o way.op) in
          let ls_stamps : g.place s < length play.stamps =
          let v = slice_get_within play.ops (g.place s) way.op way.there in
          let e : length play.stamps ≡ length play.ops = g.told.long in
          omega arith in
          let old = get_exists play.stamps (g.place s) ls_stamps in
          let stamp : Option Stamp = Some (chosen s k).stamp in
          let told' : Told then_it (set play.ops (g.place s) op) (set play.stamps (g.place s) stamp) g.place
          = told_chooses at span ch high chosen kinds done play.ops play.stamps g.place g.told s k r steps_now pos made_small
          (set play.ops (g.place s) op) op is (set play.stamps (g.place s) stamp) now
          (chose_ends o way.op ∙ way.unfinished) (subst (λ (v : Option (Wish R)). Follows v op) (sym saw.wish) c.follows)
          (length-set play.stamps (g.place s) stamp ∙ g.told.long ∙ sym (length-set play.ops (g.place s) op))
          (get_set_same play.stamps (g.place s) stamp ls_stamps) (λ q ne. get_set_else play.stamps (g.place s) q stamp ne)
          (c.same_kind ∙ ap kind_of (sym saw.outcome)) (λ e. c.written e ∙ ap (λ (v : Stamped R). Some v.item) (sym saw.chose)) c.bare in
          let mc : seat.made ≡ choosing (length play.seats) = now ∙ ap choosing (sym ln) in
          let eo : told_ops (length play.seats) seat play.now line play.ops ≡ set play.ops (g.place s) op
          = tells_choice (length play.seats) seat play.now line play.ops way.op mc way_there
          ∙ ap (λ v. set play.ops v (chose line.outcome way.op)) here_placed
          ∙ ap (λ v. set play.ops (g.place s) (chose v way.op)) out_is in
          let es : told_stamps (length play.seats) seat line play.stamps ≡ set play.stamps (g.place s) stamp
          = tells_stamp (length play.seats) seat line play.stamps old.0 mc (ap (slice_get play.stamps) here_placed ∙ old.1)
          ∙ ap (λ v. set play.stamps v (Some line.own.stamp)) here_placed
          ∙ ap (λ (v : Stamped R). set play.stamps (g.place s) (Some v.stamp)) own in
          subst (λ (p : BoardPlaying R). IsBoardSoFar then_it p) (sym (happens play s wish line line_then.1))
          (finish done rest s k r whole play line g.place g.is_at g.unseen mid_is (set play.ops (g.place s) op)
          (set play.stamps (g.place s) stamp) eo es told'
          (begin_set play.ops (g.place s) way.op op way.there (chose_who o way.op) (chose_starts o way.op)) op is.here
          (chose_who o way.op ∙ way.actor)
          (ap (λ v. access_at at (after span then_it) v k 0) (chose_who o way.op) ∙ way_begins ∙ ap Some (sym (chose_starts o way.op))))

      ends_it : r + 1 ≡ a → IsBoardSoFar then_it (happened play s wish)
      ends_it full =
          let ln : length play.seats ≡ n = g.seats in
          let acc : a ≡ (2 * (n - 1)) * 5 = cut.accesses in
          let two : 2 ≤ n = cut.at_least in
          let line : Progress R = line_then.0 in
          let before = line_before done rest s k r whole play line g.place g.is_at g.unseen mid_is in
          let bl = at_before done rest s k r whole play line g.place g.is_at g.unseen mid_is in
          let bk : bl.k ≡ k = same_k done rest s k r whole play line g.place g.is_at g.unseen mid_is in
          let br : bl.r ≡ r = same_r done rest s k r whole play line g.place g.is_at g.unseen mid_is in
          let late : ch < bl.r = omega arith in
          let out0 : before.0.outcome ≡ outcome_in at span opening noise s k =
          bl.outcome late ∙ ap (outcome_in at span opening noise s) bk in
          let row : n ≤ before.0.done + 1 = let hi : bl.r < before.0.done * 5 + 5 = bl.high in omega arith in
          let lo : before.0.done * 5 ≤ bl.r = bl.low in
          let l_in : before.0.done + 1 - n + 1 < n = omega arith in
          let to : ℕ = other s (before.0.done + 1 - n) in
          let sz : board_size (board_after span opening noise done) ≡ n = g.is_at.size in
          let cell_there = g.is_at.cells s to ls (other_inside n s (before.0.done + 1 - n) ls l_in)
          (λ e. other_differs s (before.0.done + 1 - n) (sym e)) in
          let stays : line.outcome ≡ before.0.outcome =
          outcome_stays (board_after span opening noise done) s wish before.0 line _ before.1 (omega arith)
          (ap (λ z. slice_get (board_after span opening noise done).cells (cell_place z s (other s (before.0.done + 1 - z)))) sz
          ∙ cell_there) (ap (λ (z : Board R). slice_get (after_event z s wish).lines s) (sym g.board) ∙ line_then.1) in
          let saw : Saw at span opening noise cut.at_least cut.accesses chosen (outcome_in at span opening noise) done s k =
          g.is_at.saws s k (let q = steps_now in omega arith) in
          let sw : wish ≡ saw.line.wish = same_Some wish saw.line.wish (sym wish_is ∙ saw.wish) in
          let o : Outcome R = (choice span.limit s saw.line.wish saw.line).outcome in
          let out_is : line.outcome ≡ o = stays ∙ out0 ∙ saw.outcome in
          let op : Op R = ended play.now o way.op in
          let t = g.told.told (g.place s) k way.op way.there way.operation.begins (let v : steps_of way.op.who done ≡ steps_of s done =
          ap (λ y. steps_of y done) way.actor in let q = steps_now in omega arith) in
          let kind_is : way.op.kind ≡ kind_of o =
          t.same_kind ∙ ap (λ v. kind_of (outcome_in at span opening noise v k)) way.actor ∙ ap kind_of saw.outcome in
          let c : IsEnding saw.line.wish (choice span.limit s saw.line.wish saw.line).own way.op op =
          ending_is span.limit s play.now saw.line.wish saw.line way.op (subst (λ v. Follows (Some v) way.op) sw way_follows) kind_is
          (λ e. t.item e ∙ ap (λ v. Some (chosen v k).item) way.actor ∙ ap (λ (v : Stamped R). Some v.item) saw.chose) in
          let is : IsReplaced play.ops (set play.ops (g.place s) op) (g.place s) op =
          replaced_by_set play.ops (g.place s) way.op op way.there (ended_who play.now o way.op) (ended_starts play.now o way.op) in
          let same_way = same_Some way.op (told_way at span ch high chosen kinds done play.ops play.stamps g.place g.told s k r steps_now
          pos made_small (set play.ops (g.place s) op) op is).op
          (sym way.there ∙ (told_way at span ch high chosen kinds done play.ops play.stamps g.place g.told s k r steps_now pos made_small
          (set play.ops (g.place s) op) op is).there) in
          let told' : Told then_it (set play.ops (g.place s) op) play.stamps g.place
          = told_ends at span ch high chosen kinds done play.ops play.stamps g.place g.told s k r steps_now pos made_small
          (set play.ops (g.place s) op) op is full
          (ended_ends play.now o way.op ∙ ap Some g.now) (c.same_kind ∙ ap (λ (v : Op R). v.kind) same_way)
          (λ e. c.kept e ∙ ap (λ (v : Op R). v.item) same_way) (subst (λ (v : Option (Wish R)). Follows v op) (sym saw.wish) c.follows)
          (length-set play.ops (g.place s) op)
          (c.item ∙ ap (λ (v : Stamped R). Some v.item) (sym saw.chose)) in
          let nc : seat.made ≢ choosing (length play.seats) = λ e.
          let q : choosing (length play.seats) ≡ ch = ap choosing ln in
          omega arith in
          let me : seat.made + 1 ≡ board_accesses (length play.seats) = omega arith in
          let eo : told_ops (length play.seats) seat play.now line play.ops ≡ set play.ops (g.place s) op
          = tells_end (length play.seats) seat play.now line play.ops way.op nc me way_there
          ∙ ap (λ v. set play.ops v (ended play.now line.outcome way.op)) here_placed
          ∙ ap (λ v. set play.ops (g.place s) (ended play.now v way.op)) out_is in
          subst (λ (p : BoardPlaying R). IsBoardSoFar then_it p) (sym (happens play s wish line line_then.1))
          (finish done rest s k r whole play line g.place g.is_at g.unseen mid_is (set play.ops (g.place s) op) play.stamps eo
          (tells_no_stamp (length play.seats) seat line play.stamps nc) told'
          (begin_set play.ops (g.place s) way.op op way.there (ended_who play.now o way.op) (ended_starts play.now o way.op)) op is.here
          (ended_who play.now o way.op ∙ way.actor)
          (ap (λ v. access_at at (after span then_it) v k 0) (ended_who play.now o way.op) ∙ way_begins
          ∙ ap Some (sym (ended_starts play.now o way.op))))

    pub one_step : IsBoardSoFar then_it (after_board_step span.plans play s)
    one_step =
        subst (λ (p : BoardPlaying R). IsBoardSoFar then_it p) (sym (step_plays play s wish span.plans wish_is))
        (elim (cases_eq r 0) [
          | inl z ↦ subst (λ (p : BoardPlaying R). IsBoardSoFar then_it (happened p s wish)) (sym (opens play s wish z)) (opens_it z)
          | inr nz ↦
              let pos : 0 < r = omega arith in
              subst (λ (p : BoardPlaying R). IsBoardSoFar then_it (happened p s wish))
              (sym (goes_on play s wish pos)) (elim (cases_eq r ch) [
                | inl now ↦ chooses_it pos now
                | inr not_ch ↦ elim (cases_eq (r + 1) a) [
                  | inl full ↦ ends_it pos full
                  | inr not_end ↦ goes_further pos not_ch not_end
                ]
              ])
        ])

  -- before the first step
  pub opens_play : IsBoardSoFar [] (opening_board_play n span.limit opening noise at)
  opens_play = record {
    board = refl;
    is_at = at_first at span opening noise cut left;
    now = omega arith;
    seats = length-replicate n first_board_seat;
    place = λ w. 0;
    each = λ who l.
        let e : board_seat (opening_board_play n span.limit opening noise at) who ≡ first_board_seat =
        get_or-replicate n who first_board_seat first_board_seat l in
        subst (λ (z : BoardSeat). IsSeat [] who 0 z) (sym e) (record { steps = omega arith; inside = omega arith; placed = refl });
    told = nothing_told at span ch high chosen kinds (λ w. 0) (nothing_played at span (λ w. 0));
    rows = record { long = refl; wide = λ p row e. absurd (none-some row e); each = λ p q x op row e b there l. absurd (none-some op e) };
    unseen = λ i j x l. elim (cases_Bool (nat_lt x (n - 1))) [
      | inl t ↦ ap (λ (c : Bool). if c then slice_get (cell at span opening noise cut.at_least cut.accesses chosen
          (outcome_in at span opening noise) (other i x) i []).read_slots j else slice_get (cell at span opening noise cut.at_least
          cut.accesses chosen (outcome_in at span opening noise) i (other i (x - (n - 1))) []).write_slots j) t
      | inr t ↦ ap (λ (c : Bool). if c then slice_get (cell at span opening noise cut.at_least cut.accesses chosen
          (outcome_in at span opening noise) (other i x) i []).read_slots j else slice_get (cell at span opening noise cut.at_least
          cut.accesses chosen (outcome_in at span opening noise) i (other i (x - (n - 1))) []).write_slots j) t
    ];
  }

  -- the whole term
  pub term_plays : IsBoardSoFar span.steps
      (fold (after_board_step span.plans) (opening_board_play n span.limit opening noise at) span.steps)
  term_plays = fold_keeps_all (λ done play. IsBoardSoFar done play) (after_board_step span.plans)
      (opening_board_play n span.limit opening noise at) span.steps opens_play
      (λ done rest play s whole g. one_step done rest s whole play g
      (cut.steps (length done) s (ap (λ xs. slice_get xs (length done)) whole ∙ get_middle done s rest)))
