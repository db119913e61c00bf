-- A run so far: its operations are those that its steps have begun, and each process stands in its operation where the
-- number of its steps says. Each step keeps this.
use Rattle.std.proofs.Common.{◌≡◌, ◌≢◌, ℕ, suc, ◌+◌, ◌-◌, ◌*◌, ◌<◌, ◌≤◌, List, [], ◌∷◌, ◌++◌, length, take, drop, replicate, set, true}
use Rattle.std.proofs.Common.{false, refl, sym, ◌∙◌, ap, subst, arith, inl, inr, ⊎_elim}
use Rattle.std.specs.Prelude.{slice_get, Option, Some, None, nat_eq}
use Rattle.std.proofs.lemmas.List.{length-set, length_push, length-append, length-replicate, get_or-replicate, get_or-set_same}
use Rattle.std.proofs.lemmas.List.{get_or-set_other, length-take-le}
use Rattle.std.proofs.Math.Nat.{mul-le-mul_left}
use Rattle.std.proofs.lemmas.List.Sums.{count_by-le-length}
use Rattle.std.specs.Option.{option_and_then}
use Rattle.std.proofs.lemmas.Option.{slice_get_within, same_Some}
use Rattle.std.specs.List.{fold}
use Rattle.history_core.specs.declared.history.Op.{Op}
use Rattle.history_core.specs.declared.history.Kind.TheVariants.{Refused as RefusedKind}
use Rattle.history_core.specs.declared.wish.Wish.{Wish}
use Rattle.history_core.specs.declared.wish.Wish.TheVariants.{Write, Read}
use Rattle.history_core.specs.Schedules.{Span, matrix_accesses, steps_of, planned, Follows, Overruns}
use Rattle.history_core.proofs.Overruns.{planned_next}
use Rattle.history_core.proofs.Places.{get_pushed}
use Rattle.history_core.proofs.Positions.{steps_mine, steps_other}
use Rattle.history_core.proofs.Played.{IsPlayedSoFar, replaced_by_set, begins, goes_on, finishes, replaced, nothing_played}
use Rattle.history_core.proofs.Folds.{fold_keeps_all}
use Rattle.matrix_core.specs.declared.progress.Progress.{Progress}
use Rattle.matrix_core.specs.declared.progress.Outcome.{Outcome}
use Rattle.matrix_core.specs.declared.progress.Outcome.TheVariants.{Written, Seen, Ended}
use Rattle.matrix_core.specs.declared.schedule.MatrixTerm.{MatrixTerm}
use Rattle.matrix_core.specs.Lines.{begun, after_write, opening_line}
use Rattle.matrix_core.specs.inner.Operations.{begun_op, chose, ended}
use Rattle.matrix_core.specs.Runs.{IsTerm, span_of}
use Rattle.matrix_core.proofs.lines.Accesses.{begun_first, begun_later, read_done}
use Rattle.matrix_core.proofs.lists.Elements.{get_set, get_replicate, get_middle, same_or_not, split_at, take_next, fold_more, same}
use Rattle.matrix_core.proofs.lists.Elements.{not_same, get_exists}
use Rattle.matrix_core.proofs.terms.Steps.{chose_who, chose_starts, chose_ends, ended_who, ended_starts, ended_ends}
use Rattle.matrix_play.specs.declared.matrix_term.Seat.{Seat}
use Rattle.matrix_play.specs.MatrixEvents.{Matrix, IsMatrix, size, after_access}
use Rattle.matrix_play.specs.inner.MatrixPlays.{MatrixPlaying, began, place_of, seat_of, first_seat, accesses, after_step, next_wish}
use Rattle.matrix_play.specs.inner.MatrixPlays.{opening_matrix_play, IsReady, matrix_play_of}
use Rattle.matrix_play.proofs.matrices.Accesses.{IsAccess, IsRead, IsWrite, access_of, Fits, read_wish, last_read_fits}
use Rattle.matrix_play.proofs.matrices.Shape.{opens}
use Rattle.matrix_play.proofs.matrices.Steps.{access_chooses, access_finishes, access_moves, step_begins, step_goes_on}

-- a term of 2 or more processes, as a matrix plays it
pub record IsSpan {R : Type 0} (span : Span R) : Type 0 where
  pub at_least : 2 ≤ length span.plans
  pub at_most : length span.plans ≤ 16
  pub accesses : span.accesses ≡ matrix_accesses (length span.plans)

module _ {R : Type 0} where
  -- what an operation is once it has chosen
  abbrev pub Suits : Outcome R → Wish R → Op R → Type 0
  Suits (Written stamp) wish op = Unit {0}
  Suits (Seen answer) wish op = wish ≡ Read
  Suits (Ended last) wish op = op.kind ≡ RefusedKind

  -- a process in its operation number `operation`
  pub record IsProcess (span : Span R) (done : List ℕ) (run : MatrixPlaying R) (who : ℕ) (line : Progress R) : Type 0 where
    pub operation : ℕ
    pub steps : steps_of who done ≡ operation * span.accesses + line.done
    pub between : line.done ≡ 0 → (seat_of run who).begun ≡ operation
    pub inside : 0 < line.done → (seat_of run who).begun ≡ operation + 1
    pub wish : 0 < line.done → planned span who operation ≡ Some line.wish
    pub outcome : length span.plans ≤ line.done + 1 → (op : Op R) → slice_get run.ops (place_of run who) ≡ Some op →
        Suits line.outcome line.wish op

  pub record IsPlaySoFar (at : ℕ) (span : Span R) (done : List ℕ) (run : MatrixPlaying R) : Type 0 where
    pub matrix : IsMatrix run.matrix
    pub processes : size run.matrix ≡ length span.plans
    pub limit : run.matrix.limit ≡ span.limit
    pub seats : length run.seats ≡ length span.plans
    pub stamps : length run.stamps ≡ length run.ops
    pub now : run.now ≡ at + length done
    pub played : IsPlayedSoFar at span done run.ops (place_of run)
    pub each : (who : ℕ) (line : Progress R) → slice_get run.matrix.lines who ≡ Some line → IsProcess span done run who line

  -- a process that begins or goes on, where its access doesn't end its operation: the operations after its step, but for
  -- what a choice makes of them
  pub record IsUnderStep (at : ℕ) (span : Span R) (done : List ℕ) (run : MatrixPlaying R) (who operation : ℕ) (wish : Wish R)
      (line : Progress R) : Type 0 where
    pub matrix : IsMatrix run.matrix
    pub processes : size run.matrix ≡ length span.plans
    pub limit : run.matrix.limit ≡ span.limit
    pub seats : length run.seats ≡ length span.plans
    pub stamps : length run.stamps ≡ length run.ops
    pub now : run.now ≡ at + length done
    pub at_line : slice_get run.matrix.lines who ≡ Some line
    pub others : (w : ℕ) (l : Progress R) → w ≢ who → slice_get run.matrix.lines w ≡ Some l → IsProcess span done run w l
    pub steps : steps_of who done ≡ operation * span.accesses + line.done
    pub begun_now : (seat_of run who).begun ≡ operation + 1
    pub planned_now : planned span who operation ≡ Some (begun wish line).wish
    pub suits : length span.plans ≤ line.done + 1 → (op : Op R) → slice_get run.ops (place_of run who) ≡ Some op →
        Suits line.outcome line.wish op
    pub middle : line.done + 1 < span.accesses
    pub played : IsPlayedSoFar at span (done ++ who ∷ []) run.ops (place_of run)

  -- two processes inside operations have them at different places
  pub apart : (at : ℕ) (span : Span R) (done : List ℕ) (ops : List (Op R)) (place : ℕ → ℕ) (v w k j r s : ℕ) →
      IsPlayedSoFar at span done ops place
      → steps_of v done ≡ k * span.accesses + r → 0 < r → r < span.accesses → steps_of w done ≡ j * span.accesses + s → 0 < s →
      s < span.accesses → w ≢ v → place w ≢ place v
  apart at span done ops place v w k j r s h cv pv lv cw pw lw ne e =
      let uv = h.under_way v k r cv pv lv in
      let uw = h.under_way w j s cw pw lw in
      let o : uw.op ≡ uv.op = same_Some uw.op uv.op (sym uw.there ∙ (ap (slice_get ops) e ∙ uv.there)) in
      ne (sym uw.actor ∙ (ap (λ o. o.who) o ∙ uv.actor))

  -- what a process keeps through a step of another
  other_process : (span : Span R) (done : List ℕ) (run run' : MatrixPlaying R) (who w : ℕ) (l : Progress R) →
      who ≢ w → run'.seats ≡ run.seats
      → (length span.plans ≤ l.done + 1 → (op : Op R) → slice_get run'.ops (place_of run w) ≡ Some op →
      slice_get run.ops (place_of run w) ≡ Some op)
      → IsProcess span done run w l → IsProcess span (done ++ who ∷ []) run' w l
  other_process span done run run' who w l ne e ops p = record {
    operation = p.operation;
    steps = steps_other w who done ne ∙ p.steps;
    between = λ z. rw e (p.between z);
    inside = λ z. rw e (p.inside z);
    wish = p.wish;
    outcome = λ n op h. p.outcome n op (ops n op (rw e at h));
  }

  pub chose_follows : (outcome : Outcome R) (wish : Wish R) (op : Op R) → Fits outcome wish → Follows (Some wish) op →
      Follows (Some wish) (chose outcome op)
  chose_follows (Written stamp) wish op f h = h
  chose_follows (Seen answer) wish op f h = h
  chose_follows (Ended last) wish op f h = rw f.1 (inr refl)

  chose_suits : (outcome : Outcome R) (wish : Wish R) (op : Op R) → Fits outcome wish → Suits outcome wish (chose outcome op)
  chose_suits (Written stamp) wish op f = tt
  chose_suits (Seen answer) wish op f = f
  chose_suits (Ended last) wish op f = refl

  pub ended_follows : (now : ℕ) (outcome : Outcome R) (wish : Wish R) (op : Op R) → Suits outcome wish op → Follows (Some wish) op →
      Follows (Some wish) (ended now outcome op)
  ended_follows now (Written stamp) (Write v) op s h = h
  ended_follows now (Written stamp) Read op s h = h
  ended_follows now (Seen answer) (Write v) op s h = cc
  ended_follows now (Seen answer) Read op s h = h
  ended_follows now (Ended last) (Write v) op s h = inr s
  ended_follows now (Ended last) Read op s h = h

  -- an operation does what was planned for its actor
  pub does_planned : (span : Span R) (who k : ℕ) (op : Op R) (wish : Wish R) → op.who ≡ who → planned span who k ≡ Some wish →
      Follows (planned span op.who k) op → Follows (Some wish) op
  does_planned span who k op wish e p f =
      let g : planned span op.who k ≡ Some wish = ap (λ v. planned span v k) e ∙ p in
      let F : Option (Wish R) → Type 0 = λ o. Follows o op in subst F g f

  pub write_ends : (n : ℕ) (line : Progress R) → line.done + 3 ≡ 2 * n → (after_write n line).done ≡ 0
  write_ends n line e = let b : nat_eq (line.done + 3) (2 * n) ≡ true = same _ _ e in rw b refl

  pub write_goes_on : (n : ℕ) (line : Progress R) → line.done + 3 ≢ 2 * n → (after_write n line).done ≡ line.done + 1
  write_goes_on n line ne = let b : nat_eq (line.done + 3) (2 * n) ≡ false = not_same _ _ ne in rw b refl

  -- the progress after an access that doesn't end its operation
  next_done : (m m' : Matrix R) (who : ℕ) (wish : Wish R) (line next : Progress R) → IsAccess m m' who wish line next →
      line.done + 3 ≢ 2 * size m → next.done ≡ line.done + 1
  next_done m m' who wish line next a ne = ⊎_elim
      (λ (r : IsRead m m' who wish line next). ap (λ l. l.done) r.after ∙ read_done (size m) m.limit who wish line r.answer)
      (λ (w : IsWrite m m' who line next). ap (λ l. l.done) w.after ∙ write_goes_on (size m) line ne) a.kind

  next_wish_is : (m m' : Matrix R) (who : ℕ) (wish : Wish R) (line next : Progress R) → 2 ≤ size m → IsAccess m m' who wish line next →
      next.wish ≡ (begun wish line).wish
  next_wish_is m m' who wish line next two a = ⊎_elim
      (λ (r : IsRead m m' who wish line next). ap (λ l. l.wish) r.after ∙ read_wish (size m) m.limit who wish line r.answer)
      (λ (w : IsWrite m m' who line next).
      let p : size m ≤ line.done + 1 = w.phase in
      ap (λ l. l.wish) w.after ∙ sym (ap (λ l. l.wish) (begun_later wish line (omega arith)))) a.kind

  -- a step whose access doesn't end its operation, where it chooses
  step_chooses : (at : ℕ) (span : Span R) (done : List ℕ) (run : MatrixPlaying R) (who k : ℕ) (wish : Wish R) (line : Progress R) →
      IsSpan span → IsUnderStep at span done run who k wish line
      → line.done + 2 ≡ size run.matrix → IsPlaySoFar at span (done ++ who ∷ []) (accesses run who wish line)
  step_chooses at span done run who k wish line sp u here =
      let acc = access_of run.matrix who wish line u.matrix u.at_line in
      let next : Progress R = acc.0 in
      let m' : Matrix R = after_access run.matrix who wish in
      let a : IsAccess run.matrix m' who wish line next = acc.1 in
      let sp1 : 2 ≤ length span.plans = sp.at_least in
      let acs : span.accesses ≡ 2 * (length span.plans - 1) = sp.accesses in
      let mid : line.done + 1 < span.accesses = u.middle in
      let pr : size run.matrix ≡ length span.plans = u.processes in
      let mine : steps_of who (done ++ who ∷ []) ≡ k * span.accesses + (line.done + 1) =
      let e = steps_mine who done in
      let s = u.steps in
      omega arith in
      let way = u.played.under_way who k (line.done + 1) mine (omega arith) mid in
      let op : Op R = way.op in
      let w0 : Wish R = (begun wish line).wish in
      let nd : next.done ≡ line.done + 1 = next_done run.matrix m' who wish line next a (λ z. omega arith) in
      let nw : next.wish ≡ w0 = next_wish_is run.matrix m' who wish line next (omega arith) a in
      let fits : Fits next.outcome w0 = ⊎_elim
      (λ (r : IsRead run.matrix m' who wish line next).
      rw r.after (last_read_fits (size run.matrix) run.matrix.limit who wish line r.answer here))
      (λ (w : IsWrite run.matrix m' who line next). let p : size run.matrix ≤ line.done + 1 = w.phase in absurd (omega arith)) a.kind in
      let op' : Op R = chose next.outcome op in
      let e = access_chooses run who wish line m' next op refl here a.here way.there u.stamps in
      let follows : Follows (planned span who k) op' = rw u.planned_now
      (chose_follows next.outcome w0 op fits (does_planned span who k op w0 way.actor u.planned_now way.operation.follows)) in
      let result : IsPlaySoFar at span (done ++ who ∷ []) (record run {
        matrix = m';
        now = run.now + 1;
        ops = set run.ops (place_of run who) op';
        stamps = set run.stamps (place_of run who) (Some next.own.stamp);
      }) = record {
        matrix = a.matrix;
        processes = a.same_size ∙ pr;
        limit = a.limit ∙ u.limit;
        seats = u.seats;
        stamps =
            length-set run.stamps (place_of run who) (Some next.own.stamp) ∙ (u.stamps ∙ sym (length-set run.ops (place_of run who) op'));
        now = let n = u.now in let l = length_push done who in omega arith;
        played = replaced at span (done ++ who ∷ []) run.ops (set run.ops (place_of run who) op') (place_of run) who k (line.done + 1)
            op' mine (omega arith) mid
            (replaced_by_set run.ops (place_of run who) op op' way.there (chose_who next.outcome op) (chose_starts next.outcome op))
            (chose_ends next.outcome op ∙ way.unfinished) follows u.played;
        each = λ w l h. ⊎_elim
            (λ (q : (w ≡ who) × (l ≡ next)).
            let p : IsProcess span (done ++ who ∷ []) (record run {
              matrix = m';
              now = run.now + 1;
              ops = set run.ops (place_of run who) op';
              stamps = set run.stamps (place_of run who) (Some next.own.stamp);
            }) who next = record {
              operation = k;
              steps = rw nd mine;
              between = λ z. absurd (omega arith);
              inside = λ z. u.begun_now;
              wish = λ z. u.planned_now ∙ ap Some (sym nw);
              outcome = λ z o g. ⊎_elim
                  (λ (y : (place_of run who ≡ place_of run who) × (o ≡ op')). rw (y.1, nw) (chose_suits next.outcome w0 op fits))
                  (λ y. absurd (y.0 refl)) (get_set run.ops (place_of run who) (place_of run who) op' o g);
            } in rw (q.0, q.1) p)
            (λ (q : (w ≢ who) × (slice_get run.matrix.lines w ≡ Some l)).
            let old : IsProcess span done run w l = u.others w l q.0 q.1 in
            let ne : who ≢ w = λ z. q.0 (sym z) in
            let inn : l.done + 3 ≤ 2 * size run.matrix = u.matrix.inside w l q.1 in
            other_process span done run (record run {
              matrix = m';
              now = run.now + 1;
              ops = set run.ops (place_of run who) op';
              stamps = set run.stamps (place_of run who) (Some next.own.stamp);
            }) who w l ne refl
            (λ n o g. ⊎_elim
            (λ (y : (place_of run w ≡ place_of run who) × (o ≡ op')).
            absurd (apart at span (done ++ who ∷ []) run.ops (place_of run) who w k old.operation (line.done + 1) l.done u.played mine
            (omega arith) mid (steps_other w who done ne ∙ old.steps) (omega arith) (omega arith) q.0 y.0))
            (λ y. y.1) (get_set run.ops (place_of run who) (place_of run w) op' o g)) old)
            (get_set run.matrix.lines who w next l (rw a.lines at h));
      } in rw e result

  -- a step whose access neither chooses nor ends its operation
  step_moves : (at : ℕ) (span : Span R) (done : List ℕ) (run : MatrixPlaying R) (who k : ℕ) (wish : Wish R) (line : Progress R) →
      IsSpan span → IsUnderStep at span done run who k wish line
      → line.done + 2 ≢ size run.matrix → IsPlaySoFar at span (done ++ who ∷ []) (accesses run who wish line)
  step_moves at span done run who k wish line sp u early =
      let acc = access_of run.matrix who wish line u.matrix u.at_line in
      let next : Progress R = acc.0 in
      let m' : Matrix R = after_access run.matrix who wish in
      let a : IsAccess run.matrix m' who wish line next = acc.1 in
      let sp1 : 2 ≤ length span.plans = sp.at_least in
      let acs : span.accesses ≡ 2 * (length span.plans - 1) = sp.accesses in
      let mid : line.done + 1 < span.accesses = u.middle in
      let pr : size run.matrix ≡ length span.plans = u.processes in
      let mine : steps_of who (done ++ who ∷ []) ≡ k * span.accesses + (line.done + 1) =
      let e = steps_mine who done in
      let s = u.steps in
      omega arith in
      let nd : next.done ≡ line.done + 1 = next_done run.matrix m' who wish line next a (λ z. omega arith) in
      let nw : next.wish ≡ (begun wish line).wish = next_wish_is run.matrix m' who wish line next (omega arith) a in
      let run' : MatrixPlaying R = record run { matrix = m'; now = run.now + 1 } in
      let e : accesses run who wish line ≡ run' = access_moves run who wish line m' refl early (λ z. omega arith) in
      let result : IsPlaySoFar at span (done ++ who ∷ []) run' = record {
        matrix = a.matrix;
        processes = a.same_size ∙ pr;
        limit = a.limit ∙ u.limit;
        seats = u.seats;
        stamps = u.stamps;
        now = let n = u.now in let l = length_push done who in omega arith;
        played = u.played;
        each = λ w l h. ⊎_elim
            (λ (q : (w ≡ who) × (l ≡ next)). let p : IsProcess span (done ++ who ∷ []) run' who next = record {
              operation = k;
              steps = rw nd mine;
              between = λ z. absurd (omega arith);
              inside = λ z. u.begun_now;
              wish = λ z. u.planned_now ∙ ap Some (sym nw);
              outcome = λ z o g. ⊎_elim
                  (λ (r : IsRead run.matrix m' who wish line next).
                  let p : line.done + 1 < size run.matrix = r.phase in
                  absurd (omega arith))
                  (λ (r : IsWrite run.matrix m' who line next).
                  let p : size run.matrix ≤ line.done + 1 = r.phase in
                  rw r.after (u.suits (omega arith) o g)) a.kind;
            } in rw (q.0, q.1) p)
            (λ (q : (w ≢ who) × (slice_get run.matrix.lines w ≡ Some l)).
            other_process span done run run' who w l (λ z. q.0 (sym z)) refl (λ n o g. g) (u.others w l q.0 q.1))
            (get_set run.matrix.lines who w next l (rw a.lines at h));
      } in rw e result

  -- the last step of an operation
  step_ends : (at : ℕ) (span : Span R) (done : List ℕ) (run : MatrixPlaying R) (who : ℕ) (line : Progress R) → IsSpan span →
      IsPlaySoFar at span done run → slice_get run.matrix.lines who ≡ Some line
      → line.done + 1 ≡ span.accesses → IsPlaySoFar at span (done ++ who ∷ []) (accesses run who Read line)
  step_ends at span done run who line sp g here last =
      let acc = access_of run.matrix who Read line g.matrix here in
      let next : Progress R = acc.0 in
      let m' : Matrix R = after_access run.matrix who Read in
      let a : IsAccess run.matrix m' who Read line next = acc.1 in
      let sp1 : 2 ≤ length span.plans = sp.at_least in
      let acs : span.accesses ≡ 2 * (length span.plans - 1) = sp.accesses in
      let pr : size run.matrix ≡ length span.plans = g.processes in
      let p : IsProcess span done run who line = g.each who line here in
      let c : steps_of who done ≡ p.operation * span.accesses + line.done = p.steps in
      let way = g.played.under_way who p.operation line.done c (omega arith) (omega arith) in
      let op : Op R = way.op in
      let op' : Op R = ended run.now line.outcome op in
      let suits : Suits line.outcome line.wish op = p.outcome (omega arith) op way.there in
      let w : IsWrite run.matrix m' who line next = ⊎_elim
      (λ (r : IsRead run.matrix m' who Read line next).
      let z : line.done + 1 < size run.matrix = r.phase in
      absurd (omega arith)) (λ (r : IsWrite run.matrix m' who line next). r) a.kind in
      let nd : next.done ≡ 0 = ap (λ l. l.done) w.after ∙ write_ends (size run.matrix) line (omega arith) in
      let run' : MatrixPlaying R = record run { matrix = m'; now = run.now + 1; ops = set run.ops (place_of run who) op' } in
      let e : accesses run who Read line ≡ run' = access_finishes run who Read line m' op refl (λ z. omega arith) (omega arith) way.there in
      let follows : Follows (planned span who p.operation) op' = rw (p.wish (omega arith)) (ended_follows run.now line.outcome line.wish op
      suits (does_planned span who p.operation op line.wish way.actor (p.wish (omega arith)) way.operation.follows)) in
      let result : IsPlaySoFar at span (done ++ who ∷ []) run' = record {
        matrix = a.matrix;
        processes = a.same_size ∙ pr;
        limit = a.limit ∙ g.limit;
        seats = g.seats;
        stamps = g.stamps ∙ sym (length-set run.ops (place_of run who) op');
        now = let n = g.now in let l = length_push done who in omega arith;
        played = finishes at span done run.ops run'.ops (place_of run) who p.operation op' (omega arith) (omega arith)
            (replaced_by_set run.ops (place_of run who) op op' way.there (ended_who run.now line.outcome op)
            (ended_starts run.now line.outcome op)) (ended_ends run.now line.outcome op ∙ ap Some g.now) follows g.played;
        each = λ w l h. ⊎_elim
            (λ (q : (w ≡ who) × (l ≡ next)). let np : IsProcess span (done ++ who ∷ []) run' who next = record {
              operation = p.operation + 1;
              steps = rw nd (let s = steps_mine who done in omega arith);
              between = λ z. p.inside (omega arith);
              inside = λ z. absurd (omega arith);
              wish = λ z. absurd (omega arith);
              outcome = λ z o h. absurd (omega arith);
            } in rw (q.0, q.1) np)
            (λ (q : (w ≢ who) × (slice_get run.matrix.lines w ≡ Some l)).
            let old : IsProcess span done run w l = g.each w l q.1 in
            let ne : who ≢ w = λ z. q.0 (sym z) in
            let inn : l.done + 3 ≤ 2 * size run.matrix = g.matrix.inside w l q.1 in
            other_process span done run run' who w l ne refl
            (λ n o y. ⊎_elim
            (λ (y : (place_of run w ≡ place_of run who) × (o ≡ op')). absurd (apart at span done run.ops (place_of run) who w p.operation
            old.operation line.done l.done g.played c (omega arith) (omega arith) old.steps (omega arith) (omega arith) q.0 y.0))
            (λ y. y.1) (get_set run.ops (place_of run who) (place_of run w) op' o y)) old)
            (get_set run.matrix.lines who w next l (rw a.lines at h));
      } in rw e result

  -- a process in the middle of its operation goes on
  pub goes_on_ready : (at : ℕ) (span : Span R) (done : List ℕ) (run : MatrixPlaying R) (who : ℕ) (line : Progress R)
      (g : IsPlaySoFar at span done run) (here : slice_get run.matrix.lines who ≡ Some line)
      → 0 < line.done → line.done + 1 < span.accesses → IsUnderStep at span done run who (g.each who line here).operation Read line
  goes_on_ready at span done run who line g here pos mid = let p : IsProcess span done run who line = g.each who line here in record {
    matrix = g.matrix;
    processes = g.processes;
    limit = g.limit;
    seats = g.seats;
    stamps = g.stamps;
    now = g.now;
    at_line = here;
    others = λ w l ne h. g.each w l h;
    steps = p.steps;
    begun_now = p.inside pos;
    planned_now = p.wish pos ∙ ap (λ l. Some l.wish) (sym (begun_later Read line pos));
    suits = p.outcome;
    middle = mid;
    played = goes_on at span done run.ops (place_of run) who p.operation line.done p.steps pos mid g.played;
  }

  -- a process that begins its next operation
  pub began_seat : (run : MatrixPlaying R) (who : ℕ) (wish : Wish R) → who < length run.seats → seat_of (began run who wish) who ≡ record {
    place = length run.ops;
    begun = (seat_of run who).begun + 1;
  }
  began_seat run who wish l = get_or-set_same run.seats who (record {
    place = length run.ops;
    begun = (seat_of run who).begun + 1;
  }) first_seat l

  pub began_other : (run : MatrixPlaying R) (who w : ℕ) (wish : Wish R) → w ≢ who → seat_of (began run who wish) w ≡ seat_of run w
  began_other run who w wish ne = get_or-set_other run.seats who w (record {
    place = length run.ops;
    begun = (seat_of run who).begun + 1;
  }) first_seat ne

  begin_played : (at : ℕ) (span : Span R) (done : List ℕ) (run : MatrixPlaying R) (who k : ℕ) (wish : Wish R) → 1 < span.accesses →
      steps_of who done ≡ k * span.accesses → run.now ≡ at + length done
      → planned span who k ≡ Some wish → who < length run.seats → IsPlayedSoFar at span done run.ops (place_of run)
      → IsPlayedSoFar at span (done ++ who ∷ []) (began run who wish).ops (place_of (began run who wish))
  begin_played at span done run who k (Write item) more c n pl inside h =
      begins at span done run.ops (place_of run) (place_of (began run who (Write item))) k (begun_op who run.now (Write item)) more c n refl
      (rw pl (inl (refl, refl))) (ap (λ s. s.place) (began_seat run who (Write item) inside))
      (λ w ne. ap (λ s. s.place) (began_other run who w (Write item) ne)) h
  begin_played at span done run who k Read more c n pl inside h =
      begins at span done run.ops (place_of run) (place_of (began run who Read)) k (begun_op who run.now Read) more c n refl
      (rw pl refl) (ap (λ s. s.place) (began_seat run who Read inside)) (λ w ne. ap (λ s. s.place) (began_other run who w Read ne)) h

  pub begins_ready : (at : ℕ) (span : Span R) (done : List ℕ) (run : MatrixPlaying R) (who : ℕ) (wish : Wish R) (line : Progress R)
      (sp : IsSpan span) (g : IsPlaySoFar at span done run) (here : slice_get run.matrix.lines who ≡ Some line)
      → line.done ≡ 0 → planned span who (g.each who line here).operation ≡ Some wish →
      IsUnderStep at span done (began run who wish) who (g.each who line here).operation wish line
  begins_ready at span done run who wish line sp g here zero_done pl =
      let p : IsProcess span done run who line = g.each who line here in
      let sp1 : 2 ≤ length span.plans = sp.at_least in
      let acs : span.accesses ≡ 2 * (length span.plans - 1) = sp.accesses in
      let pr : size run.matrix ≡ length span.plans = g.processes in
      let se : length run.seats ≡ length span.plans = g.seats in
      let lw : who < size run.matrix = slice_get_within run.matrix.lines who line here in
      let inside : who < length run.seats = omega arith in
      record {
        matrix = g.matrix;
        processes = g.processes;
        limit = g.limit;
        seats = length-set run.seats who _ ∙ g.seats;
        stamps = length_push run.stamps None ∙ (ap (λ n. n + 1) g.stamps ∙ sym (length_push run.ops (begun_op who run.now wish)));
        now = g.now;
        at_line = here;
        others = λ w l ne h. let old : IsProcess span done run w l = g.each w l h in
            let inn : l.done + 3 ≤ 2 * size run.matrix = g.matrix.inside w l h in
            record {
              operation = old.operation;
              steps = old.steps;
              between = λ z. rw (began_other run who w wish ne) (old.between z);
              inside = λ z. rw (began_other run who w wish ne) (old.inside z);
              wish = old.wish;
              outcome = λ n o y.
                  let way = g.played.under_way w old.operation l.done old.steps (omega arith) (omega arith) in
                  let lt : place_of run w < length run.ops = slice_get_within run.ops (place_of run w) way.op way.there in
                  let y' : slice_get (run.ops ++ begun_op who run.now wish ∷ []) (place_of run w) ≡ Some o =
                  ap (λ (s : Seat). slice_get (run.ops ++ begun_op who run.now wish ∷ []) s.place)
                  (sym (began_other run who w wish ne)) ∙ y in
                  old.outcome n o (sym (get_pushed run.ops (begun_op who run.now wish) (place_of run w) (λ z. omega arith)) ∙ y');
            };
        steps = p.steps;
        begun_now = ap (λ s. s.begun) (began_seat run who wish inside) ∙ ap (λ n. n + 1) (p.between zero_done);
        planned_now = pl ∙ ap (λ l. Some l.wish) (sym (begun_first wish line zero_done));
        suits = λ n o y. absurd (omega arith);
        middle = omega arith;
        played = begin_played at span done run who p.operation wish (omega arith) (let c = p.steps in omega arith) g.now pl inside g.played;
      }

  step_under : (at : ℕ) (span : Span R) (done : List ℕ) (run : MatrixPlaying R) (who k : ℕ) (wish : Wish R) (line : Progress R) →
      IsSpan span → IsUnderStep at span done run who k wish line
      → IsPlaySoFar at span (done ++ who ∷ []) (accesses run who wish line)
  step_under at span done run who k wish line sp u = ⊎_elim
      (λ e. step_chooses at span done run who k wish line sp u e) (λ e. step_moves at span done run who k wish line sp u e)
      (same_or_not (line.done + 2) (size run.matrix))

  -- what a process is to do next is what its plan has for its next operation
  pub next_is_planned : (at : ℕ) (span : Span R) (done : List ℕ) (run : MatrixPlaying R) (who : ℕ) (line : Progress R)
      (g : IsPlaySoFar at span done run) (here : slice_get run.matrix.lines who ≡ Some line)
      → line.done ≡ 0 → next_wish span.plans run who ≡ planned span who (g.each who line here).operation
  next_is_planned at span done run who line g here z =
      ap (λ k. option_and_then (λ plan. slice_get plan k) (slice_get span.plans who)) ((g.each who line here).between z)

  -- a step of a process that has an operation left
  pub one_step : (at : ℕ) (span : Span R) (done rest : List ℕ) (run : MatrixPlaying R) (who : ℕ) → IsSpan span → who < length span.plans →
      span.steps ≡ done ++ who ∷ rest → ¬ Overruns span (length done)
      → IsPlaySoFar at span done run → IsPlaySoFar at span (done ++ who ∷ []) (after_step span.plans run who)
  one_step at span done rest run who sp lw whole left g =
      let pr : size run.matrix ≡ length span.plans = g.processes in
      let at_who : (l : Progress R) × (slice_get run.matrix.lines who ≡ Some l) = get_exists run.matrix.lines who (omega arith) in
      let line : Progress R = at_who.0 in
      let here : slice_get run.matrix.lines who ≡ Some line = at_who.1 in
      let p : IsProcess span done run who line = g.each who line here in
      let sp1 : 2 ≤ length span.plans = sp.at_least in
      let acs : span.accesses ≡ 2 * (length span.plans - 1) = sp.accesses in
      let inn : line.done + 3 ≤ 2 * size run.matrix = g.matrix.inside who line here in
      ⊎_elim
      (λ (z : line.done ≡ 0).
      let next : (wish : Wish R) × (planned span who p.operation ≡ Some wish) =
      planned_next span done rest who p.operation line.done whole left p.steps (omega arith) in
      let w : next_wish span.plans run who ≡ Some next.0 = next_is_planned at span done run who line g here z ∙ next.1 in
      rw (step_begins span.plans run who next.0 line here z w) (step_under at span done (began run who next.0) who p.operation next.0 line
      sp (begins_ready at span done run who next.0 line sp g here z next.1)))
      (λ (ne : line.done ≢ 0).
      let pos : 0 < line.done = omega arith in
      rw (step_goes_on span.plans run who line here pos) (⊎_elim
      (λ (l : line.done + 1 ≡ span.accesses). step_ends at span done run who line sp g here l)
      (λ (l : line.done + 1 ≢ span.accesses).
      step_under at span done run who p.operation Read line sp (goes_on_ready at span done run who line g here pos (omega arith)))
      (same_or_not (line.done + 1) span.accesses)))
      (same_or_not line.done 0)

  -- the run before its first step
  pub opening_so_far : (at : ℕ) (span : Span R) (opening : R) → IsSpan span →
      IsPlaySoFar at span [] (opening_matrix_play (length span.plans) span.limit opening at)
  opening_so_far at span opening sp =
      let n : ℕ = length span.plans in
      let e : length (replicate n (opening_line opening)) ≡ n = length-replicate n (opening_line opening) in
      record {
        matrix = opens n span.limit opening sp.at_least sp.at_most;
        processes = e;
        limit = refl;
        seats = length-replicate n first_seat;
        stamps = refl;
        now = omega arith;
        played = nothing_played at span (place_of (opening_matrix_play n span.limit opening at));
        each = λ who line h.
            let d : line.done ≡ 0 = ap (λ l. l.done) (get_replicate n who (opening_line opening) line h) in
            let lt : who < n = omega (arith, slice_get_within (replicate n (opening_line opening)) who line h) in
            let seat : (seat_of (opening_matrix_play n span.limit opening at) who).begun ≡ 0 =
            ap (λ (s : Seat). s.begun) (get_or-replicate n who first_seat first_seat lt) in
            let two : 2 ≤ n = sp.at_least in
            record {
              operation = 0;
              steps = let z : steps_of who [] ≡ 0 = refl in omega arith;
              between = λ z. seat;
              inside = λ z. absurd (omega arith);
              wish = λ z. absurd (omega arith);
              outcome = λ z o y. absurd (omega arith);
            };
      }

  -- the next step can be made
  pub ready : (at : ℕ) (span : Span R) (done rest : List ℕ) (run : MatrixPlaying R) (who : ℕ) → IsSpan span → who < length span.plans →
      span.steps ≡ done ++ who ∷ rest → ¬ Overruns span (length done)
      → at + length span.steps + 1 < 18446744073709551616 → IsPlaySoFar at span done run → IsReady span.plans run who
  ready at span done rest run who sp lw whole left room g =
      let pr : size run.matrix ≡ length span.plans = g.processes in
      let se : length run.seats ≡ length span.plans = g.seats in
      let at_who : (l : Progress R) × (slice_get run.matrix.lines who ≡ Some l) = get_exists run.matrix.lines who (omega arith) in
      let p : IsProcess span done run who at_who.0 = g.each who at_who.0 at_who.1 in
      let sp1 : 2 ≤ length span.plans = sp.at_least in
      let acs : span.accesses ≡ 2 * (length span.plans - 1) = sp.accesses in
      let long : length span.steps ≡ length done + suc (length rest) = ap length whole ∙ length-append done (who ∷ rest) in
      let few : steps_of who done ≤ length done = count_by-le-length (λ s. nat_eq s who) done in
      let times : p.operation * 1 ≤ p.operation * span.accesses = mul-le-mul_left p.operation (omega arith) in
      let st : steps_of who done ≡ p.operation * span.accesses + at_who.0.done = p.steps in
      let n : run.now ≡ at + length done = g.now in
      record {
        processes = se ∙ sym pr;
        inside = omega arith;
        stamps = g.stamps;
        room = omega arith;
        count = ⊎_elim
            (λ (z : at_who.0.done ≡ 0). let b : (seat_of run who).begun ≡ p.operation = p.between z in omega arith)
            (λ (z : at_who.0.done ≢ 0).
            let b : (seat_of run who).begun ≡ p.operation + 1 = p.inside (omega arith) in
            omega arith) (same_or_not at_who.0.done 0);
        next = λ line h z.
            let q : IsProcess span done run who line = g.each who line h in
            let w : (wish : Wish R) × (planned span who q.operation ≡ Some wish) =
            planned_next span done rest who q.operation line.done whole left q.steps (omega arith) in
            rw (next_is_planned at span done run who line g h z ∙ w.1) refl;
        place = λ line h z.
            let q : IsProcess span done run who line = g.each who line h in
            let inn : line.done + 3 ≤ 2 * size run.matrix = g.matrix.inside who line h in
            let way = g.played.under_way who q.operation line.done q.steps z (omega arith) in
            slice_get_within run.ops (place_of run who) way.op way.there;
      }

-- a term's run after its first i steps
pub record IsTermSoFar {R : Type 0} (at : ℕ) (opening : R) (term : MatrixTerm R) (i : ℕ) (run : MatrixPlaying R) : Type 0 where
  pub is : run ≡ fold (after_step term.plans) (opening_matrix_play (length term.plans) term.limit opening at) (take i term.steps)
  pub so_far : IsPlaySoFar at (span_of term) (take i term.steps) run

module _ {R : Type 0} (at : ℕ) (opening : R) (term : MatrixTerm R) where
  pub term_span : IsTerm term → IsSpan (span_of term)
  term_span t = record { at_least = t.at_least; at_most = t.at_most; accesses = refl }

  pub term_begins : IsTerm term → IsTermSoFar at opening term 0 (opening_matrix_play (length term.plans) term.limit opening at)
  term_begins t = record { is = refl; so_far = opening_so_far at (span_of term) opening (term_span t) }

  pub term_ready : (i who : ℕ) (run : MatrixPlaying R) → IsTerm term → ((step : ℕ) → ¬ Overruns (span_of term) step) →
      at + length term.steps + 1 < 18446744073709551616 → slice_get term.steps i ≡ Some who
      → IsTermSoFar at opening term i run → IsReady term.plans run who
  term_ready i who run t left room h s = ready at (span_of term) (take i term.steps) (drop (i + 1) term.steps) run who (term_span t)
      (t.steps i who h) (split_at term.steps i who h) (left (length (take i term.steps))) room s.so_far

  pub term_step : (i who : ℕ) (run : MatrixPlaying R) → IsTerm term → ((step : ℕ) → ¬ Overruns (span_of term) step) →
      slice_get term.steps i ≡ Some who
      → IsTermSoFar at opening term i run → IsTermSoFar at opening term (i + 1) (after_step term.plans run who)
  term_step i who run t left h s =
      let next : take (i + 1) term.steps ≡ take i term.steps ++ who ∷ [] = take_next term.steps i who h in
      record {
        is = ap (λ r. after_step term.plans r who) s.is
            ∙ (sym (fold_more (after_step term.plans) (opening_matrix_play (length term.plans) term.limit opening at)
            (take i term.steps) who)
            ∙ ap (fold (after_step term.plans) (opening_matrix_play (length term.plans) term.limit opening at)) (sym next));
        so_far = rw next (one_step at (span_of term) (take i term.steps) (drop (i + 1) term.steps) run who (term_span t) (t.steps i who h)
            (split_at term.steps i who h) (left (length (take i term.steps))) s.so_far);
      }

  -- the run of the whole term
  pub term_played : IsTerm term → ((step : ℕ) → ¬ Overruns (span_of term) step) →
      IsPlaySoFar at (span_of term) term.steps (matrix_play_of at opening term)
  term_played t left = fold_keeps_all (λ done run. IsPlaySoFar at (span_of term) done run) (after_step term.plans)
      (opening_matrix_play (length term.plans) term.limit opening at) term.steps
      (opening_so_far at (span_of term) opening (term_span t))
      (λ done rest run who whole g.
      let h : slice_get term.steps (length done) ≡ Some who = ap (λ xs. slice_get xs (length done)) whole ∙ get_middle done who rest in
      one_step at (span_of term) done rest run who (term_span t) (t.steps (length done) who h) whole (left (length done)) g)

-- each operation of a run has its stamp
pub long_stamps : {R : Type 0} (at : ℕ) (opening : R) (term : MatrixTerm R) (run : MatrixPlaying R) → IsTerm term →
    ((step : ℕ) → ¬ Overruns (span_of term) step) → run ≡ matrix_play_of at opening term → length run.stamps ≡ length run.ops
long_stamps {R} at opening term run t left is =
    ap (λ (z : MatrixPlaying R). length z.stamps) is
    ∙ ((term_played at opening term t left).stamps ∙ ap (λ (z : MatrixPlaying R). length z.ops) (sym is))
