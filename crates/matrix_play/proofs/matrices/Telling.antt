-- A step of a matrix's run tells of the operations what its access makes of them: one begins, chooses, goes on or ends, and where two
-- processes play, one begins and chooses at once.
use Rattle.std.proofs.Common.{◌≡◌, ◌≢◌, ℕ, zero, suc, ◌+◌, ◌-◌, ◌*◌, ◌<◌, ◌≤◌, List, [], ◌∷◌, ◌++◌, length, set, slice_get, Option, None}
use Rattle.std.proofs.Common.{Some, Bool, true, false, refl, sym, subst, ◌∙◌, ap, arith, inl, inr}
use Rattle.std.specs.Prelude.{if◌then◌else◌, nat_eq, nat_lt}
use Rattle.std.proofs.lemmas.Bool.{cases_eq}
use Rattle.std.proofs.lemmas.List.{length_push, length-set}
use Rattle.std.proofs.lemmas.Option.{same_Some, slice_get_within}
use Rattle.history_core.specs.declared.history.Op.{Op}
use Rattle.history_core.specs.declared.history.Kind.{Kind}
use Rattle.history_core.specs.declared.history.Kind.TheVariants.{Write as WriteKind, Read as ReadKind, Refused as RefusedKind}
use Rattle.history_core.specs.declared.wish.Wish.{Wish}
use Rattle.history_core.specs.declared.wish.Wish.TheVariants.{Write, Read}
use Rattle.history_core.specs.Schedules.{Follows, Overruns, planned, Span, steps_of}
use Rattle.history_core.proofs.Overruns.{planned_next}
use Rattle.history_core.proofs.Places.{get_last}
use Rattle.history_core.proofs.Played.{after, IsUnderWay, replaced_by_set, same_operation_number}
use Rattle.history_core.proofs.Positions.{steps_mine}
use Rattle.matrix_core.specs.declared.stamp.Stamped.{Stamped}
use Rattle.matrix_core.specs.declared.progress.Progress.{Progress}
use Rattle.matrix_core.specs.declared.progress.Outcome.{Outcome}
use Rattle.matrix_core.specs.declared.progress.Outcome.TheVariants.{Written, Seen, Ended}
use Rattle.matrix_play.specs.declared.matrix_term.Seat.{Seat}
use Rattle.matrix_play.specs.MatrixEvents.{after_access, Matrix, size}
use Rattle.matrix_core.specs.Lines.{choice}
use Rattle.matrix_core.proofs.terms.Kinds.{kind_of}
use Rattle.matrix_play.specs.inner.MatrixPlays.{accesses, after_step, began, chooses, finishes, moved, place_of}
use Rattle.matrix_core.specs.inner.Operations.{begun_op, chose, ended}
use Rattle.matrix_play.specs.inner.MatrixPlays.{MatrixPlaying}
use Rattle.matrix_play.proofs.matrices.Accesses.{access_of, IsAccess}
use Rattle.matrix_core.proofs.lists.Elements.{get_set_same, get_unset}
use Rattle.matrix_play.proofs.matrices.Traces.{IsAt, IsLineAt, matrix_step, Saw}
use Rattle.matrix_play.proofs.matrices.Plays.{began_other, began_seat, does_planned}
use Rattle.matrix_core.proofs.terms.Steps.{chose_ends, chose_starts, chose_who}
use Rattle.matrix_core.proofs.terms.Steps.{ended_ends, ended_starts, ended_who}
use Rattle.matrix_play.proofs.matrices.Plays.{ended_follows, IsProcess, IsPlaySoFar, IsSpan}
use Rattle.matrix_play.proofs.matrices.Plays.{next_is_planned, one_step, Suits}
use Rattle.matrix_play.proofs.matrices.Steps.{access_chooses, access_finishes, access_moves, step_begins, step_goes_on}
use Rattle.matrix_core.proofs.lists.Elements.{get_exists}
use Rattle.matrix_core.proofs.terms.Told.{IsTold, IsToldOf, told_begins, told_begins_choosing, told_chooses, told_ends, told_goes_on}
use Rattle.matrix_core.proofs.terms.Told.{way as told_way}

set_last : {X : Type 0} (xs : List X) (x y : X) (p : ℕ) → p ≡ length xs → set (xs ++ x ∷ []) p y ≡ xs ++ y ∷ []
set_last [] x y zero e = refl
set_last [] x y (suc p) e = absurd (omega arith)
set_last (z ∷ xs) x y zero e = absurd (omega arith)
set_last (z ∷ xs) x y (suc p) e = ap (λ zs. z ∷ zs) (set_last xs x y p (omega arith))

module _ {R : Type 0} where
  -- an operation does what is wished
  abbrev pub WishIs : Wish R → Op R → Type 0
  WishIs (Write item) op = (op.kind ≡ WriteKind) × (op.item ≡ Some item)
  WishIs Read op = op.kind ≡ ReadKind

  wish_is : (wish : Wish R) (op : Op R) → Follows (Some wish) op → op.kind ≢ RefusedKind → WishIs wish op
  wish_is (Write item) op follows fresh = elim follows [ inl w ↦ w | inr r ↦ absurd (fresh r) ]
  wish_is Read op follows fresh = follows

  -- what an operation is to answer is the record that it chose
  abbrev Own : Outcome R → Stamped R → Type 0
  Own (Written stamp) x = Unit {0}
  Own (Seen answer) x = answer ≡ x
  Own (Ended last) x = last ≡ x

  -- what a write chooses, by whether the tag that it saw is below the limit
  abbrev pub wrote : ℕ → R → Progress R → Bool → Progress R
  wrote i item line b =
      if b then record line {
        own = record { stamp = record { tag = line.seen.stamp.tag + 1; writer = i }; item = item };
        outcome = Written (record { tag = line.seen.stamp.tag + 1; writer = i });
      }
      else record line { own = line.seen; outcome = Ended line.seen }

  choice_own : (limit i : ℕ) (wish : Wish R) (line : Progress R) → Own (choice limit i wish line).outcome (choice limit i wish line).own
  choice_own limit i Read line = refl
  choice_own limit i (Write item) line = by_test (nat_lt line.seen.stamp.tag limit)
    where
      by_test : (b : Bool) → Own (wrote i item line b).outcome (wrote i item line b).own
      by_test true = tt
      by_test false = refl

  -- what a choice makes of its operation
  record Tells (wish : Wish R) (line : Progress R) (op : Op R) : Type 0 where
    follows : Follows (Some wish) (chose line.outcome op)
    kind : (chose line.outcome op).kind ≡ kind_of line.outcome
    written : (chose line.outcome op).kind ≡ WriteKind → (chose line.outcome op).item ≡ Some line.own.item
    bare : (chose line.outcome op).kind ≢ WriteKind → (chose line.outcome op).item ≡ None

  choice_tells : (limit i : ℕ) (wish : Wish R) (line : Progress R) (op : Op R) → WishIs wish op → (op.kind ≢ WriteKind → op.item ≡ None) →
      Tells wish (choice limit i wish line) op
  choice_tells limit i Read line op w bare = record {
    follows = w;
    kind = w;
    written = λ e.
        let z : ReadKind ≡ WriteKind = sym w ∙ e in
        cc;
    bare = bare;
  }
  choice_tells limit i (Write item) line op w bare = by_test (nat_lt line.seen.stamp.tag limit)
    where
      by_test : (b : Bool) → Tells (Write item) (wrote i item line b) op
      by_test true = record { follows = inl w; kind = w.0; written = λ e. w.1; bare = λ z. absurd (z w.0) }
      by_test false = record { follows = inr refl; kind = refl; written = λ e. cc; bare = λ z. refl }

  -- and what its end makes of it
  ended_kind : (now : ℕ) (outcome : Outcome R) (op : Op R) → (ended now outcome op).kind ≡ op.kind
  ended_kind now (Written stamp) op = refl
  ended_kind now (Seen answer) op = refl
  ended_kind now (Ended last) op = refl

  ended_keeps : (now : ℕ) (outcome : Outcome R) (op : Op R) → op.kind ≡ kind_of outcome → op.kind ≡ WriteKind →
      (ended now outcome op).item ≡ op.item
  ended_keeps now (Written stamp) op k w = refl
  ended_keeps now (Seen answer) op k w = let z : ReadKind ≡ WriteKind = sym k ∙ w in cc
  ended_keeps now (Ended last) op k w = let z : RefusedKind ≡ WriteKind = sym k ∙ w in cc

  ended_item : (now : ℕ) (outcome : Outcome R) (op : Op R) (x : Stamped R) → Own outcome x → op.kind ≡ kind_of outcome →
      (op.kind ≡ WriteKind → op.item ≡ Some x.item) → (ended now outcome op).item ≡ Some x.item
  ended_item now (Written stamp) op x own k h = h k
  ended_item now (Seen answer) op x own k h = ap (λ (z : Stamped R). Some z.item) own
  ended_item now (Ended last) op x own k h = ap (λ (z : Stamped R). Some z.item) own

  -- an operation that begins
  begun_who : (who now : ℕ) (wish : Wish R) → (begun_op who now wish).who ≡ who
  begun_who who now (Write item) = refl
  begun_who who now Read = refl

  begun_starts : (who now : ℕ) (wish : Wish R) → (begun_op who now wish).starts ≡ now
  begun_starts who now (Write item) = refl
  begun_starts who now Read = refl

  begun_ends : (who now : ℕ) (wish : Wish R) → (begun_op who now wish).ends ≡ None
  begun_ends who now (Write item) = refl
  begun_ends who now Read = refl

  begun_does : (who now : ℕ) (wish : Wish R) → WishIs wish (begun_op who now wish)
  begun_does who now (Write item) = (refl, refl)
  begun_does who now Read = refl

  begun_follows : (who now : ℕ) (wish : Wish R) → Follows (Some wish) (begun_op who now wish)
  begun_follows who now (Write item) = inl (refl, refl)
  begun_follows who now Read = refl

  begun_fresh : (who now : ℕ) (wish : Wish R) → (begun_op who now wish).kind ≢ RefusedKind
  begun_fresh who now (Write item) = λ e. cc
  begun_fresh who now Read = λ e. cc

  begun_bare : (who now : ℕ) (wish : Wish R) → (begun_op who now wish).kind ≢ WriteKind → (begun_op who now wish).item ≡ None
  begun_bare who now (Write item) = λ ne. absurd (ne refl)
  begun_bare who now Read = λ ne. refl

  -- the matrix after an access of a run
  chooses_matrix : (run : MatrixPlaying R) (who : ℕ) (o : Option (Progress R)) → (chooses run who o).matrix ≡ run.matrix
  chooses_matrix run who None = refl
  chooses_matrix run who (Some line) = refl

  accesses_matrix : (run : MatrixPlaying R) (who : ℕ) (wish : Wish R) (line : Progress R) →
      (accesses run who wish line).matrix ≡ after_access run.matrix who wish
  accesses_matrix run who wish line = by_test (nat_eq (line.done + 2) (size run.matrix)) (nat_eq (line.done + 3) (2 * size run.matrix))
    where
      by_test : (b c : Bool) → (if b then chooses (moved run who wish) who (slice_get (after_access run.matrix who wish).lines who) else
          (if c then finishes (moved run who wish) who run.now line.outcome else moved run who wish)).matrix
          ≡ after_access run.matrix who wish
      by_test true c = chooses_matrix (moved run who wish) who (slice_get (after_access run.matrix who wish).lines who)
      by_test false true = refl
      by_test false false = refl

module _ {R : Type 0} (at : ℕ) (span : Span R) (opening : R) (sp : IsSpan span) (acs : span.accesses ≡ 2 * (length span.plans - 1))
    (high : length span.plans - 2 + 1 < span.accesses) (chosen : ℕ → ℕ → Stamped R) (outcomes : ℕ → ℕ → Outcome R) where
  abbrev n : ℕ
  n = length span.plans

  abbrev ch : ℕ
  ch = n - 2

  abbrev kinds : ℕ → ℕ → Kind
  kinds i k = kind_of (outcomes i k)

  abbrev Told : List ℕ → MatrixPlaying R → Type 0
  Told done run = IsTold at span ch high chosen kinds done run.ops run.stamps (place_of run)

  -- the run so far: its shape, its records, and what it tells
  pub record IsPlay (done : List ℕ) (run : MatrixPlaying R) : Type 0 where
    pub so_far : IsPlaySoFar at span done run
    pub traces : IsAt at span opening sp.at_least acs chosen outcomes done run.matrix
    pub told : Told done run

  module _ (done rest : List ℕ) (run : MatrixPlaying R) (who : ℕ) (whole : span.steps ≡ done ++ who ∷ rest) (lw : who < n)
      (left : ¬ Overruns span (length done)) (h : IsPlay done run) (line : Progress R) (here : slice_get run.matrix.lines who ≡ Some line)
      (picks : (k : ℕ) (x : Progress R) → steps_of who done ≡ k * span.accesses + ch →
      slice_get (after_step span.plans run who).matrix.lines who ≡ Some x → (chosen who k ≡ x.own) × (outcomes who k ≡ x.outcome)) where
    abbrev g : IsPlaySoFar at span done run
    g = h.so_far

    abbrev p : IsProcess span done run who line
    p = g.each who line here

    abbrev k : ℕ
    k = p.operation

    abbrev Next : MatrixPlaying R → Type 0
    Next r = IsAt at span opening sp.at_least acs chosen outcomes (done ++ who ∷ []) r.matrix × Told (done ++ who ∷ []) r

    sizes : (size run.matrix ≡ n) × (2 ≤ n) × (line.done + 3 ≤ 2 * n)
    sizes =
        let i : line.done + 3 ≤ 2 * size run.matrix = g.matrix.inside who line here in
        let e : size run.matrix ≡ n = g.processes in
        let t : 2 ≤ n = sp.at_least in
        (e, t, omega arith)

    -- the records after the step
    matrix_after : (r : MatrixPlaying R) (w : Wish R) → after_step span.plans run who ≡ r → r.matrix ≡ after_access run.matrix who w →
        ((j : ℕ) → steps_of who done ≡ j * span.accesses → planned span who j ≡ Some w)
        → IsAt at span opening sp.at_least acs chosen outcomes (done ++ who ∷ []) (after_access run.matrix who w)
    matrix_after r w is m wished =
        matrix_step at span opening sp.at_least acs chosen outcomes done rest who run.matrix w whole lw h.traces wished
        (λ j x c e. picks j x c
        (ap (λ (z : MatrixPlaying R). slice_get z.matrix.lines who) is ∙ ap (λ (z : Matrix R). slice_get z.lines who) m ∙ e))

    -- the choice of this step
    record IsPicked (wish : Wish R) (next : Progress R) (op : Op R) : Type 0 where
      own : chosen who k ≡ next.own
      outcome : outcomes who k ≡ next.outcome
      tells : Tells wish next op

    picked : (r : MatrixPlaying R) (w : Wish R) (next : Progress R) (op : Op R) (wish : Wish R) → after_step span.plans run who ≡ r →
        r.matrix ≡ after_access run.matrix who w → IsAccess run.matrix (after_access run.matrix who w) who w line next
        → line.done ≡ ch → IsAt at span opening sp.at_least acs chosen outcomes (done ++ who ∷ []) (after_access run.matrix who w) →
        planned span who k ≡ Some wish → WishIs wish op → (op.kind ≢ WriteKind → op.item ≡ None) → IsPicked wish next op
    picked r w next op wish is m acc now after plan does bare =
        let c : steps_of who done ≡ k * span.accesses + ch = p.steps ∙ ap (λ z. k * span.accesses + z) now in
        let q = picks k next c
        (ap (λ (z : MatrixPlaying R). slice_get z.matrix.lines who) is ∙ ap (λ (z : Matrix R). slice_get z.lines who) m ∙ acc.here) in
        let more : steps_of who (done ++ who ∷ []) ≡ steps_of who done + 1 = steps_more in
        let saw : Saw at span opening sp.at_least acs chosen outcomes who k = after.saws who k (omega arith) in
        let same_wish : saw.line.wish ≡ wish = same_Some saw.line.wish wish (sym saw.wish ∙ plan) in
        let t : Tells saw.line.wish (choice span.limit who saw.line.wish saw.line) op =
        choice_tells span.limit who saw.line.wish saw.line op (subst (λ z. WishIs z op) (sym same_wish) does) bare in
        let eo : (choice span.limit who saw.line.wish saw.line).own ≡ next.own = sym saw.chose ∙ q.0 in
        let ec : (choice span.limit who saw.line.wish saw.line).outcome ≡ next.outcome = sym saw.outcome ∙ q.1 in
        record {
          own = q.0;
          outcome = q.1;
          tells = record {
            follows = subst (λ z. Follows (Some z) (chose next.outcome op)) same_wish
                (subst (λ z. Follows (Some saw.line.wish) (chose z op)) ec t.follows);
            kind = ap (λ z. (chose z op).kind) (sym ec) ∙ t.kind ∙ ap kind_of ec;
            written = λ e. ap (λ z. (chose z op).item) (sym ec) ∙ t.written (ap (λ z. (chose z op).kind) ec ∙ e)
                ∙ ap (λ (z : Stamped R). Some z.item) eo;
            bare = λ e. ap (λ z. (chose z op).item) (sym ec) ∙ t.bare (λ z. e (ap (λ y. (chose y op).kind) (sym ec) ∙ z));
          };
        }
      where
        steps_more : steps_of who (done ++ who ∷ []) ≡ steps_of who done + 1
        steps_more = steps_mine who done

    -- the first step of an operation
    module _ (zero_done : line.done ≡ 0) where
      planned_now : (wish : Wish R) × (planned span who k ≡ Some wish)
      planned_now = planned_next span done rest who k line.done whole left p.steps (let z = sizes in omega arith)

      abbrev wish : Wish R
      wish = planned_now.0

      abbrev run1 : MatrixPlaying R
      run1 = began run who wish

      abbrev new : Op R
      new = begun_op who run.now wish

      begins_is : after_step span.plans run who ≡ accesses run1 who wish line
      begins_is = step_begins span.plans run who wish line here zero_done
          (next_is_planned at span done run who line g here zero_done ∙ planned_now.1)

      place_is : place_of run1 who ≡ length run.ops
      place_is = let s : length run.seats ≡ n = g.seats in ap (λ (s : Seat). s.place) (began_seat run who wish (omega (arith, lw)))

      place_others : (v : ℕ) → v ≢ who → place_of run1 v ≡ place_of run v
      place_others v ne = ap (λ (s : Seat). s.place) (began_other run who v wish ne)

      begins_traces : IsAt at span opening sp.at_least acs chosen outcomes (done ++ who ∷ []) (after_access run.matrix who wish)
      begins_traces = matrix_after (accesses run1 who wish line) wish begins_is (accesses_matrix run1 who wish line)
          (λ j c. let z = sizes in
          let c0 : steps_of who done ≡ k * span.accesses + line.done = p.steps in
          let same : j ≡ k = same_operation_number span.accesses j k 0 0 (omega arith) (omega arith) (omega arith) in
          ap (planned span who) same ∙ planned_now.1)

      -- where it doesn't choose
      told_first : line.done ≢ ch → Told (done ++ who ∷ []) (accesses run1 who wish line)
      told_first ne =
          let z = sizes in
          let e = access_moves run1 who wish line (after_access run.matrix who wish) refl (let t : size run.matrix ≡ n = z.0 in
          λ y. ne (omega arith)) (let t : size run.matrix ≡ n = z.0 in λ y. ne (omega arith)) in
          let bw : new.who ≡ who = begun_who who run.now wish in
          let c : steps_of who done ≡ k * span.accesses =
          let q : steps_of who done ≡ k * span.accesses + line.done = p.steps in
          omega arith in
          let t : IsTold at span ch high chosen kinds (done ++ new.who ∷ []) (run.ops ++ new ∷ []) (run.stamps ++ None ∷ [])
          (place_of run1) = told_begins at span ch high chosen kinds done run.ops run.stamps (place_of run) h.told
          (omega arith) (place_of run1) k new
          (ap (λ v. steps_of v done) bw ∙ c) (begun_starts who run.now wish ∙ g.now) (begun_ends who run.now wish)
          (subst (λ o. Follows o new) (sym (ap (λ v. planned span v k) bw ∙ planned_now.1)) (begun_follows who run.now wish))
          (ap (place_of run1) bw ∙ place_is) (λ v d. place_others v (λ y. d (y ∙ sym bw))) (begun_fresh who run.now wish)
          (begun_bare who run.now wish) in
          subst (λ r. Told (done ++ who ∷ []) r) (sym e) (subst (λ v.
          IsTold at span ch high chosen kinds (done ++ v ∷ []) (run.ops ++ new ∷ []) (run.stamps ++ None ∷ []) (place_of run1)) bw t)

      -- where it chooses at once
      told_at_once : line.done ≡ ch → Told (done ++ who ∷ []) (accesses run1 who wish line)
      told_at_once first =
          let z = sizes in
          let acc = access_of run.matrix who wish line g.matrix here in
          let next : Progress R = acc.0 in
          let there : slice_get (run.ops ++ new ∷ []) (place_of run1 who) ≡ Some new = get_last run.ops new (place_of run1 who) place_is in
          let long : length (run.stamps ++ None ∷ []) ≡ length (run.ops ++ new ∷ []) =
          length_push run.stamps None ∙ ap (λ v. v + 1) g.stamps ∙ sym (length_push run.ops new) in
          let e = access_chooses run1 who wish line (after_access run.matrix who wish) next new refl (let t : size run.matrix ≡ n = z.0 in
          omega arith) acc.1.here there long in
          let pk : IsPicked wish next new =
          picked (accesses run1 who wish line) wish next new wish begins_is (accesses_matrix run1 who wish line) acc.1 first
          begins_traces planned_now.1 (begun_does who run.now wish) (begun_bare who run.now wish) in
          let op' : Op R = chose next.outcome new in
          let bw : op'.who ≡ who = chose_who next.outcome new ∙ begun_who who run.now wish in
          let c : steps_of who done ≡ k * span.accesses =
          let q : steps_of who done ≡ k * span.accesses + line.done = p.steps in
          omega arith in
          let t : IsTold at span ch high chosen kinds (done ++ op'.who ∷ []) (run.ops ++ op' ∷ [])
          (run.stamps ++ Some (chosen op'.who k).stamp ∷ []) (place_of run1) =
          told_begins_choosing at span ch high chosen kinds done run.ops run.stamps (place_of run) h.told
          (place_of run1) k op' (omega arith) (ap (λ v. steps_of v done) bw ∙ c) (chose_starts next.outcome new
          ∙ begun_starts who run.now wish ∙ g.now) (chose_ends next.outcome new ∙ begun_ends who run.now wish)
          (subst (λ o. Follows o op') (sym (ap (λ v. planned span v k) bw ∙ planned_now.1)) pk.tells.follows)
          (ap (place_of run1) bw ∙ place_is) (λ v d. place_others v (λ y. d (y ∙ sym bw)))
          (pk.tells.kind ∙ ap kind_of (sym pk.outcome) ∙ ap (λ v. kinds v k) (sym bw))
          (λ w. pk.tells.written w ∙ ap (λ (x : Stamped R). Some x.item) (sym pk.own) ∙ ap (λ v. Some (chosen v k).item) (sym bw))
          pk.tells.bare in
          let t1 : IsTold at span ch high chosen kinds (done ++ who ∷ []) (run.ops ++ op' ∷ [])
          (run.stamps ++ Some (chosen who k).stamp ∷ []) (place_of run1)
          = subst (λ v. IsTold at span ch high chosen kinds (done ++ v ∷ []) (run.ops ++ op' ∷ [])
          (run.stamps ++ Some (chosen v k).stamp ∷ []) (place_of run1)) bw t in
          let t2 : IsTold at span ch high chosen kinds (done ++ who ∷ []) (set (run.ops ++ new ∷ []) (place_of run1 who) op')
          (run.stamps ++ Some (chosen who k).stamp ∷ []) (place_of run1)
          = subst (λ xs. IsTold at span ch high chosen kinds (done ++ who ∷ []) xs (run.stamps ++ Some (chosen who k).stamp ∷ [])
          (place_of run1)) (sym (set_last run.ops new op' (place_of run1 who) place_is)) t1 in
          let t3 : IsTold at span ch high chosen kinds (done ++ who ∷ []) (set (run.ops ++ new ∷ []) (place_of run1 who) op')
          (set (run.stamps ++ None ∷ []) (place_of run1 who) (Some next.own.stamp)) (place_of run1)
          = subst (λ xs.
          IsTold at span ch high chosen kinds (done ++ who ∷ []) (set (run.ops ++ new ∷ []) (place_of run1 who) op') xs (place_of run1))
          (ap (λ (x : Stamped R). run.stamps ++ Some x.stamp ∷ []) pk.own
          ∙ sym (set_last run.stamps None (Some next.own.stamp) (place_of run1 who) (place_is ∙ sym g.stamps))) t2 in
          subst (λ r. Told (done ++ who ∷ []) r) (sym e) t3

      next_begins : Next (after_step span.plans run who)
      next_begins =
          let both : Next (accesses run1 who wish line) = (
            subst (λ m. IsAt at span opening sp.at_least acs chosen outcomes (done ++ who ∷ []) m)
                (sym (accesses_matrix run1 who wish line)) begins_traces,
            elim (cases_eq line.done ch) [ inl first ↦ told_at_once first | inr ne ↦ told_first ne ],
          ) in
          subst Next (sym begins_is) both

    -- a later one
    module _ (pos : 0 < line.done) where
      on_is : after_step span.plans run who ≡ accesses run who Read line
      on_is = step_goes_on span.plans run who line here pos

      within : line.done < span.accesses
      within = let z = sizes in omega arith

      abbrev way : IsUnderWay at (after span done) k who run.ops (place_of run who)
      way = g.played.under_way who k line.done p.steps pos within

      abbrev op : Op R
      op = way.op

      on_traces : IsAt at span opening sp.at_least acs chosen outcomes (done ++ who ∷ []) (after_access run.matrix who Read)
      on_traces = matrix_after (accesses run who Read line) Read on_is (accesses_matrix run who Read line)
          (λ j c. let z = sizes in
          let c0 : steps_of who done ≡ k * span.accesses + line.done = p.steps in
          let same : j ≡ k = same_operation_number span.accesses j k 0 line.done (omega arith) (omega arith) within in
          let mul : j * span.accesses ≡ k * span.accesses = ap (λ v. v * span.accesses) same in
          absurd (omega arith))

      mine : (v : ℕ) → v ≡ who → steps_of v done ≡ k * span.accesses + line.done
      mine v e = ap (λ z. steps_of z done) e ∙ p.steps

      told_choice : line.done ≡ ch → Told (done ++ who ∷ []) (accesses run who Read line)
      told_choice now =
          let z = sizes in
          let acc = access_of run.matrix who Read line g.matrix here in
          let next : Progress R = acc.0 in
          let e = access_chooses run who Read line (after_access run.matrix who Read) next op refl (let t : size run.matrix ≡ n = z.0 in
          omega arith) acc.1.here way.there g.stamps in
          let plan : planned span who k ≡ Some line.wish = p.wish pos in
          let m : steps_of op.who done ≡ k * span.accesses + line.done = mine op.who way.actor in
          let fresh : op.kind ≢ RefusedKind = h.told.unrefused (place_of run who) k op way.there way.operation.begins (omega arith) in
          let does : WishIs line.wish op =
          wish_is line.wish op (does_planned span who k op line.wish way.actor plan way.operation.follows) fresh in
          let pk : IsPicked line.wish next op =
          picked (accesses run who Read line) Read next op line.wish on_is (accesses_matrix run who Read line) acc.1 now on_traces plan
          does (h.told.unfinished (place_of run who) op way.there way.unfinished) in
          let op' : Op R = chose next.outcome op in
          let lp : place_of run who < length run.ops = slice_get_within run.ops (place_of run who) op way.there in
          let ls : length run.stamps ≡ length run.ops = g.stamps in
          let t = told_chooses at span ch high chosen kinds done run.ops run.stamps (place_of run) h.told who k line.done p.steps pos within
          (set run.ops (place_of run who) op') op'
          (replaced_by_set run.ops (place_of run who) op op' way.there (chose_who next.outcome op) (chose_starts next.outcome op))
          (set run.stamps (place_of run who) (Some next.own.stamp)) now (chose_ends next.outcome op ∙ way.unfinished)
          (subst (λ o. Follows o op') (sym plan) pk.tells.follows)
          (length-set run.stamps (place_of run who) (Some next.own.stamp) ∙ ls ∙ sym (length-set run.ops (place_of run who) op'))
          (get_set_same run.stamps (place_of run who) (Some next.own.stamp) (omega arith)
          ∙ ap (λ (x : Stamped R). Some (Some x.stamp)) (sym pk.own))
          (λ q ne. get_unset run.stamps (place_of run who) q (Some next.own.stamp) ne)
          (pk.tells.kind ∙ ap kind_of (sym pk.outcome))
          (λ w. pk.tells.written w ∙ ap (λ (x : Stamped R). Some x.item) (sym pk.own))
          pk.tells.bare in
          subst (λ r. Told (done ++ who ∷ []) r) (sym e) t

      told_end : line.done + 1 ≡ span.accesses → Told (done ++ who ∷ []) (accesses run who Read line)
      told_end full =
          let z = sizes in
          let e = access_finishes run who Read line (after_access run.matrix who Read) op refl (let t : size run.matrix ≡ n = z.0 in
          λ y. omega arith) (let t : size run.matrix ≡ n = z.0 in omega arith) way.there in
          let hl : IsLineAt at span opening sp.at_least acs chosen outcomes done who line = h.traces.lines who line here in
          let kk : hl.k ≡ k = same_operation_number span.accesses hl.k k line.done line.done (sym hl.steps ∙ p.steps) within within in
          let oc : line.outcome ≡ outcomes who k = hl.outcome (omega arith) ∙ ap (outcomes who) kk in
          let c : steps_of who done ≡ k * span.accesses + line.done = p.steps in
          let m : steps_of op.who done ≡ k * span.accesses + line.done = mine op.who way.actor in
          let saw : Saw at span opening sp.at_least acs chosen outcomes who k = h.traces.saws who k (omega arith) in
          let t0 : IsToldOf at span ch high chosen kinds run.stamps (place_of run who) k op =
          h.told.told (place_of run who) k op way.there way.operation.begins (omega arith) in
          let own : Own line.outcome (chosen who k) =
          subst (λ o. Own o (chosen who k)) (sym (oc ∙ saw.outcome)) (subst (Own (choice span.limit who saw.line.wish saw.line).outcome)
          (sym saw.chose) (choice_own span.limit who saw.line.wish saw.line)) in
          let kd : op.kind ≡ kind_of line.outcome = t0.same_kind ∙ ap (λ v. kinds v k) way.actor ∙ ap kind_of (sym oc) in
          let op' : Op R = ended run.now line.outcome op in
          let suits : Suits line.outcome line.wish op = p.outcome (omega arith) op way.there in
          let plan : planned span who k ≡ Some line.wish = p.wish pos in
          let is = replaced_by_set run.ops (place_of run who) op op' way.there (ended_who run.now line.outcome op)
          (ended_starts run.now line.outcome op) in
          let w = told_way at span ch high chosen kinds done run.ops run.stamps (place_of run) h.told who k line.done p.steps pos within
          (set run.ops (place_of run who) op') op' is in
          let same_op : op ≡ w.op = same_Some op w.op (sym way.there ∙ w.there) in
          let t = told_ends at span ch high chosen kinds done run.ops run.stamps (place_of run) h.told who k line.done p.steps pos within
          (set run.ops (place_of run who) op') op' is
          full (ended_ends run.now line.outcome op ∙ ap Some g.now) (ended_kind run.now line.outcome op ∙ ap (λ (o : Op R). o.kind) same_op)
          (λ w. ended_keeps run.now line.outcome op kd (sym (ended_kind run.now line.outcome op) ∙ w) ∙ ap (λ (o : Op R). o.item) same_op)
          (subst (λ o. Follows o op') (sym plan) (ended_follows run.now line.outcome line.wish op suits
          (does_planned span who k op line.wish way.actor plan way.operation.follows)))
          (length-set run.ops (place_of run who) op')
          (ended_item run.now line.outcome op (chosen who k) own kd (λ w. t0.item w ∙ ap (λ v. Some (chosen v k).item) way.actor)) in
          subst (λ r. Told (done ++ who ∷ []) r) (sym e) t

      told_on : line.done ≢ ch → line.done + 1 ≢ span.accesses → Told (done ++ who ∷ []) (accesses run who Read line)
      told_on ne nf =
          let z = sizes in
          let e = access_moves run who Read line (after_access run.matrix who Read) refl (let t : size run.matrix ≡ n = z.0 in
          λ y. ne (omega arith)) (let t : size run.matrix ≡ n = z.0 in λ y. nf (omega arith)) in
          let l = within in
          subst (λ r. Told (done ++ who ∷ []) r) (sym e)
          (told_goes_on at span ch high chosen kinds done run.ops run.stamps (place_of run) h.told who k line.done
          p.steps pos (omega arith) ne)

      next_goes_on : Next (after_step span.plans run who)
      next_goes_on =
          let both : Next (accesses run who Read line) = (
            subst (λ m. IsAt at span opening sp.at_least acs chosen outcomes (done ++ who ∷ []) m)
                (sym (accesses_matrix run who Read line)) on_traces,
            elim (cases_eq line.done ch) [
              | inl now ↦ told_choice now
              | inr ne ↦ elim (cases_eq (line.done + 1) span.accesses) [ inl full ↦ told_end full | inr nf ↦ told_on ne nf ]
            ],
          ) in
          subst Next (sym on_is) both

  -- a step
  pub play_step : (done rest : List ℕ) (run : MatrixPlaying R) (who : ℕ) → span.steps ≡ done ++ who ∷ rest → who < n →
      ¬ Overruns span (length done) → IsPlay done run
      → ((k : ℕ) (x : Progress R) → steps_of who done ≡ k * span.accesses + ch →
      slice_get (after_step span.plans run who).matrix.lines who ≡ Some x → (chosen who k ≡ x.own) × (outcomes who k ≡ x.outcome))
      → IsPlay (done ++ who ∷ []) (after_step span.plans run who)
  play_step done rest run who whole lw left h picks =
      let sz : size run.matrix ≡ n = h.so_far.processes in
      let x = get_exists run.matrix.lines who (omega arith) in
      let next : IsAt at span opening sp.at_least acs chosen outcomes (done ++ who ∷ []) (after_step span.plans run who).matrix
      × Told (done ++ who ∷ []) (after_step span.plans run who) = elim (cases_eq x.0.done 0) [
        | inl z ↦ next_begins done rest run who whole lw left h x.0 x.1 picks z
        | inr ne ↦ next_goes_on done rest run who whole lw left h x.0 x.1 picks (omega arith)
      ] in
      record { so_far = one_step at span done rest run who sp lw whole left h.so_far; traces = next.0; told = next.1 }
