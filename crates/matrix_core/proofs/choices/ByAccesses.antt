-- A term by its accesses chooses by the law of choices: by induction over its steps, each of which makes a choice or none. What
-- a read answered is a record of the past, since its write began before the read ended; and it isn't too old, since the write of
-- an operation that ended before precedes the read.
use Rattle.std.proofs.Common.{◌≡◌, ◌≢◌, ℕ, zero, suc, ◌+◌, ◌-◌, ◌*◌, ◌/◌, ◌%◌, ◌<◌, ◌≤◌, List, [], ◌∷◌, ◌++◌, length, slice_get, Option}
use Rattle.std.proofs.Common.{None, Some, true, nat_eq, refl, sym, subst, ◌∙◌, ap, arith, inl, inr, append-nil}
use Rattle.std.specs.Prelude.{if◌then◌else◌}
use Rattle.std.proofs.lemmas.Bool.Decides.{nat_tests}
use Rattle.std.proofs.lemmas.List.{length_push}
use Rattle.std.specs.Option.{option_map}
use Rattle.std.proofs.lemmas.Bool.{cases_eq, cases_lt}
use Rattle.std.proofs.lemmas.Nat.{div-add-mod'}
use Rattle.std.proofs.lemmas.Option.{none-some, same_Some, slice_get_within}
use Rattle.history_core.specs.declared.history.Op.{Op}
use Rattle.history_core.specs.Schedules.{access_at, IsOperation, IsPlayed, positions, Span, steps_of}
use Rattle.history_core.proofs.Folds.{fold_keeps_all}
use Rattle.history_core.proofs.Listed.{some_and_of}
use Rattle.history_core.proofs.Places.{get_after, get_before}
use Rattle.history_core.proofs.Played.{later_operation, number_once, operation_once, same_operation_number}
use Rattle.history_core.proofs.Positions.{position_below, position_exists, position_least, position_made, position_once, positions_join}
use Rattle.history_core.proofs.Positions.{positions_length, positions_rise, steps_mine, steps_other}
use Rattle.four_slot_core.specs.Traces.{source_record}
use Rattle.four_slot_core.proofs.Pushed.{get_cases}
use Rattle.history_core.proofs.Times.{of_before, to_before}
use Rattle.history_core.specs.Registers.{IsReadOf}
use Rattle.matrix_core.specs.declared.stamp.Stamp.{Stamp}
use Rattle.matrix_core.specs.declared.stamp.Stamped.{Stamped}
use Rattle.matrix_core.specs.Lines.{first_record, other}
use Rattle.matrix_core.specs.Choices.{Choice, HasChoices, IsChoiceOf, IsEarlier, IsIn}
use Rattle.matrix_core.specs.Gathering.{AllGather, choices_of, Gathers, IsCellAnswer, numbered, record_of}
use Rattle.matrix_core.specs.ByAccesses.{choice_at, chooses_at, ChoosesBy, column, IsChosenBy, IsCut, row}
use Rattle.matrix_core.proofs.lines.Others.{other_differs, other_inside, other_reached}
use Rattle.matrix_core.proofs.choices.Gathered.{all_choose, in_mine, mine_in, mine_more, mine_same}
use Rattle.matrix_core.proofs.lists.Elements.{get_middle}
use Rattle.matrix_core.proofs.lists.Elements.{get_exists}

-- the choices of a term by process and operation
pub record HasRecords {R : Type 0} (at : ℕ) (span : Span R) (width : ℕ) (chosen : ℕ → ℕ → Stamped R)
    (choices : List (Choice R)) : Type 0 where
  pub each : (i k : ℕ) (d : Choice R) → slice_get (choices_of i choices) k ≡ Some d →
      (record_of d ≡ chosen i k) × (k * span.accesses + ((length span.plans - 2) * width + (width - 1)) < steps_of i span.steps)
  pub all : (i k : ℕ) → k * span.accesses + ((length span.plans - 2) * width + (width - 1)) < steps_of i span.steps →
      (d : Choice R) × (slice_get (choices_of i choices) k ≡ Some d)
  pub inside : (c : Choice R) → IsIn c choices → c.who < length span.plans

gather_inside : {R : Type 0} (Earlier : Choice R → Choice R → Type 0) (opening : R) (limit n : ℕ) (choices : List (Choice R)) →
    AllGather Earlier opening limit n choices → (c : Choice R) → IsIn c choices → c.who < n
gather_inside Earlier opening limit n [] h c m = absurd m
gather_inside Earlier opening limit n (d ∷ past) h c (inl e) = subst (λ z. z.who < n) (sym e) h.0.inside
gather_inside Earlier opening limit n (d ∷ past) h c (inr m) = gather_inside Earlier opening limit n past h.1 c m

module _ {R : Type 0} (at : ℕ) (span : Span R) where
  -- an event of an operation comes after those that stand before it in the operation
  pub event_upto : (who k e f q : ℕ) → e ≤ f → access_at at span who k f ≡ Some q → (p : ℕ) × (access_at at span who k e ≡ Some p) × (p ≤ q)
  event_upto who k e f q le h = elim (cases_eq e f) [
    | inl same ↦ (q, ap (access_at at span who k) same ∙ h, omega arith)
    | inr ne ↦
        let made : k * span.accesses + f < steps_of who span.steps = position_made at who span.steps (k * span.accesses + f) q h in
        let x = position_exists at who span.steps (k * span.accesses + e) (omega arith) in
        let r : x.0 < q = positions_rise at who span.steps (k * span.accesses + e) (k * span.accesses + f) x.0 q x.1 h (omega arith) in
        (x.0, x.1, omega arith)
  ]

  pub event_before : (who k e f q : ℕ) → e < f → access_at at span who k f ≡ Some q →
      (p : ℕ) × (access_at at span who k e ≡ Some p) × (p < q)
  event_before who k e f q l h =
      let made : k * span.accesses + f < steps_of who span.steps = position_made at who span.steps (k * span.accesses + f) q h in
      let x = position_exists at who span.steps (k * span.accesses + e) (omega arith) in
      (x.0, x.1, positions_rise at who span.steps (k * span.accesses + e) (k * span.accesses + f) x.0 q x.1 h (omega arith))

  -- an event that stands before these steps end is one of them
  pub in_done : (done rest : List ℕ) (who k e p : ℕ) → span.steps ≡ done ++ rest → access_at at span who k e ≡ Some p →
      p < at + length done → k * span.accesses + e < steps_of who done
  in_done done rest who k e p whole h l = elim (cases_lt (k * span.accesses + e) (steps_of who done)) [
    | inl lt ↦ lt
    | inr le ↦
        let i : ℕ = k * span.accesses + e in
        let n : ℕ = length (positions at who done) in
        let ln : n ≡ steps_of who done = positions_length at who done in
        let both : slice_get (positions at who done ++ positions (at + length done) who rest) i ≡ Some p =
        ap (λ ps. slice_get ps i) (sym (ap (positions at who) whole ∙ positions_join at who done rest)) ∙ h in
        let split : n + (i - n) ≡ i = omega arith in
        let late : slice_get (positions (at + length done) who rest) (i - n) ≡ Some p =
        sym (get_after (positions at who done) (positions (at + length done) who rest) (i - n))
        ∙ ap (slice_get (positions at who done ++ positions (at + length done) who rest)) split ∙ both in
        let low : at + length done ≤ p = position_least (at + length done) who rest (i - n) p late in
        absurd (omega arith)
  ]

  pub done_event : (done rest : List ℕ) (who k e : ℕ) → span.steps ≡ done ++ rest → k * span.accesses + e < steps_of who done →
      (p : ℕ) × (access_at at span who k e ≡ Some p) × (p < at + length done)
  done_event done rest who k e whole l =
      let i : ℕ = k * span.accesses + e in
      let x = position_exists at who done i l in
      let ln : length (positions at who done) ≡ steps_of who done = positions_length at who done in (
        x.0,
        ap (λ ps. slice_get ps i) (ap (positions at who) whole ∙ positions_join at who done rest)
            ∙ get_before (positions at who done) (positions (at + length done) who rest) i (omega arith) ∙ x.1,
        position_below at who done i x.0 x.1,
      )

  -- the next step has the next position
  pub step_event : (done rest : List ℕ) (who k e : ℕ) → span.steps ≡ done ++ who ∷ rest → steps_of who done ≡ k * span.accesses + e →
      access_at at span who k e ≡ Some (at + length done)
  step_event done rest who k e whole l =
      let i : ℕ = k * span.accesses + e in
      let ln : length (positions at who done) ≡ steps_of who done = positions_length at who done in
      let split : length (positions at who done) + 0 ≡ i = omega arith in
      let first : slice_get (positions (at + length done) who (who ∷ rest)) 0 ≡ Some (at + length done) =
      first_position (at + length done) who rest in
      ap (λ ps. slice_get ps i) (ap (positions at who) whole ∙ positions_join at who done (who ∷ rest))
      ∙ ap (slice_get (positions at who done ++ positions (at + length done) who (who ∷ rest))) (sym split)
      ∙ get_after (positions at who done) (positions (at + length done) who (who ∷ rest)) 0 ∙ first
    where
      first_position : (n s : ℕ) (xs : List ℕ) → slice_get (positions n s (s ∷ xs)) 0 ≡ Some n
      first_position n s xs =
          let t : nat_eq s s ≡ true = grind (arith, nat_tests) in
          ap (λ b. slice_get (if b then n ∷ positions (n + 1) s xs else positions (n + 1) s xs) 0) t

-- one more step of somebody
pub steps_up : (who s : ℕ) (done : List ℕ) → steps_of who done ≤ steps_of who (done ++ s ∷ [])
steps_up who s done = elim (cases_eq s who) [
  | inl e ↦
      let h : steps_of who (done ++ s ∷ []) ≡ steps_of who done + 1 = ap (λ z. steps_of who (done ++ z ∷ [])) e ∙ steps_mine who done in
      omega arith
  | inr ne ↦ let h : steps_of who (done ++ s ∷ []) ≡ steps_of who done = steps_other who s done ne in omega arith
]

module _ {R : Type 0} (at width : ℕ) (span : Span R) (opening : R) (ops : List (Op R)) (stamps : List (Option Stamp))
    (chosen : ℕ → ℕ → Stamped R)
    (cut : IsCut width span) (played : IsPlayed at span ops) (by : IsChosenBy at span width opening ops stamps chosen) where
  abbrev choosing : ℕ
  choosing = (length span.plans - 2) * width + (width - 1)

  -- the choice comes before the last step of its operation, and the accesses of the row after it
  choosing_inside : choosing < span.accesses
  choosing_inside =
      let two : 2 ≤ length span.plans = cut.at_least in
      let a : span.accesses ≡ (2 * (length span.plans - 1)) * width = cut.accesses in
      let some : 0 < width = cut.some in
      let l : (length span.plans - 2) * width + width ≤ (2 * (length span.plans - 1)) * width =
      later_operation width (length span.plans - 2) (2 * (length span.plans - 1)) (omega arith) in
      omega arith

  read_inside : (read : ℕ) → read + 1 < length span.plans → read * width + (width - 1) ≤ choosing
  read_inside read l = elim (cases_eq read (length span.plans - 2)) [
    | inl e ↦ let h : read * width ≡ (length span.plans - 2) * width = ap (λ z. z * width) e in omega arith
    | inr ne ↦
        let h : read * width + width ≤ (length span.plans - 2) * width = later_operation width read (length span.plans - 2) (omega arith) in
        omega arith
  ]

  row_begins : (write : ℕ) → choosing < (length span.plans - 1 + write) * width
  row_begins write =
      let two : 2 ≤ length span.plans = cut.at_least in
      let some : 0 < width = cut.some in
      let h : (length span.plans - 2) * width + width ≤ (length span.plans - 1 + write) * width =
      later_operation width (length span.plans - 2) (length span.plans - 1 + write) (omega arith) in
      omega arith

  row_ends : (write : ℕ) → write + 1 < length span.plans → (length span.plans - 1 + write) * width + (width - 1) ≤ span.accesses - 1
  row_ends write l =
      let a : span.accesses ≡ (2 * (length span.plans - 1)) * width = cut.accesses in
      let some : 0 < width = cut.some in
      let h : (length span.plans - 1 + write) * width + width ≤ (2 * (length span.plans - 1)) * width =
      later_operation width (length span.plans - 1 + write) (2 * (length span.plans - 1)) (omega arith) in
      omega arith

  -- the choice of operation k of process i
  record IsOf (i k : ℕ) (d : Choice R) : Type 0 where
    op : Op R
    there : slice_get ops d.place ≡ Some op
    is : IsOperation at span k op
    actor : op.who ≡ i
    same : d ≡ choice_at chosen d.place k op

  record_is : (i k : ℕ) (d : Choice R) → IsOf i k d → record_of d ≡ chosen i k
  record_is i k d o = ap record_of o.same ∙ ap (λ z. chosen z k) o.actor

  -- the choices of the steps done so far
  record IsSoFar (done : List ℕ) (choices : List (Choice R)) : Type 0 where
    each : (i k : ℕ) (d : Choice R) → slice_get (choices_of i choices) k ≡ Some d →
        IsOf i k d × (k * span.accesses + choosing < steps_of i done)
    all : (i k : ℕ) → k * span.accesses + choosing < steps_of i done → (d : Choice R) × (slice_get (choices_of i choices) k ≡ Some d)
    gather : AllGather (IsEarlier ops) opening span.limit (length span.plans) choices

  -- a step that doesn't choose
  other_step : (done : List ℕ) (choices : List (Choice R)) (s m r : ℕ) → steps_of s done ≡ m * span.accesses + r → r < span.accesses →
      r ≢ choosing → IsSoFar done choices → IsSoFar (done ++ s ∷ []) choices
  other_step done choices s m r c lr ne h = record {
    each = λ i k d e.
        let w = h.each i k d e in
        let l : k * span.accesses + choosing < steps_of i done = w.1 in
        let u = steps_up i s done in
        (w.0, omega arith);
    all = λ i k l. h.all i k (elim (cases_eq s i) [
      | inr other ↦ let e : steps_of i (done ++ s ∷ []) ≡ steps_of i done = steps_other i s done other in omega arith
      | inl mine ↦
          let e : steps_of i (done ++ s ∷ []) ≡ steps_of i done + 1 = ap (λ z. steps_of i (done ++ z ∷ [])) mine ∙ steps_mine i done in
          let c' : steps_of i done ≡ m * span.accesses + r = ap (λ z. steps_of z done) (sym mine) ∙ c in
          elim (cases_eq (k * span.accesses + choosing) (m * span.accesses + r)) [
            | inr differ ↦ omega arith
            | inl now ↦
                let ci : choosing < span.accesses = choosing_inside in
                let same : k ≡ m = same_operation_number span.accesses k m choosing r now ci lr in
                let mul : k * span.accesses ≡ m * span.accesses = ap (λ z. z * span.accesses) same in
                absurd (ne (omega arith))
          ]
    ]);
    gather = h.gather;
  }

  module _ (done rest : List ℕ) (choices : List (Choice R)) (p m : ℕ) (op : Op R) (whole : span.steps ≡ done ++ op.who ∷ rest)
      (there : slice_get ops p ≡ Some op) (is : IsOperation at span m op)
      (now : steps_of op.who done ≡ m * span.accesses + choosing) (h : IsSoFar done choices) where
    abbrev new : Choice R
    new = choice_at chosen p m op

    chosen_here : chooses_at at span width op.who m ≡ Some (at + length done)
    chosen_here = step_event at span done rest op.who m choosing whole now

    what : ChoosesBy at span width opening chosen new m
    what = by.chooses p m (at + length done) op there is chosen_here

    -- as many choices of its process stand before as it has operations before
    count : length (choices_of op.who choices) ≡ m
    count = elim (cases_lt (length (choices_of op.who choices)) m) [
      | inl l ↦
          let n : ℕ = length (choices_of op.who choices) in
          let le : n * span.accesses + span.accesses ≤ m * span.accesses = later_operation span.accesses n m l in
          let ci : choosing < span.accesses = choosing_inside in
          let x = h.all op.who n (omega arith) in
          absurd (let z : n < n = slice_get_within (choices_of op.who choices) n x.0 x.1 in omega arith)
      | inr le ↦ elim (cases_eq (length (choices_of op.who choices)) m) [
        | inl e ↦ e
        | inr ne ↦
            let x = get_exists (choices_of op.who choices) m (omega arith) in
            let l : m * span.accesses + choosing < steps_of op.who done = (h.each op.who m x.0 x.1).1 in
            absurd (omega arith)
      ]
    ]

    -- the newest record of its process
    newest : (n : ℕ) → n ≡ m →
        numbered opening (choices_of op.who choices) n ≡ Some (source_record (first_record opening) (chosen op.who) n)
    newest zero e = refl
    newest (suc k) e =
        let x = get_exists (choices_of op.who choices) k (omega (arith, count)) in
        ap (option_map record_of) x.1 ∙ ap Some (record_is op.who k x.0 (h.each op.who k x.0 x.1).0)

    starts_early : op.starts ≤ at + length done
    starts_early =
        let x = event_upto at span op.who m 0 choosing (at + length done) (omega arith) chosen_here in
        let s : x.0 ≡ op.starts = same_Some x.0 op.starts (sym x.1 ∙ is.begins) in
        let l : x.0 ≤ at + length done = x.2 in
        omega arith

    ends_late : (end : ℕ) → op.ends ≡ Some end → at + length done ≤ end
    ends_late end e =
        let ci : choosing < span.accesses = choosing_inside in
        let x = event_upto at span op.who m choosing (span.accesses - 1) end (omega arith) (is.finishes ∙ e) in
        let s : x.0 ≡ at + length done = same_Some x.0 (at + length done) (sym x.1 ∙ chosen_here) in
        let l : x.0 ≤ end = x.2 in
        omega arith

    not_later : (d : Choice R) → IsIn d choices → ¬ IsEarlier ops new d
    not_later d mem w =
        let k = in_mine choices d mem in
        let o = h.each d.who k.0 d k.1 in
        let x : w.0 ≡ op = same_Some w.0 op (sym w.2 ∙ there) in
        let y : w.1 ≡ o.0.op = same_Some w.1 o.0.op (sym w.3 ∙ o.0.there) in
        let e = some_and_of (λ end. end < w.1.starts) w.0.ends w.4 in
        let late : at + length done ≤ e.0 = ends_late e.0 (ap (λ (z : Op R). z.ends) (sym x) ∙ e.1) in
        let less : e.0 < w.1.starts = e.2 in
        let ys : w.1.starts ≡ o.0.op.starts = ap (λ (z : Op R). z.starts) y in
        let q = done_event at span done (op.who ∷ rest) d.who k.0 choosing whole o.1 in
        let z = event_upto at span d.who k.0 0 choosing q.0 (omega arith) q.1 in
        let zs : z.0 ≡ o.0.op.starts =
        same_Some z.0 o.0.op.starts (sym z.1 ∙ ap (λ i. access_at at span i k.0 0) (sym o.0.actor) ∙ o.0.is.begins) in
        let l1 : z.0 ≤ q.0 = z.2 in
        let l2 : q.0 < at + length done = q.2 in
        omega arith

    interval : ¬ IsEarlier ops new new
    interval w =
        let x : w.0 ≡ op = same_Some w.0 op (sym w.2 ∙ there) in
        let y : w.1 ≡ op = same_Some w.1 op (sym w.3 ∙ there) in
        let e = some_and_of (λ end. end < w.1.starts) w.0.ends w.4 in
        let late : at + length done ≤ e.0 = ends_late e.0 (ap (λ (z : Op R). z.ends) (sym x) ∙ e.1) in
        let less : e.0 < w.1.starts = e.2 in
        let ys : w.1.starts ≡ op.starts = ap (λ (z : Op R). z.starts) y in
        let early : op.starts ≤ at + length done = starts_early in
        omega arith

    module _ (read write : ℕ) (answer : Stamped R) (lr : read + 1 < length span.plans)
        (back : other (other op.who read) write ≡ op.who) (lw : write + 1 < length span.plans) (n : ℕ)
        (law : IsReadOf (row at span width (other op.who read) write) (column at span width op.who read) m n) where
      abbrev from : ℕ
      from = other op.who read

      -- the read ends no later than the choice
      read_ends : (q : ℕ) × (access_at at span op.who m (read * width + (width - 1)) ≡ Some q) × (q ≤ at + length done)
      read_ends = event_upto at span op.who m (read * width + (width - 1)) choosing (at + length done) (read_inside read lr) chosen_here

      -- the choice of the write with the read's number stands in the past
      in_past : (k : ℕ) → n ≡ k + 1 → (d : Choice R) × (slice_get (choices_of from choices) k ≡ Some d)
      in_past k e =
          let b = of_before ((row at span width from write).begins k) ((column at span width op.who read).ends m) (law.begun k e) in
          let r = read_ends in
          let l : b.0 < r.0 = b.2 r.0 r.1 in
          let c = event_before at span from k choosing ((length span.plans - 1 + write) * width) b.0 (row_begins write) b.1 in
          let l1 : c.0 < b.0 = c.2 in
          let l2 : r.0 ≤ at + length done = r.2 in
          h.all from k (in_done at span done (op.who ∷ rest) from k choosing c.0 whole c.1 (omega arith))

      source : (k : ℕ) → k ≡ n → numbered opening (choices_of from choices) k ≡ Some (source_record (first_record opening) (chosen from) k)
      source zero e = refl
      source (suc k) e =
          let x = in_past k (omega arith) in
          ap (option_map record_of) x.1 ∙ ap Some (record_is from k x.0 (h.each from k x.0 x.1).0)

      late : (k : ℕ) (d : Choice R) → slice_get (choices_of from choices) k ≡ Some d → IsEarlier ops d new → k < n
      late k d at_k w =
          let o = h.each from k d at_k in
          let x : w.0 ≡ o.0.op = same_Some w.0 o.0.op (sym w.2 ∙ o.0.there) in
          let y : w.1 ≡ op = same_Some w.1 op (sym w.3 ∙ there) in
          let e = some_and_of (λ end. end < w.1.starts) w.0.ends w.4 in
          let less : e.0 < w.1.starts = e.2 in
          let ys : w.1.starts ≡ op.starts = ap (λ (z : Op R). z.starts) y in
          let fin : access_at at span from k (span.accesses - 1) ≡ Some e.0 =
          ap (λ i. access_at at span i k (span.accesses - 1)) (sym o.0.actor) ∙ o.0.is.finishes
          ∙ ap (λ (z : Op R). z.ends) (sym x) ∙ e.1 in
          let v = event_upto at span from k ((length span.plans - 1 + write) * width + (width - 1)) (span.accesses - 1) e.0
          (row_ends write lw) fin in
          let v1 : v.0 ≤ e.0 = v.2 in
          law.late k (to_before ((row at span width from write).ends k) ((column at span width op.who read).begins m) v.0 v.1
          (λ z h. let u = event_upto at span op.who m 0 (read * width) z (omega arith) h in
          let us : u.0 ≡ op.starts = same_Some u.0 op.starts (sym u.1 ∙ is.begins) in
          let u1 : u.0 ≤ z = u.2 in
          omega arith))

      is_answer : answer ≡ source_record (first_record opening) (chosen from) n →
          IsCellAnswer (λ d. IsEarlier ops d new) opening (choices_of from choices) answer
      is_answer e = record { number = n; source = source n refl ∙ ap Some (sym e); late = late }

    acting : op.who < length span.plans
    acting = cut.steps (length done) op.who (ap (λ xs. slice_get xs (length done)) whole ∙ get_middle done op.who rest)

    gathers : Gathers (IsEarlier ops) opening span.limit (length span.plans) choices new
    gathers = record {
      own = source_record (first_record opening) (chosen op.who) m;
      newest = ap (numbered opening (choices_of op.who choices)) count ∙ newest m refl;
      answers = what.answers;
      each = what.each;
      answered = λ read answer e.
          let we : length what.answers + 1 ≡ length span.plans = what.each in
          let lr : read < length what.answers = slice_get_within what.answers read answer e in
          let lw : op.who < length span.plans = acting in
          let back = other_reached (length span.plans) (other op.who read) op.who
          (other_inside (length span.plans) op.who read lw (omega arith)) lw (λ z. other_differs op.who read (sym z)) in
          let a = what.answered read back.0 answer e back.2 back.1 in
          is_answer read back.0 answer (omega arith) back.2 back.1 a.0 a.1 a.2;
      chosen = what.by_kind;
      not_later = not_later;
      interval = interval;
      inside = acting;
    }

    -- the step that chooses
    choosing_step : IsSoFar (done ++ op.who ∷ []) (new ∷ choices)
    choosing_step = record {
      each = λ i k d e. elim (cases_eq op.who i) [
        | inr ne ↦
            let w = h.each i k d (ap (λ xs. slice_get xs k) (sym (mine_same i new choices ne)) ∙ e) in
            let l : k * span.accesses + choosing < steps_of i done = w.1 in
            let u = steps_up i op.who done in
            (w.0, omega arith)
        | inl mine ↦ elim (get_cases (choices_of i choices) new k d (ap (λ xs. slice_get xs k) (sym (mine_more i new choices mine)) ∙ e)) [
          | inl old ↦
              let w = h.each i k d old in
              let l : k * span.accesses + choosing < steps_of i done = w.1 in
              let u = steps_up i op.who done in
              (w.0, omega arith)
          | inr z ↦
              let km : k ≡ m = z.0 ∙ ap (λ i. length (choices_of i choices)) (sym mine) ∙ count in
              let o : IsOf i m new = record { op = op; there = there; is = is; actor = mine; same = refl } in
              let o' : IsOf i k d = subst (λ x. IsOf i x d) (sym km) (subst (λ (x : Choice R). IsOf i m x) (sym z.1) o) in
              let mul : k * span.accesses ≡ m * span.accesses = ap (λ x. x * span.accesses) km in
              let up : steps_of i (done ++ op.who ∷ []) ≡ steps_of op.who done + 1 =
              ap (λ x. steps_of x (done ++ op.who ∷ [])) (sym mine) ∙ steps_mine op.who done in
              (o', omega (arith, now))
        ]
      ];
      all = λ i k l. elim (cases_eq op.who i) [
        | inr ne ↦
            let same : steps_of i (done ++ op.who ∷ []) ≡ steps_of i done = steps_other i op.who done ne in
            let x = h.all i k (omega arith) in
            (x.0, ap (λ xs. slice_get xs k) (mine_same i new choices ne) ∙ x.1)
        | inl mine ↦
            let up : steps_of i (done ++ op.who ∷ []) ≡ steps_of op.who done + 1 =
            ap (λ x. steps_of x (done ++ op.who ∷ [])) (sym mine) ∙ steps_mine op.who done in
            let len : length (choices_of i choices) ≡ m = ap (λ i. length (choices_of i choices)) (sym mine) ∙ count in
            elim (cases_lt m k) [
              | inl more ↦
                  let g : m * span.accesses + span.accesses ≤ k * span.accesses = later_operation span.accesses m k more in
                  let ci : choosing < span.accesses = choosing_inside in
                  absurd (omega (arith, now))
              | inr le ↦
                  let x = get_exists (choices_of i choices ++ new ∷ []) k (omega (arith, length_push (choices_of i choices) new)) in
                  (x.0, ap (λ xs. slice_get xs k) (mine_more i new choices mine) ∙ x.1)
            ]
      ];
      gather = (gathers, h.gather);
    }

  abbrev HasSoFar : List ℕ → Type 0
  HasSoFar done = (choices : List (Choice R)) × IsSoFar done choices

  one_step : (done rest : List ℕ) (s : ℕ) → span.steps ≡ done ++ s ∷ rest → HasSoFar done → HasSoFar (done ++ s ∷ [])
  one_step done rest s whole h =
      let a : ℕ = span.accesses in
      let ci : choosing < a = choosing_inside in
      let m : ℕ = steps_of s done / a in
      let r : ℕ = steps_of s done % a in
      let c : steps_of s done ≡ m * a + r = sym (div-add-mod' (steps_of s done) a) in
      elim (cases_eq r choosing) [
        | inr ne ↦ (h.0, other_step done h.0 s m r c (omega arith) ne h.1)
        | inl e ↦
            let now : steps_of s done ≡ m * a + choosing = omega arith in
            let here : access_at at span s m choosing ≡ Some (at + length done) = step_event at span done rest s m choosing whole now in
            let b = event_upto at span s m 0 choosing (at + length done) (omega arith) here in
            let x = played.all s m b.0 b.1 in
            let o = played.each x.0 x.1 x.2 in
            let op : Op R = x.1 in
            let begins : access_at at span s o.0 0 ≡ Some b.0 = ap (λ w. access_at at span w o.0 0) (sym x.3) ∙ o.1.begins ∙ ap Some x.4 in
            let once : o.0 * a + 0 ≡ m * a + 0 = position_once at s span.steps (o.0 * a + 0) (m * a + 0) b.0 begins b.1 in
            let k : o.0 ≡ m = same_operation_number a o.0 m 0 0 once (omega arith) (omega arith) in
            let is : IsOperation at span m op = subst (λ z. IsOperation at span z op) k o.1 in
            let whole' : span.steps ≡ done ++ op.who ∷ rest = whole ∙ ap (λ z. done ++ z ∷ rest) (sym x.3) in
            let now' : steps_of op.who done ≡ m * a + choosing = ap (λ z. steps_of z done) x.3 ∙ now in
            let next : IsSoFar (done ++ op.who ∷ []) (choice_at chosen x.0 m op ∷ h.0) =
            choosing_step done rest h.0 x.0 m op whole' x.2 is now' h.1 in
            (choice_at chosen x.0 m op ∷ h.0, subst (λ z. IsSoFar (done ++ z ∷ []) (choice_at chosen x.0 m op ∷ h.0)) x.3 next)
      ]

  nothing : IsSoFar [] []
  nothing = record { each = λ i k d e. absurd (none-some d e); all = λ i k l. absurd (omega arith); gather = tt }

  all_steps : HasSoFar span.steps
  all_steps = fold_keeps_all {A = ℕ} {B = Unit {0}} (λ done u. HasSoFar done) (λ u s. u) tt span.steps ([], nothing)
      (λ done rest u s whole h. one_step done rest s whole h)

  -- the choices of the whole term
  abbrev choices : List (Choice R)
  choices = all_steps.0

  whole_steps : span.steps ≡ span.steps ++ []
  whole_steps = sym (append-nil span.steps)

  -- a choice is one of an operation that has chosen
  record IsNow (c : Choice R) : Type 0 where
    k : ℕ
    of : IsOf c.who k c
    t : ℕ
    at_t : chooses_at at span width of.op.who k ≡ Some t

  now_of : (c : Choice R) → IsIn c choices → IsNow c
  now_of c mem =
      let k = in_mine choices c mem in
      let o = all_steps.1.each c.who k.0 c k.1 in
      let q = done_event at span span.steps [] c.who k.0 choosing whole_steps o.1 in
      record { k = k.0; of = o.0; t = q.0; at_t = ap (λ i. access_at at span i k.0 choosing) o.0.actor ∙ q.1 }

  -- and each operation that has chosen has its choice
  its_choice : (p k t : ℕ) (op : Op R) → slice_get ops p ≡ Some op → IsOperation at span k op → chooses_at at span width op.who k ≡ Some t →
      (c : Choice R) × IsIn c choices × (c.place ≡ p)
  its_choice p k t op there is h =
      let l : t < at + length span.steps = position_below at op.who span.steps (k * span.accesses + choosing) t h in
      let x = all_steps.1.all op.who k (in_done at span span.steps [] op.who k choosing t whole_steps h l) in
      let o = (all_steps.1.each op.who k x.0 x.1).0 in
      (x.0, (mine_in op.who choices k x.0 x.1).0, operation_once at span ops x.0.place p k o.op op played o.there there o.actor o.is is)

  is_choice : (c : Choice R) → IsIn c choices → IsChoiceOf ops stamps c
  is_choice c mem =
      let n = now_of c mem in
      let o = n.of in
      let same_stamp : (chosen o.op.who n.k).stamp ≡ c.stamp = ap (λ (z : Choice R). z.stamp) (sym o.same) in
      let same_item : (chosen o.op.who n.k).item ≡ c.item = ap (λ (z : Choice R). z.item) (sym o.same) in
      let kind : o.op.kind ≡ c.kind = ap (λ (z : Choice R). z.kind) (sym o.same) in
      record {
        op = o.op;
        there = o.there;
        reported = by.told c.place n.k n.t o.op o.there o.is n.at_t ∙ ap (λ s. Some (Some s)) same_stamp;
        actor = o.actor;
        same_kind = kind;
        written = λ w. by.written c.place n.k n.t o.op o.there o.is n.at_t (kind ∙ w) ∙ ap Some same_item;
        ended = λ end e. by.ended c.place n.k end o.op o.there o.is e ∙ ap Some same_item;
      }

  reported : (p : ℕ) (s : Stamp) → slice_get stamps p ≡ Some (Some s) → (c : Choice R) × IsIn c choices × (c.place ≡ p)
  reported p s h =
      let long : length stamps ≡ length ops = by.long in
      let lp : p < length stamps = slice_get_within stamps p (Some s) h in
      let x = get_exists ops p (omega arith) in
      let o = played.each p x.0 x.1 in
      found x.0 x.1 o.0 o.1 (chooses_at at span width x.0.who o.0) refl
    where
      found : (op : Op R) → slice_get ops p ≡ Some op → (k : ℕ) → IsOperation at span k op → (t : Option ℕ) →
          chooses_at at span width op.who k ≡ t → (c : Choice R) × IsIn c choices × (c.place ≡ p)
      found op there k is None e = absurd (none-some s (same_Some None (Some s) (sym (by.untold p k op there is e) ∙ h)))
      found op there k is (Some t) e = its_choice p k t op there is e

  finished : (p end : ℕ) (o : Op R) → slice_get ops p ≡ Some o → o.ends ≡ Some end → (c : Choice R) × IsIn c choices × (c.place ≡ p)
  finished p end o there e =
      let x = played.each p o there in
      let ci : choosing < span.accesses = choosing_inside in
      let t = event_upto at span o.who x.0 choosing (span.accesses - 1) end (omega arith) (x.1.finishes ∙ e) in
      its_choice p x.0 t.0 o there x.1 t.1

  once : (c d : Choice R) → IsIn c choices → IsIn d choices → c.place ≡ d.place → c ≡ d
  once c d mc md same =
      let x = now_of c mc in
      let y = now_of d md in
      let o : x.of.op ≡ y.of.op = same_Some x.of.op y.of.op (sym x.of.there ∙ ap (slice_get ops) same ∙ y.of.there) in
      let ci : choosing < span.accesses = choosing_inside in
      let k : x.k ≡ y.k = number_once at span x.k y.k x.of.op y.of.op (omega arith) (ap (λ (z : Op R). z.who) o)
      (ap (λ (z : Op R). z.starts) o) x.of.is y.of.is in
      x.of.same ∙ ap (λ p. choice_at chosen p x.k x.of.op) same ∙ ap (λ k. choice_at chosen d.place k x.of.op) k
      ∙ ap (choice_at chosen d.place y.k) o ∙ sym y.of.same

  -- the choices of the whole term, each with the record that its operation chose
  pub chosen_fully : (choices : List (Choice R)) × HasChoices opening span.limit ops stamps choices
      × HasRecords at span width chosen choices
  chosen_fully = (
    choices,
    record {
      law = all_choose (IsEarlier ops) opening span.limit (length span.plans) (let l : length span.plans ≤ 16 = cut.at_most in
          omega arith) choices all_steps.1.gather;
      each = is_choice;
      reported = reported;
      finished = finished;
      once = once;
    },
    record {
      each = λ i k d e. let w = all_steps.1.each i k d e in (record_is i k d w.0, w.1);
      all = all_steps.1.all;
      inside = gather_inside (IsEarlier ops) opening span.limit (length span.plans) choices all_steps.1.gather;
    },
  )

  pub chosen_by_law : (choices : List (Choice R)) × HasChoices opening span.limit ops stamps choices
  chosen_by_law = (chosen_fully.0, chosen_fully.1)
