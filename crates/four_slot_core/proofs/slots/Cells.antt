-- The slot accesses of a trace are those of its steps: what stands in the lists stays, and each side's access under way has its slot
-- and the position at which it began. By cases on the stage; that the reads are safe is the invariant of `Steps`.
use Rattle.std.proofs.Common.{◌≡◌, ℕ, Bool, ◌+◌, ◌*◌, ◌<◌, ◌≤◌, List, [], ◌∷◌, ◌++◌, length, slice_get, None, Some, refl, sym, subst}
use Rattle.std.proofs.Common.{◌∙◌, ap, inl, inr, arith, length-append, append-nil, true, false}
use Rattle.std.specs.List.{fold}
use Rattle.std.proofs.lemmas.Option.{slice_get_past, slice_get_within}
use Rattle.four_slot_core.specs.declared.schedule.Turn.{Turn}
use Rattle.four_slot_core.specs.declared.schedule.Turn.TheVariants.{Writer, Reader}
use Rattle.four_slot_core.specs.declared.state.Slot.{Slot}
use Rattle.four_slot_core.specs.declared.state.State.{State}
use Rattle.four_slot_core.specs.declared.state.Stage.{Stage}
use Rattle.four_slot_core.specs.declared.state.Stage.TheVariants.{W1, W2, W3, W4, W5}
use Rattle.four_slot_core.specs.declared.state.ReaderStage.{ReaderStage}
use Rattle.four_slot_core.specs.declared.state.ReaderStage.TheVariants.{R1, R2, R3, R4, R5}
use Rattle.four_slot_core.specs.CellSlots.{IsOverSafeSlots, IsSlotWrite}
use Rattle.four_slot_core.specs.Events.{after_read, after_write, answer, both, side, slot_number}
use Rattle.four_slot_core.specs.Invariant.{HasIndex, IsReading}
use Rattle.four_slot_core.specs.SafeSlots.{ended_after, entered_after, open_write, reads_after, since_after, SlotRead, SlotTrace, SlotWrite}
use Rattle.four_slot_core.specs.Traces.{answered_by_read, Moment, RisesFrom, shown_by_read, shown_by_write, then_step, Trace, trace}
use Rattle.four_slot_core.specs.Traces.{trace_start}
use Rattle.four_slot_core.proofs.Pushed.{get_before, get_cases, get_last, get_within, is_some_of, some_of}
use Rattle.four_slot_core.proofs.slots.Steps.{IsSafeTrace, IsWriting, safe_step}
use Rattle.four_slot_core.proofs.traces.Counts.{counted_read, counted_start, counted_write, IsCounted, left, made}

-- a write has its slot and has not left it
abbrev pub IsTaken : Stage → Type 0
IsTaken W1 = Unit {0}
IsTaken W2 = Unit {0}
IsTaken _ = ⊥

abbrev pub taken : Stage → ℕ
taken W1 = 1
taken W2 = 1
taken _ = 0

module _ {R : Type 0} where
  -- the slot write of write k, which has ended, by these steps of the writer and slots of its writes
  pub record IsEnded (items : ℕ → R) (steps slots : List ℕ) (k : ℕ) (v : SlotWrite R) : Type 0 where
    pub end : ℕ
    pub ended : v.ends ≡ Some end
    pub slot : slice_get slots k ≡ Some (slot_number v.slot)
    pub begins : slice_get steps (k * 5 + 1) ≡ Some v.begins
    pub ends : slice_get steps (k * 5 + 2) ≡ Some end
    pub item : v.item ≡ items k

  pub record HasWrites (items : ℕ → R) (w : Stage) (slot : Slot) (item : R) (steps slots : List ℕ) (ended : List (SlotWrite R))
      (since : ℕ) : Type 0 where
    pub count : length ended + taken w ≡ length slots
    pub steps_left : length steps + left w ≡ length slots * 5
    pub each : (k : ℕ) (v : SlotWrite R) → slice_get ended k ≡ Some v → IsEnded items steps slots k v
    pub begun : IsWriting w → slice_get steps (length ended * 5 + 1) ≡ Some since
    pub own_slot : IsTaken w → slice_get slots (length ended) ≡ Some (slot_number slot)
    pub own_item : IsTaken w → item ≡ items (length ended)

  pub record HasReads (r : ReaderStage) (steps slots : List ℕ) (answers : List R) (reads : List (SlotRead R)) (entered : ℕ) : Type 0 where
    pub count : length reads ≡ length answers
    pub steps_made : length steps ≡ length answers * 5 + made r
    pub each : (m : ℕ) (v : SlotRead R) → slice_get reads m ≡ Some v
        → (slice_get slots m ≡ Some (slot_number v.slot)) × (slice_get steps (m * 5 + 3) ≡ Some v.begins)
        × (slice_get steps (m * 5 + 4) ≡ Some v.ends) × (slice_get answers m ≡ Some v.answer)
    pub begun : IsReading r → slice_get steps (length answers * 5 + 3) ≡ Some entered

  ended_stays : (items : ℕ → R) (steps slots : List ℕ) (at k : ℕ) (v : SlotWrite R) → IsEnded items steps slots k v →
      IsEnded items (steps ++ at ∷ []) slots k v
  ended_stays items steps slots at k v h = record {
    end = h.end;
    ended = h.ended;
    slot = h.slot;
    begins = get_before steps at (k * 5 + 1) v.begins h.begins;
    ends = get_before steps at (k * 5 + 2) h.end h.ends;
    item = h.item;
  }

  ended_on : (items : ℕ → R) (steps slots : List ℕ) (slot k : ℕ) (v : SlotWrite R) → IsEnded items steps slots k v →
      IsEnded items steps (slots ++ slot ∷ []) k v
  ended_on items steps slots slot k v h = record {
    end = h.end;
    ended = h.ended;
    slot = get_before slots slot k (slot_number v.slot) h.slot;
    begins = h.begins;
    ends = h.ends;
    item = h.item;
  }

  writes_step : (items : ℕ → R) (w : Stage) (x : R) (s : State R) (steps slots : List ℕ) (ended : List (SlotWrite R)) (since at : ℕ) →
      x ≡ items (length slots) → HasWrites items w s.write s.item steps slots ended since →
      HasWrites items (after_write w x s).writer (after_write w x s).write (after_write w x s).item (steps ++ at ∷ [])
      (shown_by_write w slots (slot_number (after_write w x s).write)) (ended_after w at s since ended) (since_after w at since)
  writes_step items W5 x s steps slots ended since at is h =
      let slot : ℕ = slot_number (after_write W5 x s).write in
      let same : length ended ≡ length slots = omega (arith, h.count) in
      record {
        count = omega (arith, h.count, length-append slots (slot ∷ []));
        steps_left = omega (arith, h.steps_left, length-append slots (slot ∷ []), length-append steps (at ∷ []));
        each = λ k v e. ended_on items (steps ++ at ∷ []) slots slot k v (ended_stays items steps slots at k v (h.each k v e));
        begun = λ b. absurd b;
        own_slot = λ t. get_last slots slot (length ended) same;
        own_item = λ t. is ∙ ap items (sym same);
      }
  writes_step items W1 x s steps slots ended since at is h = record {
    count = h.count;
    steps_left = omega (arith, h.steps_left, length-append steps (at ∷ []));
    each = λ k v e. ended_stays items steps slots at k v (h.each k v e);
    begun = λ b. get_last steps at (length ended * 5 + 1) (omega (arith, h.count, h.steps_left));
    own_slot = λ t. h.own_slot tt;
    own_item = λ t. h.own_item tt;
  }
  writes_step items W2 x s steps slots ended since at is h =
      let new : SlotWrite R = record { slot = s.write; begins = since; ends = Some at; item = s.item } in
      record {
        count = omega (arith, h.count, length-append ended (new ∷ []));
        steps_left = omega (arith, h.steps_left, length-append steps (at ∷ []));
        each = λ k v e. elim (get_cases ended new k v e) [
          | inl old ↦ ended_stays items steps slots at k v (h.each k v old)
          | inr here ↦
              let P : SlotWrite R → Type 0 = λ z. IsEnded items (steps ++ at ∷ []) slots (length ended) z in
              subst (λ i. IsEnded items (steps ++ at ∷ []) slots i v) (sym here.0) (subst P (sym here.1) (record {
                end = at;
                ended = refl;
                slot = h.own_slot tt;
                begins = get_before steps at (length ended * 5 + 1) since (h.begun tt);
                ends = get_last steps at (length ended * 5 + 2) (omega (arith, h.count, h.steps_left));
                item = h.own_item tt;
              }))
        ];
        begun = λ b. absurd b;
        own_slot = λ t. absurd t;
        own_item = λ t. absurd t;
      }
  writes_step items W3 x s steps slots ended since at is h = record {
    count = h.count;
    steps_left = omega (arith, h.steps_left, length-append steps (at ∷ []));
    each = λ k v e. ended_stays items steps slots at k v (h.each k v e);
    begun = λ b. absurd b;
    own_slot = λ t. absurd t;
    own_item = λ t. absurd t;
  }
  writes_step items W4 x s steps slots ended since at is h = record {
    count = h.count;
    steps_left = omega (arith, h.steps_left, length-append steps (at ∷ []));
    each = λ k v e. ended_stays items steps slots at k v (h.each k v e);
    begun = λ b. absurd b;
    own_slot = λ t. absurd t;
    own_item = λ t. absurd t;
  }

  -- what stands of the reads stays with one more step, whatever is shown
  abbrev pub IsEndedRead : List ℕ → List ℕ → List R → ℕ → SlotRead R → Type 0
  IsEndedRead steps slots answers m v =
      (slice_get slots m ≡ Some (slot_number v.slot)) × (slice_get steps (m * 5 + 3) ≡ Some v.begins)
      × (slice_get steps (m * 5 + 4) ≡ Some v.ends) × (slice_get answers m ≡ Some v.answer)

  read_stays : (steps slots : List ℕ) (answers : List R) (at m : ℕ) (v : SlotRead R) → IsEndedRead steps slots answers m v →
      IsEndedRead (steps ++ at ∷ []) slots answers m v
  read_stays steps slots answers at m v h =
      (h.0, get_before steps at (m * 5 + 3) v.begins h.1, get_before steps at (m * 5 + 4) v.ends h.2, h.3)

  reads_step : (r : ReaderStage) (s : State R) (steps slots : List ℕ) (answers : List R) (reads : List (SlotRead R)) (entered at : ℕ) →
      (HasIndex r → slice_get slots (length answers) ≡ Some (slot_number s.read)) → HasReads r steps slots answers reads entered →
      HasReads (after_read r s).reader (steps ++ at ∷ []) (shown_by_read r slots (slot_number (after_read r s).read))
      (answered_by_read r answers (answer s)) (reads_after r at s entered reads) (entered_after r at entered)
  reads_step R5 s steps slots answers reads entered at slot h = record {
    count = h.count;
    steps_made = omega (arith, h.steps_made, length-append steps (at ∷ []));
    each = λ m v e. read_stays steps slots answers at m v (h.each m v e);
    begun = λ b. absurd b;
  }
  reads_step R1 s steps slots answers reads entered at slot h = record {
    count = h.count;
    steps_made = omega (arith, h.steps_made, length-append steps (at ∷ []));
    each = λ m v e. read_stays steps slots answers at m v (h.each m v e);
    begun = λ b. absurd b;
  }
  reads_step R2 s steps slots answers reads entered at slot h =
      let new : ℕ = slot_number (after_read R2 s).read in
      record {
        count = h.count;
        steps_made = omega (arith, h.steps_made, length-append steps (at ∷ []));
        each = λ m v e.
            let stays = read_stays steps slots answers at m v (h.each m v e) in
            (get_before slots new m (slot_number v.slot) stays.0, stays.1, stays.2, stays.3);
        begun = λ b. absurd b;
      }
  reads_step R3 s steps slots answers reads entered at slot h = record {
    count = h.count;
    steps_made = omega (arith, h.steps_made, length-append steps (at ∷ []));
    each = λ m v e. read_stays steps slots answers at m v (h.each m v e);
    begun = λ b. get_last steps at (length answers * 5 + 3) (omega (arith, h.steps_made));
  }
  reads_step R4 s steps slots answers reads entered at slot h =
      let new : SlotRead R = record { slot = s.read; begins = entered; ends = at; answer = answer s } in
      record {
        count = omega (arith, h.count, length-append reads (new ∷ []), length-append answers (answer s ∷ []));
        steps_made = omega (arith, h.steps_made, length-append steps (at ∷ []), length-append answers (answer s ∷ []));
        each = λ m v e. elim (get_cases reads new m v e) [
          | inl old ↦
              let stays = read_stays steps slots answers at m v (h.each m v old) in
              (stays.0, stays.1, stays.2, get_before answers (answer s) m v.answer stays.3)
          | inr here ↦
              let m_is : m ≡ length answers = here.0 ∙ h.count in
              let P : ℕ → SlotRead R → Type 0 = λ i z. IsEndedRead (steps ++ at ∷ []) slots (answers ++ answer s ∷ []) i z in
              subst (λ i. P i v) (sym m_is) (subst (P (length answers)) (sym here.1) (
                slot tt,
                get_before steps at (length answers * 5 + 3) entered (h.begun tt),
                get_last steps at (length answers * 5 + 4) (omega (arith, h.steps_made)),
                get_last answers (answer s) (length answers) refl,
              ))
        ];
        begun = λ b. absurd b;
      }

  -- the events of the one side change nothing of the other
  reads_write : (w : Stage) (x : R) (s : State R) (steps slots : List ℕ) (answers : List R) (reads : List (SlotRead R)) (entered : ℕ) →
      HasReads s.reader steps slots answers reads entered → HasReads (after_write w x s).reader steps slots answers reads entered
  reads_write W1 x s steps slots answers reads entered h = h
  reads_write W2 x s steps slots answers reads entered h = h
  reads_write W3 x s steps slots answers reads entered h = h
  reads_write W4 x s steps slots answers reads entered h = h
  reads_write W5 x s steps slots answers reads entered h = h

  writes_read : (items : ℕ → R) (r : ReaderStage) (s : State R) (steps slots : List ℕ) (ended : List (SlotWrite R)) (since : ℕ) →
      HasWrites items s.writer s.write s.item steps slots ended since →
      HasWrites items (after_read r s).writer (after_read r s).write (after_read r s).item steps slots ended since
  writes_read items R1 s steps slots ended since h = h
  writes_read items R2 s steps slots ended since h = h
  writes_read items R3 s steps slots ended since h = h
  writes_read items R4 s steps slots ended since h = h
  writes_read items R5 s steps slots ended since h = h

  abbrev pub slots_of : Trace R → List (SlotWrite R) → ℕ → List (SlotRead R) → ℕ → SlotTrace R
  slots_of t ended since reads entered =
      record { cell = t.cell; ended = ended; since = since; reads = reads; entered = entered }

  -- a trace, and its slot accesses so far
  pub record HasAccesses (opening noise : R) (items : ℕ → R) (t : Trace R) (next : ℕ) : Type 0 where
    pub ended : List (SlotWrite R)
    pub since : ℕ
    pub reads : List (SlotRead R)
    pub entered : ℕ
    pub counted : IsCounted t next
    pub safe : IsSafeTrace (slots_of t ended since reads entered) next (λ slot. opening) noise
    pub has_writes : HasWrites items t.cell.writer t.cell.write t.cell.item t.writer t.write_slots ended since
    pub has_reads : HasReads t.cell.reader t.reader t.read_slots t.answers reads entered

  accesses_step : (opening noise : R) (items : ℕ → R) (t : Trace R) (turn : Turn) (next at : ℕ) → next ≤ at →
      HasAccesses opening noise items t next → HasAccesses opening noise items (then_step items t turn at) (at + 1)
  accesses_step opening noise items t Writer next at le h =
      let s : State R = t.cell in
      let w : Stage = s.writer in
      let x : R = items (length t.write_slots) in
      record {
        ended = ended_after w at s h.since h.ended;
        since = since_after w at h.since;
        reads = h.reads;
        entered = h.entered;
        counted = counted_write at x t next le h.counted;
        safe = safe_step (λ p. x) (slots_of t h.ended h.since h.reads h.entered) Writer next at (λ slot. opening) noise le h.safe;
        has_writes = writes_step items w x s t.writer t.write_slots h.ended h.since at refl h.has_writes;
        has_reads = reads_write w x s t.reader t.read_slots t.answers h.reads h.entered h.has_reads;
      }
  accesses_step opening noise items t Reader next at le h =
      let s : State R = t.cell in
      let r : ReaderStage = s.reader in
      record {
        ended = h.ended;
        since = h.since;
        reads = reads_after r at s h.entered h.reads;
        entered = entered_after r at h.entered;
        counted = counted_read at t next le h.counted;
        safe = safe_step (λ p. opening) (slots_of t h.ended h.since h.reads h.entered) Reader next at (λ slot. opening) noise le h.safe;
        has_writes = writes_read items r s t.writer t.write_slots h.ended h.since h.has_writes;
        has_reads = reads_step r s t.reader t.read_slots t.answers h.reads h.entered at h.counted.read_slot h.has_reads;
      }

  accesses_steps : (opening noise : R) (items : ℕ → R) (ms : List Moment) (t : Trace R) (next : ℕ) → RisesFrom next ms →
      HasAccesses opening noise items t next →
      (end : ℕ) × HasAccesses opening noise items (fold (λ u m. then_step items u m.turn m.at) t ms) end
  accesses_steps opening noise items [] t next rises h = (next, h)
  accesses_steps opening noise items (m ∷ ms) t next rises h = accesses_steps opening noise items ms (then_step items t m.turn m.at)
      (m.at + 1) rises.1 (accesses_step opening noise items t m.turn next m.at rises.0 h)

  -- the slot write under way, at the end of the list
  slot_of_ended : (items : ℕ → R) (t : Trace R) (k : ℕ) (v : SlotWrite R) → IsEnded items t.writer t.write_slots k v →
      IsSlotWrite items t k v
  slot_of_ended items t k v h =
      record { slot = h.slot; begins = h.begins; ends = h.ends ∙ sym h.ended; item = h.item }

  each_write : (items : ℕ → R) (w : Stage) (t : Trace R) (slot : Slot) (item : R) (ended : List (SlotWrite R)) (since k : ℕ)
      (v : SlotWrite R) → HasWrites items w slot item t.writer t.write_slots ended since →
      slice_get (ended ++ open_write w slot item since) k ≡ Some v → IsSlotWrite items t k v
  each_write items W2 t slot item ended since k v h e =
      let new : SlotWrite R = record { slot = slot; begins = since; ends = None; item = item } in
      elim (get_cases ended new k v e) [
        | inl old ↦ slot_of_ended items t k v (h.each k v old)
        | inr here ↦
            subst (λ i. IsSlotWrite items t i v) (sym here.0) (subst (IsSlotWrite items t (length ended)) (sym here.1) (record {
              slot = h.own_slot tt;
              begins = h.begun tt;
              ends = slice_get_past t.writer (length ended * 5 + 2) (omega (arith, h.count, h.steps_left));
              item = h.own_item tt;
            }))
      ]
  each_write items W1 t slot item ended since k v h e =
      slot_of_ended items t k v (h.each k v (ap (λ ys. slice_get ys k) (sym (append-nil ended)) ∙ e))
  each_write items W3 t slot item ended since k v h e =
      slot_of_ended items t k v (h.each k v (ap (λ ys. slice_get ys k) (sym (append-nil ended)) ∙ e))
  each_write items W4 t slot item ended since k v h e =
      slot_of_ended items t k v (h.each k v (ap (λ ys. slice_get ys k) (sym (append-nil ended)) ∙ e))
  each_write items W5 t slot item ended since k v h e =
      slot_of_ended items t k v (h.each k v (ap (λ ys. slice_get ys k) (sym (append-nil ended)) ∙ e))

  -- a write that has made its W2 is in the list
  inside : (items : ℕ → R) (w : Stage) (slot : Slot) (item : R) (steps slots : List ℕ) (ended : List (SlotWrite R)) (since k : ℕ) →
      HasWrites items w slot item steps slots ended since → k * 5 + 1 < length steps →
      k < length (ended ++ open_write w slot item since)
  inside items W1 slot item steps slots ended since k h l = omega (arith, h.count, h.steps_left, length-append ended [])
  inside items W2 slot item steps slots ended since k h l =
      let new : SlotWrite R = record { slot = slot; begins = since; ends = None; item = item } in
      omega (arith, h.count, h.steps_left, length-append ended (new ∷ []))
  inside items W3 slot item steps slots ended since k h l = omega (arith, h.count, h.steps_left, length-append ended [])
  inside items W4 slot item steps slots ended since k h l = omega (arith, h.count, h.steps_left, length-append ended [])
  inside items W5 slot item steps slots ended since k h l = omega (arith, h.count, h.steps_left, length-append ended [])

  over_safe_slots : (opening noise : R) (items : ℕ → R) (t : Trace R) (next : ℕ) → HasAccesses opening noise items t next →
      IsOverSafeSlots opening noise items t
  over_safe_slots opening noise items t next h =
      let all : List (SlotWrite R) = h.ended ++ open_write t.cell.writer t.cell.write t.cell.item h.since in
      record {
        writes = all;
        each = λ k v e. each_write items t.cell.writer t t.cell.write t.cell.item h.ended h.since k v h.has_writes e;
        all = λ k begun.
            let at = some_of (slice_get t.writer (k * 5 + 1)) begun in
            let l : k * 5 + 1 < length t.writer = slice_get_within t.writer (k * 5 + 1) at.0 at.1 in
            let v = get_within all k
            (inside items t.cell.writer t.cell.write t.cell.item t.writer t.write_slots h.ended h.since k h.has_writes l) in
            is_some_of (slice_get all k) v.0 v.1;
        safe = λ m answer e.
            let l : m < length t.answers = slice_get_within t.answers m answer e in
            let r = get_within h.reads m (omega (arith, h.has_reads.count)) in
            let is = h.has_reads.each m r.0 r.1 in
            (r.0, record { slot = is.0; begins = is.1; ends = is.2; answer = is.3 }, (h.safe.safe m r.0 r.1).safe);
      }

  -- the opening stands in each slot
  all_open : (opening : R) (pair index : Bool) → side (side (both (both opening)) pair) index ≡ opening
  all_open opening false false = refl
  all_open opening false true = refl
  all_open opening true false = refl
  all_open opening true true = refl

  pub traces_over_safe_slots : (opening noise : R) (items : ℕ → R) (ms : List Moment) → RisesFrom 0 ms →
      IsOverSafeSlots opening noise items (trace opening noise items ms)
  traces_over_safe_slots opening noise items ms rises =
      let end = accesses_steps opening noise items ms (trace_start opening noise) 0 rises (record {
        ended = [];
        since = 0;
        reads = [];
        entered = 0;
        counted = counted_start opening noise;
        safe = record {
          all_ended = λ i w g. cc;
          since_below = omega arith;
          entered_below = omega arith;
          same_noise = refl;
          contents = λ q. inl ((λ i w g. cc), all_open opening q.pair q.index);
          met = λ i. absurd i;
          unmet = λ i. absurd i;
          safe = λ i x g. cc;
        };
        has_writes = record {
          count = refl;
          steps_left = refl;
          each = λ k v e. cc;
          begun = λ b. absurd b;
          own_slot = λ t. absurd t;
          own_item = λ t. absurd t;
        };
        has_reads = record { count = refl; steps_made = refl; each = λ m v e. cc; begun = λ b. absurd b };
      }) in
      over_safe_slots opening noise items (trace opening noise items ms) end.0 end.1
