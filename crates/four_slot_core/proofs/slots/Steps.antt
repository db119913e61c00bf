-- A cell stepped from any state answers as safe slots do: its records are those of the last slot writes, and the mark `met` says
-- whether the read in progress has met a write so far. By cases on the stage.
use Rattle.std.proofs.Common.{◌≡◌, ◌≢◌, ℕ, ◌+◌, ◌<◌, ◌≤◌, Bool, true, false, ◌&&◌, ◌||◌, List, [], ◌∷◌, ◌++◌, length, slice_get, None, Some}
use Rattle.std.proofs.Common.{refl, sym, subst, ◌∙◌, ap, ◌⊎◌, inl, inr, arith, append-nil}
use Rattle.std.specs.Prelude.{if◌then◌else◌}
use Rattle.std.specs.List.{fold}
use Rattle.std.proofs.lemmas.Bool.{cases_Bool}
use Rattle.std.proofs.lemmas.Option.{same_Some}
use Rattle.four_slot_core.specs.declared.schedule.Turn.{Turn}
use Rattle.four_slot_core.specs.declared.schedule.Turn.TheVariants.{Writer, Reader}
use Rattle.four_slot_core.specs.declared.state.Slot.{Slot}
use Rattle.four_slot_core.specs.declared.state.State.{State}
use Rattle.four_slot_core.specs.declared.state.Stage.{Stage}
use Rattle.four_slot_core.specs.declared.state.Stage.TheVariants.{W1, W2, W3, W4, W5}
use Rattle.four_slot_core.specs.declared.state.ReaderStage.{ReaderStage}
use Rattle.four_slot_core.specs.declared.state.ReaderStage.TheVariants.{R1, R2, R3, R4, R5}
use Rattle.four_slot_core.specs.Events.{after_read, after_write, answer, is_reading, is_writing, next_write, record_in, same_bit, same_slot}
use Rattle.four_slot_core.specs.Events.{with_record}
use Rattle.four_slot_core.specs.Invariant.{IsReading}
use Rattle.four_slot_core.specs.SafeSlots.{SlotWrite, SlotRead, Meets, EndsBefore, IsLastRecord, IsSafe, SlotTrace, IsMarked, open_write}
use Rattle.four_slot_core.specs.SafeSlots.{slot_writes, since_after, ended_after, entered_after, reads_after, slots_step, slot_trace}
use Rattle.four_slot_core.specs.Traces.{Moment, RisesFrom}
use Rattle.four_slot_core.proofs.events.Keeping.{writer_after, reader_after, writer_stays, same_bits, and_parts}
use Rattle.four_slot_core.proofs.events.TwoSides.{record_same, record_other, same_slot_of}
use Rattle.four_slot_core.proofs.traces.Sources.{slot_cases}
use Rattle.four_slot_core.proofs.Pushed.{get_before, get_cases, get_last}
use Rattle.four_slot_core.proofs.slots.Records.{SameEnded, last_same, AllEnded, same_later, same_pushed, same_popped, last_pushed}
use Rattle.four_slot_core.proofs.slots.Records.{ended_pushed, ended_later}

abbrev pub IsWriting : Stage → Type 0
IsWriting W2 = Unit {0}
IsWriting _ = ⊥

-- the read in progress in this slot has met this write so far
pub record HasMet {R : Type 0} (place : Slot) (entered next : ℕ) (w : SlotWrite R) : Type 0 where
  pub slot : w.slot ≡ place
  pub begins : w.begins < next
  pub ends : (e : ℕ) → w.ends ≡ Some e → entered ≤ e

-- no write has met it
pub record HasNotMet {R : Type 0} (w : Stage) (s : State R) (ended : List (SlotWrite R)) (entered : ℕ) : Type 0 where
  pub before : (i : ℕ) (v : SlotWrite R) → slice_get ended i ≡ Some v → v.slot ≡ s.read → (e : ℕ) → v.ends ≡ Some e → e < entered
  pub apart : IsWriting w → s.write ≢ s.read

pub record IsSafeRead {R : Type 0} (first : Slot → R) (noise : R) (writes : List (SlotWrite R)) (next : ℕ) (r : SlotRead R) : Type 0 where
  pub forwards : r.begins ≤ r.ends
  pub before : r.ends < next
  pub safe : IsSafe first noise writes r

pub record IsSafeAt {R : Type 0} (w : Stage) (r : ReaderStage) (s : State R) (ended : List (SlotWrite R)) (since : ℕ)
    (reads : List (SlotRead R)) (entered next : ℕ) (first : Slot → R) (noise : R) : Type 0 where
  pub all_ended : AllEnded ended next
  pub since_below : since ≤ next
  pub entered_below : entered ≤ next
  pub same_noise : s.noise ≡ noise
  pub contents : (q : Slot) → IsLastRecord first ended q next (record_in s.records q)
  pub met : IsReading r → s.met ≡ true →
      (i : ℕ) × (v : SlotWrite R) × (slice_get (ended ++ open_write w s.write s.item since) i ≡ Some v) × HasMet s.read entered next v
  pub unmet : IsReading r → s.met ≡ false → HasNotMet w s ended entered
  pub safe : (m : ℕ) (x : SlotRead R) → slice_get reads m ≡ Some x →
      IsSafeRead first noise (ended ++ open_write w s.write s.item since) next x

same_slot_true : (p q : Slot) → same_slot p q ≡ true → p ≡ q
same_slot_true p q e =
    let w = and_parts (same_bit p.pair q.pair) (same_bit p.index q.index) e in
    same_slot_of p q.pair q.index (same_bits p.pair q.pair w.0) (same_bits p.index q.index w.1)

same_itself : (b : Bool) → same_bit b b ≡ true
same_itself true = refl
same_itself false = refl

same_slot_false : (p q : Slot) → same_slot p q ≡ false → p ≢ q
same_slot_false p q e is =
    let here : same_slot p p ≡ false = ap (same_slot p) is ∙ e in
    let yes : same_slot p p ≡ true = ap (λ b. b && same_bit p.index p.index) (same_itself p.pair) ∙ same_itself p.index in
    cc

or_cases : (a b : Bool) → (a || b) ≡ true → (a ≡ true) ⊎ (b ≡ true)
or_cases true b e = inl refl
or_cases false b e = inr e

or_none : (a b : Bool) → (a || b) ≡ false → (a ≡ false) × (b ≡ false)
or_none true b e = cc
or_none false b e = (refl, e)

met_later : {R : Type 0} (place : Slot) (entered next at : ℕ) (v : SlotWrite R) → next ≤ at → HasMet place entered next v →
    HasMet place entered (at + 1) v
met_later place entered next at v le h = record { slot = h.slot; begins = omega (arith, h.begins); ends = h.ends }

-- the list of all writes, without and with one in progress
none_open : {R : Type 0} (xs : List (SlotWrite R)) (i : ℕ) (v : SlotWrite R) → slice_get (xs ++ []) i ≡ Some v → slice_get xs i ≡ Some v
none_open xs i v e = ap (λ ys. slice_get ys i) (sym (append-nil xs)) ∙ e

with_none : {R : Type 0} (xs : List (SlotWrite R)) (i : ℕ) (v : SlotWrite R) → slice_get xs i ≡ Some v → slice_get (xs ++ []) i ≡ Some v
with_none xs i v e = ap (λ ys. slice_get ys i) (append-nil xs) ∙ e

-- a read that has ended stays safe where no write that it meets comes or goes
safe_stays : {R : Type 0} (first : Slot → R) (noise : R) (xs ys : List (SlotWrite R)) (next at : ℕ) (x : SlotRead R) → next ≤ at →
    ((i : ℕ) (v : SlotWrite R) → slice_get ys i ≡ Some v → Meets v x →
    (j : ℕ) × (u : SlotWrite R) × (slice_get xs j ≡ Some u) × Meets u x) →
    ((i : ℕ) (u : SlotWrite R) → slice_get xs i ≡ Some u → Meets u x →
    (j : ℕ) × (v : SlotWrite R) × (slice_get ys j ≡ Some v) × Meets v x) →
    SameEnded xs ys x.slot x.begins x.begins → IsSafeRead first noise xs next x → IsSafeRead first noise ys (at + 1) x
safe_stays first noise xs ys next at x le back forth same h = record {
  forwards = h.forwards;
  before = omega (arith, h.before);
  safe = record {
    noisy = λ i v e m. let u = back i v e m in h.safe.noisy u.0 u.1 u.2 u.3;
    quiet = λ calm. last_same first xs ys x.slot x.begins x.begins x.answer same (h.safe.quiet (λ i u e m.
        let v = forth i u e m in
        calm v.0 v.1 v.2 v.3));
  };
}

-- nothing of the writes changes
safe_same : {R : Type 0} (first : Slot → R) (noise : R) (xs : List (SlotWrite R)) (next at : ℕ) (x : SlotRead R) → next ≤ at →
    IsSafeRead first noise xs next x → IsSafeRead first noise xs (at + 1) x
safe_same first noise xs next at x le h = record { forwards = h.forwards; before = omega (arith, h.before); safe = h.safe }

-- the write that begins, and the same where it has ended
abbrev pub begun_write : {R : Type 0} → State R → ℕ → SlotWrite R
begun_write s since = record { slot = s.write; begins = since; ends = None; item = s.item }

abbrev pub ended_write : {R : Type 0} → State R → ℕ → ℕ → SlotWrite R
ended_write s since at = record { slot = s.write; begins = since; ends = Some at; item = s.item }

not_ended : {R : Type 0} (s : State R) (since at : ℕ) (slot : Slot) → ¬ EndsBefore (begun_write s since) slot at
not_ended s since at slot before = cc (before.2)

pub safe_write : {R : Type 0} (w : Stage) (x : R) (s : State R) (ended : List (SlotWrite R)) (since : ℕ) (reads : List (SlotRead R))
    (entered next at : ℕ) (first : Slot → R) (noise : R) → next ≤ at → IsSafeAt w s.reader s ended since reads entered next first noise →
    IsSafeAt (next_write w) s.reader (after_write w x s) (ended_after w at s since ended) (since_after w at since) reads
    entered (at + 1) first noise
-- W1, W4 and W5 are no slot accesses
safe_write W5 x s ended since reads entered next at first noise le h = record {
  all_ended = ended_later ended next at le h.all_ended;
  since_below = omega (arith, h.since_below);
  entered_below = omega (arith, h.entered_below);
  same_noise = h.same_noise;
  contents = λ q. last_same first ended ended q next (at + 1) _ (same_later ended q next (at + 1) (omega arith) h.all_ended) (h.contents q);
  met = λ i m. let v = h.met i m in (v.0, v.1, v.2, met_later s.read entered next at v.1 le v.3);
  unmet = λ i m. let u = h.unmet i m in record { before = u.before; apart = λ n. absurd n };
  safe = λ m y e. safe_same first noise (ended ++ []) next at y le (h.safe m y e);
}
safe_write W3 x s ended since reads entered next at first noise le h = record {
  all_ended = ended_later ended next at le h.all_ended;
  since_below = omega (arith, h.since_below);
  entered_below = omega (arith, h.entered_below);
  same_noise = h.same_noise;
  contents = λ q. last_same first ended ended q next (at + 1) _ (same_later ended q next (at + 1) (omega arith) h.all_ended) (h.contents q);
  met = λ i m. let v = h.met i m in (v.0, v.1, v.2, met_later s.read entered next at v.1 le v.3);
  unmet = λ i m. let u = h.unmet i m in record { before = u.before; apart = λ n. absurd n };
  safe = λ m y e. safe_same first noise (ended ++ []) next at y le (h.safe m y e);
}
safe_write W4 x s ended since reads entered next at first noise le h = record {
  all_ended = ended_later ended next at le h.all_ended;
  since_below = omega (arith, h.since_below);
  entered_below = omega (arith, h.entered_below);
  same_noise = h.same_noise;
  contents = λ q. last_same first ended ended q next (at + 1) _ (same_later ended q next (at + 1) (omega arith) h.all_ended) (h.contents q);
  met = λ i m. let v = h.met i m in (v.0, v.1, v.2, met_later s.read entered next at v.1 le v.3);
  unmet = λ i m. let u = h.unmet i m in record { before = u.before; apart = λ n. absurd n };
  safe = λ m y e. safe_same first noise (ended ++ []) next at y le (h.safe m y e);
}
-- W2: the slot write begins, after each read that has ended
safe_write {R} W1 x s ended since reads entered next at first noise le h = record {
  all_ended = ended_later ended next at le h.all_ended;
  since_below = omega arith;
  entered_below = omega (arith, h.entered_below);
  same_noise = h.same_noise;
  contents = λ q. last_same first ended ended q next (at + 1) _ (same_later ended q next (at + 1) (omega arith) h.all_ended) (h.contents q);
  met = λ i m. elim (or_cases s.met (is_reading s.reader && same_slot s.write s.read) m) [
    | inl was ↦
        let v = h.met i was in
        (v.0, v.1, get_before ended (begun_write s at) v.0 v.1 (none_open ended v.0 v.1 v.2), met_later s.read entered next at v.1 le v.3)
    | inr now ↦
        let both = and_parts (is_reading s.reader) (same_slot s.write s.read) now in
        let same : s.write ≡ s.read = same_slot_true s.write s.read both.1 in (
          length ended,
          begun_write s at,
          get_last ended (begun_write s at) (length ended) refl,
          record { slot = same; begins = omega arith; ends = λ e g. cc },
        )
  ];
  unmet = λ i m.
      let none = or_none s.met (is_reading s.reader && same_slot s.write s.read) m in
      let u = h.unmet i none.0 in
      let here : is_reading s.reader ≡ true = is_there s.reader i in
      record {
        before = u.before;
        apart = λ n. same_slot_false s.write s.read (ap (λ b. b && same_slot s.write s.read) (sym here) ∙ none.1);
      };
  safe = λ m y e.
      let old = h.safe m y e in
      let P : List (SlotWrite R) → Type 0 = λ xs. IsSafeRead first noise xs next y in
      safe_stays first noise ended (ended ++ begun_write s at ∷ []) next at y le
      (λ i v g meets. elim (get_cases ended (begun_write s at) i v g) [
        | inl was ↦ (i, v, was, meets)
        | inr new ↦ (let late : at ≤ y.ends = subst (λ (z : SlotWrite R). z.begins ≤ y.ends) new.1 meets.1 in
            absurd (omega (arith, old.before)))
      ])
      (λ i u g meets. (i, u, get_before ended (begun_write s at) i u g, meets))
      (same_pushed ended (begun_write s at) y.slot y.begins (not_ended s at y.begins y.slot))
      (subst P (append-nil ended) old);
}
  where
    is_there : (r : ReaderStage) → IsReading r → is_reading r ≡ true
    is_there R4 i = refl
    is_there R1 i = absurd i
    is_there R2 i = absurd i
    is_there R3 i = absurd i
    is_there R5 i = absurd i
-- W3: it ends, after each read that has ended and after the begin of one in progress
safe_write {R} W2 x s ended since reads entered next at first noise le h =
    let new : SlotWrite R = ended_write s since at in
    record {
      all_ended = ended_pushed ended new next at le refl h.all_ended;
      since_below = omega (arith, h.since_below);
      entered_below = omega (arith, h.entered_below);
      same_noise = h.same_noise;
      contents = λ q. elim (slot_cases q s.write) [
        | inl is ↦
            let P : R → Type 0 = λ z. IsLastRecord first (ended ++ new ∷ []) q (at + 1) z in
            subst P (sym (ap (λ p. record_in (with_record s.records s.write s.item) p) is ∙ record_same s.records s.write s.item))
            (last_pushed first ended new q (at + 1) (sym is, at, refl, omega arith))
        | inr ne ↦
            let P : R → Type 0 = λ z. IsLastRecord first (ended ++ new ∷ []) q (at + 1) z in
            subst P (sym (record_other s.records s.write q s.item ne))
            (last_same first ended (ended ++ new ∷ []) q (at + 1) (at + 1) _
            (same_pushed ended new q (at + 1) (λ before. ne (sym before.0)))
            (last_same first ended ended q next (at + 1) _ (same_later ended q next (at + 1) (omega arith) h.all_ended) (h.contents q)))
      ];
      met = λ i m.
          let v = h.met i m in
          elim (get_cases ended (begun_write s since) v.0 v.1 v.2) [
            | inl old ↦ (
              v.0,
              v.1,
              with_none (ended ++ new ∷ []) v.0 v.1 (get_before ended new v.0 v.1 old),
              met_later s.read entered next at v.1 le v.3,
            )
            | inr open_one ↦
                let slot : s.write ≡ s.read = ap (λ (z : SlotWrite R). z.slot) (sym open_one.1) ∙ v.3.slot in (
                  length ended,
                  new,
                  with_none (ended ++ new ∷ []) (length ended) new (get_last ended new (length ended) refl),
                  record {
                    slot = slot;
                    begins = omega (arith, h.since_below);
                    ends = λ e g. let is : at ≡ e = same_Some at e g in omega (arith, h.entered_below);
                  },
                )
          ];
      unmet = λ i m.
          let u = h.unmet i m in
          record {
            before = λ j v g slot e f. elim (get_cases ended new j v g) [
              | inl old ↦ u.before j v old slot e f
              | inr here ↦ absurd (u.apart tt (ap (λ (z : SlotWrite R). z.slot) (sym here.1) ∙ slot))
            ];
            apart = λ n. absurd n;
          };
      safe = λ m y e.
          let old = h.safe m y e in
          let P : List (SlotWrite R) → Type 0 = λ xs. IsSafeRead first noise xs (at + 1) y in
          let late : ¬ EndsBefore new y.slot y.begins = λ before.
          let is : at ≡ before.1 = same_Some at before.1 before.2 in
          omega (arith, before.3, old.forwards, old.before) in
          let popped = same_popped ended (begun_write s since) y.slot y.begins (not_ended s since y.begins y.slot) in
          let pushed = same_pushed ended new y.slot y.begins late in
          subst P (sym (append-nil (ended ++ new ∷ [])))
          (safe_stays first noise (ended ++ begun_write s since ∷ []) (ended ++ new ∷ []) next at y le
          (λ i v g meets. elim (get_cases ended new i v g) [
            | inl was ↦ (i, v, get_before ended (begun_write s since) i v was, meets)
            | inr here ↦
                let slot : s.write ≡ y.slot = subst (λ (z : SlotWrite R). z.slot ≡ y.slot) here.1 meets.0 in
                let begins : since ≤ y.ends = subst (λ (z : SlotWrite R). z.begins ≤ y.ends) here.1 meets.1 in
                (length ended, begun_write s since, get_last ended (begun_write s since) (length ended) refl, (slot, begins, λ f k. cc))
          ])
          (λ i u g meets. elim (get_cases ended (begun_write s since) i u g) [
            | inl was ↦ (i, u, get_before ended new i u was, meets)
            | inr here ↦
                let slot : s.write ≡ y.slot = subst (λ (z : SlotWrite R). z.slot ≡ y.slot) here.1 meets.0 in
                let begins : since ≤ y.ends = subst (λ (z : SlotWrite R). z.begins ≤ y.ends) here.1 meets.1 in (
                  length ended,
                  new,
                  get_last ended new (length ended) refl,
                  (
                    slot,
                    begins,
                    λ f k.
                        let is : at ≡ f = same_Some at f k in
                        omega (arith, old.forwards, old.before),
                  ),
                )
          ])
          (record {
            forth = λ i v g before. let mid = popped.forth i v g before in pushed.forth i v mid.0 mid.1;
            back = λ i v g before. let mid = pushed.back i v g before in popped.back i v mid.0 mid.1;
          })
          old);
    }

open_there : {R : Type 0} (w : Stage) (s : State R) (ended : List (SlotWrite R)) (since : ℕ) → is_writing w ≡ true →
    slice_get (ended ++ open_write w s.write s.item since) (length ended) ≡ Some (begun_write s since)
open_there W1 s ended since e = cc
open_there W2 s ended since e = get_last ended (begun_write s since) (length ended) refl
open_there W3 s ended since e = cc
open_there W4 s ended since e = cc
open_there W5 s ended since e = cc

open_cases : {R : Type 0} (w : Stage) (s : State R) (ended : List (SlotWrite R)) (since i : ℕ) (v : SlotWrite R) →
    slice_get (ended ++ open_write w s.write s.item since) i ≡ Some v →
    (slice_get ended i ≡ Some v) ⊎ (IsWriting w × (v ≡ begun_write s since))
open_cases W1 s ended since i v e = inl (none_open ended i v e)
open_cases W2 s ended since i v e = elim (get_cases ended (begun_write s since) i v e) [ inl old ↦ inl old | inr new ↦ inr (tt, new.1) ]
open_cases W3 s ended since i v e = inl (none_open ended i v e)
open_cases W4 s ended since i v e = inl (none_open ended i v e)
open_cases W5 s ended since i v e = inl (none_open ended i v e)

writing_is : (w : Stage) → IsWriting w → is_writing w ≡ true
writing_is W1 i = absurd i
writing_is W2 i = refl
writing_is W3 i = absurd i
writing_is W4 i = absurd i
writing_is W5 i = absurd i

same_none : {R : Type 0} (xs : List (SlotWrite R)) (slot : Slot) (a : ℕ) → SameEnded xs (xs ++ []) slot a a
same_none xs slot a = record { forth = λ i v e before. (with_none xs i v e, before); back = λ i v e before. (none_open xs i v e, before) }

same_open : {R : Type 0} (w : Stage) (s : State R) (ended : List (SlotWrite R)) (since : ℕ) (slot : Slot) (a : ℕ) →
    SameEnded ended (ended ++ open_write w s.write s.item since) slot a a
same_open W1 s ended since slot a = same_none ended slot a
same_open W2 s ended since slot a = same_pushed ended (begun_write s since) slot a (not_ended s since a slot)
same_open W3 s ended since slot a = same_none ended slot a
same_open W4 s ended since slot a = same_none ended slot a
same_open W5 s ended since slot a = same_none ended slot a

-- the read that ends is safe
safe_now : {R : Type 0} (s : State R) (ended : List (SlotWrite R)) (since : ℕ) (reads : List (SlotRead R)) (entered next at : ℕ)
    (first : Slot → R) (noise : R) → next ≤ at → IsSafeAt s.writer R4 s ended since reads entered next first noise →
    IsSafe first noise (ended ++ open_write s.writer s.write s.item since) (record {
      slot = s.read;
      begins = entered;
      ends = at;
      answer = answer s;
    })
safe_now {R} s ended since reads entered next at first noise le h = elim (cases_Bool s.met) [
  | inl met ↦
      let v = h.met tt met in
      record {
        noisy = λ i w g meets. ap (λ b. if b then s.noise else record_in s.records s.read) met ∙ h.same_noise;
        quiet = λ calm. absurd (calm v.0 v.1 v.2 (v.3.slot, omega (arith, v.3.begins), v.3.ends));
      }
  | inr unmet ↦
      let u = h.unmet tt unmet in
      record {
        noisy = λ i w g meets. elim (open_cases s.writer s ended since i w g) [
          | inl old ↦
              let end = h.all_ended i w old in
              absurd (omega (arith, meets.2 end.0 end.1, u.before i w old meets.0 end.0 end.1))
          | inr now ↦ absurd (u.apart now.0 (ap (λ (z : SlotWrite R). z.slot) (sym now.1) ∙ meets.0))
        ];
        quiet = λ calm.
            let P : R → Type 0 = λ x. IsLastRecord first (ended ++ open_write s.writer s.write s.item since) s.read entered x in
            subst P (ap (λ b. if b then s.noise else record_in s.records s.read) (sym unmet))
            (last_same first ended (ended ++ open_write s.writer s.write s.item since) s.read entered entered _
            (same_open s.writer s ended since s.read entered)
            (last_same first ended ended s.read next entered _ (record {
              forth = λ i w g before. (g, (before.0, before.1, before.2, u.before i w g before.0 before.1 before.2));
              back = λ i w g before. (g, (before.0, before.1, before.2, omega (arith, before.3, h.entered_below)));
            }) (h.contents s.read)));
      }
]

pub safe_read : {R : Type 0} (r : ReaderStage) (s : State R) (ended : List (SlotWrite R)) (since : ℕ) (reads : List (SlotRead R))
    (entered next at : ℕ) (first : Slot → R) (noise : R) → next ≤ at → IsSafeAt s.writer r s ended since reads entered next first noise →
    IsSafeAt s.writer (after_read r s).reader (after_read r s) ended since (reads_after r at s entered reads)
    (entered_after r at entered) (at + 1) first noise
-- R1, R2 and R3 are no slot accesses
safe_read R5 s ended since reads entered next at first noise le h = record {
  all_ended = ended_later ended next at le h.all_ended;
  since_below = omega (arith, h.since_below);
  entered_below = omega (arith, h.entered_below);
  same_noise = h.same_noise;
  contents = λ q. last_same first ended ended q next (at + 1) _ (same_later ended q next (at + 1) (omega arith) h.all_ended) (h.contents q);
  met = λ i. absurd i;
  unmet = λ i. absurd i;
  safe = λ m y e. safe_same first noise (ended ++ open_write s.writer s.write s.item since) next at y le (h.safe m y e);
}
safe_read R1 s ended since reads entered next at first noise le h = record {
  all_ended = ended_later ended next at le h.all_ended;
  since_below = omega (arith, h.since_below);
  entered_below = omega (arith, h.entered_below);
  same_noise = h.same_noise;
  contents = λ q. last_same first ended ended q next (at + 1) _ (same_later ended q next (at + 1) (omega arith) h.all_ended) (h.contents q);
  met = λ i. absurd i;
  unmet = λ i. absurd i;
  safe = λ m y e. safe_same first noise (ended ++ open_write s.writer s.write s.item since) next at y le (h.safe m y e);
}
safe_read R2 s ended since reads entered next at first noise le h = record {
  all_ended = ended_later ended next at le h.all_ended;
  since_below = omega (arith, h.since_below);
  entered_below = omega (arith, h.entered_below);
  same_noise = h.same_noise;
  contents = λ q. last_same first ended ended q next (at + 1) _ (same_later ended q next (at + 1) (omega arith) h.all_ended) (h.contents q);
  met = λ i. absurd i;
  unmet = λ i. absurd i;
  safe = λ m y e. safe_same first noise (ended ++ open_write s.writer s.write s.item since) next at y le (h.safe m y e);
}
-- R4: the slot read begins, after each slot write that has ended
safe_read {R} R3 s ended since reads entered next at first noise le h = record {
  all_ended = ended_later ended next at le h.all_ended;
  since_below = omega (arith, h.since_below);
  entered_below = omega arith;
  same_noise = h.same_noise;
  contents = λ q. last_same first ended ended q next (at + 1) _ (same_later ended q next (at + 1) (omega arith) h.all_ended) (h.contents q);
  met = λ i m.
      let both = and_parts (is_writing s.writer) (same_slot s.write s.read) m in (
        length ended,
        begun_write s since,
        open_there s.writer s ended since both.0,
        record { slot = same_slot_true s.write s.read both.1; begins = omega (arith, h.since_below); ends = λ e g. cc },
      );
  unmet = λ i m. record {
    before = λ j v g slot e f.
        let end = h.all_ended j v g in
        let is : end.0 ≡ e = same_Some end.0 e (sym end.1 ∙ f) in
        omega (arith, end.2);
    apart = λ n. same_slot_false s.write s.read (ap (λ b. b && same_slot s.write s.read) (sym (writing_is s.writer n)) ∙ m);
  };
  safe = λ m y e. safe_same first noise (ended ++ open_write s.writer s.write s.item since) next at y le (h.safe m y e);
}
-- R5: it ends
safe_read {R} R4 s ended since reads entered next at first noise le h =
    let new : SlotRead R = record { slot = s.read; begins = entered; ends = at; answer = answer s } in
    record {
      all_ended = ended_later ended next at le h.all_ended;
      since_below = omega (arith, h.since_below);
      entered_below = omega (arith, h.entered_below);
      same_noise = h.same_noise;
      contents =
          λ q. last_same first ended ended q next (at + 1) _ (same_later ended q next (at + 1) (omega arith) h.all_ended) (h.contents q);
      met = λ i. absurd i;
      unmet = λ i. absurd i;
      safe = λ m y e. elim (get_cases reads new m y e) [
        | inl old ↦ safe_same first noise (ended ++ open_write s.writer s.write s.item since) next at y le (h.safe m y old)
        | inr here ↦
            let P : SlotRead R → Type 0 = λ z. IsSafeRead first noise (ended ++ open_write s.writer s.write s.item since) (at + 1) z in
            subst P (sym here.1) (record {
              forwards = omega (arith, h.entered_below);
              before = omega arith;
              safe = safe_now s ended since reads entered next at first noise le h;
            })
      ];
    }

abbrev pub IsSafeTrace : {R : Type 0} → SlotTrace R → ℕ → (Slot → R) → R → Type 0
IsSafeTrace t next first noise = IsSafeAt t.cell.writer t.cell.reader t.cell t.ended t.since t.reads t.entered next first noise

pub safe_step : {R : Type 0} (items : ℕ → R) (t : SlotTrace R) (turn : Turn) (next at : ℕ) (first : Slot → R) (noise : R) → next ≤ at →
    IsSafeTrace t next first noise → IsSafeTrace (slots_step items t turn at) (at + 1) first noise
safe_step {R} items t Writer next at first noise le h =
    let s : State R = t.cell in
    let w : Stage = s.writer in
    let P : Stage → ReaderStage → Type 0 = λ v r. IsSafeAt v r (after_write w (items at) s) (ended_after w at s t.since t.ended)
    (since_after w at t.since) t.reads t.entered (at + 1) first noise in
    subst (λ v. P v (after_write w (items at) s).reader) (sym (writer_after w (items at) s))
    (subst (λ r. P (next_write w) r) (sym (reader_after w (items at) s))
    (safe_write w (items at) s t.ended t.since t.reads t.entered next at first noise le h))
safe_step {R} items t Reader next at first noise le h =
    let s : State R = t.cell in
    let r : ReaderStage = s.reader in
    let P : Stage → Type 0 = λ v. IsSafeAt v (after_read r s).reader (after_read r s) t.ended t.since (reads_after r at s t.entered t.reads)
    (entered_after r at t.entered) (at + 1) first noise in
    subst P (sym (writer_stays r s)) (safe_read r s t.ended t.since t.reads t.entered next at first noise le h)

safe_steps : {R : Type 0} (items : ℕ → R) (ms : List Moment) (t : SlotTrace R) (next : ℕ) (first : Slot → R) (noise : R) → RisesFrom next
    ms → IsSafeTrace t next first noise → (end : ℕ) × IsSafeTrace (fold (λ u m. slots_step items u m.turn m.at) t ms) end first noise
safe_steps items [] t next first noise rises h = (next, h)
safe_steps items (m ∷ ms) t next first noise rises h = safe_steps items ms (slots_step items t m.turn m.at) (m.at + 1) first noise rises.1
    (safe_step items t m.turn next m.at first noise rises.0 h)

pub slots_safe : {R : Type 0} (s : State R) (items : ℕ → R) (ms : List Moment) → IsMarked s → RisesFrom 1 ms → (m : ℕ) (r : SlotRead R) →
    slice_get (slot_trace s items ms).reads m ≡ Some r → IsSafe (λ p. record_in s.records p) s.noise (slot_writes (slot_trace s items ms)) r
slots_safe {R} s items ms mark rises m r e =
    let start : SlotTrace R = record { cell = s; ended = []; since = 0; reads = []; entered = 0 } in
    let end = safe_steps items ms start 1 (λ p. record_in s.records p) s.noise rises (record {
      all_ended = λ i w g. cc;
      since_below = omega arith;
      entered_below = omega arith;
      same_noise = refl;
      contents = λ q. inl ((λ i w g. cc), refl);
      met = λ i m.
          let both = and_parts (is_writing s.writer) (same_slot s.write s.read) (sym (mark i) ∙ m) in (
            0,
            begun_write s 0,
            open_there s.writer s [] 0 both.0,
            record { slot = same_slot_true s.write s.read both.1; begins = omega arith; ends = λ e g. cc },
          );
      unmet = λ i m. record {
        before = λ j v g slot e f. cc;
        apart = λ n.
            same_slot_false s.write s.read (ap (λ b. b && same_slot s.write s.read) (sym (writing_is s.writer n)) ∙ sym (mark i) ∙ m);
      };
      safe = λ i x g. cc;
    }) in
    (end.1.safe m r e).safe
