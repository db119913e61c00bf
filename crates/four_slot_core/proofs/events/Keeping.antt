-- Each event keeps the invariant, by cases on the event: it changes few fields, and of two pairs or bits what isn't the one is the
-- other.
use Rattle.std.proofs.Common.{◌≡◌, ◌≢◌, Bool, true, false, not, refl, sym, subst, ◌∙◌, ap, inl, inr, ◌&&◌, ◌||◌}
use Rattle.std.proofs.lemmas.Bool.{cases_Bool}
use Rattle.std.proofs.lemmas.Option.{same_Some}
use Rattle.four_slot_core.specs.declared.state.Slot.{Slot}
use Rattle.four_slot_core.specs.declared.state.State.{State}
use Rattle.four_slot_core.specs.declared.state.Stage.{Stage}
use Rattle.four_slot_core.specs.declared.state.Stage.TheVariants.{W1, W2, W3, W4, W5}
use Rattle.four_slot_core.specs.declared.state.ReaderStage.{ReaderStage}
use Rattle.four_slot_core.specs.declared.state.ReaderStage.TheVariants.{R1, R2, R3, R4, R5}
use Rattle.four_slot_core.specs.Events.{side, with_side, record_in, slot_with, after_write, after_read, next_write, opening_state, same_bit}
use Rattle.four_slot_core.specs.Events.{same_slot, is_reading, is_writing}
use Rattle.four_slot_core.specs.Invariant.{IsSoundAt, IsSound, last_after, HasSlot, HasIndex, IsKept, IsReading, IsUnmet, latest_slot}
use Rattle.four_slot_core.proofs.events.TwoSides.{not_same, other, bit_cases, side_same, side_other, same_slot_of, record_same}
use Rattle.four_slot_core.proofs.events.TwoSides.{record_other}

pub keep_write : {R : Type 0} (w : Stage) (r : ReaderStage) (x : R) (s : State R) (last : R) → IsSoundAt w r s last →
    IsSoundAt (next_write w) r (after_write w x s) (last_after w s last)
-- W1
keep_write W5 r x s last h = record {
  loaded = h.loaded;
  followed = λ u ne. other s.reading s.latest ne;
  kept = h.kept;
  apart = λ c k e hs eq. not_same s.reading (ap (λ (p : Slot). p.pair) eq ∙ sym (h.kept c k e));
  announced = h.announced;
  taken = h.taken;
  remembered = h.remembered;
  opposite = λ hs. ap (λ b. not (side b (not s.reading))) h.remembered;
  stored = λ n. absurd n;
  current_new = λ n. absurd n;
  current_last = λ n. h.current_last (λ z. absurd z);
  filled = λ n. absurd n;
}
-- W2
keep_write W1 r x s last h = record {
  loaded = h.loaded;
  followed = h.followed;
  kept = h.kept;
  apart = h.apart;
  announced = h.announced;
  taken = h.taken;
  remembered = h.remembered;
  opposite = h.opposite;
  stored = h.stored;
  current_new = h.current_new;
  current_last = h.current_last;
  filled = h.filled;
}
-- W3
keep_write {R} W2 r x s last h = record {
  loaded = h.loaded;
  followed = h.followed;
  kept = h.kept;
  apart = h.apart;
  announced = h.announced;
  taken = h.taken;
  remembered = h.remembered;
  opposite = h.opposite;
  stored = λ n. absurd n;
  current_new = λ n. absurd n;
  current_last = λ n. record_other s.records s.write (latest_slot s) s.item not_latest ∙ h.current_last (λ z. absurd z);
  filled = λ u. record_same s.records s.write s.item;
}
  where
    not_latest : latest_slot s ≢ s.write
    not_latest e =
        let p : s.latest ≡ s.write.pair = ap (λ (q : Slot). q.pair) e in
        let i : side s.slot s.latest ≡ s.write.index = ap (λ (q : Slot). q.index) e in
        not_same (side s.slot s.latest) (ap (λ b. not (side s.slot b)) p ∙ sym (h.opposite tt) ∙ sym i)
-- W4
keep_write {R} W3 r x s last h = record {
  loaded = h.loaded;
  followed = h.followed;
  kept = h.kept;
  apart = λ c k e n. absurd n;
  announced = h.announced;
  taken = h.taken;
  remembered = ap (λ b. with_side b s.write.pair s.write.index) h.remembered;
  opposite = λ n. absurd n;
  stored = λ u. sym (side_same s.slot s.write.pair s.write.index);
  current_new = λ u e.
      ap (λ b. record_in s.records (slot_with b (side (with_side s.slot s.write.pair s.write.index) b))) (sym e)
      ∙ ap (λ b. record_in s.records (slot_with s.write.pair b)) (side_same s.slot s.write.pair s.write.index)
      ∙ h.filled tt;
  current_last = λ ne.
      ap (λ b. record_in s.records (slot_with s.latest b)) (side_other s.slot s.latest s.write.pair s.write.index (λ e. ne tt (sym e)))
      ∙ h.current_last (λ z. absurd z);
  filled = h.filled;
}
-- W5
keep_write {R} W4 r x s last h = record {
  loaded = λ il. elim (bit_cases s.write.pair s.latest) [
    | inl e ↦ elim (h.loaded il) [ inl l ↦ inl (l ∙ sym e) | inr l ↦ inr l ]
    | inr ne ↦ elim (h.loaded il) [ inl l ↦ inr (l ∙ sym (h.followed tt ne)) | inr l ↦ inr l ]
  ];
  followed = λ n. absurd n;
  kept = h.kept;
  apart = λ c k e n. absurd n;
  announced = h.announced;
  taken = h.taken;
  remembered = h.remembered;
  opposite = λ n. absurd n;
  stored = λ n. absurd n;
  current_new = λ n. absurd n;
  current_last = λ u. ap (λ b. record_in s.records (slot_with s.write.pair b)) (sym (h.stored tt)) ∙ h.filled tt;
  filled = λ n. absurd n;
}

pub keep_read : {R : Type 0} (w : Stage) (r : ReaderStage) (s : State R) (last : R) → IsSoundAt w r s last →
    IsSoundAt w (after_read r s).reader (after_read r s) last
-- R1
keep_read w R5 s last h = record {
  loaded = λ u. inl refl;
  followed = h.followed;
  kept = h.kept;
  apart = h.apart;
  announced = λ n. absurd n;
  taken = λ n. absurd n;
  remembered = h.remembered;
  opposite = h.opposite;
  stored = h.stored;
  current_new = h.current_new;
  current_last = h.current_last;
  filled = h.filled;
}
-- R2
keep_read w R1 s last h = record {
  loaded = λ n. absurd n;
  followed = λ u ne. elim (h.loaded tt) [ inl e ↦ e | inr e ↦ e ∙ h.followed u ne ];
  kept = λ c n. absurd n;
  apart = λ c n. absurd n;
  announced = λ u. refl;
  taken = λ n. absurd n;
  remembered = h.remembered;
  opposite = h.opposite;
  stored = h.stored;
  current_new = h.current_new;
  current_last = h.current_last;
  filled = h.filled;
}
-- R3
keep_read {R} w R2 s last h = record {
  loaded = λ n. absurd n;
  followed = h.followed;
  kept = λ c k e. h.announced tt ∙ ap (λ (p : Slot). p.pair) (same_Some (slot_with s.read.pair (side s.slot s.read.pair)) c e);
  apart = λ c k e hs eq.
      let is : slot_with s.read.pair (side s.slot s.read.pair) ≡ c = same_Some (slot_with s.read.pair (side s.slot s.read.pair)) c e in
      let p : s.write.pair ≡ s.read.pair = ap (λ (q : Slot). q.pair) (eq ∙ sym is) in
      let i : s.write.index ≡ side s.slot s.read.pair = ap (λ (q : Slot). q.index) (eq ∙ sym is) in
      not_same (side s.slot s.write.pair) (sym (h.opposite hs) ∙ i ∙ ap (side s.slot) (sym p));
  announced = h.announced;
  taken = λ u. refl;
  remembered = h.remembered;
  opposite = h.opposite;
  stored = h.stored;
  current_new = h.current_new;
  current_last = h.current_last;
  filled = h.filled;
}
-- R4
keep_read w R3 s last h = record {
  loaded = h.loaded;
  followed = h.followed;
  kept = h.kept;
  apart = h.apart;
  announced = h.announced;
  taken = h.taken;
  remembered = h.remembered;
  opposite = h.opposite;
  stored = h.stored;
  current_new = h.current_new;
  current_last = h.current_last;
  filled = h.filled;
}
-- R5
keep_read w R4 s last h = record {
  loaded = λ n. absurd n;
  followed = h.followed;
  kept = h.kept;
  apart = h.apart;
  announced = λ n. absurd n;
  taken = λ n. absurd n;
  remembered = h.remembered;
  opposite = h.opposite;
  stored = h.stored;
  current_new = h.current_new;
  current_last = h.current_last;
  filled = h.filled;
}

pub writer_after : {R : Type 0} (w : Stage) (x : R) (s : State R) → (after_write w x s).writer ≡ next_write w
writer_after W1 x s = refl
writer_after W2 x s = refl
writer_after W3 x s = refl
writer_after W4 x s = refl
writer_after W5 x s = refl

pub reader_after : {R : Type 0} (w : Stage) (x : R) (s : State R) → (after_write w x s).reader ≡ s.reader
reader_after W1 x s = refl
reader_after W2 x s = refl
reader_after W3 x s = refl
reader_after W4 x s = refl
reader_after W5 x s = refl

pub writer_stays : {R : Type 0} (r : ReaderStage) (s : State R) → (after_read r s).writer ≡ s.writer
writer_stays R1 s = refl
writer_stays R2 s = refl
writer_stays R3 s = refl
writer_stays R4 s = refl
writer_stays R5 s = refl

pub write_is_sound : {R : Type 0} (x : R) (s : State R) (last : R) → IsSound s last →
    IsSound (after_write s.writer x s) (last_after s.writer s last)
write_is_sound {R} x s last h =
    let P : Stage → ReaderStage → Type 0 = λ w r. IsSoundAt w r (after_write s.writer x s) (last_after s.writer s last) in
    subst (λ w. P w (after_write s.writer x s).reader) (sym (writer_after s.writer x s))
    (subst (λ r. P (next_write s.writer) r) (sym (reader_after s.writer x s)) (keep_write s.writer s.reader x s last h))

pub read_is_sound : {R : Type 0} (s : State R) (last : R) → IsSound s last → IsSound (after_read s.reader s) last
read_is_sound {R} s last h =
    let P : Stage → Type 0 = λ w. IsSoundAt w (after_read s.reader s).reader (after_read s.reader s) last in
    subst P (sym (writer_stays s.reader s)) (keep_read s.writer s.reader s last h)

pub opening_is_sound : {R : Type 0} (opening noise : R) → IsSound (opening_state opening noise) opening
opening_is_sound opening noise = record {
  loaded = λ n. absurd n;
  followed = λ n. absurd n;
  kept = λ c k e. cc;
  apart = λ c k e n. absurd n;
  announced = λ n. absurd n;
  taken = λ n. absurd n;
  remembered = refl;
  opposite = λ n. absurd n;
  stored = λ n. absurd n;
  current_new = λ n. absurd n;
  current_last = λ n. refl;
  filled = λ n. absurd n;
}

-- clear: a writer and a reader that have their slots have different ones
pub clear_of_sound : {R : Type 0} (s : State R) (last : R) → IsSound s last → HasIndex s.reader → HasSlot s.writer → s.write ≢ s.read
clear_of_sound s last h hi hs = h.apart s.read (kept_with s.reader hi) (h.taken hi) hs
  where
    kept_with : (r : ReaderStage) → HasIndex r → IsKept r
    kept_with R1 i = tt
    kept_with R2 i = absurd i
    kept_with R3 i = tt
    kept_with R4 i = tt
    kept_with R5 i = tt

pub same_bits : (a b : Bool) → same_bit a b ≡ true → a ≡ b
same_bits true b h = sym h
same_bits false true h = cc
same_bits false false h = refl

pub and_parts : (a b : Bool) → (a && b) ≡ true → (a ≡ true) × (b ≡ true)
and_parts true b h = (refl, h)
and_parts false b h = cc

not_same_slot : (p q : Slot) → p ≢ q → same_slot p q ≡ false
not_same_slot p q ne = elim (cases_Bool (same_slot p q)) [
  | inl t ↦
      let w = and_parts (same_bit p.pair q.pair) (same_bit p.index q.index) t in
      absurd (ne (same_slot_of p q.pair q.index (same_bits p.pair q.pair w.0) (same_bits p.index q.index w.1)))
  | inr f ↦ f
]

-- no slot read meets a write
pub unmet_write : {R : Type 0} (w : Stage) (r : ReaderStage) (x : R) (s : State R) (last : R) → IsSoundAt w r s last → s.reader ≡ r →
    (IsReading r → s.met ≡ false) → IsReading r → (after_write w x s).met ≡ false
unmet_write W1 R4 x s last h e calm i =
    let ne : same_slot s.write s.read ≡ false = not_same_slot s.write s.read (h.apart s.read tt (h.taken tt) tt) in
    ap (λ b. b || (is_reading s.reader && same_slot s.write s.read)) (calm i) ∙ ap (λ b. is_reading s.reader && b) ne
    ∙ and_false (is_reading s.reader)
  where
    and_false : (b : Bool) → (b && false) ≡ false
    and_false true = refl
    and_false false = refl
unmet_write W1 R1 x s last h e calm i = absurd i
unmet_write W1 R2 x s last h e calm i = absurd i
unmet_write W1 R3 x s last h e calm i = absurd i
unmet_write W1 R5 x s last h e calm i = absurd i
unmet_write W2 r x s last h e calm i = calm i
unmet_write W3 r x s last h e calm i = calm i
unmet_write W4 r x s last h e calm i = calm i
unmet_write W5 r x s last h e calm i = calm i

pub unmet_read : {R : Type 0} (w : Stage) (r : ReaderStage) (s : State R) (last : R) → IsSoundAt w r s last → s.writer ≡ w →
    IsReading (after_read r s).reader → (after_read r s).met ≡ false
unmet_read w R1 s last h e i = absurd i
unmet_read w R2 s last h e i = absurd i
unmet_read w R4 s last h e i = absurd i
unmet_read w R5 s last h e i = absurd i
unmet_read W2 R3 s last h e i =
    ap (λ b. is_writing s.writer && b) (not_same_slot s.write s.read (h.apart s.read tt (h.taken tt) tt)) ∙ and_false (is_writing s.writer)
  where
    and_false : (b : Bool) → (b && false) ≡ false
    and_false true = refl
    and_false false = refl
unmet_read W1 R3 s last h e i = ap (λ v. is_writing v && same_slot s.write s.read) e
unmet_read W3 R3 s last h e i = ap (λ v. is_writing v && same_slot s.write s.read) e
unmet_read W4 R3 s last h e i = ap (λ v. is_writing v && same_slot s.write s.read) e
unmet_read W5 R3 s last h e i = ap (λ v. is_writing v && same_slot s.write s.read) e

pub opening_unmet : {R : Type 0} (opening noise : R) → IsUnmet (opening_state opening noise)
opening_unmet opening noise i = refl

pub write_unmet : {R : Type 0} (x : R) (s : State R) (last : R) → IsSound s last → IsUnmet s → IsUnmet (after_write s.writer x s)
write_unmet x s last h calm i =
    let r : IsReading s.reader = subst IsReading (reader_after s.writer x s) i in
    unmet_write s.writer s.reader x s last h refl calm r

pub read_unmet : {R : Type 0} (s : State R) (last : R) → IsSound s last → IsUnmet s → IsUnmet (after_read s.reader s)
read_unmet s last h calm i = unmet_read s.writer s.reader s last h refl i
