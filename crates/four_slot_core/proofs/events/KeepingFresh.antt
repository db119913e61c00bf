-- Each event keeps the numbers in order, by cases on the event: W4 alone turns a pair's bit, to the newest record, and R3 takes the
-- record that the bit names.
use Rattle.std.proofs.Common.{◌≡◌, ◌≢◌, ℕ, ◌+◌, ◌≤◌, Bool, true, false, not, refl, sym, subst, ◌∙◌, ap, ◌⊎◌, inl, inr, arith}
use Rattle.four_slot_core.specs.declared.state.Slot.{Slot}
use Rattle.four_slot_core.specs.declared.state.State.{State}
use Rattle.four_slot_core.specs.declared.state.Stage.{Stage}
use Rattle.four_slot_core.specs.declared.state.Stage.TheVariants.{W1, W2, W3, W4, W5}
use Rattle.four_slot_core.specs.declared.state.ReaderStage.{ReaderStage}
use Rattle.four_slot_core.specs.declared.state.ReaderStage.TheVariants.{R1, R2, R3, R4, R5}
use Rattle.four_slot_core.specs.Events.{side, with_side, record_in, slot_with, after_write, after_read, next_write, opening_state}
use Rattle.four_slot_core.specs.Invariant.{IsSoundAt, IsSound, last_after, IsUnderWay, IsStored, HasIndex}
use Rattle.four_slot_core.specs.Freshness.{named, IsFreshAt, IsFresh, prev_after, floor_after}
use Rattle.four_slot_core.proofs.events.Keeping.{writer_after, reader_after, writer_stays}
use Rattle.four_slot_core.proofs.events.TwoSides.{not_same, bit_cases, side_same, side_other, record_other}

stored_cases : (w : Stage) → IsStored w ⊎ (IsStored w → ⊥)
stored_cases W1 = inr (λ n. n)
stored_cases W2 = inr (λ n. n)
stored_cases W3 = inr (λ n. n)
stored_cases W4 = inl tt
stored_cases W5 = inr (λ n. n)

under_way : (w : Stage) → IsStored w → IsUnderWay w
under_way W1 n = absurd n
under_way W2 n = absurd n
under_way W3 n = absurd n
under_way W4 n = tt
under_way W5 n = absurd n

-- the slot of latest is never behind the last finished write
latest_up : {R : Type 0} (w : Stage) (r : ReaderStage) (num : R → ℕ) (s : State R) (last : R) (prev floor : ℕ) → IsSoundAt w r s last →
    IsFreshAt w r num s last prev floor → num last ≤ num (named s s.latest)
latest_up w r num s last prev floor h f = elim (stored_cases w) [
  | inr n ↦ let e : num (named s s.latest) ≡ num last = ap num (h.current_last (λ u. absurd (n u))) in omega arith
  | inl u ↦ elim (bit_cases s.write.pair s.latest) [
    | inl e ↦ let i : num (named s s.latest) ≡ num s.item = ap num (h.current_new u e) in omega (arith, f.numbered (under_way w u))
    | inr ne ↦ let e : num (named s s.latest) ≡ num last = ap num (h.current_last (λ v. ne)) in omega arith
  ]
]

pub fresh_write : {R : Type 0} (w : Stage) (r : ReaderStage) (num : R → ℕ) (x : R) (s : State R) (last : R) (prev floor : ℕ) →
    (w ≡ W5 → num x ≡ num last + 1) → IsSoundAt w r s last → IsFreshAt w r num s last prev floor →
    IsFreshAt (next_write w) r num (after_write w x s) (last_after w s last) prev floor
fresh_write W5 r num x s last prev floor nx h f = record {
  numbered = λ u. nx refl;
  top = λ p. elim (f.top p) [ inl le ↦ inl le | inr z ↦ absurd z.0 ];
  past = f.past;
  begun = f.begun;
  held = f.held;
  fresh = f.fresh;
}
fresh_write W1 r num x s last prev floor nx h f = record {
  numbered = f.numbered;
  top = f.top;
  past = f.past;
  begun = f.begun;
  held = f.held;
  fresh = f.fresh;
}
fresh_write {R} W2 r num x s last prev floor nx h f = record {
  numbered = f.numbered;
  top = λ p. elim (f.top p) [ inl le ↦ inl (rw (same p) le) | inr z ↦ absurd z.0 ];
  past = rw (same s.latest) f.past;
  begun = λ b. let z = f.begun b in (rw (same s.read.pair) z.0, rw (same s.read.pair) z.1);
  held = λ i. ap num (record_other s.records s.write s.read s.item (λ e. apart r i h (sym e))) ∙ f.held i;
  fresh = f.fresh;
}
  where
    named_other : (p : Bool) → slot_with p (side s.slot p) ≢ s.write
    named_other p e =
        let q : p ≡ s.write.pair = ap (λ (z : Slot). z.pair) e in
        let i : side s.slot p ≡ s.write.index = ap (λ (z : Slot). z.index) e in
        not_same (side s.slot p) (ap (λ b. not (side s.slot b)) q ∙ sym (h.opposite tt) ∙ sym i)

    same : (p : Bool) → num (named (after_write W2 x s) p) ≡ num (named s p)
    same p = ap num (record_other s.records s.write (slot_with p (side s.slot p)) s.item (named_other p))

    apart : (r : ReaderStage) → HasIndex r → IsSoundAt W2 r s last → s.write ≢ s.read
    apart R1 i k = absurd i
    apart R2 i k = absurd i
    apart R3 i k = k.apart s.read tt (k.taken tt) tt
    apart R4 i k = k.apart s.read tt (k.taken tt) tt
    apart R5 i k = absurd i
fresh_write {R} W3 r num x s last prev floor nx h f = record {
  numbered = f.numbered;
  top = λ p. elim (bit_cases p s.write.pair) [
    | inl e ↦ inr (tt, e)
    | inr ne ↦ elim (f.top p) [ inl le ↦ inl (rw (other_named p ne) le) | inr z ↦ absurd z.0 ]
  ];
  past = omega (arith, f.past, up s.latest);
  begun = λ b. let z = f.begun b in (omega (arith, z.0, up s.read.pair), omega (arith, z.1, up s.read.pair));
  held = f.held;
  fresh = f.fresh;
}
  where
    other_named : (p : Bool) → p ≢ s.write.pair → num (named (after_write W3 x s) p) ≡ num (named s p)
    other_named p ne = ap (λ b. num (record_in s.records (slot_with p b))) (side_other s.slot p s.write.pair s.write.index ne)

    here_named : (p : Bool) → p ≡ s.write.pair → num (named (after_write W3 x s) p) ≡ num s.item
    here_named p e =
        ap (λ b. num (record_in s.records (slot_with b (side (with_side s.slot s.write.pair s.write.index) b)))) e
        ∙ ap (λ b. num (record_in s.records (slot_with s.write.pair b))) (side_same s.slot s.write.pair s.write.index)
        ∙ ap num (h.filled tt)

    up : (p : Bool) → num (named s p) ≤ num (named (after_write W3 x s) p)
    up p = elim (bit_cases p s.write.pair) [
      | inl e ↦ elim (f.top p) [ inl le ↦ omega (arith, here_named p e, f.numbered tt) | inr z ↦ absurd z.0 ]
      | inr ne ↦ omega (arith, other_named p ne)
    ]
fresh_write {R} W4 r num x s last prev floor nx h f = record {
  numbered = λ n. absurd n;
  top = λ p. inl (elim (f.top p) [ inl le ↦ omega (arith, f.numbered tt) | inr z ↦ omega (arith, ap (λ b. num (named s b)) z.1, own) ]);
  past = elim (f.top s.latest) [
    | inl le ↦ omega (arith, f.past, own, f.numbered tt)
    | inr z ↦
        omega (arith, f.past, ap (λ b. num (named s b)) z.1)
  ];
  begun = f.begun;
  held = f.held;
  fresh = f.fresh;
}
  where
    own : num (named s s.write.pair) ≡ num s.item
    own = ap (λ b. num (record_in s.records (slot_with s.write.pair b))) (sym (h.stored tt)) ∙ ap num (h.filled tt)

pub fresh_read : {R : Type 0} (w : Stage) (r : ReaderStage) (num : R → ℕ) (s : State R) (last : R) (prev floor : ℕ) → IsSoundAt w r s last →
    IsFreshAt w r num s last prev floor →
    IsFreshAt w (after_read r s).reader num (after_read r s) last (prev_after r num s prev) (floor_after r num last floor)
fresh_read w R5 num s last prev floor h f = record {
  numbered = f.numbered;
  top = f.top;
  past = f.past;
  begun = λ u. (latest_up w R5 num s last prev floor h f, f.past);
  held = λ n. absurd n;
  fresh = λ n. absurd n;
}
fresh_read w R1 num s last prev floor h f = record {
  numbered = f.numbered;
  top = f.top;
  past = f.past;
  begun = f.begun;
  held = λ n. absurd n;
  fresh = λ n. absurd n;
}
fresh_read w R2 num s last prev floor h f = record {
  numbered = f.numbered;
  top = f.top;
  past = elim (f.top s.read.pair) [
    | inl le ↦ omega (arith, latest_up w R2 num s last prev floor h f)
    | inr z ↦ let e : s.read.pair ≡ s.latest = elim (bit_cases s.write.pair s.latest) [
      | inl same ↦ z.1 ∙ same
      | inr ne ↦ absurd (ne (sym z.1 ∙ sym (h.announced tt) ∙ h.followed (under_way w z.0) ne))
    ] in omega (arith, ap (λ b. num (named s b)) e)
  ];
  begun = λ n. absurd n;
  held = λ u. refl;
  fresh = λ u. (f.begun tt).0;
}
fresh_read w R3 num s last prev floor h f = record {
  numbered = f.numbered;
  top = f.top;
  past = f.past;
  begun = λ n. absurd n;
  held = f.held;
  fresh = f.fresh;
}
fresh_read w R4 num s last prev floor h f = record {
  numbered = f.numbered;
  top = f.top;
  past = f.past;
  begun = λ n. absurd n;
  held = λ n. absurd n;
  fresh = λ n. absurd n;
}

pub numbers_after_write : {R : Type 0} (num : R → ℕ) (x : R) (s : State R) (last : R) (prev floor : ℕ) →
    (s.writer ≡ W5 → num x ≡ num last + 1) → IsSound s last → IsFreshAt s.writer s.reader num s last prev floor →
    IsFreshAt (after_write s.writer x s).writer (after_write s.writer x s).reader num (after_write s.writer x s)
    (last_after s.writer s last) prev floor
numbers_after_write {R} num x s last prev floor nx h f =
    let P : Stage → ReaderStage → Type 0 = λ w r. IsFreshAt w r num (after_write s.writer x s) (last_after s.writer s last) prev floor in
    subst (λ w. P w (after_write s.writer x s).reader) (sym (writer_after s.writer x s))
    (subst (λ r. P (next_write s.writer) r) (sym (reader_after s.writer x s))
    (fresh_write s.writer s.reader num x s last prev floor nx h f))

pub numbers_after_read : {R : Type 0} (num : R → ℕ) (s : State R) (last : R) (prev floor : ℕ) → IsSound s last →
    IsFreshAt s.writer s.reader num s last prev floor → IsFreshAt (after_read s.reader s).writer (after_read s.reader s).reader num
    (after_read s.reader s) last (prev_after s.reader num s prev) (floor_after s.reader num last floor)
numbers_after_read {R} num s last prev floor h f =
    let P : Stage → Type 0 = λ w. IsFreshAt w (after_read s.reader s).reader num (after_read s.reader s) last
    (prev_after s.reader num s prev) (floor_after s.reader num last floor) in
    subst P (sym (writer_stays s.reader s)) (fresh_read s.writer s.reader num s last prev floor h f)

pub opening_is_fresh : {R : Type 0} (num : R → ℕ) (opening noise : R) → num opening ≡ 0 →
    IsFresh num (opening_state opening noise) opening 0 0
opening_is_fresh num opening noise z = record {
  numbered = λ n. absurd n;
  top = λ p. inl (rw (all_opening p) (omega arith));
  past = omega arith;
  begun = λ n. absurd n;
  held = λ n. absurd n;
  fresh = λ n. absurd n;
}
  where
    all_opening : (p : Bool) → num (named (opening_state opening noise) p) ≡ num opening
    all_opening true = refl
    all_opening false = refl
