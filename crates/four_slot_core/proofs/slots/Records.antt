-- Lists of slot writes: what stays the last record of a slot when a write is added or ends.
use Rattle.std.proofs.Common.{◌≡◌, ℕ, ◌+◌, ◌<◌, ◌≤◌, List, [], ◌∷◌, ◌++◌, length, slice_get, Some, refl, subst, ◌∙◌, ap, inl, inr, arith}
use Rattle.std.proofs.lemmas.Option.{slice_get_within}
use Rattle.four_slot_core.specs.declared.state.Slot.{Slot}
use Rattle.four_slot_core.specs.SafeSlots.{SlotWrite, EndsBefore, IsLastRecord}
use Rattle.four_slot_core.proofs.Pushed.{get_before, get_cases, get_last}

-- the writes that ended in the slot before a, in the one list, are those that ended there before b, in the other
pub record SameEnded {R : Type 0} (xs ys : List (SlotWrite R)) (slot : Slot) (a b : ℕ) : Type 0 where
  pub forth : (i : ℕ) (w : SlotWrite R) → slice_get xs i ≡ Some w → EndsBefore w slot a → (slice_get ys i ≡ Some w) × EndsBefore w slot b
  pub back : (i : ℕ) (v : SlotWrite R) → slice_get ys i ≡ Some v → EndsBefore v slot b → (slice_get xs i ≡ Some v) × EndsBefore v slot a

pub last_same : {R : Type 0} (first : Slot → R) (xs ys : List (SlotWrite R)) (slot : Slot) (a b : ℕ) (x : R) → SameEnded xs ys slot a b →
    IsLastRecord first xs slot a x → IsLastRecord first ys slot b x
last_same {R} first xs ys slot a b x same h = elim h [
  | inl none ↦ inl ((λ i v e before. let was = same.back i v e before in none.0 i v was.0 was.1), none.1)
  | inr last ↦
      let now = same.forth last.0 last.1 last.2 last.3 in
      inr (last.0, last.1, now.0, now.1, (λ j v l e before. let was = same.back j v e before in last.4 j v l was.0 was.1), last.5)
]

-- each of these writes has ended before a
abbrev pub AllEnded : {R : Type 0} → List (SlotWrite R) → ℕ → Type 0
AllEnded {R} xs a = (i : ℕ) (w : SlotWrite R) → slice_get xs i ≡ Some w → (e : ℕ) × (w.ends ≡ Some e) × (e < a)

-- later positions end no more of them
pub same_later : {R : Type 0} (xs : List (SlotWrite R)) (slot : Slot) (a b : ℕ) → a ≤ b → AllEnded xs a → SameEnded xs xs slot a b
same_later xs slot a b le all = record {
  forth = λ i w e before. (e, (before.0, before.1, before.2, omega (arith, before.3)));
  back = λ i v e before. let end = all i v e in (e, (before.0, end.0, end.1, end.2));
}

-- one more write, which didn't end in this slot before a
pub same_pushed : {R : Type 0} (xs : List (SlotWrite R)) (y : SlotWrite R) (slot : Slot) (a : ℕ) → ¬ EndsBefore y slot a →
    SameEnded xs (xs ++ y ∷ []) slot a a
same_pushed {R} xs y slot a unended = record {
  forth = λ i w e before. (get_before xs y i w e, before);
  back = λ i v e before. elim (get_cases xs y i v e) [
    | inl old ↦ (old, before)
    | inr new ↦ let P : SlotWrite R → Type 0 = λ z. EndsBefore z slot a in absurd (unended (subst P new.1 before))
  ];
}

-- one less
pub same_popped : {R : Type 0} (xs : List (SlotWrite R)) (y : SlotWrite R) (slot : Slot) (a : ℕ) → ¬ EndsBefore y slot a →
    SameEnded (xs ++ y ∷ []) xs slot a a
same_popped {R} xs y slot a unended = let same = same_pushed xs y slot a unended in record { forth = same.back; back = same.forth }

-- the new write is the last
pub last_pushed : {R : Type 0} (first : Slot → R) (xs : List (SlotWrite R)) (y : SlotWrite R) (slot : Slot) (a : ℕ) →
    EndsBefore y slot a → IsLastRecord first (xs ++ y ∷ []) slot a y.item
last_pushed first xs y slot a before = inr (length xs, y, get_last xs y (length xs) refl, before, none_later, refl)
  where
    none_later : (j : ℕ) (v : SlotWrite _) → length xs < j → slice_get (xs ++ y ∷ []) j ≡ Some v → ¬ EndsBefore v slot a
    none_later j v l e later = elim (get_cases xs y j v e) [
      | inl old ↦ (let inside : j < length xs = slice_get_within xs j v old in omega arith)
      | inr new ↦ omega (arith, new.0)
    ]

pub ended_pushed : {R : Type 0} (xs : List (SlotWrite R)) (y : SlotWrite R) (next at : ℕ) → next ≤ at → y.ends ≡ Some at →
    AllEnded xs next → AllEnded (xs ++ y ∷ []) (at + 1)
ended_pushed {R} xs y next at le e all i w g = elim (get_cases xs y i w g) [
  | inl old ↦ let end = all i w old in (end.0, end.1, omega (arith, end.2))
  | inr new ↦ (at, ap (λ (z : SlotWrite R). z.ends) new.1 ∙ e, omega arith)
]

pub ended_later : {R : Type 0} (xs : List (SlotWrite R)) (next at : ℕ) → next ≤ at → AllEnded xs next → AllEnded xs (at + 1)
ended_later xs next at le all i w g = let end = all i w g in (end.0, end.1, omega (arith, end.2))
