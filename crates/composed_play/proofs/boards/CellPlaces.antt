-- The steps of one side of a cell among those of its process: of each operation, five steps in turn.
use Rattle.std.proofs.Common.{◌≡◌, ℕ, zero, suc, ◌+◌, ◌-◌, ◌*◌, ◌<◌, ◌≤◌, List, [], ◌∷◌, ◌++◌, length, slice_get}
use Rattle.std.proofs.Common.{refl, sym, ◌∙◌, ap, arith, ◌⊎◌, inl, inr}
use Rattle.std.proofs.lemmas.Bool.{cases_eq, cases_lt}
use Rattle.std.proofs.lemmas.List.{length_push}
use Rattle.history_core.proofs.Places.{get_last, get_pushed}
use Rattle.history_core.proofs.Played.{later_operation, same_operation_number}

-- of each a elements of ps, the five from place `base` on are those of xs
pub record AreFives (a base : ℕ) (xs ps : List ℕ) : Type 0 where
  pub same : (k e : ℕ) → e < 5 → slice_get xs (k * 5 + e) ≡ slice_get ps (k * a + (base + e))
  pub before : (m r : ℕ) → length ps ≡ m * a + r → r < a → r ≤ base → length xs ≡ m * 5
  pub within : (m r : ℕ) → length ps ≡ m * a + r → r < a → base ≤ r → r ≤ base + 5 → length xs + base ≡ m * 5 + r
  pub after : (m r : ℕ) → length ps ≡ m * a + r → r < a → base + 5 ≤ r → length xs ≡ m * 5 + 5

pub no_fives : (a base : ℕ) → 0 < a → AreFives a base [] []
no_fives a base pos = record {
  same = λ k e l. refl;
  before = λ m r c l b. let z : m ≡ 0 = first m r c in omega arith;
  within = λ m r c l b u. let z : m ≡ 0 = first m r c in let y : r ≡ 0 = omega arith in omega arith;
  after = λ m r c l b. let z : m ≡ 0 = first m r c in let y : r ≡ 0 = omega arith in omega arith;
}
  where
    first : (m r : ℕ) → 0 ≡ m * a + r → m ≡ 0
    first zero r c = refl
    first (suc m) r c = let h : 0 * a + a ≤ suc m * a = later_operation a 0 (suc m) (omega arith) in absurd (omega arith)

-- the number of the next element
after_step : (a m0 r0 m r : ℕ) → (m0 * a + r0) + 1 ≡ m * a + r → r0 < a → r < a →
    ((r0 + 1 < a) × (m ≡ m0) × (r ≡ r0 + 1)) ⊎ ((r0 + 1 ≡ a) × (m ≡ m0 + 1) × (r ≡ 0))
after_step a m0 r0 m r e l0 l = elim (cases_lt (r0 + 1) a) [
  | inl lt ↦
      let k : m0 ≡ m = same_operation_number a m0 m (r0 + 1) r (omega arith) lt l in
      let mul : m0 * a ≡ m * a = ap (λ z. z * a) k in
      inl (lt, sym k, omega arith)
  | inr le ↦
      let full : r0 + 1 ≡ a = omega arith in
      let next : (m0 + 1) * a ≡ m0 * a + a = omega arith in
      let k : m0 + 1 ≡ m = same_operation_number a (m0 + 1) m 0 r (omega arith) (omega arith) l in
      let mul : (m0 + 1) * a ≡ m * a = ap (λ z. z * a) k in
      inr (full, sym k, omega arith)
]

module _ (a base : ℕ) (room : base + 5 ≤ a) (xs ps : List ℕ) (m0 r0 p : ℕ) (c : length ps ≡ m0 * a + r0) (l0 : r0 < a)
    (h : AreFives a base xs ps) where
  longer : length (ps ++ p ∷ []) ≡ (m0 * a + r0) + 1
  longer = length_push ps p ∙ ap (λ n. n + 1) c

  -- a step that is one of the five
  pub one_of_five : base ≤ r0 → r0 < base + 5 → AreFives a base (xs ++ p ∷ []) (ps ++ p ∷ [])
  one_of_five lo hi =
      let lx : length xs + base ≡ m0 * 5 + r0 = h.within m0 r0 c l0 lo (omega arith) in
      let lx' : length (xs ++ p ∷ []) ≡ length xs + 1 = length_push xs p in
      record {
        same = λ k e l. elim (cases_eq (k * 5 + e) (length xs)) [
          | inl here ↦
              let k' : k ≡ m0 = same_operation_number 5 k m0 e (r0 - base) (omega arith) l (omega arith) in
              let mul : k * a ≡ m0 * a = ap (λ z. z * a) k' in
              get_last xs p (k * 5 + e) here ∙ sym (get_last ps p (k * a + (base + e)) (omega arith))
          | inr ne ↦
              get_pushed xs p (k * 5 + e) ne ∙ h.same k e l
              ∙ sym (get_pushed ps p (k * a + (base + e)) (λ z.
              let k' : k ≡ m0 = same_operation_number a k m0 (base + e) r0 (z ∙ c) (omega arith) l0 in
              let mul : k * a ≡ m0 * a = ap (λ y. y * a) k' in
              ne (omega arith)))
        ];
        before = λ m r cc l b. elim (after_step a m0 r0 m r (sym longer ∙ cc) l0 l) [
          | inl w ↦ let q1 : m ≡ m0 = w.1 in let q2 : r ≡ r0 + 1 = w.2 in absurd (omega arith)
          | inr w ↦ let q0 : r0 + 1 ≡ a = w.0 in let q1 : m ≡ m0 + 1 = w.1 in omega arith
        ];
        within = λ m r cc l b u. elim (after_step a m0 r0 m r (sym longer ∙ cc) l0 l) [
          | inl w ↦ let q1 : m ≡ m0 = w.1 in let q2 : r ≡ r0 + 1 = w.2 in omega arith
          | inr w ↦ let q0 : r0 + 1 ≡ a = w.0 in let q1 : m ≡ m0 + 1 = w.1 in let q2 : r ≡ 0 = w.2 in omega arith
        ];
        after = λ m r cc l b. elim (after_step a m0 r0 m r (sym longer ∙ cc) l0 l) [
          | inl w ↦ let q1 : m ≡ m0 = w.1 in let q2 : r ≡ r0 + 1 = w.2 in omega arith
          | inr w ↦ let q2 : r ≡ 0 = w.2 in absurd (omega arith)
        ];
      }

  -- a step that isn't
  pub none_of_five : (r0 < base) ⊎ (base + 5 ≤ r0) → AreFives a base xs (ps ++ p ∷ [])
  none_of_five out = record {
    same = λ k e l. h.same k e l
        ∙ sym (get_pushed ps p (k * a + (base + e)) (λ z.
        let k' : k ≡ m0 = same_operation_number a k m0 (base + e) r0 (z ∙ c) (omega arith) l0 in
        let mul : k * a ≡ m0 * a = ap (λ y. y * a) k' in
        let q : base + e ≡ r0 = omega arith in
        elim out [ inl lt ↦ omega arith | inr ge ↦ omega arith ]));
    before = λ m r cc l b. elim (after_step a m0 r0 m r (sym longer ∙ cc) l0 l) [
      | inl w ↦
          let q1 : m ≡ m0 = w.1 in
          let q2 : r ≡ r0 + 1 = w.2 in
          let x : length xs ≡ m0 * 5 = h.before m0 r0 c l0 (omega arith) in
          omega arith
      | inr w ↦
          let q0 : r0 + 1 ≡ a = w.0 in
          let q1 : m ≡ m0 + 1 = w.1 in
          elim out [ inl lt ↦ absurd (omega arith) | inr ge ↦ let x : length xs ≡ m0 * 5 + 5 = h.after m0 r0 c l0 ge in omega arith ]
    ];
    within = λ m r cc l b u. elim (after_step a m0 r0 m r (sym longer ∙ cc) l0 l) [
      | inl w ↦
          let q1 : m ≡ m0 = w.1 in
          let q2 : r ≡ r0 + 1 = w.2 in
          elim out [
            | inl lt ↦
                let x : length xs ≡ m0 * 5 = h.before m0 r0 c l0 (omega arith) in
                omega arith
            | inr ge ↦ absurd (omega arith)
          ]
      | inr w ↦
          let q0 : r0 + 1 ≡ a = w.0 in
          let q1 : m ≡ m0 + 1 = w.1 in
          let q2 : r ≡ 0 = w.2 in
          elim out [ inl lt ↦ absurd (omega arith) | inr ge ↦ let x : length xs ≡ m0 * 5 + 5 = h.after m0 r0 c l0 ge in omega arith ]
    ];
    after = λ m r cc l b. elim (after_step a m0 r0 m r (sym longer ∙ cc) l0 l) [
      | inl w ↦
          let q1 : m ≡ m0 = w.1 in
          let q2 : r ≡ r0 + 1 = w.2 in
          elim out [ inl lt ↦ absurd (omega arith) | inr ge ↦ let x : length xs ≡ m0 * 5 + 5 = h.after m0 r0 c l0 ge in omega arith ]
      | inr w ↦ let q2 : r ≡ 0 = w.2 in absurd (omega arith)
    ];
  }
