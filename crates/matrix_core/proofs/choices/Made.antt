-- How many operations of a process have made an access, by how many steps it has made.
use Rattle.std.proofs.Common.{◌≡◌, ◌≢◌, ℕ, ◌+◌, ◌*◌, ◌<◌, ◌≤◌, ap, arith, inl, inr}
use Rattle.std.proofs.lemmas.Bool.{cases_eq, cases_lt}
use Rattle.history_core.proofs.Played.{later_operation, same_operation_number}

-- in c steps of their process so many operations, of a accesses each, have made their access e
pub record IsMade (a e c made : ℕ) : Type 0 where
  pub inside : (k : ℕ) → k < made → k * a + e < c
  pub all : (k : ℕ) → k * a + e < c → k < made

pub made_so_far : (a e c k r : ℕ) → c ≡ k * a + r → r ≤ e → e < a → IsMade a e c k
made_so_far a e c k r now le l = record {
  inside = λ j h. let g : j * a + a ≤ k * a = later_operation a j k h in omega arith;
  all = λ j h. elim (cases_lt j k) [
    | inl less ↦ less
    | inr ge ↦ elim (cases_eq j k) [
      | inl same ↦ let mul : j * a ≡ k * a = ap (λ z. z * a) same in absurd (omega arith)
      | inr ne ↦ let g : k * a + a ≤ j * a = later_operation a k j (omega arith) in absurd (omega arith)
    ]
  ];
}

pub made_past : (a e c k r : ℕ) → c ≡ k * a + r → e < r → r ≤ a → IsMade a e c (k + 1)
made_past a e c k r now lt l = record {
  inside = λ j h. elim (cases_lt j k) [
    | inl less ↦ let g : j * a + a ≤ k * a = later_operation a j k less in omega arith
    | inr ge ↦ let same : j ≡ k = omega arith in let mul : j * a ≡ k * a = ap (λ z. z * a) same in omega arith
  ];
  all = λ j h. elim (cases_lt j (k + 1)) [
    | inl less ↦ less
    | inr ge ↦ let g : k * a + a ≤ j * a = later_operation a k j (omega arith) in absurd (omega arith)
  ];
}

pub made_stays : (a e c k r made : ℕ) → c ≡ k * a + r → r < a → e < a → e ≢ r → IsMade a e c made → IsMade a e (c + 1) made
made_stays a e c k r made now lr le ne h = record {
  inside = λ j l. let x : j * a + e < c = h.inside j l in omega arith;
  all = λ j l. elim (cases_lt (j * a + e) c) [
    | inl old ↦ h.all j old
    | inr ge ↦
        let now_one : j * a + e ≡ k * a + r = omega arith in
        let same : j ≡ k = same_operation_number a j k e r now_one le lr in
        let mul : j * a ≡ k * a = ap (λ z. z * a) same in
        absurd (ne (omega arith))
  ];
}
