-- One call more of a row or a column: a process before the own one has its own number among the others, and one after it one less. And what
-- a
-- row that isn't whole leaves to its next call.
use Rattle.std.proofs.Common.{◌≡◌, ◌≢◌, true, false, ℕ, ◌+◌, ◌-◌, ◌<◌, ◌≤◌, List, refl, sym, ◌∙◌, subst, arith, inl, inr}
use Rattle.std.specs.Prelude.{nat_lt}
use Rattle.std.proofs.lemmas.Bool.{cases_lt}
use Rattle.std.proofs.lemmas.Bool.Decides.{nat_tests}
use Rattle.history_core.specs.Others.{other}
use Rattle.cell_contract.specs.Accesses.{ReadAccesses, WriteAccesses}
use Rattle.cell_contract.specs.Rows.{OneByOne, IsReadFrom, IsWriteTo}
use Rattle.cell_contract.specs.declared.said.Said.{Said}
use Rattle.cell_contract.specs.declared.said.Found.{Found}
use Rattle.cell_contract.specs.Rows.OneByOne.{no_call, one_more}

below : (i k : ℕ) → k < i → other i k ≡ k
below i k l = let b : nat_lt k i ≡ true = grind (arith, nat_tests) in rw b refl

above : (i k : ℕ) → i ≤ k → other i k ≡ k + 1
above i k l = let b : nat_lt k i ≡ false = grind (arith, nat_tests) in rw b refl

after : (i j : ℕ) → i < j → other i (j - 1) ≡ j
after i j l = above i (j - 1) (omega arith) ∙ (let e : j - 1 + 1 ≡ j = omega arith in e)

differs : (i e r : ℕ) → r < e → other i e ≢ other i r
differs i e r l same = elim (cases_lt e i) [
  | inl le ↦ let a = below i e le in let b = below i r (omega arith) in omega arith
  | inr ge ↦ elim (cases_lt r i) [
    | inl lr ↦ let a = above i e ge in let b = below i r lr in omega arith
    | inr gr ↦ let a = above i e ge in let b = above i r gr in omega arith
  ]
]

module _ {S : Type 0} (Call : ℕ → S → S → Type 0) (process : ℕ) (old now new : S) (at : ℕ) where
  pub one_before : OneByOne Call process old at now → at < process → Call at now new → OneByOne Call process old (at + 1) new
  one_before r l call = one_more at now new r (subst (λ z. Call z now new) (sym (below process at l)) call)

  pub one_after : OneByOne Call process old (at - 1) now → process < at → Call at now new → OneByOne Call process old (at + 1 - 1) new
  one_after r l call = subst (λ z. OneByOne Call process old z new) (let e : at - 1 + 1 ≡ at + 1 - 1 = omega arith in e)
      (one_more (at - 1) now new r (subst (λ z. Call z now new) (sym (after process at l)) call))

-- the seat stays that of its process
module _ {S : Type 0} (Call : ℕ → S → S → Type 0) (is_seat : S → Type 0) (who : S → ℕ)
    (keeps : (at : ℕ) (old new : S) → Call at old new → is_seat new × (who new ≡ who old)) (process : ℕ) (start : S) where
  pub stays_own : (count : ℕ) (now : S) → OneByOne Call process start count now → is_seat start → is_seat now × (who now ≡ who start)
  stays_own _ _ no_call is = (is, refl)
  stays_own _ _ (one_more count now new r call) is =
      let own = keeps (other process count) now new call in (own.0, own.1 ∙ (stays_own count now r is).1)

module _ {S L T : Type 0} (is_seat : S → Type 0) (who clock : S → ℕ) (times : S → List ℕ) (writes : S → ℕ → WriteAccesses T)
    (reads : S → ℕ → ReadAccesses T) (said : S → List Said) (found : S → List Found)
    (width : ℕ) (opening : T) (fits : T → Type 0) (rises : T → T → Type 0) (sees : T → L → T → L → Type 0) (process : ℕ)
    (start : S × L) where
  pub column_own : (count : ℕ) (now : S × L) →
      OneByOne (IsReadFrom is_seat who clock times writes reads said found width opening fits rises sees) process start count now →
      is_seat start.0 → is_seat now.0 × (who now.0 ≡ who start.0)
  column_own = stays_own (IsReadFrom is_seat who clock times writes reads said found width opening fits rises sees) (λ z. is_seat z.0)
      (λ z. who z.0) (λ at old new call. call.own) process start

module _ {S T : Type 0} (is_seat : S → Type 0) (who clock : S → ℕ) (times : S → List ℕ) (writes : S → ℕ → WriteAccesses T)
    (reads : S → ℕ → ReadAccesses T) (said : S → List Said) (found : S → List Found)
    (width : ℕ) (item : T) (process : ℕ) (start : S) where
  pub row_own : (count : ℕ) (now : S) →
      OneByOne (IsWriteTo is_seat who clock times writes reads said found width item) process start count now →
      is_seat start → is_seat now × (who now ≡ who start)
  row_own = stays_own (IsWriteTo is_seat who clock times writes reads said found width item) is_seat who (λ at old new call. call.own)
      process start

  untouched : (e count : ℕ) (now : S) →
      OneByOne (IsWriteTo is_seat who clock times writes reads said found width item) process start count now →
      count ≤ e → writes now (other process e) ≡ writes start (other process e)
  untouched e _ _ no_call l = refl
  untouched e _ _ (one_more count now new r call) l =
      call.others.0 (other process e) (differs process e count (omega arith)) ∙ untouched e count now r (omega arith)

  pub not_before : (at : ℕ) (now : S) →
      OneByOne (IsWriteTo is_seat who clock times writes reads said found width item) process start at now →
      at < process → writes now at ≡ writes start at
  not_before at now r l = subst (λ z. writes now z ≡ writes start z) (below process at l) (untouched at at now r (omega arith))

  pub not_after : (at : ℕ) (now : S) →
      OneByOne (IsWriteTo is_seat who clock times writes reads said found width item) process start (at - 1) now →
      process < at → writes now at ≡ writes start at
  not_after at now r l = subst (λ z. writes now z ≡ writes start z) (after process at l) (untouched (at - 1) (at - 1) now r (omega arith))
