-- One write and two reads: with the numbers 0 and 1 they are atomic by their intervals, and with a second read that is stale they aren't. A
-- write under way that was read stands in each order.
use Rattle.std.proofs.Common.{◌≡◌, ℕ, zero, suc, ◌+◌, ◌<◌, ◌≤◌, List, [], ◌∷◌, slice_get, Some, refl, subst, arith, le_refl}
use Rattle.std.proofs.Common.{ap, sym, ◌∙◌, ⊎_elim}
use Rattle.std.proofs.lemmas.Option.{none-some, same_Some}
use Rattle.history_core.specs.Registers.{IsBefore}
use Rattle.cell_contract.specs.Intervals.{At, InTurn, AreAtomic, no_times, one_read, one_write, two_reads, write_begun}
use Rattle.cell_contract.specs.CallsSoFar.{HaveOneOrder}
use Rattle.cell_contract.proofs.OneOrder.{one_order}
use Rattle.cell_contract.proofs.Standing.{answers_at}

writes_turn : InTurn one_write.begins one_write.ends
writes_turn = record {
  forwards = λ k b e at there. forwards k b e at there;
  follows = λ k e b at there. follows k e b at there;
}
  where
    forwards : (k b e : ℕ) → At one_write.begins k b → At one_write.ends k e → b ≤ e
    forwards zero b e at there = let x : 1 ≡ b = same_Some 1 b at in let y : 3 ≡ e = same_Some 3 e there in omega arith
    forwards (suc k) b e at there = absurd (none-some b at)

    follows : (k e b : ℕ) → At one_write.ends k e → At one_write.begins (k + 1) b → e < b
    follows zero e b at there = absurd (none-some b there)
    follows (suc k) e b at there = absurd (none-some e at)

reads_turn : InTurn two_reads.begins two_reads.ends
reads_turn = record {
  forwards = λ k b e at there. forwards k b e at there;
  follows = λ k e b at there. follows k e b at there;
}
  where
    forwards : (k b e : ℕ) → At two_reads.begins k b → At two_reads.ends k e → b ≤ e
    forwards zero b e at there = let x : 2 ≡ b = same_Some 2 b at in let y : 4 ≡ e = same_Some 4 e there in omega arith
    forwards (suc zero) b e at there = let x : 5 ≡ b = same_Some 5 b at in let y : 6 ≡ e = same_Some 6 e there in omega arith
    forwards (suc (suc k)) b e at there = absurd (none-some b at)

    follows : (k e b : ℕ) → At two_reads.ends k e → At two_reads.begins (k + 1) b → e < b
    follows zero e b at there = let x : 4 ≡ e = same_Some 4 e at in let y : 5 ≡ b = same_Some 5 b there in omega arith
    follows (suc zero) e b at there = absurd (none-some b there)
    follows (suc (suc k)) e b at there = absurd (none-some e at)

late : (m n k : ℕ) → At (0 ∷ 1 ∷ []) m n → IsBefore (slice_get one_write.ends k) (slice_get two_reads.begins m) → k < n
late zero n zero at b = absurd (let x : 3 < 2 = b in omega arith)
late zero n (suc k) at b = absurd b
late (suc zero) n zero at b = let x : 1 ≡ n = same_Some 1 n at in omega arith
late (suc zero) n (suc k) at b = absurd b
late (suc (suc m)) n k at b = absurd (none-some n at)

begun : (m n k : ℕ) → At (0 ∷ 1 ∷ []) m n → n ≡ k + 1 → IsBefore (slice_get one_write.begins k) (slice_get two_reads.ends m)
begun zero n k at e = absurd (let x : 0 ≡ n = same_Some 0 n at in omega arith)
begun (suc zero) n zero at e = let l : 1 < 6 = omega arith in l
begun (suc zero) n (suc k) at e = absurd (let x : 1 ≡ n = same_Some 1 n at in omega arith)
begun (suc (suc m)) n k at e = absurd (none-some n at)

source : (m n x : ℕ) → At (0 ∷ 1 ∷ []) m n → slice_get (7 ∷ 8 ∷ []) m ≡ Some x → slice_get (7 ∷ 8 ∷ []) n ≡ Some x
source zero n x at there = subst (λ z. slice_get (7 ∷ 8 ∷ []) z ≡ Some x) (same_Some 0 n at) there
source (suc zero) n x at there = subst (λ z. slice_get (7 ∷ 8 ∷ []) z ≡ Some x) (same_Some 1 n at) there
source (suc (suc m)) n x at there = absurd (none-some n at)

rising : (i j a b : ℕ) → At (0 ∷ 1 ∷ []) i a → At (0 ∷ 1 ∷ []) j b → i ≤ j → a ≤ b
rising zero j a b at there le = let x : 0 ≡ a = same_Some 0 a at in omega arith
rising (suc zero) zero a b at there le = absurd (omega arith)
rising (suc zero) (suc zero) a b at there le = let x : 1 ≡ a = same_Some 1 a at in let y : 1 ≡ b = same_Some 1 b there in omega arith
rising (suc zero) (suc (suc j)) a b at there le = absurd (none-some b there)
rising (suc (suc i)) j a b at there le = absurd (none-some a at)

pub atomic : AreAtomic {T = ℕ} 7 (8 ∷ []) one_write (7 ∷ 8 ∷ []) (0 ∷ 1 ∷ []) two_reads
atomic = record {
  writes_begun = refl;
  writes_ended = (le_refl 1, (let l : 1 ≤ 1 + 1 = omega arith in l));
  reads_counted = (refl, refl);
  writes_in_turn = writes_turn;
  reads_in_turn = reads_turn;
  regular = record {
    source = source;
    read_of = λ m n at. record { late = λ k b. late m n k at b; begun = λ k e. begun m n k at e };
    numbered = refl;
  };
  rising = rising;
}

apart : (a b : ℕ) → b < a → Some a ≡ Some b → ⊥
apart a b l e = let x : a ≡ b = same_Some a b e in omega arith

-- the second read begins at 5, after the write ended at 3
pub stale : (numbers : List ℕ) → AreAtomic {T = ℕ} 7 (8 ∷ []) one_write (7 ∷ 7 ∷ []) numbers two_reads → ⊥
stale [] h = absurd (let e : 0 ≡ 2 = h.regular.numbered in omega arith)
stale (a ∷ []) h = absurd (let e : 1 ≡ 2 = h.regular.numbered in omega arith)
stale (a ∷ b ∷ more) h =
    let before : IsBefore (slice_get one_write.ends 0) (slice_get two_reads.begins 1) = let l : 3 < 5 = omega arith in l in
    let low : 0 < b = (h.regular.read_of 1 b refl).late 0 before in
    let from : slice_get {X = ℕ} (7 ∷ 8 ∷ []) b ≡ Some 7 = h.regular.source 1 b 7 refl refl in
    none_later b low from
  where
    none_later : (n : ℕ) → 0 < n → slice_get {X = ℕ} (7 ∷ 8 ∷ []) n ≡ Some 7 → ⊥
    none_later zero l e = omega arith
    none_later (suc zero) l e = apart 8 7 (omega arith) e
    none_later (suc (suc n)) l e = none-some 7 e

-- what is said of the one place of a list
only : (x m n : ℕ) → At (x ∷ []) m n → (m ≡ 0) × (x ≡ n)
only x zero n at = (refl, same_Some x n at)
only x (suc m) n at = absurd (none-some n at)

begun_turn : InTurn write_begun.begins write_begun.ends
begun_turn = record {
  forwards = λ k b e at there. absurd (none-some e there);
  follows = λ k e b at there. absurd (none-some e at);
}

read_turn : InTurn one_read.begins one_read.ends
read_turn = record {
  forwards = λ k b e at there.
      let x = only 2 k b at in let y = only 4 k e there in let u : 2 ≡ b = x.1 in let v : 4 ≡ e = y.1 in omega arith;
  follows = λ k e b at there.
      let x = only 4 k e at in let y = only 2 (k + 1) b there in let u : k + 1 ≡ 0 = y.0 in absurd (omega arith);
}

begun_source : (m n x : ℕ) → At (1 ∷ []) m n → slice_get (8 ∷ []) m ≡ Some x → slice_get (7 ∷ 8 ∷ []) n ≡ Some x
begun_source m n x at there =
    let a = only 1 m n at in
    let b = only 8 m x there in
    subst (λ z. slice_get (7 ∷ 8 ∷ []) z ≡ Some x) a.1 (ap (λ z. Some z) b.1)

begun_late : (m n k : ℕ) → At (1 ∷ []) m n → IsBefore (slice_get write_begun.ends k) (slice_get one_read.begins m) → k < n
begun_late m n zero at b = absurd b
begun_late m n (suc k) at b = absurd b

begun_before : (m n k : ℕ) → At (1 ∷ []) m n → n ≡ k + 1 → IsBefore (slice_get write_begun.begins k) (slice_get one_read.ends m)
begun_before zero n zero at e = let l : 1 < 4 = omega arith in l
begun_before zero n (suc k) at e = absurd (let x : 1 ≡ n = same_Some 1 n at in omega arith)
begun_before (suc m) n k at e = absurd (none-some n at)

begun_rising : (i j a b : ℕ) → At (1 ∷ []) i a → At (1 ∷ []) j b → i ≤ j → a ≤ b
begun_rising i j a b at there le = let x = only 1 i a at in let y = only 1 j b there in
    let u : 1 ≡ a = x.1 in let v : 1 ≡ b = y.1 in omega arith

begun_atomic : AreAtomic {T = ℕ} 7 (8 ∷ []) write_begun (8 ∷ []) (1 ∷ []) one_read
begun_atomic = record {
  writes_begun = refl;
  writes_ended = ((let l : 0 ≤ 1 = omega arith in l), (let l : 1 ≤ 0 + 1 = omega arith in l));
  reads_counted = (refl, refl);
  writes_in_turn = begun_turn;
  reads_in_turn = read_turn;
  regular = record {
    source = begun_source;
    read_of = λ m n at. record { late = λ k b. begun_late m n k at b; begun = λ k e. begun_before m n k at e };
    numbered = refl;
  };
  rising = begun_rising;
}

pub begun_read : HaveOneOrder {T = ℕ} 7 (8 ∷ []) write_begun (8 ∷ []) one_read
begun_read = one_order 7 (8 ∷ []) write_begun (8 ∷ []) (1 ∷ []) one_read begun_atomic

pub stands_if_read : (o : HaveOneOrder {T = ℕ} 7 (8 ∷ []) write_begun (8 ∷ []) one_read) → (i : ℕ) × (slice_get o.order i ≡ Some 0)
stands_if_read o =
    let a = answers_at 7 (8 ∷ []) write_begun (8 ∷ []) one_read begun_turn refl (let l : 1 ≤ 0 + 1 = omega arith in l) o 0 4 8 refl refl in
    ⊎_elim (λ (z : a.state.number ≡ 0). absurd (apart 8 7 (omega arith) (sym a.holds ∙ ap (slice_get (7 ∷ 8 ∷ [])) z)))
    (λ (t : (i : ℕ) × (p : ℕ) × (i < a.place) × (slice_get o.order i ≡ Some p) × (p < 1) × (p + 1 ≡ a.state.number)).
    let l : t.1 < 1 = t.4 in
    (t.0, t.3 ∙ ap (λ z. Some z) (let x : t.1 ≡ 0 = omega arith in x)))
    a.state.is_one

no_turn : InTurn no_times.begins no_times.ends
no_turn = record {
  forwards = λ k b e at there. absurd (none-some e there);
  follows = λ k e b at there. absurd (none-some e at);
}

pub none_begun : HaveOneOrder {T = ℕ} 7 [] no_times (8 ∷ []) one_read → ⊥
none_begun o =
    let a = answers_at 7 [] no_times (8 ∷ []) one_read no_turn refl (let l : 0 ≤ 0 + 1 = omega arith in l) o 0 4 8 refl refl in
    none_there a.state.number a.holds
  where
    none_there : (n : ℕ) → slice_get {X = ℕ} (7 ∷ []) n ≡ Some 8 → ⊥
    none_there zero e = apart 8 7 (omega arith) (sym e)
    none_there (suc n) e = none-some 8 e
