-- The calls of a cell in the order of their numbers: that there is such an order.
use Rattle.std.proofs.Common.{◌≡◌, ◌⊎◌, ℕ, zero, suc, ◌+◌, ◌<◌, ◌≤◌, Bool, true, false, List, [], ◌∷◌, slice_get, Some}
use Rattle.std.proofs.Common.{refl, ap, ◌∙◌, subst, ⊎_elim, inl, inr, arith}
use Rattle.std.proofs.lemmas.Bool.{cases_lt}
use Rattle.std.proofs.lemmas.Option.{none-some, same_Some}
use Rattle.cell_contract.specs.Intervals.{At}

-- write number k, or read number m with its number
pub data Call : Type 0 where
  write : ℕ → Call
  read : ℕ → ℕ → Call

abbrev pub number_of : Call → ℕ
number_of (write k) = k + 1
number_of (read m n) = n

abbrev pub index_of : Call → ℕ
index_of (write k) = k
index_of (read m n) = m

abbrev pub is_write_call : Call → Bool
is_write_call (write k) = true
is_write_call (read m n) = false

abbrev pub pick : {P Q A : Type 0} → P ⊎ Q → A → A → A
pick (inl _) a b = a
pick (inr _) a b = b

-- the reads with the numbers up to k come before write k, whose own number is k + 1
abbrev pub before_write : ℕ → (ℕ → List ℕ → List Call) → ℕ → List ℕ → List Call
before_write k next m [] = write k ∷ next m []
before_write k next m (n ∷ ns) = pick (cases_lt k n) (write k ∷ next m (n ∷ ns)) (read m n ∷ before_write k next (m + 1) ns)

abbrev pub rest_reads : ℕ → List ℕ → List Call
rest_reads m [] = []
rest_reads m (n ∷ ns) = read m n ∷ rest_reads (m + 1) ns

-- so many writes from number k on, and the reads from number m on
abbrev pub merged : ℕ → ℕ → ℕ → List ℕ → List Call
merged zero k m ns = rest_reads m ns
merged (suc l) k m ns = before_write k (merged l (k + 1)) m ns

-- a call is one of these
abbrev pub IsOf : ℕ → ℕ → ℕ → List ℕ → Call → Type 0
IsOf l k m ns (write j) = (k ≤ j) × (j < k + l)
IsOf l k m ns (read i n) = (x : ℕ) × (i ≡ m + x) × At ns x n

of_later : (l k m n : ℕ) (ns : List ℕ) (c : Call) → IsOf l k (m + 1) ns c → IsOf l k m (n ∷ ns) c
of_later l k m n ns (write j) h = h
of_later l k m n ns (read i a) h = let e : i ≡ m + 1 + h.0 = h.1 in (suc h.0, (let f : i ≡ m + suc h.0 = omega arith in f), h.2)

of_next : (l k m : ℕ) (ns : List ℕ) (c : Call) → IsOf l (k + 1) m ns c → IsOf (suc l) k m ns c
of_next l k m ns (write j) h =
    let a : k + 1 ≤ j = h.0 in let b : j < k + 1 + l = h.1 in
    ((let x : k ≤ j = omega arith in x), (let x : j < k + suc l = omega arith in x))
of_next l k m ns (read i a) h = h

of_rest : (k m : ℕ) (ns : List ℕ) (p : ℕ) (c : Call) → slice_get (rest_reads m ns) p ≡ Some c → IsOf 0 k m ns c
of_rest k m [] p c e = absurd (none-some c e)
of_rest k m (n ∷ ns) zero c e = subst (IsOf 0 k m (n ∷ ns)) (same_Some (read m n) c e) (0, (let x : m ≡ m + 0 = omega arith in x), refl)
of_rest k m (n ∷ ns) (suc p) c e = of_later 0 k m n ns c (of_rest k (m + 1) ns p c e)

module _ (l k : ℕ) (next : ℕ → List ℕ → List Call)
    (each : (m : ℕ) (ns : List ℕ) (p : ℕ) (c : Call) → slice_get (next m ns) p ≡ Some c → IsOf l (k + 1) m ns c) where
  mine : (m : ℕ) (ns : List ℕ) → IsOf (suc l) k m ns (write k)
  mine m ns = ((let x : k ≤ k = omega arith in x), (let x : k < k + suc l = omega arith in x))

  of_write : (m : ℕ) (ns : List ℕ) (p : ℕ) (c : Call) → slice_get (write k ∷ next m ns) p ≡ Some c → IsOf (suc l) k m ns c
  of_write m ns zero c e = subst (IsOf (suc l) k m ns) (same_Some (write k) c e) (mine m ns)
  of_write m ns (suc p) c e = of_next l k m ns c (each m ns p c e)

  of_pick : (m n : ℕ) (ns : List ℕ) (rest : List Call) → ((p : ℕ) (c : Call) → slice_get rest p ≡ Some c → IsOf (suc l) k (m + 1) ns c) →
      (d : (k < n) ⊎ (n ≤ k)) (p : ℕ) (c : Call) → slice_get (pick d (write k ∷ next m (n ∷ ns)) (read m n ∷ rest)) p ≡ Some c →
      IsOf (suc l) k m (n ∷ ns) c
  of_pick m n ns rest f (inl lt) p c e = of_write m (n ∷ ns) p c e
  of_pick m n ns rest f (inr le) zero c e =
      subst (IsOf (suc l) k m (n ∷ ns)) (same_Some (read m n) c e) (0, (let x : m ≡ m + 0 = omega arith in x), refl)
  of_pick m n ns rest f (inr le) (suc p) c e = of_later (suc l) k m n ns c (f p c e)

  of_before : (m : ℕ) (ns : List ℕ) (p : ℕ) (c : Call) → slice_get (before_write k next m ns) p ≡ Some c → IsOf (suc l) k m ns c
  of_before m [] p c e = of_write m [] p c e
  of_before m (n ∷ ns) p c e = of_pick m n ns (before_write k next (m + 1) ns) (of_before (m + 1) ns) (cases_lt k n) p c e

-- each call of the merged list is one of these
pub of_merged : (l k m : ℕ) (ns : List ℕ) (p : ℕ) (c : Call) → slice_get (merged l k m ns) p ≡ Some c → IsOf l k m ns c
of_merged zero k m ns p c e = of_rest k m ns p c e
of_merged (suc l) k m ns p c e = of_before l k (merged l (k + 1)) (of_merged l (k + 1)) m ns p c e

-- and each of these stands there
abbrev pub Stands : Call → List Call → Type 0
Stands c cs = (p : ℕ) × (slice_get cs p ≡ Some c)

later : (c d : Call) (cs : List Call) → Stands c cs → Stands c (d ∷ cs)
later c d cs s = (suc s.0, s.1)

read_same : (m i n : ℕ) (cs : List Call) → m ≡ i → Stands (read m n) cs → Stands (read i n) cs
read_same m i n cs e s = (s.0, s.1 ∙ ap (λ z. Some (read z n)) e)

rest_stands : (m : ℕ) (ns : List ℕ) (x n : ℕ) → At ns x n → Stands (read (m + x) n) (rest_reads m ns)
rest_stands m [] x n e = absurd (none-some n e)
rest_stands m (a ∷ ns) zero n e =
    (0, ap (λ (z : ℕ × ℕ). Some (read z.0 z.1)) (λ i. ((let f : m ≡ m + 0 = omega arith in f) i, same_Some a n e i)))
rest_stands m (a ∷ ns) (suc x) n e = later (read (m + suc x) n) (read m a) (rest_reads (m + 1) ns)
    (read_same (m + 1 + x) (m + suc x) n (rest_reads (m + 1) ns) (omega arith) (rest_stands (m + 1) ns x n e))

module _ (k : ℕ) (next : ℕ → List ℕ → List Call) where
  pick_write : (c : Call) (m n : ℕ) (ns : List ℕ) (rest : List Call) → Stands c (write k ∷ next m (n ∷ ns)) → Stands c rest →
      (d : (k < n) ⊎ (n ≤ k)) → Stands c (pick d (write k ∷ next m (n ∷ ns)) (read m n ∷ rest))
  pick_write c m n ns rest f h (inl lt) = f
  pick_write c m n ns rest f h (inr le) = later c (read m n) rest h

  write_stands : (c : Call) → ((m : ℕ) (ns : List ℕ) → Stands c (write k ∷ next m ns)) →
      (m : ℕ) (ns : List ℕ) → Stands c (before_write k next m ns)
  write_stands c f m [] = f m []
  write_stands c f m (n ∷ ns) = pick_write c m n ns (before_write k next (m + 1) ns)
      (f m (n ∷ ns)) (write_stands c f (m + 1) ns) (cases_lt k n)

  pick_read : (m a : ℕ) (ns : List ℕ) (n : ℕ) (rest : List Call) →
      ((m : ℕ) (ns : List ℕ) (x n : ℕ) → At ns x n → Stands (read (m + x) n) (next m ns)) →
      ((y : ℕ) → At ns y n → Stands (read (m + 1 + y) n) rest) → (d : (k < a) ⊎ (a ≤ k)) (y : ℕ) → At (a ∷ ns) y n →
      Stands (read (m + y) n) (pick d (write k ∷ next m (a ∷ ns)) (read m a ∷ rest))
  pick_read m a ns n rest f h (inl lt) y e = later (read (m + y) n) (write k) (next m (a ∷ ns)) (f m (a ∷ ns) y n e)
  pick_read m a ns n rest f h (inr le) zero e =
      (0, ap (λ (z : ℕ × ℕ). Some (read z.0 z.1)) (λ i. ((let g : m ≡ m + 0 = omega arith in g) i, same_Some a n e i)))
  pick_read m a ns n rest f h (inr le) (suc y) e =
      later (read (m + suc y) n) (read m a) rest (read_same (m + 1 + y) (m + suc y) n rest (omega arith) (h y e))

  reads_stand : ((m : ℕ) (ns : List ℕ) (x n : ℕ) → At ns x n → Stands (read (m + x) n) (next m ns)) →
      (m : ℕ) (ns : List ℕ) (x n : ℕ) → At ns x n → Stands (read (m + x) n) (before_write k next m ns)
  reads_stand f m [] x n e = absurd (none-some n e)
  reads_stand f m (a ∷ ns) x n e =
      pick_read m a ns n (before_write k next (m + 1) ns) f (λ y h. reads_stand f (m + 1) ns y n h) (cases_lt k a) x e

pub merged_reads : (l k m : ℕ) (ns : List ℕ) (x n : ℕ) → At ns x n → Stands (read (m + x) n) (merged l k m ns)
merged_reads zero k m ns x n e = rest_stands m ns x n e
merged_reads (suc l) k m ns x n e = reads_stand k (merged l (k + 1)) (merged_reads l (k + 1)) m ns x n e

pub merged_writes : (l k m : ℕ) (ns : List ℕ) (j : ℕ) → k ≤ j → j < k + l → Stands (write j) (merged l k m ns)
merged_writes zero k m ns j a b = absurd (omega arith)
merged_writes (suc l) k m ns j a b = ⊎_elim
    (λ (lt : k < j). write_stands k (merged l (k + 1)) (write j) (λ m' ns'.
    later (write j) (write k) (merged l (k + 1) m' ns') (merged_writes l (k + 1) m' ns' j (omega arith) (omega arith))) m ns)
    (λ (le : j ≤ k). let e : k ≡ j = omega arith in
    write_stands k (merged l (k + 1)) (write j) (λ m' ns'. (0, ap (λ z. Some (write z)) e)) m ns)
    (cases_lt k j)

-- the merged list is in order of the numbers
abbrev pub Before : Call → Call → Type 0
Before c d = (number_of c < number_of d)
    ⊎ ((number_of c ≡ number_of d) × (is_write_call d ≡ false) × (is_write_call c ≡ false → index_of c < index_of d))

abbrev pub InOrder : List Call → Type 0
InOrder cs = (i j : ℕ) (c d : Call) → slice_get cs i ≡ Some c → slice_get cs j ≡ Some d → i < j → Before c d

abbrev pub Rising : List ℕ → Type 0
Rising ns = (x y a b : ℕ) → At ns x a → At ns y b → x ≤ y → a ≤ b

rising_rest : (n : ℕ) (ns : List ℕ) → Rising (n ∷ ns) → Rising ns
rising_rest n ns h = λ x y a b e f le. h (suc x) (suc y) a b e f (omega arith)

order_cons : (c : Call) (cs : List Call) → ((p : ℕ) (d : Call) → slice_get cs p ≡ Some d → Before c d) → InOrder cs → InOrder (c ∷ cs)
order_cons c cs f h i zero a b e g lt = absurd (omega arith)
order_cons c cs f h zero (suc j) a b e g lt = subst (λ z. Before z b) (same_Some c a e) (f j b g)
order_cons c cs f h (suc i) (suc j) a b e g lt = h i j a b e g (omega arith)

-- a read before the others
read_first : (l k m n : ℕ) (ns : List ℕ) → n ≤ k → Rising (n ∷ ns) → (d : Call) → IsOf l k (m + 1) ns d → Before (read m n) d
read_first l k m n ns le up (write j) h = let a : k ≤ j = h.0 in inl (omega arith)
read_first l k m n ns le up (read i a) h =
    let e : i ≡ m + 1 + h.0 = h.1 in
    let low : n ≤ a = up 0 (suc h.0) n a refl h.2 (omega arith) in
    ⊎_elim (λ (lt : n < a). inl lt) (λ (ge : a ≤ n). inr (
      (let x : n ≡ a = omega arith in x),
      refl,
      λ _.
          let x : m < i = omega arith in x,
    )) (cases_lt n a)

-- and a write, where each read has a greater number than k
write_first : (l k m : ℕ) (ns : List ℕ) → ((x a : ℕ) → At ns x a → k < a) → (d : Call) → IsOf l (k + 1) m ns d → Before (write k) d
write_first l k m ns high (write j) h = let a : k + 1 ≤ j = h.0 in inl (omega arith)
write_first l k m ns high (read i a) h = let b : k < a = high h.0 a h.2 in
    ⊎_elim (λ (lt : k + 1 < a). inl lt) (λ (ge : a ≤ k + 1). inr ((let x : k + 1 ≡ a = omega arith in x), refl, λ w. absurd (cc)))
    (cases_lt (k + 1) a)

rest_in_order : (m : ℕ) (ns : List ℕ) → Rising ns → InOrder (rest_reads m ns)
rest_in_order m [] up = λ i j c d e f lt. absurd (none-some c e)
rest_in_order m (n ∷ ns) up = order_cons (read m n) (rest_reads (m + 1) ns)
    (λ p d e. read_first 0 n m n ns (let x : n ≤ n = omega arith in x) up d (of_rest n (m + 1) ns p d e))
    (rest_in_order (m + 1) ns (rising_rest n ns up))

module _ (l k : ℕ) (next : ℕ → List ℕ → List Call)
    (each : (m : ℕ) (ns : List ℕ) (p : ℕ) (c : Call) → slice_get (next m ns) p ≡ Some c → IsOf l (k + 1) m ns c)
    (after : (m : ℕ) (ns : List ℕ) → Rising ns → InOrder (next m ns)) where
  write_in_order : (m : ℕ) (ns : List ℕ) → Rising ns → ((x a : ℕ) → At ns x a → k < a) → InOrder (write k ∷ next m ns)
  write_in_order m ns up high = order_cons (write k) (next m ns) (λ p d e. write_first l k m ns high d (each m ns p d e)) (after m ns up)

  pick_in_order : (m n : ℕ) (ns : List ℕ) (rest : List Call) → Rising (n ∷ ns) →
      ((p : ℕ) (d : Call) → slice_get rest p ≡ Some d → IsOf (suc l) k (m + 1) ns d) → InOrder rest → (d : (k < n) ⊎ (n ≤ k)) →
      InOrder (pick d (write k ∷ next m (n ∷ ns)) (read m n ∷ rest))
  pick_in_order m n ns rest up f h (inl lt) = write_in_order m (n ∷ ns) up (λ x a e. let low : n ≤ a = up 0 x n a refl e (omega arith) in
      let z : k < a = omega arith in z)
  pick_in_order m n ns rest up f h (inr le) = order_cons (read m n) rest (λ p d e. read_first (suc l) k m n ns le up d (f p d e)) h

  before_in_order : (m : ℕ) (ns : List ℕ) → Rising ns → InOrder (before_write k next m ns)
  before_in_order m [] up = write_in_order m [] up (λ x a e. absurd (none-some a e))
  before_in_order m (n ∷ ns) up = pick_in_order m n ns (before_write k next (m + 1) ns) up (of_before l k next each (m + 1) ns)
      (before_in_order (m + 1) ns (rising_rest n ns up)) (cases_lt k n)

pub merged_in_order : (l k m : ℕ) (ns : List ℕ) → Rising ns → InOrder (merged l k m ns)
merged_in_order zero k m ns up = rest_in_order m ns up
merged_in_order (suc l) k m ns up =
    before_in_order l k (merged l (k + 1)) (of_merged l (k + 1)) (merged_in_order l (k + 1)) m ns up
