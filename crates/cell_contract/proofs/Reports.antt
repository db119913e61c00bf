-- The calls of a cell have a history and an order by number.
use Rattle.std.proofs.Common.{◌≡◌, ◌⊎◌, ℕ, zero, suc, ◌+◌, ◌-◌, ◌<◌, ◌≤◌, false, List, [], ◌∷◌, length, map, get_or, slice_get}
use Rattle.std.proofs.Common.{Option, None, Some, refl, sym, ap, ◌∙◌, subst, inl, inr, arith}
use Rattle.std.proofs.lemmas.Option.{slice_get_within, slice_get-get_or, none-some, same_Some}
use Rattle.history_core.specs.declared.history.Op.{Op}
use Rattle.history_core.specs.declared.history.Kind.TheVariants.{Write, Read}
use Rattle.history_core.specs.Orders.{is_write}
use Rattle.four_slot_core.proofs.Pushed.{get_within}
use Rattle.cell_contract.specs.declared.times.Times.{Times}
use Rattle.cell_contract.specs.Intervals.{At, InTurn, AreAtomic}
use Rattle.cell_contract.specs.Histories.{IsWriteOp, IsReadOp, AreOps, IsByNumbers}
use Rattle.cell_contract.proofs.Histories.{ends_first}
use Rattle.cell_contract.proofs.Merging.{Call, write, read, number_of, index_of, is_write_call, merged, IsOf, of_merged, merged_reads}
use Rattle.cell_contract.proofs.Merging.{merged_writes}
use Rattle.cell_contract.proofs.Merging.{Before, merged_in_order}

pub map_at : {A B : Type 0} (f : A → B) (xs : List A) (p : ℕ) (x : A) → slice_get xs p ≡ Some x → slice_get (map f xs) p ≡ Some (f x)
map_at f [] p x e = absurd (none-some x e)
map_at f (y ∷ ys) zero x e = ap (λ z. Some (f z)) (same_Some y x e)
map_at f (y ∷ ys) (suc p) x e = map_at f ys p x e

pub map_back : {A B : Type 0} (f : A → B) (xs : List A) (p : ℕ) (y : B) → slice_get (map f xs) p ≡ Some y →
    (x : A) × (slice_get xs p ≡ Some x) × (f x ≡ y)
map_back f [] p y e = absurd (none-some y e)
map_back f (x ∷ xs) zero y e = (x, refl, same_Some (f x) y e)
map_back f (x ∷ xs) (suc p) y e = map_back f xs p y e

pub map_long : {A B : Type 0} (f : A → B) (xs : List A) → length (map f xs) ≡ length xs
map_long f [] = refl
map_long f (x ∷ xs) = ap suc (map_long f xs)

-- the places from b on
abbrev pub upto : ℕ → ℕ → List ℕ
upto b zero = []
upto b (suc n) = b ∷ upto (b + 1) n

pub upto_is : (b n i p : ℕ) → slice_get (upto b n) i ≡ Some p → (p ≡ b + i) × (i < n)
upto_is b zero i p e = absurd (none-some p e)
upto_is b (suc n) zero p e = let s : b ≡ p = same_Some b p e in (omega arith, omega arith)
upto_is b (suc n) (suc i) p e = let t = upto_is (b + 1) n i p e in let x : p ≡ b + 1 + i = t.0 in
    let y : i < n = t.1 in (omega arith, omega arith)

pub upto_has : (b n i : ℕ) → i < n → slice_get (upto b n) i ≡ Some (b + i)
upto_has b zero i l = absurd (omega arith)
upto_has b (suc n) zero l = ap (λ z. Some z) (let x : b ≡ b + 0 = omega arith in x)
upto_has b (suc n) (suc i) l = upto_has (b + 1) n i (omega arith) ∙ ap (λ z. Some z) (let x : b + 1 + i ≡ b + suc i = omega arith in x)

abbrev number_or : Option Call → ℕ
number_or None = 0
number_or (Some c) = number_of c

begins_rise : (s : Times) → InTurn s.begins s.ends → length s.begins ≡ length s.ends → (i j a b : ℕ) → At s.begins i a → At s.begins j b →
    i < j → a < b
begins_rise s h same i j a b at there lt =
    let l : i < length s.begins = slice_get_within s.begins i a at in
    let e = get_within s.ends i (let x : i < length s.ends = omega arith in x) in
    let inside : a ≤ e.0 = h.forwards i a e.0 at e.1 in
    let far : j ≡ i + 1 + (j - i - 1) = omega arith in
    let after : e.0 < b = ends_first s.begins s.ends h (let x : length s.begins ≤ length s.ends + 1 = omega arith in x) i (j - i - 1) e.0 b
    e.1 (ap (slice_get s.begins) (sym far) ∙ there) in
    omega arith

module _ {T : Type 0} (opening : T) (written : List T) (writes : Times) (answers : List T) (numbers : List ℕ) (reads : Times) where
  abbrev pub op_of : Call → Op T
  op_of (write k) = record {
    who = 0;
    kind = Write;
    starts = get_or writes.begins k 0;
    ends = slice_get writes.ends k;
    item = slice_get written k;
  }
  op_of (read m n) = record {
    who = 1;
    kind = Read;
    starts = get_or reads.begins m 0;
    ends = slice_get reads.ends m;
    item = slice_get answers m;
  }

  module _ (h : AreAtomic opening written writes answers numbers reads) where
    abbrev calls : List Call
    calls = merged (length written) 0 0 numbers

    abbrev number : ℕ → ℕ
    number p = number_or (slice_get calls p)

    pub write_op : (k : ℕ) → k < length written → IsWriteOp written writes (op_of (write k)) k
    write_op k l = record {
      kind = refl;
      starts = slice_get-get_or writes.begins k 0 (let a : length writes.begins ≡ length written = h.writes_begun in
          let x : k < length writes.begins = omega arith in x);
      ends = refl;
      item = refl;
    }

    pub read_op : (m n : ℕ) → m < length answers → IsReadOp answers reads (op_of (read m n)) m
    read_op m n l = record {
      kind = refl;
      starts = slice_get-get_or reads.begins m 0 (let a : length reads.begins ≡ length answers = h.reads_counted.0 in
          let x : m < length reads.begins = omega arith in x);
      ends = refl;
      item = refl;
    }

    pub each_of : (c : Call) (n : ℕ) → n ≡ number_of c → IsOf (length written) 0 0 numbers c →
        ((k : ℕ) × IsWriteOp written writes (op_of c) k × (n ≡ k + 1))
        ⊎ ((m : ℕ) × (a : ℕ) × IsReadOp answers reads (op_of c) m × At numbers m a × (n ≡ a))
    each_of (write k) n e is =
        let l : k < 0 + length written = is.1 in inl (k, write_op k (let x : k < length written = omega arith in x), e)
    each_of (read m a) n e is =
        let same : is.0 ≡ m = (let s : m ≡ 0 + is.0 = is.1 in let x : is.0 ≡ m = omega arith in x) in
        let at : At numbers m a = subst (λ z. At numbers z a) same is.2 in
        let l : m < length numbers = slice_get_within numbers m a at in
        let counted : length numbers ≡ length answers = h.regular.numbered in
        inr (m, a, read_op m a (let x : m < length answers = omega arith in x), at, e)

    pub are_ops : AreOps written writes answers numbers reads (map op_of calls) number
    are_ops = record {
      each = λ p op e.
          let b = map_back op_of calls p op e in
          subst (λ (o : Op T). ((k : ℕ) × IsWriteOp written writes o k × (number p ≡ k + 1))
          ⊎ ((m : ℕ) × (n : ℕ) × IsReadOp answers reads o m × At numbers m n × (number p ≡ n))) b.2
          (each_of b.0 (number p) (ap number_or b.1) (of_merged (length written) 0 0 numbers p b.0 b.1));
      all_writes = λ k l.
          let s = merged_writes (length written) 0 0 numbers k (omega arith) (omega arith) in
          (s.0, op_of (write k), map_at op_of calls s.0 (write k) s.1, write_op k l, ap number_or s.1);
      all_reads = λ m l.
          let counted : length numbers ≡ length answers = h.regular.numbered in
          let n = get_within numbers m (let x : m < length numbers = omega arith in x) in
          let s = merged_reads (length written) 0 0 numbers m n.0 n.1 in
          let at : slice_get calls s.0 ≡ Some (read m n.0) = s.1 ∙ ap (λ z. Some (read z n.0)) (let x : 0 + m ≡ m = omega arith in x) in
          (s.0, op_of (read m n.0), map_at op_of calls s.0 (read m n.0) at, read_op m n.0 l);
    }

    same_reads : length reads.begins ≡ length reads.ends
    same_reads = h.reads_counted.0 ∙ sym h.reads_counted.1

    kind_of : (c : Call) → is_write (op_of c).kind ≡ is_write_call c
    kind_of (write k) = refl
    kind_of (read m n) = refl

    starts_first : (c d : Call) → is_write_call c ≡ false → is_write_call d ≡ false → IsOf (length written) 0 0 numbers c →
        IsOf (length written) 0 0 numbers d → index_of c < index_of d → (op_of c).starts ≤ (op_of d).starts
    starts_first (write k) d cw dw ic id lt = absurd (cc)
    starts_first (read m n) (write k) cw dw ic id lt = absurd (cc)
    starts_first (read m n) (read j a) cw dw ic id lt =
        let counted : length numbers ≡ length answers = h.regular.numbered in
        let lm : ic.0 < length numbers = slice_get_within numbers ic.0 n ic.2 in
        let lj : id.0 < length numbers = slice_get_within numbers id.0 a id.2 in
        let em : m ≡ 0 + ic.0 = ic.1 in
        let ej : j ≡ 0 + id.0 = id.1 in
        let x = read_op m n (let z : m < length answers = omega arith in z) in
        let y = read_op j a (let z : j < length answers = omega arith in z) in
        let less : (op_of (read m n)).starts < (op_of (read j a)).starts =
        begins_rise reads h.reads_in_turn same_reads m j (op_of (read m n)).starts (op_of (read j a)).starts x.starts y.starts lt in
        let z : (op_of (read m n)).starts ≤ (op_of (read j a)).starts = omega arith in
        z

    pub sorted_of : (c d : Call) (x y : ℕ) → x ≡ number_of c → y ≡ number_of d → IsOf (length written) 0 0 numbers c →
        IsOf (length written) 0 0 numbers d → Before c d →
        (x < y) ⊎ ((x ≡ y) × (is_write (op_of d).kind ≡ false) × (is_write (op_of c).kind ≡ false → (op_of c).starts ≤ (op_of d).starts))
    sorted_of c d x y e f ic id (inl lt) = inl (omega arith)
    sorted_of c d x y e f ic id (inr t) = let same : number_of c ≡ number_of d = t.0 in inr (
      (let z : x ≡ y = omega arith in z),
      kind_of d ∙ t.1,
      λ w. starts_first c d (sym (kind_of c) ∙ w) t.1 ic id (t.2 (sym (kind_of c) ∙ w)),
    )

    pub by_numbers : IsByNumbers (map op_of calls) number (upto 0 (length calls))
    by_numbers =
        let long : length (map op_of calls) ≡ length calls = map_long op_of calls in
        record {
          places = λ i p e. let t = upto_is 0 (length calls) i p e in let x : p ≡ 0 + i = t.0 in
              let y : i < length calls = t.1 in omega arith;
          once = λ i j p e f. let t = upto_is 0 (length calls) i p e in let u = upto_is 0 (length calls) j p f in
              let x : p ≡ 0 + i = t.0 in let y : p ≡ 0 + j = u.0 in omega arith;
          all = λ p l. (
            p,
            upto_has 0 (length calls) p (let x : p < length calls = omega arith in x)
                ∙ ap (λ z. Some z) (let x : 0 + p ≡ p = omega arith in x),
          );
          sorted = λ i j p q a b ai bj lt.
              let t = upto_is 0 (length calls) i p ai.0 in let u = upto_is 0 (length calls) j q bj.0 in
              let x : p ≡ 0 + i = t.0 in let y : q ≡ 0 + j = u.0 in
              let c = map_back op_of calls p a ai.1 in let d = map_back op_of calls q b bj.1 in
              let less : p < q = omega arith in
              subst (λ (z : Op T × Op T). (number p < number q)
              ⊎ ((number p ≡ number q) × (is_write z.1.kind ≡ false) × (is_write z.0.kind ≡ false → z.0.starts ≤ z.1.starts)))
              (λ i. (c.2 i, d.2 i))
              (sorted_of c.0 d.0 (number p) (number q) (ap number_or c.1) (ap number_or d.1)
              (of_merged (length written) 0 0 numbers p c.0 c.1) (of_merged (length written) 0 0 numbers q d.0 d.1)
              (merged_in_order (length written) 0 0 numbers h.rising p q c.0 d.0 c.1 d.1 less));
        }

    -- there are such a history and such an order
    pub has_order : (ops : List (Op T)) × (number : ℕ → ℕ) × (order : List ℕ) × AreOps written writes answers numbers reads ops number
        × IsByNumbers ops number order
    has_order = (map op_of calls, number, upto 0 (length calls), are_ops, by_numbers)
