-- The calls of a cell have one order: first the writes and then the reads are a history, and the merged calls an order of it.
use Rattle.std.proofs.Common.{◌≡◌, ◌⊎◌, ℕ, zero, suc, ◌+◌, ◌-◌, ◌<◌, ◌≤◌, false, List, [], ◌∷◌, ◌++◌, length, map, get_or, slice_get}
use Rattle.std.proofs.Common.{Some, refl, sym, ap, ◌∙◌, subst, ⊎_elim, inl, inr, arith, length-append}
use Rattle.std.proofs.lemmas.Bool.{cases_lt}
use Rattle.std.proofs.lemmas.Option.{slice_get_within, none-some, same_Some, get_or_from_slice_get}
use Rattle.history_core.specs.declared.history.Op.{Op}
use Rattle.history_core.specs.declared.history.Kind.TheVariants.{Write, Read}
use Rattle.history_core.specs.Orders.{is_write}
use Rattle.four_slot_core.proofs.Pushed.{get_within}
use Rattle.cell_contract.specs.declared.times.Times.{Times}
use Rattle.cell_contract.specs.declared.times.Known.{Known}
use Rattle.cell_contract.specs.Intervals.{At, AreAtomic, AreFirst, AreHeeded, IsHeeded, IsNextAnswer}
use Rattle.cell_contract.specs.Running.{Rising}
use Rattle.cell_contract.specs.Histories.{IsWriteOp, IsReadOp, AreOps, IsByNumbers}
use Rattle.cell_contract.specs.CallsSoFar.{AreCallsOf, AreCallsSoFar, HaveOneOrder, IsCallOf}
use Rattle.cell_contract.proofs.Histories.{calls_atomic}
use Rattle.cell_contract.proofs.ListLaws.{all_each}
use Rattle.cell_contract.proofs.Merging.{Call, write, read, number_of, is_write_call, merged, IsOf, of_merged, merged_reads, merged_writes}
use Rattle.cell_contract.proofs.Merging.{Before, merged_in_order}
use Rattle.cell_contract.proofs.Reports.{map_at, map_back, map_long, upto, upto_has, op_of, each_of, write_op, read_op, sorted_of}

pub in_front : {A : Type 0} (xs ys : List A) (i : ℕ) (x : A) → slice_get xs i ≡ Some x → slice_get (xs ++ ys) i ≡ Some x
in_front [] ys i x e = absurd (none-some x e)
in_front (z ∷ xs) ys zero x e = e
in_front (z ∷ xs) ys (suc i) x e = in_front xs ys i x e

behind : {A : Type 0} (xs ys : List A) (i : ℕ) → slice_get (xs ++ ys) (length xs + i) ≡ slice_get ys i
behind [] ys i = ap (slice_get ys) (let x : 0 + i ≡ i = omega arith in x)
behind (x ∷ xs) ys i =
    ap (slice_get (x ∷ (xs ++ ys))) (let e : length (x ∷ xs) + i ≡ suc (length xs + i) = omega arith in e) ∙ behind xs ys i

upto_long : (b n : ℕ) → length (upto b n) ≡ n
upto_long b zero = refl
upto_long b (suc n) = ap suc (upto_long (b + 1) n)

module _ {T : Type 0} (opening : T) (written : List T) (writes : Times) (answers : List T) (numbers : List ℕ) (reads : Times)
    (h : AreAtomic opening written writes answers numbers reads) where
  abbrev W : ℕ
  W = length written

  abbrev calls : List Call
  calls = merged W 0 0 numbers

  abbrev call_op : Call → Op T
  call_op = op_of opening written writes answers numbers reads

  abbrev write_ops : List (Op T)
  write_ops = map (λ k. call_op (write k)) (upto 0 W)

  abbrev read_ops : List (Op T)
  read_ops = map (λ m. call_op (read m 0)) (upto 0 (length answers))

  abbrev ops : List (Op T)
  ops = write_ops ++ read_ops

  abbrev place : Call → ℕ
  place (write k) = k
  place (read m n) = W + m

  abbrev first_numbers : List ℕ
  first_numbers = map (λ k. k + 1) (upto 0 W)

  abbrev number : ℕ → ℕ
  number p = get_or (first_numbers ++ numbers) p 0

  counted : length numbers ≡ length answers
  counted = h.regular.numbered

  writes_long : length write_ops ≡ W
  writes_long = map_long (λ k. call_op (write k)) (upto 0 W) ∙ upto_long 0 W

  reads_long : length read_ops ≡ length answers
  reads_long = map_long (λ m. call_op (read m 0)) (upto 0 (length answers)) ∙ upto_long 0 (length answers)

  pub long : length ops ≡ W + length answers
  long = length-append write_ops read_ops ∙ (λ i. writes_long i + reads_long i)

  write_there : (k : ℕ) → k < W → slice_get ops k ≡ Some (call_op (write k))
  write_there k l = in_front write_ops read_ops k (call_op (write k)) (map_at (λ j. call_op (write j)) (upto 0 W) k k
      (upto_has 0 W k l ∙ ap (λ z. Some z) (let x : 0 + k ≡ k = omega arith in x)))

  read_there : (m : ℕ) → m < length answers → slice_get ops (W + m) ≡ Some (call_op (read m 0))
  read_there m l = ap (λ z. slice_get ops (z + m)) (sym writes_long) ∙ behind write_ops read_ops m
      ∙ map_at (λ j. call_op (read j 0)) (upto 0 (length answers)) m m
      (upto_has 0 (length answers) m l ∙ ap (λ z. Some z) (let x : 0 + m ≡ m = omega arith in x))

  -- each call is at its place, and has its number there
  there : (c : Call) → IsOf W 0 0 numbers c → slice_get ops (place c) ≡ Some (call_op c)
  there (write k) is = let l : k < 0 + W = is.1 in write_there k (omega arith)
  there (read m n) is =
      let s : m ≡ 0 + is.0 = is.1 in
      let at : At numbers m n = subst (λ z. At numbers z n) (let x : is.0 ≡ m = omega arith in x) is.2 in
      let l : m < length numbers = slice_get_within numbers m n at in
      let same : length numbers ≡ length answers = counted in
      read_there m (omega arith)

  number_there : (c : Call) → IsOf W 0 0 numbers c → number (place c) ≡ number_of c
  number_there (write k) is =
      let l : k < 0 + W = is.1 in
      get_or_from_slice_get (first_numbers ++ numbers) k (k + 1) 0 (in_front first_numbers numbers k (k + 1)
      (map_at (λ j. j + 1) (upto 0 W) k k (upto_has 0 W k (let y : k < W = omega arith in y)
      ∙ ap (λ z. Some z) (let x : 0 + k ≡ k = omega arith in x))))
  number_there (read m n) is =
      let s : m ≡ 0 + is.0 = is.1 in
      let at : At numbers m n = subst (λ z. At numbers z n) (let x : is.0 ≡ m = omega arith in x) is.2 in
      let firsts : length first_numbers ≡ W = map_long (λ k. k + 1) (upto 0 W) ∙ upto_long 0 W in
      get_or_from_slice_get (first_numbers ++ numbers) (W + m) n 0
      (ap (λ z. slice_get (first_numbers ++ numbers) (z + m)) (sym firsts) ∙ behind first_numbers numbers m ∙ at)

  -- and each place has a call
  abbrev CallAt : ℕ → Type 0
  CallAt p = (c : Call) × IsOf W 0 0 numbers c × (place c ≡ p) × ((i : ℕ) × (slice_get (map place calls) i ≡ Some p))

  call_at : (p : ℕ) → p < length ops → CallAt p
  call_at p l = ⊎_elim
      (λ (a : p < W).
      let s = merged_writes W 0 0 numbers p (omega arith) (omega arith) in
      (write p, of_merged W 0 0 numbers s.0 (write p) s.1, refl, (s.0, map_at place calls s.0 (write p) s.1)))
      (λ (b : W ≤ p).
      let all : length ops ≡ W + length answers = long in
      let same : length numbers ≡ length answers = counted in
      let m : ℕ = p - W in
      let n = get_within numbers m (let x : m < length numbers = omega arith in x) in
      let s = merged_reads W 0 0 numbers m n.0 n.1 in
      let c : Call = read (0 + m) n.0 in
      let here : place c ≡ p = let x : W + (0 + m) ≡ p = omega arith in x in
      (c, of_merged W 0 0 numbers s.0 c s.1, here, (s.0, map_at place calls s.0 c s.1 ∙ ap (λ z. Some z) here)))
      (cases_lt p W)

  apart : (c d : Call) → IsOf W 0 0 numbers c → IsOf W 0 0 numbers d → Before c d → place c ≡ place d → ⊥
  apart (write k) (write j) ic id (inl lt) e = let x : k ≡ j = e in omega arith
  apart (write k) (write j) ic id (inr t) e = cc
  apart (write k) (read m n) ic id b e = let l : k < 0 + W = ic.1 in let x : k ≡ W + m = e in omega arith
  apart (read m n) (write k) ic id b e = let l : k < 0 + W = id.1 in let x : W + m ≡ k = e in omega arith
  apart (read m n) (read j a) ic id b e =
      let x : W + m ≡ W + j = e in
      let one : m ≡ 0 + ic.0 = ic.1 in
      let two : j ≡ 0 + id.0 = id.1 in
      let same : n ≡ a = same_Some n a (sym ic.2 ∙ ap (slice_get numbers) (let y : ic.0 ≡ id.0 = omega arith in y) ∙ id.2) in
      ⊎_elim (λ (lt : n < a). let z : ⊥ = omega arith in z)
      (λ (t : (n ≡ a) × (is_write_call (read j a) ≡ false) × (is_write_call (read m n) ≡ false → m < j)).
      let lt : m < j = t.2 refl in let z : ⊥ = omega arith in z) b

  before : (i j : ℕ) (c d : Call) → slice_get calls i ≡ Some c → slice_get calls j ≡ Some d → i < j → Before c d
  before i j c d ci dj l = merged_in_order W 0 0 numbers h.rising i j c d ci dj l

  once : (i j p : ℕ) → slice_get (map place calls) i ≡ Some p → slice_get (map place calls) j ≡ Some p → i ≡ j
  once i j p e f =
      let c = map_back place calls i p e in
      let d = map_back place calls j p f in
      let ic = of_merged W 0 0 numbers i c.0 c.1 in
      let id = of_merged W 0 0 numbers j d.0 d.1 in
      ⊎_elim (λ (l : i < j). absurd (apart c.0 d.0 ic id (before i j c.0 d.0 c.1 d.1 l) (c.2 ∙ sym d.2)))
      (λ (le : j ≤ i). ⊎_elim (λ (l : j < i). absurd (apart d.0 c.0 id ic (before j i d.0 c.0 d.1 c.1 l) (d.2 ∙ sym c.2)))
      (λ (le2 : i ≤ j). let x : i ≡ j = omega arith in x) (cases_lt j i)) (cases_lt i j)

  -- what stands at a place that the order lists
  listed : (i p : ℕ) (a : Op T) → slice_get (map place calls) i ≡ Some p → slice_get ops p ≡ Some a →
      (c : Call) × (slice_get calls i ≡ Some c) × IsOf W 0 0 numbers c × (call_op c ≡ a) × (number p ≡ number_of c)
  listed i p a e at =
      let c = map_back place calls i p e in
      let is = of_merged W 0 0 numbers i c.0 c.1 in (
        c.0,
        c.1,
        is,
        same_Some (call_op c.0) a (sym (there c.0 is) ∙ ap (slice_get ops) c.2 ∙ at),
        ap number (sym c.2) ∙ number_there c.0 is,
      )

  are_ops : AreOps written writes answers numbers reads ops number
  are_ops = record {
    each = λ p op e.
        let c = call_at p (slice_get_within ops p op e) in
        let same : call_op c.0 ≡ op = same_Some (call_op c.0) op (sym (there c.0 c.1) ∙ ap (slice_get ops) c.2 ∙ e) in
        subst (λ (o : Op T). ((k : ℕ) × IsWriteOp written writes o k × (number p ≡ k + 1))
        ⊎ ((m : ℕ) × (n : ℕ) × IsReadOp answers reads o m × At numbers m n × (number p ≡ n))) same
        (each_of opening written writes answers numbers reads h c.0 (number p) (ap number (sym c.2) ∙ number_there c.0 c.1) c.1);
    all_writes = λ k l. (
      k,
      call_op (write k),
      write_there k l,
      write_op opening written writes answers numbers reads h k l,
      number_there (write k) (let s = merged_writes W 0 0 numbers k (omega arith) (omega arith) in
          of_merged W 0 0 numbers s.0 (write k) s.1),
    );
    all_reads = λ m l. (
      W + m,
      call_op (read m 0),
      read_there m l,
      read_op opening written writes answers numbers reads h m 0 l,
    );
  }

  by_numbers : IsByNumbers ops number (map place calls)
  by_numbers = record {
    places = λ i p e.
        let c = map_back place calls i p e in
        let is = of_merged W 0 0 numbers i c.0 c.1 in
        slice_get_within ops p (call_op c.0) (ap (slice_get ops) (sym c.2) ∙ there c.0 is);
    once = once;
    all = λ p l. (call_at p l).3;
    sorted = λ i j p q a b ai bj lt.
        let c = listed i p a ai.0 ai.1 in
        let d = listed j q b bj.0 bj.1 in
        subst (λ (z : Op T × Op T). (number p < number q)
        ⊎ ((number p ≡ number q) × (is_write z.1.kind ≡ false) × (is_write z.0.kind ≡ false → z.0.starts ≤ z.1.starts)))
        (λ i. (c.3 i, d.3 i))
        (sorted_of opening written writes answers numbers reads h c.0 d.0 (number p) (number q) c.4 d.4 c.2 d.2
        (before i j c.0 d.0 c.1 d.1 lt));
  }

  are_calls : AreCallsOf written writes answers reads ops
  are_calls = record {
    many = long;
    writes_first = λ p op at l.
        let same : call_op (write p) ≡ op = same_Some (call_op (write p)) op (sym (write_there p l) ∙ at) in
        let is = write_op opening written writes answers numbers reads h p l in
        subst (λ z. IsCallOf Write
        written writes p z) same (record { kind_is = is.kind; item = is.item; starts = is.starts; ends = is.ends });
    then_reads = λ m op at.
        let inside : W + m < length ops = slice_get_within ops (W + m) op at in
        let all : length ops ≡ W + length answers = long in
        let l : m < length answers = omega arith in
        let same : call_op (read m 0) ≡ op = same_Some (call_op (read m 0)) op (sym (read_there m l) ∙ at) in
        let is = read_op opening written writes answers numbers reads h m 0 l in
        subst (λ z. IsCallOf Read
        answers reads m z) same (record { kind_is = is.kind; item = is.item; starts = is.starts; ends = is.ends });
  }

  pub one_order : HaveOneOrder opening written writes answers reads
  one_order = record {
    ops = ops;
    order = map place calls;
    calls = are_calls;
    atomic = calls_atomic opening written writes answers numbers reads h ops number (map place calls) are_ops by_numbers;
  }

-- what a read's last step shows: with the writes that the reader then knows of, all calls so far
pub calls_so_far : {T : Type 0} (fits : T → Type 0) (rises : T → T → Type 0) (opening : T) (old new : Known T) (before after : List ℕ)
    (answers : List T) (reads : Times) (answer : T) (heard : List (Known T)) (number : ℕ) → Rising fits rises opening new.items →
    IsNextAnswer opening old new before after answers reads answer → AreHeeded heard new number →
    AreCallsSoFar fits rises opening heard answers reads
calls_so_far fits rises opening old new before after answers reads answer heard number lawful is heeds = record {
  written = new.items;
  writes = new.times;
  lawful = lawful;
  in_turn = is.atomic.writes_in_turn;
  begun = is.atomic.writes_begun;
  ended = is.atomic.writes_ended.1;
  told = all_each (λ t. IsHeeded t new number) (λ t. AreFirst t new.items new.times) (λ t h. h.first) heard heeds;
  order = one_order opening new.items new.times answers after reads is.atomic;
}
