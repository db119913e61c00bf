-- The order by number of a cell's calls is atomic, by the law of orders by number.
use Rattle.std.proofs.Common.{◌≡◌, ◌⊎◌, ℕ, zero, suc, ◌+◌, ◌<◌, ◌≤◌, true, false, List, ◌∷◌, length, slice_get, Option, None, Some}
use Rattle.std.proofs.Common.{refl, sym, ap, ◌∙◌, subst, ⊎_elim, inl, inr, arith, ◌-◌}
use Rattle.std.specs.Prelude.{IsSome, IfSome}
use Rattle.std.proofs.lemmas.Bool.{cases_lt}
use Rattle.std.proofs.lemmas.Option.{slice_get_within, none-some, same_Some}
use Rattle.history_core.specs.declared.history.Op.{Op}
use Rattle.history_core.specs.Numbers.{IsByNumber}
use Rattle.history_core.specs.Orders.{IsAtomicOrder, is_write, Precedes}
use Rattle.history_core.proofs.Latest.{HasItemByNumber, reads_by_number}
use Rattle.history_core.proofs.Listed.{some_and_of}
use Rattle.history_core.proofs.Listing.{listing_from}
use Rattle.history_core.proofs.Numbered.{keeps_by_number}
use Rattle.history_core.proofs.Times.{of_before, to_before}
use Rattle.four_slot_core.proofs.Pushed.{get_within}
use Rattle.cell_contract.specs.declared.times.Times.{Times}
use Rattle.cell_contract.specs.Intervals.{At, InTurn, AreAtomic}
use Rattle.cell_contract.specs.Histories.{IsWriteOp, IsReadOp, AreOps, IsByNumbers}

-- as many calls have ended as have begun, or one less
abbrev Counted : List ℕ → List ℕ → Type 0
Counted bs es = (length es ≤ length bs) × (length bs ≤ length es + 1)

-- a call ends before a later one begins
pub ends_first : (bs es : List ℕ) → InTurn bs es → length bs ≤ length es + 1 → (i d e b : ℕ) → At es i e → At bs (i + 1 + d) b → e < b
ends_first bs es h most i zero e b at there =
    h.follows i e b at (ap (slice_get bs) (let x : i + 1 ≡ i + 1 + zero = omega arith in x) ∙ there)
ends_first bs es h most i (suc d) e b at there =
    let l : i + 1 + suc d < length bs = slice_get_within bs (i + 1 + suc d) b there in
    let c = get_within bs (i + 1 + d) (let x : i + 1 + d < length bs = omega arith in x) in
    let f = get_within es (i + 1 + d) (let x : i + 1 + d < length es = omega arith in x) in
    let before : e < c.0 = ends_first bs es h most i d e c.0 at c.1 in
    let inside : c.0 ≤ f.0 = h.forwards (i + 1 + d) c.0 f.0 c.1 f.1 in
    let after : f.0 < b = h.follows (i + 1 + d) f.0 b f.1
    (ap (slice_get bs) (let x : i + 1 + d + 1 ≡ i + 1 + suc d = omega arith in x) ∙ there) in
    omega arith

-- so of two calls the one that begins before the other is earlier
pub begins_first : (bs es : List ℕ) → InTurn bs es → Counted bs es → (i j a b : ℕ) → At bs i a → At bs j b → a < b → i < j
begins_first bs es h counted i j a b at there lt =
    let fewer : length es ≤ length bs = counted.0 in
    let most : length bs ≤ length es + 1 = counted.1 in
    ⊎_elim (λ (l : i < j). l)
    (λ (le : j ≤ i). absurd (⊎_elim
    (λ (l2 : j < i).
    let inside : i < length bs = slice_get_within bs i a at in
    let f = get_within es j (let x : j < length es = omega arith in x) in
    let own : b ≤ f.0 = h.forwards j b f.0 there f.1 in
    let far : i ≡ j + 1 + (i - j - 1) = omega arith in
    let y : f.0 < a = ends_first bs es h most j (i - j - 1) f.0 a f.1 (ap (slice_get bs) (sym far) ∙ at) in
    let z : ⊥ = omega arith in z)
    (λ (le2 : i ≤ j).
    let ij : i ≡ j = omega arith in
    let one : a ≡ b = same_Some a b (sym at ∙ (ap (slice_get bs) ij ∙ there)) in
    let z : ⊥ = omega arith in z)
    (cases_lt j i))) (cases_lt i j)

-- and so is one that ends before the other begins
is_earlier : (bs es : List ℕ) → InTurn bs es → Counted bs es → (i j e b : ℕ) → At es i e → At bs j b → e < b → i < j
is_earlier bs es h counted i j e b at there lt =
    let fewer : length es ≤ length bs = counted.0 in
    let l : i < length es = slice_get_within es i e at in
    let c = get_within bs i (let x : i < length bs = omega arith in x) in
    let mine : c.0 ≤ e = h.forwards i c.0 e c.1 at in
    begins_first bs es h counted i j c.0 b c.1 there (let x : c.0 < b = omega arith in x)

-- what is said of each end is said of an operation that may have none
if_ends : (s : Option ℕ) (P : ℕ → Type 0) → ((e : ℕ) → s ≡ Some e → P e) → IfSome s P
if_ends None P h = tt
if_ends (Some e) P h = h e refl

module _ {T : Type 0} (opening : T) (written : List T) (writes : Times) (answers : List T) (numbers : List ℕ) (reads : Times)
    (h : AreAtomic opening written writes answers numbers reads) where
  -- write number k and read number m, with what is known of them
  record Wrote (op : Op T) (n : ℕ) : Type 0 where
    pub k : ℕ
    pub is : IsWriteOp written writes op k
    pub number : n ≡ k + 1
    pub kind : is_write op.kind ≡ true

  record Was (op : Op T) (n : ℕ) : Type 0 where
    pub m : ℕ
    pub is : IsReadOp answers reads op m
    pub number : At numbers m n
    pub end : ℕ
    pub ends : op.ends ≡ Some end
    pub kind : is_write op.kind ≡ false

  wrote : (op : Op T) (n k : ℕ) → IsWriteOp written writes op k → n ≡ k + 1 → Wrote op n
  wrote op n k is e = record { k = k; is = is; number = e; kind = ap is_write is.kind }

  was : (op : Op T) (n m : ℕ) → IsReadOp answers reads op m → At numbers m n → Was op n
  was op n m is at =
      let a : length reads.begins ≡ length answers = h.reads_counted.0 in
      let b : length reads.ends ≡ length answers = h.reads_counted.1 in
      let l : m < length reads.begins = slice_get_within reads.begins m op.starts is.starts in
      let f = get_within reads.ends m (let x : m < length reads.ends = omega arith in x) in
      record { m = m; is = is; number = at; end = f.0; ends = is.ends ∙ f.1; kind = ap is_write is.kind }

  pub writes_counted : Counted writes.begins writes.ends
  writes_counted =
      let a : length writes.begins ≡ length written = h.writes_begun in
      let b : length writes.ends ≤ length written = h.writes_ended.0 in
      let c : length written ≤ length writes.ends + 1 = h.writes_ended.1 in (
        (let x : length writes.ends ≤ length writes.begins = omega arith in x),
        (let x : length writes.begins ≤ length writes.ends + 1 = omega arith in x),
      )

  pub reads_counted : Counted reads.begins reads.ends
  reads_counted =
      let a : length reads.begins ≡ length answers = h.reads_counted.0 in
      let b : length reads.ends ≡ length answers = h.reads_counted.1 in (
        (let x : length reads.ends ≤ length reads.begins = omega arith in x),
        (let x : length reads.begins ≤ length reads.ends + 1 = omega arith in x),
      )

  -- a call that precedes another has ended before it began
  end_before : (a b : Op T) → Precedes a b → (end : ℕ) × (a.ends ≡ Some end) × (end < b.starts)
  end_before a b pre = let w = some_and_of (λ z. z < b.starts) a.ends pre in (w.0, w.1, w.2)

  -- numbers never fall along precedence
  rise : (a b : Op T) (x y : ℕ) → Wrote a x ⊎ Was a x → Wrote b y ⊎ Was b y → Precedes a b → x ≤ y
  rise a b x y (inl u) (inl v) pre =
      let l = end_before a b pre in
      let z : u.k < v.k = is_earlier writes.begins writes.ends h.writes_in_turn writes_counted u.k v.k l.0 b.starts
      (sym u.is.ends ∙ l.1) v.is.starts l.2 in
      let e : x ≡ u.k + 1 = u.number in
      let f : y ≡ v.k + 1 = v.number in
      omega arith
  rise a b x y (inl u) (inr v) pre =
      let l = end_before a b pre in
      let z : u.k < y = (h.regular.read_of v.m y v.number).late u.k (to_before (slice_get writes.ends u.k) (slice_get reads.begins v.m) l.0
      (sym u.is.ends ∙ l.1) (λ c at. subst (λ t. l.0 < t) (same_Some b.starts c (sym v.is.starts ∙ at)) l.2)) in
      let e : x ≡ u.k + 1 = u.number in
      omega arith
  rise a b x y (inr u) (inl v) pre =
      let l = end_before a b pre in
      no_later x refl l.0 (sym u.is.ends ∙ l.1) l.2 v.number
    where
      no_later : (n : ℕ) → x ≡ n → (end : ℕ) → At reads.ends u.m end → end < b.starts → y ≡ v.k + 1 → x ≤ y
      no_later zero e end ended l f = omega arith
      no_later (suc k) e end ended l f =
          let c = of_before (slice_get writes.begins k) (slice_get reads.ends u.m)
          ((h.regular.read_of u.m x u.number).begun k (let g : x ≡ k + 1 = omega arith in g)) in
          let q : c.0 < end = c.2 end ended in
          let z : k < v.k = begins_first writes.begins writes.ends h.writes_in_turn writes_counted k v.k c.0 b.starts c.1 v.is.starts
          (let g : c.0 < b.starts = omega arith in g) in
          omega arith
  rise a b x y (inr u) (inr v) pre =
      let l = end_before a b pre in
      let z : u.m < v.m = is_earlier reads.begins reads.ends h.reads_in_turn reads_counted u.m v.m l.0 b.starts
      (sym u.is.ends ∙ l.1) v.is.starts l.2 in
      h.rising u.m v.m x y u.number v.number (omega arith)

  -- no read precedes the write whose number it has
  not_before : (a b : Op T) (x y : ℕ) → Wrote a x → Was b y → x ≡ y → Precedes b a → ⊥
  not_before a b x y u v e pre =
      let l = end_before b a pre in
      let c = of_before (slice_get writes.begins u.k) (slice_get reads.ends v.m)
      ((h.regular.read_of v.m y v.number).begun u.k (let f : x ≡ u.k + 1 = u.number in let g : y ≡ u.k + 1 = omega arith in g)) in
      let end : ℕ = l.0 in
      let q : c.0 < end = c.2 end (sym v.is.ends ∙ l.1) in
      let after : end < a.starts = l.2 in
      let s : c.0 ≡ a.starts = same_Some c.0 a.starts (sym c.1 ∙ u.is.starts) in
      omega arith

  forwards : (a : Op T) (x : ℕ) → Wrote a x ⊎ Was a x → IfSome a.ends (λ end. a.starts ≤ end)
  forwards a x (inl u) = if_ends a.ends (λ end. a.starts ≤ end)
      (λ e is. h.writes_in_turn.forwards u.k a.starts e u.is.starts (sym u.is.ends ∙ is))
  forwards a x (inr u) = if_ends a.ends (λ end. a.starts ≤ end)
      (λ e is. h.reads_in_turn.forwards u.m a.starts e u.is.starts (sym u.is.ends ∙ is))

  -- each has an item
  item_of : (a : Op T) (x : ℕ) → Wrote a x ⊎ Was a x → (y : T) × (a.item ≡ Some y)
  item_of a x (inl u) =
      let c : length writes.begins ≡ length written = h.writes_begun in
      let l : u.k < length writes.begins = slice_get_within writes.begins u.k a.starts u.is.starts in
      let f = get_within written u.k (let g : u.k < length written = omega arith in g) in
      (f.0, u.is.item ∙ f.1)
  item_of a x (inr u) =
      let c : length reads.begins ≡ length answers = h.reads_counted.0 in
      let l : u.m < length reads.begins = slice_get_within reads.begins u.m a.starts u.is.starts in
      let f = get_within answers u.m (let g : u.m < length answers = omega arith in g) in
      (f.0, u.is.item ∙ f.1)

  module _ (ops : List (Op T)) (number : ℕ → ℕ) (order : List ℕ) (calls : AreOps written writes answers numbers reads ops number)
      (by : IsByNumbers ops number order) where
    known : (p : ℕ) (op : Op T) → slice_get ops p ≡ Some op → Wrote op (number p) ⊎ Was op (number p)
    known p op at = ⊎_elim
        (λ (u : (k : ℕ) × IsWriteOp written writes op k × (number p ≡ k + 1)). inl (wrote op (number p) u.0 u.1 u.2))
        (λ (u : (m : ℕ) × (n : ℕ) × IsReadOp answers reads op m × At numbers m n × (number p ≡ n)).
        inr (was op (number p) u.0 u.2 (subst (λ z. At numbers u.0 z) (sym u.4) u.3)))
        (calls.each p op at)

    numbered : IsByNumber number ops order
    numbered = record {
      rises = λ i j p q a b ai bj pre. rise a b (number p) (number q) (known p a ai.1) (known q b bj.1) pre;
      sorted = λ i j p q a b ai bj l. ⊎_elim (λ (lt : number p < number q). let z : number p ≤ number q = omega arith in z)
          (λ (e : (number p ≡ number q) × (is_write b.kind ≡ false) × (is_write a.kind ≡ false → a.starts ≤ b.starts)).
          let f : number p ≡ number q = e.0 in
          let z : number p ≤ number q = omega arith in z)
          (by.sorted i j p q a b ai bj l);
      write_first = λ i j p q a b ai bj l same. ⊎_elim (λ (lt : number p < number q). absurd (omega arith))
          (λ (e : (number p ≡ number q) × (is_write b.kind ≡ false) × (is_write a.kind ≡ false → a.starts ≤ b.starts)). e.1)
          (by.sorted i j p q a b ai bj l);
      by_beginning = λ i j p q a b ai bj l same other. ⊎_elim (λ (lt : number p < number q). absurd (omega arith))
          (λ (e : (number p ≡ number q) × (is_write b.kind ≡ false) × (is_write a.kind ≡ false → a.starts ≤ b.starts)). e.2 other)
          (by.sorted i j p q a b ai bj l);
      after_write = λ i j p q a b ai bj l same write pre. ⊎_elim (λ (lt : number p < number q). absurd (omega arith))
          (λ (e : (number p ≡ number q) × (is_write b.kind ≡ false) × (is_write a.kind ≡ false → a.starts ≤ b.starts)).
          turn a b (number p) (number q) (known p a ai.1) (known q b bj.1) same write e.1 pre)
          (by.sorted i j p q a b ai bj l);
      forwards = λ i p a ai. forwards a (number p) (known p a ai.1);
    }
      where
        turn : (a b : Op T) (x y : ℕ) → Wrote a x ⊎ Was a x → Wrote b y ⊎ Was b y → x ≡ y → is_write a.kind ≡ true →
            is_write b.kind ≡ false → Precedes b a → ⊥
        turn a b x y (inl u) (inr v) same w r pre = not_before a b x y u v same pre
        turn a b x y (inr u) v same w r pre = let f : is_write a.kind ≡ false = u.kind in cc
        turn a b x y (inl u) (inl v) same w r pre = let f : is_write b.kind ≡ true = v.kind in cc

    -- whence a read has its item
    from_write : (p : ℕ) (a : Op T) → Was a (number p) → (n : ℕ) → number p ≡ n → HasItemByNumber number opening ops order p a
    from_write p a u zero e =
        let s = item_of a (number p) (inr u) in
        let here : slice_get answers u.m ≡ Some s.0 = sym u.is.item ∙ s.1 in
        let o : slice_get (opening ∷ written) (number p) ≡ Some s.0 = h.regular.source u.m (number p) s.0 u.number here in
        let first : opening ≡ s.0 = same_Some opening s.0 (ap (slice_get (opening ∷ written)) (sym e) ∙ o) in
        inr (s.1 ∙ ap Some (sym first), λ j q w at written'. above q w (known q w at.1) written')
      where
        above : (q : ℕ) (w : Op T) → Wrote w (number q) ⊎ Was w (number q) → is_write w.kind ≡ true → number p < number q
        above q w (inl v) is = let f : number q ≡ v.k + 1 = v.number in omega arith
        above q w (inr v) is = let f : is_write w.kind ≡ false = v.kind in cc
    from_write p a u (suc k) e =
        let s = item_of a (number p) (inr u) in
        let here : slice_get answers u.m ≡ Some s.0 = sym u.is.item ∙ s.1 in
        let o : slice_get (opening ∷ written) (number p) ≡ Some s.0 = h.regular.source u.m (number p) s.0 u.number here in
        let source : slice_get written k ≡ Some s.0 = ap (slice_get (opening ∷ written)) (sym e) ∙ o in
        let w = calls.all_writes k (slice_get_within written k s.0 source) in
        let l = by.all w.0 (slice_get_within ops w.0 w.1 w.2) in
        let same : number w.0 ≡ number p = let f : number w.0 ≡ k + 1 = w.4 in let g : number w.0 ≡ number p = omega arith in g in
        inl (l.0, w.0, w.1, (l.1, w.2), ap is_write w.3.kind, same, s.1 ∙ sym (w.3.item ∙ source))

    pub calls_atomic : IsAtomicOrder (λ x y. x ≡ y) opening ops order
    calls_atomic = record {
      listing = listing_from ops order by.places by.once (λ p end o at e. by.all p (slice_get_within ops p o at))
          (λ i p o at e. unfinished p o at.1 (known p o at.1) e);
      precedence = keeps_by_number number ops order numbered;
      reading = reads_by_number number opening ops order numbered (λ i p o at. has_item o (item_of o (number p) (known p o at.1)))
          (λ i p o at other. from p o (known p o at.1) other);
    }
      where
        has_item : (o : Op T) → (y : T) × (o.item ≡ Some y) → IsSome o.item
        has_item o s = subst (λ z. IsSome z) (sym s.1) refl

        unfinished : (p : ℕ) (o : Op T) → slice_get ops p ≡ Some o → Wrote o (number p) ⊎ Was o (number p) → o.ends ≡ None →
            is_write o.kind ≡ true
        unfinished p o at (inl u) e = u.kind
        unfinished p o at (inr u) e = absurd (none-some u.end (sym e ∙ u.ends))

        from : (p : ℕ) (o : Op T) → Wrote o (number p) ⊎ Was o (number p) → is_write o.kind ≡ false →
            HasItemByNumber number opening ops order p o
        from p o (inl u) other = let f : is_write o.kind ≡ true = u.kind in cc
        from p o (inr u) other = from_write p o u (number p) refl
