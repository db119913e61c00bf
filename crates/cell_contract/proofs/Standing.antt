-- What the register holds in one order of a cell's calls: a write that no other one listed before follows. So by a law that rises later
-- answers rise.
use Rattle.std.proofs.Common.{◌≡◌, ◌≢◌, ◌⊎◌, ℕ, zero, suc, ◌+◌, ◌-◌, ◌<◌, ◌≤◌, List, [], ◌∷◌, length, take, slice_get, Option, Some}
use Rattle.std.proofs.Common.{All, refl, sym, ap, ◌∙◌, subst, ⊎_elim, inl, inr, arith}
use Rattle.std.specs.Option.{option_and_then}
use Rattle.std.specs.Prelude.{IsSomeAnd}
use Rattle.std.proofs.lemmas.Bool.{cases_lt}
use Rattle.std.proofs.lemmas.List.Elements.{All-get_or}
use Rattle.std.proofs.lemmas.Option.{slice_get_within, none-some, same_Some, get_or_from_slice_get}
use mathlib.Core.Option.{some}
use lib.ListN.{get_elem?}
use Rattle.history_core.specs.declared.history.Op.{Op}
use Rattle.history_core.specs.declared.history.Kind.{Kind}
use Rattle.history_core.specs.declared.history.Kind.TheVariants.{Write, Read}
use Rattle.history_core.specs.Orders.{latest, left_at, left_by, listed_at, MayStand, Precedes, ReadsRight, times_of}
use Rattle.std.proofs.lemmas.List.Sums.{fold_more}
use Rattle.history_core.proofs.Listed.{some_and_of, some_and_from}
use Rattle.history_core.proofs.Listing.{times_cases}
use Rattle.four_slot_core.proofs.Pushed.{get_within}
use Rattle.cell_contract.specs.declared.times.Times.{Times}
use Rattle.cell_contract.specs.CallsSoFar.{HaveOneOrder, IsCallOf, LaterReadsRise, ReadsRiseFromReceipts}
use Rattle.cell_contract.specs.Intervals.{AreFirst, At, InTurn, IsBeginning}
use Rattle.cell_contract.specs.Running.{Rising}
use Rattle.cell_contract.proofs.Histories.{ends_first}
use Rattle.cell_contract.proofs.ListLaws.{rises_at}
use Rattle.cell_contract.proofs.OneOrder.{in_front}

as_elem : {A : Type 0} (xs : List A) (k : ℕ) (x : A) → slice_get xs k ≡ Some x → get_elem? xs k ≡ some x
as_elem [] k x e = absurd (none-some x e)
as_elem (y ∷ ys) zero x e = ap some (same_Some y x e)
as_elem (y ∷ ys) (suc k) x e = as_elem ys k x e

in_more : {A : Type 0} (xs ys : List A) → IsBeginning xs ys → (k : ℕ) (x : A) → slice_get xs k ≡ Some x → slice_get ys k ≡ Some x
in_more xs ys is k x e = ap (λ z. slice_get z k) is.1 ∙ in_front xs is.0 k x e

one_of : {A : Type 0} (P : A → Type 0) (xs : List A) (k : ℕ) (x : A) → All P xs → slice_get xs k ≡ Some x → P x
one_of P xs k x h e = subst P (get_or_from_slice_get xs k x x e) (All-get_or P xs k x (slice_get_within xs k x e) h)

-- what an operation of this kind leaves
left_of_write : {T : Type 0} (r item : Option T) (kind : Kind) → kind ≡ Write → left_by r kind item ≡ item
left_of_write r item kind e = ap (λ z. left_by r z item) e

left_of_read : {T : Type 0} (r item : Option T) (kind : Kind) → kind ≡ Read → left_by r kind item ≡ r
left_of_read r item kind e = ap (λ z. left_by r z item) e

one_more : {T : Type 0} (opening : T) (ops : List (Op T)) (order : List ℕ) (n p : ℕ) → slice_get order n ≡ Some p →
    latest opening ops (take (n + 1) order) ≡ left_at (latest opening ops (take n order)) (slice_get ops p)
one_more opening ops order n p e =
    fold_more (λ r q. left_at r (slice_get ops q)) (Some opening) order n 0 (slice_get_within order n p e)
    ∙ ap (λ q. left_at (latest opening ops (take n order)) (slice_get ops q)) (get_or_from_slice_get order n p 0 e)

-- an operation with an end is listed
once : (ends : Option ℕ) (kind : Kind) (end times : ℕ) → ends ≡ Some end → MayStand ends kind times → times ≡ 1
once ends kind end times e h = subst (λ z. MayStand z kind times) e h

module _ {T : Type 0} (opening : T) (written : List T) (writes : Times) (answers : List T) (reads : Times)
    (turn : InTurn writes.begins writes.ends) (begun : length writes.begins ≡ length written)
    (ended : length written ≤ length writes.ends + 1) (o : HaveOneOrder opening written writes answers reads) where
  -- an earlier write precedes a later one
  earlier : (k j : ℕ) (a b : Op T) → IsCallOf Write written writes k a → IsCallOf Write written writes j b → k < j →
      j < length written → Precedes a b
  earlier k j a b ka jb l inside =
      let e = get_within writes.ends k (let x : k < length writes.ends = omega (arith, ended) in x) in
      let far : j ≡ k + 1 + (j - k - 1) = omega arith in
      let before : e.0 < b.starts = ends_first writes.begins writes.ends turn
      (let x : length writes.begins ≤ length writes.ends + 1 = omega (arith, begun, ended) in x) k (j - k - 1) e.0 b.starts e.1
      (ap (slice_get writes.begins) (sym far) ∙ jb.starts) in
      some_and_from (λ z. z < b.starts) a.ends e.0 (ka.ends ∙ e.1) before

  entry : (i p : ℕ) (op : Op T) → slice_get o.order i ≡ Some p → slice_get o.ops p ≡ Some op → listed_at o.ops o.order i ≡ Some op
  entry i p op e at = ap (option_and_then (slice_get o.ops)) e ∙ at

  keeps : (i j p q : ℕ) (a b : Op T) → slice_get o.order i ≡ Some p → slice_get o.ops p ≡ Some a → slice_get o.order j ≡ Some q →
      slice_get o.ops q ≡ Some b → p ≢ q → Precedes a b → i < j
  keeps i j p q a b ei ai ej bj ne pre = o.atomic.precedence i j a b (entry i p a ei ai) (entry j q b ej bj)
      (λ same. ne (same_Some p q (sym ei ∙ ap (slice_get o.order) same ∙ ej))) pre

  -- what the register holds after so many entries: the record with a number that no listed write exceeds and that one has, or 0
  pub record HoldsAt (n : ℕ) : Type 0 where
    pub number : ℕ
    pub held : T
    pub there : slice_get (opening ∷ written) number ≡ Some held
    pub holds : latest opening o.ops (take n o.order) ≡ Some held
    pub up_to : (i p : ℕ) → i < n → slice_get o.order i ≡ Some p → p < length written → p < number
    pub is_one : (number ≡ 0) ⊎ ((i : ℕ) × (p : ℕ) × (i < n) × (slice_get o.order i ≡ Some p) × (p < length written) × (p + 1 ≡ number))

  wrote : (n p : ℕ) (op : Op T) → slice_get o.order n ≡ Some p → slice_get o.ops p ≡ Some op → p < length written → HoldsAt (n + 1)
  wrote n p op at here l =
      let is : IsCallOf Write written writes p op = o.calls.writes_first p op here l in
      let x = get_within written p l in
      let r : Option T = latest opening o.ops (take n o.order) in
      let next : p + 1 ≡ suc p = omega arith in
      record {
        number = p + 1;
        held = x.0;
        there = ap (slice_get (opening ∷ written)) next ∙ x.1;
        holds = one_more opening o.ops o.order n p at
            ∙ ap (left_at r) here ∙ left_of_write r op.item op.kind is.kind_is ∙ is.item ∙ x.1;
        up_to = λ i q less e inside. ⊎_elim
            (λ (later : p < q).
            let f = get_within o.ops q (o.atomic.listing.places i q e) in
            let pre = earlier p q op f.0 is (o.calls.writes_first q f.0 f.1 inside) later inside in
            let back : n < i = keeps n i p q op f.0 at here e f.1 (λ same. let z : ⊥ = omega (arith, same, later) in z) pre in
            absurd (omega arith))
            (λ (le : q ≤ p). let z : q < p + 1 = omega arith in z)
            (cases_lt p q);
        is_one = inr (n, p, (let z : n < n + 1 = omega arith in z), at, l, refl);
      }

  answered : (n p : ℕ) (op : Op T) → slice_get o.order n ≡ Some p → slice_get o.ops p ≡ Some op → length written ≤ p → HoldsAt n →
      HoldsAt (n + 1)
  answered n p op at here le h =
      let far : length written + (p - length written) ≡ p = omega arith in
      let is : IsCallOf Read answers reads (p - length written) op =
      o.calls.then_reads (p - length written) op (ap (slice_get o.ops) far ∙ here) in
      let r : Option T = latest opening o.ops (take n o.order) in
      record {
        number = h.number;
        held = h.held;
        there = h.there;
        holds = one_more opening o.ops o.order n p at
            ∙ ap (left_at r) here ∙ left_of_read r op.item op.kind is.kind_is ∙ h.holds;
        up_to = λ i q less e inside. ⊎_elim (λ (before : i < n). h.up_to i q before e inside)
            (λ (ge : n ≤ i).
            let one : i ≡ n = omega arith in
            let same : q ≡ p = same_Some q p (sym e ∙ ap (slice_get o.order) one ∙ at) in
            absurd (omega arith))
            (cases_lt i n);
        is_one = ⊎_elim (λ (z : h.number ≡ 0). inl z)
            (λ (t : (i : ℕ) × (p : ℕ) × (i < n) × (slice_get o.order i ≡ Some p) × (p < length written) × (p + 1 ≡ h.number)).
            let l : t.0 < n = t.2 in
            inr (t.0, t.1, (let z : t.0 < n + 1 = omega arith in z), t.3, t.4, t.5))
            h.is_one;
      }

  holds_at : (n : ℕ) → n ≤ length o.order → HoldsAt n
  holds_at zero le = record {
    number = 0;
    held = opening;
    there = refl;
    holds = refl;
    up_to = λ i p l e inside. absurd (omega arith);
    is_one = inl refl;
  }
  holds_at (suc n) le =
      let p = get_within o.order n (let x : n < length o.order = omega arith in x) in
      let op = get_within o.ops p.0 (o.atomic.listing.places n p.0 p.1) in
      let next : n + 1 ≡ suc n = omega arith in
      subst HoldsAt next (⊎_elim (λ (l : p.0 < length written). wrote n p.0 op.0 p.1 op.1 l)
      (λ (ge : length written ≤ p.0). answered n p.0 op.0 p.1 op.1 ge (holds_at n (let x : n ≤ length o.order = omega arith in x)))
      (cases_lt p.0 (length written)))

  -- a call that has ended stands in the order
  stands : (p end : ℕ) (op : Op T) → slice_get o.ops p ≡ Some op → op.ends ≡ Some end → (i : ℕ) × (slice_get o.order i ≡ Some p)
  stands p end op at e =
      let one = once op.ends op.kind end (times_of p o.order) e
      (o.atomic.listing.stands p op (let x : 0 ≤ p = omega arith in x) (slice_get_within o.ops p op at) at) in
      ⊎_elim (λ (t : (i : ℕ) × (slice_get o.order i ≡ Some p)). t) (λ (none : times_of p o.order ≡ 0). absurd (omega (arith, one, none)))
      (times_cases p o.order)

  -- a read, at its place: it has ended, and has what the register then holds
  pub record Answers (m : ℕ) (x : T) : Type 0 where
    pub op : Op T
    pub there : slice_get o.ops (length written + m) ≡ Some op
    pub is : IsCallOf Read answers reads m op
    pub place : ℕ
    pub listed : slice_get o.order place ≡ Some (length written + m)
    pub state : HoldsAt place
    pub holds : slice_get (opening ∷ written) state.number ≡ Some x

  pub answers_at : (m end : ℕ) (x : T) → slice_get answers m ≡ Some x → At reads.ends m end → Answers m x
  answers_at m end x e ends =
      let l : m < length answers = slice_get_within answers m x e in
      let all : length o.ops ≡ length written + length answers = o.calls.many in
      let op = get_within o.ops (length written + m) (let z : length written + m < length o.ops = omega arith in z) in
      let is : IsCallOf Read answers reads m op.0 = o.calls.then_reads m op.0 op.1 in
      let s = stands (length written + m) end op.0 op.1 (is.ends ∙ ends) in
      let inside : s.0 < length o.order = slice_get_within o.order s.0 (length written + m) s.1 in
      let h : HoldsAt s.0 = holds_at s.0 (let z : s.0 ≤ length o.order = omega arith in z) in
      let right : ReadsRight (λ x y. x ≡ y) op.0.kind op.0.item (latest opening o.ops (take s.0 o.order)) =
      o.atomic.reading s.0 op.0 (entry s.0 (length written + m) op.0 s.1 op.1) in
      let read : ReadsRight (λ x y. x ≡ y) Read op.0.item (latest opening o.ops (take s.0 o.order)) =
      subst (λ z. ReadsRight (λ x y. x ≡ y) z op.0.item (latest opening o.ops (take s.0 o.order))) is.kind_is right in
      let one = some_and_of (λ x. IsSomeAnd (latest opening o.ops (take s.0 o.order)) (λ y. x ≡ y)) op.0.item read in
      let two = some_and_of (λ y. one.0 ≡ y) (latest opening o.ops (take s.0 o.order)) one.2 in
      let mine : one.0 ≡ x = same_Some one.0 x (sym one.1 ∙ is.item ∙ e) in
      let held : h.held ≡ x = same_Some h.held x (sym h.holds ∙ two.1 ∙ ap (λ z. Some z) (sym two.2 ∙ mine)) in
      record {
        op = op.0;
        there = op.1;
        is = is;
        place = s.0;
        listed = s.1;
        state = h;
        holds = h.there ∙ ap (λ z. Some z) held;
      }

  -- a number that stands no later is no greater
  no_greater : (i j : ℕ) (h : HoldsAt i) (k : HoldsAt j) → i ≤ j → h.number ≤ k.number
  no_greater i j h k le = ⊎_elim (λ (z : h.number ≡ 0). let x : h.number ≤ k.number = omega arith in x)
      (λ (t : (x : ℕ) × (p : ℕ) × (x < i) × (slice_get o.order x ≡ Some p) × (p < length written) × (p + 1 ≡ h.number)).
      let l : t.0 < i = t.2 in
      let below : t.1 < k.number = k.up_to t.0 t.1 (let z : t.0 < j = omega arith in z) t.3 t.4 in
      let is : t.1 + 1 ≡ h.number = t.5 in
      let x : h.number ≤ k.number = omega arith in x)
      h.is_one

  module _ (fits : T → Type 0) (rises : T → T → Type 0) (same : (a : T) → rises a a)
      (along : (a b c : T) → rises a b → rises b c → rises a c) (lawful : Rising fits rises opening written) where
    rising : (k n : ℕ) (x y : T) → k ≤ n → slice_get (opening ∷ written) k ≡ Some x → slice_get (opening ∷ written) n ≡ Some y → rises x y
    rising k n x y le e f = rises_at fits rises same along opening written k n x y lawful le (as_elem (opening ∷ written) k x e)
        (as_elem (opening ∷ written) n y f)

    pub reads_rise : (i j e f s : ℕ) (a b : T) → slice_get answers i ≡ Some a → slice_get answers j ≡ Some b → At reads.ends i e →
        At reads.ends j f → At reads.begins j s → e < s → rises a b
    reads_rise i j e f s a b ai bj ends later starts l =
        let x = answers_at i e a ai ends in
        let y = answers_at j f b bj later in
        let begins : y.op.starts ≡ s = same_Some y.op.starts s (sym y.is.starts ∙ starts) in
        let pre : Precedes x.op y.op = some_and_from (λ z. z < y.op.starts) x.op.ends e (x.is.ends ∙ ends)
        (let z : e < y.op.starts = omega arith in z) in
        ⊎_elim (λ (lt : x.place < y.place). rising x.state.number y.state.number a b
        (no_greater x.place y.place x.state y.state (let z : x.place ≤ y.place = omega arith in z)) x.holds y.holds)
        (λ (ge : y.place ≤ x.place). ⊎_elim
        (λ (lt : i < j). absurd (omega (
          arith,
          ge,
          keeps x.place y.place (length written + i) (length written + j) x.op y.op x.listed
              x.there y.listed y.there (λ z. let q : ⊥ = omega (arith, z, lt) in q) pre,
        )))
        (λ (le : j ≤ i). ⊎_elim
        (λ (lt : j < i). absurd (omega (
          arith,
          ge,
          keeps x.place y.place (length written + i) (length written + j) x.op y.op x.listed
              x.there y.listed y.there (λ z. let q : ⊥ = omega (arith, z, lt) in q) pre,
        )))
        (λ (le2 : i ≤ j).
        let one : i ≡ j = omega arith in
        subst (rises a) (same_Some a b (sym ai ∙ ap (slice_get answers) one ∙ bj)) (same a)) (cases_lt j i)) (cases_lt i j))
        (cases_lt x.place y.place)

    pub rise_from_writes : (k j e f s : ℕ) (x b : T) → slice_get written k ≡ Some x → At writes.ends k e → slice_get answers j ≡ Some b →
        At reads.ends j f → At reads.begins j s → e < s → rises x b
    rise_from_writes k j e f s x b at ends bj later starts l =
        let inside : k < length written = slice_get_within written k x at in
        let all : length o.ops ≡ length written + length answers = o.calls.many in
        let op = get_within o.ops k (let z : k < length o.ops = omega arith in z) in
        let is : IsCallOf Write written writes k op.0 = o.calls.writes_first k op.0 op.1 inside in
        let w = stands k e op.0 op.1 (is.ends ∙ ends) in
        let y = answers_at j f b bj later in
        let begins : y.op.starts ≡ s = same_Some y.op.starts s (sym y.is.starts ∙ starts) in
        let pre : Precedes op.0 y.op = some_and_from (λ z. z < y.op.starts) op.0.ends e (is.ends ∙ ends)
        (let z : e < y.op.starts = omega arith in z) in
        let before : w.0 < y.place = keeps w.0 y.place k (length written + j) op.0 y.op w.1 op.1 y.listed y.there
        (λ z. let q : ⊥ = omega (arith, z, inside) in q) pre in
        let below : k < y.state.number = y.state.up_to w.0 k before w.1 inside in
        let next : k + 1 ≡ suc k = omega arith in
        rising (k + 1) y.state.number x b (let z : k + 1 ≤ y.state.number = omega arith in z)
        (ap (slice_get (opening ∷ written)) next ∙ at) y.holds

module _ {T : Type 0} (fits : T → Type 0) (rises : T → T → Type 0) (same : (a : T) → rises a a)
    (along : (a b c : T) → rises a b → rises b c → rises a c) where
  pub later_reads_rise : LaterReadsRise fits rises
  later_reads_rise opening heard answers reads i j e f s a b h = reads_rise opening h.written h.writes answers reads h.in_turn h.begun
      h.ended h.order fits rises same along h.lawful i j e f s a b

  pub receipts_rise : ReadsRiseFromReceipts fits rises
  receipts_rise opening heard answers reads told n k j e f s x b h at there ended =
      let first : AreFirst told h.written h.writes = one_of (λ t. AreFirst t h.written h.writes) heard n told h.told at in
      rise_from_writes opening h.written h.writes answers reads h.in_turn h.begun h.ended h.order fits rises same along
      h.lawful k j e f s x b (in_more told.items h.written first.items k x there)
      (in_more told.times.ends h.writes.ends first.ends k e ended)
