-- The latest record of an order by number: that of the write with the reader's number, since no write stands between.
use Rattle.std.proofs.Common.{◌≡◌, ℕ, ◌+◌, ◌-◌, ◌<◌, ◌≤◌, true, false, List, length, take, get_or, slice_get, Option, None, Some, zero, suc}
use Rattle.std.proofs.Common.{◌⊎◌, inl, inr, refl, sym, ◌∙◌, ap, arith}
use Rattle.std.specs.Prelude.{IsSome, IsSomeAnd}
use Rattle.std.proofs.lemmas.Bool.{cases_order, cases_Bool}
use Rattle.std.proofs.lemmas.List.Sums.{fold_more}
use Rattle.std.proofs.lemmas.Option.{get_or_from_slice_get, option_and_then_some, same_Some, slice_get_within, slice_get-get_or}
use Rattle.history_core.specs.declared.history.Op.{Op}
use Rattle.history_core.specs.declared.history.Kind.{Kind}
use Rattle.history_core.specs.declared.history.Kind.TheVariants.{Write, Read, Refused}
use Rattle.history_core.specs.Numbers.{IsByNumber, StandsAt}
use Rattle.history_core.specs.Orders.{is_write, is_write_at, latest, left_at, left_by, ReadsLatest, ReadsRight}

module _ {R : Type 0} where
  -- no entry from place m up to place n is a write
  abbrev pub NoWriteBetween : List (Op R) → List ℕ → ℕ → ℕ → Type 0
  NoWriteBetween ops order m n = (i p : ℕ) → m ≤ i → i < n → slice_get order i ≡ Some p → is_write_at (slice_get ops p) ≡ false

  left_by_kind : (r item : Option R) (kind : Kind) → is_write kind ≡ false → left_by r kind item ≡ r
  left_by_kind r item Write h = cc
  left_by_kind r item Read h = refl
  left_by_kind r item Refused h = refl

  -- only a write changes the latest record
  pub left_unwritten : (r : Option R) (o : Option (Op R)) → is_write_at o ≡ false → left_at r o ≡ r
  left_unwritten r None h = refl
  left_unwritten r (Some o) h = left_by_kind r o.item o.kind h

  left_written : (r item : Option R) (kind : Kind) → is_write kind ≡ true → left_by r kind item ≡ item
  left_written r item Write h = refl
  left_written r item Read h = cc
  left_written r item Refused h = cc

  one_more : (opening : R) (ops : List (Op R)) (order : List ℕ) (n p : ℕ) → slice_get order n ≡ Some p →
      latest opening ops (take (n + 1) order) ≡ left_at (latest opening ops (take n order)) (slice_get ops p)
  one_more opening ops order n p e =
      fold_more (λ r q. left_at r (slice_get ops q)) (Some opening) order n 0 (slice_get_within order n p e)
      ∙ ap (λ q. left_at (latest opening ops (take n order)) (slice_get ops q)) (get_or_from_slice_get order n p 0 e)

  -- without a write between, the latest record stays
  pub latest_stays : (opening : R) (ops : List (Op R)) (order : List ℕ) (m d : ℕ) → m + d ≤ length order →
      NoWriteBetween ops order m (m + d) → latest opening ops (take (m + d) order) ≡ latest opening ops (take m order)
  latest_stays opening ops order m zero le none = ap (λ n. latest opening ops (take n order)) (omega arith)
  latest_stays opening ops order m (suc d) le none =
      let n : ℕ = m + d in
      let next : m + suc d ≡ n + 1 = omega arith in
      let at : slice_get order n ≡ Some (get_or order n 0) = slice_get-get_or order n 0 (omega arith) in
      ap (λ k. latest opening ops (take k order)) next
      ∙ one_more opening ops order n (get_or order n 0) at
      ∙ left_unwritten (latest opening ops (take n order)) (slice_get ops (get_or order n 0))
      (none n (get_or order n 0) (omega arith) (omega arith) at)
      ∙ latest_stays opening ops order m d (omega arith) (λ i p mi id e. none i p mi (omega arith) e)

  -- before the first write it is the opening
  pub latest_is_opening : (opening : R) (ops : List (Op R)) (order : List ℕ) (n : ℕ) → n ≤ length order → NoWriteBetween ops order 0 n →
      latest opening ops (take n order) ≡ Some opening
  latest_is_opening opening ops order n le none =
      let zero_more : 0 + n ≡ n = omega arith in
      ap (λ k. latest opening ops (take k order)) (sym zero_more)
      ∙ latest_stays opening ops order 0 n (omega arith) (λ i p _ l e. none i p (omega arith) (omega arith) e)

  -- after a write, and before the next, it is the write's item
  pub latest_is_written : (opening : R) (ops : List (Op R)) (order : List ℕ) (j n q : ℕ) (w : Op R) → StandsAt ops order j q w →
      is_write w.kind ≡ true → j < n → n ≤ length order → NoWriteBetween ops order (j + 1) n → latest opening ops (take n order) ≡ w.item
  latest_is_written opening ops order j n q w at write l le none =
      let rest : (j + 1) + (n - (j + 1)) ≡ n = omega arith in
      ap (λ k. latest opening ops (take k order)) (sym rest)
      ∙ latest_stays opening ops order (j + 1) (n - (j + 1)) (omega arith) (λ i p m d e. none i p m (omega arith) e)
      ∙ one_more opening ops order j q at.0
      ∙ ap (left_at (latest opening ops (take j order))) at.1
      ∙ left_written (latest opening ops (take j order)) w.item w.kind write

  -- whence an operation that isn't a write has its item: from the listed write of its number; or it is the opening, and every
  -- listed write has a greater number
  abbrev pub HasItemByNumber : (ℕ → ℕ) → R → List (Op R) → List ℕ → ℕ → Op R → Type 0
  HasItemByNumber number opening ops order p o =
      ((j : ℕ) × (q : ℕ) × (w : Op R) × StandsAt ops order j q w × (is_write w.kind ≡ true) × (number q ≡ number p) × (o.item ≡ w.item))
      ⊎ ((o.item ≡ Some opening) × ((j q : ℕ) (w : Op R) → StandsAt ops order j q w → is_write w.kind ≡ true → number p < number q))

  same_item : (item before : Option R) → IsSome item → before ≡ item → IsSomeAnd item (λ x. IsSomeAnd before (λ y. x ≡ y))
  same_item None before h e = cc
  same_item (Some x) None h e = cc
  same_item (Some x) (Some y) h e = same_Some x y (sym e)

  right_by_kind : (kind : Kind) (item before : Option R) → IsSome item → (is_write kind ≡ false → before ≡ item) →
      ReadsRight (λ x y. x ≡ y) kind item before
  right_by_kind Write item before h e = h
  right_by_kind Read item before h e = same_item item before h (e refl)
  right_by_kind Refused item before h e = same_item item before h (e refl)

  -- reading, of an order by number
  pub reads_by_number : (number : ℕ → ℕ) (opening : R) (ops : List (Op R)) (order : List ℕ) → IsByNumber number ops order →
      ((i p : ℕ) (o : Op R) → StandsAt ops order i p o → IsSome o.item) →
      ((i p : ℕ) (o : Op R) → StandsAt ops order i p o → is_write o.kind ≡ false → HasItemByNumber number opening ops order p o) →
      ReadsLatest (λ x y. x ≡ y) opening ops order
  reads_by_number number opening ops order by items from i o listed =
      option_and_then_some (slice_get ops) (slice_get order i) o listed
      (λ p e f. right_by_kind o.kind o.item (latest opening ops (take i order)) (items i p o (e, f)) (found p (e, f)))
    where
      within : (p : ℕ) → slice_get order i ≡ Some p → i ≤ length order
      within p e = let l = slice_get_within order i p e in omega arith

      between : (p j q : ℕ) (w : Op R) → StandsAt ops order i p o → StandsAt ops order j q w → number q ≡ number p →
          NoWriteBetween ops order (j + 1) i
      between p j q w at wj same m z jm mi ez = none (slice_get ops z) refl
        where
          none : (a : Option (Op R)) → slice_get ops z ≡ a → is_write_at a ≡ false
          none None ea = refl
          none (Some a) ea =
              let up : number q ≤ number z = by.sorted j m q z w a wj (ez, ea) (omega arith) in
              let down : number z ≤ number p = by.sorted m i z p a o (ez, ea) at mi in
              by.write_first j m q z w a wj (ez, ea) (omega arith) (omega arith)

      before : (p : ℕ) → StandsAt ops order i p o →
          ((j q : ℕ) (w : Op R) → StandsAt ops order j q w → is_write w.kind ≡ true → number p < number q) → NoWriteBetween ops order 0 i
      before p at above m z _ mi ez = none (slice_get ops z) refl
        where
          none : (a : Option (Op R)) → slice_get ops z ≡ a → is_write_at a ≡ false
          none None ea = refl
          none (Some a) ea = elim (cases_Bool (is_write a.kind)) [
            | inr other ↦ other
            | inl written ↦
                let up : number p < number z = above m z a (ez, ea) written in
                let down : number z ≤ number p = by.sorted m i z p a o (ez, ea) at mi in
                absurd (omega arith)
          ]

      first : (p j q : ℕ) (w : Op R) → is_write o.kind ≡ false → StandsAt ops order i p o → StandsAt ops order j q w →
          is_write w.kind ≡ true → number q ≡ number p → j < i
      first p j q w other at wj written same = elim (cases_order j i) [
        | inl s ↦
            let sp : q ≡ p = same_Some q p (sym wj.0 ∙ ap (slice_get order) s ∙ at.0) in
            let so : w ≡ o = same_Some w o (sym wj.1 ∙ ap (slice_get ops) sp ∙ at.1) in
            let k : is_write w.kind ≡ is_write o.kind = ap (λ (z : Op R). is_write z.kind) so in
            cc
        | inr (inl l) ↦ l
        | inr (inr l) ↦ let not_write = by.write_first i j p q o w at wj l (sym same) in cc
      ]

      found : (p : ℕ) → StandsAt ops order i p o → is_write o.kind ≡ false → latest opening ops (take i order) ≡ o.item
      found p at other = elim (from i p o at other) [
        | inl w ↦ latest_is_written opening ops order w.0 i w.1 w.2 w.3 w.4 (first p w.0 w.1 w.2 other at w.3 w.4 w.5) (within p at.0)
            (between p w.0 w.1 w.2 at w.3 w.5) ∙ sym w.6
        | inr w ↦ latest_is_opening opening ops order i (within p at.0) (before p at w.1) ∙ sym w.0
      ]
