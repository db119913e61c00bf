-- What is there after the only write: its record, whatever else the order lists.
use Rattle.std.proofs.Common.{◌≡◌, ◌≢◌, ℕ, ◌+◌, ◌<◌, ◌≤◌, zero, suc, true, false, Bool, cond, ◌&&◌, List, [], ◌∷◌, length, take, slice_get}
use Rattle.std.proofs.Common.{Option, None, Some, refl, sym, ◌∙◌, ap, subst, arith}
use Rattle.std.specs.List.{count_by, fold}
use Rattle.std.proofs.lemmas.List.Sums.{sum_by-cons}
use Rattle.std.proofs.lemmas.Option.{none-some, same_Some}
use Rattle.history_core.specs.declared.history.Op.{Op}
use Rattle.history_core.specs.declared.history.Kind.{Kind}
use Rattle.history_core.specs.declared.history.Kind.TheVariants.{Write, Read, Refused}
use Rattle.history_core.specs.Orders.{is_write, is_write_at, latest, left_at, left_by, writes_in}
use Rattle.theorem_uses.specs.Orders.{IsOnlyWrite}

both_no : (a b : Bool) → b ≡ false → (a && b) ≡ false
both_no false b e = refl
both_no true b e = e

module _ {R : Type 0} where
  -- what an operation leaves where r is there, if it leaves r where it writes
  by_kind : (kind : Kind) (r item : Option R) → (kind ≡ Write → item ≡ r) → left_by r kind item ≡ r
  by_kind Write r item h = h refl
  by_kind Read r item h = refl
  by_kind Refused r item h = refl

  by_place : (op : Option (Op R)) (r : Option R) → ((o : Op R) → op ≡ Some o → o.kind ≡ Write → o.item ≡ r) → left_at r op ≡ r
  by_place None r h = refl
  by_place (Some o) r h = by_kind o.kind r o.item (h o refl)

  written : (kind : Kind) (r item : Option R) → kind ≡ Write → left_by r kind item ≡ item
  written kind r item e = subst (λ z. left_by r z item ≡ item) (sym e) refl

  -- of these entries the one at place p alone is a write
  abbrev pub IsOnlyAmong : List (Op R) → ℕ → List ℕ → Type 0
  IsOnlyAmong ops p xs = (y q : ℕ) (op : Op R) → slice_get xs y ≡ Some q → slice_get ops q ≡ Some op → op.kind ≡ Write → q ≡ p

  module _ (ops : List (Op R)) (p : ℕ) (write : Op R) (at : slice_get ops p ≡ Some write) where
    abbrev step : Option R → ℕ → Option R
    step r q = left_at r (slice_get ops q)

    stays : (q : ℕ) → ((op : Op R) → slice_get ops q ≡ Some op → op.kind ≡ Write → q ≡ p) → step write.item q ≡ write.item
    stays q only = by_place (slice_get ops q) write.item (λ op e k. ap (λ (z : Op R). z.item)
        (sym (same_Some write op (sym at ∙ ap (slice_get ops) (sym (only op e k)) ∙ e))))

    keeps : (xs : List ℕ) → IsOnlyAmong ops p xs → fold step write.item xs ≡ write.item
    keeps [] only = refl
    keeps (q ∷ xs) only =
        ap (λ z. fold step z xs) (stays q (λ op. only 0 q op refl)) ∙ keeps xs (λ y. only (suc y))

    puts : (r : Option R) → write.kind ≡ Write → step r p ≡ write.item
    puts r k = ap (left_at r) at ∙ written write.kind r write.item k

    after : (r : Option R) (xs : List ℕ) (i : ℕ) → IsOnlyAmong ops p xs → write.kind ≡ Write → slice_get xs i ≡ Some p →
        fold step r xs ≡ write.item
    after r [] i only k e = absurd (none-some p e)
    after r (q ∷ xs) zero only k e =
        let here : q ≡ p = same_Some q p e in
        ap (λ z. fold step z xs) (ap (step r) here ∙ puts r k) ∙ keeps xs (λ y. only (suc y))
    after r (q ∷ xs) (suc i) only k e = after (step r q) xs i (λ y. only (suc y)) k e

  pub is_among : (opening : R) (ops : List (Op R)) (p i : ℕ) (write : Op R) (xs : List ℕ) → slice_get ops p ≡ Some write →
      IsOnlyAmong ops p xs → write.kind ≡ Write → slice_get xs i ≡ Some p → latest opening ops xs ≡ write.item
  is_among opening ops p i write xs at only k e = after ops p write at (Some opening) xs i only k e

  pub is_there : (opening : R) (ops : List (Op R)) (p i : ℕ) (write : Op R) (xs : List ℕ) → slice_get ops p ≡ Some write →
      IsOnlyWrite ops p → write.kind ≡ Write → slice_get xs i ≡ Some p → latest opening ops xs ≡ write.item
  is_there opening ops p i write xs at only k e = is_among opening ops p i write xs at (λ y q op x. only q op) k e

  -- an order lists no write where there is none
  no_write : (op : Option (Op R)) → ((o : Op R) → op ≡ Some o → o.kind ≢ Write) → is_write_at op ≡ false
  no_write None h = refl
  no_write (Some o) h = other o.kind (h o refl)
    where
      other : (kind : Kind) → kind ≢ Write → is_write kind ≡ false
      other Write h = absurd (h refl)
      other Read h = refl
      other Refused h = refl

  pub counts_none : (within : ℕ → Bool) (ops : List (Op R)) (xs : List ℕ) →
      ((y q : ℕ) (o : Op R) → slice_get xs y ≡ Some q → slice_get ops q ≡ Some o → o.kind ≢ Write) → writes_in within ops xs ≡ 0
  counts_none within ops [] h = refl
  counts_none within ops (q ∷ xs) h =
      let e : (within q && is_write_at (slice_get ops q)) ≡ false =
      both_no (within q) (is_write_at (slice_get ops q)) (no_write (slice_get ops q) (λ o. h 0 q o refl)) in
      let more = sum_by-cons (λ q. cond (within q && is_write_at (slice_get ops q)) 1 0) q xs
      ∙ ap (λ b. cond b 1 0 + writes_in within ops xs) e in
      let none = counts_none within ops xs (λ y. h (suc y)) in
      omega (arith, more, none)
