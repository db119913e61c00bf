-- A process's records rise, also if its last call is cut off: what a call chooses isn't below what it saw, which is the greatest of its own
-- record and of its answers.
use Rattle.std.proofs.Common.{◌≡◌, ℕ, zero, suc, ◌+◌, ◌<◌, ◌≤◌, List, [], ◌∷◌, length, slice_get}
use Rattle.std.proofs.Common.{Some, refl, sym, ◌∙◌, ap, subst, arith, inl, inr}
use Rattle.std.proofs.lemmas.Bool.{cases_order}
use Rattle.std.proofs.lemmas.Option.{none-some, same_Some}
use Rattle.history_core.specs.declared.history.Kind.{Kind}
use Rattle.history_core.specs.declared.history.Kind.TheVariants.{Write, Read, Refused}
use Rattle.matrix_core.specs.declared.stamp.Stamp.{Stamp}
use Rattle.matrix_core.specs.declared.stamp.Stamped.{Stamped}
use Rattle.matrix_core.specs.Choices.{Choice, ChoosesByKind, IsAtMost}
use Rattle.matrix_core.proofs.choices.Stamps.{at_most_trans, greater_first, greater_is, greater_second, stamp_same}
use Rattle.matrix_core.specs.Stamps.{first_stamp, greater, greatest, IsBelow}
use Rattle.matrix_core.specs.Lines.{first_record}
use Rattle.matrix_core.proofs.lists.Elements.{get_exists}
use Rattle.board_history.specs.BoardRuns.{Called, Did, own_before}
use Rattle.board_history.specs.RunsSoFar.{IsBoardRunSoFar}

-- the first stamp is at most any
pub first_least : (s : Stamp) → IsAtMost first_stamp s
first_least s = elim (cases_order s.tag 0) [
  | inr (inr l) ↦ inr (inl (omega arith))
  | inr (inl l) ↦ absurd (omega arith)
  | inl e ↦ elim (cases_order s.writer 0) [
    | inr (inr l) ↦ inr (inr (sym e, omega arith))
    | inr (inl l) ↦ absurd (omega arith)
    | inl w ↦ inl (sym (stamp_same s first_stamp e w))
  ]
]

-- what holds of each of several records holds of the greatest of them
pub greatest_is : {V : Type 0} (P : Stamped V → Type 0) (own : Stamped V) (answers : List (Stamped V)) → P own →
    ((k : ℕ) (x : Stamped V) → slice_get answers k ≡ Some x → P x) → P (greatest own answers)
greatest_is P own [] o each = o
greatest_is P own (x ∷ xs) o each = greatest_is P (greater own x) xs
    (elim (greater_is own x) [ inl e ↦ subst P (sym e) o | inr e ↦ subst P (sym e) (each 0 x refl) ]) (λ k y h. each (suc k) y h)

pub greatest_first : {V : Type 0} (own : Stamped V) (answers : List (Stamped V)) → IsAtMost own.stamp (greatest own answers).stamp
greatest_first own [] = inl refl
greatest_first own (x ∷ xs) =
    at_most_trans own.stamp (greater own x).stamp (greatest (greater own x) xs).stamp
    (greater_first own x) (greatest_first (greater own x) xs)

pub greatest_each : {V : Type 0} (own : Stamped V) (answers : List (Stamped V)) (k : ℕ) (x : Stamped V) → slice_get answers k ≡ Some x →
    IsAtMost x.stamp (greatest own answers).stamp
greatest_each own [] k x h = absurd (none-some x h)
greatest_each own (y ∷ ys) zero x h =
    let e : y ≡ x = same_Some y x h in
    subst (λ z. IsAtMost z.stamp (greatest (greater own y) ys).stamp) e
    (at_most_trans y.stamp (greater own y).stamp (greatest (greater own y) ys).stamp (greater_second own y)
    (greatest_first (greater own y) ys))
greatest_each own (y ∷ ys) (suc k) x h = greatest_each (greater own y) ys k x h

-- what a call chooses isn't below what it saw
chosen_at_least : {V : Type 0} (limit : ℕ) (c : Choice V) (kind : Kind) (seen : Stamp) (item : V) → ChoosesByKind limit c kind seen item →
    IsAtMost seen c.stamp
chosen_at_least limit c Write seen item h = inr (subst (λ z. IsBelow seen z) (sym h.1) (inl (omega arith)))
chosen_at_least limit c Read seen item h = inl (sym h.0)
chosen_at_least limit c Refused seen item h = inl (sym h.1)

pub own_zero : {V : Type 0} (own : Stamped V) (calls : List (Called V)) → own_before own calls zero ≡ own
own_zero own [] = refl
own_zero own (x ∷ calls) = refl

pub own_next : {V : Type 0} (first : Stamped V) (calls : List (Called V)) (k : ℕ) (c : Called V) → slice_get calls k ≡ Some c →
    own_before first calls (suc k) ≡ c.chosen
own_next first [] k c e = cc
own_next first (d ∷ calls) zero c e = own_zero d.chosen calls ∙ ap (λ z. z.chosen) (same_Some d c e)
own_next first (d ∷ calls) (suc k) c e = own_next d.chosen calls k c e

module _ {V : Type 0} (width n limit : ℕ) (opening : V) (steps : List ℕ) (did : ℕ → Did V)
    (run : IsBoardRunSoFar width n limit (first_record opening) steps did) where
  -- a process's records rise
  pub own_rises : (i j more : ℕ) → i < n → j + more ≤ length (did i).calls →
      IsAtMost (own_before (first_record opening) (did i).calls j).stamp (own_before (first_record opening) (did i).calls (j + more)).stamp
  own_rises i j zero l le = inl (ap (λ m. (own_before (first_record opening) (did i).calls m).stamp) (omega arith))
  own_rises i j (suc more) l le =
      let first : Stamped V = first_record opening in
      let c = get_exists (did i).calls (j + more) (omega arith) in
      let s = (run.each i l).sees (j + more) c.0 c.1 in
      let up : IsAtMost (own_before first (did i).calls (j + more)).stamp c.0.seen.stamp =
      subst (λ z. IsAtMost (own_before first (did i).calls (j + more)).stamp z.stamp) (sym s.greatest)
      (greatest_first (own_before first (did i).calls (j + more)) s.answers) in
      let on : IsAtMost c.0.seen.stamp c.0.chosen.stamp = chosen_at_least limit
      (record { place = 0; who = i; kind = c.0.kind; stamp = c.0.chosen.stamp; item = c.0.chosen.item })
      c.0.kind c.0.seen.stamp c.0.seen.item
      ((run.each i l).chooses (j + more) 0 c.0 c.1) in
      let next : own_before first (did i).calls (j + suc more) ≡ c.0.chosen =
      ap (own_before first (did i).calls) (let e : j + suc more ≡ suc (j + more) = omega arith in e)
      ∙ own_next first (did i).calls (j + more) c.0 c.1 in
      at_most_trans (own_before first (did i).calls j).stamp (own_before first (did i).calls (j + more)).stamp
      (own_before first (did i).calls (j + suc more)).stamp (own_rises i j more l (omega arith))
      (subst (λ z. IsAtMost (own_before first (did i).calls (j + more)).stamp z.stamp) (sym next)
      (at_most_trans (own_before first (did i).calls (j + more)).stamp c.0.seen.stamp c.0.chosen.stamp up on))
