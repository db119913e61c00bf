-- Passes whose last one came back with other room are the passes of the board still.
use Rattle.std.proofs.Common.{◌≡◌, Bool, IsTrue, ℕ, zero, suc, ◌+◌, ◌<◌, ◌≤◌, List, [], ◌∷◌, ◌++◌, length, slice_get, Some}
use Rattle.std.proofs.Common.{refl, sym, ap, ◌∙◌, subst, arith, ◌⊎◌, inl, inr, length-append}
use Rattle.std.proofs.lemmas.Option.{same_Some, none-some}
use Rattle.std.specs.Prelude.{vec_capacity}
use Rattle.cell_contract.specs.Running.{last_or}
use Rattle.cell_contract.specs.declared.family.Family.{Ghosts as FamilyWords}
use Rattle.history_core.proofs.Places.{get_last}
use Rattle.board_history.specs.BoardRuns.{IsProcess}
use Rattle.board_live.specs.declared.board.Board.{Board}
use Rattle.board_live.specs.declared.board.Pass.{Pass}
use Rattle.board_live.specs.declared.record.Posted.{Posted}
use Rattle.board_live.specs.Ends.{AllPasses}
use Rattle.board_live.specs.Passes.{did_of, IsPass}
use Rattle.board_live.specs.Plans.{KeepsItsWord}
use Rattle.board_live.specs.Records.{Rises, stamped}

-- an element is one of the first, or the last
pub of_more : {A : Type 0} (xs : List A) (x y : A) (i : ℕ) → slice_get (xs ++ x ∷ []) i ≡ Some y →
    (slice_get xs i ≡ Some y) ⊎ ((i ≡ length xs) × (x ≡ y))
of_more [] x y zero e = inr (refl, same_Some x y e)
of_more [] x y (suc i) e = absurd (none-some y e)
of_more (z ∷ zs) x y zero e = inl e
of_more (z ∷ zs) x y (suc i) e = elim (of_more zs x y i e) [
  | inl a ↦ inl a
  | inr b ↦ inr (ap suc b.0, b.1)
]

pub only_one : {A : Type 0} (xs : List A) (x y : A) → x ∷ [] ≡ xs ++ y ∷ [] → (xs ≡ []) × (x ≡ y)
only_one [] x y e = (refl, ap (λ zs. first x zs) e) where
  first : {A : Type 0} → A → List A → A
  first d [] = d
  first d (z ∷ zs) = z
only_one (z ∷ zs) x y e =
    let n : 1 ≡ suc (length zs + 1) = ap length e ∙ ap suc (length-append zs (y ∷ [])) in
    absurd (omega (arith, n))

module _ {V F S T : Type 0} (words : FamilyWords F (Posted V) S T) (obeys : V → Bool) (board : Board V F S T) where
  with_room : (p q : Pass V F S T) → IsPass words obeys board p → q.process ≡ p.process → q.own ≡ p.own → q.told ≡ p.told →
      q.seat ≡ p.seat → vec_capacity q.room ≡ vec_capacity p.room → q.room.items ≡ [] → IsPass words obeys board q
  with_room p q h process own told seat capacity empty = record {
    size = h.size;
    some = h.some;
    processes = h.processes;
    opens = h.opens;
    limit = h.limit;
    first = h.first;
    inside = subst (λ z. z < board.processes) (sym process) h.inside;
    room = (
      λ e. subst (λ z. board.processes ≤ z) (sym capacity) (h.room.0 (ap (λ z. z + 1) (sym process) ∙ e)),
      empty,
    );
    seat = subst (λ z. words.is_seat board.family z) (sym seat) h.seat;
    who = ap words.who seat ∙ h.who ∙ sym process;
    lawful = subst (λ z. IsTrue (obeys z.item)) (sym own) h.lawful;
    below = λ j l ne. subst (λ (z : S × Posted V). Rises (last_or board.first (words.writes z.0 j).items) z.1)
        (λ k. (sym seat k, sym own k)) (h.below j l (λ e. ne (e ∙ sym process)));
    last = λ t j l ne. ap (λ z. last_or board.first (words.writes z j).items) seat
        ∙ h.last (sym told ∙ t) j l (λ e. ne (e ∙ sym process)) ∙ sym own;
    made = (
      h.made.0,
      record {
        made = subst (λ z. IsProcess words.width board.processes board.limit (stamped board.first) z (did_of words q.seat h.made.0))
            (sym process)
            (subst (λ z. IsProcess words.width board.processes board.limit (stamped board.first) p.process (did_of words z h.made.0))
            (sym seat) h.made.1.made);
        own = ap stamped own ∙ h.made.1.own;
        word = subst (λ (z : ℕ × S). KeepsItsWord words.width board.processes z.0 (words.times z.1) h.made.0 (words.said z.1)
            (words.found z.1)) (λ k. (sym process k, sym seat k)) h.made.1.word;
      },
    );
  }

  pub all_again : (passes left : List (Pass V F S T)) (p q : Pass V F S T) → AllPasses words obeys board passes → passes ≡ left ++ p ∷ [] →
      q.process ≡ p.process → q.own ≡ p.own → q.told ≡ p.told → q.seat ≡ p.seat → vec_capacity q.room ≡ vec_capacity p.room →
      q.room.items ≡ [] → AllPasses words obeys board (left ++ q ∷ [])
  all_again passes left p q all is process own told seat capacity empty =
      let n : length passes ≡ length left + 1 = ap length is ∙ length-append left (p ∷ []) in
      let m : length (left ++ q ∷ []) ≡ length left + 1 = length-append left (q ∷ []) in
      let there : (i : ℕ) (r : Pass V F S T) → slice_get (left ++ p ∷ []) i ≡ Some r → slice_get passes i ≡ Some r =
      λ i r e. ap (λ z. slice_get z i) is ∙ e in
      let old = all.each (length left) p (there (length left) p (get_last left p (length left) refl)) in record {
        all = m ∙ sym n ∙ all.all;
        some = omega (arith, m);
        each = λ i r e. elim (of_more left q r i e) [
          | inl a ↦ all.each i r (there i r (in_front left p r i a))
          | inr b ↦ subst (λ z. IsPass words obeys board z × (z.process ≡ i)) b.1
              (with_room p q old.0 process own told seat capacity empty, process ∙ old.1 ∙ sym b.0)
        ];
      }
    where
      in_front : {A : Type 0} (xs : List A) (x y : A) (i : ℕ) → slice_get xs i ≡ Some y → slice_get (xs ++ x ∷ []) i ≡ Some y
      in_front [] x y i e = absurd (none-some y e)
      in_front (z ∷ zs) x y zero e = e
      in_front (z ∷ zs) x y (suc i) e = in_front zs x y i e
