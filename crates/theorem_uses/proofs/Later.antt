-- Steps that come later by one number change no order: each operation keeps its kind and item, and which operations precede which. So the
-- orders of both boards join as those of any two parts.
use Rattle.std.proofs.Common.{◌≡◌, Bool, ℕ, zero, suc, ◌+◌, ◌<◌, ◌≤◌, List, [], ◌∷◌, ◌++◌, length, map, take, slice_get, Option, Some, None}
use Rattle.std.proofs.Common.{refl, sym, ◌∙◌, ap, subst, arith}
use Rattle.std.specs.Prelude.{IsSomeAnd, ◌&&◌, drop, true}
use Rattle.std.specs.List.{count_by, fold}
use Rattle.std.specs.Option.{option_and_then}
use Rattle.std.proofs.lemmas.List.{length-map}
use Rattle.std.proofs.lemmas.Option.{none-some, same_Some}
use Rattle.cell_contract.specs.declared.family.Family.{Ghosts as FamilyWords}
use Rattle.history_core.specs.declared.history.Kind.{Kind}
use Rattle.history_core.specs.declared.history.Op.{Op}
use Rattle.history_core.specs.declared.history.Term.{Term}
use Rattle.history_core.specs.Joined.{order_after, StaysBehind}
use Rattle.history_core.specs.Orders.{in_term, IsAtomicOrder, is_write_at, KeepsLimit, latest, left_at, listed_at, MayStand, Precedes}
use Rattle.history_core.specs.Orders.{ReadsRight}
use Rattle.history_core.specs.Orders.{RefusesLawfully, times_of, writes_in}
use Rattle.history_core.proofs.Joined.{atomic_joined, latest_joined}
use Rattle.history_core.proofs.JoinedLimits.{lawful_joined}
use Rattle.matrix_core.proofs.orders.Listing.{get_map_back}
use Rattle.board_live.specs.declared.record.Posted.{Posted}
use Rattle.theorem_uses.specs.Terms.{end_later, IsTwoTerms, op_later, TermsJoin}

may_stand : (steps : ℕ) (end : Option ℕ) (kind : Kind) (times : ℕ) → MayStand end kind times → MayStand (end_later steps end) kind times
may_stand steps None kind times h = h
may_stand steps (Some end) kind times h = h

earlier : (steps : ℕ) (end : Option ℕ) (starts : ℕ) → IsSomeAnd (end_later steps end) (λ e. e < starts + steps) →
    IsSomeAnd end (λ e. e < starts)
earlier steps None starts h = h
earlier steps (Some end) starts h = let z : end + steps < starts + steps = h in omega arith

none_before : (steps : ℕ) (end : Option ℕ) (starts : ℕ) → starts ≤ steps → IsSomeAnd (end_later steps end) (λ e. e < starts) → ⊥
none_before steps None starts l h = h
none_before steps (Some end) starts l h = let z : end + steps < starts = h in omega arith

module _ {R : Type 0} where
  -- a step by which each beginning lies behind
  abbrev all_starts : List (Op R) → ℕ
  all_starts [] = 0
  all_starts (o ∷ ops) = o.starts + all_starts ops

  starts_before : (ops : List (Op R)) (p : ℕ) (o : Op R) → slice_get ops p ≡ Some o → o.starts ≤ all_starts ops
  starts_before [] p o e = absurd (none-some o e)
  starts_before (x ∷ ops) zero o e =
      let same : x.starts ≡ o.starts = ap (λ (z : Op R). z.starts) (same_Some x o e) in omega arith
  starts_before (x ∷ ops) (suc p) o e =
      let h = starts_before ops p o e in omega arith

  module _ (steps : ℕ) where
    -- what is seen of the operation at a place, where it is the same of each operation as of the later one
    seen_same : {A : Type 0} (h : Option (Op R) → A) → ((o : Op R) → h (Some (op_later steps o)) ≡ h (Some o)) →
        (ops : List (Op R)) (p : ℕ) → h (slice_get (map (op_later steps) ops) p) ≡ h (slice_get ops p)
    seen_same h e [] p = refl
    seen_same h e (o ∷ ops) zero = e o
    seen_same h e (o ∷ ops) (suc p) = seen_same h e ops p

    place_back : (ops : List (Op R)) (place : Option ℕ) (o : Op R) →
        option_and_then (slice_get (map (op_later steps) ops)) place ≡ Some o
        → (x : Op R) × (option_and_then (slice_get ops) place ≡ Some x) × (op_later steps x ≡ o)
    place_back ops None o e = absurd (none-some o e)
    place_back ops (Some p) o e = get_map_back (op_later steps) ops p o e

    listed_back : (ops : List (Op R)) (order : List ℕ) (i : ℕ) (o : Op R) → listed_at (map (op_later steps) ops) order i ≡ Some o
        → (x : Op R) × (listed_at ops order i ≡ Some x) × (op_later steps x ≡ o)
    listed_back ops order i o e = place_back ops (slice_get order i) o e

    same_left : (opening : R) (ops : List (Op R)) (order : List ℕ) →
        latest opening (map (op_later steps) ops) order ≡ latest opening ops order
    same_left opening ops order = λ i. fold (λ r p. seen_same (left_at r) (λ o. refl) ops p i) (Some opening) order

    same_writes : (within : ℕ → Bool) (ops : List (Op R)) (order : List ℕ) →
        writes_in within (map (op_later steps) ops) order ≡ writes_in within ops order
    same_writes within ops order = λ i. count_by (λ q. within q && seen_same is_write_at (λ o. refl) ops q i) order

    atomic_later : (opening : R) (ops : List (Op R)) (order : List ℕ) → IsAtomicOrder (λ x y. x ≡ y) opening ops order →
        IsAtomicOrder (λ x y. x ≡ y) opening (map (op_later steps) ops) order
    atomic_later opening ops order h = record {
      listing = record {
        places = λ i p e. let l = h.listing.places i p e in let m = length-map ops (op_later steps) in omega arith;
        stands = λ p o from to e.
            let x = get_map_back (op_later steps) ops p o e in
            let m = length-map ops (op_later steps) in
            subst (λ (z : Op R). MayStand z.ends z.kind (times_of p order)) x.2
            (may_stand steps x.0.ends x.0.kind (times_of p order) (h.listing.stands p x.0 from (omega arith) x.1));
      };
      precedence = λ i j a b ea eb ne before.
          let x = listed_back ops order i a ea in
          let y = listed_back ops order j b eb in
          let later = subst (λ (z : Op R × Op R). Precedes z.0 z.1) (λ k. (sym x.2 k, sym y.2 k)) before in
          h.precedence i j x.0 y.0 x.1 y.1 ne (earlier steps x.0.ends y.0.starts later);
      reading = λ i o e.
          let x = listed_back ops order i o e in
          subst (λ (z : Op R). ReadsRight (λ u v. u ≡ v) z.kind z.item (latest opening (map (op_later steps) ops) (take i order))) x.2
          (subst (ReadsRight (λ u v. u ≡ v) x.0.kind x.0.item) (sym (same_left opening ops (take i order))) (h.reading i x.0 x.1));
    }

    lawful_later : (terms : List Term) (ops : List (Op R)) (order : List ℕ) → RefusesLawfully terms ops order →
        RefusesLawfully terms (map (op_later steps) ops) order
    lawful_later terms ops order h k t e i p o at there refused inside =
        let x = get_map_back (op_later steps) ops p o there in
        let kind = ap (λ (z : Op R). z.kind) x.2 in
        subst (λ n. t.limit ≤ n) (sym (same_writes (in_term t (drop (k + 1) terms)) ops (take i order)))
        (h k t e i p x.0 at x.1 (kind ∙ refused) inside)

pub terms_join : {V F S T : Type 0} (words : FamilyWords F (Posted V) S T) → TermsJoin words
terms_join words board next did those last newest a b opens =
    let steps : ℕ = all_starts a.ops in
    let moved = map (op_later steps) b.ops in
    let order = a.order ++ order_after (length a.ops) b.order in
    let second = subst (λ o. IsAtomicOrder (λ x y. x ≡ y) o moved b.order) opens
    (atomic_later steps next.first.item b.ops b.order b.atomic) in
    let behind : StaysBehind moved a.ops = λ p q x y ex ey before.
    let z = get_map_back (op_later steps) b.ops q y ey in
    none_before steps z.0.ends x.starts (starts_before a.ops p x ex) (subst (λ o. Precedes o x) (sym z.2) before) in
    record {
      steps = steps;
      order = order;
      behind = behind;
      atomic = atomic_joined (λ x y. x ≡ y) board.first.item last.item a.ops moved a.order b.order a.atomic second a.holds behind;
      lawful = subst (λ n. RefusesLawfully (record { first = 0; limit = board.limit } ∷ record { first = n; limit = next.limit } ∷ [])
          (a.ops ++ moved) order) (let e : length a.ops + 0 ≡ length a.ops = omega arith in e)
          (lawful_joined (record { first = 0; limit = board.limit } ∷ [])
          (record { first = 0; limit = next.limit } ∷ []) a.ops moved a.order
          b.order a.atomic.listing.places second.listing.places a.lawful
          (lawful_later steps (record { first = 0; limit = next.limit } ∷ []) b.ops b.order b.lawful)
          (λ _. (0, record { first = 0; limit = next.limit }, refl, refl)));
      holds = latest_joined board.first.item last.item a.ops moved a.order b.order a.atomic.listing.places a.holds
          ∙ (same_left steps last.item b.ops b.order ∙ ap (λ o. latest o b.ops b.order) (sym opens) ∙ b.holds);
    }
