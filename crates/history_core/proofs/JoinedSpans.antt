-- The parts of a played schedule: positions tell the terms apart, so that no operation precedes one of an earlier term.
use Rattle.std.proofs.Common.{◌≡◌, ℕ, ◌+◌, ◌<◌, ◌≤◌, List, [], ◌∷◌, length, slice_get, Some, arith, refl, ap, inl, inr, ◌++◌, sym, subst}
use Rattle.std.proofs.Common.{◌∙◌}
use Rattle.history_core.specs.declared.history.Op.{Op}
use Rattle.history_core.specs.Joined.{IsInTurn, ops_of, Part, StaysBehind, terms_from}
use Rattle.history_core.specs.Orders.{IsAtomicOrder, latest, RefusesLawfully}
use Rattle.history_core.specs.Schedules.{HasShapeFrom, IsPlayed, Span}
use Rattle.history_core.proofs.JoinedPlaces.{get_cases}
use Rattle.history_core.proofs.Listed.{some_and_of}
use Rattle.history_core.proofs.Played.{ends_least, starts_below}
use Rattle.history_core.proofs.Terms.{steps_in}

module _ {R : Type 0} where
  -- each part has the operations of its term, the first of which begins at the position `at`; its order is atomic and refuses
  -- lawfully by itself, and the next term opens with its latest record
  abbrev pub IsPlayedInTurn : (R → R → Type 0) → ℕ → R → List (Span R) → List (Part R) → R → Type 0
  IsPlayedInTurn Same at opening [] [] last = opening ≡ last
  IsPlayedInTurn Same at opening [] (part ∷ parts) last = ⊥
  IsPlayedInTurn Same at opening (span ∷ spans) [] last = ⊥
  IsPlayedInTurn Same at opening (span ∷ spans) (part ∷ parts) last =
      (next : R)
      × (part.limit ≡ span.limit)
      × IsPlayed at span part.ops
      × IsAtomicOrder Same opening part.ops part.order
      × RefusesLawfully (record { first = 0; limit = part.limit } ∷ []) part.ops part.order
      × (latest opening part.ops part.order ≡ Some next)
      × IsPlayedInTurn Same (at + length span.steps) next spans parts last

  -- what is played from a position on ends at it or later
  ends_from : (Same : R → R → Type 0) (at : ℕ) (opening last : R) (spans : List (Span R)) (parts : List (Part R)) → IsPlayedInTurn Same
      at opening spans parts last → (p end : ℕ) (o : Op R) → slice_get (ops_of parts) p ≡ Some o → o.ends ≡ Some end → at ≤ end
  ends_from Same at opening last [] [] h p end o e f = cc
  ends_from Same at opening last [] (part ∷ parts) h p end o e f = absurd h
  ends_from Same at opening last (span ∷ spans) [] h p end o e f = absurd h
  ends_from Same at opening last (span ∷ spans) (part ∷ parts) h p end o e f =
      elim (get_cases part.ops (ops_of parts) p o e) [
        | inl w ↦ let k = h.2.each p o w.1 in ends_least at span k.0 o end k.1 f
        | inr w ↦
            let le : at + length span.steps ≤ end = ends_from Same (at + length span.steps) h.0 last spans parts h.6 w.0 end o w.2 f in
            omega arith
      ]

  -- shape, as the parts have it
  pub shape_in_turn : (Same : R → R → Type 0) (at place : ℕ) (opening last : R) (spans : List (Span R)) (parts : List (Part R)) →
      IsPlayedInTurn Same at opening spans parts last → HasShapeFrom at place spans (terms_from place parts) (ops_of parts)
  shape_in_turn Same at place opening last [] [] h = (refl, refl)
  shape_in_turn Same at place opening last [] (part ∷ parts) h = absurd h
  shape_in_turn Same at place opening last (span ∷ spans) [] h = absurd h
  shape_in_turn Same at place opening last (span ∷ spans) (part ∷ parts) h = (
    part.ops,
    ops_of parts,
    terms_from (place + length part.ops) parts,
    refl,
    ap (λ n. record { first = place; limit = n } ∷ terms_from (place + length part.ops) parts) h.1,
    h.2,
    shape_in_turn Same (at + length span.steps) (place + length part.ops) h.0 last spans parts h.6,
  )

  -- and the premise of the law for many parts
  pub played_in_turn : (Same : R → R → Type 0) (at : ℕ) (opening last : R) (spans : List (Span R)) (parts : List (Part R)) →
      IsPlayedInTurn Same at opening spans parts last → IsInTurn Same opening parts last
  played_in_turn Same at opening last [] [] h = h
  played_in_turn Same at opening last [] (part ∷ parts) h = absurd h
  played_in_turn Same at opening last (span ∷ spans) [] h = absurd h
  played_in_turn Same at opening last (span ∷ spans) (part ∷ parts) h =
      (h.0, h.3, h.4, h.5, behind, played_in_turn Same (at + length span.steps) h.0 last spans parts h.6)
    where
      behind : StaysBehind (ops_of parts) part.ops
      behind p q a b pa qb pre =
          let end = some_and_of (λ end. end < a.starts) b.ends pre in
          let after : at + length span.steps ≤ end.0 =
          ends_from Same (at + length span.steps) h.0 last spans parts h.6 q end.0 b qb end.1 in
          let k = h.2.each p a pa in
          let before : a.starts < at + length span.steps = starts_below at span k.0 a k.1 in
          let l = end.2 in
          omega arith

  -- one more term after the others
  pub played_more : (Same : R → R → Type 0) (at : ℕ) (opening last next : R) (spans : List (Span R)) (parts : List (Part R)) (span : Span R)
      (part : Part R) → IsPlayedInTurn Same at opening spans parts last → part.limit ≡ span.limit →
      IsPlayed (at + steps_in spans) span part.ops → IsAtomicOrder Same last part.ops part.order →
      RefusesLawfully (record { first = 0; limit = part.limit } ∷ []) part.ops part.order → latest last part.ops part.order ≡ Some next →
      IsPlayedInTurn Same at opening (spans ++ span ∷ []) (parts ++ part ∷ []) next
  played_more Same at opening last next [] [] span part h limit played atomic lawful held = (
    next,
    limit,
    subst (λ n. IsPlayed n span part.ops) (omega arith) played,
    subst (λ r. IsAtomicOrder Same r part.ops part.order) (sym h) atomic,
    lawful,
    ap (λ r. latest r part.ops part.order) h ∙ held,
    refl,
  )
  played_more Same at opening last next [] (first ∷ parts) span part h limit played atomic lawful held = absurd h
  played_more Same at opening last next (first ∷ spans) [] span part h limit played atomic lawful held = absurd h
  played_more Same at opening last next (first ∷ spans) (front ∷ parts) span part h limit played atomic lawful held = (
    h.0,
    h.1,
    h.2,
    h.3,
    h.4,
    h.5,
    played_more Same (at + length first.steps) h.0 last next spans parts span part h.6 limit
        (subst (λ n. IsPlayed n span part.ops) (omega arith) played) atomic lawful held,
  )
