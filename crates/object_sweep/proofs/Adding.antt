-- What each step adds to the configurations.
use Rattle.std.proofs.Common.{◌≡◌, ℕ, ◌+◌, ◌<◌, ◌≤◌, Bool, true, false, ◌||◌, cond, nat_eq, List, [], ◌∷◌, ◌++◌, length, slice_get}
use Rattle.std.proofs.Common.{get_or, Option, None, Some, refl, sym, ◌∙◌, ap, subst, arith, ◌⊎◌, inl, inr}
use Rattle.std.proofs.lemmas.Bool.{cases_Bool, cases_lt}
use Rattle.std.proofs.lemmas.Option.{get_or_from_slice_get, same_Some, slice_get_within, slice_get-get_or}
use Rattle.std.specs.List.Sorted.{IsPermutation}
use Rattle.std.proofs.lemmas.List.Sorted.{Contains-permutation, IsPermutation-sym}
use Rattle.object_core.specs.declared.operation.Operation.{Operation}
use Rattle.object_sweep.specs.declared.configuration.Configuration.{Configuration}
use Rattle.object_sweep.specs.inner.Cuts.{EndsAt, IsLogCut}
use Rattle.object_sweep.specs.inner.Steps.{AnyCanFinish, AreExplored, AreSound, AreStarted, AreUnderWay, IsAdded, IsClosed}
use Rattle.object_sweep.specs.inner.Steps.{IsCopyAt, IsExplored, IsGrown, IsHandled, IsIdle, IsLeftOut, IsMadeOf, IsPassed, IsPureNext}
use Rattle.object_sweep.specs.inner.Steps.{NeedNotBeTried}
use Rattle.object_sweep.specs.inner.Steps.{IsPut, IsPutIn, IsSorted, IsSureAndPure, IsTried, IsVisited, made_by}
use Rattle.object_sweep.specs.inner.Steps.IsHandled.{Tries, Places as PlacesPure}
use Rattle.object_sweep.specs.inner.Steps.{IsPlacedFor, may_be_left_out, maybe_of, MayStandFor, StandsInFor, step_from}
use Rattle.object_sweep.specs.Reached.{AreApart, AreReachable, AreTooMany, is_closed, is_in, IsHeld, IsNextEnd, IsReachable, IsSameAs}
use Rattle.object_sweep.specs.Reached.{is_within}
use Rattle.object_sweep.specs.Reached.{without}
use Rattle.object_sweep.specs.Reached.IsReachable.{Places, Ends}
use Rattle.object_sweep.specs.Rests.{CanPlace, RunForwards}
use Rattle.object_sweep.proofs.Lists.{at_is_in, closed_behind, get_front, get_last, get_push, is_in_at, is_in_push, same_if, without_none}
use Rattle.object_sweep.proofs.Lists.{without_push}
use Rattle.object_sweep.proofs.Lists.{within_itself}
use Rattle.object_sweep.proofs.Placed.{same_number}
use Rattle.object_sweep.proofs.Cuts.{cut_unsure, cut_forwards, cut_handled, cut_next, cut_way}
use Rattle.object_sweep.proofs.Lacking.{lacking_of}
use Rattle.object_sweep.proofs.Covering.{all_sure}
use Rattle.object_sweep.proofs.Exact.{covered_finish, covered_rests, finished, same_finish}
use Rattle.object_sweep.specs.inner.Steps.{Covers, IsCovered, sure_at}
use Rattle.object_core.specs.Logs.{is_due}

module _ {S : Type 0} where
  turned_same : (one : Configuration S) (other : Configuration S) → IsSameAs one other.state other.placed.items →
      IsSameAs other one.state one.placed.items
  turned_same one other h = (sym h.0, h.2, h.1)

  pub of_same : (one : Configuration S) (s : S) (placed : List ℕ) → IsMadeOf one s placed → IsSameAs one s placed
  of_same one s placed h =
      let P : List ℕ → Type 0 = λ z. (is_within one.placed.items z ≡ true) × (is_within z one.placed.items ≡ true) in
      let w = subst P h.1 (within_itself one.placed.items, within_itself one.placed.items) in (h.0, w.0, w.1)

  -- what is held is held however it is named
  pub as_held : (held : List (Configuration S)) (one : Configuration S) (s : S) (placed : List ℕ) → IsMadeOf one s placed →
      IsHeld held s placed → IsHeld held one.state one.placed.items
  as_held held one s placed of h =
      let P : S → Type 0 = λ z. IsHeld held z one.placed.items in
      let Q : List ℕ → Type 0 = λ z. IsHeld held s z in subst P (sym of.0) (subst Q (sym of.1) h)

  pub same_grown : (old new : List (Configuration S)) → new ≡ old → IsGrown old new
  same_grown old new e i one h = ap (λ z. slice_get z i) e ∙ h

module _ {S : Type 0} (sure : ℕ → Bool) where
  -- the same one can do all of it
  pub same_covers : (one : Configuration S) (s : S) (placed : List ℕ) → IsSameAs one s placed → Covers sure one s placed
  same_covers one s placed h = (h.0, h.1, all_sure sure one.placed.items placed h.2)

  covers_itself : (one : Configuration S) (s : S) (placed : List ℕ) → IsMadeOf one s placed → Covers sure one s placed
  covers_itself one s placed of = same_covers one s placed (of_same one s placed of)

  pub held_covers : (held : List (Configuration S)) (s : S) (placed : List ℕ) → IsHeld held s placed → IsCovered sure held s placed
  held_covers held s placed h = (h.0, h.1, h.2, same_covers h.1 s placed h.3)

  -- what is held or covered is so however it is named
  pub covered_as : (held : List (Configuration S)) (one : Configuration S) (s : S) (placed : List ℕ) → IsMadeOf one s placed →
      IsCovered sure held one.state one.placed.items → IsCovered sure held s placed
  covered_as held one s placed of h =
      let P : S → Type 0 = λ z. IsCovered sure held z one.placed.items in
      let Q : List ℕ → Type 0 = λ z. IsCovered sure held s z in subst Q of.1 (subst P of.0 h)

  -- the same is held, or it is pushed
  pub added_held : (old : List (Configuration S)) (s : S) (placed : List ℕ) → IsCovered sure old s placed → IsAdded sure old s placed old
  added_held old s placed h = record { grown = λ i one e. e; held = h; from = λ i one e. inl (i, e); apart = λ a. a }

  pub added_push : (old : List (Configuration S)) (s : S) (placed : List ℕ) (one : Configuration S) → ¬ IsHeld old s placed →
      IsMadeOf one s placed → IsAdded sure old s placed (old ++ one ∷ [])
  added_push old s placed one not_held of = record {
    grown = get_front old (one ∷ []);
    held = (length old, one, get_last old one, covers_itself one s placed of);
    from = from;
    apart = apart;
  }
    where
      from : (i : ℕ) (other : Configuration S) → slice_get (old ++ one ∷ []) i ≡ Some other →
          ((j : ℕ) × (slice_get old j ≡ Some other)) ⊎ IsMadeOf other s placed
      from i other e = by_place (get_push old one i other e)
        where
          by_place : (slice_get old i ≡ Some other) ⊎ ((i ≡ length old) × (one ≡ other)) →
              ((j : ℕ) × (slice_get old j ≡ Some other)) ⊎ IsMadeOf other s placed
          by_place (inl f) = inl (i, f)
          by_place (inr f) = inr (subst (λ (z : Configuration S). IsMadeOf z s placed) f.1 of)

      as_held : (i : ℕ) (other : Configuration S) → slice_get old i ≡ Some other → IsSameAs other one.state one.placed.items → ⊥
      as_held i other e same =
          let P : S → Type 0 = λ z. other.state ≡ z in
          let Q : List ℕ → Type 0 = λ z. (is_within other.placed.items z ≡ true) × (is_within z other.placed.items ≡ true) in
          let w = subst Q of.1 (same.1, same.2) in not_held (i, other, e, (subst P of.0 same.0, w.0, w.1))

      apart : AreApart old → AreApart (old ++ one ∷ [])
      apart yet i j a b ea eb ne same = by_places (get_push old one i a ea) (get_push old one j b eb)
        where
          by_places : (slice_get old i ≡ Some a) ⊎ ((i ≡ length old) × (one ≡ a)) →
              (slice_get old j ≡ Some b) ⊎ ((j ≡ length old) × (one ≡ b)) → ⊥
          by_places (inl f) (inl g) = yet i j a b f g ne same
          by_places (inl f) (inr g) =
              let P : Configuration S → Type 0 = λ z. IsSameAs a z.state z.placed.items in as_held i a f (subst P (sym g.1) same)
          by_places (inr f) (inl g) =
              let P : Configuration S → Type 0 = λ z. IsSameAs b z.state z.placed.items in
              as_held j b g (subst P (sym f.1) (turned_same a b same))
          by_places (inr f) (inr g) = ne (f.0 ∙ sym g.0)

  -- lists that grow
  pub held_grown : (old new : List (Configuration S)) (s : S) (placed : List ℕ) → IsGrown old new → IsCovered sure old s placed →
      IsCovered sure new s placed
  held_grown old new s placed grown h = (h.0, h.1, grown h.0 h.1 h.2, h.3)

  pub put_in_grown : (b : Bool) (q : ℕ) (t : S) (placed : List ℕ) (waiting kept waiting' kept' : List (Configuration S)) →
      IsGrown waiting waiting' → IsGrown kept kept' → IsPutIn sure b q t placed waiting kept → IsPutIn sure b q t placed waiting' kept'
  put_in_grown true q t placed waiting kept waiting' kept' w k h = held_grown kept kept' t placed k h
  put_in_grown false q t placed waiting kept waiting' kept' w k h = held_grown waiting waiting' t (placed ++ q ∷ []) w h

  put_facts : (b : Bool) (q : ℕ) (t : S) (placed : List ℕ) (waiting kept waiting' kept' : List (Configuration S)) →
      IsPut sure b q t placed waiting kept waiting' kept' →
      IsGrown waiting waiting' × IsGrown kept kept' × IsPutIn sure b q t placed waiting' kept'
  put_facts true q t placed waiting kept waiting' kept' h = (same_grown waiting waiting' h.0, h.1.grown, h.1.held)
  put_facts false q t placed waiting kept waiting' kept' h = (h.1.grown, same_grown kept kept' h.0, h.1.held)

  tried_facts : (m : Option S) (ending : ℕ) (placed : List ℕ) (q : ℕ) (waiting kept waiting' kept' : List (Configuration S)) →
      IsTried sure m ending placed q waiting kept waiting' kept' → IsGrown waiting waiting' × IsGrown kept kept' ×
      ((t : S) → m ≡ Some t → IsPutIn sure (nat_eq q ending) q t placed waiting' kept')
  tried_facts None ending placed q waiting kept waiting' kept' h =
      (same_grown waiting waiting' h.0, same_grown kept kept' h.1, λ t e. cc)
  tried_facts (Some t) ending placed q waiting kept waiting' kept' h =
      let f = put_facts (nat_eq q ending) q t placed waiting kept waiting' kept' h in
      (f.0, f.1, λ u e. subst (λ z. IsPutIn sure (nat_eq q ending) q z placed waiting' kept') (same_Some t u e) f.2)

module _ {S W : Type 0} (sure : ℕ → Bool) (after : S → W → Option S) (opening : S) (log : List (Operation W)) where
  pub reached_of : (ended : List ℕ) (one : Configuration S) (s : S) (placed : List ℕ) → IsMadeOf one s placed →
      IsReachable after opening log ended s placed → IsReachable after opening log ended one.state one.placed.items
  reached_of ended one s placed of h =
      let P : S → Type 0 = λ z. IsReachable after opening log ended z one.placed.items in
      let Q : List ℕ → Type 0 = λ z. IsReachable after opening log ended s z in subst P (sym of.0) (subst Q (sym of.1) h)

  reached_more : (ended : List ℕ) (old new : List (Configuration S)) (s : S) (placed : List ℕ) → IsAdded sure old s placed new →
      AreReachable after opening log ended old → IsReachable after opening log ended s placed → AreReachable after opening log ended new
  reached_more ended old new s placed added yet h i one at = by_from (added.from i one at)
    where
      by_from : ((j : ℕ) × (slice_get old j ≡ Some one)) ⊎ IsMadeOf one s placed →
          IsReachable after opening log ended one.state one.placed.items
      by_from (inl f) = yet f.0 one f.1
      by_from (inr of) = reached_of ended one s placed of h

  sound_waiting : (ended : List ℕ) (ending : ℕ) (waiting kept waiting' : List (Configuration S)) (s : S) (placed : List ℕ) →
      IsAdded sure waiting s placed waiting' → IsReachable after opening log ended s placed → is_in ending placed ≡ false →
      AreSound after opening log ended ending waiting kept → AreSound after opening log ended ending waiting' kept
  sound_waiting ended ending waiting kept waiting' s placed added h lack yet = record {
    reached_waiting = reached_more ended waiting waiting' s placed added yet.reached_waiting h;
    lacking = lacking;
    reached_kept = yet.reached_kept;
    waiting_apart = added.apart yet.waiting_apart;
    kept_apart = yet.kept_apart;
  }
    where
      lacking : (i : ℕ) (one : Configuration S) → slice_get waiting' i ≡ Some one → is_in ending one.placed.items ≡ false
      lacking i one at = by_from (added.from i one at)
        where
          by_from : ((j : ℕ) × (slice_get waiting j ≡ Some one)) ⊎ IsMadeOf one s placed → is_in ending one.placed.items ≡ false
          by_from (inl f) = yet.lacking f.0 one f.1
          by_from (inr of) = ap (is_in ending) of.1 ∙ lack

  sound_kept : (ended : List ℕ) (ending : ℕ) (waiting kept kept' : List (Configuration S)) (s : S) (placed : List ℕ) →
      IsAdded sure kept s placed kept' → IsReachable after opening log (ending ∷ ended) s placed →
      AreSound after opening log ended ending waiting kept → AreSound after opening log ended ending waiting kept'
  sound_kept ended ending waiting kept kept' s placed added h yet = record {
    reached_waiting = yet.reached_waiting;
    lacking = yet.lacking;
    reached_kept = reached_more (ending ∷ ended) kept kept' s placed added yet.reached_kept h;
    waiting_apart = yet.waiting_apart;
    kept_apart = added.apart yet.kept_apart;
  }

  -- one that has the operation that ends is behind its end, also one that leaves it out
  behind_placed : (ended : List ℕ) (ending end : ℕ) (t : S) (placed : List ℕ) → IsNextEnd log ended ending end →
      IsReachable after opening log ended t (placed ++ ending ∷ []) → is_in ending placed ≡ false →
      IsReachable after opening log (ending ∷ ended) t placed
  behind_placed ended ending end t placed next h lack =
      let Q : List ℕ → Type 0 = λ z. IsReachable after opening log (ending ∷ ended) t z in
      let has : is_in ending (placed ++ ending ∷ []) ≡ true =
      is_in_push placed ending ending ∙ (ap (λ b. is_in ending placed || b) (same_number ending) ∙ ap (λ b. b || true) lack) in
      subst Q (without_push placed ending lack) (Ends ended (placed ++ ending ∷ []) t h ending end next (inl has))

  behind_left : (ended : List ℕ) (ending end : ℕ) (s : S) (placed : List ℕ) → IsNextEnd log ended ending end →
      IsReachable after opening log ended s placed → is_in ending placed ≡ false → may_be_left_out log ending ≡ true →
      IsReachable after opening log (ending ∷ ended) s placed
  behind_left ended ending end s placed next h lack may =
      let Q : List ℕ → Type 0 = λ z. IsReachable after opening log (ending ∷ ended) s z in
      let maybe : next.0.maybe ≡ true = sym (ap maybe_of next.1) ∙ may in
      subst Q (without_none placed ending lack) (Ends ended placed s h ending end next (inr (next.0, next.1, maybe)))

  -- what a step makes can be placed
  step_parts : (s : S) (placed : List ℕ) (q : ℕ) (t : S) → step_from after log s placed q ≡ Some t →
      (is_in q placed ≡ false) × (made_by after s (slice_get log q) ≡ Some t)
  step_parts s placed q t e = by_in (is_in q placed) refl e
    where
      by_in : (b : Bool) → is_in q placed ≡ b → cond b None (made_by after s (slice_get log q)) ≡ Some t →
          (is_in q placed ≡ false) × (made_by after s (slice_get log q) ≡ Some t)
      by_in true f g = cc
      by_in false f g = (f, g)

  made_parts : (s : S) (m : Option (Operation W)) (t : S) → made_by after s m ≡ Some t → (o : Operation W) × (m ≡ Some o)
      × (after s o.what ≡ Some t)
  made_parts s None t e = cc
  made_parts s (Some o) t e = (o, refl, e)

  placing : (ended under_way : List ℕ) (end : ℕ) → AreUnderWay log under_way ended end → (s : S) (placed : List ℕ) (n q : ℕ) (t : S) →
      slice_get under_way n ≡ Some q → step_from after log s placed q ≡ Some t → CanPlace after log (is_closed ended placed) end s q t
  placing ended under_way end way s placed n q t at e =
      let p = step_parts s placed q t e in
      let m = made_parts s (slice_get log q) t p.1 in
      let b = way.begun q (is_in_at under_way n q at) in
      let same : b.0 ≡ m.0 = same_Some b.0 m.0 (sym b.1 ∙ m.1) in
      let starts : m.0.starts ≤ end = subst (λ (z : Operation W). z.starts ≤ end) same b.2 in
      let free : is_closed ended placed q ≡ false = neither (is_in q ended) (is_in q placed) b.3 p.0 in
      (m.0, m.1, free, starts, m.2)
    where
      neither : (a b : Bool) → a ≡ false → b ≡ false → (a || b) ≡ false
      neither false b f g = g
      neither true b f g = cc

  put_sound : (ended under_way : List ℕ) (ending end : ℕ) → IsNextEnd log ended ending end → (s : S) (placed : List ℕ) (q : ℕ) (t : S) →
      CanPlace after log (is_closed ended placed) end s q t → IsReachable after opening log ended s placed → is_in ending placed ≡ false →
      (waiting kept waiting' kept' : List (Configuration S)) (b : Bool) → nat_eq q ending ≡ b →
      IsPut sure b q t placed waiting kept waiting' kept' → AreSound after opening log ended ending waiting kept →
      AreSound after opening log ended ending waiting' kept'
  put_sound ended under_way ending end next s placed q t can h lack waiting kept waiting' kept' true e put yet =
      let r = Places ended placed s h ending end q t next can in
      let Q : ℕ → Type 0 = λ z. IsReachable after opening log ended t (placed ++ z ∷ []) in
      let there = behind_placed ended ending end t placed next (subst Q (same_if q ending e) r) lack in
      let P : List (Configuration S) → Type 0 = λ z. AreSound after opening log ended ending z kept' in
      subst P (sym put.0) (sound_kept ended ending waiting kept kept' t placed put.1 there yet)
  put_sound ended under_way ending end next s placed q t can h lack waiting kept waiting' kept' false e put yet =
      let lacks : is_in ending (placed ++ q ∷ []) ≡ false =
      is_in_push placed q ending ∙ (ap (λ b. is_in ending placed || b) e ∙ ap (λ b. b || false) lack) in
      let P : List (Configuration S) → Type 0 = λ z. AreSound after opening log ended ending waiting' z in
      subst P (sym put.0) (sound_waiting ended ending waiting kept waiting' t (placed ++ q ∷ []) put.1
      (Places ended placed s h ending end q t next can) lacks yet)

  pub tried_sound : (ended under_way : List ℕ) (ending end : ℕ) → IsNextEnd log ended ending end → AreUnderWay log under_way ended end →
      (s : S) (placed : List ℕ) (n q : ℕ) → slice_get under_way n ≡ Some q → IsReachable after opening log ended s placed →
      is_in ending placed ≡ false → (waiting kept waiting' kept' : List (Configuration S)) (m : Option S) →
      step_from after log s placed q ≡ m → IsTried sure m ending placed q waiting kept waiting' kept' →
      AreSound after opening log ended ending waiting kept → AreSound after opening log ended ending waiting' kept'
  tried_sound ended under_way ending end next way s placed n q at h lack waiting kept waiting' kept' None e tried yet =
      let P : List (Configuration S) → Type 0 = λ z. AreSound after opening log ended ending z kept' in
      let Q : List (Configuration S) → Type 0 = λ z. AreSound after opening log ended ending waiting z in
      subst P (sym tried.0) (subst Q (sym tried.1) yet)
  tried_sound ended under_way ending end next way s placed n q at h lack waiting kept waiting' kept' (Some t) e tried yet =
      put_sound ended under_way ending end next s placed q t (placing ended under_way end way s placed n q t at e) h lack waiting kept
      waiting' kept' (nat_eq q ending) refl tried yet

  pub left_sound : (ended : List ℕ) (ending end : ℕ) → IsNextEnd log ended ending end → (s : S) (placed : List ℕ) →
      IsReachable after opening log ended s placed → is_in ending placed ≡ false → (waiting kept waiting' kept' : List (Configuration S))
      (b : Bool) → may_be_left_out log ending ≡ b → IsLeftOut sure b s placed waiting kept waiting' kept' →
      AreSound after opening log ended ending waiting kept → AreSound after opening log ended ending waiting' kept'
  left_sound ended ending end next s placed h lack waiting kept waiting' kept' true e left yet =
      let P : List (Configuration S) → Type 0 = λ z. AreSound after opening log ended ending z kept' in
      subst P (sym left.0) (sound_kept ended ending waiting kept kept' s placed left.1 (behind_left ended ending end s placed next h lack
      e) yet)
  left_sound ended ending end next s placed h lack waiting kept waiting' kept' false e left yet =
      let P : List (Configuration S) → Type 0 = λ z. AreSound after opening log ended ending z kept' in
      let Q : List (Configuration S) → Type 0 = λ z. AreSound after opening log ended ending waiting z in
      subst P (sym left.0) (subst Q (sym left.1) yet)

  sorted_sound : (ended : List ℕ) (ending end : ℕ) → IsNextEnd log ended ending end → (s : S) (placed : List ℕ) →
      IsReachable after opening log ended s placed → (waiting kept waiting' kept' : List (Configuration S))
      (b : Bool) → is_in ending placed ≡ b → IsSorted sure b ending s placed waiting kept waiting' kept' →
      AreSound after opening log ended ending waiting kept → AreSound after opening log ended ending waiting' kept'
  sorted_sound ended ending end next s placed h waiting kept waiting' kept' true e sorted yet =
      let P : List (Configuration S) → Type 0 = λ z. AreSound after opening log ended ending z kept' in
      subst P (sym sorted.0) (sound_kept ended ending waiting kept kept' s (without ending placed) sorted.1
      (Ends ended placed s h ending end next (inl e)) yet)
  sorted_sound ended ending end next s placed h waiting kept waiting' kept' false e sorted yet =
      let P : List (Configuration S) → Type 0 = λ z. AreSound after opening log ended ending waiting' z in
      subst P (sym sorted.0) (sound_waiting ended ending waiting kept waiting' s placed sorted.1 h e yet)

module _ {S W : Type 0} (sure : ℕ → Bool) (after : S → W → Option S) (log : List (Operation W)) where
  left_facts : (b : Bool) (s : S) (placed : List ℕ) (waiting kept waiting' kept' : List (Configuration S)) →
      IsLeftOut sure b s placed waiting kept waiting' kept' → IsGrown waiting waiting' × IsGrown kept kept' × (b ≡ true →
      IsCovered sure kept' s placed)
  left_facts true s placed waiting kept waiting' kept' h = (same_grown waiting waiting' h.0, h.1.grown, λ e. h.1.held)
  left_facts false s placed waiting kept waiting' kept' h = (same_grown waiting waiting' h.0, same_grown kept kept' h.1, λ e. cc)

  pub explored_none : (under_way : List ℕ) (ending : ℕ) (s : S) (placed : List ℕ) (waiting kept waiting' kept' : List (Configuration S)) →
      IsLeftOut sure (may_be_left_out log ending) s placed waiting kept waiting' kept' →
      IsExplored sure after log under_way ending s placed 0 waiting kept waiting' kept'
  explored_none under_way ending s placed waiting kept waiting' kept' h =
      let f = left_facts (may_be_left_out log ending) s placed waiting kept waiting' kept' h in
      record {
        grown_waiting = f.0;
        grown_kept = f.1;
        left_out = f.2;
        tried = λ j q t l. absurd (omega arith);
        sound = λ opening ended end next way r lack. left_sound sure after opening log ended ending end next s placed r lack waiting kept
            waiting' kept' (may_be_left_out log ending) refl h;
      }

  either_grown : (under_way : List ℕ) (ending q : ℕ) (t : S) (placed : List ℕ) (waiting kept waiting' kept' : List (Configuration S)) →
      IsGrown waiting waiting' → IsGrown kept kept' →
      IsIdle after (slice_get log q) ⊎ IsPlacedFor sure after log under_way ending placed q t waiting kept →
      IsIdle after (slice_get log q) ⊎ IsPlacedFor sure after log under_way ending placed q t waiting' kept'
  either_grown under_way ending q t placed waiting kept waiting' kept' w k (inl idle) = inl idle
  either_grown under_way ending q t placed waiting kept waiting' kept' w k (inr p) =
      inr (p.0, p.1, put_in_grown sure (nat_eq p.0 ending) p.0 t placed waiting kept waiting' kept' w k p.2)

  -- what is placed for another one leads to the same state
  made_for : (s t : S) (p q : ℕ) (m n : Option (Operation W)) → MayStandFor after p q m n → made_by after s n ≡ Some t →
      made_by after s m ≡ Some t
  made_for s t p q (Some a) (Some b) h e = h.0.same s ∙ e
  made_for s t p q (Some a) None h e = absurd h
  made_for s t p q None n h e = absurd h

  stepped_for : (under_way : List ℕ) (s : S) (placed : List ℕ) (r q : ℕ) (t : S) → StandsInFor after log under_way placed r q →
      step_from after log s placed q ≡ Some t → step_from after log s placed r ≡ Some t
  stepped_for under_way s placed r q t (inl same) e = ap (step_from after log s placed) same ∙ e
  stepped_for under_way s placed r q t (inr for) e =
      let p = step_parts sure after s log s placed q t e in
      ap (λ b. cond b None (made_by after s (slice_get log r))) for.1 ∙ made_for s t r q (slice_get log r) (slice_get log q) for.2 p.1

  pub place_for : (under_way placed : List ℕ) (n r q : ℕ) → slice_get under_way n ≡ Some q → StandsInFor after log under_way placed r q →
      (m : ℕ) × (slice_get under_way m ≡ Some r)
  place_for under_way placed n r q at (inl same) = (n, at ∙ ap Some (sym same))
  place_for under_way placed n r q at (inr for) = at_is_in under_way r for.0

  pub explored_more : (under_way : List ℕ) (ending : ℕ) (s : S) (placed : List ℕ) (n q r : ℕ) → slice_get under_way n ≡ Some q →
      StandsInFor after log under_way placed r q → (waiting kept waiting' kept' waiting'' kept'' : List (Configuration S)) →
      IsExplored sure after log under_way ending s placed n waiting kept waiting' kept' →
      IsTried sure (step_from after log s placed r) ending placed r waiting' kept' waiting'' kept'' →
      IsExplored sure after log under_way ending s placed (n + 1) waiting kept waiting'' kept''
  explored_more under_way ending s placed n q r at stands waiting kept waiting' kept' waiting'' kept'' yet h = record {
    grown_waiting = λ i one e. f.0 i one (yet.grown_waiting i one e);
    grown_kept = λ i one e. f.1 i one (yet.grown_kept i one e);
    left_out = λ e. held_grown sure kept' kept'' s placed f.1 (yet.left_out e);
    tried = tried;
    sound = λ opening ended end next way reached lack before. tried_sound sure after opening log ended under_way ending end next way s
        placed
        there.0 r there.1 reached lack waiting' kept' waiting'' kept'' (step_from after log s placed r) refl h
        (yet.sound opening ended end next way reached lack before);
  }
    where
      there : (m : ℕ) × (slice_get under_way m ≡ Some r)
      there = place_for under_way placed n r q at stands

      f : IsGrown waiting' waiting'' × IsGrown kept' kept'' ×
          ((t : S) → step_from after log s placed r ≡ Some t → IsPutIn sure (nat_eq r ending) r t placed waiting'' kept'')
      f = tried_facts sure (step_from after log s placed r) ending placed r waiting' kept' waiting'' kept'' h

      tried : (j p : ℕ) (t : S) → j < n + 1 → slice_get under_way j ≡ Some p → step_from after log s placed p ≡ Some t →
          IsIdle after (slice_get log p) ⊎ IsPlacedFor sure after log under_way ending placed p t waiting'' kept''
      tried j p t l at_p e = elim (cases_lt j n) [
        | inl less ↦ either_grown under_way ending p t placed waiting' kept' waiting'' kept'' f.0 f.1 (yet.tried j p t less at_p e)
        | inr le ↦
            let same : j ≡ n = omega arith in
            let one : q ≡ p = same_Some q p (sym at ∙ (ap (slice_get under_way) (sym same) ∙ at_p)) in
            let P : ℕ → Type 0 = λ z. IsPlacedFor sure after log under_way ending placed z t waiting'' kept'' in
            let step_q : step_from after log s placed q ≡ Some t = ap (step_from after log s placed) one ∙ e in
            inr (subst P one (r, stands, f.2 t (stepped_for under_way s placed r q t stands step_q)))
      ]

  explored_as : (under_way : List ℕ) (ending : ℕ) (s : S) (placed : List ℕ) (n q : ℕ) → slice_get under_way n ≡ Some q →
      (waiting kept waiting' kept' : List (Configuration S)) →
      IsExplored sure after log under_way ending s placed n waiting kept waiting' kept' →
      ((t : S) → step_from after log s placed q ≡ Some t →
      IsIdle after (slice_get log q) ⊎ IsPlacedFor sure after log under_way ending placed q t waiting' kept') →
      IsExplored sure after log under_way ending s placed (n + 1) waiting kept waiting' kept'
  explored_as under_way ending s placed n q at waiting kept waiting' kept' yet one_more = record {
    grown_waiting = yet.grown_waiting;
    grown_kept = yet.grown_kept;
    left_out = yet.left_out;
    tried = tried;
    sound = yet.sound;
  }
    where
      tried : (j r : ℕ) (t : S) → j < n + 1 → slice_get under_way j ≡ Some r → step_from after log s placed r ≡ Some t →
          IsIdle after (slice_get log r) ⊎ IsPlacedFor sure after log under_way ending placed r t waiting' kept'
      tried j r t l there e = elim (cases_lt j n) [
        | inl less ↦ yet.tried j r t less there e
        | inr le ↦
            let same : j ≡ n = omega arith in
            let one : q ≡ r = same_Some q r (sym at ∙ (ap (slice_get under_way) (sym same) ∙ there)) in
            let P : ℕ → Type 0 = λ z.
            IsIdle after (slice_get log z) ⊎ IsPlacedFor sure after log under_way ending placed z t waiting' kept' in
            subst P one (one_more t (ap (step_from after log s placed) one ∙ e))
      ]

  -- each of these is under way, isn't placed, and what it leads to is held
  abbrev pub AreHeldFor : List ℕ → ℕ → S → List ℕ → List ℕ → List (Configuration S) → List (Configuration S) → Type 0
  AreHeldFor under_way ending s placed tried waiting kept = (i r : ℕ) → slice_get tried i ≡ Some r →
      (is_in r under_way ≡ true) × (is_in r placed ≡ false)
      × ((t : S) → step_from after log s placed r ≡ Some t → IsPutIn sure (nat_eq r ending) r t placed waiting kept)

  pub held_for_none : (under_way : List ℕ) (ending : ℕ) (s : S) (placed tried : List ℕ) (waiting kept : List (Configuration S)) →
      tried ≡ [] → AreHeldFor under_way ending s placed tried waiting kept
  held_for_none under_way ending s placed tried waiting kept none i r at =
      let e : None ≡ Some r = sym (ap (λ z. slice_get z i) none) ∙ at in cc

  pub held_for_more : (under_way : List ℕ) (ending : ℕ) (s : S) (placed : List ℕ) (n q r : ℕ) → slice_get under_way n ≡ Some q →
      is_in q placed ≡ false → StandsInFor after log under_way placed r q → (tried : List ℕ)
      (waiting' kept' waiting'' kept'' : List (Configuration S)) → AreHeldFor under_way ending s placed tried waiting' kept' →
      IsTried sure (step_from after log s placed r) ending placed r waiting' kept' waiting'' kept'' →
      AreHeldFor under_way ending s placed (tried ++ r ∷ []) waiting'' kept''
  held_for_more under_way ending s placed n q r at free stands tried waiting' kept' waiting'' kept'' yet h i p there =
      elim (get_push tried r i p there) [
        | inl old ↦
            let y = yet i p old in
            (y.0, y.1, λ t e. put_in_grown sure (nat_eq p ending) p t placed waiting' kept' waiting'' kept'' f.0 f.1 (y.2 t e))
        | inr new ↦
            let P : ℕ → Type 0 = λ z. (is_in z under_way ≡ true) × (is_in z placed ≡ false)
            × ((t : S) → step_from after log s placed z ≡ Some t → IsPutIn sure (nat_eq z ending) z t placed waiting'' kept'') in
            subst P new.1 (under, open_yet stands, f.2)
      ]
    where
      f : IsGrown waiting' waiting'' × IsGrown kept' kept'' ×
          ((t : S) → step_from after log s placed r ≡ Some t → IsPutIn sure (nat_eq r ending) r t placed waiting'' kept'')
      f = tried_facts sure (step_from after log s placed r) ending placed r waiting' kept' waiting'' kept'' h

      there_is : (m : ℕ) × (slice_get under_way m ≡ Some r)
      there_is = place_for under_way placed n r q at stands

      under : is_in r under_way ≡ true
      under = is_in_at under_way there_is.0 r there_is.1

      open_yet : StandsInFor after log under_way placed r q → is_in r placed ≡ false
      open_yet (inl same) = ap (λ z. is_in z placed) same ∙ free
      open_yet (inr for) = for.1

  pub explored_needless : (under_way : List ℕ) (ending : ℕ) (s : S) (placed : List ℕ) (n q : ℕ) (tried : List ℕ) →
      slice_get under_way n ≡ Some q → NeedNotBeTried after log placed tried q → (waiting kept waiting' kept' : List (Configuration S)) →
      AreHeldFor under_way ending s placed tried waiting' kept' →
      IsExplored sure after log under_way ending s placed n waiting kept waiting' kept' →
      IsExplored sure after log under_way ending s placed (n + 1) waiting kept waiting' kept'
  explored_needless under_way ending s placed n q tried at (inr (inl idle)) waiting kept waiting' kept' held yet =
      explored_as under_way ending s placed n q at waiting kept waiting' kept' yet (λ t e. inl idle)
  explored_needless under_way ending s placed n q tried at (inl there) waiting kept waiting' kept' held yet =
      explored_as under_way ending s placed n q at waiting kept waiting' kept' yet (λ t e.
      let p = step_parts sure after s log s placed q t e in absurd (both there p.0))
    where
      both : is_in q placed ≡ true → is_in q placed ≡ false → ⊥
      both t f = cc
  explored_needless under_way ending s placed n q tried at (inr (inr one)) waiting kept waiting' kept' held yet =
      explored_as under_way ending s placed n q at waiting kept waiting' kept' yet (λ t e.
      let h = held one.0 one.1 one.2 in
      let stands : StandsInFor after log under_way placed one.1 q = inr (h.0, h.1, one.3) in
      inr (one.1, stands, h.2 t (stepped_for under_way s placed one.1 q t stands e)))

  handled_grown : (under_way : List ℕ) (ending : ℕ) (s : S) (placed : List ℕ) (waiting kept waiting' kept' : List (Configuration S)) →
      IsGrown waiting waiting' → IsGrown kept kept' → IsHandled sure after log under_way ending s placed waiting kept →
      IsHandled sure after log under_way ending s placed waiting' kept'
  handled_grown under_way ending s placed waiting kept waiting' kept' w k (Tries h) = Tries (record {
    left_out = λ e. held_grown sure kept kept' s placed k (h.left_out e);
    tried = λ j q t at e. either_grown under_way ending q t placed waiting kept waiting' kept' w k (h.tried j q t at e);
  })
  handled_grown under_way ending s placed waiting kept waiting' kept' w k (PlacesPure q o t at is pure there free step put) =
      PlacesPure q o t at is pure there free step (put_in_grown sure (nat_eq q ending) q t placed waiting kept waiting' kept' w k put)

  -- one configuration is explored: all is tried, or a pure operation is placed
  pub visited_all : (under_way : List ℕ) (ending : ℕ) (s : S) (placed : List ℕ) (waiting kept waiting' kept' : List (Configuration S)) →
      IsExplored sure after log under_way ending s placed (length under_way) waiting kept waiting' kept' →
      IsVisited sure after log under_way ending s placed waiting kept waiting' kept'
  visited_all under_way ending s placed waiting kept waiting' kept' h = record {
    grown_waiting = h.grown_waiting;
    grown_kept = h.grown_kept;
    handled = Tries (record {
      left_out = h.left_out;
      tried = λ j q t at e. h.tried j q t (slice_get_within under_way j q at) at e;
    });
    sound = h.sound;
  }

  pub visited_pure : (under_way : List ℕ) (ending : ℕ) (s : S) (placed : List ℕ) (q : ℕ) → sure q ≡ true →
      IsPureNext after log under_way s placed q → (waiting kept waiting' kept' : List (Configuration S)) →
      IsTried sure (step_from after log s placed q) ending placed q waiting kept waiting' kept' →
      IsVisited sure after log under_way ending s placed waiting kept waiting' kept'
  visited_pure under_way ending s placed q is next waiting kept waiting' kept' h = record {
    grown_waiting = f.0;
    grown_kept = f.1;
    handled = PlacesPure q m.0 next.1 m.1 is pure.1 (is_in_at under_way next.0 q next.2) p.0 m.2 (f.2 next.1 next.4);
    sound = λ opening ended end next_end way r lack. tried_sound sure after opening log ended under_way ending end next_end way s placed
        next.0 q next.2 r lack waiting kept waiting' kept' (step_from after log s placed q) refl h;
  }
    where
      f : IsGrown waiting waiting' × IsGrown kept kept' ×
          ((t : S) → step_from after log s placed q ≡ Some t → IsPutIn sure (nat_eq q ending) q t placed waiting' kept')
      f = tried_facts sure (step_from after log s placed q) ending placed q waiting kept waiting' kept' h

      p : (is_in q placed ≡ false) × (made_by after s (slice_get log q) ≡ Some next.1)
      p = step_parts sure after s log s placed q next.1 next.4

      m : (o : Operation W) × (slice_get log q ≡ Some o) × (after s o.what ≡ Some next.1)
      m = made_parts sure after s log s (slice_get log q) next.1 p.1

      pure : IsSureAndPure after (Some m.0)
      pure = subst (λ (z : Option (Operation W)). IsSureAndPure after z) m.1 next.3

  pub explored_first : (under_way : List ℕ) (ending : ℕ) (waiting kept : List (Configuration S)) →
      AreExplored sure after log under_way ending 0 waiting kept waiting kept
  explored_first under_way ending waiting kept = record {
    grown_waiting = λ i one e. e;
    grown_kept = λ i one e. e;
    handled = λ i one l. absurd (omega arith);
    sound = λ opening ended end next way yet. yet;
  }

  pub explored_next : (under_way : List ℕ) (ending n : ℕ) (from : Configuration S)
      (waiting kept waiting' kept' waiting'' kept'' : List (Configuration S)) →
      AreExplored sure after log under_way ending n waiting kept waiting' kept' → IsCopyAt waiting' n from →
      IsVisited sure after log under_way ending from.state from.placed.items waiting' kept' waiting'' kept'' →
      AreExplored sure after log under_way ending (n + 1) waiting kept waiting'' kept''
  explored_next under_way ending n from waiting kept waiting' kept' waiting'' kept'' yet copy h = record {
    grown_waiting = λ i one e. h.grown_waiting i one (yet.grown_waiting i one e);
    grown_kept = λ i one e. h.grown_kept i one (yet.grown_kept i one e);
    handled = handled;
    sound = λ opening ended end next way before.
        let now = yet.sound opening ended end next way before in
        h.sound opening ended end next way (reached_of sure after opening log ended from copy.0.state copy.0.placed.items copy.2
        (now.reached_waiting n copy.0 copy.1)) (ap (is_in ending) copy.2.1 ∙ now.lacking n copy.0 copy.1) now;
  }
    where
      there : IsHandled sure after log under_way ending copy.0.state copy.0.placed.items waiting'' kept''
      there =
          let P : S → Type 0 = λ z. IsHandled sure after log under_way ending z copy.0.placed.items waiting'' kept'' in
          let Q : List ℕ → Type 0 = λ z. IsHandled sure after log under_way ending from.state z waiting'' kept'' in
          subst P copy.2.0 (subst Q copy.2.1 h.handled)

      handled : (i : ℕ) (one : Configuration S) → i < n + 1 → slice_get waiting'' i ≡ Some one →
          IsHandled sure after log under_way ending one.state one.placed.items waiting'' kept''
      handled i one l at = elim (cases_lt i n) [
        | inl less ↦
            let m : n < length waiting' = slice_get_within waiting' n copy.0 copy.1 in
            let old : slice_get waiting' i ≡ Some (get_or waiting' i one) = slice_get-get_or waiting' i one (omega arith) in
            let same : get_or waiting' i one ≡ one = same_Some (get_or waiting' i one) one (sym (h.grown_waiting i (get_or waiting' i one)
            old) ∙ at) in
            let was : slice_get waiting' i ≡ Some one = old ∙ ap Some same in
            handled_grown under_way ending one.state one.placed.items waiting' kept' waiting'' kept'' h.grown_waiting h.grown_kept
            (yet.handled i one less was)
        | inr le ↦
            let same : i ≡ n = omega arith in
            let e : copy.0 ≡ one = same_Some copy.0 one (sym (h.grown_waiting n copy.0 copy.1) ∙ (ap (slice_get waiting'') (sym same)
            ∙ at)) in
            let P : Configuration S → Type 0 = λ z. IsHandled sure after log under_way ending z.state z.placed.items waiting'' kept'' in
            subst P e there
      ]

  -- as many are explored as wait
  pub closed : (under_way : List ℕ) (ending budget n : ℕ) (waiting kept waiting' kept' : List (Configuration S)) →
      AreExplored sure after log under_way ending n waiting kept waiting' kept' → length waiting' ≤ n → (b : Bool) →
      (b ≡ false → budget < length kept') → IsClosed sure after log under_way ending budget waiting kept waiting' kept' b
  closed under_way ending budget n waiting kept waiting' kept' h few true many = record {
    grown_waiting = h.grown_waiting;
    grown_kept = h.grown_kept;
    handled = λ i one l at. h.handled i one (omega (arith, l, few)) at;
    sound = h.sound;
  }
  closed under_way ending budget n waiting kept waiting' kept' h few false many = (n, h, inr (many refl))

  pub started_none : (ending : ℕ) (configurations : List (Configuration S)) → AreStarted sure after log ending 0 configurations [] []
  started_none ending configurations = record {
    held = λ i one l. absurd (omega arith);
    sound = λ opening ended end next reached. record {
      reached_waiting = λ i one e. cc;
      lacking = λ i one e. cc;
      reached_kept = λ i one e. cc;
      waiting_apart = λ i j a b e. cc;
      kept_apart = λ i j a b e. cc;
    };
  }

  sorted_facts : (b : Bool) (ending : ℕ) (s : S) (placed : List ℕ) (waiting kept waiting' kept' : List (Configuration S)) →
      IsSorted sure b ending s placed waiting kept waiting' kept' → IsGrown waiting waiting' × IsGrown kept kept' ×
      (b ≡ true → IsCovered sure kept' s (without ending placed)) × (b ≡ false → IsCovered sure waiting' s placed)
  sorted_facts true ending s placed waiting kept waiting' kept' h =
      (same_grown waiting waiting' h.0, h.1.grown, λ e. h.1.held, λ e. cc)
  sorted_facts false ending s placed waiting kept waiting' kept' h =
      (h.1.grown, same_grown kept kept' h.0, λ e. cc, λ e. h.1.held)

  pub started_more : (ending n : ℕ) (configurations : List (Configuration S)) (one : Configuration S) →
      slice_get configurations n ≡ Some one → (waiting kept waiting' kept' : List (Configuration S)) →
      AreStarted sure after log ending n configurations waiting kept →
      IsSorted sure (is_in ending one.placed.items) ending one.state one.placed.items waiting kept waiting' kept' →
      AreStarted sure after log ending (n + 1) configurations waiting' kept'
  started_more ending n configurations one at waiting kept waiting' kept' yet h = record {
    held = held;
    sound = λ opening ended end next reached. sorted_sound sure after opening log ended ending end next one.state one.placed.items
        (reached n one at) waiting kept waiting' kept' (is_in ending one.placed.items) refl h (yet.sound opening ended end next reached);
  }
    where
      f : IsGrown waiting waiting' × IsGrown kept kept' ×
          (is_in ending one.placed.items ≡ true → IsCovered sure kept' one.state (without ending one.placed.items)) ×
          (is_in ending one.placed.items ≡ false → IsCovered sure waiting' one.state one.placed.items)
      f = sorted_facts (is_in ending one.placed.items) ending one.state one.placed.items waiting kept waiting' kept' h

      held : (i : ℕ) (other : Configuration S) → i < n + 1 → slice_get configurations i ≡ Some other →
          (is_in ending other.placed.items ≡ true → IsCovered sure kept' other.state (without ending other.placed.items)) ×
          (is_in ending other.placed.items ≡ false → IsCovered sure waiting' other.state other.placed.items)
      held i other l there = elim (cases_lt i n) [
        | inl less ↦ (
          λ e.
              held_grown sure kept kept' other.state (without ending other.placed.items) f.1 ((yet.held i other less there).0 e),
          λ e.
              held_grown sure waiting waiting' other.state other.placed.items f.0 ((yet.held i other less there).1 e),
        )
        | inr le ↦
            let same : i ≡ n = omega arith in
            let e : one ≡ other = same_Some one other (sym at ∙ (ap (slice_get configurations) (sym same) ∙ there)) in
            let P : Configuration S → Type 0 = λ z.
            (is_in ending z.placed.items ≡ true → IsCovered sure kept' z.state (without ending z.placed.items)) ×
            (is_in ending z.placed.items ≡ false → IsCovered sure waiting' z.state z.placed.items) in
            subst P e (f.2, f.3)
      ]

-- behind an end, where what is sure is so by the log
module _ {S W : Type 0} (after : S → W → Option S) (log : List (Operation W)) where
  pub passed : (under_way : List ℕ) (ending : ℕ) (configurations first first' waiting kept : List (Configuration S)) →
      AreStarted (sure_at log) after log ending (length configurations) configurations first first' →
      AreExplored (sure_at log) after log under_way ending (length waiting) first first' waiting kept →
      IsPassed true after log under_way ending configurations kept
  passed under_way ending configurations first first' waiting kept started explored = record {
    reached = λ opening ended end next way reached. (explored.sound opening ended end next way (started.sound opening ended end next
        reached)).reached_kept;
    complete = λ whole. complete;
  }
    where
      complete : (opening : S) (ended : List ℕ) (end : ℕ) → RunForwards log → IsNextEnd log ended ending end →
          AreUnderWay log under_way ended end → AreReachable after opening log ended configurations →
          (cut : List (Operation W)) → IsLogCut log cut → EndsAt cut ending end →
          AnyCanFinish after cut ended configurations → AnyCanFinish after cut (ending ∷ ended) kept
      complete opening ended end forwards next way reached cut is ends any = by_in (cases_Bool (is_in ending any.1.placed.items))
        where
          unsure : (q : ℕ) (o : Operation W) → slice_get cut q ≡ Some o → sure_at log q ≡ false → is_due o ≡ false
          unsure = cut_unsure log cut is

          start : (is_in ending any.1.placed.items ≡ true →
              IsCovered (sure_at log) first' any.1.state (without ending any.1.placed.items)) ×
              (is_in ending any.1.placed.items ≡ false → IsCovered (sure_at log) first any.1.state any.1.placed.items)
          start = started.held any.0 any.1 (slice_get_within configurations any.0 any.1 any.2) any.2

          by_in : (is_in ending any.1.placed.items ≡ true) ⊎ (is_in ending any.1.placed.items ≡ false) →
              AnyCanFinish after cut (ending ∷ ended) kept
          by_in (inl e) =
              covered_finish after cut (sure_at log) unsure (ending ∷ ended) kept any.1.state (without ending any.1.placed.items)
              (held_grown (sure_at log) first' kept any.1.state (without ending any.1.placed.items) explored.grown_kept (start.0 e))
              (same_finish after cut (is_closed ended any.1.placed.items) (is_closed (ending ∷ ended) (without ending any.1.placed.items))
              (λ z. sym (closed_behind ended any.1.placed.items ending z e)) any.1.state any.3)
          by_in (inr e) =
              let snd = explored.sound opening ended end next way (started.sound opening ended end next reached) in
              let w = held_grown (sure_at log) first waiting any.1.state any.1.placed.items explored.grown_waiting (start.1 e) in
              let r = covered_rests after cut (sure_at log) unsure ended w.1 any.1.state any.1.placed.items w.3 any.3.0 any.3.1 in
              finished after cut (sure_at log) unsure (cut_forwards log cut is forwards) ended ending end (cut_next log cut is ended ending
              end next ends)
              under_way (cut_way log cut is under_way ended end way) waiting kept snd.lacking
              (λ i one at. cut_handled log cut is after (sure_at log) under_way ending one.state one.placed.items waiting kept
              (explored.handled i one (slice_get_within waiting i one at) at)) (length any.3.0 + lacking_of (sure_at log) under_way
              w.1.placed.items)
              w.0 w.1 w.2 any.3.0 r (omega arith)

  -- in another sequence they are the same
  pub passed_in_order : (under_way : List ℕ) (ending : ℕ) (configurations kept kept' : List (Configuration S)) → IsPermutation kept kept' →
      (w : Bool) → IsPassed w after log under_way ending configurations kept → IsPassed w after log under_way ending configurations kept'
  passed_in_order under_way ending configurations kept kept' same w h = record {
    reached = λ opening ended end next way reached i one at.
        let m = moved kept' kept (IsPermutation-sym kept kept' same) i one at in
        h.reached opening ended end next way reached m.0 one m.1;
    complete = λ whole opening ended end forwards next way reached cut is ends any.
        let k = h.complete whole opening ended end forwards next way reached cut is ends any in
        let m = moved kept kept' same k.0 k.1 k.2 in (m.0, k.1, m.1, k.3);
  }
    where
      moved : (old new : List (Configuration S)) → IsPermutation old new → (i : ℕ) (one : Configuration S) →
          slice_get old i ≡ Some one → (j : ℕ) × (slice_get new j ≡ Some one)
      moved old new p i one at =
          let there = slice_get_within old i one at in
          let c = Contains-permutation old new one p (i, there, get_or_from_slice_get old i one one at) in
          (c.0, slice_get-get_or new c.0 one c.1 ∙ ap Some c.2)

  pub too_many : (under_way : List ℕ) (ending budget n : ℕ) (configurations first first' waiting kept : List (Configuration S)) →
      AreStarted (sure_at log) after log ending (length configurations) configurations first first' →
      AreExplored (sure_at log) after log under_way ending n first first' waiting kept →
      (budget < length waiting) ⊎ (budget < length kept) →
      (opening : S) (ended : List ℕ) (end : ℕ) → IsNextEnd log ended ending end → AreUnderWay log under_way ended end →
      AreReachable after opening log ended configurations → AreTooMany after opening log budget ending
  too_many under_way ending budget n configurations first first' waiting kept started explored more opening ended end next way reached =
      by_set more
    where
      now : AreSound after opening log ended ending waiting kept
      now = explored.sound opening ended end next way (started.sound opening ended end next reached)

      by_set : (budget < length waiting) ⊎ (budget < length kept) → AreTooMany after opening log budget ending
      by_set (inl l) = record {
        ended = ended;
        end = end;
        next = next;
        held = waiting;
        more = l;
        apart = now.waiting_apart;
        reached = inl now.reached_waiting;
      }
      by_set (inr l) = record {
        ended = ended;
        end = end;
        next = next;
        held = kept;
        more = l;
        apart = now.kept_apart;
        reached = inr now.reached_kept;
      }
