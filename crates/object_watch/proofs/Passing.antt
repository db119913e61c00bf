-- From what is held at an end to what is kept behind it.
use Rattle.std.proofs.Common.{◌≡◌, ℕ, ◌+◌, ◌<◌, ◌≤◌, List, length, slice_get, get_or, Option, None, Some, sym, ◌∙◌, ap, subst, arith}
use Rattle.std.proofs.Common.{inl, inr}
use Rattle.std.proofs.lemmas.Bool.{cases_lt}
use Rattle.std.proofs.lemmas.Option.{same_Some, slice_get_within, slice_get-get_or}
use Rattle.object_core.specs.declared.operation.Operation.{Operation}
use Rattle.object_watch.specs.Remainders.{AnyLawfulWith, AreAhead, AreLedTo, ComesFrom, IsAhead, IsLawfulWith, IsOneOfLog, IsOfOne, removed}
use Rattle.object_watch.specs.Remainders.{IsLedTo}
use Rattle.object_watch.specs.Remainders.IsLedTo.{Held, Leads}
use Rattle.object_watch.specs.declared.remainder.Remainder.{Remainder}
use Rattle.object_watch.specs.inner.Levels.{AreLeftBehind, IsCopiedAt, IsEnding, IsEndingAt, AreStillThere, IsSeenTo, IsLeftBy}
use Rattle.object_watch.specs.inner.Levels.{IsLookedInto}
use Rattle.object_watch.proofs.Closed.{closed}
use Rattle.object_watch.proofs.Going.{goes_by_end}
use Rattle.object_watch.proofs.Growing.{still_handled}
use Rattle.object_watch.proofs.Removing.{get_up, up}

module _ {W : Type 0} (end : ℕ) where
  -- what is left of a list
  left_of : (rest less : List (Operation W)) (q : ℕ) → less ≡ removed q rest → (i : ℕ) (o : Operation W) → slice_get less i ≡ Some o →
      slice_get rest (up q i) ≡ Some o
  left_of rest less q l i o e = sym (get_up q rest i) ∙ (ap (λ zs. slice_get zs i) (sym l) ∙ e)

  ahead_less : (rest less : List (Operation W)) (q : ℕ) → less ≡ removed q rest → IsAhead end rest → IsAhead end less
  ahead_less rest less q l h = record {
    ends = λ p at o e f. h.ends (up q p) at o (left_of rest less q l p o e) f;
    forwards = λ p at o e f. h.forwards (up q p) at o (left_of rest less q l p o e) f;
  }

  -- what is ahead and doesn't end then
  ahead_later : (rest : List (Operation W)) → IsAhead end rest → IsEnding rest end None → IsAhead (end + 1) rest
  ahead_later rest h none = record { ends = ends; forwards = h.forwards }
    where
      ends : (p at : ℕ) (o : Operation W) → slice_get rest p ≡ Some o → o.ends ≡ Some at → end + 1 ≤ at
      ends p at o e f = elim (cases_lt end at) [
        | inl l ↦ omega (arith, l)
        | inr le ↦
            let least = h.ends p at o e f in
            let same : at ≡ end = omega (arith, le, least) in absurd (none p (o, e, f ∙ ap Some same))
      ]

module _ {S W : Type 0} (after : S → W → Option S) (end : ℕ) (held : List (Remainder S W)) where
  -- it is left of what is held: it is ahead, has no other operations, and a lawful order of it begins one of what is held
  record IsReached (s : S) (rest : List (Operation W)) : Type 0 where
    ahead : IsAhead end rest
    of : (o : Operation W) → IsOneOfLog rest o → IsOfOne held o
    led : IsLedTo after held s
    sound : (future : List (Operation W)) (last : ℕ) → ComesFrom (end + 1) last future → IsLawfulWith after future last s rest →
        AnyLawfulWith after future last held

  reached_first : AreAhead end held → (i : ℕ) (one : Remainder S W) → slice_get held i ≡ Some one → IsReached one.state one.rest.items
  reached_first ahead i one e = record {
    ahead = ahead i one e;
    of = λ o x. (i, one, e, x);
    led = Held i one e;
    sound = λ future last is h. (i, one, e, h);
  }

  reached_left : (s : S) (rest : List (Operation W)) (t : S) (less : List (Operation W)) (p : ℕ) → IsEndingAt rest end p →
      IsLeftBy after end s rest t less → IsReached s rest → IsReached t less
  reached_left s rest t less p ends (inl (q, a, at, began, step, same)) h = record {
    ahead = ahead_less end rest less q same h.ahead;
    of = λ o x. h.of o (up q x.0, left_of end rest less q same x.0 o x.1);
    led = Leads s t a h.led (h.of a (q, at)) step;
    sound = sound;
  }
    where
      sound : (future : List (Operation W)) (last : ℕ) → ComesFrom (end + 1) last future → IsLawfulWith after future last t less →
          AnyLawfulWith after future last held
      sound future last is g =
          let m : IsLawfulWith after future last t (removed q rest) = subst (IsLawfulWith after future last t) same g in
          h.sound future last is ((goes_by_end after end last future is s rest h.ahead p ends.0 ends.1 ends.2).1
          (inr (q, a, t, at, began, step, m)))
  reached_left s rest t less p ends (inr (q, o, at, ending, may, still, same)) h = record {
    ahead = ahead_less end rest less q same h.ahead;
    of = λ o x. h.of o (up q x.0, left_of end rest less q same x.0 o x.1);
    led = subst (IsLedTo after held) (sym still) h.led;
    sound = sound;
  }
    where
      sound : (future : List (Operation W)) (last : ℕ) → ComesFrom (end + 1) last future → IsLawfulWith after future last t less →
          AnyLawfulWith after future last held
      sound future last is g =
          let P : S → Type 0 = λ z. IsLawfulWith after future last z (removed q rest) in
          let m : IsLawfulWith after future last s (removed q rest) = subst P still (subst (IsLawfulWith after future last t) same g) in
          h.sound future last is ((goes_by_end after end last future is s rest h.ahead q o at ending).1 (inl (may, m)))

  -- what a pass keeps: those before the n-th are visited
  pub record IsPassing (n : ℕ) (seen kept : List (Remainder S W)) : Type 0 where
    start : AreStillThere held seen
    reached : (i : ℕ) (one : Remainder S W) → slice_get seen i ≡ Some one → IsReached one.state one.rest.items
    behind : (i : ℕ) (one : Remainder S W) → slice_get kept i ≡ Some one → IsReached one.state one.rest.items
        × IsEnding one.rest.items end None
    handled : (i : ℕ) (one : Remainder S W) → i < n → slice_get seen i ≡ Some one →
        IsSeenTo after end one.state one.rest.items seen kept

  pub passing_none : (kept : List (Remainder S W)) → ((i : ℕ) (one : Remainder S W) → slice_get kept i ≡ Some one → ⊥) → AreAhead end held →
      IsPassing 0 held kept
  passing_none kept none ahead = record {
    start = λ i one e. e;
    reached = reached_first ahead;
    behind = λ i one e. absurd (none i one e);
    handled = λ i one l e. absurd (omega (arith, l));
  }

  module _ (n : ℕ) (seen kept seen' kept' : List (Remainder S W)) (h : IsPassing n seen kept) where
    visited_more : (one : Remainder S W) → slice_get seen n ≡ Some one →
        IsLookedInto after end one.state one.rest.items seen kept seen' kept' → IsPassing (n + 1) seen' kept'
    visited_more one at v = record {
      start = λ i x e. v.seen_still i x (h.start i x e);
      reached = reached;
      behind = behind;
      handled = handled;
    }
      where
        it : IsReached one.state one.rest.items
        it = h.reached n one at

        reached : (i : ℕ) (x : Remainder S W) → slice_get seen' i ≡ Some x → IsReached x.state x.rest.items
        reached i x e = elim (v.seen_from i x e) [
          | inl was ↦ h.reached i x was
          | inr y ↦ reached_left one.state one.rest.items x.state x.rest.items y.0.0 y.0.1 y.1 it
        ]

        behind : (i : ℕ) (x : Remainder S W) → slice_get kept' i ≡ Some x → IsReached x.state x.rest.items
            × IsEnding x.rest.items end None
        behind i x e = elim (v.kept_from i x e) [
          | inl was ↦ h.behind i x was
          | inr y ↦
              let P : S → Type 0 = λ z. IsReached z x.rest.items in
              let Q : List (Operation W) → Type 0 = λ z. IsReached one.state z in
              let R : List (Operation W) → Type 0 = λ z. IsEnding z end None in
              (subst P (sym y.1) (subst Q (sym y.2) it), subst R (sym y.2) y.0)
        ]

        handled : (i : ℕ) (x : Remainder S W) → i < n + 1 → slice_get seen' i ≡ Some x →
            IsSeenTo after end x.state x.rest.items seen' kept'
        handled i x l e = elim (cases_lt i n) [
          | inl less ↦
              let there = slice_get_within seen n one at in
              let was : (y : Remainder S W) × (slice_get seen i ≡ Some y) = before i (omega (arith, less, there)) in
              let same : was.0 ≡ x = same_Some was.0 x (sym (v.seen_still i was.0 was.1) ∙ e) in
              let P : Remainder S W → Type 0 = λ z. IsSeenTo after end z.state z.rest.items seen' kept' in
              subst P same (still_handled after end seen seen' kept kept' v.seen_still v.kept_still was.0.state was.0.rest.items
              (h.handled i was.0 less was.1))
          | inr le ↦
              let here : i ≡ n = omega (arith, l, le) in
              let same : one ≡ x = same_Some one x (sym (v.seen_still n one at) ∙ (ap (slice_get seen') (sym here) ∙ e)) in
              let P : Remainder S W → Type 0 = λ z. IsSeenTo after end z.state z.rest.items seen' kept' in
              subst P same v.handled
        ]
          where
            before : (j : ℕ) → j < length seen → (y : Remainder S W) × (slice_get seen j ≡ Some y)
            before j less = (get_or seen j one, slice_get-get_or seen j one less)

    pub passing_more : (copy : Remainder S W) → IsCopiedAt seen n copy →
        IsLookedInto after end copy.state copy.rest.items seen kept seen' kept' → IsPassing (n + 1) seen' kept'
    passing_more copy (one, at, is_state, is_rest) v =
        let P : S → Type 0 = λ z. IsLookedInto after end z copy.rest.items seen kept seen' kept' in
        let Q : List (Operation W) → Type 0 = λ z. IsLookedInto after end one.state z seen kept seen' kept' in
        visited_more one at (subst Q is_rest (subst P is_state v))

  pub passing_all : (n : ℕ) (seen kept : List (Remainder S W)) → IsPassing n seen kept → length seen ≤ n → AreLeftBehind after end held kept
  passing_all n seen kept h all = record {
    goes = λ future last is. (onward future last is, back future last is);
    ahead = λ i one e. ahead_later end one.rest.items (h.behind i one e).0.ahead (h.behind i one e).1;
    of = record {
      states = λ i one e. (h.behind i one e).0.led;
      operations = λ o x. (h.behind x.0 x.1 x.2).0.of o x.3;
    };
  }
    where
      onward : (future : List (Operation W)) (last : ℕ) → ComesFrom (end + 1) last future → AnyLawfulWith after future last kept →
          AnyLawfulWith after future last held
      onward future last is x = (h.behind x.0 x.1 x.2).0.sound future last is x.3

      back : (future : List (Operation W)) (last : ℕ) → ComesFrom (end + 1) last future → AnyLawfulWith after future last held →
          AnyLawfulWith after future last kept
      back future last is x =
          closed after end future last is seen kept (λ i one e. (h.reached i one e).ahead)
          (λ i one e. h.handled i one (let l = slice_get_within seen i one e in omega (arith, l, all)) e)
          (x.0, x.1, h.start x.0 x.1 x.2, x.3)

-- ---- what is held leads to

pub led_same : {S W : Type 0} (after : S → W → Option S) (held : List (Remainder S W)) → AreLedTo after held held
led_same after held = record { states = λ i one e. Held i one e; operations = λ o x. x }

module _ {S W : Type 0} (after : S → W → Option S) (held mid : List (Remainder S W)) (first : AreLedTo after held mid) where
  led_on : (s : S) → IsLedTo after mid s → IsLedTo after held s
  led_on s (Held i one e) = first.states i one e
  led_on s (Leads r t o led of step) = Leads r t o (led_on r led) (first.operations o of) step

  pub led_more : (new : List (Remainder S W)) → AreLedTo after mid new → AreLedTo after held new
  led_more new next = record {
    states = λ i one e. led_on one.state (next.states i one e);
    operations = λ o x. first.operations o (next.operations o x);
  }
