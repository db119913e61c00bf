-- One more operation: it begins after all of its task have ended, so it is the last of them to end.
use Rattle.std.proofs.Common.{rules, tests, ◌≡◌, ◌≢◌, ℕ, ◌<◌, ◌≤◌, List, [], ◌∷◌, ◌++◌, length, refl, ap, sym, ◌∙◌, arith, subst, slice_get}
use Rattle.std.proofs.Common.{Some, None, Option}
use Rattle.std.proofs.Common.{Bool, true, false, ◌⊎◌, inl, inr, IsSomeAnd, IfSome, nat_eq, nat_lt}
use Rattle.std.proofs.lemmas.Option.{same_Some, slice_get_within}
use Rattle.history_core.proofs.Places.{get_pushed_cases}
use Rattle.history_core.specs.declared.history.Op.{Op}
use Rattle.history_core.specs.Orders.{Precedes}
use Rattle.kept_lines.proofs.NumberLemmas.{get_before, get_last}
use Rattle.std.specs.Prelude.{if◌then◌else◌}
use Rattle.std.specs.Ordering.{is_eq, nat_cmp}
use Rattle.std.specs.declared.cmp.Ordering.{Ordering}
use Rattle.std.specs.declared.cmp.Ordering.TheVariants.{Equal, Greater, Less}
use Rattle.std.proofs.lemmas.Map.Lookups.{exact_unsigned}
use Rattle.kept_lines.specs.Lasts.{ends_before, overlapped}
use Rattle.kept_lines.specs.Tasks.{IsLast, IsLastOf, Overlap, TakeTurns}
use Rattle.kept_lines.specs.declared.turns.Last.{Last}

-- the next operation begins after the last one of its task, if there is one
abbrev pub Follows : {R : Type 0} → Op R → Option Last → Type 0
Follows next None = Unit {0}
Follows next (Some last) = IsSomeAnd last.end (λ end. end < next.starts)

later : (a : Option ℕ) (m n : ℕ) → IsSomeAnd a (λ end. end ≤ m) → m < n → IsSomeAnd a (λ end. end < n)
later None m n h l = absurd h
later (Some e) m n h l = omega arith

at_most : (a : Option ℕ) (m n : ℕ) → IsSomeAnd a (λ end. end < m) → m ≤ n → IsSomeAnd a (λ end. end ≤ n)
at_most None m n h l = absurd h
at_most (Some e) m n h l = omega arith

some_end : (a : Option ℕ) (n : ℕ) → IsSomeAnd a (λ end. end < n) → (m : ℕ) × (a ≡ Some m) × (m < n)
some_end None n h = absurd h
some_end (Some m) n h = (m, refl, h)

ends_by : (o : Option ℕ) (starts m : ℕ) → IfSome o (λ end. starts ≤ end) → o ≡ Some m → starts ≤ m
ends_by o starts m forwards e = let P : Option ℕ → Type 0 = λ z. IfSome z (λ end. starts ≤ end) in subst P e forwards

is_end : (o : Option ℕ) (m : ℕ) → o ≡ Some m → IsSomeAnd o (λ end. end ≤ m)
is_end o m e = let P : Option ℕ → Type 0 = λ z. IsSomeAnd z (λ end. end ≤ m) in subst P (sym e) (let h : m ≤ m = omega arith in h)

module _ {R : Type 0} where
  -- each operation of its task has ended before the next begins
  pub precedes_next : (log : List (Op R)) (next : Op R) (last : Option Last) → IsLast log next.who last → Follows next last
      → (p : ℕ) (a : Op R) → slice_get log p ≡ Some a → a.who ≡ next.who → Precedes a next
  precedes_next log next None none follows p a at same = absurd (none p a at same)
  precedes_next log next (Some last) is follows p a at same =
      let ended = some_end last.end next.starts follows in
      later a.ends ended.0 next.starts (is.ended p ended.0 a at same ended.1) ended.2

  turns_more : (log : List (Op R)) (next : Op R) → TakeTurns log
      → ((p : ℕ) (a : Op R) → slice_get log p ≡ Some a → a.who ≡ next.who → Precedes a next) → TakeTurns (log ++ next ∷ [])
  turns_more log next turn before p q a b at_a at_b same less =
      by_places (get_pushed_cases log next p a at_a) (get_pushed_cases log next q b at_b)
    where
      by_places : (slice_get log p ≡ Some a) ⊎ ((p ≡ length log) × (next ≡ a)) →
          (slice_get log q ≡ Some b) ⊎ ((q ≡ length log) × (next ≡ b))
          → Precedes a b
      by_places (inl old) (inl also) = turn p q a b old also same less
      by_places (inl old) (inr new) =
          subst (λ (o : Op R). Precedes a o) new.1 (before p a old (same ∙ ap (λ (o : Op R). o.who) (sym new.1)))
      by_places (inr new) (inl old) = absurd (let within : q < length log = slice_get_within log q b old in omega (arith, new.0, within))
      by_places (inr new) (inr also) = absurd (omega (arith, new.0, also.0))

  -- the last operation of its task is the next
  last_now : (log : List (Op R)) (next : Op R) (place : ℕ) → length log ≡ place → IfSome next.ends (λ end. next.starts ≤ end)
      → ((p : ℕ) (a : Op R) → slice_get log p ≡ Some a → a.who ≡ next.who → Precedes a next)
      → IsLastOf (log ++ next ∷ []) next.who (record { end = next.ends; place = place })
  last_now log next place long forwards before = record {
    op = next;
    at = subst (λ (n : ℕ). slice_get (log ++ next ∷ []) n ≡ Some next) long (get_last log next);
    of_task = refl;
    ends = refl;
    ended = λ p m a at same e. by_place p m a same e (get_pushed_cases log next p a at);
  }
    where
      by_place : (p m : ℕ) (a : Op R) → a.who ≡ next.who → next.ends ≡ Some m → (slice_get log p ≡ Some a) ⊎ ((p ≡ length log) × (next ≡ a))
          → IsSomeAnd a.ends (λ end. end ≤ m)
      by_place p m a same e (inl old) =
          at_most a.ends next.starts m (before p a old same) (ends_by next.ends next.starts m forwards e)
      by_place p m a same e (inr new) =
          subst (λ (o : Op R). IsSomeAnd o.ends (λ end. end ≤ m)) new.1 (is_end next.ends m e)

  -- that of another task stays
  last_else : (log : List (Op R)) (next : Op R) (who : ℕ) (last : Option Last) → next.who ≢ who → IsLast log who last
      → IsLast (log ++ next ∷ []) who last
  last_else log next who None apart none = λ p a at same. by_place p a same (get_pushed_cases log next p a at)
    where
      by_place : (p : ℕ) (a : Op R) → a.who ≡ who → (slice_get log p ≡ Some a) ⊎ ((p ≡ length log) × (next ≡ a)) → ⊥
      by_place p a same (inl old) = none p a old same
      by_place p a same (inr new) = apart (ap (λ (o : Op R). o.who) new.1 ∙ same)
  last_else log next who (Some last) apart is = record {
    op = is.op;
    at = get_before log next last.place is.op is.at;
    of_task = is.of_task;
    ends = is.ends;
    ended = λ p m a at same e. by_place p m a same e (get_pushed_cases log next p a at);
  }
    where
      by_place : (p m : ℕ) (a : Op R) → a.who ≡ who → last.end ≡ Some m → (slice_get log p ≡ Some a) ⊎ ((p ≡ length log) × (next ≡ a))
          → IsSomeAnd a.ends (λ end. end ≤ m)
      by_place p m a same e (inl old) = is.ended p m a old same e
      by_place p m a same e (inr new) = absurd (apart (ap (λ (o : Op R). o.who) new.1 ∙ same))

  pub last_more : (log : List (Op R)) (next : Op R) (place : ℕ) (before after : ℕ → Option Last) → length log ≡ place
      → IfSome next.ends (λ end. next.starts ≤ end) → Follows next (before next.who) → ((who : ℕ) → IsLast log who (before who))
      → (after next.who ≡ Some (record { end = next.ends; place = place })) → ((who : ℕ) → next.who ≢ who → after who ≡ before who)
      → (who : ℕ) → IsLast (log ++ next ∷ []) who (after who)
  last_more log next place before after long forwards follows last here others who = by_test (nat_eq next.who who) refl
    where
      by_test : (b : Bool) → nat_eq next.who who ≡ b → IsLast (log ++ next ∷ []) who (after who)
      by_test true test =
          let same : next.who ≡ who = search (rules, tests) in
          subst (λ (w : ℕ). IsLast (log ++ next ∷ []) w (after w)) same
          (subst (IsLast (log ++ next ∷ []) next.who) (sym here)
          (last_now log next place long forwards (precedes_next log next (before next.who) (last next.who) follows)))
      by_test false test =
          let apart : next.who ≢ who = search (rules, tests) in
          subst (IsLast (log ++ next ∷ []) who) (sym (others who apart)) (last_else log next who (before who) apart (last who))

  pub turns_next : (log : List (Op R)) (next : Op R) (last : Option Last) → TakeTurns log → IsLast log next.who last → Follows next last
      → TakeTurns (log ++ next ∷ [])
  turns_next log next last turn is follows = turns_more log next turn (precedes_next log next last is follows)

-- ---- what the look-ups say

pub follows_of : {R : Type 0} (next : Op R) (last : Option Last) → overlapped last next.starts ≡ None → Follows next last
follows_of next None e = tt
follows_of next (Some last) e = by_end last.end e
  where
    by_end : (o : Option ℕ) → (if ends_before o next.starts then None else Some last.place) ≡ None → IsSomeAnd o (λ end. end < next.starts)
    by_end None e = cc
    by_end (Some end) e = by_test (nat_lt end next.starts) refl e
      where
        by_test : (b : Bool) → nat_lt end next.starts ≡ b → (if b then None else Some last.place) ≡ None → end < next.starts
        by_test true test h = search (rules, tests)
        by_test false test h = cc

pub overlap_of : {R : Type 0} (log : List (Op R)) (next : Op R) (last : Option Last) (first : ℕ) → IsLast log next.who last
    → overlapped last next.starts ≡ Some first → Overlap log next first
overlap_of log next None first is e = cc
overlap_of log next (Some last) first is e = by_end last.end refl e
  where
    fill : (o : Option ℕ) → last.end ≡ o → ¬ IsSomeAnd o (λ end. end < next.starts) → last.place ≡ first → Overlap log next first
    fill o ends apart place = record {
      op = is.op;
      at = subst (λ (n : ℕ). slice_get log n ≡ Some is.op) place is.at;
      of_task = is.of_task;
      apart = subst (λ (z : Option ℕ). ¬ IsSomeAnd z (λ end. end < next.starts)) (sym (is.ends ∙ ends)) apart;
    }

    by_end : (o : Option ℕ) → last.end ≡ o → (if ends_before o next.starts then None else Some last.place) ≡ Some first →
        Overlap log next first
    by_end None ends h = fill None ends (λ x. x) (same_Some last.place first h)
    by_end (Some end) ends h = by_test (nat_lt end next.starts) refl h
      where
        by_test : (b : Bool) → nat_lt end next.starts ≡ b → (if b then None else Some last.place) ≡ Some first → Overlap log next first
        by_test true test k = cc
        by_test false test k = fill (Some end) ends (λ (l : end < next.starts). absurd (search (rules, tests)))
            (same_Some last.place first k)

pub apart_keys : (k w : ℕ) → k ≢ w → is_eq (nat_cmp k w) ≡ false
apart_keys k w apart = by_order (nat_cmp k w) refl
  where
    by_order : (o : Ordering) → nat_cmp k w ≡ o → is_eq o ≡ false
    by_order Less e = refl
    by_order Greater e = refl
    by_order Equal e = absurd (apart (exact_unsigned k w e))
