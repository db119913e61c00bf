-- Where a log is lost, the log so far has no lawful order: each end is passed by what begins one.
use Rattle.std.proofs.Common.{◌≡◌, ℕ, ◌<◌, ◌≤◌, Bool, true, false, ◌||◌, nat_eq, List, [], ◌∷◌, ◌++◌}
use Rattle.std.proofs.Common.{Option, Some, refl, sym, ◌∙◌, ap, arith, inl, inr}
use Rattle.std.proofs.lemmas.Bool.{cases_Bool, cases_lt}
use Rattle.history_core.specs.Orders.{times_of}
use Rattle.object_core.specs.declared.operation.Operation.{Operation}
use Rattle.object_core.specs.Logs.{IsLinearizable}
use Rattle.object_sweep.specs.Cuts.{cut_log}
use Rattle.object_sweep.specs.inner.Cuts.{EndsAt}
use Rattle.object_sweep.specs.Reached.{is_closed, is_in, IsLostAt, IsNextEnd, IsReachable, without}
use Rattle.object_sweep.specs.Reached.IsReachable.{Opens, Places, Ends}
use Rattle.object_sweep.specs.Rests.{CanFinish, CanPlace, IsRest, RunForwards}
use Rattle.object_sweep.proofs.Cuts.{get_from, is_cut_of, keeps_ends, so_far}
use Rattle.object_sweep.proofs.Exact.{same_finish, same_rest}
use Rattle.object_sweep.proofs.Lists.{closed_behind, closed_left_out, closed_placed}
use Rattle.object_sweep.proofs.Placed.{complete_tail, dropped, or_right, same_number}
use Rattle.object_sweep.proofs.Whole.{opened}

module _ {S W : Type 0} (after : S → W → Option S) (opening : S) (log : List (Operation W)) (forwards : RunForwards log)
    (all : List ℕ) where
  -- the log in which these alone have their ends
  abbrev cut : List (Operation W)
  cut = so_far log all

  cut_forwards : RunForwards cut
  cut_forwards p end c at e =
      let f = get_from (λ q. is_in q all) log p c at in
      let of = is_cut_of (is_in p all) f.0 in
      let ends : f.0.ends ≡ Some end = of.ends end (ap (λ (z : Operation W). z.ends) f.2 ∙ e) in
      let le : f.0.starts ≤ end = forwards p end f.0 f.1 ends in
      let same : c.starts ≡ f.0.starts = sym (ap (λ (z : Operation W). z.starts) f.2) ∙ of.starts in
      omega (arith, le, same)

  in_log : (closed : ℕ → Bool) (end : ℕ) (s : S) (q : ℕ) (t : S) → CanPlace after cut closed end s q t → CanPlace after log closed end s q t
  in_log closed end s q t can =
      let f = get_from (λ q. is_in q all) log q can.0 can.1 in
      let of = is_cut_of (is_in q all) f.0 in
      let starts : can.0.starts ≡ f.0.starts = sym (ap (λ (z : Operation W). z.starts) f.2) ∙ of.starts in
      let what : can.0.what ≡ f.0.what = sym (ap (λ (z : Operation W). z.what) f.2) ∙ of.what in
      let le : f.0.starts ≤ end = let l = can.3 in omega (arith, starts, l) in
      (f.0, f.1, can.2, le, ap (after s) (sym what) ∙ can.4)

  -- something is reached that begins a lawful order of the log so far
  abbrev GoesOn : List ℕ → Type 0
  GoesOn ended = (s : S) × (placed : List ℕ) × IsReachable after opening log ended s placed
      × CanFinish after cut (is_closed ended placed) s

  -- an end is passed
  module _ (ended : List ℕ) (place end : ℕ) (next : IsNextEnd log ended place end) (there : is_in place all ≡ true) where
    ends_it : EndsAt cut place end
    ends_it = keeps_ends log all place end there (next.0, next.1, next.2)

    left_out : (s : S) (placed rest : List ℕ) → IsReachable after opening log ended s placed → is_in place placed ≡ false →
        IsRest after cut (is_closed ended placed) s rest → times_of place rest ≡ 0 → GoesOn (place ∷ ended)
    left_out s placed rest r lack h none =
        let free : is_closed ended placed place ≡ false = open_yet (is_in place ended) (is_in place placed) next.3 lack in
        let d = dropped after cut (is_closed ended placed) place end ends_it.0 ends_it.1 ends_it.2 s rest h none free in
        let f = get_from (λ q. is_in q all) log place ends_it.0 ends_it.1 in
        let maybe : f.0.maybe ≡ true =
        sym (is_cut_of (is_in place all) f.0).maybe ∙ (ap (λ (z : Operation W). z.maybe) f.2 ∙ d.0) in (
          s,
          without place placed,
          Ends ended placed s r place end next (inr (f.0, f.1, maybe)),
          same_finish after cut (λ z. is_closed ended placed z || nat_eq z place) (is_closed (place ∷ ended) (without place placed))
              (λ z. sym (closed_left_out ended placed place z lack)) s d.1,
        )
      where
        open_yet : (a b : Bool) → a ≡ false → b ≡ false → (a || b) ≡ false
        open_yet false b f g = g
        open_yet true b f g = cc

    passes : (rest : List ℕ) (s : S) (placed : List ℕ) → IsReachable after opening log ended s placed →
        IsRest after cut (is_closed ended placed) s rest → (0 < times_of place rest → GoesOn (place ∷ ended)) → GoesOn (place ∷ ended)
    passes rest s placed r h more = elim (cases_Bool (is_in place placed)) [
      | inl e ↦ (
        s,
        without place placed,
        Ends ended placed s r place end next (inl e),
        same_finish after cut (is_closed ended placed) (is_closed (place ∷ ended) (without place placed))
            (λ z. sym (closed_behind ended placed place z e)) s (rest, h),
      )
      | inr e ↦ elim (cases_lt 0 (times_of place rest)) [
        | inl l ↦ more l
        | inr le ↦ left_out s placed rest r e h (omega arith)
      ]
    ]

    through : (rest : List ℕ) (s : S) (placed : List ℕ) → IsReachable after opening log ended s placed →
        IsRest after cut (is_closed ended placed) s rest → GoesOn (place ∷ ended)
    through [] s placed r h = passes [] s placed r h (λ l. let none : times_of place [] ≡ 0 = refl in absurd (omega (arith, l, none)))
    through (q ∷ rest) s placed r h = passes (q ∷ rest) s placed r h (λ l.
        let c = complete_tail after cut cut_forwards (is_closed ended placed) end place ends_it.0 ends_it.1 ends_it.2 s q rest h l in
        through rest c.0 (placed ++ q ∷ [])
        (Places ended placed s r place end q c.0 next (in_log (is_closed ended placed) end s q c.0 c.1))
        (same_rest after cut (λ z. is_closed ended placed z || nat_eq z q) (is_closed ended (placed ++ q ∷ []))
        (λ z. sym (closed_placed ended placed q z)) c.0 rest c.2))

  -- each end that was passed is
  goes_on : CanFinish after cut (λ q. false) opening → {ended : List ℕ} {s : S} {placed : List ℕ} →
      IsReachable after opening log ended s placed → ((q : ℕ) → is_in q ended ≡ true → is_in q all ≡ true) → GoesOn ended
  goes_on h Opens among = (opening, [], Opens, h)
  goes_on h (Places ended placed s r place end q t next can) among = goes_on h r among
  goes_on h (Ends ended placed s r place end next out) among =
      let before = goes_on h r (λ q e. among q (or_right (nat_eq place q) (is_in q ended) e)) in
      let there : is_in place all ≡ true = among place (ap (λ b. b || is_in place ended) (same_number place)) in
      through ended place end next there before.3.0 before.0 before.1 before.2 before.3.1

pub lost : {S W : Type 0} (after : S → W → Option S) (opening : S) (log : List (Operation W)) (place : ℕ) → RunForwards log →
    (h : IsLostAt after opening log place) → ¬ IsLinearizable after opening (cut_log (λ q. is_in q (place ∷ h.ended)) log)
lost after opening log place forwards h lawful =
    let all : List ℕ = place ∷ h.ended in
    let there : is_in place all ≡ true = ap (λ b. b || is_in place h.ended) (same_number place) in
    let before = goes_on after opening log forwards all ((opened after opening (so_far log all)).1 lawful) h.before.2
    (λ q e. or_right (nat_eq place q) (is_in q h.ended) e) in
    let behind = through after opening log forwards all h.ended place h.end h.next there before.3.0 before.0 before.1 before.2 before.3.1 in
    h.behind behind.0 behind.1 behind.2
