-- The passes of a new board that three tasks took turns with, and of one that two processes called.
use Rattle.std.proofs.Common.{◌≡◌, ℕ, zero, suc, ◌<◌, List, [], ◌∷◌, ◌++◌, length, length-append, ap, arith, refl, subst, sym, ◌∙◌}
use Rattle.std.specs.Prelude.{Bool, slice_get, Some}
use Rattle.std.proofs.lemmas.Option.{none-some, same_Some}
use Rattle.history_core.specs.declared.history.Kind.TheVariants.{Read, Write}
use Rattle.cell_contract.specs.declared.family.Family.{Ghosts as FamilyWords}
use Rattle.matrix_core.specs.Stamps.{first_stamp}
use Rattle.board_history.specs.BoardRuns.{Called}
use Rattle.board_live.specs.declared.board.Board.{Board}
use Rattle.board_live.specs.declared.board.Pass.{Pass}
use Rattle.board_live.specs.declared.record.Posted.{Posted}
use Rattle.board_live.specs.Ends.{AllPasses, did_by, HaveAtomicOrder}
use Rattle.board_live.specs.Passes.{HasMade, IsPass}
use Rattle.example_control.specs.declared.control.Control.{Control}
use Rattle.example_control.specs.Turns.{AreDealt, Drives, HasControlled, HasCrossed, HasTakenTurns}
use Rattle.example_control.specs.Turns.{HasSteered, in_order, IsFresh, Publishes}
use Rattle.example_control.specs.Turns.{SetsLimits}
use Rattle.example_control.proofs.Runs.{of_reads, of_turns}

-- those that were taken from the end of three, and of two
pub three_taken : {X : Type 0} (passes most one rest : List X) (p q r : X) → passes ≡ most ++ r ∷ [] → most ≡ one ++ q ∷ [] →
    one ≡ rest ++ p ∷ []
    → length passes ≡ 3 → (slice_get passes 0 ≡ Some p) × (slice_get passes 1 ≡ Some q) × (slice_get passes 2 ≡ Some r)
three_taken passes most one [] p q r e f d n = (rw (e, f, d) refl, rw (e, f, d) refl, rw (e, f, d) refl)
three_taken passes most one (x ∷ xs) p q r e f d n =
    absurd (omega (
      arith,
      n,
      ap length e,
      ap length f,
      ap length d,
      length-append most (r ∷ []),
      length-append one (q ∷ []),
      length-append (x ∷ xs) (p ∷ []),
    ))

pub two_taken : {X : Type 0} (passes mid rest : List X) (w r : X) → passes ≡ mid ++ r ∷ [] → mid ≡ rest ++ w ∷ [] → length passes ≡ 2
    → (slice_get passes 0 ≡ Some w) × (slice_get passes 1 ≡ Some r)
two_taken passes mid [] w r e f n = (rw (e, f) refl, rw (e, f) refl)
two_taken passes mid (x ∷ xs) w r e f n =
    absurd (omega (arith, n, ap length e, ap length f, length-append mid (r ∷ []), length-append (x ∷ xs) (w ∷ [])))

-- those that were pushed onto none
pub two_pushed : {X : Type 0} (none one two : List X) (p q : X) → none ≡ [] → one ≡ none ++ p ∷ [] → two ≡ one ++ q ∷ [] → two ≡ p ∷ q ∷ []
two_pushed none one two p q e f d = rw (d, f, e) refl

pub three_pushed : {X : Type 0} (none one two three : List X) (p q r : X) → none ≡ [] → one ≡ none ++ p ∷ [] → two ≡ one ++ q ∷ []
    → three ≡ two ++ r ∷ [] → three ≡ p ∷ q ∷ r ∷ []
three_pushed none one two three p q r e f d h = rw (h, d, f, e) refl

module _ {V F S T : Type 0} (words : FamilyWords F (Posted V) S T) (board : Board V F S T) where
  -- calls of the first two processes
  abbrev of_two : List (Called V) → List (Called V) → ℕ → List (Called V)
  of_two cs ds zero = cs
  of_two cs ds (suc zero) = ds
  of_two cs ds (suc (suc i)) = []

  pub two_passes : (obeys : V → Bool) (w r : Pass V F S T) → board.processes ≡ 2 → IsPass words obeys board w → w.process ≡ 0
      → IsPass words obeys board r → r.process ≡ 1 → AllPasses words obeys board (w ∷ r ∷ [])
  two_passes obeys w r n of_w p_w of_r p_r = record { all = sym n; some = omega arith; each = λ i p at. each i p at }
    where
      Is : ℕ → Pass V F S T → Type 0
      Is i p = IsPass words obeys board p × (p.process ≡ i)

      each : (i : ℕ) (p : Pass V F S T) → slice_get (w ∷ r ∷ []) i ≡ Some p → IsPass words obeys board p × (p.process ≡ i)
      each zero p at = subst (Is 0) (same_Some w p at) (of_w, p_w)
      each (suc zero) p at = subst (Is 1) (same_Some r p at) (of_r, p_r)
      each (suc (suc i)) p at = absurd (none-some p at)

  pub crossed : (w r : Pass V F S T) (item : V) (last : Posted V) (c d : Called V) → HaveAtomicOrder words board (w ∷ r ∷ []) last
      → HasMade words board w (c ∷ []) → HasMade words board r (d ∷ []) → c.kind ≡ Write → d.kind ≡ Read → c.chosen.item ≡ item
      → c.end < d.begin → HasCrossed words board item last
  crossed w r item last c d atomic of_w of_r k l e later = record {
    did = did_by words (w ∷ r ∷ []) (of_two (c ∷ []) (d ∷ []));
    write = c;
    read = d;
    calls = (refl, refl);
    kinds = (k, l);
    written = e;
    later = later;
    run = atomic (of_two (c ∷ []) (d ∷ [])) (λ i x at. made i x at);
  }
    where
      made : (i : ℕ) (x : Pass V F S T) → slice_get (w ∷ r ∷ []) i ≡ Some x → HasMade words board x (of_two (c ∷ []) (d ∷ []) i)
      made zero x at = subst (λ z. HasMade words board z (c ∷ [])) (same_Some w x at) of_w
      made (suc zero) x at = subst (λ z. HasMade words board z (d ∷ [])) (same_Some r x at) of_r
      made (suc (suc i)) x at = absurd (none-some x at)

module _ {F S T : Type 0} (words : FamilyWords F (Posted Control) S T) (board : Board Control F S T) where
  -- a pass that went to a task and came back
  pub record IsBack (who : ℕ) (pass : Pass Control F S T) (calls : List (Called Control)) : Type 0 where
    pub of : IsPass words in_order board pass
    pub process : pass.process ≡ who
    pub made : HasMade words board pass calls

  -- it did so over this board with this pass, where they go by other names
  pub back_from_turns : (who : ℕ) (Makes : (Control → Control) → Type 0) (named : Board Control F S T) (old seen new : Pass Control F S T)
      → IsFresh words in_order board who old → named ≡ board → seen ≡ old → (h : HasTakenTurns words named Makes seen new)
      → (calls : List (Called Control)) × IsBack who new calls
  back_from_turns who Makes named old seen new fresh e f h =
      let here : HasTakenTurns words board Makes old new =
      subst (λ z. HasTakenTurns words z Makes old new) e (subst (λ z. HasTakenTurns words named Makes z new) f h) in
      let x = of_turns words board Makes old here.calls new here.turns fresh.of fresh.none in
      (here.calls, record { of = x.0; process = x.1 ∙ fresh.who; made = x.2 })

  pub back_from_steering : {M : Type 0} (was_sent : M → ℕ → M → Type 0) (who : ℕ) (named : Board Control F S T)
      (old seen new : Pass Control F S T) (before kept after : M) → IsFresh words in_order board who old → named ≡ board → seen ≡ old
      → kept ≡ before → HasSteered words was_sent named seen new kept after
      → (calls : List (Called Control)) × IsBack who new calls × Drives was_sent before calls after
  back_from_steering was_sent who named old seen new before kept after fresh e f m h =
      let here : HasSteered words was_sent board old new before after = subst (λ z. HasSteered words was_sent z old new before after) e
      (subst (λ z. HasSteered words was_sent named z new before after) f
      (subst (λ z. HasSteered words was_sent named seen new z after) m h)) in
      let x = of_reads words board old here.calls new here.reads fresh.of fresh.none in
      (here.calls, record { of = x.0; process = x.1 ∙ fresh.who; made = x.2 }, here.drives)

  -- the passes of three tasks that came back, and what the motor was sent meanwhile
  pub record AreBack {M : Type 0} (was_sent : M → ℕ → M → Type 0) (p q r : Pass Control F S T) (before after : M) : Type 0 where
    pub limits_calls : List (Called Control)
    pub readings_calls : List (Called Control)
    pub steering_calls : List (Called Control)
    pub limits : IsBack 0 p limits_calls
    pub readings : IsBack 1 q readings_calls
    pub steering : IsBack 2 r steering_calls
    pub drives : Drives was_sent before steering_calls after

  -- they were dealt to the tasks, over this board and by these passes, where they go by other names
  pub come_back : {M : Type 0} (was_sent : M → ℕ → M → Type 0) (opening : Control) (p q r : Pass Control F S T)
      → AreDealt words opening board p q r → (b c d : Board Control F S T) (p' q' r' : Pass Control F S T) (x y z : Pass Control F S T)
      (before kept after : M) → b ≡ board → p' ≡ p → HasTakenTurns words b SetsLimits p' x → c ≡ board → q' ≡ q →
      HasTakenTurns words c Publishes q' y
      → d ≡ board → r' ≡ r → kept ≡ before → HasSteered words was_sent d r' z kept after → AreBack was_sent x y z before after
  come_back was_sent opening p q r dealt b c d p' q' r' x y z before kept after e f h i j k l m n o =
      let limits = back_from_turns 0 SetsLimits b p p' x dealt.limits e f h in
      let readings = back_from_turns 1 Publishes c q q' y dealt.readings i j k in
      let steering = back_from_steering was_sent 2 d r r' z before kept after dealt.steering l m n o in
      record {
        limits_calls = limits.0;
        readings_calls = readings.0;
        steering_calls = steering.0;
        limits = limits.1;
        readings = readings.1;
        steering = steering.1;
        drives = steering.2;
      }

  module _ (p q r : Pass Control F S T) (cs ds es : List (Called Control)) (of_p : IsBack 0 p cs) (of_q : IsBack 1 q ds)
      (of_r : IsBack 2 r es)
    where
      abbrev of_three : ℕ → List (Called Control)
      of_three zero = cs
      of_three (suc zero) = ds
      of_three (suc (suc i)) = es

      back : (i : ℕ) (x : Pass Control F S T) → slice_get (p ∷ q ∷ r ∷ []) i ≡ Some x → IsBack i x (of_three i)
      back zero x at = subst (λ z. IsBack 0 z cs) (same_Some p x at) of_p
      back (suc zero) x at = subst (λ z. IsBack 1 z ds) (same_Some q x at) of_q
      back (suc (suc zero)) x at = subst (λ z. IsBack 2 z es) (same_Some r x at) of_r
      back (suc (suc (suc i))) x at = absurd (none-some x at)

      pub all_back : board.processes ≡ 3 → AllPasses words in_order board (p ∷ q ∷ r ∷ [])
      all_back three = record {
        all = sym three;
        some = omega arith;
        each = λ i x at. let b = back i x at in (b.of, b.process);
      }

      pub controlled : {M : Type 0} (was_sent : M → ℕ → M → Type 0) (opening : Control) (last : Posted Control) (before after : M)
          → board.first ≡ record { stamp = first_stamp; item = opening } → board.limit ≡ 18446744073709551614 → board.processes ≡ 3
          → Drives was_sent before es after → HaveAtomicOrder words board (p ∷ q ∷ r ∷ []) last
          → HasControlled words was_sent opening last before after
      controlled was_sent opening last before after opened limited three drives atomic = record {
        board = board;
        opened = opened;
        limited = limited;
        three = three;
        did = did_by words (p ∷ q ∷ r ∷ []) of_three;
        drives = drives;
        run = atomic of_three (λ i x at. (back i x at).made);
      }
