-- The logs of a round are those of its scripts: each lane has its script from the beginning, and does the whole of it where no gate stops
-- it.
use Rattle.std.proofs.Common.{◌≡◌, ℕ, zero, suc, ◌+◌, ◌<◌, Bool, List, [], ◌∷◌, length, map, slice_get, Some, refl, sym, ◌∙◌}
use Rattle.std.proofs.Common.{ap, arith, subst, inl, inr}
use Rattle.std.proofs.lemmas.List.{length-map, take_all}
use Rattle.std.proofs.lemmas.Option.{same_Some, slice_get_within}
use Rattle.history_core.specs.declared.wish.Wish.{Wish}
use Rattle.cell_contract.specs.declared.family.Family.{Ghosts as FamilyWords}
use Rattle.board_live.specs.declared.board.Board.{Board}
use Rattle.board_live.specs.declared.board.Pass.{Pass}
use Rattle.board_live.specs.declared.record.Posted.{Posted}
use Rattle.board_tasks.specs.declared.lane.Lane.{Lane}
use Rattle.board_tasks.specs.Jobs.{EachStep}
use Rattle.board_tasks.specs.Lanes.{AreLanes}
use Rattle.board_tasks.specs.Tasks.{Ran}
use Rattle.soak_rounds.specs.declared.finding.Tally.{Tally}
use Rattle.soak_rounds.specs.Findings.{counted}
use Rattle.soak_rounds.specs.Scripts.{IsRound, IsTally, Scripted}

of_mapped : {A B : Type 0} (f : A → B) (xs : List A) (k : ℕ) (y : B) → slice_get (map f xs) k ≡ Some y
    → (x : A) × (slice_get xs k ≡ Some x) × (f x ≡ y)
of_mapped f [] k y e = cc
of_mapped f (x ∷ xs) zero y e = (x, refl, same_Some (f x) y e)
of_mapped f (x ∷ xs) (suc k) y e = of_mapped f xs k y e

stands : {A : Type 0} (xs : List A) (k : ℕ) → k < length xs → (x : A) × (slice_get xs k ≡ Some x)
stands [] k l = absurd (omega arith)
stands (x ∷ xs) zero l = (x, refl)
stands (x ∷ xs) (suc k) l = stands xs k (omega arith)

module _ {V F S T : Type 0} (family : FamilyWords F (Posted V) S T) (obeys : V → Bool) where
  lane_script : (passes : List (Pass V F S T)) (scripts : List (List (Wish V))) (lanes : List (Lane V F S T))
      (k : ℕ) (lane : Lane V F S T) → AreLanes obeys passes scripts lanes → slice_get lanes k ≡ Some lane
      → (script : List (Wish V)) × (slice_get scripts k ≡ Some script) × (lane.script.items ≡ script)
  lane_script [] [] [] k lane h e = cc
  lane_script [] [] (l ∷ ls) k lane h e = absurd h
  lane_script [] (s ∷ ss) ls k lane h e = absurd h
  lane_script (p ∷ ps) [] ls k lane h e = absurd h
  lane_script (p ∷ ps) (s ∷ ss) [] k lane h e = absurd h
  lane_script (p ∷ ps) (s ∷ ss) (l ∷ ls) zero lane h e =
      (s, refl, ap (λ (z : Lane V F S T). z.script.items) (sym (same_Some l lane e)) ∙ h.0.plans)
  lane_script (p ∷ ps) (s ∷ ss) (l ∷ ls) (suc k) lane h e = lane_script ps ss ls k lane h.1 e

  lanes_count : (passes : List (Pass V F S T)) (scripts : List (List (Wish V))) (lanes : List (Lane V F S T))
      → AreLanes obeys passes scripts lanes → length lanes ≡ length scripts
  lanes_count [] [] [] h = refl
  lanes_count [] [] (l ∷ ls) h = absurd h
  lanes_count [] (s ∷ ss) ls h = absurd h
  lanes_count (p ∷ ps) [] ls h = absurd h
  lanes_count (p ∷ ps) (s ∷ ss) [] h = absurd h
  lanes_count (p ∷ ps) (s ∷ ss) (l ∷ ls) h = ap suc (lanes_count ps ss ls h.1)

  -- the whole script is done
  wishes_done : (may_call may_stop : ℕ → ℕ → Type 0) (board : Board V F S T) (task : ℕ)
      (old new : Lane V F S T) → ((t call : ℕ) → may_stop t call → ⊥) → Ran family obeys may_call may_stop board task old new
      → map (λ e. e.wish) new.log.items ≡ old.script.items
  wishes_done may_call may_stop board task old new never h =
      let done : length new.log.items ≡ length new.script.items = elim h.whole [
        | inl e ↦ e
        | inr s ↦ absurd (never task _ s)
      ] in
      h.is.kept.wishes
      ∙ (take_all (length new.log.items) new.script.items (omega (arith, done))
      ∙ ap (λ v. v.items) h.script)

  -- `ready` are the lanes when the tasks begin, and `seen` those that are looked at
  pub is_round : (words : V → List ℕ) (equal : V → V → Bool) (opening : V) (tasks from calls : ℕ) (tally : Tally)
      (may_call may_stop : ℕ → ℕ → Type 0) (board : Board V F S T) (passes : List (Pass V F S T))
      (scripts : List (List (Wish V))) (before after ready seen : List (Lane V F S T))
      → ((t call : ℕ) → may_stop t call → ⊥) → length scripts ≡ tasks
      → ((k : ℕ) (t : List (Wish V)) → slice_get scripts k ≡ Some t
      → (next : ℕ) × Scripted words (counted (counted from k) 1) tasks calls next t)
      → AreLanes obeys passes scripts before → ready ≡ before → EachStep (Ran family obeys may_call may_stop board) 0 ready after →
      seen ≡ after
      → IsTally equal opening (map (λ l. l.log.items) seen) tally → IsRound words equal opening tasks from calls tally
  is_round words equal opening tasks from calls tally may_call may_stop board passes scripts before after ready seen never count scripted
      are begins ran ends told =
      let made : EachStep (Ran family obeys may_call may_stop board) 0 before after =
      subst (λ z. EachStep (Ran family obeys may_call may_stop board) 0 z after) begins ran in
      record {
        logs = map (λ l. l.log.items) after;
        all = length-map after (λ (l : Lane V F S T). l.log.items) ∙ (made.lengths
            ∙ (lanes_count passes scripts before are ∙ count));
        each = λ k log e.
            let new = of_mapped (λ (l : Lane V F S T). l.log.items) after k log e in
            let inside : k < length after = slice_get_within after k new.0 new.1 in
            let old = stands before k (omega (arith, inside, made.lengths)) in
            let script = lane_script passes scripts before k old.0 are old.1 in
            let of = scripted k script.0 script.1 in
            let wishes : map (λ e. e.wish) log ≡ script.0 =
            ap (map (λ e. e.wish)) (sym new.2)
            ∙ (wishes_done may_call may_stop board (0 + k) old.0 new.0 never (made.each k old.0 new.0 old.1 new.1) ∙ script.2) in
            (of.0, subst (λ w. Scripted words (counted (counted from k) 1) tasks calls of.0 w) (sym wishes) of.1);
        seen = subst (λ z. IsTally equal opening (map (λ (l : Lane V F S T). l.log.items) z) tally) ends told;
      }
