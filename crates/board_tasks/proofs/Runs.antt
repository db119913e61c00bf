-- A lane whose calls were made in part.
use Rattle.std.proofs.Common.{◌≡◌, Bool, ℕ, ◌+◌, ◌<◌, ◌≤◌, List, [], ◌∷◌, ◌++◌, length, length-append, append_assoc, refl, ◌∙◌, ap, arith}
use Rattle.std.proofs.Common.{◌⊎◌}
use Rattle.std.proofs.Common.{subst, ⊎_elim}
use Rattle.cell_contract.specs.declared.family.Family.{Ghosts as FamilyWords}
use Rattle.board_live.specs.declared.board.Board.{Board}
use Rattle.board_live.specs.declared.record.Posted.{Posted}
use Rattle.board_tasks.specs.declared.lane.Entry.{Entry}
use Rattle.board_tasks.specs.declared.lane.Lane.{Lane}
use Rattle.board_live.specs.Passes.{IsPass}
use Rattle.board_tasks.specs.Lanes.{IsLane}
use Rattle.board_tasks.specs.Tasks.{IsEntry, AreCalls, Ran}
use Rattle.board_tasks.proofs.LogLaws.{calls_more}

at_most_or_next : (n m : ℕ) → n ≤ m + 1 → (n ≤ m) ⊎ (m + 1 ≡ n)
at_most_or_next n m h = grind arith

append_none : {A : Type 0} (xs : List A) → xs ≡ xs ++ []
append_none [] = refl
append_none (x ∷ xs) = ap (λ z. x ∷ z) (append_none xs)

module _ {V F S T : Type 0} (family : FamilyWords F (Posted V) S T) (obeys : V → Bool) where
  pub record RunSoFar (may_call : ℕ → Type 0) (board : Board V F S T) (old now : Lane V F S T) (call : ℕ) : Type 0 where
    pub of : IsPass family obeys board now.pass
    pub is : IsLane obeys now
    pub same_script : now.script ≡ old.script
    pub added : List (Entry V)
    pub is_log : now.log.items ≡ old.log.items ++ added
    pub are_calls : AreCalls family obeys board old.pass added now.pass
    pub count : length now.log.items ≡ call
    pub asked : (n : ℕ) → length old.log.items < n → n ≤ call → may_call n

  pub run_none : (may_call : ℕ → Type 0) (board : Board V F S T) (lane : Lane V F S T) → IsPass family obeys board lane.pass →
      IsLane obeys lane
      → RunSoFar may_call board lane lane (length lane.log.items)
  run_none may_call board lane of is = record {
    of = of;
    is = is;
    same_script = refl;
    added = [];
    is_log = append_none lane.log.items;
    are_calls = refl;
    count = refl;
    asked = λ n above below. absurd (omega arith);
  }

  pub run_more : (may_call : ℕ → Type 0) (board : Board V F S T) (old now new : Lane V F S T) (call : ℕ)
      → RunSoFar may_call board old now call → may_call (call + 1)
      → IsPass family obeys board new.pass → IsLane obeys new → new.script ≡ now.script → (e : Entry V) →
      new.log.items ≡ now.log.items ++ e ∷ []
      → IsEntry family obeys board now.pass e new.pass
      → RunSoFar may_call board old new (call + 1)
  run_more may_call board old now new call h may of is same e log entry = record {
    of = of;
    is = is;
    same_script = same ∙ h.same_script;
    added = h.added ++ e ∷ [];
    is_log = log ∙ ap (λ z. z ++ e ∷ []) h.is_log ∙ append_assoc old.log.items h.added (e ∷ []);
    are_calls = calls_more family obeys board old.pass h.added now.pass e new.pass h.are_calls entry;
    asked = λ n above below.
        ⊎_elim (λ (l : n ≤ call). h.asked n above l) (λ (e : call + 1 ≡ n). subst may_call e may) (at_most_or_next n call below);
    count = let n = h.count in let l = log in omega (arith, ap length log, length-append now.log.items (e ∷ []));
  }

  pub run_ends : (may_call may_stop : ℕ → ℕ → Type 0) (board : Board V F S T) (task : ℕ) (old now : Lane V F S T)
      (call : ℕ)
      → RunSoFar (may_call task) board old now call
      → (length now.log.items ≡ length now.script.items) ⊎ may_stop task (length now.log.items + 1)
      → Ran family obeys may_call may_stop board task old now
  run_ends may_call may_stop board task old now call h w =
      let asked : (n : ℕ) → length old.log.items < n → n ≤ length now.log.items → may_call task n =
      λ n above below. h.asked n above (subst (λ m. n ≤ m) h.count below) in
      record {
        of = h.of;
        is = h.is;
        script = h.same_script;
        added = h.added;
        log = h.is_log;
        calls = h.are_calls;
        asked = asked;
        whole = w;
      }
