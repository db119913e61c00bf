-- Lists of lanes and of passes, made from their ends: the last is made first, so what was made is turned round.
use Rattle.std.proofs.Common.{◌≡◌, Bool, ℕ, zero, suc, ◌+◌, ◌<◌, ◌≤◌, ◌^◌, List, [], ◌∷◌, ◌++◌, length, length-append, append_assoc}
use Rattle.std.proofs.Common.{append-nil, reverse}
use Rattle.std.proofs.Common.{refl, sym, ◌∙◌, ap, subst, arith}
use Rattle.std.specs.Prelude.{slice_get, Some, slice_index_or, All}
use Rattle.std.proofs.lemmas.Option.{same_Some, none-some}
use Rattle.std.proofs.lemmas.List.{reverse-append}
use Rattle.history_core.specs.declared.wish.Wish.{Wish}
use Rattle.cell_contract.specs.declared.family.Family.{Ghosts as FamilyWords}
use Rattle.board_live.specs.declared.board.Board.{Board}
use Rattle.board_live.specs.declared.board.Pass.{Pass}
use Rattle.board_live.specs.declared.record.Posted.{Posted}
use Rattle.board_tasks.specs.declared.lane.Lane.{Lane}
use Rattle.board_live.specs.Passes.{IsPass}
use Rattle.board_live.specs.Ends.{AllPasses}
use Rattle.matrix_core.proofs.lists.Elements.{get_exists}
use Rattle.board_tasks.specs.Jobs.{AllReady}
use Rattle.board_tasks.specs.Lanes.{AreLanes, IsLane, IsNewLane}

-- what holds of the elements of a list holds of one that stands before others
pub all_at : {A : Type 0} (P : A → Type 0) (all xs : List A) (x : A) (ys : List A) → all ≡ (xs ++ x ∷ []) ++ ys → All P all → P x
all_at P all [] x ys e h = subst (λ z. P (slice_index_or z 0 x)) e (h 0 x (rw e (omega arith)))
all_at P all (y ∷ xs) x ys e h = all_at P ((xs ++ x ∷ []) ++ ys) xs x ys refl (λ k d l. (subst (All P) e h) (suc k) d (omega arith))

module _ {V F S T : Type 0} (family : FamilyWords F (Posted V) S T) (obeys : V → Bool) where
  -- the lanes of the last passes were made
  pub record LanesFrom (passes : List (Pass V F S T)) (scripts : List (List (Wish V)))
      (left : List (Pass V F S T)) (left_scripts : List (List (Wish V)))
      (lanes : List (Lane V F S T)) : Type 0 where
    pub done : List (Pass V F S T)
    pub done_scripts : List (List (Wish V))
    pub of_passes : passes ≡ left ++ done
    pub of_scripts : scripts ≡ left_scripts ++ done_scripts
    pub are : AreLanes obeys done done_scripts (reverse lanes)
    pub same : length left_scripts ≡ length left

  pub lanes_none : (passes : List (Pass V F S T)) (scripts : List (List (Wish V))) → length scripts ≡ length passes
      → LanesFrom passes scripts passes scripts []
  lanes_none passes scripts same =
      record {
        done = [];
        done_scripts = [];
        of_passes = sym (append-nil passes);
        of_scripts = sym (append-nil scripts);
        are = tt;
        same = same;
      }

  pub lanes_more : (passes : List (Pass V F S T)) (scripts : List (List (Wish V)))
      (before left : List (Pass V F S T)) (before_scripts left_scripts : List (List (Wish V)))
      (lanes : List (Lane V F S T)) (pass : Pass V F S T) (script : List (Wish V))
      (lane : Lane V F S T)
      → LanesFrom passes scripts before before_scripts lanes → before ≡ left ++ pass ∷ [] → before_scripts ≡ left_scripts ++ script ∷ []
      → IsNewLane obeys pass script lane
      → LanesFrom passes scripts left left_scripts (lanes ++ lane ∷ [])
  lanes_more passes scripts before left before_scripts left_scripts lanes pass script lane h e f new =
      let n : length before ≡ length left + 1 = ap length e ∙ length-append left (pass ∷ []) in
      let m : length before_scripts ≡ length left_scripts + 1 = ap length f ∙ length-append left_scripts (script ∷ []) in
      record {
        done = pass ∷ h.done;
        done_scripts = script ∷ h.done_scripts;
        of_passes = h.of_passes ∙ ap (λ z. z ++ h.done) e ∙ append_assoc left (pass ∷ []) h.done;
        of_scripts = h.of_scripts ∙ ap (λ z. z ++ h.done_scripts) f ∙ append_assoc left_scripts (script ∷ []) h.done_scripts;
        are = rw (reverse-append lanes (lane ∷ [])) (new, h.are);
        same = omega (arith, n, m, h.same);
      }

  -- the pass of a lane is the one at its place
  pub lane_at : (passes : List (Pass V F S T)) (scripts : List (List (Wish V))) (lanes : List (Lane V F S T))
      → AreLanes obeys passes scripts lanes
      → (k : ℕ) (lane : Lane V F S T) → slice_get lanes k ≡ Some lane
      → (pass : Pass V F S T) × (script : List (Wish V)) × (slice_get passes k ≡ Some pass)
      × (slice_get scripts k ≡ Some script) × IsNewLane obeys pass script lane
  lane_at [] [] [] h k lane at = absurd (none-some lane at)
  lane_at [] [] (l ∷ ls) h k lane at = absurd h
  lane_at [] (s ∷ ss) lanes h k lane at = absurd h
  lane_at (p ∷ ps) [] lanes h k lane at = absurd h
  lane_at (p ∷ ps) (s ∷ ss) [] h k lane at = absurd h
  lane_at (p ∷ ps) (s ∷ ss) (l ∷ ls) h zero lane at = (p, s, refl, refl, subst (IsNewLane obeys p s) (same_Some l lane at) h.0)
  lane_at (p ∷ ps) (s ∷ ss) (l ∷ ls) h (suc k) lane at = lane_at ps ss ls h.1 k lane at

  pub lanes_length : (passes : List (Pass V F S T)) (scripts : List (List (Wish V)))
      (lanes : List (Lane V F S T))
      → AreLanes obeys passes scripts lanes → length lanes ≡ length passes
  lanes_length [] [] [] h = refl
  lanes_length [] [] (l ∷ ls) h = absurd h
  lanes_length [] (s ∷ ss) lanes h = absurd h
  lanes_length (p ∷ ps) [] lanes h = absurd h
  lanes_length (p ∷ ps) (s ∷ ss) [] h = absurd h
  lanes_length (p ∷ ps) (s ∷ ss) (l ∷ ls) h = ap suc (lanes_length ps ss ls h.1)

  -- lanes of a board's passes may run
  pub lanes_ready : (board : Board V F S T) (passes : List (Pass V F S T)) (scripts : List (List (Wish V)))
      (lanes : List (Lane V F S T))
      → AreLanes obeys passes scripts lanes → length passes < 2 ^ 64
      → ((k : ℕ) (p : Pass V F S T) → slice_get passes k ≡ Some p → IsPass family obeys board p)
      → AllReady (λ (l : Lane V F S T). IsPass family obeys board l.pass × IsLane obeys l) 0 lanes
  lanes_ready board passes scripts lanes h few of = record {
    fits = rw (lanes_length passes scripts lanes h) (omega (arith, few));
    each = λ k lane at. let found = lane_at passes scripts lanes h k lane at in (rw found.4.has (of k found.0 found.2), found.4.is);
  }

  -- likewise, of the passes of all processes
  pub all_ready : (board : Board V F S T) (passes : List (Pass V F S T)) (scripts : List (List (Wish V))) (lanes : List (Lane V F S T))
      → AllPasses family obeys board passes → AreLanes obeys passes scripts lanes
      → AllReady (λ (l : Lane V F S T). IsPass family obeys board l.pass × IsLane obeys l) 0 lanes
  all_ready board passes scripts lanes all are =
      let first = get_exists passes 0 all.some in
      let n : board.processes ≤ 16 = (all.each 0 first.0 first.1).0.size.1 in
      lanes_ready board passes scripts lanes are (omega (arith, n, all.all)) (λ k p at. (all.each k p at).0)
