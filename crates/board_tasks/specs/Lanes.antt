-- A lane for each pass of a board (this project's own).
use Rattle.std.specs.Prelude.{◌≡◌, ◌≤◌, All, Bool, List, [], ◌∷◌, length, vec_capacity}
use Rattle.history_core.specs.declared.wish.Wish.{Wish}
use Rattle.board_live.specs.declared.board.Pass.{Pass}
use Rattle.board_tasks.specs.declared.lane.Lane.{Lane}
use Rattle.board_tasks.specs.Logs.{IsLogOfScript, Obeys}

module _ {V F S T : Type 0} (obeys : V → Bool) where
  -- the lane's log has room for all calls of its script, whose items obey their law, and tells of the first of them
  pub record IsLane (lane : Lane V F S T) : Type 0 where
    pub room : length lane.script.items ≤ vec_capacity lane.log
    pub lawful : All (Obeys obeys) lane.script.items
    pub kept : IsLogOfScript lane.script.items lane.log.items lane.pass.own.stamp

  -- a lane of this pass with this script, whose log is empty
  pub record IsNewLane (pass : Pass V F S T) (script : List (Wish V)) (lane : Lane V F S T) : Type 0 where
    pub is : IsLane lane
    pub has : lane.pass ≡ pass
    pub plans : lane.script.items ≡ script
    pub empty : lane.log.items ≡ []

  -- for each pass a new lane, with the script at its place
  abbrev pub AreLanes : List (Pass V F S T) → List (List (Wish V)) → List (Lane V F S T) → Type 0
  AreLanes [] [] [] = Unit {0}
  AreLanes (p ∷ ps) (s ∷ ss) (l ∷ ls) = IsNewLane p s l × AreLanes ps ss ls
  AreLanes [] [] (l ∷ ls) = ⊥
  AreLanes [] (s ∷ ss) ls = ⊥
  AreLanes (p ∷ ps) [] ls = ⊥
  AreLanes (p ∷ ps) (s ∷ ss) [] = ⊥
