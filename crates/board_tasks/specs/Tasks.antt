-- What a task makes of its lane (this project's own).
use Rattle.std.specs.Prelude.{◌≡◌, ◌⊎◌, Bool, ℕ, ◌+◌, ◌<◌, ◌≤◌, List, [], ◌∷◌, ◌++◌, length}
use Rattle.history_core.specs.declared.history.Kind.{Kind}
use Rattle.history_core.specs.declared.history.Kind.TheVariants.{Refused, Read as ReadKind, Write as WriteKind}
use Rattle.history_core.specs.declared.wish.Wish.{Wish}
use Rattle.history_core.specs.declared.wish.Wish.TheVariants.{Write, Read}
use Rattle.cell_contract.specs.declared.family.Family.{Ghosts as FamilyWords}
use Rattle.board_live.specs.declared.board.Board.{Board}
use Rattle.board_live.specs.declared.board.Pass.{Pass}
use Rattle.board_live.specs.declared.record.Posted.{Posted}
use Rattle.board_live.specs.Passes.{IsPass, IsCall}
use Rattle.board_tasks.specs.declared.lane.Reply.{Reply}
use Rattle.board_tasks.specs.declared.lane.Reply.TheVariants.{Written, Seen, Ended}
use Rattle.board_tasks.specs.declared.lane.Entry.{Entry}
use Rattle.board_tasks.specs.declared.lane.Lane.{Lane}
use Rattle.board_tasks.specs.Lanes.{IsLane}

-- the gate has given a permit for this call of this task
abbrev pub Permitted : {S P : Type 0} → (S → ℕ → ℕ → P → Type 0) → S → ℕ → ℕ → Type 0
Permitted is_for gate task call = (permit : _) × is_for gate task call permit

-- the entry with this wish and this reply
abbrev pub entry : {V : Type 0} → Wish V → Reply V → Entry V
entry wish reply = record { wish = wish; reply = reply }

-- what a call was, by its reply
abbrev pub kind_by : {V : Type 0} → Reply V → Kind
kind_by (Written s) = WriteKind
kind_by (Seen p) = ReadKind
kind_by (Ended p) = Refused

-- what a call chooses and replies, by what it saw
abbrev pub Replies : {V : Type 0} → ℕ → ℕ → Wish V → Posted V → Posted V → Reply V → Type 0
Replies limit process Read seen chosen (Seen p) = (p ≡ seen) × (chosen ≡ seen)
Replies limit process Read seen chosen (Written s) = ⊥
Replies limit process Read seen chosen (Ended p) = ⊥
Replies limit process (Write item) seen chosen (Written s) =
    (seen.stamp.tag < limit) × (s ≡ record { tag = seen.stamp.tag + 1; writer = process })
    × (chosen ≡ record { stamp = s; item = item })
Replies limit process (Write item) seen chosen (Seen p) = ⊥
Replies limit process (Write item) seen chosen (Ended p) = (limit ≤ seen.stamp.tag) × (p ≡ seen) × (chosen ≡ seen)

module _ {V F S T : Type 0} (family : FamilyWords F (Posted V) S T) (obeys : V → Bool) where
  -- an entry of a log is one board call, after which the pass is still of the board
  pub record IsEntry (board : Board V F S T) (old : Pass V F S T) (entry : Entry V) (new : Pass V F S T) : Type 0 where
    pub of : IsPass family obeys board new
    pub seen : Posted V
    pub call : IsCall family obeys board (kind_by entry.reply) old new seen
    pub replies : Replies board.limit old.process entry.wish seen new.own entry.reply

  -- the entry is of a call that was made, with some pass of some board
  abbrev pub WasMade : Entry V → Type 0
  WasMade entry = (board : Board V F S T) × (old : Pass V F S T) × (new : Pass V F S T) × IsEntry board old entry new

  -- the entries are board calls, one after the other
  abbrev pub AreCalls : Board V F S T → Pass V F S T → List (Entry V) → Pass V F S T → Type 0
  AreCalls board old [] new = old ≡ new
  AreCalls board old (e ∷ es) new = (p : Pass V F S T) × IsEntry board old e p × AreCalls board p es new

  -- the log has the entries of the board calls that were made, and the task had a permit for each of these calls; the
  -- whole script was done, or the task may stop before the next call
  pub record Ran (may_call may_stop : ℕ → ℕ → Type 0) (board : Board V F S T) (task : ℕ)
      (old new : Lane V F S T) : Type 0 where
    pub of : IsPass family obeys board new.pass
    pub is : IsLane obeys new
    pub script : new.script ≡ old.script
    pub added : List (Entry V)
    pub log : new.log.items ≡ old.log.items ++ added
    pub calls : AreCalls board old.pass added new.pass
    pub asked : (call : ℕ) → length old.log.items < call → call ≤ length new.log.items → may_call task call
    pub whole : (length new.log.items ≡ length new.script.items) ⊎ may_stop task (length new.log.items + 1)
