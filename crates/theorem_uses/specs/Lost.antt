-- Consequences of what is known beside processes that were lost (this project's own).
use Rattle.std.specs.Prelude.{◌≡◌, ◌≢◌, ◌⊎◌, Bool, true, false, IsTrue, ℕ, ◌<◌, List, [], ◌∷◌, length, map, slice_get}
use Rattle.std.specs.Prelude.{Some}
use Rattle.history_core.specs.declared.history.Kind.TheVariants.{Write as WriteKind}
use Rattle.matrix_core.specs.Choices.{IsAtMost}
use Rattle.cell_contract.specs.declared.family.Family.{Ghosts as FamilyWords}
use Rattle.board_history.specs.BoardRuns.{Called}
use Rattle.board_history.specs.BoardRuns.{end_of}
use Rattle.board_live.specs.declared.board.Board.{Board}
use Rattle.board_live.specs.declared.board.Pass.{Pass}
use Rattle.board_live.specs.declared.record.Posted.{Posted}
use Rattle.board_live.specs.Left.{HasOrderWith, HaveAtomicOrderWith, HaveMade, SomePasses}
use Rattle.board_live.specs.Passes.{HasMade, IsPass}
use Rattle.board_tasks.specs.declared.lane.Entry.{Entry}
use Rattle.board_tasks.specs.declared.lane.Lane.{Lane}
use Rattle.board_tasks.specs.declared.lane.Reply.TheVariants.{Seen}
use Rattle.board_tasks.specs.declared.origin.Origin.TheVariants.{Sound, Broken}
use Rattle.board_tasks.specs.Left.{AreAtomicLogsWith, AreLogsOfAll, SomeHaveWorked}
use Rattle.board_tasks.specs.Lost.{AreWithoutLost, is_lost, IsOriginBesideLost, may_have_origin}
use Rattle.board_tasks.specs.Origins.{in_order, is_known, stamp_before}
use Rattle.board_tasks.specs.Tasks.{AreCalls, kind_by}
use Rattle.board_tasks.specs.Told.{AreOfRunBeside}
use Rattle.board_tasks.specs.Worked.{HasChosenBy}
use Rattle.theorem_uses.specs.Logs.{BreaksFirst}

module _ {V F S T : Type 0} (words : FamilyWords F (Posted V) S T) where
  -- of two passes that are left, whoever was lost: a write that began after another call had ended has no smaller stamp
  abbrev pub WritesRiseWithSome : Type 0
  WritesRiseWithSome = (board : Board V F S T) (passes : List (Pass V F S T)) (calls : ℕ → List (Called V))
      (x y k m : ℕ) (p q : Pass V F S T) (a b : Called V) → HaveAtomicOrderWith words board passes →
      HaveMade words board passes calls → slice_get passes x ≡ Some p → slice_get passes y ≡ Some q →
      p.process < board.processes → q.process < board.processes → slice_get (calls p.process) k ≡ Some a →
      slice_get (calls q.process) m ≡ Some b → a.end < b.begin → b.kind ≡ WriteKind →
      IsAtMost a.chosen.stamp b.chosen.stamp

  -- each entry of a log that is left tells of one call of its process in one order with some calls of the others, and
  -- each call has an entry
  abbrev pub LogsWithSomeShow : Type 0
  LogsWithSomeShow = (board : Board V F S T) (lanes : List (Lane V F S T)) (k : ℕ) (lane : Lane V F S T) (e : Entry V) →
      AreAtomicLogsWith words board lanes → slice_get lanes k ≡ Some lane →
      (calls : ℕ → List (Called V)) × HasOrderWith words board (map (λ l. l.pass) lanes) calls
      × (lane.log.items ≡ [] → calls lane.pass.process ≡ [])
      × (lane.log.items ≡ e ∷ [] → (c : Called V) × (calls lane.pass.process ≡ c ∷ []) × (c.kind ≡ kind_by e.reply)
      × HasChosenBy e.wish e.reply c.chosen)

module _ {V F S T : Type 0} (words : FamilyWords F (Posted V) S T) (obeys : V → Bool) where
  -- some passes of a board are of that board
  abbrev pub SomePassesShow : Type 0
  SomePassesShow = (board : Board V F S T) (passes : List (Pass V F S T)) (x : ℕ) (p : Pass V F S T) →
      SomePasses words obeys board passes → slice_get passes x ≡ Some p → IsPass words obeys board p

  -- lanes that are left are some, no two of one process, and each has worked with a fresh pass
  abbrev pub SomeLanesShow : Type 0
  SomeLanesShow = (board : Board V F S T) (lanes : List (Lane V F S T)) (x y : ℕ) (lane other : Lane V F S T) →
      SomeHaveWorked words obeys board lanes → (0 < length lanes)
      × (slice_get lanes x ≡ Some lane → (old : Pass V F S T) × HasMade words board old []
      × IsPass words obeys board lane.pass × AreCalls words obeys board old lane.log.items lane.pass)
      × (slice_get lanes x ≡ Some lane → slice_get lanes y ≡ Some other → lane.pass.process ≡ other.pass.process →
      x ≢ y → ⊥)

module _ {V : Type 0} (equal : V → V → Bool) where
  -- in logs that are sound beside what is lost each entry is in order; and what a read saw, of a task whose log isn't
  -- lost, is known
  abbrev pub SoundBesideShow : Type 0
  SoundBesideShow = (opening : V) (lost : List Bool) (logs : List (List (Entry V))) (t j : ℕ) (log : List (Entry V))
      (e : Entry V) (p : Posted V) → IsOriginBesideLost equal opening lost logs Sound → slice_get logs t ≡ Some log →
      slice_get log j ≡ Some e → IsTrue (in_order t (stamp_before log j) e)
      × (e.reply ≡ Seen p → is_lost lost p.stamp.writer ≡ false → is_known equal opening logs p ≡ true)

  -- broken logs name the first entry out of order; or all are in order, and they name the first that can have no origin
  abbrev pub BrokenBesideShow : Type 0
  BrokenBesideShow = (opening : V) (lost : List Bool) (logs : List (List (Entry V))) (task call : ℕ) →
      IsOriginBesideLost equal opening lost logs (Broken task call) →
      BreaksFirst equal in_order logs task call
      ⊎ (((t j : ℕ) (log : List (Entry V)) (e : Entry V) → slice_get logs t ≡ Some log → slice_get log j ≡ Some e →
      IsTrue (in_order t (stamp_before log j) e))
      × BreaksFirst equal (may_have_origin equal opening lost logs) logs task call)

module _ (V : Type 0) where
  -- in logs of a run beside what is lost, a log that isn't lost tells of all calls of its process
  abbrev pub RunsBesideShow : Type 0
  RunsBesideShow = (opening : V) (lost : List Bool) (logs : List (List (Entry V))) (i : ℕ) (e : Entry V)
      (h : AreOfRunBeside opening lost logs) → is_lost lost i ≡ false →
      (slice_get logs i ≡ Some [] → (h.did i).calls ≡ [])
      × (slice_get logs i ≡ Some (e ∷ []) → (c : Called V) × ((h.did i).calls ≡ c ∷ []) × (c.kind ≡ kind_by e.reply)
      × HasChosenBy e.wish e.reply c.chosen)

  -- these calls have ended, and stamps rise along intervals, also to a write that was cut off
  abbrev pub RunsBesideRise : Type 0
  RunsBesideRise = (opening : V) (lost : List Bool) (logs : List (List (Entry V))) (i j k m : ℕ) (log : List (Entry V))
      (a b : Called V) (h : AreOfRunBeside opening lost logs) → is_lost lost i ≡ false → slice_get logs i ≡ Some log →
      j < length logs → slice_get (h.did i).calls k ≡ Some a → slice_get (h.did j).calls m ≡ Some b →
      (end : ℕ) × (end_of h.width (length logs) (h.did i) k a ≡ Some end)
      × (end < b.begin → b.kind ≡ WriteKind → IsAtMost a.chosen.stamp b.chosen.stamp)

  -- where some logs are lost, those that aren't are as they were
  abbrev pub WithoutLostShows : Type 0
  WithoutLostShows = (lost : List Bool) (whole logs : List (List (Entry V))) (t : ℕ) → AreWithoutLost lost whole logs →
      is_lost lost t ≡ false → slice_get logs t ≡ slice_get whole t

module _ (V F S T : Type 0) where
  -- of the logs of all, that of a lane is its own, and one of no lane is lost and empty
  abbrev pub LogsOfAllShow : Type 0
  LogsOfAllShow = (board : Board V F S T) (lane : Lane V F S T) (lost : List Bool) (logs : List (List (Entry V)))
      (i : ℕ) → AreLogsOfAll board (lane ∷ []) lost logs → i < board.processes → lane.pass.process ≢ i →
      (length logs ≡ board.processes) × (slice_get logs lane.pass.process ≡ Some lane.log.items)
      × (is_lost lost i ≡ true) × (slice_get logs i ≡ Some [])
