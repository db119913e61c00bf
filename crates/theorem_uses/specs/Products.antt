-- Consequences of the theorems of the checker, a cell and a board, part by part (this project's own).
use Rattle.std.specs.Prelude.{◌≡◌, ◌≢◌, ℕ, ◌+◌, ◌<◌, ◌≤◌, List, [], ◌∷◌, ◌++◌}
use Rattle.std.specs.Prelude.{slice_get, map, Result, Ok, Err, Some}
use Rattle.history_core.specs.declared.history.Op.{Op}
use Rattle.history_core.specs.declared.history.Term.{Term}
use Rattle.history_core.specs.declared.history.Kind.{Kind}
use Rattle.history_core.specs.declared.history.Kind.TheVariants.{Read}
use Rattle.history_core.specs.declared.history.Verdict.{Verdict}
use Rattle.history_core.specs.declared.history.Verdict.TheVariants.{Lawful}
use Rattle.history_core.specs.Orders.{IsAtomicOrder, IsVerdict, RefusesLawfully}
use Rattle.history_core.specs.declared.reason.Reason.{Reason}
use Rattle.history_core.specs.declared.reason.Search.{Search}
use Rattle.history_core.specs.declared.reason.Search.TheVariants.{Order, Unlawful}
use Rattle.history_core.specs.declared.reason.SearchError.{SearchError}
use Rattle.history_core.specs.Reasons.{IsReason, rule_of}
use Rattle.history_core.specs.Searches.{IsAnswered, IsFault}
use Rattle.matrix_core.specs.declared.stamp.Stamp.{Stamp}
use Rattle.cell_contract.specs.declared.cell.Calls.{Ghosts as CellWords}
use Rattle.cell_contract.specs.CallsSoFar.{AreCallsSoFar, HaveOneOrder}
use Rattle.cell_contract.specs.Intervals.{HaveEnded, IsNextCall, known_as}
use Rattle.cell_contract.specs.Running.{last_or}
use Rattle.cell_contract.specs.declared.family.Family.{Ghosts as FamilyWords}
use Rattle.board_live.specs.declared.board.Board.{Board}
use Rattle.board_live.specs.declared.board.Pass.{Pass}
use Rattle.board_live.specs.declared.board.Refused.{Refused}
use Rattle.board_live.specs.declared.record.Posted.{Posted}
use Rattle.board_live.specs.Ends.{AllAtomic, HaveAtomicOrder, IsGreatest, standing}
use Rattle.board_history.specs.BoardRuns.{Called}
use Rattle.board_live.specs.Passes.{ChoosesStamp, HasMade, kind_of}
use Rattle.board_live.specs.Records.{stamped}
use Rattle.board_live.specs.SoFar.{HasOrderSoFar}
use Rattle.theorems.specs.Boards.{BoardEndTheorem, BoardTheorem, AddsCall}
use Rattle.theorems.specs.Cells.{CellTheorem}
use Rattle.theorems.specs.Checkers.{CheckerTheorem}

module _ {R : Type 0} (Same : R → R → Type 0) where
  -- a verdict is exact, and lawful exactly if the order is atomic and refuses lawfully
  abbrev pub VerdictIsExact : Type 0
  VerdictIsExact = (opening : R) (terms : List Term) (ops : List (Op R)) (order : List ℕ) (verdict : Verdict)
      (search : Result Search SearchError) → CheckerTheorem Same opening terms ops order verdict search →
      IsVerdict Same opening terms ops order verdict
      × (verdict ≡ Lawful → IsAtomicOrder Same opening ops order × RefusesLawfully terms ops order)
      × (IsAtomicOrder Same opening ops order → RefusesLawfully terms ops order → verdict ≡ Lawful)

  -- a found order is lawful; with a reason no order is, and no reason is of an earlier rule; and every answer says that
  -- the history can be searched, every fault what stands in the way
  abbrev pub SearchMissesNone : Type 0
  SearchMissesNone = (opening : R) (terms : List Term) (ops : List (Op R)) (order found : List ℕ) (verdict : Verdict)
      (search : Result Search SearchError) (reason : Reason) →
      CheckerTheorem Same opening terms ops order verdict search →
      (search ≡ Ok (Order found) → IsAtomicOrder Same opening ops found × RefusesLawfully terms ops found)
      × (search ≡ Ok (Unlawful reason) → IsAtomicOrder Same opening ops found → RefusesLawfully terms ops found → ⊥)
      × (search ≡ Ok (Unlawful reason) → (limit : ℕ) × IsReason Same opening limit ops reason
      × ((other : Reason) → IsReason Same opening limit ops other → rule_of reason ≤ rule_of other))
      × ((answer : Search) → search ≡ Ok answer → IsAnswered Same opening terms ops answer)
      × ((error : SearchError) → search ≡ Err error → IsFault Same opening terms ops error)

module _ {C T P G R : Type 0} (words : CellWords C T P G R) (fits : T → Type 0) (rises : T → T → Type 0) where
  -- a write adds its record and a call, of at most three accesses
  abbrev pub CellWrites : Type 0
  CellWrites = (cell : C) (put : P) (get : G) (item answer : T) →
      CellTheorem words fits rises cell put get item answer →
      (wrote : P) × (words.written wrote ≡ words.written put ++ item ∷ [])
      × IsNextCall (words.put_times put) (words.put_times wrote)
      × (words.put_accesses wrote ≤ words.put_accesses put + 3) × HaveEnded (words.put_times wrote)

  -- the reader learnt that the write had ended: its read began after that, and else it made no call
  abbrev pub CellHeeds : Type 0
  CellHeeds = (cell : C) (put : P) (get : G) (item answer : T) → CellTheorem words fits rises cell put get item answer →
      (wrote : P) × (read : G) × (begin : ℕ) × (end : ℕ) × ((words.put_times wrote).clock < begin) × (begin ≤ end)
      × ((words.get_times read).begins ≡ (words.get_times get).begins ++ begin ∷ [])
      × ((words.get_times read).ends ≡ (words.get_times get).ends ++ end ∷ [])
      × (words.written wrote ≡ words.written put ++ item ∷ [])

  -- a read adds an answer, by at most three accesses; the answer obeys the law, and when it is given
  -- all calls so far have one order
  abbrev pub CellReads : Type 0
  CellReads = (cell : C) (put : P) (get : G) (item answer : T) → CellTheorem words fits rises cell put get item answer →
      (wrote : P) × (read : G) × (words.answers read ≡ words.answers get ++ answer ∷ [])
      × (words.get_accesses read ≤ words.get_accesses get + 3) × fits answer
      × rises (last_or (words.opening cell) (words.answers get)) answer × rises item answer
      × AreCallsSoFar fits rises (words.opening cell) (known_as (words.written wrote) (words.put_times wrote) ∷ [])
      (words.answers read) (words.get_times read)

  -- at the end all calls have one order
  abbrev pub CellIsEnded : Type 0
  CellIsEnded = (cell : C) (put : P) (get : G) (item answer : T) →
      CellTheorem words fits rises cell put get item answer →
      (wrote : P) × (read : G)
      × HaveOneOrder (words.opening cell) (words.written wrote) (words.put_times wrote) (words.answers read)
      (words.get_times read)

module _ {V F S T : Type 0} (words : FamilyWords F (Posted V) S T) where
  -- the last process's read and write are calls, the one after the other, and choose by what they saw
  abbrev pub BoardCalls : Type 0
  BoardCalls = (board : Board V F S T) (passes : List (Pass V F S T)) (item : V) (read : Posted V)
      (wrote : Result Stamp (Refused V)) → BoardTheorem words board passes item read wrote →
      (others : List (Pass V F S T)) × (pass : Pass V F S T) × (between : Pass V F S T) × (after : Pass V F S T)
      × (seen : Posted V)
      × (chosen : Posted V) × (passes ≡ others ++ pass ∷ []) × AddsCall words board Read pass between read read
      × AddsCall words board (kind_of wrote) between after seen chosen
      × ChoosesStamp board.limit pass.process item seen chosen wrote

  -- whatever calls were made with the pass, this one is made with it too: it has its kind, what it saw and what it
  -- chose, it began after all that its process knew of, and all calls so far have one order
  abbrev pub BoardCallStands : Type 0
  BoardCallStands = (board : Board V F S T) (kind : Kind) (old new : Pass V F S T) (seen chosen : Posted V)
      (calls : List (Called V)) → AddsCall words board kind old new seen chosen → HasMade words board old calls →
      (call : Called V) × (call.kind ≡ kind) × (call.seen ≡ stamped seen) × (call.chosen ≡ stamped chosen)
      × (words.clock old.seat < call.begin) × (call.begin ≤ call.end) × HasMade words board new (calls ++ call ∷ [])
      × HasOrderSoFar words board new (calls ++ call ∷ [])

  -- the calls so far and at the end are atomic, and the register shows the greatest record
  abbrev pub BoardShows : Type 0
  BoardShows = (board : Board V F S T) (passes : List (Pass V F S T)) (shown last : Posted V) →
      BoardEndTheorem words board passes shown last →
      (final : List (Pass V F S T)) × (map standing final ≡ map standing passes)
      × IsGreatest passes shown × HaveAtomicOrder words board passes shown × AllAtomic words board passes
      × IsGreatest final last × HaveAtomicOrder words board final last × AllAtomic words board final

  -- the greatest record is that of the first of the passes that have it
  abbrev pub GreatestIsThere : Type 0
  GreatestIsThere = (passes : List (Pass V F S T)) (last : Posted V) → IsGreatest passes last →
      (i : ℕ) × (p : Pass V F S T) × (slice_get passes i ≡ Some p) × (last ≡ p.own)
      × ((j : ℕ) (q : Pass V F S T) → j < i → slice_get passes j ≡ Some q → q.own.stamp ≢ last.stamp)

  -- a write below the limit chooses its item with the next stamp, and else what it saw
  abbrev pub WritesChoose : Type 0
  WritesChoose = (limit process : ℕ) (item : V) (seen chosen : Posted V) →
      ((s : Stamp) → ChoosesStamp limit process item seen chosen (Ok s) → (seen.stamp.tag < limit)
      × (s ≡ record { tag = seen.stamp.tag + 1; writer = process }) × (chosen ≡ record { stamp = s; item = item }))
      × ((e : Refused V) → ChoosesStamp limit process item seen chosen (Err e) →
      (limit ≤ seen.stamp.tag) × (e.seen ≡ seen) × (chosen ≡ seen))
