-- What a process of a board may have done at any moment: calls that have ended, and then one call as far as it has come
-- (this project's own).
use Rattle.std.specs.Prelude.{◌≡◌, ℕ, ◌≤◌, List, map, slice_get, Some, true, false}
use Rattle.cell_contract.specs.declared.said.Said.{Said}
use Rattle.cell_contract.specs.declared.said.Found.{Found}
use Rattle.cell_contract.specs.Plans.{Accesses, Doings}
use Rattle.board_history.specs.BoardRuns.{Answered, Called, Did, end_among, Written}
use Rattle.board_history.specs.RunsSoFar.{IsProcessSoFar}
use Rattle.board_live.specs.declared.record.Posted.{Posted}
use Rattle.board_live.specs.Records.{stamped}

module _ {V : Type 0} where
  abbrev pub written_by : Accesses (Posted V) → Written V
  written_by w = record { items = map stamped w.items; begins = w.begins; ends = w.ends }

  abbrev pub answered_by : List ℕ → Accesses (Posted V) → Answered V
  answered_by numbers r = record { items = map stamped r.items; numbers = numbers; begins = r.begins; ends = r.ends }

  -- what a process did, with its calls, and with the numbers of the answers that it got from each other one
  abbrev pub did_with : List (Called V) → (ℕ → List ℕ) → Doings (Posted V) → Did V
  did_with calls numbers done = record {
    times = done.times;
    calls = calls;
    writes = λ j. written_by (done.writes j);
    reads = λ j. answered_by (numbers j) (done.reads j);
  }

  -- *A tag said truly*: a call of the process that told a write of its own, with this tag or a greater one, had ended
  -- when the process said this
  pub record WasTrue (width n process : ℕ) (times : List ℕ) (calls : List (Called V)) (s : Said) : Type 0 where
    pub number : ℕ
    pub call : Called V
    pub there : slice_get calls number ≡ Some call
    pub tells : call.tells ≡ true
    pub writer : call.chosen.stamp.writer ≡ process
    pub not_below : s.tag ≤ call.chosen.stamp.tag
    pub end : ℕ
    pub ended : end_among width n times calls number call ≡ Some end
    pub before : end ≤ s.time

  -- *The process keeps its word*: the tags that it said, it said truly; and each call that ended without telling,
  -- because it found that its record was told, found with its last step that the record's writer had said its tag
  pub record KeepsItsWord (width n process : ℕ) (times : List ℕ) (calls : List (Called V)) (said : List Said)
      (found : List Found) : Type 0 where
    pub says : (x : ℕ) (s : Said) → slice_get said x ≡ Some s → WasTrue width n process times calls s
    pub finds : (k end : ℕ) (c : Called V) → slice_get calls k ≡ Some c → c.tells ≡ false → c.finds ≡ true →
        end_among width n times calls k c ≡ Some end →
        (y : ℕ) × (slice_get found y
        ≡ Some (record { who = c.chosen.stamp.writer; tag = c.chosen.stamp.tag; time = end }))

  -- *The plan of a board's records*: there are calls that the process has made so far, by which it keeps its word. The
  -- numbers of its answers don't matter
  abbrev pub MakesCalls : Posted V → ℕ → ℕ → ℕ → ℕ → Doings (Posted V) → Type 0
  MakesCalls opening width n limit process done = (calls : List (Called V))
      × ((numbers : ℕ → List ℕ) → IsProcessSoFar width n limit (stamped opening) process (did_with calls numbers done))
      × KeepsItsWord width n process done.times calls done.said done.found
