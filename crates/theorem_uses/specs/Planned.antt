-- Consequences of the plan that each process of a board keeps at any moment (this project's own).
use Rattle.std.specs.Prelude.{◌≡◌, ℕ, ◌+◌, ◌<◌, [], slice_get, Some}
use Rattle.cell_contract.specs.Plans.{Doings}
use Rattle.matrix_core.specs.Lines.{other}
use Rattle.board_live.specs.declared.record.Posted.{Posted}
use Rattle.board_live.specs.Plans.{MakesCalls}

module _ (V : Type 0) where
  -- whatever it wrote in one row, to two processes, is one record
  abbrev pub WritesOneRecordARow : Type 0
  WritesOneRecordARow = (opening : Posted V) (width n limit process : ℕ) (done : Doings (Posted V)) (d e k : ℕ)
      (a b : Posted V) → MakesCalls opening width n limit process done → d + 1 < n → e + 1 < n →
      slice_get (done.writes (other process d)).items k ≡ Some a →
      slice_get (done.writes (other process e)).items k ≡ Some b → a ≡ b

  -- before its first step it has written nothing
  abbrev pub WritesAfterItReads : Type 0
  WritesAfterItReads = (opening : Posted V) (width n limit process : ℕ) (done : Doings (Posted V)) (e : ℕ) →
      MakesCalls opening width n limit process done → e + 1 < n → done.times ≡ [] →
      (done.writes (other process e)).items ≡ []
