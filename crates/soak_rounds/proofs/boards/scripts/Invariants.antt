-- A script for each task so far.
use Rattle.std.proofs.Common.{◌≡◌, ℕ, All, List, length}
use Rattle.std.specs.Prelude.{slice_get, Some}
use Rattle.history_core.specs.declared.wish.Wish.{Wish}
use Rattle.board_tasks.specs.Logs.{Obeys}
use Rattle.soak_rounds.specs.declared.record.Record.{Record}
use Rattle.soak_rounds.specs.Findings.{counted}
use Rattle.soak_rounds.specs.Records.{no_law}
use Rattle.soak_rounds.specs.Scripts.{Scripted}
use Rattle.soak_rounds.proofs.boards.scripts.Given as goal

abbrev pub invariant-loop-task : goal.invariant-loop-task
invariant-loop-task g l = record {
  lawful : All (λ (t : List (Wish (Record g.row.W.Denot))). All (Obeys no_law) t) l.all.items;
  count : length l.all.items ≡ l.task;
  scripted : (k : ℕ) (t : List (Wish (Record g.row.W.Denot))) → slice_get l.all.items k ≡ Some t
      → (next : ℕ) × Scripted (λ (r : Record g.row.W.Denot). g.W.Words.listed r.words)
      (counted (counted l.from k) 1) l.tasks l.calls next t;
}
