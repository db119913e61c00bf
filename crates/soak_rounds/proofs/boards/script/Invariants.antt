-- Two calls for each turn so far.
use Rattle.std.proofs.Common.{All}
use Rattle.board_tasks.specs.Logs.{Obeys}
use Rattle.soak_rounds.specs.Records.{no_law}
use Rattle.soak_rounds.specs.Scripts.{Scripted}
use Rattle.soak_rounds.proofs.boards.script.Given as goal

abbrev pub invariant-loop : goal.invariant-loop
invariant-loop g l = record {
  lawful : All (Obeys no_law) l.wishes.items;
  scripted : Scripted (λ x. g.W.Words.listed x.words) l.first l.step l.counter l.number l.wishes.items;
}
