-- The counts of one operation more. Only private functions cite this, which is this project's own.
use Rattle.std.specs.Prelude.{◌≡◌, ◌+◌, cond, is_none}
use Rattle.exchanges_log.specs.ExchangeLogs.{is_uncertain}
use Rattle.object_core.specs.declared.operation.Operation.{Operation}
use Rattle.object_registers.specs.declared.exchanging.Exchange.{Exchange}
use Rattle.watch_lines.specs.declared.told.Counts.{Counts}

pub record CountsOne (c : Counts) (o : Operation Exchange) (now : Counts) : Type 0 where
  pub ops : now.ops ≡ c.ops + 1
  pub unfinished : now.unfinished ≡ c.unfinished + cond (is_none o.ends) 1 0
  pub uncertain : now.uncertain ≡ c.uncertain + cond (is_uncertain o) 1 0
  pub floors : now.floors ≡ c.floors
