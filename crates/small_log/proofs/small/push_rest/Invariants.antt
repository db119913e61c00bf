-- Each turn prints one operation behind what was printed before.
use Rattle.std.proofs.Common.{◌≡◌, ◌++◌, take}
use Rattle.std.specs.List.{flat_map}
use Rattle.small_log.specs.Small.{next_text}
use Rattle.small_log.proofs.small.push_rest.Given as goal

abbrev pub invariant-loop-op : goal.invariant-loop-op
invariant-loop-op l = l.text.items ≡ l.initial.text.items ++ flat_map (next_text l.ops) (take l.op-index l.rest)
