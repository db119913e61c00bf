-- Each has its number, and none a floor yet.
use Rattle.std.proofs.Common.{map, sym, ap, ◌∙◌, Bool, Ok, Some, None}
use Rattle.std.specs.Prelude.{if◌then◌else◌}
use mathlib.Core.List.{map-map}
use Rattle.serde_json.specs.View.{view}
use Rattle.read_document.specs.declared.key.Key.TheVariants.{Who}
use Rattle.read_document.specs.declared.refusal.DocError.TheVariants.{Shape}
use Rattle.read_document.specs.Refusals.{some_or}
use Rattle.watch_lines.specs.WatchHeads.{task_named}
use Rattle.watch_lines.proofs.header.tasks_named.Goals as goal

pub returns : goal.returns
returns c =
    ap (λ (b : Bool). some_or (Shape Who) (if b then Some (map task_named (map view c.args.items.now)) else None))
    (sym c.if-not-are_whole.ensures)
    ∙ ap Ok (map-map task_named view c.args.items.now ∙ sym c.in_ok-tasks.ensures)
