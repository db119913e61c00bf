-- The header of a log that is watched: that of a log whose records repeat, which may name the tasks (this project's
-- own).
use Rattle.std.specs.Prelude.{ℕ, List, [], map, codes, if◌then◌else◌, string_bytes}
use Rattle.std.specs.Prelude.{Option, None, Some, option_and_then, Result, Ok}
use Rattle.std.specs.List.{list_all}
use Rattle.std.specs.Option.{option_map_or}
use Rattle.serde_json.specs.Data.{Data, null}
use Rattle.serde_json.specs.Find.{get}
use Rattle.read_document.specs.declared.refusal.DocError.{DocError}
use Rattle.read_document.specs.declared.refusal.DocError.TheVariants.{Shape}
use Rattle.read_document.specs.declared.key.Key.TheVariants.{Who}
use Rattle.read_document.specs.Document.{value_of}
use Rattle.read_document.specs.Refusals.{◌>>=◌, some_or}
use Rattle.read_document.specs.Values.{as_items, as_whole}
use Rattle.read_document.specs.Records.{is_whole}
use Rattle.read_exchange.specs.Headers.{exchange_head_of}
use Rattle.watch_lines.specs.declared.header.WatchHeader.{WatchHeader}
use Rattle.watch_lines.specs.declared.tasks.Task.{Task}

-- what the log is of, and its tasks, if they are named
pub record WatchHead : Type 0 where
  pub opening : List ℕ
  pub tasks : List Task

abbrev pub header_seen : WatchHeader → WatchHead
header_seen h = record { opening = string_bytes h.opening; tasks = h.tasks.items }

-- the task with this number, which has no floor yet
abbrev pub task_named : Data → Task
task_named d = record { who = option_map_or (λ (who : ℕ). who) (as_whole d) 0; high = None }

abbrev pub tasks_named : List Data → Option (List Task)
tasks_named ds = if list_all is_whole ds then Some (map task_named ds) else None

-- an array of whole numbers; where it is missing, or null, none is named
abbrev pub tasks_in : Option Data → Result (List Task) DocError
tasks_in None = Ok []
tasks_in (Some null) = Ok []
tasks_in (Some d) = some_or (Shape Who) (option_and_then tasks_named (as_items d))

unfoldable pub watch_head_of : List ℕ → Result WatchHead DocError
watch_head_of bytes = do
  opening ← exchange_head_of bytes
  d ← value_of bytes
  tasks ← tasks_in (get (codes "who") d)
  Ok (record { opening = opening; tasks = tasks })
