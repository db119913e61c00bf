-- The tasks that a header names, and their floors (this project's own).
use Rattle.std.specs.Prelude.{ℕ, min, ◌==◌, List, [], ◌∷◌, map, nat_lt, Bool, true, is_some, if◌then◌else◌}
use Rattle.std.specs.Prelude.{Option, None, Some, option_and_then}
use Rattle.std.specs.List.{find}
use Rattle.std.specs.Option.{option_map_or}
use Rattle.watch_lines.specs.declared.tasks.Task.{Task}
use Rattle.watch_lines.specs.declared.told.Floor.{Floor}
use Rattle.watch_lines.specs.declared.told.WatchFault.{WatchFault}
use Rattle.watch_lines.specs.declared.told.WatchFault.TheVariants.{Below}

-- ---- a floor

-- no operation on a later line begins before this moment
abbrev pub moment_of : Option Floor → ℕ
moment_of high = option_map_or (λ (f : Floor). f.at) high 0

-- the higher one of two floors, the first if they are equal
abbrev pub higher : Option Floor → ℕ → ℕ → Option Floor
higher None at line = Some (record { at = at; line = line })
higher (Some high) at line = if nat_lt high.at at then Some (record { at = at; line = line }) else Some high

-- an operation begins below a floor
abbrev pub below : Option Floor → ℕ → ℕ → Option WatchFault
below None line begins = None
below (Some high) line begins =
    if nat_lt begins high.at then Some (Below line high.line) else None

-- ---- the floors of tasks

-- the task with this number
abbrev pub task_of : List Task → ℕ → Option Task
task_of tasks who = find (λ t. t.who == who) tasks

-- the header names this task, or none
abbrev pub is_named : List Task → Option ℕ → Bool
is_named [] who = true
is_named (t ∷ ts) None = true
is_named (t ∷ ts) (Some who) = is_some (task_of (t ∷ ts) who)

-- the floor of a task, if it has one
abbrev pub floor_of : List Task → Option ℕ → Option Floor
floor_of tasks None = None
floor_of tasks (Some who) = option_and_then (λ (t : Task). t.high) (task_of tasks who)

-- if the header names tasks, the end of an operation is a floor of its task, as the next one begins no earlier
abbrev pub own_floor : List Task → Option ℕ → Option ℕ → Option ℕ
own_floor [] who ends = None
own_floor (t ∷ ts) None ends = None
own_floor (t ∷ ts) (Some who) ends = ends

-- a floor of one task, on this line
abbrev pub task_with : ℕ → ℕ → ℕ → Task → Task
task_with who at line t = if t.who == who then (record t { high = higher t.high at line }) else t

-- and a floor of all, which is of no task
abbrev pub tasks_with : List Task → Option ℕ → ℕ → ℕ → List Task
tasks_with tasks None at line = tasks
tasks_with tasks (Some who) at line = map (task_with who at line) tasks

-- the least moment of their floors, which is 0 while one has none
abbrev pub least_floor : List Task → ℕ
least_floor [] = 18446744073709551615
least_floor (t ∷ ts) = min (moment_of t.high) (least_floor ts)

-- the moment of a floor for all tasks: where the header names tasks, one of a task leaves the least of theirs
abbrev pub floor_for_all : List Task → Option ℕ → ℕ → ℕ
floor_for_all [] who at = at
floor_for_all (t ∷ ts) None at = at
floor_for_all (t ∷ ts) (Some who) at = least_floor (t ∷ ts)

-- the highest floor of all, with one more, of all or of a task
abbrev pub high_with : List Task → Option Floor → Option ℕ → ℕ → ℕ → Option Floor
high_with tasks high who at line = higher high (floor_for_all (tasks_with tasks who at line) who at) line
