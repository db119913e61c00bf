-- The shape of the steps of a four-slot register (this project's own).
use Rattle.std.specs.Prelude.{ℕ, ◌==◌, List, if◌then◌else◌, Option, Some, None, option_and_then}
use Rattle.serde_json.specs.Data.{Data}
use Rattle.serde_json.specs.Find.{as_str}
use Rattle.four_slot_core.specs.declared.schedule.Turn.{Turn}
use Rattle.four_slot_core.specs.declared.schedule.Turn.TheVariants.{Writer, Reader}
use Rattle.read_history.specs.Shapes.{all_of}

-- the sides' steps, as the letters w and r
abbrev pub turn_named : ℕ → Option Turn
turn_named letter = if letter == 119 then Some Writer else (if letter == 114 then Some Reader else None)

abbrev pub as_turns : Data → Option (List Turn)
as_turns d = option_and_then (all_of turn_named) (as_str d)
