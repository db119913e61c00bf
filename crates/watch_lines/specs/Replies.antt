-- What is told of a log that is watched, a line after the other (this project's own).
use Rattle.std.specs.Prelude.{◌≡◌, ◌≢◌, ◌⊎◌, ℕ, List, [], ◌∷◌, Option, None, Some, Result, Ok, Err}
use Rattle.program_runs.specs.declared.fault.Fault.TheVariants.{NoMemory}
use Rattle.text_lines.specs.Splits.{lines_of}
use Rattle.watch_lines.specs.Seen.{LinesSeen}
use Rattle.watch_lines.specs.Steps.{ComesTo, goes_on, IsLastAnswer, stops}
use Rattle.watch_lines.specs.declared.told.Told.{Told}
use Rattle.watch_lines.specs.declared.told.WatchFault.{WatchFault}
use Rattle.watch_lines.specs.declared.told.WatchFault.TheVariants.{Refused}

-- these lines go on, from what was seen to what is seen then
abbrev pub GoOn : Option LinesSeen → List (List ℕ) → Option LinesSeen → Type 0
GoOn s [] t = t ≡ s
GoOn s (line ∷ lines) t = (next : LinesSeen) × ComesTo s line (goes_on next) × GoOn (Some next) lines t

-- one of these lines is the first to stop, at which this is told, whatever lines come behind it
abbrev pub StopAt : Option LinesSeen → List (List ℕ) → Result Told WatchFault → Type 0
StopAt s [] reply = ⊥
StopAt s (line ∷ lines) reply =
    ComesTo s line (stops reply) ⊎ ((next : LinesSeen) × ComesTo s line (goes_on next) × StopAt (Some next) lines reply)

-- what is told of these lines behind what was seen, if no more come: at one of them, or at the end of all
abbrev pub IsToldFrom : Option LinesSeen → List (List ℕ) → Result Told WatchFault → Type 0
IsToldFrom s lines reply = StopAt s lines reply ⊎ ((t : Option LinesSeen) × GoOn s lines t × IsLastAnswer t reply)

-- what is told of these bytes
abbrev pub IsWatchReply : List ℕ → Result Told WatchFault → Type 0
IsWatchReply bytes reply = IsToldFrom None (lines_of bytes) reply

-- what a call tells is so, unless memory ran out
abbrev pub TellsIf : (Result Told WatchFault → Type 0) → Result Told WatchFault → Type 0
TellsIf IsReply (Ok told) = IsReply (Ok told)
TellsIf IsReply (Err fault) = fault ≢ Refused NoMemory → IsReply (Err fault)
