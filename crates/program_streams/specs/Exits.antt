-- The statuses that programs end with (this project's own).
use Rattle.std.specs.Prelude.{ℕ}
use Rattle.program_streams.specs.declared.exit.Exit.{Exit}
use Rattle.program_streams.specs.declared.exit.Exit.TheVariants.{Sound, Unsound, NoCommand, Refused}
use Rattle.program_streams.specs.declared.exit.Exit.TheVariants.{NoMemory, Stream, NoThread}
use Rattle.program_streams.specs.declared.exit.Exit.TheVariants.{Undecided, Little}

abbrev pub status_of : Exit → ℕ
status_of Sound = 0
status_of Unsound = 1
status_of NoCommand = 2
status_of Refused = 3
status_of NoMemory = 4
status_of Stream = 5
status_of NoThread = 6
status_of Undecided = 7
status_of Little = 8
