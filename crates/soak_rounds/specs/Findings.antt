-- What a soak may find (this project's own).
use Rattle.std.specs.Prelude.{ℕ, ◌+◌, Option, Some, None, Result, Ok, Err, nat_lt, if◌then◌else◌, min}
use Rattle.std.specs.Option.{option_or}
use Rattle.std.specs.IoError.{error_kind}
use Rattle.std.specs.declared.io.Error.{Error}
use Rattle.std.specs.declared.io.ErrorKind.{ErrorKind}
use Rattle.std.specs.declared.io.ErrorKind.TheVariants as kind
use Rattle.program_streams.specs.declared.exit.Exit.{Exit}
use Rattle.program_streams.specs.declared.exit.Exit.TheVariants as exit
use Rattle.soak_rounds.specs.declared.finding.Finding.{Finding}
use Rattle.soak_rounds.specs.declared.finding.Finding.TheVariants.{Torn, Older, Foreign}
use Rattle.soak_rounds.specs.declared.finding.Tally.{Tally}

-- what is wrong with a record that was read after one of the write `last`. Of a torn record no write is known
abbrev pub wrong_read : ℕ → Option ℕ → Option Finding
wrong_read last None = Some Torn
wrong_read last (Some number) = if nat_lt number last then Some Older else None

-- the last write of which a record was read
abbrev pub last_read : ℕ → Option ℕ → ℕ
last_read last None = last
last_read last (Some number) = number

-- what is wrong with the last record that was read in a round: it is foreign where no write has its number yet
abbrev pub wrong_end : ℕ → ℕ → Option Finding
wrong_end written read = if nat_lt written read then Some Foreign else None

-- a count that stands still at its end
abbrev pub counted : ℕ → ℕ → ℕ
counted a b = min (a + b) 18446744073709551615

-- ---- what is counted

abbrev pub no_tally : Tally
no_tally = record { writes = 0; reads = 0; found = None }

-- one more write
abbrev pub with_write : Tally → Tally
with_write t = record { writes = counted t.writes 1; reads = t.reads; found = t.found }

-- one more read, of a record of this write, after one of the write `last`. What was found first stays
abbrev pub with_read : Tally → ℕ → Option ℕ → Tally
with_read t last number =
    record { writes = t.writes; reads = counted t.reads 1; found = option_or t.found (wrong_read last number) }

-- what another counted after this
abbrev pub with_tally : Tally → Tally → Tally
with_tally t u =
    record { writes = counted t.writes u.writes; reads = counted t.reads u.reads; found = option_or t.found u.found }

-- the end of a round that wrote and read up to these numbers
abbrev pub with_end : Tally → ℕ → ℕ → Tally
with_end t written read =
    record { writes = t.writes; reads = t.reads; found = option_or t.found (wrong_end written read) }

-- ---- how a soak ends

-- what an error of this kind stops: a thread that can't start would block
abbrev pub stop_of : ErrorKind → Exit
stop_of kind.OutOfMemory = exit.NoMemory
stop_of kind.WouldBlock = exit.NoThread
stop_of rest = exit.Stream

abbrev pub exit_of : Result (Option Finding) Error → Exit
exit_of (Ok None) = exit.Sound
exit_of (Ok (Some found)) = exit.Unsound
exit_of (Err error) = stop_of (error_kind error)
