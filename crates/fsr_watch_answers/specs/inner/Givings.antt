-- How what is told of a watched log is given. Only private functions cite this, which is this project's own.
use Rattle.std.specs.Prelude.{◌≡◌, ◌⊎◌, ◌+◌, ℕ, List, Option, Result, Ok, Err}
use Rattle.std.specs.Io.{StartsWith}
use Rattle.std.specs.Io.KnownBytes.{Appends}
use Rattle.watch_lines.specs.declared.told.Told.{Told}
use Rattle.watch_lines.specs.declared.told.WatchFault.{WatchFault}
use Rattle.fsr_watch_answers.specs.Text.{told_status, told_text, watch_status}

-- nothing went out
abbrev pub GivesNothing : Option (List ℕ) → Option (List ℕ) → ℕ → ℕ → Type 0
GivesNothing old new failed_old failed_new = (new ≡ old) × (failed_new ≡ failed_old)

-- the text went out whole, with its status; or a front of it, and the stream failed; or memory ran out. Of a fault
-- nothing goes out.
abbrev pub GivesTold : Result Told WatchFault → Option (List ℕ) → Option (List ℕ) → ℕ → ℕ → ℕ → Type 0
GivesTold (Ok told) old new failed_old failed_new status =
    (Appends old new (told_text told) × (failed_new ≡ failed_old) × (status ≡ told_status told))
    ⊎ ((((sent : List ℕ) × StartsWith (told_text told) sent × Appends old new sent)
    × (failed_new ≡ failed_old + 1) × (status ≡ 5))
    ⊎ (GivesNothing old new failed_old failed_new × (status ≡ 4)))
GivesTold (Err fault) old new failed_old failed_new status =
    GivesNothing old new failed_old failed_new × ((status ≡ watch_status fault) ⊎ (status ≡ 4))
