-- What `order` is asked for by a number (this project's own).
use Rattle.std.specs.Prelude.{ℕ, nat_eq}
use Rattle.program_runs.specs.Shows.{plain}
use Rattle.program_runs.specs.declared.show.Show.{Show}

-- 1 is `--order`, 2 is `--small`, and any other number neither
abbrev pub show_numbered : ℕ → Show
show_numbered number = record plain { order = nat_eq number 1; small = nat_eq number 2 }
