-- What an accepted document has for its command (this project's own).
use Rattle.std.specs.Prelude.{ℕ, ◌≤◌, List, length, All, IsTrue}
use Rattle.history_core.specs.Band.{fits}
use Rattle.history_core.specs.Schedules.{max_limit}
use Rattle.history_core.specs.declared.band.Band.{Band}
use Rattle.history_core.specs.declared.wish.Wish.{Wish}
use Rattle.matrix_core.specs.Runs.{CanPlay}
use Rattle.read_schedule.specs.Plans.{members, wish_fits}
use Rattle.read_schedule.specs.declared.document.ScheduleDocument.{ScheduleDocument}
use Rattle.read_schedule.specs.declared.document.ScheduleDocument.TheVariants.{Cell, Matrix, Board}

-- A race that can be run: a board can be made for its tasks, each record that is to be written fits, and a
-- document has room for the scripts.
pub record CanRace (opening : Band) (limit : ℕ) (scripts : List (List (Wish Band))) : Type 0 where
  pub opens : IsTrue (fits opening)
  pub limit_least : 1 ≤ limit
  pub limit_most : limit ≤ max_limit
  pub at_least : 2 ≤ length scripts
  pub at_most : length scripts ≤ 16
  pub few : members scripts ≤ 10000
  pub writes : All (λ script. All (λ wish. IsTrue (wish_fits wish)) script) scripts

-- Its schedule can be played. Every schedule of a cell can be.
abbrev pub CanBePlayed : ScheduleDocument → Type 0
CanBePlayed (Cell schedule) = Unit {0}
CanBePlayed (Matrix schedule titled) = CanPlay schedule.terms
CanBePlayed (Board schedule titled) = CanPlay schedule.terms
