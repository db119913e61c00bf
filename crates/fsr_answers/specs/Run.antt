-- How much of its input `fsr` takes (this project's own).
use Rattle.std.specs.Prelude.{ℕ, List, Bool}
use Rattle.program_runs.specs.Run.{never}
use Rattle.fsr_words.specs.declared.command.Want.{Want}
use Rattle.fsr_words.specs.declared.command.Want.TheVariants as want
use Rattle.fsr_order_input.specs.Kinds.{are_lines}

-- whether an input has no bound: a log in lines, whose order is wanted
abbrev pub is_unbounded : Want → List ℕ → Bool
is_unbounded (want.Order show) = are_lines
is_unbounded want.Check = never
is_unbounded want.Play = never
is_unbounded want.Race = never
