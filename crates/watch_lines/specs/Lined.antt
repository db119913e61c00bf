-- A register with compare-and-set whose operations know their lines (this project's own).
use Rattle.std.specs.Prelude.{ℕ, Option, option_map}
use Rattle.object_core.specs.declared.operation.Operation.{Operation}
use Rattle.object_registers.specs.Registers.{exchanging_after}
use Rattle.object_registers.specs.declared.exchanging.Exchange.{Exchange}
use Rattle.object_registers.specs.declared.exchanging.Exchanging.{Exchanging}
use Rattle.watch_lines.specs.declared.lined.Lined.{Lined}
use Rattle.watch_lines.specs.declared.lined.LinedRegister.{LinedRegister}

abbrev pub lined : Exchanging → LinedRegister
lined r = record { register = r }

-- the register makes the steps that it makes without lines
abbrev pub lined_after : LinedRegister → Lined → Option LinedRegister
lined_after s w = option_map lined (exchanging_after s.register w.what)

-- an operation without its line
abbrev pub without_line : Operation Lined → Operation Exchange
without_line o = record { starts = o.starts; ends = o.ends; maybe = o.maybe; what = o.what.what }

-- an operation with its line
abbrev pub lined_op : Operation Exchange → ℕ → Operation Lined
lined_op o line =
    record { starts = o.starts; ends = o.ends; maybe = o.maybe; what = record { what = o.what; line = line } }
