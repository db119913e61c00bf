-- `live` tells why the side is lacking.
use Rattle.std.proofs.Common.{rules, ◌≡◌}
use Rattle.std.specs.Prelude.{◌≢◌}
use Rattle.c_registers.specs.Handles.{busy, ended, other, cut_off}
use Rattle.c_registers.proofs.calls.lacks.Goals as goal

pub returns-then-live-eq0 : goal.returns-then-live-eq0
returns-then-live-eq0 g = let none : g.args.live ≡ 0 = search rules in ended none

pub returns-then-live-eq-BUSY : goal.returns-then-live-eq-BUSY
returns-then-live-eq-BUSY g = let cut : g.args.live ≡ busy = search rules in cut_off cut

pub returns : goal.returns
returns g =
    let some : g.args.live ≢ 0 = search rules in
    let whole : g.args.live ≢ busy = search rules in other some whole
