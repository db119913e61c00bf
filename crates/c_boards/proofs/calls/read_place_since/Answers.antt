-- An answer is older than the stamp, or it isn't, or there is none.
use Rattle.std.proofs.Common.{sym}
use Rattle.c_boards.proofs.Since.{older_of, fresh_of}
use Rattle.c_boards.proofs.calls.read_place_since.Goals as goal

pub returns-then-status-ne-DONE-clause-read : goal.returns-then-status-ne-DONE-clause-read
returns-then-status-ne-DONE-clause-read g c =
    fresh_of c.args.code c.args.least.now c.read_place-status.ensures.read (λ e. absurd (c.if-status-ne-DONE.true e))

pub returns-then-is_below-clause-read : goal.returns-then-is_below-clause-read
returns-then-is_below-clause-read g c =
    older_of c.args.code c.args.least.now c.read_place-status.ensures.read c.if-status-ne-DONE.false (sym c.if-is_below.ensures)

pub returns-clause-read : goal.returns-clause-read
returns-clause-read g c = fresh_of c.args.code c.args.least.now c.read_place-status.ensures.read (λ e. sym c.if-is_below.ensures)
