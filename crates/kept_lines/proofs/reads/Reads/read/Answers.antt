-- The record was read before, or is one more.
use Rattle.std.proofs.Common.{ap, refl, sym, ◌∙◌}
use Rattle.kept_lines.proofs.ReadsLemmas.{given_again, given_first, not_before, read_before}
use Rattle.kept_lines.specs.Reads.{was_read}
use Rattle.kept_lines.proofs.reads.Reads.read.Goals as goal

pub returns-then-was_read : goal.returns-then-was_read
returns-then-was_read c = λ log op is knows.
    given_again log op c.args.self.now c.args.number is
    (read_before c.args.self.now.seen.items c.args.number (ap (λ z. was_read z c.args.number) (sym c.as_slice.ensures.value)
    ∙ sym c.was_read.ensures ∙ c.if-was_read.true)) knows

pub returns : goal.returns
returns c = λ log op is knows.
    given_first log op c.args.self.now _ c.args.number c.make_room.new.seen.items is
    (not_before c.args.self.now.seen.items c.args.number (ap (λ z. was_read z c.args.number) (sym c.as_slice.ensures.value)
    ∙ sym c.was_read.ensures ∙ c.if-was_read.false)) c.in_ok-make_room.ensures.grown
    c.in_ok-make_room.ensures.room refl c.in_ok-count.ensures knows
