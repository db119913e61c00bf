-- Each letter passed named a side.
use Rattle.std.proofs.Common.{◌∙◌, ap, sym}
use Rattle.std.specs.Prelude.{Some}
use Rattle.read_history.proofs.ListLemmas.{with_nothing}
use Rattle.read_schedule.specs.CellShapes.{turn_named}
use Rattle.read_schedule.proofs.CellReading.{all_read, one_more, one_refused}
use Rattle.read_schedule.proofs.turns.turns_in.Goals as goal

pub loop-letter-init : goal.loop-letter-init
loop-letter-init c = with_nothing c.in_ok-turns.turns.items _ c.in_ok-turns.ensures.items

pub loop-letter-preserved : goal.loop-letter-preserved
loop-letter-preserved c =
    one_more turn_named c.loop-letter.turns.items c.push.new.self.items c.args.letters.now c.loop-letter.letter-index 0 c.in-Some.turn
    c.in_ok-push.ensures.items c.loop-letter-test.true (sym c.turn_named.ensures ∙ c.in-Some.is)
    ∙ c.loop-letter.invariant

pub returns : goal.returns
returns c =
    ap Some c.new.ensures
    ∙ sym (all_read turn_named c.loop-letter.turns.items c.args.letters.now c.loop-letter.letter-index c.loop-letter-test.false)
    ∙ c.loop-letter.invariant

pub returns-in_default : goal.returns-in_default
returns-in_default c =
    sym (one_refused turn_named c.loop-letter.turns.items c.args.letters.now c.loop-letter.letter-index 0 c.loop-letter-test.true
    (sym c.turn_named.ensures ∙ c.in_default.is))
    ∙ c.loop-letter.invariant
