-- The record that the closure saw is the one in the slot that the third access took, which is an answer.
use Rattle.std.proofs.Common.{List, ℕ, sym, ap, ◌∙◌, subst, get_or}
use Rattle.std.specs.Fn.{FnOnceTakesAt, FnOnceReturnsAt}
use Rattle.cell_contract.specs.Sights.{reader_or}
use Rattle.cell_four_slot.specs.Steps.{first_reader}
use Rattle.cell_four_slot.specs.declared.notes.ReaderNotes.{ReaderNotes}
use Rattle.cell_four_slot.proofs.calls.FourSlotCellCalls.read_with.Goals as goal

pub lend-requires-clause-callable : goal.lend-requires-clause-callable
lend-requires-clause-callable g c = λ x is.
    let h = c.choose-slot.ensures in
    subst (λ (y : g.row.T.Denot). FnOnceTakesAt g.F.FnOnce c.args.look y)
    (ap (λ (cs : List (ℕ × g.row.T.Denot)). (get_or cs 0 (c.choose-slot.result, x)).1) (sym h.held ∙ is)) (c.requires.callable _ h.running)

pub returns-clause-looked : goal.returns-clause-looked
returns-clause-looked g c =
    let t = c.lend.ensures.seen in
    let d : ReaderNotes g.row.T.Denot = first_reader c.choose-slot.new.get.spare.value in
    subst (λ (x : g.row.T.Denot). FnOnceReturnsAt g.F.FnOnce c.args.look x c.lend.result)
    (ap (λ (cs : List (ℕ × g.row.T.Denot)). (get_or cs 0 (c.choose-slot.result, t.0)).1) (sym t.1 ∙ c.choose-slot.ensures.held)
    ∙ ap (λ m. (reader_or d m.0).at_hand.value) (sym c.lend.ensures.same)) t.2
