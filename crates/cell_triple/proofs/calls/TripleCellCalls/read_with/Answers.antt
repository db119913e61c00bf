-- The record that the closure saw is the one in the slot that the pass holds, which is an answer.
use Rattle.std.proofs.Common.{List, ℕ, sym, ap, ◌∙◌, subst, get_or}
use Rattle.std.specs.Fn.{FnOnceTakesAt, FnOnceReturnsAt}
use Rattle.cell_contract.specs.Sights.{reader_or}
use Rattle.cell_triple.specs.Steps.{first_reader}
use Rattle.cell_triple.specs.declared.notes.ReaderNotes.{ReaderNotes}
use Rattle.cell_triple.proofs.calls.TripleCellCalls.read_with.Goals as goal

pub lend-requires-clause-callable : goal.lend-requires-clause-callable
lend-requires-clause-callable g c = λ x is.
    let held = c.refresh.new.get.held in
    subst (λ (y : g.row.T.Denot). FnOnceTakesAt g.F.FnOnce c.args.look y)
    (ap (λ (cs : List (ℕ × g.row.T.Denot)). (get_or cs 0 (c.refresh.new.get.slot, x)).1) (sym held ∙ is))
    (c.requires.callable _ c.refresh.ensures.running)

pub returns-clause-looked : goal.returns-clause-looked
returns-clause-looked g c =
    let get = c.refresh.new.get in
    let t = c.lend.ensures.seen in
    let d : ReaderNotes g.row.T.Denot = first_reader get.spare.value in
    subst (λ (x : g.row.T.Denot). FnOnceReturnsAt g.F.FnOnce c.args.look x c.lend.result)
    (ap (λ (cs : List (ℕ × g.row.T.Denot)). (get_or cs 0 (get.slot, t.0)).1) (sym t.1 ∙ get.held)
    ∙ ap (λ m. (reader_or d m.0).at_hand.value) (sym c.lend.ensures.same)) t.2
