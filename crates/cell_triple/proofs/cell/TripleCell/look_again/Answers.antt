-- The pass holds its last answer, so the closure sees that.
use Rattle.std.proofs.Common.{List, ℕ, sym, ap, ◌∙◌, subst, get_or}
use Rattle.std.specs.Fn.{FnOnceReturnsAt}
use Rattle.cell_triple.proofs.cell.TripleCell.look_again.Goals as goal

pub returns-clause-looked : goal.returns-clause-looked
returns-clause-looked g c =
    let get = c.args.get.now in
    let t = c.lend.ensures.seen in
    subst (λ (x : g.row.T.Denot). FnOnceReturnsAt g.F.FnOnce c.args.see x c.lend.result)
    (ap (λ (cs : List (ℕ × g.row.T.Denot)). (get_or cs 0 (get.slot, t.0)).1) (sym t.1 ∙ get.held)) t.2
