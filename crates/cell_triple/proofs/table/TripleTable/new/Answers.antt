-- The opening table keeps the rule.
use Rattle.std.proofs.Common.{rules, ◌≡◌, sym, subst, List, [], ◌∷◌}
use Rattle.atomic_table.specs.Table.{opening}
use Rattle.cell_triple.specs.Rule.{TripleRule}
use Rattle.cell_triple.specs.Steps.{first_sight}
use Rattle.cell_triple.proofs.Keeps.{starts}
use Rattle.cell_triple.proofs.table.TripleTable.new.Goals as goal

pub new-requires : goal.new-requires
new-requires g c = let e : c.push-3.new.self.items ≡ c.args.first.now ∷ c.args.first.now ∷ c.args.first.now ∷ [] = search rules in
    subst (λ (xs : List g.row.T.Denot). TripleRule g.T.Lawful.fits g.T.Lawful.rises c.args.first.now
    (opening (1 ∷ []) xs (first_sight c.args.first.now))) (sym e) (starts g.T.Lawful.fits g.T.Lawful.rises c.args.first.now c.requires)
