-- The last process's pass is taken out and makes its calls; each part is of a clause of a call.
use Rattle.std.proofs.Common.{refl, subst}
use Rattle.board_live.specs.Passes.{ChoosesStamp}
use Rattle.theorems.proofs.Rejoined.{last_pass, of_call}
use Rattle.theorems.proofs.boards.board_theorem.Goals as goal

pub read-seen-requires : goal.read-seen-requires
read-seen-requires g c =
    (last_pass g.F.Family g.V.RecordLaw.obeys c.args.board c.args.passes.items c.pop.new.self.items c.in-Some.pass c.requires.passes
    c.in-Some.ensures.items).0

pub returns : goal.returns
returns g c = record {
  pass = c.in-Some.pass;
  between = c.read-seen.new.pass;
  after = c.write-wrote.new.pass;
  others = c.pop.new.self.items;
  taken = c.in-Some.ensures.items;
  reads = of_call g.F.Family g.V.RecordLaw.obeys c.args.board _ c.in-Some.pass c.read-seen.new.pass c.read-seen.result
      c.read-seen.result c.read-seen.ensures.call c.read-seen.ensures.chosen c.read-seen.ensures.so_far;
  seen = c.write-wrote.ensures.call.0;
  chosen = c.write-wrote.new.pass.own;
  writes = of_call g.F.Family g.V.RecordLaw.obeys c.args.board _ c.read-seen.new.pass c.write-wrote.new.pass
      c.write-wrote.ensures.call.0 c.write-wrote.new.pass.own c.write-wrote.ensures.call.1 refl c.write-wrote.ensures.so_far;
  chooses = subst (λ z. ChoosesStamp c.args.board.limit z c.args.item c.write-wrote.ensures.call.0 c.write-wrote.new.pass.own
      c.write-wrote.result) c.read-seen.ensures.call.process c.write-wrote.ensures.call.2;
}
