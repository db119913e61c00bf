-- Nothing was read or written; what was told is in no history.
use Rattle.std.proofs.Common.{refl, sym, ◌∙◌, ap, subst, ◌≡◌, rules}
use Rattle.cell_contract.specs.declared.times.Known.{Known}
use Rattle.cell_contract.specs.Accesses.{IsHeardRead, KeepsOthers}
use Rattle.board_live.specs.declared.record.Posted.{Posted}
use Rattle.board_live.proofs.Same.{after_learn, still, still_kept}
use Rattle.board_live.proofs.board.Board.learn.Goals as goal

pub returns-clause-same : goal.returns-clause-same
returns-clause-same g c = record {
  process = refl;
  own = refl;
  told = refl;
  later = c.learn.ensures.later.0;
  writes = c.learn.ensures.others.0;
  made = λ calls h. record {
    made = after_learn g.F.Family c.args.self.now.processes c.args.self.now.limit c.args.pass.now.process c.args.self.now.first calls
        c.args.pass.now.seat c.learn.new.seat (g.F.Family.sender c.args.receipt.told)
        (g.F.Family.named c.args.receipt.told (g.F.Family.who c.args.pass.now.seat))
        (g.F.Family.writes_of c.args.receipt.told (g.F.Family.who c.args.pass.now.seat)) c.learn.ensures.later.2 c.learn.ensures.others.0
        (λ ne. c.learn.ensures.heard (λ e. ne (e ∙ c.requires.pass.who))) c.learn.ensures.others.1 h.made;
    own = h.own;
    word = still_kept g.F.Family c.args.self.now.processes c.args.self.now.limit c.args.pass.now.process c.args.self.now.first calls
        c.args.pass.now.seat c.learn.new.seat c.learn.ensures.later.2 c.learn.ensures.tags h.word;
  };
}

pub returns-clause-learnt : goal.returns-clause-learnt
returns-clause-learnt g c =
    let w = g.F.Family in
    let p = c.requires.pass in
    let old = c.args.pass.now.seat in
    let new = c.learn.new.seat in
    let from : w.sender c.args.receipt.told ≡ c.args.receipt.from = c.requires.receipt.sender in
    record {
      time = c.learn.ensures.later.1;
      heard = λ ne.
          let named : w.named c.args.receipt.told (w.who old) ≡ c.args.receipt.item = ap (w.named c.args.receipt.told) p.who
          ∙ c.requires.receipt.names c.args.pass.now.process p.inside (λ e. ne (sym e)) in
          let carried : w.writes_of c.args.receipt.told (w.who old) ≡ w.writes_of c.args.receipt.told c.args.pass.now.process =
          ap (w.writes_of c.args.receipt.told) p.who in
          subst (λ z. IsHeardRead (w.reads old z) (w.reads new z) c.args.receipt.item
          (w.writes_of c.args.receipt.told c.args.pass.now.process)) from
          (subst (λ (z : Posted _ × Known (Posted _)). IsHeardRead (w.reads old (w.sender c.args.receipt.told))
          (w.reads new (w.sender c.args.receipt.told)) z.0 z.1) (λ i. (named i, carried i))
          (c.learn.ensures.heard (λ e. ne (sym from ∙ e ∙ p.who))));
      others = subst (λ z. KeepsOthers z (w.reads old) (w.reads new)) from c.learn.ensures.others.1;
    }

pub learn-requires : goal.learn-requires
learn-requires g c = search rules

pub returns-clause-pass : goal.returns-clause-pass
returns-clause-pass g c =
    let old = c.args.pass.now in
    still g.F.Family g.V.RecordLaw.obeys c.args.self.now old (record old { seat = c.learn.new.seat }) c.requires.pass
    (returns-clause-same g c) refl c.learn.ensures.own.0 c.learn.ensures.own.1
