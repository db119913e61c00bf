-- The own record was told, so it is what the process wrote last to each other one; nothing more was read or written.
use Rattle.std.proofs.Common.{◌≡◌, refl, ◌∙◌, ap, subst, ◌<◌, arith, rules}
use Rattle.cell_contract.specs.Running.{last_or}
use Rattle.board_live.specs.Passes.{HasSame}
use Rattle.board_live.specs.Receipts.{HasTold}
use Rattle.board_live.proofs.Same.{after_tell, still, still_kept}
use Rattle.board_live.proofs.board.Board.tell.Goals as goal

pub tell_own-requires : goal.tell_own-requires
tell_own-requires g c = c.requires

pub tell-told-requires : goal.tell-told-requires
tell-told-requires g c = record { own = c.tell_own.ensures.pass.seat }

same : (g : _) (c : goal.After-result-1 g) →
    HasSame g.F.Family c.args.self.now c.tell_own.new.pass (record c.tell_own.new.pass { seat = c.tell-told.new.seat })
same g c = record {
  process = refl;
  own = refl;
  told = refl;
  later = let e = c.tell-told.ensures.same.0 in omega arith;
  writes = c.tell-told.ensures.calls.0;
  made = λ calls h. record {
    made = after_tell g.F.Family c.args.self.now.processes c.args.self.now.limit c.tell_own.new.pass.process c.args.self.now.first calls
        c.tell_own.new.pass.seat c.tell-told.new.seat c.tell-told.ensures.same.1 c.tell-told.ensures.calls.0
        c.tell-told.ensures.calls.1 h.made;
    own = h.own;
    word = still_kept g.F.Family c.args.self.now.processes c.args.self.now.limit c.tell_own.new.pass.process c.args.self.now.first calls
        c.tell_own.new.pass.seat c.tell-told.new.seat c.tell-told.ensures.same.1 c.tell-told.ensures.tags h.word;
  };
}

receipt : (g : _) (c : goal.After-result-1 g) → HasTold g.F.Family c.args.self.now c.tell_own.new.pass
    (record c.tell_own.new.pass { seat = c.tell-told.new.seat })
    (record { from = c.tell_own.new.pass.process; item = c.tell_own.new.pass.own; told = c.tell-told.result })
receipt g c =
    let p = c.tell_own.ensures.pass in
    let pass = c.tell_own.new.pass in
    let told = c.tell-told.ensures.told in
    record {
      is = record {
        of = told.0;
        sender = told.1 ∙ p.who;
        inside = p.inside;
        names = λ j l ne.
            let lj : j < g.F.Family.processes c.args.self.now.family = let z = p.processes in omega arith in
            c.tell-told.ensures.named j lj (λ e. ne (e ∙ p.who))
            ∙ ap (λ o. last_or o (g.F.Family.writes pass.seat j).items) p.opens ∙ p.last c.tell_own.ensures.told j l ne;
      };
      from = refl;
      names = refl;
      time = told.2;
      tells = λ j l ne.
          let lj : j < g.F.Family.processes c.args.self.now.family = let z = p.processes in omega arith in
          c.tell-told.ensures.tells j lj (λ e. ne (e ∙ p.who));
      reads = c.tell-told.ensures.calls.1;
    }

pub returns-clause-same : goal.returns-clause-same
returns-clause-same g c = λ t.
    subst (λ z. HasSame g.F.Family c.args.self.now z (record c.tell_own.new.pass { seat = c.tell-told.new.seat }))
    (c.tell_own.ensures.kept t) (same g c)

pub returns-clause-told : goal.returns-clause-told
returns-clause-told g c = λ t. subst (λ z. HasTold g.F.Family c.args.self.now z (record c.tell_own.new.pass { seat = c.tell-told.new.seat })
    (record { from = c.tell_own.new.pass.process; item = c.tell_own.new.pass.own; told = c.tell-told.result }))
    (c.tell_own.ensures.kept t) (receipt g c)

pub returns-clause-handed : goal.returns-clause-handed
returns-clause-handed g c = λ f. (c.tell_own.new.pass, c.tell_own.ensures.handed f, same g c, receipt g c)

pub returns-clause-pass : goal.returns-clause-pass
returns-clause-pass g c =
    let old = c.tell_own.new.pass in
    still g.F.Family g.V.RecordLaw.obeys c.args.self.now old (record old { seat = c.tell-told.new.seat }) c.tell_own.ensures.pass
    (same g c) refl c.tell-told.ensures.own.0 c.tell-told.ensures.own.1

pub returns-clause-process : goal.returns-clause-process
returns-clause-process g c = c.tell_own.ensures.process.0

pub returns-clause-names : goal.returns-clause-names
returns-clause-names g c = ((receipt g c).is, c.tell_own.ensures.process.0, refl)

pub returns-clause-later : goal.returns-clause-later
returns-clause-later g c = let a = c.tell_own.ensures.process.1 in let b = c.tell-told.ensures.told.2 in omega (arith, a, b)
