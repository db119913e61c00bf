-- The family's second receipt tells the same, under the same record.
use Rattle.std.proofs.Common.{refl, ◌∙◌, ap, rules}
use Rattle.board_live.proofs.board.Board.duplicate.Goals as goal

pub returns-clause-same : goal.returns-clause-same
returns-clause-same g c = ap (λ z. record c.args.receipt.now { told = z }) c.duplicate-told.ensures.same

pub returns-clause-again : goal.returns-clause-again
returns-clause-again g c =
    let old = c.requires in
    let e = c.duplicate-told.ensures in
    record {
      is = record {
        of = e.told.0;
        sender = e.told.1 ∙ old.sender;
        inside = old.inside;
        names = λ j l ne. e.tells.0 j ∙ old.names j l ne;
      };
      from = refl;
      names = refl;
      time = e.told.2;
      tells = e.tells.1;
    }

pub duplicate-told-requires : goal.duplicate-told-requires
duplicate-told-requires g c = search rules
