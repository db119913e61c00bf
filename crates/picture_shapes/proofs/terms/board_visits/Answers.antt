-- No term has more processes than the widest, which has four at most.
use Rattle.std.proofs.Common.{arith}
use Rattle.picture_shapes.proofs.TermLemmas.{all_fit}
use Rattle.picture_shapes.proofs.terms.board_visits.Goals as goal

pub terms_visits-requires-clause-fit : goal.terms_visits-requires-clause-fit
terms_visits-requires-clause-fit c =
    all_fit c.args.terms.now _ c.widest-wide.ensures (omega (arith, c.if-wide-gt-WIDEST.false)) c.requires.each
