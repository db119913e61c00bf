-- It was told before, or is told now.
use Rattle.std.proofs.Common.{◌≡◌, true, false, refl, arith, rules}
use Rattle.board_history.proofs.Growing.{not_both}
use Rattle.board_live.proofs.board.Board.tell_own.Goals as goal

pub hand_on-requires : goal.hand_on-requires
hand_on-requires g c = search rules

pub returns-then-not-pass-clause-pass : goal.returns-then-not-pass-clause-pass
returns-then-not-pass-clause-pass g c = c.hand_on.ensures.pass

pub returns-then-not-pass-clause-kept : goal.returns-then-not-pass-clause-kept
returns-then-not-pass-clause-kept g c = λ t. absurd (not_both c.args.pass.now.told t c.if-not-pass.true)

pub returns-then-not-pass-clause-handed : goal.returns-then-not-pass-clause-handed
returns-then-not-pass-clause-handed g c = λ f. c.hand_on.ensures.handed

pub returns-then-not-pass-clause-told : goal.returns-then-not-pass-clause-told
returns-then-not-pass-clause-told g c = c.hand_on.ensures.handed.told

pub returns-else-not-pass-clause-pass : goal.returns-else-not-pass-clause-pass
returns-else-not-pass-clause-pass g c = c.requires

pub returns-else-not-pass-clause-kept : goal.returns-else-not-pass-clause-kept
returns-else-not-pass-clause-kept g c = λ t. refl

pub returns-else-not-pass-clause-handed : goal.returns-else-not-pass-clause-handed
returns-else-not-pass-clause-handed g c = λ f. absurd (not_both c.args.pass.now.told c.if-not-pass.false f)

pub returns-else-not-pass-clause-told : goal.returns-else-not-pass-clause-told
returns-else-not-pass-clause-told g c = c.if-not-pass.false

pub returns-then-not-pass-clause-process : goal.returns-then-not-pass-clause-process
returns-then-not-pass-clause-process g c =
    let call = c.hand_on.ensures.handed.call in
    let span = call.interval in
    (call.process, let a = span.0 in let b = span.1 in let e = span.2 in omega (arith, a, b, e))

pub returns-else-not-pass-clause-process : goal.returns-else-not-pass-clause-process
returns-else-not-pass-clause-process g c = (refl, omega arith)
