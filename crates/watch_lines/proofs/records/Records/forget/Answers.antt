-- What is held is kept, and the opening.
use Rattle.std.proofs.Common.{refl, arith}
use Rattle.watch_lines.proofs.KeptLemmas.{forgets_none, forgets_some}
use Rattle.watch_lines.proofs.records.Records.forget.Goals as goal

pub returns-then-len-self : goal.returns-then-len-self
returns-then-len-self c =
    forgets_none c.args.held.now c.args.self.now c.args.self.now refl
    (λ many. (let e = c.len.ensures.len in let less = c.if-len-self.true in omega (arith, e, less, many)))

pub returns : goal.returns
returns c =
    forgets_some c.args.held.now c.args.self.now c.retain.new.self _ c.in_ok-named.named c.insert.new.self c.in_ok-named.ensures
    c.in_ok-insert.ensures.updates.0 c.retain.ensures
