-- Up to the moment, but never the last one of all.
use Rattle.std.proofs.Common.{◌+◌, ◌≤◌, subst, arith}
use Rattle.object_watch.specs.declared.pass.Passed.{Passed}
use Rattle.object_watch.specs.inner.Passes.{ArePassed, IsAheadPassed, IsOfPassed}
use Rattle.object_watch.proofs.Passing.{led_same}
use Rattle.object_watch.proofs.Watching.{ahead_at_all, ahead_none, watch_lawful}
use Rattle.object_watch.proofs.watch.rise.Goals as goal

pub returns-then-until-watch-clause-risen : goal.returns-then-until-watch-clause-risen
returns-then-until-watch-clause-risen g c opening log w = (
  let e = c.min-until.ensures in let t = c.if-until-watch.true in omega (arith, e, t),
  w,
  λ m begun l. watch_lawful g.O.Object.after opening log c.args.watch.moment c.args.watch.held.items w c.args.watch.moment
      (ahead_none c.args.watch.moment c.args.watch.held.items w.ahead) m begun l,
)

pub returns-in-Open-clause-ahead : goal.returns-in-Open-clause-ahead
returns-in-Open-clause-ahead g c =
    ahead_at_all 0 (c.min-until.result + 1) c.in-Open.held.items (omega arith)
    (subst (IsAheadPassed c.min-until.result) c.in-Open.is c.in_ok-held.ensures.ahead)

pub returns-in-Open-clause-risen : goal.returns-in-Open-clause-risen
returns-in-Open-clause-risen g c opening log w =
    let h = subst P c.in-Open.is (c.in_ok-held.ensures.passed opening log c.args.watch.moment high w) in
    (let e = c.min-until.ensures in omega (arith, e, high), h.0, h.1)
  where
    high : c.args.watch.moment ≤ c.min-until.result + 1
    high = let f = c.if-until-watch.false in omega (arith, f)

    P : Passed g.row.O.Denot g.row.O-What.Denot → Type 0
    P z = ArePassed g.O.Object.after opening log c.args.watch.moment c.min-until.result z

pub returns-in-Lost-clause-risen : goal.returns-in-Lost-clause-risen
returns-in-Lost-clause-risen g c opening log w =
    let h = subst P c.in-Lost.is (c.in_ok-held.ensures.passed opening log c.args.watch.moment high w) in
    (let e = c.min-until.ensures in let l = h.0 in omega (arith, e, l), h.1)
  where
    high : c.args.watch.moment ≤ c.min-until.result + 1
    high = let f = c.if-until-watch.false in omega (arith, f)

    P : Passed g.row.O.Denot g.row.O-What.Denot → Type 0
    P z = ArePassed g.O.Object.after opening log c.args.watch.moment c.min-until.result z

pub returns-in-TooMany-clause-risen : goal.returns-in-TooMany-clause-risen
returns-in-TooMany-clause-risen g c opening log w =
    let h = subst P c.in-TooMany.is (c.in_ok-held.ensures.passed opening log c.args.watch.moment high w) in
    (let e = c.min-until.ensures in let l = h.0 in omega (arith, e, l), h.1)
  where
    high : c.args.watch.moment ≤ c.min-until.result + 1
    high = let f = c.if-until-watch.false in omega (arith, f)

    P : Passed g.row.O.Denot g.row.O-What.Denot → Type 0
    P z = ArePassed g.O.Object.after opening log c.args.watch.moment c.min-until.result z

pub returns-then-until-watch-clause-held : goal.returns-then-until-watch-clause-held
returns-then-until-watch-clause-held g c = led_same g.O.Object.after c.args.watch.held.items

pub returns-in-Open-clause-held : goal.returns-in-Open-clause-held
returns-in-Open-clause-held g c = subst (IsOfPassed g.O.Object.after c.args.watch.held.items) c.in-Open.is c.in_ok-held.ensures.of
