-- The column of the family is the board's, by its numbers.
use Rattle.std.proofs.Common.{◌≡◌, ℕ, ◌-◌, ◌<◌, sym, subst, arith, rules}
use Rattle.matrix_core.specs.Lines.{other}
use Rattle.matrix_core.proofs.lines.Others.{other_differs, other_inside}
use Rattle.board_live.specs.inner.Calls.{HasReadColumn}
use Rattle.board_live.proofs.Accessing.{column_read, IsNewest}
use Rattle.board_live.proofs.calls.column.Goals as goal

pub returns-clause-read : goal.returns-clause-read
returns-clause-read g c =
    let w = g.F.Family in
    let obeys = g.V.RecordLaw.obeys in
    let family = c.args.family.now in
    let old = c.args.seat.now in
    let own = c.args.seen.now in
    let new = c.read_all_from.new in
    let of = c.requires.of in
    let above : (e : ℕ) → e < w.processes family - 1 → IsNewest w family (w.who old) old own e = λ e l.
    let room : w.processes family ≡ c.args.processes = of.all in
    subst (λ z. IsNewest w family z old own e) (sym of.who)
    (c.requires.newest (other c.args.process e) (other_inside c.args.processes c.args.process e of.inside (omega arith))
    (other_differs c.args.process e)) in
    subst (λ z. HasReadColumn w obeys family z (c.args.processes - 1) old new.seat own new.seen) of.who
    (subst (λ z. HasReadColumn w obeys family (w.who old) (z - 1) old new.seat own new.seen) of.all
    (column_read w obeys family (w.who old) old own of.seat c.requires.lawful (w.processes family - 1)
    (new.seat, new.seen) above c.read_all_from.ensures.column))

pub read_all_from-requires-clause-own : goal.read_all_from-requires-clause-own
read_all_from-requires-clause-own g c = search rules

pub read_all_from-requires-clause-plan : goal.read_all_from-requires-clause-plan
read_all_from-requires-clause-plan g c = c.requires.plan

pub returns-clause-so_far : goal.returns-clause-so_far
returns-clause-so_far g c = c.read_all_from.ensures.so_far
