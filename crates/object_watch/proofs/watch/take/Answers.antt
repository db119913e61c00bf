-- Each has it.
use Rattle.std.proofs.Common.{◌≡◌, ℕ, ◌<◌, ◌≤◌, Option, Some, length, sym, subst, arith, inl, inr}
use Rattle.std.specs.Prelude.{IsSomeAnd}
use Rattle.std.proofs.lemmas.Bool.{cases_lt, iff_false}
use Rattle.object_watch.proofs.Watching.{held_same, held_with, taken_ahead, watch_idle, watch_taken}
use Rattle.object_watch.proofs.watch.take.Goals as goal

-- what isn't backwards runs forwards
forth : (ends : Option ℕ) (starts : ℕ) → ¬ IsSomeAnd ends (λ end. end < starts) → (end : ℕ) → ends ≡ Some end → starts ≤ end
forth ends starts h end e = elim (cases_lt end starts) [
  | inl l ↦
      let P : Option ℕ → Type 0 = λ z. IsSomeAnd z (λ at. at < starts) in absurd (h (subst P (sym e) l))
  | inr le ↦ le
]

pub returns-in-Ok-clause-taken : goal.returns-in-Ok-clause-taken
returns-in-Ok-clause-taken g c opening log w =
    watch_taken g.O.Object.after opening log c.args.watch.now.moment c.args.op c.if-op-watch.false
    (forth c.args.op.ends c.args.op.starts (iff_false c.is_backwards.ensures c.if-is_backwards.false)) c.args.watch.now.held.items
    c.push_all.new.held.items (length c.args.watch.now.held.items) (omega arith) c.in-Ok.ensures w

pub returns-in-Ok-clause-ahead : goal.returns-in-Ok-clause-ahead
returns-in-Ok-clause-ahead g c h =
    taken_ahead c.args.op (forth c.args.op.ends c.args.op.starts (iff_false c.is_backwards.ensures c.if-is_backwards.false))
    c.args.watch.now.held.items c.push_all.new.held.items (length c.args.watch.now.held.items) (omega arith) c.in-Ok.ensures 0 (omega arith)
    h

pub returns-then-is_idle-clause-taken : goal.returns-then-is_idle-clause-taken
returns-then-is_idle-clause-taken g c opening log w =
    watch_idle g.O.Object.after opening log c.args.watch.now.moment c.args.op (c.is_idle.ensures c.if-is_idle.true)
    c.args.watch.now.held.items w

pub returns-in-Ok-clause-held : goal.returns-in-Ok-clause-held
returns-in-Ok-clause-held g c =
    held_with c.args.op (forth c.args.op.ends c.args.op.starts (iff_false c.is_backwards.ensures c.if-is_backwards.false))
    c.args.watch.now.held.items c.push_all.new.held.items (length c.args.watch.now.held.items) (omega arith) c.in-Ok.ensures

pub returns-then-is_idle-clause-held : goal.returns-then-is_idle-clause-held
returns-then-is_idle-clause-held g c = held_same c.args.op c.args.watch.now.held.items
