-- The events of one more; the sort only moves them.
use Rattle.std.proofs.Common.{◌≡◌, ◌+◌, ◌≤◌, ℕ, List, length, refl, sym, arith, rules, subst, ◌++◌}
use Rattle.std.proofs.lemmas.Fn.{always_returns_same}
use Rattle.std.proofs.lemmas.Option.{slice_get_read}
use Rattle.object_sweep.specs.declared.event.Turn.{Turn}
use Rattle.object_sweep.specs.inner.Events.{HaveEvents, event_of, events_at, turns_of}
use Rattle.object_sweep.proofs.Events.{all_none, sorted_events, turns_more}
use Rattle.object_sweep.proofs.event.turns_in.Goals as goal

pub loop-place-init : goal.loop-place-init
loop-place-init g c =
    let P : List Turn → Type 0 = λ z. HaveEvents c.args.log.now 0 (events_at c.args.log.now z) in
    subst P (sym c.new-turns.ensures.items) (all_none c.args.log.now)

pub loop-place-preserved : goal.loop-place-preserved
loop-place-preserved g c =
    let P : List Turn → Type 0 = λ z. HaveEvents c.args.log.now (c.loop-place.place + 1) (events_at c.args.log.now z) in
    let Q : ℕ → Type 0 = λ z. HaveEvents c.args.log.now (c.loop-place.place + 1)
    (events_at c.args.log.now (c.loop-place.turns.items ++ turns_of c.index-log-place.result z)) in
    let same : c.in-Ok.narrow ≡ c.loop-place.place = c.in-Ok.ensures.1 in
    subst P (sym c.in_ok-push_turns.ensures) (subst Q (sym same) (turns_more c.args.log.now c.loop-place.place c.loop-place.turns.items
    c.index-log-place.result (slice_get_read c.args.log.now (length c.args.log.now) c.loop-place.place c.index-log-place.result refl
    c.loop-place-test.true c.index-log-place.is) c.loop-place.invariant))

pub returns : goal.returns
returns g c =
    let done : length c.args.log.now ≤ c.loop-place.place = c.loop-place-test.false in
    let same : c.loop-place.place ≡ length c.args.log.now = let l = c.loop-place.auto.place-end in omega arith in
    let P : ℕ → Type 0 = λ z. HaveEvents c.args.log.now z (events_at c.args.log.now c.loop-place.turns.items) in
    sorted_events c.args.log.now c.loop-place.turns.items c.sort_unstable_by_key.new.self.items (subst P same c.loop-place.invariant)
    c.sort_unstable_by_key.ensures.permutation
    (c.sort_unstable_by_key.ensures.sorted (event_of c.args.log.now) (always_returns_same _ _ _ (λ a r f h. search rules)))
