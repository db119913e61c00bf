-- One more event, and another; a verdict, or the front behind all.
use Rattle.std.proofs.Common.{◌≡◌, ℕ, ◌+◌, ◌≤◌, false, length, get_or, slice_get, take, Bool, Option, Some, refl, arith, subst, sym, true}
use Rattle.std.proofs.lemmas.List.{length-map}
use Rattle.std.proofs.lemmas.Option.{slice_get-get_or, slice_get_within}
use Rattle.object_sweep.specs.declared.beam.Narrow.{Narrow}
use Rattle.object_sweep.specs.declared.event.Event.{Event}
use Rattle.object_sweep.specs.declared.event.Turn.{Turn}
use Rattle.object_sweep.specs.declared.log_sweep.Verdict.{Verdict}
use Rattle.object_sweep.specs.inner.Beams.{IsNarrow}
use Rattle.object_sweep.specs.inner.Ends.{IsEventPassed}
use Rattle.object_sweep.specs.inner.Events.{event_of, events_at, IsFrontBehind}
use Rattle.object_sweep.proofs.Events.{event_here}
use Rattle.object_sweep.proofs.Fronts.{front_last, front_more, front_verdict}
use Rattle.object_sweep.proofs.log_sweep.sweep_events.Goals as goal

pub loop-done-init : goal.loop-done-init
loop-done-init g c =
    let P : Narrow g.row.O.Denot → Type 0 =
    λ z. IsNarrow g.O.Object.after c.args.opening c.args.log.now (events_at c.args.log.now c.args.turns.now) c.args.budget z in
    let h = subst P c.in-Open.is c.in_ok-verdict.ensures in
    let Q : Bool → Type 0 = λ z. IsFrontBehind z g.O.Object.after c.args.opening c.args.log.now (take c.in-Open.mark.done
    (events_at c.args.log.now c.args.turns.now)) c.in-Open.mark.front.under_way.items c.in-Open.mark.front.configurations.items in
    (h.0.0, subst Q h.1 h.0.1)

pub returns-in-Some : goal.returns-in-Some
returns-in-Some g c =
    let t : Turn = get_or c.args.turns.now c.loop-done.done (record { ends = false; place = 0 }) in
    let e : Event = event_of c.args.log.now t in
    let here : slice_get (events_at c.args.log.now c.args.turns.now) c.loop-done.done ≡ Some e =
    event_here c.args.log.now c.args.turns.now c.loop-done.done t
    (slice_get-get_or c.args.turns.now c.loop-done.done (record { ends = false; place = 0 }) c.loop-done-test.true) in
    let P : Option Verdict → Type 0 = λ z. IsEventPassed e.ends g.O.Object.after c.args.log.now c.args.budget e.place
    c.loop-done.front.under_way.items c.loop-done.front.configurations.items c.pass_event.new.front.under_way.items
    c.pass_event.new.front.configurations.items z in
    front_verdict g.O.Object.after c.args.opening c.args.log.now c.requires.forwards (events_at c.args.log.now c.args.turns.now)
    c.requires.events c.loop-done.done e here true c.loop-done.front.under_way.items
    c.loop-done.front.configurations.items c.loop-done.invariant.1 refl
    c.args.budget c.pass_event.new.front.under_way.items c.pass_event.new.front.configurations.items c.in-Some.verdict e.ends refl
    (subst P c.in-Some.is c.in_ok-verdict-2.ensures)

pub loop-done-preserved : goal.loop-done-preserved
loop-done-preserved g c =
    let t : Turn = get_or c.args.turns.now c.loop-done.done (record { ends = false; place = 0 }) in
    let e : Event = event_of c.args.log.now t in
    let here : slice_get (events_at c.args.log.now c.args.turns.now) c.loop-done.done ≡ Some e =
    event_here c.args.log.now c.args.turns.now c.loop-done.done t
    (slice_get-get_or c.args.turns.now c.loop-done.done (record { ends = false; place = 0 }) c.loop-done-test.true) in
    let P : Option Verdict → Type 0 = λ z. IsEventPassed e.ends g.O.Object.after c.args.log.now c.args.budget e.place
    c.loop-done.front.under_way.items c.loop-done.front.configurations.items c.pass_event.new.front.under_way.items
    c.pass_event.new.front.configurations.items z in
    let l = slice_get_within (events_at c.args.log.now c.args.turns.now) c.loop-done.done e here in
    let le : c.loop-done.done + 1 ≤ length (events_at c.args.log.now c.args.turns.now) = omega (arith, l) in (
      le,
      front_more g.O.Object.after c.args.opening c.args.log.now c.requires.forwards (events_at c.args.log.now c.args.turns.now)
          c.requires.events c.loop-done.done e here true c.loop-done.front.under_way.items
          c.loop-done.front.configurations.items c.loop-done.invariant.1
          c.args.budget c.pass_event.new.front.under_way.items c.pass_event.new.front.configurations.items e.ends refl
          (subst P c.in_default.is c.in_ok-verdict-2.ensures),
    )

pub returns : goal.returns
returns g c =
    let D : ℕ → Type 0 = λ z. z ≤ c.loop-done.done in
    let done : length (events_at c.args.log.now c.args.turns.now) ≤ c.loop-done.done =
    subst D (sym (length-map c.args.turns.now (event_of c.args.log.now))) c.loop-done-test.false in
    let same : c.loop-done.done ≡ length (events_at c.args.log.now c.args.turns.now) =
    let l = c.loop-done.invariant.0 in omega (arith, done, l) in
    let P : ℕ → Type 0 = λ z. IsFrontBehind true g.O.Object.after c.args.opening c.args.log.now
    (take z (events_at c.args.log.now c.args.turns.now)) c.loop-done.front.under_way.items c.loop-done.front.configurations.items in
    front_last g.O.Object.after c.args.opening c.args.log.now (events_at c.args.log.now c.args.turns.now) c.requires.events true
    c.loop-done.front.under_way.items c.loop-done.front.configurations.items (subst P same c.loop-done.invariant.1)
