-- One more event is passed, or the log is lost, or the sweep goes back to a mark.
use Rattle.std.proofs.Common.{◌≡◌, ◌+◌, ◌≤◌, ℕ, false, get_or, slice_get, List, Some, subst, sym}
use Rattle.std.proofs.lemmas.List.{length-map}
use Rattle.std.proofs.lemmas.Option.{slice_get-get_or}
use Rattle.object_sweep.specs.declared.beam.Passing.{Passing}
use Rattle.object_sweep.specs.declared.event.Event.{Event}
use Rattle.object_sweep.specs.declared.event.Turn.{Turn}
use Rattle.object_sweep.specs.declared.front.Mark.{Mark}
use Rattle.object_sweep.specs.inner.Beams.{AreMarksBehind}
use Rattle.object_sweep.specs.inner.Ends.{IsNarrowlyPassed}
use Rattle.object_sweep.specs.inner.Events.{event_of, events_at}
use Rattle.object_sweep.proofs.Beams.{lost_on, marked_first, marked_last, marked_left, marked_more, marked_of, marked_on}
use Rattle.object_sweep.proofs.Events.{event_here}
use Rattle.object_sweep.proofs.beam.sweep_narrowly.Goals as goal

pub loop-at-init : goal.loop-at-init
loop-at-init g c =
    let P : List (Mark g.row.O.Denot) → Type 0 = λ z. AreMarksBehind g.O.Object.after c.args.opening c.args.log.now
    (events_at c.args.log.now c.args.turns.now) z in (
      marked_first g.O.Object.after c.args.opening c.args.log.now (events_at c.args.log.now c.args.turns.now) c.in_ok-at.at
          c.in_ok-at.ensures,
      subst P (sym c.new-marks.ensures.items) (λ i mark e. cc),
    )

pub loop-at-preserved-in_ok-mark-in-On : goal.loop-at-preserved-in_ok-mark-in-On
loop-at-preserved-in_ok-mark-in-On g c =
    let t : Turn = get_or c.args.turns.now c.loop-at.at.done (record { ends = false; place = 0 }) in
    let e : Event = event_of c.args.log.now t in
    let here : slice_get (events_at c.args.log.now c.args.turns.now) c.loop-at.at.done ≡ Some e =
    event_here c.args.log.now c.args.turns.now c.loop-at.at.done t
    (slice_get-get_or c.args.turns.now c.loop-at.at.done (record { ends = false; place = 0 }) c.loop-at-test.true) in
    let P : Passing → Type 0 = λ z. IsNarrowlyPassed e.ends g.O.Object.after c.args.log.now e.place c.loop-at.at.front.whole
    c.loop-at.at.front.under_way.items c.loop-at.at.front.configurations.items c.pass_event_narrowly.new.front.whole
    c.pass_event_narrowly.new.front.under_way.items c.pass_event_narrowly.new.front.configurations.items z in
    let on = marked_on g.O.Object.after c.args.opening c.args.log.now (events_at c.args.log.now c.args.turns.now) c.requires.forwards
    c.requires.events c.loop-at.at.done e here c.loop-at.at.front c.pass_event_narrowly.new.front c.loop-at.invariant.0
    (subst P c.in-On.is c.in_ok-pass_event_narrowly.ensures) in (
      on,
      marked_more g.O.Object.after c.args.opening c.args.log.now (events_at c.args.log.now c.args.turns.now) (record {
        done = c.loop-at.at.done + 1;
        front = c.pass_event_narrowly.new.front;
      }) c.loop-at.marks.items c.mark.new.marks.items on c.loop-at.invariant.1
          c.in_ok-mark-in-On.ensures,
    )

pub returns-in-Lost : goal.returns-in-Lost
returns-in-Lost g c =
    let t : Turn = get_or c.args.turns.now c.loop-at.at.done (record { ends = false; place = 0 }) in
    let e : Event = event_of c.args.log.now t in
    let here : slice_get (events_at c.args.log.now c.args.turns.now) c.loop-at.at.done ≡ Some e =
    event_here c.args.log.now c.args.turns.now c.loop-at.at.done t
    (slice_get-get_or c.args.turns.now c.loop-at.at.done (record { ends = false; place = 0 }) c.loop-at-test.true) in
    let P : Passing → Type 0 = λ z. IsNarrowlyPassed e.ends g.O.Object.after c.args.log.now e.place c.loop-at.at.front.whole
    c.loop-at.at.front.under_way.items c.loop-at.at.front.configurations.items c.pass_event_narrowly.new.front.whole
    c.pass_event_narrowly.new.front.under_way.items c.pass_event_narrowly.new.front.configurations.items z in
    lost_on g.O.Object.after c.args.opening c.args.log.now (events_at c.args.log.now c.args.turns.now) c.requires.forwards
    c.requires.events c.loop-at.at.done e here c.loop-at.at.front c.pass_event_narrowly.new.front c.loop-at.invariant.0 c.args.budget
    (subst P c.in-Lost.is c.in_ok-pass_event_narrowly.ensures)

pub loop-at-preserved : goal.loop-at-preserved
loop-at-preserved g c = (
  marked_of g.O.Object.after c.args.opening c.args.log.now (events_at c.args.log.now c.args.turns.now)
      c.loop-at.marks.items c.in_ok-at-in-Nothing.at c.loop-at.invariant.1 c.in_ok-at-in-Nothing.ensures.0,
  marked_left g.O.Object.after c.args.opening c.args.log.now (events_at c.args.log.now c.args.turns.now)
      c.loop-at.marks.items c.go_back.new.marks.items c.loop-at.invariant.1 c.in_ok-at-in-Nothing.ensures.1,
)

pub returns-then-at-turns : goal.returns-then-at-turns
returns-then-at-turns g c = (
  marked_of g.O.Object.after c.args.opening c.args.log.now (events_at c.args.log.now c.args.turns.now)
      c.loop-at.marks.items c.in_ok-last_whole.field-0 c.loop-at.invariant.1 c.in_ok-last_whole.ensures.0,
  c.in_ok-last_whole.ensures.1,
)

pub returns : goal.returns
returns g c =
    let P : ℕ → Type 0 = λ z. z ≤ c.loop-at.at.done in
    marked_last g.O.Object.after c.args.opening c.args.log.now (events_at c.args.log.now c.args.turns.now) c.requires.events c.loop-at.at
    c.loop-at.invariant.0 (subst P (sym (length-map c.args.turns.now (event_of c.args.log.now))) c.if-at-turns.false)
