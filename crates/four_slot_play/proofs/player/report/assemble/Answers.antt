-- The report is made of the parts and the ends of the steps and of the log of their run.
use Rattle.std.proofs.Common.{◌≡◌, ℕ, List, [], ◌∷◌, ◌++◌, length, map, Option, subst, ap, sym, ◌∙◌}
use Rattle.history_core.specs.Schedules.{max_limit}
use Rattle.history_core.specs.declared.history.Op.{Op}
use Rattle.history_core.specs.declared.history.Term.{Term}
use Rattle.four_slot_play.specs.declared.player.run.Numbered.{Numbered}
use Rattle.four_slot_play.specs.declared.player.steps.Started.{Started}
use Rattle.four_slot_play.specs.inner.Parts.{op_of, slot_of}
use Rattle.four_slot_play.specs.declared.player.run.InPlay.{InPlay}
use Rattle.four_slot_core.specs.declared.schedule.Turn.{Turn}
use Rattle.four_slot_core.specs.declared.schedule.Turn.TheVariants.{Writer, Reader}
use Rattle.four_slot_core.specs.Play.{actor}
use Rattle.four_slot_play.specs.inner.Runs.{Log, numbered_run, numbered_trace, shown}
use Rattle.four_slot_play.specs.inner.Weaves.{HasFirst, SidesInTurn, IsOrdered, NumbersBelow, NumbersRise}
use Rattle.four_slot_play.proofs.player.order.Placing.{parts_in_turn}
use Rattle.four_slot_play.proofs.player.run.Numbers.{first_reads, first_writes, numbers_below, numbers_rise}
use Rattle.four_slot_play.proofs.player.run.Traces.{run_shown}
use Rattle.four_slot_play.proofs.player.report.assemble.Goals as goal

-- the same with the log of the run
ops_along : {R : Type 0} (writes : List R) (writer_ends reader_ends : List ℕ) (parts slice : List Started) (ops made : List (Op R))
    (l log : Log (Numbered R)) → slice ≡ parts → ops ≡ made → made ≡ map (op_of writes writer_ends reader_ends l.answers) slice → l ≡ log →
    ops ≡ map (op_of writes writer_ends reader_ends log.answers) parts
ops_along writes writer_ends reader_ends parts slice ops made l log same e m is =
    e ∙ m ∙ ap (map (op_of writes writer_ends reader_ends l.answers)) same
    ∙ ap (λ (z : Log (Numbered _)). map (op_of writes writer_ends reader_ends z.answers) parts) is

slots_along : {R : Type 0} (parts slice : List Started) (slots made : List (Option ℕ)) (l log : Log (Numbered R)) → slice ≡ parts → slots
    ≡ made → made ≡ map (slot_of l.write_slots l.read_slots) slice → l ≡ log → slots ≡ map (slot_of log.write_slots log.read_slots) parts
slots_along parts slice slots made l log same e m is = e ∙ m ∙ ap (map (slot_of l.write_slots l.read_slots)) same
    ∙ ap (λ (z : Log (Numbered _)). map (slot_of z.write_slots z.read_slots) parts) is

ordered_along : {R : Type 0} (parts slice : List Started) (count : ℕ) (order made : List ℕ) (l log : Log (Numbered R)) → slice ≡ parts →
    order ≡ made → IsOrdered slice count l.answers made → l ≡ log → IsOrdered parts count log.answers order
ordered_along {R} parts slice count order made l log same e h is =
    let P : List Started → Log (Numbered R) → List ℕ → Type 0 = λ ps z o. IsOrdered ps count z.answers o in
    subst (λ ps. P ps log order) same (subst (λ z. P slice z order) is (subst (P slice l) (sym e) h))

answers_are : {R : Type 0} (opening noise : R) (writes : List R) (steps : List Turn) (r : InPlay R) →
    shown r ≡ numbered_run opening noise writes steps → (numbered_trace opening noise writes steps).answers ≡ r.answers.items
answers_are {R} opening noise writes steps r is = ap (λ (l : Log (Numbered R)). l.answers) (run_shown opening noise writes steps ∙ sym is)

pub returns-clause-assembled : goal.returns-clause-assembled
returns-clause-assembled g c =
    let run = c.in_ok-play.field-0 in
    let writer_ends = c.in_ok-read_steps.field-0.writer_ends.items in
    let reader_ends = c.in_ok-read_steps.field-0.reader_ends.items in
    record {
      parts = c.in_ok-read_steps.field-0.parts.items;
      writer_ends = writer_ends;
      reader_ends = reader_ends;
      stores = c.in_ok-read_steps.field-0.stores.items;
      are_parts = c.in_ok-read_steps.ensures.are_parts;
      are_writer_ends = c.in_ok-read_steps.ensures.are_writer_ends;
      are_reader_ends = c.in_ok-read_steps.ensures.are_reader_ends;
      are_stores = c.in_ok-read_steps.ensures.are_stores;
      terms_are =
          c.new.ensures ∙ c.in_ok-push.ensures.items
          ∙ ap (λ (terms : List Term). terms ++ record { first = 0; limit = max_limit } ∷ []) c.new-terms.ensures.items;
      ops_are = ops_along {R = g.row.R.Denot} c.args.writes.now writer_ends reader_ends c.in_ok-read_steps.field-0.parts.items
          c.as_slice-parts.result.now c.new-2.result c.in_ok-ops.ops.items (shown run) (numbered_run c.args.opening c.args.noise
          c.args.writes.now c.args.steps.now) c.as_slice-parts.ensures.value c.new-2.ensures c.in_ok-ops.ensures c.in_ok-play.ensures;
      ordered = ordered_along {R = g.row.R.Denot} c.in_ok-read_steps.field-0.parts.items c.as_slice-parts.result.now
          (length c.in_ok-read_steps.field-0.stores.items) c.new-4.result c.in_ok-order.order.items (shown run)
          (numbered_run c.args.opening c.args.noise c.args.writes.now c.args.steps.now) c.as_slice-parts.ensures.value c.new-4.ensures
          c.in_ok-order.ensures c.in_ok-play.ensures;
      slots_are = slots_along {R = g.row.R.Denot} c.in_ok-read_steps.field-0.parts.items c.as_slice-parts.result.now c.new-3.result
          c.in_ok-slots.slots.items (shown run) (numbered_run c.args.opening c.args.noise c.args.writes.now c.args.steps.now)
          c.as_slice-parts.ensures.value c.new-3.ensures c.in_ok-slots.ensures c.in_ok-play.ensures;
    }

pub order-requires-clause-in_turn : goal.order-requires-clause-in_turn
order-requires-clause-in_turn g c = subst SidesInTurn (sym c.as_slice-parts.ensures.value)
    (parts_in_turn (map actor c.args.steps.now) c.in_ok-read_steps.field-0.parts.items c.in_ok-read_steps.ensures.are_parts)

pub order-requires-clause-writes : goal.order-requires-clause-writes
order-requires-clause-writes g c =
    subst (HasFirst Writer (length c.in_ok-read_steps.field-0.stores.items)) (sym c.as_slice-parts.ensures.value)
    (first_writes (map actor c.args.steps.now) c.in_ok-read_steps.field-0.stores.items c.in_ok-read_steps.field-0.parts.items
    c.in_ok-read_steps.ensures.are_parts c.in_ok-read_steps.ensures.are_stores)

pub order-requires-clause-reads : goal.order-requires-clause-reads
order-requires-clause-reads g c =
    let answers = answers_are {R = g.row.R.Denot} c.args.opening c.args.noise c.args.writes.now c.args.steps.now
    c.in_ok-play.field-0 c.in_ok-play.ensures in
    subst (HasFirst Reader (length c.in_ok-play.field-0.answers.items)) (sym c.as_slice-parts.ensures.value)
    (subst (λ (a : List (Numbered g.row.R.Denot)). HasFirst Reader (length a) c.in_ok-read_steps.field-0.parts.items) answers
    (first_reads c.args.opening c.args.noise c.args.steps.now c.args.writes.now c.in_ok-read_steps.field-0.parts.items
    c.in_ok-read_steps.ensures.are_parts))

pub order-requires-clause-rising : goal.order-requires-clause-rising
order-requires-clause-rising g c =
    subst (λ (a : List (Numbered g.row.R.Denot)). NumbersRise a) (answers_are {R = g.row.R.Denot} c.args.opening c.args.noise
    c.args.writes.now c.args.steps.now c.in_ok-play.field-0 c.in_ok-play.ensures)
    (numbers_rise c.args.opening c.args.noise c.args.steps.now c.args.writes.now)

pub order-requires-clause-below : goal.order-requires-clause-below
order-requires-clause-below g c =
    subst (λ (a : List (Numbered g.row.R.Denot)). NumbersBelow (length c.in_ok-read_steps.field-0.stores.items) a)
    (answers_are {R = g.row.R.Denot} c.args.opening c.args.noise c.args.writes.now c.args.steps.now c.in_ok-play.field-0
    c.in_ok-play.ensures) (numbers_below c.args.opening c.args.noise c.args.steps.now c.args.writes.now
    c.in_ok-read_steps.field-0.stores.items c.in_ok-read_steps.ensures.are_stores)
