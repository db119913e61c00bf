-- The pass is between two reads, and the receipt names a record.
use Rattle.std.proofs.Common.{◌≡◌, ap, sym, ◌∙◌, subst, refl}
use native.Mathlib.Nat.{le-max_left, le-max_right}
use Rattle.cell_contract.specs.Running.{snap}
use Rattle.cell_contract.specs.Intervals.{IsHeard}
use Rattle.cell_contract.specs.declared.times.Dated.{Dated}
use Rattle.cell_contract.specs.declared.sight.Sight.TheVariants.{Reader}
use Rattle.cell_contract.specs.Sights.{reader_or, receipt_or}
use Rattle.cell_four_slot.specs.Steps.{first_reader, heard_by, hears_of}
use Rattle.cell_contract.specs.Intervals.{dated}
use Rattle.cell_four_slot.specs.declared.notes.ReaderNotes.{ReaderNotes}
use Rattle.cell_four_slot.proofs.calls.FourSlotCellCalls.learn.Goals as goal

pub hear-requires-clause-idle : goal.hear-requires-clause-idle
hear-requires-clause-idle g c =
    let get = c.args.get.now in
    let n : ReaderNotes g.row.T.Denot = reader_or (first_reader get.spare.value) get.seat.inner.me.0 in
    (n, get.known, get.idle)

pub hear-requires-clause-receipt : goal.hear-requires-clause-receipt
hear-requires-clause-receipt g c = let receipt = c.args.receipt in (
  snap (receipt_or (dated receipt.spare.value) receipt.seat.inner.me.0),
  receipt.known,
)

pub returns-clause-timed : goal.returns-clause-timed
returns-clause-timed g c =
    let get = c.args.get.now in
    let receipt = c.args.receipt in
    let d : ReaderNotes g.row.T.Denot = first_reader get.spare.value in
    let n : ReaderNotes g.row.T.Denot = reader_or d get.seat.inner.me.0 in
    let x : Dated g.row.T.Denot = receipt_or (dated receipt.spare.value) receipt.seat.inner.me.0 in
    let after : ReaderNotes g.row.T.Denot = heard_by n x in
    let e : c.hear.new.seat.inner.me.0 ≡ Reader after =
    ap (λ m. m.0) c.hear.ensures.joined ∙ (λ i. hears_of (get.known i) ((ap (λ m. m.0) receipt.known) i)) in
    let heard : IsHeard n.times after.times x.time =
    record { begins = refl; ends = refl; later = le-max_left n.times.clock x.time; heard = le-max_right n.times.clock x.time } in
    subst (λ z. IsHeard n.times (reader_or d z).times x.time) (sym e) heard
