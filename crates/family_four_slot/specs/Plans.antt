-- What a process of a family of four-slot cells has done, and what each step of the mechanism owes of
-- its plan (this project's own).
use Rattle.std.proofs.Common.{◌≡◌, ℕ, nat_eq, cond, Bool, true, false, ◌<◌, List, refl, sym, ap, ◌∙◌, subst}
use Rattle.cell_contract.specs.Plans.{Accesses, Doings, doings}
use Rattle.cell_contract.specs.Sights.{writer_or, reader_or}
use Rattle.cell_contract.specs.declared.sight.Sight.TheVariants.{Spent, Told, Writer, Reader, Both}
use Rattle.cell_contract.specs.declared.times.Known.{Known}
use Rattle.cell_four_slot.specs.declared.notes.WriterNotes.{WriterNotes}
use Rattle.cell_four_slot.specs.declared.notes.ReaderNotes.{ReaderNotes}
use Rattle.cell_four_slot.specs.Steps.{FourSlotSight, first_writer, first_reader, hears_of, receipt_for}
use Rattle.cell_four_slot.specs.Steps.{begun_with, stored_by, finished_with, asked_by, said_with, got_by}
use Rattle.family_table.specs.declared.notes.Opened.{Opened}
use Rattle.family_table.specs.declared.notes.Process.{Process}
use Rattle.family_table.specs.declared.notes.Receipt.{Receipt}
use Rattle.family_table.specs.declared.notes.View.{View}
use Rattle.family_table.specs.declared.notes.View.TheVariants.{Has}
use Rattle.family_table.specs.Ends.{AllSoFar}
use Rattle.family_table.specs.Family.{heard_by, knows, of_cell}
use Rattle.family_table.specs.Places.{place}
use Rattle.family_table.proofs.Receipts.{heard_cell}
use Rattle.atomic_table.specs.Table.{Me}
use Rattle.family_four_slot.specs.Cells.{deaf, mute}
use Rattle.family_four_slot.specs.FourSlots.{IsInShape, Shaped}
use Rattle.family_four_slot.specs.Places.{four_slots}
use Rattle.family_four_slot.specs.Tables.{Done}
use Rattle.family_four_slot.specs.Words.{writes_to, reads_from}

module _ {T : Type 0} where
  -- what a process has done, in a family of n whose registers opened with this record
  abbrev pub done_by : T → ℕ → Process (FourSlotSight T) → Doings T
  done_by o n v = doings v.times (writes_to o n v) (reads_from o n v) v.said v.found

  -- that is of the records' plan; and so of a family's key
  abbrev pub DoesAsPlanned : (T → ℕ → ℕ → ℕ → ℕ → Doings T → Type 0) → T → ℕ → ℕ → ℕ → Process (FourSlotSight T) →
      Type 0
  DoesAsPlanned plan o limit n i v = plan o 3 n limit i (done_by o n v)

  abbrev pub plan_of : (T → ℕ → ℕ → ℕ → ℕ → Doings T → Type 0) → Opened T → ℕ → Process (FourSlotSight T) → Type 0
  plan_of plan key = DoesAsPlanned plan key.first key.limit key.processes

  -- what a process may know at any moment: it is in shape, and has done what is planned
  abbrev pub IsPlanned : (T → ℕ → ℕ → ℕ → ℕ → Doings T → Type 0) → T → ℕ → ℕ → ℕ → Process (FourSlotSight T) → Type 0
  IsPlanned plan o limit n = Shaped n (DoesAsPlanned plan o limit n)

  -- all processes as they are behind the last step of a call, which shows them with this seat
  abbrev pub ShowsAll : (T → ℕ → ℕ → ℕ → ℕ → Doings T → Type 0) → Opened T → Me T (View (FourSlotSight T)) → Type 0
  ShowsAll plan key me = (ps : List (Process (FourSlotSight T))) → me.0 ≡ Has ps →
      AllSoFar Spent (four_slots key.processes) (Done key.first)
      (IsPlanned plan key.first key.limit key.processes) key.processes ps

-- What a step on cell k owes: at each later time, and whatever it finds, the process is of its plan. The
-- slots of its seat don't matter
module _ {T : Type 0} (Plan : ℕ → Process (FourSlotSight T) → Type 0) (k : ℕ) (v : Process (FourSlotSight T)) where
  -- W1, W4, W5, and W4 with W5
  abbrev pub MayBegin : WriterNotes T → T → Type 0
  MayBegin p x = (b : Bool) (t : ℕ) (held : List ℕ) → v.clock < t →
      Plan v.who (knows Spent v k (Writer (begun_with p b x t)) t held)

  abbrev pub MayStore : WriterNotes T → Type 0
  MayStore p = (t : ℕ) (held : List ℕ) → v.clock < t → Plan v.who (knows Spent v k (Writer (stored_by p t)) t held)

  abbrev pub MayFinish : WriterNotes T → Type 0
  MayFinish p = (count t : ℕ) (held : List ℕ) → v.clock < t →
      Plan v.who (knows Spent v k (Writer (finished_with p count t)) t held)

  -- R1, R2, R3
  abbrev pub MayAsk : ReaderNotes T → Type 0
  MayAsk g = (b : Bool) (t : ℕ) (held : List ℕ) → v.clock < t →
      Plan v.who (knows Spent v k (Reader (asked_by g b t)) t held)

  abbrev pub MaySayPair : ReaderNotes T → Type 0
  MaySayPair g = (count t : ℕ) (held : List ℕ) → v.clock < t →
      Plan v.who (knows Spent v k (Reader (said_with g count t)) t held)

  abbrev pub MayTake : ReaderNotes T → Type 0
  MayTake g = (b : Bool) (x : T) (t number : ℕ) (writes : Known T) (held : List ℕ) → v.clock < t →
      Plan v.who (knows Spent v k (Reader (got_by g b x t number writes)) t held)

-- W4 and W5, and R2 and R3
module _ {T : Type 0} (Plan : ℕ → Process (FourSlotSight T) → Type 0) (k : ℕ) (v : Process (FourSlotSight T)) where
  abbrev pub MayPublish : WriterNotes T → Type 0
  MayPublish p = MayStore Plan k v p × ((t : ℕ) (held : List ℕ) → v.clock < t →
      MayFinish Plan k (knows Spent v k (Writer (stored_by p t)) t held) (stored_by p t))

  abbrev pub MayGet : ReaderNotes T → Type 0
  MayGet g = MaySayPair Plan k v g × ((count t : ℕ) (held : List ℕ) → v.clock < t →
      MayTake Plan k (knows Spent v k (Reader (said_with g count t)) t held) (said_with g count t))

-- R1 to R3
abbrev pub MayLook : {T : Type 0} → (ℕ → Process (FourSlotSight T) → Type 0) → ℕ → Process (FourSlotSight T) →
    ReaderNotes T → Type 0
MayLook Plan k v g = MayAsk Plan k v g × ((b : Bool) (t : ℕ) (held : List ℕ) → v.clock < t →
    MayGet Plan k (knows Spent v k (Reader (asked_by g b t)) t held) (asked_by g b t))

-- a receipt changes nothing of what its learner has done, nor its shape
module _ {T : Type 0} where
  writer_stays : (d : WriterNotes T) (v w : FourSlotSight T) → writer_or d (hears_of v w) ≡ writer_or d v
  writer_stays d Spent w = refl
  writer_stays d (Told x) w = refl
  writer_stays d (Writer p) w = refl
  writer_stays d (Both p g) w = refl
  writer_stays d (Reader g) Spent = refl
  writer_stays d (Reader g) (Told x) = refl
  writer_stays d (Reader g) (Writer p) = refl
  writer_stays d (Reader g) (Reader h) = refl
  writer_stays d (Reader g) (Both p h) = refl

  abbrev written : WriterNotes T → Accesses T
  written p = record { items = p.written; begins = p.times.begins; ends = p.times.ends }

  abbrev answered : ReaderNotes T → Accesses T
  answered g = record { items = g.answers; begins = g.times.begins; ends = g.times.ends }

  reader_stays : (d : ReaderNotes T) (v w : FourSlotSight T) →
      answered (reader_or d (hears_of v w)) ≡ answered (reader_or d v)
  reader_stays d Spent w = refl
  reader_stays d (Told x) w = refl
  reader_stays d (Writer p) w = refl
  reader_stays d (Both p g) w = refl
  reader_stays d (Reader g) Spent = refl
  reader_stays d (Reader g) (Told x) = refl
  reader_stays d (Reader g) (Writer p) = refl
  reader_stays d (Reader g) (Reader h) = refl
  reader_stays d (Reader g) (Both p h) = refl

  module _ (o : T) (n : ℕ) (v : Process (FourSlotSight T)) (r : Receipt (FourSlotSight T)) where
    abbrev u : Process (FourSlotSight T)
    u = heard_by hears_of v r

    heard_at : (k : ℕ) → of_cell Spent k u.parts ≡ hears_of (of_cell Spent k v.parts) (of_cell Spent k r.parts)
    heard_at k = heard_cell Spent receipt_for hears_of refl deaf mute k v.parts r.parts

    writes_stay : (j : ℕ) → (done_by o n u).writes j ≡ (done_by o n v).writes j
    writes_stay j = by_case (nat_eq j v.who)
      where
        by_case : (b : Bool) →
            written
            (writer_or (first_writer o) (cond {A = FourSlotSight T} b Spent (of_cell Spent (place n v.who j) u.parts)))
            ≡ written
            (writer_or (first_writer o) (cond {A = FourSlotSight T} b Spent (of_cell Spent (place n v.who j) v.parts)))
        by_case true = refl
        by_case false = ap written (ap (writer_or (first_writer o)) (heard_at (place n v.who j))
            ∙ writer_stays (first_writer o) (of_cell Spent (place n v.who j) v.parts)
            (of_cell Spent (place n v.who j) r.parts))

    reads_stay : (j : ℕ) → (done_by o n u).reads j ≡ (done_by o n v).reads j
    reads_stay j = by_case (nat_eq j v.who)
      where
        by_case : (b : Bool) →
            answered
            (reader_or (first_reader o) (cond {A = FourSlotSight T} b Spent (of_cell Spent (place n j v.who) u.parts)))
            ≡ answered
            (reader_or (first_reader o) (cond {A = FourSlotSight T} b Spent (of_cell Spent (place n j v.who) v.parts)))
        by_case true = refl
        by_case false = ap (λ z. answered (reader_or (first_reader o) z)) (heard_at (place n j v.who))
            ∙ reader_stays (first_reader o) (of_cell Spent (place n j v.who) v.parts)
            (of_cell Spent (place n j v.who) r.parts)

    still_reader : (g : ReaderNotes T) (w : FourSlotSight T) → (h : ReaderNotes T) × (hears_of (Reader g) w ≡ Reader h)
    still_reader g Spent = (g, refl)
    still_reader g (Told x) = (_, refl)
    still_reader g (Writer p) = (g, refl)
    still_reader g (Reader h) = (g, refl)
    still_reader g (Both p h) = (g, refl)

    shape_stays : (i : ℕ) → IsInShape n i v → IsInShape n i u
    shape_stays i s = record {
      row = λ j l ne.
          let w = s.row j l ne in
          (w.0, heard_at (place n i j) ∙ ap (λ z. hears_of z (of_cell Spent (place n i j) r.parts)) w.1);
      column = λ j l ne.
          let w = s.column j l ne in
          let h = still_reader w.0 (of_cell Spent (place n j i) r.parts) in
          (h.0, heard_at (place n j i) ∙ (ap (λ z. hears_of z (of_cell Spent (place n j i) r.parts)) w.1 ∙ h.1));
    }

    done_stays : done_by o n u ≡ done_by o n v
    done_stays = λ z. record (done_by o n v) { writes = λ j. writes_stay j z; reads = λ j. reads_stay j z }

  pub receipts_keep_plans : (plan : T → ℕ → ℕ → ℕ → ℕ → Doings T → Type 0) (o : T) (limit n i : ℕ)
      (v : Process (FourSlotSight T)) (r : Receipt (FourSlotSight T)) → IsPlanned plan o limit n i v →
      IsPlanned plan o limit n i (heard_by hears_of v r)
  receipts_keep_plans plan o limit n i v r h =
      (shape_stays o n v r i h.0, subst (plan o 3 n limit i) (sym (done_stays o n v r)) h.1)
