-- What the steps of a cell share: what a seat sees stays when the other side makes a step, the slot that a reader gives back, and that each
-- step comes later than all that was.
use Rattle.std.proofs.Common.{◌≡◌, ◌≢◌, ℕ, ◌+◌, ◌<◌, Option, None, Some, List, [], ◌∷◌, refl, arith, ◌≤◌, le_trans}
use mathlib.Core.Option.{Option as Opt}
use Rattle.atomic_table.specs.Table.{State, Act, keeps, gives, carried_after, homes_after, Valid}
use Rattle.four_slot_core.specs.declared.state.Slot.{Slot}
use Rattle.cell_contract.specs.Intervals.{known_as, IsHeeded}
use Rattle.cell_contract.specs.Acts.{Proper}
use Rattle.cell_contract.specs.declared.times.Known.{Known}
use Rattle.cell_four_slot.specs.declared.notes.WriterNotes.{WriterNotes}
use Rattle.cell_four_slot.specs.declared.notes.ReaderNotes.{ReaderNotes}
use Rattle.cell_four_slot.specs.Steps.{FourSlotSight, slot_of_choice}
use Rattle.cell_contract.specs.declared.sight.Sight.TheVariants.{Spent, Told, Writer, Reader, Both}
use Rattle.cell_four_slot.specs.Rule.{StandsBy, Sees, FourSlotRule}

module _ {T : Type 0} where
  pub sight_put : (o : T) (p p' : WriterNotes T) (g : ReaderNotes T) (n n' t t' w w' r j : ℕ) → j ≢ w → t ≤ t' →
      ((x : T) → StandsBy n (o ∷ p.written) x → StandsBy n' (o ∷ p'.written) x) →
      ((h : Known T) → IsHeeded h (known_as p.written p.times) n → IsHeeded h (known_as p'.written p'.times) n') → (v : FourSlotSight T) →
      Sees o p g n t w r j v → Sees o p' g n' t' w' r j v
  sight_put o p p' g n n' t t' w w' r j other le more heed Spent k = tt
  sight_put o p p' g n n' t t' w w' r j other le more heed (Told x) k = (more x.value.item k.0, le_trans k.1 le, heed x.value.writes k.2)
  sight_put o p p' g n n' t t' w w' r j other le more heed (Writer q) k = absurd (other k.1)
  sight_put o p p' g n n' t t' w w' r j other le more heed (Reader h) k = k
  sight_put o p p' g n n' t t' w w' r j other le more heed (Both q h) k = absurd (other k.2)

  pub sight_get : (o : T) (p : WriterNotes T) (g g' : ReaderNotes T) (n t t' w r r' j : ℕ) → j ≢ r → t ≤ t' → (v : FourSlotSight T) →
      Sees o p g n t w r j v → Sees o p g' n t' w r' j v
  sight_get o p g g' n t t' w r r' j other le Spent k = tt
  sight_get o p g g' n t t' w r r' j other le (Told x) k = (k.0, le_trans k.1 le, k.2)
  sight_get o p g g' n t t' w r r' j other le (Writer q) k = k
  sight_get o p g g' n t t' w r r' j other le (Reader h) k = absurd (other k.1)
  sight_get o p g g' n t t' w r r' j other le (Both q h) k = absurd (other k.3)

  -- the slot of the read before is given back, where there was one
  abbrev pub act_of : Option Slot → Act T
  act_of None = keeps
  act_of (Some k) = gives

  pub act_rest : (ch : Option Slot) (x : T) → carried_after (slot_of_choice ch x) (act_of ch) ≡ []
  act_rest None x = refl
  act_rest (Some k) x = refl

  pub act_proper : (ch : Option Slot) (x : T) → Proper (slot_of_choice ch x) (act_of ch)
  act_proper None x = tt
  act_proper (Some k) x = tt

  pub act_valid : (hs : List (Opt T)) (ch : Option Slot) (x : T) → Valid hs (slot_of_choice ch x) (act_of ch)
  act_valid hs None x = tt
  act_valid hs (Some k) x = tt

  pub act_homes : (hs : List (Opt T)) (ch : Option Slot) (x : T) →
      homes_after hs (slot_of_choice ch x) gives ≡ homes_after hs (slot_of_choice ch x) (act_of ch)
  act_homes hs None x = refl
  act_homes hs (Some k) x = refl

  -- the time of the next step is later than all that either pass knows of
  abbrev pub next_time : {fits : T → Type 0} {rises : T → T → Type 0} {o : T} {s : State T (FourSlotSight T)} →
      FourSlotRule fits rises o s → ℕ
  next_time r = r.now + 1

  pub next_on : {fits : T → Type 0} {rises : T → T → Type 0} {o : T} {s : State T (FourSlotSight T)} (r : FourSlotRule fits rises o s) →
      r.now < next_time r
  next_on r = omega arith

  pub put_on : {fits : T → Type 0} {rises : T → T → Type 0} {o : T} {s : State T (FourSlotSight T)} (r : FourSlotRule fits rises o s)
      (t : ℕ) → r.now < t → r.put.times.clock < t
  put_on r t lt = let l : r.put.times.clock ≤ r.now = r.timed.put_clock in omega arith

  pub get_on : {fits : T → Type 0} {rises : T → T → Type 0} {o : T} {s : State T (FourSlotSight T)} (r : FourSlotRule fits rises o s)
      (t : ℕ) → r.now < t → r.get.times.clock < t
  get_on r t lt = let l : r.get.times.clock ≤ r.now = r.timed.get_clock in omega arith
