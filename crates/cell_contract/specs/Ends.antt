-- What is known of all processes together (this project's own).
use Rattle.std.specs.Prelude.{◌≡◌, ◌≢◌, ℕ, ◌<◌, ◌≤◌, List, slice_get, Some}
use Rattle.cell_contract.specs.Intervals.{AreAtomic, AreFirst, HaveEnded}
use Rattle.cell_contract.specs.Accesses.{WriteAccesses, ReadAccesses}
use Rattle.cell_contract.specs.declared.said.Said.{Said}
use Rattle.cell_contract.specs.declared.said.Found.{Found}

module _ {A : Type 0} where
  -- each with its place, and each two at different places
  abbrev pub Each : (ℕ → A → Type 0) → List A → Type 0
  Each P xs = (i : ℕ) (x : A) → slice_get xs i ≡ Some x → P i x

  abbrev pub EachTwo : (ℕ → ℕ → A → A → Type 0) → List A → Type 0
  EachTwo P xs = (i j : ℕ) (x y : A) → slice_get xs i ≡ Some x → slice_get xs j ≡ Some y → i ≢ j → P i j x y

-- steps of so many processes
abbrev pub IsSchedule : ℕ → List ℕ → Type 0
IsSchedule n steps = (step who : ℕ) → slice_get steps step ≡ Some who → who < n

-- *An atomic register*: all calls have ended and are atomic by their intervals, and the writes that the reader knows
-- of are the first of those made
pub record IsAtomicCell {T : Type 0} (opening : T) (writes : WriteAccesses T) (reads : ReadAccesses T) : Type 0 where
  pub atomic : AreAtomic opening writes.items writes.times reads.answers reads.numbers reads.times
  pub ended : HaveEnded writes.times
  pub known : AreFirst reads.known writes.items writes.times

-- *Said before*: among these tags is one that isn't below the tag found, and it was said before the step that found it
abbrev pub WasSaid : List Said → Found → Type 0
WasSaid said f = (y : ℕ) × (s : Said) × (slice_get said y ≡ Some s) × (f.tag ≤ s.tag) × (s.time < f.time)

-- each tag that the process of one of these seats found was said before by the process of another one
abbrev pub FindWhatWasSaid : {S : Type 0} → (S → List Said) → (S → List Found) → List S → Type 0
FindWhatWasSaid said found seats = (i x : ℕ) (s : _) (f : Found) → slice_get seats i ≡ Some s →
    slice_get (found s) x ≡ Some f → (t : _) × (slice_get seats f.who ≡ Some t) × WasSaid (said t) f
