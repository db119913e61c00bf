-- A call, access by access. Only private functions cite this, which is this project's own; what a
-- call promises stands in Passes.
use Rattle.std.specs.Prelude.{◌≡◌, ◌⊎◌, Bool, IsTrue, ℕ, ◌-◌, ◌*◌, ◌<◌, ◌≤◌, List, [], ◌∷◌, ◌++◌, length, slice_get}
use Rattle.std.specs.Prelude.{Some, true, false, if◌then◌else◌}
use Rattle.cell_contract.specs.declared.said.Said.{Said}
use Rattle.cell_contract.specs.declared.said.Found.{Found}
use Rattle.cell_contract.specs.declared.times.Times.{Times}
use Rattle.cell_contract.specs.Running.{last_or}
use Rattle.cell_contract.specs.declared.family.Family.{Ghosts as FamilyWords}
use Rattle.cell_contract.specs.Accesses.{FindsTag, IsWriteAccess, KeepsEach}
use Rattle.cell_contract.specs.Plans.{AreSoFar}
use Rattle.matrix_core.specs.Lines.{other}
use Rattle.board_history.specs.Accesses.{IsInterval}
use Rattle.board_live.specs.declared.record.Posted.{Posted}
use Rattle.board_live.specs.Passes.{IsFurtherAnswer}
use Rattle.board_live.specs.Plans.{MakesCalls}
use Rattle.board_live.specs.Records.{greatest_posted, Rises}

-- these steps are later than the first time, and the last of them is at the second; or there are none
abbrev pub IsStretch : ℕ → ℕ → List ℕ → Type 0
IsStretch clock clock' steps = ((steps ≡ []) × (clock' ≡ clock))
    ⊎ ((begin : ℕ) × (slice_get steps 0 ≡ Some begin) × (clock < begin)
    × (begin ≤ clock') × (slice_get steps (length steps - 1) ≡ Some clock'))

-- access number `access` of these steps is the last of the times
abbrev pub IsIntervalOf : ℕ → List ℕ → ℕ → Times → Times → Type 0
IsIntervalOf width steps access old new = IsInterval width steps access old.begins old.ends new.begins new.ends

module _ {V F S T : Type 0} (words : FamilyWords F (Posted V) S T) where
  -- the seat is that of this process of a family of so many
  pub record IsOf (family : F) (processes process : ℕ) (pass : S) : Type 0 where
    pub size : (2 ≤ processes) × (processes ≤ 16)
    pub all : words.processes family ≡ processes
    pub inside : process < processes
    pub seat : words.is_seat family pass
    pub who : words.who pass ≡ process

  -- what all processes have done so far, shown by this seat
  abbrev pub ShowsAll : F → S → Type 0
  ShowsAll family seat =
      AreSoFar (MakesCalls (words.opening family) words.width (words.processes family) (words.limit family))
      (words.opening family) (words.processes family) (words.who seat) (words.times seat) (words.writes seat)
      (words.reads seat) (words.said seat) (words.found seat)

  -- no tag was said or found
  abbrev pub KeepsTags : S → S → Type 0
  KeepsTags seat seat' = (words.said seat' ≡ words.said seat) × (words.found seat' ≡ words.found seat)

  -- the first of the others were read, each once
  pub record HasReadColumn (obeys : V → Bool) (family : F) (process count : ℕ) (seat seat' : S)
      (seen seen' : Posted V) : Type 0 where
    pub of : words.is_seat family seat' × (words.who seat' ≡ words.who seat)
    pub steps : List ℕ
    pub long : length steps ≡ count * words.width
    pub times : words.times seat' ≡ words.times seat ++ steps
    pub span : IsStretch (words.clock seat) (words.clock seat') steps
    pub answers : List (Posted V)
    pub each : length answers ≡ count
    pub reads : (e : ℕ) (answer : Posted V) → slice_get answers e ≡ Some answer →
        IsIntervalOf words.width steps e (words.reads seat (other process e)).times
        (words.reads seat' (other process e)).times
        × IsFurtherAnswer obeys (words.opening family) (words.reads seat (other process e))
        (words.reads seat' (other process e)) answer
    pub unread : (e : ℕ) → count ≤ e → words.reads seat' (other process e) ≡ words.reads seat (other process e)
    pub writes : KeepsEach (words.writes seat) (words.writes seat')
    pub sees : seen' ≡ greatest_posted seen answers
    pub lawful : IsTrue (obeys seen'.item)
    pub rises : Rises seen seen'
    pub tags : KeepsTags seat seat'

  -- the record was written to the first of the others, once to each
  pub record HasWrittenRow (family : F) (process count : ℕ) (seat seat' : S) (item : Posted V) : Type 0 where
    pub of : words.is_seat family seat' × (words.who seat' ≡ words.who seat)
    pub steps : List ℕ
    pub long : length steps ≡ count * words.width
    pub times : words.times seat' ≡ words.times seat ++ steps
    pub span : IsStretch (words.clock seat) (words.clock seat') steps
    pub writes : (e : ℕ) → e < count →
        IsIntervalOf words.width steps e (words.writes seat (other process e)).times
        (words.writes seat' (other process e)).times
        × IsWriteAccess (words.writes seat (other process e)) (words.writes seat' (other process e)) item
    pub unwritten : (e : ℕ) → count ≤ e → words.writes seat' (other process e) ≡ words.writes seat (other process e)
    pub last : (e : ℕ) (first : Posted V) → e < count →
        last_or first (words.writes seat' (other process e)).items ≡ item
    pub reads : KeepsEach (words.reads seat) (words.reads seat')
    pub tags : KeepsTags seat seat'

  -- it was found in one step that the record's writer had said its tag; or it wasn't, and nothing changed
  pub record LooksForTag (family : F) (seat seat' : S) (item : Posted V) (found : Bool) : Type 0 where
    pub of : words.is_seat family seat' × (words.who seat' ≡ words.who seat)
    pub finds : found ≡ true → FindsTag item.stamp.writer item.stamp.tag (words.clock seat) (words.clock seat')
        (words.times seat) (words.times seat') (words.found seat) (words.found seat')
    pub unfound : found ≡ false → (words.clock seat' ≡ words.clock seat) × (words.times seat' ≡ words.times seat)
        × (words.found seat' ≡ words.found seat)
    pub said : words.said seat' ≡ words.said seat
    pub calls : KeepsEach (words.writes seat) (words.writes seat') × KeepsEach (words.reads seat) (words.reads seat')

  -- the record was written to each of so many others, and its tag was said, or not; or nothing was, since it is the own
  -- record, or since its writer was found to have said its tag
  pub record HasRow (family : F) (process count : ℕ) (seat seat' : S) (own item : Posted V)
      (told told' : Bool) : Type 0 where
    pub of : words.is_seat family seat' × (words.who seat' ≡ words.who seat)
    pub tells : Bool
    pub finds : Bool
    pub steps : List ℕ
    pub long : length steps ≡ (if tells then count * words.width else (if finds then 1 else 0))
    pub times : words.times seat' ≡ words.times seat ++ steps
    pub span : IsStretch (words.clock seat) (words.clock seat') steps
    pub writes : tells ≡ true → (e : ℕ) → e < count →
        IsIntervalOf words.width steps e (words.writes seat (other process e)).times
        (words.writes seat' (other process e)).times
        × IsWriteAccess (words.writes seat (other process e)) (words.writes seat' (other process e)) item
    pub unwritten : tells ≡ false → KeepsEach (words.writes seat) (words.writes seat')
    pub silent : tells ≡ false → finds ≡ false → (item ≡ own) × (told' ≡ told)
    pub last : tells ≡ true → (e : ℕ) (first : Posted V) → e < count →
        last_or first (words.writes seat' (other process e)).items ≡ item
    pub reads : KeepsEach (words.reads seat) (words.reads seat')
    pub now_told : tells ≡ true → told' ≡ true
    pub untold : tells ≡ false → finds ≡ true → told' ≡ false
    pub says : List Said
    pub said : words.said seat' ≡ words.said seat ++ says
    pub truly : (x : ℕ) (s : Said) → slice_get says x ≡ Some s → (tells ≡ true) × (item.stamp.writer ≡ process)
        × (s.tag ≡ item.stamp.tag) × (s.time ≡ words.clock seat')
    pub found : words.found seat' ≡ words.found seat ++ (if tells then [] else (if finds then record {
      who = item.stamp.writer;
      tag = item.stamp.tag;
      time = words.clock seat';
    } ∷ [] else []))
