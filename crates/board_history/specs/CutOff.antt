-- A call as far as it has come, behind calls that have all ended: in its column, or in its row (this project's own).
use Rattle.std.specs.Prelude.{◌≡◌, ℕ, ◌+◌, ◌-◌, ◌*◌, ◌<◌, ◌≤◌, List, [], ◌∷◌, ◌++◌, length, slice_get, Option, None}
use Rattle.std.specs.Prelude.{Some, true}
use Rattle.matrix_core.specs.declared.stamp.Stamped.{Stamped}
use Rattle.matrix_core.specs.Choices.{ChoosesByKind}
use Rattle.matrix_core.specs.Stamps.{greatest}
use Rattle.matrix_core.specs.Lines.{other}
use Rattle.board_history.specs.Accesses.{ReadsOnce}
use Rattle.board_history.specs.BoardRuns.{Called, Did, own_before}
use Rattle.board_history.specs.RunsSoFar.{AreFirstOf}

abbrev pub if_there : Option ℕ → List ℕ
if_there None = []
if_there (Some t) = t ∷ []

-- access number `access` of these steps, as far as they go
pub record IsPart (width : ℕ) (steps : List ℕ) (access : ℕ) (begins ends begins' ends' : List ℕ) : Type 0 where
  pub begun : begins' ≡ begins ++ if_there (slice_get steps (access * width))
  pub ended : ends' ≡ ends ++ if_there (slice_get steps (access * width + (width - 1)))

module _ {V : Type 0} where
  -- *In its column*: these steps more, in which nothing is written
  pub record ReadsColumn (width n i : ℕ) (old new : Did V) : Type 0 where
    pub calls : new.calls ≡ old.calls
    pub steps : List ℕ
    pub few : length steps ≤ (n - 1) * width
    pub times : new.times ≡ old.times ++ steps
    pub reads : (e : ℕ) → e + 1 < n → IsPart width steps e (old.reads (other i e)).begins (old.reads (other i e)).ends
        (new.reads (other i e)).begins (new.reads (other i e)).ends
    pub answered : (e : ℕ) → e + 1 < n → AreFirstOf (old.reads (other i e)).items (new.reads (other i e)).items
    pub writes : (e : ℕ) → e + 1 < n → new.writes (other i e) ≡ old.writes (other i e)

  -- *In its row*: the call has made its column, has chosen what it tells, and has told it as far as it has come
  pub record WritesRow (width n limit : ℕ) (first : Stamped V) (i : ℕ) (old new : Did V)
      (call : Called V) : Type 0 where
    pub calls : new.calls ≡ old.calls ++ call ∷ []
    pub tells : call.tells ≡ true
    pub steps : List ℕ
    pub enough : (n - 1) * width ≤ length steps
    pub few : length steps ≤ (n - 1) * width + (n - 1) * width
    pub times : new.times ≡ old.times ++ steps
    pub begun : slice_get steps 0 ≡ Some call.begin
    pub answers : List (Stamped V)
    pub each : length answers + 1 ≡ n
    pub reads : (e : ℕ) (answer : Stamped V) → slice_get answers e ≡ Some answer →
        ReadsOnce width steps e (old.reads (other i e)) (new.reads (other i e)) answer
    pub writes : (e : ℕ) → e + 1 < n →
        IsPart width steps (n - 1 + e) (old.writes (other i e)).begins (old.writes (other i e)).ends
        (new.writes (other i e)).begins (new.writes (other i e)).ends
    pub items : (e : ℕ) → e + 1 < n →
        AreFirstOf (new.writes (other i e)).items ((old.writes (other i e)).items ++ call.chosen ∷ [])
    pub sees : call.seen ≡ greatest (own_before first old.calls (length old.calls)) answers
    pub chooses : (place : ℕ) →
        ChoosesByKind limit
        (record { place = place; who = i; kind = call.kind; stamp = call.chosen.stamp; item = call.chosen.item })
        call.kind call.seen.stamp call.seen.item
