-- The calls of a board's run in one order, as those of one register that holds records with
-- stamps (this project's own).
use Rattle.std.specs.Prelude.{◌≡◌, ℕ, ◌+◌, ◌<◌, ◌≤◌, List, [], ◌∷◌, slice_get, Some}
use Rattle.history_core.specs.declared.history.Kind.{Kind}
use Rattle.history_core.specs.declared.history.Kind.TheVariants.{Write, Read, Refused}
use Rattle.matrix_core.specs.declared.stamp.Stamped.{Stamped}
use Rattle.matrix_core.specs.Stamps.{IsBelow}
use Rattle.board_history.specs.BoardRuns.{Called, Did}

-- a call of a process, with its number among the calls of that process
pub record Named (V : Type 0) : Type 0 where
  pub who : ℕ
  pub number : ℕ
  pub call : Called V

module _ {V : Type 0} where
  -- what one register does at a call of a process, which holds this record and has taken so many writes. A write puts
  -- the chosen record there, under a greater stamp that names its process; a read has the record that is there; a write
  -- is refused only after as many writes as the limit, and has that record
  abbrev pub Takes : ℕ → ℕ → Stamped V → ℕ → Kind → Stamped V → (Stamped V → ℕ → Type 0) → Type 0
  Takes limit who now writes Write chosen rest = IsBelow now.stamp chosen.stamp × (chosen.stamp.writer ≡ who)
      × rest chosen (writes + 1)
  Takes limit who now writes Read chosen rest = (chosen ≡ now) × rest now writes
  Takes limit who now writes Refused chosen rest = (chosen ≡ now) × (limit ≤ writes) × rest now writes

  -- the calls are those of one register, made in this order, and in the end it holds this record
  abbrev pub AreOfOne : ℕ → Stamped V → ℕ → Stamped V → List (Named V) → Type 0
  AreOfOne limit now writes last [] = last ≡ now
  AreOfOne limit now writes last (m ∷ ms) =
      Takes limit m.who now writes m.call.kind m.call.chosen (λ held count. AreOfOne limit held count last ms)

  -- *One order* of all calls: it has each once, those of one process in their order; a call that ended before
  -- another one began stands before it; and they are those of one register, which holds the first record
  -- first and this one in the end
  pub record IsOneOrder (n limit : ℕ) (first : Stamped V) (did : ℕ → Did V) (last : Stamped V)
      (order : List (Named V)) : Type 0 where
    pub each : (x : ℕ) (m : Named V) → slice_get order x ≡ Some m →
        (m.who < n) × (slice_get (did m.who).calls m.number ≡ Some m.call)
    pub all : (i k : ℕ) (c : Called V) → i < n → slice_get (did i).calls k ≡ Some c →
        (x : ℕ) × (slice_get order x ≡ Some (record { who = i; number = k; call = c }))
    pub in_turn : (x y : ℕ) (a b : Named V) → x < y → slice_get order x ≡ Some a →
        slice_get order y ≡ Some b → a.who ≡ b.who → a.number < b.number
    pub keeps : (x y : ℕ) (a b : Named V) → slice_get order x ≡ Some a → slice_get order y ≡ Some b →
        a.call.end < b.call.begin → x < y
    pub one : AreOfOne limit first 0 last order
