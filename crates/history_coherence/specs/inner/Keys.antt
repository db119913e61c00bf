-- The record of each operation that has to stand, its task, and what stands before it. Only private functions cite
-- this, which is this project's own.
use Rattle.std.specs.Prelude.{◌≡◌, ℕ, ◌<◌, ◌≤◌, Bool, true, false, not, ◌&&◌, ◌||◌, List, length, slice_get}
use Rattle.std.specs.Prelude.{Option, None, Some, is_some, unwrap_or, nat_eq, if◌then◌else◌}
use Rattle.std.specs.Option.{option_and_then, option_map}
use Rattle.history_core.specs.declared.history.Op.{Op}
use Rattle.history_core.specs.Orders.{is_write}
use Rattle.history_thinning.specs.Thinnings.{Equal}
use Rattle.history_coherence.specs.declared.edge.Edge.{Edge}
use Rattle.history_coherence.specs.declared.edge.Tables.{Tables}
use Rattle.history_coherence.specs.Incoherent.{HasToStand}

-- the number at a place, if it has one
abbrev pub number_at : List (Option ℕ) → ℕ → Option ℕ
number_at numbers p = option_and_then (λ n. n) (slice_get numbers p)

-- no record is above this one
abbrev pub AreUpTo : List (Op ℕ) → ℕ → Type 0
AreUpTo log greatest = (p x : ℕ) (o : Op ℕ) → slice_get log p ≡ Some o → o.item ≡ Some x → x ≤ greatest

abbrev pub NumbersUpTo : List (Option ℕ) → ℕ → Type 0
NumbersUpTo numbers greatest = (p x : ℕ) → number_at numbers p ≡ Some x → x ≤ greatest

-- the record that a finished operation has, and the one that a write has
abbrev pub finished_record : Op ℕ → Option ℕ
finished_record o = if is_some o.ends then o.item else None

abbrev pub written_record : Op ℕ → Option ℕ
written_record o = if is_write o.kind then o.item else None

-- which numbers stand at places below n
pub record AreMet (numbers : List (Option ℕ)) (n : ℕ) (met : List Bool) : Type 0 where
  pub yes : (x : ℕ) → slice_get met x ≡ Some true → (p : ℕ) × (p < n) × (number_at numbers p ≡ Some x)
  pub no : (x p : ℕ) → slice_get met x ≡ Some false → p < n → number_at numbers p ≡ Some x → ⊥

abbrev pub is_met : List Bool → ℕ → Bool
is_met met x = unwrap_or (slice_get met x) false

-- the record of an operation that has to stand, and its task, where these records are those of finished operations
abbrev pub key_of : List Bool → Op ℕ → Option ℕ
key_of asked o =
    if is_some o.ends then o.item
    else option_and_then (λ x. if is_met asked x then Some x else None) (written_record o)

abbrev pub task_of : List Bool → Op ℕ → Option ℕ
task_of asked o = option_map (λ _. o.who) (key_of asked o)

-- the last place below n with this number
abbrev pub IsPrevious : List (Option ℕ) → ℕ → ℕ → Option ℕ → Type 0
IsPrevious numbers n x None = (q : ℕ) → q < n → number_at numbers q ≡ Some x → ⊥
IsPrevious numbers n x (Some r) = (r < n) × (number_at numbers r ≡ Some x)
    × ((q : ℕ) → r < q → q < n → number_at numbers q ≡ Some x → ⊥)

-- of each place the last place before it with its number
pub record ArePrevious (numbers : List (Option ℕ)) (n : ℕ) (previous : List (Option ℕ)) : Type 0 where
  pub long : length previous ≡ n
  pub each : (p x : ℕ) → p < n → number_at numbers p ≡ Some x → IsPrevious numbers p x (number_at previous p)
  pub none : (p r : ℕ) → number_at previous p ≡ Some r → (x : ℕ) × (number_at numbers p ≡ Some x)

-- of each number the last place below n that has it
abbrev pub AreLast : List (Option ℕ) → ℕ → List (Option ℕ) → Type 0
AreLast numbers n last = (x : ℕ) (found : Option ℕ) → slice_get last x ≡ Some found → IsPrevious numbers n x found

-- keys: the record of each operation that has to stand
pub record AreKeys (log : List (Op ℕ)) (keys : List (Option ℕ)) : Type 0 where
  pub stands : (p x : ℕ) (o : Op ℕ) → slice_get log p ≡ Some o → number_at keys p ≡ Some x →
      HasToStand Equal 0 log o × (o.item ≡ Some x)
  pub all : (p x : ℕ) (o : Op ℕ) → slice_get log p ≡ Some o → HasToStand Equal 0 log o → o.item ≡ Some x →
      number_at keys p ≡ Some x

-- the task of each operation that has to stand
pub record AreTasks (log : List (Op ℕ)) (keys tasks : List (Option ℕ)) : Type 0 where
  pub task : (p x : ℕ) (o : Op ℕ) → slice_get log p ≡ Some o → number_at keys p ≡ Some x →
      number_at tasks p ≡ Some o.who
  pub key : (p t : ℕ) → number_at tasks p ≡ Some t →
      (o : Op ℕ) × (x : ℕ) × (slice_get log p ≡ Some o) × (o.who ≡ t) × (number_at keys p ≡ Some x)

-- how the records of a task's operation at a place and of the one before it are tied
abbrev pub edge_to : List (Option ℕ) → ℕ → ℕ → ℕ → Option Edge
edge_to keys q to p =
    option_map (λ from. record { link = record { earlier = p; later = q }; from = from; to = to }) (number_at keys p)

abbrev pub edge_at : List (Option ℕ) → List (Option ℕ) → ℕ → Option Edge
edge_at keys earlier q =
    option_and_then (λ to. option_and_then (λ p. edge_to keys q to p) (number_at earlier q)) (number_at keys q)

-- a finished operation whose record is neither the opening nor among these
abbrev pub is_source : List Bool → Option ℕ → Bool
is_source written None = false
is_source written (Some x) = nat_eq x 0 || is_met written x

abbrev pub lacks_source : List Bool → Op ℕ → Bool
lacks_source written o = is_some o.ends && not (is_source written o.item)

-- the same record twice, the second time as a write
abbrev pub is_ahead : Op ℕ → Option Edge → Bool
is_ahead o None = false
is_ahead o (Some e) = is_write o.kind && nat_eq e.from e.to

-- the opening behind another record
abbrev pub is_back : Option Edge → Bool
is_back None = false
is_back (Some e) = nat_eq e.to 0 && not (nat_eq e.from 0)

-- the tables of a log
pub record IsTabled (log : List (Op ℕ)) (tables : Tables) : Type 0 where
  pub long : length tables.keys.items ≡ length log
  pub keys : AreKeys log tables.keys.items
  pub tasks : List (Option ℕ)
  pub are_tasks : AreTasks log tables.keys.items tasks
  pub earlier : ArePrevious tasks (length tasks) tables.earlier.items
  pub mates : ArePrevious tables.keys.items (length tables.keys.items) tables.mates.items

-- each finished operation has a record, which is written or the opening
abbrev pub HaveSources : List (Op ℕ) → List Bool → Type 0
HaveSources log written =
    (p : ℕ) (o : Op ℕ) → p < length log → slice_get log p ≡ Some o → lacks_source written o ≡ false

abbrev pub NoneAhead : List (Op ℕ) → Tables → Type 0
NoneAhead log tables = (q : ℕ) (o : Op ℕ) → q < length log → slice_get log q ≡ Some o →
    is_ahead o (edge_at tables.keys.items tables.earlier.items q) ≡ false

abbrev pub NoneBack : Tables → ℕ → Type 0
NoneBack tables places = (q : ℕ) → q < places → is_back (edge_at tables.keys.items tables.earlier.items q) ≡ false
