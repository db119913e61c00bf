-- The writes that an operation could see: those that ran beside it, and of those that had ended when it began each that
-- no other of these follows. The records of no others may a regular register give there, after L. Lamport, On
-- Interprocess Communication, 1986, whose registers have one writer.
use Rattle.std.specs.Prelude.{ℕ, ◌+◌, ◌++◌, ◌&&◌, not, List, [], ◌∷◌, Bool, false, nat_lt, if◌then◌else◌, slice_get}
use Rattle.std.specs.Prelude.{Option, None, Some, unwrap_or}
use Rattle.std.specs.List.{list_any}
use Rattle.history_core.specs.declared.history.Op.{Op}
use Rattle.history_core.specs.Orders.{is_write}

abbrev pub is_before : Option ℕ → ℕ → Bool
is_before None moment = false
is_before (Some end) moment = nat_lt end moment

-- a write that had ended at this moment
abbrev pub had_ended : ℕ → Op ℕ → Bool
had_ended moment o = is_write o.kind && is_before o.ends moment

abbrev pub later_begin : ℕ → ℕ → Op ℕ → ℕ
later_begin moment last o = if had_ended moment o && nat_lt last o.starts then o.starts else last

-- when the last of such writes began, or `last` if that is later
abbrev pub last_begin : ℕ → ℕ → List (Op ℕ) → ℕ
last_begin moment last [] = last
last_begin moment last (o ∷ ops) = last_begin moment (later_begin moment last o) ops

-- a write that had begun by this end, and hadn't ended when the last began
abbrev pub is_seen : ℕ → ℕ → Op ℕ → Bool
is_seen last end o = is_write o.kind && (not (nat_lt end o.starts) && not (had_ended last o))

abbrev pub one_seen : ℕ → ℕ → ℕ → Op ℕ → List ℕ
one_seen last end p o = if is_seen last end o then p ∷ [] else []

-- the places of these writes, the first of which is p
abbrev pub seen_from : ℕ → ℕ → ℕ → List (Op ℕ) → List ℕ
seen_from last end p [] = []
seen_from last end p (o ∷ ops) = one_seen last end p o ++ seen_from last end (p + 1) ops

abbrev pub seen_by : List (Op ℕ) → Option (Op ℕ) → List ℕ
seen_by ops None = []
seen_by ops (Some o) = seen_from (last_begin o.starts 0 ops) (unwrap_or o.ends 0) 0 ops

-- the places of the writes that the operation at a place could see
abbrev pub could_see : List (Op ℕ) → ℕ → List ℕ
could_see ops place = seen_by ops (slice_get ops place)

abbrev pub opening_by : List (Op ℕ) → Option (Op ℕ) → Bool
opening_by ops None = false
opening_by ops (Some o) = not (list_any (had_ended o.starts) ops)

-- and the opening, if no write had ended when it began
abbrev pub sees_opening : List (Op ℕ) → ℕ → Bool
sees_opening ops place = opening_by ops (slice_get ops place)

-- so many of them are told
abbrev pub most_seen : ℕ
most_seen = 8
