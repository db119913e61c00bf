-- Which of the kept operations a reason names (this project's own).
use Rattle.std.specs.Prelude.{ℕ, ◌+◌, ◌++◌, ◌&&◌, ◌||◌, List, [], ◌∷◌, Bool, false, if◌then◌else◌}
use Rattle.std.specs.Prelude.{nat_eq, slice_get, take, Option, Some, None}
use Rattle.std.specs.List.{list_any}
use Rattle.history_core.specs.declared.history.Op.{Op}
use Rattle.history_core.specs.Orders.{is_write}
use Rattle.history_core.specs.declared.reason.Reason.{Reason}
use Rattle.history_core.specs.declared.reason.Reason.TheVariants.{Unwritten, Early, Stale, Crossed, Limit}
use Rattle.reason_sentences.specs.KeptAt.{is_item, kept_at}
use Rattle.reason_sentences.specs.Seen.{could_see, most_seen}

-- a reason by the kept operations
abbrev pub in_kept : List ℕ → Reason → Reason
in_kept places (Unwritten read) = Unwritten (kept_at places read)
in_kept places (Early read write) = Early (kept_at places read) (kept_at places write)
in_kept places (Stale before read) = Stale (kept_at places before) (kept_at places read)
in_kept places (Crossed a b c d) = Crossed (kept_at places a) (kept_at places b) (kept_at places c) (kept_at places d)
in_kept places (Limit refused) = Limit (kept_at places refused)

-- the places that a reason names
abbrev pub places_of : Reason → List ℕ
places_of (Unwritten read) = read ∷ []
places_of (Early read write) = read ∷ write ∷ []
places_of (Stale before read) = before ∷ read ∷ []
places_of (Crossed a b c d) = a ∷ b ∷ c ∷ d ∷ []
places_of (Limit refused) = refused ∷ []

-- what is shown beside them: where an operation gave a record that nobody wrote, the first writes that it could see
abbrev pub beside : List (Op ℕ) → Reason → List ℕ
beside ops (Unwritten read) = take most_seen (could_see ops read)
beside ops (Early read write) = []
beside ops (Stale before read) = []
beside ops (Crossed a b c d) = []
beside ops (Limit refused) = []

abbrev pub shown_of : List (Op ℕ) → Reason → List ℕ
shown_of ops reason = places_of reason ++ beside ops reason

-- both have a record, and the same
abbrev pub same_item : Option ℕ → Option (Op ℕ) → Bool
same_item None other = false
same_item (Some x) None = false
same_item (Some x) (Some other) = is_item x other.item

-- the write of the record of an operation at one of these places
abbrev pub writes_one_of : List (Op ℕ) → List ℕ → Option (Op ℕ) → Bool
writes_one_of ops places None = false
writes_one_of ops places (Some o) = is_write o.kind && list_any (λ p. same_item o.item (slice_get ops p)) places

-- an operation at one of these places, or the write of its record
abbrev pub is_named : List (Op ℕ) → List ℕ → ℕ → Bool
is_named ops places p = list_any (λ q. nat_eq q p) places || writes_one_of ops places (slice_get ops p)

-- the next kept operation is the one at this place of the log
abbrev pub is_next : List ℕ → ℕ → ℕ → Bool
is_next places next p = is_item p (slice_get places next)

abbrev pub is_named_next : List (Op ℕ) → List ℕ → List ℕ → ℕ → ℕ → Bool
is_named_next ops places named next p = is_next places next p && is_named ops named next

abbrev pub next_of : List ℕ → ℕ → ℕ → ℕ
next_of places next p = if is_next places next p then next + 1 else next
