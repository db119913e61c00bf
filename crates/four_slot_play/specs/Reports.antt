-- The report of a cell as accesses, positions being the schedule's and slots the report's; and what it has of the run
-- (this project's own).
use Rattle.std.specs.Prelude.{◌≡◌, ◌≢◌, ℕ, List, [], ◌∷◌, length, slice_get, Option, None, Some, IsSome, nat_eq}
use Rattle.std.specs.Prelude.{if◌then◌else◌}
use Rattle.std.specs.Option.{option_and_then}
use Rattle.history_core.specs.declared.history.Op.{Op}
use Rattle.history_core.specs.declared.history.Kind.TheVariants.{Refused}
use Rattle.history_core.specs.Schedules.{Span, access_at}
use Rattle.four_slot_core.specs.Accesses.{Accesses, IsFreshRead, IsSource}
use Rattle.four_slot_core.specs.Play.{item_of}
use Rattle.four_slot_core.specs.Traces.{Trace, source_record}

-- the slot that a report gives the operation with this beginning
abbrev pub slot_from : {R : Type 0} → ℕ → List (Op R) → List (Option ℕ) → Option ℕ
slot_from begin [] slots = None
slot_from begin (op ∷ ops) [] = None
slot_from begin (op ∷ ops) (slot ∷ slots) = if nat_eq op.starts begin then slot else slot_from begin ops slots

-- an actor's operations as accesses of the cell
abbrev pub accesses_of : {R : Type 0} → Span R → List (Op R) → List (Option ℕ) → ℕ → Accesses
accesses_of span ops slots who =
    record {
      at = access_at 0 span who;
      slot = λ k. option_and_then (λ begin. slot_from begin ops slots) (access_at 0 span who k 0);
    }

abbrev pub writer_of : {R : Type 0} → Span R → List (Op R) → List (Option ℕ) → Accesses
writer_of span ops slots = accesses_of span ops slots 0

abbrev pub reader_of : {R : Type 0} → Span R → List (Op R) → List (Option ℕ) → Accesses
reader_of span ops slots = accesses_of span ops slots 1

-- the slots and the answers are the run's, and no operation of a cell is refused
pub record IsOfRun {R : Type 0} (span : Span R) (run : Trace R) (ops : List (Op R))
    (slots : List (Option ℕ)) : Type 0 where
  pub each_slot : length slots ≡ length ops
  pub write_slots : (k : ℕ) → (writer_of span ops slots).slot k ≡ slice_get run.write_slots k
  pub read_slots : (m : ℕ) → (reader_of span ops slots).slot m ≡ slice_get run.read_slots m
  pub unrefused : (p : ℕ) (op : Op R) → slice_get ops p ≡ Some op → op.kind ≢ Refused
  pub answers : (p m : ℕ) (op : Op R) → slice_get ops p ≡ Some op → op.who ≡ 1 →
      access_at 0 span 1 m 0 ≡ Some op.starts →
      op.item ≡ slice_get run.answers m

-- fresh: each finished read is
abbrev pub IsFreshReport : Accesses → Accesses → Type 0
IsFreshReport writer reader = (m : ℕ) → IsSome (reader.at m 4) → (n : ℕ) × IsFreshRead writer reader m n

-- a finished read answers the record of its source: the opening, or that write's
abbrev pub AnswersSources : {R : Type 0} → Accesses → Accesses → R → List R → List (Op R) → Type 0
AnswersSources {R} writer reader opening writes ops =
    (p m n : ℕ) (op : Op R) → slice_get ops p ≡ Some op → op.who ≡ 1 → reader.at m 0 ≡ Some op.starts → IsSome op.ends →
    IsSource writer reader m n → op.item ≡ Some (source_record opening (item_of opening writes) n)
