-- The events of the four-slot cell, as functions of its state (H. Simpson, Four-slot fully asynchronous communication
-- mechanism, IEE Proceedings E, 1990). The writer remembers the two slot bits and doesn't load them. Slots are safe
-- registers (L. Lamport, On Interprocess Communication, Parts I and II, Distributed Computing 1, 1986): a slot read
-- that meets a write of its slot gives the noise.
use Rattle.std.specs.Prelude.{◌≡◌, ℕ, ◌+◌, ◌*◌, Bool, true, false, not, ◌&&◌, ◌||◌, None, Some, [], ◌∷◌, if◌then◌else◌}
use Rattle.four_slot_core.specs.declared.state.Sides.{Sides}
use Rattle.four_slot_core.specs.declared.state.Slot.{Slot}
use Rattle.four_slot_core.specs.declared.state.State.{State}
use Rattle.four_slot_core.specs.declared.state.Bits.{Bits}
use Rattle.four_slot_core.specs.declared.state.InSlot.{InSlot}
use Rattle.four_slot_core.specs.declared.state.Stage.{Stage}
use Rattle.four_slot_core.specs.declared.state.Stage.TheVariants.{W1, W2, W3, W4, W5}
use Rattle.four_slot_core.specs.declared.state.ReaderStage.{ReaderStage}
use Rattle.four_slot_core.specs.declared.state.ReaderStage.TheVariants as reader
use Rattle.four_slot_core.specs.declared.state.ReadStage.{ReadStage}
use Rattle.four_slot_core.specs.declared.state.ReadStage.TheVariants.{R1, R2, R3, R4, R5}

abbrev pub side : {X : Type 0} → Sides X → Bool → X
side s true = s.one
side s false = s.zero

abbrev pub with_side : {X : Type 0} → Sides X → Bool → X → Sides X
with_side s true x = record s { one = x }
with_side s false x = record s { zero = x }

abbrev pub record_in : {R : Type 0} → Sides (Sides R) → Slot → R
record_in s p = side (side s p.pair) p.index

abbrev pub with_record : {R : Type 0} → Sides (Sides R) → Slot → R → Sides (Sides R)
with_record s p x = with_side s p.pair (with_side (side s p.pair) p.index x)

abbrev pub same_bit : Bool → Bool → Bool
same_bit true b = b
same_bit false b = not b

abbrev pub same_slot : Slot → Slot → Bool
same_slot p q = same_bit p.pair q.pair && same_bit p.index q.index

abbrev pub slot_with : Bool → Bool → Slot
slot_with pair index = record { pair = pair; index = index }

-- whether the writer is in its slot, from W2 to W3, and the reader in its, from R4 to R5
abbrev pub is_writing : Stage → Bool
is_writing W2 = true
is_writing _ = false

abbrev pub is_reading : ReaderStage → Bool
is_reading reader.R4 = true
is_reading _ = false

-- the event that follows
abbrev pub next_write : Stage → Stage
next_write W1 = W2
next_write W2 = W3
next_write W3 = W4
next_write W4 = W5
next_write W5 = W1

-- the state after this event of the writer
abbrev pub makes_write : {R : Type 0} → Stage → R → State R → State R
-- W1: load reading; take its opposite as pair, and the opposite of the pair's remembered bit as index
makes_write W1 x s =
    record s { writer = W1; write = slot_with (not s.reading) (not (side s.remembered (not s.reading))); item = x }
-- W2: the slot write begins
makes_write W2 x s = record s { writer = W2; met = s.met || (is_reading s.reader && same_slot s.write s.read) }
-- W3: it ends
makes_write W3 x s = record s { writer = W3; records = with_record s.records s.write s.item }
-- W4: store the index
makes_write W4 x s =
    record s {
      writer = W4;
      slot = with_side s.slot s.write.pair s.write.index;
      remembered = with_side s.remembered s.write.pair s.write.index;
    }
-- W5: store the pair
makes_write W5 x s = record s { writer = W5; latest = s.write.pair }

-- and after the event that follows this one
abbrev pub after_write : {R : Type 0} → Stage → R → State R → State R
after_write w x s = makes_write (next_write w) x s

abbrev pub IsWriteEvent : {R : Type 0} → R → State R → Stage → State R → Type 0
IsWriteEvent x old stage new = (stage ≡ next_write old.writer) × (new ≡ after_write old.writer x old)

-- the answer of a slot read that ends in this state
abbrev pub answer : {R : Type 0} → State R → R
answer s = if s.met then s.noise else record_in s.records s.read

-- the event that follows, and what the calls tell of it
abbrev pub next_reader : ReaderStage → ReaderStage
next_reader reader.R1 = reader.R2
next_reader reader.R2 = reader.R3
next_reader reader.R3 = reader.R4
next_reader reader.R4 = reader.R5
next_reader reader.R5 = reader.R1

abbrev pub told_of_read : {R : Type 0} → ReaderStage → State R → ReadStage R
told_of_read reader.R1 s = R1
told_of_read reader.R2 s = R2
told_of_read reader.R3 s = R3
told_of_read reader.R4 s = R4
told_of_read reader.R5 s = R5 (answer s)

abbrev pub next_read : {R : Type 0} → ReaderStage → State R → ReadStage R
next_read r s = told_of_read (next_reader r) s

-- the state after this event of the reader
abbrev pub makes_read : {R : Type 0} → ReaderStage → State R → State R
-- R1: load latest
makes_read reader.R1 s = record s { reader = reader.R1; read = slot_with s.latest s.read.index }
-- R2: store the pair in reading
makes_read reader.R2 s = record s { reader = reader.R2; reading = s.read.pair }
-- R3: load the pair's bit
makes_read reader.R3 s =
    record s {
      reader = reader.R3;
      read = slot_with s.read.pair (side s.slot s.read.pair);
      chosen = Some (slot_with s.read.pair (side s.slot s.read.pair));
    }
-- R4: the slot read begins
makes_read reader.R4 s = record s { reader = reader.R4; met = is_writing s.writer && same_slot s.write s.read }
-- R5: it ends
makes_read reader.R5 s = record s { reader = reader.R5 }

-- and after the event that follows this one
abbrev pub after_read : {R : Type 0} → ReaderStage → State R → State R
after_read r s = makes_read (next_reader r) s

abbrev pub IsReadEvent : {R : Type 0} → State R → ReadStage R → State R → Type 0
IsReadEvent old stage new = (stage ≡ next_read old.reader old) × (new ≡ after_read old.reader old)

abbrev pub both : {X : Type 0} → X → Sides X
both x = record { zero = x; one = x }

-- the state before the first event: all bits are 0, and the opening stands in all four slots
abbrev pub opening_state : {R : Type 0} → R → R → State R
opening_state opening noise =
    record {
      noise = noise;
      latest = false;
      reading = false;
      slot = both false;
      records = both (both opening);
      writer = W5;
      write = slot_with false false;
      item = opening;
      remembered = both false;
      reader = reader.R5;
      read = slot_with false false;
      chosen = None;
      met = false;
    }

-- what the calls tell of a state: the bits, and the number of each slot whose access has begun and not ended
abbrev pub bits_of : {R : Type 0} → State R → Bits
bits_of s = record { latest = s.latest; reading = s.reading; slot = s.slot.zero ∷ s.slot.one ∷ [] }

abbrev pub bit_number : Bool → ℕ
bit_number true = 1
bit_number false = 0

abbrev pub slot_number : Slot → ℕ
slot_number p = 2 * bit_number p.pair + bit_number p.index

abbrev pub in_slot_of : {R : Type 0} → State R → InSlot
in_slot_of s =
    record {
      writer = if is_writing s.writer then Some (slot_number s.write) else None;
      reader = if is_reading s.reader then Some (slot_number s.read) else None;
    }

-- a new cell whose reader stands just after R3 with this slot
abbrev pub reader_state : {R : Type 0} → R → R → Slot → State R
reader_state opening noise p = record (opening_state opening noise) { reader = reader.R3; read = p; chosen = Some p }
