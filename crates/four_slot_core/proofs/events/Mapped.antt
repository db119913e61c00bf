-- A cell whose records are seen through a function makes the same events: no event but W3 looks at a record, by cases on the
-- stage.
use Rattle.std.proofs.Common.{◌≡◌, Bool, true, false, refl, ◌∙◌, ap}
use Rattle.std.specs.Prelude.{if◌then◌else◌}
use Rattle.four_slot_core.specs.declared.state.Sides.{Sides}
use Rattle.four_slot_core.specs.declared.state.State.{State}
use Rattle.four_slot_core.specs.declared.state.Stage.{Stage}
use Rattle.four_slot_core.specs.declared.state.Stage.TheVariants.{W1, W2, W3, W4, W5}
use Rattle.four_slot_core.specs.declared.state.ReaderStage.{ReaderStage}
use Rattle.four_slot_core.specs.declared.state.ReaderStage.TheVariants.{R1, R2, R3, R4, R5}
use Rattle.four_slot_core.specs.Events.{side, with_side, record_in, after_write, after_read, answer}

abbrev pub map_records : {A B : Type 0} → (A → B) → Sides (Sides A) → Sides (Sides B)
map_records f s = record {
  zero = record { zero = f s.zero.zero; one = f s.zero.one };
  one = record { zero = f s.one.zero; one = f s.one.one };
}

abbrev pub map_state : {A B : Type 0} → (A → B) → State A → State B
map_state f s =
    record {
      noise = f s.noise;
      latest = s.latest;
      reading = s.reading;
      slot = s.slot;
      records = map_records f s.records;
      writer = s.writer;
      write = s.write;
      item = f s.item;
      remembered = s.remembered;
      reader = s.reader;
      read = s.read;
      chosen = s.chosen;
      met = s.met;
    }

record_mapped : {A B : Type 0} (f : A → B) (s : Sides (Sides A)) (a b : Bool) → side (side (map_records f s) a) b ≡ f (side (side s a) b)
record_mapped f s true true = refl
record_mapped f s true false = refl
record_mapped f s false true = refl
record_mapped f s false false = refl

with_mapped : {A B : Type 0} (f : A → B) (s : Sides (Sides A)) (a b : Bool) (x : A) →
    with_side (map_records f s) a (with_side (side (map_records f s) a) b (f x)) ≡ map_records f (with_side s a (with_side (side s a) b x))
with_mapped f s true true x = refl
with_mapped f s true false x = refl
with_mapped f s false true x = refl
with_mapped f s false false x = refl

pub write_mapped : {A B : Type 0} (f : A → B) (w : Stage) (x : A) (s : State A) →
    after_write w (f x) (map_state f s) ≡ map_state f (after_write w x s)
write_mapped f W1 x s = refl
write_mapped f W2 x s =
    ap (λ r. record (map_state f s) { writer = W3; records = r }) (with_mapped f s.records s.write.pair s.write.index s.item)
write_mapped f W3 x s = refl
write_mapped f W4 x s = refl
write_mapped f W5 x s = refl

pub read_mapped : {A B : Type 0} (f : A → B) (r : ReaderStage) (s : State A) → after_read r (map_state f s) ≡ map_state f (after_read r s)
read_mapped f R1 s = refl
read_mapped f R2 s = refl
read_mapped f R3 s = refl
read_mapped f R4 s = refl
read_mapped f R5 s = refl

pub answer_mapped : {A B : Type 0} (f : A → B) (s : State A) → answer (map_state f s) ≡ f (answer s)
answer_mapped f s =
    ap (λ r. if s.met then f s.noise else r) (record_mapped f s.records s.read.pair s.read.index)
    ∙ if_mapped s.met s.noise (record_in s.records s.read)
  where
    if_mapped : (b : Bool) (x y : _) → (if b then f x else f y) ≡ f (if b then x else y)
    if_mapped true x y = refl
    if_mapped false x y = refl
