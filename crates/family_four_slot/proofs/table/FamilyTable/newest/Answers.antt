-- Where `reading` has the pair one load makes R2 and R3; where it has another, the store makes R2, and the load R3 alone.
use Rattle.std.specs.Prelude.{nat_eq, not, true, false}
use Rattle.std.proofs.lemmas.Bool.Decides.{nat_tests}
use Rattle.std.proofs.Common.{◌≡◌, ◌+◌, ℕ, List, ◌∷◌, ◌++◌, arith, refl, sym, ap, ◌∙◌, subst}
use Rattle.four_slot_core.specs.Events.{bit_number, slot_with}
use Rattle.cell_contract.specs.Running.{held_slots}
use Rattle.cell_contract.specs.declared.sight.Sight.TheVariants.{Spent, Reader}
use Rattle.cell_four_slot.specs.Steps.{FourSlotSight, asked_by, said_with, got_by}
use Rattle.cell_four_slot.specs.declared.notes.ReaderNotes.{ReaderNotes}
use Rattle.cell_four_slot.proofs.Slots.{bit_low}
use Rattle.family_table.specs.declared.notes.Process.{Process}
use Rattle.family_table.specs.Family.{of_cell}
use Rattle.family_four_slot.specs.Places.{slot_at}
use Rattle.family_four_slot.specs.Steps.{After, has_asked, has_said}
use Rattle.family_four_slot.specs.Words.{number_chosen}
use Rattle.family_four_slot.proofs.Going.{first_word, half_chosen, is_chosen, pair_low, pair_word, reader_after}
use Rattle.family_four_slot.proofs.Told.{has_one, reads_one}
use Rattle.family_four_slot.proofs.table.FamilyTable.newest.Goals as goal

pub ask-pair-requires-clause-idle : goal.ask-pair-requires-clause-idle
ask-pair-requires-clause-idle g c = let t = c.requires.idle in (t.0, t.1, t.4, t.6, t.8.0)

pub take_on-index-requires-clause-asked : goal.take_on-index-requires-clause-asked
take_on-index-requires-clause-asked g c =
    let t = c.requires.idle in
    let cell : ℕ = c.args.cell in
    let me = c.args.seat.now.inner.me in
    let a = c.ask-pair.ensures.asked cell t.0 t.1 (first_word cell) t.4.process.one t.4.notes in
    let n1 : ReaderNotes g.row.T.Denot = asked_by t.1 a.0 a.1 in
    let asked = reader_after t.0 cell a.1 n1 me.1 c.ask-pair.new.seat.inner.me t.4.process.has a.4 in
    let said = half_chosen _ _ t.1.chosen c.if-pair-last.true t.7 in
    (_, n1, t.2, t.3, asked, a.4.2 ∙ t.5, refl, a.2, said, t.8.1 a.0 a.1 (held_slots me.1) a.4.0)

pub slot_of-slot-requires : goal.slot_of-slot-requires
slot_of-slot-requires g c =
    let t = c.requires.idle in
    let cell : ℕ = c.args.cell in
    let me = c.args.seat.now.inner.me in
    let a = c.ask-pair.ensures.asked cell t.0 t.1 (first_word cell) t.4.process.one t.4.notes in
    let n1 : ReaderNotes g.row.T.Denot = asked_by t.1 a.0 a.1 in
    let r1 = reader_after t.0 cell a.1 n1 me.1 c.ask-pair.new.seat.inner.me t.4.process.has a.4 in
    let e = c.take_on-index.ensures.taken cell (2 + bit_number a.0) (has_asked t.0 cell t.1 a.0 a.1 me.1) n1 (pair_low a.0)
    (pair_word cell c.ask-pair.result a.0 a.2) a.4.1 r1.notes in
    (a.0, e.3, a.2, e.10)

pub returns-then-pair-last-clause-looked : goal.returns-then-pair-last-clause-looked
returns-then-pair-last-clause-looked g c = λ v q reader.
    let cell : ℕ = c.args.cell in
    let me = c.args.seat.now.inner.me in
    let a = c.ask-pair.ensures.asked cell v q (first_word cell) reader.process.one reader.notes in
    let n1 : ReaderNotes g.row.T.Denot = asked_by q a.0 a.1 in
    let v1 : Process (FourSlotSight g.row.T.Denot) = has_asked v cell q a.0 a.1 me.1 in
    let r1 = reader_after v cell a.1 n1 me.1 c.ask-pair.new.seat.inner.me reader.process.has a.4 in
    let e = c.take_on-index.ensures.taken cell (2 + bit_number a.0) v1 n1 (pair_low a.0)
    (pair_word cell c.ask-pair.result a.0 a.2) a.4.1 r1.notes in
    let t = c.requires.idle in
    let same : t.0 ≡ v = has_one t.0 v (sym t.4.process.one ∙ reader.process.one) in
    let also : t.1 ≡ q = reads_one t.1 q
    (sym t.4.notes ∙ (ap (λ (z : Process (FourSlotSight g.row.T.Denot)). of_cell Spent cell z.parts) same ∙ reader.notes)) in
    let chosen : c.args.last ≡ number_chosen q.chosen = t.7 ∙ ap (λ (z : ReaderNotes g.row.T.Denot). number_chosen z.chosen) also in
    let slot = c.slot_of-slot.ensures a.0 e.3 a.2 e.10 in record {
      pair = a.0;
      index = e.3;
      answer = e.4;
      asked = a.1;
      said = e.0;
      took = e.5;
      count = 0;
      number = e.6;
      writes = e.7;
      before = e.1;
      behind = e.2;
      slot_is = slot;
      had = sym a.4.2 ∙ e.8;
      later = (a.4.0, e.9);
      after = subst (λ z. After (has_said v1 cell n1 0 e.0 (e.1 ++ e.2)) cell (Reader (got_by (said_with n1 0 e.0) e.3 e.4 e.5 e.6 e.7)) e.5
          ((slot_at cell z, e.4) ∷ (e.1 ++ e.2)) c.take_on-index.new.seat.inner.me) (sym slot) e.11;
      may = e.12;
      did = e.13;
      heeds = e.14;
      again = λ unmoved. e.15 (is_chosen c.slot_of-slot.result q.chosen (slot_with a.0 e.3)
          (unmoved_is c.slot_of-slot.result c.args.last unmoved ∙ chosen) slot);
    } where
      unmoved_is : (a b : ℕ) → not (nat_eq a b) ≡ false → a ≡ b
      unmoved_is a b e = grind (arith, nat_tests)

pub say-requires-clause-asked : goal.say-requires-clause-asked
say-requires-clause-asked g c =
    let t = c.requires.idle in
    let cell : ℕ = c.args.cell in
    let me = c.args.seat.now.inner.me in
    let a = c.ask-pair.ensures.asked cell t.0 t.1 (first_word cell) t.4.process.one t.4.notes in
    let n1 : ReaderNotes g.row.T.Denot = asked_by t.1 a.0 a.1 in
    let asked = reader_after t.0 cell a.1 n1 me.1 c.ask-pair.new.seat.inner.me t.4.process.has a.4 in
    (_, n1, t.2, t.3, asked, a.4.2 ∙ t.5, refl, a.2, (t.8.1 a.0 a.1 (held_slots me.1) a.4.0).0)

pub take-index-requires-clause-said : goal.take-index-requires-clause-said
take-index-requires-clause-said g c =
    let t = c.requires.idle in
    let cell : ℕ = c.args.cell in
    let me = c.args.seat.now.inner.me in
    let a = c.ask-pair.ensures.asked cell t.0 t.1 (first_word cell) t.4.process.one t.4.notes in
    let n1 : ReaderNotes g.row.T.Denot = asked_by t.1 a.0 a.1 in
    let v1 : Process (FourSlotSight g.row.T.Denot) = has_asked t.0 cell t.1 a.0 a.1 me.1 in
    let r1 = reader_after t.0 cell a.1 n1 me.1 c.ask-pair.new.seat.inner.me t.4.process.has a.4 in
    let b = c.say.ensures.said cell v1 n1 refl a.4.1 r1.notes in
    let r2 = reader_after v1 cell b.2 (said_with n1 1 b.2) (b.0 ++ b.1) c.say.new.seat.inner.me r1.process.has b.5 in
    (_, _, r2, refl, a.2, (t.8.1 a.0 a.1 (held_slots me.1) a.4.0).1 1 b.2 (held_slots (b.0 ++ b.1)) b.5.0)

pub slot_of-requires : goal.slot_of-requires
slot_of-requires g c =
    let t = c.requires.idle in
    let cell : ℕ = c.args.cell in
    let me = c.args.seat.now.inner.me in
    let a = c.ask-pair.ensures.asked cell t.0 t.1 (first_word cell) t.4.process.one t.4.notes in
    let n1 : ReaderNotes g.row.T.Denot = asked_by t.1 a.0 a.1 in
    let v1 : Process (FourSlotSight g.row.T.Denot) = has_asked t.0 cell t.1 a.0 a.1 me.1 in
    let r1 = reader_after t.0 cell a.1 n1 me.1 c.ask-pair.new.seat.inner.me t.4.process.has a.4 in
    let b = c.say.ensures.said cell v1 n1 refl a.4.1 r1.notes in
    let n2 : ReaderNotes g.row.T.Denot = said_with n1 1 b.2 in
    let r2 = reader_after v1 cell b.2 n2 (b.0 ++ b.1) c.say.new.seat.inner.me r1.process.has b.5 in
    let e = c.take-index.ensures.taken cell (2 + bit_number a.0) (has_said v1 cell n1 1 b.2 (b.0 ++ b.1)) n2 (pair_low a.0)
    (pair_word cell c.ask-pair.result a.0 a.2) b.5.1 r2.notes in
    (a.0, e.0, a.2, e.5)

pub returns-clause-looked : goal.returns-clause-looked
returns-clause-looked g c = λ v q reader.
    let cell : ℕ = c.args.cell in
    let me = c.args.seat.now.inner.me in
    let a = c.ask-pair.ensures.asked cell v q (first_word cell) reader.process.one reader.notes in
    let n1 : ReaderNotes g.row.T.Denot = asked_by q a.0 a.1 in
    let v1 : Process (FourSlotSight g.row.T.Denot) = has_asked v cell q a.0 a.1 me.1 in
    let r1 = reader_after v cell a.1 n1 me.1 c.ask-pair.new.seat.inner.me reader.process.has a.4 in
    let b = c.say.ensures.said cell v1 n1 refl a.4.1 r1.notes in
    let n2 : ReaderNotes g.row.T.Denot = said_with n1 1 b.2 in
    let v2 : Process (FourSlotSight g.row.T.Denot) = has_said v1 cell n1 1 b.2 (b.0 ++ b.1) in
    let r2 = reader_after v1 cell b.2 n2 (b.0 ++ b.1) c.say.new.seat.inner.me r1.process.has b.5 in
    let e = c.take-index.ensures.taken cell (2 + bit_number a.0) v2 n2 (pair_low a.0) (pair_word cell c.ask-pair.result a.0 a.2)
    b.5.1 r2.notes in
    let slot = c.slot_of.ensures a.0 e.0 a.2 e.5 in record {
      pair = a.0;
      index = e.0;
      answer = e.1;
      asked = a.1;
      said = b.2;
      took = e.2;
      count = 1;
      number = e.3;
      writes = e.4;
      before = b.0;
      behind = b.1;
      slot_is = slot;
      had = sym a.4.2 ∙ b.3;
      later = (a.4.0, b.5.0);
      after = subst (λ (z : ℕ × List (ℕ × g.row.T.Denot)). After v2 cell (Reader (got_by n2 e.0 e.1 e.2 e.3 e.4)) e.2
          ((slot_at cell z.0, e.1) ∷ z.1) c.take-index.new.seat.inner.me) (λ i. (sym slot i, b.5.2 i)) e.7;
      may = e.8;
      did = e.9;
      heeds = e.10;
      again = λ unmoved. absurd (true_is unmoved);
    } where
      true_is : true ≡ false → ⊥
      true_is e = cc

pub returns-clause-moved : goal.returns-clause-moved
returns-clause-moved g c = λ moved same.
    let t = c.requires.idle in
    let cell : ℕ = c.args.cell in
    let me = c.args.seat.now.inner.me in
    let a = c.ask-pair.ensures.asked cell t.0 t.1 (first_word cell) t.4.process.one t.4.notes in
    let n1 : ReaderNotes g.row.T.Denot = asked_by t.1 a.0 a.1 in
    let v1 : Process (FourSlotSight g.row.T.Denot) = has_asked t.0 cell t.1 a.0 a.1 me.1 in
    let r1 = reader_after t.0 cell a.1 n1 me.1 c.ask-pair.new.seat.inner.me t.4.process.has a.4 in
    let b = c.say.ensures.said cell v1 n1 refl a.4.1 r1.notes in
    let n2 : ReaderNotes g.row.T.Denot = said_with n1 1 b.2 in
    let r2 = reader_after v1 cell b.2 n2 (b.0 ++ b.1) c.say.new.seat.inner.me r1.process.has b.5 in
    let e = c.take-index.ensures.taken cell (2 + bit_number a.0) (has_said v1 cell n1 1 b.2 (b.0 ++ b.1)) n2 (pair_low a.0)
    (pair_word cell c.ask-pair.result a.0 a.2) b.5.1 r2.notes in
    let low = bit_low e.0 in
    let pair = a.2 in
    let slot = c.slot_of.ensures a.0 e.0 a.2 e.5 in
    c.if-pair-last.false (omega (arith, same, slot, pair, low))
