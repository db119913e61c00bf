-- What a played cell's order and its slots say: by cases on what stands at a place, and on the only writes of a slot.
use Rattle.std.proofs.Common.{◌≡◌, ◌≢◌, ◌⊎◌, ℕ, ◌+◌, ◌<◌, ◌≤◌, zero, suc, List, [], ◌∷◌, slice_get, Option, None, Some, IsSome, true, false}
use Rattle.std.proofs.Common.{refl, sym, ◌∙◌, ap, subst, inl, inr, arith}
use Rattle.std.proofs.lemmas.Option.{none-some, same_Some}
use Rattle.history_core.specs.declared.history.Kind.{Kind}
use Rattle.history_core.specs.declared.history.Kind.TheVariants.{Write, Read, Refused}
use Rattle.four_slot_core.specs.Accesses.{Accesses, IsSource}
use Rattle.four_slot_core.specs.SafeSlots.{EndsBefore, IsLastRecord, IsSafe, Meets, SlotRead, SlotWrite}
use Rattle.four_slot_core.specs.declared.state.Slot.{Slot}
use Rattle.four_slot_play.specs.CellReports.{reader_in, writer_in}
use Rattle.four_slot_play.specs.ReportOrders.{ComesFirst, HasNumber, IsListed, IsStoredWrite}
use Rattle.theorem_uses.specs.Mechanisms.{CellNumbersShow, CellOrdersShow, FinishedReadsShow, OwnNumbersShow, PlacesShow, RunOfCellShows}
use Rattle.theorem_uses.specs.Mechanisms.{SafeSlotsShow, SlotAccessesShow}

read_or_write : Read ≡ Write → ⊥
read_or_write e = cc

apart : false ≡ true → ⊥
apart e = cc

no_end : (o : Option ℕ) → o ≡ None → IsSome o → ⊥
no_end None e h = apart h
no_end (Some x) e h = none-some x (sym e)

some_of : {A : Type 0} (o : Option A) → IsSome o → (x : A) × (o ≡ Some x)
some_of None h = absurd (apart h)
some_of (Some x) h = (x, refl)

written : (writer reader : Accesses) (kind : Kind) (begin k : ℕ) → kind ≡ Write → writer.at k 0 ≡ Some begin →
    HasNumber writer reader kind begin (k + 1)
written writer reader kind begin k e at = subst (λ z. HasNumber writer reader z begin (k + 1)) (sym e) (k, at, refl)

answered : (writer reader : Accesses) (kind : Kind) (begin m n : ℕ) → kind ≡ Read → reader.at m 0 ≡ Some begin →
    IsSource writer reader m n → HasNumber writer reader kind begin n
answered writer reader kind begin m n e at source = subst (λ z. HasNumber writer reader z begin n) (sym e) (m, at, source)

pub own_numbers : OwnNumbersShow
own_numbers writer reader begin n = (λ h. h, λ h. h, λ h. h)

module _ {R : Type 0} where
  pub of_run : RunOfCellShows R
  of_run s r k m p op h = (
    h.run.each_slot,
    h.run.write_slots k,
    h.run.read_slots m,
    λ at. (h.run.unrefused p op at, λ who begins. h.run.answers p m op at who begins),
  )

  pub finished : FinishedReadsShow R
  finished s r m h ended =
      let f = h.fresh m ended in (
        f.0,
        record {
          last = λ k same before. f.1.source.above k (same, before);
          slot = λ k e. (f.1.source.filled k e).0;
          before = λ k e. (f.1.source.filled k e).1;
        },
        f.1.read_of.late,
        f.1.reads,
        f.1.read_of.begun,
      )

  pub orders : CellOrdersShow R
  orders s r i p k op h at = (
    h.order.places i p,
    λ ended. h.order.listed p op at (inl ended),
    λ unended other. h.order.left_out p op at (λ l. elim l [ inl ended ↦ no_end op.ends unended ended | inr w ↦ other w.0 ]),
    λ kind begins stored. h.order.listed p op at (inr (kind, (k, begins, stored))),
    λ unended unstored. h.order.left_out p op at (λ l. elim l [
      | inl ended ↦ no_end op.ends unended ended
      | inr w ↦ no_end ((writer_in s r).at w.1.0 3) (unstored w.1.0 w.1.1) w.1.2
    ]),
  )

  pub numbers : CellNumbersShow R
  numbers s r i j p q a b h at_a at_b less =
      let w = writer_in s r in
      let g = reader_in s r in (
        λ k l write_a write_b begins_a begins_b.
            elim (h.order.sorted i j p q (k + 1) (l + 1) a b at_a at_b less (written w g a.kind a.starts k write_a begins_a)
            (written w g b.kind b.starts l write_b begins_b)) [
              | inl below ↦ omega (arith, below)
              | inr same ↦ absurd (read_or_write (sym same.1.0 ∙ write_b))
            ],
        λ m k read_a write_b begins_a begins_b source.
            elim (h.order.sorted i j p q (k + 1) (k + 1) a b at_a at_b less (answered w g a.kind a.starts m (k + 1) read_a begins_a source)
            (written w g b.kind b.starts k write_b begins_b)) [
              | inl below ↦ omega (arith, below)
              | inr same ↦ read_or_write (sym same.1.0 ∙ write_b)
            ],
        λ l m n read_a read_b begins_a begins_b source_a source_b.
            elim (h.order.sorted i j p q n n a b at_a at_b less (answered w g a.kind a.starts l n read_a begins_a source_a)
            (answered w g b.kind b.starts m n read_b begins_b source_b)) [
              | inl below ↦ absurd (omega (arith, below))
              | inr same ↦ elim same.1.1 [ inl write ↦ absurd (read_or_write (sym read_a ∙ write)) | inr by ↦ by.1 ]
            ],
      )

  pub stood : PlacesShow R
  stood ops order i p op h = h

  pub accesses : SlotAccessesShow R
  accesses opening noise items t h = (
    h.writes,
    λ k begun.
        let w = some_of (slice_get h.writes k) (h.all k begun) in
        let of = h.each k w.0 w.1 in (w.0, w.1, of.slot, of.begins, of.ends, of.item),
    λ m answer at.
        let r = h.safe m answer at in
        (r.0, r.1.slot, r.1.begins, r.1.ends, same_Some r.0.answer answer (sym r.1.answer ∙ at), r.2),
  )

  -- the only write of the slots
  only : (w v : SlotWrite R) (i : ℕ) → slice_get (w ∷ []) i ≡ Some v → v ≡ w
  only w v zero e = sym (same_Some w v e)
  only w v (suc i) e = absurd (none-some v e)

  module _ (first : Slot → R) (noise : R) (w : SlotWrite R) (r : SlotRead R) where
    -- it meets no read, and had not ended before
    opened : IsSafe first noise (w ∷ []) r → ¬ Meets w r → ¬ EndsBefore w r.slot r.begins → r.answer ≡ first r.slot
    opened h apart standing =
        elim (h.quiet (λ i v at meets. apart (subst (λ z. Meets z r) (only w v i at) meets))) [
          | inl none ↦ none.1
          | inr some ↦ absurd (standing (subst (λ z. EndsBefore z r.slot r.begins) (only w some.1 some.0 some.2) some.3))
        ]

    -- it meets no read, and had ended before
    ended : IsSafe first noise (w ∷ []) r → ¬ Meets w r → EndsBefore w r.slot r.begins → r.answer ≡ w.item
    ended h apart before =
        elim (h.quiet (λ i v at meets. apart (subst (λ z. Meets z r) (only w v i at) meets))) [
          | inl none ↦ absurd (none.0 0 w refl before)
          | inr some ↦ some.5 ∙ ap (λ (z : SlotWrite R). z.item) (only w some.1 some.0 some.2)
        ]

  -- of two writes that had ended in a slot the read has the second one's
  module _ (first : Slot → R) (noise : R) (w v : SlotWrite R) (r : SlotRead R) where
    later : IsSafe first noise (w ∷ v ∷ []) r → ¬ Meets w r → ¬ Meets v r → EndsBefore v r.slot r.begins → r.answer ≡ v.item
    later h apart_w apart_v before = elim (h.quiet none_meets) [ inl none ↦ absurd (none.0 1 v refl before) | inr some ↦ last some ]
      where
        none_meets : (i : ℕ) (u : SlotWrite R) → slice_get (w ∷ v ∷ []) i ≡ Some u → ¬ Meets u r
        none_meets zero u e meets = apart_w (subst (λ z. Meets z r) (sym (same_Some w u e)) meets)
        none_meets (suc zero) u e meets = apart_v (subst (λ z. Meets z r) (sym (same_Some v u e)) meets)
        none_meets (suc (suc i)) u e meets = none-some u e

        last : ((i : ℕ) × (u : SlotWrite R) × (slice_get (w ∷ v ∷ []) i ≡ Some u) × EndsBefore u r.slot r.begins
            × ((j : ℕ) (u' : SlotWrite R) → i < j → slice_get (w ∷ v ∷ []) j ≡ Some u' → ¬ EndsBefore u' r.slot r.begins)
            × (r.answer ≡ u.item)) → r.answer ≡ v.item
        last (zero, u, at, ends, none, is) = absurd (none 1 v (omega arith) refl before)
        last (suc zero, u, at, ends, none, is) = is ∙ ap (λ (z : SlotWrite R). z.item) (sym (same_Some v u at))
        last (suc (suc i), u, at, ends, none, is) = absurd (none-some u at)

  pub safe_slots : SafeSlotsShow R
  safe_slots first noise x y answer a b begin end from to = (
    λ h early. h.noisy 0 _ refl (refl, early, λ e is. absurd (none-some e is)),
    λ h late. opened first noise _ _ h (λ meets. omega (arith, meets.1, late)) (λ before. none-some before.1 before.2),
    λ h late standing. opened first noise _ _ h (λ meets. omega (arith, meets.1, late))
        (λ before. let same = same_Some end before.1 before.2 in let less = before.3 in omega (arith, same, less, standing)),
    λ h before. ended first noise _ _ h (λ meets. let late = meets.2 end refl in omega (arith, late, before)) (refl, end, refl, before),
    λ h other. opened first noise _ _ h (λ meets. other meets.0) (λ before. other before.0),
    λ h before. later first noise _ _ _ h (λ meets. let late = meets.2 end refl in omega (arith, late, before))
        (λ meets. let late = meets.2 end refl in omega (arith, late, before)) (refl, end, refl, before),
  )
