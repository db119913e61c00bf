-- What lies in the slot is what a write of it adds.
use Rattle.std.proofs.Common.{◌≡◌, ℕ, ◌+◌, [], ◌∷◌, ◌++◌, refl, sym, subst, ◌∙◌, ap}
use Rattle.cell_triple.specs.Words.{written_by}
use Rattle.c_registers.specs.Handles.{Holding}
use Rattle.c_registers.specs.Numbers.{numbered}
use Rattle.c_registers.specs.TripleCalls.{HasPublished, writer_with}
use Rattle.c_registers.specs.declared.triple.TripleWriter.{TripleWriter}
use Rattle.theorem_uses.proofs.Handed as handed
use Rattle.theorem_uses.specs.Lent.{FillingsShow, NextShows, PublishesShow}

pub next : {W : Type 0} → NextShows W
next p q w h = (
  h.next,
  h.by.same,
  h.by.written ∙ ap (λ z. written_by p.room.inner.put ++ numbered z w ∷ []) h.next,
  h.by.accesses,
  h.by.timed,
)

pub publishes : {D W : Type 0} → PublishesShow D W
publishes code writes last h k = (
  handed.done code writes last (λ p q (_ : Unit {0}). HasPublished p q) h k tt 0 refl,
  handed.ended code writes last (λ p q (_ : Unit {0}). HasPublished p q) h k tt 3 refl,
  handed.at_limit code writes last (λ p q (_ : Unit {0}). HasPublished p q) h k tt 4 refl,
  handed.other code writes last (λ p q (_ : Unit {0}). HasPublished p q) h k tt 5 refl,
  handed.cut_off code writes last (λ p q (_ : Unit {0}). HasPublished p q) h k tt 12 refl,
)

pub fillings : {D W : Type 0} → FillingsShow D W
fillings {D} {W} code writes last h k l w one filled published =
    let made = (publishes code writes last k l).0 published in
    let p : TripleWriter W = filled.0 in
    let q : TripleWriter W = made.1 in
    let same : made.0 ≡ writer_with p w = one made.0 (writer_with p w) (sym made.3 ∙ filled.2.1) in
    let wrote : HasPublished (writer_with p w) q = subst (λ z. HasPublished z q) same made.6 in
    let shown = next (writer_with p w) q w wrote in
    (p, q, filled.1.0, filled.1.1, filled.2.0 ∙ sym filled.1.0, made.5, shown.1, shown.0, shown.2)
