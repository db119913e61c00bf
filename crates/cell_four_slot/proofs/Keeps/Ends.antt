-- What the last state shows of a seat with both lists: all answers settled, all intervals, and what the reader knows.
use Rattle.std.proofs.Common.{◌≡◌, ℕ, zero, suc, List, [], ◌∷◌, ◌++◌, take, sym, refl, ap, subst, ◌≤◌}
use Rattle.atomic_table.specs.Table.{State, Me, Final, Seen}
use Rattle.four_slot_core.specs.declared.state.Stage.{Stage}
use Rattle.four_slot_core.specs.declared.state.ReaderStage.{ReaderStage}
use Rattle.four_slot_core.specs.Invariant.{latest_slot}
use Rattle.cell_contract.specs.Running.{Settled}
use Rattle.cell_contract.specs.Intervals.{AreFirst}
use Rattle.cell_four_slot.specs.declared.notes.WriterNotes.{WriterNotes}
use Rattle.cell_four_slot.specs.declared.notes.ReaderNotes.{ReaderNotes}
use Rattle.cell_four_slot.specs.Steps.{FourSlotSight}
use Rattle.cell_contract.specs.declared.sight.Sight.TheVariants.{Both}
use Rattle.cell_four_slot.specs.Rule.{number_in, named_slot, IsTimed, Sees, FourSlotRule}
use Rattle.cell_contract.proofs.ListLaws.{settled_more}

module _ {T : Type 0} where
  take_rest : (n : ℕ) (ws : List T) → (more : List T) × (ws ≡ take n ws ++ more)
  take_rest zero ws = (ws, refl)
  take_rest (suc n) [] = ([], refl)
  take_rest (suc n) (w ∷ ws) = let t = take_rest n ws in (t.0, ap (λ xs. w ∷ xs) t.1)

module _ {T : Type 0} (fits : T → Type 0) (rises : T → T → Type 0) (o : T) where
  abbrev V : Type 0
  V = FourSlotSight T

  abbrev St : Type 0
  St = State T V

  abbrev M : Type 0
  M = Me T V

  abbrev Rule : St → Type 0
  Rule = FourSlotRule fits rises o

  abbrev shown_number : {s : St} → Rule s → ℕ
  shown_number r = number_in r.put.slots (latest_slot r.core)

  abbrev RuleAt : ℕ → St → Type 0
  RuleAt t s = (r : Rule s) × (r.now ≤ t)

  abbrev pair_number : {s : St} → Rule s → ℕ
  pair_number r = number_in r.put.slots (named_slot r.core r.core.read.pair)

  -- what the last state shows of a seat with both lists
  pub told_at_end : (id : ℕ) (v : V) (p : WriterNotes T) (g : ReaderNotes T) (ws : List ℕ) (xs : List T) → v ≡ Both p g →
      Final (Seen Rule id v) ws xs → Settled (o ∷ p.written) g.answers
  told_at_end id v p g ws xs e f =
      let r = f.1.0 in
      let k = r.each_seat id v f.1.1 in
      let h = subst (Sees o r.put r.get (shown_number r) r.now r.writer r.reader id) e k in
      let t = take_rest (shown_number r) r.put.written in
      let whole : Settled (o ∷ r.put.written) r.get.answers = subst (λ (zs : List T). Settled (o ∷ zs) r.get.answers) (sym t.1)
      (settled_more (o ∷ take (shown_number r) r.put.written) t.0 r.get.answers r.settled.to_latest.0) in
      subst (λ (z : WriterNotes T × ReaderNotes T). Settled (o ∷ z.0.written) z.1.answers) (λ i. (sym h.0 i, sym h.1 i)) whole

  -- and of the intervals of all calls
  pub timed_at_end : (id : ℕ) (v : V) (p : WriterNotes T) (g : ReaderNotes T) (ws : List ℕ) (xs : List T) → v ≡ Both p g →
      Final (Seen Rule id v) ws xs → (now : ℕ) × (shown : ℕ) × (pair : ℕ) × IsTimed o p g now p.stage g.stage shown pair
  timed_at_end id v p g ws xs e f =
      let r = f.1.0 in
      let k = r.each_seat id v f.1.1 in
      let h = subst (Sees o r.put r.get (shown_number r) r.now r.writer r.reader id) e k in
      let staged : IsTimed o r.put r.get r.now r.put.stage r.get.stage (shown_number r) (pair_number r) =
      subst (λ (z : Stage × ReaderStage). IsTimed o r.put r.get r.now z.0 z.1 (shown_number r) (pair_number r))
      (λ i. (r.in_views.writer_at i, r.in_views.reader_at i)) r.timed in (
        r.now,
        shown_number r,
        pair_number r,
        subst (λ (z : WriterNotes T × ReaderNotes T).
            IsTimed o z.0 z.1 r.now z.0.stage z.1.stage (shown_number r) (pair_number r)) (λ i. (sym h.0 i, sym h.1 i)) staged,
      )

  -- and of what the reader knows
  pub known_at_end : (id : ℕ) (v : V) (p : WriterNotes T) (g : ReaderNotes T) (ws : List ℕ) (xs : List T) → v ≡ Both p g →
      Final (Seen Rule id v) ws xs → AreFirst g.known p.written p.times
  known_at_end id v p g ws xs e f =
      let r = f.1.0 in
      let k = r.each_seat id v f.1.1 in
      let h = subst (Sees o r.put r.get (shown_number r) r.now r.writer r.reader id) e k in
      subst (λ (z : WriterNotes T × ReaderNotes T). AreFirst z.1.known z.0.written z.0.times) (λ i. (sym h.0 i, sym h.1 i)) r.known
