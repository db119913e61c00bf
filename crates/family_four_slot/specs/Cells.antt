-- A four-slot cell of a family: at the start two processes have its notes; a process at rest
-- tells a receipt and learns one.
use Rattle.std.proofs.Common.{◌≡◌, ℕ, ◌≤◌, Bool, true, false, nat_eq, cond, List, [], ◌∷◌, ◌++◌, set}
use Rattle.std.proofs.Common.{refl, sym, subst, arith, le_trans, ⊎_elim}
use Rattle.std.proofs.lemmas.Bool.Decides.{nat_tests}
use mathlib.Core.Option.{some}
use lib.ListN.{get_elem?}
use Rattle.atomic_table.specs.Table.{State}
use Rattle.atomic_table.proofs.Lists.{at_snoc, set_again}
use Rattle.cell_contract.specs.declared.sight.Sight.TheVariants.{Spent, Told, Writer, Reader, Both}
use Rattle.cell_four_slot.specs.Rule.{Sees}
use Rattle.cell_four_slot.specs.Steps.{FourSlotSight, first_writer, first_reader, receipt_for, hears_of}
use Rattle.family_table.specs.Family.{CellTells, CellHears}
use Rattle.family_four_slot.specs.FourSlots.{CellRule, Idle, first_part}
use Rattle.family_table.specs.Places.{writer_of, reader_of}
use Rattle.cell_four_slot.proofs.Keeps.{shown_number, reseated_at, tells_at, hears_at, parted_at}

module _ {T : Type 0} (fits : T → Type 0) (rises : T → T → Type 0) (o : T) where
  abbrev V : Type 0
  V = FourSlotSight T

  abbrev Rule : ℕ → State T V → Type 0
  Rule = CellRule fits rises o

  -- what is so up to a time is so up to a later one
  pub cell_later : (now t : ℕ) (s : State T V) → now ≤ t → Rule now s → Rule t s
  cell_later now t s l r = (r.0, le_trans r.1 l)

  -- no view changes
  stays : (now : ℕ) (s : State T V) (r : Rule now s) (id : ℕ) (v : V) → get_elem? s.views id ≡ some v →
      Rule now (record { words = s.words; homes = s.homes; views = set s.views id v })
  stays now s r id v at = subst (λ vs. Rule now (record { words = s.words; homes = s.homes; views = vs }))
      (sym (set_again s.views id v at)) r

  -- a view that knows nothing comes
  one_more : (now : ℕ) (s : State T V) (r : Rule now s) →
      Rule now (record { words = s.words; homes = s.homes; views = s.views ++ Spent ∷ [] })
  one_more now s r = reseated_at fits rises o now s r r.0.writer r.0.reader (s.views ++ Spent ∷ []) (λ j v e. ⊎_elim
      (λ (h : get_elem? s.views j ≡ some v). r.0.each_seat j v h)
      (λ (h : Spent ≡ v).
      subst (Sees o r.0.put r.0.get (shown_number fits rises o r.0) r.0.now r.0.writer r.0.reader j) h tt)
      (at_snoc s.views Spent v j e))

  pub cell_tells : CellTells Rule Idle receipt_for
  cell_tells now s id Spent r at idle = one_more now s r
  cell_tells now s id (Told x) r at idle = one_more now s r
  cell_tells now s id (Reader g) r at idle = one_more now s r
  cell_tells now s id (Both p g) r at idle = one_more now s r
  cell_tells now s id (Writer p) r at idle = tells_at fits rises o now s r id p idle at

  pub cell_hears : CellHears Rule Idle hears_of
  cell_hears now s id other (Reader g) (Told x) r at there ne idle =
      hears_at fits rises o now s r id other g x idle at there ne
  cell_hears now s id other (Reader g) Spent r at there ne idle = stays now s r id (Reader g) at
  cell_hears now s id other (Reader g) (Writer p) r at there ne idle = stays now s r id (Reader g) at
  cell_hears now s id other (Reader g) (Reader h) r at there ne idle = stays now s r id (Reader g) at
  cell_hears now s id other (Reader g) (Both p h) r at there ne idle = stays now s r id (Reader g) at
  cell_hears now s id other Spent w r at there ne idle = stays now s r id Spent at
  cell_hears now s id other (Told x) w r at there ne idle = stays now s r id (Told x) at
  cell_hears now s id other (Writer p) w r at there ne idle = stays now s r id (Writer p) at
  cell_hears now s id other (Both p g) w r at there ne idle = stays now s r id (Both p g) at

  -- the cell k at the start, whose writer and reader are two of n processes
  pub cell_starts : (n k : ℕ) (vs : List V) → fits o →
      ((j : ℕ) (v : V) → get_elem? vs j ≡ some v → v ≡ first_part o n j k) →
      Rule 0 (record { words = 0 ∷ 0 ∷ 0 ∷ 0 ∷ []; homes = some o ∷ some o ∷ some o ∷ some o ∷ []; views = vs })
  cell_starts n k vs f first =
      parted_at fits rises o f (writer_of n k) (reader_of n k) vs
      (λ j v e. subst (Sees o (first_writer o) (first_reader o) 0 0 (writer_of n k) (reader_of n k) j)
      (sym (first j v e)) (seen j (writer_of n k) (reader_of n k))) where
        same_if : (a b : ℕ) → nat_eq a b ≡ true → a ≡ b
        same_if a b h = grind (arith, nat_tests)

        reads : (j w g : ℕ) (b : Bool) → nat_eq j g ≡ b →
            Sees o (first_writer o) (first_reader o) 0 0 w g j (cond b (Reader (first_reader o)) Spent)
        reads j w g true h = (refl, same_if j g h)
        reads j w g false h = tt

        writes : (j w g : ℕ) (b : Bool) → nat_eq j w ≡ b →
            Sees o (first_writer o) (first_reader o) 0 0 w g j
            (cond b (Writer (first_writer o)) (cond (nat_eq j g) (Reader (first_reader o)) Spent))
        writes j w g true h = (refl, same_if j w h)
        writes j w g false h = reads j w g (nat_eq j g) refl

        seen : (j w g : ℕ) →
            Sees o (first_writer o) (first_reader o) 0 0 w g j
            (cond (nat_eq j w) (Writer (first_writer o)) (cond (nat_eq j g) (Reader (first_reader o)) Spent))
        seen j w g = writes j w g (nat_eq j w) refl

module _ {T : Type 0} where
  -- what knows nothing tells nothing, and hears nothing
  pub deaf : (v : FourSlotSight T) → hears_of v Spent ≡ v
  deaf Spent = refl
  deaf (Told x) = refl
  deaf (Writer p) = refl
  deaf (Reader g) = refl
  deaf (Both p g) = refl

  pub mute : (w : FourSlotSight T) → hears_of Spent w ≡ Spent
  mute w = refl
