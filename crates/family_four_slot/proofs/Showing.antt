-- A step that ends an access may show all processes as they are behind it.
use Rattle.std.proofs.Common.{◌≡◌, ℕ, List, [], ◌∷◌, refl, sym, subst}
use Rattle.atomic_table.specs.Table.{Me, State, Allows}
use Rattle.cell_contract.specs.Plans.{Doings}
use Rattle.cell_contract.specs.declared.sight.Sight.TheVariants.{Spent}
use Rattle.cell_four_slot.specs.Steps.{FourSlotSight}
use Rattle.family_table.specs.declared.notes.Opened.{Opened}
use Rattle.family_table.specs.declared.notes.View.{View}
use Rattle.family_table.specs.Ends.{AllSoFar, shows_behind}
use Rattle.family_table.proofs.Ends.{showing_ok}
use Rattle.family_four_slot.specs.Ends.{cell_ends}
use Rattle.family_four_slot.specs.FourSlots.{CellRule, FourSlotFamily}
use Rattle.family_four_slot.specs.Places.{four_slots}
use Rattle.family_four_slot.specs.Plans.{IsPlanned, plan_of, ShowsAll}
use Rattle.family_four_slot.specs.Tables.{Done}

module _ {T : Type 0} (fits : T → Type 0) (rises : T → T → Type 0) (plan : T → ℕ → ℕ → ℕ → ℕ → Doings T → Type 0) (key : Opened T)
    (firsts : List T) (n limit : ℕ) (first_is : firsts ≡ key.first ∷ []) (n_is : n ≡ key.processes) (limit_is : limit ≡ key.limit) where
  abbrev F : State T (View (FourSlotSight T)) → Type 0
  F = FourSlotFamily fits rises key.first (plan_of plan key) key.processes

  pub may_show : (slots id word : ℕ) (me : Me T (View (FourSlotSight T))) (f : ℕ → ℕ)
      (told : ℕ → Me T (View (FourSlotSight T)) → Type 0) → Allows F slots id me word f told →
      Allows F slots id me word f (λ m u. told m u × shows_behind Spent four_slots Done (IsPlanned plan) firsts n limit u)
  may_show slots id word me f told allowed =
      subst (λ (z : List T × ℕ × ℕ). Allows F slots id me word f
      (λ m u. told m u × shows_behind Spent four_slots Done (IsPlanned plan) z.0 z.1 z.2 u))
      (λ i. (sym first_is i, sym n_is i, sym limit_is i))
      (showing_ok Spent four_slots (CellRule fits rises) Done (λ o. cell_ends fits rises o) key.first key.processes
      (IsPlanned plan key.first key.limit key.processes) (IsPlanned plan) key.limit refl slots id word me f told allowed)

  pub shows : (me : Me T (View (FourSlotSight T))) → shows_behind Spent four_slots Done (IsPlanned plan) firsts n limit me →
      ShowsAll plan key me
  shows me h = λ ps is.
      subst (λ (z : ℕ × ℕ). AllSoFar Spent (four_slots z.0) (Done key.first) (IsPlanned plan key.first z.1 z.0) z.0 ps)
      (λ i. (n_is i, limit_is i)) (h key.first ps first_is is)
