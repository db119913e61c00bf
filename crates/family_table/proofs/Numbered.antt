-- The processes that a seat is shown, each by its number.
use Rattle.std.proofs.Common.{◌≡◌, ℕ, ◌<◌, List, [], ◌∷◌, length, slice_get, Some, refl, sym, ap, ◌∙◌, subst, arith, zero, suc}
use mathlib.Core.Option.{Option, some, none}
use lib.ListN.{get_elem?}
use Rattle.family_table.specs.declared.notes.Process.{Process}
use Rattle.family_table.specs.Ends.{AllSoFar}
use Rattle.family_table.specs.Layouts.{Layout}
use Rattle.family_table.specs.Views.{no_process}
use Rattle.family_table.proofs.Slices.{within}
use Rattle.cell_contract.specs.Ends.{WasSaid}
use Rattle.cell_contract.specs.declared.said.Found.{Found}

pub some_at : {A : Type 0} (xs : List A) (i : ℕ) → i < length xs → (a : A) × (get_elem? xs i ≡ some a)
some_at [] i l = absurd (omega arith)
some_at (x ∷ xs) zero l = (x, refl)
some_at (x ∷ xs) (suc i) l = some_at xs i (omega arith)

pub first_there : {A : Type 0} (xs : List A) → 0 < length xs → (x : A) × (slice_get xs 0 ≡ Some x)
first_there [] l = absurd (omega arith)
first_there (x ∷ xs) l = (x, refl)

pub seat_at : {A : Type 0} (xs : List A) (i : ℕ) → i < length xs → (x : A) × (slice_get xs i ≡ Some x)
seat_at [] i l = absurd (omega arith)
seat_at (x ∷ xs) zero l = (x, refl)
seat_at (x ∷ xs) (suc i) l = seat_at xs i (omega arith)

-- the process at a place
abbrev pub or_none : {V : Type 0} → Option (Process V) → Process V
or_none none = no_process
or_none (some v) = v

module _ {V : Type 0} (blank : V) (l : Layout) (done : V → V → Type 0) (Plan : ℕ → Process V → Type 0) (n : ℕ)
    (ps : List (Process V)) (all : AllSoFar blank l done Plan n ps) where
  pub placed : (i : ℕ) (v : Process V) → get_elem? all.processes i ≡ some v → or_none (get_elem? all.processes i) ≡ v
  placed i v e = ap or_none e

  pub there : (i : ℕ) → i < n → get_elem? all.processes i ≡ some (or_none (get_elem? all.processes i))
  there i l =
      let many : length all.processes ≡ n = all.many in
      let w = some_at all.processes i (omega arith) in
      w.1 ∙ ap some (sym (placed i w.0 w.1))

  -- what they found was said
  pub found_said : (i x : ℕ) (f : Found) → i < n → slice_get (or_none (get_elem? all.processes i)).found x ≡ Some f →
      (f.who < n) × WasSaid (or_none (get_elem? all.processes f.who)).said f
  found_said i x f l e =
      let was = all.finds i x (or_none (get_elem? all.processes i)) f (there i l) e in
      let inside : f.who < length all.processes = within all.processes f.who was.0 was.1 in
      let many : length all.processes ≡ n = all.many in
      (omega arith, subst (λ (z : Process V). WasSaid z.said f) (sym (placed f.who was.0 was.1)) was.2)
