-- What an order lists at a place: where it lists places alone, each entry is an operation.
use Rattle.std.proofs.Common.{◌≡◌, ℕ, ◌<◌, ◌≤◌, List, length, get_or, slice_get, Option, None, Some, IsSomeAnd, arith, refl, sym, subst}
use Rattle.std.proofs.Common.{inl, inr}
use Rattle.std.proofs.lemmas.Bool.{cases_lt}
use Rattle.std.proofs.lemmas.Option.{slice_get-get_or, slice_get_within, option_and_then_some}
use Rattle.history_core.specs.declared.history.Op.{Op}
use Rattle.history_core.specs.Orders.{listed_at, ListsPlaces, Precedes, KeepsPrecedence}

-- what `IsSomeAnd` says
pub some_and_of : {X : Type 0} (P : X → Type 0) (o : Option X) → IsSomeAnd o P → (x : X) × (o ≡ Some x) × P x
some_and_of P None h = absurd h
some_and_of P (Some x) h = (x, refl, h)

pub some_and_from : {X : Type 0} (P : X → Type 0) (o : Option X) (x : X) → o ≡ Some x → P x → IsSomeAnd o P
some_and_from {X} P o x e h = let Q : Option X → Type 0 = λ w. IsSomeAnd w P in subst Q (sym e) h

-- a read of ops[order[i]]
pub listed_read : {R : Type 0} (ops : List (Op R)) (order : List ℕ) (i : ℕ) (o : Op R) → ListsPlaces ops order → i < length order →
    o ≡ get_or ops (get_or order i 0) o → listed_at ops order i ≡ Some o
listed_read ops order i o places h e =
    let at_i : slice_get order i ≡ Some (get_or order i 0) = slice_get-get_or order i 0 h in
    let within : get_or order i 0 < length ops = places i _ at_i in
    let at_p : slice_get ops (get_or order i 0) ≡ Some (get_or ops (get_or order i 0) o) = slice_get-get_or ops _ o within in
    cc

-- what is listed is inside the order
pub listed_within : {R : Type 0} (ops : List (Op R)) (order : List ℕ) (i : ℕ) (o : Op R) → listed_at ops order i ≡ Some o → i < length order
listed_within ops order i o h = option_and_then_some (slice_get ops) (slice_get order i) o h (λ p e _. slice_get_within order i p e)

-- no entry after x, from i on, precedes the one at x
abbrev pub NoneBackFrom : {R : Type 0} → List (Op R) → List ℕ → ℕ → Type 0
NoneBackFrom {R} ops order i =
    (x y : ℕ) (a b : Op R) → i ≤ x → x < y → listed_at ops order x ≡ Some a → listed_at ops order y ≡ Some b → Precedes b a → ⊥

pub keeps_from_none : {R : Type 0} (ops : List (Op R)) (order : List ℕ) → NoneBackFrom ops order 0 → KeepsPrecedence ops order
keeps_from_none ops order h i j a b ai bj ne pre =
    elim (cases_lt i j) [ inl lt ↦ lt | inr le ↦ absurd (h j i b a (omega arith) (omega arith) bj ai pre) ]
