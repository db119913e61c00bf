-- The lists of a document's values, by cases on their elements.
use Rattle.std.proofs.Common.{◌≡◌, ◌<◌, ◌≤◌, ◌+◌, ℕ, zero, suc, List, [], ◌∷◌, ◌++◌, length, map, drop, refl, ap, sym, subst, ◌∙◌, arith}
use Rattle.std.proofs.Common.{add-one}
use Rattle.std.proofs.Common.{Bool, true, false, Option, Some, None, option_map, append_assoc, get_or}
use Rattle.std.proofs.lemmas.List.{append-nil, drop_all}
use Rattle.std.proofs.lemmas.Option.{none-some, same_Some}
use Rattle.std.specs.Prelude.{slice_get, if◌then◌else◌}
use Rattle.std.specs.Option.{option_and_then}
use Rattle.serde_json.specs.Data.{Data}
use Rattle.serde_json.specs.View.{view}
use Rattle.serde_json.specs.declared.value.Value.{Value}
use Rattle.history_core.specs.declared.band.Band.{Band}
use Rattle.read_document.specs.Values.{as_whole}
use Rattle.read_history.specs.Shapes.{◌>>=◌, all_of, as_three}

-- what was read before, and what the rest gives
abbrev pub with_front : {B : Type 0} → List B → Option (List B) → Option (List B)
with_front front read = option_map (λ ys. front ++ ys) read

pub as_three_short : (ds : List Data) → length ds < 3 → as_three ds ≡ None
as_three_short [] h = refl
as_three_short (a ∷ []) h = refl
as_three_short (a ∷ b ∷ []) h = refl
as_three_short (a ∷ b ∷ c ∷ rest) h = absurd (omega (arith, h))

pub as_three_long : (ds : List Data) → 4 ≤ length ds → as_three ds ≡ None
as_three_long [] h = refl
as_three_long (a ∷ []) h = refl
as_three_long (a ∷ b ∷ []) h = refl
as_three_long (a ∷ b ∷ c ∷ []) h = absurd (omega (arith, h))
as_three_long (a ∷ b ∷ c ∷ d ∷ rest) h = refl

abbrev pub three_of : Option ℕ → Option ℕ → Option ℕ → Option Band
three_of lo mid hi = do
  lo ← lo
  now ← mid
  hi ← hi
  Some (record { lo = lo; now = now; hi = hi })

three_are : (vs : List Value) (a b c : Value) → 3 ≤ length vs → length vs < 4 → a ≡ get_or vs 0 a → b ≡ get_or vs 1 b → c ≡ get_or vs 2 c
    → a ∷ b ∷ c ∷ [] ≡ vs
three_are [] a b c least most ea eb ec = absurd (omega (arith, least))
three_are (x ∷ []) a b c least most ea eb ec = absurd (omega (arith, least))
three_are (x ∷ y ∷ []) a b c least most ea eb ec = absurd (omega (arith, least))
three_are (x ∷ y ∷ z ∷ []) a b c least most ea eb ec =
    ap (λ q. q ∷ b ∷ c ∷ []) ea ∙ ap (λ q. x ∷ q ∷ c ∷ []) eb ∙ ap (λ q. x ∷ y ∷ q ∷ []) ec
three_are (x ∷ y ∷ z ∷ w ∷ rest) a b c least most ea eb ec = absurd (omega (arith, most))

-- what three values stand for
pub three_read : (vs : List Value) (a b c : Value) (lo mid hi : Option ℕ) → 3 ≤ length vs → length vs < 4
    → a ≡ get_or vs 0 a → b ≡ get_or vs 1 b → c ≡ get_or vs 2 c → lo ≡ as_whole (view a) → mid ≡ as_whole (view b) → hi ≡ as_whole (view c)
    → three_of lo mid hi ≡ as_three (map view vs)
three_read vs a b c lo mid hi least most ea eb ec of_a of_b of_c =
    ap (λ o. three_of o mid hi) of_a ∙ ap (λ o. three_of (as_whole (view a)) o hi) of_b
    ∙ ap (λ o. three_of (as_whole (view a)) (as_whole (view b)) o) of_c
    ∙ ap (λ l. as_three (map view l)) (three_are vs a b c least most ea eb ec)

-- ---- a list that is read item by item: what was read stands in front of what the rest gives

-- nothing was read yet
pub with_nothing : {B : Type 0} (front : List B) (read : Option (List B)) → front ≡ [] → with_front front read ≡ read
with_nothing front None e = refl
with_nothing front (Some ys) e = ap (λ xs. Some (xs ++ ys)) e

drop_suc : {X : Type 0} (xs : List X) (i : ℕ) (x : X) → slice_get xs i ≡ Some x → drop i xs ≡ x ∷ drop (suc i) xs
drop_suc [] i x h = absurd (none-some x h)
drop_suc (y ∷ ys) zero x h = ap (λ z. z ∷ ys) (same_Some y x h)
drop_suc (y ∷ ys) (suc i) x h = drop_suc ys i x h

-- the rest begins with the next item
next_first : {A B C : Type 0} (f : C → Option B) (seen : A → C) (xs : List A) (i : ℕ) (x : A) → slice_get xs i ≡ Some x
    → all_of f (map seen (drop i xs)) ≡ all_of f (seen x ∷ map seen (drop (i + 1) xs))
next_first f seen xs i x at =
    ap (λ l. all_of f (map seen l)) (drop_suc xs i x at ∙ ap (λ k. x ∷ drop k xs) (sym (add-one i)))

-- what is there where an item was added, or refused
abbrev pub added : {B : Type 0} → List B → Option B → Option (List B)
added front read = option_map (λ y. front ++ y ∷ []) read

one_added : {B : Type 0} (front now : List B) (read : Option B) (rest : Option (List B)) → Some now ≡ added front read
    → with_front now rest ≡ with_front front (option_and_then (λ y. option_map (λ ys. y ∷ ys) rest) read)
one_added front now None rest e = absurd (none-some now (sym e))
one_added front now (Some y) None e = refl
one_added front now (Some y) (Some ys) e = ap (λ l. Some (l ++ ys)) (same_Some now (front ++ y ∷ []) e)
    ∙ ap Some (append_assoc front (y ∷ []) ys)

none_added : {B : Type 0} (front : List B) (read : Option B) (rest : Option (List B)) → None ≡ added front read
    → with_front front (option_and_then (λ y. option_map (λ ys. y ∷ ys) rest) read) ≡ None
none_added front None rest e = refl
none_added front (Some y) rest e = absurd (none-some (front ++ y ∷ []) e)

-- an item was read
pub one_read : {A B C : Type 0} (f : C → Option B) (seen : A → C) (front now : List B) (xs : List A) (i : ℕ) (x : A) (fits : Bool)
    → slice_get xs i ≡ Some x → (if fits then Some now else None) ≡ added front (f (seen x)) → fits ≡ true
    → with_front now (all_of f (map seen (drop (i + 1) xs))) ≡ with_front front (all_of f (map seen (drop i xs)))
one_read f seen front now xs i x fits at is true_is =
    one_added front now (f (seen x)) (all_of f (map seen (drop (i + 1) xs)))
    (subst (λ b. (if b then Some now else None) ≡ added front (f (seen x))) true_is is)
    ∙ ap (with_front front) (sym (next_first f seen xs i x at))

-- an item was refused
pub one_refused : {A B C : Type 0} (f : C → Option B) (seen : A → C) (front now : List B) (xs : List A) (i : ℕ) (x : A) (fits : Bool)
    → slice_get xs i ≡ Some x → (if fits then Some now else None) ≡ added front (f (seen x)) → fits ≡ false
    → with_front front (all_of f (map seen (drop i xs))) ≡ None
one_refused f seen front now xs i x fits at is false_is =
    ap (with_front front) (next_first f seen xs i x at)
    ∙ none_added front (f (seen x)) (all_of f (map seen (drop (i + 1) xs)))
    (subst (λ b. (if b then Some now else None) ≡ added front (f (seen x))) false_is is)

-- all items were read
pub all_read : {A B C : Type 0} (f : C → Option B) (seen : A → C) (front : List B) (xs : List A) (i : ℕ) → length xs ≤ i
    → with_front front (all_of f (map seen (drop i xs))) ≡ Some front
all_read f seen front xs i h = ap (λ l. with_front front (all_of f (map seen l))) (drop_all i xs h) ∙ ap Some (append-nil front)
