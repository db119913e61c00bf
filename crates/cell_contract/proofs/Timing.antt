-- The intervals of calls and the numbers of answers, over plain lists, where a step is made at a time later than all before.
use Rattle.std.proofs.Common.{◌≡◌, ℕ, zero, suc, ◌+◌, ◌<◌, ◌≤◌, List, [], ◌∷◌, ◌++◌, length, slice_get, Some, sym}
use Rattle.std.proofs.Common.{ap, ◌∙◌, subst, ⊎_elim, arith, le_trans, append_assoc, append-nil}
use mathlib.Core.Option.{some, some-injective, some-ne-none}
use lib.ListN.{get_elem?}
use Rattle.std.proofs.lemmas.Option.{slice_get_within, same_Some}
use Rattle.four_slot_core.proofs.Pushed.{get_before, get_cases}
use Rattle.history_core.proofs.Times.{of_before, to_before}
use Rattle.history_core.specs.Registers.{IsReadOf}
use Rattle.cell_contract.specs.Intervals.{At, begun_at, passed_at, ended_at, InTurn, IsBy, IsLate, HasBegun}
use Rattle.cell_contract.specs.Intervals.{IsBeginning, AreFirst, AreHeeded}
use Rattle.cell_contract.specs.Intervals.{IsHeeded, known_as}
use Rattle.cell_contract.proofs.ListLaws.{all_each, all_snoc}
use Rattle.cell_contract.specs.declared.times.Times.{Times}
use Rattle.cell_contract.specs.declared.times.Known.{Known}

pub as_slice : {A : Type 0} (xs : List A) (k : ℕ) (x : A) → get_elem? xs k ≡ some x → slice_get xs k ≡ Some x
as_slice [] k x e = absurd (some-ne-none x (sym e))
as_slice (y ∷ ys) zero x e = ap (λ z. Some z) (some-injective y x e)
as_slice (y ∷ ys) (suc k) x e = as_slice ys k x e

-- a number that is late enough stays so where it grows
pub late_up : (es : List ℕ) (b n m : ℕ) → n ≤ m → IsLate es b n → IsLate es b m
late_up es b n m l h = λ k e at lt. let s : k < n = h k e at lt in omega arith

-- a write that ends now ended before no read that has begun
pub late_ended : (es : List ℕ) (b n t : ℕ) → b ≤ t → IsLate es b n → IsLate (es ++ t ∷ []) b n
late_ended es b n t l h = λ k e at lt. ⊎_elim (λ (old : slice_get es k ≡ Some e). h k e old lt)
    (λ (new : (k ≡ length es) × (e ≡ t)). absurd (let x : e ≡ t = new.1 in omega arith)) (get_cases es t k e at)

pub begun_longer : (bs : List ℕ) (e n t : ℕ) → HasBegun bs e n → HasBegun (bs ++ t ∷ []) e n
begun_longer bs e n t h = λ k is. let b = h k is in (b.0, get_before bs t k b.0 b.1, b.2)

pub turn_begun : (bs es : List ℕ) (c t : ℕ) → length bs ≡ length es → ((k e : ℕ) → At es k e → e ≤ c) → c < t → InTurn bs es →
    InTurn (bs ++ t ∷ []) es
turn_begun bs es c t same by lt h = record {
  forwards = λ k b e bt et. ⊎_elim (λ (old : slice_get bs k ≡ Some b). h.forwards k b e old et)
      (λ (new : (k ≡ length bs) × (b ≡ t)).
      absurd (let l : k < length es = slice_get_within es k e et in let x : k ≡ length bs = new.0 in omega arith))
      (get_cases bs t k b bt);
  follows = λ k e b et bt. ⊎_elim (λ (old : slice_get bs (k + 1) ≡ Some b). h.follows k e b et old)
      (λ (new : (k + 1 ≡ length bs) × (b ≡ t)). let l : e ≤ c = by k e et in let x : b ≡ t = new.1 in omega arith)
      (get_cases bs t (k + 1) b bt);
}

pub turn_ended : (bs es : List ℕ) (c t : ℕ) → length bs ≡ length es + 1 → ((k b : ℕ) → At bs k b → b ≤ c) → c ≤ t → InTurn bs es →
    InTurn bs (es ++ t ∷ [])
turn_ended bs es c t more by le h = record {
  forwards = λ k b e bt et. ⊎_elim (λ (old : slice_get es k ≡ Some e). h.forwards k b e bt old)
      (λ (new : (k ≡ length es) × (e ≡ t)). let l : b ≤ c = by k b bt in let x : e ≡ t = new.1 in omega arith)
      (get_cases es t k e et);
  follows = λ k e b et bt. ⊎_elim (λ (old : slice_get es k ≡ Some e). h.follows k e b old bt)
      (λ (new : (k ≡ length es) × (e ≡ t)).
      absurd (let l : k + 1 < length bs = slice_get_within bs (k + 1) b bt in let x : k ≡ length es = new.0 in omega arith))
      (get_cases es t k e et);
}

pub by_passed : (s : Times) (t : ℕ) → s.clock ≤ t → IsBy s → IsBy (passed_at s t)
by_passed s t l h = record {
  begun = λ k b at. let x : b ≤ s.clock = h.begun k b at in le_trans x l;
  ended = λ k e at. let x : e ≤ s.clock = h.ended k e at in le_trans x l;
}

pub within_pushed : (xs : List ℕ) (c t : ℕ) → c ≤ t → ((k x : ℕ) → At xs k x → x ≤ c) → (k x : ℕ) → At (xs ++ t ∷ []) k x → x ≤ t
within_pushed xs c t l h k x at = ⊎_elim (λ (old : slice_get xs k ≡ Some x). let y : x ≤ c = h k x old in omega arith)
    (λ (new : (k ≡ length xs) × (x ≡ t)). let y : x ≡ t = new.1 in omega arith) (get_cases xs t k x at)

pub by_begun : (s : Times) (t : ℕ) → s.clock ≤ t → IsBy s → IsBy (begun_at s t)
by_begun s t l h = record {
  begun = within_pushed s.begins s.clock t l h.begun;
  ended = λ k e at. let x : e ≤ s.clock = h.ended k e at in le_trans x l;
}

pub by_ended : (s : Times) (t : ℕ) → s.clock ≤ t → IsBy s → IsBy (ended_at s t)
by_ended s t l h = record {
  begun = λ k b at. let x : b ≤ s.clock = h.begun k b at in le_trans x l;
  ended = within_pushed s.ends s.clock t l h.ended;
}

pub read_of : (wb we rb re : List ℕ) (m n b e : ℕ) → At rb m b → At re m e → IsLate we b n → HasBegun wb e n →
    IsReadOf (record { begins = slice_get wb; ends = slice_get we }) (record { begins = slice_get rb; ends = slice_get re }) m n
read_of wb we rb re m n b e at there late has = record {
  late = λ k before. let x = of_before (slice_get we k) (slice_get rb m) before in late k x.0 x.1 (x.2 b at);
  begun = λ k is. let x = has k is in
      to_before (slice_get wb k) (slice_get re m) x.0 x.1 (λ y here. subst (λ z. x.0 < z) (same_Some e y (sym there ∙ here)) x.2);
}

-- a read that begins now has no number yet
pub late_asked : (numbers begins ends : List ℕ) (t : ℕ) → length numbers ≤ length begins →
    ((m a b : ℕ) → At numbers m a → At begins m b → IsLate ends b a) → (m a b : ℕ) → At numbers m a → At (begins ++ t ∷ []) m b →
    IsLate ends b a
late_asked numbers begins ends t enough h m a b at there = ⊎_elim
    (λ (old : slice_get begins m ≡ Some b). h m a b at old)
    (λ (new : (m ≡ length begins) × (b ≡ t)). absurd (let l : m < length numbers = slice_get_within numbers m a at in
    let e : m ≡ length begins = new.0 in
    omega arith))
    (get_cases begins t m b there)

-- A read ends with the number n: what holds of the numbers before holds with it.
pub late_more : (numbers begins ends : List ℕ) (n : ℕ) → ((m a b : ℕ) → At numbers m a → At begins m b → IsLate ends b a) →
    ((b : ℕ) → At begins (length numbers) b → IsLate ends b n) → (m a b : ℕ) → At (numbers ++ n ∷ []) m a → At begins m b → IsLate ends b a
late_more numbers begins ends n h last m a b at there = ⊎_elim
    (λ (old : slice_get numbers m ≡ Some a). h m a b old there)
    (λ (new : (m ≡ length numbers) × (a ≡ n)).
    subst (λ z. IsLate ends b z) (sym new.1) (last b (ap (slice_get begins) (sym new.0) ∙ there)))
    (get_cases numbers n m a at)

pub begun_more : (numbers writes ends : List ℕ) (n t : ℕ) → length numbers ≡ length ends →
    ((m a e : ℕ) → At numbers m a → At ends m e → HasBegun writes e a) → HasBegun writes t n →
    (m a e : ℕ) → At (numbers ++ n ∷ []) m a → At (ends ++ t ∷ []) m e → HasBegun writes e a
begun_more numbers writes ends n t same h last m a e at there = ⊎_elim
    (λ (old : slice_get numbers m ≡ Some a). ⊎_elim
    (λ (u : slice_get ends m ≡ Some e). h m a e old u)
    (λ (u : (m ≡ length ends) × (e ≡ t)). absurd (let l : m < length numbers = slice_get_within numbers m a old in
    let x : m ≡ length ends = u.0 in
    omega arith))
    (get_cases ends t m e there))
    (λ (new : (m ≡ length numbers) × (a ≡ n)). ⊎_elim
    (λ (u : slice_get ends m ≡ Some e). absurd (let l : m < length ends = slice_get_within ends m e u in
    let x : m ≡ length numbers = new.0 in
    omega arith))
    (λ (u : (m ≡ length ends) × (e ≡ t)). subst (λ (z : ℕ × ℕ). HasBegun writes z.0 z.1) (λ i. (sym u.1 i, sym new.1 i)) last)
    (get_cases ends t m e there))
    (get_cases numbers n m a at)

pub most_more : (numbers : List ℕ) (n most : ℕ) → n ≤ most → ((m a : ℕ) → At numbers m a → a ≤ most) → (m a : ℕ) →
    At (numbers ++ n ∷ []) m a → a ≤ most
most_more numbers n most low h m a at = ⊎_elim (λ (old : slice_get numbers m ≡ Some a). h m a old)
    (λ (new : (m ≡ length numbers) × (a ≡ n)). let e : a ≡ n = new.1 in omega arith) (get_cases numbers n m a at)

pub rising_more : (numbers : List ℕ) (n : ℕ) → ((m a : ℕ) → At numbers m a → a ≤ n) →
    ((i j a b : ℕ) → At numbers i a → At numbers j b → i ≤ j → a ≤ b) → (i j a b : ℕ) → At (numbers ++ n ∷ []) i a →
    At (numbers ++ n ∷ []) j b → i ≤ j → a ≤ b
rising_more numbers n most h i j a b at there le = ⊎_elim
    (λ (v : slice_get numbers j ≡ Some b). ⊎_elim (λ (u : slice_get numbers i ≡ Some a). h i j a b u v le)
    (λ (u : (i ≡ length numbers) × (a ≡ n)).
    absurd (let l : j < length numbers = slice_get_within numbers j b v in let x : i ≡ length numbers = u.0 in omega arith))
    (get_cases numbers n i a at))
    (λ (v : (j ≡ length numbers) × (b ≡ n)).
    let l : a ≤ n = most_more numbers n n (let x : n ≤ n = omega arith in x) most i a at in let x : b ≡ n = v.1 in omega arith)
    (get_cases numbers n j b there)

-- what is known is a beginning of what was written: it stays so, and the reader may come to know of all
longer : {A : Type 0} (xs ys : List A) (z : A) → IsBeginning xs ys → IsBeginning xs (ys ++ z ∷ [])
longer xs ys z h = (h.0 ++ z ∷ [], ap (λ zs. zs ++ z ∷ []) h.1 ∙ append_assoc xs h.0 (z ∷ []))

same : {A : Type 0} (xs : List A) → IsBeginning xs xs
same xs = ([], sym (append-nil xs))

module _ {T : Type 0} where
  pub source_more : (o : T) (written answers : List T) (numbers : List ℕ) (n : ℕ) (x : T) → length numbers ≡ length answers →
      slice_get (o ∷ written) n ≡ Some x →
      ((m a : ℕ) (y : T) → At numbers m a → slice_get answers m ≡ Some y → slice_get (o ∷ written) a ≡ Some y) →
      (m a : ℕ) (y : T) → At (numbers ++ n ∷ []) m a → slice_get (answers ++ x ∷ []) m ≡ Some y → slice_get (o ∷ written) a ≡ Some y
  source_more o written answers numbers n x same here h m a y at there = ⊎_elim
      (λ (u : slice_get numbers m ≡ Some a). ⊎_elim
      (λ (v : slice_get answers m ≡ Some y). h m a y u v)
      (λ (v : (m ≡ length answers) × (y ≡ x)).
      absurd (let l : m < length numbers = slice_get_within numbers m a u in let e : m ≡ length answers = v.0 in omega arith))
      (get_cases answers x m y there))
      (λ (u : (m ≡ length numbers) × (a ≡ n)). ⊎_elim
      (λ (v : slice_get answers m ≡ Some y).
      absurd (let l : m < length answers = slice_get_within answers m y v in let e : m ≡ length numbers = u.0 in omega arith))
      (λ (v : (m ≡ length answers) × (y ≡ x)). ap (slice_get (o ∷ written)) u.1 ∙ (here ∙ ap (λ z. Some z) (sym v.1)))
      (get_cases answers x m y there))
      (get_cases numbers n m a at)

  pub first_begun : (k : Known T) (written : List T) (s : Times) (x : T) (t : ℕ) → AreFirst k written s →
      AreFirst k (written ++ x ∷ []) (begun_at s t)
  first_begun k written s x t h = record {
    items = longer k.items written x h.items;
    begins = longer k.times.begins s.begins t h.begins;
    ends = h.ends;
  }

  pub first_passed : (k : Known T) (written : List T) (s : Times) (t : ℕ) → AreFirst k written s → AreFirst k written (passed_at s t)
  first_passed k written s t h = record { items = h.items; begins = h.begins; ends = h.ends }

  pub first_ended : (k : Known T) (written : List T) (s : Times) (t : ℕ) → AreFirst k written s → AreFirst k written (ended_at s t)
  first_ended k written s t h = record { items = h.items; begins = h.begins; ends = longer k.times.ends s.ends t h.ends }

  pub first_all : (written : List T) (s : Times) → AreFirst (record { items = written; times = s }) written s
  first_all written s = record { items = same written; begins = same s.begins; ends = same s.ends }

  -- what a receipt told stays heeded through the writer's steps, where the number doesn't fall; and at rest all that was written is
  pub heeded_begun : (h : Known T) (written : List T) (s : Times) (x : T) (t n m : ℕ) → n ≤ m → IsHeeded h (known_as written s) n →
      IsHeeded h (known_as (written ++ x ∷ []) (begun_at s t)) m
  heeded_begun h written s x t n m le is = record { first = first_begun h written s x t is.first; later = le_trans is.later le }

  pub heeded_passed : (h : Known T) (written : List T) (s : Times) (t n m : ℕ) → n ≤ m → IsHeeded h (known_as written s) n →
      IsHeeded h (known_as written (passed_at s t)) m
  heeded_passed h written s t n m le is = record { first = first_passed h written s t is.first; later = le_trans is.later le }

  pub heeded_ended : (h : Known T) (written : List T) (s : Times) (t n m : ℕ) → n ≤ m → IsHeeded h (known_as written s) n →
      IsHeeded h (known_as written (ended_at s t)) m
  heeded_ended h written s t n m le is = record { first = first_ended h written s t is.first; later = le_trans is.later le }

  pub heeded_all : (written : List T) (s : Times) (n : ℕ) → length written ≤ n → IsHeeded (known_as written s) (known_as written s) n
  heeded_all written s n le = record { first = first_all written s; later = le }

  pub each_heeded : (old new : Known T) (n m : ℕ) → ((h : Known T) → IsHeeded h old n → IsHeeded h new m) → (heard : List (Known T)) →
      AreHeeded heard old n → AreHeeded heard new m
  each_heeded old new n m f heard all = all_each (λ h. IsHeeded h old n) (λ h. IsHeeded h new m) f heard all

  pub one_heeded : (known : Known T) (n : ℕ) (heard : List (Known T)) (h : Known T) → AreHeeded heard known n → IsHeeded h known n →
      AreHeeded (heard ++ h ∷ []) known n
  one_heeded known n heard h all is = all_snoc (λ h. IsHeeded h known n) heard h all is
