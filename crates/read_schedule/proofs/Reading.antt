-- A list that is read item by item, of items that are seen as others: what the items passed gave stands in front of what the rest gives.
use Rattle.std.proofs.Common.{◌≡◌, ◌≤◌, ◌+◌, ◌∙◌, ℕ, List, [], ◌∷◌, ◌++◌, length, map, drop, ap, sym}
use Rattle.std.proofs.lemmas.List.{append-nil, drop_all}
use Rattle.std.specs.Prelude.{Option, None, Some, slice_get}
use Rattle.matrix_core.proofs.lists.Elements.{drop_next}
use Rattle.read_history.specs.Shapes.{all_of}
use Rattle.read_history.proofs.ListLemmas.{with_front}
use Rattle.read_schedule.proofs.CellReading.{first_read, first_refused, joined}

pub one_more_seen : {A B C : Type 0} (f : C → Option B) (seen : A → C) (front now : List B) (xs : List A) (i : ℕ) (x : A) (y : B) →
    now ≡ front ++ y ∷ [] → slice_get xs i ≡ Some x → f (seen x) ≡ Some y →
    with_front now (all_of f (map seen (drop (i + 1) xs))) ≡ with_front front (all_of f (map seen (drop i xs)))
one_more_seen f seen front now xs i x y e at h =
    ap (λ z. with_front z (all_of f (map seen (drop (i + 1) xs)))) e
    ∙ joined front y (all_of f (map seen (drop (i + 1) xs)))
    ∙ ap (with_front front)
    (sym (first_read f (seen x) y (map seen (drop (i + 1) xs)) h) ∙ ap (λ z. all_of f (map seen z)) (sym (drop_next xs i x at)))

pub all_read_seen : {A B C : Type 0} (f : C → Option B) (seen : A → C) (front : List B) (xs : List A) (i : ℕ) → length xs ≤ i →
    with_front front (all_of f (map seen (drop i xs))) ≡ Some front
all_read_seen f seen front xs i h =
    ap (λ z. with_front front (all_of f (map seen z))) (drop_all i xs h) ∙ ap Some (append-nil front)

pub one_refused_seen : {A B C : Type 0} (f : C → Option B) (seen : A → C) (front : List B) (xs : List A) (i : ℕ) (x : A) →
    slice_get xs i ≡ Some x → f (seen x) ≡ None → with_front front (all_of f (map seen (drop i xs))) ≡ None
one_refused_seen f seen front xs i x at h =
    ap (with_front front)
    (ap (λ z. all_of f (map seen z)) (drop_next xs i x at) ∙ first_refused f (seen x) (map seen (drop (i + 1) xs)) h)
