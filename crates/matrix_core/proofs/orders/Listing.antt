-- The list of a term: each operation stands in it as often as it is to, and a sort only moves the entries.
use Rattle.std.proofs.Common.{◌≡◌, ◌≢◌, ℕ, zero, suc, ◌+◌, ◌<◌, ◌≤◌, Bool, true, false, not, List, [], ◌∷◌, ◌++◌, length, map, get_or, refl}
use Rattle.std.proofs.Common.{sym, ◌∙◌, ap, subst, arith, ◌⊎◌, inl, inr, ⊎_elim}
use Rattle.std.specs.Prelude.{Option, Some, if◌then◌else◌, nat_eq, nat_lt, slice_get}
use Rattle.std.specs.List.{All}
use Rattle.std.specs.Option.{option_map}
use Rattle.std.specs.List.Sorted.{IsPermutation, IsSorted}
use Rattle.std.specs.declared.cmp.Ordering.{Ordering}
use Rattle.std.specs.declared.cmp.Ordering.TheVariants.{Less, Equal}
use Rattle.std.specs.Ordering.{is_lt, nat_cmp, bool_cmp, ordering_then}
use Rattle.std.proofs.lemmas.Bool.{cases_lt, cases_order}
use Rattle.std.proofs.lemmas.Bool.Decides.{nat_tests}
use Rattle.matrix_core.specs.contracts.order.ListedOrd.TheImpl.Laws.{total-law as ListedTotal}
use Rattle.std.proofs.lemmas.List.Sums.{sum_by-cons, sum_by-append}
use Rattle.std.proofs.lemmas.List.Sorted.{All-permutation, IsPermutation-map, ranks_by, sorted_far, sum_by-IsPermutation}
use Rattle.std.proofs.lemmas.Option.{slice_get_within, slice_get-get_or, slice_get-map, get_or_from_slice_get, same_Some, none-some}
use Rattle.history_core.specs.declared.history.Op.{Op}
use Rattle.history_core.specs.Orders.{times_of, is_write}
use Rattle.history_core.proofs.Places.{get_pushed_cases}
use Rattle.matrix_core.specs.declared.stamp.Stamp.{Stamp}
use Rattle.matrix_core.specs.declared.order.Listed.{Listed}
use Rattle.matrix_core.specs.Stamps.{IsBelow}
use Rattle.matrix_core.specs.Listings.{is_listed, IsInOrder}
use Rattle.matrix_core.proofs.lists.Elements.{same_or_not}
use Rattle.matrix_core.proofs.lists.Elements.{same, not_same}

pub times_push : (p q : ℕ) (xs : List ℕ) → times_of p (xs ++ q ∷ []) ≡ times_of p xs + (if nat_eq q p then 1 else 0)
times_push p q xs = sum_by-append (λ r. if nat_eq r p then 1 else 0) xs (q ∷ [])
    ∙ ap (λ n. times_of p xs + n) (sum_by-cons (λ r. if nat_eq r p then 1 else 0) q [] ∙ omega arith)

pub times_absent : (p : ℕ) (xs : List ℕ) → ((k q : ℕ) → slice_get xs k ≡ Some q → q ≢ p) → times_of p xs ≡ 0
times_absent p [] h = refl
times_absent p (x ∷ xs) h =
    let b : nat_eq x p ≡ false = not_same x p (h 0 x refl) in
    sum_by-cons (λ r. if nat_eq r p then 1 else 0) x xs
    ∙ (ap (λ c. (if c then 1 else 0) + times_of p xs) b ∙ omega (arith, times_absent p xs (λ k q e. h (suc k) q e)))

map_push : {A B : Type 0} (f : A → B) (xs : List A) (x : A) → map f (xs ++ x ∷ []) ≡ map f xs ++ f x ∷ []
map_push f [] x = refl
map_push f (y ∷ ys) x = ap (λ zs. f y ∷ zs) (map_push f ys x)

pub get_map_back : {A B : Type 0} (f : A → B) (xs : List A) (k : ℕ) (y : B) → slice_get (map f xs) k ≡ Some y →
    (x : A) × (slice_get xs k ≡ Some x) × (f x ≡ y)
get_map_back f [] k y h = absurd (none-some y h)
get_map_back f (x ∷ xs) zero y h = (x, refl, same_Some (f x) y h)
get_map_back f (x ∷ xs) (suc k) y h = get_map_back f xs k y h

module _ {R : Type 0} (ops : List (Op R)) (stamps : List (Option Stamp)) where
  pub record IsEntry (e : Listed) : Type 0 where
    pub op : Op R
    pub at : slice_get ops e.place ≡ Some op
    pub chosen : slice_get stamps e.place ≡ Some (Some e.stamp)
    pub kind : is_write op.kind ≡ not e.answers

  pub record IsListedSoFar (i : ℕ) (entries : List Listed) : Type 0 where
    pub each : (k : ℕ) (e : Listed) → slice_get entries k ≡ Some e → IsEntry e × (e.place < i)
    pub times : (p : ℕ) (op : Op R) (stamp : Option Stamp) → p < i → slice_get ops p ≡ Some op → slice_get stamps p ≡ Some stamp
        → times_of p (map (λ (e : Listed). e.place) entries) ≡ (if is_listed op stamp then 1 else 0)

  fresh : (i : ℕ) (entries : List Listed) → IsListedSoFar i entries → times_of i (map (λ (e : Listed). e.place) entries) ≡ 0
  fresh i entries h = times_absent i (map (λ (e : Listed). e.place) entries) (λ k q g.
      let b = get_map_back (λ (e : Listed). e.place) entries k q g in
      let l : b.0.place < i = (h.each k b.0 b.1).1 in
      let s : b.0.place ≡ q = b.2 in
      λ z. omega arith)

  -- an operation that isn't listed
  pub listed_skip : (i : ℕ) (entries : List Listed) (op : Op R) (stamp : Option Stamp) → slice_get ops i ≡ Some op →
      slice_get stamps i ≡ Some stamp → is_listed op stamp ≡ false
      → IsListedSoFar i entries → IsListedSoFar (i + 1) entries
  listed_skip i entries op stamp o s n h = record {
    each = λ k e g. let w = h.each k e g in let l : e.place < i = w.1 in (w.0, omega arith);
    times = λ p op' stamp' l o' s'. ⊎_elim
        (λ (e : p ≡ i).
        let same_op : op' ≡ op = same_Some op' op (sym o' ∙ (ap (slice_get ops) e ∙ o)) in
        let same_stamp : stamp' ≡ stamp = same_Some stamp' stamp (sym s' ∙ (ap (slice_get stamps) e ∙ s)) in
        rw (e, same_op, same_stamp, n) (fresh i entries h))
        (λ (ne : p ≢ i). h.times p op' stamp' (omega arith) o' s') (same_or_not p i);
  }

  pub listed_more : (i : ℕ) (entries : List Listed) (op : Op R) (e : Listed) → slice_get ops i ≡ Some op →
      slice_get stamps i ≡ Some (Some e.stamp) → is_listed op (Some e.stamp) ≡ true
      → e.place ≡ i → is_write op.kind ≡ not e.answers → IsListedSoFar i entries → IsListedSoFar (i + 1) (entries ++ e ∷ [])
  listed_more i entries op e o s y pl kd h = record {
    each = λ k x g. ⊎_elim
        (λ (old : slice_get entries k ≡ Some x). let w = h.each k x old in let l : x.place < i = w.1 in (w.0, omega arith))
        (λ (new : (k ≡ length entries) × (e ≡ x)).
        let w : IsEntry e = record { op = op; at = rw pl o; chosen = rw pl s; kind = kd } in
        let l : e.place < i + 1 = omega arith in
        let r : IsEntry e × (e.place < i + 1) = (w, l) in rw new.1 at r)
        (get_pushed_cases entries e k x g);
    times = λ p op' stamp' l o' s'.
        let step : times_of p (map (λ (z : Listed). z.place) (entries ++ e ∷ []))
        ≡ times_of p (map (λ (z : Listed). z.place) entries) + (if nat_eq e.place p then 1 else 0)
        = ap (times_of p) (map_push (λ (z : Listed). z.place) entries e) ∙ times_push p e.place (map (λ (z : Listed). z.place) entries) in
        ⊎_elim
        (λ (eq : p ≡ i).
        let same_op : op' ≡ op = same_Some op' op (sym o' ∙ (ap (slice_get ops) eq ∙ o)) in
        let same_stamp : stamp' ≡ Some e.stamp = same_Some stamp' (Some e.stamp) (sym s' ∙ (ap (slice_get stamps) eq ∙ s)) in
        let b : nat_eq e.place p ≡ true = same e.place p (pl ∙ sym eq) in
        let f : times_of p (map (λ (z : Listed). z.place) entries) ≡ 0 = rw eq (fresh i entries h) in
        let one : times_of p (map (λ (z : Listed). z.place) (entries ++ e ∷ [])) ≡ 1 =
        step ∙ (ap (λ c. times_of p (map (λ (z : Listed). z.place) entries) + (if c then 1 else 0)) b ∙ omega arith) in
        one ∙ ap (λ c. if c then 1 else 0) (sym (ap (λ z. is_listed z stamp') same_op ∙ (ap (is_listed op) same_stamp ∙ y))))
        (λ (ne : p ≢ i).
        let b : nat_eq e.place p ≡ false = not_same e.place p (λ z. ne (sym z ∙ pl)) in
        step ∙ (ap (λ c. times_of p (map (λ (z : Listed). z.place) entries) + (if c then 1 else 0)) b
        ∙ (omega arith ∙ h.times p op' stamp' (omega arith) o' s'))) (same_or_not p i);
  }

  -- a sort moves the entries
  pub listed_sorted : (i : ℕ) (entries sorted : List Listed) → IsPermutation entries sorted →
      IsListedSoFar i entries → IsListedSoFar i sorted
  listed_sorted i entries sorted perm h = record {
    each = λ k e g.
        let all : All (λ e. IsEntry e × (e.place < i)) entries = λ k d l. h.each k (get_or entries k d) (slice_get-get_or entries k d l) in
        let w : IsEntry (get_or sorted k e) × ((get_or sorted k e).place < i) =
        All-permutation (λ e. IsEntry e × (e.place < i)) entries sorted perm all k e (slice_get_within sorted k e g) in
        subst (λ x. IsEntry x × (x.place < i)) (get_or_from_slice_get sorted k e e g) w;
    times = λ p op stamp l o s. sum_by-IsPermutation (λ r. if nat_eq r p then 1 else 0) (map (λ (e : Listed). e.place) entries)
        (map (λ (e : Listed). e.place) sorted) (IsPermutation-map (λ (e : Listed). e.place) entries sorted perm) ∙ h.times p op stamp l o s;
  }

-- how entries compare: by stamp, by whether they answer, by place
abbrev pub listed_cmp : Listed → Listed → Ordering
listed_cmp a b = ordering_then (ordering_then (nat_cmp a.stamp.tag b.stamp.tag) (nat_cmp a.stamp.writer b.stamp.writer))
    (ordering_then (bool_cmp a.answers b.answers) (nat_cmp a.place b.place))

cmp_less : (a b : ℕ) → a < b → nat_cmp a b ≡ Less
cmp_less a b l = let t : nat_lt a b ≡ true = grind (arith, nat_tests) in rw t refl

cmp_same : (a b : ℕ) → a ≡ b → nat_cmp a b ≡ Equal
cmp_same a b e = let t : nat_lt a b ≡ false = grind (arith, nat_tests) in let s : nat_eq a b ≡ true = same a b e in rw (t, s) refl

not_less : (q p : ℕ) → is_lt (nat_cmp q p) ≡ false → p ≤ q
not_less q p h = ⊎_elim (λ (l : q < p). absurd (let e : is_lt (nat_cmp q p) ≡ true = ap is_lt (cmp_less q p l) in
    let z : true ≡ false = sym e ∙ h in
    cc)) (λ (l : p ≤ q). l) (cases_lt q p)

answers_turn : (u v : Bool) (p q : ℕ) → is_lt (ordering_then (bool_cmp v u) (nat_cmp q p)) ≡ false →
    ((u ≡ false) × (v ≡ true)) ⊎ ((u ≡ v) × (p ≤ q))
answers_turn false false p q h = inr (refl, not_less q p h)
answers_turn false true p q h = inl (refl, refl)
answers_turn true false p q h = cc
answers_turn true true p q h = inr (refl, not_less q p h)

pub turn : (x y : Listed) → is_lt (listed_cmp y x) ≡ false → IsBelow x.stamp y.stamp
    ⊎ ((x.stamp ≡ y.stamp) × (((x.answers ≡ false) × (y.answers ≡ true)) ⊎ ((x.answers ≡ y.answers) × (x.place ≤ y.place))))
turn x y h = ⊎_elim
    (λ (e : x.stamp.tag ≡ y.stamp.tag). ⊎_elim
    (λ (f : x.stamp.writer ≡ y.stamp.writer).
    let a : nat_cmp y.stamp.tag x.stamp.tag ≡ Equal = cmp_same _ _ (sym e) in
    let b : nat_cmp y.stamp.writer x.stamp.writer ≡ Equal = cmp_same _ _ (sym f) in
    let g : is_lt (ordering_then (bool_cmp y.answers x.answers) (nat_cmp y.place x.place)) ≡ false
    = sym (ap (λ o. is_lt (ordering_then (ordering_then o (nat_cmp y.stamp.writer x.stamp.writer))
    (ordering_then (bool_cmp y.answers x.answers) (nat_cmp y.place x.place)))) a
    ∙ ap (λ o. is_lt (ordering_then o (ordering_then (bool_cmp y.answers x.answers) (nat_cmp y.place x.place)))) b) ∙ h in
    let s : x.stamp ≡ y.stamp = same_stamp x.stamp y.stamp e f in
    inr (s, answers_turn x.answers y.answers x.place y.place g))
    (λ w. ⊎_elim (λ (l : x.stamp.writer < y.stamp.writer). inl (inr (e, l)))
    (λ (l : y.stamp.writer < x.stamp.writer).
    let a : nat_cmp y.stamp.tag x.stamp.tag ≡ Equal = cmp_same _ _ (sym e) in
    let b : nat_cmp y.stamp.writer x.stamp.writer ≡ Less = cmp_less _ _ l in
    let g : true ≡ false = sym (ap (λ o. is_lt (ordering_then (ordering_then o (nat_cmp y.stamp.writer x.stamp.writer))
    (ordering_then (bool_cmp y.answers x.answers) (nat_cmp y.place x.place)))) a
    ∙ ap (λ o. is_lt (ordering_then o (ordering_then (bool_cmp y.answers x.answers) (nat_cmp y.place x.place)))) b) ∙ h in cc) w)
    (cases_order x.stamp.writer y.stamp.writer))
    (λ w. ⊎_elim (λ (l : x.stamp.tag < y.stamp.tag). inl (inl l))
    (λ (l : y.stamp.tag < x.stamp.tag).
    let a : nat_cmp y.stamp.tag x.stamp.tag ≡ Less = cmp_less _ _ l in
    let g : true ≡ false = sym (ap (λ o. is_lt (ordering_then (ordering_then o (nat_cmp y.stamp.writer x.stamp.writer))
    (ordering_then (bool_cmp y.answers x.answers) (nat_cmp y.place x.place)))) a) ∙ h in
    cc) w)
    (cases_order x.stamp.tag y.stamp.tag)
  where
    same_stamp : (s t : Stamp) → s.tag ≡ t.tag → s.writer ≡ t.writer → s ≡ t
    same_stamp s t e f = ap (λ n.
        let r : Stamp = record { tag = n; writer = s.writer } in
        r) e ∙ ap (λ n.
        let r : Stamp = record { tag = t.tag; writer = n } in
        r) f

module _ {R : Type 0} (ops : List (Op R)) (stamps : List (Option Stamp)) where
  answers_are : (x : Bool) (w : Bool) → w ≡ not x → x ≡ false → w ≡ true
  answers_are x w e f = e ∙ ap not f

  -- the sorted list of all operations is the order of the term
  pub in_order : (entries : List Listed) → length stamps ≡ length ops → IsListedSoFar ops stamps (length ops) entries →
      IsSorted listed_cmp entries → IsInOrder ops stamps (map (λ (e : Listed). e.place) entries)
  in_order entries long h up = record {
    places = λ i p g.
        let b = get_map_back (λ (e : Listed). e.place) entries i p g in
        let l : b.0.place < length ops = (h.each i b.0 b.1).1 in
        let s : b.0.place ≡ p = b.2 in
        omega arith;
    listed = λ p op stamp o s. h.times p op stamp (slice_get_within ops p op o) o s;
    sorted = λ i j p q a b s t l si sj ss st.
        let x = get_map_back (λ (e : Listed). e.place) entries i p si.0 in
        let y = get_map_back (λ (e : Listed). e.place) entries j q sj.0 in
        let ex : IsEntry ops stamps x.0 = (h.each i x.0 x.1).0 in
        let ey : IsEntry ops stamps y.0 = (h.each j y.0 y.1).0 in
        let lj : j < length entries = slice_get_within entries j y.0 y.1 in
        let far : is_lt (listed_cmp (get_or entries j x.0) (get_or entries i x.0)) ≡ false =
        sorted_far (λ u v. is_lt (listed_cmp u v)) (ranks_by ListedTotal (λ z. z)) entries up i j x.0 (omega arith) lj in
        let gx : get_or entries i x.0 ≡ x.0 = get_or_from_slice_get entries i x.0 x.0 x.1 in
        let gy : get_or entries j x.0 ≡ y.0 = get_or_from_slice_get entries j y.0 x.0 y.1 in
        let near : is_lt (listed_cmp y.0 x.0) ≡ false =
        ap (λ z. is_lt (listed_cmp z x.0)) (sym gy) ∙ (ap (λ z. is_lt (listed_cmp (get_or entries j x.0) z)) (sym gx) ∙ far) in
        let ax : ex.op ≡ a = same_Some ex.op a (sym ex.at ∙ (ap (slice_get ops) x.2 ∙ si.1)) in
        let by : ey.op ≡ b = same_Some ey.op b (sym ey.at ∙ (ap (slice_get ops) y.2 ∙ sj.1)) in
        let sx : x.0.stamp ≡ s =
        same_Some x.0.stamp s (same_Some (Some x.0.stamp) (Some s) (sym ex.chosen ∙ (ap (slice_get stamps) x.2 ∙ ss))) in
        let ty : y.0.stamp ≡ t =
        same_Some y.0.stamp t (same_Some (Some y.0.stamp) (Some t) (sym ey.chosen ∙ (ap (slice_get stamps) y.2 ∙ st))) in
        let wa : is_write a.kind ≡ not x.0.answers = ap (λ o. is_write o.kind) (sym ax) ∙ ex.kind in
        let wb : is_write b.kind ≡ not y.0.answers = ap (λ o. is_write o.kind) (sym by) ∙ ey.kind in
        let px : x.0.place ≡ p = x.2 in
        let qy : y.0.place ≡ q = y.2 in
        ⊎_elim
        (λ (u : IsBelow x.0.stamp y.0.stamp). inl (rw (sx, ty) at u))
        (λ (u : (x.0.stamp ≡ y.0.stamp)
        × (((x.0.answers ≡ false) × (y.0.answers ≡ true)) ⊎ ((x.0.answers ≡ y.0.answers) × (x.0.place ≤ y.0.place)))).
        inr (
          sym sx ∙ (u.0 ∙ ty),
          ⊎_elim
              (λ (v : (x.0.answers ≡ false) × (y.0.answers ≡ true)). inl (wa ∙ ap not v.0, wb ∙ ap not v.1))
              (λ (v : (x.0.answers ≡ y.0.answers) × (x.0.place ≤ y.0.place)).
              let le : x.0.place ≤ y.0.place = v.1 in
              inr (wa ∙ (ap not v.0 ∙ sym wb), omega arith)) u.1,
        ))
        (turn x.0 y.0 near);
  }

  pub entry_inside : (entries : List Listed) (i : ℕ) (d : Listed) → i < length entries →
      IsInOrder ops stamps (map (λ (e : Listed). e.place) entries) → (get_or entries i d).place < length ops
  entry_inside entries i d l h = h.places i (get_or entries i d).place
      (slice_get-map (λ (e : Listed). e.place) entries i ∙ ap (option_map (λ (e : Listed). e.place)) (slice_get-get_or entries i d l))
