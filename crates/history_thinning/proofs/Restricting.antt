-- An atomic order of the whole log, of which only the kept operations stay, is one of these, with as many writes before each.
use Rattle.std.proofs.Common.{◌≡◌, ℕ, zero, suc, ◌+◌, ◌<◌, ◌≤◌, true, false, cond, List, [], ◌∷◌, length, take, drop, get_or, slice_get}
use Rattle.std.proofs.Common.{Option, None, Some, arith}
use Rattle.std.proofs.Common.{refl, sym, ◌∙◌, ap, subst, inl, inr}
use Rattle.std.specs.Prelude.{nat_eq, nat_le, if◌then◌else◌, ◌&&◌}
use Rattle.std.specs.List.{fold}
use Rattle.std.specs.Option.{option_and_then}
use Rattle.std.proofs.lemmas.Bool.{cases_Bool, cases_eq, cases_order}
use Rattle.std.proofs.lemmas.Bool.Decides.{nat_tests}
use Rattle.std.proofs.lemmas.List.Sums.{sum_by-cons}
use Rattle.std.proofs.lemmas.Option.{same_Some, slice_get_within, slice_get-get_or, option_and_then_some}
use Rattle.history_core.specs.declared.history.Op.{Op}
use Rattle.history_core.specs.declared.history.Term.{Term}
use Rattle.history_core.specs.declared.history.Kind.{Kind}
use Rattle.history_core.specs.declared.history.Kind.TheVariants.{Write, Read, Refused}
use Rattle.history_core.specs.declared.history.Verdict.TheVariants.{Lawful}
use Rattle.history_core.specs.Orders.{IsAtomicOrder, IsVerdict, in_term, is_write, is_write_at, latest, left_at, MayStand, ReadsRight}
use Rattle.history_core.specs.Orders.{times_of, writes_in}
use Rattle.history_core.proofs.Latest.{left_unwritten}
use Rattle.history_core.proofs.Listing.{listing_from}
use Rattle.history_core.specs.Reasons.{IsLimited, IsRefusedUpTo, MayHaveFew}
use Rattle.history_core.proofs.Atomic.{IsSearched, some_from, stands, stands_once_at}
use Rattle.history_core.proofs.Counts.{front_get, get_front, of_one_term, times_some}
use Rattle.history_thinning.specs.Thinnings.{Equal, IsThinned, one_term}
use Rattle.history_thinning.proofs.Reasons.{place_of, same_index, write_kept}

-- where a number stands in a list
abbrev find_next : Option ℕ → Option ℕ
find_next None = None
find_next (Some i) = Some (suc i)

abbrev pub find : List ℕ → ℕ → Option ℕ
find [] p = None
find (x ∷ xs) p = if nat_eq x p then Some 0 else find_next (find xs p)

is_same : (x p : ℕ) → nat_eq x p ≡ true → x ≡ p
is_same x p h = grind (arith, nat_tests)

is_itself : (p : ℕ) → nat_eq p p ≡ true
is_itself p = grind (arith, nat_tests)

next_is : (found : Option ℕ) (i : ℕ) → find_next found ≡ Some i → (k : ℕ) × (found ≡ Some k) × (i ≡ suc k)
next_is None i h = cc
next_is (Some k) i h = (k, refl, sym (same_Some (suc k) i h))

find_is : (xs : List ℕ) (p i : ℕ) → find xs p ≡ Some i → slice_get xs i ≡ Some p
find_is [] p i h = cc
find_is (x ∷ xs) p i h = elim (cases_Bool (nat_eq x p)) [
  | inl t ↦
      let e : 0 ≡ i = same_Some 0 i (sym (ap (λ b. if b then Some 0 else find_next (find xs p)) t) ∙ h) in
      ap (slice_get (x ∷ xs)) (sym e) ∙ ap Some (is_same x p t)
  | inr f ↦
      let w = next_is (find xs p) i (sym (ap (λ b. if b then Some 0 else find_next (find xs p)) f) ∙ h) in
      ap (slice_get (x ∷ xs)) w.2 ∙ find_is xs p w.0 w.1
]

find_some : (xs : List ℕ) (p i : ℕ) → slice_get xs i ≡ Some p → (k : ℕ) × (find xs p ≡ Some k)
find_some [] p i h = cc
find_some (x ∷ xs) p zero h =
    let t : nat_eq x p ≡ true = ap (λ z. nat_eq z p) (same_Some x p h) ∙ is_itself p in
    (0, ap (λ b. if b then Some 0 else find_next (find xs p)) t)
find_some (x ∷ xs) p (suc i) h =
    let w = find_some xs p i h in
    elim (cases_Bool (nat_eq x p)) [
      | inl t ↦ (0, ap (λ b. if b then Some 0 else find_next (find xs p)) t)
      | inr f ↦ (suc w.0, ap (λ b. if b then Some 0 else find_next (find xs p)) f ∙ ap find_next w.1)
    ]

abbrev put : Option ℕ → List ℕ → List ℕ
put None xs = xs
put (Some i) xs = i ∷ xs

-- the kept ones of an order
abbrev pub keep : List ℕ → List ℕ → List ℕ
keep places [] = []
keep places (p ∷ ps) = put (find places p) (keep places ps)

none_op : Op ℕ
none_op = record { who = 0; kind = Read; starts = 0; ends = None; item = None }

abbrev pub one_term_of : ℕ → Term
one_term_of limit = record { first = 0; limit = limit }

pub all_within : (limit p : ℕ) → in_term (one_term_of limit) [] p ≡ true
all_within limit p = let t : nat_le 0 p ≡ true = grind (arith, nat_tests) in ap (λ b. b && true) t

module _ (places : List ℕ) where
  -- an entry of what is kept is one of the order, and what stands before it is what is kept of what stands before that
  record IsFrom (order : List ℕ) (e i : ℕ) : Type 0 where
    entry : ℕ
    place : ℕ
    at : slice_get order entry ≡ Some place
    found : find places place ≡ Some i
    front : take e (keep places order) ≡ keep places (take entry order)

  from_later : (x : ℕ) (xs : List ℕ) (e i : ℕ) → find places x ≡ None → IsFrom xs e i → IsFrom (x ∷ xs) e i
  from_later x xs e i none w = record {
    entry = suc w.entry;
    place = w.place;
    at = w.at;
    found = w.found;
    front = ap (λ z. take e (put z (keep places xs))) none ∙ w.front ∙ ap (λ z. put z (keep places (take w.entry xs))) (sym none);
  }

  from_first : (x : ℕ) (xs : List ℕ) (k : ℕ) → find places x ≡ Some k → IsFrom (x ∷ xs) 0 k
  from_first x xs k found = record { entry = 0; place = x; at = refl; found = found; front = refl }

  from_next : (x : ℕ) (xs : List ℕ) (e i k : ℕ) → find places x ≡ Some k → IsFrom xs e i → IsFrom (x ∷ xs) (suc e) i
  from_next x xs e i k found w = record {
    entry = suc w.entry;
    place = w.place;
    at = w.at;
    found = w.found;
    front = ap (λ z. take (suc e) (put z (keep places xs))) found ∙ ap (λ z. k ∷ z) w.front
        ∙ ap (λ z. put z (keep places (take w.entry xs))) (sym found);
  }

  kept_by : (x : ℕ) (xs : List ℕ) (found : Option ℕ) → find places x ≡ found → (e i : ℕ) → slice_get (put found (keep places xs)) e ≡
      Some i →
      ((d : ℕ) → slice_get (keep places xs) d ≡ Some i → IsFrom xs d i) → IsFrom (x ∷ xs) e i
  kept_by x xs None f e i h rest = from_later x xs e i f (rest e h)
  kept_by x xs (Some k) f zero i h rest = from_first x xs i (f ∙ ap Some (same_Some k i h))
  kept_by x xs (Some k) f (suc e) i h rest = from_next x xs e i k f (rest e h)

  kept_from : (order : List ℕ) (e i : ℕ) → slice_get (keep places order) e ≡ Some i → IsFrom order e i
  kept_from [] e i h = cc
  kept_from (x ∷ xs) e i h = kept_by x xs (find places x) refl e i h (λ d g. kept_from xs d i g)

  -- and each entry whose place is kept is kept
  put_stays : (found : Option ℕ) (xs : List ℕ) (e i : ℕ) → slice_get xs e ≡ Some i → (d : ℕ) × (slice_get (put found xs) d ≡ Some i)
  put_stays None xs e i h = (e, h)
  put_stays (Some k) xs e i h = (suc e, h)

  kept_entry : (order : List ℕ) (entry p i : ℕ) → slice_get order entry ≡ Some p → find places p ≡ Some i →
      (e : ℕ) × (slice_get (keep places order) e ≡ Some i)
  kept_entry [] entry p i h f = cc
  kept_entry (x ∷ xs) zero p i h f =
      let s : find places x ≡ Some i = ap (find places) (same_Some x p h) ∙ f in
      (0, ap (λ z. slice_get (put z (keep places xs)) 0) s)
  kept_entry (x ∷ xs) (suc entry) p i h f =
      let w = kept_entry xs entry p i h f in
      put_stays (find places x) (keep places xs) w.0 i w.1

module _ (log kept : List (Op ℕ)) (places : List ℕ) (thin : IsThinned Equal log kept places) (known : IsSearched Equal 0 log) where
  -- the same operation stands at a kept place and its index
  same_op : (p i : ℕ) → find places p ≡ Some i → slice_get log p ≡ slice_get kept i
  same_op p i f =
      let at = find_is places p i f in
      let l : i < length kept = omega (arith, slice_get_within places i p at, thin.long) in
      op_at at (slice_get kept i) refl l
    where
      op_at : slice_get places i ≡ Some p → (o : Option (Op ℕ)) → slice_get kept i ≡ o → i < length kept → slice_get log p ≡ slice_get
          kept i
      op_at at (Some o) e l = thin.are i p o at e ∙ sym e
      op_at at None e l =
          let some = slice_get-get_or kept i none_op l in
          cc

  not_kept : (p : ℕ) → find places p ≡ None → is_write_at (slice_get log p) ≡ false
  not_kept p none = by (slice_get log p) refl
    where
      by : (o : Option (Op ℕ)) → slice_get log p ≡ o → is_write_at o ≡ false
      by None e = refl
      by (Some o) e = elim (cases_Bool (is_write o.kind)) [
        | inr f ↦ f
        | inl t ↦
            let w = write_kept log kept places thin known p o e t in
            let f = find_some places p w.0 w.1 in
            cc
      ]

  writes_by : (x : ℕ) (xs : List ℕ) (found : Option ℕ) → find places x ≡ found →
      writes_in (λ _. true) kept (keep places xs) ≡ writes_in (λ _. true) log xs →
      writes_in (λ _. true) kept (put found (keep places xs)) ≡ writes_in (λ _. true) log (x ∷ xs)
  writes_by x xs None f rest =
      rest ∙ omega arith ∙ ap (λ b. cond b 1 0 + writes_in (λ _. true) log xs) (sym (not_kept x f))
      ∙ sym (sum_by-cons (λ q. cond (true && is_write_at (slice_get log q)) 1 0) x xs)
  writes_by x xs (Some i) f rest =
      sum_by-cons (λ q. cond (true && is_write_at (slice_get kept q)) 1 0) i (keep places xs)
      ∙ ap (λ o. cond (is_write_at o) 1 0 + writes_in (λ _. true) kept (keep places xs)) (sym (same_op x i f))
      ∙ ap (λ n. cond (is_write_at (slice_get log x)) 1 0 + n) rest
      ∙ sym (sum_by-cons (λ q. cond (true && is_write_at (slice_get log q)) 1 0) x xs)

  -- as many writes
  pub same_writes : (xs : List ℕ) → writes_in (λ _. true) kept (keep places xs) ≡ writes_in (λ _. true) log xs
  same_writes [] = refl
  same_writes (x ∷ xs) = writes_by x xs (find places x) refl (same_writes xs)

  latest_by : (r : Option ℕ) (x : ℕ) (xs : List ℕ) (found : Option ℕ) → find places x ≡ found →
      ((z : Option ℕ) → fold (λ z p. left_at z (slice_get kept p)) z (keep places xs) ≡ fold (λ z p. left_at z (slice_get log p)) z xs) →
      fold (λ z p. left_at z (slice_get kept p)) r (put found (keep places xs)) ≡ fold (λ z p. left_at z (slice_get log p)) r (x ∷ xs)
  latest_by r x xs None f rest =
      rest r ∙ ap (λ z. fold (λ z p. left_at z (slice_get log p)) z xs) (sym (left_unwritten r (slice_get log x) (not_kept x f)))
  latest_by r x xs (Some i) f rest =
      rest (left_at r (slice_get kept i))
      ∙ ap (λ o. fold (λ z p. left_at z (slice_get log p)) (left_at r o) xs) (sym (same_op x i f))

  -- and the same latest record
  latest_from : (r : Option ℕ) (xs : List ℕ) →
      fold (λ z p. left_at z (slice_get kept p)) r (keep places xs) ≡ fold (λ z p. left_at z (slice_get log p)) r xs
  latest_from r [] = refl
  latest_from r (x ∷ xs) = latest_by r x xs (find places x) refl (λ z. latest_from z xs)

  pub same_latest : (xs : List ℕ) → latest 0 kept (keep places xs) ≡ latest 0 log xs
  same_latest xs = latest_from (Some 0) xs

  module _ (order : List ℕ) (atomic : IsAtomicOrder Equal 0 log order) where
    -- an entry of what is kept of an atomic order, and its entry there
    pub record Comes (e i : ℕ) (o : Op ℕ) : Type 0 where
      pub entry : ℕ
      pub place : ℕ
      pub at : slice_get order entry ≡ Some place
      pub is : slice_get log place ≡ Some o
      pub index : slice_get places i ≡ Some place
      pub front : take e (keep places order) ≡ keep places (take entry order)

    pub comes : (e i : ℕ) (o : Op ℕ) → slice_get (keep places order) e ≡ Some i → slice_get kept i ≡ Some o → Comes e i o
    comes e i o h k =
        let w = kept_from places order e i h in
        record {
          entry = w.entry;
          place = w.place;
          at = w.at;
          is = same_op w.place i w.found ∙ k;
          index = find_is places w.place i w.found;
          front = w.front;
        }

    -- entries keep their order
    pub comes_before : (d e i k : ℕ) (a b : Op ℕ) → slice_get (keep places order) d ≡ Some i → (v : Comes d i a) → (w : Comes e k b) →
        d < e →
        v.entry < w.entry
    comes_before d e i k a b h v w l =
        let inside : slice_get (take e (keep places order)) d ≡ Some i = front_get (keep places order) e d i l h in
        let x = kept_from places (take w.entry order) d i (ap (λ z. slice_get z d) (sym w.front) ∙ inside) in
        let g = get_front order w.entry x.entry x.place x.at in
        let at : slice_get places i ≡ Some x.place = find_is places x.place i x.found in
        let same : x.place ≡ v.place = same_Some x.place v.place (sym at ∙ v.index) in
        let s : x.entry ≡ v.entry = stands_once_at Equal 0 log order known atomic x.entry v.entry v.place (g.1 ∙ ap Some same) v.at in
        let lt : x.entry < w.entry = g.0 in
        omega arith

    -- a kept operation that the order lists is kept of it
    pub goes : (entry p i : ℕ) → slice_get order entry ≡ Some p → slice_get places i ≡ Some p →
        (e : ℕ) × (slice_get (keep places order) e ≡ Some i)
    goes entry p i h at =
        let f = find_some places p i at in
        let s : f.0 ≡ i = same_index log kept places thin known f.0 i p (find_is places p f.0 f.1) at in
        kept_entry places order entry p i h (f.1 ∙ ap Some s)

    may_write : (kind : Kind) (n : ℕ) → 1 ≤ n → MayStand None kind n → is_write kind ≡ true
    may_write Write n l h = refl
    may_write Read n l h = absurd (omega (arith, h))
    may_write Refused n l h = absurd (omega (arith, h))

    unfinished_writes : (entry p : ℕ) (o : Op ℕ) → slice_get order entry ≡ Some p → slice_get log p ≡ Some o → o.ends ≡ None →
        is_write o.kind ≡ true
    unfinished_writes entry p o e f none =
        let m = atomic.listing.stands p o (omega arith) (slice_get_within log p o f) f in
        let P : Option ℕ → Type 0 = λ z. MayStand z o.kind (times_of p order) in
        may_write o.kind (times_of p order) (times_some p entry order e) (subst P none m)

    op_of : (e i : ℕ) → slice_get (keep places order) e ≡ Some i → (o : Op ℕ) × (slice_get kept i ≡ Some o)
    op_of e i h =
        let w = kept_from places order e i h in
        let at = find_is places w.place i w.found in
        let l : i < length kept = omega (arith, slice_get_within places i w.place at, thin.long) in
        (get_or kept i none_op, slice_get-get_or kept i none_op l)

    once_kept : (d e i : ℕ) → slice_get (keep places order) d ≡ Some i → slice_get (keep places order) e ≡ Some i → d ≡ e
    once_kept d e i h g =
        let o = op_of d i h in
        let v = comes d i o.0 h o.1 in
        let w = comes e i o.0 g o.1 in
        let same : v.place ≡ w.place = same_Some v.place w.place (sym v.index ∙ w.index) in
        let s : v.entry ≡ w.entry =
        stands_once_at Equal 0 log order known atomic v.entry w.entry w.place (v.at ∙ ap Some same) w.at in
        elim (cases_order d e) [
          | inl z ↦ z
          | inr (inl l) ↦ let b = comes_before d e i i o.0 o.0 h v w l in absurd (omega arith)
          | inr (inr l) ↦ let b = comes_before e d i i o.0 o.0 g w v l in absurd (omega arith)
        ]

    pub restricted : IsAtomicOrder Equal 0 kept (keep places order)
    restricted = record {
      listing = listing_from kept (keep places order)
          (λ e i h. let o = op_of e i h in slice_get_within kept i o.0 o.1)
          once_kept
          (λ i end o at f.
          let w = place_of log kept places thin known i o at in
          let s = stands Equal 0 log order known atomic w.0 o w.2 (some_from o.ends end f) in
          goes s.0 w.0 i s.1 w.1)
          (λ e i o at none.
          let v = comes e i o at.0 at.1 in
          unfinished_writes v.entry v.place o v.at v.is none);
      precedence = λ d e a b ha hb ne pre.
          option_and_then_some (slice_get kept) (slice_get (keep places order) d) a ha (λ i hi ki.
          option_and_then_some (slice_get kept) (slice_get (keep places order) e) b hb (λ k hk kk.
          let v = comes d i a hi ki in
          let w = comes e k b hk kk in
          elim (cases_order d e) [
            | inl s ↦ absurd (ne s)
            | inr (inl l) ↦ l
            | inr (inr l) ↦
                let back = comes_before e d k i b a hk w v l in
                let on : v.entry < w.entry = atomic.precedence v.entry w.entry a b (ap (option_and_then (slice_get log)) v.at ∙ v.is)
                (ap (option_and_then (slice_get log)) w.at ∙ w.is) (λ s. absurd (omega arith)) pre in
                absurd (omega arith)
          ]));
      reading = λ e o h.
          option_and_then_some (slice_get kept) (slice_get (keep places order) e) o h (λ i hi ki.
          let v = comes e i o hi ki in
          let right = atomic.reading v.entry o (ap (option_and_then (slice_get log)) v.at ∙ v.is) in
          let same : latest 0 log (take v.entry order) ≡ latest 0 kept (take e (keep places order)) =
          sym (same_latest (take v.entry order)) ∙ ap (latest 0 kept) (sym v.front) in
          let P : Option ℕ → Type 0 = λ z. ReadsRight Equal o.kind o.item z in
          subst P same right);
    }

    -- as many writes before it
    pub same_before : (e i : ℕ) (o : Op ℕ) → (v : Comes e i o) →
        writes_in (λ _. true) kept (take e (keep places order)) ≡ writes_in (λ _. true) log (take v.entry order)
    same_before e i o v = ap (writes_in (λ _. true) kept) v.front ∙ same_writes (take v.entry order)

    -- a kept order of a lawful one is lawful
    pub restricted_lawful : (limit : ℕ) → IsVerdict Equal 0 (one_term limit) log order Lawful →
        IsVerdict Equal 0 (one_term limit) kept (keep places order) Lawful
    restricted_lawful limit lawful = (restricted, λ k t at e i o h g r within. keeps k t at e i o h g r within)
      where
        keeps : (k : ℕ) (t : Term) → slice_get (one_term limit) k ≡ Some t → (e i : ℕ) (o : Op ℕ) →
            slice_get (keep places order) e ≡ Some i → slice_get kept i ≡ Some o → o.kind ≡ Refused →
            in_term t (drop (k + 1) (one_term limit)) i ≡ true →
            t.limit ≤ writes_in (in_term t (drop (k + 1) (one_term limit))) kept (take e (keep places order))
        keeps zero t at e i o h g r within =
            let v = comes e i o h g in
            let same : one_term_of limit ≡ t = same_Some (one_term_of limit) t at in
            let old = lawful.1 0 (one_term_of limit) refl v.entry v.place o v.at v.is r (all_within limit v.place) in
            let P : Term → Type 0 = λ z. z.limit ≤ writes_in (in_term z []) kept (take e (keep places order)) in
            let a : writes_in (in_term (one_term_of limit) []) log (take v.entry order) ≡ writes_in (λ _. true) log (take v.entry order) =
            of_one_term limit log (take v.entry order) in
            let b : writes_in (in_term (one_term_of limit) []) kept (take e (keep places order))
            ≡ writes_in (λ _. true) kept (take e (keep places order)) =
            of_one_term limit kept (take e (keep places order)) in
            let c = same_before e i o v in
            subst P same (omega (arith, old))
        keeps (suc k) t at e i o h g r within = cc

  -- a limit's reason of what was kept is one of the whole log, if some order of that has it with too few writes before it
  pub limit_of : (limit i p : ℕ) → slice_get places i ≡ Some p → IsLimited Equal 0 limit kept i → MayHaveFew Equal 0 limit log p →
      IsLimited Equal 0 limit log p
  limit_of limit i p index r may = record {
    op = r.op;
    at = thin.are i p r.op index r.at;
    finished = r.finished;
    refused = r.refused;
    may = may;
    few = few;
  }
    where
      few : (order : List ℕ) → IsAtomicOrder Equal 0 log order → (entry : ℕ) → slice_get order entry ≡ Some p →
          IsRefusedUpTo limit log order entry
      few order atomic entry at =
          let g = goes order atomic entry p i at index in
          let u = r.few (keep places order) (restricted order atomic) g.0 g.1 in
          let v = comes order atomic u.early u.place u.op u.listed u.at in
          let w = comes order atomic g.0 i r.op g.1 r.at in
          let same : w.place ≡ p = same_Some w.place p (sym w.index ∙ index) in
          let s : w.entry ≡ entry = stands_once_at Equal 0 log order known atomic w.entry entry p (w.at ∙ ap Some same) at in
          let c = same_before order atomic u.early u.place u.op v in
          let le : u.early ≤ g.0 = u.up_to in
          let up : v.entry ≤ entry = elim (cases_eq u.early g.0) [
            | inl z ↦
                let q : u.place ≡ i = same_Some u.place i (sym u.listed ∙ ap (slice_get (keep places order)) z ∙ g.1) in
                let pl : v.place ≡ p = same_Some v.place p (sym v.index ∙ ap (slice_get places) q ∙ index) in
                let x : v.entry ≡ entry = stands_once_at Equal 0 log order known atomic v.entry entry p (v.at ∙ ap Some pl) at in
                omega arith
            | inr ne ↦
                let b = comes_before order atomic u.early g.0 u.place i u.op r.op u.listed v w (omega arith) in
                omega arith
          ] in
          let few_there = u.few in
          record {
            early = v.entry;
            place = v.place;
            op = u.op;
            up_to = up;
            listed = v.at;
            at = v.is;
            refused = u.refused;
            few = omega (arith, few_there);
          }
