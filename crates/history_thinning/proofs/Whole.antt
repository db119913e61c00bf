-- The order of the whole log that an order of what was kept makes is atomic, has its writes as that one has them, and keeps its limit.
use Rattle.std.proofs.Common.{◌≡◌, ℕ, zero, suc, ◌+◌, ◌-◌, ◌<◌, ◌≤◌, Bool, true, false, cond, List, [], ◌∷◌, length, map, take}
use Rattle.std.proofs.Common.{get_or, slice_get, Option, None, Some, arith}
use Rattle.std.proofs.Common.{refl, sym, ◌∙◌, ap, subst, inl, inr, ◌⊎◌}
use Rattle.std.specs.Prelude.{IfSome, IsSome, is_some, if◌then◌else◌, ◌||◌, ◌&&◌}
use Rattle.std.specs.List.{count_by}
use Rattle.std.proofs.lemmas.Bool.{cases_Bool, cases_eq, cases_lt, cases_order}
use Rattle.std.proofs.lemmas.List.Sums.{sum_by-cons}
use Rattle.std.proofs.Math.Seq.{take-length}
use Rattle.std.proofs.lemmas.Option.{get_or_from_slice_get, same_Some, slice_get_within, slice_get_cases, slice_get-get_or}
use Rattle.history_core.specs.declared.history.Op.{Op}
use Rattle.history_core.specs.declared.history.Term.{Term}
use Rattle.history_core.specs.declared.history.Kind.{Kind}
use Rattle.history_core.specs.declared.history.Kind.TheVariants.{Write, Read, Refused}
use Rattle.history_core.specs.declared.history.Verdict.TheVariants.{Lawful}
use Rattle.history_core.specs.Numbers.{IsByNumber, StandsAt}
use Rattle.history_core.specs.Orders.{IsAtomicOrder, IsVerdict, in_term, is_write, is_write_at, RefusesLawfully, writes_in}
use Rattle.history_core.proofs.Latest.{HasItemByNumber, NoWriteBetween, reads_by_number}
use Rattle.history_core.proofs.Listed.{some_and_of}
use Rattle.history_core.proofs.Listing.{listing_from, StandsOnce, times_cases, times_once}
use Rattle.history_core.proofs.Numbered.{keeps_by_number}
use Rattle.history_core.specs.Reasons.{counts, IsOfOpening, MayHaveFew, OfOneRecord}
use Rattle.history_core.proofs.Atomic.{IsSearched, joined, led, no_early, of_one, opened, shares, some_from, stands}
use Rattle.history_core.proofs.Atomic.{stands_once_at, turned}
use Rattle.history_core.proofs.Counts.{count_up, counted, front_get, get_front, of_one_term, times_some, writes_next}
use Rattle.history_thinning.specs.Answers.{IsLawfulBy}
use Rattle.history_thinning.specs.Thinnings.{Equal, IsThinned, one_term}
use Rattle.history_thinning.specs.inner.Mapped.{AreWritePlaces, found_or, place_in}
use Rattle.history_thinning.proofs.Reasons.{alike, early_kept, kept_known, place_of, same_index}
use Rattle.history_thinning.proofs.Restricting.{all_within, one_term_of}
use Rattle.history_thinning.proofs.Expanding.{and_both, at_has, both, ComesFirst, has_any, is_record, is_whole, IsLed, IsWrittenAt}
use Rattle.history_thinning.proofs.Expanding.{kind_rank, leader, led_mate, more_writes, number, number_led, number_opened, number_or}
use Rattle.history_thinning.proofs.Expanding.{of_number, rank, record_of, rising, starts_of, stands_op, test, whole, whole_is, whole_up}

if_some : {X : Type 0} (P : X → Type 0) (o : Option X) → ((x : X) → o ≡ Some x → P x) → IfSome o P
if_some P None h = tt
if_some P (Some x) h = h x refl

rank_write : (b : Bool) → kind_rank b ≡ 0 → b ≡ true
rank_write true h = refl
rank_write false h = absurd (omega (arith, h))

rank_small : (b : Bool) → kind_rank b ≤ 1
rank_small true = omega arith
rank_small false = omega arith

or_right : (a b : Bool) → b ≡ true → (a || b) ≡ true
or_right true b h = refl
or_right false b h = h

finished_stands : (ends : Option ℕ) (b : Bool) → IsSome ends → (is_some ends || b) ≡ true
finished_stands None b h = cc
finished_stands (Some e) b h = refl

unfinished_writes : (ends : Option ℕ) (b c : Bool) → ends ≡ None → (is_some ends || (b && c)) ≡ true → b ≡ true
unfinished_writes None b c e h = (both b c h).0
unfinished_writes (Some x) b c e h = cc

other_finished : (ends : Option ℕ) (b c : Bool) → b ≡ false → (is_some ends || (b && c)) ≡ true → IsSome ends
other_finished None true c f h = cc
other_finished None false c f h = cc
other_finished (Some x) b c f h = refl

stands_counts : (ends : Option ℕ) (b c : Bool) → (is_some ends || (b && c)) ≡ true → (is_some ends || b) ≡ true
stands_counts None b c h = (both b c h).0
stands_counts (Some e) b c h = refl

map_at : (f : ℕ → ℕ) (xs : List ℕ) (k x : ℕ) → slice_get xs k ≡ Some x → slice_get (map f xs) k ≡ Some (f x)
map_at f [] k x h = cc
map_at f (y ∷ xs) zero x h = ap (λ z. Some (f z)) (same_Some y x h)
map_at f (y ∷ xs) (suc k) x h = map_at f xs k x h

map_back : (f : ℕ → ℕ) (xs : List ℕ) (k q : ℕ) → slice_get (map f xs) k ≡ Some q → (x : ℕ) × (slice_get xs k ≡ Some x) × (f x ≡ q)
map_back f [] k q h = cc
map_back f (y ∷ xs) zero q h = (y, refl, same_Some (f y) q h)
map_back f (y ∷ xs) (suc k) q h = map_back f xs k q h

-- as many entries, where each that passes stands in the other list
fewer : (pass : ℕ → Bool) (xs ys : List ℕ) → StandsOnce xs →
    ((i q : ℕ) → slice_get xs i ≡ Some q → pass q ≡ true → (k : ℕ) × (slice_get ys k ≡ Some q)) → count_by pass xs ≤ count_by pass ys
fewer pass xs ys once h = counted pass xs ys (λ q t. elim (times_cases q xs) [
  | inl w ↦
      let a = times_once q w.0 xs once w.1 in
      let m = h w.0 q w.1 t in
      let b = times_some q m.0 ys m.1 in
      omega arith
  | inr z ↦ omega arith
])

written_op : (o : Option (Op ℕ)) → is_write_at o ≡ true → (a : Op ℕ) × (o ≡ Some a) × (is_write a.kind ≡ true)
written_op None h = cc
written_op (Some a) h = (a, refl, h)

-- no write between, no more writes
writes_stay : (ops : List (Op ℕ)) (order : List ℕ) (m d : ℕ) → m + d ≤ length order → NoWriteBetween ops order m (m + d) →
    writes_in (λ _. true) ops (take (m + d) order) ≡ writes_in (λ _. true) ops (take m order)
writes_stay ops order m zero le none = ap (λ n. writes_in (λ _. true) ops (take n order)) (omega arith)
writes_stay ops order m (suc d) le none =
    let n : ℕ = m + d in
    let next : m + suc d ≡ n + 1 = omega arith in
    let at : slice_get order n ≡ Some (get_or order n 0) = slice_get-get_or order n 0 (omega arith) in
    let f : is_write_at (slice_get ops (get_or order n 0)) ≡ false = none n (get_or order n 0) (omega arith) (omega arith) at in
    ap (λ k. writes_in (λ _. true) ops (take k order)) next
    ∙ writes_next ops order n (omega arith)
    ∙ ap (λ b. writes_in (λ _. true) ops (take n order) + (if b then 1 else 0)) f
    ∙ omega arith
    ∙ writes_stay ops order m d (omega arith) (λ i p mi id e. none i p mi (omega arith) e)

writes_same : (ops : List (Op ℕ)) (order : List ℕ) (m n : ℕ) → m ≤ n → n ≤ length order → NoWriteBetween ops order m n →
    writes_in (λ _. true) ops (take n order) ≡ writes_in (λ _. true) ops (take m order)
writes_same ops order m n le long none =
    let d : ℕ = n - m in
    let s : m + (n - m) ≡ n = omega arith in
    ap (λ k. writes_in (λ _. true) ops (take k order)) (sym s)
    ∙ writes_stay ops order m (n - m) (omega arith) (λ i p mi id e. none i p mi (omega arith) e)

module _ (log kept : List (Op ℕ)) (places : List ℕ) (thin : IsThinned Equal log kept places) (known : IsSearched Equal 0 log) (order :
    List ℕ)
    (atomic : IsAtomicOrder Equal 0 kept order) where
  kk : IsSearched Equal 0 kept
  kk = kept_known log kept places thin known

  abbrev all : List ℕ
  all = whole log kept places thin known order atomic

  abbrev number_at : ℕ → ℕ
  number_at = number log kept places thin known order atomic

  abbrev stands_in_all : Option (Op ℕ) → Bool
  stands_in_all = stands_op log kept places thin known order atomic

  abbrev First : ℕ → ℕ → Type 0
  First = ComesFirst log kept places thin known order atomic

  abbrev Led : Op ℕ → Type 0
  Led = IsLed log kept places thin known order atomic

  stood : (i p : ℕ) (o : Op ℕ) → StandsAt log all i p o → stands_in_all (Some o) ≡ true
  stood i p o at =
      let w = whole_is log kept places thin known order atomic i p at.0 in
      let s : w.0 ≡ o = same_Some w.0 o (sym w.1 ∙ at.1) in
      subst (λ (z : Op ℕ). stands_in_all (Some z) ≡ true) s w.2

  led_at : (i p : ℕ) (o : Op ℕ) → StandsAt log all i p o → IsOfOpening Equal 0 o ⊎ Led o
  led_at i p o at = leader log kept places thin known order atomic p o at.1 (stood i p o at)

  counted_at : (i p : ℕ) (o : Op ℕ) → StandsAt log all i p o → counts o ≡ true
  counted_at i p o at = stands_counts o.ends (is_write o.kind) _ (stood i p o at)

  kind_at : (p : ℕ) (o : Op ℕ) → slice_get log p ≡ Some o → kind_rank (is_write_at (slice_get log p)) ≡ kind_rank (is_write o.kind)
  kind_at p o e = ap (λ z. kind_rank (is_write_at z)) e

  start_at : (p : ℕ) (o : Op ℕ) → slice_get log p ≡ Some o → starts_of (slice_get log p) ≡ o.starts
  start_at p o e = ap starts_of e

  irreflexive : (p : ℕ) → First p p → ⊥
  irreflexive p (inl l) = omega arith
  irreflexive p (inr x) = elim x.1 [
    | inl l ↦ omega arith
    | inr y ↦ elim y.1 [ inl l ↦ omega arith | inr z ↦ let l : p < p = z.1 in omega arith ]
  ]

  up_at : (i j p q : ℕ) (a b : Op ℕ) → StandsAt log all i p a → StandsAt log all j q b → i < j → First p q
  up_at i j p q a b at_a at_b l = whole_up log kept places thin known order atomic i j p q at_a.0 at_b.0 l

  once_all : StandsOnce all
  once_all i j p ei ej = elim (cases_order i j) [
    | inl s ↦ s
    | inr (inl l) ↦ absurd (irreflexive p (whole_up log kept places thin known order atomic i j p p ei ej l))
    | inr (inr l) ↦ absurd (irreflexive p (whole_up log kept places thin known order atomic j i p p ej ei l))
  ]

  sorted : (i j p q : ℕ) (a b : Op ℕ) → StandsAt log all i p a → StandsAt log all j q b → i < j → number_at p ≤ number_at q
  sorted i j p q a b at_a at_b l = elim (up_at i j p q a b at_a at_b l) [
    | inl lt ↦ let k : number_at p < number_at q = lt in omega arith
    | inr x ↦ let e : number_at p ≡ number_at q = x.0 in omega arith
  ]

  one_record : (i j p q : ℕ) (a b : Op ℕ) → StandsAt log all i p a → StandsAt log all j q b → number_at p ≡ number_at q →
      OfOneRecord Equal a b
  one_record i j p q a b at_a at_b same =
      of_number log kept places thin known order atomic p q a b at_a.1 at_b.1 (stood i p a at_a) (stood j q b at_b) same

  write_first : (i j p q : ℕ) (a b : Op ℕ) → StandsAt log all i p a → StandsAt log all j q b → i < j → number_at p ≡ number_at q →
      is_write b.kind ≡ false
  write_first i j p q a b at_a at_b l same = elim (cases_Bool (is_write b.kind)) [
    | inr f ↦ f
    | inl t ↦
        let kq : kind_rank (is_write_at (slice_get log q)) ≡ 0 = kind_at q b at_b.1 ∙ ap kind_rank t in
        elim (up_at i j p q a b at_a at_b l) [
          | inl lt ↦ let k : number_at p < number_at q = lt in absurd (omega arith)
          | inr x ↦ elim x.1 [
            | inl k ↦
                let less : kind_rank (is_write_at (slice_get log p)) < kind_rank (is_write_at (slice_get log q)) = k in
                absurd (omega arith)
            | inr y ↦
                let ka : kind_rank (is_write a.kind) ≡ 0 = sym (kind_at p a at_a.1) ∙ y.0 ∙ kq in
                let ta = rank_write (is_write a.kind) ka in
                let s : p ≡ q = known.once p q a b at_a.1 at_b.1 ta t (one_record i j p q a b at_a at_b same) in
                let z = once_all i j q (at_a.0 ∙ ap Some s) at_b.0 in
                absurd (omega arith)
          ]
        ]
  ]

  pub by_beginning : (i j p q : ℕ) (a b : Op ℕ) → StandsAt log all i p a → StandsAt log all j q b → i < j → number_at p ≡ number_at q →
      is_write a.kind ≡ false → a.starts ≤ b.starts
  by_beginning i j p q a b at_a at_b l same f =
      let kp : kind_rank (is_write_at (slice_get log p)) ≡ 1 = kind_at p a at_a.1 ∙ ap kind_rank f in
      let small = rank_small (is_write_at (slice_get log q)) in
      let sa = start_at p a at_a.1 in
      let sb = start_at q b at_b.1 in
      elim (up_at i j p q a b at_a at_b l) [
        | inl lt ↦ let k : number_at p < number_at q = lt in absurd (omega arith)
        | inr x ↦ elim x.1 [
          | inl k ↦
              let less : kind_rank (is_write_at (slice_get log p)) < kind_rank (is_write_at (slice_get log q)) = k in
              absurd (omega arith)
          | inr y ↦ elim y.1 [
            | inl k ↦ let less : starts_of (slice_get log p) < starts_of (slice_get log q) = k in omega arith
            | inr z ↦ let e : starts_of (slice_get log p) ≡ starts_of (slice_get log q) = z.0 in omega arith
          ]
        ]
      ]

  by_number : IsByNumber number_at log all
  by_number = record {
    rises = λ i j p q a b at_a at_b pre.
        rising log kept places thin known order atomic p q a b at_a.1 at_b.1 (stood i p a at_a) (stood j q b at_b)
        (counted_at j q b at_b) pre;
    sorted = sorted;
    write_first = write_first;
    by_beginning = by_beginning;
    after_write = λ i j p q a b at_a at_b l same t pre.
        let w = early_kept log kept places thin known q p b a at_b.1 at_a.1 t (one_record j i q p b a at_b at_a (sym same)) pre in
        no_early Equal 0 kept order kk atomic w.0 w.1 w.2;
    forwards = λ i p a at. if_some (λ end. a.starts ≤ end) a.ends (λ end e. known.forwards p end a at.1 e);
  }

  stands_written : (r entry i : ℕ) (a : Op ℕ) → IsWrittenAt log kept places thin known order atomic r entry i a →
      stands_in_all (Some a) ≡ true
  stands_written r entry i a w =
      let has : has_any (λ q. test log kept places thin known order atomic r q) order ≡ true =
      at_has (λ q. test log kept places thin known order atomic r q) order entry i w.at
      (is_record r (slice_get kept i) a w.is w.writes w.item) in
      let n : number_or a.item ≡ r = ap number_or w.item in
      let there : has_any (λ q. test log kept places thin known order atomic (number_or a.item) q) order ≡ true =
      subst (λ z. has_any (λ q. test log kept places thin known order atomic z q) order ≡ true) (sym n) has in
      or_right (is_some a.ends) _ (and_both (is_write a.kind) _ w.writes there)

  -- the write that leads stands too, with its number
  record LedIn (o : Op ℕ) (led : Led o) : Type 0 where
    place : ℕ
    at : slice_get places led.index ≡ Some place
    is : slice_get log place ≡ Some led.write
    entry : ℕ
    listed : slice_get all entry ≡ Some place

  led_in : (o : Op ℕ) (w : Led o) → LedIn o w
  led_in o w =
      let x = place_of log kept places thin known w.index w.write w.at.is in
      let y = is_whole log kept places thin known order atomic x.0 w.write x.2
      (stands_written w.number w.entry w.index w.write w.at) in
      record { place = x.0; at = x.1; is = x.2; entry = y.0; listed = y.1 }

  rank_at : ℕ → ℕ
  rank_at r = rank log kept places thin known order atomic r

  same_number : (p q : ℕ) (a b : Op ℕ) (r : ℕ) → slice_get log p ≡ Some a → slice_get log q ≡ Some b → a.item ≡ Some r → b.item ≡ Some r →
      number_at p ≡ number_at q
  same_number p q a b r ea eb ia ib =
      ap (λ z. rank log kept places thin known order atomic (record_of z)) ea
      ∙ ap (λ z. rank log kept places thin known order atomic (number_or z)) (ia ∙ sym ib)
      ∙ sym (ap (λ z. rank log kept places thin known order atomic (record_of z)) eb)

  items : (i p : ℕ) (o : Op ℕ) → StandsAt log all i p o → IsSome o.item
  items i p o at = elim (led_at i p o at) [
    | inl h ↦ let x = some_and_of (λ z. Equal z 0) o.item h in some_from o.item x.0 x.1
    | inr w ↦ some_from o.item w.number w.item
  ]

  from : (i p : ℕ) (o : Op ℕ) → StandsAt log all i p o → is_write o.kind ≡ false → HasItemByNumber number_at 0 log all p o
  from i p o at f = elim (led_at i p o at) [
    | inl h ↦
        let x = some_and_of (λ z. Equal z 0) o.item h in
        let n : number_at p ≡ 0 = number_opened log kept places thin known order atomic p o at.1 h in
        inr (
          x.1 ∙ ap Some x.2,
          λ j q w at_w t. elim (led_at j q w at_w) [
            | inl k ↦ absurd (known.fresh q w at_w.1 t k)
            | inr y ↦ let m = number_led log kept places thin known order atomic q w at_w.1 y in omega arith
          ],
        )
    | inr y ↦
        let x = led_in o y in
        inl (
          x.entry,
          x.place,
          y.write,
          (x.listed, x.is),
          y.at.writes,
          same_number x.place p y.write o y.number x.is at.1 y.at.item y.item,
          y.item ∙ sym y.at.item,
        )
  ]

  pub atomic_whole : IsAtomicOrder Equal 0 log all
  atomic_whole = record {
    listing = listing_from log all
        (λ i p e. let w = whole_is log kept places thin known order atomic i p e in slice_get_within log p w.0 w.1)
        once_all
        (λ p end o at e. is_whole log kept places thin known order atomic p o at
        (finished_stands o.ends _ (some_from o.ends end e)))
        (λ i p o at none. unfinished_writes o.ends (is_write o.kind) _ none (stood i p o at));
    precedence = keeps_by_number number_at log all by_number;
    reading = reads_by_number number_at 0 log all by_number items from;
  }

  -- ---- counts
  abbrev placed : ℕ → ℕ
  placed q = place_in places q

  placed_is : (q p : ℕ) → slice_get places q ≡ Some p → placed q ≡ p
  placed_is q p e = ap (λ z. found_or z q) e

  placed_op : (q : ℕ) → q < length kept → slice_get log (placed q) ≡ slice_get kept q
  placed_op q l = elim (slice_get_cases kept q).1 [
    | inl x ↦
        let w = place_of log kept places thin known q x.0 x.2 in
        ap (slice_get log) (placed_is q w.0 w.1) ∙ w.2 ∙ sym x.2
    | inr x ↦ absurd (omega (arith, x.0))
  ]

  mapped : (xs : List ℕ) → ((k q : ℕ) → slice_get xs k ≡ Some q → q < length kept) →
      writes_in (λ _. true) log (map placed xs) ≡ writes_in (λ _. true) kept xs
  mapped [] h = refl
  mapped (x ∷ xs) h =
      sum_by-cons (λ q. cond (true && is_write_at (slice_get log q)) 1 0) (placed x) (map placed xs)
      ∙ ap (λ o. cond (is_write_at o) 1 0 + writes_in (λ _. true) log (map placed xs)) (placed_op x (h 0 x refl))
      ∙ ap (λ n. cond (is_write_at (slice_get kept x)) 1 0 + n) (mapped xs (λ k q e. h (suc k) q e))
      ∙ sym (sum_by-cons (λ q. cond (true && is_write_at (slice_get kept q)) 1 0) x xs)

  -- what one writes of a record, the other doesn't
  led_place : (p : ℕ) (o : Op ℕ) (w : Led o) → slice_get log p ≡ Some o → is_write o.kind ≡ true → slice_get places w.index ≡ Some p
  led_place p o w e t =
      let x = led_in o w in
      let s : x.place ≡ p = known.once x.place p w.write o x.is e w.at.writes t
      (of_one Equal w.write o w.number w.number w.at.item w.item refl) in
      x.at ∙ ap Some s

  -- as many writes up to an entry of the one order as of the other
  pub same_count : (i e : ℕ) →
      ((j q : ℕ) (b : Op ℕ) → StandsAt log all j q b → is_write b.kind ≡ true → (z : Led b) → j < i → z.entry < e) →
      ((j q : ℕ) (b : Op ℕ) → StandsAt log all j q b → is_write b.kind ≡ true → (z : Led b) → z.entry < e → j < i) →
      writes_in (λ _. true) log (take i all) ≡ writes_in (λ _. true) kept (take e order)
  same_count i e there back =
      let pass : ℕ → Bool = λ q. true && is_write_at (slice_get log q) in
      let up = fewer pass (take i all) (map placed (take e order)) once_front forth in
      let down = fewer pass (map placed (take e order)) (take i all) once_placed onto in
      let m = mapped (take e order) (λ k q h. atomic.listing.places k q (get_front order e k q h).1) in
      omega arith
    where
      once_front : StandsOnce (take i all)
      once_front j k p ej ek = once_all j k p (get_front all i j p ej).1 (get_front all i k p ek).1

      once_placed : StandsOnce (map placed (take e order))
      once_placed j k p ej ek =
          let x = map_back placed (take e order) j p ej in
          let y = map_back placed (take e order) k p ek in
          let u = get_front order e j x.0 x.1 in
          let v = get_front order e k y.0 y.1 in
          let lx : x.0 < length kept = atomic.listing.places j x.0 u.1 in
          let ly : y.0 < length kept = atomic.listing.places k y.0 v.1 in
          let px : slice_get places x.0 ≡ Some (get_or places x.0 0) = slice_get-get_or places x.0 0 (omega (arith, thin.long)) in
          let py : slice_get places y.0 ≡ Some (get_or places y.0 0) = slice_get-get_or places y.0 0 (omega (arith, thin.long)) in
          let qx : slice_get places x.0 ≡ Some p = px ∙ ap Some (sym (placed_is x.0 (get_or places x.0 0) px) ∙ x.2) in
          let qy : slice_get places y.0 ≡ Some p = py ∙ ap Some (sym (placed_is y.0 (get_or places y.0 0) py) ∙ y.2) in
          let s : x.0 ≡ y.0 = same_index log kept places thin known x.0 y.0 p qx qy in
          stands_once_at Equal 0 kept order kk atomic j k y.0 (u.1 ∙ ap Some s) v.1

      forth : (j q : ℕ) → slice_get (take i all) j ≡ Some q → (true && is_write_at (slice_get log q)) ≡ true →
          (k : ℕ) × (slice_get (map placed (take e order)) k ≡ Some q)
      forth j q h t =
          let g = get_front all i j q h in
          let b = written_op (slice_get log q) t in
          elim (led_at j q b.0 (g.1, b.1)) [
            | inl o ↦ absurd (known.fresh q b.0 b.1 b.2 o)
            | inr z ↦
                let l = there j q b.0 (g.1, b.1) b.2 z g.0 in
                let at = front_get order e z.entry z.index l z.at.at in
                (z.entry, map_at placed (take e order) z.entry z.index at ∙ ap Some (placed_is z.index q (led_place q b.0 z b.1 b.2)))
          ]

      onto : (k q : ℕ) → slice_get (map placed (take e order)) k ≡ Some q → (true && is_write_at (slice_get log q)) ≡ true →
          (j : ℕ) × (slice_get (take i all) j ≡ Some q)
      onto k q h t =
          let x = map_back placed (take e order) k q h in
          let g = get_front order e k x.0 x.1 in
          let b = written_op (slice_get log q) t in
          let is : slice_get kept x.0 ≡ Some b.0 =
          sym (placed_op x.0 (atomic.listing.places k x.0 g.1)) ∙ ap (slice_get log) x.2 ∙ b.1 in
          elim (led Equal 0 kept order kk atomic k x.0 b.0 g.1 is) [
            | inr y ↦ absurd (known.fresh q b.0 b.1 b.2 y.1)
            | inl y ↦
                let one = shares Equal b.0 y.2 y.3.one in
                let w : IsWrittenAt log kept places thin known order atomic one.x k x.0 b.0 =
                record { at = g.1; is = is; writes = b.2; item = one.has_x } in
                let z : Led b.0 = record { number = one.x; item = one.has_x; entry = k; index = x.0; write = b.0; at = w } in
                let a = is_whole log kept places thin known order atomic q b.0 b.1 (stands_written one.x k x.0 b.0 w) in
                let l = back a.0 q b.0 (a.1, b.1) b.2 z g.0 in
                (a.0, front_get all i a.0 q l a.1)
          ]

  pub same_total : writes_in (λ _. true) log (take (length all) all) ≡ writes_in (λ _. true) kept (take (length order) order)
  same_total = same_count (length all) (length order)
      (λ j q b at t z l. slice_get_within order z.entry z.index z.at.at)
      (λ j q b at t z l. slice_get_within all j q at.0)

  number_of : (p : ℕ) (o : Op ℕ) → slice_get log p ≡ Some o → (w : Led o) →
      number_at p ≡ 1 + writes_in (λ _. true) kept (take w.entry order)
  number_of p o e w = number_led log kept places thin known order atomic p o e w

  more : (a b : Op ℕ) (v : Led a) (w : Led b) → v.entry < w.entry →
      writes_in (λ _. true) kept (take v.entry order) < writes_in (λ _. true) kept (take w.entry order)
  more a b v w l = more_writes log kept places thin known order atomic v.entry w.entry v.index v.write v.at.at v.at.is v.at.writes l

  -- before a write
  pub count_at_write : (i p : ℕ) (o : Op ℕ) → StandsAt log all i p o → is_write o.kind ≡ true → (w : Led o) →
      writes_in (λ _. true) log (take i all) ≡ writes_in (λ _. true) kept (take w.entry order)
  count_at_write i p o at t w = same_count i w.entry there back
    where
      n : number_at p ≡ 1 + writes_in (λ _. true) kept (take w.entry order)
      n = number_of p o at.1 w

      there : (j q : ℕ) (b : Op ℕ) → StandsAt log all j q b → is_write b.kind ≡ true → (z : Led b) → j < i → z.entry < w.entry
      there j q b at_b u z l =
          let m = number_of q b at_b.1 z in
          let le : number_at q ≤ number_at p = sorted j i q p b o at_b at l in
          elim (cases_order z.entry w.entry) [
            | inr (inl lt) ↦ lt
            | inl s ↦
                let same : number_at q ≡ number_at p =
                m ∙ ap (λ k. 1 + writes_in (λ _. true) kept (take k order)) s ∙ sym n in
                let f = write_first j i q p b o at_b at l same in
                cc
            | inr (inr gt) ↦ let x = more o b w z gt in absurd (omega (arith, n))
          ]

      back : (j q : ℕ) (b : Op ℕ) → StandsAt log all j q b → is_write b.kind ≡ true → (z : Led b) → z.entry < w.entry → j < i
      back j q b at_b u z l =
          let m = number_of q b at_b.1 z in
          let x = more b o z w l in
          elim (cases_order j i) [
            | inr (inl lt) ↦ lt
            | inl s ↦
                let same : q ≡ p = same_Some q p (sym at_b.0 ∙ ap (slice_get all) s ∙ at.0) in
                let e : number_at q ≡ number_at p = ap number_at same in
                absurd (omega (arith, n))
            | inr (inr gt) ↦ let le : number_at p ≤ number_at q = sorted i j p q o b at at_b gt in absurd (omega (arith, n))
          ]

  -- before an answer: its write too
  pub count_at_answer : (i p : ℕ) (o : Op ℕ) → StandsAt log all i p o → is_write o.kind ≡ false → (w : Led o) →
      writes_in (λ _. true) log (take i all) ≡ writes_in (λ _. true) kept (take (w.entry + 1) order)
  count_at_answer i p o at f w = same_count i (w.entry + 1) there back
    where
      n : number_at p ≡ 1 + writes_in (λ _. true) kept (take w.entry order)
      n = number_of p o at.1 w

      there : (j q : ℕ) (b : Op ℕ) → StandsAt log all j q b → is_write b.kind ≡ true → (z : Led b) → j < i → z.entry < w.entry + 1
      there j q b at_b u z l =
          let m = number_of q b at_b.1 z in
          let le : number_at q ≤ number_at p = sorted j i q p b o at_b at l in
          elim (cases_lt w.entry z.entry) [
            | inl gt ↦ let x = more o b w z gt in absurd (omega (arith, n))
            | inr le2 ↦ omega arith
          ]

      back : (j q : ℕ) (b : Op ℕ) → StandsAt log all j q b → is_write b.kind ≡ true → (z : Led b) → z.entry < w.entry + 1 → j < i
      back j q b at_b u z l =
          let m = number_of q b at_b.1 z in
          let up : number_at q ≤ number_at p = elim (cases_eq z.entry w.entry) [
            | inl s ↦
                let same : number_at q ≡ number_at p = m ∙ ap (λ k. 1 + writes_in (λ _. true) kept (take k order)) s ∙ sym n in
                omega arith
            | inr ne ↦ let x = more b o z w (omega arith) in omega (arith, n)
          ] in
          elim (cases_order j i) [
            | inr (inl lt) ↦ lt
            | inl s ↦
                let same : q ≡ p = same_Some q p (sym at_b.0 ∙ ap (slice_get all) s ∙ at.0) in
                let so : b ≡ o = same_Some b o (sym at_b.1 ∙ ap (slice_get log) same ∙ at.1) in
                let k : is_write b.kind ≡ is_write o.kind = ap (λ (x : Op ℕ). is_write x.kind) so in
                cc
            | inr (inr gt) ↦
                let le : number_at p ≤ number_at q = sorted i j p q o b at at_b gt in
                let not_write = write_first i j p q o b at at_b gt (omega (arith, n)) in
                cc
          ]

  refused_kind : (kind : Kind) → kind ≡ Refused → is_write kind ≡ false
  refused_kind Write h = cc
  refused_kind Read h = cc
  refused_kind Refused h = refl

  -- a refused write has as many writes before it as one kept of its record
  enough : (limit : ℕ) → IsVerdict Equal 0 (one_term limit) kept order Lawful → (i p : ℕ) (o : Op ℕ) → StandsAt log all i p o →
      o.kind ≡ Refused → limit ≤ writes_in (λ _. true) log (take i all)
  enough limit lawful i p o at r =
      let f : is_write o.kind ≡ false = refused_kind o.kind r in
      let ended = other_finished o.ends (is_write o.kind) _ f (stood i p o at) in
      let m = thin.refused p o at.1 ended r in
      let s = stands Equal 0 kept order kk atomic m.0 m.1 m.2.at m.3 in
      let few : (e : ℕ) → slice_get order e ≡ Some m.0 → limit ≤ writes_in (λ _. true) kept (take e order) =
      λ e ee.
      let old = lawful.1 0 (one_term_of limit) refl e m.0 m.1 ee m.2.at m.4 (all_within limit m.0) in
      let c : writes_in (in_term (one_term_of limit) []) kept (take e order) ≡ writes_in (λ _. true) kept (take e order) =
      of_one_term limit kept (take e order) in
      omega (arith, old) in
      elim (led_at i p o at) [
        | inr w ↦
            let one : OfOneRecord Equal w.write m.1 = joined Equal alike w.write o m.1
            (of_one Equal w.write o w.number w.number w.at.item w.item refl) m.2.one in
            let count : counts m.1 ≡ true = finished_stands m.1.ends (is_write m.1.kind) m.3 in
            let x = led_mate log kept places thin known order atomic w.number w.entry w.index m.0 w.write m.1 w.at m.2.at count one in
            let l = few x.0 x.1 in
            let c = count_at_answer i p o at f w in
            let up_to : w.entry ≤ x.0 = x.2.up_to in
            let long = slice_get_within order x.0 m.0 x.1 in
            let same : writes_in (λ _. true) kept (take (x.0 + 1) order) ≡ writes_in (λ _. true) kept (take (w.entry + 1) order) =
            writes_same kept order (w.entry + 1) (x.0 + 1) (omega arith) (omega arith) x.2.none in
            let grow : writes_in (λ _. true) kept (take x.0 order) ≤ writes_in (λ _. true) kept (take (x.0 + 1) order) =
            count_up (λ q. true && is_write_at (slice_get kept q)) order x.0 (x.0 + 1) (omega arith) in
            omega arith
        | inl h ↦
            let oo : IsOfOpening Equal 0 m.1 = opened Equal alike 0 m.1 o (turned Equal alike o m.1 m.2.one) h in
            elim (led Equal 0 kept order kk atomic s.0 m.0 m.1 s.1 m.2.at) [
              | inl x ↦ absurd (kk.fresh x.1 x.2 x.3.is x.3.writes
                  (opened Equal alike 0 x.2 m.1 (turned Equal alike m.1 x.2 x.3.one) oo))
              | inr y ↦
                  let l = few s.0 s.1 in
                  let long = slice_get_within order s.0 m.0 s.1 in
                  let same : writes_in (λ _. true) kept (take (s.0 + 1) order) ≡ writes_in (λ _. true) kept (take 0 order) =
                  writes_same kept order 0 (s.0 + 1) (omega arith) (omega arith) y.0 in
                  let grow : writes_in (λ _. true) kept (take s.0 order) ≤ writes_in (λ _. true) kept (take (s.0 + 1) order) =
                  count_up (λ q. true && is_write_at (slice_get kept q)) order s.0 (s.0 + 1) (omega arith) in
                  let none : writes_in (λ _. true) kept (take 0 order) ≡ 0 = refl in
                  omega arith
            ]
      ]

  refuses : (limit : ℕ) → IsVerdict Equal 0 (one_term limit) kept order Lawful → RefusesLawfully (one_term limit) log all
  refuses limit lawful zero t at i p o ei eo r within =
      let e = enough limit lawful i p o (ei, eo) r in
      let c : writes_in (in_term (one_term_of limit) []) log (take i all) ≡ writes_in (λ _. true) log (take i all) =
      of_one_term limit log (take i all) in
      let same : one_term_of limit ≡ t = same_Some (one_term_of limit) t at in
      let P : Term → Type 0 = λ z. z.limit ≤ writes_in (in_term z []) log (take i all) in
      subst P same (omega arith)
  refuses limit lawful (suc k) t at i p o ei eo r within = cc

  -- the whole log's order, with the writes as they were listed
  pub lawful_whole : (limit : ℕ) → IsVerdict Equal 0 (one_term limit) kept order Lawful → (writes : List ℕ) →
      AreWritePlaces kept places order (length order) writes → IsLawfulBy limit log writes all
  lawful_whole limit lawful writes are = record {
    lawful = (atomic_whole, refuses limit lawful);
    long = are.long ∙ sym same_total ∙ ap (writes_in (λ _. true) log) (take-length all);
    listed = λ i p o at t. elim (led_at i p o at) [
      | inl h ↦ absurd (known.fresh p o at.1 t h)
      | inr w ↦
          let c = count_at_write i p o at t w in
          let k : is_write_at (slice_get kept w.index) ≡ true = ap is_write_at w.at.is ∙ w.at.writes in
          ap (slice_get writes) c ∙ are.listed w.entry w.index (slice_get_within order w.entry w.index w.at.at) w.at.at k
          ∙ ap Some (placed_is w.index p (led_place p o w at.1 t))
    ];
    by_beginning = λ i j p q a b at_a at_b l f one.
        let x = shares Equal a b one in
        by_beginning i j p q a b at_a at_b l (same_number p q a b x.x at_a.1 at_b.1 x.has_x (x.has_y ∙ ap Some (sym x.same))) f;
  }

  -- a kept refused write has as many writes before it there
  same_at_refused : (i p e entry : ℕ) (o : Op ℕ) → slice_get kept i ≡ Some o → IsSome o.ends → o.kind ≡ Refused →
      slice_get order e ≡ Some i → StandsAt log all entry p o →
      writes_in (λ _. true) log (take entry all) ≡ writes_in (λ _. true) kept (take e order)
  same_at_refused i p e entry o is ended r listed at = elim (led_at entry p o at) [
    | inr w ↦
        let f : is_write o.kind ≡ false = refused_kind o.kind r in
        let x = led_mate log kept places thin known order atomic w.number w.entry w.index i w.write o w.at is
        (finished_stands o.ends (is_write o.kind) ended) (of_one Equal w.write o w.number w.number w.at.item w.item refl) in
        let s : x.0 ≡ e = stands_once_at Equal 0 kept order kk atomic x.0 e i x.1 listed in
        let long = slice_get_within order x.0 i x.1 in
        let up_to : w.entry ≤ x.0 = x.2.up_to in
        let same : writes_in (λ _. true) kept (take (x.0 + 1) order) ≡ writes_in (λ _. true) kept (take (w.entry + 1) order) =
        writes_same kept order (w.entry + 1) (x.0 + 1) (omega arith) (omega arith) x.2.none in
        let none : is_write_at (slice_get kept (get_or order x.0 0)) ≡ false =
        ap (λ z. is_write_at (slice_get kept z)) (get_or_from_slice_get order x.0 i 0 x.1) ∙ ap is_write_at is ∙ f in
        count_at_answer entry p o at f w ∙ sym same ∙ writes_next kept order x.0 long
        ∙ ap (λ b. writes_in (λ _. true) kept (take x.0 order) + (if b then 1 else 0)) none ∙ omega arith
        ∙ ap (λ n. writes_in (λ _. true) kept (take n order)) s
    | inl h ↦ same_count entry e
        (λ j q b at_b t z l.
        let m = number_of q b at_b.1 z in
        let n = number_opened log kept places thin known order atomic p o at.1 h in
        let le : number_at q ≤ number_at p = sorted j entry q p b o at_b at l in
        absurd (omega arith))
        (λ j q b at_b t z l.
        let none : is_write_at (slice_get kept z.index) ≡ false = front h z.entry z.index (omega arith) (omega (arith, l)) z.at.at in
        let some : is_write_at (slice_get kept z.index) ≡ true = ap is_write_at z.at.is ∙ z.at.writes in
        cc)
  ]
    where
      front : IsOfOpening Equal 0 o → NoWriteBetween kept order 0 (e + 1)
      front h = elim (led Equal 0 kept order kk atomic e i o listed is) [
        | inl x ↦ absurd (kk.fresh x.1 x.2 x.3.is x.3.writes (opened Equal alike 0 x.2 o (turned Equal alike o x.2 x.3.one) h))
        | inr y ↦ y.0
      ]

  -- so where a kept refused write has fewer than the limit before it, it has so few there
  pub may_whole : (limit i p e : ℕ) (o : Op ℕ) → slice_get places i ≡ Some p → slice_get kept i ≡ Some o → IsSome o.ends →
      o.kind ≡ Refused → slice_get order e ≡ Some i → writes_in (λ _. true) kept (take e order) < limit → MayHaveFew Equal 0 limit log p
  may_whole limit i p e o index is ended r listed few =
      let at : slice_get log p ≡ Some o = thin.are i p o index is in
      let w = is_whole log kept places thin known order atomic p o at (finished_stands o.ends _ ended) in
      let same = same_at_refused i p e w.0 o is ended r listed (w.1, at) in
      record { order = all; atomic = atomic_whole; entry = w.0; listed = w.1; few = omega (arith, few) }
