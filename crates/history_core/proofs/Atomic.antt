-- In an atomic order each read stands after the write of its record with no other write between, so that what is of one record stands
-- together: each reason but the limit's contradicts an atomic order.
use Rattle.std.proofs.Common.{◌≡◌, ℕ, zero, suc, ◌+◌, ◌<◌, ◌≤◌, true, false, List, length, take, get_or, refl}
use Rattle.std.proofs.Common.{sym, ◌∙◌, ap, subst, arith, ◌⊎◌, inl, inr, slice_get, Option, None, Some}
use Rattle.std.specs.Prelude.{IsSome, IsSomeAnd, is_some, ◌||◌, nat_eq, if◌then◌else◌}
use Rattle.std.specs.Option.{option_and_then}
use Rattle.std.proofs.lemmas.Bool.Decides.{nat_tests}
use Rattle.std.proofs.lemmas.List.{take-take}
use Rattle.std.proofs.lemmas.Bool.{cases_lt, cases_order, cases_eq, cases_Bool}
use Rattle.std.proofs.lemmas.Option.{slice_get_within, same_Some, slice_get_cases, option_and_then_some, get_or_from_slice_get}
use Rattle.history_core.specs.declared.history.Op.{Op}
use Rattle.history_core.specs.declared.history.Kind.{Kind}
use Rattle.history_core.specs.declared.history.Kind.TheVariants.{Write, Read, Refused}
use Rattle.history_core.specs.Orders.{IsAtomicOrder, is_write, is_write_at, latest, listed_at, MayStand, Precedes, ReadsRight, times_of}
use Rattle.history_core.proofs.Latest.{latest_is_opening, latest_is_written, NoWriteBetween}
use Rattle.history_core.proofs.Counting.{stands_once, times_more, times_take_le}
use Rattle.history_core.proofs.Listed.{some_and_of}
use Rattle.history_core.proofs.Listing.{times_cases}
use Rattle.history_core.specs.Reasons.{counts, IsCrossed, IsEarly, IsOfOpening, IsStale, IsUnwritten, OfOneRecord}

-- of one record, with both records at hand
pub record Shares {R : Type 0} (Same : R → R → Type 0) (a b : Op R) : Type 0 where
  pub x : R
  pub y : R
  pub has_x : a.item ≡ Some x
  pub has_y : b.item ≡ Some y
  pub same : Same x y

shares_items : {R : Type 0} (Same : R → R → Type 0) (i k : Option R) → IsSomeAnd i (λ x. IsSomeAnd k (λ y. Same x y)) →
    (x : R) × (y : R) × (i ≡ Some x) × (k ≡ Some y) × Same x y
shares_items Same None k h = absurd h
shares_items Same (Some x) None h = absurd h
shares_items Same (Some x) (Some y) h = (x, y, refl, refl, h)

pub shares : {R : Type 0} (Same : R → R → Type 0) (a b : Op R) → OfOneRecord Same a b → Shares Same a b
shares Same a b h =
    let w = shares_items Same a.item b.item h in
    record { x = w.0; y = w.1; has_x = w.2; has_y = w.3; same = w.4 }

pub of_one : {R : Type 0} (Same : R → R → Type 0) (a b : Op R) (x y : R) → a.item ≡ Some x →
    b.item ≡ Some y → Same x y → OfOneRecord Same a b
of_one {R} Same a b x y ex ey h =
    let P : Option R → Option R → Type 0 = λ i k. IsSomeAnd i (λ x. IsSomeAnd k (λ y. Same x y)) in
    subst (λ i. P i b.item) (sym ex) (subst (λ k. P (Some x) k) (sym ey) h)

pub of_opening : {R : Type 0} (Same : R → R → Type 0) (opening : R) (a : Op R) (x : R) → a.item ≡ Some x → Same x opening →
    IsOfOpening Same opening a
of_opening {R} Same opening a x ex h = let P : Option R → Type 0 = λ i. IsSomeAnd i (λ x. Same x opening) in subst P (sym ex) h

-- an equivalence
pub record IsAlike {R : Type 0} (Same : R → R → Type 0) : Type 0 where
  pub itself : (x : R) → Same x x
  pub turn : (x y : R) → Same x y → Same y x
  pub join : (x y z : R) → Same x y → Same y z → Same x z

-- what is known of a history that can be searched
pub record IsSearched {R : Type 0} (Same : R → R → Type 0) (opening : R) (ops : List (Op R)) : Type 0 where
  pub alike : IsAlike Same
  pub forwards : (p end : ℕ) (o : Op R) → slice_get ops p ≡ Some o → o.ends ≡ Some end → o.starts ≤ end
  pub once : (p q : ℕ) (a b : Op R) → slice_get ops p ≡ Some a → slice_get ops q ≡ Some b → is_write a.kind ≡ true →
      is_write b.kind ≡ true → OfOneRecord Same a b → p ≡ q
  pub fresh : (p : ℕ) (a : Op R) → slice_get ops p ≡ Some a → is_write a.kind ≡ true → IsOfOpening Same opening a → ⊥

module _ {R : Type 0} (Same : R → R → Type 0) where
  pub turned : IsAlike Same → (a b : Op R) → OfOneRecord Same a b → OfOneRecord Same b a
  turned alike a b h = let w = shares Same a b h in of_one Same b a w.y w.x w.has_y w.has_x (alike.turn w.x w.y w.same)

  pub joined : IsAlike Same → (a b c : Op R) → OfOneRecord Same a b → OfOneRecord Same b c → OfOneRecord Same a c
  joined alike a b c h k =
      let v = shares Same a b h in
      let w = shares Same b c k in
      let e : v.y ≡ w.x = same_Some v.y w.x (sym v.has_y ∙ w.has_x) in
      of_one Same a c v.x w.y v.has_x w.has_y (alike.join v.x v.y w.y v.same (subst (λ z. Same z w.y) (sym e) w.same))

  -- of one record, and one of it is the opening
  pub opened : IsAlike Same → (opening : R) (a b : Op R) → OfOneRecord Same a b → IsOfOpening Same opening b → IsOfOpening Same opening a
  opened alike opening a b h k =
      let v = shares Same a b h in
      let w = some_and_of (λ x. Same x opening) b.item k in
      let e : w.0 ≡ v.y = same_Some w.0 v.y (sym w.1 ∙ v.has_y) in
      of_opening Same opening a v.x v.has_x (alike.join v.x v.y opening v.same (subst (λ z. Same z opening) e w.2))

  pub both_opened : IsAlike Same → (opening : R) (a b : Op R) → IsOfOpening Same opening a →
      IsOfOpening Same opening b → OfOneRecord Same a b
  both_opened alike opening a b h k =
      let v = some_and_of (λ x. Same x opening) a.item h in
      let w = some_and_of (λ x. Same x opening) b.item k in
      of_one Same a b v.0 w.0 v.1 w.1 (alike.join v.0 opening w.0 v.2 (alike.turn w.0 opening w.2))

-- the write at entry j leads what stands at entry i: itself, or the last write before it, whose record it has
pub record Leads {R : Type 0} (Same : R → R → Type 0) (ops : List (Op R)) (order : List ℕ) (i : ℕ) (o : Op R) (j w : ℕ) (a : Op R) :
    Type 0 where
  pub at : slice_get order j ≡ Some w
  pub is : slice_get ops w ≡ Some a
  pub writes : is_write a.kind ≡ true
  pub up_to : j ≤ i
  pub none : NoWriteBetween ops order (j + 1) (i + 1)
  pub one : OfOneRecord Same o a

-- the last write before entry n
record LastWrite {R : Type 0} (ops : List (Op R)) (order : List ℕ) (n j w : ℕ) (a : Op R) : Type 0 where
  at : slice_get order j ≡ Some w
  is : slice_get ops w ≡ Some a
  writes : is_write a.kind ≡ true
  before : j < n
  none : NoWriteBetween ops order (j + 1) n

none_more : {R : Type 0} (ops : List (Op R)) (order : List ℕ) (m n : ℕ) → is_write_at (listed_at ops order n) ≡ false →
    NoWriteBetween ops order m n → NoWriteBetween ops order m (n + 1)
none_more ops order m n f h i p mi il e = elim (cases_lt i n) [
  | inl l ↦ h i p mi l e
  | inr l ↦
      let s : n ≡ i = omega arith in
      let g : listed_at ops order n ≡ slice_get ops p = ap (λ k. listed_at ops order k) s ∙ ap (option_and_then (slice_get ops)) e in
      ap is_write_at (sym g) ∙ f
]

written_at : {R : Type 0} (o : Option (Op R)) → is_write_at o ≡ true → (a : Op R) × (o ≡ Some a) × (is_write a.kind ≡ true)
written_at None h = cc
written_at (Some a) h = (a, refl, h)

last_write : {R : Type 0} (ops : List (Op R)) (order : List ℕ) (n : ℕ) →
    ((j : ℕ) × (w : ℕ) × (a : Op R) × LastWrite ops order n j w a) ⊎ NoWriteBetween ops order 0 n
last_write ops order zero = inr (λ i p _ l e. absurd (omega arith))
last_write ops order (suc n) = elim (cases_Bool (is_write_at (listed_at ops order n))) [
  | inl t ↦
      let w = written_at (listed_at ops order n) t in
      option_and_then_some (slice_get ops) (slice_get order n) w.0 w.1 (λ p e f. inl (
        n,
        p,
        w.0,
        record { at = e; is = f; writes = w.2; before = omega arith; none = λ i q mi il g. absurd (omega arith) },
      ))
  | inr f ↦ elim (last_write ops order n) [
    | inl x ↦
        let r = x.3 in
        let more : NoWriteBetween ops order (x.0 + 1) (suc n) =
        λ i p mi il e. none_more ops order (x.0 + 1) n f r.none i p mi (omega arith) e in
        let b : x.0 < suc n = let l = r.before in omega arith in
        inl (x.0, x.1, x.2, record { at = r.at; is = r.is; writes = r.writes; before = b; none = more })
    | inr h ↦ inr (λ i p mi il e. none_more ops order 0 n f h i p mi (omega arith) e)
  ]
]

right_of : {R : Type 0} (Same : R → R → Type 0) (kind : Kind) (item before : Option R) → is_write kind ≡ false →
    ReadsRight Same kind item before → IsSomeAnd item (λ x. IsSomeAnd before (λ y. Same x y))
right_of Same Write item before f h = cc
right_of Same Read item before f h = h
right_of Same Refused item before f h = h

has_item : {R : Type 0} (Same : R → R → Type 0) (kind : Kind) (item before : Option R) → is_write kind ≡ true →
    ReadsRight Same kind item before → IsSome item
has_item Same Write item before t h = h
has_item Same Read item before t h = cc
has_item Same Refused item before t h = cc

pub some_of : {X : Type 0} (o : Option X) → IsSome o → (x : X) × (o ≡ Some x)
some_of None h = cc
some_of (Some x) h = (x, refl)

pub some_from : {X : Type 0} (o : Option X) (x : X) → o ≡ Some x → IsSome o
some_from {X} o x e = let P : Option X → Type 0 = λ w. IsSome w in subst P (sym e) refl

stands_by : (ends : Option ℕ) (kind : Kind) (n : ℕ) → IsSome ends → MayStand ends kind n → n ≡ 1
stands_by None kind n h m = cc
stands_by (Some e) kind n h m = m

times_up : (order : List ℕ) (p i j : ℕ) → i < j → j < length order → get_or order i 0 ≡ p → get_or order j 0 ≡ p → 2 ≤ times_of p order
times_up order p i j ij jl ei ej =
    let yes : (k : ℕ) → get_or order k 0 ≡ p → nat_eq (get_or order k 0) p ≡ true = λ k e. grind (arith, nat_tests) in
    let a : times_of p (take (i + 1) order) ≡ times_of p (take i order) + 1 =
    times_more order i p (omega arith) ∙ ap (λ b. times_of p (take i order) + (if b then 1 else 0)) (yes i ei) in
    let b : times_of p (take (j + 1) order) ≡ times_of p (take j order) + 1 =
    times_more order j p jl ∙ ap (λ b. times_of p (take j order) + (if b then 1 else 0)) (yes j ej) in
    let e : times_of p (take (i + 1) (take j order)) ≡ times_of p (take (i + 1) order) =
    ap (times_of p) (take-take (i + 1) j order (omega arith)) in
    let c : times_of p (take (i + 1) (take j order)) ≤ times_of p (take j order) = times_take_le (take j order) (i + 1) p in
    let d : times_of p (take (j + 1) order) ≤ times_of p order = times_take_le order (j + 1) p in
    omega arith

-- no place stands twice where it may stand once at most
pub once_at : (order : List ℕ) (p i j : ℕ) → times_of p order ≤ 1 → slice_get order i ≡ Some p → slice_get order j ≡ Some p → i ≡ j
once_at order p i j le ei ej =
    let gi = get_or_from_slice_get order i p 0 ei in
    let gj = get_or_from_slice_get order j p 0 ej in
    let li = slice_get_within order i p ei in
    let lj = slice_get_within order j p ej in
    elim (cases_order i j) [
      | inl e ↦ e
      | inr (inl l) ↦ let t = times_up order p i j l lj gi gj in omega arith
      | inr (inr l) ↦ let t = times_up order p j i l li gj gi in omega arith
    ]

module _ {R : Type 0} (Same : R → R → Type 0) (opening : R) (ops : List (Op R)) (order : List ℕ) (known : IsSearched Same opening ops)
    (atomic : IsAtomicOrder Same opening ops order) where
  listed : (i p : ℕ) (o : Op R) → slice_get order i ≡ Some p → slice_get ops p ≡ Some o → listed_at ops order i ≡ Some o
  listed i p o e f = ap (option_and_then (slice_get ops)) e ∙ f

  -- a finished operation stands
  pub stands : (p : ℕ) (o : Op R) → slice_get ops p ≡ Some o → IsSome o.ends → (i : ℕ) × (slice_get order i ≡ Some p)
  stands p o e h =
      let m = stands_by o.ends o.kind (times_of p order) h (atomic.listing.stands p o (omega arith) (slice_get_within ops p o e) e) in
      elim (times_cases p order) [ inl w ↦ w | inr z ↦ absurd (omega arith) ]

  -- each place stands once
  pub stands_once_at : (i j p : ℕ) → slice_get order i ≡ Some p → slice_get order j ≡ Some p → i ≡ j
  stands_once_at i j p ei ej =
      let l : p < length ops = atomic.listing.places i p ei in
      elim (slice_get_cases ops p).1 [
        | inl w ↦ once_at order p i j (stands_once w.0.ends w.0.kind (times_of p order) (atomic.listing.stands p w.0 (omega arith) l w.2))
            ei ej
        | inr w ↦ absurd (omega (arith, w.0))
      ]

  -- what stands at an entry is led by a write, or is of the opening and no write stands up to it
  pub led : (i p : ℕ) (o : Op R) → slice_get order i ≡ Some p → slice_get ops p ≡ Some o →
      ((j : ℕ) × (w : ℕ) × (a : Op R) × Leads Same ops order i o j w a)
      ⊎ (NoWriteBetween ops order 0 (i + 1) × IsOfOpening Same opening o)
  led i p o e f = elim (cases_Bool (is_write o.kind)) [
    | inl t ↦
        let w = some_of o.item (has_item Same o.kind o.item _ t (atomic.reading i o (listed i p o e f))) in
        inl (
          i,
          p,
          o,
          record {
            at = e;
            is = f;
            writes = t;
            up_to = omega arith;
            none = λ k q mk kl g. absurd (omega arith);
            one = of_one Same o o w.0 w.0 w.1 w.1 (known.alike.itself w.0);
          },
        )
    | inr n ↦
        let here : is_write_at (listed_at ops order i) ≡ false = ap is_write_at (listed i p o e f) ∙ n in
        let right = right_of Same o.kind o.item (latest opening ops (take i order)) n (atomic.reading i o (listed i p o e f)) in
        let long : i ≤ length order = let l = slice_get_within order i p e in omega arith in
        let P : Option R → Type 0 = λ z. IsSomeAnd o.item (λ x. IsSomeAnd z (λ y. Same x y)) in
        elim (last_write ops order i) [
          | inl x ↦
              let r = x.3 in
              let l : latest opening ops (take i order) ≡ x.2.item =
              latest_is_written opening ops order x.0 i x.1 x.2 (r.at, r.is) r.writes r.before long r.none in
              inl (
                x.0,
                x.1,
                x.2,
                record {
                  at = r.at;
                  is = r.is;
                  writes = r.writes;
                  up_to = let b = r.before in omega arith;
                  none = none_more ops order (x.0 + 1) i here r.none;
                  one = subst P l right;
                },
              )
          | inr h ↦ inr (none_more ops order 0 i here h, subst P (latest_is_opening opening ops order i long h) right)
        ]
  ]

  -- of two listed operations one that precedes the other stands before it
  pub before : (i j p q : ℕ) (a b : Op R) → slice_get order i ≡ Some p → slice_get ops p ≡ Some a → slice_get order j ≡ Some q →
      slice_get ops q ≡ Some b → Precedes a b → i < j
  before i j p q a b ei ea ej eb pre = elim (cases_eq i j) [
    | inr ne ↦ atomic.precedence i j a b (listed i p a ei ea) (listed j q b ej eb) ne pre
    | inl s ↦
        let x = some_and_of (λ end. end < b.starts) a.ends pre in
        let l : a.starts ≤ x.0 = known.forwards p x.0 a ea x.1 in
        let same_place : p ≡ q = same_Some p q (sym ei ∙ ap (slice_get order) s ∙ ej) in
        let same_op : a ≡ b = same_Some a b (sym ea ∙ ap (slice_get ops) same_place ∙ eb) in
        let starts : a.starts ≡ b.starts = ap (λ (o : Op R). o.starts) same_op in
        let y : x.0 < b.starts = x.2 in
        absurd (omega arith)
  ]

  pub finished_before : (a b : Op R) → Precedes a b → IsSome a.ends
  finished_before a b pre = let x = some_and_of (λ end. end < b.starts) a.ends pre in some_from a.ends x.0 x.1

  pub no_unwritten : (read : ℕ) → IsUnwritten Same opening ops read → ⊥
  no_unwritten read r =
      let i = stands read r.op r.at r.finished in
      elim (led i.0 read r.op i.1 r.at) [ inl x ↦ r.written x.1 x.2 x.3.is x.3.writes x.3.one | inr y ↦ r.opened y.1 ]

  pub no_early : (read write : ℕ) → IsEarly Same ops read write → ⊥
  no_early read write r =
      let i = stands read r.op r.at (finished_before r.op r.source r.precedes) in
      elim (led i.0 read r.op i.1 r.at) [
        | inl x ↦
            let s : x.1 ≡ write = known.once x.1 write x.2 r.source x.3.is r.source_at x.3.writes r.writes
            (joined Same known.alike x.2 r.op r.source (turned Same known.alike r.op x.2 x.3.one) r.one) in
            let l : i.0 < x.0 = before i.0 x.0 read write r.op r.source i.1 r.at (x.3.at ∙ ap Some s) r.source_at r.precedes in
            omega (arith, x.3.up_to)
        | inr y ↦ known.fresh write r.source r.source_at r.writes
            (opened Same known.alike opening r.source r.op (turned Same known.alike r.op r.source r.one) y.1)
      ]

  -- after a read of the opening no write stands
  unwritten_up_to : (i p : ℕ) (o : Op R) → slice_get order i ≡ Some p → slice_get ops p ≡ Some o → IsOfOpening Same opening o →
      NoWriteBetween ops order 0 (i + 1)
  unwritten_up_to i p o e f h = elim (led i p o e f) [
    | inl x ↦ absurd (known.fresh x.1 x.2 x.3.is x.3.writes
        (opened Same known.alike opening x.2 o (turned Same known.alike o x.2 x.3.one) h))
    | inr y ↦ y.0
  ]

  pub no_stale : (earlier read : ℕ) → IsStale Same opening ops earlier read → ⊥
  no_stale earlier read r =
      let i = stands read r.op r.at r.finished in
      let j = stands earlier r.other r.other_at (finished_before r.other r.op r.precedes) in
      let none = unwritten_up_to i.0 read r.op i.1 r.at r.opened in
      let l : j.0 < i.0 = before j.0 i.0 earlier read r.other r.op j.1 r.other_at i.1 r.at r.precedes in
      elim (led j.0 earlier r.other j.1 r.other_at) [
        | inl x ↦
            let f : is_write_at (slice_get ops x.1) ≡ false = none x.0 x.1 (omega arith) (omega (arith, x.3.up_to)) x.3.at in
            let t : is_write_at (slice_get ops x.1) ≡ true = ap is_write_at x.3.is ∙ x.3.writes in
            cc
        | inr y ↦ r.another y.1
      ]

  -- what an earlier write leads stands before a later write
  pub led_before : (i j w k v : ℕ) (o a b : Op R) → Leads Same ops order i o j w a → j < k → slice_get order k ≡ Some v →
      slice_get ops v ≡ Some b → is_write b.kind ≡ true → i < k
  led_before i j w k v o a b x jk ek eb t = elim (cases_lt i k) [
    | inl l ↦ l
    | inr le ↦
        let f : is_write_at (slice_get ops v) ≡ false = x.none k v (omega arith) (omega arith) ek in
        let g : is_write_at (slice_get ops v) ≡ true = ap is_write_at eb ∙ t in
        cc
  ]

  -- what counts and is of the record of what a write leads stands, and the same write leads it
  pub mate : (i p j w q : ℕ) (o a b : Op R) → slice_get order i ≡ Some p → slice_get ops p ≡ Some o → Leads Same ops order i o j w a →
      slice_get ops q ≡ Some b → counts b ≡ true → OfOneRecord Same o b →
      (k : ℕ) × (slice_get order k ≡ Some q) × Leads Same ops order k b j w a
  mate i p j w q o a b ei eo x eb count one = elim (cases_Bool (is_some b.ends)) [
    | inl t ↦
        let k = stands q b eb t in
        elim (led k.0 q b k.1 eb) [
          | inl y ↦
              let s : y.1 ≡ w = known.once y.1 w y.2 a y.3.is x.is y.3.writes x.writes
              (joined Same known.alike y.2 b a (turned Same known.alike b y.2 y.3.one)
              (joined Same known.alike b o a (turned Same known.alike o b one) x.one)) in
              let sj : y.0 ≡ j = stands_once_at y.0 j w (y.3.at ∙ ap Some s) x.at in
              let sa : y.2 ≡ a = same_Some y.2 a (sym y.3.is ∙ ap (slice_get ops) s ∙ x.is) in
              let P : ℕ → ℕ → Op R → Type 0 = λ m n z. Leads Same ops order k.0 b m n z in
              (k.0, k.1, subst (λ m. P m w a) sj (subst (λ n. P y.0 n a) s (subst (λ z. P y.0 y.1 z) sa y.3)))
          | inr y ↦ absurd (known.fresh w a x.is x.writes (opened Same known.alike opening a b
              (joined Same known.alike a o b (turned Same known.alike o a x.one) one) y.1))
        ]
    | inr f ↦
        let t : is_write b.kind ≡ true = subst (λ z. (z || is_write b.kind) ≡ true) f count in
        let s : q ≡ w = known.once q w b a eb x.is t x.writes (joined Same known.alike b o a (turned Same known.alike o b one) x.one) in
        let sa : a ≡ b = same_Some a b (sym x.is ∙ ap (slice_get ops) (sym s) ∙ eb) in (
          j,
          x.at ∙ ap Some (sym s),
          record {
            at = x.at;
            is = x.is;
            writes = x.writes;
            up_to = omega arith;
            none = λ m v mj jm g. absurd (omega arith);
            one = turned Same known.alike a b (let P : Op R → Type 0 = λ z. OfOneRecord Same a z in subst P sa
                (joined Same known.alike a o a (turned Same known.alike o a x.one) x.one));
          },
        )
  ]

  pub no_crossing : (pa pb pc pd : ℕ) → IsCrossed Same opening ops pa pb pc pd → ⊥
  no_crossing pa pb pc pd r =
      let ia = stands pa r.op_a r.at_a (finished_before r.op_a r.op_b r.first) in
      let ic = stands pc r.op_c r.at_c (finished_before r.op_c r.op_d r.second) in
      elim (led ia.0 pa r.op_a ia.1 r.at_a) [
        | inr y ↦ r.one_opened y.1
        | inl x ↦ elim (led ic.0 pc r.op_c ic.1 r.at_c) [
          | inr y ↦ r.other_opened (opened Same known.alike opening r.op_b r.op_c r.other y.1)
          | inl z ↦
              let d = mate ia.0 pa x.0 x.1 pd r.op_a x.2 r.op_d ia.1 r.at_a x.3 r.at_d r.counts_d r.one in
              let b = mate ic.0 pc z.0 z.1 pb r.op_c z.2 r.op_b ic.1 r.at_c z.3 r.at_b r.counts_b
              (turned Same known.alike r.op_b r.op_c r.other) in
              let ab : ia.0 < b.0 = before ia.0 b.0 pa pb r.op_a r.op_b ia.1 r.at_a b.1 r.at_b r.first in
              let cd : ic.0 < d.0 = before ic.0 d.0 pc pd r.op_c r.op_d ic.1 r.at_c d.1 r.at_d r.second in
              elim (cases_order x.0 z.0) [
                | inl s ↦
                    let sw : x.1 ≡ z.1 = same_Some x.1 z.1 (sym x.3.at ∙ ap (slice_get order) s ∙ z.3.at) in
                    let sa : x.2 ≡ z.2 = same_Some x.2 z.2 (sym x.3.is ∙ ap (slice_get ops) sw ∙ z.3.is) in
                    let P : Op R → Type 0 = λ v. OfOneRecord Same r.op_a v in
                    r.apart (joined Same known.alike r.op_a z.2 r.op_b (subst P sa x.3.one) (turned Same known.alike r.op_b z.2 b.2.one))
                | inr (inl l) ↦
                    let e = led_before d.0 x.0 x.1 z.0 z.1 r.op_d x.2 z.2 d.2 l z.3.at z.3.is z.3.writes in
                    omega (arith, z.3.up_to)
                | inr (inr l) ↦
                    let e = led_before b.0 z.0 z.1 x.0 x.1 r.op_b z.2 x.2 b.2 l x.3.at x.3.is x.3.writes in
                    omega (arith, x.3.up_to)
              ]
        ]
      ]
