-- In a coherent order each operation stands behind the write of its record with no other write between; so each reason excludes every
-- coherent order.
use Rattle.std.proofs.Common.{◌≡◌, ℕ, zero, suc, ◌+◌, ◌-◌, ◌<◌, ◌≤◌, true, false, List, length, take, refl, sym, ◌∙◌, ap, subst}
use Rattle.std.proofs.Common.{arith, ◌⊎◌, inl, inr, slice_get, Option, None, Some}
use Rattle.std.specs.Prelude.{IsSome, IsSomeAnd}
use Rattle.std.specs.Option.{option_and_then}
use Rattle.std.proofs.lemmas.Bool.{cases_lt, cases_order, cases_Bool}
use Rattle.std.proofs.lemmas.Option.{slice_get_within, same_Some, slice_get_cases, option_and_then_some}
use Rattle.history_core.specs.declared.history.Op.{Op}
use Rattle.history_core.specs.declared.history.Kind.{Kind}
use Rattle.history_core.specs.declared.history.Kind.TheVariants.{Write, Read, Refused}
use Rattle.history_core.specs.Orders.{is_write, is_write_at, latest, listed_at, MayStand, ReadsRight, times_of}
use Rattle.history_core.specs.Reasons.{IsOfOpening, IsUnwritten, OfOneRecord}
use Rattle.history_core.proofs.Atomic.{of_one, of_opening, once_at, shares, some_of}
use Rattle.history_core.proofs.Counting.{stands_once}
use Rattle.history_core.proofs.Latest.{latest_is_opening, latest_is_written, NoWriteBetween}
use Rattle.history_core.proofs.Listed.{some_and_from, some_and_of}
use Rattle.history_core.proofs.Listing.{times_cases}
use Rattle.history_thinning.specs.Thinnings.{Equal}
use Rattle.history_coherence.specs.Answers.{AreWrittenOnce}
use Rattle.history_coherence.specs.Coherent.{IsCoherentOrder}
use Rattle.history_coherence.specs.Incoherent.{HasToStand, IsAheadOfWrite, IsCircle, IsIncoherence, IsLink, LeadsTo}
use Rattle.history_coherence.specs.declared.coherence.Incoherence.{Incoherence}
use Rattle.history_coherence.specs.declared.coherence.Incoherence.TheVariants.{Unwritten, Ahead, Circle}
use Rattle.history_coherence.specs.declared.coherence.Link.{Link}

-- ---- records are numbers
pub one_of : (a b : Op ℕ) → OfOneRecord Equal a b → (x : ℕ) × (a.item ≡ Some x) × (b.item ≡ Some x)
one_of a b h = let w = shares Equal a b h in (w.x, w.has_x, w.has_y ∙ ap Some (sym w.same))

pub one_from : (a b : Op ℕ) (x : ℕ) → a.item ≡ Some x → b.item ≡ Some x → OfOneRecord Equal a b
one_from a b x e f = of_one Equal a b x x e f refl

pub opening_of : (a : Op ℕ) → IsOfOpening Equal 0 a → a.item ≡ Some 0
opening_of a h = let w = some_and_of (λ x. x ≡ 0) a.item h in w.1 ∙ ap Some w.2

pub opening_from : (a : Op ℕ) → a.item ≡ Some 0 → IsOfOpening Equal 0 a
opening_from a e = of_opening Equal 0 a 0 e refl

-- ---- what is written once
module _ (log : List (Op ℕ)) (written : AreWrittenOnce log) where
  pub once : (p q x : ℕ) (a b : Op ℕ) → slice_get log p ≡ Some a → slice_get log q ≡ Some b → is_write a.kind ≡ true →
      is_write b.kind ≡ true → a.item ≡ Some x → b.item ≡ Some x → p ≡ q
  once p q x a b ea eb ta tb ia ib = elim (cases_order p q) [
    | inl s ↦ s
    | inr (inl l) ↦ absurd ((written (q + 1)).once p q (omega arith) (record {
      earlier = a;
      later = b;
      first_at = ea;
      second_at = eb;
      first_writes = ta;
      second_writes = tb;
      one = one_from b a x ib ia;
      less = l;
    }))
    | inr (inr l) ↦ absurd ((written (p + 1)).once q p (omega arith) (record {
      earlier = b;
      later = a;
      first_at = eb;
      second_at = ea;
      first_writes = tb;
      second_writes = ta;
      one = one_from a b x ia ib;
      less = l;
    }))
  ]

  pub fresh : (p : ℕ) (a : Op ℕ) → slice_get log p ≡ Some a → is_write a.kind ≡ true → a.item ≡ Some 0 → ⊥
  fresh p a e t i = (written (p + 1)).fresh p (omega arith)
      (some_and_from (λ (z : Op ℕ). (is_write z.kind ≡ true) × IsOfOpening Equal 0 z) (slice_get log p) a e (t, opening_from a i))

-- ---- the last write before an entry
record LastWrite (ops : List (Op ℕ)) (order : List ℕ) (n j w : ℕ) (a : Op ℕ) : Type 0 where
  at : slice_get order j ≡ Some w
  is : slice_get ops w ≡ Some a
  writes : is_write a.kind ≡ true
  before : j < n
  none : NoWriteBetween ops order (j + 1) n

none_more : (ops : List (Op ℕ)) (order : List ℕ) (m n : ℕ) → is_write_at (listed_at ops order n) ≡ false →
    NoWriteBetween ops order m n → NoWriteBetween ops order m (n + 1)
none_more ops order m n f h i p mi il e = elim (cases_lt i n) [
  | inl l ↦ h i p mi l e
  | inr l ↦
      let s : n ≡ i = omega arith in
      let g : listed_at ops order n ≡ slice_get ops p = ap (λ k. listed_at ops order k) s ∙ ap (option_and_then (slice_get ops)) e in
      ap is_write_at (sym g) ∙ f
]

written_at : (o : Option (Op ℕ)) → is_write_at o ≡ true → (a : Op ℕ) × (o ≡ Some a) × (is_write a.kind ≡ true)
written_at None h = cc
written_at (Some a) h = (a, refl, h)

last_write : (ops : List (Op ℕ)) (order : List ℕ) (n : ℕ) →
    ((j : ℕ) × (w : ℕ) × (a : Op ℕ) × LastWrite ops order n j w a) ⊎ NoWriteBetween ops order 0 n
last_write ops order zero = inr (λ i p _ l e. absurd (omega arith))
last_write ops order (suc n) = elim (cases_Bool (is_write_at (listed_at ops order n))) [
  | inl t ↦
      let w = written_at (listed_at ops order n) t in
      option_and_then_some (slice_get ops) (slice_get order n) w.0 w.1 (λ p e f. inl (
        n,
        p,
        w.0,
        record { at = e; is = f; writes = w.2; before = omega arith; none = λ i q mi il g. absurd (omega arith) },
      ))
  | inr f ↦ elim (last_write ops order n) [
    | inl x ↦
        let r = x.3 in
        let more : NoWriteBetween ops order (x.0 + 1) (suc n) =
        λ i p mi il e. none_more ops order (x.0 + 1) n f r.none i p mi (omega arith) e in
        let b : x.0 < suc n = let l = r.before in omega arith in
        inl (x.0, x.1, x.2, record { at = r.at; is = r.is; writes = r.writes; before = b; none = more })
    | inr h ↦ inr (λ i p mi il e. none_more ops order 0 n f h i p mi (omega arith) e)
  ]
]

right_of : (kind : Kind) (item before : Option ℕ) → is_write kind ≡ false → ReadsRight Equal kind item before →
    (x : ℕ) × (item ≡ Some x) × (before ≡ Some x)
right_of kind item before f h = by item before (at kind f h)
  where
    at : (kind : Kind) → is_write kind ≡ false → ReadsRight Equal kind item before → IsSomeAnd item (λ x. IsSomeAnd before (λ y. x ≡ y))
    at Write f h = cc
    at Read f h = h
    at Refused f h = h

    by : (i k : Option ℕ) → IsSomeAnd i (λ x. IsSomeAnd k (λ y. x ≡ y)) → (x : ℕ) × (i ≡ Some x) × (k ≡ Some x)
    by None k h = absurd h
    by (Some x) None h = absurd h
    by (Some x) (Some y) h = (x, refl, ap Some (sym h))

has_item : (kind : Kind) (item before : Option ℕ) → is_write kind ≡ true → ReadsRight Equal kind item before → IsSome item
has_item Write item before t h = h
has_item Read item before t h = cc
has_item Refused item before t h = cc

stands_by : (ends : Option ℕ) (kind : Kind) (n : ℕ) → IsSome ends → MayStand ends kind n → n ≡ 1
stands_by None kind n h m = cc
stands_by (Some e) kind n h m = m

module _ (log : List (Op ℕ)) (written : AreWrittenOnce log) (order : List ℕ) (coherent : IsCoherentOrder Equal 0 log order) where
  listed : (i p : ℕ) (o : Op ℕ) → slice_get order i ≡ Some p → slice_get log p ≡ Some o → listed_at log order i ≡ Some o
  listed i p o e f = ap (option_and_then (slice_get log)) e ∙ f

  -- a finished operation stands, and each place once
  finished_stands : (p : ℕ) (o : Op ℕ) → slice_get log p ≡ Some o → IsSome o.ends → (i : ℕ) × (slice_get order i ≡ Some p)
  finished_stands p o e h =
      let m = stands_by o.ends o.kind (times_of p order) h (coherent.listing.stands p o (omega arith) (slice_get_within log p o e) e) in
      elim (times_cases p order) [ inl w ↦ w | inr z ↦ absurd (omega arith) ]

  stands_once_at : (i j p : ℕ) → slice_get order i ≡ Some p → slice_get order j ≡ Some p → i ≡ j
  stands_once_at i j p ei ej =
      let l : p < length log = coherent.listing.places i p ei in
      elim (slice_get_cases log p).1 [
        | inl w ↦ once_at order p i j (stands_once w.0.ends w.0.kind (times_of p order) (coherent.listing.stands p w.0 (omega arith) l w.2))
            ei ej
        | inr w ↦ absurd (omega (arith, w.0))
      ]

  -- the time of a record: 0 for the opening, and one more than the entry of its write
  abbrev IsTime : ℕ → ℕ → Type 0
  IsTime x zero = x ≡ 0
  IsTime x (suc j) = (w : ℕ) × (a : Op ℕ) × (slice_get order j ≡ Some w) × (slice_get log w ≡ Some a) × (is_write a.kind ≡ true)
      × (a.item ≡ Some x)

  -- what stands at an entry has a record, whose time is no later, with no write between
  pub record Stands (i p : ℕ) (o : Op ℕ) : Type 0 where
    pub x : ℕ
    pub has : o.item ≡ Some x
    pub time : ℕ
    pub is : IsTime x time
    pub up_to : time ≤ i + 1
    pub none : NoWriteBetween log order time (i + 1)

  pub stands : (i p : ℕ) (o : Op ℕ) → slice_get order i ≡ Some p → slice_get log p ≡ Some o → Stands i p o
  stands i p o e f = elim (cases_Bool (is_write o.kind)) [
    | inl t ↦
        let w = some_of o.item (has_item o.kind o.item _ t (coherent.reading i o (listed i p o e f))) in
        record {
          x = w.0;
          has = w.1;
          time = suc i;
          is = (p, o, e, f, t, w.1);
          up_to = omega arith;
          none = λ k q mk kl g. absurd (omega arith);
        }
    | inr n ↦
        let here : is_write_at (listed_at log order i) ≡ false = ap is_write_at (listed i p o e f) ∙ n in
        let right = right_of o.kind o.item (latest 0 log (take i order)) n (coherent.reading i o (listed i p o e f)) in
        let long : i ≤ length order = let l = slice_get_within order i p e in omega arith in
        elim (last_write log order i) [
          | inl x ↦
              let r = x.3 in
              let l : latest 0 log (take i order) ≡ x.2.item =
              latest_is_written 0 log order x.0 i x.1 x.2 (r.at, r.is) r.writes r.before long r.none in
              let b = r.before in
              let more = none_more log order (x.0 + 1) i here r.none in
              record {
                x = right.0;
                has = right.1;
                time = suc x.0;
                is = (x.1, x.2, r.at, r.is, r.writes, sym l ∙ right.2);
                up_to = omega arith;
                none = λ k q mk kl g. more k q (omega arith) kl g;
              }
          | inr h ↦
              let l : Some 0 ≡ Some right.0 = sym (latest_is_opening 0 log order i long h) ∙ right.2 in
              record {
                x = right.0;
                has = right.1;
                time = zero;
                is = sym (same_Some 0 right.0 l);
                up_to = omega arith;
                none = none_more log order 0 i here h;
              }
        ]
  ]

  -- a record has one time, and a time one record
  one_time : (x m n : ℕ) → IsTime x m → IsTime x n → m ≡ n
  one_time x zero zero h k = refl
  one_time x zero (suc j) h k = absurd (fresh log written k.0 k.1 k.3 k.4 (k.5 ∙ ap Some h))
  one_time x (suc i) zero h k = absurd (fresh log written h.0 h.1 h.3 h.4 (h.5 ∙ ap Some k))
  one_time x (suc i) (suc j) h k =
      let s : h.0 ≡ k.0 = once log written h.0 k.0 x h.1 k.1 h.3 k.3 h.4 k.4 h.5 k.5 in
      let e : i ≡ j = stands_once_at i j k.0 (h.2 ∙ ap Some s) k.2 in
      omega arith

  one_record : (x y n : ℕ) → IsTime x n → IsTime y n → x ≡ y
  one_record x y zero h k = h ∙ sym k
  one_record x y (suc i) h k =
      let s : h.0 ≡ k.0 = same_Some h.0 k.0 (sym h.2 ∙ k.2) in
      let q : h.1 ≡ k.1 = same_Some h.1 k.1 (sym h.3 ∙ ap (slice_get log) s ∙ k.3) in
      same_Some x y (sym h.5 ∙ ap (λ (z : Op ℕ). z.item) q ∙ k.5)

  -- what has to stand does, and what a finished operation reads too
  source_stands : (q w : ℕ) (b a : Op ℕ) → slice_get log q ≡ Some b → IsSome b.ends → slice_get log w ≡ Some a → is_write a.kind ≡ true →
      OfOneRecord Equal b a → (i : ℕ) × (slice_get order i ≡ Some w)
  source_stands q w b a eb fb ea ta one =
      let i = finished_stands q b eb fb in
      let s = stands i.0 q b i.1 eb in
      let c = one_of b a one in
      let x : c.0 ≡ s.x = same_Some c.0 s.x (sym c.1 ∙ s.has) in
      by s.time s.x s.is (c.2 ∙ ap Some x)
    where
      by : (n x : ℕ) → IsTime x n → a.item ≡ Some x → (i : ℕ) × (slice_get order i ≡ Some w)
      by zero x h e = absurd (fresh log written w a ea ta (e ∙ ap Some h))
      by (suc j) x h e = (j, h.2 ∙ ap Some (once log written h.0 w x h.1 a h.3 ea h.4 ta h.5 e))

  pub has_to_stand : (p : ℕ) (o : Op ℕ) → slice_get log p ≡ Some o → HasToStand Equal 0 log o → (i : ℕ) × (slice_get order i ≡ Some p)
  has_to_stand p o e h = elim h [
    | inl f ↦ finished_stands p o e f
    | inr w ↦ source_stands w.1 p w.2 o w.3 w.4 e w.0 w.5
  ]

  -- ---- reasons
  pub no_unwritten : (read : ℕ) → IsUnwritten Equal 0 log read → ⊥
  no_unwritten read r =
      let i = finished_stands read r.op r.at r.finished in
      let s = stands i.0 read r.op i.1 r.at in
      by s.time s.x s.is s.has
    where
      by : (n x : ℕ) → IsTime x n → r.op.item ≡ Some x → ⊥
      by zero x h e = r.opened (opening_from r.op (e ∙ ap Some h))
      by (suc j) x h e = r.written h.0 h.1 h.3 h.4 (one_from r.op h.1 x e h.5)

  pub no_ahead : (read write : ℕ) → IsAheadOfWrite Equal 0 log read write → ⊥
  no_ahead read write r =
      let i = finished_stands read r.op r.at r.finished in
      let j = source_stands read write r.op r.source r.at r.finished r.source_at r.writes r.one in
      let s = stands i.0 read r.op i.1 r.at in
      let t = stands j.0 write r.source j.1 r.source_at in
      let c = one_of r.op r.source r.one in
      let l : i.0 < j.0 = coherent.tasks i.0 j.0 read write r.op r.source (i.1, r.at) (j.1, r.source_at) r.task r.before in
      let x : s.x ≡ t.x = same_Some s.x t.x (sym s.has ∙ c.1 ∙ sym c.2 ∙ t.has) in
      let own : IsTime t.x (suc j.0) = (write, r.source, j.1, r.source_at, r.writes, t.has) in
      let P : ℕ → Type 0 = λ z. IsTime z s.time in
      let e : s.time ≡ suc j.0 = one_time t.x s.time (suc j.0) (subst P x s.is) own in
      let u = s.up_to in
      omega arith

  -- the record of the earlier operation of a link has the lesser time
  pub record IsLater (link : Link) : Type 0 where
    pub one : ℕ
    pub other : ℕ
    pub x : ℕ
    pub y : ℕ
    pub one_at : (a : Op ℕ) → slice_get log link.earlier ≡ Some a → a.item ≡ Some x
    pub other_at : (b : Op ℕ) → slice_get log link.later ≡ Some b → b.item ≡ Some y
    pub one_time : IsTime x one
    pub other_time : IsTime y other
    pub less : one < other

  pub link_later : (link : Link) → IsLink Equal 0 log link → IsLater link
  link_later link h =
      let i = has_to_stand link.earlier h.one h.one_at h.one_stands in
      let j = has_to_stand link.later h.other h.other_at h.other_stands in
      let s = stands i.0 link.earlier h.one i.1 h.one_at in
      let t = stands j.0 link.later h.other j.1 h.other_at in
      let l : i.0 < j.0 = coherent.tasks i.0 j.0 link.earlier link.later h.one h.other (i.1, h.one_at) (j.1, h.other_at) h.task h.before in
      let u = s.up_to in
      let v = t.up_to in
      record {
        one = s.time;
        other = t.time;
        x = s.x;
        y = t.x;
        one_at = λ a e. ap (λ (z : Op ℕ). z.item) (same_Some a h.one (sym e ∙ h.one_at)) ∙ s.has;
        other_at = λ b e. ap (λ (z : Op ℕ). z.item) (same_Some b h.other (sym e ∙ h.other_at)) ∙ t.has;
        one_time = s.is;
        other_time = t.is;
        less = elim (cases_order s.time t.time) [
          | inl e ↦
              let P : ℕ → Type 0 = λ n. IsTime s.x n in
              let x : s.x ≡ t.x = one_record s.x t.x t.time (subst P e s.is) t.is in
              absurd (h.apart (one_from h.one h.other s.x s.has (t.has ∙ ap Some (sym x))))
          | inr (inl k) ↦ k
          | inr (inr k) ↦ absurd (between s.time s.x s.is t.time j.0 k (omega arith) t.none)
        ];
      }
    where
      between : (n x : ℕ) → IsTime x n → (m j : ℕ) → m < n → n ≤ j + 1 → NoWriteBetween log order m (j + 1) → ⊥
      between zero x h m j l u none = omega arith
      between (suc i) x h m j l u none =
          let f : is_write_at (slice_get log h.0) ≡ false = none i h.0 (omega arith) (omega arith) h.2 in
          let t : is_write_at (slice_get log h.0) ≡ true = ap is_write_at h.3 ∙ h.4 in
          cc

  -- where one link leads to another, the time doesn't fall
  pub leads_up : (l m : Link) (a : IsLater l) (b : IsLater m) → LeadsTo Equal 0 log l m → a.other ≤ b.one
  leads_up l m a b h = elim h.joined [
    | inl one ↦
        let c = one_of h.last h.first one in
        let s : a.y ≡ b.x = same_Some a.y b.x (sym (a.other_at h.last h.last_at) ∙ c.1 ∙ sym c.2 ∙ b.one_at h.first h.first_at) in
        let P : ℕ → Type 0 = λ z. IsTime z a.other in
        let e : a.other ≡ b.one = one_time b.x a.other b.one (subst P s a.other_time) b.one_time in
        omega arith
    | inr o ↦
        let s : a.y ≡ 0 = same_Some a.y 0 (sym (a.other_at h.last h.last_at) ∙ opening_of h.last o) in
        let e : a.other ≡ 0 = one_time a.y a.other 0 a.other_time s in
        omega arith
  ]

  same_start : (l f : Link) → l ≡ f → IsLink Equal 0 log f → (a : IsLater f) (b : IsLater l) → a.one ≡ b.one
  same_start l f s h a b =
      let at : slice_get log l.earlier ≡ Some h.one = ap (λ (z : Link). slice_get log z.earlier) s ∙ h.one_at in
      let x : a.x ≡ b.x = same_Some a.x b.x (sym (a.one_at h.one h.one_at) ∙ b.one_at h.one at) in
      let P : ℕ → Type 0 = λ z. IsTime z a.one in
      one_time b.x a.one b.one (subst P x a.one_time) b.one_time

  climbs : (links : List Link) (h : IsCircle Equal 0 log links) (n : ℕ) (l f : Link) → slice_get links n ≡ Some l →
      slice_get links 0 ≡ Some f → (a : IsLater f) (b : IsLater l) → a.one < b.other
  climbs links h zero l f e g a b =
      let s : l ≡ f = same_Some l f (sym e ∙ g) in
      let k : a.one ≡ b.one = same_start l f s (h.each 0 f g) a b in
      let less = b.less in
      omega arith
  climbs links h (suc n) l f e g a b =
      let in_list : n < length links = let k = slice_get_within links (suc n) l e in omega arith in
      elim (slice_get_cases links n).1 [
        | inl w ↦
            let c = link_later w.0 (h.each n w.0 w.2) in
            let up = climbs links h n w.0 f w.2 g a c in
            let same : suc n ≡ n + 1 = omega arith in
            let step = leads_up w.0 l c b (h.next n w.0 l w.2 (ap (slice_get links) (sym same) ∙ e)) in
            let less = b.less in
            omega arith
        | inr w ↦ absurd (omega (arith, w.0))
      ]

  pub no_circle : (links : List Link) → IsCircle Equal 0 log links → ⊥
  no_circle links h =
      let n : ℕ = length links - 1 in
      let some = h.some in
      elim (slice_get_cases links 0).1 [
        | inr w ↦ absurd (omega (arith, w.0))
        | inl f ↦ elim (slice_get_cases links n).1 [
          | inr w ↦ absurd (omega (arith, w.0))
          | inl l ↦
              let a = link_later f.0 (h.each 0 f.0 f.2) in
              let b = link_later l.0 (h.each n l.0 l.2) in
              let up = climbs links h n l.0 f.0 l.2 f.2 a b in
              let down = leads_up l.0 f.0 b a (h.closed l.0 f.0 l.2 f.2) in
              omega arith
        ]
      ]

  pub excluded : (reason : Incoherence) → IsIncoherence Equal 0 log reason → ⊥
  excluded (Unwritten read) h = no_unwritten read h
  excluded (Ahead read write) h = no_ahead read write h
  excluded (Circle links) h = no_circle links h
