-- The sorted list of ranks is an order that keeps listing and reading, since each group stands together, its write first; and two
-- operations that stand against precedence are of two groups that cross.
use Rattle.std.proofs.Common.{◌≡◌, ◌≢◌, ℕ, zero, suc, ◌+◌, ◌<◌, ◌≤◌, Bool, true, false, not, List, [], ◌∷◌, length, map, take, refl, sym}
use Rattle.std.proofs.Common.{◌∙◌, ap, subst, arith, inl, inr, slice_get, Option, None, Some}
use Rattle.std.specs.Prelude.{IsSome, IsSomeAnd, is_some, ◌||◌}
use Rattle.std.specs.Option.{option_map}
use Rattle.std.proofs.lemmas.Bool.{false≢true, cases_lt, cases_order, cases_eq, cases_Bool}
use Rattle.std.proofs.lemmas.Option.{slice_get_within, same_Some, slice_get-map, none-some, option_and_then_some}
use Rattle.history_core.specs.declared.history.Op.{Op}
use Rattle.history_core.specs.declared.history.Kind.{Kind}
use Rattle.history_core.specs.declared.history.Kind.TheVariants.{Write, Read, Refused}
use Rattle.history_core.specs.Orders.{IsListing, is_write, is_write_at, KeepsPrecedence, latest, Precedes, ReadsLatest}
use Rattle.history_core.specs.Orders.{ReadsRight}
use Rattle.history_core.proofs.Latest.{latest_is_opening, latest_is_written, NoWriteBetween}
use Rattle.history_core.proofs.Listed.{keeps_from_none, some_and_of}
use Rattle.history_core.proofs.Listing.{listing_from}
use Rattle.history_search.specs.declared.rank.Rank.{Rank}
use Rattle.history_search.specs.declared.span.Span.{Span}
use Rattle.history_search.specs.inner.Groups.{AreGroups, AreSpans, HasGroup, Member}
use Rattle.history_search.specs.inner.Ranks.{AreInOrder, AreRanks, begin_in, end_in, first_in, first_of, IsNoLater, IsRank, is_late}
use Rattle.history_search.specs.inner.Ranks.{last_in, late_in, stands_in}
use Rattle.history_core.proofs.Atomic.{IsSearched, once_at, shares, some_from}
use Rattle.history_search.proofs.Groups.{AllHaveGroups, finished_or, has, own, write_of}
use Rattle.history_search.proofs.Spans.{goes_first, least_end, most_begin}

abbrev pub places_of : List Rank → List ℕ
places_of ranks = map (λ r. r.place) ranks

pub rank_at : (ranks : List Rank) (i p : ℕ) → slice_get (places_of ranks) i ≡ Some p →
    (r : Rank) × (slice_get ranks i ≡ Some r) × (r.place ≡ p)
rank_at [] i p h = absurd (none-some p h)
rank_at (x ∷ xs) zero p h = (x, refl, same_Some x.place p h)
rank_at (x ∷ xs) (suc i) p h = rank_at xs i p h

pub place_at : (ranks : List Rank) (i : ℕ) (r : Rank) → slice_get ranks i ≡ Some r → slice_get (places_of ranks) i ≡ Some r.place
place_at ranks i r h = slice_get-map (λ (r : Rank). r.place) ranks i ∙ ap (option_map (λ (r : Rank). r.place)) h

-- a group that has an end stands
pub stands_with_end : (cut : Option (Option ℕ)) (g m : ℕ) (span : Option Span) → end_in span ≡ Some m → stands_in cut g span ≡ true
stands_with_end None g m span h = ap is_some h
stands_with_end (Some end) g m span h = ap (λ z. is_some z || not (is_late end g span)) h

no_late_opening : (cut : Option (Option ℕ)) (span : Option Span) → late_in cut 0 span ≡ false
no_late_opening None span = refl
no_late_opening (Some end) span = refl

right_from : {R : Type 0} (Same : R → R → Type 0) (kind : Kind) (item before : Option R) → is_write kind ≡ false →
    IsSomeAnd item (λ x. IsSomeAnd before (λ y. Same x y)) → ReadsRight Same kind item before
right_from Same Write item before f h = cc
right_from Same Read item before f h = h
right_from Same Refused item before f h = h

right_write : {R : Type 0} (Same : R → R → Type 0) (kind : Kind) (item before : Option R) → is_write kind ≡ true → IsSome item →
    ReadsRight Same kind item before
right_write Same Write item before t h = h
right_write Same Read item before t h = cc
right_write Same Refused item before t h = cc

-- no group has to stand before another that has to stand before it
pub record IsBack (spans : List Span) (v w : ℕ) : Type 0 where
  pub differ : suc v ≢ suc w
  pub m : ℕ
  pub n : ℕ
  pub later_end : end_in (slice_get spans (suc w)) ≡ Some m
  pub later_first : m < begin_in (slice_get spans (suc v))
  pub earlier_end : end_in (slice_get spans (suc v)) ≡ Some n
  pub earlier_first : n < begin_in (slice_get spans (suc w))

-- ranks of one group
pub record AreOfGroup (x y : Rank) : Type 0 where
  pub late : x.late ≡ y.late
  pub first : x.first ≡ y.first
  pub last : x.last ≡ y.last
  pub group : x.group ≡ y.group

between_late : (a b c : Bool) → a ≡ c → (a ≡ true → b ≡ true) → (b ≡ true → c ≡ true) → a ≡ b
between_late true b c e h k = sym (h refl)
between_late false true c e h k = e ∙ k refl
between_late false false c e h k = refl

-- what stands between two of a group is of it
between : (x y z : Rank) → AreOfGroup x z → IsNoLater x y → IsNoLater y z → AreOfGroup x y
between x y z s h k =
    let l : x.late ≡ y.late = between_late x.late y.late z.late s.late h.late k.late in
    let m : y.late ≡ z.late = sym l ∙ s.late in
    let f : x.first ≡ y.first = omega (arith, h.first l, k.first m, s.first) in
    let g : y.first ≡ z.first = omega (arith, s.first) in
    let t : x.last ≡ y.last = omega (arith, h.last l f, k.last m g, s.last) in
    let u : y.last ≡ z.last = omega (arith, s.last) in
    record { late = l; first = f; last = t; group = omega (arith, h.group l f t, k.group m g u, s.group) }

module _ {R : Type 0} (Same : R → R → Type 0) (opening : R) (ops : List (Op R))
    (groups : List (Option ℕ)) (known : IsSearched Same opening ops)
    (are : AreGroups Same opening ops groups) (all : AllHaveGroups ops groups) (spans : List Span)
    (spanned : AreSpans ops groups (length ops) spans) (cut : Option (Option ℕ)) where
  pub rank_group : (r : Rank) (p g : ℕ) (o : Op R) → IsRank ops groups spans cut r → r.place ≡ p → Member ops groups p o g → r.group ≡ g
  rank_group r p g o k e m =
      same_Some r.group g (same_Some (Some r.group) (Some g) (sym k.member.1 ∙ ap (slice_get groups) e ∙ m.1))

  pub rank_op : (r : Rank) (p : ℕ) (o : Op R) (k : IsRank ops groups spans cut r) → r.place ≡ p → slice_get ops p ≡ Some o → k.op ≡ o
  rank_op r p o k e f = same_Some k.op o (sym k.member.0 ∙ ap (slice_get ops) e ∙ f)

  of_group : (x y : Rank) → IsRank ops groups spans cut x → IsRank ops groups spans cut y → x.group ≡ y.group → AreOfGroup x y
  of_group x y h k e = record {
    late = h.late ∙ ap (λ g. late_in cut g (slice_get spans g)) e ∙ sym k.late;
    first = h.first ∙ ap (λ g. first_in g (slice_get spans g)) e ∙ sym k.first;
    last = h.last ∙ ap (λ g. last_in g (slice_get spans g)) e ∙ sym k.last;
    group = e;
  }

  -- before the opening's group stands no other
  before_opening : (x y : Rank) → IsRank ops groups spans cut x → IsRank ops groups spans cut y → IsNoLater x y → y.group ≡ 0 → x.group ≡ 0
  before_opening x y h k nl e =
      let yl : y.late ≡ false = k.late ∙ ap (λ g. late_in cut g (slice_get spans g)) e ∙ no_late_opening cut (slice_get spans 0) in
      let yf : y.first ≡ 0 = k.first ∙ ap (λ g. first_in g (slice_get spans g)) e in
      let yt : y.last ≡ 0 = k.last ∙ ap (λ g. last_in g (slice_get spans g)) e in
      let l : x.late ≡ y.late = elim (cases_Bool x.late) [ inl t ↦ let u = nl.late t in cc | inr f ↦ f ∙ sym yl ] in
      let f : x.first ≡ y.first = omega (arith, nl.first l) in
      let t : x.last ≡ y.last = omega (arith, nl.last l f) in
      omega (arith, nl.group l f t)

  module _ (ranks : List Rank) (ranked : AreRanks ops groups spans cut (length ops) ranks) (in_order : AreInOrder ranks) where
    pub is_rank : (i : ℕ) (r : Rank) → slice_get ranks i ≡ Some r → IsRank ops groups spans cut r
    is_rank i r e = (ranked.each i r e).0

    pub places_once : (i j p : ℕ) → slice_get (places_of ranks) i ≡ Some p → slice_get (places_of ranks) j ≡ Some p → i ≡ j
    places_once i j p a b = once_at (places_of ranks) p i j (ranked.once p) a b

    pub ranks_list : IsListing ops (places_of ranks)
    ranks_list = listing_from ops (places_of ranks)
        (λ i p e.
        let r = rank_at ranks i p e in
        let l : r.0.place < length ops = (ranked.each i r.0 r.1).1 in
        let s : r.0.place ≡ p = r.2 in
        omega arith) places_once
        (λ p end o e en.
        let g = all p o e (some_from o.ends end en) in
        let m = least_end Same opening ops groups known are spans spanned p g.0 end o (e, g.1) en in
        let r = ranked.all p g.0 o (slice_get_within ops p o e) (e, g.1) (stands_with_end cut g.0 m.0 (slice_get spans g.0) m.1) in
        (r.0, place_at ranks r.0 r.1 r.2 ∙ ap Some r.3))
        (λ i p o at en.
        let r = rank_at ranks i p at.0 in
        let k = is_rank i r.0 r.1 in
        let s : k.op ≡ o = rank_op r.0 p o k r.2 at.1 in
        let none : k.op.ends ≡ None = ap (λ (z : Op R). z.ends) s ∙ en in
        elim (finished_or Same opening ops groups known are r.0.place r.0.group k.op k.member) [
          | inl h ↦ let P : Option ℕ → Type 0 = λ z. IsSome z in let w : IsSome {T = ℕ} None = subst P none h in cc
          | inr t ↦ ap (λ (z : Op R). is_write z.kind) (sym s) ∙ t
        ])

    no_write_before : (i : ℕ) (r : Rank) → slice_get ranks i ≡ Some r → r.group ≡ 0 → NoWriteBetween ops (places_of ranks) 0 i
    no_write_before i r e zero_group k p _ ki ek =
        let y = rank_at ranks k p ek in
        let ky = is_rank k y.0 y.1 in
        let g : y.0.group ≡ 0 = before_opening y.0 r ky (is_rank i r e) (in_order k i y.0 r y.1 e ki) zero_group in
        let at : slice_get ops p ≡ Some ky.op = ap (slice_get ops) (sym y.2) ∙ ky.member.0 in
        ap is_write_at at ∙ elim (cases_Bool (is_write ky.op.kind)) [
          | inr f ↦ f
          | inl t ↦ let z : y.0.group ≡ suc y.0.place = own Same opening ops groups known are y.0.place y.0.group ky.op ky.member t in
              absurd (omega arith)
        ]

    -- the write of a read's group stands before it, and no other between them
    pub record WriteBefore (i w : ℕ) : Type 0 where
      pub j : ℕ
      pub before : j < i
      pub at : slice_get (places_of ranks) j ≡ Some w
      pub none : NoWriteBetween ops (places_of ranks) (j + 1) i

    -- of two ranks of one group at most one is of the write
    one_write : (j n w p : ℕ) (y z : Rank) → slice_get ranks j ≡ Some y → y.place ≡ w → y.group ≡ suc w → slice_get ranks n ≡ Some z →
        z.place ≡ p → IsRank ops groups spans cut z → y.group ≡ z.group → j < n → is_write_at (slice_get ops p) ≡ false
    one_write j n w p y z ey wy gy ez pz kz sg jn =
        let at : slice_get ops p ≡ Some kz.op = ap (slice_get ops) (sym pz) ∙ kz.member.0 in
        ap is_write_at at ∙ elim (cases_Bool (is_write kz.op.kind)) [
          | inr f ↦ f
          | inl t ↦
              let o : z.group ≡ suc z.place = own Same opening ops groups known are z.place z.group kz.op kz.member t in
              let q : y.place ≡ z.place = omega (arith, wy, gy, sg, o) in
              let ij : j ≡ n = places_once j n z.place (place_at ranks j y ey ∙ ap Some q) (place_at ranks n z ez) in
              absurd (omega (arith, ij, jn))
        ]

    -- the same where the rank of the write is known
    write_at : (i j w : ℕ) (r y : Rank) (x : Op R) → slice_get ranks i ≡ Some r → r.answers ≡ true → AreOfGroup y r →
        Member ops groups w x (suc w) → is_write x.kind ≡ true → slice_get ranks j ≡ Some y → y.place ≡ w → IsRank ops groups spans cut y →
        y.group ≡ suc w → WriteBefore i w
    write_at i j w r y x e answers same mx wx ey wy ky gy =
        let oy : ky.op ≡ x = rank_op y w x ky wy mx.0 in
        let writes : y.answers ≡ false = not_true y.answers (sym ky.answers ∙ ap (λ (z : Op R). is_write z.kind) oy ∙ wx) in
        let before : j < i = elim (cases_order j i) [
          | inr (inl l) ↦ l
          | inl s ↦
              let q : y ≡ r = same_Some y r (sym ey ∙ ap (slice_get ranks) s ∙ e) in
              absurd (false≢true (sym writes ∙ ap (λ (z : Rank). z.answers) q ∙ answers))
          | inr (inr l) ↦
              let nl = in_order i j r y e ey l in
              let t : y.answers ≡ true = nl.answers (sym same.late) (sym same.first) (sym same.last) (sym same.group) answers in
              absurd (false≢true (sym writes ∙ t))
        ] in
        record {
          j = j;
          before = before;
          at = place_at ranks j y ey ∙ ap Some wy;
          none = λ n p ln lt en.
              let z = rank_at ranks n p en in
              let kz = is_rank n z.0 z.1 in
              let jn : j < n = omega (arith, ln) in
              let s = between y z.0 r same (in_order j n y z.0 ey z.1 jn) (in_order n i z.0 r z.1 e lt) in
              one_write j n w p y z.0 ey wy gy z.1 z.2 kz s.group jn;
        }
      where
        not_true : (b : Bool) → not b ≡ true → b ≡ false
        not_true true h = cc
        not_true false h = refl

    pub write_before : (i w : ℕ) (r : Rank) → slice_get ranks i ≡ Some r → r.group ≡ suc w → r.answers ≡ true → WriteBefore i w
    write_before i w r e g answers =
        let k = is_rank i r e in
        let P : ℕ → Type 0 = λ z. Member ops groups r.place k.op z in
        let x = write_of Same opening ops groups known are r.place w k.op (subst P g k.member) in
        let end = finished k.op refl k.member answers in
        let m = least_end Same opening ops groups known are spans spanned r.place r.group end.0 k.op k.member end.1 in
        let stood : stands_in cut (suc w) (slice_get spans (suc w)) ≡ true =
        ap (λ z. stands_in cut z (slice_get spans z)) (sym g) ∙ stands_with_end cut r.group m.0 (slice_get spans r.group) m.1 in
        let y = ranked.all w (suc w) x.0 (slice_get_within ops w x.0 x.1.0) x.1 stood in
        let ky = is_rank y.0 y.1 y.2 in
        let gy : y.1.group ≡ suc w = rank_group y.1 w (suc w) x.0 ky y.3 x.1 in
        write_at i y.0 w r y.1 x.0 e answers (of_group y.1 r ky k (◌∙◌ {a = y.1.group} gy (sym g))) x.1 x.2 y.2 y.3 ky gy
      where
        finished : (o : Op R) → o ≡ (is_rank i r e).op → Member ops groups r.place (is_rank i r e).op r.group → r.answers ≡ true →
            (end : ℕ) × ((is_rank i r e).op.ends ≡ Some end)
        finished o s m a = elim (finished_or Same opening ops groups known are r.place r.group (is_rank i r e).op m) [
          | inl h ↦ some_end (is_rank i r e).op.ends h
          | inr t ↦ let f : true ≡ not r.answers = sym t ∙ (is_rank i r e).answers in let u : not r.answers ≡ false = ap not a in cc
        ]
          where
            some_end : (ends : Option ℕ) → IsSome ends → (end : ℕ) × (ends ≡ Some end)
            some_end None h = cc
            some_end (Some end) h = (end, refl)

    read_right : (i w : ℕ) (r : Rank) (o : Op R) → slice_get ranks i ≡ Some r → slice_get ops r.place ≡ Some o → r.answers ≡ true →
        is_write o.kind ≡ false → r.group ≡ w → HasGroup Same opening ops w o →
        ReadsRight Same o.kind o.item (latest opening ops (take i (places_of ranks)))
    read_right i zero r o e at a f g h =
        let l : i ≤ length (places_of ranks) = let b = slice_get_within (places_of ranks) i r.place (place_at ranks i r e) in omega arith in
        let s : latest opening ops (take i (places_of ranks)) ≡ Some opening =
        latest_is_opening opening ops (places_of ranks) i l (no_write_before i r e g) in
        let P : Option R → Type 0 = λ z. IsSomeAnd o.item (λ x. IsSomeAnd z (λ y. Same x y)) in
        right_from Same o.kind o.item (latest opening ops (take i (places_of ranks))) f (subst P (sym s) h)
    read_right i (suc w) r o e at a f g h =
        let l : i ≤ length (places_of ranks) = let b = slice_get_within (places_of ranks) i r.place (place_at ranks i r e) in omega arith in
        let b = write_before i w r e g a in
        let s : latest opening ops (take i (places_of ranks)) ≡ h.0.item =
        latest_is_written opening ops (places_of ranks) b.j i w h.0 (b.at, h.1) h.2 b.before l b.none in
        let P : Option R → Type 0 = λ z. IsSomeAnd o.item (λ x. IsSomeAnd z (λ y. Same x y)) in
        right_from Same o.kind o.item (latest opening ops (take i (places_of ranks))) f (subst P (sym s) h.3)

    item_of : (g : ℕ) (o : Op R) → HasGroup Same opening ops g o → IsSome o.item
    item_of zero o h = let x = some_and_of (λ x. Same x opening) o.item h in some_from o.item x.0 x.1
    item_of (suc w) o h = let x = shares Same o h.0 h.3 in some_from o.item x.x x.has_x

    pub ranks_read : ReadsLatest Same opening ops (places_of ranks)
    ranks_read i o listed = option_and_then_some (slice_get ops) (slice_get (places_of ranks) i) o listed (λ p e f.
        let r = rank_at ranks i p e in
        let k = is_rank i r.0 r.1 in
        let s : k.op ≡ o = rank_op r.0 p o k r.2 f in
        let P : Op R → Type 0 = λ z. HasGroup Same opening ops r.0.group z in
        let h : HasGroup Same opening ops r.0.group o = subst P s
        (has Same opening ops groups known are r.0.place r.0.group k.op k.member).1 in
        let kind : is_write o.kind ≡ not r.0.answers = ap (λ (z : Op R). is_write z.kind) (sym s) ∙ k.answers in
        elim (cases_Bool r.0.answers) [
          | inl t ↦ read_right i r.0.group r.0 o r.1 (ap (slice_get ops) r.2 ∙ f) t (kind ∙ ap not t) refl h
          | inr n ↦ right_write Same o.kind o.item _ (kind ∙ ap not n) (item_of r.0.group o h)
        ])

  -- ---- precedence
  module _ (early : (p w : ℕ) (o a : Op R) → Member ops groups p o (suc w) → slice_get ops w ≡ Some a → Precedes o a → ⊥)
      (stale : (p q w : ℕ) (o b : Op R) → Member ops groups p o 0 → Member ops groups q b (suc w) → Precedes b o → ⊥) where
    -- within a group nothing stands against precedence
    same_group : (x y : Rank) (h : IsRank ops groups spans cut x) (k : IsRank ops groups spans cut y) → IsNoLater x y → x.place ≢ y.place →
        x.group ≡ y.group → Precedes k.op h.op → ⊥
    same_group x y h k nl ne g pre =
        let s = of_group x y h k g in
        let e = some_and_of (λ end. end < h.op.starts) k.op.ends pre in
        elim (cases_Bool x.answers) [
          | inl t ↦
              let u : y.answers ≡ true = nl.answers s.late s.first s.last g t in
              let up : x.starts ≤ y.starts = nl.starts s.late s.first s.last g (t ∙ sym u) in
              let f : k.op.starts ≤ e.0 = known.forwards y.place e.0 k.op k.member.0 e.1 in
              let l : e.0 < h.op.starts = e.2 in
              omega (arith, h.starts, k.starts)
          | inr f ↦
              let o : x.group ≡ suc x.place = own Same opening ops groups known are x.place x.group h.op h.member (h.answers ∙ ap not f) in
              elim (cases_Bool y.answers) [
                | inl t ↦
                    let P : ℕ → Type 0 = λ z. Member ops groups y.place k.op z in
                    early y.place x.place k.op h.op (subst P (sym g ∙ o) k.member) h.member.0 pre
                | inr n ↦
                    let p : y.group ≡ suc y.place = own Same opening ops groups known are y.place y.group k.op k.member
                    (k.answers ∙ ap not n) in
                    ne (omega arith)
              ]
        ]

    -- what is late has to stand behind what is late
    abbrev IsClosed : Type 0
    IsClosed = (v w m : ℕ) → late_in cut (suc v) (slice_get spans (suc v)) ≡ true → end_in (slice_get spans (suc v)) ≡ Some m →
        m < begin_in (slice_get spans (suc w)) → late_in cut (suc w) (slice_get spans (suc w)) ≡ true

    pub back_by : IsClosed → (x y : Rank) (v w : ℕ) (h : IsRank ops groups spans cut x) (k : IsRank ops groups spans cut y) →
        IsNoLater x y →
        x.group ≡ suc v → y.group ≡ suc w → suc v ≢ suc w → (m : ℕ) → end_in (slice_get spans (suc w)) ≡ Some m →
        m < begin_in (slice_get spans (suc v)) → IsBack spans v w
    back_by closed x y v w h k nl gx gy ne m em lm =
        let xl : x.late ≡ late_in cut (suc v) (slice_get spans (suc v)) = h.late ∙ ap (λ g. late_in cut g (slice_get spans g)) gx in
        let yl : y.late ≡ late_in cut (suc w) (slice_get spans (suc w)) = k.late ∙ ap (λ g. late_in cut g (slice_get spans g)) gy in
        let xf : x.first ≡ first_of (end_in (slice_get spans (suc v))) (begin_in (slice_get spans (suc v))) =
        h.first ∙ ap (λ g. first_in g (slice_get spans g)) gx in
        let yf : y.first ≡ first_of (end_in (slice_get spans (suc w))) (begin_in (slice_get spans (suc w))) =
        k.first ∙ ap (λ g. first_in g (slice_get spans g)) gy in
        let xt : x.last ≡ begin_in (slice_get spans (suc v)) = h.last ∙ ap (λ g. last_in g (slice_get spans g)) gx in
        let yt : y.last ≡ begin_in (slice_get spans (suc w)) = k.last ∙ ap (λ g. last_in g (slice_get spans g)) gy in
        let late : x.late ≡ y.late = elim (cases_Bool y.late) [
          | inl t ↦ xl ∙ closed w v m (sym yl ∙ t) em lm ∙ sym t
          | inr f ↦ elim (cases_Bool x.late) [ inl t ↦ let u = nl.late t in cc | inr n ↦ n ∙ sym f ]
        ] in
        let up = nl.first late in
        let not_first : ((n : ℕ) → end_in (slice_get spans (suc v)) ≡ Some n → begin_in (slice_get spans (suc w)) ≤ n) → ⊥ =
        λ only. elim (goes_first (end_in (slice_get spans (suc w))) (end_in (slice_get spans (suc v))) (begin_in (slice_get spans (suc w)))
        (begin_in (slice_get spans (suc v))) m em lm only) [
          | inl l ↦ omega arith
          | inr l ↦
              let s : x.first ≡ y.first = xf ∙ sym l.0 ∙ sym yf in
              omega (arith, nl.last late s, l.1)
        ] in
        found (end_in (slice_get spans (suc v))) refl not_first
      where
        found : (end : Option ℕ) → end_in (slice_get spans (suc v)) ≡ end →
            (((n : ℕ) → end_in (slice_get spans (suc v)) ≡ Some n → begin_in (slice_get spans (suc w)) ≤ n) → ⊥) → IsBack spans v w
        found None e never = absurd (never (λ n f. cc))
        found (Some n) e never = elim (cases_lt n (begin_in (slice_get spans (suc w)))) [
          | inl l ↦ record {
            differ = ne;
            m = m;
            n = n;
            later_end = em;
            later_first = lm;
            earlier_end = e;
            earlier_first = l;
          }
          | inr le ↦ absurd (never (λ q f. let s : n ≡ q = same_Some n q (sym e ∙ f) in omega arith))
        ]

    -- two operations that stand against precedence are of groups that cross
    pub turned_back : IsClosed → (x y : Rank) (h : IsRank ops groups spans cut x) (k : IsRank ops groups spans cut y) → IsNoLater x y →
        x.place ≢ y.place → Precedes k.op h.op → (v : ℕ) × (w : ℕ) × (x.group ≡ suc v) × (y.group ≡ suc w) × IsBack spans v w
    turned_back closed x y h k nl ne pre = elim (cases_eq x.group y.group) [
      | inl g ↦ absurd (same_group x y h k nl ne g pre)
      | inr d ↦ by x.group y.group refl refl d
    ]
      where
        by : (gx gy : ℕ) → x.group ≡ gx → y.group ≡ gy → gx ≢ gy →
            (v : ℕ) × (w : ℕ) × (x.group ≡ suc v) × (y.group ≡ suc w) × IsBack spans v w
        by zero zero ex ey d = absurd (d refl)
        by zero (suc w) ex ey d =
            let P : ℕ → Type 0 = λ z. Member ops groups x.place h.op z in
            let Q : ℕ → Type 0 = λ z. Member ops groups y.place k.op z in
            absurd (stale x.place y.place w h.op k.op (subst P ex h.member) (subst Q ey k.member) pre)
        by (suc v) zero ex ey d = let z : x.group ≡ 0 = before_opening x y h k nl ey in absurd (omega arith)
        by (suc v) (suc w) ex ey d =
            let e = some_and_of (λ end. end < h.op.starts) k.op.ends pre in
            let m = least_end Same opening ops groups known are spans spanned y.place y.group e.0 k.op k.member e.1 in
            let s = most_begin Same opening ops groups known are spans spanned x.place x.group h.op h.member in
            let l : e.0 < h.op.starts = e.2 in
            let bx : begin_in (slice_get spans x.group) ≡ begin_in (slice_get spans (suc v)) = ap (λ g. begin_in (slice_get spans g)) ex in
            let le : m.0 ≤ e.0 = m.2 in (
              v,
              w,
              ex,
              ey,
              back_by closed x y v w h k nl ex ey d m.0 (ap (λ g. end_in (slice_get spans g)) (sym ey) ∙ m.1) (omega arith),
            )

    -- where no two groups cross, the order keeps precedence
    pub ranks_keep : IsClosed → ((v w : ℕ) → IsBack spans v w → ⊥) → (ranks : List Rank) →
        AreRanks ops groups spans cut (length ops) ranks → AreInOrder ranks → KeepsPrecedence ops (places_of ranks)
    ranks_keep closed uncrossed ranks ranked in_order = keeps_from_none ops (places_of ranks) (λ i j a b _ ij la lb pre.
        option_and_then_some (slice_get ops) (slice_get (places_of ranks) i) a la (λ p ep fa.
        option_and_then_some (slice_get ops) (slice_get (places_of ranks) j) b lb (λ q eq fb.
        let x = rank_at ranks i p ep in
        let y = rank_at ranks j q eq in
        let h = is_rank ranks ranked in_order i x.0 x.1 in
        let k = is_rank ranks ranked in_order j y.0 y.1 in
        let sa : h.op ≡ a = rank_op x.0 p a h x.2 fa in
        let sb : k.op ≡ b = rank_op y.0 q b k y.2 fb in
        let ne : x.0.place ≢ y.0.place = λ s.
        let ij_same : i ≡ j = places_once ranks ranked in_order i j q (ep ∙ ap Some (sym x.2 ∙ s ∙ y.2)) eq in
        omega arith in
        let P : Op R → Op R → Type 0 = λ u v. Precedes u v in
        let back = turned_back closed x.0 y.0 h k (in_order i j x.0 y.0 x.1 y.1 ij) ne
        (subst (λ u. P u h.op) (sym sb) (subst (λ v. P b v) (sym sa) pre)) in
        uncrossed back.0 back.1 back.4)))
