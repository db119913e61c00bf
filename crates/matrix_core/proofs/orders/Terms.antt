-- The order of a term is one by number, with the number of its stamp for each operation: so it keeps precedence, and what was
-- read is the latest record. Its writes' tags rise by one at most, so that before a write with tag t stand t - 1 others.
use Rattle.std.proofs.Common.{◌≡◌, ℕ, suc, zero, ◌+◌, ◌<◌, ◌≤◌, Bool, true, false, cond, List, [], ◌∷◌, length, drop, take, get_or}
use Rattle.std.proofs.Common.{slice_get, Option, None, Some, IsSome, refl, sym, ◌∙◌, ap, subst, arith, ◌⊎◌, inl, inr}
use Rattle.std.specs.Prelude.{IfSome, ◌&&◌}
use Rattle.std.specs.List.{count_by}
use Rattle.std.proofs.lemmas.Bool.{cases_Bool, cases_lt, cases_order}
use Rattle.std.proofs.lemmas.Bool.Decides.{nat_tests}
use Rattle.std.proofs.lemmas.List.{take-take, take_all}
use Rattle.std.proofs.lemmas.List.Sums.{count_by_more_yes, sum_by-take-le}
use Rattle.std.proofs.lemmas.Option.{get_or_from_slice_get, none-some, same_Some, slice_get_within}
use Rattle.history_core.specs.declared.history.Kind.{Kind}
use Rattle.history_core.specs.declared.history.Kind.TheVariants.{Write, Read, Refused}
use Rattle.history_core.specs.declared.history.Op.{Op}
use Rattle.history_core.specs.declared.history.Term.{Term}
use Rattle.history_core.specs.Numbers.{IsByNumber, StandsAt}
use Rattle.history_core.specs.Orders.{in_term, IsAtomicOrder, IsListing, is_write, is_write_at, KeepsLimit, latest, Precedes, ReadsLatest}
use Rattle.history_core.specs.Orders.{RefusesLawfully, writes_in}
use Rattle.history_core.proofs.Latest.{HasItemByNumber, latest_is_opening, latest_is_written, NoWriteBetween, reads_by_number}
use Rattle.history_core.proofs.Listed.{some_and_from}
use Rattle.history_core.proofs.Listing.{listing_from, StandsOnce}
use Rattle.history_core.proofs.Numbered.{keeps_by_number}
use Rattle.matrix_core.specs.declared.stamp.Stamp.{Stamp}
use Rattle.matrix_core.specs.Choices.{AllChoose, BeginInTurn, Choice, HasChoices, IsAtMost, IsChoiceOf, IsEarlier, IsGreatestChoice, IsIn}
use Rattle.matrix_core.specs.Stamps.{first_stamp, IsBelow}
use Rattle.matrix_core.proofs.choices.Stamps.{rank}
use Rattle.matrix_core.specs.Listings.{IsInOrder}
use Rattle.matrix_core.proofs.choices.Rise.{all_fit, from_has, have_writes, one_write_each, stamps_rise, tags_rise}
use Rattle.matrix_core.proofs.orders.Places.{ComesFirst, IsListed, IsTermOrder, term_order}
use Rattle.matrix_core.proofs.choices.Stamps.{below_at_most, below_itself, Fits, rank_at_most, rank_below, rank_same}

rank_of : Option (Option Stamp) → ℕ
rank_of None = 0
rank_of (Some None) = 0
rank_of (Some (Some s)) = rank s

-- the number of the stamp that is reported at a place
pub number_of : List (Option Stamp) → ℕ → ℕ
number_of stamps p = rank_of (slice_get stamps p)

number_is : (stamps : List (Option Stamp)) (p : ℕ) (s : Stamp) → slice_get stamps p ≡ Some (Some s) → number_of stamps p ≡ rank s
unfolding number_of rank_of
number_is stamps p s e = ap rank_of e

kind_is_write : (kind : Kind) → is_write kind ≡ true → kind ≡ Write
kind_is_write Write e = refl
kind_is_write Read e = cc
kind_is_write Refused e = cc

counts_grow : (test : ℕ → Bool) (xs : List ℕ) (m n : ℕ) → m ≤ n → count_by test (take m xs) ≤ count_by test (take n xs)
counts_grow test xs m n le =
    let e : count_by test (take m (take n xs)) ≡ count_by test (take m xs) = ap (count_by test) (take-take m n xs le) in
    let h : count_by test (take m (take n xs)) ≤ count_by test (take n xs) = sum_by-take-le (λ x. cond (test x) 1 0) (take n xs) m in
    omega arith

-- the term that a term's order is of
abbrev only_term : ℕ → Term
only_term limit = record { first = 0; limit = limit }

-- to which each place belongs
within_only : (limit q : ℕ) → in_term (only_term limit) [] q ≡ true
within_only limit q = grind (arith, nat_tests)

module _ {R : Type 0} where
  -- no operation ends before it begins
  intervals : (Earlier : Choice R → Choice R → Type 0) (opening : R) (limit : ℕ) (choices : List (Choice R)) →
      AllChoose Earlier opening limit choices → (c : Choice R) → IsIn c choices → ¬ Earlier c c
  intervals Earlier opening limit [] ok c m e = absurd m
  intervals Earlier opening limit (x ∷ past) ok c (inl here) e =
      ok.0.interval (subst (λ z. Earlier x z) here (subst (λ z. Earlier z c) here e))
  intervals Earlier opening limit (x ∷ past) ok c (inr there) e = intervals Earlier opening limit past ok.1 c there e

  module _ (opening : R) (limit : ℕ) (ops : List (Op R)) (stamps : List (Option Stamp)) (choices : List (Choice R)) (order : List ℕ)
      (h : HasChoices opening limit ops stamps choices) (is : IsInOrder ops stamps order) (long : length stamps ≡ length ops)
      (turn : BeginInTurn ops) where
    o : IsTermOrder ops stamps order
    o = term_order ops stamps order is long turn

    -- a listed operation with its choice
    record HasChosen (p : ℕ) (a : Op R) : Type 0 where
      pub choice : Choice R
      pub there : IsIn choice choices
      pub place : choice.place ≡ p
      pub reported : slice_get stamps p ≡ Some (Some choice.stamp)
      pub kind : a.kind ≡ choice.kind
      pub item : a.item ≡ Some choice.item
      pub kept : (is_write a.kind ≡ true) ⊎ IsSome a.ends

    item_of : (a : Op R) (c : Choice R) (ends : Option ℕ) → a.ends ≡ ends → (c.kind ≡ Write → a.item ≡ Some c.item) →
        ((end : ℕ) → a.ends ≡ Some end → a.item ≡ Some c.item) → a.kind ≡ c.kind →
        (is_write a.kind ≡ true) ⊎ IsSome ends → a.item ≡ Some c.item
    item_of a c ends e written ended k (inl w) = written (sym k ∙ kind_is_write a.kind w)
    item_of a c None e written ended k (inr s) = cc
    item_of a c (Some end) e written ended k (inr s) = ended end e

    chosen_at : (p : ℕ) (a : Op R) → slice_get ops p ≡ Some a → IsListed ops stamps p → HasChosen p a
    chosen_at p a at l =
        let c : Choice R = (h.reported p l.stamp l.chosen).0 in
        let m : IsIn c choices = (h.reported p l.stamp l.chosen).1 in
        let place : c.place ≡ p = (h.reported p l.stamp l.chosen).2 in
        let w : IsChoiceOf ops stamps c = h.each c m in
        let s : w.op ≡ a = same_Some w.op a (sym w.there ∙ ap (slice_get ops) place ∙ at) in
        let t : l.op ≡ a = same_Some l.op a (sym l.there ∙ at) in
        let kind : a.kind ≡ c.kind = sym (ap (λ (z : Op R). z.kind) s) ∙ w.same_kind in
        let kept : (is_write a.kind ≡ true) ⊎ IsSome a.ends = subst (λ (z : Op R). (is_write z.kind ≡ true) ⊎ IsSome z.ends) t l.kept in
        record {
          choice = c;
          there = m;
          place = place;
          reported = sym (ap (slice_get stamps) place) ∙ w.reported;
          kind = kind;
          item = item_of a c a.ends refl (λ k. sym (ap (λ (z : Op R). z.item) s) ∙ w.written k)
              (λ end e. sym (ap (λ (z : Op R). z.item) s) ∙ w.ended end (ap (λ (z : Op R). z.ends) s ∙ e)) kind kept;
          kept = kept;
        }

    stands : (i p : ℕ) (a : Op R) → StandsAt ops order i p a → HasChosen p a
    stands i p a at = chosen_at p a at.1 (o.listed i p at.0)

    fits : (p : ℕ) (a : Op R) (c : HasChosen p a) → Fits c.choice.stamp
    fits p a c = all_fit (IsEarlier ops) opening limit choices h.law c.choice c.there

    -- numbers are those of the stamps
    number_at : (p : ℕ) (a : Op R) (c : HasChosen p a) → number_of stamps p ≡ rank c.choice.stamp
    number_at p a c = number_is stamps p c.choice.stamp c.reported

    same_stamp : (p q : ℕ) (a b : Op R) (c : HasChosen p a) (d : HasChosen q b) → number_of stamps p ≡ number_of stamps q →
        c.choice.stamp ≡ d.choice.stamp
    same_stamp p q a b c d e =
        rank_same c.choice.stamp d.choice.stamp (fits p a c) (fits q b d) (sym (number_at p a c) ∙ e ∙ number_at q b d)

    below_number : (p q : ℕ) (a b : Op R) (c : HasChosen p a) (d : HasChosen q b) → IsBelow c.choice.stamp d.choice.stamp →
        number_of stamps p < number_of stamps q
    below_number p q a b c d l =
        let x : number_of stamps p ≡ rank c.choice.stamp = number_at p a c in
        let y : number_of stamps q ≡ rank d.choice.stamp = number_at q b d in
        let r : rank c.choice.stamp < rank d.choice.stamp = rank_below c.choice.stamp d.choice.stamp (fits p a c) l in
        omega arith

    at_most_number : (p q : ℕ) (a b : Op R) (c : HasChosen p a) (d : HasChosen q b) → IsAtMost c.choice.stamp d.choice.stamp →
        number_of stamps p ≤ number_of stamps q
    at_most_number p q a b c d l =
        let x : number_of stamps p ≡ rank c.choice.stamp = number_at p a c in
        let y : number_of stamps q ≡ rank d.choice.stamp = number_at q b d in
        let r : rank c.choice.stamp ≤ rank d.choice.stamp = rank_at_most c.choice.stamp d.choice.stamp (fits p a c) l in
        omega arith

    earlier_of : (p q : ℕ) (a b : Op R) (c : HasChosen p a) (d : HasChosen q b) → slice_get ops p ≡ Some a → slice_get ops q ≡ Some b →
        Precedes a b → IsEarlier ops c.choice d.choice
    earlier_of p q a b c d pa qb pre = (a, b, ap (slice_get ops) c.place ∙ pa, ap (slice_get ops) d.place ∙ qb, pre)

    rise_along : (p q : ℕ) (a b : Op R) (c : HasChosen p a) (d : HasChosen q b) → slice_get ops p ≡ Some a → slice_get ops q ≡ Some b →
        Precedes a b → IsAtMost c.choice.stamp d.choice.stamp × (d.choice.kind ≡ Write → IsBelow c.choice.stamp d.choice.stamp)
    rise_along p q a b c d pa qb pre =
        stamps_rise (IsEarlier ops) opening limit choices h.law c.choice d.choice c.there d.there (earlier_of p q a b c d pa qb pre)

    comes_first : (i j p q : ℕ) (a b : Op R) (ai : StandsAt ops order i p a) (bj : StandsAt ops order j q b) → i < j →
        (c : HasChosen p a) (d : HasChosen q b) → ComesFirst c.choice.stamp a d.choice.stamp b
    comes_first i j p q a b ai bj l c d = o.sorted i j p q a b c.choice.stamp d.choice.stamp ai bj c.reported d.reported l

    sorted_by : (p q : ℕ) (a b : Op R) (c : HasChosen p a) (d : HasChosen q b) → ComesFirst c.choice.stamp a d.choice.stamp b →
        number_of stamps p ≤ number_of stamps q
    sorted_by p q a b c d (inl l) = at_most_number p q a b c d (inr l)
    sorted_by p q a b c d (inr (inl e)) = at_most_number p q a b c d (inl e.0)
    sorted_by p q a b c d (inr (inr e)) = at_most_number p q a b c d (inl e.0)

    -- two writes with one stamp are one
    one_write : (p q : ℕ) (a b : Op R) (c : HasChosen p a) (d : HasChosen q b) → slice_get ops p ≡ Some a → slice_get ops q ≡ Some b →
        c.choice.stamp ≡ d.choice.stamp → is_write a.kind ≡ true → is_write b.kind ≡ true → a ≡ b
    one_write p q a b c d pa qb same aw bw =
        let cw : c.choice.kind ≡ Write = sym c.kind ∙ kind_is_write a.kind aw in
        let dw : d.choice.kind ≡ Write = sym d.kind ∙ kind_is_write b.kind bw in
        let e : c.choice ≡ d.choice =
        one_write_each (IsEarlier ops) opening limit choices h.law c.choice d.choice c.there d.there cw dw same in
        let pq : p ≡ q = sym c.place ∙ ap (λ (z : Choice R). z.place) e ∙ d.place in
        same_Some a b (sym pa ∙ ap (slice_get ops) pq ∙ qb)

    write_once : (p q : ℕ) (a b : Op R) (c : HasChosen p a) (d : HasChosen q b) → slice_get ops p ≡ Some a → slice_get ops q ≡ Some b →
        ComesFirst c.choice.stamp a d.choice.stamp b → c.choice.stamp ≡ d.choice.stamp → is_write b.kind ≡ false
    write_once p q a b c d pa qb (inl l) same = absurd (below_itself d.choice.stamp (subst (λ z. IsBelow z d.choice.stamp) same l))
    write_once p q a b c d pa qb (inr (inl e)) same = e.2
    write_once p q a b c d pa qb (inr (inr e)) same = elim (cases_Bool (is_write b.kind)) [
      | inr f ↦ f
      | inl w ↦
          let aw : is_write a.kind ≡ true = e.1 ∙ w in
          let s : a.starts ≡ b.starts = ap (λ (z : Op R). z.starts) (one_write p q a b c d pa qb same aw w) in
          let l : a.starts < b.starts = e.2 in
          absurd (omega arith)
    ]

    begins_first : (p q : ℕ) (a b : Op R) (c : HasChosen p a) (d : HasChosen q b) → ComesFirst c.choice.stamp a d.choice.stamp b →
        c.choice.stamp ≡ d.choice.stamp → is_write a.kind ≡ false → a.starts ≤ b.starts
    begins_first p q a b c d (inl l) same f = absurd (below_itself d.choice.stamp (subst (λ z. IsBelow z d.choice.stamp) same l))
    begins_first p q a b c d (inr (inl e)) same f = let w : is_write a.kind ≡ true = e.1 in cc
    begins_first p q a b c d (inr (inr e)) same f = let l : a.starts < b.starts = e.2 in omega arith

    forwards : (p : ℕ) (a : Op R) (c : HasChosen p a) → slice_get ops p ≡ Some a → (ends : Option ℕ) → a.ends ≡ ends →
        IfSome ends (λ end. a.starts ≤ end)
    forwards p a c pa None e = tt
    forwards p a c pa (Some end) e = elim (cases_lt end a.starts) [
      | inr le ↦ le
      | inl l ↦ absurd (intervals (IsEarlier ops) opening limit choices h.law c.choice c.there
          (earlier_of p p a a c c pa pa (some_and_from (λ z. z < a.starts) a.ends end e l)))
    ]

    pub term_by_number : IsByNumber (number_of stamps) ops order
    term_by_number = record {
      rises = λ i j p q a b ai bj pre. at_most_number p q a b (stands i p a ai) (stands j q b bj)
          (rise_along p q a b (stands i p a ai) (stands j q b bj) ai.1 bj.1 pre).0;
      sorted = λ i j p q a b ai bj l.
          sorted_by p q a b (stands i p a ai) (stands j q b bj) (comes_first i j p q a b ai bj l (stands i p a ai) (stands j q b bj));
      write_first = λ i j p q a b ai bj l e. write_once p q a b (stands i p a ai) (stands j q b bj) ai.1 bj.1
          (comes_first i j p q a b ai bj l (stands i p a ai) (stands j q b bj)) (same_stamp p q a b (stands i p a ai) (stands j q b bj) e);
      by_beginning = λ i j p q a b ai bj l e f. begins_first p q a b (stands i p a ai) (stands j q b bj) (comes_first i j p q a b ai bj l
          (stands i p a ai) (stands j q b bj)) (same_stamp p q a b (stands i p a ai) (stands j q b bj) e) f;
      after_write = λ i j p q a b ai bj l e w pre.
          let c : HasChosen p a = stands i p a ai in
          let d : HasChosen q b = stands j q b bj in
          let g : IsBelow d.choice.stamp c.choice.stamp = (rise_along q p b a d c bj.1 ai.1 pre).1 (sym c.kind ∙ kind_is_write a.kind w) in
          let r : number_of stamps q < number_of stamps p = below_number q p b a d c g in
          omega arith;
      forwards = λ i p a ai. forwards p a (stands i p a ai) ai.1 a.ends refl;
    }

    -- listing
    not_before_itself : (s : Stamp) (a : Op R) → ComesFirst s a s a → ⊥
    not_before_itself s a (inl l) = below_itself s l
    not_before_itself s a (inr (inl e)) = let w : is_write a.kind ≡ true = e.1 in let f : is_write a.kind ≡ false = e.2 in cc
    not_before_itself s a (inr (inr e)) = let l : a.starts < a.starts = e.2 in omega arith

    not_twice : (i j p : ℕ) → slice_get order i ≡ Some p → slice_get order j ≡ Some p → i < j → ⊥
    not_twice i j p ei ej lt =
        let l : IsListed ops stamps p = o.listed i p ei in
        not_before_itself l.stamp l.op (o.sorted i j p p l.op l.op l.stamp l.stamp (ei, l.there) (ej, l.there) l.chosen l.chosen lt)

    once : StandsOnce order
    once i j p ei ej = elim (cases_order i j) [
      | inl e ↦ e
      | inr (inl l) ↦ absurd (not_twice i j p ei ej l)
      | inr (inr l) ↦ absurd (not_twice j i p ej ei l)
    ]

    finished_stands : (p end : ℕ) (a : Op R) → slice_get ops p ≡ Some a → a.ends ≡ Some end → (i : ℕ) × (slice_get order i ≡ Some p)
    finished_stands p end a pa e =
        let w = h.finished p end a pa e in
        let is : IsChoiceOf ops stamps w.0 = h.each w.0 w.1 in
        let some : IsSome a.ends = subst (λ z. IsSome z) (sym e) refl in
        o.all p (record { op = a; there = pa; stamp = w.0.stamp; chosen = sym (ap (slice_get stamps) w.2) ∙ is.reported; kept = inr some })

    unfinished_writes : (i p : ℕ) (a : Op R) → StandsAt ops order i p a → a.ends ≡ None → is_write a.kind ≡ true
    unfinished_writes i p a ai e = elim ((stands i p a ai).kept) [
      | inl w ↦ w
      | inr s ↦ let n : IsSome {T = ℕ} None = subst (λ z. IsSome z) e s in cc
    ]

    term_listing : IsListing ops order
    term_listing = listing_from ops order (λ i p e.
        let l : IsListed ops stamps p = o.listed i p e in
        slice_get_within ops p l.op l.there) once finished_stands unfinished_writes

    -- a write that has chosen is listed
    record IsListedWrite (w : Choice R) : Type 0 where
      pub j : ℕ
      pub op : Op R
      pub at : StandsAt ops order j w.place op
      pub write : is_write op.kind ≡ true
      pub item : op.item ≡ Some w.item
      pub reported : slice_get stamps w.place ≡ Some (Some w.stamp)

    listed_write : (w : Choice R) → IsIn w choices → w.kind ≡ Write → IsListedWrite w
    listed_write w m k =
        let is : IsChoiceOf ops stamps w = h.each w m in
        let write : is_write is.op.kind ≡ true = ap is_write (is.same_kind ∙ k) in
        let l = o.all w.place (record { op = is.op; there = is.there; stamp = w.stamp; chosen = is.reported; kept = inl write }) in
        record { j = l.0; op = is.op; at = (l.1, is.there); write = write; item = is.written k; reported = is.reported }

    -- the stamp of a listed write is greater than the opening's
    above_first : (q : ℕ) (b : Op R) (d : HasChosen q b) → is_write b.kind ≡ true → IsBelow first_stamp d.choice.stamp
    above_first q b d w =
        let t = (tags_rise (IsEarlier ops) opening limit choices h.law d.choice d.there).1 (sym d.kind ∙ kind_is_write b.kind w) in
        elim t [
          | inl e ↦ inl (omega arith)
          | inr v ↦ let e : v.0.stamp.tag + 1 ≡ d.choice.stamp.tag = v.3 in inl (omega arith)
        ]

    -- reading
    item_by_number : (p : ℕ) (a : Op R) (c : HasChosen p a) → HasItemByNumber (number_of stamps) opening ops order p a
    item_by_number p a c = elim (have_writes (IsEarlier ops) opening limit choices h.law c.choice c.there) [
      | inl e ↦ inr (
        c.item ∙ ap Some e.1,
        λ j q b bj w.
            below_number p q a b c (stands j q b bj)
            (subst (λ z. IsBelow z (stands j q b bj).choice.stamp) (sym e.0) (above_first q b (stands j q b bj) w)),
      )
      | inr w ↦
          let l : IsListedWrite w.0 = listed_write w.0 w.1 w.2 in
          let same : number_of stamps w.0.place ≡ number_of stamps p =
          number_is stamps w.0.place w.0.stamp l.reported ∙ ap rank w.3 ∙ sym (number_at p a c) in
          inl (l.j, w.0.place, l.op, l.at, l.write, same, c.item ∙ ap Some (sym w.4) ∙ sym l.item)
    ]

    has_item : (p : ℕ) (a : Op R) (c : HasChosen p a) → IsSome a.item
    has_item p a c = subst (λ z. IsSome z) (sym c.item) refl

    term_reading : ReadsLatest (λ x y. x ≡ y) opening ops order
    term_reading = reads_by_number (number_of stamps) opening ops order term_by_number (λ i p a ai. has_item p a (stands i p a ai))
        (λ i p a ai f. item_by_number p a (stands i p a ai))

    -- the order of a term is atomic
    pub term_atomic : IsAtomicOrder (λ x y. x ≡ y) opening ops order
    term_atomic = record {
      listing = term_listing;
      precedence = keeps_by_number (number_of stamps) ops order term_by_number;
      reading = term_reading;
    }

    -- refusals
    write_counts : (q : ℕ) (a : Op R) → slice_get ops q ≡ Some a → is_write a.kind ≡ true →
        (in_term (only_term limit) [] q && is_write_at (slice_get ops q)) ≡ true
    write_counts q a e w = let x : is_write_at (slice_get ops q) ≡ true = ap is_write_at e ∙ w in rw (within_only limit q, x) refl

    abbrev writes_before : ℕ → ℕ
    writes_before n = writes_in (in_term (only_term limit) []) ops (take n order)

    one_more : (j q : ℕ) (a : Op R) → StandsAt ops order j q a → is_write a.kind ≡ true → writes_before (j + 1) ≡ writes_before j + 1
    one_more j q a at w =
        let test : ℕ → Bool = λ z. in_term (only_term limit) [] z && is_write_at (slice_get ops z) in
        let l : j < length order = slice_get_within order j q at.0 in
        let value : get_or order j 0 ≡ q = get_or_from_slice_get order j q 0 at.0 in
        count_by_more_yes test order j 0 l (ap test value ∙ write_counts q a at.1 w)

    -- a listed write stands before another whose stamp is greater
    stamps_place : (i j p q : ℕ) (a b : Op R) → StandsAt ops order i p a → StandsAt ops order j q b →
        number_of stamps p < number_of stamps q → i < j
    stamps_place i j p q a b ai bj l = elim (cases_lt i j) [
      | inl r ↦ r
      | inr le ↦ elim (cases_order i j) [
        | inl e ↦
            let pq : p ≡ q = same_Some p q (sym ai.0 ∙ ap (slice_get order) e ∙ bj.0) in
            let n : number_of stamps p ≡ number_of stamps q = ap (number_of stamps) pq in
            absurd (omega arith)
        | inr (inl r) ↦ r
        | inr (inr r) ↦ let n : number_of stamps q ≤ number_of stamps p = term_by_number.sorted j i q p b a bj ai r in absurd (omega arith)
      ]
    ]

    -- the tag of a listed write is at most the number of writes that stand up to it
    tags_counted : (n : ℕ) (w : Choice R) → IsIn w choices → w.kind ≡ Write → w.stamp.tag ≡ n → (l : IsListedWrite w) →
        n ≤ writes_before (l.j + 1)
    tags_counted zero w m k t l = omega arith
    tags_counted (suc n) w m k t l = elim ((tags_rise (IsEarlier ops) opening limit choices h.law w m).1 k) [
      | inl e ↦ let s : writes_before (l.j + 1) ≡ writes_before l.j + 1 = one_more l.j w.place l.op l.at l.write in omega arith
      | inr v ↦
          let tag : v.0.stamp.tag + 1 ≡ w.stamp.tag = v.3 in
          let lv : IsListedWrite v.0 = listed_write v.0 v.1 v.2 in
          let cv : HasChosen v.0.place lv.op = stands lv.j v.0.place lv.op lv.at in
          let nv : number_of stamps v.0.place ≡ rank v.0.stamp = number_is stamps v.0.place v.0.stamp lv.reported in
          let nw : number_of stamps w.place ≡ rank w.stamp = number_is stamps w.place w.stamp l.reported in
          let r : rank v.0.stamp < rank w.stamp =
          rank_below v.0.stamp w.stamp (all_fit (IsEarlier ops) opening limit choices h.law v.0 v.1) (inl (omega arith)) in
          let before : lv.j < l.j = stamps_place lv.j l.j v.0.place w.place lv.op l.op lv.at l.at (omega arith) in
          let ih : n ≤ writes_before (lv.j + 1) = tags_counted n v.0 v.1 v.2 (omega arith) lv in
          let up : writes_before (lv.j + 1) ≤ writes_before l.j =
          counts_grow (λ z. in_term (only_term limit) [] z && is_write_at (slice_get ops z)) order (lv.j + 1) l.j (omega arith) in
          let s : writes_before (l.j + 1) ≡ writes_before l.j + 1 = one_more l.j w.place l.op l.at l.write in
          omega arith
    ]

    -- the write of a stamp stands before those that read it
    write_before : (i p : ℕ) (a : Op R) → StandsAt ops order i p a → is_write a.kind ≡ false → (w : Choice R) (l : IsListedWrite w) →
        number_of stamps w.place ≡ number_of stamps p → l.j < i
    write_before i p a ai f w l same = elim (cases_order l.j i) [
      | inr (inl r) ↦ r
      | inl e ↦
          let wp : w.place ≡ p = same_Some w.place p (sym l.at.0 ∙ ap (slice_get order) e ∙ ai.0) in
          let op : l.op ≡ a = same_Some l.op a (sym l.at.1 ∙ ap (slice_get ops) wp ∙ ai.1) in
          let k : is_write l.op.kind ≡ is_write a.kind = ap (λ (z : Op R). is_write z.kind) op in
          let t : is_write l.op.kind ≡ true = l.write in
          cc
      | inr (inr r) ↦
          let n : is_write l.op.kind ≡ false = term_by_number.write_first i l.j p w.place a l.op ai l.at r (sym same) in
          let t : is_write l.op.kind ≡ true = l.write in
          cc
    ]

    keeps_limit : (i p : ℕ) (a : Op R) → StandsAt ops order i p a → a.kind ≡ Refused → limit ≤ writes_before i
    keeps_limit i p a ai k =
        let c : HasChosen p a = stands i p a ai in
        let t : limit ≤ c.choice.stamp.tag = (tags_rise (IsEarlier ops) opening limit choices h.law c.choice c.there).0 (sym c.kind ∙ k) in
        elim (have_writes (IsEarlier ops) opening limit choices h.law c.choice c.there) [
          | inl e ↦ let z : c.choice.stamp.tag ≡ 0 = ap (λ s. s.tag) e.0 in omega arith
          | inr w ↦
              let l : IsListedWrite w.0 = listed_write w.0 w.1 w.2 in
              let same : number_of stamps w.0.place ≡ number_of stamps p =
              number_is stamps w.0.place w.0.stamp l.reported ∙ ap rank w.3 ∙ sym (number_at p a c) in
              let before : l.j < i = write_before i p a ai (ap is_write k) w.0 l same in
              let tag : w.0.stamp.tag ≡ c.choice.stamp.tag = ap (λ s. s.tag) w.3 in
              let n : w.0.stamp.tag ≤ writes_before (l.j + 1) = tags_counted w.0.stamp.tag w.0 w.1 w.2 refl l in
              let up : writes_before (l.j + 1) ≤ writes_before i =
              counts_grow (λ z. in_term (only_term limit) [] z && is_write_at (slice_get ops z)) order (l.j + 1) i (omega arith) in
              omega arith
        ]

    lawful_by : (k : ℕ) (t : Term) → slice_get (only_term limit ∷ []) k ≡ Some t →
        KeepsLimit (in_term t (drop (k + 1) (only_term limit ∷ []))) t.limit ops order
    lawful_by zero t e =
        let P : Term → Type 0 = λ z. KeepsLimit (in_term z []) z.limit ops order in
        subst P (same_Some (only_term limit) t e) (λ i p a ei pa k w. keeps_limit i p a (ei, pa) k)
    lawful_by (suc k) t e = absurd (none-some t e)

    -- the order of a term refuses lawfully
    pub term_lawful : RefusesLawfully (record { first = 0; limit = limit } ∷ []) ops order
    term_lawful = lawful_by

    -- the latest record after the whole order
    greatest_is_last : (stamp : Stamp) (item : R) → IsGreatestChoice opening choices stamp item → (w : Choice R) → IsIn w choices →
        w.kind ≡ Write → w.stamp ≡ stamp → w.item ≡ item → latest opening ops (take (length order) order) ≡ Some item
    greatest_is_last stamp item g w m k s x =
        let l : IsListedWrite w = listed_write w m k in
        latest_is_written opening ops order l.j (length order) w.place l.op l.at l.write (slice_get_within order l.j w.place l.at.0)
        (omega arith) (none l) ∙ l.item ∙ ap Some x
      where
        none : (l : IsListedWrite w) → NoWriteBetween ops order (l.j + 1) (length order)
        none l i p mi _ ei =
            let at : IsListed ops stamps p = o.listed i p ei in
            let b : StandsAt ops order i p at.op = (ei, at.there) in
            let c : HasChosen w.place l.op = stands l.j w.place l.op l.at in
            let d : HasChosen p at.op = stands i p at.op b in
            let cs : c.choice.stamp ≡ w.stamp =
            same_Some c.choice.stamp w.stamp (same_Some (Some c.choice.stamp) (Some w.stamp) (sym c.reported ∙ l.reported)) in
            let down : IsAtMost d.choice.stamp c.choice.stamp =
            subst (λ z. IsAtMost d.choice.stamp z) (sym (cs ∙ s)) (g.1 d.choice d.there) in
            let x : number_of stamps p ≤ number_of stamps w.place = at_most_number p w.place at.op l.op d c down in
            let y : number_of stamps w.place ≤ number_of stamps p = term_by_number.sorted l.j i w.place p l.op at.op l.at b (omega arith) in
            let e : number_of stamps w.place ≡ number_of stamps p = omega arith in
            ap is_write_at at.there ∙ term_by_number.write_first l.j i w.place p l.op at.op l.at b (omega arith) e

    opening_is_last : (stamp : Stamp) (item : R) → IsGreatestChoice opening choices stamp item → stamp ≡ first_stamp →
        latest opening ops (take (length order) order) ≡ Some opening
    opening_is_last stamp item g s = latest_is_opening opening ops order (length order) (omega arith) none
      where
        none : NoWriteBetween ops order 0 (length order)
        none i p _ _ ei =
            let at : IsListed ops stamps p = o.listed i p ei in
            let d : HasChosen p at.op = stands i p at.op (ei, at.there) in
            elim (cases_Bool (is_write at.op.kind)) [
              | inr f ↦ ap is_write_at at.there ∙ f
              | inl w ↦
                  let up : IsBelow first_stamp d.choice.stamp = above_first p at.op d w in
                  let down : IsAtMost d.choice.stamp first_stamp = subst (λ z. IsAtMost d.choice.stamp z) s (g.1 d.choice d.there) in
                  absurd (below_itself first_stamp (below_at_most first_stamp d.choice.stamp first_stamp up down))
            ]

    -- the greatest of all records is the latest after the order: the item of the last write, or the opening
    pub term_last : (stamp : Stamp) (item : R) → IsGreatestChoice opening choices stamp item → latest opening ops order ≡ Some item
    term_last stamp item g =
        sym (ap (latest opening ops) (take_all (length order) order (omega arith)))
        ∙ elim (from_has opening choices stamp item (have_writes (IsEarlier ops) opening limit choices h.law) g.0) [
          | inl e ↦ opening_is_last stamp item g e.0 ∙ ap Some (sym e.1)
          | inr w ↦ greatest_is_last stamp item g w.0 w.1 w.2 w.3 w.4
        ]
