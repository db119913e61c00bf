-- The order of a run's calls by stamp is that of one register: of one stamp there is one record, so what a call that writes nothing has
-- is the record of the last write before it.
use Rattle.std.proofs.Common.{◌≡◌, ◌≢◌, ℕ, zero, suc, ◌+◌, ◌<◌, ◌≤◌, List, [], ◌∷◌, length, take, slice_get, Option, Some}
use Rattle.std.proofs.Common.{Bool, true, false, option_and_then, get_or, refl, sym, ◌∙◌, ap, subst, arith, ◌⊎◌, inl, inr}
use Rattle.std.specs.Prelude.{◌&&◌, ◌||◌, is_some, IsSomeAnd, if◌then◌else◌}
use Rattle.std.proofs.lemmas.Bool.{cases_Bool, cases_order}
use Rattle.std.proofs.lemmas.Bool.Decides.{nat_tests}
use Rattle.std.proofs.lemmas.List.Sums.{count_by_more_no, count_by_more_yes}
use Rattle.std.proofs.lemmas.Option.{get_or_from_slice_get, same_Some, slice_get_within}
use Rattle.history_core.specs.declared.history.Op.{Op}
use Rattle.history_core.specs.declared.history.Term.{Term}
use Rattle.history_core.specs.declared.history.Kind.{Kind}
use Rattle.history_core.specs.declared.history.Kind.TheVariants.{Write, Read, Refused}
use Rattle.history_core.specs.Numbers.{StandsAt}
use Rattle.history_core.specs.Orders.{in_term, IsAtomicOrder, is_write, is_write_at, listed_at, Precedes, RefusesLawfully, times_of}
use Rattle.history_core.specs.Orders.{writes_in}
use Rattle.history_core.proofs.Listing.{times_cases}
use Rattle.matrix_core.specs.declared.stamp.Stamp.{Stamp}
use Rattle.matrix_core.specs.declared.stamp.Stamped.{Stamped}
use Rattle.matrix_core.specs.Choices.{ChoosesByKind, IsAtMost}
use Rattle.matrix_core.specs.Stamps.{first_stamp, IsBelow}
use Rattle.matrix_core.proofs.choices.Stamps.{at_most_trans, below_at_most, below_itself}
use Rattle.matrix_core.specs.Lines.{first_record}
use Rattle.matrix_core.specs.Listings.{IsInOrder, is_listed, MayPrecede}
use Rattle.matrix_core.proofs.lists.Elements.{get_exists}
use Rattle.matrix_core.proofs.orders.Places.{times_twice}
use Rattle.board_history.specs.BoardRuns.{Called, Did, IsBoardRun, own_before}
use Rattle.board_history.specs.Histories.{IsOpOfCall, IsGreatestOwn, IsHistory, own_after}
use Rattle.board_history.specs.OneRegister.{AreOfOne, IsOneOrder, Named, Takes}
use Rattle.board_history.proofs.Last.{chosen_below}
use Rattle.board_history.proofs.Rising.{first_least, own_next, own_zero}
use Rattle.board_history.proofs.Later.{calls_agree, calls_rise, calls_written}
use Rattle.board_history.proofs.Whole.{all_there, begin_once, history_atomic, history_lawful, in_turn as turns, lasts}

both_ways : (a b : Stamp) → IsAtMost a b → IsAtMost b a → a ≡ b
both_ways a b (inl e) h = e
both_ways a b (inr l) h = absurd (below_itself a (below_at_most a b a l h))

-- what the kind of a call leaves, and how many writes
abbrev left : {V : Type 0} → Kind → Stamped V → Stamped V → Stamped V
left Write chosen now = chosen
left Read chosen now = now
left Refused chosen now = now

abbrev more : Kind → ℕ → ℕ
more Write writes = writes + 1
more Read writes = writes
more Refused writes = writes

more_is : (kind : Kind) (writes : ℕ) → writes + (if is_write kind then 1 else 0) ≡ more kind writes
more_is Write writes = refl
more_is Read writes = omega arith
more_is Refused writes = omega arith

may_be_at_most : {R : Type 0} (s t : Stamp) (a b : Op R) (p q : ℕ) → MayPrecede s a p t b q → IsAtMost s t
may_be_at_most s t a b p q (inl l) = inr l
may_be_at_most s t a b p q (inr e) = inl e.0

listed_by : {R : Type 0} (o : Op R) (end : ℕ) (s : Stamp) → o.ends ≡ Some end → is_listed o (Some s) ≡ true
listed_by o end s e = ap (λ z. is_some z || is_write o.kind) e

at_most_one : (b : Bool) (times : ℕ) → times ≡ (if b then 1 else 0) → times ≤ 1
at_most_one true times e = omega arith
at_most_one false times e = omega arith

not_both : (b : Bool) → b ≡ false → b ≡ true → ⊥
not_both true f t = cc
not_both false f t = cc

-- the term that a run's order is of
abbrev whole : ℕ → Term
whole limit = record { first = 0; limit = limit }

within_whole : (limit q : ℕ) → in_term (whole limit) [] q ≡ true
within_whole limit q = grind (arith, nat_tests)

-- one entry more adds one where it is a write
counts_more : {R : Type 0} (limit : ℕ) (ops : List (Op R)) (order : List ℕ) (x p : ℕ) (o : Op R) → StandsAt ops order x p o →
    writes_in (in_term (whole limit) []) ops (take (x + 1) order)
    ≡ writes_in (in_term (whole limit) []) ops (take x order) + (if is_write o.kind then 1 else 0)
counts_more limit ops order x p o at =
    let l : x < length order = slice_get_within order x p at.0 in
    let g : get_or order x 0 ≡ p = get_or_from_slice_get order x p 0 at.0 in
    let t : (in_term (whole limit) [] (get_or order x 0) && is_write_at (slice_get ops (get_or order x 0))) ≡ is_write o.kind =
    ap (λ b. b && is_write_at (slice_get ops (get_or order x 0))) (within_whole limit (get_or order x 0))
    ∙ ap (λ q. is_write_at (slice_get ops q)) g ∙ ap is_write_at at.1 in
    elim (cases_Bool (is_write o.kind)) [
      | inl y ↦ count_by_more_yes (λ q. in_term (whole limit) [] q && is_write_at (slice_get ops q)) order x 0 l (t ∙ y)
          ∙ ap (λ b. writes_in (in_term (whole limit) []) ops (take x order) + (if b then 1 else 0)) (sym y)
      | inr y ↦ count_by_more_no (λ q. in_term (whole limit) [] q && is_write_at (slice_get ops q)) order x 0 l (t ∙ y) ∙ omega arith
          ∙ ap (λ b. writes_in (in_term (whole limit) []) ops (take x order) + (if b then 1 else 0)) (sym y)
    ]

-- of two places with operations that begin at one time there is one
one_place : {R : Type 0} (ops : List (Op R)) (p q : ℕ) (a b : Op R) →
    ((p q : ℕ) (a b : Op R) → slice_get ops p ≡ Some a → slice_get ops q ≡ Some b → p < q → a.starts < b.starts) →
    slice_get ops p ≡ Some a → slice_get ops q ≡ Some b → a.starts ≡ b.starts → p ≡ q
one_place ops p q a b rising ha hb e = elim (cases_order p q) [
  | inl same ↦ same
  | inr (inl l) ↦ let r : a.starts < b.starts = rising p q a b ha hb l in absurd (omega arith)
  | inr (inr l) ↦ let r : b.starts < a.starts = rising q p b a hb ha l in absurd (omega arith)
]

precedes_at : {R : Type 0} (a b : Op R) (end begin : ℕ) → a.ends ≡ Some end → b.starts ≡ begin → end < begin → Precedes a b
precedes_at a b end begin e s l = subst (λ o. IsSomeAnd o (λ z. z < b.starts)) (sym e) (subst (λ z. end < z) (sym s) l)

ends_before : {R : Type 0} (a b : Op R) (end begin : ℕ) → a.ends ≡ Some end → b.starts ≡ begin → Precedes a b → end < begin
ends_before a b end begin e s h =
    subst (λ z. end < z) s (subst (λ (o : Option ℕ). IsSomeAnd o (λ z. z < b.starts)) e h)

module _ {V : Type 0} (width n limit : ℕ) (opening : V) (steps : List ℕ) (did : ℕ → Did V)
    (run : IsBoardRun width n limit (first_record opening) steps did) where
  abbrev first : Stamped V
  first = first_record opening

  -- a write's stamp has a tag above 0, and names its process
  by_write : (i : ℕ) (c : Called V) (kind : Kind) → kind ≡ Write →
      ChoosesByKind limit (record { place = 0; who = i; kind = kind; stamp = c.chosen.stamp; item = c.chosen.item })
      kind c.seen.stamp c.seen.item
      → IsBelow first_stamp c.chosen.stamp × (c.chosen.stamp.writer ≡ i)
  by_write i c Write e h =
      let tag : c.chosen.stamp.tag ≡ c.seen.stamp.tag + 1 = ap (λ (z : Stamp). z.tag) h.1 in
      (inl (omega arith), ap (λ (z : Stamp). z.writer) h.1)
  by_write i c Read e h = cc
  by_write i c Refused e h = cc

  writes_own : (i k : ℕ) (c : Called V) → i < n → slice_get (did i).calls k ≡ Some c → c.kind ≡ Write →
      IsBelow first_stamp c.chosen.stamp × (c.chosen.stamp.writer ≡ i)
  writes_own i k c l e w = by_write i c c.kind w ((run.each i l).chooses k 0 c e)

  -- a record that is the first one, or that some call chose
  abbrev IsPosted : Stamped V → Type 0
  IsPosted r = (r ≡ first) ⊎ ((i : ℕ) × (k : ℕ) × (c : Called V) × (i < n) × (slice_get (did i).calls k ≡ Some c) × (c.chosen ≡ r))

  -- a call that chose the first stamp has the first record
  first_of : (i k : ℕ) (c : Called V) → i < n → slice_get (did i).calls k ≡ Some c → c.chosen.stamp ≡ first_stamp → c.chosen ≡ first
  first_of i k c l e s = elim (calls_written width n limit opening steps did run i k c l e) [
    | inl f ↦ f
    | inr w ↦
        let b : IsBelow first_stamp w.2.chosen.stamp = (writes_own w.0 w.1 w.2 w.3 w.4 w.5).0 in
        let same : w.2.chosen.stamp ≡ first_stamp = ap (λ (z : Stamped V). z.stamp) (sym w.6) ∙ s in
        absurd (below_itself first_stamp (subst (λ z. IsBelow first_stamp z) same b))
  ]

  -- of one stamp there is one record
  same_posted : (a b : Stamped V) → IsPosted a → IsPosted b → a.stamp ≡ b.stamp → a ≡ b
  same_posted a b (inl f) (inl g) s = f ∙ sym g
  same_posted a b (inl f) (inr w) s =
      let e : w.2.chosen.stamp ≡ first_stamp = ap (λ (z : Stamped V). z.stamp) w.5 ∙ sym s ∙ ap (λ (z : Stamped V). z.stamp) f in
      f ∙ sym (first_of w.0 w.1 w.2 w.3 w.4 e) ∙ w.5
  same_posted a b (inr v) (inl g) s =
      let e : v.2.chosen.stamp ≡ first_stamp = ap (λ (z : Stamped V). z.stamp) v.5 ∙ s ∙ ap (λ (z : Stamped V). z.stamp) g in
      sym v.5 ∙ first_of v.0 v.1 v.2 v.3 v.4 e ∙ sym g
  same_posted a b (inr v) (inr w) s =
      sym v.5 ∙ calls_agree width n limit opening steps did run v.0 w.0 v.1 w.1 v.2 w.2 v.3 w.3 v.4 w.4
      (ap (λ (z : Stamped V). z.stamp) v.5 ∙ s ∙ ap (λ (z : Stamped V). z.stamp) (sym w.5)) ∙ w.5

  -- what a process has after its calls is such a record
  own_posted : (i : ℕ) → i < n → IsPosted (own_after first (did i))
  own_posted i l = own_at (length (did i).calls) refl
    where
      own_at : (m : ℕ) → m ≡ length (did i).calls → IsPosted (own_after first (did i))
      own_at zero e = inl (subst (λ z. own_before first (did i).calls z ≡ first) e (own_zero first (did i).calls))
      own_at (suc k) e =
          let c = get_exists (did i).calls k (omega arith) in
          inr (
            i,
            k,
            c.0,
            l,
            c.1,
            sym (subst (λ z. own_before first (did i).calls z ≡ c.0.chosen) e (own_next first (did i).calls k c.0 c.1)),
          )

  module _ (ops : List (Op V)) (stamps : List (Option Stamp)) (order : List ℕ) (h : IsHistory n did ops stamps)
      (is : IsInOrder ops stamps order) (atomic : IsAtomicOrder (λ x y. x ≡ y) opening ops order)
      (lawful : RefusesLawfully (whole limit ∷ []) ops order) where
    -- place x of the order has call k of process i
    record Entry (x p i k : ℕ) (c : Called V) : Type 0 where
      pub op : Op V
      pub at : StandsAt ops order x p op
      pub who : op.who ≡ i
      pub inside : i < n
      pub made : slice_get (did i).calls k ≡ Some c
      pub kind : op.kind ≡ c.kind
      pub begins : op.starts ≡ c.begin
      pub ends : op.ends ≡ Some c.end
      pub reported : slice_get stamps p ≡ Some (Some c.chosen.stamp)

    entry_by : (x p k : ℕ) (o : Op V) (stamp : Option Stamp) (call : IsOpOfCall n did o stamp k) → StandsAt ops order x p o →
        slice_get stamps p ≡ Some stamp → Entry x p o.who k call.call
    entry_by x p k o stamp call at reported = record {
      op = o;
      at = at;
      who = refl;
      inside = call.who;
      made = call.made;
      kind = call.kind;
      begins = call.begins;
      ends = call.ends;
      reported = reported ∙ ap Some call.stamp;
    }

    entry_at : (x p : ℕ) → slice_get order x ≡ Some p → (i : ℕ) × (k : ℕ) × (c : Called V) × Entry x p i k c
    entry_at x p e =
        let l : p < length ops = is.places x p e in
        let o = get_exists ops p l in
        let s = get_exists stamps p (let m = h.long in omega arith) in
        let w = h.each p o.0 s.0 o.1 s.1 in
        (o.0.who, w.0, w.1.call, entry_by x p w.0 o.0 s.0 w.1 (e, o.1) s.1)

    -- each call stands somewhere
    place_of : (i k : ℕ) (c : Called V) → i < n → slice_get (did i).calls k ≡ Some c → (x : ℕ) × (p : ℕ) × Entry x p i k c
    place_of i k c l e =
        let w = h.all i k c l e in
        let call : IsOpOfCall n did w.1 w.2 k = w.6 in
        let yes : is_listed w.1 w.2 ≡ true = subst (λ z. is_listed w.1 z ≡ true) (sym call.stamp)
        (listed_by w.1 call.call.end call.call.chosen.stamp call.ends) in
        let once : times_of w.0 order ≡ 1 = is.listed w.0 w.1 w.2 w.3 w.4 ∙ ap (λ b. if b then 1 else 0) yes in
        elim (times_cases w.0 order) [
          | inr none ↦ absurd (omega arith)
          | inl at ↦
              let same : call.call ≡ c = same_Some call.call c (sym call.made ∙ ap (λ j. slice_get (did j).calls k) w.5 ∙ e) in (
                at.0,
                w.0,
                subst (λ z. Entry at.0 w.0 i k z) same (subst (λ j. Entry at.0 w.0 j k call.call) w.5
                    (entry_by at.0 w.0 k w.1 w.2 call (at.1, w.3) w.4)),
              )
        ]

    -- no place stands twice
    stands_once : (x y p : ℕ) → slice_get order x ≡ Some p → slice_get order y ≡ Some p → x ≡ y
    stands_once x y p hx hy =
        let o = get_exists ops p (is.places x p hx) in
        let s = get_exists stamps p (let l : p < length ops = is.places x p hx in let m = h.long in omega arith) in
        let few : times_of p order ≤ 1 = at_most_one (is_listed o.0 s.0) (times_of p order) (is.listed p o.0 s.0 o.1 s.1) in
        elim (cases_order x y) [
          | inl e ↦ e
          | inr (inl l) ↦ let t : 2 ≤ times_of p order = times_twice p x y order l hx hy in absurd (omega arith)
          | inr (inr l) ↦ let t : 2 ≤ times_of p order = times_twice p y x order l hy hx in absurd (omega arith)
        ]

    one_place_of : (x y p q i k : ℕ) (c d : Called V) → Entry x p i k c → Entry y q i k d → (x ≡ y) × (p ≡ q)
    one_place_of x y p q i k c d a b =
        let same : c ≡ d = same_Some c d (sym a.made ∙ b.made) in
        let e : p ≡ q = one_place ops p q a.op b.op h.rising a.at.1 b.at.1 (a.begins ∙ ap (λ z. z.begin) same ∙ sym b.begins) in
        (stands_once x y p a.at.0 (b.at.0 ∙ ap Some (sym e)), e)

    listed : (x p : ℕ) (o : Op V) → StandsAt ops order x p o → listed_at ops order x ≡ Some o
    listed x p o at = ap (option_and_then (slice_get ops)) at.0 ∙ at.1

    keeps : (x y : ℕ) (p q i j k m : ℕ) (c d : Called V) (a : Entry x p i k c) (b : Entry y q j m d) → x ≢ y → Precedes a.op b.op → x < y
    keeps x y p q i j k m c d a b ne e = atomic.precedence x y a.op b.op (listed x p a.op a.at) (listed y q b.op b.at) ne e

    -- of one process the call with the smaller number ends before the other begins
    earlier : (x y p q i k m : ℕ) (c d : Called V) (a : Entry x p i k c) (b : Entry y q i m d) → k < m → Precedes a.op b.op
    earlier x y p q i k m c d a b l =
        precedes_at a.op b.op c.end d.begin a.ends b.begins
        (turns width n limit opening steps did run i k m c d a.inside a.made b.made l)

    in_turn : (x y p q i k m : ℕ) (c d : Called V) → Entry x p i k c → Entry y q i m d → x < y → k < m
    in_turn x y p q i k m c d a b l = elim (cases_order k m) [
      | inr (inl less) ↦ less
      | inl e ↦ let s : x ≡ y = (one_place_of x y p q i k c d a (subst (λ z. Entry y q i z d) (sym e) b)).0 in absurd (omega arith)
      | inr (inr more) ↦
          let r : y < x = keeps y x q p i i m k d c b a (λ s. let t : y ≡ x = s in omega arith) (earlier y x q p i m k d c b a more) in
          absurd (omega arith)
    ]

    -- at one place stands one operation
    one_op : (x y p q i j k m : ℕ) (c d : Called V) (a : Entry x p i k c) (b : Entry y q j m d) → x ≡ y → a.op ≡ b.op
    one_op x y p q i j k m c d a b e =
        let place : p ≡ q = same_Some p q (sym a.at.0 ∙ ap (slice_get order) e ∙ b.at.0) in
        same_Some a.op b.op (sym a.at.1 ∙ ap (slice_get ops) place ∙ b.at.1)

    -- a call that ended before another one began stands before it
    before : (x y p q i j k m : ℕ) (c d : Called V) → Entry x p i k c → Entry y q j m d → c.end < d.begin → x < y
    before x y p q i j k m c d a b l = elim (cases_order x y) [
      | inr (inl less) ↦ less
      | inr (inr more) ↦ keeps x y p q i j k m c d a b (λ (e : x ≡ y). omega arith)
          (precedes_at a.op b.op c.end d.begin a.ends b.begins l)
      | inl e ↦
          let up : c.begin ≤ c.end = lasts width n limit opening steps did run i k c a.inside a.made in
          let same : c.begin ≡ d.begin = sym a.begins ∙ ap (λ o. o.starts) (one_op x y p q i j k m c d a b e) ∙ b.begins in
          absurd (omega arith)
    ]

    -- and it has one name
    same_named : (x p i k : ℕ) (c : Called V) (d : Named V) → Entry x p i k c → Entry x p d.who d.number d.call →
        d ≡ record { who = i; number = k; call = c }
    same_named x p i k c d a b =
        let op : a.op ≡ b.op = one_op x x p p i d.who k d.number c d.call a b refl in
        let who : d.who ≡ i = sym b.who ∙ ap (λ o. o.who) (sym op) ∙ a.who in
        let number : d.number ≡ k =
        (begin_once width n limit opening steps did run d.who i d.number k d.call c b.inside a.inside b.made a.made
        (sym b.begins ∙ ap (λ o. o.starts) (sym op) ∙ a.begins)).1 in
        let made : slice_get (did i).calls k ≡ Some d.call =
        subst (λ (z : ℕ × ℕ). slice_get (did z.0).calls z.1 ≡ Some d.call) (λ j. (who j, number j)) b.made in
        let call : d.call ≡ c = same_Some d.call c (sym made ∙ a.made) in
        ap (λ (z : ℕ × ℕ × Called V). record { who = z.0; number = z.1; call = z.2 }) (λ j. (who j, number j, call j))

    -- of one stamp there is one write
    one_write : (x y p q i j k m : ℕ) (c d : Called V) → Entry x p i k c → Entry y q j m d → c.kind ≡ Write → d.kind ≡ Write →
        c.chosen.stamp ≡ d.chosen.stamp → x ≡ y
    one_write x y p q i j k m c d a b wc wd s =
        let who : i ≡ j = sym (writes_own i k c a.inside a.made wc).1 ∙ ap (λ z. z.writer) s ∙ (writes_own j m d b.inside b.made wd).1 in
        let b' : Entry y q i m d = subst (λ z. Entry y q z m d) (sym who) b in
        elim (cases_order k m) [
          | inl e ↦ (one_place_of x y p q i k c d a (subst (λ z. Entry y q i z d) (sym e) b')).0
          | inr (inl l) ↦
              let before : c.end < d.begin = ends_before a.op b'.op c.end d.begin a.ends b'.begins (earlier x y p q i k m c d a b' l) in
              let up : IsBelow c.chosen.stamp d.chosen.stamp =
              (calls_rise width n limit opening steps did run i i k m c d a.inside a.inside a.made b'.made before).1 wd in
              absurd (below_itself d.chosen.stamp (subst (λ z. IsBelow z d.chosen.stamp) s up))
          | inr (inr l) ↦
              let before : d.end < c.begin = ends_before b'.op a.op d.end c.begin b'.ends a.begins (earlier y x q p i m k d c b' a l) in
              let up : IsBelow d.chosen.stamp c.chosen.stamp =
              (calls_rise width n limit opening steps did run i i m k d c a.inside a.inside b'.made a.made before).1 wc in
              absurd (below_itself c.chosen.stamp (subst (λ z. IsBelow z c.chosen.stamp) (sym s) up))
        ]

    may_precede : (x y p q i j k m : ℕ) (c d : Called V) (a : Entry x p i k c) (b : Entry y q j m d) → x < y →
        MayPrecede c.chosen.stamp a.op p d.chosen.stamp b.op q
    may_precede x y p q i j k m c d a b l = is.sorted x y p q a.op b.op c.chosen.stamp d.chosen.stamp l a.at b.at a.reported b.reported

    -- what one register holds after the first x calls, and how many writes it has taken
    record State (x : ℕ) (now : Stamped V) (writes : ℕ) : Type 0 where
      pub from : (now ≡ first) ⊎ ((y : ℕ) × (q : ℕ) × (j : ℕ) × (m : ℕ) × (d : Called V) × (y < x) × Entry y q j m d × (d.kind ≡ Write)
          × (d.chosen ≡ now))
      pub above : (y q j m : ℕ) (d : Called V) → y < x → Entry y q j m d → IsAtMost d.chosen.stamp now.stamp
      pub count : writes ≡ writes_in (in_term (whole limit) []) ops (take x order)

    posted : (x : ℕ) (now : Stamped V) (writes : ℕ) → State x now writes → IsPosted now
    posted x now writes s = by_from s.from
      where
        by_from : ((now ≡ first) ⊎ ((y : ℕ) × (q : ℕ) × (j : ℕ) × (m : ℕ) × (d : Called V) × (y < x) × Entry y q j m d × (d.kind ≡ Write)
            × (d.chosen ≡ now))) → IsPosted now
        by_from (inl e) = inl e
        by_from (inr w) = inr (w.2, w.3, w.4, w.6.inside, w.6.made, w.8)

    module _ (x p i k : ℕ) (c : Called V) (a : Entry x p i k c) (now : Stamped V) (writes : ℕ) (s : State x now writes) where
      at_least_now : IsAtMost now.stamp c.chosen.stamp
      at_least_now = elim s.from [
        | inl e ↦ subst (λ z. IsAtMost z c.chosen.stamp) (ap (λ z. z.stamp) (sym e)) (first_least c.chosen.stamp)
        | inr w ↦ subst (λ z. IsAtMost z c.chosen.stamp) (ap (λ z. z.stamp) w.8)
            (may_be_at_most w.4.chosen.stamp c.chosen.stamp w.6.op a.op w.1 p (may_precede w.0 x w.1 p w.2 i w.3 k w.4 c w.6 a w.5))
      ]

      -- a write raises the stamp
      above_now : c.kind ≡ Write → IsBelow now.stamp c.chosen.stamp
      above_now write = elim s.from [
        | inl e ↦ subst (λ z. IsBelow z c.chosen.stamp) (ap (λ z. z.stamp) (sym e)) (writes_own i k c a.inside a.made write).0
        | inr w ↦ subst (λ z. IsBelow z c.chosen.stamp) (ap (λ z. z.stamp) w.8)
            (elim (may_precede w.0 x w.1 p w.2 i w.3 k w.4 c w.6 a w.5) [
              | inl l ↦ l
              | inr e ↦
                  let same : w.0 ≡ x = one_write w.0 x w.1 p w.2 i w.3 k w.4 c w.6 a w.7 write e.0 in
                  let l : w.0 < x = w.5 in absurd (omega arith)
            ])
      ]

      -- and of no call that writes nothing the stamp is above
      at_most_now : is_write c.kind ≡ false → IsAtMost c.chosen.stamp now.stamp
      at_most_now none = elim (calls_written width n limit opening steps did run i k c a.inside a.made) [
        | inl f ↦ subst (λ z. IsAtMost z now.stamp) (ap (λ z. z.stamp) (sym f)) (first_least now.stamp)
        | inr w ↦
            let y = place_of w.0 w.1 w.2 w.3 w.4 in
            let b : Entry y.0 y.1 w.0 w.1 w.2 = y.2 in
            let e : c.chosen.stamp ≡ w.2.chosen.stamp = ap (λ z. z.stamp) w.6 in
            let wrote : is_write b.op.kind ≡ true = ap is_write (b.kind ∙ w.5) in
            let wrote_not : is_write a.op.kind ≡ false = ap is_write a.kind ∙ none in
            elim (cases_order y.0 x) [
              | inr (inl l) ↦ subst (λ z. IsAtMost z now.stamp) (sym e) (s.above y.0 y.1 w.0 w.1 w.2 l b)
              | inl same ↦
                  let at : slice_get order x ≡ Some y.1 = ap (slice_get order) (sym same) ∙ b.at.0 in
                  let place : p ≡ y.1 = same_Some p y.1 (sym a.at.0 ∙ at) in
                  let op : a.op ≡ b.op = same_Some a.op b.op (sym a.at.1 ∙ ap (slice_get ops) place ∙ b.at.1) in
                  absurd (not_both (is_write a.op.kind) wrote_not (ap (λ z. is_write z.kind) op ∙ wrote))
              | inr (inr l) ↦ elim (may_precede x y.0 p y.1 i w.0 k w.1 c w.2 a b l) [
                | inl below ↦ absurd (below_itself w.2.chosen.stamp (subst (λ z. IsBelow z w.2.chosen.stamp) e below))
                | inr same ↦ elim same.1 [
                  | inl kinds ↦ absurd (not_both (is_write a.op.kind) wrote_not kinds.0)
                  | inr kinds ↦ absurd (not_both (is_write a.op.kind) wrote_not (kinds.0 ∙ wrote))
                ]
              ]
            ]
      ]

      unwritten : is_write c.kind ≡ false → c.chosen ≡ now
      unwritten none = same_posted c.chosen now (inr (i, k, c, a.inside, a.made, refl)) (posted x now writes s)
          (both_ways c.chosen.stamp now.stamp (at_most_now none) at_least_now)

      takes : (kind : Kind) (rest : Stamped V → ℕ → Type 0) → c.kind ≡ kind → rest (left kind c.chosen now) (more kind writes) →
          Takes limit i now writes kind c.chosen rest
      takes Write rest e r = (above_now e, (writes_own i k c a.inside a.made e).1, r)
      takes Read rest e r = (unwritten (ap is_write e), r)
      takes Refused rest e r = (
        unwritten (ap is_write e),
        subst (λ z. limit ≤ z) (sym s.count)
            (lawful 0 (whole limit) refl x p a.op a.at.0 a.at.1 (a.kind ∙ e) (within_whole limit p)),
        r,
      )

      counted : (kind : Kind) → c.kind ≡ kind → more kind writes ≡ writes_in (in_term (whole limit) []) ops (take (x + 1) order)
      counted kind e =
          sym (more_is kind writes) ∙ ap (λ z. z + (if is_write kind then 1 else 0)) s.count
          ∙ ap (λ z. writes_in (in_term (whole limit) []) ops (take x order) + (if is_write z then 1 else 0)) (sym (a.kind ∙ e))
          ∙ sym (counts_more limit ops order x p a.op a.at)

      -- what stands at x has this call's stamp
      same_stamp : (y q j m : ℕ) (d : Called V) → y ≡ x → Entry y q j m d → d.chosen.stamp ≡ c.chosen.stamp
      same_stamp y q j m d e b =
          let place : q ≡ p = same_Some q p (sym b.at.0 ∙ ap (slice_get order) e ∙ a.at.0) in
          same_Some d.chosen.stamp c.chosen.stamp
          (same_Some (Some d.chosen.stamp) (Some c.chosen.stamp) (sym b.reported ∙ ap (slice_get stamps) place ∙ a.reported))

      unchanged : (count : ℕ) → c.chosen ≡ now → count ≡ writes_in (in_term (whole limit) []) ops (take (x + 1) order) →
          State (x + 1) now count
      unchanged count same e = record {
        from = elim s.from [ inl f ↦ inl f | inr w ↦ inr (w.0, w.1, w.2, w.3, w.4, (let l : w.0 < x = w.5 in omega arith), w.6, w.7, w.8) ];
        above = λ y q j m d l b. elim (cases_order y x) [
          | inr (inl less) ↦ s.above y q j m d less b
          | inl at ↦ inl (same_stamp y q j m d at b ∙ ap (λ z. z.stamp) same)
          | inr (inr more) ↦ absurd (omega arith)
        ];
        count = e;
      }

      next : (kind : Kind) → c.kind ≡ kind → State (x + 1) (left kind c.chosen now) (more kind writes)
      next Write e = record {
        from = inr (x, p, i, k, c, omega arith, a, e, refl);
        above = λ y q j m d l b. elim (cases_order y x) [
          | inr (inl less) ↦ at_most_trans d.chosen.stamp now.stamp c.chosen.stamp (s.above y q j m d less b) at_least_now
          | inl at ↦ inl (same_stamp y q j m d at b)
          | inr (inr more) ↦ absurd (omega arith)
        ];
        count = counted Write e;
      }
      next Read e = unchanged writes (unwritten (ap is_write e)) (counted Read e)
      next Refused e = unchanged writes (unwritten (ap is_write e)) (counted Refused e)

    -- the calls from place x on, where the register holds this record
    record Woven (rest : List ℕ) (x : ℕ) (now : Stamped V) (writes : ℕ) : Type 0 where
      pub made : List (Named V)
      pub forth : (y q : ℕ) → slice_get rest y ≡ Some q → (m : Named V) × (slice_get made y ≡ Some m)
          × Entry (x + y) q m.who m.number m.call
      pub back : (y : ℕ) (m : Named V) → slice_get made y ≡ Some m → (q : ℕ) × (slice_get rest y ≡ Some q)
          × Entry (x + y) q m.who m.number m.call
      pub last : Stamped V
      pub count : ℕ
      pub state : State (x + length rest) last count
      pub one : AreOfOne limit now writes last made

    weave : (rest : List ℕ) (x : ℕ) → ((y : ℕ) → slice_get order (x + y) ≡ slice_get rest y) → (now : Stamped V) (writes : ℕ) →
        State x now writes → Woven rest x now writes
    weave [] x same now writes s = record {
      made = [];
      forth = λ y q e. cc;
      back = λ y m e. cc;
      last = now;
      count = writes;
      state = subst (λ z. State z now writes) (omega arith) s;
      one = refl;
    }
    weave (p ∷ ps) x same now writes s =
        let at : slice_get order x ≡ Some p = ap (slice_get order) (let e : x ≡ x + 0 = omega arith in e) ∙ same 0 in
        let w = entry_at x p at in
        let i : ℕ = w.0 in
        let k : ℕ = w.1 in
        let c : Called V = w.2 in
        let a : Entry x p i k c = w.3 in
        let m : Named V = record { who = i; number = k; call = c } in
        let later : (y : ℕ) → slice_get order ((x + 1) + y) ≡ slice_get ps y =
        λ y. ap (slice_get order) (let e : (x + 1) + y ≡ x + suc y = omega arith in e) ∙ same (suc y) in
        let r : Woven ps (x + 1) (left c.kind c.chosen now) (more c.kind writes) =
        weave ps (x + 1) later (left c.kind c.chosen now) (more c.kind writes) (next x p i k c a now writes s c.kind refl) in
        record {
          made = m ∷ r.made;
          forth = λ y q e. forth_by p ps x m r.made (subst (λ z. Entry z p i k c) (let e : x ≡ x + 0 = omega arith in e) a) r.forth y q e;
          back = λ y d e. back_by p ps x m r.made (subst (λ z. Entry z p i k c) (let e : x ≡ x + 0 = omega arith in e) a) r.back y d e;
          last = r.last;
          count = r.count;
          state = subst (λ z. State z r.last r.count) (let e : (x + 1) + length ps ≡ x + suc (length ps) = omega arith in e) r.state;
          one = takes x p i k c a now writes s c.kind (λ held count. AreOfOne limit held count r.last r.made) refl r.one;
        }
      where
        forth_by : (p : ℕ) (ps : List ℕ) (x : ℕ) (m : Named V) (ms : List (Named V)) → Entry (x + 0) p m.who m.number m.call →
            ((y q : ℕ) → slice_get ps y ≡ Some q → (d : Named V) × (slice_get ms y ≡ Some d)
            × Entry ((x + 1) + y) q d.who d.number d.call) →
            (y q : ℕ) → slice_get (p ∷ ps) y ≡ Some q → (d : Named V) × (slice_get (m ∷ ms) y ≡ Some d)
            × Entry (x + y) q d.who d.number d.call
        forth_by p ps x m ms a f zero q e = (m, refl, subst (λ z. Entry (x + 0) z m.who m.number m.call) (same_Some p q e) a)
        forth_by p ps x m ms a f (suc y) q e =
            let w = f y q e in
            (w.0, w.1, subst (λ z. Entry z q w.0.who w.0.number w.0.call) (let e : (x + 1) + y ≡ x + suc y = omega arith in e) w.2)

        back_by : (p : ℕ) (ps : List ℕ) (x : ℕ) (m : Named V) (ms : List (Named V)) → Entry (x + 0) p m.who m.number m.call →
            ((y : ℕ) (d : Named V) → slice_get ms y ≡ Some d → (q : ℕ) × (slice_get ps y ≡ Some q)
            × Entry ((x + 1) + y) q d.who d.number d.call) →
            (y : ℕ) (d : Named V) → slice_get (m ∷ ms) y ≡ Some d → (q : ℕ) × (slice_get (p ∷ ps) y ≡ Some q)
            × Entry (x + y) q d.who d.number d.call
        back_by p ps x m ms a f zero d e = (p, refl, subst (λ z. Entry (x + 0) p z.who z.number z.call) (same_Some m d e) a)
        back_by p ps x m ms a f (suc y) d e =
            let w = f y d e in
            (w.0, w.1, subst (λ z. Entry z w.0 d.who d.number d.call) (let e : (x + 1) + y ≡ x + suc y = omega arith in e) w.2)

    start : State 0 first 0
    start = record { from = inl refl; above = λ y q j m d l b. absurd (omega arith); count = refl }

    woven : Woven order 0 first 0
    woven = weave order 0 (λ y. ap (slice_get order) (let e : 0 + y ≡ y = omega arith in e)) first 0 start

    forth : (y q : ℕ) → slice_get order y ≡ Some q → (m : Named V) × (slice_get woven.made y ≡ Some m) × Entry y q m.who m.number m.call
    forth y q e =
        let f = woven.forth y q e in
        (f.0, f.1, subst (λ z. Entry z q f.0.who f.0.number f.0.call) (let t : 0 + y ≡ y = omega arith in t) f.2)

    back : (y : ℕ) (m : Named V) → slice_get woven.made y ≡ Some m → (q : ℕ) × (slice_get order y ≡ Some q)
        × Entry y q m.who m.number m.call
    back y m e =
        let f = woven.back y m e in
        (f.0, f.1, subst (λ z. Entry z f.0 m.who m.number m.call) (let t : 0 + y ≡ y = omega arith in t) f.2)

    -- in the end the register holds the greatest record that a process has
    holds_last : (now : Stamped V) (writes : ℕ) → State (0 + length order) now writes →
        (last : Stamped V) → IsGreatestOwn n first did last → last ≡ now
    holds_last now writes s last g =
        let own : IsPosted last = subst IsPosted (sym g.own) (own_posted g.process g.inside) in
        let up : IsAtMost last.stamp now.stamp = elim own [
          | inl f ↦ subst (λ z. IsAtMost z now.stamp) (ap (λ z. z.stamp) (sym f)) (first_least now.stamp)
          | inr w ↦
              let y = place_of w.0 w.1 w.2 w.3 w.4 in
              let l : y.0 < length order = slice_get_within order y.0 y.1 y.2.at.0 in
              subst (λ z. IsAtMost z.stamp now.stamp) w.5 (s.above y.0 y.1 w.0 w.1 w.2 (omega arith) y.2)
        ] in
        let down : IsAtMost now.stamp last.stamp = elim s.from [
          | inl f ↦ subst (λ z. IsAtMost z last.stamp) (ap (λ z. z.stamp) (sym f)) (first_least last.stamp)
          | inr w ↦ subst (λ z. IsAtMost z.stamp last.stamp) w.8
              (at_most_trans w.4.chosen.stamp (own_after first (did w.2)).stamp last.stamp
              (chosen_below width n limit opening steps did run w.2 w.3 w.4 w.6.inside w.6.made) (g.greatest w.2 w.6.inside))
        ] in
        same_posted last now own (posted (0 + length order) now writes s) (both_ways last.stamp now.stamp up down)

    named : (last : Stamped V) → IsGreatestOwn n first did last → (calls : List (Named V)) × IsOneOrder n limit first did last calls
    named last g = (
      woven.made,
      record {
        each = λ x m e. let b = back x m e in (b.2.inside, b.2.made);
        all = λ i k c l e.
            let y = place_of i k c l e in
            let f = forth y.0 y.1 y.2.at.0 in
            (y.0, f.1 ∙ ap Some (same_named y.0 y.1 i k c f.0 y.2 f.2));
        in_turn = λ x y a b l ea eb who.
            let p = back x a ea in
            let q = back y b eb in
            in_turn x y p.0 q.0 a.who a.number b.number a.call b.call p.2 (subst (λ z. Entry y q.0 z b.number b.call) (sym who) q.2) l;
        keeps = λ x y a b ea eb l.
            let p = back x a ea in
            let q = back y b eb in
            before x y p.0 q.0 a.who b.who a.number b.number a.call b.call p.2 q.2 l;
        one = subst (λ z. AreOfOne limit first 0 z woven.made) (sym (holds_last woven.last woven.count woven.state last g)) woven.one;
      },
    )

module _ {V : Type 0} (width n limit : ℕ) (opening : V) (steps : List ℕ) (did : ℕ → Did V)
    (run : IsBoardRun width n limit (first_record opening) steps did) where
  -- the calls of a run have one order
  pub one_order : (last : Stamped V) → IsGreatestOwn n (first_record opening) did last →
      (calls : List (Named V)) × IsOneOrder n limit (first_record opening) did last calls
  one_order =
      let t = all_there width n limit opening steps did run in
      named width n limit opening steps did run t.0 t.1 t.2 t.3 t.4
      (history_atomic width n limit opening steps did run t.0 t.1 t.3 t.2 t.4)
      (history_lawful width n limit opening steps did run t.0 t.1 t.3 t.2 t.4)
