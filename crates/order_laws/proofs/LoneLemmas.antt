-- A log of one finished refused write, alone or with the write of its record: it has an atomic order, and no atomic order of it has more
-- than that write before the refused one.
use Rattle.std.proofs.Common.{◌≡◌, ◌≢◌, ℕ, ◌+◌, ◌<◌, ◌≤◌, zero, suc, Bool, true, false, cond, List, [], ◌∷◌, length, take, slice_get}
use Rattle.std.proofs.Common.{None, Some, ◌⊎◌, inl, inr, IsSomeAnd, refl, sym, ◌∙◌, ap, subst, arith}
use Rattle.std.specs.Prelude.{IsSome, ◌&&◌, Option}
use Rattle.std.specs.List.{count_by}
use Rattle.std.proofs.lemmas.Option.{option_and_then_some, same_Some, slice_get_cases, slice_get_within}
use Rattle.history_core.proofs.Atomic.{IsSearched, joined, opened, shares, some_from, stands, turned}
use Rattle.history_core.proofs.Counting.{stands_once, times_take_le}
use Rattle.history_core.proofs.Counts.{count_cons, counted, of_one_term, times_self}
use Rattle.history_core.proofs.Latest.{latest_is_written}
use Rattle.history_core.proofs.Listing.{listing_from}
use Rattle.history_core.specs.Orders.{in_term, IsAtomicOrder, IsVerdict, is_write, is_write_at, latest, Precedes, ReadsRight, times_of}
use Rattle.history_core.specs.Orders.{writes_in}
use Rattle.history_core.specs.Reasons.{IsLimited, IsOfOpening, MayHaveFew, OfOneRecord}
use Rattle.history_core.specs.declared.history.Kind.{Kind}
use Rattle.history_core.specs.declared.history.Kind.TheVariants.{Write, Read, Refused}
use Rattle.history_core.specs.declared.history.Op.{Op}
use Rattle.history_core.specs.declared.history.Verdict.TheVariants.{Lawful}
use Rattle.history_thinning.specs.Thinnings.{Equal, one_term}
use Rattle.history_thinning.proofs.Reasons.{alike}
use Rattle.history_thinning.proofs.Restricting.{all_within, one_term_of}

-- the write of an operation's record, which that operation doesn't precede
pub record IsSource (ops : List (Op ℕ)) (op : Op ℕ) : Type 0 where
  pub place : ℕ
  pub write : Op ℕ
  pub at : slice_get ops place ≡ Some write
  pub writes : is_write write.kind ≡ true
  pub one : OfOneRecord Equal op write
  pub apart : Precedes op write → ⊥

-- all others are writes of the record of this refused write, and the limit is more than their number
pub record IsLone (limit : ℕ) (ops : List (Op ℕ)) (place : ℕ) : Type 0 where
  pub op : Op ℕ
  pub at : slice_get ops place ≡ Some op
  pub finished : IsSome op.ends
  pub refused : op.kind ≡ Refused
  pub others : (i : ℕ) (o : Op ℕ) → slice_get ops i ≡ Some o → (i ≡ place) ⊎ ((is_write o.kind ≡ true) × OfOneRecord Equal op o)
  pub source : (IsOfOpening Equal 0 op × (0 < limit)) ⊎ (IsSource ops op × (1 < limit))

one_entry : (x i p : ℕ) → slice_get (x ∷ []) i ≡ Some p → (i ≡ 0) × (p ≡ x)
one_entry x zero p e = (refl, sym (same_Some x p e))
one_entry x (suc i) p e = cc

two_entries : (x y i p : ℕ) → slice_get (x ∷ y ∷ []) i ≡ Some p → ((i ≡ 0) × (p ≡ x)) ⊎ ((i ≡ 1) × (p ≡ y))
two_entries x y zero p e = inl (refl, sym (same_Some x p e))
two_entries x y (suc zero) p e = inr (refl, sym (same_Some y p e))
two_entries x y (suc (suc i)) p e = cc

write_reads : (kind : Kind) (item before : Option ℕ) → is_write kind ≡ true → IsSome item → ReadsRight Equal kind item before
write_reads Write item before t h = h
write_reads Read item before t h = cc
write_reads Refused item before t h = cc

not_none : (ends : Option ℕ) → IsSome ends → ends ≡ None → ⊥
not_none ends h e = cc

module _ (limit : ℕ) (ops : List (Op ℕ)) (place : ℕ) (known : IsSearched Equal 0 ops) (lone : IsLone limit ops place) where
  not_write : is_write lone.op.kind ≡ false
  not_write = ap is_write lone.refused

  -- each write is of its record
  of_record : (p : ℕ) → is_write_at (slice_get ops p) ≡ true →
      (a : Op ℕ) × (slice_get ops p ≡ Some a) × (is_write a.kind ≡ true) × OfOneRecord Equal lone.op a
  of_record p t = elim (slice_get_cases ops p).1 [
    | inl w ↦ elim (lone.others p w.0 w.2) [
      | inl s ↦
          let same : lone.op ≡ w.0 = same_Some lone.op w.0 (sym lone.at ∙ ap (slice_get ops) (sym s) ∙ w.2) in
          let f : is_write w.0.kind ≡ false = ap (λ (z : Op ℕ). is_write z.kind) (sym same) ∙ not_write in
          let g : is_write w.0.kind ≡ true = sym (ap is_write_at w.2) ∙ t in
          cc
      | inr x ↦ (w.0, w.2, x.0, x.1)
    ]
    | inr w ↦ let f : is_write_at (slice_get ops p) ≡ false = ap is_write_at w.1 in cc
  ]

  op_at : (p : ℕ) (o : Op ℕ) → p ≡ place → slice_get ops p ≡ Some o → lone.op ≡ o
  op_at p o s e = same_Some lone.op o (sym lone.at ∙ ap (slice_get ops) (sym s) ∙ e)

  reads : (before : Option ℕ) → IsSomeAnd lone.op.item (λ x. IsSomeAnd before (λ y. Equal x y)) →
      ReadsRight Equal lone.op.kind lone.op.item before
  reads before h = let P : Kind → Type 0 = λ k. ReadsRight Equal k lone.op.item before in subst P (sym lone.refused) h

  -- ---- of the opening: no write

  no_write : IsOfOpening Equal 0 lone.op → (p : ℕ) → is_write_at (slice_get ops p) ≡ true → ⊥
  no_write h p t =
      let w = of_record p t in
      known.fresh p w.0 w.1 w.2 (opened Equal alike 0 w.0 lone.op (turned Equal alike lone.op w.0 w.3) h)

  none_before : IsOfOpening Equal 0 lone.op → (order : List ℕ) → writes_in (λ _. true) ops order ≤ 0
  none_before h order = counted (λ q. true && is_write_at (slice_get ops q)) order [] (λ p t. absurd (no_write h p t))

  alone : IsOfOpening Equal 0 lone.op → IsAtomicOrder Equal 0 ops (place ∷ [])
  alone h = record {
    listing = listing_from ops (place ∷ [])
        (λ i p e. slice_get_within ops p lone.op (ap (slice_get ops) (one_entry place i p e).1 ∙ lone.at))
        (λ i j p ei ej. (one_entry place i p ei).0 ∙ sym (one_entry place j p ej).0)
        (λ p end o at e. elim (lone.others p o at) [
          | inl s ↦ (0, ap Some (sym s))
          | inr x ↦ absurd (no_write h p (ap is_write_at at ∙ x.0))
        ])
        (λ i p o at none.
        let same = op_at p o (one_entry place i p at.0).1 at.1 in
        absurd (not_none lone.op.ends lone.finished (ap (λ (z : Op ℕ). z.ends) same ∙ none)));
    precedence = λ i j a b ea eb ne pre.
        option_and_then_some (slice_get ops) (slice_get (place ∷ []) i) a ea (λ p ei fi.
        option_and_then_some (slice_get ops) (slice_get (place ∷ []) j) b eb (λ q ej fj.
        absurd (ne ((one_entry place i p ei).0 ∙ sym (one_entry place j q ej).0))));
    reading = λ i o e.
        option_and_then_some (slice_get ops) (slice_get (place ∷ []) i) o e (λ p ei f.
        let w = one_entry place i p ei in
        let none : latest 0 ops (take 0 (place ∷ [])) ≡ Some 0 = refl in
        let first : latest 0 ops (take i (place ∷ [])) ≡ Some 0 = ap (λ n. latest 0 ops (take n (place ∷ []))) w.0 ∙ none in
        let right = reads (Some 0) h in
        subst (λ (z : Op ℕ). ReadsRight Equal z.kind z.item (latest 0 ops (take i (place ∷ [])))) (op_at p o w.1 f)
        (subst (λ z. ReadsRight Equal lone.op.kind lone.op.item z) (sym first) right));
  }

  -- ---- of another record: its write

  its_place : (s : IsSource ops lone.op) (p : ℕ) → is_write_at (slice_get ops p) ≡ true → p ≡ s.place
  its_place s p t =
      let w = of_record p t in
      known.once p s.place w.0 s.write w.1 s.at w.2 s.writes
      (joined Equal alike w.0 lone.op s.write (turned Equal alike lone.op w.0 w.3) s.one)

  one_before : IsSource ops lone.op → (order : List ℕ) → IsAtomicOrder Equal 0 ops order → (i : ℕ) →
      writes_in (λ _. true) ops (take i order) ≤ 1
  one_before s order atomic i =
      let test : ℕ → Bool = λ q. true && is_write_at (slice_get ops q) in
      let most = counted test (take i order) (s.place ∷ []) at_most in
      let one : count_by test (s.place ∷ []) ≡ 1 =
      count_cons test s.place [] ∙ ap (λ b. cond b 1 0 + 0) (ap is_write_at s.at ∙ s.writes) in
      omega arith
    where
      at_most : (p : ℕ) → is_write_at (slice_get ops p) ≡ true → times_of p (take i order) ≤ times_of p (s.place ∷ [])
      at_most p t =
          let w = of_record p t in
          let front = times_take_le order i p in
          let once : times_of p order ≤ 1 = stands_once w.0.ends w.0.kind (times_of p order)
          (atomic.listing.stands p w.0 (omega arith) (slice_get_within ops p w.0 w.1) w.1) in
          let here : times_of p (s.place ∷ []) ≡ 1 =
          ap (λ z. times_of p (z ∷ [])) (sym (its_place s p t)) ∙ times_self p [] in
          omega arith

  write_at : (s : IsSource ops lone.op) (p : ℕ) (o : Op ℕ) → p ≡ s.place → slice_get ops p ≡ Some o → s.write ≡ o
  write_at s p o is e = same_Some s.write o (sym s.at ∙ ap (slice_get ops) (sym is) ∙ e)

  differ : (s : IsSource ops lone.op) → s.place ≡ place → ⊥
  differ s e =
      let same : lone.op ≡ s.write = op_at s.place s.write e s.at in
      let f : is_write s.write.kind ≡ false = ap (λ (z : Op ℕ). is_write z.kind) (sym same) ∙ not_write in
      let t = s.writes in
      cc

  in_turn : (s : IsSource ops lone.op) → IsAtomicOrder Equal 0 ops (s.place ∷ place ∷ [])
  in_turn s = record {
    listing = listing_from ops (s.place ∷ place ∷ []) within once finished unfinished;
    precedence = λ i j a b ea eb ne pre.
        option_and_then_some (slice_get ops) (slice_get (s.place ∷ place ∷ []) i) a ea (λ p ei fi.
        option_and_then_some (slice_get ops) (slice_get (s.place ∷ place ∷ []) j) b eb (λ q ej fj.
        keeps i j p q a b ei ej fi fj ne pre));
    reading = λ i o e. option_and_then_some (slice_get ops) (slice_get (s.place ∷ place ∷ []) i) o e (λ p ei f. right i p o ei f);
  }
    where
      within : (i p : ℕ) → slice_get (s.place ∷ place ∷ []) i ≡ Some p → p < length ops
      within i p e = elim (two_entries s.place place i p e) [
        | inl x ↦ slice_get_within ops p s.write (ap (slice_get ops) x.1 ∙ s.at)
        | inr x ↦ slice_get_within ops p lone.op (ap (slice_get ops) x.1 ∙ lone.at)
      ]

      once : (i j p : ℕ) → slice_get (s.place ∷ place ∷ []) i ≡ Some p → slice_get (s.place ∷ place ∷ []) j ≡ Some p → i ≡ j
      once i j p ei ej = elim (two_entries s.place place i p ei) [
        | inl x ↦ elim (two_entries s.place place j p ej) [
          | inl y ↦ x.0 ∙ sym y.0
          | inr y ↦ absurd (differ s (sym x.1 ∙ y.1))
        ]
        | inr x ↦ elim (two_entries s.place place j p ej) [
          | inl y ↦ absurd (differ s (sym y.1 ∙ x.1))
          | inr y ↦ x.0 ∙ sym y.0
        ]
      ]

      finished : (p end : ℕ) (o : Op ℕ) → slice_get ops p ≡ Some o → o.ends ≡ Some end →
          (i : ℕ) × (slice_get (s.place ∷ place ∷ []) i ≡ Some p)
      finished p end o at e = elim (lone.others p o at) [
        | inl is ↦ (1, ap Some (sym is))
        | inr x ↦ (0, ap Some (sym (its_place s p (ap is_write_at at ∙ x.0))))
      ]

      unfinished : (i p : ℕ) (o : Op ℕ) → (slice_get (s.place ∷ place ∷ []) i ≡ Some p) × (slice_get ops p ≡ Some o) →
          o.ends ≡ None → is_write o.kind ≡ true
      unfinished i p o at none = elim (two_entries s.place place i p at.0) [
        | inl x ↦ subst (λ (z : Op ℕ). is_write z.kind ≡ true) (write_at s p o x.1 at.1) s.writes
        | inr x ↦
            absurd (not_none lone.op.ends lone.finished (ap (λ (z : Op ℕ). z.ends) (op_at p o x.1 at.1) ∙ none))
      ]

      keeps : (i j p q : ℕ) (a b : Op ℕ) → slice_get (s.place ∷ place ∷ []) i ≡ Some p →
          slice_get (s.place ∷ place ∷ []) j ≡ Some q → slice_get ops p ≡ Some a → slice_get ops q ≡ Some b → i ≢ j →
          Precedes a b → i < j
      keeps i j p q a b ei ej fi fj ne pre = elim (two_entries s.place place i p ei) [
        | inl x ↦ elim (two_entries s.place place j q ej) [
          | inl y ↦ absurd (ne (x.0 ∙ sym y.0))
          | inr y ↦ let zero_first : i ≡ 0 = x.0 in let one_next : j ≡ 1 = y.0 in omega arith
        ]
        | inr x ↦ elim (two_entries s.place place j q ej) [
          | inl y ↦ absurd (s.apart (subst (λ (z : Op ℕ). Precedes lone.op z) (sym (write_at s q b y.1 fj))
              (subst (λ (z : Op ℕ). Precedes z b) (sym (op_at p a x.1 fi)) pre)))
          | inr y ↦ absurd (ne (x.0 ∙ sym y.0))
        ]
      ]

      second : latest 0 ops (take 1 (s.place ∷ place ∷ [])) ≡ s.write.item
      second = latest_is_written 0 ops (s.place ∷ place ∷ []) 0 1 s.place s.write (refl, s.at) s.writes (omega arith) (omega arith)
          (λ i p le less e. absurd (omega (arith, le, less)))

      right : (i p : ℕ) (o : Op ℕ) → slice_get (s.place ∷ place ∷ []) i ≡ Some p → slice_get ops p ≡ Some o →
          ReadsRight Equal o.kind o.item (latest 0 ops (take i (s.place ∷ place ∷ [])))
      right i p o e f = elim (two_entries s.place place i p e) [
        | inl x ↦
            let one = shares Equal lone.op s.write s.one in
            subst (λ (z : Op ℕ). ReadsRight Equal z.kind z.item (latest 0 ops (take i (s.place ∷ place ∷ [])))) (write_at s p o x.1 f)
            (write_reads s.write.kind s.write.item (latest 0 ops (take i (s.place ∷ place ∷ []))) s.writes
            (some_from s.write.item one.y one.has_y))
        | inr x ↦
            let after : latest 0 ops (take i (s.place ∷ place ∷ [])) ≡ s.write.item =
            ap (λ n. latest 0 ops (take n (s.place ∷ place ∷ []))) x.0 ∙ second in
            subst (λ (z : Op ℕ). ReadsRight Equal z.kind z.item (latest 0 ops (take i (s.place ∷ place ∷ [])))) (op_at p o x.1 f)
            (subst (λ z. ReadsRight Equal lone.op.kind lone.op.item z) (sym after) (reads s.write.item s.one))
      ]

  -- ---- so the limit is broken

  few_before : (order : List ℕ) → IsAtomicOrder Equal 0 ops order → (i : ℕ) → writes_in (λ _. true) ops (take i order) < limit
  few_before order atomic i = elim lone.source [
    | inl x ↦ let le = none_before x.0 (take i order) in omega (arith, x.1)
    | inr x ↦ let le = one_before x.0 order atomic i in omega (arith, x.1)
  ]

  may_have_few : MayHaveFew Equal 0 limit ops place
  may_have_few = elim lone.source [
    | inl x ↦ record {
      order = place ∷ [];
      atomic = alone x.0;
      entry = 0;
      listed = refl;
      few = few_before (place ∷ []) (alone x.0) 0;
    }
    | inr x ↦ record {
      order = x.0.place ∷ place ∷ [];
      atomic = in_turn x.0;
      entry = 1;
      listed = refl;
      few = few_before (x.0.place ∷ place ∷ []) (in_turn x.0) 1;
    }
  ]

  pub lone_limited : IsLimited Equal 0 limit ops place
  lone_limited = record {
    op = lone.op;
    at = lone.at;
    finished = lone.finished;
    refused = lone.refused;
    may = may_have_few;
    few = λ order atomic i at. record {
      early = i;
      place = place;
      op = lone.op;
      up_to = omega arith;
      listed = at;
      at = lone.at;
      refused = lone.refused;
      few = few_before order atomic i;
    };
  }

-- a limited write excludes every lawful order
pub no_lawful : (limit : ℕ) (ops : List (Op ℕ)) → IsSearched Equal 0 ops → (place : ℕ) → IsLimited Equal 0 limit ops place →
    (order : List ℕ) → IsVerdict Equal 0 (one_term limit) ops order Lawful → ⊥
no_lawful limit ops known place r order v =
    let i = stands Equal 0 ops order known v.0 place r.op r.at r.finished in
    let x = r.few order v.0 i.0 i.1 in
    let enough : limit ≤ writes_in (in_term (one_term_of limit) []) ops (take x.early order) =
    v.1 0 (one_term_of limit) refl x.early x.place x.op x.listed x.at x.refused (all_within limit x.place) in
    let all : writes_in (in_term (one_term_of limit) []) ops (take x.early order) ≡ writes_in (λ _. true) ops (take x.early order) =
    of_one_term limit ops (take x.early order) in
    omega (arith, x.few)
