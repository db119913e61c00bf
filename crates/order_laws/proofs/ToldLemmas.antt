-- Operations whose records are told by lines: two records are told alike only if they are one, and one that is the opening or written is
-- told alike of all operations. So what is told has the same reasons.
use Rattle.std.proofs.Common.{rules, tests, ◌≡◌, ◌≢◌, ℕ, ◌<◌, ◌≤◌, zero, suc, Bool, true, false, cond, List, [], ◌∷◌, ◌++◌, length}
use Rattle.std.proofs.Common.{get_or, slice_get, Option, None, Some, ◌⊎◌, inl, inr, refl, sym, ◌∙◌, ap, subst, arith}
use Rattle.std.specs.Prelude.{◌==◌, ◌&&◌, IsSome, if◌then◌else◌, nat_eq, nat_lt, option_map, unwrap_or}
use Rattle.std.specs.List.{position, position_or_len}
use Rattle.std.proofs.lemmas.Bool.{cases_eq}
use Rattle.std.proofs.lemmas.Bool.Decides.{nat_tests}
use Rattle.std.proofs.lemmas.List.{length_push}
use Rattle.std.proofs.lemmas.List.Quantifiers.{position-Some}
use Rattle.std.proofs.lemmas.List.Sums.{fails_before_first}
use Rattle.std.proofs.lemmas.Option.{same_Some, slice_get_cases, slice_get_within, slice_get-get_or}
use Rattle.history_core.proofs.Atomic.{IsSearched, of_one, of_opening, shares, some_from, turned}
use Rattle.history_core.proofs.Listed.{some_and_of}
use Rattle.history_core.proofs.Places.{get_last, get_stays}
use Rattle.history_core.specs.Orders.{is_write, Precedes}
use Rattle.history_core.specs.Reasons.{counts, IsCrossed, IsEarly, IsOfOpening, IsReason, IsStale, IsUnwritten, OfOneRecord, rule_of}
use Rattle.history_core.specs.declared.history.Op.{Op}
use Rattle.history_core.specs.declared.reason.Reason.{Reason}
use Rattle.history_core.specs.declared.reason.Reason.TheVariants.{Unwritten, Early, Stale, Crossed, Limit}
use Rattle.history_thinning.specs.Thinnings.{Equal}
use Rattle.history_thinning.proofs.Reasons.{alike}
use Rattle.order_laws.proofs.LoneLemmas.{IsLone}
use Rattle.reason_sentences.specs.KeptAt.{is_item, writes}
use Rattle.small_log.specs.Small.{one_or_none, told_of, told_op, told_ops, told_record}

-- a line for each operation, none 0, and no two alike
pub record AreLines (lines : List ℕ) (ops : List (Op ℕ)) : Type 0 where
  pub long : length lines ≡ length ops
  pub above : (i line : ℕ) → slice_get lines i ≡ Some line → 0 < line
  pub apart : (i j line : ℕ) → slice_get lines i ≡ Some line → slice_get lines j ≡ Some line → i ≡ j

some_or_none : (o : Option ℕ) → (o ≡ None) ⊎ ((k : ℕ) × (o ≡ Some k))
some_or_none None = inl refl
some_or_none (Some k) = inr (k, refl)

-- ---- the write of a record

is_its_write : (x : ℕ) (o : Op ℕ) → is_write o.kind ≡ true → o.item ≡ Some x → writes x o ≡ true
is_its_write x o t e = by (is_write o.kind) o.item t e
  where
    itself : (n : ℕ) → nat_eq n n ≡ true
    itself n = grind (arith, nat_tests)

    by : (b : Bool) (item : Option ℕ) → b ≡ true → item ≡ Some x → (b && is_item x item) ≡ true
    by true item t e = ap (is_item x) e ∙ itself x
    by false item t e = cc

its_write : (x : ℕ) (o : Op ℕ) → writes x o ≡ true → (is_write o.kind ≡ true) × (o.item ≡ Some x)
its_write x o t = by (is_write o.kind) o.item t
  where
    same : (a b : ℕ) → nat_eq a b ≡ true → b ≡ a
    same a b t = grind (arith, nat_tests)

    by : (b : Bool) (item : Option ℕ) → (b && is_item x item) ≡ true → (b ≡ true) × (item ≡ Some x)
    by true None t = cc
    by true (Some y) t = (refl, ap Some (same x y t))
    by false item t = cc

module _ (ops : List (Op ℕ)) where
  -- the operation at a place is the write of a record
  pub record IsWriteOf (x place : ℕ) : Type 0 where
    pub op : Op ℕ
    pub at : slice_get ops place ≡ Some op
    pub is : is_write op.kind ≡ true
    pub item : op.item ≡ Some x

  at_position : (x k : ℕ) (other : Op ℕ) → position (writes x) ops ≡ Some k → IsWriteOf x k
  at_position x k other e =
      let w = position-Some (writes x) ops k other e in
      let t = its_write x (get_or ops k other) w.1 in
      record { op = get_or ops k other; at = slice_get-get_or ops k other w.0; is = t.0; item = t.1 }

  no_position : (x k : ℕ) → position (writes x) ops ≡ None → IsWriteOf x k → ⊥
  no_position x k e w =
      let l : k < length ops = slice_get_within ops k w.op w.at in
      let past = beyond e in
      let f : writes x (get_or ops k w.op) ≡ false = fails_before_first (writes x) ops k w.op (omega (arith, l, past)) in
      let same : get_or ops k w.op ≡ w.op = same_Some (get_or ops k w.op) w.op (sym (slice_get-get_or ops k w.op l) ∙ w.at) in
      let t : writes x w.op ≡ true = is_its_write x w.op w.is w.item in
      let g : writes x w.op ≡ false = subst (λ z. writes x z ≡ false) same f in
      differ (writes x w.op) t g
    where
      differ : (b : Bool) → b ≡ true → b ≡ false → ⊥
      differ true t f = cc
      differ false t f = cc

      beyond : position (writes x) ops ≡ None → length ops ≤ position_or_len (writes x) ops
      beyond e = by_test (nat_lt (position_or_len (writes x) ops) (length ops)) refl e
        where
          by_test : (b : Bool) → nat_lt (position_or_len (writes x) ops) (length ops) ≡ b →
              cond b (Some (position_or_len (writes x) ops)) None ≡ None → length ops ≤ position_or_len (writes x) ops
          by_test true test h = cc
          by_test false test h = search (rules, tests)

  -- a record is the opening, or written by one of these
  abbrev pub IsKnown : ℕ → Type 0
  IsKnown x = (x ≡ 0) ⊎ ((k : ℕ) × (position (writes x) ops ≡ Some k))

  written : (x k : ℕ) → IsWriteOf x k → (i : ℕ) × (position (writes x) ops ≡ Some i)
  written x k w = elim (some_or_none (position (writes x) ops)) [
    | inl e ↦ absurd (no_position x k e w)
    | inr e ↦ e
  ]

module _ (lines : List ℕ) (ops : List (Op ℕ)) (are : AreLines lines ops) where
  -- ---- by what a record is told

  opening_told : (i : ℕ) → told_record lines ops i 0 ≡ 0
  opening_told i = refl

  known_told : (x i j : ℕ) → IsKnown ops x → told_record lines ops i x ≡ told_record lines ops j x
  known_told x i j (inl zero_is) =
      subst (λ z. told_record lines ops i z ≡ told_record lines ops j z) (sym zero_is) (opening_told i ∙ sym (opening_told j))
  known_told x i j (inr w) = by i ∙ sym (by j)
    where
      by : (n : ℕ) → told_record lines ops n x ≡ (if x == 0 then 0 else unwrap_or (slice_get lines w.0) 0)
      by n = ap (λ z. if x == 0 then 0 else unwrap_or (slice_get lines (unwrap_or z n)) 0) w.1

  -- a record is told by the line of an operation that has it
  record IsLineOf (i x : ℕ) : Type 0 where
    place : ℕ
    op : Op ℕ
    has : slice_get ops place ≡ Some op
    item : op.item ≡ Some x
    line : ℕ
    at : slice_get lines place ≡ Some line
    told : told_record lines ops i x ≡ line

  line_of : (i x : ℕ) (o : Op ℕ) → slice_get ops i ≡ Some o → o.item ≡ Some x → x ≢ 0 → IsLineOf i x
  line_of i x o e f some = elim (some_or_none (position (writes x) ops)) [
    | inl missing ↦ told_at i o (ap (λ z. unwrap_or z i) missing) e f
    | inr w ↦ let v = at_position ops x w.0 o w.1 in told_at w.0 v.op (ap (λ z. unwrap_or z i) w.1) v.at v.item
  ]
    where
      not_zero : (x == 0) ≡ true → ⊥
      not_zero t = some (let e : x ≡ 0 = grind (arith, nat_tests) in e)

      by : (b : Bool) (k line : ℕ) → (x == 0) ≡ b → slice_get lines k ≡ Some line →
          (if b then 0 else unwrap_or (slice_get lines k) 0) ≡ line
      by true k line t e = absurd (not_zero t)
      by false k line t e = ap (λ z. unwrap_or z 0) e

      told_at : (k : ℕ) (a : Op ℕ) → unwrap_or (position (writes x) ops) i ≡ k → slice_get ops k ≡ Some a → a.item ≡ Some x →
          IsLineOf i x
      told_at k a is at has = elim (slice_get_cases lines k).1 [
        | inl w ↦ record {
          place = k;
          op = a;
          has = at;
          item = has;
          line = w.0;
          at = w.2;
          told = ap (λ z. if x == 0 then 0 else unwrap_or (slice_get lines z) 0) is ∙ by (x == 0) k w.0 refl w.2;
        }
        | inr past ↦
            let long : length lines ≡ length ops = are.long in
            let le : length lines ≤ k = past.0 in
            let l : k < length ops = slice_get_within ops k a at in
            absurd (omega (arith, long, le, l))
      ]

  other_told : (i x : ℕ) (o : Op ℕ) → slice_get ops i ≡ Some o → o.item ≡ Some x → x ≢ 0 → told_record lines ops i x ≢ 0
  other_told i x o e f some zero_told =
      let w = line_of i x o e f some in
      let l : 0 < w.line = are.above w.place w.line w.at in
      let z : w.line ≡ 0 = sym w.told ∙ zero_told in
      omega (arith, l, z)

  -- what is told alike is one record
  one_told : (i j x y : ℕ) (a b : Op ℕ) → slice_get ops i ≡ Some a → slice_get ops j ≡ Some b → a.item ≡ Some x → b.item ≡ Some y →
      told_record lines ops i x ≡ told_record lines ops j y → x ≡ y
  one_told i j x y a b ea eb fa fb same = elim (cases_eq x 0) [
    | inl x_is ↦ elim (cases_eq y 0) [
      | inl y_is ↦ x_is ∙ sym y_is
      | inr some ↦ absurd (other_told j y b eb fb some (sym same ∙ ap (told_record lines ops i) x_is))
    ]
    | inr other ↦ elim (cases_eq y 0) [
      | inl y_is ↦ absurd (other_told i x a ea fa other (same ∙ ap (told_record lines ops j) y_is))
      | inr some ↦
          let v = line_of i x a ea fa other in
          let w = line_of j y b eb fb some in
          let line : v.line ≡ w.line = sym v.told ∙ same ∙ w.told in
          let place : v.place ≡ w.place = are.apart v.place w.place v.line v.at (w.at ∙ ap Some (sym line)) in
          let op : v.op ≡ w.op = same_Some v.op w.op (sym v.has ∙ ap (slice_get ops) place ∙ w.has) in
          same_Some x y (sym v.item ∙ ap (λ (o : Op ℕ). o.item) op ∙ w.item)
    ]
  ]

  -- ---- the operations that are told

  one_more : (n : ℕ) (a : Op ℕ) → slice_get ops n ≡ Some a →
      told_of lines ops (suc n) ≡ told_of lines ops n ++ told_op lines ops n a ∷ []
  one_more n a e = ap (λ z. told_of lines ops n ++ one_or_none (option_map (told_op lines ops n) z)) e

  long_told : (n : ℕ) → n ≤ length ops → length (told_of lines ops n) ≡ n
  long_told zero le = refl
  long_told (suc n) le = elim (slice_get_cases ops n).1 [
    | inl w ↦
        let below : length (told_of lines ops n) ≡ n = long_told n (omega (arith, le)) in
        ap length (one_more n w.0 w.2) ∙ length_push (told_of lines ops n) (told_op lines ops n w.0) ∙ omega (arith, below)
    | inr past ↦ let l : length ops ≤ n = past.0 in absurd (omega (arith, le, l))
  ]

  get_told : (n i : ℕ) (a : Op ℕ) → n ≤ length ops → i < n → slice_get ops i ≡ Some a →
      slice_get (told_of lines ops n) i ≡ Some (told_op lines ops i a)
  get_told zero i a le l e = absurd (omega (arith, l))
  get_told (suc n) i a le l e = elim (slice_get_cases ops n).1 [
    | inl w ↦ ap (λ z. slice_get z i) (one_more n w.0 w.2) ∙ elim (cases_eq i n) [
      | inl is ↦
          let x : a ≡ w.0 = same_Some a w.0 (sym e ∙ ap (slice_get ops) is ∙ w.2) in
          let below : length (told_of lines ops n) ≡ n = long_told n (omega (arith, le)) in
          get_last (told_of lines ops n) (told_op lines ops n w.0) i (is ∙ sym below)
          ∙ ap Some (ap (λ z. told_op lines ops z w.0) (sym is) ∙ ap (told_op lines ops i) (sym x))
      | inr other ↦ get_stays (told_of lines ops n) (told_op lines ops i a) (told_op lines ops n w.0) i
          (get_told n i a (omega (arith, le)) (omega (arith, l, other)) e)
    ]
    | inr past ↦ let f : length ops ≤ n = past.0 in absurd (omega (arith, le, f))
  ]

  told_at : (i : ℕ) (a : Op ℕ) → slice_get ops i ≡ Some a → slice_get (told_ops lines ops) i ≡ Some (told_op lines ops i a)
  told_at i a e = get_told (length ops) i a (omega arith) (slice_get_within ops i a e) e

  of_told : (i : ℕ) (o : Op ℕ) → slice_get (told_ops lines ops) i ≡ Some o →
      (a : Op ℕ) × (slice_get ops i ≡ Some a) × (told_op lines ops i a ≡ o)
  of_told i o e = elim (slice_get_cases ops i).1 [
    | inl w ↦ (w.0, w.2, same_Some (told_op lines ops i w.0) o (sym (told_at i w.0 w.2) ∙ e))
    | inr past ↦
        let le : length ops ≤ i = past.0 in
        let l : i < length (told_ops lines ops) = slice_get_within (told_ops lines ops) i o e in
        let long : length (told_ops lines ops) ≡ length ops = long_told (length ops) (omega arith) in
        absurd (omega (arith, le, l, long))
  ]

  -- what is so of each operation as it is told
  over : (P : ℕ → Op ℕ → Type 0) → ((i : ℕ) (a : Op ℕ) → slice_get ops i ≡ Some a → P i (told_op lines ops i a)) →
      (i : ℕ) (o : Op ℕ) → slice_get (told_ops lines ops) i ≡ Some o → P i o
  over P f i o e = let w = of_told i o e in subst (P i) w.2 (f i w.0 w.1)

  -- ---- the same records

  has_told : (i x : ℕ) (a : Op ℕ) → a.item ≡ Some x → (told_op lines ops i a).item ≡ Some (told_record lines ops i x)
  has_told i x a e = ap (option_map (told_record lines ops i)) e

  item_of : (i y : ℕ) (a : Op ℕ) → (told_op lines ops i a).item ≡ Some y → (x : ℕ) × (a.item ≡ Some x) × (told_record lines ops i x ≡ y)
  item_of i y a e = by a.item e
    where
      by : (item : Option ℕ) → option_map (told_record lines ops i) item ≡ Some y →
          (x : ℕ) × (item ≡ Some x) × (told_record lines ops i x ≡ y)
      by None e = cc
      by (Some x) e = (x, refl, same_Some (told_record lines ops i x) y e)

  one_back : (i j : ℕ) (a b : Op ℕ) → slice_get ops i ≡ Some a → slice_get ops j ≡ Some b →
      OfOneRecord Equal (told_op lines ops i a) (told_op lines ops j b) → OfOneRecord Equal a b
  one_back i j a b ea eb one =
      let s = shares Equal (told_op lines ops i a) (told_op lines ops j b) one in
      let v = item_of i s.x a s.has_x in
      let w = item_of j s.y b s.has_y in
      let same : s.x ≡ s.y = s.same in
      of_one Equal a b v.0 w.0 v.1 w.1 (one_told i j v.0 w.0 a b ea eb v.1 w.1 (v.2 ∙ same ∙ sym w.2))

  one_on : (i j : ℕ) (a b : Op ℕ) → ((x : ℕ) → a.item ≡ Some x → IsKnown ops x) → OfOneRecord Equal a b →
      OfOneRecord Equal (told_op lines ops i a) (told_op lines ops j b)
  one_on i j a b known one =
      let s = shares Equal a b one in
      let same : s.x ≡ s.y = s.same in
      of_one Equal (told_op lines ops i a) (told_op lines ops j b) (told_record lines ops i s.x) (told_record lines ops j s.y)
      (has_told i s.x a s.has_x) (has_told j s.y b s.has_y)
      (known_told s.x i j (known s.x s.has_x) ∙ ap (told_record lines ops j) same)

  opened_back : (i : ℕ) (a : Op ℕ) → slice_get ops i ≡ Some a → IsOfOpening Equal 0 (told_op lines ops i a) → IsOfOpening Equal 0 a
  opened_back i a e opened =
      let w = some_and_of (λ x. Equal x 0) (told_op lines ops i a).item opened in
      let v = item_of i w.0 a w.1 in
      let told : told_record lines ops i v.0 ≡ 0 = v.2 ∙ w.2 in
      elim (cases_eq v.0 0) [
        | inl is ↦ of_opening Equal 0 a v.0 v.1 is
        | inr some ↦ absurd (other_told i v.0 a e v.1 some told)
      ]

  opened_on : (i : ℕ) (a : Op ℕ) → IsOfOpening Equal 0 a → IsOfOpening Equal 0 (told_op lines ops i a)
  opened_on i a opened =
      let w = some_and_of (λ x. Equal x 0) a.item opened in
      of_opening Equal 0 (told_op lines ops i a) (told_record lines ops i w.0) (has_told i w.0 a w.1)
      (ap (told_record lines ops i) w.2)

  -- what is known of them is known of what is told
  pub told_known : IsSearched Equal 0 ops → IsSearched Equal 0 (told_ops lines ops)
  told_known known = record {
    alike = alike;
    forwards = λ p end o at e. over (λ i z. z.ends ≡ Some end → z.starts ≤ end) (λ i a at e. known.forwards i end a at e) p o at e;
    once = λ p q a b ea eb ta tb one. over (λ i z. is_write z.kind ≡ true → OfOneRecord Equal z b → i ≡ q)
        (λ i c ec tc one. over
        (λ j z. is_write z.kind ≡ true → OfOneRecord Equal (told_op lines ops i c) z → i ≡ j)
        (λ j d ed td one. known.once i j c d ec ed tc td (one_back i j c d ec ed one)) q b eb tb one) p a ea ta one;
    fresh = λ p a e t bad. over (λ i z. is_write z.kind ≡ true → IsOfOpening Equal 0 z → ⊥)
        (λ i c ec t bad. known.fresh i c ec t (opened_back i c ec bad)) p a e t bad;
  }

  -- ---- the same reasons

  pub unwritten_on : (p : ℕ) → IsUnwritten Equal 0 ops p → IsUnwritten Equal 0 (told_ops lines ops) p
  unwritten_on p r = record {
    op = told_op lines ops p r.op;
    at = told_at p r.op r.at;
    finished = r.finished;
    opened = λ h. r.opened (opened_back p r.op r.at h);
    written = λ w a e t one. over (λ i z. is_write z.kind ≡ true → OfOneRecord Equal (told_op lines ops p r.op) z → ⊥)
        (λ i b at t one. r.written i b at t (one_back p i r.op b r.at at one)) w a e t one;
  }

  known_by_write : (j : ℕ) (a b : Op ℕ) → slice_get ops j ≡ Some b → is_write b.kind ≡ true → OfOneRecord Equal a b →
      (x : ℕ) → a.item ≡ Some x → IsKnown ops x
  known_by_write j a b e t one x f =
      let s = shares Equal a b one in
      let same : s.x ≡ s.y = s.same in
      let item : b.item ≡ Some x = s.has_y ∙ ap Some (sym same) ∙ sym s.has_x ∙ f in
      inr (written ops x j (record { op = b; at = e; is = t; item = item }))

  early_on : (p q : ℕ) → IsEarly Equal ops p q → IsEarly Equal (told_ops lines ops) p q
  early_on p q r = record {
    op = told_op lines ops p r.op;
    source = told_op lines ops q r.source;
    at = told_at p r.op r.at;
    source_at = told_at q r.source r.source_at;
    answers = r.answers;
    writes = r.writes;
    one = one_on p q r.op r.source (known_by_write q r.op r.source r.source_at r.writes r.one) r.one;
    precedes = r.precedes;
  }

  stale_on : (p q : ℕ) → IsStale Equal 0 ops p q → IsStale Equal 0 (told_ops lines ops) p q
  stale_on p q r = record {
    other = told_op lines ops p r.other;
    op = told_op lines ops q r.op;
    other_at = told_at p r.other r.other_at;
    at = told_at q r.op r.at;
    finished = r.finished;
    opened = opened_on q r.op r.opened;
    another = λ h. r.another (opened_back p r.other r.other_at h);
    precedes = r.precedes;
  }

  -- its record is known, or it is unwritten
  known_or_unwritten : (p : ℕ) (a : Op ℕ) → slice_get ops p ≡ Some a → IsSome a.ends →
      ((x : ℕ) → a.item ≡ Some x → IsKnown ops x) ⊎ IsUnwritten Equal 0 ops p
  known_or_unwritten p a e finished = elim (some_or_none a.item) [
    | inl none ↦ inl (λ x f. absurd (nothing x (sym f ∙ none)))
    | inr w ↦ elim (cases_eq w.0 0) [
      | inl is ↦ inl (λ x f. inl (same_Some x w.0 (sym f ∙ w.1) ∙ is))
      | inr some ↦ elim (some_or_none (position (writes w.0) ops)) [
        | inr v ↦ inl (λ x f. inr (subst (λ z. (k : ℕ) × (position (writes z) ops ≡ Some k)) (same_Some w.0 x (sym w.1 ∙ f)) v))
        | inl missing ↦ inr (record {
          op = a;
          at = e;
          finished = finished;
          opened = λ h. let v = some_and_of (λ x. Equal x 0) a.item h in some (same_Some w.0 v.0 (sym w.1 ∙ v.1) ∙ v.2);
          written = λ j b at t one. let s = shares Equal a b one in
              let same : s.x ≡ s.y = s.same in
              let is : b.item ≡ Some w.0 = s.has_y ∙ ap Some (sym same) ∙ sym s.has_x ∙ w.1 in
              no_position ops w.0 j missing (record { op = b; at = at; is = t; item = is });
        })
      ]
    ]
  ]
    where
      nothing : (x : ℕ) → Some x ≡ None → ⊥
      nothing x e = cc

  -- an operation that precedes another is finished
  finished : (a b : Op ℕ) → Precedes a b → IsSome a.ends
  finished a b pre = let end = some_and_of (λ end. end < b.starts) a.ends pre in some_from a.ends end.0 end.1

  crossed_on : (a b c d : ℕ) (r : IsCrossed Equal 0 ops a b c d) → ((x : ℕ) → r.op_a.item ≡ Some x → IsKnown ops x) →
      ((x : ℕ) → r.op_c.item ≡ Some x → IsKnown ops x) → IsCrossed Equal 0 (told_ops lines ops) a b c d
  crossed_on a b c d r known_a known_c = record {
    op_a = told_op lines ops a r.op_a;
    op_b = told_op lines ops b r.op_b;
    op_c = told_op lines ops c r.op_c;
    op_d = told_op lines ops d r.op_d;
    at_a = told_at a r.op_a r.at_a;
    at_b = told_at b r.op_b r.at_b;
    at_c = told_at c r.op_c r.at_c;
    at_d = told_at d r.op_d r.at_d;
    counts_b = r.counts_b;
    counts_d = r.counts_d;
    first = r.first;
    second = r.second;
    one = one_on a d r.op_a r.op_d known_a r.one;
    other = turned Equal alike (told_op lines ops c r.op_c) (told_op lines ops b r.op_b)
        (one_on c b r.op_c r.op_b known_c (turned Equal alike r.op_b r.op_c r.other));
    apart = λ h. r.apart (one_back a b r.op_a r.op_b r.at_a r.at_b h);
    one_opened = λ h. r.one_opened (opened_back a r.op_a r.at_a h);
    other_opened = λ h. r.other_opened (opened_back b r.op_b r.at_b h);
  }

  -- each reason but the limit's, unless a record that it names is unwritten
  pub reason_on : (limit : ℕ) (reason : Reason) → IsReason Equal 0 limit ops reason → rule_of reason < 5 →
      IsReason Equal 0 limit (told_ops lines ops) reason ⊎ ((p : ℕ) × IsUnwritten Equal 0 ops p)
  reason_on limit (Unwritten read) r l = inl (unwritten_on read r)
  reason_on limit (Early read write) r l = inl (early_on read write r)
  reason_on limit (Stale before read) r l = inl (stale_on before read r)
  reason_on limit (Crossed a b c d) r l = elim (known_or_unwritten a r.op_a r.at_a (finished r.op_a r.op_b r.first)) [
    | inr unwritten ↦ inr (a, unwritten)
    | inl known_a ↦ elim (known_or_unwritten c r.op_c r.at_c (finished r.op_c r.op_d r.second)) [
      | inr unwritten ↦ inr (c, unwritten)
      | inl known_c ↦ inl (crossed_on a b c d r known_a known_c)
    ]
  ]
  reason_on limit (Limit refused) r l = absurd (omega (arith, l))

  -- a refused write that stands alone but for the write of its record
  pub lone_on : (limit place : ℕ) → IsLone limit ops place → IsLone limit (told_ops lines ops) place
  lone_on limit place lone = record {
    op = told_op lines ops place lone.op;
    at = told_at place lone.op lone.at;
    finished = lone.finished;
    refused = lone.refused;
    others = over (λ i z. (i ≡ place) ⊎ ((is_write z.kind ≡ true) × OfOneRecord Equal (told_op lines ops place lone.op) z))
        (λ i a e. elim (lone.others i a e) [
          | inl same ↦ inl same
          | inr w ↦ inr (w.0, one_on place i lone.op a (known_by_write i lone.op a e w.0 w.1) w.1)
        ]);
    source = elim lone.source [
      | inl w ↦ inl (opened_on place lone.op w.0, w.1)
      | inr w ↦
          let s = w.0 in
          inr (
            record {
              place = s.place;
              write = told_op lines ops s.place s.write;
              at = told_at s.place s.write s.at;
              writes = s.writes;
              one = one_on place s.place lone.op s.write (known_by_write s.place lone.op s.write s.at s.writes s.one) s.one;
              apart = s.apart;
            },
            w.1,
          )
    ];
  }

  -- ---- and no others

  pair : (P : Op ℕ → Op ℕ → Type 0) (a b c d : Op ℕ) → a ≡ c → b ≡ d → P c d → P a b
  pair P a b c d e f h = subst (λ z. P z b) (sym e) (subst (λ z. P c z) (sym f) h)

  unwritten_back : (p : ℕ) → IsUnwritten Equal 0 (told_ops lines ops) p → IsUnwritten Equal 0 ops p
  unwritten_back p r =
      let w = of_told p r.op r.at in
      record {
        op = w.0;
        at = w.1;
        finished = subst (λ (z : Op ℕ). IsSome z.ends) (sym w.2) r.finished;
        opened = λ h. r.opened (subst (λ (z : Op ℕ). IsOfOpening Equal 0 z) w.2 (opened_on p w.0 h));
        written = λ j b at t one.
            let known = known_by_write j w.0 b at t one in
            r.written j (told_op lines ops j b) (told_at j b at) t
            (subst (λ (z : Op ℕ). OfOneRecord Equal z (told_op lines ops j b)) w.2 (one_on p j w.0 b known one));
      }

  early_back : (p q : ℕ) → IsEarly Equal (told_ops lines ops) p q → IsEarly Equal ops p q
  early_back p q r =
      let w = of_told p r.op r.at in
      let v = of_told q r.source r.source_at in
      let told_w = told_op lines ops p w.0 in
      let told_v = told_op lines ops q v.0 in
      record {
        op = w.0;
        source = v.0;
        at = w.1;
        source_at = v.1;
        answers = subst (λ (z : Op ℕ). is_write z.kind ≡ false) (sym w.2) r.answers;
        writes = subst (λ (z : Op ℕ). is_write z.kind ≡ true) (sym v.2) r.writes;
        one = one_back p q w.0 v.0 w.1 v.1 (pair (OfOneRecord Equal) told_w told_v r.op r.source w.2 v.2 r.one);
        precedes = pair Precedes told_w told_v r.op r.source w.2 v.2 r.precedes;
      }

  stale_back : (p q : ℕ) → IsStale Equal 0 (told_ops lines ops) p q → IsStale Equal 0 ops p q
  stale_back p q r =
      let w = of_told p r.other r.other_at in
      let v = of_told q r.op r.at in
      record {
        other = w.0;
        op = v.0;
        other_at = w.1;
        at = v.1;
        finished = subst (λ (z : Op ℕ). IsSome z.ends) (sym v.2) r.finished;
        opened = opened_back q v.0 v.1 (subst (λ (z : Op ℕ). IsOfOpening Equal 0 z) (sym v.2) r.opened);
        another = λ h. r.another (subst (λ (z : Op ℕ). IsOfOpening Equal 0 z) w.2 (opened_on p w.0 h));
        precedes = pair Precedes (told_op lines ops p w.0) (told_op lines ops q v.0) r.other r.op w.2 v.2 r.precedes;
      }

  crossed_back : (a b c d : ℕ) → IsCrossed Equal 0 (told_ops lines ops) a b c d →
      IsCrossed Equal 0 ops a b c d ⊎ ((p : ℕ) × IsUnwritten Equal 0 ops p)
  crossed_back a b c d r =
      let wa = of_told a r.op_a r.at_a in
      let wb = of_told b r.op_b r.at_b in
      let wc = of_told c r.op_c r.at_c in
      let wd = of_told d r.op_d r.at_d in
      let ta = told_op lines ops a wa.0 in
      let tb = told_op lines ops b wb.0 in
      let tc = told_op lines ops c wc.0 in
      let td = told_op lines ops d wd.0 in
      let first : Precedes wa.0 wb.0 = pair Precedes ta tb r.op_a r.op_b wa.2 wb.2 r.first in
      elim (known_or_unwritten a wa.0 wa.1 (finished wa.0 wb.0 first)) [
        | inr unwritten ↦ inr (a, unwritten)
        | inl known ↦ inl (record {
          op_a = wa.0;
          op_b = wb.0;
          op_c = wc.0;
          op_d = wd.0;
          at_a = wa.1;
          at_b = wb.1;
          at_c = wc.1;
          at_d = wd.1;
          counts_b = subst (λ (z : Op ℕ). counts z ≡ true) (sym wb.2) r.counts_b;
          counts_d = subst (λ (z : Op ℕ). counts z ≡ true) (sym wd.2) r.counts_d;
          first = first;
          second = pair Precedes tc td r.op_c r.op_d wc.2 wd.2 r.second;
          one = one_back a d wa.0 wd.0 wa.1 wd.1 (pair (OfOneRecord Equal) ta td r.op_a r.op_d wa.2 wd.2 r.one);
          other = one_back b c wb.0 wc.0 wb.1 wc.1 (pair (OfOneRecord Equal) tb tc r.op_b r.op_c wb.2 wc.2 r.other);
          apart = λ h. r.apart (pair (OfOneRecord Equal) r.op_a r.op_b ta tb (sym wa.2) (sym wb.2) (one_on a b wa.0 wb.0 known h));
          one_opened = λ h. r.one_opened (subst (λ (z : Op ℕ). IsOfOpening Equal 0 z) wa.2 (opened_on a wa.0 h));
          other_opened = λ h. r.other_opened (subst (λ (z : Op ℕ). IsOfOpening Equal 0 z) wb.2 (opened_on b wb.0 h));
        })
      ]

  pub reason_back : (limit : ℕ) (reason : Reason) → IsReason Equal 0 limit (told_ops lines ops) reason → rule_of reason < 5 →
      IsReason Equal 0 limit ops reason ⊎ ((p : ℕ) × IsUnwritten Equal 0 ops p)
  reason_back limit (Unwritten read) r l = inl (unwritten_back read r)
  reason_back limit (Early read write) r l = inl (early_back read write r)
  reason_back limit (Stale before read) r l = inl (stale_back before read r)
  reason_back limit (Crossed a b c d) r l = crossed_back a b c d r
  reason_back limit (Limit refused) r l = absurd (omega (arith, l))
