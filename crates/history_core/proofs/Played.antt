-- The operations of the steps done so far: they are those that the steps have begun, and an actor that stands between its
-- operation's first step and its last has this operation at a known place. Each step keeps this.
use Rattle.std.proofs.Common.{◌≡◌, ◌≢◌, ℕ, ◌+◌, ◌-◌, ◌*◌, ◌<◌, ◌≤◌, List, [], ◌∷◌, ◌++◌, length, set, slice_get, Option, None, Some, inl}
use Rattle.std.proofs.Common.{inr, refl, sym, subst, ◌∙◌, ap, arith}
use Rattle.std.proofs.Math.Nat.{mul-le-mul_left}
use Rattle.std.specs.Prelude.{IsSomeAnd}
use Rattle.std.proofs.lemmas.Bool.{cases_lt, cases_order, cases_eq}
use Rattle.std.proofs.lemmas.List.{length_push}
use Rattle.std.proofs.lemmas.Option.{same_Some, slice_get_within}
use Rattle.history_core.specs.declared.history.Op.{Op}
use Rattle.history_core.specs.Orders.{Precedes}
use Rattle.history_core.specs.Schedules.{Span, steps_of, access_at, planned, Follows, IsOperation, IsPlayed}
use Rattle.history_core.proofs.Places.{get_last, get_stays, get_pushed_cases, get_set_same, get_set_other}
use Rattle.history_core.proofs.Positions.{position_below, position_least, positions_rise, positions_order, position_once, position_made}
use Rattle.history_core.proofs.Positions.{position_missing, missing_position, position_new, position_same, position_stays, position_cases}
use Rattle.history_core.proofs.Positions.{steps_mine, steps_other}

-- a term with these steps
abbrev pub after : {R : Type 0} → Span R → List ℕ → Span R
after span done = record span { steps = done }

-- the accesses of two operations of one actor don't meet
pub later_operation : (a k j : ℕ) → k < j → k * a + a ≤ j * a
later_operation a k j l = let h : k + 1 ≤ j = omega arith in omega (arith, mul-le-mul_left a h)

pub same_operation_number : (a k j r s : ℕ) → k * a + r ≡ j * a + s → r < a → s < a → k ≡ j
same_operation_number a k j r s e lr ls = elim (cases_order k j) [
  | inl q ↦ q
  | inr (inl l) ↦ absurd (omega (arith, later_operation a k j l))
  | inr (inr l) ↦ absurd (omega (arith, later_operation a j k l))
]

-- the last access of an operation is not the first of another
last_access : (a k j : ℕ) → 1 < a → k * a + (a - 1) ≢ j * a
last_access a k j more e =
    let same : k ≡ j = same_operation_number a k j (a - 1) 0 (omega arith) (omega arith) (omega arith) in
    let back : k * a ≡ j * a = ap (λ n. n * a) same in
    omega arith

module _ {R : Type 0} where
  -- operations with one actor and one number are one operation
  pub operation_once : (at : ℕ) (span : Span R) (ops : List (Op R)) (p q k : ℕ) (a b : Op R) → IsPlayed at span ops →
      slice_get ops p ≡ Some a → slice_get ops q ≡ Some b → a.who ≡ b.who → IsOperation at span k a → IsOperation at span k b → p ≡ q
  operation_once at span ops p q k a b played pa qb who ka kb =
      let e : a.starts ≡ b.starts = same_Some a.starts b.starts (sym ka.begins ∙ ap (λ w. access_at at span w k 0) who ∙ kb.begins) in
      elim (cases_order p q) [
        | inl s ↦ s
        | inr (inl l) ↦ let r : a.starts < b.starts = played.rising p q a b pa qb l in omega arith
        | inr (inr l) ↦ let r : b.starts < a.starts = played.rising q p b a qb pa l in omega arith
      ]

  -- an operation has one number
  pub number_once : (at : ℕ) (span : Span R) (k j : ℕ) (a b : Op R) → 0 < span.accesses → a.who ≡ b.who → a.starts ≡ b.starts →
      IsOperation at span k a → IsOperation at span j b → k ≡ j
  number_once at span k j a b some who starts ka jb =
      let e : access_at at span a.who j 0 ≡ Some a.starts = ap (λ w. access_at at span w j 0) who ∙ jb.begins ∙ ap Some (sym starts) in
      let i : k * span.accesses + 0 ≡ j * span.accesses + 0 =
      position_once at a.who span.steps (k * span.accesses + 0) (j * span.accesses + 0) a.starts ka.begins e in
      same_operation_number span.accesses k j 0 0 i some some

  -- of one actor the operation that begins first has the smaller number
  pub number_order : (at : ℕ) (span : Span R) (k j : ℕ) (a b : Op R) → a.who ≡ b.who → a.starts < b.starts → IsOperation at span k a →
      IsOperation at span j b → k < j
  number_order at span k j a b who l ka jb =
      let e : access_at at span a.who j 0 ≡ Some b.starts = ap (λ w. access_at at span w j 0) who ∙ jb.begins in
      let i : k * span.accesses + 0 < j * span.accesses + 0 =
      positions_order at a.who span.steps (k * span.accesses + 0) (j * span.accesses + 0) a.starts b.starts ka.begins e l in
      elim (cases_lt k j) [ inl s ↦ s | inr le ↦ absurd (omega (arith, mul-le-mul_left span.accesses le)) ]

  -- of one actor the operation with the smaller number precedes the other
  pub earlier_precedes : (at : ℕ) (span : Span R) (k j : ℕ) (a b : Op R) → 0 < span.accesses → a.who ≡ b.who → k < j →
      IsOperation at span k a → IsOperation at span j b → Precedes a b
  earlier_precedes at span k j a b some who l ka jb =
      let gap : k * span.accesses + span.accesses ≤ j * span.accesses = later_operation span.accesses k j l in
      let e : access_at at span a.who j 0 ≡ Some b.starts = ap (λ w. access_at at span w j 0) who ∙ jb.begins in
      let made : j * span.accesses + 0 < steps_of a.who span.steps = position_made at a.who span.steps (j * span.accesses + 0) b.starts e in
      ended a.ends ka.finishes made gap e
    where
      ended : (ends : Option ℕ) → access_at at span a.who k (span.accesses - 1) ≡ ends → j * span.accesses + 0 < steps_of a.who span.steps →
          k * span.accesses + span.accesses ≤ j * span.accesses → access_at at span a.who j 0 ≡ Some b.starts →
          (let P : Option ℕ → Type 0 = λ o. IsSomeAnd o (λ end. end < b.starts) in
          P ends)
      ended None f made gap e =
          let past : steps_of a.who span.steps ≤ k * span.accesses + (span.accesses - 1) =
          missing_position at a.who span.steps (k * span.accesses + (span.accesses - 1)) f in
          omega arith
      ended (Some end) f made gap e = positions_rise at a.who span.steps (k * span.accesses + (span.accesses - 1)) (j * span.accesses + 0)
          end b.starts f e (omega arith)

  -- an operation ends after it begins, and both before the steps end
  pub ends_after : (at : ℕ) (span : Span R) (k : ℕ) (op : Op R) (end : ℕ) → 1 < span.accesses → IsOperation at span k op →
      op.ends ≡ Some end → op.starts < end
  ends_after at span k op end more ko e = positions_rise at op.who span.steps (k * span.accesses + 0)
      (k * span.accesses + (span.accesses - 1)) op.starts end ko.begins (ko.finishes ∙ e) (omega arith)

  pub starts_below : (at : ℕ) (span : Span R) (k : ℕ) (op : Op R) → IsOperation at span k op → op.starts < at + length span.steps
  starts_below at span k op ko = position_below at op.who span.steps (k * span.accesses + 0) op.starts ko.begins

  pub ends_below : (at : ℕ) (span : Span R) (k : ℕ) (op : Op R) (end : ℕ) → IsOperation at span k op → op.ends ≡ Some end →
      end < at + length span.steps
  ends_below at span k op end ko e = position_below at op.who span.steps (k * span.accesses + (span.accesses - 1)) end (ko.finishes ∙ e)

  -- the operation at a place is another one now, of the same actor and with the same beginning; the others are as they were
  pub record IsReplaced (ops new : List (Op R)) (p : ℕ) (op : Op R) : Type 0 where
    pub old : Op R
    pub was : slice_get ops p ≡ Some old
    pub same_who : op.who ≡ old.who
    pub same_starts : op.starts ≡ old.starts
    pub here : slice_get new p ≡ Some op
    pub elsewhere : (q : ℕ) → q ≢ p → slice_get new q ≡ slice_get ops q

  pub replaced_by_set : (ops : List (Op R)) (p : ℕ) (old op : Op R) → slice_get ops p ≡ Some old → op.who ≡ old.who →
      op.starts ≡ old.starts → IsReplaced ops (set ops p op) p op
  replaced_by_set ops p old op was who starts = record {
    old = old;
    was = was;
    same_who = who;
    same_starts = starts;
    here = get_set_same ops p old op was;
    elsewhere = λ q ne. get_set_other ops p q op ne;
  }

  -- operation k of an actor stands unfinished at place p
  pub record IsUnderWay (at : ℕ) (span : Span R) (k who : ℕ) (ops : List (Op R)) (p : ℕ) : Type 0 where
    pub op : Op R
    pub there : slice_get ops p ≡ Some op
    pub actor : op.who ≡ who
    pub unfinished : op.ends ≡ None
    pub operation : IsOperation at span k op

  -- the operations of the steps done so far, and each actor's place of its operation under way
  pub record IsPlayedSoFar (at : ℕ) (span : Span R) (done : List ℕ) (ops : List (Op R)) (place : ℕ → ℕ) : Type 0 where
    pub played : IsPlayed at (after span done) ops
    pub under_way : (who k r : ℕ) → steps_of who done ≡ k * span.accesses + r → 0 < r → r < span.accesses →
        IsUnderWay at (after span done) k who ops (place who)

  -- no steps, no operations
  pub nothing_played : (at : ℕ) (span : Span R) (place : ℕ → ℕ) → IsPlayedSoFar at span [] [] place
  nothing_played at span place = record {
    played = record { each = λ p op h. cc; all = λ who k begin h. cc; rising = λ p q a b h. cc };
    under_way = λ who k r h pos. absurd (omega arith);
  }

  -- one more step leaves an operation as it is, unless it is this operation's last one
  operation_stays : (at : ℕ) (span : Span R) (done : List ℕ) (s k : ℕ) (op : Op R) →
      (s ≡ op.who → k * span.accesses + (span.accesses - 1) ≢ steps_of op.who done) → IsOperation at (after span done) k op →
      IsOperation at (after span (done ++ s ∷ [])) k op
  operation_stays at span done s k op ne ko = record {
    begins = position_stays at op.who s done (k * span.accesses + 0) op.starts ko.begins;
    finishes = position_same at op.who s done (k * span.accesses + (span.accesses - 1)) ne ∙ ko.finishes;
    follows = ko.follows;
  }

  -- a step that begins no operation begins none
  begins_before : (at : ℕ) (span : Span R) (done : List ℕ) (s k r who j begin : ℕ) → steps_of s done ≡ k * span.accesses + r → 0 < r →
      r < span.accesses → access_at at (after span (done ++ s ∷ [])) who j 0 ≡ Some begin →
      access_at at (after span done) who j 0 ≡ Some begin
  begins_before at span done s k r who j begin c pos l h = elim (position_cases at who s done (j * span.accesses + 0) begin h) [
    | inl e ↦ e
    | inr w ↦
        let e : steps_of who done ≡ k * span.accesses + r = ap (λ z. steps_of z done) (sym w.0) ∙ c in
        let same : k ≡ j = same_operation_number span.accesses k j r 0 (omega (arith, w.1)) l (omega arith) in
        let back : k * span.accesses ≡ j * span.accesses = ap (λ n. n * span.accesses) same in
        absurd (omega (arith, w.1))
  ]

  -- what stays under way when another actor makes a step
  stays_under_way : (at : ℕ) (span : Span R) (done : List ℕ) (s k who : ℕ) (ops new : List (Op R)) (p q : ℕ) → s ≢ who → q ≡ p →
      ((o : Op R) → o.who ≡ who → slice_get ops p ≡ Some o → slice_get new p ≡ Some o) → IsUnderWay at (after span done) k who ops p →
      IsUnderWay at (after span (done ++ s ∷ [])) k who new q
  stays_under_way at span done s k who ops new p q ne qp stays u = record {
    op = u.op;
    there = ap (slice_get new) qp ∙ stays u.op u.actor u.there;
    actor = u.actor;
    unfinished = u.unfinished;
    operation = operation_stays at span done s k u.op (λ e. absurd (ne (e ∙ u.actor))) u.operation;
  }

  -- an actor that stands between two operations begins its next one
  pub begins : (at : ℕ) (span : Span R) (done : List ℕ) (ops : List (Op R)) (place next : ℕ → ℕ) (k : ℕ) (op : Op R) → 1 < span.accesses →
      steps_of op.who done ≡ k * span.accesses → op.starts ≡ at + length done → op.ends ≡ None → Follows (planned span op.who k) op →
      next op.who ≡ length ops → ((w : ℕ) → w ≢ op.who → next w ≡ place w) → IsPlayedSoFar at span done ops place →
      IsPlayedSoFar at span (done ++ op.who ∷ []) (ops ++ op ∷ []) next
  begins at span done ops place next k op more c starts ends follows here others h = record {
    played = record { each = each; all = all; rising = rising };
    under_way = under_way;
  }
    where
      new : IsOperation at (after span (done ++ op.who ∷ [])) k op
      new = record {
        begins = position_new at op.who done (k * span.accesses + 0) (omega arith) ∙ ap Some (sym starts);
        finishes = position_missing at op.who (done ++ op.who ∷ []) (k * span.accesses + (span.accesses - 1))
            (omega (arith, steps_mine op.who done)) ∙ sym ends;
        follows = follows;
      }

      each : (p : ℕ) (o : Op R) → slice_get (ops ++ op ∷ []) p ≡ Some o → (j : ℕ) × IsOperation at (after span (done ++ op.who ∷ [])) j o
      each p o e = elim (get_pushed_cases ops op p o e) [
        | inl old ↦
            let w = h.played.each p o old in (
              w.0,
              operation_stays at span done op.who w.0 o
                  (λ s f. last_access span.accesses w.0 k more (f ∙ ap (λ z. steps_of z done) (sym s) ∙ c)) w.1,
            )
        | inr w ↦ (k, subst (λ z. IsOperation at (after span (done ++ op.who ∷ [])) k z) w.1 new)
      ]

      all : (who j begin : ℕ) → access_at at (after span (done ++ op.who ∷ [])) who j 0 ≡ Some begin →
          (p : ℕ) × (o : Op R) × (slice_get (ops ++ op ∷ []) p ≡ Some o) × (o.who ≡ who) × (o.starts ≡ begin)
      all who j begin e = elim (position_cases at who op.who done (j * span.accesses + 0) begin e) [
        | inl old ↦ let w = h.played.all who j begin old in (w.0, w.1, get_stays ops w.1 op w.0 w.2, w.3, w.4)
        | inr w ↦ (length ops, op, get_last ops op (length ops) refl, w.0, starts ∙ sym w.2)
      ]

      rising : (p q : ℕ) (a b : Op R) → slice_get (ops ++ op ∷ []) p ≡ Some a → slice_get (ops ++ op ∷ []) q ≡ Some b →
          p < q → a.starts < b.starts
      rising p q a b pa qb l = elim (get_pushed_cases ops op p a pa) [
        | inl olda ↦ elim (get_pushed_cases ops op q b qb) [
          | inl oldb ↦ h.played.rising p q a b olda oldb l
          | inr w ↦
              let e : op.starts ≡ b.starts = ap (λ (z : Op R). z.starts) w.1 in
              let k = h.played.each p a olda in
              omega (arith, starts_below at (after span done) k.0 a k.1)
        ]
        | inr w ↦ absurd (omega (arith, w.0, slice_get_within (ops ++ op ∷ []) q b qb, length_push ops op))
      ]

      under_way : (who j r : ℕ) → steps_of who (done ++ op.who ∷ []) ≡ j * span.accesses + r → 0 < r → r < span.accesses →
          IsUnderWay at (after span (done ++ op.who ∷ [])) j who (ops ++ op ∷ []) (next who)
      under_way who j r e pos l = elim (cases_eq who op.who) [
        | inl s ↦
            let count : k * span.accesses + 1 ≡ j * span.accesses + r =
            omega (arith, c, steps_mine op.who done, ap (λ z. steps_of z (done ++ op.who ∷ [])) s) in
            let same : k ≡ j = same_operation_number span.accesses k j 1 r count more l in
            record {
              op = op;
              there = get_last ops op (next who) (ap next s ∙ here);
              actor = sym s;
              unfinished = ends;
              operation = subst (λ n. IsOperation at (after span (done ++ op.who ∷ [])) n op) same new;
            }
        | inr ne ↦
            stays_under_way at span done op.who j who ops (ops ++ op ∷ []) (place who) (next who) (λ s. ne (sym s)) (others who ne)
            (λ o w i. get_stays ops o op (place who) i)
            (h.under_way who j r (sym (steps_other who op.who done (λ s. ne (sym s))) ∙ e) pos l)
      ]

  -- a step in the middle of an operation
  pub goes_on : (at : ℕ) (span : Span R) (done : List ℕ) (ops : List (Op R)) (place : ℕ → ℕ) (who k r : ℕ) →
      steps_of who done ≡ k * span.accesses + r → 0 < r → r + 1 < span.accesses → IsPlayedSoFar at span done ops place →
      IsPlayedSoFar at span (done ++ who ∷ []) ops place
  goes_on at span done ops place who k r c pos less h = record {
    played = record {
      each = λ p o e. let w = h.played.each p o e in (w.0, stays w.0 o w.1);
      all = λ w j begin e. h.played.all w j begin (begins_before at span done who k r w j begin c pos (omega arith) e);
      rising = h.played.rising;
    };
    under_way = under_way;
  }
    where
      stays : (j : ℕ) (o : Op R) → IsOperation at (after span done) j o → IsOperation at (after span (done ++ who ∷ [])) j o
      stays j o jo = operation_stays at span done who j o (λ s f.
          let e : j * span.accesses + (span.accesses - 1) ≡ k * span.accesses + r = f ∙ ap (λ z. steps_of z done) (sym s) ∙ c in
          let same : j ≡ k = same_operation_number span.accesses j k (span.accesses - 1) r e (omega arith) (omega arith) in
          let back : j * span.accesses ≡ k * span.accesses = ap (λ n. n * span.accesses) same in
          omega arith) jo

      under_way : (w j s : ℕ) → steps_of w (done ++ who ∷ []) ≡ j * span.accesses + s → 0 < s → s < span.accesses →
          IsUnderWay at (after span (done ++ who ∷ [])) j w ops (place w)
      under_way w j s e ps l = elim (cases_eq w who) [
        | inl q ↦
            let count : k * span.accesses + (r + 1) ≡ j * span.accesses + s =
            omega (arith, c, steps_mine who done, ap (λ z. steps_of z (done ++ who ∷ [])) q) in
            let same : k ≡ j = same_operation_number span.accesses k j (r + 1) s count less l in
            let back : k * span.accesses ≡ j * span.accesses = ap (λ n. n * span.accesses) same in
            let u = h.under_way w j r (ap (λ z. steps_of z done) q ∙ c ∙ omega arith) pos (omega arith) in
            record { op = u.op; there = u.there; actor = u.actor; unfinished = u.unfinished; operation = stays j u.op u.operation }
        | inr ne ↦
            stays_under_way at span done who j w ops ops (place w) (place w) (λ q. ne (sym q)) refl (λ o a i. i)
            (h.under_way w j s (sym (steps_other w who done (λ q. ne (sym q))) ∙ e) ps l)
      ]

  -- what an operation was before it was replaced
  replaced_old : (ops new : List (Op R)) (p q : ℕ) (op o : Op R) → IsReplaced ops new p op → slice_get new q ≡ Some o →
      (b : Op R) × (slice_get ops q ≡ Some b) × (o.who ≡ b.who) × (o.starts ≡ b.starts)
  replaced_old ops new p q op o rep e = elim (cases_eq q p) [
    | inl s ↦
        let i : op ≡ o = same_Some op o (sym rep.here ∙ ap (slice_get new) (sym s) ∙ e) in (
          rep.old,
          ap (slice_get ops) s ∙ rep.was,
          ap (λ (z : Op R). z.who) (sym i) ∙ rep.same_who,
          ap (λ (z : Op R). z.starts) (sym i) ∙ rep.same_starts,
        )
    | inr ne ↦ (o, sym (rep.elsewhere q ne) ∙ e, refl, refl)
  ]

  replaced_new : (ops new : List (Op R)) (p q who begin : ℕ) (op b : Op R) → IsReplaced ops new p op → slice_get ops q ≡ Some b →
      b.who ≡ who → b.starts ≡ begin → (o : Op R) × (slice_get new q ≡ Some o) × (o.who ≡ who) × (o.starts ≡ begin)
  replaced_new ops new p q who begin op b rep e bw bs = elim (cases_eq q p) [
    | inl s ↦
        let i : rep.old ≡ b = same_Some rep.old b (sym rep.was ∙ ap (slice_get ops) (sym s) ∙ e) in (
          op,
          ap (slice_get new) s ∙ rep.here,
          rep.same_who ∙ ap (λ (z : Op R). z.who) i ∙ bw,
          rep.same_starts ∙ ap (λ (z : Op R). z.starts) i ∙ bs,
        )
    | inr ne ↦ (b, rep.elsewhere q ne ∙ e, bw, bs)
  ]

  -- the operations are as many, begin as they did, and stand as they stood
  replaced_rising : (ops new : List (Op R)) (p : ℕ) (op : Op R) → IsReplaced ops new p op →
      ((i j : ℕ) (a b : Op R) → slice_get ops i ≡ Some a → slice_get ops j ≡ Some b → i < j → a.starts < b.starts) →
      (i j : ℕ) (a b : Op R) → slice_get new i ≡ Some a → slice_get new j ≡ Some b → i < j → a.starts < b.starts
  replaced_rising ops new p op rep rising i j a b ia jb l =
      let v = replaced_old ops new p i op a rep ia in
      let w = replaced_old ops new p j op b rep jb in
      let r : v.0.starts < w.0.starts = rising i j v.0 w.0 v.1 w.1 l in
      omega (arith, v.3, w.3)

  -- an operation under way that is replaced begins as it did
  replaced_begins : (at : ℕ) (span : Span R) (k who p : ℕ) (ops new : List (Op R)) (op : Op R) → IsReplaced ops new p op →
      IsUnderWay at span k who ops p →
      (op.who ≡ who) × (access_at at span op.who k 0 ≡ Some op.starts) × (access_at at span op.who k (span.accesses - 1) ≡ None)
  replaced_begins at span k who p ops new op rep u =
      let i : rep.old ≡ u.op = same_Some rep.old u.op (sym rep.was ∙ u.there) in
      let w : op.who ≡ u.op.who = rep.same_who ∙ ap (λ (z : Op R). z.who) i in
      let s : op.starts ≡ u.op.starts = rep.same_starts ∙ ap (λ (z : Op R). z.starts) i in (
        w ∙ u.actor,
        ap (λ z. access_at at span z k 0) w ∙ u.operation.begins ∙ ap Some (sym s),
        ap (λ z. access_at at span z k (span.accesses - 1)) w ∙ u.operation.finishes ∙ u.unfinished,
      )

  -- what another actor has under way is not what was replaced
  others_under_way : (at : ℕ) (span : Span R) (k j who w p q : ℕ) (ops new : List (Op R)) (op : Op R) → w ≢ who → IsReplaced ops new p op →
      IsUnderWay at span k who ops p → (o : Op R) → o.who ≡ w → slice_get ops q ≡ Some o → slice_get new q ≡ Some o
  others_under_way at span k j who w p q ops new op ne rep u o ow e =
      rep.elsewhere q (λ s.
      let i : u.op ≡ o = same_Some u.op o (sym u.there ∙ ap (slice_get ops) (sym s) ∙ e) in
      ne (sym ow ∙ ap (λ (z : Op R). z.who) (sym i) ∙ u.actor)) ∙ e

  -- the last step of an operation
  pub finishes : (at : ℕ) (span : Span R) (done : List ℕ) (ops new : List (Op R)) (place : ℕ → ℕ) (who k : ℕ) (op : Op R) →
      1 < span.accesses → steps_of who done + 1 ≡ k * span.accesses + span.accesses → IsReplaced ops new (place who) op →
      op.ends ≡ Some (at + length done) → Follows (planned span who k) op → IsPlayedSoFar at span done ops place →
      IsPlayedSoFar at span (done ++ who ∷ []) new place
  finishes at span done ops new place who k op more c rep ends follows h = record {
    played = record { each = each; all = all; rising = replaced_rising ops new (place who) op rep h.played.rising };
    under_way = under_way;
  }
    where
      count : steps_of who done ≡ k * span.accesses + (span.accesses - 1)
      count = omega arith

      u : IsUnderWay at (after span done) k who ops (place who)
      u = h.under_way who k (span.accesses - 1) count (omega arith) (omega arith)

      finished : IsOperation at (after span (done ++ who ∷ [])) k op
      finished =
          let was = replaced_begins at (after span done) k who (place who) ops new op rep u in
          record {
            begins = position_stays at op.who who done (k * span.accesses + 0) op.starts was.1;
            finishes =
                ap (λ z. access_at at (after span (done ++ who ∷ [])) z k (span.accesses - 1)) was.0
                ∙ position_new at who done (k * span.accesses + (span.accesses - 1)) (sym count)
                ∙ sym ends;
            follows = subst (λ z. Follows (planned span z k) op) (sym was.0) follows;
          }

      each : (p : ℕ) (o : Op R) → slice_get new p ≡ Some o → (j : ℕ) × IsOperation at (after span (done ++ who ∷ [])) j o
      each p o e = elim (cases_eq p (place who)) [
        | inl s ↦ (
          k,
          subst (λ z. IsOperation at (after span (done ++ who ∷ [])) k z)
              (same_Some op o (sym rep.here ∙ ap (slice_get new) (sym s) ∙ e)) finished,
        )
        | inr ne ↦
            let old : slice_get ops p ≡ Some o = sym (rep.elsewhere p ne) ∙ e in
            let w = h.played.each p o old in (
              w.0,
              operation_stays at span done who w.0 o (λ s f.
                  let i : w.0 * span.accesses + (span.accesses - 1) ≡ k * span.accesses + (span.accesses - 1) =
                  f ∙ ap (λ z. steps_of z done) (sym s) ∙ count in
                  let same : w.0 ≡ k =
                  same_operation_number span.accesses w.0 k (span.accesses - 1) (span.accesses - 1) i (omega arith) (omega arith) in
                  ne (operation_once at (after span done) ops p (place who) k o u.op h.played old u.there (sym s ∙ sym u.actor)
                  (subst (λ n. IsOperation at (after span done) n o) same w.1) u.operation)) w.1,
            )
      ]

      all : (w j begin : ℕ) → access_at at (after span (done ++ who ∷ [])) w j 0 ≡ Some begin →
          (p : ℕ) × (o : Op R) × (slice_get new p ≡ Some o) × (o.who ≡ w) × (o.starts ≡ begin)
      all w j begin e =
          let old =
          h.played.all w j begin (begins_before at span done who k (span.accesses - 1) w j begin count (omega arith) (omega arith) e) in
          let v = replaced_new ops new (place who) old.0 w begin op old.1 rep old.2 old.3 old.4 in
          (old.0, v.0, v.1, v.2, v.3)

      under_way : (w j s : ℕ) → steps_of w (done ++ who ∷ []) ≡ j * span.accesses + s → 0 < s → s < span.accesses →
          IsUnderWay at (after span (done ++ who ∷ [])) j w new (place w)
      under_way w j s e ps l = elim (cases_eq w who) [
        | inl q ↦
            let next : (k + 1) * span.accesses + 0 ≡ j * span.accesses + s =
            omega (arith, c, steps_mine who done, ap (λ z. steps_of z (done ++ who ∷ [])) q) in
            let same : k + 1 ≡ j = same_operation_number span.accesses (k + 1) j 0 s next (omega arith) l in
            let back : (k + 1) * span.accesses ≡ j * span.accesses = ap (λ n. n * span.accesses) same in
            absurd (omega arith)
        | inr ne ↦
            stays_under_way at span done who j w ops new (place w) (place w) (λ q. ne (sym q)) refl
            (others_under_way at (after span done) k j who w (place who) (place w) ops new op ne rep u)
            (h.under_way w j s (sym (steps_other w who done (λ q. ne (sym q))) ∙ e) ps l)
      ]

  -- an operation under way becomes another, without a step: its kind or its item changes
  pub replaced : (at : ℕ) (span : Span R) (done : List ℕ) (ops new : List (Op R)) (place : ℕ → ℕ) (who k r : ℕ) (op : Op R) →
      steps_of who done ≡ k * span.accesses + r → 0 < r → r < span.accesses → IsReplaced ops new (place who) op → op.ends ≡ None →
      Follows (planned span who k) op → IsPlayedSoFar at span done ops place → IsPlayedSoFar at span done new place
  replaced at span done ops new place who k r op c pos less rep ends follows h = record {
    played = record { each = each; all = all; rising = replaced_rising ops new (place who) op rep h.played.rising };
    under_way = under_way;
  }
    where
      u : IsUnderWay at (after span done) k who ops (place who)
      u = h.under_way who k r c pos less

      now : (op.who ≡ who) × IsOperation at (after span done) k op
      now =
          let was = replaced_begins at (after span done) k who (place who) ops new op rep u in (
            was.0,
            record {
              begins = was.1;
              finishes = was.2 ∙ sym ends;
              follows = subst (λ z. Follows (planned span z k) op) (sym was.0) follows;
            },
          )

      each : (p : ℕ) (o : Op R) → slice_get new p ≡ Some o → (j : ℕ) × IsOperation at (after span done) j o
      each p o e = elim (cases_eq p (place who)) [
        | inl s ↦ (
          k,
          subst (λ z. IsOperation at (after span done) k z) (same_Some op o (sym rep.here ∙ ap (slice_get new) (sym s) ∙ e)) now.1,
        )
        | inr ne ↦ h.played.each p o (sym (rep.elsewhere p ne) ∙ e)
      ]

      all : (w j begin : ℕ) → access_at at (after span done) w j 0 ≡ Some begin →
          (p : ℕ) × (o : Op R) × (slice_get new p ≡ Some o) × (o.who ≡ w) × (o.starts ≡ begin)
      all w j begin e =
          let old = h.played.all w j begin e in
          let v = replaced_new ops new (place who) old.0 w begin op old.1 rep old.2 old.3 old.4 in
          (old.0, v.0, v.1, v.2, v.3)

      under_way : (w j s : ℕ) → steps_of w done ≡ j * span.accesses + s → 0 < s → s < span.accesses →
          IsUnderWay at (after span done) j w new (place w)
      under_way w j s e ps l = elim (cases_eq w who) [
        | inl q ↦
            let same : k ≡ j = same_operation_number span.accesses k j r s (sym c ∙ ap (λ z. steps_of z done) (sym q) ∙ e) less l in
            record {
              op = op;
              there = ap (λ z. slice_get new (place z)) q ∙ rep.here;
              actor = now.0 ∙ sym q;
              unfinished = ends;
              operation = subst (λ n. IsOperation at (after span done) n op) same now.1;
            }
        | inr ne ↦
            let v = h.under_way w j s e ps l in
            record {
              op = v.op;
              there = others_under_way at (after span done) k j who w (place who) (place w) ops new op ne rep u v.op v.actor v.there;
              actor = v.actor;
              unfinished = v.unfinished;
              operation = v.operation;
            }
      ]

  -- an operation of a term begins in this term
  pub starts_least : (at : ℕ) (span : Span R) (k : ℕ) (op : Op R) → IsOperation at span k op → at ≤ op.starts
  starts_least at span k op ko = position_least at op.who span.steps (k * span.accesses + 0) op.starts ko.begins

  pub ends_least : (at : ℕ) (span : Span R) (k : ℕ) (op : Op R) (end : ℕ) → IsOperation at span k op → op.ends ≡ Some end → at ≤ end
  ends_least at span k op end ko e = position_least at op.who span.steps (k * span.accesses + (span.accesses - 1)) end (ko.finishes ∙ e)
