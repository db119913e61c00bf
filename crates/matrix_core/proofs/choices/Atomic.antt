-- Atomic cells keep the law that the order needs: each access has one position, and a read has the number of the last write before
-- it, which is how many writes come before it. And no stamp passes the limit, so the noise is never chosen.
use Rattle.std.proofs.Common.{◌≡◌, ℕ, ◌+◌, ◌*◌, ◌/◌, ◌%◌, ◌<◌, ◌≤◌, List, [], ◌∷◌, ◌++◌, length}
use Rattle.std.proofs.Common.{Some, sym, subst, ◌∙◌, ap, arith, inl, inr}
use Rattle.std.proofs.lemmas.Bool.{cases_lt}
use Rattle.std.proofs.lemmas.Nat.{div-add-mod'}
use Rattle.history_core.specs.declared.history.Kind.{Kind}
use Rattle.history_core.specs.declared.history.Kind.TheVariants.{Write, Read, Refused}
use Rattle.history_core.specs.Schedules.{access_at, Span, steps_of}
use Rattle.history_core.proofs.Played.{later_operation}
use Rattle.history_core.specs.Registers.{Intervals, IsBefore, IsReadOf}
use Rattle.history_core.proofs.Times.{of_before, to_before}
use Rattle.matrix_core.specs.declared.stamp.Stamp.{Stamp}
use Rattle.matrix_core.specs.Choices.{AllChoose, Choice, ChoosesByKind, IsFrom, IsIn}
use Rattle.matrix_core.proofs.choices.ByAccesses.{done_event, in_done}

-- an access of one position
pub record IsAtomic (s : Intervals) : Type 0 where
  pub point : (k : ℕ) → s.begins k ≡ s.ends k

-- the number of the last write before a read: the writes before it are those with smaller numbers
pub record IsLast (writes reads : Intervals) (m n : ℕ) : Type 0 where
  pub before : (k : ℕ) → k < n → IsBefore (writes.begins k) (reads.begins m)
  pub after : (k : ℕ) → IsBefore (writes.begins k) (reads.begins m) → k < n

pub atomic_reads : (writes reads : Intervals) (m n : ℕ) → IsAtomic writes → IsAtomic reads → IsLast writes reads m n →
    IsReadOf writes reads m n
atomic_reads writes reads m n aw ar l = record {
  late = λ k b. l.after k (subst (λ x. IsBefore x (reads.begins m)) (sym (aw.point k)) b);
  begun = λ k e. subst (λ x. IsBefore (writes.begins k) x) (ar.point m) (l.before k (omega arith));
}

-- how many operations have made their event e in so many steps
events_made : (a e c : ℕ) → e < a → (n : ℕ) × ((k : ℕ) → k < n → k * a + e < c) × ((k : ℕ) → k * a + e < c → k < n)
events_made a e c l =
    let q : ℕ = c / a in
    let r : ℕ = c % a in
    let s : q * a + r ≡ c = div-add-mod' c a in
    let lr : r < a = omega arith in
    elim (cases_lt e r) [
      | inl lt ↦ (
        q + 1,
        λ k h. elim (cases_lt k q) [
          | inl less ↦ let g : k * a + a ≤ q * a = later_operation a k q less in omega arith
          | inr ge ↦ let kq : k ≡ q = omega arith in let mul : k * a ≡ q * a = ap (λ z. z * a) kq in omega arith
        ],
        λ k h. elim (cases_lt k (q + 1)) [
          | inl less ↦ less
          | inr ge ↦ let g : q * a + a ≤ k * a = later_operation a q k (omega arith) in absurd (omega arith)
        ],
      )
      | inr le ↦ (
        q,
        λ k h. let g : k * a + a ≤ q * a = later_operation a k q h in omega arith,
        λ k h. elim (cases_lt k q) [
          | inl less ↦ less
          | inr ge ↦ elim (cases_lt q k) [
            | inl more ↦ let g : q * a + a ≤ k * a = later_operation a q k more in absurd (omega arith)
            | inr same ↦ let kq : k ≡ q = omega arith in let mul : k * a ≡ q * a = ap (λ z. z * a) kq in absurd (omega arith)
          ]
        ],
      )
    ]

-- so each access has the number of the last write before it
pub last_number : {R : Type 0} (at : ℕ) (span : Span R) (done rest : List ℕ) (i e m : ℕ) (reads : Intervals) → e < span.accesses →
    span.steps ≡ done ++ rest → reads.begins m ≡ Some (at + length done)
    → (n : ℕ) × IsLast (record { begins = λ k. access_at at span i k e; ends = λ k. access_at at span i k e }) reads m n
last_number at span done rest i e m reads l whole here =
    let c = events_made span.accesses e (steps_of i done) l in (
      c.0,
      record {
        before = λ k h.
            let x = done_event at span done rest i k e whole (c.1 k h) in
            to_before (access_at at span i k e) (reads.begins m) x.0 x.1 (λ y z.
            let s : at + length done ≡ y = same_some (sym here ∙ z) in
            let lt : x.0 < at + length done = x.2 in
            omega arith);
        after = λ k b.
            let x = of_before (access_at at span i k e) (reads.begins m) b in
            c.2 k (in_done at span done rest i k e x.0 whole x.1 (x.2 (at + length done) here));
      },
    )
  where
    same_some : {p q : ℕ} → Some p ≡ Some q → p ≡ q
    same_some h = cc

-- no stamp passes the limit
module _ {R : Type 0} (Earlier : Choice R → Choice R → Type 0) (opening : R) (limit : ℕ) where
  from_within : (past : List (Choice R)) (stamp : Stamp) (item : R) → ((c : Choice R) → IsIn c past → c.stamp.tag ≤ limit) →
      IsFrom opening past stamp item → stamp.tag ≤ limit
  from_within past stamp item h (inl f) = let e : stamp.tag ≡ 0 = ap (λ (s : Stamp). s.tag) f.0 in omega arith
  from_within past stamp item h (inr f) =
      let e : f.0.stamp.tag ≡ stamp.tag = ap (λ (s : Stamp). s.tag) f.2 in
      let l : f.0.stamp.tag ≤ limit = h f.0 f.1 in
      omega arith

  chosen_within : (c : Choice R) (kind : Kind) (seen : Stamp) (item : R) → seen.tag ≤ limit →
      ChoosesByKind limit c kind seen item → c.stamp.tag ≤ limit
  chosen_within c Write seen item l h =
      let e : c.stamp.tag ≡ seen.tag + 1 = ap (λ (s : Stamp). s.tag) h.1 in
      let lt : seen.tag < limit = h.0 in
      omega arith
  chosen_within c Read seen item l h = let e : c.stamp.tag ≡ seen.tag = ap (λ (s : Stamp). s.tag) h.0 in omega arith
  chosen_within c Refused seen item l h = let e : c.stamp.tag ≡ seen.tag = ap (λ (s : Stamp). s.tag) h.1 in omega arith

  pub tags_within : (choices : List (Choice R)) → AllChoose Earlier opening limit choices → (c : Choice R) →
      IsIn c choices → c.stamp.tag ≤ limit
  tags_within [] ok c m = absurd m
  tags_within (d ∷ past) ok c (inl here) =
      subst (λ (z : Choice R). z.stamp.tag ≤ limit) (sym here) (chosen_within d d.kind ok.0.seen ok.0.seen_item
      (from_within past ok.0.seen ok.0.seen_item (tags_within past ok.1) ok.0.from) ok.0.chosen)
  tags_within (d ∷ past) ok c (inr there) = tags_within past ok.1 c there
