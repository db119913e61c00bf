-- Groups: what is of one record is of one group, each group but the opening's has its write, and what precedences between and in groups
-- are reasons.
use Rattle.std.proofs.Common.{◌≡◌, ◌≢◌, ℕ, zero, suc, ◌<◌, ◌≤◌, Bool, true, false, List, length, refl, sym, ◌∙◌, ap, subst, arith}
use Rattle.std.proofs.Common.{◌⊎◌, inl, inr, slice_get, Option, None, Some}
use Rattle.std.specs.Prelude.{IsSome, is_some, ◌||◌}
use Rattle.std.proofs.lemmas.Bool.{cases_Bool}
use Rattle.std.proofs.lemmas.Option.{slice_get_within, same_Some, slice_get_cases}
use Rattle.history_core.specs.declared.history.Op.{Op}
use Rattle.history_core.specs.Orders.{is_write, Precedes}
use Rattle.history_core.proofs.Listed.{some_and_of}
use Rattle.history_core.specs.Reasons.{counts, IsCrossed, IsEarly, IsOfOpening, IsStale, IsUnwritten, OfOneRecord}
use Rattle.history_search.specs.inner.Groups.{AreGroups, HasGroup, Member}
use Rattle.history_core.proofs.Atomic.{both_opened, IsSearched, joined, opened, some_from, turned}

-- each finished operation has a group
abbrev pub AllHaveGroups : {R : Type 0} → List (Op R) → List (Option ℕ) → Type 0
AllHaveGroups {R} ops groups =
    (p : ℕ) (o : Op R) → slice_get ops p ≡ Some o → IsSome o.ends → (g : ℕ) × (slice_get groups p ≡ Some (Some g))

module _ {R : Type 0} (Same : R → R → Type 0) (opening : R) (ops : List (Op R))
    (groups : List (Option ℕ)) (known : IsSearched Same opening ops)
    (are : AreGroups Same opening ops groups) where
  -- what a member has
  pub has : (p g : ℕ) (o : Op R) → Member ops groups p o g → (counts o ≡ true) × HasGroup Same opening ops g o
  has p g o m = are.each p o (Some g) m.0 m.1

  -- an operation is of its own record
  own_record : (g : ℕ) (o : Op R) → HasGroup Same opening ops g o → OfOneRecord Same o o
  own_record zero o h = both_opened Same known.alike opening o o h h
  own_record (suc w) o h = joined Same known.alike o h.0 o h.3 (turned Same known.alike o h.0 h.3)

  -- the group of a write is its own
  own_by : (p g : ℕ) (o : Op R) → slice_get ops p ≡ Some o → is_write o.kind ≡ true → HasGroup Same opening ops g o → g ≡ suc p
  own_by p zero o e t h = absurd (known.fresh p o e t h)
  own_by p (suc w) o e t h = ap suc (known.once w p h.0 o h.1 e h.2 t (turned Same known.alike o h.0 h.3))

  pub own : (p g : ℕ) (o : Op R) → Member ops groups p o g → is_write o.kind ≡ true → g ≡ suc p
  own p g o m t = own_by p g o m.0 t (has p g o m).1

  alike_by : (g : ℕ) (o b : Op R) → HasGroup Same opening ops g o → HasGroup Same opening ops g b → OfOneRecord Same o b
  alike_by zero o b h k = both_opened Same known.alike opening o b h k
  alike_by (suc w) o b h k =
      let e : h.0 ≡ k.0 = same_Some h.0 k.0 (sym h.1 ∙ k.1) in
      let P : Op R → Type 0 = λ z. OfOneRecord Same o z in
      joined Same known.alike o k.0 b (subst P e h.3) (turned Same known.alike b k.0 k.3)

  -- members of one group are of one record
  pub alike : (p q g : ℕ) (o b : Op R) → Member ops groups p o g → Member ops groups q b g → OfOneRecord Same o b
  alike p q g o b m n = alike_by g o b (has p g o m).1 (has q g b n).1

  apart_by : (g h : ℕ) (o b : Op R) → HasGroup Same opening ops g o → HasGroup Same opening ops h b → OfOneRecord Same o b → g ≡ h
  apart_by zero zero o b m n one = refl
  apart_by zero (suc w) o b m n one = absurd (known.fresh w n.0 n.1 n.2 (opened Same known.alike opening n.0 b
      (turned Same known.alike b n.0 n.3) (opened Same known.alike opening b o (turned Same known.alike o b one) m)))
  apart_by (suc w) zero o b m n one = absurd (known.fresh w m.0 m.1 m.2 (opened Same known.alike opening m.0 o
      (turned Same known.alike o m.0 m.3) (opened Same known.alike opening o b one n)))
  apart_by (suc v) (suc w) o b m n one = ap suc (known.once v w m.0 n.0 m.1 n.1 m.2 n.2
      (joined Same known.alike m.0 o n.0 (turned Same known.alike o m.0 m.3) (joined Same known.alike o b n.0 one n.3)))

  -- and of one record only in one group
  pub apart : (p q g h : ℕ) (o b : Op R) → Member ops groups p o g → Member ops groups q b h → OfOneRecord Same o b → g ≡ h
  apart p q g h o b m n one = apart_by g h o b (has p g o m).1 (has q h b n).1 one

  -- an operation of the opening is of its group
  opening_by : (g : ℕ) (o : Op R) → HasGroup Same opening ops g o → IsOfOpening Same opening o → g ≡ 0
  opening_by zero o m h = refl
  opening_by (suc w) o m h =
      absurd (known.fresh w m.0 m.1 m.2 (opened Same known.alike opening m.0 o (turned Same known.alike o m.0 m.3) h))

  pub of_opening_group : (p g : ℕ) (o : Op R) → Member ops groups p o g → IsOfOpening Same opening o → g ≡ 0
  of_opening_group p g o m h = opening_by g o (has p g o m).1 h

  -- a write of a record has its group
  pub write_has : (w : ℕ) (a : Op R) → slice_get ops w ≡ Some a → is_write a.kind ≡ true →
      OfOneRecord Same a a → Member ops groups w a (suc w)
  write_has w a e t one =
      let c : counts a ≡ true = subst (λ z. (is_some a.ends || z) ≡ true) (sym t) (or_true (is_some a.ends)) in
      let l : w < length groups = omega (arith, slice_get_within ops w a e, are.long) in
      elim (slice_get_cases groups w).1 [
        | inl x ↦ found x.0 c x.2
        | inr x ↦ absurd (omega (arith, x.0))
      ]
    where
      or_true : (b : Bool) → (b || true) ≡ true
      or_true true = refl
      or_true false = refl

      found : (g : Option ℕ) → counts a ≡ true → slice_get groups w ≡ Some g → Member ops groups w a (suc w)
      found None c g = absurd ((are.each w a None e g c).1 w a e t one)
      found (Some h) c g = (e, g ∙ ap (λ z. Some (Some z)) (own w h a (e, g) t))

  -- the write of a group
  pub write_of : (p w : ℕ) (o : Op R) → Member ops groups p o (suc w) →
      (a : Op R) × Member ops groups w a (suc w) × (is_write a.kind ≡ true) × OfOneRecord Same o a
  write_of p w o m =
      let h = (has p (suc w) o m).1 in
      let s : OfOneRecord Same h.0 h.0 = joined Same known.alike h.0 o h.0 (turned Same known.alike o h.0 h.3) h.3 in
      (h.0, write_has w h.0 h.1 h.2 s, h.2, h.3)

  -- a member is finished, or the write of its group
  pub finished_or : (p g : ℕ) (o : Op R) → Member ops groups p o g → IsSome o.ends ⊎ (is_write o.kind ≡ true)
  finished_or p g o m = elim (cases_Bool (is_some o.ends)) [
    | inl t ↦ inl t
    | inr f ↦ inr (subst (λ z. (z || is_write o.kind) ≡ true) f (has p g o m).0)
  ]

  pub not_itself : (p : ℕ) (o : Op R) → slice_get ops p ≡ Some o → Precedes o o → ⊥
  not_itself p o e pre =
      let x = some_and_of (λ end. end < o.starts) o.ends pre in
      let l : o.starts ≤ x.0 = known.forwards p x.0 o e x.1 in
      let y : x.0 < o.starts = x.2 in
      omega arith

  -- ---- reasons
  pub is_unwritten : (p : ℕ) (o : Op R) → slice_get ops p ≡ Some o → IsSome o.ends → slice_get groups p ≡ Some None →
      IsUnwritten Same opening ops p
  is_unwritten p o e h g =
      let c : counts o ≡ true = subst (λ z. (z || is_write o.kind) ≡ true) (sym h) refl in
      let n = are.each p o None e g c in
      record { op = o; at = e; finished = h; opened = n.0; written = n.1 }

  pub is_early : (p w : ℕ) (o a : Op R) → Member ops groups p o (suc w) → slice_get ops w ≡ Some a → Precedes o a → IsEarly Same ops p w
  is_early p w o a m e pre =
      let x = write_of p w o m in
      let s : x.0 ≡ a = same_Some x.0 a (sym x.1.0 ∙ e) in
      let t : is_write a.kind ≡ true = ap (λ (z : Op R). is_write z.kind) (sym s) ∙ x.2 in
      let P : Op R → Type 0 = λ z. OfOneRecord Same o z in
      record {
        op = o;
        source = a;
        at = m.0;
        source_at = e;
        answers = elim (cases_Bool (is_write o.kind)) [
          | inr f ↦ f
          | inl wrote ↦
              let same_place : suc w ≡ suc p = own p (suc w) o m wrote in
              let q : w ≡ p = omega arith in
              let same_op : o ≡ a = same_Some o a (sym m.0 ∙ ap (slice_get ops) (sym q) ∙ e) in
              let Q : Op R → Type 0 = λ z. Precedes o z in
              absurd (not_itself p o m.0 (subst Q (sym same_op) pre))
        ];
        writes = t;
        one = subst P s x.3;
        precedes = pre;
      }

  pub is_stale : (p q w : ℕ) (o b : Op R) → Member ops groups p o 0 → Member ops groups q b (suc w) → Precedes b o →
      IsStale Same opening ops q p
  is_stale p q w o b m n pre = record {
    other = b;
    op = o;
    other_at = n.0;
    at = m.0;
    finished = elim (finished_or p 0 o m) [ inl h ↦ h | inr t ↦ absurd (known.fresh p o m.0 t (has p 0 o m).1) ];
    opened = (has p 0 o m).1;
    another = λ h. let z : suc w ≡ 0 = of_opening_group q (suc w) b n h in omega arith;
    precedes = pre;
  }

  pub is_crossed : (a b c d v w : ℕ) (oa ob oc od : Op R) → suc v ≢ suc w → Member ops groups a oa (suc v) →
      Member ops groups b ob (suc w) →
      Member ops groups c oc (suc w) → Member ops groups d od (suc v) → Precedes oa ob → Precedes oc od → IsCrossed Same opening ops a b c d
  is_crossed a b c d v w oa ob oc od ne ma mb mc md ab cd = record {
    op_a = oa;
    op_b = ob;
    op_c = oc;
    op_d = od;
    at_a = ma.0;
    at_b = mb.0;
    at_c = mc.0;
    at_d = md.0;
    counts_b = (has b (suc w) ob mb).0;
    counts_d = (has d (suc v) od md).0;
    first = ab;
    second = cd;
    one = alike a d (suc v) oa od ma md;
    other = alike b c (suc w) ob oc mb mc;
    apart = λ one. ne (apart a b (suc v) (suc w) oa ob ma mb one);
    one_opened = λ h. let z : suc v ≡ 0 = of_opening_group a (suc v) oa ma h in omega arith;
    other_opened = λ h. let z : suc w ≡ 0 = of_opening_group b (suc w) ob mb h in omega arith;
  }

  -- ---- and where there is none
  finished_by : (a b : Op R) → Precedes a b → IsSome a.ends
  finished_by a b pre = let x = some_and_of (λ end. end < b.starts) a.ends pre in some_from a.ends x.0 x.1

  unwritten_by : (g : ℕ) (o : Op R) → HasGroup Same opening ops g o → (IsOfOpening Same opening o → ⊥) →
      ((w : ℕ) (a : Op R) → slice_get ops w ≡ Some a → is_write a.kind ≡ true → OfOneRecord Same o a → ⊥) → ⊥
  unwritten_by zero o h n m = n h
  unwritten_by (suc w) o h n m = m w h.0 h.1 h.2 h.3

  module _ (all : AllHaveGroups ops groups) where
    pub none_unwritten : (read : ℕ) → IsUnwritten Same opening ops read → ⊥
    none_unwritten read r =
        let g = all read r.op r.at r.finished in
        unwritten_by g.0 r.op (has read g.0 r.op (r.at, g.1)).1 r.opened r.written

    pub none_early : ((p w : ℕ) (o a : Op R) → Member ops groups p o (suc w) → slice_get ops w ≡ Some a → Precedes o a → ⊥) →
        (read write : ℕ) → IsEarly Same ops read write → ⊥
    none_early none read write r =
        let g = all read r.op r.at (finished_by r.op r.source r.precedes) in
        let m : Member ops groups read r.op g.0 = (r.at, g.1) in
        let s : OfOneRecord Same r.source r.source = joined Same known.alike r.source r.op r.source
        (turned Same known.alike r.op r.source r.one)
        r.one in
        let n = write_has write r.source r.source_at r.writes s in
        let e : g.0 ≡ suc write = apart read write g.0 (suc write) r.op r.source m n r.one in
        let P : ℕ → Type 0 = λ z. Member ops groups read r.op z in
        none read write r.op r.source (subst P e m) r.source_at r.precedes

    pub none_stale : ((p q w : ℕ) (o b : Op R) → Member ops groups p o 0 → Member ops groups q b (suc w) → Precedes b o → ⊥) →
        (before read : ℕ) → IsStale Same opening ops before read → ⊥
    none_stale none before read r =
        let g = all read r.op r.at r.finished in
        let h = all before r.other r.other_at (finished_by r.other r.op r.precedes) in
        let e : g.0 ≡ 0 = of_opening_group read g.0 r.op (r.at, g.1) r.opened in
        let P : ℕ → Type 0 = λ z. Member ops groups read r.op z in
        other h.0 (r.other_at, h.1) (subst P e (r.at, g.1))
      where
        other : (h : ℕ) → Member ops groups before r.other h → Member ops groups read r.op 0 → ⊥
        other zero n m = r.another (has before 0 r.other n).1
        other (suc w) n m = none read before w r.op r.other m n r.precedes
