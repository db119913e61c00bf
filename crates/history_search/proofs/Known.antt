-- The map of written records: what it has is written, and each write so far is in it; so the group of an operation is found there.
use Rattle.std.proofs.Common.{◌≡◌, ℕ, suc, ◌+◌, ◌<◌, ◌≤◌, Bool, true, false, List, length, refl, sym, ◌∙◌, ap, subst, arith}
use Rattle.std.proofs.Common.{◌⊎◌, inl, inr, slice_get, Option, None, Some, cond}
use Rattle.std.specs.Prelude.{IfSome, IsTrue, if◌then◌else◌, map}
use Rattle.std.specs.Option.{option_map}
use Rattle.std.specs.Option.{option_and_then}
use Rattle.std.specs.BTreeMap.{BTreeMap, get, Updates}
use Rattle.std.specs.Cmp.{IsEquivalence, IsTotalOrder, tied_back}
use Rattle.std.specs.Bool.{Decides}
use Rattle.std.specs.declared.cmp.Ordering.{Ordering}
use Rattle.std.specs.declared.cmp.Ordering.TheVariants.{Less, Equal, Greater}
use Rattle.std.specs.Ordering.{is_eq}
use Rattle.std.proofs.lemmas.Bool.{cases_lt, cases_order, cases_Bool}
use Rattle.std.proofs.lemmas.Option.{slice_get_within, same_Some, slice_get-map}
use Rattle.std.proofs.lemmas.List.{length-map}
use Rattle.history_core.specs.declared.history.Op.{Op}
use Rattle.history_core.specs.Orders.{is_write}
use Rattle.history_core.proofs.Listed.{some_and_from, some_and_of}
use Rattle.history_core.specs.declared.reason.SearchError.{SearchError}
use Rattle.history_core.specs.declared.reason.SearchError.TheVariants.{NoMemory, Terms, Backwards, WritesOpening, WritesTwice}
use Rattle.history_core.specs.Reasons.{counts, IsOfOpening}
use Rattle.history_core.specs.Searches.{AreForwards, IsGroupFault, IsOpeningWrite, IsWrittenTwice, WritesOnce}
use Rattle.history_search.specs.inner.Groups.{AreGroups, group_in, HasGroup, IsGroupOf, IsWriteFault, KnowsWrites, written_by}
use Rattle.history_core.proofs.Atomic.{IsAlike, IsSearched, of_one, of_opening, shares, turned}

is_equal : (r : Ordering) → is_eq r ≡ true → r ≡ Equal
is_equal Less h = cc
is_equal Equal h = refl
is_equal Greater h = cc

below_or : (p n : ℕ) → p < n + 1 → (p < n) ⊎ (p ≡ n)
below_or p n l = elim (cases_lt p n) [ inl lt ↦ inl lt | inr le ↦ inr (omega arith) ]

written_is : {R : Type 0} (o : Op R) (x : R) → written_by o ≡ Some x → (is_write o.kind ≡ true) × (o.item ≡ Some x)
written_is {R} o x h = by (is_write o.kind) h
  where
    by : (b : Bool) → (if b then o.item else None) ≡ Some x → (b ≡ true) × (o.item ≡ Some x)
    by true e = (refl, e)
    by false e = cc

is_written : {R : Type 0} (o : Op R) (x : R) → is_write o.kind ≡ true → o.item ≡ Some x → written_by o ≡ Some x
is_written o x t e = ap (λ b. if b then o.item else None) t ∙ e

module _ {R : Type 0} (eq : R → R → Bool) (cmp : R → R → Ordering) (equal : IsEquivalence eq) (total : IsTotalOrder cmp)
    (matches : (x y : R) → eq x y ≡ is_eq (cmp x y)) where
  ties : (x y : R) → Decides (eq x y) (cmp x y ≡ Equal)
  ties x y = (λ t. is_equal (cmp x y) (sym (matches x y) ∙ t), λ e. matches x y ∙ ap is_eq e)

  abbrev pub Alike : R → R → Type 0
  Alike x y = IsTrue (eq x y)

  pub alike_by_eq : IsAlike Alike
  alike_by_eq = record {
    itself = equal.refl;
    turn = λ x y h. equal.symm y x ∙ h;
    join = λ x y z h k. equal.congr x y z h ∙ k;
  }

  module _ (opening : R) (ops : List (Op R)) where
    pub known_skip : (n : ℕ) (o : Op R) (m : BTreeMap R ℕ) → slice_get ops n ≡ Some o → written_by o ≡ None → KnowsWrites cmp ops n m →
        KnowsWrites cmp ops (n + 1) m
    known_skip n o m e none h = record {
      found = λ x g f. let w = h.found x g f in (w.0, w.1, w.2, w.3, let l = w.4 in omega arith, w.5, w.6, w.7, w.8);
      known = λ w a x y l f t i c. elim (below_or w n l) [
        | inl lt ↦ h.known w a x y lt f t i c
        | inr s ↦
            let q : a ≡ o = same_Some a o (sym f ∙ ap (slice_get ops) s ∙ e) in
            let z : Some y ≡ None = sym (is_written a y t i) ∙ ap (λ (u : Op R). written_by u) q ∙ none in
            cc
      ];
    }

    pub once_skip : (n : ℕ) (o : Op R) → slice_get ops n ≡ Some o → written_by o ≡ None → WritesOnce Alike opening ops n →
        WritesOnce Alike opening ops (n + 1)
    once_skip n o e none h = record {
      fresh = λ p l bad. elim (below_or p n l) [
        | inl lt ↦ h.fresh p lt bad
        | inr s ↦
            let x = some_and_of (λ (a : Op R). (is_write a.kind ≡ true) × IsOfOpening Alike opening a) (slice_get ops p) bad in
            let i = some_and_of (λ z. Alike z opening) x.0.item x.2.1 in
            let q : x.0 ≡ o = same_Some x.0 o (sym x.1 ∙ ap (slice_get ops) s ∙ e) in
            let z : Some i.0 ≡ None = sym (is_written x.0 i.0 x.2.0 i.1) ∙ ap (λ (u : Op R). written_by u) q ∙ none in
            cc
      ];
      once = λ p k l bad. elim (below_or k n l) [
        | inl lt ↦ h.once p k lt bad
        | inr s ↦
            let i = shares Alike bad.later bad.earlier bad.one in
            let q : bad.later ≡ o = same_Some bad.later o (sym bad.second_at ∙ ap (slice_get ops) s ∙ e) in
            let z : Some i.x ≡ None = sym (is_written bad.later i.x bad.second_writes i.has_x) ∙ ap (λ (u : Op R). written_by u) q ∙ none in
            cc
      ];
    }

    module _ (n : ℕ) (o : Op R) (x0 : R) (m : BTreeMap R ℕ) (e : slice_get ops n ≡ Some o) (w0 : written_by o ≡ Some x0)
        (h : KnowsWrites cmp ops n m) where
      pub known_more : (m2 : BTreeMap R ℕ) → get cmp m x0 ≡ None → Updates cmp m m2 x0 (Some (n + 1)) → KnowsWrites cmp ops (n + 1) m2
      known_more m2 none up = record {
        found = λ x g f. elim (cases_Bool (is_eq (cmp x0 x))) [
          | inl t ↦
              let s : n + 1 ≡ g = same_Some (n + 1) g (sym (up.0 x ∙ ap (λ b. cond b (Some (n + 1)) (get cmp m x)) t) ∙ f) in
              let k = written_is o x0 w0 in
              (n, o, x0, omega arith, omega arith, e, k.0, k.1, tied_back total x0 x (is_equal (cmp x0 x) t))
          | inr t ↦
              let w = h.found x g (sym (up.0 x ∙ ap (λ b. cond b (Some (n + 1)) (get cmp m x)) t) ∙ f) in
              (w.0, w.1, w.2, w.3, let l = w.4 in omega arith, w.5, w.6, w.7, w.8)
        ];
        known = λ w a x y l f t i c. elim (below_or w n l) [
          | inr s ↦
              let q : a ≡ o = same_Some a o (sym f ∙ ap (slice_get ops) s ∙ e) in
              let y0 : y ≡ x0 = same_Some y x0 (sym i ∙ ap (λ (z : Op R). z.item) q ∙ (written_is o x0 w0).1) in
              let b : cmp x0 x ≡ Equal = tied_back total x x0 (subst (λ z. cmp x z ≡ Equal) y0 c) in
              up.0 x ∙ ap (λ r. cond (is_eq r) (Some (n + 1)) (get cmp m x)) b ∙ ap Some (omega arith)
          | inl lt ↦ elim (cases_Bool (is_eq (cmp x0 x))) [
            | inr t2 ↦ up.0 x ∙ ap (λ b. cond b (Some (n + 1)) (get cmp m x)) t2 ∙ h.known w a x y lt f t i c
            | inl t2 ↦
                let b : cmp x0 y ≡ Equal = total.congr x0 x y (is_equal (cmp x0 x) t2) ∙ c in
                let z : None ≡ Some (suc w) = sym none ∙ h.known w a x0 y lt f t i b in
                cc
          ]
        ];
      }

      pub once_more : eq x0 opening ≡ false → get cmp m x0 ≡ None → WritesOnce Alike opening ops n → WritesOnce Alike opening ops (n + 1)
      once_more fresh none once = record {
        fresh = λ p l bad. elim (below_or p n l) [
          | inl lt ↦ once.fresh p lt bad
          | inr s ↦
              let x = some_and_of (λ (a : Op R). (is_write a.kind ≡ true) × IsOfOpening Alike opening a) (slice_get ops p) bad in
              let i = some_and_of (λ z. Alike z opening) x.0.item x.2.1 in
              let q : x.0 ≡ o = same_Some x.0 o (sym x.1 ∙ ap (slice_get ops) s ∙ e) in
              let y : i.0 ≡ x0 = same_Some i.0 x0 (sym i.1 ∙ ap (λ (z : Op R). z.item) q ∙ (written_is o x0 w0).1) in
              let t : eq x0 opening ≡ true = subst (λ z. eq z opening ≡ true) y i.2 in
              cc
        ];
        once = λ p k l bad. elim (below_or k n l) [
          | inl lt ↦ once.once p k lt bad
          | inr s ↦
              let i = shares Alike bad.later bad.earlier bad.one in
              let q : bad.later ≡ o = same_Some bad.later o (sym bad.second_at ∙ ap (slice_get ops) s ∙ e) in
              let y : i.x ≡ x0 = same_Some i.x x0 (sym i.has_x ∙ ap (λ (z : Op R). z.item) q ∙ (written_is o x0 w0).1) in
              let c : cmp x0 i.y ≡ Equal = (ties x0 i.y).0 (subst (λ z. eq z i.y ≡ true) y i.same) in
              let z : None ≡ Some (suc p) = sym none
              ∙ h.known p bad.earlier x0 i.y (let less = bad.less in omega arith) bad.first_at bad.first_writes i.has_y c in
              cc
        ];
      }

      pub write_fault : (error : SearchError) → IsWriteFault eq cmp opening m x0 n error → WritesOnce Alike opening ops n →
          IsGroupFault Alike opening ops error
      write_fault NoMemory f once = tt
      write_fault Terms f once = f
      write_fault (Backwards p) f once = f
      write_fault (WritesOpening p) f once =
          let k = written_is o x0 w0 in
          let P : ℕ → Type 0 = λ z. IsOpeningWrite Alike opening ops z × WritesOnce Alike opening ops z in
          subst P (sym f.0) (
            some_and_from (λ (a : Op R). (is_write a.kind ≡ true) × IsOfOpening Alike opening a) (slice_get ops n) o e
                (k.0, of_opening Alike opening o x0 k.1 f.1),
            once,
          )
      write_fault (WritesTwice first second) f once =
          let k = written_is o x0 w0 in
          let w = h.found x0 f.2 f.3 in
          let s : first ≡ w.0 = let a = f.4 in let b = w.3 in omega arith in
          let P : ℕ → ℕ → Type 0 = λ y z. IsWrittenTwice Alike ops y z × WritesOnce Alike opening ops z in
          subst (λ z. P first z) (sym f.0) (subst (λ y. P y n) (sym s) (
            record {
              earlier = w.1;
              later = o;
              first_at = w.5;
              second_at = e;
              first_writes = w.6;
              second_writes = k.0;
              one = of_one Alike o w.1 x0 w.2 k.1 w.7 ((ties x0 w.2).1 w.8);
              less = w.4;
            },
            once,
          ))

    pub once_all : (n : ℕ) → length ops ≤ n → WritesOnce Alike opening ops n → (k : ℕ) → WritesOnce Alike opening ops k
    once_all n le h k = record {
      fresh = λ p l bad.
          let x = some_and_of (λ (a : Op R). (is_write a.kind ≡ true) × IsOfOpening Alike opening a) (slice_get ops p) bad in
          h.fresh p (omega (arith, slice_get_within ops p x.0 x.1)) bad;
      once = λ p q l bad. h.once p q (omega (arith, slice_get_within ops q bad.later bad.second_at)) bad;
    }

    -- ---- groups
    module _ (m : BTreeMap R ℕ) (h : KnowsWrites cmp ops (length ops) m) where
      found_by : (o : Op R) (x : R) → counts o ≡ true → o.item ≡ Some x → eq x opening ≡ false → (found : Option ℕ) → get cmp m x ≡ found →
          IsGroupOf Alike opening ops o found
      found_by o x c i f None g = λ _. (
        λ bad.
            let y = some_and_of (λ z. Alike z opening) o.item bad in
            let s : y.0 ≡ x = same_Some y.0 x (sym y.1 ∙ i) in
            let t : eq x opening ≡ true = subst (λ z. eq z opening ≡ true) s y.2 in
            cc,
        λ w a e t one.
            let y = shares Alike o a one in
            let s : y.x ≡ x = same_Some y.x x (sym y.has_x ∙ i) in
            let q : cmp x y.y ≡ Equal = (ties x y.y).0 (subst (λ z. eq z y.y ≡ true) s y.same) in
            let z : None ≡ Some (suc w) = sym g ∙ h.known w a x y.y (slice_get_within ops w a e) e t y.has_y q in
            cc,
      )
      found_by o x c i f (Some g) e =
          let w = h.found x g e in
          let P : ℕ → Type 0 = λ z. HasGroup Alike opening ops z o in
          (c, subst P (sym w.3) (w.1, w.5, w.6, of_one Alike o w.1 x w.2 i w.7 ((ties x w.2).1 w.8)))

      pub group_right : (o : Op R) → IsGroupOf Alike opening ops o (group_in eq cmp opening m o)
      group_right o = by (counts o) refl o.item refl
        where
          by : (b : Bool) → counts o ≡ b → (item : Option R) → o.item ≡ item →
              IsGroupOf Alike opening ops o (if b then option_and_then (λ x. if eq x opening then Some 0 else get cmp m x) item else None)
          by false c item i = λ t. cc
          by true c None i = λ t. (
            λ bad. let y = some_and_of (λ z. Alike z opening) o.item bad in let z : Some y.0 ≡ None = sym y.1 ∙ i in cc,
            λ w a e u one. let y = shares Alike o a one in let z : Some y.x ≡ None = sym y.has_x ∙ i in cc,
          )
          by true c (Some x) i = elim (cases_Bool (eq x opening)) [
            | inl t ↦
                let P : Bool → Type 0 = λ b. IsGroupOf Alike opening ops o (if b then Some 0 else get cmp m x) in
                subst P (sym t) (c, of_opening Alike opening o x i t)
            | inr f ↦
                let P : Bool → Type 0 = λ b. IsGroupOf Alike opening ops o (if b then Some 0 else get cmp m x) in
                subst P (sym f) (found_by o x c i f (get cmp m x) refl)
          ]

      pub all_groups : (groups : List (Option ℕ)) → groups ≡ map (λ o. group_in eq cmp opening m o) ops → AreGroups Alike opening ops groups
      all_groups groups e = record {
        long = ap length e ∙ length-map ops (λ o. group_in eq cmp opening m o);
        each = λ p o found f g.
            let s : Some found ≡ Some (group_in eq cmp opening m o) =
            sym g ∙ ap (λ z. slice_get z p) e ∙ slice_get-map (λ o. group_in eq cmp opening m o) ops p
            ∙ ap (option_map (λ o. group_in eq cmp opening m o)) f in
            let P : Option ℕ → Type 0 = λ z. IsGroupOf Alike opening ops o z in
            subst P (sym (same_Some found (group_in eq cmp opening m o) s)) (group_right o);
      }

    -- a history whose operations run forwards and whose writes write once
    pub searched : ((n : ℕ) → AreForwards ops n) → ((n : ℕ) → WritesOnce Alike opening ops n) → IsSearched Alike opening ops
    searched forwards once = record {
      alike = alike_by_eq;
      forwards = λ p end o e en.
          let f = forwards (p + 1) p o (omega arith) e in
          let P : Option ℕ → Type 0 = λ z. IfSome z (λ x. o.starts ≤ x) in
          subst P en f;
      once = λ p q a b ea eb ta tb one. elim (cases_order p q) [
        | inl s ↦ s
        | inr (inl l) ↦ absurd ((once (q + 1)).once p q (omega arith) (record {
          earlier = a;
          later = b;
          first_at = ea;
          second_at = eb;
          first_writes = ta;
          second_writes = tb;
          one = turned Alike alike_by_eq a b one;
          less = l;
        }))
        | inr (inr l) ↦ absurd ((once (p + 1)).once q p (omega arith) (record {
          earlier = b;
          later = a;
          first_at = eb;
          second_at = ea;
          first_writes = tb;
          second_writes = ta;
          one = one;
          less = l;
        }))
      ];
      fresh = λ p a e t bad. (once (p + 1)).fresh p (omega arith)
          (some_and_from (λ (z : Op R). (is_write z.kind ≡ true) × IsOfOpening Alike opening z) (slice_get ops p) a e (t, bad));
    }
