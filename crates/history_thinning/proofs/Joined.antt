-- What a group keeps with one more operation: what it kept stands for what it stood for, or the new operation does.
use Rattle.std.proofs.Common.{◌≡◌, ℕ, ◌<◌, ◌≤◌, Bool, true, false, List, [], ◌∷◌, ◌++◌, length, Option, None, Some, arith}
use Rattle.std.proofs.Common.{refl, sym, ◌∙◌, ap, subst, inl, inr}
use Rattle.std.specs.Prelude.{IsSome, is_some, IsSomeAnd, ◌||◌, nat_lt, if◌then◌else◌}
use Rattle.std.proofs.lemmas.Bool.{cases_Bool}
use Rattle.std.proofs.lemmas.Bool.Decides.{nat_tests}
use Rattle.std.proofs.lemmas.Option.{same_Some}
use Rattle.history_core.specs.declared.history.Op.{Op}
use Rattle.history_core.specs.declared.history.Kind.{Kind}
use Rattle.history_core.specs.declared.history.Kind.TheVariants.{Write, Read, Refused}
use Rattle.history_core.specs.Orders.{is_write}
use Rattle.history_core.proofs.Listed.{some_and_from, some_and_of}
use Rattle.history_core.proofs.Places.{get_last, get_stays}
use Rattle.history_core.specs.Reasons.{counts}
use Rattle.history_core.proofs.Atomic.{some_from}
use Rattle.history_thinning.specs.declared.group.Placed.{Placed}
use Rattle.history_thinning.specs.inner.Kept.{earlier_end, end_of, first_of, Group, IsGroup, IsPlaced, joined_group, later_begin}
use Rattle.history_thinning.specs.inner.Kept.{latest_refused, latest_write, StandsFor}

below : (a b : ℕ) → nat_lt a b ≡ true → a < b
below a b h = grind (arith, nat_tests)

not_below : (a b : ℕ) → nat_lt a b ≡ false → b ≤ a
not_below a b h = grind (arith, nat_tests)

write_kind : (kind : Kind) → is_write kind ≡ true → kind ≡ Write
write_kind Write h = refl
write_kind Read h = cc
write_kind Refused h = cc

end_is : (kept : Option Placed) (least : ℕ) → end_of kept ≡ Some least → (m : Placed) × (kept ≡ Some m) × (m.op.ends ≡ Some least)
end_is None least h = cc
end_is (Some m) least h = (m, refl, h)

refused_ends : (kind : Kind) (ends : Option ℕ) → kind ≡ Refused → (is_some ends || is_write kind) ≡ true → IsSome ends
refused_ends kind (Some end) r c = refl
refused_ends Write None r c = cc
refused_ends Read None r c = cc
refused_ends Refused None r c = cc

module _ (log : List (Op ℕ)) (op : Op ℕ) where
  abbrev placed : Placed
  placed = record { op = op; place = length log }

  pub placed_stays : (number : ℕ) (m : Placed) → IsPlaced log number m → IsPlaced (log ++ op ∷ []) number m
  placed_stays number m h = record { at = get_stays log m.op op m.place h.at; item = h.item; counted = h.counted }

  pub group_stays : (number : ℕ) (group : Group) → IsGroup log number group → IsGroup (log ++ op ∷ []) number group
  group_stays number group h = record {
    write = λ m e. let w = h.write m e in (placed_stays number m w.0, w.1);
    first = λ m e. let w = h.first m e in (placed_stays number m w.0, w.1);
    last = λ m e. placed_stays number m (h.last m e);
    refused = λ m e. let w = h.refused m e in (placed_stays number m w.0, w.1, w.2);
  }

  module _ (number : ℕ) (item : op.item ≡ Some number) (counted : counts op ≡ true) where
    new_placed : IsPlaced (log ++ op ∷ []) number placed
    new_placed = record { at = get_last log op (length log) refl; item = item; counted = counted }

    module _ (P : Placed → Type 0) (new : P placed) where
      pick : (kept : Option Placed) → ((m : Placed) → kept ≡ Some m → P m) → (b : Bool) (m : Placed) →
          (if b then Some placed else kept) ≡ Some m → P m
      pick kept old true m h = subst P (same_Some placed m h) new
      pick kept old false m h = old m h

      first_by : (kept : Option Placed) → ((m : Placed) → kept ≡ Some m → P m) → (least : Option ℕ) (end : ℕ) (m : Placed) →
          first_of kept placed least end ≡ Some m → P m
      first_by kept old None end m h = subst P (same_Some placed m h) new
      first_by kept old (Some least) end m h = pick kept old (nat_lt end least) m h

      last_is : (kept : Option Placed) → ((m : Placed) → kept ≡ Some m → P m) → (m : Placed) → later_begin kept placed ≡ Some m → P m
      last_is None old m h = subst P (same_Some placed m h) new
      last_is (Some x) old m h =
          elim (cases_Bool (nat_lt x.op.starts op.starts)) [
            | inl t ↦ subst P (same_Some placed m (sym (ap (λ b. if b then Some placed else Some x) t) ∙ h)) new
            | inr f ↦ old m (sym (ap (λ b. if b then Some placed else Some x) f) ∙ h)
          ]

    first_is : (kept : Option Placed) →
        ((m : Placed) → kept ≡ Some m → IsPlaced (log ++ op ∷ []) number m × IsSome m.op.ends) → (ends : Option ℕ) → op.ends ≡ ends →
        (m : Placed) → earlier_end kept placed ends ≡ Some m → IsPlaced (log ++ op ∷ []) number m × IsSome m.op.ends
    first_is kept old None e m h = old m h
    first_is kept old (Some end) e m h =
        let P : Placed → Type 0 = λ z. IsPlaced (log ++ op ∷ []) number z × IsSome z.op.ends in
        first_by P (new_placed, some_from op.ends end e) kept old (end_of kept) end m h

    write_is : (kept : Option Placed) →
        ((m : Placed) → kept ≡ Some m → IsPlaced (log ++ op ∷ []) number m × (is_write m.op.kind ≡ true)) → (kind : Kind) →
        op.kind ≡ kind → (m : Placed) → latest_write kept placed kind ≡ Some m →
        IsPlaced (log ++ op ∷ []) number m × (is_write m.op.kind ≡ true)
    write_is kept old Write e m h =
        let P : Placed → Type 0 = λ z. IsPlaced (log ++ op ∷ []) number z × (is_write z.op.kind ≡ true) in
        subst P (same_Some placed m h) (new_placed, ap is_write e)
    write_is kept old Read e m h = old m h
    write_is kept old Refused e m h = old m h

    refused_is : (kept : Option Placed) →
        ((m : Placed) → kept ≡ Some m → IsPlaced (log ++ op ∷ []) number m × IsSome m.op.ends × (m.op.kind ≡ Refused)) →
        (kind : Kind) → op.kind ≡ kind → (m : Placed) → latest_refused kept placed kind ≡ Some m →
        IsPlaced (log ++ op ∷ []) number m × IsSome m.op.ends × (m.op.kind ≡ Refused)
    refused_is kept old Write e m h = old m h
    refused_is kept old Read e m h = old m h
    refused_is kept old Refused e m h =
        let P : Placed → Type 0 = λ z. IsPlaced (log ++ op ∷ []) number z × IsSome z.op.ends × (z.op.kind ≡ Refused) in
        subst P (same_Some placed m h) (new_placed, refused_ends op.kind op.ends e counted, e)

    -- the group with the new operation is of the longer log
    pub joined_is : (group : Group) → IsGroup log number group → IsGroup (log ++ op ∷ []) number (joined_group group placed)
    joined_is group old =
        let h = group_stays number group old in
        record {
          write = write_is group.write h.write op.kind refl;
          first = first_is group.first h.first op.ends refl;
          last = last_is (λ z. IsPlaced (log ++ op ∷ []) number z) new_placed group.last h.last;
          refused = refused_is group.refused h.refused op.kind refl;
        }

  -- ends no later than this
  abbrev Within : ℕ → Placed → Type 0
  Within end m = IsSomeAnd m.op.ends (λ least. least ≤ end)

  first_old : (kept : Option Placed) (m : Placed) (end : ℕ) → kept ≡ Some m → Within end m → (ends : Option ℕ) → op.ends ≡ ends →
      (x : Placed) × (earlier_end kept placed ends ≡ Some x) × Within end x
  first_old kept m end k w None e = (m, k, w)
  first_old kept m end k w (Some new) e =
      let l = some_and_of (λ least. least ≤ end) m.op.ends w in
      let le : l.0 ≤ end = l.2 in
      let known : end_of kept ≡ Some l.0 = ap end_of k ∙ l.1 in
      let P : Option ℕ → Type 0 = λ z. (x : Placed) × (first_of kept placed z new ≡ Some x) × Within end x in
      subst P (sym known) (elim (cases_Bool (nat_lt new l.0)) [
        | inl t ↦ (
          placed,
          ap (λ b. if b then Some placed else kept) t,
          some_and_from (λ least. least ≤ end) op.ends new e (let a = below new l.0 t in omega arith),
        )
        | inr f ↦ (m, ap (λ b. if b then Some placed else kept) f ∙ k, w)
      ])

  first_new : (kept : Option Placed) (end : ℕ) → op.ends ≡ Some end → (least : Option ℕ) → end_of kept ≡ least →
      (x : Placed) × (first_of kept placed least end ≡ Some x) × Within end x
  first_new kept end e None k = (placed, refl, some_and_from (λ least. least ≤ end) op.ends end e (omega arith))
  first_new kept end e (Some least) k = elim (cases_Bool (nat_lt end least)) [
    | inl t ↦ (
      placed,
      ap (λ b. if b then Some placed else kept) t,
      some_and_from (λ z. z ≤ end) op.ends end e (omega arith),
    )
    | inr f ↦
        let m = end_is kept least k in (
          m.0,
          ap (λ b. if b then Some placed else kept) f ∙ m.1,
          some_and_from (λ z. z ≤ end) m.0.op.ends least m.2 (not_below end least f),
        )
  ]

  last_old : (kept : Option Placed) (m : Placed) (starts : ℕ) → kept ≡ Some m → starts ≤ m.op.starts →
      (x : Placed) × (later_begin kept placed ≡ Some x) × (starts ≤ x.op.starts)
  last_old None m starts k le = cc
  last_old (Some y) m starts k le =
      let s : y ≡ m = same_Some y m k in
      let up : starts ≤ y.op.starts = let P : Placed → Type 0 = λ z. starts ≤ z.op.starts in subst P (sym s) le in
      elim (cases_Bool (nat_lt y.op.starts op.starts)) [
        | inl t ↦ (placed, ap (λ b. if b then Some placed else Some y) t, let a = below y.op.starts op.starts t in omega arith)
        | inr f ↦ (y, ap (λ b. if b then Some placed else Some y) f, up)
      ]

  last_new : (kept : Option Placed) → (x : Placed) × (later_begin kept placed ≡ Some x) × (op.starts ≤ x.op.starts)
  last_new None = (placed, refl, omega arith)
  last_new (Some y) = elim (cases_Bool (nat_lt y.op.starts op.starts)) [
    | inl t ↦ (placed, ap (λ b. if b then Some placed else Some y) t, omega arith)
    | inr f ↦ (y, ap (λ b. if b then Some placed else Some y) f, not_below y.op.starts op.starts f)
  ]

  refused_old : (kept : Option Placed) (m : Placed) → kept ≡ Some m → (kind : Kind) →
      (x : Placed) × (latest_refused kept placed kind ≡ Some x)
  refused_old kept m k Write = (m, k)
  refused_old kept m k Read = (m, k)
  refused_old kept m k Refused = (placed, refl)

  write_old : (kept : Option Placed) (m : Placed) → kept ≡ Some m → (kind : Kind) → (is_write kind ≡ true → kept ≡ None) →
      latest_write kept placed kind ≡ Some m
  write_old kept m k Write none = let e : kept ≡ None = none refl in cc
  write_old kept m k Read none = k
  write_old kept m k Refused none = k

  -- what stood for an operation, or the new one, stands for it still
  pub stands_still : (group : Group) (p : ℕ) (o : Op ℕ) → (is_write op.kind ≡ true → group.write ≡ None) → StandsFor group p o →
      StandsFor (joined_group group placed) p o
  stands_still group p o none h = record {
    write = λ t. let w = h.write t in (w.0, write_old group.write w.0 w.1 op.kind none, w.2);
    first = λ end e. let w = h.first end e in first_old group.first w.0 end w.1 w.2 op.ends refl;
    last = let w = h.last in last_old group.last w.0 o.starts w.1 w.2;
    refused = λ r. let w = h.refused r in refused_old group.refused w.0 w.1 op.kind;
  }

  -- and something stands for the new one
  pub stands_new : (group : Group) → StandsFor (joined_group group placed) (length log) op
  stands_new group = record {
    write = λ t. (placed, ap (latest_write group.write placed) (write_kind op.kind t), refl);
    first = λ end e.
        let P : Option ℕ → Type 0 = λ z. (x : Placed) × (earlier_end group.first placed z ≡ Some x) × Within end x in
        subst P (sym e) (first_new group.first end e (end_of group.first) refl);
    last = last_new group.last;
    refused = λ r. (placed, ap (latest_refused group.refused placed) r);
  }
