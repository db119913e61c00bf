-- What reasons and faults say: each operation is there, and equality of records is what `OfOneRecord` and `IsOfOpening` say.
use Rattle.std.proofs.Common.{◌≡◌, ◌≢◌, ℕ, ◌+◌, ◌<◌, ◌≤◌, zero, suc, true, List, [], ◌∷◌, slice_get, Option, None, Some, IsSomeAnd, IfSome}
use Rattle.std.proofs.Common.{refl, sym, ◌∙◌, ap, subst, arith}
use Rattle.std.proofs.lemmas.Option.{same_Some}
use Rattle.history_core.specs.declared.history.Op.{Op}
use Rattle.history_core.specs.Orders.{is_write, Precedes}
use Rattle.history_core.specs.Reasons.{IsOfOpening, OfOneRecord}
use Rattle.history_core.specs.Searches.{AreForwards, IsOpeningWrite, WritesOnce}
use Rattle.theorem_uses.specs.Reasons.{AnsweredHistoriesShow, CrossedShows, EarlyShows, FaultsShow, LimitedShows, RunForwardsBelow}
use Rattle.theorem_uses.specs.Reasons.{StaleShows, UnwrittenShows, WriteOnceBelow}

there : {A : Type 0} {P : A → Type 0} (o : Option A) → IsSomeAnd o P → (x : A) × (o ≡ Some x) × P x
there None h = absurd h
there (Some x) h = (x, refl, h)

one_of : {A : Type 0} (a b : Option A) → IsSomeAnd a (λ x. IsSomeAnd b (λ y. x ≡ y)) → (x : A) × (a ≡ Some x) × (b ≡ Some x)
one_of None b h = absurd h
one_of (Some x) None h = absurd h
one_of (Some x) (Some y) h = (x, refl, ap Some (sym h))

both : {A : Type 0} (a b : Option A) (x : A) → a ≡ Some x → b ≡ Some x → IsSomeAnd a (λ x. IsSomeAnd b (λ y. x ≡ y))
both a b x e f =
    subst (λ z. IsSomeAnd z (λ x. IsSomeAnd b (λ y. x ≡ y))) (sym e) (subst (λ z. IsSomeAnd z (λ y. x ≡ y)) (sym f) refl)

is_it : {A : Type 0} (o : Option A) (x : A) → IsSomeAnd o (λ z. z ≡ x) → o ≡ Some x
is_it None x h = absurd h
is_it (Some y) x h = ap Some h

it_is : {A : Type 0} (o : Option A) (x : A) → o ≡ Some x → IsSomeAnd o (λ z. z ≡ x)
it_is o x e = subst (λ z. IsSomeAnd z (λ z. z ≡ x)) (sym e) refl

until : (o : Option ℕ) (from end : ℕ) → o ≡ Some end → IfSome o (λ end. from ≤ end) → from ≤ end
until o from end e h = subst (λ z. IfSome z (λ end. from ≤ end)) e h

module _ {R : Type 0} where
  pub before : (a b : Op R) → Precedes a b → (end : ℕ) × (a.ends ≡ Some end) × (end < b.starts)
  before a b h = there a.ends h

  pub unwritten : UnwrittenShows R
  unwritten opening limit ops read h = (
    h.op,
    h.at,
    h.finished,
    λ e. h.opened (it_is h.op.item opening e),
    λ w a x at k e same. h.written w a at k (both h.op.item a.item x same e),
  )

  pub early : EarlyShows R
  early opening limit ops read write h =
      (h.op, h.source, h.at, h.source_at, h.answers, h.writes, one_of h.op.item h.source.item h.one, before h.op h.source h.precedes)

  pub stale : StaleShows R
  stale opening limit ops earlier read h = (
    h.other,
    h.op,
    h.other_at,
    h.at,
    h.finished,
    is_it h.op.item opening h.opened,
    λ e. h.another (it_is h.other.item opening e),
    before h.other h.op h.precedes,
  )

  pub crossed : CrossedShows R
  crossed opening limit ops a b c d h =
      let one = one_of h.op_a.item h.op_d.item h.one in
      let other = one_of h.op_b.item h.op_c.item h.other in (
        h.op_a,
        h.op_b,
        h.op_c,
        h.op_d,
        one.0,
        other.0,
        h.at_a,
        h.at_b,
        h.at_c,
        h.at_d,
        h.counts_b,
        h.counts_d,
        before h.op_a h.op_b h.first,
        before h.op_c h.op_d h.second,
        one.1,
        one.2,
        other.1,
        other.2,
        λ e. h.apart (both h.op_a.item h.op_b.item one.0 one.1 (other.1 ∙ ap Some (sym e))),
        λ e. h.one_opened (it_is h.op_a.item opening (one.1 ∙ ap Some e)),
        λ e. h.other_opened (it_is h.op_b.item opening (other.1 ∙ ap Some e)),
      )

  pub limited : LimitedShows R
  limited opening limit ops place h = (
    h.op,
    h.at,
    h.finished,
    h.refused,
    λ order i atomic at. let f = h.few order atomic i at in (f.early, f.place, f.op, f.up_to, f.listed, f.at, f.refused, f.few),
    (h.may.order, h.may.entry, h.may.atomic, h.may.listed, h.may.few),
  )

  opens : (opening : R) (ops : List (Op R)) (p : ℕ) (a : Op R) → slice_get ops p ≡ Some a → is_write a.kind ≡ true →
      a.item ≡ Some opening → IsOpeningWrite (λ x y. x ≡ y) opening ops p
  opens opening ops p a at k e =
      subst (λ z. IsSomeAnd z (λ o. (is_write o.kind ≡ true) × IsOfOpening (λ x y. x ≡ y) opening o)) (sym at) (k, it_is a.item opening e)

  once_below : (opening : R) (ops : List (Op R)) (n : ℕ) → WritesOnce (λ x y. x ≡ y) opening ops n → WriteOnceBelow R opening ops n
  once_below opening ops n h p q a b x less inside at_a at_b k l e = (
    λ is. h.fresh p (omega (arith, less, inside)) (opens opening ops p a at_a k (e ∙ ap Some is)),
    λ same. h.once p q inside record {
      earlier = a;
      later = b;
      first_at = at_a;
      second_at = at_b;
      first_writes = k;
      second_writes = l;
      one = both b.item a.item x same e;
      less = less;
    },
  )

  forwards_below : (ops : List (Op R)) (n : ℕ) → AreForwards ops n → RunForwardsBelow R ops n
  forwards_below ops n h p end a inside at e = until a.ends a.starts end e (h p a inside at)

  pub answered : AnsweredHistoriesShow R
  answered opening terms ops search p q a b x h at_a at_b e = (
    (h.limit, h.one_term),
    λ end f. forwards_below ops (p + 1) (h.forwards (p + 1)) p end a (omega arith) at_a f,
    λ k is. (h.once (p + 1)).fresh p (omega arith) (opens opening ops p a at_a k (e ∙ ap Some is)),
    λ k l less. (once_below opening ops (q + 1) (h.once (q + 1)) p q a b x less (omega arith) at_a at_b k l e).1,
  )

  pub faults : FaultsShow R
  faults opening terms ops place second = (
    λ h. h,
    λ h. let op = there (slice_get ops place) h.0 in
        let end = there op.0.ends op.2 in (op.0, end.0, op.1, end.1, end.2, forwards_below ops place h.1),
    λ h. let op = there (slice_get ops place) h.0 in
        (op.0, op.1, op.2.0, is_it op.0.item opening op.2.1, once_below opening ops place h.1, λ n. forwards_below ops n (h.2 n)),
    λ h. let one = one_of h.0.later.item h.0.earlier.item h.0.one in (
      h.0.earlier,
      h.0.later,
      one.0,
      h.0.less,
      h.0.first_at,
      h.0.second_at,
      h.0.first_writes,
      h.0.second_writes,
      one.2,
      one.1,
      once_below opening ops second h.1,
      λ n. forwards_below ops n (h.2 n),
    ),
  )
