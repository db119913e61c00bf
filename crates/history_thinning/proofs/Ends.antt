-- What a search of the kept operations answers is true of the whole log.
use Rattle.std.proofs.Common.{◌≡◌, ℕ, ◌<◌, ◌≤◌, Bool, true, List, length, get_or, slice_get, Some, arith}
use Rattle.std.proofs.Common.{refl, sym, ◌∙◌, ap, subst, IsTrue}
use Rattle.std.specs.Prelude.{IsSomeAnd, nat_eq}
use Rattle.std.proofs.Math.Bool.{Bool-set}
use Rattle.std.proofs.Math.Nat.{ℕ_set}
use Rattle.std.proofs.lemmas.Bool.Decides.{nat_tests}
use Rattle.history_core.specs.declared.history.Op.{Op}
use Rattle.history_core.specs.declared.history.Term.{Term}
use Rattle.history_core.specs.declared.history.Verdict.TheVariants.{Lawful as LawfulOrder}
use Rattle.history_core.specs.Orders.{is_write, IsVerdict}
use Rattle.history_core.proofs.Listed.{some_and_of}
use Rattle.history_core.specs.Reasons.{IsOfOpening, IsReason, rule_of}
use Rattle.history_core.specs.Searches.{IsAnswered, IsFault, IsUnlawful}
use Rattle.history_core.specs.declared.reason.Reason.{Reason}
use Rattle.history_core.specs.declared.reason.Reason.TheVariants.{Unwritten, Early, Stale, Crossed, Limit}
use Rattle.history_core.specs.declared.reason.Search.{Search}
use Rattle.history_core.specs.declared.reason.Search.TheVariants.{Order, Unlawful as NoOrder}
use Rattle.history_core.specs.declared.reason.SearchError.{SearchError}
use Rattle.history_core.specs.declared.reason.SearchError.TheVariants.{NoMemory, Terms, Backwards, WritesOpening, WritesTwice}
use Rattle.history_core.proofs.Atomic.{IsSearched, turned}
use Rattle.history_thinning.specs.Answers.{IsLawfulBy, NamesKept}
use Rattle.history_thinning.specs.Thinnings.{Equal, IsThinned, IsThinnedLog, one_term}
use Rattle.history_core.specs.declared.thinned.Thinned.{Thinned}
use Rattle.history_thinning.specs.inner.Mapped.{AreWritePlaces, found_or, place_in, reason_in}
use Rattle.history_thinning.proofs.Reasons.{alike, kept_known, place_of, rule_least, searched, write_kept}
use Rattle.history_thinning.proofs.Restricting.{keep, limit_of, restricted_lawful}
use Rattle.history_thinning.proofs.Whole.{lawful_whole, may_whole}
use Rattle.history_thinning.proofs.Expanding.{whole}
use std.Univalence.{h_prop_ext}

abbrev pub AreTested : ℕ → ℕ → Type 0
AreTested x y = IsTrue (nat_eq x y)

same_from_test : (x y : ℕ) → AreTested x y → x ≡ y
same_from_test x y same = grind (arith, nat_tests)

test_from_same : (x y : ℕ) → x ≡ y → AreTested x y
test_from_same x y same = grind (arith, nat_tests)

true_is_a_prop : (b : Bool) → IsProp (IsTrue b)
true_is_a_prop b = Bool-set b true

-- numbers that a test finds the same are the same
pub tested_are_equal : AreTested ≡ Equal
tested_are_equal = λ i x y. h_prop_ext (true_is_a_prop _) (ℕ_set x y) (same_from_test x y) (test_from_same x y) i

pub equally_answered : (opening : ℕ) (terms : List Term) (ops : List (Op ℕ)) (search : Search) →
    IsAnswered AreTested opening terms ops search → IsAnswered Equal opening terms ops search
equally_answered opening terms ops search tested =
    let P : (ℕ → ℕ → Type 0) → Type 0 = λ Same. IsAnswered Same opening terms ops search in
    subst P tested_are_equal tested

module _ (log kept : List (Op ℕ)) (places : List ℕ) (thin : IsThinned Equal log kept places) (known : IsSearched Equal 0 log) where
  index_of : (i : ℕ) (o : Op ℕ) → slice_get kept i ≡ Some o → slice_get places i ≡ Some (place_in places i)
  index_of i o e =
      let w = place_of log kept places thin known i o e in
      w.1 ∙ ap Some (sym (ap (λ z. found_or z i) w.1))

  at_place : (i : ℕ) (o : Op ℕ) → slice_get kept i ≡ Some o → slice_get log (place_in places i) ≡ Some o
  at_place i o e = thin.are i (place_in places i) o (index_of i o e) e

  reason_whole : (limit : ℕ) (reason : Reason) → IsReason Equal 0 limit kept reason → IsReason Equal 0 limit log (reason_in places reason)
  reason_whole limit (Unwritten read) r = record {
    op = r.op;
    at = at_place read r.op r.at;
    finished = r.finished;
    opened = r.opened;
    written = λ w a e t one.
        let x = write_kept log kept places thin known w a e t in
        r.written x.0 a x.2 t one;
  }
  reason_whole limit (Early read write) r = record {
    op = r.op;
    source = r.source;
    at = at_place read r.op r.at;
    source_at = at_place write r.source r.source_at;
    answers = r.answers;
    writes = r.writes;
    one = r.one;
    precedes = r.precedes;
  }
  reason_whole limit (Stale earlier read) r = record {
    other = r.other;
    op = r.op;
    other_at = at_place earlier r.other r.other_at;
    at = at_place read r.op r.at;
    finished = r.finished;
    opened = r.opened;
    another = r.another;
    precedes = r.precedes;
  }
  reason_whole limit (Crossed a b c d) r = record {
    op_a = r.op_a;
    op_b = r.op_b;
    op_c = r.op_c;
    op_d = r.op_d;
    at_a = at_place a r.op_a r.at_a;
    at_b = at_place b r.op_b r.at_b;
    at_c = at_place c r.op_c r.at_c;
    at_d = at_place d r.op_d r.at_d;
    counts_b = r.counts_b;
    counts_d = r.counts_d;
    first = r.first;
    second = r.second;
    one = r.one;
    other = r.other;
    apart = r.apart;
    one_opened = r.one_opened;
    other_opened = r.other_opened;
  }
  reason_whole limit (Limit refused) r =
      let place = place_in places refused in
      let index = index_of refused r.op r.at in
      let m = r.may in
      limit_of log kept places thin known limit refused place index r
      (may_whole log kept places thin known m.order m.atomic limit refused place m.entry r.op index r.at r.finished r.refused m.listed
      m.few)

  names_kept : (limit : ℕ) (reason : Reason) → IsReason Equal 0 limit kept reason → NamesKept places (reason_in places reason)
  names_kept limit (Unwritten read) r = (read, index_of read r.op r.at)
  names_kept limit (Early read write) r = ((read, index_of read r.op r.at), (write, index_of write r.source r.source_at))
  names_kept limit (Stale earlier read) r = ((earlier, index_of earlier r.other r.other_at), (read, index_of read r.op r.at))
  names_kept limit (Crossed a b c d) r = (
    (a, index_of a r.op_a r.at_a),
    (b, index_of b r.op_b r.at_b),
    (c, index_of c r.op_c r.at_c),
    (d, index_of d r.op_d r.at_d),
  )
  names_kept limit (Limit refused) r = (refused, index_of refused r.op r.at)

  same_rule : (reason : Reason) → rule_of (reason_in places reason) ≡ rule_of reason
  same_rule (Unwritten read) = refl
  same_rule (Early read write) = refl
  same_rule (Stale earlier read) = refl
  same_rule (Crossed a b c d) = refl
  same_rule (Limit refused) = refl

  unlawful_whole : (limit : ℕ) (reason : Reason) → IsUnlawful Equal 0 limit (one_term limit) kept reason →
      IsUnlawful Equal 0 limit (one_term limit) log (reason_in places reason)
  unlawful_whole limit reason u = record {
    none = λ order lawful.
        u.none (keep places order) (restricted_lawful log kept places thin known order lawful.0 limit lawful);
    is = reason_whole limit reason u.is;
    first = λ other is.
        let l = rule_least log kept places thin known limit reason u.first other is in
        let e = same_rule reason in
        omega arith;
  }

limit_is : (limit least : ℕ) (terms : List Term) → terms ≡ one_term limit → terms ≡ one_term least → least ≡ limit
limit_is limit least terms e f =
    let first : List Term → ℕ = λ z. (get_or z 0 (record { first = 0; limit = 0 })).limit in
    sym (ap first f) ∙ ap first e

module _ (limit : ℕ) (log : List (Op ℕ)) (thinned : Thinned) (thin : IsThinnedLog limit log thinned) where
  known_log : IsSearched Equal 0 log
  known_log = searched log thin.forwards thin.once

  pub lawful_answer : (order : List ℕ) → IsAnswered Equal thinned.history.opening thinned.history.terms thinned.history.ops (Order
      order) →
      (writes : List ℕ) → AreWritePlaces thinned.history.ops thinned.places order (length order) writes →
      (whole_order : List ℕ) × IsLawfulBy limit log writes whole_order
  lawful_answer order a writes are =
      let Q : ℕ → List Term → Type 0 = λ o t. IsVerdict Equal o t thinned.history.ops order LawfulOrder in
      let lawful : Q 0 (one_term limit) =
      subst (λ o. Q o (one_term limit)) thin.opening (subst (λ t. Q thinned.history.opening t) thin.term a.answer) in (
        whole log thinned.history.ops thinned.places thin.kept known_log order lawful.0,
        lawful_whole log thinned.history.ops thinned.places thin.kept known_log order lawful.0 limit lawful writes are,
      )

  pub unlawful_answer : (reason : Reason) →
      IsAnswered Equal thinned.history.opening thinned.history.terms thinned.history.ops (NoOrder reason) → (told : Reason) →
      told ≡ reason_in thinned.places reason → IsUnlawful Equal 0 limit (one_term limit) log told × NamesKept thinned.places told
  unlawful_answer reason a told e =
      let Q : ℕ → ℕ → List Term → Type 0 = λ o l t. IsUnlawful Equal o l t thinned.history.ops reason in
      let l : a.limit ≡ limit = limit_is limit a.limit thinned.history.terms thin.term a.one_term in
      let u : Q 0 limit (one_term limit) =
      subst (λ o. Q o limit (one_term limit)) thin.opening (subst (λ n. Q thinned.history.opening n (one_term limit)) l
      (subst (λ t. Q thinned.history.opening a.limit t) thin.term a.answer)) in
      subst (λ r. IsUnlawful Equal 0 limit (one_term limit) log r × NamesKept thinned.places r) (sym e) (
        unlawful_whole log thinned.history.ops thinned.places thin.kept known_log limit reason u,
        names_kept log thinned.history.ops thinned.places thin.kept known_log limit reason u.is,
      )

  known_kept : IsSearched Equal 0 thinned.history.ops
  known_kept = kept_known log thinned.history.ops thinned.places thin.kept known_log

  only_memory : (error : SearchError) → IsFault Equal 0 (one_term limit) thinned.history.ops error → error ≡ NoMemory
  only_memory NoMemory f = refl
  only_memory Terms f = absurd (f limit refl)
  only_memory (Backwards place) f =
      let o = some_and_of (λ (a : Op ℕ). IsSomeAnd a.ends (λ end. end < a.starts)) (slice_get thinned.history.ops place) f.0 in
      let end = some_and_of (λ end. end < o.0.starts) o.0.ends o.2 in
      let l : end.0 < o.0.starts = end.2 in
      let k : o.0.starts ≤ end.0 = known_kept.forwards place end.0 o.0 o.1 end.1 in
      absurd (omega arith)
  only_memory (WritesOpening place) f =
      let o = some_and_of (λ (a : Op ℕ). (is_write a.kind ≡ true) × IsOfOpening Equal 0 a) (slice_get thinned.history.ops place) f.0 in
      absurd (known_kept.fresh place o.0 o.1 o.2.0 o.2.1)
  only_memory (WritesTwice first second) f =
      let t = f.0 in
      let s : first ≡ second = known_kept.once first second t.earlier t.later t.first_at t.second_at t.first_writes t.second_writes
      (turned Equal alike t.later t.earlier t.one) in
      let l : first < second = t.less in
      absurd (omega arith)

  pub error_answer : (error : SearchError) →
      IsFault AreTested thinned.history.opening thinned.history.terms thinned.history.ops error → error ≡ NoMemory
  error_answer error tested =
      let P : (ℕ → ℕ → Type 0) → Type 0 = λ Same. IsFault Same thinned.history.opening thinned.history.terms thinned.history.ops error in
      let f = subst P tested_are_equal tested in
      let Q : ℕ → List Term → Type 0 = λ o t. IsFault Equal o t thinned.history.ops error in
      only_memory error (subst (λ o. Q o (one_term limit)) thin.opening (subst (λ t. Q thinned.history.opening t) thin.term f))

  -- the same, as the calls give it
  pub lawful_end : (search : Search) (order : List ℕ) →
      IsAnswered Equal thinned.history.opening thinned.history.terms thinned.history.ops search → search ≡ Order order →
      (ops : List (Op ℕ)) (places listed writes out : List ℕ) → ops ≡ thinned.history.ops → places ≡ thinned.places → listed ≡ order →
      AreWritePlaces ops places listed (length listed) writes → out ≡ writes → (whole_order : List ℕ) × IsLawfulBy limit log out whole_order
  lawful_end search order tested es ops places listed writes out eo ep el are e =
      let P : List (Op ℕ) → List ℕ → List ℕ → Type 0 = λ o p l. AreWritePlaces o p l (length l) writes in
      let Q : List ℕ → Type 0 = λ w. (whole_order : List ℕ) × IsLawfulBy limit log w whole_order in
      let S : Search → Type 0 = λ z. IsAnswered Equal thinned.history.opening thinned.history.terms thinned.history.ops z in
      subst Q (sym e) (lawful_answer order (subst S es tested) writes (subst (λ o. P o thinned.places order) eo
      (subst (λ p. P ops p order) ep (subst (λ l. P ops places l) el are))))

  pub unlawful_end : (search : Search) (reason : Reason) →
      IsAnswered Equal thinned.history.opening thinned.history.terms thinned.history.ops search → search ≡ NoOrder reason →
      (places : List ℕ) (told : Reason) → places ≡ thinned.places → told ≡ reason_in places reason →
      IsUnlawful Equal 0 limit (one_term limit) log told × NamesKept thinned.places told
  unlawful_end search reason tested es places told ep e =
      let S : Search → Type 0 = λ z. IsAnswered Equal thinned.history.opening thinned.history.terms thinned.history.ops z in
      unlawful_answer reason (subst S es tested) told (e ∙ ap (λ z. reason_in z reason) ep)
