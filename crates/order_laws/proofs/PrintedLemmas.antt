-- The small log of an unlawful one, whose records are told by lines, is unlawful by the same rule.
use Rattle.std.proofs.Common.{◌≡◌, ℕ, ◌<◌, ◌≤◌, List, ◌⊎◌, inl, inr, refl, sym, subst, arith}
use Rattle.std.proofs.lemmas.Bool.{cases_lt}
use Rattle.history_core.proofs.Atomic.{IsSearched, no_crossing, no_early, no_stale, no_unwritten}
use Rattle.history_core.specs.Orders.{IsVerdict}
use Rattle.history_core.specs.Reasons.{IsReason, IsUnwritten, rule_of}
use Rattle.history_core.specs.Searches.{IsUnlawful}
use Rattle.history_core.specs.declared.history.Op.{Op}
use Rattle.history_core.specs.declared.history.Verdict.TheVariants.{Lawful}
use Rattle.history_core.specs.declared.reason.Reason.{Reason}
use Rattle.history_core.specs.declared.reason.Reason.TheVariants.{Unwritten, Early, Stale, Crossed, Limit}
use Rattle.history_core.specs.declared.thinned.Thinned.{Thinned}
use Rattle.history_thinning.specs.Answers.{NamesKept}
use Rattle.history_thinning.specs.Thinnings.{Equal, IsThinnedLog, one_term}
use Rattle.small_log.specs.Small.{small_ops, told_ops}
use Rattle.order_laws.proofs.LoneLemmas.{lone_limited, no_lawful}
use Rattle.order_laws.proofs.SmallLemmas.{by_same_rule, lone_small, reason_of_log, small_known, unwritten_of_log}
use Rattle.order_laws.proofs.ToldLemmas.{AreLines, lone_on, reason_back, reason_on, told_known, unwritten_on}

at_least_1 : (reason : Reason) → 1 ≤ rule_of reason
at_least_1 (Unwritten read) = omega arith
at_least_1 (Early read write) = omega arith
at_least_1 (Stale before read) = omega arith
at_least_1 (Crossed a b c d) = omega arith
at_least_1 (Limit refused) = omega arith

at_most_5 : (reason : Reason) → rule_of reason ≤ 5
at_most_5 (Unwritten read) = omega arith
at_most_5 (Early read write) = omega arith
at_most_5 (Stale before read) = omega arith
at_most_5 (Crossed a b c d) = omega arith
at_most_5 (Limit refused) = omega arith

less_or_limit : (reason : Reason) → (rule_of reason < 5) ⊎ ((refused : ℕ) × (reason ≡ Limit refused))
less_or_limit (Unwritten read) = inl (omega arith)
less_or_limit (Early read write) = inl (omega arith)
less_or_limit (Stale before read) = inl (omega arith)
less_or_limit (Crossed a b c d) = inl (omega arith)
less_or_limit (Limit refused) = inr (refused, refl)

-- of a limit: the refused write stands alone but for the write of its record
limit_told : (limit : ℕ) (log : List (Op ℕ)) (thinned : Thinned) → IsThinnedLog limit log thinned → (refused : ℕ) (lines : List ℕ) →
    AreLines lines (small_ops thinned (Limit refused)) → NamesKept thinned.places (Limit refused) →
    IsReason Equal 0 limit log (Limit refused) → (again : Reason) × (rule_of again ≡ 5)
    × IsReason Equal 0 limit (told_ops lines (small_ops thinned (Limit refused))) again
limit_told limit log thinned is refused lines are kept r =
    let small = small_ops thinned (Limit refused) in
    let lone = lone_small limit log thinned is refused r kept in
    let known = told_known lines small are (small_known limit log thinned is (Limit refused)) in (
      Limit lone.0,
      refl,
      lone_limited limit (told_ops lines small) lone.0 known (lone_on lines small are limit lone.0 lone.1),
    )

module _ (limit : ℕ) (log : List (Op ℕ)) (thinned : Thinned) (is : IsThinnedLog limit log thinned) (reason : Reason) (lines : List ℕ)
    (are : AreLines lines (small_ops thinned reason)) (kept : NamesKept thinned.places reason) where
  abbrev pub told : List (Op ℕ)
  told = told_ops lines (small_ops thinned reason)

  known : IsSearched Equal 0 told
  known = told_known lines (small_ops thinned reason) are (small_known limit log thinned is reason)

  -- a reason of it
  reason_told : IsReason Equal 0 limit log reason →
      ((again : Reason) × (rule_of again ≡ rule_of reason) × IsReason Equal 0 limit told again)
      ⊎ ((p : ℕ) × IsUnwritten Equal 0 (small_ops thinned reason) p)
  reason_told r = elim (less_or_limit reason) [
    | inl less ↦
        let again = by_same_rule limit log thinned is reason r kept less in
        let e : rule_of again.0 ≡ rule_of reason = again.1 in
        elim (reason_on lines (small_ops thinned reason) are limit again.0 again.2 (omega (arith, e, less))) [
          | inl r ↦ inl (again.0, e, r)
          | inr unwritten ↦ inr unwritten
        ]
    | inr x ↦ inl (subst AgainTold (sym x.1) (limit_told limit log thinned is x.0 lines) are kept r)
  ]
    where
      AgainTold : Reason → Type 0
      AgainTold z = AreLines lines (small_ops thinned z) → NamesKept thinned.places z → IsReason Equal 0 limit log z →
          (again : Reason) × (rule_of again ≡ rule_of z) × IsReason Equal 0 limit (told_ops lines (small_ops thinned z)) again

  -- no order of it is lawful
  pub none_lawful : IsReason Equal 0 limit log reason → (order : List ℕ) → ¬ IsVerdict Equal 0 (one_term limit) told order Lawful
  none_lawful r order verdict = elim (reason_told r) [
    | inl again ↦ excluded again.0 again.2
    | inr unwritten ↦ no_unwritten Equal 0 told order known verdict.0 unwritten.0
        (unwritten_on lines (small_ops thinned reason) are unwritten.0 unwritten.1)
  ]
    where
      excluded : (other : Reason) → IsReason Equal 0 limit told other → ⊥
      excluded (Unwritten a) h = no_unwritten Equal 0 told order known verdict.0 a h
      excluded (Early a b) h = no_early Equal 0 told order known verdict.0 a b h
      excluded (Stale a b) h = no_stale Equal 0 told order known verdict.0 a b h
      excluded (Crossed a b c d) h = no_crossing Equal 0 told order known verdict.0 a b c d h
      excluded (Limit a) h = no_lawful limit told known a h order verdict

  -- it has no reason of an earlier rule, where the log has none
  first_told : ((other : Reason) → IsReason Equal 0 limit log other → rule_of reason ≤ rule_of other) →
      (other : Reason) → IsReason Equal 0 limit told other → rule_of reason ≤ rule_of other
  first_told first other r = elim (cases_lt (rule_of other) 5) [
    | inr ge ↦ let le = at_most_5 reason in omega (arith, ge)
    | inl below ↦ elim (reason_back lines (small_ops thinned reason) are limit other r below) [
      | inl back ↦
          let w = reason_of_log limit log thinned is reason other back below in
          let e : rule_of w.0 ≡ rule_of other = w.1 in
          let le : rule_of reason ≤ rule_of w.0 = first w.0 w.2 in
          omega (arith, e, le)
      | inr unwritten ↦
          let w = unwritten_of_log limit log thinned is reason unwritten.0 unwritten.1 in
          let le : rule_of reason ≤ 1 = first (Unwritten w.0) w.1 in
          let ge : 1 ≤ rule_of other = at_least_1 other in
          omega (arith, le, ge)
    ]
  ]

  -- it is unlawful by the same rule
  pub unlawful_told : IsUnlawful Equal 0 limit (one_term limit) log reason →
      (again : Reason) × (rule_of again ≡ rule_of reason) × IsUnlawful Equal 0 limit (one_term limit) told again
  unlawful_told unlawful = elim (reason_told unlawful.is) [
    | inl again ↦ as_told again.0 again.1 again.2
    | inr unwritten ↦
        let v = unwritten_of_log limit log thinned is reason unwritten.0 unwritten.1 in
        let le : rule_of reason ≤ 1 = unlawful.first (Unwritten v.0) v.1 in
        let ge : 1 ≤ rule_of reason = at_least_1 reason in
        as_told (Unwritten unwritten.0) (let e : 1 ≡ rule_of reason = omega (arith, le, ge) in e)
        (unwritten_on lines (small_ops thinned reason) are unwritten.0 unwritten.1)
  ]
    where
      as_told : (again : Reason) → rule_of again ≡ rule_of reason → IsReason Equal 0 limit told again →
          (again : Reason) × (rule_of again ≡ rule_of reason) × IsUnlawful Equal 0 limit (one_term limit) told again
      as_told again e r = (
        again,
        e,
        record {
          none = none_lawful unlawful.is;
          is = r;
          first = λ other h. let le : rule_of reason ≤ rule_of other = first_told unlawful.first other h in omega (arith, e, le);
        },
      )
