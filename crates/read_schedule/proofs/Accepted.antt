-- An accepted schedule meets the condition of its player, since each part of that condition is a range that is tested.
use Rattle.std.proofs.Common.{◌≡◌, ℕ, ◌+◌, List, [], ◌∷◌, length, refl, ap, sym, ◌∙◌, arith, Bool, true, false}
use Rattle.std.proofs.Common.{rules, get_or, ◌&&◌, Some, Ok, sum_by, subst, suc, zero, nat_lt, slice_get}
use Rattle.std.proofs.lemmas.Bool.{leb-true, ltb-true}
use Rattle.std.proofs.lemmas.List.Sums.{sum_by-cons}
use Rattle.std.specs.List.{list_all}
use Rattle.std.specs.Prelude.{⊤, IsTrue}
use Rattle.std.proofs.lemmas.Option.{slice_get-get_or}
use Rattle.history_core.specs.Band.{fits}
use Rattle.history_core.specs.declared.band.Band.{Band}
use Rattle.history_core.specs.declared.wish.Wish.{Wish}
use Rattle.matrix_core.specs.Runs.{CanPlay, IsTerm, step_count}
use Rattle.matrix_core.specs.declared.schedule.MatrixTerm.{MatrixTerm}
use Rattle.read_schedule.specs.Players.{CanRace}
use Rattle.read_schedule.specs.Terms.{single}
use Rattle.read_schedule.specs.Plans.{are_of, members, plan_fits, plans_fit, plans_in_range, wish_fits, term_in_range, terms_in_range}
use Rattle.history_fields.specs.Fields.{limit_in_range}
use Rattle.read_document.specs.Refusals.{must}
use Rattle.read_document.specs.declared.refusal.DocError.{DocError}

-- ---- tests that hold

pub left_holds : (a b : Bool) → (a && b) ≡ true → a ≡ true
left_holds true b h = refl
left_holds false b h = h

pub right_holds : (a b : Bool) → (a && b) ≡ true → b ≡ true
right_holds true b h = h
right_holds false b h = (cc)

-- a test that holds of all holds of each
pub each_holds : {X : Type 0} (test : X → Bool) (xs : List X) (k : ℕ) (x : X)
    → list_all test xs ≡ true → slice_get xs k ≡ Some x → test x ≡ true
each_holds test [] k x all there = (cc)
each_holds test (y ∷ ys) zero x all there = let same : y ≡ x = (cc) in ap test (sym same) ∙ left_holds (test y) (list_all test ys) all
each_holds test (y ∷ ys) (suc k) x all there = each_holds test ys k x (right_holds (test y) (list_all test ys) all) there

-- ---- terms

pub is_term : (limit : ℕ) (plans : List (List (Wish Band))) (steps : List ℕ)
    → limit_in_range limit ≡ true → plans_in_range plans ≡ true → are_of (length plans) steps ≡ true
    → IsTerm (record { limit = limit; plans = plans; steps = steps })
is_term limit plans steps limit_ok plans_ok steps_ok = record {
  at_least = leb-true 2 (length plans) (left_holds _ _ (left_holds _ _ plans_ok));
  at_most = leb-true (length plans) 16 (right_holds _ _ (left_holds _ _ plans_ok));
  limit_least = leb-true 1 limit (left_holds _ _ limit_ok);
  limit_most = leb-true limit 18446744073709551614 (right_holds _ _ limit_ok);
  steps = λ step who there.
      ltb-true who (length plans) (each_holds (λ s. nat_lt s (length plans)) steps step who (right_holds _ _ steps_ok) there);
}

pub term_is_term : (term : MatrixTerm Band) → term_in_range term ≡ true → IsTerm term
term_is_term term ok =
    is_term term.limit term.plans term.steps (left_holds _ _ (left_holds _ _ ok)) (right_holds _ _ (left_holds _ _ ok)) (right_holds _ _ ok)

pub step_count_is_sum : (terms : List (MatrixTerm Band)) → step_count terms ≡ sum_by (λ term. length term.steps) terms
step_count_is_sum [] = refl
step_count_is_sum (term ∷ terms) =
    ap (λ n. length term.steps + n) (step_count_is_sum terms) ∙ sym (sum_by-cons (λ t. length t.steps) term terms)

pub terms_can_play : (terms : List (MatrixTerm Band)) → terms_in_range terms ≡ true → CanPlay terms
terms_can_play terms ok = record {
  some = leb-true 1 (length terms) (left_holds _ _ (left_holds _ _ (left_holds _ _ (left_holds _ _ ok))));
  each = λ k term there.
      term_is_term term (each_holds term_in_range terms k term (right_holds _ _ (left_holds _ _ (left_holds _ _ ok))) there);
  steps = omega (arith, leb-true (sum_by (λ term. length term.steps) terms) 100000 (right_holds _ _ ok), step_count_is_sum terms);
}

single_is_term : (only term : MatrixTerm Band) (k : ℕ) → IsTerm only → slice_get (only ∷ []) k ≡ Some term → IsTerm term
single_is_term only term zero is_term there = let same : only ≡ term = (cc) in subst IsTerm same is_term
single_is_term only term (suc k) is_term there = (cc)

pub single_can_play : (limit : ℕ) (plans : List (List (Wish Band))) (steps : List ℕ)
    → limit_in_range limit ≡ true → plans_in_range plans ≡ true → are_of (length plans) steps ≡ true
    → CanPlay (single limit plans steps)
single_can_play limit plans steps limit_ok plans_ok steps_ok = record {
  some = omega arith;
  each = λ k term there.
      single_is_term (record { limit = limit; plans = plans; steps = steps }) term k
      (is_term limit plans steps limit_ok plans_ok steps_ok) there;
  steps = omega (arith, leb-true (length steps) 100000 (left_holds _ _ steps_ok));
}

-- ---- races

is_true : (test : Bool) → test ≡ true → IsTrue test
is_true test h = search rules

pub can_race : (opening : Band) (limit : ℕ) (scripts : List (List (Wish Band)))
    → limit_in_range limit ≡ true → plans_in_range scripts ≡ true → fits opening ≡ true → plans_fit scripts ≡ true
    → CanRace opening limit scripts
can_race opening limit scripts limit_ok plans_ok opening_ok writes_ok = record {
  opens = is_true _ opening_ok;
  limit_least = leb-true 1 limit (left_holds _ _ limit_ok);
  limit_most = leb-true limit 18446744073709551614 (right_holds _ _ limit_ok);
  at_least = leb-true 2 (length scripts) (left_holds _ _ (left_holds _ _ plans_ok));
  at_most = leb-true (length scripts) 16 (right_holds _ _ (left_holds _ _ plans_ok));
  few = leb-true (members scripts) 10000 (right_holds _ _ plans_ok);
  writes = λ k d l m w lw.
      let script : List (Wish Band) = get_or scripts k d in
      is_true _ (each_holds wish_fits script m (get_or script m w)
      (each_holds plan_fits scripts k script writes_ok (slice_get-get_or scripts k d l)) (slice_get-get_or script m w lw));
}

-- ---- what passed a test

pub must_holds : (test : Bool) (fault : DocError) (x : ⊤) → must test fault ≡ Ok x → test ≡ true
must_holds true fault x h = refl
must_holds false fault x h = (cc)
