-- Each term is tested, and the sum is that of the steps so far.
use Rattle.std.proofs.Common.{◌≡◌, ◌≢◌, ◌<◌, ◌≤◌, ◌+◌, ℕ, refl, arith, ap, sym, ◌∙◌, ⊎_elim, length, take}
use Rattle.std.specs.Prelude.{slice_get, Some}
use Rattle.std.proofs.lemmas.List.{take_all}
use Rattle.std.proofs.lemmas.Bool.Decides.{nat_tests}
use Rattle.std.proofs.lemmas.Option.{same_Some, slice_get_read, slice_get_within}
use Rattle.matrix_core.specs.Runs.{IsTerm, step_count}
use Rattle.matrix_core.specs.declared.overruns.Cells.TheVariants.{Atomic}
use Rattle.matrix_core.proofs.lists.Elements.{same_or_not}
use Rattle.matrix_core.proofs.terms.Overruns.{count_next}
use Rattle.test_matrices.proofs.rows.can_play.Goals as goal

pub loop-term-preserved : goal.loop-term-preserved
loop-term-preserved c =
    let i : ℕ = c.loop-term.term-index in
    let at : slice_get c.args.terms.now i ≡ Some c.term-item.result =
    slice_get_read c.args.terms.now _ i _ refl c.loop-term-test.true c.term-item.is in
    let next : step_count (take (i + 1) c.args.terms.now) ≡ step_count (take i c.args.terms.now) + length c.term-item.result.steps =
    count_next Atomic c.args.terms.now i c.term-item.result at in
    let before : c.loop-term.steps ≡ step_count (take i c.args.terms.now) = c.loop-term.invariant.steps in
    record {
      steps =
          let sum : c.in-Some.sum ≡ c.loop-term.steps + length c.as_slice.result.now = c.in-Some.ensures.1 in
          let long : length c.as_slice.result.now ≡ length c.term-item.result.steps = ap length c.as_slice.ensures in
          omega arith;
      each = λ k term l h. ⊎_elim
          (λ (e : k ≡ i).
          let same : term ≡ c.term-item.result = same_Some term c.term-item.result (sym h ∙ (ap (slice_get c.args.terms.now) e ∙ at)) in
          let t : IsTerm c.term-item.result = c.if-not-is_term.ensures refl in
          rw same t)
          (λ (ne : k ≢ i). c.loop-term.invariant.each k term (omega arith) h) (same_or_not k i);
    }

pub returns-then-steps-lt18446744073709551615 : goal.returns-then-steps-lt18446744073709551615
returns-then-steps-lt18446744073709551615 c = λ some.
    let done : length c.args.terms.now ≤ c.loop-term.term-index = c.loop-term-test.false in
    record {
      some = grind (arith, nat_tests);
      each = λ k term h.
          let l : k < length c.args.terms.now = slice_get_within c.args.terms.now k term h in
          c.loop-term.invariant.each k term (omega arith) h;
      steps =
          let e : c.loop-term.steps ≡ step_count c.args.terms.now =
          c.loop-term.invariant.steps ∙ ap step_count (take_all c.loop-term.term-index c.args.terms.now done) in
          let l = c.if-steps-lt18446744073709551615.true in
          omega arith;
    }
