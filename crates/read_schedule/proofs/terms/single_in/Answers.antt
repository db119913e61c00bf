-- The schedule can be played, as its limit, plans and steps passed their ranges.
use Rattle.std.proofs.Common.{◌≡◌, ◌∙◌, ap, length, sym, subst, true}
use Rattle.matrix_core.specs.Runs.{CanPlay}
use Rattle.read_schedule.specs.Plans.{are_of, plans_in_range}
use Rattle.history_fields.specs.Fields.{limit_in_range}
use Rattle.read_schedule.proofs.Accepted.{must_holds, single_can_play}
use Rattle.read_schedule.proofs.terms.single_in.Goals as goal

pub returns-clause-playable : goal.returns-clause-playable
returns-clause-playable c =
    let limit_passed : c.limit_in_range.result ≡ true = must_holds _ _ _ (sym c.must.ensures ∙ c.in_ok-must.was) in
    let plans_passed : c.plans_in_range.result ≡ true = must_holds _ _ _ (sym c.must-2.ensures ∙ c.in_ok-must-2.was) in
    let steps_passed : c.are_of.result ≡ true = must_holds _ _ _ (sym c.must-3.ensures ∙ c.in_ok-must-3.was) in
    let limit_ok : limit_in_range c.in_ok-limit.limit ≡ true = (cc) in
    let plans_ok : plans_in_range c.in_ok-plans.plans.items ≡ true = (cc) in
    let processes : c.len.result ≡ length c.in_ok-plans.plans.items = c.len.ensures ∙ c.in_ok-plans.plans.ok.0 in
    let steps_ok : are_of (length c.in_ok-plans.plans.items) c.in_ok-steps.steps.items ≡ true =
    ap (λ n. are_of n c.in_ok-steps.steps.items) (sym processes) ∙ ap (are_of c.len.result) (sym c.as_slice-2.ensures.value)
    ∙ sym c.are_of.ensures ∙ steps_passed in
    let can = single_can_play c.in_ok-limit.limit c.in_ok-plans.plans.items c.in_ok-steps.steps.items limit_ok plans_ok steps_ok in
    subst CanPlay (sym c.in_ok-terms.ensures) (rw (c.new.ensures, c.new-2.ensures) can)
