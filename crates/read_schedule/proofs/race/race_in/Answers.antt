-- The race can be run, as its limit, scripts and opening passed their ranges and laws.
use Rattle.std.proofs.Common.{rules, ◌≡◌, ◌∙◌, ap, sym, subst, true}
use Rattle.history_core.specs.Band.{fits}
use Rattle.history_fields.specs.Fields.{limit_in_range}
use Rattle.read_schedule.specs.Plans.{plans_fit, plans_in_range}
use Rattle.read_schedule.specs.Players.{CanRace}
use Rattle.read_schedule.specs.Race.{race_in}
use Rattle.read_schedule.proofs.Accepted.{can_race, must_holds}
use Rattle.read_schedule.proofs.race.race_in.Goals as goal

pub returns-clause-playable : goal.returns-clause-playable
returns-clause-playable c =
    let limit_passed : c.limit_in_range.result ≡ true = must_holds _ _ _ (sym c.must.ensures ∙ c.in_ok-must.was) in
    let plans_passed : c.plans_in_range.result ≡ true = must_holds _ _ _ (sym c.must-2.ensures ∙ c.in_ok-must-2.was) in
    let opening_passed : c.fits.result ≡ true = must_holds _ _ _ (sym c.must-3.ensures ∙ c.in_ok-must-3.was) in
    let writes_passed : c.plans_fit.result ≡ true = must_holds _ _ _ (sym c.must-4.ensures ∙ c.in_ok-must-4.was) in
    let limit_ok : limit_in_range c.in_ok-limit.limit ≡ true = sym c.limit_in_range.ensures ∙ limit_passed in
    let plans_ok : plans_in_range c.in_ok-scripts.scripts.items ≡ true =
    ap plans_in_range (sym c.as_slice.ensures.value) ∙ sym c.plans_in_range.ensures ∙ plans_passed in
    let opening_ok : fits c.in_ok-opening.opening ≡ true = sym c.fits.ensures ∙ opening_passed in
    let writes_ok : plans_fit c.in_ok-scripts.scripts.items ≡ true =
    ap plans_fit (sym c.as_slice-2.ensures.value) ∙ sym c.plans_fit.ensures ∙ writes_passed in
    subst (CanRace c.in_ok-opening.opening c.in_ok-limit.limit) (sym c.new.ensures)
    (can_race c.in_ok-opening.opening c.in_ok-limit.limit c.in_ok-scripts.scripts.items limit_ok plans_ok opening_ok writes_ok)

pub returns-clause-document : goal.returns-clause-document
unfolding race_in
returns-clause-document c = search rules

pub returns-in_err-must-4-clause-document : goal.returns-in_err-must-4-clause-document
unfolding race_in
returns-in_err-must-4-clause-document c = search rules
