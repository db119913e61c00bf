-- The schedule can be played, as its terms passed their range.
use Rattle.std.proofs.Common.{◌≡◌, ◌∙◌, sym, true}
use Rattle.read_schedule.specs.Plans.{terms_in_range}
use Rattle.read_schedule.proofs.Accepted.{must_holds, terms_can_play}
use Rattle.read_schedule.proofs.terms.several_in.Goals as goal

pub returns-clause-playable : goal.returns-clause-playable
returns-clause-playable c =
    let passed : c.terms_in_range.result ≡ true = must_holds _ _ _ (sym c.must.ensures ∙ c.in_ok-must.was) in
    let in_range : terms_in_range c.new.result ≡ true = (cc) in
    terms_can_play c.new.result in_range
