-- Each value passed was a term.
use Rattle.std.proofs.Common.{◌≡◌, ◌∙◌, ℕ, refl, sym}
use Rattle.std.specs.Prelude.{slice_get, Some}
use Rattle.std.proofs.lemmas.Option.{slice_get_read}
use Rattle.serde_json.specs.View.{view}
use Rattle.read_schedule.specs.Shapes.{as_term}
use Rattle.read_history.proofs.ListLemmas.{with_nothing}
use Rattle.read_schedule.proofs.Reading.{all_read_seen, one_more_seen, one_refused_seen}
use Rattle.read_schedule.proofs.terms.all_terms.Goals as goal

pub loop-item-init : goal.loop-item-init
loop-item-init c = with_nothing c.in_ok-found.found.items _ c.in_ok-found.ensures.items

pub loop-item-preserved : goal.loop-item-preserved
loop-item-preserved c =
    let i : ℕ = c.loop-item.item-index in
    let at : slice_get c.args.values.now i ≡ Some c.item-item.result =
    slice_get_read c.args.values.now _ i c.item-item.result refl c.loop-item-test.true c.item-item.is in
    one_more_seen as_term view c.loop-item.found.items c.push.new.self.items c.args.values.now i c.item-item.result c.in-Some.term
    c.in_ok-push.ensures.items at (sym c.in_ok-term.ensures ∙ c.in-Some.is)
    ∙ c.loop-item.invariant

pub returns : goal.returns
returns c =
    sym (all_read_seen as_term view c.loop-item.found.items c.args.values.now c.loop-item.item-index c.loop-item-test.false)
    ∙ c.loop-item.invariant

pub returns-in_default : goal.returns-in_default
returns-in_default c =
    let i : ℕ = c.loop-item.item-index in
    let at : slice_get c.args.values.now i ≡ Some c.item-item.result =
    slice_get_read c.args.values.now _ i c.item-item.result refl c.loop-item-test.true c.item-item.is in
    sym (one_refused_seen as_term view c.loop-item.found.items c.args.values.now i c.item-item.result at
    (sym c.in_ok-term.ensures ∙ c.in_default.is))
    ∙ c.loop-item.invariant
