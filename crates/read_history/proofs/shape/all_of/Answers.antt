-- Each value passed had the shape and was added behind those before it, or was the first that hadn't.
use Rattle.std.proofs.Common.{◌≡◌, ◌∙◌, ℕ, refl, sym}
use Rattle.std.specs.Prelude.{slice_get, Some}
use Rattle.std.proofs.lemmas.Option.{slice_get_read}
use Rattle.serde_json.specs.View.{view}
use Rattle.read_history.proofs.ListLemmas.{all_read, one_read, one_refused, with_nothing}
use Rattle.read_history.proofs.shape.all_of.Goals as goal

pub loop-item-init : goal.loop-item-init
loop-item-init g c = with_nothing c.in_ok-found.found.items _ c.in_ok-found.ensures.items

pub loop-item-preserved : goal.loop-item-preserved
loop-item-preserved g c =
    let i : ℕ = c.loop-item.item-index in
    let at : slice_get c.args.values.now i ≡ Some c.item-item.result =
    slice_get_read c.args.values.now _ i c.item-item.result refl c.loop-item-test.true c.item-item.is in
    one_read g.T.Shape.shape view c.loop-item.found.items c.adds.new.found.items c.args.values.now i c.item-item.result
    c.in_ok-adds.field-0 at c.in_ok-adds.ensures c.if-not-branch.false
    ∙ c.loop-item.invariant

pub returns : goal.returns
returns g c =
    sym (all_read g.T.Shape.shape view c.loop-item.found.items c.args.values.now c.loop-item.item-index c.loop-item-test.false)
    ∙ c.loop-item.invariant

pub returns-then-not-branch : goal.returns-then-not-branch
returns-then-not-branch g c =
    let i : ℕ = c.loop-item.item-index in
    let at : slice_get c.args.values.now i ≡ Some c.item-item.result =
    slice_get_read c.args.values.now _ i c.item-item.result refl c.loop-item-test.true c.item-item.is in
    sym (one_refused g.T.Shape.shape view c.loop-item.found.items c.adds.new.found.items c.args.values.now i c.item-item.result
    c.in_ok-adds.field-0 at c.in_ok-adds.ensures c.if-not-branch.true)
    ∙ c.loop-item.invariant
