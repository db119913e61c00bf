-- One place more of those of a list.
use Rattle.std.proofs.Common.{◌∙◌, ◌++◌, ◌∷◌, [], ℕ, ap}
use Rattle.reason_sentences.specs.Beside.{place_at}
use Rattle.print_reasons.proofs.ListLemmas.{one_mapped}
use Rattle.print_reasons.proofs.text.places_of.Goals as goal

pub loop-one-preserved : goal.loop-one-preserved
loop-one-preserved c = one_mapped (place_at c.args.places.now) c.loop-one.found.items c.push.new.self.items c.args.kept.now
    c.loop-one.one-index 0 c.loop-one-test.true c.loop-one.invariant
    (c.in_ok-push.ensures.items ∙ ap (λ (p : ℕ). c.loop-one.found.items ++ (p ∷ [])) c.place_at.ensures)
