-- What the search of the rule found breaks it, since the verdict says that the rule is broken.
use Rattle.std.proofs.Common.{rules, subst, IsTrue}
use Rattle.history_core.specs.Orders.{IsVerdict}
use Rattle.history_core.specs.declared.history.Verdict.{Verdict}
use Rattle.history_explain.proofs.Verdicts.{listing_found, reading_found}
use Rattle.history_explain.proofs.breaks.breaking.Goals as goal

pub returns-in-Listing : goal.returns-in-Listing
returns-in-Listing g c =
    let P : Verdict → Type 0 =
    λ v. IsVerdict (λ x y. IsTrue (g.R.PartialEq.eq x y)) c.args.opening c.args.terms.now c.args.ops.now c.args.order.now v in
    let h = listing_found (λ x y. IsTrue (g.R.PartialEq.eq x y)) c.args.opening c.args.terms.now c.args.ops.now c.args.order.now _
    (subst P c.in-Listing.is c.requires) c.listing_break.ensures in
    record { rule = h.0; first = h.1 }

pub returns-in-Reading : goal.returns-in-Reading
returns-in-Reading g c =
    let P : Verdict → Type 0 =
    λ v. IsVerdict (λ x y. IsTrue (g.R.PartialEq.eq x y)) c.args.opening c.args.terms.now c.args.ops.now c.args.order.now v in
    let h = reading_found (λ x y. IsTrue (g.R.PartialEq.eq x y)) c.args.opening c.args.terms.now c.args.ops.now c.args.order.now _
    (subst P c.in-Reading.is c.requires) c.reading_break.ensures.none c.reading_break.ensures.some in
    record { rule = h.0; first = h.1 }

pub returns-in_ok-entry-in-Limit-clause-rule : goal.returns-in_ok-entry-in-Limit-clause-rule
returns-in_ok-entry-in-Limit-clause-rule g c = search rules

pub returns-in_ok-entry-in-Limit-clause-first : goal.returns-in_ok-entry-in-Limit-clause-first
returns-in_ok-entry-in-Limit-clause-first g c = search rules
