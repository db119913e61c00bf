-- Each rule was tested alone, so the first test that fails names the first broken rule.
use Rattle.std.specs.Prelude.{IsTrue}
use Rattle.history_core.specs.Orders.{IsVerdict}
use Rattle.history_core.specs.declared.history.Verdict.{Verdict}
use Rattle.history_core.specs.declared.history.Verdict.TheVariants.{Precedence, Reading}
use Rattle.history_check.proofs.check.verdict.Goals as goal
use Rattle.history_check.proofs.check.verdict.Goals.{then-not-lists_places-via-then-not-lists_places}
use Rattle.history_check.proofs.check.verdict.Goals.{then-not-lists_places-via-else-not-lists_places+then-not-stands}

pub returns-then-not-lists_places : goal.returns-then-not-lists_places
returns-then-not-lists_places g c = elim c.then-not-lists_places.branch [
  | then-not-lists_places-via-then-not-lists_places w ↦ λ h. let yes = c.lists_places.ensures.1 h.places in cc
  | then-not-lists_places-via-else-not-lists_places+then-not-stands w ↦ λ h. let yes = w.stands.ensures.1 h.stands in cc
]

pub returns-then-not-keeps_precedence : goal.returns-then-not-keeps_precedence
returns-then-not-keeps_precedence g c =
    let Tells : Verdict → Type 0 =
    λ v. IsVerdict (λ x y. IsTrue (g.R.PartialEq.eq x y)) c.args.opening c.args.terms.now c.args.ops.now c.args.order.now v in
    let told : Tells Precedence = (
      record { places = c.lists_places.ensures.0 c.if-not-lists_places.false; stands = c.stands.ensures.0 c.if-not-stands.false },
      λ h. let yes = c.keeps_precedence.ensures.1 h in cc,
    ) in
    told

pub returns-then-not-reads_latest : goal.returns-then-not-reads_latest
returns-then-not-reads_latest g c =
    let Tells : Verdict → Type 0 =
    λ v. IsVerdict (λ x y. IsTrue (g.R.PartialEq.eq x y)) c.args.opening c.args.terms.now c.args.ops.now c.args.order.now v in
    let told : Tells Reading = (
      record { places = c.lists_places.ensures.0 c.if-not-lists_places.false; stands = c.stands.ensures.0 c.if-not-stands.false },
      c.keeps_precedence.ensures.0 c.if-not-keeps_precedence.false,
      λ h. let yes = c.reads_latest.ensures.1 h in cc,
    ) in
    told

pub returns-then-not-refuses_lawfully : goal.returns-then-not-refuses_lawfully
returns-then-not-refuses_lawfully g c = (
  record {
    listing = record { places = c.lists_places.ensures.0 c.if-not-lists_places.false; stands = c.stands.ensures.0 c.if-not-stands.false };
    precedence = c.keeps_precedence.ensures.0 c.if-not-keeps_precedence.false;
    reading = c.reads_latest.ensures.0 c.if-not-reads_latest.false;
  },
  λ h. let yes = c.refuses_lawfully.ensures.1 h in cc,
)

pub returns : goal.returns
returns g c = (
  record {
    listing = record { places = c.lists_places.ensures.0 c.if-not-lists_places.false; stands = c.stands.ensures.0 c.if-not-stands.false };
    precedence = c.keeps_precedence.ensures.0 c.if-not-keeps_precedence.false;
    reading = c.reads_latest.ensures.0 c.if-not-reads_latest.false;
  },
  c.refuses_lawfully.ensures.0 c.if-not-refuses_lawfully.false,
)

pub stands-requires : goal.stands-requires
stands-requires g c = c.lists_places.ensures.0 c.if-not-lists_places.false

pub keeps_precedence-requires : goal.keeps_precedence-requires
keeps_precedence-requires g c = c.lists_places.ensures.0 c.if-not-lists_places.false

pub reads_latest-requires : goal.reads_latest-requires
reads_latest-requires g c = c.lists_places.ensures.0 c.if-not-lists_places.false

pub refuses_lawfully-requires : goal.refuses_lawfully-requires
refuses_lawfully-requires g c = c.lists_places.ensures.0 c.if-not-lists_places.false
