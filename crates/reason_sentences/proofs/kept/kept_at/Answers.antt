-- The operation was found there, or isn't kept.
use Rattle.std.specs.Prelude.{◌==◌, ℕ}
use Rattle.reason_sentences.proofs.PlaceLemmas.{found, missing}
use Rattle.reason_sentences.proofs.kept.kept_at.Goals as goal

pub returns-in-Some : goal.returns-in-Some
returns-in-Some c = found (λ (p : ℕ). p == c.args.place) c.args.places.now c.in-Some.kept c.in-Some.ensures

pub returns-in-None : goal.returns-in-None
returns-in-None c = missing (λ (p : ℕ). p == c.args.place) c.args.places.now c.in-None.ensures
