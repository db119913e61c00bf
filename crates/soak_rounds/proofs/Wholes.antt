-- Words that are all one number.
use Rattle.std.proofs.Common.{arith, refl, ◌≡◌, ◌<◌, ℕ}
use lib.ListN.{replicate}
use Rattle.std.proofs.lemmas.List.{length-replicate}
use Rattle.std.proofs.lemmas.List.Elements.{All-replicate}
use Rattle.soak_rounds.specs.Records.{IsWholeRecord}

pub whole : (count number : ℕ) → 0 < count → IsWholeRecord (replicate count number) number
whole count number some = record {
  some = omega (arith, length-replicate count number, some);
  each = All-replicate (λ (word : ℕ). word ≡ number) count number refl;
}
