-- The text stands nowhere but where the link leads, and before that. Each link leads further back.
use Rattle.std.proofs.Common.{ℕ, List, length}
use Rattle.kept_lines.specs.inner.Linked.{AreLinked}
use Rattle.kept_lines.specs.inner.Texts.{AreTexts}
use Rattle.kept_lines.proofs.LinkLemmas.{IsSought}
use Rattle.kept_lines.proofs.links.find.Given as goal

abbrev pub invariant-chain : goal.invariant-chain
invariant-chain l = (all : List (List ℕ)) → AreTexts all l.texts → AreLinked all l.links →
    IsSought all (length l.links.last.items) l.text l.link

abbrev pub decreases-chain : goal.decreases-chain
decreases-chain l = l.link
