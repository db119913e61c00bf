-- The texts so far are linked.
use Rattle.std.proofs.Common.{◌<◌, ℕ, List, length, take}
use Rattle.kept_lines.specs.inner.Linked.{AreLinked}
use Rattle.kept_lines.specs.inner.Texts.{AreTexts}
use Rattle.kept_lines.proofs.links.links_of.Given as goal

abbrev pub invariant-loop-number : goal.invariant-loop-number
invariant-loop-number l = record {
  some : 0 < length l.links.last.items;
  linked : (all : List (List ℕ)) → AreTexts all l.texts → AreLinked (take l.number all) l.links;
}
