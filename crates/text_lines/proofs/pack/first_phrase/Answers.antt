-- What stands behind the phrase is left.
use Rattle.std.proofs.Common.{◌∙◌, Some}
use Rattle.std.proofs.lemmas.Slice.Eq.{strip_prefix_is}
use Rattle.std.proofs.lemmas.Bool.Decides.{Decides-eqb}
use Rattle.text_lines.proofs.WordLemmas.{phrase_first}
use Rattle.text_lines.proofs.pack.first_phrase.Goals as goal

pub returns-in-Some : goal.returns-in-Some
returns-in-Some c =
    phrase_first c.args.bytes.now c.as_bytes.result.now c.in-Some.rest.now c.guess-number.result (c.as_bytes.ensures.value
    ∙ c.phrase.ensures)
    (strip_prefix_is Decides-eqb c.args.bytes.now c.as_bytes.result.now (Some c.in-Some.rest) c.in-Some.ensures.cases)
