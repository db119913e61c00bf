-- The line of a verdict (this project's own).
use Rattle.std.specs.Prelude.{ℕ, List, codes}
use Rattle.history_core.specs.declared.history.Verdict.{Verdict}
use Rattle.history_core.specs.declared.history.Verdict.TheVariants.{Lawful, Listing, Precedence, Reading, Limit}

abbrev pub verdict_text : Verdict → List ℕ
verdict_text Lawful = codes "lawful\n"
verdict_text Listing = codes "unlawful listing\n"
verdict_text Precedence = codes "unlawful precedence\n"
verdict_text Reading = codes "unlawful reading\n"
verdict_text Limit = codes "unlawful limit\n"
