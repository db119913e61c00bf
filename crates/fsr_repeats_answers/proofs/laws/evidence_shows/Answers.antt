-- Each by the law of what is shown.
use Rattle.std.proofs.Common.{ℕ, List}
use Rattle.object_core.specs.declared.operation.Operation.{Operation}
use Rattle.object_core.specs.Logs.{IsLinearizable}
use Rattle.object_registers.specs.Registers.{exchanging_after}
use Rattle.object_registers.specs.declared.exchanging.Exchange.{Exchange}
use Rattle.object_sources.specs.Sources.{IsUnsourced}
use Rattle.object_sources.specs.declared.source.Unsourced.{Unsourced}
use Rattle.object_sources.specs.declared.source.Unsourced.TheVariants.{Unwritten, Early}
use Rattle.std.proofs.Common.{Some}
use Rattle.fsr_repeats_answers.specs.Evidence.{opened}
use Rattle.fsr_repeats_answers.proofs.laws.evidence_shows.Goals as goal

pub returns-clause-source : goal.returns-clause-source
returns-clause-source c = by_why
  where
    by_why : (log : List (Operation Exchange)) (place : ℕ) (why : Unsourced) → IsUnsourced opened.held log place (Some why) →
        ¬ IsLinearizable exchanging_after opened log
    by_why log place Unwritten h = c.unwritten_is_unlawful.ensures opened log place h
    by_why log place (Early write) h = c.early_is_unlawful.ensures opened log place write h

pub returns-clause-together : goal.returns-clause-together
returns-clause-together c log place window forwards h =
    c.window_is_unlawful.ensures opened log h.1.little window.first window.last window.places.items forwards h.1.is h.1.lost
