-- A task has a record before it writes it, or what is found without.
use Rattle.std.proofs.Common.{sym, subst}
use Rattle.history_coherence.specs.Answers.{IsCoherence}
use Rattle.history_coherence.specs.declared.coherence.Coherence.TheVariants.{Incoherent}
use Rattle.history_coherence.specs.declared.coherence.Incoherence.{Incoherence}
use Rattle.history_coherence.specs.inner.Sortings.{ahead_at}
use Rattle.history_coherence.proofs.Found.{ahead_found, incoherent}
use Rattle.history_coherence.proofs.Tabled.{have_keys}
use Rattle.history_coherence.proofs.search.search_written.Goals as goal

pub returns-in-Some : goal.returns-in-Some
returns-in-Some c =
    let log = c.args.log.now in
    let tables = c.in_ok-tables.tables in
    let some = c.in-Some.ensures.some in
    let P : Incoherence → Type 0 = λ z. IsCoherence log (Incoherent z) in
    subst P (sym c.ahead_at.ensures) (incoherent log c.requires.once (ahead_at tables c.in-Some.write)
    (ahead_found log c.requires.once tables c.in_ok-tables.ensures.tabled c.in-Some.write some.0 some.1 some.2))

pub search_circle-requires-clause-sources : goal.search_circle-requires-clause-sources
search_circle-requires-clause-sources c =
    let tables = c.in_ok-tables.tables in
    let tabled = c.in_ok-tables.ensures.tabled in
    have_keys c.args.log.now tables.keys.items c.args.written.now tabled.keys tabled.long c.requires.met c.requires.sources
