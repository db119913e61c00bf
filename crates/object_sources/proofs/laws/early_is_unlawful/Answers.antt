-- What was found is made by an operation, which didn't begin later.
use Rattle.object_sources.proofs.Sourced.{before_later, no_later}
use Rattle.object_sources.proofs.laws.early_is_unlawful.Goals as goal

pub returns : goal.returns
returns c opening log place source h lawful =
    let m = c.found_is_made.ensures opening log place h.value h.op lawful h.at h.found.due h.found.found h.found.another in
    let le = no_later h.leaves.op.starts m.1.starts (h.first m.0 (record { op = m.1; at = m.2; makes = m.4 })) in
    m.3 (before_later h.op.ends h.leaves.op.starts m.1.starts le h.precedes)
