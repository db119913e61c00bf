-- What was found is made by an operation.
use Rattle.object_sources.proofs.laws.unwritten_is_unlawful.Goals as goal

pub returns : goal.returns
returns c opening log place h lawful =
    let m = c.found_is_made.ensures opening log place h.value h.op lawful h.at h.found.due h.found.found h.found.another in
    h.none m.0 (record { op = m.1; at = m.2; makes = m.4 })
