-- Each turn takes a code from the front of the rest.
use Rattle.text_lines.proofs.WordLemmas.{one_packed}
use Rattle.text_lines.proofs.pack.push_codes.Goals as goal

pub bytes-preserved : goal.bytes-preserved
bytes-preserved c =
    one_packed c.bytes.codes.items c.push.new.self.items _ c.bytes.rest.now c.in-Some.behind.now c.in-Some.code c.bytes.invariant
    c.in-Some.ensures c.in_ok-push.ensures.items

pub bytes-smaller : goal.bytes-smaller
bytes-smaller c = c.in-Some.ensures.shorter
