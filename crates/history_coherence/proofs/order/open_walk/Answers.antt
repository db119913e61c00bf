-- The opening alone is placed.
use Rattle.std.proofs.Common.{ℕ, List, length, Option, subst}
use Rattle.history_coherence.specs.inner.Keys.{AreLast}
use Rattle.history_coherence.proofs.Starting.{walk_start}
use Rattle.history_coherence.proofs.order.open_walk.Goals as goal

pub returns-clause-walking : goal.returns-clause-walking
returns-clause-walking c =
    let t = c.args.tables.now in
    let k = c.args.tables.now.keys.items in
    let cursors = c.in_ok-last_places.field-0.items in
    let P : List (Option ℕ) → Type 0 = λ z. AreLast z (length z) cursors in
    let last = subst P c.as_slice.ensures.value c.in_ok-last_places.ensures.last in
    let start = walk_start k t.earlier.items cursors c.args.greatest c.requires.within c.requires.back last
    c.in_ok-last_places.ensures.long in
    rw (c.in_ok-marks.ensures, c.new.ensures.items, c.in_ok-push.ensures.items, c.new-placed.ensures.items) start
