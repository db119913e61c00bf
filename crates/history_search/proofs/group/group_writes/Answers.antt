-- One more write is known, or its record was.
use Rattle.std.proofs.Common.{◌≡◌, ◌<◌, ◌≤◌, ℕ, arith, length, refl, subst, sym, slice_get, Some, ◌∙◌}
use Rattle.std.proofs.lemmas.Option.{slice_get_read}
use Rattle.history_search.specs.inner.Groups.{KnowsWrites}
use Rattle.history_search.proofs.Known.{known_more, known_skip, once_all, once_more, once_skip, write_fault}
use Rattle.history_search.proofs.group.group_writes.Goals as goal
use Rattle.history_search.proofs.group.group_writes.Goals.{in-Some+in-Ok, in-None}

pub loop-place-preserved : goal.loop-place-preserved
loop-place-preserved g c =
    let n : ℕ = c.loop-place.place in
    let l : n < length c.args.ops.now = c.loop-place-test.true in
    let o = c.index-ops-place.result in
    let at : slice_get c.args.ops.now n ≡ Some o = slice_get_read c.args.ops.now (length c.args.ops.now) n o refl l c.index-ops-place.is in
    elim c.match-written_by.branch [
      | in-Some+in-Ok w ↦
          let here = sym c.written_by.ensures ∙ w.in-Some.is in
          rw w.writes-is (record {
            known = known_more g.R.PartialEq.eq g.R.Ord.cmp g.met.R.Eq.laws g.met.R.Ord.total g.met.R.Ord.matches_eq c.args.opening
                c.args.ops.now n o w.in-Some.written c.loop-place.writes at here c.loop-place.invariant.known w.add_write.new.writes
                w.in-Ok.ensures.added.1 w.in-Ok.ensures.added.2;
            once = once_more g.R.PartialEq.eq g.R.Ord.cmp g.met.R.Eq.laws g.met.R.Ord.total g.met.R.Ord.matches_eq c.args.opening
                c.args.ops.now n o w.in-Some.written c.loop-place.writes at here c.loop-place.invariant.known w.in-Ok.ensures.added.0
                w.in-Ok.ensures.added.1 c.loop-place.invariant.once;
          })
      | in-None w ↦
          let here = sym c.written_by.ensures ∙ w.in-None.is in
          rw w.writes-is (record {
            known = known_skip g.R.PartialEq.eq g.R.Ord.cmp g.met.R.Eq.laws g.met.R.Ord.total g.met.R.Ord.matches_eq c.args.opening
                c.args.ops.now n o c.loop-place.writes at here c.loop-place.invariant.known;
            once = once_skip g.R.PartialEq.eq g.R.Ord.cmp g.met.R.Eq.laws g.met.R.Ord.total g.met.R.Ord.matches_eq c.args.opening
                c.args.ops.now n o at here c.loop-place.invariant.once;
          })
    ]

pub returns-in-Err-clause-fault : goal.returns-in-Err-clause-fault
returns-in-Err-clause-fault g c =
    let n : ℕ = c.loop-place.place in
    let l : n < length c.args.ops.now = c.loop-place-test.true in
    let o = c.index-ops-place.result in
    write_fault g.R.PartialEq.eq g.R.Ord.cmp g.met.R.Eq.laws g.met.R.Ord.total g.met.R.Ord.matches_eq c.args.opening c.args.ops.now n o
    c.in-Some.written c.loop-place.writes (slice_get_read c.args.ops.now (length c.args.ops.now) n o refl l c.index-ops-place.is)
    (sym c.written_by.ensures ∙ c.in-Some.is) c.loop-place.invariant.known c.in-Err.error c.in-Err.ensures.fault c.loop-place.invariant.once

pub returns-clause-once : goal.returns-clause-once
returns-clause-once g c =
    once_all g.R.PartialEq.eq g.R.Ord.cmp g.met.R.Eq.laws g.met.R.Ord.total g.met.R.Ord.matches_eq c.args.opening c.args.ops.now
    c.loop-place.place c.loop-place-test.false c.loop-place.invariant.once (length c.args.ops.now)

pub returns-clause-known : goal.returns-clause-known
returns-clause-known g c =
    let done : length c.args.ops.now ≤ c.loop-place.place = c.loop-place-test.false in
    let same : c.loop-place.place ≡ length c.args.ops.now = let l = c.loop-place.auto.place-end in omega arith in
    let P : ℕ → Type 0 = λ z. KnowsWrites g.R.Ord.cmp c.args.ops.now z c.loop-place.writes in
    subst P same c.loop-place.invariant.known
