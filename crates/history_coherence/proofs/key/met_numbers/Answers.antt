-- One place more.
use Rattle.std.proofs.Common.{◌≡◌, ◌<◌, ℕ, length, true, None, Some, get_or, arith, ◌∙◌, length-set}
use Rattle.history_coherence.specs.inner.Keys.{number_at}
use Rattle.history_coherence.proofs.Edges.{none_of}
use Rattle.history_coherence.proofs.Tables.{met_more, met_skip, number_read}
use Rattle.history_coherence.proofs.key.met_numbers.Goals as goal
use Rattle.history_coherence.proofs.key.met_numbers.Goals.{in-Some, in_default}

pub index_mut-requires : goal.index_mut-requires
index_mut-requires c =
    let at = number_read c.args.numbers.now c.loop-place.place c.loop-place-test.true ∙ c.in-Some.is in
    let l = c.requires c.loop-place.place c.in-Some.number at in
    omega (arith, l, c.loop-place.invariant.long, c.loop-place.met.ok.0)

pub loop-place-preserved : goal.loop-place-preserved
loop-place-preserved c = elim c.match-numbers-place.branch [
  | in-Some w ↦
      let n : ℕ = c.loop-place.place in
      let met = c.loop-place.met.items in
      let at : number_at c.args.numbers.now n ≡ Some w.in-Some.number =
      number_read c.args.numbers.now n c.loop-place-test.true ∙ w.in-Some.is in
      let l : w.in-Some.number < length met = let k = c.requires n w.in-Some.number at in omega (arith, k, c.loop-place.invariant.long) in
      rw w.met-is (record {
        met = met_more c.args.numbers.now n w.in-Some.number met at l c.loop-place.invariant.met;
        long = length-set met w.in-Some.number true ∙ c.loop-place.invariant.long;
      })
  | in_default w ↦
      rw w.met-is (record {
        met = met_skip c.args.numbers.now c.loop-place.place c.loop-place.met.items
            (number_read c.args.numbers.now c.loop-place.place c.loop-place-test.true
            ∙ none_of (get_or c.args.numbers.now c.loop-place.place None) w.in_default.not-Some) c.loop-place.invariant.met;
        long = c.loop-place.invariant.long;
      })
]
