-- One more record counts, and of equal ones the earlier stays.
use Rattle.std.proofs.Common.{arith, refl, rules}
use Rattle.std.proofs.lemmas.Option.{slice_get_read, slice_get_within}
use Rattle.board_live.proofs.Ending.{first_is, greatest_more}
use Rattle.board_live.proofs.ends.greatest_own.Goals as goal

pub loop-k-init : goal.loop-k-init
loop-k-init g c = first_is c.args.passes.now.items c.index.result.now
    (slice_get_read c.args.passes.now.items _ 0 c.index.result.now refl (let l = c.requires in omega arith) c.index.ensures)

pub loop-k-preserved : goal.loop-k-preserved
loop-k-preserved g c = greatest_more c.args.passes.now.items c.loop-k.k c.loop-k.last c.raise.new.self c.index-in-loop-k.result.now
    c.loop-k.invariant
    (slice_get_read c.args.passes.now.items _ c.loop-k.k c.index-in-loop-k.result.now refl
    (search rules) c.index-in-loop-k.ensures) c.raise.ensures

pub returns : goal.returns
returns g c =
    let h = c.loop-k.invariant in
    record {
      process = h.process;
      pass = h.pass;
      there = h.there;
      own = h.own;
      greatest = λ i p at. h.greatest i p (let l = slice_get_within c.args.passes.now.items i p at in search rules) at;
      earliest = h.earliest;
    }

pub index-requires : goal.index-requires
index-requires g c = search rules

pub index-requires-in-loop-k : goal.index-requires-in-loop-k
index-requires-in-loop-k g c = search rules

pub loop-k-smaller : goal.loop-k-smaller
loop-k-smaller g c = search rules
