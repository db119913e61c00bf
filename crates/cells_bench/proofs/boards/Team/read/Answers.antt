-- The pass of a process is of the board, before its call and after it.
use Rattle.std.proofs.Common.{arith, ◌<◌, ◌%◌, ℕ}
use Rattle.std.proofs.lemmas.Nat.{mod_below}
use Rattle.board_live.proofs.Passing.{stood, used}
use Rattle.cells_bench.specs.Items.{no_law}
use Rattle.cells_bench.proofs.boards.Team.read.Goals as goal

pub read-requires : goal.read-requires
read-requires g c =
    let who : ℕ = c.loop-number.number % c.len-n.result in
    let some : 0 < c.len-n.result = omega (arith, c.if-n-eq0.false) in
    let within : who < c.len-n.result = mod_below c.loop-number.number c.len-n.result some in
    (stood g.F.Family no_law c.loop-number.self.board c.loop-number.self.passes.items _ who c.index_mut.result.now
    c.loop-number.invariant.1 within c.index_mut.ensures.value c.loop-number.invariant.0).0

pub loop-number-preserved : goal.loop-number-preserved
loop-number-preserved g c =
    let who : ℕ = c.loop-number.number % c.len-n.result in
    let some : 0 < c.len-n.result = omega (arith, c.if-n-eq0.false) in
    let within : who < c.len-n.result = mod_below c.loop-number.number c.len-n.result some in
    used g.F.Family no_law c.loop-number.self.board c.loop-number.self.passes.items _ who c.index_mut.result.now c.read.new.pass
    c.loop-number.invariant.1 within c.index_mut.ensures.value c.loop-number.invariant.0 c.read.ensures.pass
    c.read.ensures.call.process
