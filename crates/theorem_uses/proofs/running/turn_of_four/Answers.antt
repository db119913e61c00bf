-- Each call is at most six accesses of at most three steps.
use Rattle.std.proofs.Common.{◌≡◌, ℕ, ◌+◌, ◌-◌, ◌*◌, ◌≤◌, length, subst, arith}
use Rattle.theorem_uses.proofs.running.turn_of_four.Goals as goal

within : (n w a b : ℕ) → n ≡ 4 → w ≤ 3 → b ≤ a + 2 * (n - 1) * w → b ≤ a + 18
within n w a b four few most = let there = subst (λ n. b ≤ a + 2 * (n - 1) * w) four most in omega arith

twice : (a b c : ℕ) → b ≤ a + 18 → c ≤ b + 18 → c ≤ a + 36
twice a b c h k = omega arith

pub returns : goal.returns
returns g c =
    let times = g.F.Family.times in
    let n = c.args.board.now.processes in
    let w = g.F.Family.width in
    let a = length (times c.args.pass.now.seat) in
    let b = length (times c.write.new.pass.seat) in
    let d = length (times c.read-seen.new.pass.seat) in
    let one = c.write.ensures.bounded in
    let two = c.read-seen.ensures.bounded in
    record {
      within = twice a b d (within n w a b c.requires.four one.each one.accesses)
          (within n w b d c.requires.four two.each two.accesses);
    }
