-- The last two passes go from the passes that are left to a thread.
use Rattle.std.proofs.Common.{subst, sym, ◌++◌, ◌∷◌, [], All}
use Rattle.std.proofs.lemmas.List.{append-nil}
use Rattle.cell_contract.proofs.ListLaws.{all_snoc}
use Rattle.board_live.specs.Passes.{IsPass}
use Rattle.cells_bench.specs.Items.{no_law}
use Rattle.cells_bench.proofs.Fronts.{all_at, all_front}
use Rattle.cells_bench.proofs.boards_paced.make_pairs.Goals as goal

pub loop-number-preserved : goal.loop-number-preserved
loop-number-preserved g c =
    let is = IsPass g.F.Family no_law c.args.board.now in
    let more = c.pop.new.self.items in
    let left = c.pop-in-loop-number.new.self.items in
    let first = c.in-Some.first in
    let second = c.in-Some-pop.second in
    let before : All is (more ++ first ∷ []) = subst (λ z. All is z) c.in-Some.ensures.items c.loop-number.invariant.0 in
    let one = all_at is (more ++ first ∷ []) more first [] (sym (append-nil (more ++ first ∷ []))) before in
    let then : All is (left ++ second ∷ []) = subst (λ z. All is z) c.in-Some-pop.ensures.items (all_front is more (first ∷ []) before) in
    let two = all_at is (left ++ second ∷ []) left second [] (sym (append-nil (left ++ second ∷ []))) then in (
      all_front is left (second ∷ []) then,
      rw c.in_ok-push.ensures.items
          (all_snoc (λ p. IsPass g.F.Family no_law p.value.board.now p.value.first
          × IsPass g.F.Family no_law p.value.board.now p.value.second)
          c.loop-number.pairs.items c.new-in-loop-number.result c.loop-number.invariant.1
          (rw c.new-in-loop-number.ensures (one, two))),
    )
