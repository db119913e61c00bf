-- One more empty bucket; and no text is linked.
use Rattle.std.proofs.Common.{◌≡◌, ◌∙◌, ◌≤◌, ℕ, List, ap, arith, replicate, ◌++◌, ◌∷◌, []}
use Rattle.std.proofs.lemmas.List.{replicate_more}
use Rattle.kept_lines.proofs.LinkLemmas.{linked_none}
use Rattle.kept_lines.proofs.links.Links.new.Goals as goal

pub loop-preserved : goal.loop-preserved
loop-preserved c =
    c.in_ok-push.ensures.items ∙ ap (λ (l : List ℕ). l ++ 0 ∷ []) c.loop.invariant ∙ replicate_more c.loop.counter 0

pub returns : goal.returns
returns c =
    let done : c.args.count ≤ c.loop.counter = c.loop-test.false in
    let same : c.loop.counter ≡ c.args.count = let l = c.loop.auto.counter-end in omega arith in
    linked_none _ c.args.count c.requires (c.loop.invariant ∙ ap (λ (n : ℕ). replicate n 0) same) c.new.ensures.items
