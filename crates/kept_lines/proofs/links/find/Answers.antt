-- The record where the link leads has another text, so the text may stand before it.
use Rattle.std.proofs.Common.{◌≡◌, ◌-◌, ◌<◌, ◌≤◌, ℕ, false, true, List, arith, length, refl}
use Rattle.std.proofs.lemmas.Option.{slice_get_read}
use Rattle.kept_lines.proofs.LinkLemmas.{sought_next}
use Rattle.kept_lines.proofs.links.find.Goals as goal

pub chain-preserved : goal.chain-preserved
chain-preserved c = λ all texts links.
    let sought = c.chain.invariant all texts links in
    let some : 0 < c.chain.link = c.chain-test.true in
    let within : c.chain.link ≤ length all = sought.within in
    let before : List ℕ = c.args.links.now.before.items in
    sought_next all c.args.links.now c.args.text.now c.get.result.now c.chain.link (c.chain.link - 1) c.index-link-in-chain.result.now links
    sought (omega arith) (c.get.ensures all texts) (λ same. let z : false ≡ true = c.if-is_same.ensures.1 same in cc)
    (slice_get_read before (length before) (c.chain.link - 1) c.index-link-in-chain.result.now refl (omega (arith, links.long))
    c.index-link-in-chain.ensures)
