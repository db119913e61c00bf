-- The last number is the one just written.
use Rattle.std.proofs.Common.{◌≡◌, ◌∙◌, ap}
use Rattle.std.specs.Arc.{arc_value}
use Rattle.cell_contract.specs.Running.{last_or}
use Rattle.cell_triple.specs.Words.{opening_of, written_by}
use Rattle.cell_contract.proofs.ListLaws.{last_snoc}
use Rattle.c_registers.specs.Numbers.{numbered}
use Rattle.cell_triple.specs.Lent.{placed_by}
use Rattle.c_registers.specs.declared.numbered.Numbered.{Numbered}
use Rattle.c_registers.proofs.triple.TripleWriter.publish.Goals as goal

pub invariant_of-self : goal.invariant_of-self
invariant_of-self g c =
    let before = c.inside.result.now in
    let after = c.publish.new.self in
    let item : Numbered g.row.W.Denot = numbered c.in-Some.number (placed_by before.put).words in
    let opening = ap (λ x. opening_of (arc_value x)) c.publish.ensures.written.same in
    let last : (last_or (opening_of (arc_value after.cell)) (written_by after.put)).number ≡ c.in-Some.number =
    (λ i. (last_or (opening i) (c.publish.ensures.written.written i)).number)
    ∙ ap (λ (x : Numbered g.row.W.Denot). x.number) (last_snoc (opening_of (arc_value before.cell)) (written_by before.put) item) in
    record { own = c.publish.ensures.own; last = last }
