-- The last number is the one just written.
use Rattle.std.proofs.Common.{◌≡◌, ◌∙◌, ap}
use Rattle.std.specs.Arc.{arc_value}
use Rattle.cell_contract.specs.Running.{last_or}
use Rattle.cell_triple.specs.Words.{opening_of, written_by}
use Rattle.cell_contract.proofs.ListLaws.{last_snoc}
use Rattle.c_registers.specs.Numbers.{numbered}
use Rattle.c_registers.specs.declared.numbered.Numbered.{Numbered}
use Rattle.c_registers.proofs.triple.calls.TripleWriterWriting.write.Goals as goal

pub invariant_of-self : goal.invariant_of-self
invariant_of-self g c =
    let before = c.inside.result.now in
    let after = c.write.new.self in
    let item : Numbered g.row.W.Denot = numbered c.in-Some.number c.args.words.now in
    let opening = ap (λ x. opening_of (arc_value x)) c.write.ensures.written.same in
    let last : (last_or (opening_of (arc_value after.cell)) (written_by after.put)).number ≡ c.in-Some.number =
    (λ i. (last_or (opening i) (c.write.ensures.written.written i)).number)
    ∙ ap (λ (x : Numbered g.row.W.Denot). x.number) (last_snoc (opening_of (arc_value before.cell)) (written_by before.put) item) in
    record { own = c.write.ensures.own; last = last }
