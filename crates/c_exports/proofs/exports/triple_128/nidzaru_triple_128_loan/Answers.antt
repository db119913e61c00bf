-- made by c/exports.py
-- What `slot` gave, or why it gave nothing.
use Rattle.std.proofs.Common.{◌∙◌, refl, ap}
use Rattle.c_registers.specs.Handles.{done, refused}
use Rattle.c_exports.proofs.exports.triple_128.nidzaru_triple_128_loan.Goals as goal

pub returns-in-Err : goal.returns-in-Err
returns-in-Err c = let t = c.in-Err.ensures.err in refused t.0 t.1 refl

pub returns-in-Ok : goal.returns-in-Ok
returns-in-Ok c = let t = c.in-Ok.ensures.ok in done t.0 t.1 (c.as_mut_slice.ensures.value ∙ ap (λ r. r.words) t.2)
