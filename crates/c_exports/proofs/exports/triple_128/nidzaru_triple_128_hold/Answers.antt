-- made by c/exports.py
-- What `hold` gave, or why it gave nothing.
use Rattle.std.proofs.Common.{◌∙◌, refl, ap}
use Rattle.c_registers.specs.Handles.{done, refused}
use Rattle.c_exports.proofs.exports.triple_128.nidzaru_triple_128_hold.Goals as goal
use Rattle.c_exports.proofs.exports.triple_128.nidzaru_triple_128_hold.Goals.{in-Err, in-Ok}

pub returns : goal.returns
returns c = elim c.match-hold.branch [
  | in-Err w ↦ let t = w.in-Err.ensures.err in rw (w.at-is, w.result-is) (refused t.0 t.1 refl)
  | in-Ok w ↦ let t = w.in-Ok.ensures.ok in
      rw (w.at-is, w.result-is) (done t.0 t.1 (w.as_slice.ensures ∙ ap (λ r. r.words) t.2))
]
