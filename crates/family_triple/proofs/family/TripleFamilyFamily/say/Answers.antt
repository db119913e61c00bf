-- The process of the seat says it, and all else stays.
use Rattle.std.proofs.Common.{◌≡◌, ◌+◌, ◌*◌, ◌<◌, ap, ◌∙◌, subst, arith, sym}
use Rattle.family_table.specs.Seated.{known_by}
use Rattle.family_table.proofs.Looked.{has_said, say_may}
use Rattle.family_triple.specs.Plans.{HasCells}
use Rattle.family_triple.specs.Seated.{IsSeat}
use Rattle.family_triple.specs.Words.{reads_from, writes_to}
use Rattle.family_triple.proofs.Rows.{row_room}
use Rattle.family_triple.proofs.Saying.{kept, shaped, still}
use Rattle.family_triple.proofs.family.TripleFamilyFamily.say.Goals as goal

pub words_of_cells-words-requires : goal.words_of_cells-words-requires
words_of_cells-words-requires g c = (row_room c.args.self.now c.args.seat.now c.requires.own).0

pub say-requires : goal.say-requires
say-requires g c =
    let f = c.args.self.now in
    let s = c.args.seat.now in
    let own = c.requires.own in
    let key = f.table.rows.inner.shared.key in
    let n = key.processes in
    let low : s.who < n = subst (λ z. s.who < z) own.processes (row_room f s own).1 in
    let is : c.words_of_cells-words.result ≡ 8 * (n * n) + 8 =
    c.words_of_cells-words.ensures.0 ∙ ap (λ z. 8 * (z * z) + 8) own.processes in record {
      own = own.table;
      at = (is, c.words_of_cells-words.ensures.1, omega (arith, low, f.table.rows.some.1));
      sized = f.table.sized ∙ ap (λ z. z + 8 * n) (sym is);
      one = (known_by s, own.one, own.who, low);
      plan = say_may writes_to reads_from kept HasCells shaped 1 g.T.Planned.plan key s own.opening own.processes own.who c.args.tag
          c.requires.plan;
    }

pub returns : goal.returns
returns g c =
    let f = c.args.self.now in
    let s = c.args.seat.now in
    let own = c.requires.own in
    let h = has_said writes_to reads_from kept (IsSeat f) s own.one (still f s own) c.say.new.seat c.say.ensures.own.0 c.args.tag
    (c.say.ensures.said (known_by s) own.one) in
    record { own = h.own; said = h.said; same = h.same; calls = h.calls }
