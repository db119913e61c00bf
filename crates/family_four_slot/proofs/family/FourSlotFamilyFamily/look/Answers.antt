-- The process of the seat looks, and all else stays.
use Rattle.std.proofs.Common.{◌≡◌, ◌+◌, ◌*◌, [], ◌∷◌, refl, ap, ◌∙◌, arith, sym}
use Rattle.family_table.specs.Seated.{known_by}
use Rattle.family_table.proofs.Looked.{find_may, looked_for}
use Rattle.family_four_slot.specs.FourSlots.{IsInShape}
use Rattle.family_four_slot.specs.Seated.{IsSeat}
use Rattle.family_four_slot.specs.Words.{reads_from, writes_to}
use Rattle.family_four_slot.proofs.Rows.{row_room}
use Rattle.family_four_slot.proofs.Saying.{kept, shaped, still}
use Rattle.family_four_slot.proofs.SoFar.{seat_so_far}
use Rattle.family_four_slot.proofs.family.FourSlotFamilyFamily.look.Goals as goal

pub words_of_cells-words-requires : goal.words_of_cells-words-requires
words_of_cells-words-requires g c = (row_room c.args.self.now c.args.seat.now c.requires.own).0

pub look-requires : goal.look-requires
look-requires g c =
    let f = c.args.self.now in
    let s = c.args.seat.now in
    let own = c.requires.own in
    let key = f.table.rows.inner.shared.key in
    let n = key.processes in
    let is : c.words_of_cells-words.result ≡ 16 * (n * n) + 8 =
    c.words_of_cells-words.ensures.0 ∙ ap (λ z. 16 * (z * z) + 8) own.processes in record {
      opening = (refl, refl, refl);
      looking = (refl, refl);
      own = own.table;
      at = (is, c.words_of_cells-words.ensures.1, omega (arith, c.requires.other.0, f.table.rows.some.1));
      sized = f.table.sized ∙ ap (λ z. z + 8 * n) (sym is);
      other = c.requires.other.0;
      one = (known_by s, own.one);
      plan = find_may writes_to reads_from kept IsInShape shaped 3 g.T.Planned.plan key s own.opening own.processes own.who c.args.from
          c.args.tag c.requires.plan;
    }

pub returns : goal.returns
returns g c =
    let f = c.args.self.now in
    let s = c.args.seat.now in
    let own = c.requires.own in
    let h = looked_for writes_to reads_from kept (IsSeat f) s own.one (still f s own) c.look.new.seat c.look.ensures.own.0 c.args.from
    c.args.tag c.look.result c.look.ensures.found c.look.ensures.unfound in
    let s' = record s { seat = c.look.new.seat } in record {
      own = h.own;
      finds = h.finds;
      unfound = h.unfound;
      said = h.said;
      calls = h.calls;
      so_far = seat_so_far g.T.Planned.plan f s' h.own.0 (c.look.ensures.shown (known_by s' ∷ []) h.own.0.one);
    }
