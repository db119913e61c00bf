-- What the last seat knows goes before what those taken out know, the others are shown with it, and it comes back as it was.
use Rattle.std.proofs.Common.{◌≡◌, ℕ, suc, ◌+◌, [], ◌∷◌, ◌++◌, append-nil, length, length-append, refl, sym, ap, ◌∙◌, subst, arith}
use mathlib.Core.Option.{some}
use lib.ListN.{get_elem?}
use Rattle.cell_contract.specs.Ends.{Each}
use Rattle.family_table.specs.declared.processes.ProcessSeat.{ProcessSeat}
use Rattle.family_table.specs.declared.notes.View.TheVariants.{Has}
use Rattle.family_table.specs.Seats.{all_but_first, first_of}
use Rattle.family_table.specs.Seated.{known_by}
use Rattle.family_table.proofs.Gathering.{stood, each_more, each_fewer, joined_in, put_again}
use Rattle.family_table.proofs.Showing.{same_seat}
use Rattle.family_table.proofs.processes.+show_all.Goals as goal

pub lift-next-requires-clause-own : goal.lift-next-requires-clause-own
lift-next-requires-clause-own g t c =
    let left = c.pop.new.self.items in
    let seats = c.args.seats.now.items in
    c.requires.own.1 (length left) c.in-Some.last
    (stood seats seats left [] c.in-Some.last (sym (append-nil seats)) c.in-Some.ensures.items)

pub lift-next-requires-clause-some : goal.lift-next-requires-clause-some
lift-next-requires-clause-some g t c =
    let left = c.pop.new.self.items in
    let seats = c.args.seats.now.items in
    let last = c.in-Some.last in (
      known_by last ∷ [],
      c.requires.one (length left) last
          (stood seats seats left [] last (sym (append-nil seats)) c.in-Some.ensures.items),
    )

pub put-requires-clause-own : goal.put-requires-clause-own
put-requires-clause-own g t c =
    let left = c.pop.new.self.items in
    let seats = c.args.seats.now.items in
    let last = c.in-Some.last in
    let at = stood seats seats left [] last (sym (append-nil seats)) c.in-Some.ensures.items in
    (c.lift-next.ensures.own.2 ∙ c.requires.own.1 (length left) last at, c.requires.own.0)

pub put-requires-clause-some : goal.put-requires-clause-some
put-requires-clause-some g t c =
    let left = c.pop.new.self.items in
    let seats = c.args.seats.now.items in
    let last = c.in-Some.last in
    let at = stood seats seats left [] last (sym (append-nil seats)) c.in-Some.ensures.items in
    (known_by last ∷ [], ap (λ m. m.0) c.lift-next.ensures.lifted.1 ∙ c.requires.one (length left) last at)

pub show_all-next-requires : goal.show_all-next-requires
show_all-next-requires g t c κs within =
    let left = c.pop.new.self.items in
    let seats = c.args.seats.now.items in
    let last = c.in-Some.last in
    let at = stood seats seats left [] last (sym (append-nil seats)) c.in-Some.ensures.items in
    let ps = c.requires.bare in
    let fewer : length left + 1 ≡ length seats = sym (ap length c.in-Some.ensures.items ∙ length-append left (last ∷ [])) in (
      omega (arith, fewer, c.decreases),
      (
        within.0,
        (
          within.1.0,
          (
            within.1.1.0,
            (
              within.1.1.1,
              (
                (
                  c.put.ensures.own.0 ∙ (c.lift-next.ensures.own.2 ∙ c.requires.own.1 (length left) last at),
                  each_fewer (λ i s. s.seat.inner.table_id ≡ c.args.rows.now.inner.shared.table_id) seats left last c.in-Some.ensures.items
                      c.requires.own.1,
                ),
                (
                  each_fewer (λ i s. s.seat.inner.me.0 ≡ Has (known_by s ∷ [])) seats left last c.in-Some.ensures.items c.requires.one,
                  (
                    known_by last ∷ ps.0,
                    joined_in _ _ _ _ _ _ c.put.ensures.joined c.lift-next.ensures.lifted.1
                        (c.requires.one (length left) last at) ps.1,
                  ),
                ),
              ),
            ),
          ),
        ),
      ),
    )

pub part-one-requires-clause-own : goal.part-one-requires-clause-own
part-one-requires-clause-own g t c =
    let left = c.pop.new.self.items in
    let seats = c.args.seats.now.items in
    let last = c.in-Some.last in
    let at = stood seats seats left [] last (sym (append-nil seats)) c.in-Some.ensures.items in
    c.show_all-next.ensures.all.0 ∙ (c.put.ensures.own.0 ∙ (c.lift-next.ensures.own.2 ∙ c.requires.own.1 (length left) last at))

pub part-one-requires-clause-some : goal.part-one-requires-clause-some
part-one-requires-clause-some g t c =
    let left = c.pop.new.self.items in
    let seats = c.args.seats.now.items in
    let last = c.in-Some.last in
    let at = stood seats seats left [] last (sym (append-nil seats)) c.in-Some.ensures.items in
    let ps = c.requires.bare in (
      known_by last,
      ps.0,
      ap (λ m. m.0) (c.show_all-next.ensures.all.1
          ∙ joined_in _ _ _ _ _ _ c.put.ensures.joined c.lift-next.ensures.lifted.1 (c.requires.one (length left) last at) ps.1),
    )

pub put-requires-2-clause-own : goal.put-requires-2-clause-own
put-requires-2-clause-own g t c =
    let left = c.pop.new.self.items in
    let seats = c.args.seats.now.items in
    let last = c.in-Some.last in
    let at = stood seats seats left [] last (sym (append-nil seats)) c.in-Some.ensures.items in
    let own = c.requires.own.1 (length left) last at in (
      c.lift-next.ensures.own.0 ∙ own,
      c.part-one.ensures.own.1 ∙ (c.show_all-next.ensures.all.0 ∙ (c.put.ensures.own.0 ∙ (c.lift-next.ensures.own.2 ∙ own))),
    )

pub returns-clause-same : goal.returns-clause-same
returns-clause-same g t c =
    let left = c.pop.new.self.items in
    let seats = c.args.seats.now.items in
    let last = c.in-Some.last in
    let at = stood seats seats left [] last (sym (append-nil seats)) c.in-Some.ensures.items in
    let one = c.requires.one (length left) last at in
    let ps = c.requires.bare in
    let whole = c.show_all-next.ensures.all.1 ∙ joined_in _ _ _ _ _ _ c.put.ensures.joined c.lift-next.ensures.lifted.1 one ps.1 in
    let me = put_again _ _ _ _ _ c.put-2.ensures.joined c.lift-next.ensures.lifted.0
    (c.part-one.ensures.parted.1 ∙ (λ i. (first_of ((whole i).0), []))) one in
    let again = same_seat last c.put-2.new.seat (c.put-2.ensures.own.0 ∙ c.lift-next.ensures.own.0)
    (c.put-2.ensures.own.1 ∙ c.lift-next.ensures.own.1) me in (
      c.push_reserved.ensures.items ∙ ((λ i. c.show_all-next.ensures.same.0 i ++ again i ∷ []) ∙ sym c.in-Some.ensures.items),
      c.push_reserved.ensures.capacity ∙ (c.show_all-next.ensures.same.1 ∙ c.pop.ensures.capacity),
    )

pub returns-clause-all : goal.returns-clause-all
returns-clause-all g t c =
    let left = c.pop.new.self.items in
    let seats = c.args.seats.now.items in
    let last = c.in-Some.last in
    let at = stood seats seats left [] last (sym (append-nil seats)) c.in-Some.ensures.items in
    let ps = c.requires.bare in
    let whole = c.show_all-next.ensures.all.1
    ∙ joined_in _ _ _ _ _ _ c.put.ensures.joined c.lift-next.ensures.lifted.1 (c.requires.one (length left) last at) ps.1 in (
      c.part-one.ensures.own.0 ∙ (c.show_all-next.ensures.all.0 ∙ (c.put.ensures.own.0 ∙ (c.lift-next.ensures.own.2
          ∙ (c.requires.own.1 (length left) last at ∙ sym c.requires.own.0)))),
      c.part-one.ensures.parted.0 ∙ ((λ i. (all_but_first ((whole i).0), (whole i).1)) ∙ sym ps.1),
    )

pub returns-clause-shown : goal.returns-clause-shown
returns-clause-shown g t c = λ ps is.
    let left = c.pop.new.self.items in
    let seats = c.args.seats.now.items in
    let last = c.in-Some.last in
    let at = stood seats seats left [] last (sym (append-nil seats)) c.in-Some.ensures.items in
    let h = c.show_all-next.ensures.shown (known_by last ∷ ps)
    (joined_in _ _ _ _ _ _ c.put.ensures.joined c.lift-next.ensures.lifted.1 (c.requires.one (length left) last at) is) in
    let P = λ (i : ℕ) (s : ProcessSeat g.row.T.Denot g.row.V.Denot g.row.X.Denot). (b : ℕ) × (get_elem? h.0 b ≡ some (known_by s)) in (
      h.0,
      h.1,
      (λ a p e. h.2 (suc a) p e),
      subst (λ xs. Each P xs) (sym c.in-Some.ensures.items) (each_more P left last (λ i s e. h.3 i s e) (h.2 0 (known_by last) refl)),
    )
