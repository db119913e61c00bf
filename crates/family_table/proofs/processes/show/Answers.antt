-- The last seat is lent, the others with it, and what the one seat is shown is of all of them.
use Rattle.std.proofs.Common.{◌≡◌, ℕ, [], ◌∷◌, ◌++◌, append-nil, length, refl, sym, ◌∙◌, subst}
use mathlib.Core.Option.{some}
use lib.ListN.{get_elem?}
use Rattle.cell_contract.specs.Ends.{Each}
use Rattle.family_table.specs.declared.processes.ProcessSeat.{ProcessSeat}
use Rattle.family_table.specs.declared.notes.View.TheVariants.{Has}
use Rattle.family_table.specs.Seated.{known_by}
use Rattle.family_table.proofs.Gathering.{stood, each_more, each_fewer, put_again}
use Rattle.family_table.proofs.Showing.{same_seat}
use Rattle.family_table.proofs.processes.show.Goals as goal

pub lift-all-requires-clause-own : goal.lift-all-requires-clause-own
lift-all-requires-clause-own g c =
    let seats = c.args.seats.now.items in
    let left = c.pop.new.self.items in
    let at = stood seats seats left [] c.in-Some.last (sym (append-nil seats)) c.in-Some.ensures.items in
    c.requires.own (length left) c.in-Some.last at

pub lift-all-requires-clause-some : goal.lift-all-requires-clause-some
lift-all-requires-clause-some g c =
    let seats = c.args.seats.now.items in
    let left = c.pop.new.self.items in
    let last = c.in-Some.last in
    let at = stood seats seats left [] last (sym (append-nil seats)) c.in-Some.ensures.items in
    (known_by last ∷ [], c.requires.one (length left) last at)

pub show_all-all-requires-clause-own : goal.show_all-all-requires-clause-own
show_all-all-requires-clause-own g c =
    let seats = c.args.seats.now.items in
    let left = c.pop.new.self.items in
    let last = c.in-Some.last in
    let at = stood seats seats left [] last (sym (append-nil seats)) c.in-Some.ensures.items in (
      c.lift-all.ensures.own.2 ∙ c.requires.own (length left) last at,
      each_fewer (λ i s. s.seat.inner.table_id ≡ c.args.rows.now.inner.shared.table_id) seats left last c.in-Some.ensures.items
          c.requires.own,
    )

pub show_all-all-requires-clause-one : goal.show_all-all-requires-clause-one
show_all-all-requires-clause-one g c =
    let seats = c.args.seats.now.items in
    each_fewer (λ i s. s.seat.inner.me.0 ≡ Has
    (known_by s ∷ [])) seats c.pop.new.self.items c.in-Some.last c.in-Some.ensures.items c.requires.one

pub show_all-all-requires-clause-bare : goal.show_all-all-requires-clause-bare
show_all-all-requires-clause-bare g c =
    let seats = c.args.seats.now.items in
    let left = c.pop.new.self.items in
    let last = c.in-Some.last in
    let at = stood seats seats left [] last (sym (append-nil seats)) c.in-Some.ensures.items in
    let one = c.requires.one (length left) last at in
    (known_by last ∷ [], c.lift-all.ensures.lifted.1 ∙ (λ i. (one i, [])))

pub put-requires-clause-own : goal.put-requires-clause-own
put-requires-clause-own g c =
    let seats = c.args.seats.now.items in
    let left = c.pop.new.self.items in
    let last = c.in-Some.last in
    let at = stood seats seats left [] last (sym (append-nil seats)) c.in-Some.ensures.items in
    let table = c.requires.own (length left) last at in
    (c.lift-all.ensures.own.0 ∙ table, c.show_all-all.ensures.all.0 ∙ (c.lift-all.ensures.own.2 ∙ table))

pub put-requires-clause-bare : goal.put-requires-clause-bare
put-requires-clause-bare g c =
    let seats = c.args.seats.now.items in
    let left = c.pop.new.self.items in
    let last = c.in-Some.last in
    let at = stood seats seats left [] last (sym (append-nil seats)) c.in-Some.ensures.items in
    let one = c.requires.one (length left) last at in
    (known_by last ∷ [], c.show_all-all.ensures.all.1 ∙ (c.lift-all.ensures.lifted.1 ∙ (λ i. (one i, []))))

pub returns-clause-same : goal.returns-clause-same
returns-clause-same g c =
    let seats = c.args.seats.now.items in
    let left = c.pop.new.self.items in
    let last = c.in-Some.last in
    let at = stood seats seats left [] last (sym (append-nil seats)) c.in-Some.ensures.items in
    let one = c.requires.one (length left) last at in
    let me = put_again _ _ _ _ _ c.put.ensures.joined c.lift-all.ensures.lifted.0
    (c.show_all-all.ensures.all.1 ∙ (c.lift-all.ensures.lifted.1 ∙ (λ i. (one i, [])))) one in
    let again = same_seat last c.put.new.seat (c.put.ensures.own.0 ∙ c.lift-all.ensures.own.0)
    (c.put.ensures.own.1 ∙ c.lift-all.ensures.own.1) me in (
      c.push_reserved.ensures.items ∙ ((λ i. c.show_all-all.ensures.same.0 i ++ again i ∷ []) ∙ sym c.in-Some.ensures.items),
      c.push_reserved.ensures.capacity ∙ (c.show_all-all.ensures.same.1 ∙ c.pop.ensures.capacity),
    )

pub returns-clause-shown : goal.returns-clause-shown
returns-clause-shown g c =
    let seats = c.args.seats.now.items in
    let left = c.pop.new.self.items in
    let last = c.in-Some.last in
    let at = stood seats seats left [] last (sym (append-nil seats)) c.in-Some.ensures.items in
    let one = c.requires.one (length left) last at in
    let h = c.show_all-all.ensures.shown (known_by last ∷ []) (c.lift-all.ensures.lifted.1 ∙ (λ i. (one i, []))) in
    let P = λ (i : ℕ) (s : ProcessSeat g.row.T.Denot g.row.V.Denot g.row.X.Denot). (b : ℕ) × (get_elem? h.0 b ≡ some (known_by s)) in (
      h.0,
      h.1,
      subst (λ xs. Each P xs) (sym c.in-Some.ensures.items)
          (each_more P left last (λ i s e. h.3 i s e) (h.2 0 (known_by last) refl)),
    )
