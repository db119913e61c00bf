-- One record more is placed, and those before it stay placed.
use Rattle.std.proofs.Common.{◌≡◌, ℕ, slice_get, Some, sym, subst, ◌∙◌, inl, inr, arith}
use Rattle.std.proofs.lemmas.Bool.{cases_lt}
use Rattle.history_coherence.specs.declared.walk.Mark.TheVariants.{Placed}
use Rattle.history_coherence.proofs.Edges.{if_none_of, none_by}
use Rattle.history_coherence.proofs.Walking.{rank_stays}
use Rattle.history_coherence.proofs.walk.place_all.Goals as goal

pub loop-number-preserved : goal.loop-number-preserved
loop-number-preserved c =
    let t = c.args.tables.now in
    let w = c.place_one.new.walk in
    let h = c.in_ok-found.ensures in
    let i = c.loop-number.invariant in
    let none = none_by c.in_ok-found.found (sym c.is_some.ensures ∙ c.if-is_some.false) in
    let empty = if_none_of c.in_ok-found.found _ h.empty none in
    let here = if_none_of c.in_ok-found.found _ h.placed none in
    record {
      walking = h.walking;
      empty = empty;
      long = h.further.long ∙ i.long;
      placed = λ x l. elim (cases_lt x c.loop-number.number) [
        | inl lt ↦
            let p = i.placed x lt in
            rank_stays t.keys.items t.earlier.items w.marks.items w.cursors.items w.path.items w.placed.items h.walking empty
            c.loop-number.walk.marks.items x p.0 h.further p.1
        | inr le ↦
            let s : c.loop-number.number ≡ x = omega arith in
            let P : ℕ → Type 0 = λ z. (rank : ℕ) × (slice_get w.marks.items z ≡ Some (Placed rank)) in
            subst P s here
      ];
    }
