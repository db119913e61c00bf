-- It may be left out; then one more is tried, or need not be, and another.
use Rattle.std.proofs.Common.{◌≡◌, ℕ, ◌+◌, ◌≤◌, List, ◌∷◌, ◌++◌, [], get_or, length, slice_get, Some, arith, subst, sym, ap, ◌∙◌}
use Rattle.std.proofs.Common.{false, Global, Vec}
use Rattle.std.proofs.lemmas.Option.{slice_get-get_or}
use Rattle.object_sweep.specs.declared.ending.Ending.{Ending}
use Rattle.object_sweep.specs.inner.Steps.{IsExplored, NeedNotBeTried, StandsInFor, sure_at}
use Rattle.object_sweep.specs.Reached.{is_in}
use Rattle.object_sweep.proofs.Adding.{AreHeldFor, explored_more, explored_needless, explored_none, held_for_more, held_for_none}
use Rattle.object_sweep.proofs.ending.explore.Goals as goal
use Rattle.object_sweep.proofs.ending.explore.Goals.{then-is_to_be_tried+in_ok-try_place+in_ok-push, else-is_to_be_tried}

pub loop-place-init : goal.loop-place-init
loop-place-init g c = (
  explored_none (sure_at c.args.log.now) g.O.Object.after c.args.log.now c.args.under_way.now c.args.ending c.args.from.now.state
      c.args.from.now.placed.items c.args.sets.now.waiting.items c.args.sets.now.kept.items c.leave_out.new.sets.waiting.items
      c.leave_out.new.sets.kept.items c.in_ok-leave_out.ensures,
  held_for_none (sure_at c.args.log.now) g.O.Object.after c.args.log.now c.args.under_way.now c.args.ending c.args.from.now.state
      c.args.from.now.placed.items c.new-tried.result.items c.leave_out.new.sets.waiting.items c.leave_out.new.sets.kept.items
      c.new-tried.ensures.items,
)

pub loop-place-preserved : goal.loop-place-preserved
loop-place-preserved g c = elim c.if-is_to_be_tried.branch [
  | then-is_to_be_tried+in_ok-try_place+in_ok-push w ↦
      let first = w.first_for-first.result in
      let for = stands w.as_slice-then-is_to_be_tried.result.now w.as_slice-then-is_to_be_tried.ensures.value first
      w.first_for-first.ensures in
      let t = w.if-is_to_be_tried in
      let free = unplaced c.as_slice.result.now c.as_slice.ensures.value (c.is_to_be_tried.ensures.open t.true) in (
        subst P (sym w.sets-is) (explored_more (sure_at c.args.log.now) g.O.Object.after c.args.log.now c.args.under_way.now c.args.ending
            c.args.from.now.state c.args.from.now.placed.items c.loop-place.place-index q first at for c.args.sets.now.waiting.items
            c.args.sets.now.kept.items c.loop-place.sets.waiting.items c.loop-place.sets.kept.items w.try_place.new.sets.waiting.items
            w.try_place.new.sets.kept.items c.loop-place.invariant.0 w.in_ok-try_place.ensures),
        held c.if-is_to_be_tried.tried.items (c.loop-place.tried.items ++ first ∷ []) (ap (λ (z : Vec ℕ Global). z.items) w.tried-is
            ∙ w.in_ok-push.ensures.items) c.if-is_to_be_tried.sets w.try_place.new.sets w.sets-is
            (held_for_more (sure_at c.args.log.now) g.O.Object.after c.args.log.now c.args.under_way.now c.args.ending
            c.args.from.now.state c.args.from.now.placed.items c.loop-place.place-index q first at free for c.loop-place.tried.items
            c.loop-place.sets.waiting.items c.loop-place.sets.kept.items w.try_place.new.sets.waiting.items
            w.try_place.new.sets.kept.items c.loop-place.invariant.1 w.in_ok-try_place.ensures),
      )
  | else-is_to_be_tried w ↦
      let t = w.if-is_to_be_tried in
      let needless = unneeded c.as_slice.result.now c.as_slice.ensures.value c.as_slice-in-loop-place.result.now
      c.as_slice-in-loop-place.ensures.value (c.is_to_be_tried.ensures.needless t.false) in (
        subst P (sym w.sets-is) (explored_needless (sure_at c.args.log.now) g.O.Object.after c.args.log.now c.args.under_way.now
            c.args.ending c.args.from.now.state c.args.from.now.placed.items c.loop-place.place-index q c.loop-place.tried.items at
            needless c.args.sets.now.waiting.items c.args.sets.now.kept.items c.loop-place.sets.waiting.items
            c.loop-place.sets.kept.items c.loop-place.invariant.1 c.loop-place.invariant.0),
        held c.if-is_to_be_tried.tried.items c.loop-place.tried.items (ap (λ (z : Vec ℕ Global). z.items) w.tried-is)
            c.if-is_to_be_tried.sets c.loop-place.sets w.sets-is c.loop-place.invariant.1,
      )
]
  where
    q : ℕ
    q = get_or c.args.under_way.now c.loop-place.place-index 0

    at : slice_get c.args.under_way.now c.loop-place.place-index ≡ Some q
    at = slice_get-get_or c.args.under_way.now c.loop-place.place-index 0 c.loop-place-test.true

    stands : (placed : List ℕ) → placed ≡ c.args.from.now.placed.items → (r : ℕ) →
        StandsInFor g.O.Object.after c.args.log.now c.args.under_way.now placed r q →
        StandsInFor g.O.Object.after c.args.log.now c.args.under_way.now c.args.from.now.placed.items r q
    stands placed same r h =
        let Q : List ℕ → Type 0 = λ z. StandsInFor g.O.Object.after c.args.log.now c.args.under_way.now z r q in subst Q same h

    unplaced : (placed : List ℕ) → placed ≡ c.args.from.now.placed.items → is_in q placed ≡ false →
        is_in q c.args.from.now.placed.items ≡ false
    unplaced placed same h = let Q : List ℕ → Type 0 = λ z. is_in q z ≡ false in subst Q same h

    unneeded : (placed : List ℕ) → placed ≡ c.args.from.now.placed.items → (tried : List ℕ) → tried ≡ c.loop-place.tried.items →
        NeedNotBeTried g.O.Object.after c.args.log.now placed tried q →
        NeedNotBeTried g.O.Object.after c.args.log.now c.args.from.now.placed.items c.loop-place.tried.items q
    unneeded placed same tried alike h =
        let Q : List ℕ → Type 0 = λ z. NeedNotBeTried g.O.Object.after c.args.log.now z tried q in
        let R : List ℕ → Type 0 = λ z. NeedNotBeTried g.O.Object.after c.args.log.now c.args.from.now.placed.items z q in
        subst R alike (subst Q same h)

    held : (tried tried' : List ℕ) → tried ≡ tried' → (sets sets' : Ending g.row.O.Denot) → sets ≡ sets' →
        AreHeldFor (sure_at c.args.log.now) g.O.Object.after c.args.log.now c.args.under_way.now c.args.ending c.args.from.now.state
        c.args.from.now.placed.items tried' sets'.waiting.items sets'.kept.items →
        AreHeldFor (sure_at c.args.log.now) g.O.Object.after c.args.log.now c.args.under_way.now c.args.ending c.args.from.now.state
        c.args.from.now.placed.items tried sets.waiting.items sets.kept.items
    held tried tried' e sets sets' f h =
        let Q : List ℕ → Type 0 = λ z. AreHeldFor (sure_at c.args.log.now) g.O.Object.after c.args.log.now c.args.under_way.now
        c.args.ending c.args.from.now.state c.args.from.now.placed.items z sets.waiting.items sets.kept.items in
        let R : Ending g.row.O.Denot → Type 0 = λ z. AreHeldFor (sure_at c.args.log.now) g.O.Object.after c.args.log.now
        c.args.under_way.now c.args.ending c.args.from.now.state c.args.from.now.placed.items tried' z.waiting.items z.kept.items in
        subst Q (sym e) (subst R (sym f) h)

    P : Ending g.row.O.Denot → Type 0
    P z = IsExplored (sure_at c.args.log.now) g.O.Object.after c.args.log.now c.args.under_way.now c.args.ending c.args.from.now.state
        c.args.from.now.placed.items (c.loop-place.place-index + 1) c.args.sets.now.waiting.items c.args.sets.now.kept.items
        z.waiting.items z.kept.items

pub returns : goal.returns
returns g c =
    let done : length c.args.under_way.now ≤ c.loop-place.place-index = c.loop-place-test.false in
    let same : c.loop-place.place-index ≡ length c.args.under_way.now = let l = c.loop-place.auto.place-index-end in omega arith in
    let P : ℕ → Type 0 = λ z. IsExplored (sure_at c.args.log.now) g.O.Object.after c.args.log.now c.args.under_way.now c.args.ending
    c.args.from.now.state
    c.args.from.now.placed.items z c.args.sets.now.waiting.items c.args.sets.now.kept.items c.loop-place.sets.waiting.items
    c.loop-place.sets.kept.items in
    subst P same c.loop-place.invariant.0
