-- A new record is entered, and all on the path are placed.
use Rattle.std.proofs.Common.{◌≡◌, ℕ, List, slice_get, None, Some, true, ap, sym, subst, ◌∙◌, rules}
use Rattle.history_coherence.specs.declared.walk.Mark.{Mark}
use Rattle.history_coherence.specs.declared.walk.Mark.TheVariants.{New, Open}
use Rattle.history_coherence.specs.inner.Walks.{AreFurther, is_new}
use Rattle.history_coherence.proofs.Edges.{if_none_from, if_none_of, set_here}
use Rattle.history_coherence.proofs.Walking.{enter_keeps, further_on, further_set, new_by, rank_after}
use Rattle.history_coherence.proofs.walk.place_one.Goals as goal

pub place_path-requires-clause-walking : goal.place_path-requires-clause-walking
place_path-requires-clause-walking c =
    let a = c.args.walk.now in
    let t = c.args.tables.now in
    let yes : c.is_new.result ≡ true = search rules in
    let n = new_by a.marks.items c.args.number
    (sym (c.is_new.ensures ∙ ap (λ (z : List Mark). is_new (slice_get z c.args.number)) c.as_slice.ensures.value) ∙ yes) in
    let h = c.in_ok-enter.ensures in
    rw (h.marks, h.cursors, h.path, h.placed) (enter_keeps t.keys.items t.earlier.items a.marks.items a.cursors.items a.path.items
    a.placed.items c.requires.walking c.args.number n
    (λ i x e l. let z : None ≡ Some x = sym (ap (λ (p : List ℕ). slice_get p i) c.requires.empty) ∙ e in cc))

pub returns-clause-further : goal.returns-clause-further
returns-clause-further c =
    let a = c.args.walk.now in
    let yes : c.is_new.result ≡ true = search rules in
    let n = new_by a.marks.items c.args.number
    (sym (c.is_new.ensures ∙ ap (λ (z : List Mark). is_new (slice_get z c.args.number)) c.as_slice.ensures.value) ∙ yes) in
    let h = c.in_ok-enter.ensures in
    let P : List Mark → Type 0 = λ z. AreFurther a.marks.items z in
    further_on a.marks.items c.enter.new.walk.marks.items c.place_path.new.walk.marks.items
    (subst P (sym h.marks) (further_set a.marks.items c.args.number New Open n tt)) c.in_ok-found.ensures.further

pub returns-clause-placed : goal.returns-clause-placed
returns-clause-placed c =
    let t = c.args.tables.now in
    let w = c.place_path.new.walk in
    let h = c.in_ok-enter.ensures in
    let at : slice_get c.enter.new.walk.marks.items c.args.number ≡ Some Open =
    ap (λ (z : List Mark). slice_get z c.args.number) h.marks ∙ set_here c.args.walk.now.marks.items c.args.number Open c.requires.within in
    if_none_from c.in_ok-found.found _ (λ e.
    rank_after t.keys.items t.earlier.items w.marks.items w.cursors.items w.path.items w.placed.items c.in_ok-found.ensures.walking
    (if_none_of c.in_ok-found.found _ c.in_ok-found.ensures.empty e) c.enter.new.walk.marks.items c.args.number
    c.in_ok-found.ensures.further at)
