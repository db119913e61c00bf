-- Each turn keeps what a walk is, and leaves less.
use Rattle.std.proofs.Common.{◌-◌, length, ap, ◌∙◌, arith}
use Rattle.std.proofs.lemmas.Option.{slice_get_within}
use Rattle.history_coherence.specs.declared.walk.Mark.TheVariants.{New, Open, Placed}
use Rattle.history_coherence.specs.declared.walk.Turn.TheVariants.{Place, Pass, Enter}
use Rattle.history_coherence.specs.inner.Keys.{number_at}
use Rattle.history_coherence.proofs.Edges.{number_within}
use Rattle.history_coherence.proofs.Walking.{comes_last, enter_keeps, further_itself, further_set, less_cursor, less_mark, meant}
use Rattle.history_coherence.proofs.Walking.{pass_keeps, place_keeps}
use Rattle.history_coherence.proofs.walk.step.Goals as goal

pub place-requires : goal.place-requires
place-requires c =
    let w = c.requires.walking in
    slice_get_within c.args.walk.now.marks.items c.args.number Open
    (w.on_path (length c.args.walk.now.path.items - 1) c.args.number c.requires.top)

pub returns-in_ok-place-in-Place-clause-walking : goal.returns-in_ok-place-in-Place-clause-walking
returns-in_ok-place-in-Place-clause-walking c =
    let a = c.args.walk.now in
    let t = c.args.tables.now in
    let k = c.args.tables.now.keys.items in
    let taken = c.number_at-cursor.ensures ∙ ap (λ z. number_at z c.args.number) c.as_slice.ensures.value in
    let m = meant k t.earlier.items a.marks.items a.cursors.items a.path.items a.placed.items c.requires.walking c.args.number
    c.as_slice-2.result.now c.number_at-cursor.result Place c.as_slice-2.ensures.value taken c.in-Place.ensures in
    let h = c.in_ok-place-in-Place.ensures in
    rw (h.marks, h.cursors, h.path, h.placed) (place_keeps k t.earlier.items a.marks.items a.cursors.items a.path.items a.placed.items
    c.requires.walking c.args.number c.requires.top m)

pub returns-in_ok-place-in-Place-clause-further : goal.returns-in_ok-place-in-Place-clause-further
returns-in_ok-place-in-Place-clause-further c =
    let a = c.args.walk.now in
    let h = c.in_ok-place-in-Place.ensures in
    let w = c.requires.walking in
    rw h.marks (further_set a.marks.items c.args.number Open (Placed (length a.placed.items))
    (w.on_path (length a.path.items - 1) c.args.number c.requires.top) tt)

pub returns-in_ok-place-in-Place-clause-less : goal.returns-in_ok-place-in-Place-clause-less
returns-in_ok-place-in-Place-clause-less c =
    let a = c.args.walk.now in
    let h = c.in_ok-place-in-Place.ensures in
    let w = c.requires.walking in
    let l = less_mark a.marks.items c.args.number Open (Placed (length a.placed.items))
    (w.on_path (length a.path.items - 1) c.args.number c.requires.top) (omega arith) in
    rw (h.marks, h.cursors) (omega (arith, l))

pub returns-in-Pass-clause-walking : goal.returns-in-Pass-clause-walking
returns-in-Pass-clause-walking c =
    let a = c.args.walk.now in
    let t = c.args.tables.now in
    let k = c.args.tables.now.keys.items in
    let taken = c.number_at-cursor.ensures ∙ ap (λ z. number_at z c.args.number) c.as_slice.ensures.value in
    let w = c.requires.walking in
    let m = meant k t.earlier.items a.marks.items a.cursors.items a.path.items a.placed.items w c.args.number
    c.as_slice-2.result.now c.number_at-cursor.result (Pass c.in-Pass.later) c.as_slice-2.ensures.value taken c.in-Pass.ensures in
    let h = c.pass.ensures in
    let key = w.at_cursor c.args.number c.in-Pass.later m.0 in
    let p = c.requires.mates.each c.in-Pass.later c.args.number (number_within k c.in-Pass.later c.args.number key) key in
    rw (h.marks, h.cursors, h.path, h.placed) (pass_keeps k t.earlier.items a.marks.items a.cursors.items a.path.items a.placed.items w
    c.args.number c.requires.top c.in-Pass.later (number_at t.mates.items c.in-Pass.later) m.0 m.1 p)

pub returns-in-Pass-clause-further : goal.returns-in-Pass-clause-further
returns-in-Pass-clause-further c = let h = c.pass.ensures in rw h.marks (further_itself c.args.walk.now.marks.items)

pub returns-in-Pass-clause-less : goal.returns-in-Pass-clause-less
returns-in-Pass-clause-less c =
    let a = c.args.walk.now in
    let t = c.args.tables.now in
    let k = c.args.tables.now.keys.items in
    let taken = c.number_at-cursor.ensures ∙ ap (λ z. number_at z c.args.number) c.as_slice.ensures.value in
    let w = c.requires.walking in
    let m = meant k t.earlier.items a.marks.items a.cursors.items a.path.items a.placed.items w c.args.number
    c.as_slice-2.result.now c.number_at-cursor.result (Pass c.in-Pass.later) c.as_slice-2.ensures.value taken c.in-Pass.ensures in
    let h = c.pass.ensures in
    let key = w.at_cursor c.args.number c.in-Pass.later m.0 in
    let p = c.requires.mates.each c.in-Pass.later c.args.number (number_within k c.in-Pass.later c.args.number key) key in
    let l = less_cursor k a.cursors.items c.args.number c.in-Pass.later (number_at t.mates.items c.in-Pass.later) m.0 p in
    rw (h.marks, h.cursors) (omega (arith, l))

pub returns-in_ok-enter-in-Enter-clause-walking : goal.returns-in_ok-enter-in-Enter-clause-walking
returns-in_ok-enter-in-Enter-clause-walking c =
    let a = c.args.walk.now in
    let t = c.args.tables.now in
    let k = c.args.tables.now.keys.items in
    let taken = c.number_at-cursor.ensures ∙ ap (λ z. number_at z c.args.number) c.as_slice.ensures.value in
    let w = c.requires.walking in
    let m = meant k t.earlier.items a.marks.items a.cursors.items a.path.items a.placed.items w c.args.number
    c.as_slice-2.result.now c.number_at-cursor.result (Enter c.in-Enter.from) c.as_slice-2.ensures.value taken c.in-Enter.ensures in
    let h = c.in_ok-enter-in-Enter.ensures in
    rw (h.marks, h.cursors, h.path, h.placed) (enter_keeps k t.earlier.items a.marks.items a.cursors.items a.path.items a.placed.items w
    c.in-Enter.from m.6 (comes_last k t.earlier.items a.marks.items a.cursors.items a.path.items a.placed.items w c.args.number
    c.requires.top c.in-Enter.from m))

pub returns-in_ok-enter-in-Enter-clause-further : goal.returns-in_ok-enter-in-Enter-clause-further
returns-in_ok-enter-in-Enter-clause-further c =
    let a = c.args.walk.now in
    let t = c.args.tables.now in
    let k = c.args.tables.now.keys.items in
    let taken = c.number_at-cursor.ensures ∙ ap (λ z. number_at z c.args.number) c.as_slice.ensures.value in
    let m = meant k t.earlier.items a.marks.items a.cursors.items a.path.items a.placed.items c.requires.walking c.args.number
    c.as_slice-2.result.now c.number_at-cursor.result (Enter c.in-Enter.from) c.as_slice-2.ensures.value taken c.in-Enter.ensures in
    let h = c.in_ok-enter-in-Enter.ensures in
    rw h.marks (further_set a.marks.items c.in-Enter.from New Open m.6 tt)

pub returns-in_ok-enter-in-Enter-clause-less : goal.returns-in_ok-enter-in-Enter-clause-less
returns-in_ok-enter-in-Enter-clause-less c =
    let a = c.args.walk.now in
    let t = c.args.tables.now in
    let k = c.args.tables.now.keys.items in
    let taken = c.number_at-cursor.ensures ∙ ap (λ z. number_at z c.args.number) c.as_slice.ensures.value in
    let m = meant k t.earlier.items a.marks.items a.cursors.items a.path.items a.placed.items c.requires.walking c.args.number
    c.as_slice-2.result.now c.number_at-cursor.result (Enter c.in-Enter.from) c.as_slice-2.ensures.value taken c.in-Enter.ensures in
    let h = c.in_ok-enter-in-Enter.ensures in
    let l = less_mark a.marks.items c.in-Enter.from New Open m.6 (omega arith) in
    rw (h.marks, h.cursors) (omega (arith, l))
