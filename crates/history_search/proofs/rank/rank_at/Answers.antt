-- What was found is what stands at the place.
use Rattle.std.proofs.Common.{◌≡◌, ℕ, Bool, List, Option, Some, None, not, slice_get, length, refl, rules}
use Rattle.std.proofs.lemmas.Option.{slice_get_read, slice_get_past}
use Rattle.history_core.specs.declared.history.Op.{Op}
use Rattle.history_core.specs.Orders.{is_write_at}
use Rattle.history_search.specs.declared.span.Span.{Span}
use Rattle.history_search.specs.inner.Groups.{spans_in}
use Rattle.history_search.specs.inner.Ranks.{first_in, group_or, last_in, late_in, rank_of, starts_of}
use Rattle.history_search.proofs.rank.rank_at.Goals as goal
use Rattle.history_search.proofs.rank.rank_at.Goals.{in-Some, in-None}

-- the parts of a rank
parts : {R : Type 0} (spans : List Span) (cut : Option (Option ℕ)) (g : ℕ) (o : Option (Op R)) (place group : ℕ) (span : Option Span)
    (late answers : Bool) (first last starts : ℕ) → group ≡ g → span ≡ slice_get spans group → late ≡ late_in cut group span →
    first ≡ first_in group span → last ≡ last_in group span → answers ≡ not (is_write_at o) → starts ≡ starts_of o →
    record { late = late; first = first; last = last; group = group; answers = answers; starts = starts; place = place }
    ≡ rank_of spans cut g o place
parts spans cut g o place group span late answers first last starts same there a b c d e = cc

pub returns : goal.returns
returns g c =
    let o = slice_get c.args.ops.now c.args.place in
    let seen : (c.match-get.answers.0 ≡ not (is_write_at o)) × (c.match-get.answers.1 ≡ starts_of o) = elim c.match-get.branch [
      | in-Some w ↦
          let t = w.in-Some.ensures.lookup in
          let at : slice_get c.args.ops.now c.args.place ≡ Some w.in-Some.op.now =
          slice_get_read c.args.ops.now (length c.args.ops.now) c.args.place w.in-Some.op.now refl t.3.0 t.1 in
          rw (w.answers-is, at) (search rules, refl)
      | in-None w ↦
          let t = w.in-None.ensures.lookup in
          let at : slice_get c.args.ops.now c.args.place ≡ None = slice_get_past c.args.ops.now c.args.place t.3 in
          rw (w.answers-is, at) (refl, refl)
    ] in
    parts (spans_in c.args.ops.now c.args.spans.now) c.args.cut (group_or (slice_get c.args.groups.now c.args.place)) o c.args.place
    c.group_at-group.result c.span_at-span.result c.late.result c.match-get.answers.0 c.first.result c.last.result
    c.match-get.answers.1 c.group_at-group.ensures c.span_at-span.ensures c.late.ensures c.first.ensures c.last.ensures seen.0 seen.1
