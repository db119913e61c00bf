-- A finished operation without a group is one by the two tests.
use Rattle.std.proofs.Common.{◌≡◌, ◌<◌, ℕ, Option, length, get_or, arith, false, true, None, Some, ap, refl, sym, ◌∙◌}
use Rattle.std.specs.Prelude.{is_some}
use Rattle.std.proofs.lemmas.Option.{slice_get-get_or}
use Rattle.history_search.proofs.Loops.{have_more}
use Rattle.history_search.proofs.group.first_ungrouped.Goals as goal
use Rattle.history_search.proofs.group.first_ungrouped.Goals.{else-is_some-via-then-is_some+else-is_none, else-is_some-via-else-is_some}

isnt_there : (o : Option ℕ) → is_some o ≡ false → o ≡ None
isnt_there None h = refl
isnt_there (Some x) h = cc

pub loop-place-preserved : goal.loop-place-preserved
loop-place-preserved g c =
    let n : ℕ = c.loop-place.place in
    let l : n < length c.args.ops.now = c.loop-place-test.true in
    let lg : n < length c.args.groups.now = let e = c.requires in omega arith in
    let o = get_or c.args.ops.now n c.index-ops-place.result in
    let group : Option ℕ = get_or c.args.groups.now n None in
    let more = have_more c.args.ops.now c.args.groups.now n o group (slice_get-get_or c.args.ops.now n c.index-ops-place.result l)
    (slice_get-get_or c.args.groups.now n None lg) in
    elim c.else-is_some.branch [
      | else-is_some-via-then-is_some+else-is_none w ↦
          more (λ h. let e : is_some group ≡ false = ap is_some h.1 in let s : is_some group ≡ true = w.if-is_none.ensures in cc)
          c.loop-place.invariant
      | else-is_some-via-else-is_some w ↦
          more (λ h. let s : false ≡ is_some o.ends = w.if-is_some.ensures in let e : is_some o.ends ≡ true = h.0 in cc) c.loop-place.invariant
    ]

pub returns-then-is_none-clause-some : goal.returns-then-is_none-clause-some
returns-then-is_none-clause-some g c =
    let n : ℕ = c.loop-place.place in
    let l : n < length c.args.ops.now = c.loop-place-test.true in
    let lg : n < length c.args.groups.now = let e = c.requires in omega arith in (
      get_or c.args.ops.now n c.index-ops-place.result,
      slice_get-get_or c.args.ops.now n c.index-ops-place.result l,
      sym c.if-is_some.ensures,
      slice_get-get_or c.args.groups.now n None lg ∙ ap Some (isnt_there (get_or c.args.groups.now n None) c.if-is_none.ensures),
    )
