-- One more row is settled; at the end those of use are all that are left.
use Rattle.std.proofs.Common.{◌≡◌, ◌∙◌, ◌<◌, arith, length, refl, subst, take, ℕ}
use Rattle.history_thinning.specs.inner.Kept.{groups_at}
use Rattle.history_thinning.proofs.Compacted.{IsPartly, partly_first, partly_next, settled, thinned_few}
use Rattle.history_thinning.proofs.Steps.{thinned_same}
use Rattle.history_thinning.proofs.compact.compact.Goals as goal

pub loop-from-init : goal.loop-from-init
loop-from-init c = (
  refl,
  refl,
  omega arith,
  λ log known. partly_first log c.args.rows.now.ops.items c.args.rows.now.places.items
      c.args.roles.now.items known,
)

pub loop-from-preserved : goal.loop-from-preserved
loop-from-preserved c =
    let inv = c.loop-from.invariant in
    let ops = c.loop-from.rows.ops.items in
    let places = c.loop-from.rows.places.items in
    let all : c.loop-from.from < length c.args.rows.now.ops.items =
    omega (arith, c.loop-from-test.true, c.count_rows-from-end.ensures.ops) in
    let lo : c.loop-from.from < length ops = omega (arith, c.loop-from-test.true, c.count_rows-from-end.ensures.ops, inv.0) in
    let lp : c.loop-from.from < length places = omega (arith, c.loop-from-test.true, c.count_rows-from-end.ensures.places, inv.1) in
    let s = settled c.loop-from.from c.loop-from.used ops places c.loop-from.roles.items c.settle-used.new.rows.ops.items
    c.settle-used.new.rows.places.items c.settle-used.new.roles.items c.settle-used.result c.settle-used.ensures lo lp inv.2 in (
      s.0 ∙ inv.0,
      s.1 ∙ inv.1,
      s.2,
      λ log known. partly_next log
          (groups_at c.args.rows.now.ops.items c.args.rows.now.places.items c.args.roles.now.items) (length c.args.rows.now.ops.items)
          c.loop-from.from c.loop-from.used ops places c.loop-from.roles.items (inv.3 log known) all c.settle-used.new.rows.ops.items
          c.settle-used.new.rows.places.items c.settle-used.new.roles.items c.settle-used.result c.settle-used.ensures,
    )

pub returns : goal.returns
returns c = λ log known.
    let old_ops = c.args.rows.now.ops.items in
    let old_places = c.args.rows.now.places.items in
    let old_roles = c.args.roles.now.items in
    let used : ℕ = c.loop-from.used in
    let ops = c.loop-from.rows.ops.items in
    let places = c.loop-from.rows.places.items in
    let roles = c.loop-from.roles.items in
    let inv = c.loop-from.invariant in
    let same : c.loop-from.from ≡ length old_ops =
    omega (arith, c.loop-from-test.false, c.loop-from.auto.from-end, c.count_rows-from-end.ensures.all known.rows.long) in
    let P : ℕ → Type 0 = λ z. IsPartly log (groups_at old_ops old_places old_roles) (length old_ops) z used ops places roles in
    let few = thinned_few log old_ops old_places old_roles known (length old_ops) used ops places roles (subst P same (inv.3 log known)) in
    thinned_same log (take used ops) (take used places) roles few c.truncate.new.self.items c.truncate.ensures.items
    c.truncate-2.new.self.items c.truncate-2.ensures.items roles refl
