-- What was kept of a log, in its order, is the log thinned.
use Rattle.std.proofs.Common.{◌≡◌, ℕ, Bool, true, List, slice_get, Option, None, Some}
use Rattle.std.proofs.Common.{refl, ◌∙◌, ap}
use Rattle.std.specs.Prelude.{IsSome, is_some, ◌||◌}
use Rattle.history_core.specs.declared.history.Op.{Op}
use Rattle.history_core.specs.Orders.{is_write}
use Rattle.history_core.specs.Reasons.{counts}
use Rattle.history_core.proofs.Atomic.{of_one, some_from}
use Rattle.history_thinning.specs.declared.group.Placed.{Placed}
use Rattle.history_thinning.specs.declared.group.Roles.{Roles}
use Rattle.history_thinning.specs.Thinnings.{Equal, IsMate, IsThinned}
use Rattle.history_thinning.specs.inner.Kept.{AreThinned, Group, group_at, groups_at, IsGroup, IsPlaced, placed_at}
use Rattle.history_thinning.proofs.Entered.{counts_write}
use Rattle.history_thinning.proofs.RowLemmas.{roles_of, row_of}

some_counts : (ends : Option ℕ) (b : Bool) → IsSome ends → (is_some ends || b) ≡ true
some_counts None b h = cc
some_counts (Some end) b h = refl

pub counts_finished : {R : Type 0} (o : Op R) → IsSome o.ends → counts o ≡ true
counts_finished o h = some_counts o.ends (is_write o.kind) h

pub counts_ended : {R : Type 0} (o : Op R) (end : ℕ) → o.ends ≡ Some end → counts o ≡ true
counts_ended o end e = counts_finished o (some_from o.ends end e)

module _ (log ops : List (Op ℕ)) (places : List ℕ) (roles : List Roles) (known : AreThinned log ops places roles) where
  -- what stands at an index, of this record
  abbrev StandsIn : ℕ → ℕ → Placed → Type 0
  StandsIn number k m = (slice_get places k ≡ Some m.place) × (slice_get ops k ≡ Some m.op) × IsPlaced log number m

  group_of : (number : ℕ) (group : Group) → slice_get (groups_at ops places roles) number ≡ Some group →
      (own : Roles) × (group_at ops places own ≡ group) × IsGroup log number group
  group_of number group e =
      let w = roles_of ops places roles number group e in
      (w.0, w.2, known.kept.each number group e)

  standing : (number k : ℕ) (field : Option Placed) (m : Placed) → placed_at ops places k ≡ field → field ≡ Some m → IsPlaced log number m →
      StandsIn number k m
  standing number k field m e f is = let r = row_of ops places k m (e ∙ f) in (r.1, r.0, is)

  mate_of : (number k : ℕ) (m : Placed) (o : Op ℕ) → o.item ≡ Some number → StandsIn number k m →
      (i : ℕ) × IsMate Equal ops o i m.op
  mate_of number k m o item s =
      (k, record { at = s.1; one = of_one Equal o m.op number number item s.2.item refl })

  pub finished : IsThinned Equal log ops places
  finished = record {
    long = known.rows.long;
    are = known.rows.are;
    rise = known.rows.rise;
    writes = λ p o e t.
        let s = known.kept.all p o e (counts_write o.ends o.kind t) in
        let w = s.stands.write t in
        let g = group_of s.number s.group s.at in
        let x = standing s.number g.0.write s.group.write w.0 (ap (λ (z : Group). z.write) g.1) w.1 (g.2.write w.0 w.1).0 in
        (g.0.write, x.0 ∙ ap Some w.2);
    begins = λ p o e c.
        let s = known.kept.all p o e c in
        let w = s.stands.last in
        let g = group_of s.number s.group s.at in
        let x = standing s.number g.0.last s.group.last w.0 (ap (λ (z : Group). z.last) g.1) w.1 (g.2.last w.0 w.1) in
        let a = mate_of s.number g.0.last w.0 o s.item x in
        (a.0, w.0.op, a.1, x.2.counted, w.2);
    ends = λ p end o e f.
        let s = known.kept.all p o e (counts_ended o end f) in
        let w = s.stands.first end f in
        let g = group_of s.number s.group s.at in
        let x = standing s.number g.0.first s.group.first w.0 (ap (λ (z : Group). z.first) g.1) w.1 (g.2.first w.0 w.1).0 in
        let a = mate_of s.number g.0.first w.0 o s.item x in
        (a.0, w.0.op, a.1, w.2);
    refused = λ p o e f r.
        let s = known.kept.all p o e (counts_finished o f) in
        let w = s.stands.refused r in
        let g = group_of s.number s.group s.at in
        let k = g.2.refused w.0 w.1 in
        let x = standing s.number g.0.refused s.group.refused w.0 (ap (λ (z : Group). z.refused) g.1) w.1 k.0 in
        let a = mate_of s.number g.0.refused w.0 o s.item x in
        (a.0, w.0.op, a.1, k.1, k.2);
  }
