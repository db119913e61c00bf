-- Each operation has the group that its record has in the map.
use Rattle.std.proofs.Common.{◌≡◌, ◌+◌, ◌<◌, ℕ, List, [], ◌∷◌, ◌++◌, get_or, length, map, take, ap, arith, sym, ◌∙◌}
use Rattle.std.proofs.lemmas.List.{map_more, take_all}
use Rattle.history_search.specs.inner.Groups.{group_in}
use Rattle.history_search.proofs.Known.{all_groups, once_all}
use Rattle.history_search.proofs.group.group_ops.Goals as goal

-- one more element, and what it is mapped to
more : {X Y : Type 0} (f : X → Y) (xs : List X) (i : ℕ) (x : X) (y : Y) (old new : List Y) → i < length xs → x ≡ get_or xs i x → y ≡ f x →
    old ≡ map f (take i xs) → new ≡ old ++ y ∷ [] → new ≡ map f (take (i + 1) xs)
more f xs i x y old new l at is e added =
    added ∙ ap (λ z. z ++ y ∷ []) e ∙ ap (λ z. map f (take i xs) ++ z ∷ []) (is ∙ ap f at) ∙ sym (map_more f xs i x l)

pub loop-op-preserved : goal.loop-op-preserved
loop-op-preserved g c =
    more (λ o. group_in g.R.PartialEq.eq g.R.Ord.cmp c.args.opening c.in_ok-writes.writes o) c.args.ops.now c.loop-op.op-index
    c.op-item.result c.group_of-group.result c.loop-op.groups.items c.push.new.self.items c.loop-op-test.true c.op-item.is
    c.group_of-group.ensures c.loop-op.invariant c.in-Ok.ensures.items

pub returns-clause-groups : goal.returns-clause-groups
returns-clause-groups g c =
    all_groups g.R.PartialEq.eq g.R.Ord.cmp g.met.R.Eq.laws g.met.R.Ord.total g.met.R.Ord.matches_eq c.args.opening c.args.ops.now
    c.in_ok-writes.writes c.in_ok-writes.ensures.known c.loop-op.groups.items (c.loop-op.invariant
    ∙ ap (map (λ o. group_in g.R.PartialEq.eq g.R.Ord.cmp c.args.opening c.in_ok-writes.writes o))
    (take_all c.loop-op.op-index c.args.ops.now c.loop-op-test.false))

pub returns-clause-once : goal.returns-clause-once
returns-clause-once g c =
    once_all g.R.PartialEq.eq g.R.Ord.cmp g.met.R.Eq.laws g.met.R.Ord.total g.met.R.Ord.matches_eq c.args.opening c.args.ops.now
    (length c.args.ops.now) (omega arith) c.in_ok-writes.ensures.once
