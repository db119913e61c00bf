-- The seat of the last place stands before those that were made.
use Rattle.std.proofs.Common.{arith, ap, refl, ◌∙◌, ◌≡◌, ◌+◌, ◌∷◌, ◌++◌, [], length, length-append}
use Rattle.std.specs.Prelude.{slice_get}
use Rattle.c_boards.proofs.Pairing.{paired_none, paired_more, paired_all, stands_before}
use Rattle.c_boards.proofs.posts.seats.Goals as goal

pub loop-init : goal.loop-init
loop-init g c = (rw c.in_ok-seated.ensures.items (paired_none _ c.args.places.items), omega arith)

pub invariant_of-push : goal.invariant_of-push
invariant_of-push g c =
    let inv = c.loop.invariant.0 in
    let left = c.pop.new.self.items in
    let whole = inv.of ∙ ap (λ z. z ++ inv.done) c.in-Some.ensures.items in
    record {
      own = ∣ c.requires (length left) c.in-Some.place
          (ap (λ z. slice_get z (length left)) whole ∙ stands_before left c.in-Some.place inv.done) ∣₁;
    }

pub loop-preserved : goal.loop-preserved
loop-preserved g c =
    let n : length c.loop.places.items ≡ length c.pop.new.self.items + 1 =
    ap length c.in-Some.ensures.items ∙ length-append c.pop.new.self.items (c.in-Some.place ∷ []) in (
      rw c.in_ok-push.ensures.items
          (paired_more _ c.args.places.items c.loop.places.items c.pop.new.self.items c.loop.seated.items c.in-Some.place _
          c.loop.invariant.0 c.in-Some.ensures.items refl),
      omega (arith, n, c.loop.invariant.1),
    )

pub returns : goal.returns
returns g c =
    let n : length c.loop.places.items ≡ 0 = omega (arith, c.loop.invariant.1) in
    rw c.reverse.ensures.items (paired_all _ c.args.places.items c.loop.places.items c.loop.seated.items c.loop.invariant.0 n)
