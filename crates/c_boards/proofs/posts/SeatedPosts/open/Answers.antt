-- The seats are those of the new board's places.
use Rattle.std.proofs.Common.{◌∙◌, subst, sym}
use Rattle.c_boards.specs.declared.seated.Seated.{Seated}
use Rattle.c_boards.proofs.Pairing.{paired_length, paired_mapped}
use Rattle.c_boards.proofs.posts.SeatedPosts.open.Goals as goal

pub returns-in-Ok : goal.returns-in-Ok
returns-in-Ok g c =
    let opens = c.in_ok-places.ensures.opens in
    let pairs = c.in-Ok.ensures in
    let mapped = paired_mapped _ (λ (s : Seated g.row.S.Denot g.S.Sits). s.place) c.in_ok-places.places.items c.in-Ok.seated.items
    (λ x y r. r) pairs in (
      subst (g.S.Sitting.is_made c.args.n c.args.limit c.args.words) (sym mapped) opens.0,
      sym (paired_length _ c.in_ok-places.places.items c.in-Ok.seated.items pairs) ∙ opens.1,
      opens.2,
      opens.3,
    )
