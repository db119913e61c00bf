-- The operation begins where it has to, and then the step is made.
use Rattle.std.proofs.Common.{◌∙◌, ap, sym, subst}
use Rattle.composed_play.specs.inner.BoardPlays.{CanHappen, happened, BoardPlaying}
use Rattle.composed_play.proofs.boards.Telling.{can_happen, step_plays}
use Rattle.composed_play.proofs.board_term.BoardPlay.step.Goals as goal

pub open_first-requires : goal.open_first-requires
open_first-requires g c = record { seats = (c.requires.inside, c.requires.at_most) }

pub happen-requires : goal.happen-requires
happen-requires g c =
    subst (λ (p : BoardPlaying g.row.R.Denot). CanHappen p c.args.who) (sym c.in_ok-open_first.ensures)
    (can_happen c.args.self.now c.args.who c.wish-wish.result c.args.plans.now c.requires)

pub returns : goal.returns
returns g c =
    c.happen.ensures
    ∙ ap (λ (p : BoardPlaying g.row.R.Denot). happened p c.args.who c.wish-wish.result) c.in_ok-open_first.ensures
    ∙ sym (step_plays c.args.self.now c.args.who c.wish-wish.result c.args.plans.now c.wish-wish.ensures)
