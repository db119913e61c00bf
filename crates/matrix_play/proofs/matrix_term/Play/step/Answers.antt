-- The first access of an operation comes after its beginning; any other one is an access alone.
use Rattle.std.proofs.Common.{◌≡◌, ◌≢◌, ◌∙◌, sym, ap, arith}
use Rattle.std.specs.Prelude.{slice_get, Some}
use Rattle.std.proofs.lemmas.Option.{same_Some}
use Rattle.history_core.specs.declared.wish.Wish.{Wish}
use Rattle.matrix_core.specs.declared.progress.Progress.{Progress}
use Rattle.matrix_play.specs.inner.MatrixPlays.{MatrixPlaying, accesses, began}
use Rattle.matrix_play.proofs.matrices.Steps.{step_begins, step_goes_on}
use Rattle.matrix_play.proofs.matrix_term.Play.step.Goals as goal
use Rattle.matrix_play.proofs.matrix_term.Play.step.Goals.{then-line-eq0+in_ok-wish, else-line-eq0}

pub returns : goal.returns
returns g c =
    let line : Progress g.row.R.Denot = c.line.result.now in
    let at : slice_get c.args.self.now.matrix.lines c.args.who ≡ Some line =
    ap (λ (z : MatrixPlaying g.row.R.Denot). slice_get z.matrix.lines c.args.who) (sym c.self.view_is) ∙ c.line.ensures.at in
    let done = c.access.ensures in
    elim c.if-line-eq0.branch [
      | then-line-eq0+in_ok-wish w ↦
          let is : c.if-line-eq0.self ≡ began c.args.self.now c.args.who w.in_ok-wish.wish = w.self-is ∙ w.in_ok-wish.ensures.1 in
          let same : done.0 ≡ line = same_Some done.0 line
          (sym done.1 ∙ (ap (λ (z : MatrixPlaying g.row.R.Denot). slice_get z.matrix.lines c.args.who) is ∙ at)) in
          done.2 ∙ (ap (accesses c.if-line-eq0.self c.args.who c.if-line-eq0.wish) same
          ∙ (ap (λ (z : MatrixPlaying g.row.R.Denot). accesses z c.args.who c.if-line-eq0.wish line) is
          ∙ (ap (λ (z : Wish g.row.R.Denot). accesses (began c.args.self.now c.args.who w.in_ok-wish.wish) c.args.who z line) w.wish-is
          ∙ sym (step_begins c.args.plans.now c.args.self.now c.args.who w.in_ok-wish.wish line at w.if-line-eq0.true
          w.in_ok-wish.ensures.0))))
      | else-line-eq0 w ↦
          let none : line.done ≢ 0 = w.if-line-eq0.false in
          let same : done.0 ≡ line = same_Some done.0 line
          (sym done.1 ∙ (ap (λ (z : MatrixPlaying g.row.R.Denot). slice_get z.matrix.lines c.args.who) w.self-is ∙ at)) in
          done.2 ∙ (ap (accesses c.if-line-eq0.self c.args.who c.if-line-eq0.wish) same
          ∙ (ap (λ (z : MatrixPlaying g.row.R.Denot). accesses z c.args.who c.if-line-eq0.wish line) w.self-is
          ∙ (ap (λ (z : Wish g.row.R.Denot). accesses c.args.self.now c.args.who z line) w.wish-is
          ∙ sym (step_goes_on c.args.plans.now c.args.self.now c.args.who line at (omega arith)))))
    ]
