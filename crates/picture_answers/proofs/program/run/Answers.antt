-- A run that is given words besides its name is asked for nothing that it does.
use Rattle.std.proofs.Common.{◌≡◌, Bool, false, ℕ, refl, subst, sym}
use Rattle.program_runs.proofs.RunLemmas.{ends_unasked}
use Rattle.program_runs.specs.Run.{never, Runs}
use Rattle.picture_answers.specs.Run.{IsPictureOutcome}
use Rattle.picture_answers.proofs.program.run.Goals as goal

pub returns-then-not-asked-clause-runs : goal.returns-then-not-asked-clause-runs
returns-then-not-asked-clause-runs g c =
    let input = g.I.Source.remaining c.args.input.now in
    let out = g.O.Sink.contents c.args.out.now in
    let Ends : Bool → ℕ → Type 0 = λ asked status. Runs (IsPictureOutcome asked) never input input out out status in
    let unasked : c.args.asked ≡ false = c.if-not-asked.true in
    subst (Ends c.args.asked) (sym c.status.ensures.is)
    (subst (λ asked. Ends asked 2) (sym unasked) (ends_unasked (IsPictureOutcome false) never _ _ refl))
