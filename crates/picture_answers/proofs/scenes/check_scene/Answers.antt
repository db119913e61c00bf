-- What `first_break` says of the slice it says of the order that it shows.
use Rattle.std.proofs.Common.{◌≡◌, List, [], ℕ, IfSome, Option, subst}
use Rattle.std.proofs.lemmas.Result.{IfOk-weaker}
use Rattle.history_explain.specs.Breaks.{IsFirstBreak, verdict_of}
use Rattle.history_core.specs.Orders.{IsVerdict}
use Rattle.history_core.specs.declared.band.Band.{Band}
use Rattle.history_explain.specs.declared.breaks.Break.{Break}
use Rattle.history_core.specs.declared.history.History.{History}
use Rattle.print_picture.specs.declared.scene.Finding.{Finding}
use Rattle.print_picture.specs.declared.scene.Scene.{Scene}
use Rattle.picture_answers.specs.Scenes.{AreSame, finding_of, IsPlainSceneOf, ShowsCheck}
use Rattle.picture_answers.proofs.scenes.check_scene.Goals as goal

module _ (history : History Band) (order slice : List ℕ) (broken : Option Break) where
  shows_check : (scene : Scene) (lines : List ℕ) (finding : Finding) → lines ≡ [] → slice ≡ order
      → finding ≡ finding_of broken → IsPlainSceneOf history lines order finding scene
      → IsVerdict AreSame history.opening history.terms history.ops slice (verdict_of broken)
      → IfSome broken (IsFirstBreak AreSame history.opening history.terms history.ops slice)
      → ShowsCheck history order scene
  shows_check scene lines finding none same found shown rule first =
      let P : List ℕ → Type 0 = λ xs. IsVerdict AreSame history.opening history.terms history.ops xs (verdict_of broken) in
      let Q : List ℕ → Type 0 = λ xs. IfSome broken (IsFirstBreak AreSame history.opening history.terms history.ops xs) in
      let S : Finding → Type 0 = λ f. IsPlainSceneOf history [] order f scene in
      let L : List ℕ → Type 0 = λ ls. IsPlainSceneOf history ls order finding scene in
      record { broken = broken; shown = subst S found (subst L none shown); rule = subst P same rule; first = subst Q same first }

pub returns : goal.returns
returns c =
    IfOk-weaker c.plain_scene.result _ _
    (λ scene shown. shows_check c.args.history c.args.order _ _ scene _ _ c.no_lines.ensures c.as_slice.ensures c.finding_of.ensures shown
    c.first_break-broken.ensures.rule c.first_break-broken.ensures.first)
    c.plain_scene.ensures
