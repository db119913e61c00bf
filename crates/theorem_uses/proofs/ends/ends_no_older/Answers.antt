-- The read began after the write had ended, so by the run of all calls its stamp is greater, or its record the very one.
use Rattle.std.proofs.Common.{◌≡◌, [], ◌∷◌, ◌++◌, sym, ◌∙◌, ap, subst, inl, inr}
use Rattle.matrix_core.specs.Stamps.{IsBelow}
use Rattle.board_live.specs.Ends.{AllPasses, HaveAtomicOrder}
use Rattle.theorem_uses.proofs.Lists.{three_end, three_passes}
use Rattle.theorem_uses.proofs.ends.ends_no_older.Goals as goal

pub finish-requires : goal.finish-requires
finish-requires g c =
    let q = c.pass_on.new.q in
    let p = c.pass_on.new.p in
    let r = c.pass_on.new.r in
    let passes : c.push-3.new.self.items ≡ q ∷ p ∷ r ∷ [] = c.in_ok-push-3.ensures.items ∙ ap (λ z. z ++ r ∷ [])
    (c.in_ok-push-2.ensures.items
    ∙ ap (λ z. z ++ p ∷ []) (c.in_ok-push.ensures.items ∙ ap (λ z. z ++ q ∷ []) c.in_ok-passes.ensures.items)) in
    let e = c.in-Some.ensures in
    subst (λ ps. AllPasses g.F.Family g.V.RecordLaw.obeys c.args.board ps) (sym passes)
    (three_passes g.F.Family c.args.board g.V.RecordLaw.obeys q p r c.requires.three e.q.0 (e.q.1 ∙ c.requires.q.who) e.p.0
    (e.p.1 ∙ c.requires.p.who) e.r.0 (e.r.1 ∙ c.requires.r.who))

pub returns : goal.returns
returns g c =
    let board = c.args.board in
    let q = c.pass_on.new.q in
    let p = c.pass_on.new.p in
    let r = c.pass_on.new.r in
    let passes : c.push-3.new.self.items ≡ q ∷ p ∷ r ∷ [] = c.in_ok-push-3.ensures.items ∙ ap (λ z. z ++ r ∷ [])
    (c.in_ok-push-2.ensures.items
    ∙ ap (λ z. z ++ p ∷ []) (c.in_ok-push.ensures.items ∙ ap (λ z. z ++ q ∷ []) c.in_ok-passes.ensures.items)) in
    let atomic = subst (λ ps. HaveAtomicOrder g.F.Family board ps c.finish.result) passes c.finish.ensures.atomic in
    let h = c.in-Some.ensures.heard [] [] c.requires.q.none c.requires.r.none in
    let wrote = h.records.0 in
    let answer = h.records.1 in
    elim (three_end g.F.Family board q p r c.finish.result h.write h.read c.requires.three atomic h.wrote
    (c.in-Some.ensures.silent c.requires.p.told [] c.requires.p.none) h.looked h.later) [
      | inl below ↦ inl (subst (λ a. IsBelow a c.in-Some.answer.stamp) (ap (λ z. z.stamp) wrote)
          (subst (λ a. IsBelow h.write.chosen.stamp a) (ap (λ z. z.stamp) answer) below))
      | inr same ↦
          let one = sym wrote ∙ same ∙ answer in
          inr (ap (λ z. z.stamp) one, ap (λ z. z.item) one)
    ]
