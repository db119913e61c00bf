-- The read began after the write had ended, and there is no other write.
use Rattle.std.proofs.Common.{◌≡◌, ◌<◌, [], ◌∷◌, ◌++◌, refl, sym, ◌∙◌, ap, subst, arith}
use Rattle.history_core.specs.declared.history.Kind.TheVariants.{Read, Write}
use Rattle.board_live.specs.Ends.{AllPasses, HaveAtomicOrder}
use Rattle.board_live.specs.Records.{stamped}
use Rattle.theorem_uses.proofs.Lists.{two_end, two_passes}
use Rattle.theorem_uses.proofs.ends.gives_back.Goals as goal

pub finish-requires : goal.finish-requires
finish-requires g c =
    let w = c.tell-receipt.new.pass in
    let r = c.read-answer.new.pass in
    let passes : c.push-2.new.self.items ≡ w ∷ r ∷ [] = c.in_ok-push-2.ensures.items ∙ ap (λ z. z ++ r ∷ [])
    (c.in_ok-push.ensures.items ∙ ap (λ z. z ++ w ∷ []) c.in_ok-passes.ensures.items) in
    subst (λ ps. AllPasses g.F.Family g.V.RecordLaw.obeys c.args.board ps) (sym passes)
    (two_passes g.F.Family c.args.board g.V.RecordLaw.obeys w r c.requires.two c.tell-receipt.ensures.pass
    (c.tell-receipt.ensures.process ∙ c.in-Ok.ensures.call.1.process ∙ c.requires.writer.who) c.read-answer.ensures.pass
    (c.read-answer.ensures.call.process ∙ c.learn.ensures.same.process ∙ c.requires.reader.who))

pub returns : goal.returns
returns g c =
    let clock = g.F.Family.clock in
    let w = c.tell-receipt.new.pass in
    let r = c.read-answer.new.pass in
    let passes : c.push-2.new.self.items ≡ w ∷ r ∷ [] = c.in_ok-push-2.ensures.items ∙ ap (λ z. z ++ r ∷ [])
    (c.in_ok-push.ensures.items ∙ ap (λ z. z ++ w ∷ []) c.in_ok-passes.ensures.items) in
    let atomic = subst (λ ps. HaveAtomicOrder g.F.Family c.args.board ps c.finish.result) passes c.finish.ensures.atomic in
    let write = c.in-Ok.ensures.call.1 in
    let chose = c.in-Ok.ensures.call.2 in
    let read = c.read-answer.ensures.call in
    let wrote : clock c.write.new.pass.seat ≡ write.end = write.interval.2 in
    let told = c.tell-receipt.ensures.later in
    let heard = c.learn.ensures.learnt.time in
    let begins = read.interval.0 in
    let tag : 0 < c.write.new.pass.own.stamp.tag =
    let a = ap (λ z. z.stamp.tag) chose.2 in let b = ap (λ z. z.tag) chose.1 in omega (arith, a, b) in
    let same = two_end g.F.Family c.args.board w r c.finish.result
    (record {
      begin = write.begin;
      end = write.end;
      kind = Write;
      seen = stamped c.in-Ok.ensures.call.0;
      chosen = stamped c.write.new.pass.own;
      tells = write.tells;
      finds = write.finds;
    })
    (record {
      begin = read.begin;
      end = read.end;
      kind = Read;
      seen = stamped c.read-answer.result;
      chosen = stamped r.own;
      tells = read.tells;
      finds = read.finds;
    }) c.requires.two
    atomic ((c.tell-receipt.ensures.same c.in-Ok.ensures.told).made _ (write.made [] c.requires.writer.none))
    (read.made [] (c.learn.ensures.same.made [] c.requires.reader.none)) (omega (arith, wrote, told, heard, begins)) tag refl in
    sym (ap (λ z. z.item) c.read-answer.ensures.chosen) ∙ ap (λ z. z.item) same ∙ ap (λ z. z.item) chose.2
