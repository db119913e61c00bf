-- The receipt has the time of the write's end, and the read begins after the times that its process was told.
use Rattle.std.proofs.Common.{◌≡◌, [], ◌∷◌, refl, sym, ◌∙◌, ap, subst, arith}
use Rattle.history_core.specs.declared.history.Kind.TheVariants.{Read, Write}
use Rattle.board_live.specs.Ends.{AllPasses, HaveAtomicOrder}
use Rattle.board_live.specs.Records.{stamped}
use Rattle.example_control.proofs.Three.{crossed, two_passes, two_pushed}
use Rattle.example_control.proofs.receipts.ends_in_order.Goals as goal

pub finish-last-requires : goal.finish-last-requires
finish-last-requires g c =
    let w = c.tell-receipt.new.pass in
    let r = c.read-seen.new.pass in
    let passes : c.push_reserved-2.new.self.items ≡ w ∷ r ∷ [] = two_pushed c.in_ok-passes.passes.items c.push_reserved.new.self.items
    c.push_reserved-2.new.self.items w r c.in_ok-passes.ensures.items c.push_reserved.ensures.items c.push_reserved-2.ensures.items in
    subst (λ ps. AllPasses g.F.Family g.V.RecordLaw.obeys c.args.board ps) (sym passes)
    (two_passes g.F.Family c.args.board g.V.RecordLaw.obeys w r c.requires.two c.tell-receipt.ensures.pass
    (c.tell-receipt.ensures.process ∙ c.in-Ok.ensures.call.1.process ∙ c.requires.writer.who) c.read-seen.ensures.pass
    (c.read-seen.ensures.call.process ∙ c.learn.ensures.same.process ∙ c.requires.reader.who))

pub returns : goal.returns
returns g c =
    let clock = g.F.Family.clock in
    let w = c.tell-receipt.new.pass in
    let r = c.read-seen.new.pass in
    let passes : c.push_reserved-2.new.self.items ≡ w ∷ r ∷ [] = two_pushed c.in_ok-passes.passes.items c.push_reserved.new.self.items
    c.push_reserved-2.new.self.items w r c.in_ok-passes.ensures.items c.push_reserved.ensures.items c.push_reserved-2.ensures.items in
    let atomic = subst (λ ps. HaveAtomicOrder g.F.Family c.args.board ps c.finish-last.result) passes c.finish-last.ensures.atomic in
    let write = c.in-Ok.ensures.call.1 in
    let chose = c.in-Ok.ensures.call.2 in
    let read = c.read-seen.ensures.call in
    let wrote : clock c.write.new.pass.seat ≡ write.end = write.interval.2 in
    let told = c.tell-receipt.ensures.later in
    let heard = c.learn.ensures.learnt.time in
    let begins = read.interval.0 in
    crossed g.F.Family c.args.board w r c.args.item c.finish-last.result
    (record {
      begin = write.begin;
      end = write.end;
      kind = Write;
      seen = stamped c.in-Ok.ensures.call.0;
      chosen = stamped c.write.new.pass.own;
      tells = write.tells;
      finds = write.finds;
    })
    (record {
      begin = read.begin;
      end = read.end;
      kind = Read;
      seen = stamped c.read-seen.result;
      chosen = stamped r.own;
      tells = read.tells;
      finds = read.finds;
    }) atomic
    ((c.tell-receipt.ensures.same c.in-Ok.ensures.told).made _ (write.made [] c.requires.writer.none))
    (read.made [] (c.learn.ensures.same.made [] c.requires.reader.none)) refl refl (ap (λ z. z.item) chose.2)
    (omega (arith, wrote, told, heard, begins))
