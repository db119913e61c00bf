-- The call of the board is that of the place's own, whose pass is lent from its box.
use Rattle.std.proofs.Common.{refl, subst}
use Rattle.c_boards.specs.Boards.{HasPosted, IsRefused}
use Rattle.c_boards.proofs.place.Place.post.Goals as goal

pub returns-in-Ok-clause-posted : goal.returns-in-Ok-clause-posted
returns-in-Ok-clause-posted g c =
    let call = c.in-Ok.ensures.call in
    subst (λ b. HasPosted g.F.Family g.V.RecordLaw.obeys b b c.args.self.now.pass.value c.write.new.pass c.args.words.now c.in-Ok.stamp)
    c.deref.ensures
    (subst (λ p. HasPosted g.F.Family g.V.RecordLaw.obeys c.deref.result.now c.deref.result.now
    p c.write.new.pass c.args.words.now c.in-Ok.stamp)
    c.as_mut.ensures.value
    (record {
      same = refl;
      seen = call.0;
      call = call.1;
      chosen = call.2;
      raised = c.in-Ok.ensures.raised;
      so_far = c.in-Ok.ensures.so_far;
    }))

pub returns-in-Err-clause-refused : goal.returns-in-Err-clause-refused
returns-in-Err-clause-refused g c =
    let call = c.in-Err.ensures.call in
    subst (λ b. IsRefused g.F.Family g.V.RecordLaw.obeys b b c.args.self.now.pass.value c.write.new.pass) c.deref.ensures
    (subst (λ p. IsRefused g.F.Family g.V.RecordLaw.obeys c.deref.result.now c.deref.result.now p c.write.new.pass) c.as_mut.ensures.value
    (record { same = refl; seen = call.0; call = call.1; at_limit = call.2.0; chosen = call.2.2; so_far = c.in-Err.ensures.so_far }))
