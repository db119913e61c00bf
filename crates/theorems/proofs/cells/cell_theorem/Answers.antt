-- Each part is a clause of a call.
use Rattle.std.proofs.Common.{◌+◌, ◌≤◌, ◌∷◌, [], ◌++◌, ◌∙◌, sym, ap, subst}
use Rattle.cell_contract.specs.Intervals.{IsHeard, IsNextCall, known_as}
use Rattle.cell_contract.specs.Running.{last_or}
use Rattle.cell_contract.proofs.ListLaws.{last_snoc}
use Rattle.cell_contract.proofs.OneOrder.{one_order}
use Rattle.theorems.proofs.Learnt.{of_last, so_far_of_last}
use Rattle.theorems.proofs.cells.cell_theorem.Goals as goal

pub returns : goal.returns
returns g c =
    let words = g.C.Calls in
    let put = c.write.new.put in
    let wrote = c.tell-receipt.new.put in
    let get = c.args.get in
    let learnt = c.learn.new.get in
    let read = c.read-answer.new.get in
    let receipt = c.tell-receipt.result in
    let opening = words.opening c.args.cell in
    let same = c.tell-receipt.ensures.same.0 in
    let times = c.tell-receipt.ensures.timed.0 in
    let named = c.tell-receipt.ensures.named ∙ ap (last_or opening) c.write.ensures.written
    ∙ last_snoc opening (words.written c.args.put) c.args.item in
    let told = c.learn.ensures.told ∙ ap (λ z. words.told get ++ z ∷ []) named in
    let law = c.read-answer.ensures.running in
    let tells = c.tell-receipt.ensures.tells ∙ (λ i. known_as (sym same i) (sym times i)) in
    let heard = c.read-answer.ensures.heeds.0 ∙ c.learn.ensures.heard ∙ ap (λ z. words.heard get ++ z ∷ []) tells in
    record {
      wrote = wrote;
      learnt = learnt;
      read = read;
      written = same ∙ c.write.ensures.written;
      write_timed = subst (λ z. IsNextCall (words.put_times c.args.put) z) (sym times) c.write.ensures.timed;
      write_accesses = subst (λ z. z ≤ words.put_accesses c.args.put + 3) (sym c.tell-receipt.ensures.same.1) c.write.ensures.accesses;
      answers = c.read-answer.ensures.answers ∙ ap (λ z. z ++ c.read-answer.result ∷ []) c.learn.ensures.same.0;
      heard = subst (IsHeard (words.get_times get) (words.get_times learnt))
          (c.tell-receipt.ensures.timed.1 ∙ ap (λ z. z.clock) (sym times)) c.learn.ensures.timed;
      read_timed = c.read-answer.ensures.timed;
      read_accesses = subst (λ z. words.get_accesses read ≤ z + 3) c.learn.ensures.same.1 c.read-answer.ensures.accesses;
      lawful = (
        law.0,
        subst (λ z. g.T.Lawful.rises (last_or opening z) c.read-answer.result) c.learn.ensures.same.0 law.2,
        of_last (λ z. g.T.Lawful.rises z c.read-answer.result) (words.told get) c.args.item (words.told learnt) told law.3,
      );
      so_far = so_far_of_last g.T.Lawful.fits g.T.Lawful.rises opening (words.heard get)
          (known_as (words.written wrote) (words.put_times wrote)) (words.heard read) heard (words.answers read) (words.get_times read)
          c.read-answer.ensures.so_far;
      order = one_order opening (words.written wrote) (words.put_times wrote) (words.answers read) (words.numbers read)
          (words.get_times read) c.finish.ensures.atomic;
      ended = c.finish.ensures.ended;
    }
