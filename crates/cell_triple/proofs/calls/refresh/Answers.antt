-- The load tells the notes whether the word had the mark: without it the answer is at hand, with it the swap brings it.
use Rattle.std.proofs.Common.{rules, arith, ◌≡◌, ◌%◌, ◌∷◌, ◌++◌, [], sym, ap, ◌∙◌, subst, refl, le_refl}
use Rattle.cell_contract.specs.Running.{IsAnswer, last_or}
use Rattle.cell_contract.specs.Sights.{reader_or}
use Rattle.cell_triple.specs.Steps.{answered, asked_by, fetched, first_reader, looked_by}
use Rattle.cell_contract.specs.Intervals.{AreHeeded, IsNextCall, IsNextAnswer}
use Rattle.cell_contract.proofs.ListLaws.{last_snoc}
use Rattle.cell_contract.proofs.OneOrder.{calls_so_far}
use Rattle.cell_contract.specs.CallsSoFar.{AreCallsSoFar}
use Rattle.cell_triple.specs.declared.notes.ReaderNotes.{ReaderNotes}
use Rattle.cell_contract.specs.declared.sight.Sight.TheVariants.{Reader}
use Rattle.cell_triple.proofs.calls.refresh.Goals as goal

pub look-found-requires-clause-idle : goal.look-found-requires-clause-idle
look-found-requires-clause-idle g c =
    let get = c.args.get.now in
    let n : ReaderNotes g.row.T.Denot = reader_or (first_reader get.spare.value) get.seat.inner.me.0 in
    (n, get.known, get.ready.2)

pub invariant_of-get : goal.invariant_of-get
invariant_of-get g c =
    let get = c.args.get.now in
    let d : ReaderNotes g.row.T.Denot = first_reader get.spare.value in
    let n : ReaderNotes g.row.T.Denot = reader_or d get.seat.inner.me.0 in
    let t = c.look-found.ensures.looked n get.known in let v = (t.2 c.if-found-lt4.true).4 in let had = t.0 ∙ get.held in record {
      known = v ∙ ap (λ z. Reader (reader_or d z)) (sym v);
      ready = (
        ap (λ z. (reader_or d z).has) v ∙ get.ready.0,
        ap (λ z. (reader_or d z).slot) v ∙ get.ready.1,
        ap (λ z. (reader_or d z).asked) v,
      );
      held = had ∙ (λ i. (get.slot, (reader_or d (sym v i)).at_hand.value) ∷ []);
      low = get.low;
    }

pub returns-then-found-lt4 : goal.returns-then-found-lt4
returns-then-found-lt4 g c =
    let get = c.args.get.now in
    let d : ReaderNotes g.row.T.Denot = first_reader get.spare.value in
    let n : ReaderNotes g.row.T.Denot = reader_or d get.seat.inner.me.0 in
    let t = c.look-found.ensures.looked n get.known in
    let u = t.2 c.if-found-lt4.true in let v = u.4 in
    let same : c.look-found.new.seat.inner.table_id ≡ get.seat.inner.table_id = search rules in
    let loads = ap (λ z. (reader_or d z).loads) v in
    let swaps = ap (λ z. (reader_or d z).swaps) v in
    let found = ap (λ z. (reader_or d z).found) v in
    let low = c.if-found-lt4.true in
    record {
      own = (λ i. record { table = same i; opening = (reader_or d (v i)).opening.value }) ∙ c.requires;
      answers = ap (λ z. (reader_or d z).answers) v ∙ (λ i. n.answers ++ (reader_or d (sym v i)).at_hand.value ∷ []);
      told = ap (λ z. (reader_or d z).told) v;
      running = subst (λ (z : g.row.T.Denot × g.row.T.Denot). IsAnswer g.T.Lawful.fits g.T.Lawful.rises z.0 n.answers n.told z.1)
          (λ i. ((c.requires i).opening, (reader_or d (sym v i)).at_hand.value)) u.5;
      loaded = loads;
      unmarked = λ _. swaps;
      marked = λ high. omega arith;
      accesses = omega arith;
      timed = subst (λ z. IsNextCall n.times (reader_or d z).times) (sym v)
          (record { begin = u.0; end = u.0; after = u.3; forwards = le_refl u.0; begins = refl; ends = refl; clock = refl });
      numbered = subst (λ (z : g.row.T.Denot × ReaderNotes g.row.T.Denot). IsNextAnswer z.0 n.known z.1.known n.numbers z.1.numbers
          z.1.answers z.1.times z.1.at_hand.value) (λ i. ((c.requires i).opening, reader_or d (sym v i))) u.6;
      heeds = (
        ap (λ z. (reader_or d z).heard) v,
        subst (λ (z : ReaderNotes g.row.T.Denot). AreHeeded z.heard z.known (last_or 0 z.numbers)) (λ i. reader_or d (sym v i))
            (subst (AreHeeded n.heard u.2) (sym (last_snoc 0 n.numbers u.1)) u.7),
      );
      so_far = subst (λ (z : g.row.T.Denot × ReaderNotes g.row.T.Denot). AreCallsSoFar g.T.Lawful.fits g.T.Lawful.rises z.0 z.1.heard
          z.1.answers z.1.times) (λ i. ((c.requires i).opening, reader_or d (sym v i)))
          (calls_so_far g.T.Lawful.fits g.T.Lawful.rises n.opening.value n.known u.2 n.numbers (n.numbers ++ u.1 ∷ [])
          (n.answers ++ n.at_hand.value ∷ []) (answered (looked_by n c.look-found.result) n.at_hand.value u.0 u.1 u.2).times
          n.at_hand.value n.heard u.1 u.8 u.6 u.7);
    }

pub fetch-taken-requires-clause-marked : goal.fetch-taken-requires-clause-marked
fetch-taken-requires-clause-marked g c =
    let get = c.args.get.now in
    let n : ReaderNotes g.row.T.Denot = reader_or (first_reader get.spare.value) get.seat.inner.me.0 in
    let t = c.look-found.ensures.looked n get.known in
    let m : ReaderNotes g.row.T.Denot = asked_by n c.look-found.result in
    let had = t.0 ∙ get.held in
    let view : c.look-found.new.seat.inner.me.0 ≡ Reader m = t.1 c.if-found-lt4.false in
    (m, (λ i. (view i, (had ∙ (λ i. (sym get.ready.1 i, n.at_hand.value) ∷ [])) i)), get.ready.0, refl, sym get.ready.1)

pub invariant_of-get-2 : goal.invariant_of-get-2
invariant_of-get-2 g c =
    let get = c.args.get.now in
    let d : ReaderNotes g.row.T.Denot = first_reader get.spare.value in
    let n : ReaderNotes g.row.T.Denot = reader_or d get.seat.inner.me.0 in
    let t = c.look-found.ensures.looked n get.known in
    let m : ReaderNotes g.row.T.Denot = asked_by n c.look-found.result in
    let had = t.0 ∙ get.held in
    let view : c.look-found.new.seat.inner.me.0 ≡ Reader m = t.1 c.if-found-lt4.false in
    let u = c.fetch-taken.ensures.swapped m n.at_hand.value view (had ∙ (λ i. (sym get.ready.1 i, n.at_hand.value) ∷ [])) refl in
    let v = u.6 in
    record {
      known = v ∙ ap (λ z. Reader (reader_or d z)) (sym v);
      ready = (ap (λ z. (reader_or d z).has) v ∙ get.ready.0, ap (λ z. (reader_or d z).slot) v, ap (λ z. (reader_or d z).asked) v);
      held = u.7 ∙ (λ i. ((c.fetch-taken.result % 4), (reader_or d (sym v i)).at_hand.value) ∷ []);
      low = u.1;
    }

pub returns : goal.returns
returns g c =
    let get = c.args.get.now in
    let d : ReaderNotes g.row.T.Denot = first_reader get.spare.value in
    let n : ReaderNotes g.row.T.Denot = reader_or d get.seat.inner.me.0 in
    let t = c.look-found.ensures.looked n get.known in
    let m : ReaderNotes g.row.T.Denot = asked_by n c.look-found.result in
    let had = t.0 ∙ get.held in
    let view : c.look-found.new.seat.inner.me.0 ≡ Reader m = t.1 c.if-found-lt4.false in
    let u = c.fetch-taken.ensures.swapped m n.at_hand.value view (had ∙ (λ i. (sym get.ready.1 i, n.at_hand.value) ∷ [])) refl in
    let v = u.6 in
    let same : c.fetch-taken.new.seat.inner.table_id ≡ get.seat.inner.table_id = search rules in
    let loads = ap (λ z. (reader_or d z).loads) v in
    let swaps = ap (λ z. (reader_or d z).swaps) v in
    let found = ap (λ z. (reader_or d z).found) v in
    let high = c.if-found-lt4.false in
    record {
      own = (λ i. record { table = same i; opening = (reader_or d (v i)).opening.value }) ∙ c.requires;
      answers = ap (λ z. (reader_or d z).answers) v ∙ (λ i. n.answers ++ (reader_or d (sym v i)).at_hand.value ∷ []);
      told = ap (λ z. (reader_or d z).told) v;
      running = subst (λ (z : g.row.T.Denot × g.row.T.Denot). IsAnswer g.T.Lawful.fits g.T.Lawful.rises z.0 n.answers n.told z.1)
          (λ i. ((c.requires i).opening, (reader_or d (sym v i)).at_hand.value)) u.8;
      loaded = loads;
      unmarked = λ low. omega arith;
      marked = λ _. swaps;
      accesses = omega arith;
      timed = subst (λ z. IsNextCall n.times (reader_or d z).times) (sym v)
          (record { begin = u.2; end = u.2; after = u.5; forwards = le_refl u.2; begins = refl; ends = refl; clock = refl });
      numbered = subst (λ (z : g.row.T.Denot × ReaderNotes g.row.T.Denot). IsNextAnswer z.0 n.known z.1.known n.numbers z.1.numbers
          z.1.answers z.1.times z.1.at_hand.value) (λ i. ((c.requires i).opening, reader_or d (sym v i))) u.9;
      heeds = (
        ap (λ z. (reader_or d z).heard) v,
        subst (λ (z : ReaderNotes g.row.T.Denot). AreHeeded z.heard z.known (last_or 0 z.numbers)) (λ i. reader_or d (sym v i))
            (subst (AreHeeded n.heard u.4) (sym (last_snoc 0 n.numbers u.3)) u.10),
      );
      so_far = subst (λ (z : g.row.T.Denot × ReaderNotes g.row.T.Denot). AreCallsSoFar g.T.Lawful.fits g.T.Lawful.rises z.0 z.1.heard
          z.1.answers z.1.times) (λ i. ((c.requires i).opening, reader_or d (sym v i)))
          (calls_so_far g.T.Lawful.fits g.T.Lawful.rises n.opening.value n.known u.4 n.numbers (n.numbers ++ u.3 ∷ [])
          (n.answers ++ u.0 ∷ []) (answered (fetched m (c.fetch-taken.result % 4) u.0) u.0 u.2 u.3 u.4).times
          u.0 n.heard u.3 u.11 u.9 u.10);
    }
