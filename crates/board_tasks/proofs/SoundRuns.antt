-- The logs of a board's run are sound: what a call chose isn't below what its process had before, and it is the opening or the record of
-- a write; that call's process has its entry in its log.
use Rattle.std.proofs.Common.{◌≡◌, ℕ, zero, suc, ◌+◌, ◌<◌, Bool, true, ◌&&◌, List, [], ◌∷◌, length, map, take, refl, sym, ◌∙◌, ap, subst}
use Rattle.std.proofs.Common.{arith, inl, inr}
use Rattle.std.specs.Prelude.{slice_get, Some, nat_eq}
use Rattle.std.specs.Option.{option_map}
use Rattle.std.proofs.lemmas.Bool.Decides.{nat_tests}
use Rattle.std.proofs.lemmas.List.{length-map}
use Rattle.std.proofs.lemmas.Option.{slice_get-map, slice_get_within}
use Rattle.history_core.specs.declared.history.Kind.{Kind}
use Rattle.history_core.specs.declared.history.Kind.TheVariants.{Refused, Read as ReadKind, Write as WriteKind}
use Rattle.history_core.specs.declared.wish.Wish.{Wish}
use Rattle.history_core.specs.declared.wish.Wish.TheVariants.{Write, Read}
use Rattle.matrix_core.specs.declared.stamp.Stamp.{Stamp}
use Rattle.matrix_core.specs.declared.stamp.Stamped.{Stamped}
use Rattle.matrix_core.specs.Choices.{ChoosesByKind, IsAtMost}
use Rattle.matrix_core.proofs.choices.Stamps.{at_most_trans, greater_first}
use Rattle.cell_contract.specs.Running.{last_or}
use Rattle.matrix_core.specs.Stamps.{first_stamp, greater, greatest, is_below}
use Rattle.matrix_core.specs.Lines.{first_record}
use Rattle.matrix_core.proofs.lists.Elements.{get_exists}
use Rattle.matrix_core.proofs.orders.Listing.{get_map_back}
use Rattle.board_history.specs.BoardRuns.{Called, Did, IsBoardRun, IsProcess, own_before, Sees}
use Rattle.board_history.proofs.Later.{calls_written}
use Rattle.cell_contract.specs.declared.family.Family.{Ghosts as FamilyWords}
use Rattle.board_live.specs.declared.board.Board.{Board}
use Rattle.board_live.specs.declared.board.Pass.{Pass}
use Rattle.board_live.specs.declared.record.Posted.{Posted}
use Rattle.board_live.specs.Ends.{did_by}
use Rattle.board_live.specs.Records.{stamped}
use Rattle.board_tasks.specs.declared.lane.Entry.{Entry}
use Rattle.board_tasks.specs.declared.lane.Lane.{Lane}
use Rattle.board_tasks.specs.declared.lane.Reply.{Reply}
use Rattle.board_tasks.specs.declared.lane.Reply.TheVariants.{Written, Seen, Ended}
use Rattle.board_tasks.specs.Logs.{is_at_most, stamp_of}
use Rattle.board_tasks.specs.Tasks.{kind_by}
use Rattle.board_tasks.proofs.Ordered.{call_at, calls_did, entry_at}
use Rattle.board_tasks.specs.Worked.{AreAtomicLogs, EachTells, HasChosenBy, HaveWorked, logs_of}
use Rattle.board_tasks.specs.declared.origin.Origin.TheVariants.{Broken}
use Rattle.board_tasks.specs.Origins.{AllKeep, has_origin, has_write, in_order, is_known, is_reply_at, IsOrigin, same_stamp, sees_known}
use Rattle.board_tasks.specs.Origins.{stamp_before, wrote}
use Rattle.board_tasks.specs.Told.{AreOfRun}
use Rattle.board_tasks.proofs.SoundOrders.{all_true, any_in, at_most_below, at_most_self, first_true, in_at, second_true, sound_unbroken}
use Rattle.board_tasks.proofs.SoundOrders.{stamp_itself}

pub at_most_is : (a b : Stamp) → IsAtMost a b → is_at_most a b ≡ true
at_most_is a b (inl e) = ap (is_at_most a) (sym e) ∙ at_most_self a
at_most_is a b (inr h) = at_most_below a b h

below_next : (before seen : Stamp) (writer : ℕ) → is_at_most before seen ≡ true →
    is_below before (record { tag = seen.tag + 1; writer = writer }) ≡ true
below_next before seen writer h = grind (arith, nat_tests)

number_itself : (n : ℕ) → nat_eq n n ≡ true
number_itself n = grind (arith, nat_tests)

pub greatest_first : {V : Type 0} (own : Stamped V) (answers : List (Stamped V)) → IsAtMost own.stamp (greatest own answers).stamp
greatest_first own [] = inl refl
greatest_first own (x ∷ xs) =
    at_most_trans own.stamp (greater own x).stamp (greatest (greater own x) xs).stamp (greater_first own x)
    (greatest_first (greater own x) xs)

module _ {V : Type 0} where
  -- the stamp that an entry hands on is the one that its call chose
  stamp_told : (wish : Wish V) (reply : Reply V) (chosen : Stamped V) → HasChosenBy wish reply chosen → stamp_of reply ≡ chosen.stamp
  stamp_told (Write item) (Written s) chosen h = ap (λ (z : Stamped V). z.stamp) (sym h)
  stamp_told (Write item) (Seen p) chosen h = absurd h
  stamp_told (Write item) (Ended p) chosen h = ap (λ (z : Stamped V). z.stamp) (sym h)
  stamp_told Read (Written s) chosen h = absurd h
  stamp_told Read (Seen p) chosen h = ap (λ (z : Stamped V). z.stamp) (sym h)
  stamp_told Read (Ended p) chosen h = absurd h

  -- so the stamp before an entry is that of the record that its process had
  pub before_is : (first : Stamped V) (es : List (Entry V)) (cs : List (Called V)) (k : ℕ) → EachTells es cs →
      last_or first.stamp (map (λ e. stamp_of e.reply) (take k es)) ≡ (own_before first cs k).stamp
  before_is first [] [] zero h = refl
  before_is first [] [] (suc k) h = refl
  before_is first [] (c ∷ cs) k h = absurd h
  before_is first (e ∷ es) [] k h = absurd h
  before_is first (e ∷ es) (c ∷ cs) zero h = refl
  before_is first (e ∷ es) (c ∷ cs) (suc k) h =
      ap (λ s. last_or s (map (λ (z : Entry V). stamp_of z.reply) (take k es))) (stamp_told e.wish e.reply c.chosen h.0.1)
      ∙ before_is c.chosen es cs k h.1

  -- what an entry says of what its call saw and chose
  pub reply_fits : (limit task : ℕ) (before seen : Stamp) (item : V) (wish : Wish V) (reply : Reply V) (kind : Kind) (chosen : Stamped V) →
      is_at_most before seen ≡ true → kind ≡ kind_by reply → HasChosenBy wish reply chosen →
      ChoosesByKind limit (record { place = 0; who = task; kind = kind; stamp = chosen.stamp; item = chosen.item }) kind seen item →
      is_reply_at task before wish reply ≡ true
  reply_fits limit task before seen item (Write v) (Written s) WriteKind chosen up k h c =
      let is : s ≡ record { tag = seen.tag + 1; writer = task } = stamp_told (Write v) (Written s) chosen h ∙ c.1 in
      subst (λ (z : Stamp). (nat_eq z.writer task && is_below before z) ≡ true) (sym is)
      (all_true (nat_eq task task) (is_below before (record { tag = seen.tag + 1; writer = task })) (number_itself task)
      (below_next before seen task up))
  reply_fits limit task before seen item (Write v) (Written s) ReadKind chosen up k h c = cc
  reply_fits limit task before seen item (Write v) (Written s) Refused chosen up k h c = cc
  reply_fits limit task before seen item (Write v) (Seen p) kind chosen up k h c = absurd h
  reply_fits limit task before seen item (Write v) (Ended p) WriteKind chosen up k h c = cc
  reply_fits limit task before seen item (Write v) (Ended p) ReadKind chosen up k h c = cc
  reply_fits limit task before seen item (Write v) (Ended p) Refused chosen up k h c =
      subst (λ z. is_at_most before z ≡ true) (sym (stamp_told (Write v) (Ended p) chosen h ∙ c.1)) up
  reply_fits limit task before seen item Read (Written s) kind chosen up k h c = absurd h
  reply_fits limit task before seen item Read (Seen p) WriteKind chosen up k h c = cc
  reply_fits limit task before seen item Read (Seen p) ReadKind chosen up k h c =
      subst (λ z. is_at_most before z ≡ true) (sym (stamp_told Read (Seen p) chosen h ∙ c.0)) up
  reply_fits limit task before seen item Read (Seen p) Refused chosen up k h c = cc
  reply_fits limit task before seen item Read (Ended p) kind chosen up k h c = absurd h

  -- an entry that tells of a write has the record that was chosen
  is_wrote : (equal : V → V → Bool) → ((x : V) → equal x x ≡ true) → (p : Posted V) (wish : Wish V) (reply : Reply V) (chosen : Stamped V) →
      WriteKind ≡ kind_by reply → HasChosenBy wish reply chosen → stamped p ≡ chosen → wrote equal p wish reply ≡ true
  is_wrote equal itself p (Write v) (Written s) chosen k h e =
      let is : stamped p ≡ record { stamp = s; item = v } = e ∙ h in
      let stamp : p.stamp ≡ s = ap (λ (z : Stamped V). z.stamp) is in
      let item : p.item ≡ v = ap (λ (z : Stamped V). z.item) is in
      all_true (same_stamp s p.stamp) (equal v p.item) (ap (same_stamp s) stamp ∙ stamp_itself s) (ap (equal v) item ∙ itself v)
  is_wrote equal itself p (Write v) (Seen q) chosen k h e = absurd h
  is_wrote equal itself p (Write v) (Ended q) chosen k h e = cc
  is_wrote equal itself p Read (Written s) chosen k h e = absurd h
  is_wrote equal itself p Read (Seen q) chosen k h e = cc
  is_wrote equal itself p Read (Ended q) chosen k h e = absurd h

  -- what an entry saw is what its call chose
  seen_known : (equal : V → V → Bool) (opening : V) (logs : List (List (Entry V))) (wish : Wish V) (reply : Reply V) (chosen : Stamped V) →
      HasChosenBy wish reply chosen → ((p : Posted V) → stamped p ≡ chosen → is_known equal opening logs p ≡ true) →
      sees_known equal opening logs reply ≡ true
  seen_known equal opening logs wish (Written s) chosen h known = refl
  seen_known equal opening logs (Write v) (Seen p) chosen h known = absurd h
  seen_known equal opening logs Read (Seen p) chosen h known = known p (sym h)
  seen_known equal opening logs (Write v) (Ended p) chosen h known = known p (sym h)
  seen_known equal opening logs Read (Ended p) chosen h known = absurd h

  pub chosen_writer : (limit task : ℕ) (c : Called V) → c.kind ≡ WriteKind →
      ChoosesByKind limit (record { place = 0; who = task; kind = c.kind; stamp = c.chosen.stamp; item = c.chosen.item }) c.kind
      c.seen.stamp c.seen.item
      → c.chosen.stamp.writer ≡ task
  chosen_writer limit task c e h =
      ap (λ (z : Stamp). z.writer)
      (subst (λ k. ChoosesByKind limit (record { place = 0; who = task; kind = c.kind; stamp = c.chosen.stamp; item = c.chosen.item }) k
      c.seen.stamp c.seen.item) e h).1

  -- the opening is known, and so is a record of a write that a log tells of
  module _ (equal : V → V → Bool) (itself : (x : V) → equal x x ≡ true) (opening : V) (logs : List (List (Entry V))) where
    pub first_known : (p : Posted V) → stamped p ≡ first_record opening → is_known equal opening logs p ≡ true
    first_known p e =
        let stamp : p.stamp ≡ first_stamp = ap (λ (z : Stamped V). z.stamp) e in
        let item : p.item ≡ opening = ap (λ (z : Stamped V). z.item) e in
        first_true (same_stamp p.stamp first_stamp && equal p.item opening) (has_write equal p (slice_get logs p.stamp.writer))
        (all_true (same_stamp p.stamp first_stamp) (equal p.item opening)
        (ap (λ s. same_stamp s first_stamp) stamp ∙ stamp_itself first_stamp) (ap (λ z. equal z opening) item ∙ itself opening))

    pub entry_known : (p : Posted V) (j m : ℕ) (log : List (Entry V)) (calls : List (Called V)) (c : Called V) →
        slice_get logs j ≡ Some log → EachTells log calls → slice_get calls m ≡ Some c → c.kind ≡ WriteKind → p.stamp.writer ≡ j →
        stamped p ≡ c.chosen → is_known equal opening logs p ≡ true
    entry_known p j m log calls c at tells made kind mine e =
        let w = entry_at log calls m c tells made in
        let there : slice_get logs p.stamp.writer ≡ Some log = ap (slice_get logs) mine ∙ at in
        let is : wrote equal p w.0.wish w.0.reply ≡ true =
        is_wrote equal itself p w.0.wish w.0.reply c.chosen (sym kind ∙ w.2.0) w.2.1 e in
        second_true (same_stamp p.stamp first_stamp && equal p.item opening) (has_write equal p (slice_get logs p.stamp.writer))
        (ap (has_write equal p) there ∙ any_in (λ (d : Entry V). wrote equal p d.wish d.reply) log w.0 (in_at log m w.0 w.1) is)

  module _ (opening : V) (logs : List (List (Entry V))) (h : AreOfRun opening logs) where
    process : (i : ℕ) → i < length logs → IsProcess h.width (length logs) h.limit (first_record opening) i (h.did i)
    process i l = h.run.each i l

    pub run_in_order : AllKeep in_order logs
    run_in_order t j log e at in_log =
        let l : t < length logs = slice_get_within logs t log at in
        let w = call_at log (h.did t).calls j e (h.told t log at) in_log in
        let c : Called V = w.0 in
        let sees : Sees (length logs) (first_record opening) t (h.did t) j c.seen = (process t l).sees j c w.1 in
        let own : Stamped V = own_before (first_record opening) (h.did t).calls j in
        let up : IsAtMost own.stamp c.seen.stamp =
        subst (λ (z : Stamped V). IsAtMost own.stamp z.stamp) (sym sees.greatest) (greatest_first own sees.answers) in
        let before : stamp_before log j ≡ own.stamp = before_is (first_record opening) log (h.did t).calls j (h.told t log at) in
        reply_fits h.limit t (stamp_before log j) c.seen.stamp c.seen.item e.wish e.reply c.kind c.chosen
        (subst (λ s. is_at_most s c.seen.stamp ≡ true) (sym before) (at_most_is own.stamp c.seen.stamp up)) w.2.0 w.2.1
        ((process t l).chooses j 0 c w.1)

    module _ (equal : V → V → Bool) (itself : (x : V) → equal x x ≡ true) where
      written_known : (p : Posted V) (j m : ℕ) (c : Called V) → j < length logs → slice_get (h.did j).calls m ≡ Some c →
          c.kind ≡ WriteKind → stamped p ≡ c.chosen → is_known equal opening logs p ≡ true
      written_known p j m c l made kind e =
          let log = get_exists logs j l in
          let mine : p.stamp.writer ≡ j =
          ap (λ (z : Stamped V). z.stamp.writer) e ∙ chosen_writer h.limit j c kind ((process j l).chooses m 0 c made) in
          entry_known equal itself opening logs p j m log.0 (h.did j).calls c log.1 (h.told j log.0 log.1) made kind mine e

      pub run_known : AllKeep (has_origin equal opening logs) logs
      run_known t j log e at in_log =
          let l : t < length logs = slice_get_within logs t log at in
          let w = call_at log (h.did t).calls j e (h.told t log at) in_log in
          let c : Called V = w.0 in
          seen_known equal opening logs e.wish e.reply c.chosen w.2.1 (λ p is.
          elim (calls_written h.width (length logs) h.limit opening h.steps h.did h.run t j c l w.1) [
            | inl first ↦ first_known equal itself opening logs p (is ∙ first)
            | inr from ↦ written_known p from.0 from.1 from.2 from.3 from.4 from.5 (is ∙ from.6)
          ])

  pub run_unbroken : (equal : V → V → Bool) → ((x : V) → equal x x ≡ true) → (opening : V) (logs : List (List (Entry V))) →
      AreOfRun opening logs → (task call : ℕ) → IsOrigin equal opening logs (Broken task call) → ⊥
  run_unbroken equal itself opening logs h =
      sound_unbroken equal opening logs (run_in_order opening logs h) (run_known opening logs h equal itself)

module _ {V F S T : Type 0} (family : FamilyWords F (Posted V) S T) (obeys : V → Bool) where
  -- the logs of lanes whose calls are atomic are of a run
  pub atomic_run : (board : Board V F S T) (lanes : List (Lane V F S T)) (last : Posted V) → HaveWorked family obeys board lanes →
      AreAtomicLogs family board lanes last → AreOfRun board.first.item (logs_of lanes)
  atomic_run board lanes last worked h =
      let passes : List (Pass V F S T) = map (λ (l : Lane V F S T). l.pass) lanes in
      let did : ℕ → Did V = did_by family passes h.calls in
      let count : length (logs_of lanes) ≡ board.processes = length-map lanes (λ (l : Lane V F S T). l.log.items) ∙ worked.all in
      record {
        width = family.width;
        limit = board.limit;
        steps = h.run.steps;
        did = did;
        run = subst (λ n. IsBoardRun family.width n board.limit (first_record board.first.item) h.run.steps did) (sym count) h.run.run;
        told = λ i log at.
            let w = get_map_back (λ (l : Lane V F S T). l.log.items) lanes i log at in
            subst (λ es. EachTells es (did i).calls) w.2
            (subst (EachTells w.0.log.items) (calls_did family obeys (slice_get passes i) w.0.pass (h.calls i)
            (slice_get-map (λ (l : Lane V F S T). l.pass) lanes i ∙ ap (option_map (λ (l : Lane V F S T). l.pass)) w.1))
            (h.told i w.0 w.1));
      }
