-- The logs of an atomic run have one order: that of its calls, each with the entry that tells of it.
use Rattle.std.proofs.Common.{◌≡◌, ◌≢◌, Bool, true, false, ℕ, zero, suc, ◌+◌, ◌<◌, ◌≤◌, List, [], ◌∷◌, length, map, refl, sym, ◌∙◌, ap}
use Rattle.std.proofs.Common.{subst}
use Rattle.std.proofs.Common.{arith, inl, inr}
use Rattle.std.specs.Prelude.{slice_get, Option, Some, None, nat_eq, drop}
use Rattle.std.specs.Option.{option_map}
use mathlib.Core.Bool.{cond}
use Rattle.std.specs.List.{filter}
use Rattle.std.proofs.lemmas.Bool.{cases_eq, cases_lt}
use Rattle.std.proofs.lemmas.Bool.Decides.{nat_tests}
use Rattle.std.proofs.lemmas.List.{drop_more, length-map}
use Rattle.std.proofs.lemmas.Option.{get_or_from_slice_get, same_Some, slice_get-map, slice_get_within}
use Rattle.history_core.specs.declared.history.Kind.{Kind}
use Rattle.history_core.specs.declared.history.Kind.TheVariants.{Refused, Read as ReadKind, Write as WriteKind}
use Rattle.history_core.specs.declared.wish.Wish.{Wish}
use Rattle.history_core.specs.declared.wish.Wish.TheVariants.{Write, Read}
use Rattle.matrix_core.specs.declared.stamp.Stamped.{Stamped}
use Rattle.matrix_core.specs.Choices.{IsIn}
use Rattle.matrix_core.specs.Stamps.{first_stamp, IsBelow}
use Rattle.matrix_core.specs.Lines.{first_record}
use Rattle.matrix_core.proofs.lists.Elements.{get_exists}
use Rattle.matrix_core.proofs.orders.Listing.{get_map_back}
use Rattle.board_history.specs.BoardRuns.{Called, Did}
use Rattle.board_history.specs.OneRegister.{AreOfOne as CallsOfOne, IsOneOrder, Named, Takes as CallTakes}
use Rattle.board_history.proofs.Registers.{one_order}
use Rattle.cell_contract.specs.declared.family.Family.{Ghosts as FamilyWords}
use Rattle.board_live.specs.declared.board.Board.{Board}
use Rattle.board_live.specs.declared.board.Pass.{Pass}
use Rattle.board_live.specs.declared.record.Posted.{Posted}
use Rattle.board_live.specs.Ends.{did_at, did_by}
use Rattle.board_live.specs.Records.{stamped}
use Rattle.board_tasks.specs.declared.lane.Entry.{Entry}
use Rattle.board_tasks.specs.declared.lane.Lane.{Lane}
use Rattle.board_tasks.specs.declared.lane.Reply.{Reply}
use Rattle.board_tasks.specs.declared.lane.Reply.TheVariants.{Written, Seen, Ended}
use Rattle.board_tasks.specs.LogOrders.{AreEntriesOfOne, entries_of, is_of, LogsInOrder, Noted, RegisterTakesEntry}
use Rattle.board_tasks.specs.Tasks.{kind_by}
use Rattle.board_tasks.specs.Worked.{AreAtomicLogs, EachTells, HasChosenBy, HaveWorked, logs_of, TellsOfCall}
use Rattle.board_tasks.proofs.Works.{drop_past}

number_itself : (n : ℕ) → nat_eq n n ≡ true
number_itself n = grind (arith, nat_tests)

numbers_differ : (a b : ℕ) → a ≢ b → nat_eq a b ≡ false
numbers_differ a b ne = grind (arith, nat_tests)

module _ {V : Type 0} where
  -- the call of which an entry tells, and the entry that tells of a call
  pub call_at : (es : List (Entry V)) (cs : List (Called V)) (k : ℕ) (e : Entry V) → EachTells es cs → slice_get es k ≡ Some e →
      (c : Called V) × (slice_get cs k ≡ Some c) × TellsOfCall e c
  call_at [] cs k e h at = cc
  call_at (x ∷ es) [] k e h at = absurd h
  call_at (x ∷ es) (c ∷ cs) zero e h at = (c, refl, subst (λ z. TellsOfCall z c) (same_Some x e at) h.0)
  call_at (x ∷ es) (c ∷ cs) (suc k) e h at = call_at es cs k e h.1 at

  pub entry_at : (es : List (Entry V)) (cs : List (Called V)) (k : ℕ) (c : Called V) → EachTells es cs → slice_get cs k ≡ Some c →
      (e : Entry V) × (slice_get es k ≡ Some e) × TellsOfCall e c
  entry_at es [] k c h at = cc
  entry_at [] (x ∷ cs) k c h at = absurd h
  entry_at (e ∷ es) (x ∷ cs) zero c h at = (e, refl, subst (λ z. TellsOfCall e z) (same_Some x c at) h.0)
  entry_at (e ∷ es) (x ∷ cs) (suc k) c h at = entry_at es cs k c h.1 at

  same_posted : (p q : Posted V) → stamped p ≡ stamped q → p ≡ q
  same_posted p q e = ap (λ (z : Stamped V). record { stamp = z.stamp; item = z.item }) e

  -- the entries of calls, place by place
  abbrev EachNoted : List (List (Entry V)) → List (Named V) → List (Noted V) → Type 0
  EachNoted logs [] [] = Unit {0}
  EachNoted logs [] (n ∷ ns) = ⊥
  EachNoted logs (m ∷ ms) [] = ⊥
  EachNoted logs (m ∷ ms) (n ∷ ns) =
      ((n.task ≡ m.who) × ((log : List (Entry V)) × (slice_get logs m.who ≡ Some log) × (slice_get log m.number ≡ Some n.entry)))
      × EachNoted logs ms ns

  record Noting (logs : List (List (Entry V))) (limit : ℕ) (now : Posted V) (writes : ℕ) (last : Posted V)
      (ms : List (Named V)) : Type 0 where
    pub notes : List (Noted V)
    pub one : AreEntriesOfOne limit now writes last notes
    pub each : EachNoted logs ms notes

  -- what the entry's register does, and the entries after it
  record Step (logs : List (List (Entry V))) (limit who : ℕ) (now : Posted V) (writes : ℕ) (last : Posted V) (ms : List (Named V))
      (wish : Wish V)
      (reply : Reply V) : Type 0 where
    pub notes : List (Noted V)
    pub takes : RegisterTakesEntry limit who now writes wish reply (λ p count. AreEntriesOfOne limit p count last notes)
    pub each : EachNoted logs ms notes

  step : (logs : List (List (Entry V))) (limit who : ℕ) (now : Posted V) (writes : ℕ) (last : Posted V) (ms : List (Named V))
      (wish : Wish V)
      (reply : Reply V) (kind : Kind) (chosen : Stamped V) → kind ≡ kind_by reply → HasChosenBy wish reply chosen →
      CallTakes limit who (stamped now) writes kind chosen (λ held count. CallsOfOne limit held count (stamped last) ms) →
      ((p : Posted V) (count : ℕ) → CallsOfOne limit (stamped p) count (stamped last) ms → Noting logs limit p count last ms) →
      Step logs limit who now writes last ms wish reply
  step logs limit who now writes last ms (Write item) (Written s) WriteKind chosen k h t f =
      let put : Posted V = record { stamp = s; item = item } in
      let r : Noting logs limit put (writes + 1) last ms =
      f put (writes + 1) (subst (λ z. CallsOfOne limit z (writes + 1) (stamped last) ms) h t.2) in
      record {
        notes = r.notes;
        takes = (subst (λ (z : Stamped V). IsBelow now.stamp z.stamp) h t.0, subst (λ (z : Stamped V). z.stamp.writer ≡ who) h t.1, r.one);
        each = r.each;
      }
  step logs limit who now writes last ms (Write item) (Written s) ReadKind chosen k h t f = cc
  step logs limit who now writes last ms (Write item) (Written s) Refused chosen k h t f = cc
  step logs limit who now writes last ms (Write item) (Seen p) kind chosen k h t f = absurd h
  step logs limit who now writes last ms (Write item) (Ended p) WriteKind chosen k h t f = cc
  step logs limit who now writes last ms (Write item) (Ended p) ReadKind chosen k h t f = cc
  step logs limit who now writes last ms (Write item) (Ended p) Refused chosen k h t f =
      let r : Noting logs limit now writes last ms = f now writes t.2 in
      record { notes = r.notes; takes = (same_posted p now (sym h ∙ t.0), t.1, r.one); each = r.each }
  step logs limit who now writes last ms Read (Written s) kind chosen k h t f = absurd h
  step logs limit who now writes last ms Read (Seen p) WriteKind chosen k h t f = cc
  step logs limit who now writes last ms Read (Seen p) ReadKind chosen k h t f =
      let r : Noting logs limit now writes last ms = f now writes t.1 in
      record { notes = r.notes; takes = (same_posted p now (sym h ∙ t.0), r.one); each = r.each }
  step logs limit who now writes last ms Read (Seen p) Refused chosen k h t f = cc
  step logs limit who now writes last ms Read (Ended p) kind chosen k h t f = absurd h

  module _ (logs : List (List (Entry V))) (did : ℕ → Did V)
      (told : (i : ℕ) (log : List (Entry V)) → slice_get logs i ≡ Some log → EachTells log (did i).calls) where
    abbrev Made : Named V → Type 0
    Made m = (m.who < length logs) × (slice_get (did m.who).calls m.number ≡ Some m.call)

    note : (limit : ℕ) (last : Posted V) (ms : List (Named V)) → ((x : ℕ) (m : Named V) → slice_get ms x ≡ Some m → Made m) →
        (now : Posted V) (writes : ℕ) → CallsOfOne limit (stamped now) writes (stamped last) ms → Noting logs limit now writes last ms
    note limit last [] made now writes h = record { notes = []; one = same_posted last now h; each = tt }
    note limit last (m ∷ ms) made now writes h =
        let is : Made m = made 0 m refl in
        let log = get_exists logs m.who is.0 in
        let e = entry_at log.0 (did m.who).calls m.number m.call (told m.who log.0 log.1) is.1 in
        let s : Step logs limit m.who now writes last ms e.0.wish e.0.reply =
        step logs limit m.who now writes last ms e.0.wish e.0.reply m.call.kind m.call.chosen e.2.0 e.2.1 h
        (note limit last ms (λ x d at. made (suc x) d at)) in
        record {
          notes = record { task = m.who; entry = e.0 } ∷ s.notes;
          one = s.takes;
          each = ((refl, (log.0, log.1, e.1)), s.each);
        }

  -- the entries of one task are its log from place k on, where its calls from number k on stand there in their order
  gathered : (logs : List (List (Entry V))) (task : ℕ) (log : List (Entry V)) → slice_get logs task ≡ Some log → (ms : List (Named V))
      (ns : List (Noted V)) → EachNoted logs ms ns → (k : ℕ) →
      ((x : ℕ) (m : Named V) → slice_get ms x ≡ Some m → m.who ≡ task → k ≤ m.number) →
      ((x y : ℕ) (a b : Named V) → x < y → slice_get ms x ≡ Some a → slice_get ms y ≡ Some b → a.who ≡ b.who → a.number < b.number) →
      ((j : ℕ) → k ≤ j → j < length log → (x : ℕ) × (m : Named V) × (slice_get ms x ≡ Some m) × (m.who ≡ task) × (m.number ≡ j)) →
      entries_of task ns ≡ drop k log
  gathered logs task log at [] [] h k low turn there = elim (cases_lt k (length log)) [
    | inl l ↦ none_there (there k (omega arith) l)
    | inr le ↦ sym (drop_past log k le)
  ]
    where
      none_there : ((x : ℕ) × (m : Named V) × (slice_get [] x ≡ Some m) × (m.who ≡ task) × (m.number ≡ k)) → [] ≡ drop k log
      none_there w = cc
  gathered logs task log at [] (n ∷ ns) h k low turn there = absurd h
  gathered logs task log at (m ∷ ms) [] h k low turn there = absurd h
  gathered logs task log at (m ∷ ms) (n ∷ ns) h k low turn there = elim (cases_eq n.task task) [
    | inl e ↦
        let who : m.who ≡ task = sym h.0.0 ∙ e in
        let least : k ≤ m.number = low 0 m refl who in
        let same : h.0.1.0 ≡ log = same_Some h.0.1.0 log (sym h.0.1.1 ∙ ap (slice_get logs) who ∙ at) in
        let entry : slice_get log m.number ≡ Some n.entry = subst (λ z. slice_get z m.number ≡ Some n.entry) same h.0.1.2 in
        let within : m.number < length log = slice_get_within log m.number n.entry entry in
        let is : m.number ≡ k = first_is (there k (omega arith) (omega arith)) who least in
        let here : slice_get log k ≡ Some n.entry = subst (λ z. slice_get log z ≡ Some n.entry) is entry in
        ap (λ b. map (λ (z : Noted V). z.entry) (cond b (n ∷ filter (is_of task) ns) (filter (is_of task) ns)))
        (ap (λ z. nat_eq z task) e ∙ number_itself task)
        ∙ ap (λ z. n.entry ∷ z) (gathered logs task log at ms ns h.1 (k + 1)
        (λ x d p w. let t : m.number < d.number = turn 0 (suc x) m d (omega arith) refl p (who ∙ sym w) in omega arith)
        (λ x y a b l p q w. turn (suc x) (suc y) a b (omega arith) p q w)
        (λ j lj ll. later j (there j (omega arith) ll) is lj))
        ∙ sym (drop_more log k n.entry (slice_get_within log k n.entry here)
        ∙ ap (λ z. z ∷ drop (k + 1) log) (get_or_from_slice_get log k n.entry n.entry here))
    | inr ne ↦
        ap (λ b. map (λ (z : Noted V). z.entry) (cond b (n ∷ filter (is_of task) ns) (filter (is_of task) ns)))
        (numbers_differ n.task task ne)
        ∙ gathered logs task log at ms ns h.1 k
        (λ x d p w. low (suc x) d p w)
        (λ x y a b l p q w. turn (suc x) (suc y) a b (omega arith) p q w)
        (λ j lj ll. other (there j lj ll) (λ w. ne (h.0.0 ∙ w)))
  ]
    where
      first_is : ((x : ℕ) × (d : Named V) × (slice_get (m ∷ ms) x ≡ Some d) × (d.who ≡ task) × (d.number ≡ k)) → m.who ≡ task →
          k ≤ m.number → m.number ≡ k
      first_is (zero, d, e, w, g) who least = ap (λ (z : Named V). z.number) (same_Some m d e) ∙ g
      first_is (suc x, d, e, w, g) who least =
          let t : m.number < d.number = turn 0 (suc x) m d (omega arith) refl e (who ∙ sym w) in
          absurd (omega arith)

      later : (j : ℕ) → ((x : ℕ) × (d : Named V) × (slice_get (m ∷ ms) x ≡ Some d) × (d.who ≡ task) × (d.number ≡ j)) → m.number ≡ k →
          k + 1 ≤ j → (x : ℕ) × (d : Named V) × (slice_get ms x ≡ Some d) × (d.who ≡ task) × (d.number ≡ j)
      later j (zero, d, e, w, g) is l =
          let t : m.number ≡ j = ap (λ (z : Named V). z.number) (same_Some m d e) ∙ g in absurd (omega arith)
      later j (suc x, d, e, w, g) is l = (x, d, e, w, g)

      other : {j : ℕ} → ((x : ℕ) × (d : Named V) × (slice_get (m ∷ ms) x ≡ Some d) × (d.who ≡ task) × (d.number ≡ j)) → m.who ≢ task →
          (x : ℕ) × (d : Named V) × (slice_get ms x ≡ Some d) × (d.who ≡ task) × (d.number ≡ j)
      other (zero, d, e, w, g) ne = absurd (ne (ap (λ (z : Named V). z.who) (same_Some m d e) ∙ w))
      other (suc x, d, e, w, g) ne = (x, d, e, w, g)

  -- each is of a task that has a log
  noted_inside : (logs : List (List (Entry V))) (ms : List (Named V)) (ns : List (Noted V)) → EachNoted logs ms ns → (n : Noted V) →
      IsIn n ns → n.task < length logs
  noted_inside logs [] [] h n m = absurd m
  noted_inside logs [] (x ∷ ns) h n m = absurd h
  noted_inside logs (y ∷ ms) [] h n m = absurd m
  noted_inside logs (y ∷ ms) (x ∷ ns) h n (inl e) =
      let l : y.who < length logs = slice_get_within logs y.who h.0.1.0 h.0.1.1 in
      let t : n.task ≡ y.who = ap (λ (z : Noted V). z.task) e ∙ h.0.0 in
      omega arith
  noted_inside logs (y ∷ ms) (x ∷ ns) h n (inr m) = noted_inside logs ms ns h.1 n m

  pub logs_in_order : (logs : List (List (Entry V))) (limit : ℕ) (opening : V) (did : ℕ → Did V) (last : Posted V) →
      ((i : ℕ) (log : List (Entry V)) → slice_get logs i ≡ Some log → EachTells log (did i).calls) → (calls : List (Named V)) →
      IsOneOrder (length logs) limit (first_record opening) did (stamped last) calls → LogsInOrder opening limit logs last
  logs_in_order logs limit opening did last told calls o =
      let r : Noting logs limit (record { stamp = first_stamp; item = opening }) 0 last calls =
      note logs did told limit last calls o.each (record { stamp = first_stamp; item = opening }) 0 o.one in (
        r.notes,
        record {
          each = λ task log at. gathered logs task log at calls r.notes r.each 0 (λ x m e w. omega arith) o.in_turn (λ j lj ll.
              let c = call_at_number log task at j ll in
              let x = o.all task j c.0 (slice_get_within logs task log at) c.1 in
              (x.0, record { who = task; number = j; call = c.0 }, x.1, refl, refl));
          only = noted_inside logs calls r.notes r.each;
          one = r.one;
        },
      )
    where
      call_at_number : (log : List (Entry V)) (task : ℕ) → slice_get logs task ≡ Some log → (j : ℕ) → j < length log →
          (c : Called V) × (slice_get (did task).calls j ≡ Some c)
      call_at_number log task at j l =
          let e = get_exists log j l in
          let c = call_at log (did task).calls j e.0 (told task log at) e.1 in
          (c.0, c.1)

module _ {V F S T : Type 0} (family : FamilyWords F (Posted V) S T) (obeys : V → Bool) where
  pub calls_did : (o : Option (Pass V F S T)) (pass : Pass V F S T) (calls : List (Called V)) → o ≡ Some pass →
      calls ≡ (did_at family o calls).calls
  calls_did (Some p) pass calls e = refl
  calls_did None pass calls e = cc

  pub lanes_in_order : (board : Board V F S T) (lanes : List (Lane V F S T)) (last : Posted V) → HaveWorked family obeys board lanes →
      AreAtomicLogs family board lanes last → LogsInOrder board.first.item board.limit (logs_of lanes) last
  lanes_in_order board lanes last worked h =
      let passes : List (Pass V F S T) = map (λ l. l.pass) lanes in
      let did : ℕ → Did V = did_by family passes h.calls in
      let many : board.processes ≡ length (logs_of lanes) = sym (length-map lanes (λ l. l.log.items) ∙ worked.all) in
      let o = one_order family.width board.processes board.limit board.first.item h.run.steps did h.run.run (stamped last) h.run.greatest in
      logs_in_order (logs_of lanes) board.limit board.first.item did last (λ i log at.
      let w = get_map_back (λ (l : Lane V F S T). l.log.items) lanes i log at in
      let pass : slice_get passes i ≡ Some w.0.pass =
      slice_get-map (λ (l : Lane V F S T). l.pass) lanes i ∙ ap (option_map (λ (l : Lane V F S T). l.pass)) w.1 in
      subst (λ z. EachTells log z) (calls_did (slice_get passes i) w.0.pass (h.calls i) pass)
      (subst (λ z. EachTells z (h.calls i)) w.2 (h.told i w.0 w.1))) o.0
      (subst (λ n. IsOneOrder n board.limit (first_record board.first.item) did (stamped last) o.0) many o.1)
