-- No log that is left has a stale answer: the records that a process chooses rise, and of one stamp there is one record.
use Rattle.std.proofs.Common.{◌≡◌, ◌⊎◌, Bool, true, false, ℕ, zero, suc, ◌+◌, ◌-◌, ◌<◌, ◌≤◌, List, [], ◌∷◌, length, slice_get, Some}
use Rattle.std.proofs.Common.{refl, sym, ◌∙◌, ap, subst, arith, inl, inr}
use Rattle.std.specs.Prelude.{if◌then◌else◌}
use Rattle.std.specs.Option.{option_map}
use Rattle.std.proofs.lemmas.Bool.{cases_order}
use Rattle.std.proofs.lemmas.Bool.Decides.{nat_tests}
use Rattle.std.proofs.lemmas.Option.{none-some, same_Some, slice_get-map, slice_get_within}
use Rattle.history_core.specs.declared.history.Kind.{Kind}
use Rattle.history_core.specs.declared.history.Kind.TheVariants.{Write as WriteKind, Read as ReadKind, Refused}
use Rattle.history_core.specs.declared.wish.Wish.TheVariants.{Write, Read}
use Rattle.matrix_core.specs.declared.stamp.Stamp.{Stamp}
use Rattle.matrix_core.specs.declared.stamp.Stamped.{Stamped}
use Rattle.matrix_core.specs.Choices.{ChoosesByKind}
use Rattle.matrix_core.specs.Lines.{first_record}
use Rattle.matrix_core.specs.Stamps.{greater, greatest, is_below, IsBelow}
use Rattle.matrix_core.proofs.choices.Stamps.{below_itself, below_trans}
use Rattle.matrix_core.proofs.lists.Elements.{get_exists}
use Rattle.board_history.specs.BoardRuns.{Called, Did, own_before}
use Rattle.board_history.specs.BoardRuns.{end_of}
use Rattle.board_history.specs.RunsSoFar.{IsBoardRunSoFar, IsProcessSoFar}
use Rattle.board_history.proofs.Rising.{own_next}
use Rattle.board_history.proofs.There.{atomic_run}
use Rattle.cell_contract.specs.declared.family.Family.{Ghosts as FamilyWords}
use Rattle.board_live.specs.declared.record.Posted.{Posted}
use Rattle.board_live.specs.Records.{stamped}
use Rattle.board_tasks.specs.declared.lane.Entry.{Entry}
use Rattle.board_tasks.specs.declared.lane.Lane.{Lane}
use Rattle.board_tasks.specs.declared.lane.Reply.TheVariants.{Written, Seen}
use Rattle.board_tasks.specs.Tasks.{entry}
use Rattle.board_tasks.specs.Told.{AllHaveEnded, AreOfRunBeside}
use Rattle.board_tasks.specs.Worked.{EachTells}
use Rattle.board_tasks.proofs.Ordered.{call_at}
use Rattle.board_tasks.proofs.SoundRuns.{chosen_writer}
use Rattle.board_tasks.proofs.WrittenSoFar.{written_so_far}
use Rattle.theorem_uses.specs.Stale.{IsStaleAfter, StaleBesideIsAbsurd, StaleEntriesAreAbsurd}
use Rattle.theorem_uses.proofs.SoFar.{ended_rise_so_far}

below_tested : (a b : Stamp) → is_below a b ≡ true → IsBelow a b
below_tested a b h = grind (arith, nat_tests)

read_is_no_write : ReadKind ≡ WriteKind → ⊥
read_is_no_write e = cc

refused_is_no_write : Refused ≡ WriteKind → ⊥
refused_is_no_write e = cc

module _ {V : Type 0} where
  -- the second record is the first, or has a greater stamp
  abbrev pub RisesTo : Stamped V → Stamped V → Type 0
  RisesTo a b = (a ≡ b) ⊎ IsBelow a.stamp b.stamp

  same_record : (a b : Stamped V) → a.stamp ≡ b.stamp → a.item ≡ b.item → a ≡ b
  same_record a b s i = ap (λ (z : Stamp × V). record { stamp = z.0; item = z.1 }) (λ k. (s k, i k))

  rises_below : (a b c : Stamped V) → RisesTo a b → IsBelow b.stamp c.stamp → IsBelow a.stamp c.stamp
  rises_below a b c (inl e) l = subst (λ (z : Stamped V). IsBelow z.stamp c.stamp) (sym e) l
  rises_below a b c (inr m) l = below_trans a.stamp b.stamp c.stamp m l

  rises_on : (a b c : Stamped V) → RisesTo a b → RisesTo b c → RisesTo a c
  rises_on a b c h (inl e) = subst (RisesTo a) e h
  rises_on a b c h (inr l) = inr (rises_below a b c h l)

  greater_rises : (a b : Stamped V) → RisesTo a (greater a b)
  greater_rises a b = by_test (is_below a.stamp b.stamp) refl
    where
      by_test : (t : Bool) → is_below a.stamp b.stamp ≡ t → RisesTo a (if t then b else a)
      by_test true h = inr (below_tested a.stamp b.stamp h)
      by_test false h = inl refl

  greatest_rises : (own : Stamped V) (answers : List (Stamped V)) → RisesTo own (greatest own answers)
  greatest_rises own [] = inl refl
  greatest_rises own (x ∷ xs) =
      rises_on own (greater own x) (greatest (greater own x) xs) (greater_rises own x) (greatest_rises (greater own x) xs)

  -- what a call chooses is what it saw or above that, and above that if it is a write
  chosen_rises : (limit who : ℕ) (kind : Kind) (seen chosen : Stamped V) →
      ChoosesByKind limit (record { place = 0; who = who; kind = kind; stamp = chosen.stamp; item = chosen.item })
      kind seen.stamp seen.item →
      RisesTo seen chosen × (kind ≡ WriteKind → IsBelow seen.stamp chosen.stamp)
  chosen_rises limit who WriteKind seen chosen h =
      let next : IsBelow seen.stamp chosen.stamp = subst (λ z. IsBelow seen.stamp z) (sym h.1) (inl (omega arith)) in
      (inr next, λ w. next)
  chosen_rises limit who ReadKind seen chosen h =
      (inl (same_record seen chosen (sym h.0) (sym h.1)), λ w. absurd (read_is_no_write w))
  chosen_rises limit who Refused seen chosen h =
      (inl (same_record seen chosen (sym h.1) (sym h.2)), λ w. absurd (refused_is_no_write w))

  module _ (width n limit : ℕ) (first : Stamped V) (i : ℕ) (did : Did V) (is : IsProcessSoFar width n limit first i did) where
    abbrev own : ℕ → Stamped V
    own k = own_before first did.calls k

    call_rises : (k : ℕ) (c : Called V) → slice_get did.calls k ≡ Some c →
        RisesTo (own k) c.chosen × (c.kind ≡ WriteKind → IsBelow (own k).stamp c.chosen.stamp)
    call_rises k c at =
        let sees = is.sees k c at in
        let up : RisesTo (own k) c.seen = subst (RisesTo (own k)) (sym sees.greatest) (greatest_rises (own k) sees.answers) in
        let on = chosen_rises limit i c.kind c.seen c.chosen (is.chooses k 0 c at) in
        (rises_on (own k) c.seen c.chosen up on.0, λ w. rises_below (own k) c.seen c.chosen up (on.1 w))

    own_rises : (j more : ℕ) → j + more ≤ length did.calls → RisesTo (own j) (own (j + more))
    own_rises j zero l = inl (ap own (omega arith))
    own_rises j (suc more) l =
        let c = get_exists did.calls (j + more) (omega arith) in
        let next : own (j + suc more) ≡ c.0.chosen =
        ap own (let e : j + suc more ≡ suc (j + more) = omega arith in e) ∙ own_next first did.calls (j + more) c.0 c.1 in
        subst (RisesTo (own j)) (sym next)
        (rises_on (own j) (own (j + more)) c.0.chosen (own_rises j more (omega arith)) (call_rises (j + more) c.0 c.1).0)

    -- a later call of the process chose the same record or one above it, and one above it if it is a write
    pub later_rises : (j k : ℕ) (a b : Called V) → j < k → slice_get did.calls j ≡ Some a → slice_get did.calls k ≡ Some b →
        RisesTo a.chosen b.chosen × (b.kind ≡ WriteKind → IsBelow a.chosen.stamp b.chosen.stamp)
    later_rises j k a b l at_a at_b =
        let within = slice_get_within did.calls k b at_b in
        let from : own (suc j) ≡ a.chosen = own_next first did.calls j a at_a in
        let until : suc j + (k - suc j) ≡ k = omega arith in
        let up : RisesTo a.chosen (own k) = subst (λ (z : Stamped V × Stamped V). RisesTo z.0 z.1) (λ m. (from m, own (until m)))
        (own_rises (suc j) (k - suc j) (omega arith)) in
        let on = call_rises k b at_b in
        (rises_on a.chosen (own k) b.chosen up on.0, λ w. rises_below a.chosen (own k) b.chosen up (on.1 w))

  -- of one stamp a process has one write
  one_write : (width n limit : ℕ) (first : Stamped V) (i : ℕ) (did : Did V) → IsProcessSoFar width n limit first i did → (k m : ℕ)
      (a b : Called V) → slice_get did.calls k ≡ Some a → slice_get did.calls m ≡ Some b → a.kind ≡ WriteKind → b.kind ≡ WriteKind →
      a.chosen.stamp ≡ b.chosen.stamp → a.chosen ≡ b.chosen
  one_write width n limit first i did is k m a b at_a at_b write_a write_b same = elim (cases_order k m) [
    | inl e ↦ ap (λ (z : Called V). z.chosen) (same_Some a b (sym at_a ∙ ap (slice_get did.calls) e ∙ at_b))
    | inr (inl below) ↦
        absurd (below_itself b.chosen.stamp (subst (λ z. IsBelow z b.chosen.stamp) same
        ((later_rises width n limit first i did is k m a b below at_a at_b).1 write_b)))
    | inr (inr above) ↦
        absurd (below_itself a.chosen.stamp (subst (λ z. IsBelow z a.chosen.stamp) (sym same)
        ((later_rises width n limit first i did is m k b a above at_b at_a).1 write_a)))
  ]

  module _ (width n limit : ℕ) (opening : V) (steps : List ℕ) (did : ℕ → Did V)
      (run : IsBoardRunSoFar width n limit (first_record opening) steps did) where
    -- no write has the opening's stamp
    no_first : (i k : ℕ) (a : Called V) → i < n → slice_get (did i).calls k ≡ Some a → a.kind ≡ WriteKind →
        a.chosen.stamp.tag ≡ 0 → ⊥
    no_first i k a li at write none =
        let h = subst (λ z. ChoosesByKind limit (record { place = 0; who = i; kind = a.kind; stamp = a.chosen.stamp; item = a.chosen.item })
        z a.seen.stamp a.seen.item) write ((run.each i li).chooses k 0 a at) in
        let next : a.chosen.stamp.tag ≡ a.seen.stamp.tag + 1 = ap (λ (z : Stamp). z.tag) h.1 in omega (arith, none, next)

    writer_of : (i k : ℕ) (a : Called V) → i < n → slice_get (did i).calls k ≡ Some a → a.kind ≡ WriteKind → a.chosen.stamp.writer ≡ i
    writer_of i k a li at write = chosen_writer limit i a write ((run.each i li).chooses k 0 a at)

    -- a call that has ended chose the record of a write if it chose its stamp
    one_record : (i k j m end : ℕ) (a b : Called V) → i < n → j < n → slice_get (did i).calls k ≡ Some a →
        slice_get (did j).calls m ≡ Some b → a.kind ≡ WriteKind → end_of width n (did j) m b ≡ Some end →
        a.chosen.stamp ≡ b.chosen.stamp → a.chosen ≡ b.chosen
    one_record i k j m end a b li lj at_a at_b write ended same =
        elim (written_so_far width n limit opening steps did run j m end b lj at_b ended) [
          | inl first ↦
              absurd (no_first i k a li at_a write (ap (λ (z : Stamp). z.tag) same ∙ ap (λ (z : Stamped V). z.stamp.tag) first))
          | inr from ↦
              let w : Called V = from.2 in
              let stamp : a.chosen.stamp ≡ w.chosen.stamp = same ∙ ap (λ (z : Stamped V). z.stamp) from.6 in
              let who : from.0 ≡ i = sym (writer_of from.0 from.1 w from.3 from.4 from.5)
              ∙ ap (λ (z : Stamp). z.writer) (sym stamp) ∙ writer_of i k a li at_a write in
              one_write width n limit (first_record opening) i (did i) (run.each i li) k from.1 a w at_a
              (ap (λ z. slice_get (did z).calls from.1) (sym who) ∙ from.4) write from.5 stamp ∙ sym from.6
        ]

    ended_rises : (i k j m end fin : ℕ) (a b : Called V) → i < n → j < n → slice_get (did i).calls k ≡ Some a →
        slice_get (did j).calls m ≡ Some b → a.kind ≡ WriteKind → end_of width n (did i) k a ≡ Some end → end < b.begin →
        end_of width n (did j) m b ≡ Some fin → RisesTo a.chosen b.chosen
    ended_rises i k j m end fin a b li lj at_a at_b write ended later finished =
        elim (ended_rise_so_far width n limit opening steps did (atomic_run width n limit opening steps did run) i k j m end fin a b li lj
        at_a at_b ended later finished) [
          | inl same ↦ inl (one_record i k j m fin a b li lj at_a at_b write finished same)
          | inr below ↦ inr below
        ]

  -- a record to which that of a write rises isn't stale after it
  not_stale : (stamp : Stamp) (item : V) (seen : Posted V) → RisesTo (record { stamp = stamp; item = item }) (stamped seen) →
      IsStaleAfter stamp item seen → ⊥
  not_stale stamp item seen (inl e) (inl below) =
      let same : stamp ≡ seen.stamp = ap (λ (z : Stamped V). z.stamp) e in
      below_itself stamp (subst (λ z. IsBelow z stamp) (sym same) below)
  not_stale stamp item seen (inl e) (inr other) = other.1 (sym (ap (λ (z : Stamped V). z.item) e))
  not_stale stamp item seen (inr above) (inl below) = below_itself stamp (below_trans stamp seen.stamp stamp above below)
  not_stale stamp item seen (inr above) (inr other) = below_itself stamp (subst (IsBelow stamp) other.0 above)

  chosen_rise : (a b : Called V) (stamp : Stamp) (item : V) (seen : Posted V) → a.chosen ≡ record { stamp = stamp; item = item } →
      b.chosen ≡ stamped seen → RisesTo a.chosen b.chosen → IsStaleAfter stamp item seen → ⊥
  chosen_rise a b stamp item seen chose_a chose_b rises =
      not_stale stamp item seen (subst (λ (z : Stamped V × Stamped V). RisesTo z.0 z.1) (λ m. (chose_a m, chose_b m)) rises)

module _ {V F S T : Type 0} (words : FamilyWords F (Posted V) S T) where
  pub stale_entries : StaleEntriesAreAbsurd words
  stale_entries board lanes x j k lane stamp item seen h at inside later wrote read =
      let i : ℕ = lane.pass.process in
      let told : EachTells lane.log.items (h.calls i) = h.told x lane at in
      let a = call_at lane.log.items (h.calls i) j (entry (Write item) (Written stamp)) told wrote in
      let b = call_at lane.log.items (h.calls i) k (entry Read (Seen seen)) told read in
      let calls : (h.run.did i).calls ≡ h.calls i = ap (λ (d : Did V). d.calls) (h.run.own x lane.pass
      (slice_get-map (λ (z : Lane V F S T). z.pass) lanes x ∙ ap (option_map (λ (z : Lane V F S T). z.pass)) at)) in
      chosen_rise a.0 b.0 stamp item seen a.2.1 b.2.1
      (later_rises words.width board.processes board.limit (first_record board.first.item) i (h.run.did i)
      (h.run.atomic.run.each i inside) j k a.0 b.0 later (ap (λ cs. slice_get cs j) calls ∙ a.1)
      (ap (λ cs. slice_get cs k) calls ∙ b.1)).0

module _ {V : Type 0} where
  -- a log that has an entry isn't an empty one
  tells_of : (opening : V) (lost : List Bool) (logs : List (List (Entry V))) (h : AreOfRunBeside opening lost logs) (t j : ℕ)
      (log : List (Entry V)) (e : Entry V) → slice_get logs t ≡ Some log → slice_get log j ≡ Some e →
      EachTells log (h.did t).calls × AllHaveEnded h.width (length logs) (h.did t)
  tells_of opening lost logs h t j log e at there = elim (h.each t log at) [
    | inl tells ↦ tells
    | inr gone ↦ absurd (none-some e (ap (λ z. slice_get z j) (sym gone.1) ∙ there))
  ]

  pub stale_beside : StaleBesideIsAbsurd V
  stale_beside opening lost logs i j k m end log other a b stamp item seen h at_i at_j wrote read at_a at_b ended later =
      let tells = tells_of opening lost logs h i k log (entry (Write item) (Written stamp)) at_i wrote in
      let told = tells_of opening lost logs h j m other (entry Read (Seen seen)) at_j read in
      let c = call_at log (h.did i).calls k (entry (Write item) (Written stamp)) tells.0 wrote in
      let d = call_at other (h.did j).calls m (entry Read (Seen seen)) told.0 read in
      let is_a : c.0 ≡ a = same_Some c.0 a (sym c.1 ∙ at_a) in
      let is_b : d.0 ≡ b = same_Some d.0 b (sym d.1 ∙ at_b) in
      let fin = told.1 m b at_b in
      chosen_rise a b stamp item seen (ap (λ (z : Called V). z.chosen) (sym is_a) ∙ c.2.1)
      (ap (λ (z : Called V). z.chosen) (sym is_b) ∙ d.2.1)
      (ended_rises h.width (length logs) h.limit opening h.steps h.did h.run i k j m end fin.0 a b (slice_get_within logs i log at_i)
      (slice_get_within logs j other at_j) at_a at_b (ap (λ (z : Called V). z.kind) (sym is_a) ∙ c.2.0) ended later fin.1)
