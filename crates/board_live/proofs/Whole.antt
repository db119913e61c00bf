-- All passes of a board that ends: their calls and the family's registers are a board's run.
use Rattle.std.proofs.Common.{◌≡◌, ◌≢◌, Bool, ℕ, ◌+◌, ◌<◌, List, ◌∷◌, length, map, slice_get, Some}
use Rattle.std.proofs.Common.{sym, ◌∙◌, ap, subst, arith}
use Rattle.std.specs.Option.{option_map}
use Rattle.std.proofs.lemmas.List.{length-map}
use Rattle.std.proofs.lemmas.Option.{same_Some, slice_get-map, slice_get_within}
use Rattle.history_core.specs.Registers.{Intervals, IsRegular}
use Rattle.history_core.specs.Schedules.{positions}
use Rattle.cell_contract.specs.declared.family.Family.{Ghosts as FamilyWords}
use Rattle.cell_contract.specs.Accesses.{ReadAccesses, WriteAccesses}
use Rattle.cell_contract.specs.declared.said.Found.{Found}
use Rattle.cell_contract.specs.Ends.{Each, EachTwo, FindWhatWasSaid, IsAtomicCell, IsSchedule, WasSaid}
use Rattle.matrix_core.specs.declared.stamp.Stamped.{Stamped}
use Rattle.matrix_core.specs.Choices.{IsAtMost}
use Rattle.matrix_core.specs.Lines.{first_record}
use Rattle.matrix_core.proofs.lists.Elements.{get_exists}
use Rattle.board_history.specs.BoardRuns.{IsBoardRun, IsProcess, IsRegister, own_before}
use Rattle.board_history.specs.Histories.{IsGreatestOwn, own_after}
use Rattle.board_history.proofs.Last.{history_last}
use Rattle.board_history.proofs.Whole.{all_there, history_atomic, history_lawful}
use Rattle.board_live.specs.declared.board.Board.{Board}
use Rattle.board_live.specs.declared.board.Pass.{Pass}
use Rattle.board_live.specs.declared.record.Posted.{Posted}
use Rattle.board_live.specs.Ends.{AllAtomic, AllPasses, did_at, did_by, HaveAtomicOrder, IsGreatest}
use Rattle.board_live.specs.inner.Room.{HaveRoom}
use Rattle.board_live.specs.Passes.{answered_of, did_of, IsPass, written_of}
use Rattle.board_live.specs.Plans.{KeepsItsWord}
use Rattle.board_live.specs.Records.{stamped}
use Rattle.board_live.proofs.Words.{IsTruthOf, told_then}

-- a register of records with their stamps, as a played board has it; and one of the family
pub stamped_register : {V : Type 0} (first : Posted V) (items : List (Posted V)) (writes : Intervals) (answers : List (Posted V))
    (numbers : List ℕ) (reads : Intervals) → IsRegular first items writes answers numbers reads →
    IsRegular (stamped first) (map stamped items) writes (map stamped answers) numbers reads
stamped_register first items writes answers numbers reads h = record {
  source = λ m number x a b. source m number x a b;
  read_of = h.read_of;
  numbered = h.numbered ∙ sym (length-map answers stamped);
}
  where
    source : (m number : ℕ) (x : Stamped _) → slice_get numbers m ≡ Some number → slice_get (map stamped answers) m ≡ Some x →
        slice_get (stamped first ∷ map stamped items) number ≡ Some x
    source m number x a b =
        let l : m < length answers = let z = slice_get_within numbers m number a in let y = h.numbered in omega arith in
        let p = get_exists answers m l in
        let same : Some (stamped p.0) ≡ Some x = ap (option_map stamped) (sym p.1) ∙ sym (slice_get-map stamped answers m) ∙ b in
        slice_get-map stamped (first ∷ items) number ∙ ap (option_map stamped) (h.source m number p.0 a p.1) ∙ same

register : {V : Type 0} (first : Posted V) (w : WriteAccesses (Posted V)) (r : ReadAccesses (Posted V)) → IsAtomicCell first w r →
    IsRegister (stamped first) (written_of w) (answered_of r)
register first w r h = stamped_register first w.items _ r.answers r.numbers _ h.atomic.regular

module _ {V F S T : Type 0} (words : FamilyWords F (Posted V) S T) (obeys : V → Bool) (board : Board V F S T)
    (passes : List (Pass V F S T)) (all : AllPasses words obeys board passes) where
  first_pass : (p : Pass V F S T) × IsPass words obeys board p
  first_pass = let x = get_exists passes 0 all.some in (x.0, (all.each 0 x.0 x.1).0)

  pub room_for_all : HaveRoom passes
  room_for_all k p there last =
      let x = all.each k p there in
      let n = all.all in
      (let r = x.0.room.0 (ap (λ m. m + 1) x.1 ∙ last ∙ n) in omega arith, x.0.room.1)

  module _ (seats : List S) (of : seats ≡ map (λ p. p.seat) passes) where
    -- the seat at a place is that of the pass there
    seat_at : (i : ℕ) (p : Pass V F S T) → slice_get passes i ≡ Some p → slice_get seats i ≡ Some p.seat
    seat_at i p e = ap (λ ss. slice_get ss i) of ∙ slice_get-map (λ (p : Pass V F S T). p.seat) passes i
        ∙ ap (option_map (λ (p : Pass V F S T). p.seat)) e

    pub all_seats : (length seats ≡ words.processes board.family)
        × Each (λ i s. words.is_seat board.family s × (words.who s ≡ i)) seats
    all_seats = (
      ap length of ∙ length-map passes (λ p. p.seat) ∙ all.all ∙ sym first_pass.1.processes,
      λ i s e.
          let l : i < length passes = let a = slice_get_within seats i s e in
          let b : length seats ≡ length passes = ap length of ∙ length-map passes (λ p. p.seat) in omega arith in
          let p = get_exists passes i l in
          let same : p.0.seat ≡ s = same_Some p.0.seat s (sym (seat_at i p.0 p.1) ∙ e) in
          let x = all.each i p.0 p.1 in
          subst (λ z. words.is_seat board.family z × (words.who z ≡ i)) same (x.0.seat, x.0.who ∙ x.1),
    )

    -- the registers between the passes
    pub all_registers : EachTwo (λ i j s t. IsAtomicCell (words.opening board.family) (words.writes s j) (words.reads t i)) seats →
        AllAtomic words board passes
    all_registers registers i j p q at_p at_q ne =
        subst (λ f. IsAtomicCell f (words.writes p.seat j) (words.reads q.seat i)) first_pass.1.opens
        (registers i j p.seat q.seat (seat_at i p at_p) (seat_at j q at_q) ne)

    pub all_atomic : (last : Posted V) → IsGreatest passes last →
        (steps : List ℕ) × IsSchedule (words.processes board.family) steps × Each (λ i s. words.times s ≡ positions 1 i steps) seats →
        EachTwo (λ i j s t. IsAtomicCell (words.opening board.family) (words.writes s j) (words.reads t i)) seats →
        FindWhatWasSaid words.said words.found seats → HaveAtomicOrder words board passes last
    all_atomic last greatest scheduled registers finds calls made =
        let there = all_there words.width board.processes board.limit board.first.item scheduled.0 (did_by words passes calls) run in
        record {
          ops = there.0;
          stamps = there.1;
          order = there.2;
          history = there.3;
          by_stamp = there.4;
          atomic = history_atomic words.width board.processes board.limit board.first.item scheduled.0
              (did_by words passes calls) run there.0
              there.1 there.3 there.2 there.4;
          lawful = history_lawful words.width board.processes board.limit board.first.item scheduled.0
              (did_by words passes calls) run there.0
              there.1 there.3 there.2 there.4;
          holds = history_last words.width board.processes board.limit board.first.item scheduled.0 (did_by words passes calls) run there.0
              there.1 there.3 there.2 (stamped last) there.4 own;
          greatest = own;
          steps = scheduled.0;
          run = run;
        }
      where
        first_is : stamped board.first ≡ first_record board.first.item
        first_is = ap (λ s. record { stamp = s; item = board.first.item }) first_pass.1.first

        pass_at : (i : ℕ) → i < board.processes → (p : Pass V F S T) × (slice_get passes i ≡ Some p)
        pass_at i l = get_exists passes i (let z = all.all in omega arith)

        did_is : (i : ℕ) (p : Pass V F S T) → slice_get passes i ≡ Some p → did_by words passes calls i ≡ did_of words p.seat (calls i)
        did_is i p e = ap (λ o. did_at words o (calls i)) e

        process_at : (i : ℕ) → i < board.processes →
            IsProcess words.width board.processes board.limit (first_record board.first.item) i (did_by words passes calls i)
        process_at i l =
            let p = pass_at i l in
            let x = all.each i p.0 p.1 in
            subst (λ d. IsProcess words.width board.processes board.limit (first_record board.first.item) i d) (sym (did_is i p.0 p.1))
            (subst (λ f. IsProcess words.width board.processes board.limit f i (did_of words p.0.seat (calls i))) first_is
            (subst (λ j. IsProcess words.width board.processes board.limit (stamped board.first) j (did_of words p.0.seat (calls i))) x.1
            (made i p.0 p.1).made))

        register_at : (i j : ℕ) → i < board.processes → j < board.processes → i ≢ j →
            IsRegister (first_record board.first.item) ((did_by words passes calls i).writes j) ((did_by words passes calls j).reads i)
        register_at i j li lj ne =
            let p = pass_at i li in
            let q = pass_at j lj in
            let cell : IsAtomicCell board.first (words.writes p.0.seat j) (words.reads q.0.seat i) =
            all_registers registers i j p.0 q.0 p.1 q.1 ne in
            subst (λ d. IsRegister (first_record board.first.item) (d.writes j) ((did_by words passes calls j).reads i))
            (sym (did_is i p.0 p.1))
            (subst (λ d. IsRegister (first_record board.first.item) (written_of (words.writes p.0.seat j)) (d.reads i))
            (sym (did_is j q.0 q.1))
            (subst (λ f. IsRegister f (written_of (words.writes p.0.seat j)) (answered_of (words.reads q.0.seat i))) first_is
            (register board.first (words.writes p.0.seat j) (words.reads q.0.seat i) cell)))

        word_at : (i : ℕ) (p : Pass V F S T) → slice_get passes i ≡ Some p →
            KeepsItsWord words.width board.processes i (did_by words passes calls i).times (did_by words passes calls i).calls
            (words.said p.seat) (words.found p.seat)
        word_at i p e =
            subst (λ d. KeepsItsWord words.width board.processes i d.times d.calls (words.said p.seat) (words.found p.seat))
            (sym (did_is i p e))
            (subst (λ z. KeepsItsWord words.width board.processes z (words.times p.seat) (calls i) (words.said p.seat)
            (words.found p.seat)) (all.each i p e).1 (made i p e).word)

        truth_at : (i x : ℕ) (f : Found) (p : Pass V F S T) → slice_get passes i ≡ Some p → slice_get (words.found p.seat) x ≡ Some f →
            IsTruthOf words.width board.processes (did_by words passes calls) f
        truth_at i x f p at e =
            let t = finds i x p.seat f (seat_at i p at) e in
            let lw : f.who < board.processes = let a = slice_get_within seats f.who t.0 t.1 in
            let b : length seats ≡ length passes = ap length of ∙ length-map passes (λ p. p.seat) in
            let c = all.all in omega arith in
            let q = pass_at f.who lw in
            let same : t.0 ≡ q.0.seat = same_Some t.0 q.0.seat (sym t.1 ∙ seat_at f.who q.0 q.1) in
            record {
              who = lw;
              said = words.said q.0.seat;
              found = words.found q.0.seat;
              word = word_at f.who q.0 q.1;
              was = subst (λ z. WasSaid (words.said z) f) same t.2;
            }

        run : IsBoardRun words.width board.processes board.limit (first_record board.first.item) scheduled.0 (did_by words passes calls)
        run = record {
          size = (first_pass.1.size.0, first_pass.1.size.1, first_pass.1.some);
          within = λ step who e. let l = scheduled.1 step who e in let z = first_pass.1.processes in omega arith;
          scheduled = λ i l.
              let p = pass_at i l in
              ap (λ d. d.times) (did_is i p.0 p.1) ∙ scheduled.2 i p.0.seat (seat_at i p.0 p.1);
          each = λ i l. process_at i l;
          finds = λ i k end c l.
              let p = pass_at i l in
              told_then words.width board.processes (did_by words passes calls) i k end c (words.said p.0.seat) (words.found p.0.seat)
              (word_at i p.0 p.1) (λ x f e. truth_at i x f p.0 p.1 e);
          registers = λ i j li lj ne. register_at i j li lj ne;
        }

        own_at : (i : ℕ) (p : Pass V F S T) → slice_get passes i ≡ Some p →
            stamped p.own ≡ own_after (first_record board.first.item) (did_by words passes calls i)
        own_at i p e = (made i p e).own ∙ ap (λ f. own_before f (calls i) (length (calls i))) first_is
            ∙ ap (own_after (first_record board.first.item)) (sym (did_is i p e))

        own : IsGreatestOwn board.processes (first_record board.first.item) (did_by words passes calls) (stamped last)
        own = record {
          process = greatest.process;
          inside = let l = slice_get_within passes greatest.process greatest.pass greatest.there in let z = all.all in omega arith;
          own = ap stamped greatest.own ∙ own_at greatest.process greatest.pass greatest.there;
          greatest = λ i l.
              let p = pass_at i l in
              subst (λ r. IsAtMost r.stamp last.stamp) (own_at i p.0 p.1) (greatest.greatest i p.0 p.1);
        }
