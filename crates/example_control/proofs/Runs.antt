-- Turns, one after the other: each further call stands at the end, and all are calls that were made with the pass.
use Rattle.std.proofs.Common.{◌≡◌, ◌≢◌, ℕ, ◌<◌, List, [], ◌∷◌, ◌++◌, length, length-append, arith, refl, subst, sym, ◌∙◌}
use Rattle.std.specs.Prelude.{All, Result, length}
use Rattle.std.proofs.lemmas.List.Elements.{All-head, All-tail}
use Rattle.history_core.specs.declared.history.Kind.TheVariants.{Read}
use Rattle.cell_contract.specs.declared.family.Family.{Ghosts as FamilyWords}
use Rattle.matrix_core.specs.declared.stamp.Stamp.{Stamp}
use Rattle.matrix_core.specs.Choices.{IsAtMost}
use Rattle.board_history.specs.BoardRuns.{Called}
use Rattle.board_live.specs.declared.board.Board.{Board}
use Rattle.board_live.specs.declared.board.Pass.{Pass}
use Rattle.board_live.specs.declared.board.Refused.{Refused}
use Rattle.board_live.specs.declared.receipts.Receipt.{Receipt}
use Rattle.board_live.specs.declared.record.Posted.{Posted}
use Rattle.board_live.specs.Passes.{ChoosesStamp, HasMade, IsCall, IsPass, kind_of}
use Rattle.board_live.specs.Receipts.{HasLearnt}
use Rattle.example_control.specs.declared.control.Control.{Control}
use Rattle.example_control.specs.Turns.{call_of, command_of, Drives, HasReadInTurn, HasTakenTurns, HasSteered, in_order, no_read, no_turn}
use Rattle.example_control.specs.Turns.{one_more, one_read, MakesRead}
use Rattle.example_control.specs.Turns.{TakesTurn, Turns, with_turn}

module _ {M : Type 0} (was_sent : M → ℕ → M → Type 0) where
  drives_on : (before : M) (calls : List (Called Control)) (after : M) (c : Called Control) (next : M) → Drives was_sent before calls after
      → c.kind ≡ Read → was_sent after (command_of c.chosen.item) next → Drives was_sent before (calls ++ c ∷ []) next
  drives_on before [] after c next h read sent =
      (next, read, subst (λ z. was_sent z (command_of c.chosen.item) next) h sent, refl)
  drives_on before (d ∷ ds) after c next h read sent = (h.0, h.1, h.2, drives_on h.0 ds after c next h.3 read sent)

some_after : {A : Type 0} (xs : List A) (x : A) → 0 < length (xs ++ x ∷ [])
some_after xs x = let e = length-append xs (x ∷ []) in omega arith

last_of : {A : Type 0} (P : A → Type 0) (xs : List A) (x : A) → All P (xs ++ x ∷ []) → P x
last_of P [] x h = All-head P x [] h
last_of P (y ∷ ys) x h = last_of P ys x (All-tail P y (ys ++ x ∷ []) h)

module _ {F S T : Type 0} (words : FamilyWords F (Posted Control) S T) (board : Board Control F S T) where
  -- a read gave this record, and a write put what was made of it
  pub turn : (make : Control → Control) (p q r : Pass Control F S T) (seen : Posted Control) (result : Result Stamp (Refused Control))
      → IsPass words in_order board q → IsCall words in_order board Read p q seen → q.own ≡ seen → IsPass words in_order board r
      → (chosen : Posted Control) × IsCall words in_order board (kind_of result) q r chosen
      × ChoosesStamp board.limit q.process (make seen.item) chosen r.own result
      → TakesTurn words board make p r result
  turn make p q r seen result of_q call gives of_r wrote = record {
    between = q;
    reads = record { of = of_q; call = subst (IsCall words in_order board Read p q) (sym gives) call };
    writes = record {
      of = of_r;
      seen = wrote.0;
      call = wrote.1;
      chooses = subst (λ (z : Posted Control). ChoosesStamp board.limit q.process (make z.item) wrote.0 r.own result) (sym gives) wrote.2;
    };
  }

  -- a receipt of another process was learnt before the read
  pub heeds : (p q r : Pass Control F S T) (receipt : Receipt Control F S T) → receipt.from < board.processes → receipt.from ≢ p.process
      → q.process ≡ p.process → HasLearnt words p q receipt → MakesRead words board q r → IsAtMost receipt.item.stamp r.own.stamp
  heeds p q r receipt inside other same learnt read =
      let told = (learnt.heard other).told in
      last_of (λ t. IsAtMost t.stamp r.own.stamp) (words.reads p.seat receipt.from).told receipt.item
      (subst (All (λ t. IsAtMost t.stamp r.own.stamp)) told (read.call.heeds receipt.from inside (λ e. other (e ∙ same))))

  module _ (Makes : (Control → Control) → Type 0) (old : Pass Control F S T) where
    pub has_run : (calls : List (Called Control)) (make : Control → Control) (p q : Pass Control F S T)
        (result : Result Stamp (Refused Control)) → Turns words board Makes old calls p → Makes make →
        TakesTurn words board make p q result
        → HasTakenTurns words board Makes old q
    has_run calls make p q result h makes t = record {
      calls = with_turn words board make p q result calls t;
      turns = one_more calls make p q result h makes t;
      some = some_after (calls ++ call_of words board Read p t.between t.between.own t.reads.call ∷ [])
          (call_of words board (kind_of result) t.between q t.writes.seen t.writes.call);
    }

    -- the pass of a task that took turns
    pub of_turns : (calls : List (Called Control)) (new : Pass Control F S T) → Turns words board Makes old calls new
        → IsPass words in_order board old → HasMade words board old []
        → IsPass words in_order board new × (new.process ≡ old.process) × HasMade words board new calls
    of_turns _ _ no_turn of fresh = (of, refl, fresh)
    of_turns _ _ (one_more calls make now new result h makes t) of fresh =
        let x = of_turns calls now h of fresh in (
          t.writes.of,
          t.writes.call.process ∙ t.reads.call.process ∙ x.1,
          t.writes.call.made (calls ++ call_of words board Read now t.between t.between.own t.reads.call ∷ [])
              (t.reads.call.made calls x.2),
        )

  -- the pass of a control loop
  pub of_reads : (old : Pass Control F S T) (calls : List (Called Control)) (new : Pass Control F S T) →
      HasReadInTurn words board old calls new
      → IsPass words in_order board old → HasMade words board old []
      → IsPass words in_order board new × (new.process ≡ old.process) × HasMade words board new calls
  of_reads old _ _ no_read of fresh = (of, refl, fresh)
  of_reads old _ _ (one_read calls now new h r) of fresh =
      let x = of_reads old calls now h of fresh in (r.of, r.call.process ∙ x.1, r.call.made calls x.2)

  -- one command more
  pub one_command : {M : Type 0} (was_sent : M → ℕ → M → Type 0) (old p q : Pass Control F S T) (before now next : M)
      (calls : List (Called Control)) → HasReadInTurn words board old calls p → Drives was_sent before calls now → MakesRead words board p q
      → was_sent now (command_of q.own.item) next → HasSteered words was_sent board old q before next
  one_command was_sent old p q before now next calls h drives r sent =
      let c = call_of words board Read p q q.own r.call in
      record {
        calls = calls ++ c ∷ [];
        reads = one_read calls p q h r;
        drives = drives_on was_sent before calls now c next drives refl sent;
        some = some_after calls c;
      }
