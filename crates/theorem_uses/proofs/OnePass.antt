-- The calls of one pass among all calls so far.
use Rattle.std.proofs.Common.{◌≡◌, ◌<◌, List, [], ◌∷◌, ◌++◌, length, slice_get, Some, refl, sym, ◌∙◌, ap, subst, ◌⊎◌, arith}
use Rattle.std.proofs.Common.{inl, inr}
use Rattle.history_core.proofs.Places.{get_last}
use Rattle.history_core.specs.declared.history.Kind.TheVariants.{Write}
use Rattle.cell_contract.specs.declared.family.Family.{Ghosts as FamilyWords}
use Rattle.matrix_core.specs.declared.stamp.Stamp.{Stamp}
use Rattle.matrix_core.specs.Choices.{IsAtMost}
use Rattle.matrix_core.specs.Stamps.{IsBelow}
use Rattle.board_history.specs.BoardRuns.{Called, Did}
use Rattle.board_history.specs.BoardRuns.{end_of}
use Rattle.board_live.specs.declared.board.Board.{Board}
use Rattle.board_live.specs.declared.board.Pass.{Pass}
use Rattle.board_live.specs.declared.record.Posted.{Posted}
use Rattle.board_live.specs.Passes.{did_of, HasMade}
use Rattle.board_live.specs.Records.{stamped}
use Rattle.board_live.specs.SoFar.{HaveAtomicOrderSoFar}
use Rattle.theorem_uses.specs.OnePass.{OnePassShows, StaleCallsAreAbsurd, StandsOnce}
use Rattle.theorem_uses.specs.SoFar.{StandsSoOften}
use Rattle.theorem_uses.proofs.SoFar.{calls_stand_so_far, ended_rise_so_far}

never_below : (s t : Stamp) → IsAtMost s t → IsBelow t s → ⊥
never_below s t (inl e) (inl l) = let tag : s.tag ≡ t.tag = ap (λ (z : Stamp). z.tag) e in omega arith
never_below s t (inl e) (inr l) =
    let writer : s.writer ≡ t.writer = ap (λ (z : Stamp). z.writer) e in let w : t.writer < s.writer = l.1 in omega arith
never_below s t (inr (inl k)) (inl l) = omega arith
never_below s t (inr (inl k)) (inr l) = let same : t.tag ≡ s.tag = l.0 in omega arith
never_below s t (inr (inr k)) (inl l) = let same : s.tag ≡ t.tag = k.0 in omega arith
never_below s t (inr (inr k)) (inr l) = let a : s.writer < t.writer = k.1 in let b : t.writer < s.writer = l.1 in omega arith

module _ {V F S T : Type 0} (words : FamilyWords F (Posted V) S T) where
  pub one_pass_shows : OnePassShows words
  one_pass_shows board pass calls shows made =
      let h = shows calls made in (
        h.steps,
        h.did,
        h.atomic,
        ap (λ (d : Did V). d.calls) h.own,
        ap (λ (d : Did V). d.times) h.own,
        λ j. ap (λ (d : Did V). d.writes j) h.own,
        λ j. ap (λ (d : Did V). (d.reads j).items) h.own,
        λ j. ap (λ (d : Did V). (d.reads j).numbers) h.own,
        λ j. ap (λ (d : Did V). (d.reads j).begins) h.own,
        λ j. ap (λ (d : Did V). (d.reads j).ends) h.own,
      )

  -- the last of the calls, a write
  pub last_stands : (board : Board V F S T) (pass new : Pass V F S T) (calls : List (Called V)) (call : Called V) (stamp : Stamp)
      (item : V) →
      HaveAtomicOrderSoFar words board pass → HasMade words board pass (calls ++ call ∷ []) → pass.process < board.processes →
      call.kind ≡ Write → call.chosen ≡ stamped (record { stamp = stamp; item = item }) → new.process ≡ pass.process →
      StandsOnce words board new stamp item
  last_stands board pass new calls call stamp item shows made inside kind chosen same =
      let h = shows (calls ++ call ∷ []) made in
      let at : slice_get (h.did pass.process).calls (length calls) ≡ Some call =
      ap (λ (d : Did V). slice_get d.calls (length calls)) h.own ∙ get_last calls call (length calls) refl in
      let x = calls_stand_so_far words.width board.processes board.limit board.first.item h.steps h.did pass.process (length calls) call
      h.atomic inside at in
      record {
        steps = h.steps;
        did = h.did;
        run = h.atomic;
        op = x.0;
        who = x.1 ∙ sym same;
        kind = x.2 ∙ kind;
        item = x.3 ∙ ap (λ c. Some c.item) chosen;
        stands = subst (λ s. StandsSoOften h.atomic.ops h.atomic.stamps h.atomic.order x.0 (Some s) 1) (ap (λ c. c.stamp) chosen)
            (x.6 kind);
      }

  pub stale_calls : StaleCallsAreAbsurd words
  stale_calls board pass calls j m k end a b h made inside at_b lj at_a ended later below =
      let own : h.did pass.process ≡ did_of words pass.seat calls = h.own in
      let finished : end_of words.width board.processes (h.did pass.process) k b ≡ Some b.end =
      ap (λ (d : Did V). end_of words.width board.processes d k b) own ∙ made.made.ended k b at_b in
      never_below a.chosen.stamp b.chosen.stamp
      (ended_rise_so_far words.width board.processes board.limit board.first.item h.steps h.did h.atomic j m pass.process k end b.end a b lj
      inside at_a (ap (λ (d : Did V). slice_get d.calls k) own ∙ at_b) ended later finished) below
