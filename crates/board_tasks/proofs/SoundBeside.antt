-- The logs of a board's run so far, with an empty one for each task that was lost, are sound beside what is lost: what a call saw is the
-- opening, or the record of a write of which a log tells, or it names a task whose log is lost.
use Rattle.std.proofs.Common.{◌≡◌, Bool, ℕ, ◌<◌, true, List, length, slice_get, Some, refl, sym, ◌∙◌, ap, subst, inl, inr}
use Rattle.std.proofs.lemmas.Option.{none-some, slice_get_within}
use Rattle.history_core.specs.declared.history.Kind.TheVariants.{Write as WriteKind}
use Rattle.history_core.specs.declared.wish.Wish.{Wish}
use Rattle.history_core.specs.declared.wish.Wish.TheVariants.{Write, Read}
use Rattle.matrix_core.specs.declared.stamp.Stamped.{Stamped}
use Rattle.matrix_core.specs.Choices.{IsAtMost}
use Rattle.matrix_core.specs.Lines.{first_record}
use Rattle.matrix_core.proofs.lists.Elements.{get_exists}
use Rattle.board_history.specs.BoardRuns.{Called, own_before, Sees}
use Rattle.board_history.specs.RunsSoFar.{IsProcessSoFar}
use Rattle.board_live.specs.declared.record.Posted.{Posted}
use Rattle.board_live.specs.Records.{stamped}
use Rattle.board_tasks.specs.declared.lane.Entry.{Entry}
use Rattle.board_tasks.specs.declared.lane.Reply.{Reply}
use Rattle.board_tasks.specs.declared.lane.Reply.TheVariants.{Written, Seen, Ended}
use Rattle.board_tasks.specs.declared.origin.Origin.TheVariants.{Broken}
use Rattle.board_tasks.specs.Logs.{is_at_most}
use Rattle.board_tasks.specs.Lost.{is_lost, IsOriginBesideLost, may_be_known, may_have_origin, sees_what_may_be_known}
use Rattle.board_tasks.specs.Origins.{AllKeep, in_order, is_known, stamp_before}
use Rattle.board_tasks.specs.Told.{AllHaveEnded, AreOfRunBeside}
use Rattle.board_tasks.specs.Worked.{EachTells, HasChosenBy}
use Rattle.board_tasks.proofs.Ordered.{call_at}
use Rattle.board_tasks.proofs.SoundOrders.{breaks_none, first_true, second_true}
use Rattle.board_tasks.proofs.SoundRuns.{at_most_is, before_is, chosen_writer, entry_known, first_known, greatest_first, reply_fits}
use Rattle.board_tasks.proofs.WrittenSoFar.{written_so_far}

module _ {V : Type 0} where
  -- what an entry saw is what its call chose
  seen_may_be_known : (equal : V → V → Bool) (opening : V) (lost : List Bool) (logs : List (List (Entry V))) (wish : Wish V)
      (reply : Reply V) (chosen : Stamped V) → HasChosenBy wish reply chosen →
      ((p : Posted V) → stamped p ≡ chosen → may_be_known equal opening lost logs p ≡ true) →
      sees_what_may_be_known equal opening lost logs reply ≡ true
  seen_may_be_known equal opening lost logs wish (Written s) chosen h known = refl
  seen_may_be_known equal opening lost logs (Write v) (Seen p) chosen h known = absurd h
  seen_may_be_known equal opening lost logs Read (Seen p) chosen h known = known p (sym h)
  seen_may_be_known equal opening lost logs (Write v) (Ended p) chosen h known = known p (sym h)
  seen_may_be_known equal opening lost logs Read (Ended p) chosen h known = absurd h

  module _ (opening : V) (lost : List Bool) (logs : List (List (Entry V))) (h : AreOfRunBeside opening lost logs) where
    process : (i : ℕ) → i < length logs → IsProcessSoFar h.width (length logs) h.limit (first_record opening) i (h.did i)
    process i l = h.run.each i l

    -- a log that has an entry isn't an empty one
    tells_of : (t j : ℕ) (log : List (Entry V)) (e : Entry V) → slice_get logs t ≡ Some log → slice_get log j ≡ Some e →
        EachTells log (h.did t).calls × AllHaveEnded h.width (length logs) (h.did t)
    tells_of t j log e at in_log = elim (h.each t log at) [
      | inl tells ↦ tells
      | inr gone ↦ absurd (none-some e (ap (λ z. slice_get z j) (sym gone.1) ∙ in_log))
    ]

    beside_in_order : AllKeep in_order logs
    beside_in_order t j log e at in_log =
        let l : t < length logs = slice_get_within logs t log at in
        let tells : EachTells log (h.did t).calls = (tells_of t j log e at in_log).0 in
        let w = call_at log (h.did t).calls j e tells in_log in
        let c : Called V = w.0 in
        let sees : Sees (length logs) (first_record opening) t (h.did t) j c.seen = (process t l).sees j c w.1 in
        let own : Stamped V = own_before (first_record opening) (h.did t).calls j in
        let up : IsAtMost own.stamp c.seen.stamp =
        subst (λ (z : Stamped V). IsAtMost own.stamp z.stamp) (sym sees.greatest) (greatest_first own sees.answers) in
        let before : stamp_before log j ≡ own.stamp = before_is (first_record opening) log (h.did t).calls j tells in
        reply_fits h.limit t (stamp_before log j) c.seen.stamp c.seen.item e.wish e.reply c.kind c.chosen
        (subst (λ s. is_at_most s c.seen.stamp ≡ true) (sym before) (at_most_is own.stamp c.seen.stamp up)) w.2.0 w.2.1
        ((process t l).chooses j 0 c w.1)

    module _ (equal : V → V → Bool) (itself : (x : V) → equal x x ≡ true) where
      known_of : (p : Posted V) → is_known equal opening logs p ≡ true → may_be_known equal opening lost logs p ≡ true
      known_of p = second_true (is_lost lost p.stamp.writer) (is_known equal opening logs p)

      -- the record of a write, which may be cut off: then its log is lost
      written_may_be_known : (p : Posted V) (j m : ℕ) (c : Called V) → j < length logs → slice_get (h.did j).calls m ≡ Some c →
          c.kind ≡ WriteKind → stamped p ≡ c.chosen → may_be_known equal opening lost logs p ≡ true
      written_may_be_known p j m c l made kind e =
          let log = get_exists logs j l in
          let mine : p.stamp.writer ≡ j =
          ap (λ (z : Stamped V). z.stamp.writer) e ∙ chosen_writer h.limit j c kind ((process j l).chooses m 0 c made) in
          elim (h.each j log.0 log.1) [
            | inl tells ↦ known_of p (entry_known equal itself opening logs p j m log.0 (h.did j).calls c log.1 tells.0 made kind mine e)
            | inr gone ↦ first_true (is_lost lost p.stamp.writer) (is_known equal opening logs p) (ap (is_lost lost) mine ∙ gone.0)
          ]

      beside_known : AllKeep (may_have_origin equal opening lost logs) logs
      beside_known t j log e at in_log =
          let l : t < length logs = slice_get_within logs t log at in
          let tells = tells_of t j log e at in_log in
          let w = call_at log (h.did t).calls j e tells.0 in_log in
          let c : Called V = w.0 in
          let end = tells.1 j c w.1 in
          seen_may_be_known equal opening lost logs e.wish e.reply c.chosen w.2.1 (λ p is.
          elim (written_so_far h.width (length logs) h.limit opening h.steps h.did h.run t j end.0 c l w.1 end.1) [
            | inl first ↦ known_of p (first_known equal itself opening logs p (is ∙ first))
            | inr from ↦ written_may_be_known p from.0 from.1 from.2 from.3 from.4 from.5 (is ∙ from.6)
          ])

  pub beside_unbroken : (equal : V → V → Bool) → ((x : V) → equal x x ≡ true) → (opening : V) (lost : List Bool)
      (logs : List (List (Entry V))) → AreOfRunBeside opening lost logs → (task call : ℕ) →
      IsOriginBesideLost equal opening lost logs (Broken task call) → ⊥
  beside_unbroken equal itself opening lost logs h task call broken = elim broken.either [
    | inl first ↦ breaks_none in_order logs (beside_in_order opening lost logs h) task call first
    | inr (_, first) ↦
        breaks_none (may_have_origin equal opening lost logs) logs (beside_known opening lost logs h equal itself) task call first
  ]
