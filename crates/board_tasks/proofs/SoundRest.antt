-- Of logs that are sound those that are left, where some are lost, are sound beside these.
use Rattle.std.proofs.Common.{◌≡◌, Bool, ℕ, true, ◌&&◌, ◌||◌, List, [], slice_get, Some, sym, ◌∙◌, ap, inl, inr}
use Rattle.std.proofs.lemmas.Option.{none-some, same_Some}
use Rattle.matrix_core.specs.Stamps.{first_stamp}
use Rattle.board_live.specs.declared.record.Posted.{Posted}
use Rattle.board_tasks.specs.declared.lane.Entry.{Entry}
use Rattle.board_tasks.specs.declared.lane.Reply.{Reply}
use Rattle.board_tasks.specs.declared.lane.Reply.TheVariants.{Written, Seen, Ended}
use Rattle.board_tasks.specs.declared.origin.Origin.TheVariants.{Broken}
use Rattle.board_tasks.specs.Lost.{AreWithoutLost, is_lost, IsOriginBesideLost, may_be_known, may_have_origin, sees_what_may_be_known}
use Rattle.board_tasks.specs.Origins.{AllKeep, has_origin, has_write, in_order, is_known, same_stamp, sees_known}
use Rattle.board_tasks.proofs.SoundOrders.{breaks_none, first_true, second_true}

module _ {V : Type 0} (equal : V → V → Bool) (opening : V) (lost : List Bool) (whole logs : List (List (Entry V)))
    (rest : AreWithoutLost lost whole logs) where
  no_entry : (log : List (Entry V)) (j : ℕ) (e : Entry V) → [] ≡ log → slice_get log j ≡ Some e → ⊥
  no_entry log j e empty at = none-some e (ap (λ z. slice_get z j) empty ∙ at)

  -- an entry of a log that is left is one of all logs
  was_there : (t j : ℕ) (log : List (Entry V)) (e : Entry V) → slice_get logs t ≡ Some log → slice_get log j ≡ Some e →
      slice_get whole t ≡ Some log
  was_there t j log e at in_log = elim (rest t) [
    | inl same ↦ sym same ∙ at
    | inr gone ↦ absurd (no_entry log j e (same_Some [] log (sym gone.1 ∙ at)) in_log)
  ]

  still_known : (p : Posted V) → is_known equal opening whole p ≡ true → may_be_known equal opening lost logs p ≡ true
  still_known p known = elim (rest p.stamp.writer) [
    | inl same ↦
        second_true (is_lost lost p.stamp.writer) (is_known equal opening logs p)
        (ap (λ o. (same_stamp p.stamp first_stamp && equal p.item opening) || has_write equal p o) same ∙ known)
    | inr gone ↦ first_true (is_lost lost p.stamp.writer) (is_known equal opening logs p) gone.0
  ]

  still_seen : (reply : Reply V) → sees_known equal opening whole reply ≡ true →
      sees_what_may_be_known equal opening lost logs reply ≡ true
  still_seen (Written s) known = known
  still_seen (Seen p) known = still_known p known
  still_seen (Ended p) known = still_known p known

  pub rest_unbroken : AllKeep in_order whole → AllKeep (has_origin equal opening whole) whole →
      (task call : ℕ) → IsOriginBesideLost equal opening lost logs (Broken task call) → ⊥
  rest_unbroken ordered known task call broken = elim broken.either [
    | inl first ↦ breaks_none in_order logs
        (λ t j log e at in_log. ordered t j log e (was_there t j log e at in_log) in_log) task call first
    | inr (_, first) ↦ breaks_none
        (may_have_origin equal opening lost logs) logs
        (λ t j log e at in_log. still_seen e.reply (known t j log e (was_there t j log e at in_log) in_log)) task call first
  ]
