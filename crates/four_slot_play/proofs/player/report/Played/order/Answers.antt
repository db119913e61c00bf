-- The woven places are those of the parts.
use Rattle.std.proofs.Common.{◌≡◌, ℕ, List, arith, length, subst, ◌∙◌}
use Rattle.std.proofs.lemmas.Result.{IfOk-weaker}
use Rattle.four_slot_core.specs.declared.schedule.Turn.TheVariants.{Writer, Reader}
use Rattle.four_slot_play.specs.declared.player.run.Numbered.{Numbered}
use Rattle.four_slot_play.specs.declared.player.steps.Started.{Started}
use Rattle.four_slot_play.specs.inner.Weaves.{HasFirst, IsPlacesOf, IsWeave, IsOrdered}
use Rattle.four_slot_play.proofs.player.order.Weaving.{weave_ordered}
use Rattle.four_slot_play.proofs.player.order.Placing.{places_full}
use Rattle.four_slot_play.proofs.player.report.Played.order.Goals as goal

-- what the slices have is what the lists have
ordered_along : {R : Type 0} (parts : List Started) (count : ℕ) (writes w reads r : List ℕ)
    (answers a : List (Numbered R)) (order : List ℕ) →
    w ≡ writes → r ≡ reads → a ≡ answers → HasFirst Writer count parts → HasFirst Reader (length answers) parts →
    IsPlacesOf Writer count parts writes → IsPlacesOf Reader (length answers) parts reads → IsWeave w r a (length w) (length r) order →
    IsOrdered parts count answers order
ordered_along {R} parts count writes w reads r answers a order ew er ea has_writes has_reads ws rs h =
    let P : List ℕ → List ℕ → List (Numbered R) → Type 0 = λ x y z. IsWeave x y z (length x) (length y) order in
    weave_ordered answers parts writes reads order count (places_full Writer count parts writes has_writes ws)
    (places_full Reader (length answers) parts reads has_reads rs) ws rs
    (subst (λ x. P x reads answers) ew (subst (λ y. P w y answers) er (subst (λ z. P w r z) ea h)))

pub returns : goal.returns
returns g c =
    let s = c.args.self.now in
    let stores : s.all.stores.len ≡ length s.all.stores.items = omega (arith, s.all.stores.ok.0) in
    let answers : s.run.answers.len ≡ length s.run.answers.items = omega (arith, s.run.answers.ok.0) in
    IfOk-weaker c.weave.result _ _
    (λ o h. ordered_along {R = g.row.R.Denot} c.args.parts.now (length s.all.stores.items) c.in_ok-writes.writes.items c.deref.result.now
    c.in_ok-reads.reads.items c.deref-2.result.now s.run.answers.items c.deref-3.result.now o.items c.deref.ensures.value
    c.deref-2.ensures.value c.deref-3.ensures.value c.requires.writes c.requires.reads
    (subst (λ n. IsPlacesOf Writer n c.args.parts.now c.in_ok-writes.writes.items) (c.len.ensures ∙ stores) c.in_ok-writes.ensures)
    (subst (λ n. IsPlacesOf Reader n c.args.parts.now c.in_ok-reads.reads.items) (c.len-2.ensures ∙ answers) c.in_ok-reads.ensures)
    h)
    c.weave.ensures
