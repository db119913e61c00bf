-- One other record is pushed behind those that are asked for.
use Rattle.std.proofs.Common.{◌≡◌, ℕ, false, List, sym, subst}
use Rattle.object_sweep.specs.Reached.{is_in}
use Rattle.object_window.specs.inner.Openings.{StandForAll}
use Rattle.object_window.proofs.Openings.{all_stand}
use Rattle.object_window.proofs.loss.openings_of.Goals as goal

pub returns : goal.returns
returns c =
    let P : List ℕ → Type 0 = λ z. is_in c.other_than-other.result z ≡ false in
    let Q : List ℕ → Type 0 = λ z. StandForAll c.args.log.now z in
    subst Q (sym c.in_ok-push.ensures.items) (all_stand c.args.log.now c.in_ok-openings.openings.items c.other_than-other.result
    c.in_ok-openings.ensures (subst P c.as_slice.ensures.value c.other_than-other.ensures))
