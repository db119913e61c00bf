-- Why a side is lacking, by the status.
use Rattle.std.proofs.Common.{◌≡◌, ◌≢◌, ℕ, ◌≤◌, refl, arith}
use Rattle.c_registers.specs.Handles.{LacksSide}
use Rattle.c_registers.specs.Handles as handles
use Rattle.theorem_uses.specs.Reads.{LacksShow}

module _ {live : ℕ} where
  pub lacks_ended : (n : ℕ) → n ≡ 3 → LacksSide live n → live ≡ 0
  lacks_ended n e (handles.ended a) = a
  lacks_ended n e (handles.other a b) = absurd (omega (arith, e))
  lacks_ended n e (handles.cut_off a) = absurd (omega (arith, e))

  pub lacks_other : (n : ℕ) → n ≡ 5 → LacksSide live n → (live ≢ 0) × (live ≢ 255)
  lacks_other n e (handles.ended a) = absurd (omega (arith, e))
  lacks_other n e (handles.other a b) = (a, b)
  lacks_other n e (handles.cut_off a) = absurd (omega (arith, e))

  pub lacks_cut_off : (n : ℕ) → n ≡ 12 → LacksSide live n → live ≡ 255
  lacks_cut_off n e (handles.ended a) = absurd (omega (arith, e))
  lacks_cut_off n e (handles.other a b) = absurd (omega (arith, e))
  lacks_cut_off n e (handles.cut_off a) = a

  pub lacks_by_three : (n : ℕ) → LacksSide live n → 3 ≤ n
  lacks_by_three n (handles.ended a) = omega arith
  lacks_by_three n (handles.other a b) = omega arith
  lacks_by_three n (handles.cut_off a) = omega arith

  pub lacks_not_by_four : (n : ℕ) → LacksSide live n → n ≢ 4
  lacks_not_by_four n (handles.ended a) e = omega (arith, e)
  lacks_not_by_four n (handles.other a b) e = omega (arith, e)
  lacks_not_by_four n (handles.cut_off a) e = omega (arith, e)

pub lacks : LacksShow
lacks live = (lacks_ended 3 refl, lacks_other 5 refl, lacks_cut_off 12 refl)
